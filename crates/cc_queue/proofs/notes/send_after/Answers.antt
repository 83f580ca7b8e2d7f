use Rattle.std.specs.Prelude.{Result, Ok, Err}
use Rattle.std.specs.Result.{IfOk}
use Rattle.cc_queue.proofs.Heeded.{completed_after}
use Rattle.cc_queue.proofs.notes.send_after.Goals as goal

if_ok : {T E : Type 0} (r : Result T E) (P Q : T → Type 0) → ((x : T) → P x → Q x) → IfOk r P → IfOk r Q
if_ok (Ok x) P Q to h = to x h
if_ok (Err e) P Q to h = h

pub returns-clause-completed : goal.returns-clause-completed
returns-clause-completed g c = if_ok c.send.result _ _ (λ r h. completed_after c.args.note c.args.sender c.heed.new.self _ _ _ c.heed.ensures.met c.heed.ensures.heeded h) c.send.ensures.completed
