-- The turns of a call, one after another.
use Rattle.std.proofs.Common.{◌≡◌, ℕ, ◌+◌, ◌<◌, Bool, true, Result, Ok, Err, IfOk, IfErr, ap, ◌∙◌, arith}
use Rattle.std.specs.Prelude.{OnErr}
use Rattle.cc_steps.specs.Walk.{Walk}
use Rattle.cc_drive.specs.Names.{Answer, Call, TakeAnswer, Point, Go, Turns, Left}
use Rattle.cc_drive.specs.Work.{WentOn, ReadOn, WasAnswered, AnsweredBetween, CameBack, Stopped, IsAskedInTake, CostsOfTake}
use Rattle.cc_queue.specs.Calls.{Begun, Completed, Waited, Answered}
use Rattle.cc_queue.specs.Work.{tally, reads}
use Rattle.cc_queue.proofs.Headline.{waits_on, ended_so, completed_so}

-- a turn that waits reads the state once more, and so does the one that is done
pub read_again : (p v w : Walk) (made before : ℕ) → made + tally reads p.did ≡ before + tally reads v.did → Waited v w → (made + 1) + tally reads p.did ≡ before + tally reads w.did
read_again p v w made before was e = let once : tally reads w.did ≡ 1 + tally reads v.did = ap (tally reads) e.did in omega (arith, was, once)

pub read_last : (p v w : Walk) (told : Answer) (served made before : ℕ) → made + tally reads p.did ≡ before + tally reads v.did → Answered v told served w → (made + 1) + tally reads p.did ≡ before + tally reads w.did
read_last p v w told served made before was e = let once : tally reads w.did ≡ 1 + tally reads v.did = e.reads in omega (arith, was, once)

-- one turn more
one_turn : (old now : Turns) → WentOn old now → now.made < now.limit → WentOn old (record { made = now.made + 1; limit = now.limit })
one_turn old now on less = record { limit = on.limit; more = omega (arith, on.more); within = omega (arith, less) }

pub read_on : (p v w : Walk) (old now : Turns) → ReadOn p old now v → now.made < now.limit → Waited v w → ReadOn p old (record { made = now.made + 1; limit = now.limit }) w
read_on p v w old now was less e = record {
  stands = waits_on p v w was.stands e;
  begun = ap (λ s. s.begun) e.still ∙ was.begun;
  reads = read_again p v w now.made old.made was.reads e;
  on = one_turn old now was.on less;
}

-- and the last one
pub was_answered : (p v w : Walk) (told : Answer) (served : ℕ) (old now : Turns) → ReadOn p old now v → now.made < now.limit → Answered v told served w → WasAnswered p told old (record { made = now.made + 1; limit = now.limit }) w
was_answered p v w told served old now was less e = let end = ended_so p v w told served was.stands e in record {
  read = record {
    stands = end.stands;
    begun = e.begun ∙ was.begun;
    reads = read_last p v w told served now.made old.made was.reads e;
    on = one_turn old now was.on less;
  };
  last = end.last;
  turned = let more = was.on.more in omega (arith, more);
}

-- a call that was begun and came back is completed
pub answer_of : (v p w : Walk) (call : Call) (told : Answer) (old new : Turns) → Begun v call p → WasAnswered p told old new w → Completed v call told w
answer_of v p w call told old new b a = completed_so v p w call told b (record { stands = a.read.stands; last = a.last })

-- at least one turn was made
pub turns_made : {G : Type 0} (tells : G → Point → Go → G → Type 0) (begun answered : Point) (goes_on : Bool) (v : Walk) (told : Answer) (old new : Turns) (w : Walk) (g h : G) → AnsweredBetween tells begun answered goes_on v told old new w g h → old.made < new.made
turns_made tells begun answered goes_on v told old new w g h a = let e = a.enters.more in let l = a.leaves.more in let t = a.answer.turned in omega (arith, e, l, t)

-- a take within the turns
pub take_completed : {G : Type 0} (tells : G → Point → Go → G → Type 0) (v p : Walk) (old new : Turns) (g h : G) (r : Result (Walk × TakeAnswer) (Left Walk Walk)) → Begun v Call.Take p
    → IfOk r (λ r. CameBack tells Point.TakeBegun Point.TakeAnswered p (Answer.Take r.1) old new r.0 g h) → IfOk r (λ r. Completed v Call.Take (Answer.Take r.1) r.0)
take_completed tells v p old new g h (Ok r) b back = answer_of v p r.0 Call.Take (Answer.Take r.1) _ _ b back.answer
take_completed tells v p old new g h (Err left) b back = tt

pub take_asked : {G : Type 0} (tells : G → Point → Go → G → Type 0) (v p : Walk) (old new : Turns) (g h : G) (r : Result (Walk × TakeAnswer) (Left Walk Walk)) → Begun v Call.Take p
    → IfOk r (λ r. CameBack tells Point.TakeBegun Point.TakeAnswered p (Answer.Take r.1) old new r.0 g h) → IfErr r (Stopped tells (λ q. q) (λ s. s) Point.TakeBegun Point.TakeAnswered p old new g h)
    → IsAskedInTake tells v old new g h r
take_asked tells v p old new g h (Ok r) b back stopped = (p, b, back)
take_asked tells v p old new g h (Err left) b back stopped = (p, b, stopped)

pub take_costs : {G : Type 0} (tells : G → Point → Go → G → Type 0) (p : Walk) (old new : Turns) (g h : G) (r : Result (Walk × TakeAnswer) (Left Walk Walk))
    → IfOk r (λ r. CameBack tells Point.TakeBegun Point.TakeAnswered p (Answer.Take r.1) old new r.0 g h) → OnErr r (new.made ≡ new.limit) → CostsOfTake old new r
take_costs tells p old new g h (Ok r) back limited = turns_made tells Point.TakeBegun Point.TakeAnswered true p (Answer.Take r.1) old new r.0 g h back
take_costs tells p old new g h (Err left) back limited = limited
