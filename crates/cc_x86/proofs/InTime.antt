-- A front of a run with store buffers leads to a front of the run of atomic steps.
use Rattle.std.proofs.Common.{◌≡◌, ℕ, Bool, true, refl, ap, sym, ◌∙◌, List, [], ◌∷◌, ◌++◌, append_assoc}
use Rattle.cc_x86.specs.Program.{Operation, Store, Program, Turn}
use Rattle.cc_x86.specs.Program as threads
use Rattle.cc_x86.specs.Sequential as atomic
use Rattle.cc_x86.specs.Buffered as buffers
use Rattle.cc_x86.specs.Buffered.{Plain, is_plain, arrived}
use Rattle.cc_x86.specs.Fenced.{turn_of, turns}
use Rattle.cc_x86.specs.Names.{Setting, Stand, Move}
use Rattle.cc_runs.specs.Linearizable.{RunsAreLinearizable}
use Rattle.cc_x86.specs.Threads.{Ask, passes_as_threads, opened, move_at, moves_of}
use Rattle.cc_x86.specs.OnX86.{in_order, RunsAreLinearizableOnX86}
use Rattle.cc_x86.proofs.Threads.{runs_are_those_of_atomic_steps}

turn_adds : {W : Type 0} (t : Turn) (does : Operation W) (flag : Bool) (earlier : List Turn) → (now : List Turn) × (turn_of t does flag earlier ≡ now ++ earlier)
turn_adds t (Store w v) true earlier = ([], refl)
turn_adds t _ _ earlier = (t ∷ [], refl)

turns_add : {W S : Type 0} (c : Program W S) (plain : Plain S) (s : threads.State W S) (later seen : List buffers.Move)
    → (now : List Turn) × (turns c plain s (later ++ seen) ≡ now ++ turns c plain s seen)
turns_add c plain s [] seen = ([], refl)
turns_add {W} {S} c plain s (buffers.Acts t plainly ∷ later) seen =
    let own : S = (arrived c plain s (later ++ seen)).own t.thread in
    let before = turns_add c plain s later seen in
    let one = turn_adds t (c.next t.thread own) (is_plain plain t.thread own plainly) (turns c plain s (later ++ seen)) in
    (one.0 ++ before.0, one.1 ∙ ap (λ (l : List Turn). one.0 ++ l) before.1 ∙ sym (append_assoc one.0 before.0 (turns c plain s seen)))
turns_add c plain s (buffers.Drains p ∷ later) seen =
    let before = turns_add c plain s later seen in (record { thread = p; told = 0 } ∷ before.0, ap (λ (l : List Turn). record { thread = p; told = 0 } ∷ l) before.1)

module _ (c : Setting) (asks : ℕ → Ask) where
  pub moves_add : (now ts : List Turn) → (more : List Move) × (moves_of c asks (now ++ ts) ≡ more ++ moves_of c asks ts)
  moves_add [] ts = ([], refl)
  moves_add (t ∷ now) ts =
      let before = moves_add now ts in
      let m : Move = move_at asks t ((atomic.reached (passes_as_threads c asks) (opened c) (now ++ ts)).own t.thread).phase in
      (m ∷ before.0, ap (λ (l : List Move). m ∷ l) before.1)

  in_order_adds : (plain : Plain Stand) (later seen : List buffers.Move) → (more : List Move) × (in_order c asks plain (later ++ seen) ≡ more ++ in_order c asks plain seen)
  in_order_adds plain later seen =
      let t = turns_add (passes_as_threads c asks) plain (opened c) later seen in
      let m = moves_add t.0 (turns (passes_as_threads c asks) plain (opened c) seen) in
      (m.0, ap (λ (l : List Turn). moves_of c asks l) t.1 ∙ m.1)

pub runs_are_linearizable : RunsAreLinearizable → RunsAreLinearizableOnX86
runs_are_linearizable law c asks plain moves fenced run may list checked = record {
  linearizable = law c (in_order c asks plain moves) list checked (runs_are_those_of_atomic_steps c asks plain moves fenced run may).run;
  in_time = λ later seen e. let k = in_order_adds c asks plain later seen in (k.0, ap (λ (l : List buffers.Move). in_order c asks plain l) e ∙ k.1);
}
