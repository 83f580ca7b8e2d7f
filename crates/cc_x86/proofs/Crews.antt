-- Threads that drive passes of the queue: a pass loads nothing between its last answer and its exchange.
use Rattle.std.proofs.Common.{◌≡◌, ℕ, Bool, true, false, cond, refl, ap, ◌∙◌, List, [], ◌∷◌, ◌++◌, nat_lt, arith}
use Rattle.cc_x86.specs.Program.{Stop, Program, State}
use Rattle.cc_x86.specs.Buffered as buffers
use Rattle.cc_x86.specs.Buffered.{Plain}
use Rattle.cc_x86.specs.Driven.{Tagged, Move, Acts, Drains, reached, StaysFresh, AreFresh, drains_of, by_passes}
use Rattle.cc_x86.specs.Names.{Setting, Chain, Word, Phase, Stand}
use Rattle.cc_runs.specs.State.{chain_of}
use Rattle.cc_runs.specs.Run.{passes}
use Rattle.cc_x86.specs.Threads.{Ask, passes_as_threads, opened, next_at}
use Rattle.cc_x86.specs.Early.{early, LinearizableWithEarlyStores}
use Rattle.cc_runs.specs.Early.{is_fresh}
use Rattle.cc_x86.specs.Crews.{fresh, moves_by_passes, LinearizableWithDrivenPasses}
use Rattle.cc_x86.proofs.Driven.{driven_runs_are_by_passes}

module _ {W S : Type 0} (c : Program W S) (plain : Plain S) (s : State W S) where
  drained_adds : (waiting : List (Tagged W)) (all seen : List buffers.Move) → (now : List buffers.Move) × (all ≡ now ++ seen)
      → (now : List buffers.Move) × (drains_of waiting all ≡ now ++ seen)
  drained_adds [] all seen before = before
  drained_adds (e ∷ newer) all seen before = (buffers.Drains e.pass ∷ before.0, ap (λ (l : List buffers.Move). buffers.Drains e.pass ∷ l) before.1)

  -- a front of the threads' run leads to a front of the passes' run
  pub by_passes_adds : (later seen : List Move) → (now : List buffers.Move) × (by_passes c plain s (later ++ seen) ≡ now ++ by_passes c plain s seen)
  by_passes_adds [] seen = ([], refl)
  by_passes_adds (Acts t turn plainly ∷ later) seen =
      let before = by_passes_adds later seen in (buffers.Acts turn plainly ∷ before.0, ap (λ (l : List buffers.Move). buffers.Acts turn plainly ∷ l) before.1)
  by_passes_adds (Drains t ∷ later) seen =
      drained_adds ((reached c plain s (later ++ seen)).buffer t) (by_passes c plain s (later ++ seen)) (by_passes c plain s seen) (by_passes_adds later seen)
  by_passes_adds (_ ∷ later) seen = by_passes_adds later seen

module _ (c : Setting) (asks : ℕ → Ask) where
  abbrev T : Program Word Stand
  T = passes_as_threads c asks

  stays : (x : Chain) (p begun own : ℕ) (here : Phase) → is_fresh here ≡ true → StaysFresh T fresh p record { begun = begun; node = own; phase = here } (next_at c x own here)
  stays x p begun own here it = grind arith

  inside : (p : ℕ) (own : Stand) → fresh p own ≡ true → (b : Bool) → StaysFresh T fresh p own (cond b (next_at c (chain_of c.config p) own.node own.phase) Stop)
  inside p own it true = stays (chain_of c.config p) p own.begun own.node own.phase it
  inside p own it false = tt

  pub are_fresh : AreFresh T fresh
  are_fresh p own it = inside p own it (nat_lt p (passes c))

pub linearizable_driven : LinearizableWithEarlyStores → LinearizableWithDrivenPasses
linearizable_driven early_law c asks moves list checked run may =
    let T = passes_as_threads c asks in
    let k = driven_runs_are_by_passes Word Stand T (early c) fresh (opened c) moves (are_fresh c asks) run in
    record {
      by_passes = k;
      linearizable = early_law c asks (moves_by_passes c asks moves) list checked k.run may;
      in_time = λ later seen e. let front = by_passes_adds T (early c) (opened c) later seen in (front.0, ap (λ (l : List Move). moves_by_passes c asks l) e ∙ front.1);
    }
