-- The passes as threads do what the machine does.
use Rattle.std.proofs.Common.{◌≡◌, ◌⊎◌, inl, inr, ℕ, ◌<◌, Bool, true, false, cond, refl, ap, sym, ◌∙◌, subst, List, [], ◌∷◌, arith}
use Rattle.std.proofs.lemmas.Bool.{ltb-true, lt-ltb}
use Rattle.std.specs.Prelude.{nat_lt}
use Rattle.cc_x86.specs.Program as threads
use Rattle.cc_x86.specs.Program.{Turn, hold, found, written}
use Rattle.cc_x86.specs.Sequential as atomic
use Rattle.cc_x86.specs.Buffered as buffers
use Rattle.cc_x86.specs.Fenced.{LooksAtNothing, turns}
use Rattle.cc_x86.proofs.Buffers as general
use Rattle.cc_x86.specs.Names.{Setting, Answer, Chain, Word, Stand, Phase, Move, Event}
use Rattle.cc_runs.specs.Words.{same}
use Rattle.cc_runs.specs.State.{State, Operation, chain_of, word_of, stored}
use Rattle.cc_runs.specs.Lines.{operation, goes, node_after, event_at}
use Rattle.cc_runs.specs.Step.{advanced}
use Rattle.cc_runs.specs.Run.{passes, begins, rests, May, IsRun, IsIdle, IsFinished, moved, reached}
use Rattle.cc_x86.specs.Threads.{as_thread, next_at, Ask, after_at, passes_as_threads, opened, move_at, moves_of}
use Rattle.cc_runs.specs.MachineLaws.{HistoryIsLegal, AnswersAreTold}
use Rattle.cc_x86.specs.OnX86.{MayBegin, in_order, RunsAreThoseOfAtomicSteps, HistoryIsLegalOnX86}

-- it has a step
abbrev pub IsBusy : Phase → Type 0
IsBusy Phase.Idle = ⊥
IsBusy (Phase.Finished told) = ⊥
IsBusy _ = Unit {0}

writes_same : (words : Word → ℕ) (does : Operation) → written same words (as_thread does) ≡ stored words does
writes_same words does = grind arith

-- where a store leads does not hang on what was there
goes_same : (c : Setting) (x : Chain) (own : ℕ) (at : Phase) (words : Word → ℕ) (told : ℕ) →
    goes c x own at (found words (as_thread (operation c x own at)) told) ≡ goes c x own at (words (word_of (operation c x own at)))
goes_same c x own at words told = grind arith

node_same : (c : Setting) (x : Chain) (own : ℕ) (at : Phase) (words : Word → ℕ) (told : ℕ) →
    node_after own at (found words (as_thread (operation c x own at)) told) ≡ node_after own at (words (word_of (operation c x own at)))
node_same c x own at words told = grind arith

-- ---- what a pass does at its place

pub busy_next : (c : Setting) (x : Chain) (own : ℕ) (at : Phase) → IsBusy at → next_at c x own at ≡ as_thread (operation c x own at)
busy_next c x own at busy = grind arith

pub busy_after : (c : Setting) (asks : ℕ → Ask) (p : ℕ) (s : Stand) (at : Phase) (x : ℕ) → IsBusy at → after_at c asks p s at x ≡ advanced c (chain_of c.config p) s x
busy_after c asks p s at x busy = grind arith

pub busy_move : (asks : ℕ → Ask) (t : Turn) (at : Phase) → IsBusy at → move_at asks t at ≡ Move.Step t.thread
busy_move asks t at busy = grind arith

abbrev IsStep : Event → Type 0
IsStep (Event.Did what) = Unit {0}
IsStep Event.Idle = ⊥

busy_step : (at : Phase) → IsBusy at → IsStep (event_at at)
busy_step at busy = grind arith

pub idle_next : (c : Setting) (x : Chain) (own : ℕ) (at : Phase) → IsIdle at → next_at c x own at ≡ threads.Outside 0
idle_next c x own at idle = grind arith

pub idle_after : (c : Setting) (asks : ℕ → Ask) (p : ℕ) (s : Stand) (at : Phase) (x : ℕ) → IsIdle at → after_at c asks p s at x ≡ begins c.config p (asks x).call (asks x).known s
idle_after c asks p s at x idle = grind arith

pub idle_move : (asks : ℕ → Ask) (t : Turn) (at : Phase) → IsIdle at → move_at asks t at ≡ Move.Begin t.thread (asks t.told).call (asks t.told).known
idle_move asks t at idle = grind arith

pub finished_next : (c : Setting) (x : Chain) (own : ℕ) (at : Phase) → IsFinished at → next_at c x own at ≡ threads.Outside 0
finished_next c x own at finished = grind arith

pub finished_after : (c : Setting) (asks : ℕ → Ask) (p : ℕ) (s : Stand) (at : Phase) (x : ℕ) → IsFinished at → after_at c asks p s at x ≡ rests s
finished_after c asks p s at x finished = grind arith

pub finished_move : (asks : ℕ → Ask) (t : Turn) (at : Phase) → IsFinished at → move_at asks t at ≡ Move.Take t.thread
finished_move asks t at finished = grind arith

pub stands_so : (at : Phase) → IsIdle at ⊎ IsFinished at ⊎ IsBusy at
stands_so at = grind arith

-- ---- a turn is a move

module _ (c : Setting) (asks : ℕ → Ask) (s : State) (t : Turn) where
  abbrev at : Stand
  at = s.stand t.thread

  abbrev does : threads.Operation Word
  does = (passes_as_threads c asks).next t.thread (s.stand t.thread)

  abbrev Becomes : Move → Type 0
  Becomes m =
      May c s m
      × ((moved c s m).mem ≡ written same s.mem does)
      × ((moved c s m).stand ≡ hold s.stand t.thread (after_at c asks t.thread (s.stand t.thread) (s.stand t.thread).phase (found s.mem does t.told)))

  is_pass : (b : Bool) → atomic.Acts (cond b (next_at c (chain_of c.config t.thread) (s.stand t.thread).node (s.stand t.thread).phase) threads.Stop) → b ≡ true
  is_pass b acts = grind arith

  module _ (inside : t.thread < passes c) (does_so : (passes_as_threads c asks).next t.thread (s.stand t.thread) ≡ next_at c (chain_of c.config t.thread) (s.stand t.thread).node (s.stand t.thread).phase) where
    abbrev x : Chain
    x = chain_of c.config t.thread

    steps : IsBusy (s.stand t.thread).phase → Becomes (Move.Step t.thread)
    steps busy =
        let is : (passes_as_threads c asks).next t.thread (s.stand t.thread) ≡ as_thread (operation c x (s.stand t.thread).node (s.stand t.thread).phase) = does_so ∙ busy_next c x (s.stand t.thread).node (s.stand t.thread).phase busy in
        let o : Operation = operation c (chain_of c.config t.thread) (s.stand t.thread).node (s.stand t.thread).phase in
        let leads : advanced c x (s.stand t.thread) (found s.mem (as_thread (operation c x (s.stand t.thread).node (s.stand t.thread).phase)) t.told) ≡ advanced c x (s.stand t.thread) (s.mem (word_of (operation c x (s.stand t.thread).node (s.stand t.thread).phase))) =
        λ i. record {
          begun = (s.stand t.thread).begun;
          node = node_same c x (s.stand t.thread).node (s.stand t.thread).phase s.mem t.told i;
          phase = goes_same c x (s.stand t.thread).node (s.stand t.thread).phase s.mem t.told i;
        } in (
          (inside, λ e. subst IsStep e (busy_step (s.stand t.thread).phase busy)),
          sym (ap (λ (d : threads.Operation Word). written same s.mem d) is ∙ writes_same s.mem (operation c x (s.stand t.thread).node (s.stand t.thread).phase)),
          ap (λ (y : Stand). hold s.stand t.thread y)
              (sym (ap (λ (d : threads.Operation Word). after_at c asks t.thread (s.stand t.thread) (s.stand t.thread).phase (found s.mem d t.told)) is
              ∙ busy_after c asks t.thread (s.stand t.thread) (s.stand t.thread).phase (found s.mem (as_thread (operation c x (s.stand t.thread).node (s.stand t.thread).phase)) t.told) busy
              ∙ leads)),
        )

    begun : IsIdle (s.stand t.thread).phase → May c s (Move.Begin t.thread (asks t.told).call (asks t.told).known) → Becomes (Move.Begin t.thread (asks t.told).call (asks t.told).known)
    begun idle may =
        let is : (passes_as_threads c asks).next t.thread (s.stand t.thread) ≡ threads.Outside 0 = does_so ∙ idle_next c x (s.stand t.thread).node (s.stand t.thread).phase idle in (
          may,
          sym (ap (λ (d : threads.Operation Word). written same s.mem d) is),
          ap (λ (y : Stand). hold s.stand t.thread y)
              (sym (ap (λ (d : threads.Operation Word). after_at c asks t.thread (s.stand t.thread) (s.stand t.thread).phase (found s.mem d t.told)) is
              ∙ idle_after c asks t.thread (s.stand t.thread) (s.stand t.thread).phase t.told idle)),
        )

    taken : IsFinished (s.stand t.thread).phase → Becomes (Move.Take t.thread)
    taken finished =
        let is : (passes_as_threads c asks).next t.thread (s.stand t.thread) ≡ threads.Outside 0 = does_so ∙ finished_next c x (s.stand t.thread).node (s.stand t.thread).phase finished in (
          (inside, finished),
          sym (ap (λ (d : threads.Operation Word). written same s.mem d) is),
          ap (λ (y : Stand). hold s.stand t.thread y)
              (sym (ap (λ (d : threads.Operation Word). after_at c asks t.thread (s.stand t.thread) (s.stand t.thread).phase (found s.mem d t.told)) is
              ∙ finished_after c asks t.thread (s.stand t.thread) (s.stand t.thread).phase t.told finished)),
        )

  -- what callers begin, they may
  abbrev pub Allowed : Move → Type 0
  Allowed (Move.Begin p call known) = May c s (Move.Begin p call known)
  Allowed _ = Unit {0}

  turn_is_move : atomic.Acts ((passes_as_threads c asks).next t.thread (s.stand t.thread)) → Allowed (move_at asks t (s.stand t.thread).phase) → Becomes (move_at asks t (s.stand t.thread).phase)
  turn_is_move acts allowed =
      let yes : nat_lt t.thread (passes c) ≡ true = is_pass (nat_lt t.thread (passes c)) acts in
      let inside : t.thread < passes c = ltb-true t.thread (passes c) yes in
      let does_so : (passes_as_threads c asks).next t.thread (s.stand t.thread) ≡ next_at c (chain_of c.config t.thread) (s.stand t.thread).node (s.stand t.thread).phase =
      ap (λ (b : Bool). cond b (next_at c (chain_of c.config t.thread) (s.stand t.thread).node (s.stand t.thread).phase) threads.Stop) yes in
      by_place inside does_so (stands_so (s.stand t.thread).phase)
    where
      by_place : t.thread < passes c → (passes_as_threads c asks).next t.thread (s.stand t.thread) ≡ next_at c (chain_of c.config t.thread) (s.stand t.thread).node (s.stand t.thread).phase →
          IsIdle (s.stand t.thread).phase ⊎ IsFinished (s.stand t.thread).phase ⊎ IsBusy (s.stand t.thread).phase → Becomes (move_at asks t (s.stand t.thread).phase)
      by_place inside does_so (inl idle) =
          subst Becomes (sym (idle_move asks t (s.stand t.thread).phase idle))
          (begun inside does_so idle (subst Allowed (idle_move asks t (s.stand t.thread).phase idle) allowed))
      by_place inside does_so (inr (inl finished)) = subst Becomes (sym (finished_move asks t (s.stand t.thread).phase finished)) (taken inside does_so finished)
      by_place inside does_so (inr (inr busy)) = subst Becomes (sym (busy_move asks t (s.stand t.thread).phase busy)) (steps inside does_so busy)

module _ (c : Setting) (asks : ℕ → Ask) where
  pub record IsSame (ts : List Turn) : Type 0 where
    pub run : IsRun c (moves_of c asks ts)
    pub mem : (reached c (moves_of c asks ts)).mem ≡ (atomic.reached (passes_as_threads c asks) (opened c) ts).words
    pub stand : (reached c (moves_of c asks ts)).stand ≡ (atomic.reached (passes_as_threads c asks) (opened c) ts).own

  pub may_earlier : (m : Move) (ms : List Move) → MayBegin c (m ∷ ms) → MayBegin c ms × Allowed c asks (reached c ms) record { thread = 0; told = 0 } m
  may_earlier m ms may = grind arith

  extends : (t : Turn) (earlier : List Turn) → IsSame earlier
      → atomic.Acts ((passes_as_threads c asks).next t.thread ((atomic.reached (passes_as_threads c asks) (opened c) earlier).own t.thread))
      → Allowed c asks (reached c (moves_of c asks earlier)) record { thread = 0; told = 0 } (move_at asks t ((atomic.reached (passes_as_threads c asks) (opened c) earlier).own t.thread).phase)
      → IsSame (t ∷ earlier)
  extends t earlier k acts allowed =
      let same_state : record { words = (reached c (moves_of c asks earlier)).mem; own = (reached c (moves_of c asks earlier)).stand } ≡ atomic.reached (passes_as_threads c asks) (opened c) earlier =
      λ i. record { words = k.mem i; own = k.stand i } in
      let done = subst
      (λ (z : threads.State Word Stand).
      atomic.Acts ((passes_as_threads c asks).next t.thread (z.own t.thread))
      → Allowed c asks (reached c (moves_of c asks earlier)) record { thread = 0; told = 0 } (move_at asks t (z.own t.thread).phase)
      → May c (reached c (moves_of c asks earlier)) (move_at asks t (z.own t.thread).phase)
      × ((moved c (reached c (moves_of c asks earlier)) (move_at asks t (z.own t.thread).phase)).mem ≡ written same z.words ((passes_as_threads c asks).next t.thread (z.own t.thread)))
      × ((moved c (reached c (moves_of c asks earlier)) (move_at asks t (z.own t.thread).phase)).stand ≡ hold z.own t.thread (after_at c asks t.thread (z.own t.thread) (z.own t.thread).phase (found z.words ((passes_as_threads c asks).next t.thread (z.own t.thread)) t.told))))
      same_state (turn_is_move c asks (reached c (moves_of c asks earlier)) t) acts allowed in
      record { run = (k.run, done.0); mem = done.1; stand = done.2 }

  pub keeps : (ts : List Turn) → atomic.IsRun (passes_as_threads c asks) (opened c) ts → MayBegin c (moves_of c asks ts) → IsSame ts
  keeps [] run may = record { run = tt; mem = refl; stand = refl }
  keeps (t ∷ earlier) run may =
      let both = may_earlier (move_at asks t ((atomic.reached (passes_as_threads c asks) (opened c) earlier).own t.thread).phase) (moves_of c asks earlier) may in
      extends t earlier (keeps earlier run.0 both.0) run.1 both.1

pub runs_are_those_of_atomic_steps : RunsAreThoseOfAtomicSteps
runs_are_those_of_atomic_steps c asks plain moves fenced run may =
    let k = general.buffers_are_not_seen Word Stand (passes_as_threads c asks) plain (opened c) moves fenced run in
    let j = keeps c asks (turns (passes_as_threads c asks) plain (opened c) moves) k.run may in
    record { run = j.run; words = j.mem ∙ k.words; own = λ p empty. ap (λ (f : ℕ → Stand). f p) j.stand ∙ k.own p empty }

-- a pass that has read its answer has no store waiting
outside_looks : (c : Setting) (p : ℕ) (b : Bool) (own : Stand) → IsFinished own.phase → b ≡ true → LooksAtNothing (cond b (next_at c (chain_of c.config p) own.node own.phase) threads.Stop) → ⊥
outside_looks c p true own finished is none = subst (λ (o : threads.Operation Word). LooksAtNothing o) (finished_next c (chain_of c.config p) own.node own.phase finished) none
outside_looks c p false own finished is none = absurd (cc)

finished_is : (at : Phase) (answer : Answer) → at ≡ Phase.Finished answer → IsFinished at
finished_is place answer e = subst IsFinished (sym e) tt

pub history_is_legal : HistoryIsLegal → AnswersAreTold → HistoryIsLegalOnX86
history_is_legal legal told c asks plain moves fenced run may list checked =
    let k = general.buffers_are_not_seen Word Stand (passes_as_threads c asks) plain (opened c) moves fenced run in
    let j = runs_are_those_of_atomic_steps c asks plain moves fenced run may in
    record {
      legal = legal c (in_order c asks plain moves) list checked j.run;
      told = λ p answer inside e.
          let none : (buffers.arrived (passes_as_threads c asks) plain (opened c) moves).buffer p ≡ [] =
          k.empty p (outside_looks c p (nat_lt p (passes c)) ((buffers.arrived (passes_as_threads c asks) plain (opened c) moves).own p)
          (finished_is ((buffers.arrived (passes_as_threads c asks) plain (opened c) moves).own p).phase answer e) (lt-ltb p (passes c) inside)) in
          told c (in_order c asks plain moves) list checked j.run p answer inside (ap (λ (z : Stand). z.phase) (j.own p none) ∙ e);
    }
