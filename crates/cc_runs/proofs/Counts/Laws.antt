-- The laws of the counts.
use Rattle.std.proofs.Common.{◌≡◌, ◌≢◌, ℕ, ◌+◌, ◌<◌, ◌≤◌, List, [], ◌∷◌, ◌++◌, length, Option, Ok, arith}
use Rattle.std.specs.List.{AllByRecursion}
use Rattle.cc_model.specs.Config.{config_fault}
use Rattle.cc_model.specs.Items.{accepted, handed, handed_to_all, calls_of}
use Rattle.cc_runs.specs.Names.{Config, Entry, Answer, Setting, Move}
use Rattle.cc_runs.specs.Words.{groups}
use Rattle.cc_runs.specs.State.{pass_at}
use Rattle.cc_runs.specs.Run.{IsRun, passes, reached, history_of}
use Rattle.cc_runs.specs.ChainLaws.{IsOut}
use Rattle.cc_runs.specs.Counts.{counted, counted_for, mark_of, IsSeen, AreSeen, CountsOf, CountsAreNear, CountsNoLess, OnEachRunOn, CountsGrow, EndedCallsAreSeen, IsFull, LooksFindFull, HasAll, LooksFindNone}
use Rattle.cc_runs.proofs.Ranges.{InRange, in_range}
use Rattle.cc_runs.proofs.ListRuns.Facts.{lists}
use Rattle.cc_runs.proofs.LinkedList.Busy as busy
use Rattle.cc_runs.proofs.ListRuns.View.{queue_of}
use Rattle.cc_runs.proofs.ListRuns.Ties.{further}
use Rattle.cc_runs.proofs.ListRuns.Invariant.{ghosts_at, parts_least}
use Rattle.cc_runs.proofs.Counts.Grow.{grow}
use Rattle.cc_runs.proofs.ListRuns.FromChains.{after_runs, of_setting}
use Rattle.cc_runs.proofs.Counts.State as state
use Rattle.cc_runs.proofs.Counts.Ended.{ended}

near : (c : Config) (fits : InRange c) (moves : List Move) → IsRun (lists c) moves → CountsOf (lists c) (reached (lists c) moves)
near c fits moves run =
    let whole = (after_runs c fits moves run) in
    record {
      most = state.most c (reached (lists c) moves) whole.parts;
      near = state.near c (reached (lists c) moves) whole.parts;
      taken_least = state.taken_least c (reached (lists c) moves) whole.parts;
      taken_near = state.taken_near c (reached (lists c) moves) whole.parts;
      taken_pending = state.taken_open c (reached (lists c) moves) whole.parts;
      taken_most = state.taken_most c (reached (lists c) moves) whole.parts;
      shut = state.shut c (reached (lists c) moves) whole.parts;
      ended = ended c (omega (arith, fits.bound)) moves run whole;
    }

pub counts_are_near : CountsAreNear
counts_are_near c moves serves checked run =
    of_setting (λ (z : Setting). config_fault z.config ≡ Ok tt → IsRun z moves → CountsOf z (reached z moves)) c serves (λ ok r. near c.config (in_range c.config ok) moves r) checked run

-- ---- over a run that goes on

-- of a setting that serves a list
on_lists : (P : Setting → (later seen : List Move) → Type 0) → ((c : Config) (fits : InRange c) (later seen : List Move) → IsRun (lists c) (later ++ seen) → P (lists c) later seen) → OnEachRunOn P
on_lists P holds c later seen serves checked run =
    of_setting (λ (z : Setting). config_fault z.config ≡ Ok tt → IsRun z (later ++ seen) → P z later seen) c serves (λ ok r. holds c.config (in_range c.config ok) later seen r) checked run

pub counts_grow : CountsGrow
counts_grow = on_lists (λ c later seen. CountsNoLess c (reached c seen) (reached c (later ++ seen))) grow

-- what is seen of fewer items is seen of more
more_seen : (count mark more marks : ℕ) (z : Entry × Option Answer) → count ≤ more → mark ≤ marks → marks ≤ 1 → IsSeen count mark z → IsSeen more marks z
more_seen count mark more marks z up by most seen = grind arith

all_more : (count mark more marks : ℕ) (l : List (Entry × Option Answer)) → count ≤ more → mark ≤ marks → marks ≤ 1 → AllByRecursion (IsSeen count mark) l → AllByRecursion (IsSeen more marks) l
all_more count mark more marks [] up by most all = tt
all_more count mark more marks (z ∷ l) up by most all = (more_seen count mark more marks z up by most all.0, all_more count mark more marks l up by most all.1)

prefix_run : (c : Setting) (later seen : List Move) → IsRun c (later ++ seen) → IsRun c seen
prefix_run c [] seen run = run
prefix_run c (m ∷ later) seen run = prefix_run c later seen run.0

mark_most : (c : Config) (fits : InRange c) (moves : List Move) → IsRun (lists c) moves → mark_of (reached (lists c) moves) ≤ 1
mark_most c fits moves run = state.mark_few c (reached (lists c) moves) (after_runs c fits moves run).parts

pub ended_calls_are_seen : EndedCallsAreSeen
ended_calls_are_seen =
    on_lists (λ c later seen. (p : ℕ) → p < passes c → IsOut ((reached c seen).stand p).phase → AreSeen c.config (counted (reached c (later ++ seen))) (mark_of (reached c (later ++ seen))) p (history_of c seen))
    (λ c fits later seen run p less out.
    let up : CountsNoLess (lists c) (reached (lists c) seen) (reached (lists c) (later ++ seen)) = grow c fits later seen run in
    all_more (counted (reached (lists c) seen)) (mark_of (reached (lists c) seen)) (counted (reached (lists c) (later ++ seen))) (mark_of (reached (lists c) (later ++ seen))) (calls_of (pass_at c p) (history_of (lists c) seen)) up.count up.mark
    (mark_most c fits (later ++ seen) run) ((near c fits seen (prefix_run (lists c) later seen run)).ended p less out))

-- ---- Full and Empty

handed_least : (c : Config) (fits : InRange c) (moves : List Move) (run : IsRun (lists c) moves) (g : ℕ) → g < groups c → handed_to_all (history_of (lists c) moves) ≤ length (handed (history_of (lists c) moves) g)
handed_least c fits moves run g inside =
    let w = (after_runs c fits moves run) in
    omega (arith, parts_least c (reached (lists c) moves) w.parts, w.parts.list.hands.least_is g (omega (arith, inside, w.parts.ties.some)))

full : (c : Config) (fits : InRange c) (later seen : List Move) → IsRun (lists c) (later ++ seen) → (g : ℕ) → g < groups c → counted_for (reached (lists c) (later ++ seen)) g + c.capacity ≤ counted (reached (lists c) seen) → IsFull c (history_of (lists c) seen)
full c fits later seen run g inside finds =
    let before : IsRun (lists c) seen = prefix_run (lists c) later seen run in
    let w = (after_runs c fits seen before) in
    let near_now : CountsOf (lists c) (reached (lists c) seen) = near c fits seen before in
    let room : (ghosts_at c (reached (lists c) seen) w.parts).accepted ≤ (ghosts_at c (reached (lists c) seen) w.parts).least + c.capacity = busy.room c.capacity c.life (further c + 1) (queue_of (reached (lists c) seen) w.parts.duty) (ghosts_at c (reached (lists c) seen) w.parts) w.parts.list in
    let waits : length (accepted (history_of (lists c) seen)) ≡ handed_to_all (history_of (lists c) seen) + c.capacity =
    omega (
      arith,
      finds,
      near_now.most,
      near_now.taken_least g inside,
      (grow c fits later seen run).taken g inside,
      handed_least c fits seen before g inside,
      room,
      parts_least c (reached (lists c) seen) w.parts,
    ) in
    record { waits = waits; accepts_none = λ body taken place h. omega (arith, waits, h.2) }

pub looks_find_full : LooksFindFull
looks_find_full = on_lists (λ c later seen. (g : ℕ) → g < groups c.config → counted_for (reached c (later ++ seen)) g + c.config.capacity ≤ counted (reached c seen) → IsFull c.config (history_of c seen)) full

none : (c : Config) (fits : InRange c) (later seen : List Move) → IsRun (lists c) (later ++ seen) → (g : ℕ) → g < groups c → counted (reached (lists c) (later ++ seen)) ≤ counted_for (reached (lists c) seen) g
    → ((k : ℕ) → k < groups c → k ≢ g → counted_for (reached (lists c) (later ++ seen)) k ≤ counted_for (reached (lists c) seen) g) → HasAll (lists c) (reached (lists c) seen) g
none c fits later seen run g inside no_more no_other =
    let before : IsRun (lists c) seen = prefix_run (lists c) later seen run in
    let now : CountsOf (lists c) (reached (lists c) seen) = near c fits seen before in
    let up : CountsNoLess (lists c) (reached (lists c) seen) (reached (lists c) (later ++ seen)) = grow c fits later seen run in
    let few : mark_of (reached (lists c) seen) ≤ 1 = mark_most c fits seen before in
    record {
      sent = λ p less out.
          all_more (counted (reached (lists c) seen)) (mark_of (reached (lists c) seen)) (counted_for (reached (lists c) seen) g) (mark_of (reached (lists c) seen)) (calls_of (pass_at c p) (history_of (lists c) seen)) (omega (arith, no_more, up.count))
          (omega arith) few (now.ended p less out);
      others = λ k there. grind (arith, now.taken_least g inside, now.taken_least k there, up.taken k there, no_other k there);
      pending = now.taken_pending g inside;
    }

pub looks_find_none : LooksFindNone
looks_find_none =
    on_lists (λ c later seen. (g : ℕ) → g < groups c.config → counted (reached c (later ++ seen)) ≤ counted_for (reached c seen) g → ((k : ℕ) → k < groups c.config → k ≢ g → counted_for (reached c (later ++ seen)) k ≤ counted_for (reached c seen) g) → HasAll c (reached c seen) g)
    none
