-- A send that is Full had a moment in its call at which as many items waited as the queue holds.
use Rattle.std.proofs.Common.{◌≡◌, ◌≢◌, ℕ, ◌+◌, ◌-◌, ◌<◌, ◌≤◌, List, ◌∷◌, length, get_or, Some, Ok, ap, ◌∙◌, arith}
use Rattle.std.proofs.lemmas.Option.{slice_get_within, slice_get-get_or}
use Rattle.std.specs.List.{slice_get}
use Rattle.cc_model.specs.Config.{config_fault}
use Rattle.cc_model.specs.Items.{Begins, accepted, accepted_by, handed_to_all}
use Rattle.cc_model.specs.Legal.{Legal}
use Rattle.cc_model.proofs.Grows.{accepted_calls_more}
use Rattle.cc_runs.specs.Names.{Config, ItemField, Word, Job, Parcel, Phase, Sending, Move}
use Rattle.cc_runs.specs.Words.{groups}
use Rattle.cc_runs.specs.State.{State}
use Rattle.cc_runs.specs.Run.{IsRun, reached, passes, history_of}
use Rattle.cc_runs.specs.MachineLaws.{linked_nodes}
use Rattle.cc_runs.proofs.Ranges.{in_range}
use Rattle.cc_runs.proofs.Changed.{changed, changed_here, changed_away}
use Rattle.cc_runs.proofs.LinkedList.Count.{covered}
use Rattle.cc_runs.proofs.LinkedList.Busy as busy
use Rattle.cc_runs.proofs.ListRuns.View.{queue_of}
use Rattle.cc_runs.proofs.ListRuns.Ties.{further}
use Rattle.cc_runs.proofs.ListRuns.Facts.{lists}
use Rattle.cc_runs.proofs.ListRuns.Runs.{AfterRun, legal}
use Rattle.cc_runs.proofs.ListRuns.Invariant.{ghosts_at, parts_least}
use Rattle.cc_runs.proofs.ListRuns.FromChains.{after_runs}
use Rattle.cc_runs.proofs.Linear.Scan.{read_all, Waits, start, Scan, scanned, busy_place, busy_low, busy_is, begun, handed_less, scan_is}

-- a list of numbers that has each of the first `n` at a place from `low` on
places : (nodes : List ℕ) (n low : ℕ) (place : ℕ → ℕ) → ((x : ℕ) → x < n → (low ≤ place x) × (slice_get nodes (place x) ≡ Some x)) → low ≤ length nodes → low + n ≤ length nodes
places nodes n low place placed less = omega (arith, covered (length nodes - low) n (λ (k : ℕ). get_or nodes (low + k) 0) (λ (x : ℕ). place x - low) inside is, less)
  where
    inside : (x : ℕ) → x < n → place x - low < length nodes - low
    inside x l = omega (arith, (placed x l).0, slice_get_within nodes (place x) x (placed x l).1)

    is : (x : ℕ) → x < n → get_or nodes (low + (place x - low)) 0 ≡ x
    is x l =
        let same : low + (place x - low) ≡ place x = omega (arith, (placed x l).0) in
        let got : slice_get nodes (place x) ≡ Some (get_or nodes (place x) 0) = slice_get-get_or nodes (place x) 0 (slice_get_within nodes (place x) x (placed x l).1) in
        let to : slice_get nodes (place x) ≡ Some x = (placed x l).1 in
        ap (λ (k : ℕ). get_or nodes k 0) same ∙ (cc)

module _ (c : Config) (checked : config_fault c ≡ Ok tt) (moves : List Move) (run : IsRun (lists c) moves) (w : Waits c moves) where
  -- no item was accepted since
  pub same_accepted : accepted (history_of (lists c) moves) ≡ accepted (start c moves w)
  same_accepted =
      let b : IsRun (lists c) (w.first ∷ w.before) × Begins (start c moves w) (history_of (lists c) moves) = begun c checked moves run w in
      let first : AfterRun c (w.first ∷ w.before) = after_runs c (in_range c checked) (w.first ∷ w.before) b.0 in
      let law : Legal c (start c moves w) = legal c (reached (lists c) (w.first ∷ w.before)) first in
      (λ i. accepted_by (b.1.sends.calls.1 i) (w.same i))
      ∙ accepted_calls_more c 0 _ (start c moves w).sends.calls (start c moves w).sends.answers b.1.sends.calls.0 law.answers

  -- and there was room for no more than the queue holds
  pub room : length (accepted (start c moves w)) ≤ handed_to_all (start c moves w) + c.capacity
  room =
      let b : IsRun (lists c) (w.first ∷ w.before) × Begins (start c moves w) (history_of (lists c) moves) = begun c checked moves run w in
      let s : State = reached (lists c) (w.first ∷ w.before) in
      let first : AfterRun c (w.first ∷ w.before) = after_runs c (in_range c checked) (w.first ∷ w.before) b.0 in
      omega (arith, busy.room c.capacity c.life (further c + 1) (queue_of s first.parts.duty) (ghosts_at c s first.parts) first.parts.list, parts_least c s first.parts)

-- the last read of a scan finds a busy node
module _ (c : Config) (checked : config_fault c ≡ Ok tt) (moves : List Move) (run : IsRun (lists c) moves) (p : ℕ) (less : p < passes (lists c)) (job : Job) (parcel : Parcel) (at reads : ℕ)
    (stands : ((reached (lists c) moves).stand p).phase ≡ Phase.Sending job (Sending.ReadPassed parcel at reads)) (ne : (reached (lists c) moves).mem (Word.Item at ItemField.Passed) ≢ groups c) (all : reads ≡ c.capacity + 1) where
  a : AfterRun c moves
  a = after_runs c (in_range c checked) moves run

  scan : Scan c moves at reads
  scan = scan_is c checked moves run p less job parcel at reads stands

  pub since : Waits c moves
  since = scan.waits

  within : at ≤ c.capacity
  within = (scanned c moves a p job parcel at reads stands).within

  here : ℕ
  here = busy_place c moves a p job parcel at reads stands ne

  abbrev Placed : ℕ → ℕ → Type 0
  Placed x k = (handed_to_all (start c moves since) ≤ k) × (slice_get (linked_nodes (lists c) moves) k ≡ Some x)

  here_placed : Placed at here
  unfolding here
  here_placed = (omega (arith, handed_less c checked moves run since, busy_low c moves a p job parcel at reads stands ne), busy_is c moves a p job parcel at reads stands ne)

  placed : (x : ℕ) → x < c.capacity + 1 → Placed x (changed scan.place at here x)
  unfolding since
  placed x l = grind (
    arith,
    changed_here scan.place at here x,
    here_placed,
    changed_away scan.place at here x,
    scan.placed x,
    read_all c at x within,
  )

  many : length (linked_nodes (lists c) moves) ≡ length (accepted (history_of (lists c) moves)) + 1
  many = a.parts.ties.linked

  pub full : length (accepted (start c moves since)) ≡ handed_to_all (start c moves since) + c.capacity
  full = omega (
    arith,
    places (linked_nodes (lists c) moves) (c.capacity + 1) (handed_to_all (start c moves since)) (changed scan.place at here) placed
        (omega (arith, here_placed.0, slice_get_within (linked_nodes (lists c) moves) here at here_placed.1)),
    many,
    ap length (same_accepted c checked moves run since),
    room c checked moves run since,
  )
