-- The laws of every run of a machine whose chains serve the list.
use Rattle.std.proofs.Common.{◌≡◌, ◌≢◌, ℕ, zero, suc, ◌+◌, ◌-◌, ◌/◌, ◌<◌, ◌≤◌, ◌==◌, List, length, Bool, true, false, Some, Ok, inl, inr, refl, sym, ap, ◌∙◌, subst, arith, if◌then◌else◌}
use Rattle.std.proofs.lemmas.Bool.{eqb-true, eqb-false, cases_lt}
use Rattle.std.proofs.lemmas.Option.{slice_get_within, get_or_from_slice_get}
use Rattle.std.specs.List.{slice_get}
use Rattle.cc_model.specs.Config.{config_fault}
use Rattle.cc_model.specs.Items.{accepted, handed_to_all}
use Rattle.cc_model.specs.Legal.{Legal}
use Rattle.cc_runs.specs.Names.{Config, Entry, Setting, ItemField, Word, Job, Parcel, Phase, Sending, Taking, Chain, Object, Move}
use Rattle.cc_model.proofs.InOrder.{fifo}
use Rattle.cc_runs.specs.Words.{groups}
use Rattle.cc_runs.specs.State.{State, chain_of, pass_at}
use Rattle.cc_runs.specs.Lines.{group_of}
use Rattle.cc_runs.proofs.ListRuns.Posts.{IsTakes, Well, of_side, group_in}
use Rattle.cc_runs.specs.Run.{passes, reached, history_of, IsRun}
use Rattle.cc_runs.specs.MachineLaws.{HistoryIsLegal, HistoryIsFifo, is_busy, busy_below, IsPreparing, Prepares, BusyNodesAreItems, PreparedNodeIsBusy, linked_nodes, Resets, ResetAfterTheTake, Holds, HoldsAt, PreparedAlone, NamesNode, FindsNode, LinksNameNodes, scan_reads, ScansAreShort}
use Rattle.cc_runs.proofs.Ranges.{in_range}
use Rattle.cc_runs.proofs.LinkedList.Queue.{Ghosts}
use Rattle.cc_runs.proofs.LinkedList.Invariant.{LInv}
use Rattle.cc_runs.proofs.LinkedList.Count.{total, total_zero, total_suc, below, below_yes, below_no}
use Rattle.cc_runs.proofs.LinkedList.Busy as busy
use Rattle.cc_runs.proofs.LinkedList.Limits as limits
use Rattle.cc_runs.proofs.ListRuns.View.{Regs, enq_in, enq_at, regs_in, regs_of, queue_of}
use Rattle.cc_runs.proofs.ListRuns.Ties.{further, IsBegun, Scanned}
use Rattle.cc_runs.proofs.ListRuns.Facts.{lists}
use Rattle.cc_runs.proofs.ListRuns.Invariant.{Parts, ghosts_at, parts_least}
use Rattle.cc_runs.proofs.ListRuns.Runs.{AfterRun, legal}
use Rattle.cc_runs.proofs.ListRuns.Safe.{send_queue, send_holds, send_reads, take_regs}
use Rattle.cc_runs.proofs.ListRuns.FromChains.{after_runs, of_setting}

-- ---- the history

pub history_is_legal : HistoryIsLegal
history_is_legal c moves serves checked run =
    of_setting (λ (z : Setting). config_fault z.config ≡ Ok tt → IsRun z moves → Legal z.config (history_of z moves)) c serves
    (λ ok r. legal c.config (reached (lists c.config) moves) (after_runs c.config (in_range c.config ok) moves r)) checked run

pub history_is_fifo : HistoryIsFifo
history_is_fifo c moves serves checked run = fifo c.config (history_of c moves) (history_is_legal c moves serves checked run)

-- ---- busy nodes

one_busy : (c : Config) (mem : Word → ℕ) (i : ℕ) → 0 < groups c → mem (Word.Item i ItemField.Passed) ≤ further c + 1 → is_busy c mem i ≡ below (mem (Word.Item i ItemField.Passed)) (further c + 1)
one_busy c mem i some most = by_case (mem (Word.Item i ItemField.Passed) == groups c) refl
  where
    by_case : (b : Bool) → (mem (Word.Item i ItemField.Passed) == groups c) ≡ b → (if b then 0 else 1) ≡ below (mem (Word.Item i ItemField.Passed)) (further c + 1)
    by_case true e = sym (below_no (mem (Word.Item i ItemField.Passed)) (further c + 1) (omega (arith, some, eqb-true (mem (Word.Item i ItemField.Passed)) (groups c) e)))
    by_case false e = sym (below_yes (mem (Word.Item i ItemField.Passed)) (further c + 1) (omega (arith, some, eqb-false (mem (Word.Item i ItemField.Passed)) (groups c) e, most)))

all_busy : (c : Config) (mem : Word → ℕ) (n : ℕ) → 0 < groups c → ((i : ℕ) → i < n → mem (Word.Item i ItemField.Passed) ≤ further c + 1) → busy_below c mem n ≡ total n (λ (i : ℕ). below (mem (Word.Item i ItemField.Passed)) (further c + 1))
all_busy c mem zero some most = sym (total_zero (λ (i : ℕ). below (mem (Word.Item i ItemField.Passed)) (further c + 1)))
all_busy c mem (suc n) some most = omega (arith, one_busy c mem n some (most n (omega arith)), all_busy c mem n some (λ i l. most i (omega (arith, l))), total_suc n (λ (i : ℕ). below (mem (Word.Item i ItemField.Passed)) (further c + 1)))

-- a node in preparation, by the step of the service
record Preparing (e : Entry) (from : ℕ) (service : Sending) (x : ℕ) : Type 0 where
  begun : IsBegun service
  low : 7 ≤ (enq_in e from service).stage
  high : (enq_in e from service).stage ≤ 10
  found_is : (enq_in e from service).found ≡ x

preparing_is : (e : Entry) (from : ℕ) (service : Sending) (x : ℕ) → IsPreparing service x → Preparing e from service x
preparing_is e from (Sending.ResetItemNext parcel at) x h = record { begun = tt; low = omega arith; high = omega arith; found_is = h }
preparing_is e from (Sending.WriteItemTag parcel at) x h = record { begun = tt; low = omega arith; high = omega arith; found_is = h }
preparing_is e from (Sending.WriteItemBody parcel at i) x h = record { begun = tt; low = omega arith; high = omega arith; found_is = h }
preparing_is e from (Sending.ReadLast count at) x h = record { begun = tt; low = omega arith; high = omega arith; found_is = h }
preparing_is e from (Sending.LinkItem count at last) x h = record { begun = tt; low = omega arith; high = omega arith; found_is = h }
preparing_is e from _ x h = absurd h

preparing_in : (e : Entry) (from : ℕ) (service : Sending) → 7 ≤ (enq_in e from service).stage → (enq_in e from service).stage ≤ 10 → IsPreparing service (enq_in e from service).found
preparing_in e from service low high = grind arith

preparing_at : (e : Entry) (from : ℕ) (at : Phase) → 7 ≤ (enq_at e from at).stage → (enq_at e from at).stage ≤ 10 → Prepares at (enq_at e from at).found
preparing_at e from (Phase.Sending job service) low high = preparing_in e from service low high
preparing_at e from _ low high = absurd (omega (arith, low))

module _ (c : Config) (moves : List Move) (a : AfterRun c moves) where
  abbrev s : State
  s = reached (lists c) moves

  abbrev k : Parts c s (linked_nodes (lists c) moves)
  k = a.parts

  abbrev g : Ghosts
  g = ghosts_at c s k

  abbrev i : LInv c.capacity c.life (further c + 1) (queue_of s k.duty) g
  i = k.list

  handed_least : handed_to_all s.history ≡ g.least
  handed_least = sym (parts_least c s k)

  passed_most : (x : ℕ) → x < c.capacity + 1 → s.mem (Word.Item x ItemField.Passed) ≤ further c + 1
  passed_most x l = busy.passed_most c.capacity c.life (further c + 1) (queue_of s k.duty) g i x (omega (arith, l))

  busy_items : ((p x : ℕ) → Prepares (s.stand p).phase x → ⊥) → busy_below c s.mem (c.capacity + 1) + handed_to_all s.history ≡ length (accepted s.history) + 1
  busy_items none =
      let rest : (x : ℕ) → x ≤ c.capacity → g.role x ≢ 1 = λ x l one. none k.duty.e_pass _ (preparing_at k.duty.e_call k.duty.from (s.stand k.duty.e_pass).phase (i.nodes.prep_low x l one) (i.nodes.prep_high x l one)) in
      omega (arith, all_busy c s.mem (c.capacity + 1) k.ties.some passed_most, busy.busy_nodes_are c.capacity c.life (further c + 1) (queue_of s k.duty) g i, busy.busy_count c.capacity c.life (further c + 1) (queue_of s k.duty) g i rest, handed_least)

  -- while a node is in preparation
  module _ (p : ℕ) (job : Job) (service : Sending) (x : ℕ) (stands : (s.stand p).phase ≡ Phase.Sending job service) (prepares : IsPreparing service x) where
    here : Preparing k.duty.e_call k.duty.from service x
    here = preparing_is k.duty.e_call k.duty.from service x prepares

    v : LInv c.capacity c.life (further c + 1) (send_queue c s p job service stands here.begun k) g
    v = send_holds c s p job service stands here.begun k

    -- the node is ordinary, and has that role
    prepared : (x ≤ c.capacity) × (g.role x ≡ 1)
    prepared = (omega (arith, here.found_is, v.found.found_in (omega (arith, here.low)) (omega (arith, here.high))), ap g.role (sym here.found_is) ∙ v.found.found_role here.low here.high)

    busy_prepared : busy_below c s.mem (c.capacity + 1) + handed_to_all s.history ≡ length (accepted s.history) + 2
    busy_prepared =
        omega (arith, all_busy c s.mem (c.capacity + 1) k.ties.some passed_most, busy.busy_nodes_are c.capacity c.life (further c + 1) (send_queue c s p job service stands here.begun k) g v, busy.busy_count_prep c.capacity c.life (further c + 1) (send_queue c s p job service stands here.begun k) g v here.low here.high, handed_least)

  prepared_at : (at : Phase) (p x : ℕ) → (s.stand p).phase ≡ at → Prepares at x → (x ≤ c.capacity) × (g.role x ≡ 1)
  prepared_at (Phase.Sending job service) p x stands h = prepared p job service x stands h
  prepared_at _ p x stands h = absurd h

  busy_at : (at : Phase) (p x : ℕ) → (s.stand p).phase ≡ at → Prepares at x → busy_below c s.mem (c.capacity + 1) + handed_to_all s.history ≡ length (accepted s.history) + 2
  busy_at (Phase.Sending job service) p x stands h = busy_prepared p job service x stands h
  busy_at _ p x stands h = absurd h

  -- ---- reuse

  module _ (p : ℕ) (job : Job) (parcel : Parcel) (x : ℕ) (stands : (s.stand p).phase ≡ Phase.Sending job (Sending.ResetPassed parcel x)) where
    j : LInv c.capacity c.life (further c + 1) (send_queue c s p job (Sending.ResetPassed parcel x) stands tt k) g
    j = send_holds c s p job (Sending.ResetPassed parcel x) stands tt k

    free : s.mem (Word.Item x ItemField.Passed) ≡ further c + 1
    free = j.found.found_free refl

    reset_past : (n : ℕ) → slice_get (linked_nodes (lists c) moves) n ≡ Some x → n < handed_to_all s.history
    reset_past n is =
        let within : n ≤ g.accepted = omega (arith, slice_get_within (linked_nodes (lists c) moves) n x is, a.parts.ties.linked) in
        let same : g.node n ≡ x = get_or_from_slice_get (linked_nodes (lists c) moves) n x 0 is in
        grind (arith, handed_least, live n within)
      where
        live : (n : ℕ) → n ≤ g.accepted → g.least ≤ n → g.node n ≡ x → ⊥
        live n high low same = grind (arith, same, free, j.live.live_in n, j.live.live_role n, j.live.live_pos n, j.nodes.passed_is x, j.hands.by_some n)

  -- a node in preparation has left the list
  prepared_past : (job : Job) (p x n : ℕ) (parcel : Parcel) → (s.stand p).phase ≡ Phase.Sending job (Sending.ResetItemNext parcel x) → slice_get (linked_nodes (lists c) moves) n ≡ Some x → n < handed_to_all s.history
  prepared_past job p x n parcel stands is =
      let role : g.role x ≡ 1 = (prepared p job (Sending.ResetItemNext parcel x) x stands refl).1 in
      let within : n ≤ g.accepted = omega (arith, slice_get_within (linked_nodes (lists c) moves) n x is, a.parts.ties.linked) in
      let same : g.node n ≡ x = get_or_from_slice_get (linked_nodes (lists c) moves) n x 0 is in
      grind (arith, handed_least, i.live.live_role n)

  resets : (at : Phase) (p x n : ℕ) → (s.stand p).phase ≡ at → slice_get (linked_nodes (lists c) moves) n ≡ Some x → Resets at x → n < handed_to_all s.history
  resets at p x n stands is same = grind (arith, reset_past p, prepared_past)

  -- ---- what a take holds isn't in preparation

  -- the group of a pass that takes
  pub record Taker (p : ℕ) : Type 0 where
    pub group : ℕ
    pub chain : chain_of c p ≡ Chain.Take group
    pub inside : group < groups c

  not_idle : (p : ℕ) (job : Job) (service : Taking) → (s.stand p).phase ≡ Phase.Taking job service → p < passes (lists c)
  not_idle p job service stands = grind (arith, a.posts.outside p)

  pub taker : (p : ℕ) (job : Job) (service : Taking) → (s.stand p).phase ≡ Phase.Taking job service → Taker p
  taker p job service stands = elim (of_side c p) [
    | inl of ↦ absurd (subst (λ (x : Chain). IsTakes x) of.chain_is (subst (λ (z : Phase). Well s.history (chain_of c p) (pass_at c p) (s.stand p).begun z) stands (a.posts.well p)))
    | inr of ↦ record { group = (p - c.senders) / c.receivers; chain = of.chain_is; inside = group_in c p (not_idle p job service stands) of }
  ]

  module _ (p : ℕ) (job : Job) (service : Taking) (stands : (s.stand p).phase ≡ Phase.Taking job service) where
    abbrev y : ℕ
    y = (taker p job service stands).group

    group_below : y < further c + 1
    group_below = omega (arith, (taker p job service stands).inside, k.ties.some)

    regs : regs_of s.stand k.duty y ≡ regs_in service
    regs = take_regs c s p y (taker p job service stands).chain job service stands k

    stage : (regs_of s.stand k.duty y).stage ≡ (regs_in service).stage
    stage = ap (λ (z : Regs). z.stage) regs

    dummy_linked : 2 ≤ (regs_in service).stage → g.role (regs_in service).dummy ≡ 2
    dummy_linked low = ap (λ (z : Regs). g.role z.dummy) (sym regs) ∙ limits.dummy_kept c.capacity c.life (further c + 1) (queue_of s k.duty) g i y group_below (omega (arith, low, stage))

    after_linked : (x : ℕ) → 4 ≤ (regs_in service).stage → (regs_in service).stage ≤ 5 → x + 1 ≡ (regs_in service).after → x ≤ c.capacity → g.role x ≡ 2
    after_linked x low high is within =
        let low' : 4 ≤ (regs_of s.stand k.duty y).stage = omega (arith, low, stage) in
        let high' : (regs_of s.stand k.duty y).stage ≤ 5 = omega (arith, high, stage) in
        let same' : (regs_of s.stand k.duty y).after ≡ (regs_in service).after = ap (λ (z : Regs). z.after) regs in
        elim (cases_lt (g.handed y) g.accepted) [
          | inl more ↦
              let same : x ≡ g.node (g.handed y + 1) = omega (arith, is, same', i.takes.after_is y group_below low' high' more) in
              ap g.role same ∙ i.live.live_role (g.handed y + 1) (omega (arith, i.hands.least_is y group_below)) (omega (arith, more))
          | inr less ↦ absurd (omega (arith, is, within, same', i.takes.after_mark y group_below low' (omega (arith, less, i.hands.order y group_below))))
        ]

    head_in : service ≡ Taking.ReadHead → NamesNode c (s.mem (Word.Object (Object.Head (group_of (chain_of c p)))))
    head_in e =
        let l : (0 < s.mem (Word.Object (Object.Head y))) × (s.mem (Word.Object (Object.Head y)) ≤ c.capacity + 1) = limits.head_link c.capacity c.life (further c + 1) (queue_of s k.duty) g i y group_below (stage ∙ ap (λ (z : Taking). (regs_in z).stage) e) in
        subst (λ (z : Chain). NamesNode c (s.mem (Word.Object (Object.Head (group_of z))))) (sym (taker p job service stands).chain) (omega (arith, l.0), l.1)

    next_in : (dummy taken : ℕ) → service ≡ Taking.ReadDummyNext dummy taken → s.mem (Word.Item dummy ItemField.Next) ≤ c.capacity + 2
    next_in dummy taken e =
        let same : (regs_of s.stand k.duty y).dummy ≡ dummy = ap (λ (z : Regs). z.dummy) (regs ∙ ap regs_in e) in
        subst (λ (z : ℕ). s.mem (Word.Item z ItemField.Next) ≤ c.capacity + 2) same (limits.next_link c.capacity c.life (further c + 1) (queue_of s k.duty) g i y group_below (stage ∙ ap (λ (z : Taking). (regs_in z).stage) e))

  held_linked : (service : Taking) (p : ℕ) (job : Job) (x : ℕ) → (s.stand p).phase ≡ Phase.Taking job service → x ≤ c.capacity → Holds service x → g.role x ≡ 2
  held_linked Taking.ReadHead p job x stands within h = absurd h
  held_linked (Taking.ReadTaken dummy) p job x stands within h = ap g.role (sym h) ∙ dummy_linked p job (Taking.ReadTaken dummy) stands (omega arith)
  held_linked (Taking.ReadDummyNext dummy taken) p job x stands within h = ap g.role (sym h) ∙ dummy_linked p job (Taking.ReadDummyNext dummy taken) stands (omega arith)
  held_linked (Taking.ReadItemTag dummy taken at) p job x stands within (inl h) = ap g.role (sym h) ∙ dummy_linked p job (Taking.ReadItemTag dummy taken at) stands (omega arith)
  held_linked (Taking.ReadItemTag dummy taken at) p job x stands within (inr h) = after_linked p job (Taking.ReadItemTag dummy taken at) stands x (omega arith) (omega arith) (omega (arith, h)) within
  held_linked (Taking.ReadItemBody dummy at parcel i) p job x stands within (inl h) = ap g.role (sym h) ∙ dummy_linked p job (Taking.ReadItemBody dummy at parcel i) stands (omega arith)
  held_linked (Taking.ReadItemBody dummy at parcel i) p job x stands within (inr h) = after_linked p job (Taking.ReadItemBody dummy at parcel i) stands x (omega arith) (omega arith) (omega (arith, h)) within
  held_linked (Taking.WriteHead dummy at parcel) p job x stands within (inl h) = ap g.role (sym h) ∙ dummy_linked p job (Taking.WriteHead dummy at parcel) stands (omega arith)
  held_linked (Taking.WriteHead dummy at parcel) p job x stands within (inr h) = after_linked p job (Taking.WriteHead dummy at parcel) stands x (omega arith) (omega arith) (omega (arith, h)) within
  held_linked (Taking.WriteTaken dummy parcel) p job x stands within h = ap g.role (sym h) ∙ dummy_linked p job (Taking.WriteTaken dummy parcel) stands (omega arith)
  held_linked (Taking.AddPassed dummy parcel) p job x stands within h = ap g.role (sym h) ∙ dummy_linked p job (Taking.AddPassed dummy parcel) stands (omega arith)

  held_at : (at : Phase) (p x : ℕ) → (s.stand p).phase ≡ at → x ≤ c.capacity → HoldsAt at x → g.role x ≡ 2
  held_at (Phase.Taking job service) p x stands within h = held_linked service p job x stands within h
  held_at _ p x stands within h = absurd h

  alone : (p q x : ℕ) → Prepares (s.stand p).phase x → HoldsAt (s.stand q).phase x → ⊥
  alone p q x prepares holds =
      let one : (x ≤ c.capacity) × (g.role x ≡ 1) = prepared_at (s.stand p).phase p x refl prepares in
      let two = held_at (s.stand q).phase q x refl one.0 holds in omega (arith, one, two)

  -- ---- links and scans

  finds : (at : Phase) (p : ℕ) → (s.stand p).phase ≡ at → FindsNode c s (chain_of c p) at
  finds (Phase.Sending job (Sending.ReadLastToClose total)) p stands =
      let l : (0 < s.mem _) × (s.mem _ ≤ c.capacity + 1) = limits.lastc_link c.capacity c.life (further c + 1) _ g (send_holds c s p job (Sending.ReadLastToClose total) stands tt k) refl in (omega (arith, l.0), l.1)
  finds (Phase.Sending job (Sending.ReadLast count at)) p stands =
      let l : (0 < s.mem _) × (s.mem _ ≤ c.capacity + 1) = limits.last_link c.capacity c.life (further c + 1) _ g (send_holds c s p job (Sending.ReadLast count at) stands tt k) refl in
      ((omega (arith, l.0), l.1), (send_holds c s p job (Sending.ReadLast count at) stands tt k).found.found_in (omega arith) (omega arith))
  finds (Phase.Sending job (Sending.ReadCursor parcel)) p stands = (send_holds c s p job (Sending.ReadCursor parcel) stands tt k).words.cursor_in
  finds (Phase.Sending job (Sending.ReadPassed parcel at reads)) p stands =
      let scanned : Scanned c k.duty.from at reads = (send_reads c s p job (Sending.ReadPassed parcel at reads) stands tt k).1 in scanned.within
  finds (Phase.Sending job (Sending.ResetPassed parcel at)) p stands = (send_holds c s p job (Sending.ResetPassed parcel at) stands tt k).found.found_in (omega arith) (omega arith)
  finds (Phase.Sending job (Sending.ResetItemNext parcel at)) p stands = (send_holds c s p job (Sending.ResetItemNext parcel at) stands tt k).found.found_in (omega arith) (omega arith)
  finds (Phase.Sending job (Sending.WriteItemTag parcel at)) p stands = (send_holds c s p job (Sending.WriteItemTag parcel at) stands tt k).found.found_in (omega arith) (omega arith)
  finds (Phase.Sending job (Sending.WriteItemBody parcel at i)) p stands = (send_holds c s p job (Sending.WriteItemBody parcel at i) stands tt k).found.found_in (omega arith) (omega arith)
  finds (Phase.Sending job (Sending.LinkItem count at last)) p stands = (send_holds c s p job (Sending.LinkItem count at last) stands tt k).found.found_in (omega arith) (omega arith)
  finds (Phase.Sending job (Sending.WriteLast count at)) p stands = (send_holds c s p job (Sending.WriteLast count at) stands tt k).found.found_in (omega arith) (omega arith)
  finds (Phase.Sending job (Sending.WriteCount count at)) p stands = (send_holds c s p job (Sending.WriteCount count at) stands tt k).found.found_in (omega arith) (omega arith)
  finds (Phase.Sending job (Sending.WriteCursor count at)) p stands = (send_holds c s p job (Sending.WriteCursor count at) stands tt k).found.found_in (omega arith) (omega arith)
  finds (Phase.Taking job Taking.ReadHead) p stands = head_in p job Taking.ReadHead stands refl
  finds (Phase.Taking job (Taking.ReadDummyNext dummy taken)) p stands = next_in p job (Taking.ReadDummyNext dummy taken) stands dummy taken refl
  finds _ p stands = tt

  scans : (at : Phase) (p : ℕ) → (s.stand p).phase ≡ at → scan_reads at ≤ c.capacity + 1
  scans (Phase.Sending job (Sending.ReadPassed parcel at reads)) p stands =
      let scanned : Scanned c k.duty.from at reads = (send_reads c s p job (Sending.ReadPassed parcel at reads) stands tt k).1 in scanned.most
  scans _ p stands = omega arith

-- ---- the laws

pub busy_nodes_are_items : BusyNodesAreItems
busy_nodes_are_items c moves serves checked run =
    of_setting (λ (z : Setting). config_fault z.config ≡ Ok tt → IsRun z moves → ((p x : ℕ) → Prepares ((reached z moves).stand p).phase x → ⊥)
    → busy_below z.config (reached z moves).mem (z.config.capacity + 1) + handed_to_all (reached z moves).history ≡ length (accepted (reached z moves).history) + 1) c serves
    (λ ok r. busy_items c.config moves (after_runs c.config (in_range c.config ok) moves r)) checked run

pub prepared_node_is_busy : PreparedNodeIsBusy
prepared_node_is_busy c moves serves checked run =
    of_setting (λ (z : Setting). config_fault z.config ≡ Ok tt → IsRun z moves → (p x : ℕ) → Prepares ((reached z moves).stand p).phase x
    → busy_below z.config (reached z moves).mem (z.config.capacity + 1) + handed_to_all (reached z moves).history ≡ length (accepted (reached z moves).history) + 2) c serves
    (λ ok r p x. busy_at c.config moves (after_runs c.config (in_range c.config ok) moves r) ((reached (lists c.config) moves).stand p).phase p x refl) checked run

pub reset_after_the_take : ResetAfterTheTake
reset_after_the_take c moves serves checked run =
    of_setting (λ (z : Setting). config_fault z.config ≡ Ok tt → IsRun z moves → (p x k : ℕ) → Resets ((reached z moves).stand p).phase x → slice_get (linked_nodes z moves) k ≡ Some x → k < handed_to_all (reached z moves).history) c serves
    (λ ok r p x k resetting is. resets c.config moves (after_runs c.config (in_range c.config ok) moves r) ((reached (lists c.config) moves).stand p).phase p x k refl is resetting) checked run

pub prepared_alone : PreparedAlone
prepared_alone c moves serves checked run =
    of_setting (λ (z : Setting). config_fault z.config ≡ Ok tt → IsRun z moves → (p q x : ℕ) → Prepares ((reached z moves).stand p).phase x → HoldsAt ((reached z moves).stand q).phase x → ⊥) c serves
    (λ ok r. alone c.config moves (after_runs c.config (in_range c.config ok) moves r)) checked run

pub links_name_nodes : LinksNameNodes
links_name_nodes c moves serves checked run =
    of_setting (λ (z : Setting). config_fault z.config ≡ Ok tt → IsRun z moves → (p : ℕ) → FindsNode z.config (reached z moves) (chain_of z.config p) ((reached z moves).stand p).phase) c serves
    (λ ok r p. finds c.config moves (after_runs c.config (in_range c.config ok) moves r) ((reached (lists c.config) moves).stand p).phase p refl) checked run

pub scans_are_short : ScansAreShort
scans_are_short c moves serves checked run =
    of_setting (λ (z : Setting). config_fault z.config ≡ Ok tt → IsRun z moves → (p : ℕ) → scan_reads ((reached z moves).stand p).phase ≤ z.config.capacity + 1) c serves
    (λ ok r p. scans c.config moves (after_runs c.config (in_range c.config ok) moves r) ((reached (lists c.config) moves).stand p).phase p refl) checked run
