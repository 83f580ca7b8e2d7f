-- A step of a service finds its words, and no number of the list leaves its range.
use Rattle.std.proofs.Common.{List, ◌≡◌, ℕ, suc, ◌+◌, ◌<◌, ◌≤◌, ◌&&◌, Bool, nat_lt, inl, inr, IsTrue, refl, sym, ap, ◌∙◌, subst, arith}
use Rattle.std.proofs.lemmas.Bool.{cases_eq, cases_lt, lt-ltb}
use Rattle.cc_runs.specs.Names.{Config, Chain, ItemField, Word, Job, Parcel, Phase, Sending, Taking}
use Rattle.cc_runs.specs.Words.{groups, layout_of, is_item_field, exists}
use Rattle.cc_runs.proofs.Bodies.{few_further}
use Rattle.cc_runs.proofs.Chains.Safe.{four_words}
use Rattle.cc_runs.specs.State.{State, chain_of}
use Rattle.cc_runs.specs.Ready.{IsSafe}
use Rattle.cc_runs.proofs.Ranges.{InRange}
use Rattle.cc_runs.proofs.LinkedList.Queue.{Queue, Enq, Ghosts}
use Rattle.cc_runs.proofs.LinkedList.Invariant.{LInv}
use Rattle.cc_runs.proofs.LinkedList.Limits as limits
use Rattle.cc_runs.proofs.ListRuns.View.{Duty, Regs, enq_in, enq_at, regs_in, regs_at, regs_of, queue_from}
use Rattle.cc_runs.proofs.ListRuns.Ties.{further, Reads, ReadsAt, IsBegun, IsServing, IsTaking, Scanned}
use Rattle.cc_runs.proofs.ListRuns.Facts.{lists}
use Rattle.cc_runs.proofs.ListRuns.Invariant.{Parts, ghosts_at}

pub item_exists : (c : Config) (i : ℕ) (f : ItemField) → IsTrue (is_item_field f) → i ≤ c.capacity + 1 → IsTrue (exists (layout_of c) (Word.Item i f))
item_exists c i f part l = ap (λ (b : Bool). b && is_item_field f) (lt-ltb i (c.capacity + 2) (omega (arith, l))) ∙ part

-- ---- the list's invariant, if pass p serves a send or a close

module _ (c : Config) (s : State) (p : ℕ) (job : Job) (service : Sending) (stands : (s.stand p).phase ≡ Phase.Sending job service) (on : IsBegun service) {nodes : List ℕ} (k : Parts c s nodes) where
  abbrev d : Duty
  d = k.duty

  mine : p ≡ d.e_pass
  mine = elim (cases_eq p d.e_pass) [ inl e ↦ e | inr ne ↦ absurd (k.serving.e_only p ne (subst (λ (z : Phase). IsServing z) (sym stands) on)) ]

  stands_there : (s.stand d.e_pass).phase ≡ Phase.Sending job service
  stands_there = ap (λ (q : ℕ). (s.stand q).phase) (sym mine) ∙ stands

  abbrev pub send_queue : Queue
  send_queue = queue_from s.mem d (enq_in d.e_call d.from service) (regs_of s.stand d)

  pub send_holds : LInv c.capacity c.life (further c + 1) send_queue (ghosts_at c s k)
  send_holds = subst (λ (z : Phase). LInv c.capacity c.life (further c + 1) (queue_from s.mem d (enq_at d.e_call d.from z) (regs_of s.stand d)) (ghosts_at c s k)) stands_there k.list

  pub send_reads : Reads c d.e_call d.from service
  send_reads = subst (λ (z : Phase). ReadsAt c d.e_call d.from z) stands_there k.serving.reads

-- ---- and if it serves a take of group y

module _ (c : Config) (s : State) (p y : ℕ) (chain : chain_of c p ≡ Chain.Take y) (job : Job) (service : Taking) (stands : (s.stand p).phase ≡ Phase.Taking job service) {nodes : List ℕ} (k : Parts c s nodes) where
  mine_take : p ≡ k.duty.d_pass y
  mine_take = elim (cases_eq p (k.duty.d_pass y)) [ inl e ↦ e | inr ne ↦ absurd (k.serving.d_only y p chain ne (subst (λ (z : Phase). IsTaking z) (sym stands) tt)) ]

  -- the registers of the group's service
  pub take_regs : regs_of s.stand k.duty y ≡ regs_in service
  take_regs = ap regs_at (ap (λ (q : ℕ). (s.stand q).phase) (sym mine_take) ∙ stands)

-- ---- a node that the services name is there

module _ (c : Config) (mem : Word → ℕ) (d : Duty) (e : Enq) (r : ℕ → Regs) (g : Ghosts) (i : LInv c.capacity c.life (further c + 1) (queue_from mem d e r) g) where
  least_last : g.node g.accepted ≤ c.capacity
  least_last = i.live.live_in g.accepted i.hands.least_in (omega arith)

  dummy_in : (y : ℕ) → y < further c + 1 → 2 ≤ (r y).stage → (r y).dummy ≤ c.capacity
  dummy_in y l low = omega (arith, i.heads.dummy_is y l low, i.live.live_in (g.handed y) (i.hands.least_is y l) (i.hands.order y l))

  after_in : (y : ℕ) → y < further c + 1 → 4 ≤ (r y).stage → (r y).stage ≤ 5 → (r y).after ≤ c.capacity + 2
  after_in y l low high = grind (arith, i.takes.after_is y l low high, i.live.live_in (g.handed y + 1), i.hands.least_is y l, i.takes.after_mark y l low, i.hands.order y l)

-- ---- each step of the two services, but for the loads of a request

module _ (c : Config) (r : InRange c) (s : State) (p : ℕ) {nodes : List ℕ} (k : Parts c s nodes) where
  pub send_safe : (own : ℕ) (job : Job) (service : Sending) → (s.stand p).phase ≡ Phase.Sending job service → IsBegun service → IsSafe (lists c) s Chain.Send own (Phase.Sending job service)
  send_safe own job Sending.ReadTag e on = absurd on
  send_safe own job (Sending.ReadBody request i) e on = absurd on
  send_safe own job (Sending.ReadLastToClose total) e on = record { word = refl; numbers = (limits.lastc_link c.capacity c.life (further c + 1) _ (ghosts_at c s k) (send_holds c s p job (Sending.ReadLastToClose total) e tt k) refl).0 }
  send_safe own job (Sending.ReadLast count at) e on = record { word = refl; numbers = (limits.last_link c.capacity c.life (further c + 1) _ (ghosts_at c s k) (send_holds c s p job (Sending.ReadLast count at) e tt k) refl).0 }
  send_safe own job (Sending.LinkMark total last) e on =
      let i = send_holds c s p job (Sending.LinkMark total last) e tt k in record { word = item_exists c last ItemField.Next refl (omega (arith, i.prepared.last_mark refl, least_last c s.mem k.duty _ _ (ghosts_at c s k) i)); numbers = tt }
  send_safe own job (Sending.ReadPassed parcel at reads) e on =
      let scanned : Scanned c k.duty.from at reads = (send_reads c s p job (Sending.ReadPassed parcel at reads) e tt k).1 in
      record { word = item_exists c at ItemField.Passed refl (omega (arith, scanned.within)); numbers = omega (arith, scanned.most, r.capacity) }
  send_safe own job (Sending.ResetPassed parcel at) e on =
      let i = send_holds c s p job (Sending.ResetPassed parcel at) e tt k in record { word = item_exists c at ItemField.Passed refl (omega (arith, i.found.found_in (omega arith) (omega arith))); numbers = tt }
  send_safe own job (Sending.ResetItemNext parcel at) e on =
      let i = send_holds c s p job (Sending.ResetItemNext parcel at) e tt k in record { word = item_exists c at ItemField.Next refl (omega (arith, i.found.found_in (omega arith) (omega arith))); numbers = tt }
  send_safe own job (Sending.WriteItemTag parcel at) e on =
      let i = send_holds c s p job (Sending.WriteItemTag parcel at) e tt k in record { word = item_exists c at ItemField.Tag refl (omega (arith, i.found.found_in (omega arith) (omega arith))); numbers = tt }
  send_safe own job (Sending.WriteItemBody parcel at i) e on =
      let v = send_holds c s p job (Sending.WriteItemBody parcel at i) e tt k in record { word = item_exists c at (ItemField.Body i) (four_words i parcel.tag (send_reads c s p job (Sending.WriteItemBody parcel at i) e tt k).1) (omega (arith, v.found.found_in (omega arith) (omega arith))); numbers = tt }
  send_safe own job (Sending.LinkItem count at last) e on =
      let i = send_holds c s p job (Sending.LinkItem count at last) e tt k in record { word = item_exists c last ItemField.Next refl (omega (arith, i.prepared.last_item refl, least_last c s.mem k.duty _ _ (ghosts_at c s k) i)); numbers = omega (arith, i.found.found_in (omega arith) (omega arith), r.capacity) }
  send_safe own job (Sending.WriteLast count at) e on =
      let i = send_holds c s p job (Sending.WriteLast count at) e tt k in record { word = refl; numbers = omega (arith, i.found.found_in (omega arith) (omega arith), r.capacity) }
  send_safe own job (Sending.WriteCount count at) e on =
      let i = send_holds c s p job (Sending.WriteCount count at) e tt k in record { word = refl; numbers = omega (arith, limits.count_fits c.capacity c.life (further c + 1) _ (ghosts_at c s k) i refl, r.life) }
  send_safe own job (Sending.WriteCursor count at) e on =
      let i = send_holds c s p job (Sending.WriteCursor count at) e tt k in record { word = refl; numbers = omega (arith, i.found.found_in (omega arith) (omega arith), r.capacity) }
  send_safe own job service e on = record { word = refl; numbers = tt }

  module _ (y : ℕ) (chain : chain_of c p ≡ Chain.Take y) (inside : y < groups c) where
    below : y < further c + 1
    below = omega (arith, inside, k.ties.some)

    word_in : IsTrue (nat_lt y (groups c))
    word_in = lt-ltb y (groups c) inside

    dummy_at : (job : Job) (service : Taking) → (s.stand p).phase ≡ Phase.Taking job service → 2 ≤ (regs_in service).stage → (regs_in service).dummy ≤ c.capacity
    dummy_at job service e low =
        let same = take_regs c s p y chain job service e k in
        subst (λ (z : Regs). z.dummy ≤ c.capacity) same (dummy_in c s.mem k.duty _ (regs_of s.stand k.duty) (ghosts_at c s k) k.list y below (subst (λ (z : Regs). 2 ≤ z.stage) (sym same) low))

    after_at : (job : Job) (service : Taking) → (s.stand p).phase ≡ Phase.Taking job service → 4 ≤ (regs_in service).stage → (regs_in service).stage ≤ 5 → (regs_in service).after ≤ c.capacity + 2
    after_at job service e low high =
        let same = take_regs c s p y chain job service e k in
        subst (λ (z : Regs). z.after ≤ c.capacity + 2) same
        (after_in c s.mem k.duty _ (regs_of s.stand k.duty) (ghosts_at c s k) k.list y below (subst (λ (z : Regs). 4 ≤ z.stage) (sym same) low) (subst (λ (z : Regs). z.stage ≤ 5) (sym same) high))

    stage_at : (job : Job) (service : Taking) → (s.stand p).phase ≡ Phase.Taking job service → (regs_of s.stand k.duty y).stage ≡ (regs_in service).stage
    stage_at job service e = ap (λ (z : Regs). z.stage) (take_regs c s p y chain job service e k)

    -- a word of an item's body that its tag counts
    word_at : (job : Job) (dummy at : ℕ) (parcel : Parcel) (i : ℕ) → (s.stand p).phase ≡ Phase.Taking job (Taking.ReadItemBody dummy at parcel i) → i < 4
    word_at job dummy at parcel i e =
        let is : regs_of s.stand k.duty y ≡ regs_in (Taking.ReadItemBody dummy at parcel i) = take_regs c s p y chain job (Taking.ReadItemBody dummy at parcel i) e k in
        let stage : (regs_of s.stand k.duty y).stage ≡ 4 = ap (λ (z : Regs). z.stage) is in
        let got : (regs_of s.stand k.duty y).got ≡ suc i = ap (λ (z : Regs). z.got) is in
        elim (cases_lt ((ghosts_at c s k).handed y) (ghosts_at c s k).accepted) [
          | inl more ↦
              omega (arith, got, k.list.takes.read_more y below stage more, k.list.links.long_is ((ghosts_at c s k).handed y) more, few_further (k.kept.items ((ghosts_at c s k).handed y) 0))
          | inr less ↦ absurd (omega (arith, got, k.list.takes.read_none y below stage (omega (arith, less, k.list.hands.order y below))))
        ]

    pub take_safe : (own : ℕ) (job : Job) (service : Taking) → (s.stand p).phase ≡ Phase.Taking job service → IsSafe (lists c) s (Chain.Take y) own (Phase.Taking job service)
    take_safe own job Taking.ReadHead e = record { word = word_in; numbers = (limits.head_link c.capacity c.life (further c + 1) _ (ghosts_at c s k) k.list y below (stage_at job Taking.ReadHead e)).0 }
    take_safe own job (Taking.ReadTaken dummy) e = record { word = word_in; numbers = tt }
    take_safe own job (Taking.ReadDummyNext dummy taken) e = record { word = item_exists c dummy ItemField.Next refl (omega (arith, dummy_at job (Taking.ReadDummyNext dummy taken) e (omega arith))); numbers = tt }
    take_safe own job (Taking.ReadItemTag dummy taken at) e = record { word = item_exists c at ItemField.Tag refl (omega (arith, after_at job (Taking.ReadItemTag dummy taken at) e (omega arith) (omega arith))); numbers = tt }
    take_safe own job (Taking.ReadItemBody dummy at parcel i) e =
        record { word = item_exists c at (ItemField.Body i) (lt-ltb i 4 (word_at job dummy at parcel i e)) (omega (arith, after_at job (Taking.ReadItemBody dummy at parcel i) e (omega arith) (omega arith))); numbers = tt }
    take_safe own job (Taking.WriteHead dummy at parcel) e = record { word = word_in; numbers = omega (arith, after_at job (Taking.WriteHead dummy at parcel) e (omega arith) (omega arith), r.capacity) }
    take_safe own job (Taking.WriteTaken dummy parcel) e =
        let seen : (regs_of s.stand k.duty y).seen ≡ parcel.place = ap (λ (z : Regs). z.seen) (take_regs c s p y chain job (Taking.WriteTaken dummy parcel) e k) in
        record { word = word_in; numbers = omega (arith, seen, limits.taken_fits c.capacity c.life (further c + 1) _ (ghosts_at c s k) k.list y below (stage_at job (Taking.WriteTaken dummy parcel) e), r.life) }
    take_safe own job (Taking.AddPassed dummy parcel) e =
        let at : (regs_of s.stand k.duty y).dummy ≡ dummy = ap (λ (z : Regs). z.dummy) (take_regs c s p y chain job (Taking.AddPassed dummy parcel) e k) in
        let few = limits.passed_fits c.capacity c.life (further c + 1) _ (ghosts_at c s k) k.list y below (stage_at job (Taking.AddPassed dummy parcel) e) in
        record { word = item_exists c dummy ItemField.Passed refl (omega (arith, dummy_at job (Taking.AddPassed dummy parcel) e (omega arith))); numbers = omega (arith, subst (λ (z : ℕ). s.mem (Word.Item z ItemField.Passed) + 1 ≤ further c + 1) at few, r.groups) }
