-- No step makes a count less.
use Rattle.std.proofs.Common.{◌≡◌, ◌≢◌, ℕ, ◌+◌, ◌*◌, ◌<◌, ◌≤◌, List, [], ◌∷◌, ◌++◌, refl, sym, ap, subst, arith}
use Rattle.cc_runs.specs.MachineLaws.{linked_nodes}
use Rattle.cc_runs.specs.Names.{Config, Chain, Object as Obj, Word, Phase, Sending, Taking, Job, Parcel, Move}
use Rattle.cc_runs.specs.Words.{groups, put, object_number}
use Rattle.cc_runs.specs.State.{State, chain_of, stored}
use Rattle.cc_runs.specs.Lines.{operation}
use Rattle.cc_runs.specs.Run.{passes, reached, IsRun}
use Rattle.cc_runs.specs.Counts.{CountsNoLess}
use Rattle.cc_runs.proofs.Ranges.{InRange}
use Rattle.cc_runs.proofs.Chains.Serving.{chains_hold, counting_where}
use Rattle.cc_runs.proofs.LinkedList.Invariant.{LInv}
use Rattle.cc_runs.proofs.ListRuns.View.{Regs, object_here, object_other, regs_of, regs_in, queue_of}
use Rattle.cc_runs.proofs.ListRuns.Ties.{further}
use Rattle.cc_runs.proofs.ListRuns.Facts.{lists}
use Rattle.cc_runs.proofs.ListRuns.Invariant.{Parts, ghosts_at}
use Rattle.cc_runs.proofs.ListRuns.Runs.{AfterRun}
use Rattle.cc_runs.proofs.ListRuns.FromChains.{after_runs}
use Rattle.cc_runs.proofs.ListRuns.Laws.{Taker, taker}
use Rattle.cc_runs.proofs.ListRuns.Safe.{send_queue, send_holds, take_regs}
use Rattle.cc_runs.proofs.Counts.State.{mark_few}

-- words of which none is less
pub record NoLess (n : ℕ) (mem later : Word → ℕ) : Type 0 where
  pub count : mem (Word.Object Obj.Count) ≤ later (Word.Object Obj.Count)
  pub taken : (g : ℕ) → g < n → mem (Word.Object (Obj.Taken g)) ≤ later (Word.Object (Obj.Taken g))
  pub mark : mem (Word.Object Obj.Shut) ≤ later (Word.Object Obj.Shut)

-- a store to another word of the list
other_object : (n : ℕ) (mem : Word → ℕ) (o : Obj) (value : ℕ) → object_number o ≢ 2 → object_number o ≢ 1 → ((g : ℕ) → object_number o ≢ 5 + 2 * g) → NoLess n mem (put mem (Word.Object o) value)
other_object n mem o value count mark taken = record {
  count = omega (arith, object_other mem o Obj.Count value count);
  taken = λ g inside. omega (arith, object_other mem o (Obj.Taken g) value (taken g));
  mark = omega (arith, object_other mem o Obj.Shut value mark);
}

module _ (c : Config) (fits : InRange c) (moves : List Move) (run : IsRun (lists c) moves) where
  abbrev s : State
  s = reached (lists c) moves

  a : AfterRun c moves
  a = after_runs c fits moves run

  abbrev k : Parts c s (linked_nodes (lists c) moves)
  k = a.parts

  abbrev After : Chain → ℕ → Phase → Type 0
  After x own at = NoLess (groups c) s.mem (stored s.mem (operation (lists c) x own at))

  write_count : (p : ℕ) (x : Chain) (own : ℕ) (job : Job) (place node : ℕ) → (s.stand p).phase ≡ Phase.Sending job (Sending.WriteCount place node) → After x own (Phase.Sending job (Sending.WriteCount place node))
  write_count p x own job place node stands =
      let i : LInv c.capacity c.life (further c + 1) (send_queue c s p job (Sending.WriteCount place node) stands tt k) (ghosts_at c s k) = send_holds c s p job (Sending.WriteCount place node) stands tt k in
      record {
        count = omega (arith, i.request.seen_late (omega arith) (omega arith), i.words.count_late (omega arith) (omega arith), object_here s.mem Obj.Count (place + 1));
        taken = λ g inside. omega (arith, object_other s.mem Obj.Count (Obj.Taken g) (place + 1) (λ e. omega (arith, e)));
        mark = omega (arith, object_other s.mem Obj.Count Obj.Shut (place + 1) (λ e. omega (arith, e)));
      }

  write_shut : (x : Chain) (own : ℕ) (job : Job) (total : ℕ) → After x own (Phase.Sending job (Sending.WriteShut total))
  write_shut x own job total = record {
    count = omega (arith, object_other s.mem Obj.Shut Obj.Count 1 (λ e. omega (arith, e)));
    taken = λ g inside. omega (arith, object_other s.mem Obj.Shut (Obj.Taken g) 1 (λ e. omega (arith, e)));
    mark = omega (arith, mark_few c s k, object_here s.mem Obj.Shut 1);
  }

  sending : (p : ℕ) (x : Chain) (own : ℕ) (job : Job) (service : Sending) → (s.stand p).phase ≡ Phase.Sending job service → After x own (Phase.Sending job service)
  sending p x own job (Sending.WriteCount place node) stands = write_count p x own job place node stands
  sending p x own job (Sending.WriteShut total) stands = write_shut x own job total
  sending p x own job (Sending.WriteLastMark total) stands = other_object (groups c) s.mem Obj.Last _ (λ e. omega (arith, e)) (λ e. omega (arith, e)) (λ g e. omega (arith, e))
  sending p x own job (Sending.WriteLast place node) stands = other_object (groups c) s.mem Obj.Last _ (λ e. omega (arith, e)) (λ e. omega (arith, e)) (λ g e. omega (arith, e))
  sending p x own job (Sending.WriteCursor place node) stands = other_object (groups c) s.mem Obj.Cursor _ (λ e. omega (arith, e)) (λ e. omega (arith, e)) (λ g e. omega (arith, e))
  sending p x own job _ stands = record { count = omega arith; taken = λ g inside. omega arith; mark = omega arith }

  -- the count of a group's takes
  taken_up : (p : ℕ) (job : Job) (dummy : ℕ) (parcel : Parcel) → (s.stand p).phase ≡ Phase.Taking job (Taking.WriteTaken dummy parcel) → (t : Taker c moves a p) → s.mem (Word.Object (Obj.Taken t.group)) ≤ parcel.place + 1
  taken_up p job dummy parcel stands t =
      let i : LInv c.capacity c.life (further c + 1) (queue_of s k.duty) (ghosts_at c s k) = k.list in
      let below : t.group < further c + 1 = omega (arith, t.inside, k.ties.some) in
      let regs : regs_of s.stand k.duty t.group ≡ regs_in (Taking.WriteTaken dummy parcel) = take_regs c s p t.group t.chain job (Taking.WriteTaken dummy parcel) stands k in
      let six : (regs_of s.stand k.duty t.group).stage ≡ 6 = ap (λ (z : Regs). z.stage) regs in
      let seen : (regs_of s.stand k.duty t.group).seen ≡ parcel.place = ap (λ (z : Regs). z.seen) regs in
      omega (arith, six, seen, i.heads.seen_is t.group below (omega (arith, six)), i.heads.taken_is t.group below (omega (arith, six)))

  write_taken : (p y own : ℕ) (job : Job) (dummy : ℕ) (parcel : Parcel) → s.mem (Word.Object (Obj.Taken y)) ≤ parcel.place + 1 → After (Chain.Take y) own (Phase.Taking job (Taking.WriteTaken dummy parcel))
  write_taken p y own job dummy parcel up = record {
    count = omega (arith, object_other s.mem (Obj.Taken y) Obj.Count (parcel.place + 1) (λ e. omega (arith, e)));
    taken = λ g inside. grind (arith, object_here, object_other);
    mark = omega (arith, object_other s.mem (Obj.Taken y) Obj.Shut (parcel.place + 1) (λ e. omega (arith, e)));
  }

  taking : (p y own : ℕ) (job : Job) (service : Taking) → (s.stand p).phase ≡ Phase.Taking job service → (t : Taker c moves a p) → t.group ≡ y → After (Chain.Take y) own (Phase.Taking job service)
  taking p y own job (Taking.WriteTaken dummy parcel) stands t same = write_taken p y own job dummy parcel (subst (λ (z : ℕ). s.mem (Word.Object (Obj.Taken z)) ≤ parcel.place + 1) same (taken_up p job dummy parcel stands t))
  taking p y own job (Taking.WriteHead dummy at parcel) stands t same = other_object (groups c) s.mem (Obj.Head y) _ (λ e. omega (arith, e)) (λ e. omega (arith, e)) (λ g e. omega (arith, e))
  taking p y own job _ stands t same = record { count = omega arith; taken = λ g inside. omega arith; mark = omega arith }

  one_step : (p own : ℕ) (at : Phase) → p < passes (lists c) → (s.stand p).phase ≡ at → After (chain_of c p) own at
  one_step p own (Phase.Sending job service) less stands = sending p (chain_of c p) own job service stands
  one_step p own (Phase.Taking job service) less stands =
      let t : Taker c moves a p = taker c moves a p job service stands in
      subst (λ (x : Chain). After x own (Phase.Taking job service)) (sym t.chain) (taking p t.group own job service stands t refl)
  one_step p own (Phase.Counting job service) less stands = absurd (cc ((counting_where (lists c) s (chains_hold (lists c) (omega (arith, fits.bound)) moves run) p job service less stands).0))
  one_step p own _ less stands = record { count = omega arith; taken = λ g inside. omega arith; mark = omega arith }

  pub step_up : (p : ℕ) → p < passes (lists c) → NoLess (groups c) s.mem (reached (lists c) (Move.Step p ∷ moves)).mem
  step_up p less = one_step p (s.stand p).node (s.stand p).phase less refl

-- after more moves
pub grow : (c : Config) (fits : InRange c) (later seen : List Move) → IsRun (lists c) (later ++ seen) → CountsNoLess (lists c) (reached (lists c) seen) (reached (lists c) (later ++ seen))
grow c fits [] seen run = record { count = omega arith; taken = λ g inside. omega arith; mark = omega arith }
grow c fits (Move.Step p ∷ later) seen run =
    let b = grow c fits later seen run.0 in
    let up : NoLess (groups c) (reached (lists c) (later ++ seen)).mem (reached (lists c) (Move.Step p ∷ (later ++ seen))).mem = step_up c fits (later ++ seen) run.0 p run.1.0 in
    record { count = omega (arith, b.count, up.count); taken = λ g inside. omega (arith, b.taken g inside, up.taken g inside); mark = omega (arith, b.mark, up.mark) }
grow c fits (_ ∷ later) seen run =
    let b = grow c fits later seen run.0 in record { count = b.count; taken = b.taken; mark = b.mark }
