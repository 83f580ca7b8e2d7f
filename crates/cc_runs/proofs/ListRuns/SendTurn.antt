-- A step of the service of a send or a close keeps the list's invariant, and decides a legal answer.
use Rattle.std.proofs.Common.{◌≡◌, ◌≢◌, ℕ, zero, suc, ◌+◌, ◌-◌, ◌%◌, ◌<◌, ◌≤◌, ◌==◌, List, [], ◌∷◌, ◌++◌, length, Bool, true, false, ◌||◌, cond, Some, None, refl, sym, ap, ◌∙◌, subst, arith, inl, inr, append-nil, length-append, if◌then◌else◌}
use Rattle.std.proofs.lemmas.Bool.{cases_eq, cases_lt, eqb-true, eqb-false}
use Rattle.std.proofs.Math.Nat.{mod-eq_of_lt, mod_self}
use Rattle.std.specs.List.{slice_get}
use Rattle.cc_model.specs.Record.{Record}
use Rattle.cc_model.specs.Items.{accepted, accepted_item, is_shut, shuts, handed}
use Rattle.cc_model.specs.Legal.{SendSideAnswer, IsSenders}
use Rattle.cc_runs.specs.Names.{Config, Entry, Item, Answer, SendAnswer, CloseAnswer, Chain, ItemField, Object, Word, Request, Parcel, Job, Phase, Sending}
use Rattle.cc_model.proofs.Grows.{get_front, get_last}
use Rattle.cc_runs.specs.Words.{groups, put}
use Rattle.cc_runs.specs.State.{noted, word_of, stored}
use Rattle.cc_runs.specs.Codes.{item_of, request_in, further_words, behind}
use Rattle.cc_runs.proofs.Chains.Registers.{HasRequest}
use Rattle.cc_runs.specs.SendLines.{operation, goes, decides, after, mark, by_shut, by_count, by_passed, in_service}
use Rattle.cc_runs.specs.ServiceLine as line
use Rattle.cc_runs.specs.MachineLaws.{links}
use Rattle.cc_runs.proofs.ReadWords.{behind_word}
use Rattle.cc_runs.proofs.LinkedList.Queue.{Queue, Ghosts}
use Rattle.cc_runs.proofs.LinkedList.Invariant.{LInv}
use Rattle.cc_runs.proofs.LinkedList.Grow as grow
use Rattle.cc_runs.proofs.LinkedList.Grow.{Kept, ghosts_from, Accepts}
use Rattle.cc_runs.proofs.LinkedList.Decide as decide
use Rattle.cc_runs.proofs.LinkedList.Limits as limits
use Rattle.cc_runs.proofs.ListRuns.View.{Duty, Regs, long_of, enq_in, enq_at, queue_from}
use Rattle.cc_runs.proofs.ListRuns.SendKeeps as keeps
use Rattle.cc_runs.proofs.ListRuns.Fits.{FitsTag, closed_fits, already_fits, shut_fits, spent_fits, full_fits, accepted_fits, item_sent}
use Rattle.cc_runs.proofs.ListRuns.Decided.{told_send, e_accepted, e_shut, e_decided}
use Rattle.cc_runs.proofs.ListRuns.Ties.{Ties, Holds, ghosts, ghosts_same, further, body_at, item_same, Scanned, Reads, ReadsAt, IsUndecided, IsUndecidedAt, IsBegun, IsNextSend, then_linked, ties_same, shut_number, shut_true, shut_false}

-- what such a step leads to
pub record Turn (c : Config) (mem : Word → ℕ) (d : Duty) (r : ℕ → Regs) (h : Record) (nodes : List ℕ) (at : Phase) : Type 0 where
  pub from : ℕ
  pub told : Kept
  pub list : Holds c h nodes told (queue_from mem d (enq_at d.e_call from at) r)
  pub reads : ReadsAt c d.e_call from at
  pub next_call : IsUndecidedAt at → IsNextSend h d.e_call
  pub ties : Ties c h nodes told

-- the served call is one of a sender
pub record Caller (c : Config) (e : Entry) : Type 0 where
  pub senders : IsSenders c e.pass e.call
  pub small : FitsTag e

-- the scan goes on to the node after, round the end
scan_on : (c : Config) (from at reads : ℕ) → Scanned c from at reads → reads ≢ c.capacity + 1 → from ≤ c.capacity → Scanned c from (after c at) (reads + 1)
scan_on c from at reads s more from_in =
    let onward : at ≢ c.capacity → after c at ≡ at + 1 = (λ ne. mod-eq_of_lt (omega (arith, ne, s.within))) in
    let around : at ≡ c.capacity → after c at ≡ 0 = (λ last. ap (λ (k : ℕ). (k + 1) % (c.capacity + 1)) last ∙ mod_self (c.capacity + 1)) in
    let by_end = cases_eq at c.capacity in
    let by_round = cases_lt c.capacity (from + (reads - 1)) in record {
      some = omega arith;
      most = omega (arith, s.most, more);
      within = grind (arith, by_end, onward, around, s.within);
      past = λ l. grind (arith, by_end, by_round, onward, around, s.past, s.round, s.some, s.within, l, from_in);
      round = λ l. grind (arith, by_end, by_round, onward, around, s.past, s.round, s.some, s.within, s.most, more, l, from_in);
    }

or_false : (b : Bool) → b || (false || false) ≡ b
or_false b = grind arith

or_true : (b : Bool) → b || (true || false) ≡ true
or_true b = grind arith

module _ (c : Config) (mem : Word → ℕ) (d : Duty) (r : ℕ → Regs) (h : Record) (nodes : List ℕ) (kept : Kept) (ties : Ties c h nodes kept) (caller : Caller c d.e_call) (job : Job) where
  abbrev AtStep : (Word → ℕ) → Sending → Queue
  AtStep m service = queue_from m d (enq_in d.e_call d.from service) r

  abbrev AtRest : (Word → ℕ) → Queue
  AtRest m = queue_from m d (enq_at d.e_call d.from Phase.Idle) r

  abbrev g : Ghosts
  g = ghosts c h nodes kept

  abbrev Has : Queue → Type 0
  Has v = Holds c h nodes kept v

  -- as many items as before
  abbrev many : ℕ
  many = length (accepted h)

  -- no ghost moves
  still : (m : Word → ℕ) (now : Record) (at : Phase) → ghosts c now nodes kept ≡ g → Has (queue_from m d (enq_at d.e_call d.from at) r)
      → ReadsAt c d.e_call d.from at → (IsUndecidedAt at → IsNextSend now d.e_call) → Ties c now nodes kept → Turn c m d r now nodes at
  still m now at same inv reads asked tied = record {
    from = d.from;
    told = kept;
    list = subst (λ (z : Ghosts). LInv c.capacity c.life (further c + 1) (queue_from m d (enq_at d.e_call d.from at) r) z) (sym same) inv;
    reads = reads;
    next_call = asked;
    ties = tied;
  }

  -- on in the service
  on : (m : Word → ℕ) (there : Sending) → Has (AtStep m there) → Reads c d.e_call d.from there → (IsUndecided there → IsNextSend h d.e_call) → Turn c m d r h nodes (Phase.Sending job there)
  on m there inv reads asked = still m h (Phase.Sending job there) refl inv reads asked ties

  -- to the end of the service
  over : (m : Word → ℕ) (told : Answer) → Has (AtRest m) → Turn c m d r h nodes (Phase.WriteAnswer job told)
  over m told inv = still m h (Phase.WriteAnswer job told) refl inv tt (λ no. absurd no) ties

  -- an answer that accepts nothing and doesn't shut
  answered : (m : Word → ℕ) (told : Answer) → Has (AtRest m)
      → IsNextSend h d.e_call → accepted_item d.e_call told ≡ [] → shuts told ≡ false → SendSideAnswer c (length (accepted h)) (is_shut h) d.e_call.known d.e_call.call told → Turn c m d r (told_send h told) nodes (Phase.WriteAnswer job told)
  answered m told inv asked none open_ fits =
      let same : accepted (told_send h told) ≡ accepted h = e_accepted c h ties.legal d.e_call told asked ∙ ap (λ (l : List Item). accepted h ++ l) none ∙ append-nil (accepted h) in
      let shut : is_shut (told_send h told) ≡ is_shut h = e_shut c h ties.legal d.e_call told asked ∙ ap (λ (b : Bool). is_shut h || (b || false)) open_ ∙ or_false (is_shut h) in
      still m (told_send h told) (Phase.WriteAnswer job told) (ghosts_same c h (told_send h told) nodes kept same shut (λ y. refl)) inv tt (λ no. absurd no)
      (ties_same c h (told_send h told) nodes kept ties refl same (e_decided c h ties.legal d.e_call told asked fits))

  -- the answer's place in the history is open or shut as the list is
  fits_shut : (told : Answer) → g.shut ≡ 1 → SendSideAnswer c (length (accepted h)) true d.e_call.known d.e_call.call told → SendSideAnswer c (length (accepted h)) (is_shut h) d.e_call.known d.e_call.call told
  fits_shut told one fits = subst (λ (b : Bool). SendSideAnswer c (length (accepted h)) b d.e_call.known d.e_call.call told) (sym (shut_true (is_shut h) one)) fits

  fits_open : (told : Answer) → g.shut ≡ 0 → SendSideAnswer c (length (accepted h)) false d.e_call.known d.e_call.call told → SendSideAnswer c (length (accepted h)) (is_shut h) d.e_call.known d.e_call.call told
  fits_open told none fits = subst (λ (b : Bool). SendSideAnswer c (length (accepted h)) b d.e_call.known d.e_call.call told) (sym (shut_false (is_shut h) none)) fits

  -- what a load of the service leads to
  abbrev Leads : line.Next Sending → Type 0
  Leads next = Turn c mem d r (noted Chain.Send h None (line.answer_of next)) nodes (line.phase_of in_service job next)

  abbrev tag_asked : ℕ
  tag_asked = (request_in d.e_call).tag

  -- ---- the load of shut

  shut_branch : (q : Request) (b : Bool) → (q.tag == 0) ≡ b → Has (AtStep mem (Sending.ReadShut q)) → HasRequest d.e_call q.tag q.body → IsNextSend h d.e_call → mem (Word.Object Object.Shut) ≢ 0
      → Leads (cond b (line.On Sending.ReadTotal) (line.Decides (Answer.Send SendAnswer.Closed)))
  shut_branch q true e has asked next ne =
      let z : tag_asked ≡ 0 = sym asked.0 ∙ eqb-true q.tag 0 e in
      on mem Sending.ReadTotal (keeps.read_shut_close mem d r c (further c + 1) g q ne z has) tt (λ u. next)
  shut_branch q false e has asked next ne =
      let nz : tag_asked ≢ 0 = λ z. eqb-false q.tag 0 e (asked.0 ∙ z) in
      answered mem (Answer.Send SendAnswer.Closed) (keeps.read_shut_send mem d r c (further c + 1) g q ne nz has) next refl refl
      (fits_shut (Answer.Send SendAnswer.Closed) (decide.read_shut c.capacity c.life (further c + 1) (AtStep mem (Sending.ReadShut q)) g has refl ne) (closed_fits c (length (accepted h)) d.e_call.known d.e_call.pass d.e_call.call d.e_call.number caller.senders nz))

  read_shut : (q : Request) (found : ℕ) → mem (Word.Object Object.Shut) ≡ found → Has (AtStep mem (Sending.ReadShut q)) → HasRequest d.e_call q.tag q.body → IsNextSend h d.e_call
      → Leads (by_shut q found)
  read_shut q zero e has asked next = on mem (Sending.ReadCount q) (keeps.read_shut_open mem d r c (further c + 1) g q e has) asked (λ u. next)
  read_shut q (suc n) e has asked next = shut_branch q (q.tag == 0) refl has asked next (λ z. omega (arith, z, e))

  -- ---- the loads of count

  read_total : Has (AtStep mem Sending.ReadTotal) → IsNextSend h d.e_call
      → Turn c mem d r (told_send h (Answer.Close (CloseAnswer.Already (mem (Word.Object Object.Count))))) nodes (Phase.WriteAnswer job (Answer.Close (CloseAnswer.Already (mem (Word.Object Object.Count)))))
  read_total has next =
      let known : (mem (Word.Object Object.Count) ≡ g.accepted) × (g.shut ≡ 1) × (tag_asked ≡ 0) = decide.already c.capacity c.life (further c + 1) (AtStep mem Sending.ReadTotal) g has refl in
      answered mem (Answer.Close (CloseAnswer.Already (mem (Word.Object Object.Count)))) (keeps.read_total mem d r c (further c + 1) g has) next refl refl
      (fits_shut (Answer.Close (CloseAnswer.Already (mem (Word.Object Object.Count)))) known.1 (already_fits c (length (accepted h)) d.e_call.known d.e_call.pass d.e_call.call d.e_call.number (mem (Word.Object Object.Count)) caller.senders caller.small.sender known.2 (known.0)))

  life_branch : (q : Request) (b : Bool) → (mem (Word.Object Object.Count) == c.life) ≡ b → tag_asked ≢ 0 → Has (AtStep mem (Sending.ReadCount q)) → HasRequest d.e_call q.tag q.body → IsNextSend h d.e_call
      → Leads (cond b (line.Decides (Answer.Send SendAnswer.Spent)) (line.On (Sending.ReadCursor record { place = mem (Word.Object Object.Count); tag = q.tag; body = q.body })))
  life_branch q true e nz has asked next =
      let full : mem (Word.Object Object.Count) ≡ c.life = eqb-true (mem (Word.Object Object.Count)) c.life e in
      let known : (g.accepted ≡ c.life) × (g.shut ≡ 0) = decide.spent c.capacity c.life (further c + 1) (AtStep mem (Sending.ReadCount q)) g has refl full in
      answered mem (Answer.Send SendAnswer.Spent) (keeps.read_count_spent mem d r c (further c + 1) g q has) next refl refl
      (fits_open (Answer.Send SendAnswer.Spent) known.1 (spent_fits c (length (accepted h)) d.e_call.known d.e_call.pass d.e_call.call d.e_call.number caller.senders nz (known.0)))
  life_branch q false e nz has asked next =
      on mem (Sending.ReadCursor record { place = mem (Word.Object Object.Count); tag = q.tag; body = q.body })
      (keeps.read_count_on mem d r c (further c + 1) g q record { place = mem (Word.Object Object.Count); tag = q.tag; body = q.body } refl nz (eqb-false (mem (Word.Object Object.Count)) c.life e) has) asked (λ u. next)

  close_branch : (q : Request) (b : Bool) → (q.tag == 0) ≡ b → Has (AtStep mem (Sending.ReadCount q)) → HasRequest d.e_call q.tag q.body → IsNextSend h d.e_call
      → Leads (cond b (line.On (Sending.ReadLastToClose (mem (Word.Object Object.Count)))) (if mem (Word.Object Object.Count) == c.life then line.Decides (Answer.Send SendAnswer.Spent) else line.On (Sending.ReadCursor record { place = mem (Word.Object Object.Count); tag = q.tag; body = q.body })))
  close_branch q true e has asked next =
      let z : tag_asked ≡ 0 = sym asked.0 ∙ eqb-true q.tag 0 e in
      on mem (Sending.ReadLastToClose (mem (Word.Object Object.Count))) (keeps.read_count_close mem d r c (further c + 1) g q z has) tt (λ u. next)
  close_branch q false e has asked next = life_branch q (mem (Word.Object Object.Count) == c.life) refl (λ z. eqb-false q.tag 0 e (asked.0 ∙ z)) has asked next

  -- ---- the scan

  free_branch : (parcel : Parcel) (at reads : ℕ) (b : Bool) → (reads == c.capacity + 1) ≡ b → mem (Word.Item at ItemField.Passed) ≢ further c + 1 → Has (AtStep mem (Sending.ReadPassed parcel at reads)) → Reads c d.e_call d.from (Sending.ReadPassed parcel at reads) → IsNextSend h d.e_call
      → Leads (cond b (line.Decides (Answer.Send SendAnswer.Full)) (line.On (Sending.ReadPassed parcel (after c at) (reads + 1))))
  free_branch parcel at reads true e ne has read next =
      let all : reads ≡ c.capacity + 1 = eqb-true reads (c.capacity + 1) e in
      let s : Scanned c d.from at reads = read.1 in
      let v : Queue = AtStep mem (Sending.ReadPassed parcel at reads) in
      let known : (d.e_call.known + c.capacity ≤ g.accepted) × (g.shut ≡ 0) × (g.accepted < c.life) = decide.full c.capacity c.life (further c + 1) v g has at (s.within, s.past, s.round) refl (omega (arith, all)) ne in
      let nz : tag_asked ≢ 0 = has.request.sends (omega arith) (omega arith) in
      answered mem (Answer.Send SendAnswer.Full) (keeps.read_passed_full mem d r c (further c + 1) g parcel at reads has) next refl refl
      (fits_open (Answer.Send SendAnswer.Full) known.1 (full_fits c (length (accepted h)) d.e_call.known d.e_call.pass d.e_call.call d.e_call.number caller.senders nz (λ z. omega (arith, z, known)) (omega (arith, known))))
  free_branch parcel at reads false e ne has read next =
      let s : Scanned c d.from at reads = read.1 in
      let more : reads ≢ c.capacity + 1 = eqb-false reads (c.capacity + 1) e in
      let from_in : d.from ≤ c.capacity = has.scan.from_in refl in
      let on_scan : Scanned c d.from (after c at) (reads + 1) = scan_on c d.from at reads s more from_in in
      on mem (Sending.ReadPassed parcel (after c at) (reads + 1))
      (keeps.read_passed_busy mem d r c (further c + 1) g parcel at (after c at) reads (s.within, s.past, s.round) ne s.some (omega (arith, s.most, more)) has) (read.0, on_scan) (λ u. next)

  passed_branch : (parcel : Parcel) (at reads : ℕ) (b : Bool) → (mem (Word.Item at ItemField.Passed) == groups c) ≡ b → Has (AtStep mem (Sending.ReadPassed parcel at reads)) → Reads c d.e_call d.from (Sending.ReadPassed parcel at reads) → IsNextSend h d.e_call
      → Leads (cond b (line.On (Sending.ResetPassed parcel at)) (if reads == c.capacity + 1 then line.Decides (Answer.Send SendAnswer.Full) else line.On (Sending.ReadPassed parcel (after c at) (reads + 1))))
  passed_branch parcel at reads true e has read next =
      let s : Scanned c d.from at reads = read.1 in
      let free : mem (Word.Item at ItemField.Passed) ≡ further c + 1 = omega (arith, ties.some, eqb-true (mem (Word.Item at ItemField.Passed)) (groups c) e) in
      on mem (Sending.ResetPassed parcel at) (keeps.read_passed_free mem d r c (further c + 1) g parcel at reads (s.within, s.past, s.round) free has) read.0 (λ u. next)
  passed_branch parcel at reads false e has read next = free_branch parcel at reads (reads == c.capacity + 1) refl (λ z. eqb-false (mem (Word.Item at ItemField.Passed)) (groups c) e (omega (arith, ties.some, z))) has read next

  -- ---- a node is in preparation

  reset_passed : (parcel : Parcel) (at : ℕ) → Has (AtStep mem (Sending.ResetPassed parcel at)) → HasRequest d.e_call parcel.tag parcel.body → IsNextSend h d.e_call
      → Turn c (put mem (Word.Item at ItemField.Passed) 0) d r h nodes (Phase.Sending job (Sending.ResetItemNext parcel at))
  reset_passed parcel at has asked next =
      let v : Queue = AtStep mem (Sending.ResetPassed parcel at) in
      let told : Kept = grow.preparing v kept in
      record {
        from = d.from;
        told = told;
        list = keeps.reset_passed mem d r c (further c + 1) g parcel at has;
        reads = asked;
        next_call = λ u. next;
        ties = record { some = ties.some; many = ties.many; linked = ties.linked; items_are = ties.items_are; legal = ties.legal };
      }

  -- ---- the linking store of an item

  module _ (count at last : ℕ) (has : Has (AtStep mem (Sending.LinkItem count at last))) (next : IsNextSend h d.e_call) where
    abbrev before : Queue
    before = AtStep mem (Sending.LinkItem count at last)

    abbrev a : Answer
    a = Answer.Send (SendAnswer.Accepted count)

    abbrev it : Item
    it = item_of count (request_in d.e_call).tag (request_in d.e_call).body

    abbrev told : Kept
    told = grow.accepting before many kept

    known : (count ≡ g.accepted) × (g.accepted < c.life) × (g.shut ≡ 0) × (tag_asked ≢ 0)
    known = decide.accepted c.capacity c.life (further c + 1) before g has refl

    fits : SendSideAnswer c (length (accepted h)) (is_shut h) d.e_call.known d.e_call.call a
    fits = fits_open a known.2 (accepted_fits c (length (accepted h)) d.e_call.known d.e_call.pass d.e_call.call d.e_call.number count caller.senders known.3 (λ z. omega (arith, z, known)) (known.0))

    now : accepted (told_send h a) ≡ accepted h ++ it ∷ []
    now = e_accepted c h ties.legal d.e_call a next ∙ ap (λ (l : List Item). accepted h ++ l) (item_sent c d.e_call count caller.senders caller.small known.3)

    more : length (accepted (told_send h a)) ≡ many + 1
    more = omega (arith, ap length now, length-append (accepted h) (it ∷ []))

    u : Accepts before g (ghosts c (told_send h a) (nodes ++ at ∷ []) told)
    u =
        grow.accepts (further c) long_of many (shut_number (is_shut h)) (λ y. length (handed h y)) nodes kept before (length (accepted (told_send h a))) (shut_number (is_shut (told_send h a))) more
        (ap shut_number (e_shut c h ties.legal d.e_call a next ∙ or_false (is_shut h))) (has.request.long_told (omega arith)) ties.linked

    new_item : (k : ℕ) → k ≡ many → slice_get (accepted (told_send h a)) k ≡ Some (item_of k (told.items k 0) (body_at (told.items k)))
    new_item k same =
        let is : slice_get (accepted h ++ it ∷ []) many ≡ Some it = get_last (accepted h) it in
        let words : (j : ℕ) → told.items k j ≡ before.enq.asks j = λ j. ap (λ (i : ℕ). told.items i j) same ∙ u.items_now j in
        rw now (
        ap (λ (j : ℕ). slice_get (accepted h ++ it ∷ []) j) same
        ∙ is
        ∙ ap (λ (j : ℕ). Some (item_of j (request_in d.e_call).tag (request_in d.e_call).body)) (known.0 ∙ sym same)
        ∙ sym (ap Some (item_same k (told.items k) before.enq.asks words))
        )

    old_item : (k : ℕ) → k < many → slice_get (accepted (told_send h a)) k ≡ Some (item_of k (told.items k 0) (body_at (told.items k)))
    old_item k l =
        rw now (get_front (accepted h) (it ∷ []) k (item_of k (kept.items k 0) (body_at (kept.items k))) (ties.items_are k l) ∙ sym (ap Some (item_same k (told.items k) (kept.items k) (λ j. u.items k j (λ e. omega (arith, e, l))))))

    link_item : Turn c (put mem (Word.Item last ItemField.Next) (at + 1)) d r (told_send h a) (nodes ++ at ∷ []) (Phase.Sending job (Sending.WriteLast count at))
    link_item = record {
      from = d.from;
      told = told;
      list = keeps.link_item mem d r c (further c + 1) g (ghosts c (told_send h a) (nodes ++ at ∷ []) told) count at last u has;
      reads = tt;
      next_call = λ no. absurd no;
      ties = record {
        some = ties.some;
        many = ties.many;
        linked = omega (arith, length-append nodes (at ∷ []), ties.linked, more);
        items_are = λ k l. elim (cases_eq k many) [ inl same ↦ new_item k same | inr ne ↦ old_item k (omega (arith, l, ne, more)) ];
        legal = e_decided c h ties.legal d.e_call a next fits;
      };
    }

  -- ---- the linking store of the mark

  module _ (total last : ℕ) (has : Has (AtStep mem (Sending.LinkMark total last))) (next : IsNextSend h d.e_call) where
    abbrev before_mark : Queue
    before_mark = AtStep mem (Sending.LinkMark total last)

    abbrev shut_told : Answer
    shut_told = Answer.Close (CloseAnswer.Shut total)

    known_mark : (total ≡ g.accepted) × (g.shut ≡ 0) × (tag_asked ≡ 0)
    known_mark = decide.shuts c.capacity c.life (further c + 1) before_mark g has refl

    fits_mark : SendSideAnswer c (length (accepted h)) (is_shut h) d.e_call.known d.e_call.call shut_told
    fits_mark = fits_open shut_told known_mark.1 (shut_fits c (length (accepted h)) d.e_call.known d.e_call.pass d.e_call.call d.e_call.number total caller.senders caller.small.sender known_mark.2 (known_mark.0))

    now_mark : accepted (told_send h shut_told) ≡ accepted h
    now_mark = e_accepted c h ties.legal d.e_call shut_told next ∙ append-nil (accepted h)

    -- the list is shut, and else as it was
    shuts_it : ghosts c (told_send h shut_told) nodes kept ≡ record g { shut = 1 }
    shuts_it =
        let shut : is_shut (told_send h shut_told) ≡ true = e_shut c h ties.legal d.e_call shut_told next ∙ or_true (is_shut h) in
        λ i. ghosts_from (further c) long_of (length (now_mark i)) (shut_number (shut i)) (λ y. length (handed h y)) nodes kept

    link_mark : Turn c (put mem (Word.Item last ItemField.Next) (mark c + 1)) d r (told_send h shut_told) nodes (Phase.Sending job (Sending.WriteLastMark total))
    link_mark = record {
      from = d.from;
      told = kept;
      list = subst (λ (z : Ghosts). LInv c.capacity c.life (further c + 1) (AtStep (put mem (Word.Item last ItemField.Next) (mark c + 1)) (Sending.WriteLastMark total)) z) (sym shuts_it) (keeps.link_mark mem d r c (further c + 1) g total last has);
      reads = tt;
      next_call = λ no. absurd no;
      ties = ties_same c h (told_send h shut_told) nodes kept ties refl now_mark (e_decided c h ties.legal d.e_call shut_told next fits_mark);
    }

  -- ---- the load of the cursor: the scan begins there

  read_cursor : (parcel : Parcel) (found : ℕ) → mem (Word.Object Object.Cursor) ≡ found → Has (AtStep mem (Sending.ReadCursor parcel)) → HasRequest d.e_call parcel.tag parcel.body → IsNextSend h d.e_call
      → Turn c mem d r h nodes (Phase.Sending job (Sending.ReadPassed parcel found 1))
  read_cursor parcel found e has asked next =
      let within : mem (Word.Object Object.Cursor) ≤ c.capacity = has.words.cursor_in in
      record {
        from = found;
        told = kept;
        list = keeps.read_cursor mem d r c (further c + 1) g parcel found e has;
        reads = (asked, record { some = omega arith; most = omega arith; within = omega (arith, e, within); past = λ l. omega arith; round = λ l. absurd (omega (arith, l, e, within)) });
        next_call = λ u. next;
        ties = ties;
      }

  -- ---- a word of the item's body

  word_reads : (parcel : Parcel) (at i : ℕ) → HasRequest d.e_call parcel.tag parcel.body
      → Reads c d.e_call d.from (behind (further_words parcel.tag) i (Sending.WriteItemBody parcel at (i + 1)) (Sending.ReadLast parcel.place at))
  word_reads parcel at i asked = behind_word (Reads c d.e_call d.from) (further_words parcel.tag) i _ _ (λ more. (asked, omega (arith, more))) (λ last. tt)

  -- ---- the whole service, but for the loads of the request

  abbrev Needs : Sending → Type 0
  Needs service = Has (AtStep mem service) × Reads c d.e_call d.from service × (IsUndecided service → IsNextSend h d.e_call)

  pub send_turn : (service : Sending) (found : ℕ) → IsBegun service → mem (word_of (operation c job.round.at service)) ≡ found → Needs service
      → Turn c (stored mem (operation c job.round.at service)) d r (noted Chain.Send h None (decides c service found)) (then_linked nodes (links service)) (goes c job service found)
  send_turn (Sending.ReadShut q) found low e n = read_shut q found e n.0 n.1 (n.2 tt)
  send_turn Sending.ReadTotal found low e n = subst (λ (k : ℕ). Turn c mem d r (told_send h (Answer.Close (CloseAnswer.Already k))) nodes (Phase.WriteAnswer job (Answer.Close (CloseAnswer.Already k)))) e (read_total n.0 (n.2 tt))
  send_turn (Sending.ReadCount q) found low e n =
      subst (λ (k : ℕ). Leads (by_count c q k)) e (close_branch q (q.tag == 0) refl n.0 n.1 (n.2 tt))
  send_turn (Sending.ReadLastToClose total) found low e n =
      let link : (0 < mem (Word.Object Object.Last)) × (mem (Word.Object Object.Last) ≤ c.capacity + 1) = limits.lastc_link c.capacity c.life (further c + 1) (AtStep mem (Sending.ReadLastToClose total)) g n.0 refl in
      subst (λ (k : ℕ). Turn c mem d r h nodes (Phase.Sending job (Sending.LinkMark total (k - 1)))) e (on mem (Sending.LinkMark total (mem (Word.Object Object.Last) - 1)) (keeps.read_last_to_close mem d r c (further c + 1) g total link.0 n.0) tt (λ u. n.2 tt))
  send_turn (Sending.LinkMark total last) found low e n = link_mark total last n.0 (n.2 tt)
  send_turn (Sending.WriteLastMark total) found low e n = on _ (Sending.WriteShut total) (keeps.write_last_mark mem d r c (further c + 1) g total n.0) tt (λ no. absurd no)
  send_turn (Sending.WriteShut total) found low e n = over _ (Answer.Close (CloseAnswer.Shut total)) (keeps.write_shut mem d r c (further c + 1) g total n.0)
  send_turn (Sending.ReadCursor parcel) found low e n = read_cursor parcel found e n.0 n.1 (n.2 tt)
  send_turn (Sending.ReadPassed parcel at reads) found low e n =
      subst (λ (k : ℕ). Leads (by_passed c parcel at reads k)) e (passed_branch parcel at reads (mem (Word.Item at ItemField.Passed) == groups c) refl n.0 n.1 (n.2 tt))
  send_turn (Sending.ResetPassed parcel at) found low e n = reset_passed parcel at n.0 n.1 (n.2 tt)
  send_turn (Sending.ResetItemNext parcel at) found low e n = on _ (Sending.WriteItemTag parcel at) (keeps.reset_next mem d r c (further c + 1) g parcel at n.0) n.1 (λ u. n.2 tt)
  send_turn (Sending.WriteItemTag parcel at) found low e n = on _ (Sending.WriteItemBody parcel at 0) (keeps.write_tag mem d r c (further c + 1) g parcel at n.1.0 n.0) (n.1, omega arith) (λ u. n.2 tt)
  send_turn (Sending.WriteItemBody parcel at i) found low e n =
      on _ _ (keeps.write_body mem d r c (further c + 1) g parcel at i n.1.0 n.1.1 n.0) (word_reads parcel at i n.1.0) (λ u. n.2 tt)
  send_turn (Sending.ReadLast count at) found low e n =
      let link : (0 < mem (Word.Object Object.Last)) × (mem (Word.Object Object.Last) ≤ c.capacity + 1) = limits.last_link c.capacity c.life (further c + 1) (AtStep mem (Sending.ReadLast count at)) g n.0 refl in
      subst (λ (k : ℕ). Turn c mem d r h nodes (Phase.Sending job (Sending.LinkItem count at (k - 1)))) e (on mem (Sending.LinkItem count at (mem (Word.Object Object.Last) - 1)) (keeps.read_last mem d r c (further c + 1) g count at link.0 n.0) tt (λ u. n.2 tt))
  send_turn (Sending.LinkItem count at last) found low e n = link_item count at last n.0 (n.2 tt)
  send_turn (Sending.WriteLast count at) found low e n = on _ (Sending.WriteCount count at) (keeps.write_last mem d r c (further c + 1) g count at n.0) tt (λ no. absurd no)
  send_turn (Sending.WriteCount count at) found low e n = on _ (Sending.WriteCursor count at) (keeps.write_count mem d r c (further c + 1) g count at n.0) tt (λ no. absurd no)
  send_turn (Sending.WriteCursor count at) found low e n = over _ (Answer.Send (SendAnswer.Accepted count)) (keeps.write_cursor mem d r c (further c + 1) g count at n.0)
  send_turn _ found low e n = absurd low
