-- A log without faults has a legal order, also with closes: its calls can be clipped by the close, and the clipped log has no faults.
use Rattle.std.proofs.Common.{◌≡◌, ◌≢◌, ℕ, zero, suc, ◌+◌, ◌*◌, ◌<◌, ◌≤◌, ◌⊎◌, inl, inr, Bool, true, false, List, [], ◌∷◌, length, Option, Some, None, IsSome, refl, sym, ap, ◌∙◌, subst, arith}
use Rattle.std.specs.List.{slice_get}
use Rattle.std.proofs.lemmas.Bool.{cases_lt}
use Rattle.std.proofs.lemmas.Option.{slice_get_within, slice_get_cases}
use Rattle.cc_judge.specs.Names.{Act, Call, Rules}
use Rattle.cc_judge.specs.Order.{EndsBefore, IsLinearizable, of_any_capacity}
use Rattle.cc_judge.specs.Faults.{Did, Differ, FindsNone, ShowsClosed, WasClosed, WasAccepted, WasOpen}
use Rattle.cc_judge.specs.Complete.{Enough, Ready}
use Rattle.cc_judge.specs.Counts.{SentBy, AreEnough}
use Rattle.cc_judge.specs.Faultless.{IsWritten, NoFault, FaultlessLogsHaveOrders}
use Rattle.cc_judge.proofs.Turns.{nat_cases}
use Rattle.cc_judge.proofs.Complete.{IsIdle}
use Rattle.cc_judge.proofs.Views.{taker}
use Rattle.cc_judge.proofs.Shares.{LeastAt, least_at, completeness}
use Rattle.cc_judge.proofs.Clips.{WantsOpen, WantsClosed, Clips, complete_closed, complete_open}
use Rattle.cc_judge.proofs.Calls.{end_cases, is_some_of, none_some, one_act}

-- ---- what a log without closes needs

pub ready_plain : (rules : Rules) (calls : List Call) → IsWritten calls → NoFault rules calls → Ready calls
ready_plain rules calls written fine = record {
  timed = written.timed;
  waits = written.waits;
  sent = fine.sent;
  once = fine.once;
  after = fine.after;
  in_turn = fine.in_turn;
  last = λ y s2 t2 item other s untaken s_2 t ends before. none_some t.call.end ends (written.took t2 other t);
  enough = λ s2 t2 other e s t ends. enough s.call.begin e (fine.enough s2 t2 other e s t ends);
  empty = λ call c e is finds ends.
      let r = fine.empty call c e is finds ends in
      (r.0, r.1, r.2, (λ send take item f s s_ends early t. r.3 send take item (sent_by send item f r.0 s s_ends early) t), enough r.0 r.0 r.4);
}
  where
    sent_by : (send item f time : ℕ) (s : Did calls send (Act.Send item)) → s.call.end ≡ Some f → f < time → SentBy rules calls send item time
    sent_by send item f time s ends early = record { sent = s; done = inl (record { call = s.call; call_is = s.call_is; end = f; ended = ends; by = early }) }

    enough : (sent began : ℕ) → AreEnough rules calls sent began → Enough calls sent began
    enough sent began are xs once each =
        let r = are xs once (λ y within. let l = each y within in record { item = l.item; sent_by = sent_by y l.item l.end sent l.sent l.ended l.early; untaken = l.untaken }) in (
          r.0,
          r.1,
          r.2,
          λ q within.
              let w = r.3 q within in
              let one : w.0.call ≡ w.1.call = cc in
              record { taking = w.0; begun = grind arith },
        )

-- ---- a list of calls that are each chosen for one

pub record Chosen (R : ℕ → Call → Call → Type 0) (calls : List Call) : Type 0 where
  pub ds : List Call
  pub there : (p : ℕ) (c : Call) → slice_get calls p ≡ Some c → (d : Call) × (slice_get ds p ≡ Some d) × R p c d
  pub back : (p : ℕ) (d : Call) → slice_get ds p ≡ Some d → (c : Call) × (slice_get calls p ≡ Some c) × R p c d

pub choose : (R : ℕ → Call → Call → Type 0) (calls : List Call) → ((p : ℕ) (c : Call) → slice_get calls p ≡ Some c → (d : Call) × R p c d) → Chosen R calls
choose R [] each = record { ds = []; there = λ p c is. cc; back = λ p d is. cc }
choose R (x ∷ calls) each = put (each 0 x refl) (choose (λ p. R (suc p)) calls (λ p c is. each (suc p) c is))
  where
    put : (d : Call) × R 0 x d → Chosen (λ p. R (suc p)) calls → Chosen R (x ∷ calls)
    put h rest = record { ds = h.0 ∷ rest.ds; there = there h rest; back = back h rest }
      where
        there : (h : (d : Call) × R 0 x d) (rest : Chosen (λ p. R (suc p)) calls) (p : ℕ) (c : Call) → slice_get (x ∷ calls) p ≡ Some c → (d : Call) × (slice_get (h.0 ∷ rest.ds) p ≡ Some d) × R p c d
        there h rest zero c is = let e : x ≡ c = cc in (h.0, refl, subst (λ (y : Call). R 0 y h.0) e h.1)
        there h rest (suc p) c is = rest.there p c is

        back : (h : (d : Call) × R 0 x d) (rest : Chosen (λ p. R (suc p)) calls) (p : ℕ) (d : Call) → slice_get (h.0 ∷ rest.ds) p ≡ Some d → (c : Call) × (slice_get (x ∷ calls) p ≡ Some c) × R p c d
        back h rest zero d is = let e : h.0 ≡ d = cc in (x, refl, subst (R 0 x) e h.1)
        back h rest (suc p) d is = rest.back p d is

-- ---- clipped calls

-- such a call is left as it is
abbrev pub IsPlain : Act → Type 0
IsPlain (Act.Took v) = Unit {0}
IsPlain Act.FoundNone = Unit {0}
IsPlain Act.Taking = Unit {0}
IsPlain _ = ⊥

abbrev pub Tripled : Option ℕ → Option ℕ → Type 0
Tripled None end = end ≡ None
Tripled (Some e) end = end ≡ Some (3 * e + 2)

tripled : (o : Option ℕ) → (q : Option ℕ) × Tripled o q
tripled None = (None, refl)
tripled (Some e) = (Some (3 * e + 2), refl)

tripled_some : (o q : Option ℕ) (e : ℕ) → Tripled o q → o ≡ Some e → q ≡ Some (3 * e + 2)
tripled_some o q e t is = subst (λ (x : Option ℕ). Tripled x q) is t

tripled_none : (o q : Option ℕ) → Tripled o q → o ≡ None → q ≡ None
tripled_none o q t is = subst (λ (x : Option ℕ). Tripled x q) is t

-- what a tripled end comes from
tripled_from : (o q : Option ℕ) (f : ℕ) → Tripled o q → q ≡ Some f → (e : ℕ) × (o ≡ Some e) × (f ≡ 3 * e + 2)
tripled_from None q f t is = let clash : None ≡ Some f = sym t ∙ is in cc
tripled_from (Some e) q f t is = let both : Some f ≡ Some (3 * e + 2) = sym is ∙ t in (e, refl, (cc))

shows_closed : (act : Act) → WantsClosed act → ShowsClosed act
shows_closed act wants = grind arith

pub record Keeps (c d : Call) : Type 0 where
  act : d.act ≡ c.act
  plain : IsPlain c.act
  begin : d.begin ≡ 3 * c.begin
  ends : Tripled c.end d.end

pub record Opens (calls : List Call) (shut p : ℕ) (c d : Call) : Type 0 where
  act : d.act ≡ c.act
  wants : WantsOpen c.act
  begin : d.begin ≡ 3 * c.begin
  f : ℕ
  end : d.end ≡ Some f
  by : f ≤ 3 * shut
  from : 3 * c.begin ≤ f
  ended : (e : ℕ) → c.end ≡ Some e → f ≤ 3 * e + 2
  why : (f ≡ 3 * shut) ⊎ ((e : ℕ) × (c.end ≡ Some e) × (f ≡ 3 * e + 2))
  accepted : (item : ℕ) → c.act ≡ Act.Send item → WasAccepted calls p item

pub record Drops (calls : List Call) (p : ℕ) (c d : Call) : Type 0 where
  act : d.act ≡ Act.Full
  wants : WantsOpen c.act
  begin : d.begin ≡ 3 * c.begin
  was_open : c.end ≡ None
  end : d.end ≡ None
  refused : (item : ℕ) → c.act ≡ Act.Send item → WasAccepted calls p item → ⊥

pub record Shuts (shut close p : ℕ) (c d : Call) : Type 0 where
  other : p ≢ close
  wants : WantsClosed c.act
  act : d.act ≡ c.act
  begin : 3 * c.begin ≤ d.begin
  from : 3 * shut + 2 ≤ d.begin
  least : (d.begin ≡ 3 * c.begin) ⊎ (d.begin ≡ 3 * shut + 2)
  ends : Tripled c.end d.end

pub record IsTheClose (shut close p : ℕ) (c d : Call) : Type 0 where
  place : p ≡ close
  was : c.act ≡ Act.Close
  act : d.act ≡ Act.Close
  began : c.begin ≤ shut
  begin : d.begin ≡ 3 * shut + 1
  end : d.end ≡ Some (3 * shut + 1)

abbrev pub Clip : (calls : List Call) (shut close p : ℕ) (c d : Call) → Type 0
Clip calls shut close p c d = Keeps c d ⊎ Opens calls shut p c d ⊎ Drops calls p c d ⊎ Shuts shut close p c d ⊎ IsTheClose shut close p c d

module _ (rules : Rules) (calls : List Call) (differ : Differ calls) (written : IsWritten calls) (fine : NoFault rules calls) (judged : rules.closes ≡ true)
    (shown shut : ℕ) (w : WasClosed calls shown) (w_end : w.returned.call.end ≡ Some shut) (least : (q e : ℕ) (v : WasClosed calls q) → v.returned.call.end ≡ Some e → shut ≤ e)
    (close : ℕ) (dc : Did calls close Act.Close) (c_by : dc.call.begin ≤ shut) where
  -- a send that found the queue open began by then
  open_by_then : (p : ℕ) (c : Call) → slice_get calls p ≡ Some c → WasOpen calls p → c.begin ≤ shut
  open_by_then p c is open_then = elim (cases_lt shut c.begin) [
    | inr by ↦ by
    | inl late ↦ absurd (fine.still_open judged shown p w open_then (record { one = w.returned.call; other = c; end = shut; one_is = w.returned.call_is; other_is = is; ended = w_end; before = late }))
  ]

  -- a call that shows the queue closed ended no earlier
  ends_after : (p : ℕ) (c : Call) (e : ℕ) → slice_get calls p ≡ Some c → WantsClosed c.act → c.end ≡ Some e → shut ≤ e
  ends_after p c e is wants ends = least p e (record { act = c.act; shows = shows_closed c.act wants; returned = record { call = c; call_is = is; act_is = refl; ended = is_some_of c.end e ends } }) ends

  keep : (c : Call) → IsPlain c.act → (d : Call) × Keeps c d
  keep c plain = let t = tripled c.end in (record { begin = 3 * c.begin; end = t.0; act = c.act }, record { act = refl; plain = plain; begin = refl; ends = t.1 })

  drop : (p : ℕ) (c : Call) → WantsOpen c.act → c.end ≡ None → ((item : ℕ) → c.act ≡ Act.Send item → WasAccepted calls p item → ⊥) → (d : Call) × Drops calls p c d
  drop p c wants ends refused = (record { begin = 3 * c.begin; end = None; act = Act.Full }, record { act = refl; wants = wants; begin = refl; was_open = ends; end = refl; refused = refused })

  opens_at : (p : ℕ) (c : Call) (f : ℕ) → WantsOpen c.act → f ≤ 3 * shut → 3 * c.begin ≤ f
      → ((e : ℕ) → c.end ≡ Some e → f ≤ 3 * e + 2) → (f ≡ 3 * shut) ⊎ ((e : ℕ) × (c.end ≡ Some e) × (f ≡ 3 * e + 2))
      → ((item : ℕ) → c.act ≡ Act.Send item → WasAccepted calls p item) → (d : Call) × Opens calls shut p c d
  opens_at p c f wants by from ended why accepted = (
    record { begin = 3 * c.begin; end = Some f; act = c.act },
    record {
      act = refl;
      wants = wants;
      begin = refl;
      f = f;
      end = refl;
      by = by;
      from = from;
      ended = ended;
      why = why;
      accepted = accepted;
    },
  )

  opens_some : (p : ℕ) (c : Call) (e : ℕ) → slice_get calls p ≡ Some c → WantsOpen c.act → c.end ≡ Some e → WasOpen calls p → ((item : ℕ) → c.act ≡ Act.Send item → WasAccepted calls p item) → (d : Call) × Opens calls shut p c d
  opens_some p c e is wants ends open_then accepted =
      let by = open_by_then p c is open_then in
      let timed = written.timed p c e is ends in
      elim (cases_lt e shut) [
        | inl less ↦
            opens_at p c (3 * e + 2) wants (omega arith) (omega arith) (λ g is_g. grind arith) (inr (e, ends, refl))
            accepted
        | inr not_less ↦
            opens_at p c (3 * shut) wants (omega arith) (omega arith) (λ g is_g. grind arith) (inl refl) accepted
      ]

  opens_none : (p : ℕ) (c : Call) → slice_get calls p ≡ Some c → WantsOpen c.act → c.end ≡ None → WasOpen calls p → ((item : ℕ) → c.act ≡ Act.Send item → WasAccepted calls p item) → (d : Call) × Opens calls shut p c d
  opens_none p c is wants ends open_then accepted =
      let by = open_by_then p c is open_then in
      opens_at p c (3 * shut) wants (omega arith) (omega arith) (λ g is_g. grind arith) (inl refl) accepted

  shuts : (p : ℕ) (c : Call) → slice_get calls p ≡ Some c → WantsClosed c.act → p ≢ close → (d : Call) × Shuts shut close p c d
  shuts p c is wants other =
      let t = tripled c.end in
      elim (cases_lt (3 * c.begin) (3 * shut + 2)) [
        | inl less ↦ (record { begin = 3 * shut + 2; end = t.0; act = c.act }, record { other = other; wants = wants; act = refl; begin = omega (arith, less); from = omega arith; least = inr refl; ends = t.1 })
        | inr not_less ↦ (record { begin = 3 * c.begin; end = t.0; act = c.act }, record { other = other; wants = wants; act = refl; begin = omega arith; from = not_less; least = inl refl; ends = t.1 })
      ]

  closing : (p : ℕ) (c : Call) → slice_get calls p ≡ Some c → WantsClosed c.act → (d : Call) × Clip calls shut close p c d
  closing p c is wants = elim (nat_cases p close) [
    | inr other ↦ let d = shuts p c is wants other in (d.0, inr (inr (inr (inl d.1))))
    | inl same ↦
        let one : c ≡ dc.call = cc in
        (record { begin = 3 * shut + 1; end = Some (3 * shut + 1); act = Act.Close }, inr (inr (inr (inr (record { place = same; was = ap (λ (x : Call). x.act) one ∙ dc.act_is; act = refl; began = grind (arith, c_by); begin = refl; end = refl })))))
  ]

  sends : (p : ℕ) (c : Call) (item : ℕ) → slice_get calls p ≡ Some c → c.act ≡ Act.Send item → (d : Call) × Clip calls shut close p c d
  sends p c item is act = elim (end_cases c.end) [
    | inl e ↦
        let accepted : WasAccepted calls p item = inl (record { call = c; call_is = is; act_is = act; ended = is_some_of c.end e.0 e.1 }) in
        let d = opens_some p c e.0 is wants e.1 (inr (item, accepted)) (λ v v_is. subst (WasAccepted calls p) (same v v_is) accepted) in
        (d.0, inr (inl d.1))
    | inr open_end ↦ elim (taker calls item) [
      | inl t ↦
          let accepted : WasAccepted calls p item = inr (t.0, record { item = item; sent = record { call = c; call_is = is; act_is = act }; took = record { call = t.1.call; call_is = t.1.call_is; act_is = t.1.act_is; ended = written.took t.0 item t.1 } }) in
          let d = opens_none p c is wants open_end (inr (item, accepted)) (λ v v_is. subst (WasAccepted calls p) (same v v_is) accepted) in
          (d.0, inr (inl d.1))
      | inr untaken ↦
          let d = drop p c wants open_end (λ v v_is accepted. elim accepted [
            | inl r ↦
                let one : r.call ≡ c = cc in
                none_some c.end open_end (subst (λ (x : Call). IsSome x.end) one r.ended)
            | inr t ↦
                let acts : Act.Send t.1.item ≡ Act.Send item = one_act calls p (Act.Send t.1.item) (Act.Send item) t.1.sent (record { call = c; call_is = is; act_is = act }) in
                let items : t.1.item ≡ item = cc in
                untaken t.0 (subst (λ (x : ℕ). Did calls t.0 (Act.Took x)) items (record { call = t.1.took.call; call_is = t.1.took.call_is; act_is = t.1.took.act_is }))
          ]) in
          (d.0, inr (inr (inl d.1)))
    ]
  ]
    where
      wants : WantsOpen c.act
      wants = subst WantsOpen (sym act) tt

      same : (v : ℕ) → c.act ≡ Act.Send v → item ≡ v
      same v v_is = let acts : Act.Send item ≡ Act.Send v = sym act ∙ v_is in cc

  fulls : (p : ℕ) (c : Call) → slice_get calls p ≡ Some c → c.act ≡ Act.Full → (d : Call) × Clip calls shut close p c d
  fulls p c is act = elim (end_cases c.end) [
    | inl e ↦
        let d = opens_some p c e.0 is wants e.1 (inl (record { call = c; call_is = is; act_is = act; ended = is_some_of c.end e.0 e.1 })) (λ v v_is. absurd (no_send v v_is)) in
        (d.0, inr (inl d.1))
    | inr open_end ↦ let d = drop p c wants open_end (λ v v_is accepted. no_send v v_is) in (d.0, inr (inr (inl d.1)))
  ]
    where
      wants : WantsOpen c.act
      wants = subst WantsOpen (sym act) tt

      no_send : (v : ℕ) → c.act ≡ Act.Send v → ⊥
      no_send v v_is = let acts : Act.Full ≡ Act.Send v = sym act ∙ v_is in cc

  clip_of : (p : ℕ) (c : Call) → slice_get calls p ≡ Some c → (a : Act) → c.act ≡ a → (d : Call) × Clip calls shut close p c d
  clip_of p c is (Act.Send v) act = sends p c v is act
  clip_of p c is (Act.Took v) act = let d = keep c (subst IsPlain (sym act) tt) in (d.0, inl d.1)
  clip_of p c is Act.FoundNone act = let d = keep c (subst IsPlain (sym act) tt) in (d.0, inl d.1)
  clip_of p c is Act.Taking act = let d = keep c (subst IsPlain (sym act) tt) in (d.0, inl d.1)
  clip_of p c is Act.Full act = fulls p c is act
  clip_of p c is Act.Closed act = closing p c is (subst WantsClosed (sym act) tt)
  clip_of p c is Act.Ended act = closing p c is (subst WantsClosed (sym act) tt)
  clip_of p c is Act.Close act = closing p c is (subst WantsClosed (sym act) tt)

  pub chosen : Chosen (Clip calls shut close) calls
  chosen = choose (Clip calls shut close) calls (λ p c is. clip_of p c is c.act refl)

  -- ---- what the clipped log has of the log

  Clipped : List Call
  Clipped = chosen.ds

  -- a plain call is there with its times
  record Plainly (act : Act) (p : ℕ) (d : Did Clipped p act) : Type 0 where
    old : Did calls p act
    begin : d.call.begin ≡ 3 * old.call.begin
    ends : Tripled old.call.end d.call.end

  plain_old : (act : Act) → IsPlain act → (p : ℕ) (d : Did Clipped p act) → Plainly act p d
  unfolding Clipped
  plain_old act plain p d =
      let r = chosen.back p d.call d.call_is in
      let k : Keeps r.0 d.call = grind arith in
      record {
        old = record { call = r.0; call_is = r.1; act_is = sym k.act ∙ d.act_is };
        begin = k.begin;
        ends = k.ends;
      }

  plain_new : (act : Act) → IsPlain act → (p : ℕ) (d : Did calls p act) → (n : Did Clipped p act) × (n.call.begin ≡ 3 * d.call.begin)
  unfolding Clipped
  plain_new act plain p d =
      let r = chosen.there p d.call d.call_is in
      let k : Keeps d.call r.0 = grind arith in
      (record { call = r.0; call_is = r.1; act_is = k.act ∙ d.act_is }, k.begin)

  -- a send is there, which was accepted
  record Sent (item p : ℕ) (d : Did Clipped p (Act.Send item)) : Type 0 where
    old : Did calls p (Act.Send item)
    opens : Opens calls shut p old.call d.call

  send_old : (item p : ℕ) (d : Did Clipped p (Act.Send item)) → Sent item p d
  unfolding Clipped
  send_old item p d =
      let r = chosen.back p d.call d.call_is in
      let k : Opens calls shut p r.0 d.call = grind arith in
      record { old = record { call = r.0; call_is = r.1; act_is = sym k.act ∙ d.act_is }; opens = k }

  send_new : (item p : ℕ) (d : Did calls p (Act.Send item)) → WasAccepted calls p item → Did Clipped p (Act.Send item)
  unfolding Clipped
  send_new item p d accepted = let r = chosen.there p d.call d.call_is in of_clip r.0 r.1 r.2
    where
      of_clip : (c : Call) → slice_get chosen.ds p ≡ Some c → Clip calls shut close p d.call c → Did Clipped p (Act.Send item)
      of_clip c is (inl k) = absurd (subst IsPlain d.act_is k.plain)
      of_clip c is (inr (inl k)) = record { call = c; call_is = is; act_is = k.act ∙ d.act_is }
      of_clip c is (inr (inr (inl k))) = absurd (k.refused item d.act_is accepted)
      of_clip c is (inr (inr (inr (inl k)))) = absurd (subst WantsClosed d.act_is k.wants)
      of_clip c is (inr (inr (inr (inr k)))) = let clash : Act.Close ≡ Act.Send item = sym k.was ∙ d.act_is in cc

  -- ---- it is clipped by the close

  low : (p : ℕ) (c d : Call) → Clip calls shut close p c d → 3 * c.begin ≤ d.begin
  low p c d clip = grind arith

  high : (p : ℕ) (c d : Call) → slice_get calls p ≡ Some c → Clip calls shut close p c d → (e : ℕ) → c.end ≡ Some e → (f : ℕ) × (d.end ≡ Some f) × (f ≤ 3 * e + 2)
  high p c d is clip e ends = grind (arith, ends_after, tripled_some)

  open_by : (p : ℕ) (c d : Call) → Clip calls shut close p c d → WantsOpen d.act → IsSome d.end → (f : ℕ) × (d.end ≡ Some f) × (f ≤ 3 * shut)
  open_by p c d clip wants ended = grind arith

  closed_from : (p : ℕ) (c d : Call) → Clip calls shut close p c d → p ≢ close → WantsClosed d.act → 3 * shut + 1 < d.begin
  closed_from p c d clip other wants = grind arith

  back_act : (p : ℕ) (c d : Call) → Clip calls shut close p c d → (d.act ≡ c.act) ⊎ (IsIdle d.act × (d.end ≡ None))
  back_act p c d clip = grind arith

  the_close : (c : Call) → slice_get chosen.ds close ≡ Some c → Clip calls shut close close dc.call c → (d : Did chosen.ds close Act.Close) × (d.call.begin ≡ 3 * shut + 1) × (d.call.end ≡ Some (3 * shut + 1))
  the_close c is clip =
      let k : IsTheClose shut close close dc.call c = grind arith in
      (record { call = c; call_is = is; act_is = k.act }, k.begin, k.end)

  clips : Clips calls Clipped shut close
  unfolding Clipped
  clips = record {
    there = λ p c is.
        let r = chosen.there p c is in
        (r.0, r.1, (λ some. ended c r.0 (end_cases c.end) some (high p c r.0 is r.2)), low p c r.0 r.2, high p c r.0 is r.2);
    back = λ p d is. let r = chosen.back p d is in (r.0, r.1, back_act p r.0 d r.2);
    open_by = λ p d is wants ended. let r = chosen.back p d is in open_by p r.0 d r.2 wants ended;
    sends_end = λ p item d. let s = send_old item p d in is_some_of d.call.end s.opens.f s.opens.end;
    closes_at = let r = chosen.there close dc.call dc.call_is in the_close r.0 r.1 r.2;
    closed_from = λ p d is other wants. let r = chosen.back p d is in closed_from p r.0 d r.2 other wants;
  }
    where
      ended : (c d : Call) → ((e : ℕ) × (c.end ≡ Some e)) ⊎ (c.end ≡ None) → IsSome c.end → ((e : ℕ) → c.end ≡ Some e → (f : ℕ) × (d.end ≡ Some f) × (f ≤ 3 * e + 2)) → IsSome d.end
      ended c d cases some by = grind arith

  -- ---- it has none of the faults

  timed_clip : (p : ℕ) (c d : Call) → slice_get calls p ≡ Some c → Clip calls shut close p c d → (f : ℕ) → d.end ≡ Some f → d.begin ≤ f
  timed_clip p c d is clip f ends = grind (arith, ends_after, tripled_from)

  -- a send of the clipped log that ended before three times a time was done before that
  sent_by : (p item time f : ℕ) (d : Did Clipped p (Act.Send item)) → d.call.end ≡ Some f → f < 3 * time → SentBy rules calls p item time
  sent_by p item time f d ends early =
      let s = send_old item p d in
      let same : s.opens.f ≡ f = cc in
      record {
        sent = s.old;
        done = elim s.opens.why [
          | inr e ↦ let ended = e.2 in inl (record { call = s.old.call; call_is = s.old.call_is; end = e.0; ended = e.1; by = omega (arith, same, ended, early) })
          | inl late ↦ inr (record {
            judged = judged;
            accepted = s.opens.accepted item s.old.act_is;
            closed = shown;
            was_closed = w;
            by = record { call = w.returned.call; call_is = w.returned.call_is; end = shut; ended = w_end; by = omega (arith, same, late, early) };
          })
        ];
      }

  took_old : (item p : ℕ) (d : Did Clipped p (Act.Took item)) → Plainly (Act.Took item) p d
  took_old item p d = plain_old (Act.Took item) tt p d

  enough_clip : (m n sent began : ℕ) → AreEnough rules calls m n → sent ≤ 3 * m → 3 * n ≤ began → Enough Clipped sent began
  enough_clip m n sent began are before after xs once each =
      let r = are xs once (λ y within.
      let l = each y within in
      record {
        item = l.item;
        sent_by = sent_by y l.item m l.end l.sent l.ended (omega (arith, before));
        untaken = λ t d. l.untaken t (plain_new (Act.Took l.item) tt t d).0;
      }) in (
        r.0,
        r.1,
        r.2,
        λ q within.
            let v = r.3 q within in
            let n_new = plain_new Act.Taking tt q v.0 in
            let one : v.0.call ≡ v.1.call = cc in
            record { taking = n_new.0; begun = grind (arith, after) },
      )

  took_ends : (item p : ℕ) (d : Did calls p (Act.Took item)) → (e : ℕ) × (d.call.end ≡ Some e)
  took_ends item p d = grind (arith, written.took p item d)

  accepted_of : (send take item : ℕ) → Did calls send (Act.Send item) → Did calls take (Act.Took item) → WasAccepted calls send item
  accepted_of send take item s t = inr (take, record { item = item; sent = s; took = record { call = t.call; call_is = t.call_is; act_is = t.act_is; ended = written.took take item t } })

  -- which call ended before which in the clipped log
  did_first : (a b : ℕ) (act other : Act) (da : Did Clipped a act) (db : Did Clipped b other) (e : EndsBefore Clipped a b) → (da.call.end ≡ Some e.end) × (e.end < db.call.begin)
  did_first a b act other da db e = grind arith

  took_first : (a b item : ℕ) (act : Act) (da : Did Clipped a (Act.Took item)) (db : Did Clipped b act) (ob : Did calls b act) → db.call.begin ≡ 3 * ob.call.begin → EndsBefore Clipped a b → EndsBefore calls a b
  took_first a b item act da db ob begins e =
      let f = did_first a b (Act.Took item) act da db e in
      let o = took_old item a da in
      let t = tripled_from o.old.call.end da.call.end e.end o.ends f.0 in
      let before = f.1 in
      let is = t.2 in
      record { one = o.old.call; other = ob.call; end = t.0; one_is = o.old.call_is; other_is = ob.call_is; ended = t.1; before = omega (arith, before, is, begins) }

  sent_first : (a b one other : ℕ) (da : Did Clipped a (Act.Send one)) (db : Did Clipped b (Act.Send other)) → EndsBefore Clipped a b → EndsBefore calls a b
  sent_first a b one other da db e =
      let f = did_first a b (Act.Send one) (Act.Send other) da db e in
      let s = send_old one a da in
      let t = send_old other b db in
      let same : s.opens.f ≡ e.end = cc in
      let before = f.1 in
      let begins = t.opens.begin in
      elim s.opens.why [
        | inl late ↦ absurd (omega (arith, late, same, before, begins))
        | inr g ↦ let is = g.2 in record { one = s.old.call; other = t.old.call; end = g.0; one_is = s.old.call_is; other_is = t.old.call_is; ended = g.1; before = omega (arith, is, same, before, begins) }
      ]

  ended_old : (p : ℕ) (c d : Call) → slice_get calls p ≡ Some c → Clip calls shut close p c d → d.act ≡ Act.Ended → (o : Did calls p Act.Ended) × Tripled o.call.end d.end
  ended_old p c d is clip act =
      let k : (c.act ≡ Act.Ended) × Tripled c.end d.end = grind arith in
      (record { call = c; call_is = is; act_is = k.0 }, k.1)

  ready : Ready Clipped
  unfolding Clipped
  ready = record {
    timed = λ p d f is ends. let r = chosen.back p d is in timed_clip p r.0 d r.1 r.2 f ends;
    waits = λ q d. let o = plain_old Act.Taking tt q d in tripled_none o.old.call.end d.call.end o.ends (written.waits q o.old);
    sent = λ take item d.
        let o = took_old item take d in
        let s = fine.sent take item o.old in
        (s.0, send_new item s.0 s.1 (accepted_of s.0 take item s.1 o.old));
    once = λ item t u dt du. fine.once item t u (took_old item t dt).old (took_old item u du).old;
    after = λ send take item s t ends.
        let so = send_old item send s in
        fine.after send take item so.old (took_old item take t).old (took_first take send item (Act.Send item) t s so.old so.opens.begin ends);
    in_turn = λ s1 t1 s2 t2 one other ds1 dt1 ds2 dt2 first second.
        let o1 = took_old one t1 dt1 in
        fine.in_turn s1 t1 s2 t2 one other (send_old one s1 ds1).old o1.old (send_old other s2 ds2).old (took_old other t2 dt2).old (sent_first s1 s2 one other ds1 ds2 first) (took_first t2 t1 other (Act.Took one) dt2 dt1 o1.old o1.begin second);
    last = λ y s2 t2 item other s untaken s_2 t ends before.
        let o = took_old other t2 t in
        let e = took_ends other t2 o.old in
        let clash : None ≡ Some (3 * e.0 + 2) = sym ends ∙ tripled_some o.old.call.end t.call.end e.0 o.ends e.1 in
        cc;
    enough = λ s2 t2 other f s t ends.
        let so = send_old other s2 s in
        let o = took_old other t2 t in
        let e = tripled_from o.old.call.end t.call.end f o.ends ends in
        let b = so.opens.begin in
        let is = e.2 in
        enough_clip so.old.call.begin e.0 s.call.begin f (fine.enough s2 t2 other e.0 so.old o.old e.1) (omega (arith, b)) (omega (arith, is));
    empty = empty;
  }
    where
      found_none : (call : ℕ) (c : Call) (f : ℕ) → slice_get chosen.ds call ≡ Some c → c.act ≡ Act.FoundNone → c.end ≡ Some f → (m : ℕ) × (c.begin ≤ m) × (m ≤ f) × ((send take item g : ℕ) (s : Did chosen.ds send (Act.Send item)) → s.call.end ≡ Some g → g < m → (t : Did chosen.ds take (Act.Took item)) → t.call.begin ≤ m) × Enough chosen.ds m m
      found_none call c f is act ends =
          let o = plain_old Act.FoundNone tt call (record { call = c; call_is = is; act_is = act }) in
          let e = tripled_from o.old.call.end c.end f o.ends ends in
          let r = fine.empty call o.old.call e.0 o.old.call_is (inl o.old.act_is) e.1 in
          let is_f = e.2 in (
            3 * r.0,
            omega arith,
            omega (arith, is_f),
            (λ send take item g s s_ends early t.
                let ot = took_old item take t in
                let by = r.3 send take item (sent_by send item r.0 g s s_ends early) ot.old in
                let tb = ot.begin in
                omega (arith, by, tb)),
            enough_clip r.0 r.0 (3 * r.0) (3 * r.0) r.4 (omega arith) (omega arith),
          )

      ended : (call : ℕ) (c : Call) (f : ℕ) → slice_get chosen.ds call ≡ Some c → c.act ≡ Act.Ended → c.end ≡ Some f → (m : ℕ) × (c.begin ≤ m) × (m ≤ f) × ((send take item g : ℕ) (s : Did chosen.ds send (Act.Send item)) → s.call.end ≡ Some g → g < m → (t : Did chosen.ds take (Act.Took item)) → t.call.begin ≤ m) × Enough chosen.ds m m
      ended call c f is act ends =
          let r = chosen.back call c is in
          let o = ended_old call r.0 c r.1 r.2 act in
          let e = tripled_from o.0.call.end c.end f o.1 ends in
          let h = fine.ended judged call e.0 o.0 e.1 in
          let is_f = e.2 in (
            f,
            timed_clip call r.0 c r.1 r.2 f ends,
            omega arith,
            (λ send take item g s s_ends early t.
                let ot = took_old item take t in
                omega (arith, h.0 take item ot.old, is_f)),
            enough_clip (suc e.0) e.0 f f h.1 (omega (arith, is_f)) (omega (arith, is_f)),
          )

      empty : (call : ℕ) (c : Call) (f : ℕ) → slice_get chosen.ds call ≡ Some c → FindsNone c.act → c.end ≡ Some f → (m : ℕ) × (c.begin ≤ m) × (m ≤ f) × ((send take item g : ℕ) (s : Did chosen.ds send (Act.Send item)) → s.call.end ≡ Some g → g < m → (t : Did chosen.ds take (Act.Took item)) → t.call.begin ≤ m) × Enough chosen.ds m m
      empty call c f is (inl act) ends = found_none call c f is act ends
      empty call c f is (inr act) ends = ended call c f is act ends

  differ_clip : Differ Clipped
  differ_clip item i j di dj = differ item i j (send_old item i di).old (send_old item j dj).old

  pub closed_order : rules.ties.items ≡ [] → IsLinearizable (of_any_capacity rules) calls
  closed_order ties = complete_closed rules calls Clipped shut close ties clips differ_clip ready

-- ---- whether a call shows the queue closed

-- the call at this place shows the queue closed, and ended at this time
abbrev pub ShownAt : List Call → ℕ → ℕ → Type 0
ShownAt calls p e = (v : WasClosed calls p) × (v.returned.call.end ≡ Some e)

one_shown : (calls : List Call) (p e f : ℕ) → ShownAt calls p e → ShownAt calls p f → e ≡ f
one_shown calls p e f a b = grind arith

wants_closed : (act : Act) → WantsClosed act ⊎ (ShowsClosed act → ⊥)
wants_closed act = grind arith

shown_at : (calls : List Call) (p : ℕ) → ((e : ℕ) × ShownAt calls p e) ⊎ ((e : ℕ) → ShownAt calls p e → ⊥)
shown_at calls p = elim (slice_get_cases calls p).1 [
  | inr none ↦ inr (λ e s. let clash : None ≡ Some s.0.returned.call = sym none.1 ∙ s.0.returned.call_is in cc)
  | inl c ↦ of_call c.0 c.2
]
  where
    of_call : (c : Call) → slice_get calls p ≡ Some c → ((e : ℕ) × ShownAt calls p e) ⊎ ((e : ℕ) → ShownAt calls p e → ⊥)
    of_call c is = elim (wants_closed c.act) [
      | inr other ↦ inr (λ e s.
          let both : Some s.0.returned.call ≡ Some c = sym s.0.returned.call_is ∙ is in
          let one : s.0.returned.call ≡ c = cc in
          other (subst ShowsClosed (sym s.0.returned.act_is ∙ ap (λ (x : Call). x.act) one) s.0.shows))
      | inl wants ↦ elim (end_cases c.end) [
        | inl e ↦ inl (e.0, (record { act = c.act; shows = shows_closed c.act wants; returned = record { call = c; call_is = is; act_is = refl; ended = is_some_of c.end e.0 e.1 } }, e.1))
        | inr open_end ↦ inr (λ e s.
            let one : s.0.returned.call ≡ c = cc in
            none_some c.end open_end (subst (λ (x : Call). IsSome x.end) one s.0.returned.ended))
      ]
    ]

module _ (rules : Rules) (calls : List Call) (ties : rules.ties.items ≡ []) (differ : Differ calls) (written : IsWritten calls) (fine : NoFault rules calls) where
  shown_order : rules.closes ≡ true → LeastAt (ShownAt calls) (length calls) → IsLinearizable (of_any_capacity rules) calls
  shown_order judged l =
      let v = l.holds.0 in
      let c = fine.closed judged l.place v in
      let by : c.1.call.begin ≤ l.number = elim (cases_lt l.number c.1.call.begin) [
        | inr by ↦ by
        | inl late ↦ absurd (c.2 (record { one = v.returned.call; other = c.1.call; end = l.number; one_is = v.returned.call_is; other_is = c.1.call_is; ended = l.holds.1; before = late }))
      ] in
      closed_order rules calls differ written fine judged l.place l.number v l.holds.1 (λ q e s ends. l.least q e (slice_get_within calls q s.returned.call s.returned.call_is) (s, ends)) c.0 c.1 by ties

  open_order : ((q e : ℕ) → q < length calls → ShownAt calls q e → ⊥) → IsLinearizable (of_any_capacity rules) calls
  open_order none_shown = complete_open rules calls ties differ (ready_plain rules calls written fine) (λ p c is wants. unclosed p c is c.act refl wants)
    where
      not_ended : (p : ℕ) (c : Call) → slice_get calls p ≡ Some c → WantsClosed c.act → IsSome c.end → ⊥
      not_ended p c is wants some = elim (end_cases c.end) [
        | inr open_end ↦ none_some c.end open_end some
        | inl e ↦ none_shown p e.0 (slice_get_within calls p c is) (record { act = c.act; shows = shows_closed c.act wants; returned = record { call = c; call_is = is; act_is = refl; ended = some } }, e.1)
      ]

      unclosed : (p : ℕ) (c : Call) → slice_get calls p ≡ Some c → (a : Act) → c.act ≡ a → WantsClosed c.act → IsIdle c.act × (IsSome c.end → ⊥)
      unclosed p c is a act wants =
          let ended : c.act ≡ Act.Ended → IsSome c.end =
          λ e. written.ended p (record { call = c; call_is = is; act_is = e }) in
          grind (arith, not_ended p c is wants)

  by_closes : (closes : Bool) → rules.closes ≡ closes → IsLinearizable (of_any_capacity rules) calls
  by_closes false open_then = completeness rules calls ties open_then differ (ready_plain rules calls written fine)
  by_closes true judged = elim (least_at (ShownAt calls) (one_shown calls) (shown_at calls) (length calls)) [ inl l ↦ shown_order judged l | inr none ↦ open_order none ]

pub faultless_logs_have_orders : FaultlessLogsHaveOrders
faultless_logs_have_orders rules calls ties differ written fine = by_closes rules calls ties differ written fine rules.closes refl
