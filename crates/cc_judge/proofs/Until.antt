-- A log until a time: it has a legal order if the log has one, and the log until an earlier time is that of the log until a later one.
use Rattle.std.proofs.Common.{◌≡◌, ℕ, zero, suc, ◌+◌, ◌<◌, ◌≤◌, inl, inr, Bool, true, false, List, [], ◌∷◌, Option, Some, None, IsSome, refl, sym, ap, ◌∙◌, subst, arith}
use Rattle.std.specs.List.{slice_get}
use Rattle.cc_judge.specs.Names.{Act, Call, Fault, Rules, Step}
use Rattle.cc_judge.specs.Order.{Allows, Closes, Does, EndsBefore, HasStepOf, IsCall, IsOrder, IsLinearizable, IsRun, MayHaveDone, closed_after, of_any_capacity}
use Rattle.cc_judge.specs.Faults.{Did, Differ}
use Rattle.cc_judge.specs.Faultless.{IsWritten, NoFault}
use Rattle.cc_judge.specs.Until.{HaveEnded, IsCallUntil, IsUntil, act_until}
use Rattle.cc_judge.specs.Verdict.{AreSentBelow, Stands, StandsFirst}
use Rattle.cc_judge.proofs.Faultless.{faultless_logs_have_orders}
use Rattle.cc_judge.proofs.NoOrder.{no_order}
use Rattle.cc_judge.proofs.Calls.{end_cases, none_some}

-- ---- an order of the log until a time: a take that found the queue closed and empty, and hasn't returned, found none

abbrev pub finds_none : Act → Bool
finds_none Act.FoundNone = true
finds_none Act.Taking = true
finds_none _ = false

abbrev pub act_by : (finds : Bool) → Act → Act
act_by true Act.Ended = Act.FoundNone
act_by true (Act.Send v) = Act.Send v
act_by true (Act.Took v) = Act.Took v
act_by true Act.FoundNone = Act.FoundNone
act_by true Act.Taking = Act.Taking
act_by true Act.Full = Act.Full
act_by true Act.Closed = Act.Closed
act_by true Act.Close = Act.Close
act_by false did = did

-- a queue answers it as before
record Fits (did now : Act) : Type 0 where
  does : (capacity : Option ℕ) (before after : List ℕ) → Does capacity before did after → Does capacity before now after
  allows : (closed : Bool) → Allows closed did → Allows closed now
  closes : (closed : Bool) → closed_after closed did ≡ closed_after closed now

fits : (finds : Bool) (did : Act) → Fits did (act_by finds did)
fits finds did = grind arith

may_by : (time : ℕ) (c d : Call) (did : Act) → IsCallUntil time c d → MayHaveDone c.act did → MayHaveDone d.act (act_by (finds_none d.act) did)
may_by time c d did until may = grind arith

abbrev pub finds_of : Option Call → Bool
finds_of None = false
finds_of (Some c) = finds_none c.act

abbrev pub step_by : List Call → Step → Step
step_by part s = record { place = s.place; act = act_by (finds_of (slice_get part s.place)) s.act }

abbrev pub order_by : List Call → List Step → List Step
order_by part [] = []
order_by part (s ∷ steps) = step_by part s ∷ order_by part steps

get_by : (part : List Call) (order : List Step) (k : ℕ) (s : Step) → slice_get order k ≡ Some s → slice_get (order_by part order) k ≡ Some (step_by part s)
get_by part [] k s is = cc
get_by part (x ∷ order) zero s is = let e : x ≡ s = cc in ap (λ (y : Step). Some (step_by part y)) e
get_by part (x ∷ order) (suc k) s is = get_by part order k s is

of_order : (part : List Call) (order : List Step) (k : ℕ) (t : Step) → slice_get (order_by part order) k ≡ Some t → (s : Step) × (slice_get order k ≡ Some s) × (step_by part s ≡ t)
of_order part [] k t is = absurd (cc (is))
of_order part (x ∷ order) zero t is = let e : step_by part x ≡ t = cc in (x, refl, e)
of_order part (x ∷ order) (suc k) t is = of_order part order k t is

run_by : (part : List Call) (capacity : Option ℕ) (held : List ℕ) (order : List Step) → IsRun capacity held order → IsRun capacity held (order_by part order)
run_by part capacity held [] run = tt
run_by part capacity held (s ∷ order) run = (run.0, (fits (finds_of (slice_get part s.place)) s.act).does capacity held run.0 run.1, run_by part capacity run.0 order run.2)

closes_by : (part : List Call) (closed : Bool) (order : List Step) → Closes closed order → Closes closed (order_by part order)
closes_by part closed [] closes = tt
closes_by part closed (s ∷ order) closes =
    grind (arith, fits, closes_by part (closed_after closed s.act) order closes.1)

module _ (time : ℕ) (calls part : List Call) (k : IsUntil time calls part) where
  -- what the log until the time has of a call that returned, the log has
  begins : (c d : Call) → IsCallUntil time c d → d.begin ≡ c.begin
  begins c d until = grind arith

  ends : (c d : Call) → IsCallUntil time c d → (end : ℕ) → d.end ≡ Some end → d ≡ c
  ends c d until end is = grind arith

  before_too : (one other : ℕ) → EndsBefore part one other → EndsBefore calls one other
  before_too one other e = grind arith

  pub until_order : (rules : Rules) (order : List Step) → IsOrder rules calls order → IsOrder rules part (order_by part order)
  until_order rules order o = record {
    each = λ n t is.
        let s = of_order part order n t is in
        let i = o.each n s.0 s.1 in
        let d = k.there s.0.place i.call i.call_is in
        let may = subst (λ (f : Option Call). MayHaveDone d.0.act (act_by (finds_of f) s.0.act)) (sym d.1) (may_by time i.call d.0 s.0.act d.2 i.may) in
        subst (IsCall part) s.2 (record { call = d.0; call_is = d.1; may = may });
    once = grind (arith, of_order);
    whole = λ place d is ended. has place d is ended;
    in_time = λ j n s t less s_is t_is before.
        let a = of_order part order j s s_is in
        let b = of_order part order n t t_is in
        o.in_time j n a.0 b.0 less a.1 b.1 (subst (λ (p : ℕ). EndsBefore calls b.0.place p) (sym (ap (λ (x : Step). x.place) a.2)) (subst (λ (p : ℕ). EndsBefore calls p s.place) (sym (ap (λ (x : Step). x.place) b.2)) (before_too t.place s.place before)));
    in_line = grind (arith, of_order);
    legal = run_by part rules.capacity [] order o.legal;
    closing = λ judged. closes_by part false order (o.closing judged);
  }
    where
      has : (place : ℕ) (d : Call) → slice_get part place ≡ Some d → IsSome d.end → HasStepOf (order_by part order) place
      has place d is some =
          let c = k.back place d is in
          let one : d ≡ c.0 = elim (end_cases d.end) [ inl e ↦ ends c.0 d c.2 e.0 e.1 | inr open_end ↦ absurd (none_some d.end open_end some) ] in
          let h = o.whole place c.0 c.1 (subst (λ (x : Call). IsSome x.end) one some) in
          record { at = h.at; step = step_by part h.step; step_is = get_by part order h.at h.step h.step_is; place_is = h.place_is }

  pub until_linearizable : (rules : Rules) → IsLinearizable rules calls → IsLinearizable rules part
  until_linearizable rules order = (order_by part order.0, until_order rules order.0 order.1)

  did_send : (place item : ℕ) → Did part place (Act.Send item) → Did calls place (Act.Send item)
  did_send place item did = grind arith

  pub until_differ : Differ calls → Differ part
  until_differ differ item i j one other = differ item i j (did_send i item one) (did_send j item other)

  pub until_below : (items : ℕ) → AreSentBelow calls items → AreSentBelow part items
  until_below items below place item did = below place item (did_send place item did)

  pub until_written : IsWritten calls → IsWritten part
  until_written written = record {
    timed = λ p d e is ended. let c = k.back p d is in let one = ends c.0 d c.2 e ended in subst (λ (x : Call). x.begin ≤ e) (sym one) (written.timed p c.0 e c.1 (sym (ap (λ (x : Call). x.end) one) ∙ ended));
    waits = λ q did. let c = k.back q did.call did.call_is in waits q c.0 did.call c.1 c.2 did.act_is;
    took = λ q item did. let c = k.back q did.call did.call_is in returns q c.0 did.call (λ act. took act item) c.2 did.act_is (λ d. written.took q item d) c.1;
    ended = λ q did. let c = k.back q did.call did.call_is in returns q c.0 did.call ended c.2 did.act_is (λ d. written.ended q d) c.1;
  }
    where
      waits : (q : ℕ) (c d : Call) → slice_get calls q ≡ Some c → IsCallUntil time c d → d.act ≡ Act.Taking → d.end ≡ None
      waits q c d is (inl over) act = ap (λ (x : Call). x.end) over.1 ∙ written.waits q (record { call = c; call_is = is; act_is = sym (ap (λ (x : Call). x.act) over.1) ∙ act })
      waits q c d is (inr held) act = ap (λ (x : Call). x.end) held.1

      returns : (q : ℕ) (c d : Call) {a : Act} → ((act : Act) → act_until act ≡ a → ⊥) → IsCallUntil time c d → d.act ≡ a → ((did : Did calls q a) → IsSome did.call.end) → slice_get calls q ≡ Some c → IsSome d.end
      returns q c d never (inl over) act some is = subst (λ (x : Call). IsSome x.end) (sym over.1) (some (record { call = c; call_is = is; act_is = sym (ap (λ (x : Call). x.act) over.1) ∙ act }))
      returns q c d never (inr held) act some is = absurd (never c.act (sym (ap (λ (x : Call). x.act) held.1) ∙ act))

      took : (act : Act) (item : ℕ) → act_until act ≡ Act.Took item → ⊥
      took act item is = grind arith

      ended : (act : Act) → act_until act ≡ Act.Ended → ⊥
      ended act is = grind arith

-- ---- times

-- until its last end the log is as it is
pub until_end : (time : ℕ) (calls : List Call) → HaveEnded time calls → IsUntil time calls calls
until_end time calls ended = record { there = λ p c is. (c, is, inl (λ end e. ended p end c is e, refl)); back = λ p c is. (c, is, inl (λ end e. ended p end c is e, refl)) }

-- the log until an earlier time
pub until_earlier : (early late : ℕ) (calls part first : List Call) → early ≤ late → IsUntil late calls part → IsUntil early calls first → IsUntil early part first
until_earlier early late calls part first le l e = record {
  there = λ p d is. let c = l.back p d is in let f = e.there p c.0 c.1 in (f.0, f.1, both c.0 d f.0 c.2 f.2);
  back = λ p f is. let c = e.back p f is in let d = l.there p c.0 c.1 in (d.0, d.1, both c.0 d.0 f d.2 c.2);
}
  where
    both : (c d f : Call) → IsCallUntil late c d → IsCallUntil early c f → IsCallUntil early d f
    both c d f then now = grind arith

-- ---- the search for the first fault

-- the log has the fault until this time
pub record StandsUntil (rules : Rules) (calls : List Call) (time : ℕ) (fault : Fault) : Type 0 where
  pub part : List Call
  pub part_is : IsUntil time calls part
  pub stands : Stands rules part fault

-- until a time before this one it has none
abbrev pub NoneBefore : Rules → List Call → (time : ℕ) → Type 0
NoneBefore rules calls time = rules.ties.items ≡ [] → (earlier : ℕ) → earlier < time → (early : List Call) → IsUntil earlier calls early → IsLinearizable (of_any_capacity rules) early

-- the log has the fault until the one time, and none before the other
abbrev pub IsSought : Rules → List Call → (low high : ℕ) → Fault → Type 0
IsSought rules calls low high fault = (low ≤ high) × NoneBefore rules calls low × StandsUntil rules calls high fault

pub none_first : (rules : Rules) (calls : List Call) → NoneBefore rules calls 0
none_first rules calls ties earlier less = absurd (omega (arith, less))

pub none_until : (rules : Rules) (calls part : List Call) (time : ℕ) → Differ calls → IsWritten calls → IsUntil time calls part → NoFault rules part → NoneBefore rules calls (time + 1)
none_until rules calls part time differ written k fine ties earlier less early early_is =
    let le : earlier ≤ time = omega (arith, less) in
    let order = faultless_logs_have_orders rules part ties (until_differ time calls part k differ) (until_written time calls part k written) fine in
    until_linearizable earlier part early (until_earlier earlier time calls part early le k early_is) (of_any_capacity rules) order

pub stands_first : (rules : Rules) (calls : List Call) (low high : ℕ) (fault : Fault) → high ≤ low → IsSought rules calls low high fault → StandsFirst rules calls fault
stands_first rules calls low high fault le sought = grind arith

pub no_first : (rules : Rules) (calls : List Call) (fault : Fault) → Differ calls → StandsFirst rules calls fault → IsLinearizable rules calls → ⊥
no_first rules calls fault differ s order = no_order rules s.part fault (until_differ s.time calls s.part s.part_is differ) s.stands (until_linearizable s.time calls s.part s.part_is rules order)
