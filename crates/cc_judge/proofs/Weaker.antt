-- An order of a log is one of a log that says less of its calls.
use Rattle.std.proofs.Common.{◌≡◌, ℕ, suc, ◌+◌, ◌≤◌, inl, inr, List, [], ◌∷◌, ◌++◌, length, Some, None, refl, sym, ap, ◌∙◌, subst, arith}
use Rattle.std.specs.List.{slice_get}
use Rattle.cc_judge.specs.Names.{Act, Call, Step, Rules}
use Rattle.cc_judge.specs.Order.{MayHaveDone, IsOrder}
use Rattle.cc_judge.specs.Faults.{Did, Differ}
use Rattle.cc_judge.specs.Late.{LateLogsHaveNoFault, Weaker, WindowsAreLinearizable}
use Rattle.cc_judge.proofs.Late.{late_logs_are_linearizable}
use Rattle.cc_judge.proofs.Marks.{get_behind, get_front, get_split}
use Rattle.cc_judge.proofs.Calls.{is_some_of, some_end}

-- So a late log, a window, clocks that differ, and takes of which it isn't known what they took accuse no queue that a log with more
-- in it wouldn't.
pub weaken : (rules : Rules) (calls loose : List Call) (order : List Step) → Weaker calls loose → IsOrder rules calls order → IsOrder rules loose order
weaken rules calls loose order w o = record {
  each = λ k s is.
      let i = o.each k s is in
      let r = w.there s.place i.call i.call_is in
      record { call = r.0; call_is = r.1; may = r.2 s.act i.may };
  once = o.once;
  whole = λ place d is ended.
      let r = w.back place d is in
      let e = some_end d.end ended in
      let f = r.3 e.0 e.1 in
      o.whole place r.0 r.1 (is_some_of r.0.end f.0 f.1);
  in_time = λ j k s t less s_is t_is ends.
      let one = w.back t.place ends.one ends.one_is in
      let other = w.back s.place ends.other ends.other_is in
      let f = one.3 ends.end ends.ended in
      let by = f.2 in
      let low = other.2 in
      let less_than = ends.before in
      o.in_time j k s t less s_is t_is (record { one = one.0; other = other.0; end = f.0; one_is = one.1; other_is = other.1; ended = f.1; before = omega (arith, by, low, less_than) });
  in_line = o.in_line;
  legal = o.legal;
  closing = o.closing;
}

-- ---- windows

-- who sends in a log of which less is known sends in the log too
sends_too : (said : Act) (x : ℕ) → ((act : Act) → MayHaveDone said act → Act.Send x ≡ act) → said ≡ Act.Send x
sends_too said x may = grind (arith, may said, may Act.FoundNone)

did_too : (calls loose : List Call) → Weaker calls loose → (p x : ℕ) → Did loose p (Act.Send x) → Did calls p (Act.Send x)
did_too calls loose w p x d =
    let r = w.back p d.call d.call_is in
    let s = w.there p r.0 r.1 in
    let one : s.0 ≡ d.call = cc in
    let send : s.0.act ≡ Act.Send x = ap (λ (y : Call). y.act) one ∙ d.act_is in
    record { call = r.0; call_is = r.1; act_is = sends_too r.0.act x (λ act may. subst (λ (a : Act). MayHaveDone a act) send (s.2 act may)) }

-- what a log lacks is the same behind one of which less is known
record Alike (calls loose : List Call) : Type 0 where
  same : length calls ≡ length loose

with_lacked : (calls loose lacked : List Call) → Weaker calls loose → Alike calls loose → Weaker (calls ++ lacked) (loose ++ lacked)
with_lacked calls loose lacked w alike = record {
  there = λ p c is. elim (get_split calls lacked p c is) [
    | inl mine ↦ let r = w.there p c mine in (r.0, get_front loose lacked p r.0 r.1, r.2)
    | inr behind ↦ (c, ap (slice_get (loose ++ lacked)) (behind.1 ∙ ap (λ (n : ℕ). n + behind.0) alike.same) ∙ get_behind loose lacked behind.0 ∙ behind.2, λ act may. may)
  ];
  back = λ p d is. elim (get_split loose lacked p d is) [
    | inl mine ↦ let r = w.back p d mine in (r.0, get_front calls lacked p r.0 r.1, r.2, r.3)
    | inr behind ↦ (d, ap (slice_get (calls ++ lacked)) (behind.1 ∙ ap (λ (n : ℕ). n + behind.0) (sym alike.same)) ∙ get_behind calls lacked behind.0 ∙ behind.2, omega arith, λ e ends. (e, ends, omega arith))
  ];
}

-- two lists that have something at the same places are of one length
no_longer : (xs ys : List Call) → ((p : ℕ) (x : Call) → slice_get xs p ≡ Some x → (y : Call) × (slice_get ys p ≡ Some y)) → length xs ≤ length ys
no_longer [] ys has = omega arith
no_longer (x ∷ xs) [] has = let r = has 0 x refl in let e : None ≡ Some r.0 = r.1 in cc
no_longer (x ∷ xs) (y ∷ ys) has = let h = no_longer xs ys (λ p z is. has (suc p) z is) in omega (arith, h)

alike : (calls loose : List Call) → Weaker calls loose → Alike calls loose
alike calls loose w = grind (arith, no_longer)

differ_too : (calls loose lacked : List Call) → Weaker (calls ++ lacked) (loose ++ lacked) → Differ (calls ++ lacked) → Differ (loose ++ lacked)
differ_too calls loose lacked w differ item i j one other = differ item i j (did_too (calls ++ lacked) (loose ++ lacked) w i item one) (did_too (calls ++ lacked) (loose ++ lacked) w j item other)

pub windows_are_linearizable : WindowsAreLinearizable
windows_are_linearizable whole part calls loose lacked items w sound rules differ is =
    let more = with_lacked calls loose lacked w (alike calls loose w) in
    late_logs_are_linearizable whole part loose lacked items sound rules (differ_too calls loose lacked more differ) (is.0, weaken whole (calls ++ lacked) (loose ++ lacked) is.0 more is.1)

pub late_logs_have_no_fault : LateLogsHaveNoFault
late_logs_have_no_fault whole part calls loose lacked items w sound rules differ is fault verdict = verdict.1 (windows_are_linearizable whole part calls loose lacked items w sound rules differ is)
