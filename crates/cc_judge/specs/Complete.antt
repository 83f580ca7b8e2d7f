-- When a log has a legal order: exactly what the judge looks for.
use Rattle.std.specs.Prelude.{◌≡◌, ℕ, ◌<◌, ◌≤◌, false, List, [], length, Some, None, slice_get}
use Rattle.cc_judge.specs.Names.{Act, Call, Rules}
use Rattle.cc_judge.specs.Order.{EndsBefore, IsLinearizable, of_any_capacity}
use Rattle.cc_judge.specs.Faults.{Did, Differ, FindsNone, In, Once}

-- the send ended before the time, and no call took its item
pub record IsLeft (calls : List Call) (time send : ℕ) : Type 0 where
  pub item : ℕ
  pub sent : Did calls send (Act.Send item)
  pub end : ℕ
  pub ended : sent.call.end ≡ Some end
  pub early : end < time
  pub untaken : (t : ℕ) → Did calls t (Act.Took item) → ⊥

pub record IsWaiting (calls : List Call) (time take : ℕ) : Type 0 where
  pub taking : Did calls take Act.Taking
  pub begun : taking.call.begin ≤ time

-- of the sends that ended before the one time, items that no call took, are no more than takes that haven't returned and began by the other
abbrev pub Enough : List Call → (sent began : ℕ) → Type 0
Enough calls sent began = (xs : List ℕ) → Once xs → ((y : ℕ) → In y xs → IsLeft calls sent y) → (ys : List ℕ) × (length ys ≡ length xs) × Once ys × ((q : ℕ) → In q ys → IsWaiting calls began q)

pub record Ready (calls : List Call) : Type 0 where
  pub timed : (p : ℕ) (c : Call) (e : ℕ) → slice_get calls p ≡ Some c → c.end ≡ Some e → c.begin ≤ e
  pub waits : (q : ℕ) → (d : Did calls q Act.Taking) → d.call.end ≡ None
  pub sent : (take item : ℕ) → Did calls take (Act.Took item) → (send : ℕ) × Did calls send (Act.Send item)
  pub once : (item t u : ℕ) → Did calls t (Act.Took item) → Did calls u (Act.Took item) → t ≡ u
  pub after : (send take item : ℕ) → Did calls send (Act.Send item) → Did calls take (Act.Took item) → EndsBefore calls take send → ⊥
  pub in_turn : (s1 t1 s2 t2 one other : ℕ) → Did calls s1 (Act.Send one) → Did calls t1 (Act.Took one) → Did calls s2 (Act.Send other) → Did calls t2 (Act.Took other) → EndsBefore calls s1 s2 → EndsBefore calls t2 t1 → ⊥
  pub last : (y s2 t2 item other : ℕ) → Did calls y (Act.Send item) → ((t : ℕ) → Did calls t (Act.Took item) → ⊥) → Did calls s2 (Act.Send other) → (t : Did calls t2 (Act.Took other)) → t.call.end ≡ None → EndsBefore calls y s2 → ⊥
  pub enough : (s2 t2 other e : ℕ) (s : Did calls s2 (Act.Send other)) (t : Did calls t2 (Act.Took other)) → t.call.end ≡ Some e → Enough calls s.call.begin e
  pub empty : (call : ℕ) (c : Call) (e : ℕ) → slice_get calls call ≡ Some c → FindsNone c.act → c.end ≡ Some e → (m : ℕ) × (c.begin ≤ m) × (m ≤ e) × ((send take item f : ℕ) (s : Did calls send (Act.Send item)) → s.call.end ≡ Some f → f < m → (t : Did calls take (Act.Took item)) → t.call.begin ≤ m) × Enough calls m m

-- the law: a log without closes, and with no calls that only their lines order, has a legal order if it has none of the faults
abbrev pub LogsWithoutFaultsHaveOrders : Type 0
LogsWithoutFaultsHaveOrders = (rules : Rules) (calls : List Call) → rules.ties.items ≡ [] → rules.closes ≡ false → Differ calls → Ready calls → IsLinearizable (of_any_capacity rules) calls
