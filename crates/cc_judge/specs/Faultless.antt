-- A log without faults, and the law that it has a legal order.
use Rattle.std.specs.Prelude.{◌≡◌, ℕ, suc, ◌≤◌, true, List, [], Some, None, IsSome, slice_get}
use Rattle.cc_judge.specs.Names.{Act, Call, Rules}
use Rattle.cc_judge.specs.Order.{EndsBefore, IsLinearizable, of_any_capacity}
use Rattle.cc_judge.specs.Faults.{Did, Differ, WasClosed, WasOpen, FindsNone}
use Rattle.cc_judge.specs.Counts.{SentBy, AreEnough}

-- A well-formed log: a call ends no earlier than it begins. A take of which no item is known hasn't returned. A call that took an item,
-- or found the queue closed and empty, has returned.
pub record IsWritten (calls : List Call) : Type 0 where
  pub timed : (p : ℕ) (c : Call) (e : ℕ) → slice_get calls p ≡ Some c → c.end ≡ Some e → c.begin ≤ e
  pub waits : (q : ℕ) → (d : Did calls q Act.Taking) → d.call.end ≡ None
  pub took : (q item : ℕ) → (d : Did calls q (Act.Took item)) → IsSome d.call.end
  pub ended : (q : ℕ) → (d : Did calls q Act.Ended) → IsSome d.call.end

-- None of the faults. Each item that was taken was sent (`sent`). It was taken once (`once`), and not before its send (`after`). Of two
-- items that were sent one after the other the first isn't taken after the second (`in_turn`), and isn't left behind (`enough`). A take
-- that found none has a time at which no item need be in the queue (`empty`). When a take that found the queue closed and empty ends,
-- no item need be there (`ended`). No send finds the queue open after a call that shows it closed (`still_open`), and a close began
-- before that call ended (`closed`).
pub record NoFault (rules : Rules) (calls : List Call) : Type 0 where
  pub sent : (take item : ℕ) → Did calls take (Act.Took item) → (send : ℕ) × Did calls send (Act.Send item)
  pub once : (item t u : ℕ) → Did calls t (Act.Took item) → Did calls u (Act.Took item) → t ≡ u
  pub after : (send take item : ℕ) → Did calls send (Act.Send item) → Did calls take (Act.Took item) → EndsBefore calls take send → ⊥
  pub in_turn : (s1 t1 s2 t2 one other : ℕ) → Did calls s1 (Act.Send one) → Did calls t1 (Act.Took one) → Did calls s2 (Act.Send other) → Did calls t2 (Act.Took other) → EndsBefore calls s1 s2 → EndsBefore calls t2 t1 → ⊥
  pub enough : (s2 t2 other e : ℕ) (s : Did calls s2 (Act.Send other)) (t : Did calls t2 (Act.Took other)) → t.call.end ≡ Some e → AreEnough rules calls s.call.begin e
  pub empty : (call : ℕ) (c : Call) (e : ℕ) → slice_get calls call ≡ Some c → FindsNone c.act → c.end ≡ Some e → (m : ℕ) × (c.begin ≤ m) × (m ≤ e) × ((send take item : ℕ) → SentBy rules calls send item m → (t : Did calls take (Act.Took item)) → t.call.begin ≤ m) × AreEnough rules calls m m
  pub ended : rules.closes ≡ true → (call e : ℕ) → (d : Did calls call Act.Ended) → d.call.end ≡ Some e → ((take item : ℕ) → (t : Did calls take (Act.Took item)) → t.call.begin ≤ e) × AreEnough rules calls (suc e) e
  pub still_open : rules.closes ≡ true → (closed send : ℕ) → WasClosed calls closed → WasOpen calls send → EndsBefore calls closed send → ⊥
  pub closed : rules.closes ≡ true → (call : ℕ) → WasClosed calls call → (close : ℕ) × Did calls close Act.Close × (EndsBefore calls call close → ⊥)

-- The law: a log without ties, whose items differ, has a legal order of a queue of whatever capacity if it has none of the faults.
abbrev pub FaultlessLogsHaveOrders : Type 0
FaultlessLogsHaveOrders = (rules : Rules) (calls : List Call) → rules.ties.items ≡ [] → Differ calls → IsWritten calls → NoFault rules calls → IsLinearizable (of_any_capacity rules) calls
