use Rattle.std.proofs.Common.{◌≡◌, ℕ, ◌+◌, List, length, Option, sym, ap, ◌∙◌, subst}
use Rattle.cc_judge.proofs.Tables.{TabledTo, tabled_skip, tabled_new, tabled_twice, tabled_end, tabled_below, as_long, did_here, stray_past}
use Rattle.cc_judge.proofs.table.find.Goals as goal
use Rattle.cc_judge.proofs.table.find.Goals.{in-Some+in_ok-enter+in-New, in_default}

pub loop-place-preserved : goal.loop-place-preserved
loop-place-preserved c =
    let Goes : List (Option ℕ) → Type 0 = λ t. TabledTo c.args.calls.now c.args.kind t (c.loop-place.place + 1) × (length t ≡ c.args.items) in
    elim c.match-item_of.branch [
      | in-Some+in_ok-enter+in-New w ↦
          let entered = rw w.in-New.is at w.in_ok-enter.ensures in
          subst Goes (ap (λ t. t.items) (sym w.table-is)) (tabled_new _ _ _ _ _ _ _ c.loop-place-test.true w.in-Some.ensures.some entered.0 entered.1 c.loop-place.invariant.0, as_long _ _ _ _ entered.1 ∙ c.loop-place.invariant.1)
      | in_default w ↦ subst Goes (ap (λ t. t.items) (sym w.table-is)) (tabled_skip _ _ _ _ _ w.in_default.ensures.none c.loop-place.invariant.0, c.loop-place.invariant.1)
    ]

pub returns-in-Had-clause-found : goal.returns-in-Had-clause-found
returns-in-Had-clause-found c =
    let entered = rw c.in-Had.is at c.in_ok-enter.ensures in
    tabled_twice _ _ _ _ _ _ _ c.loop-place-test.true c.in-Some.ensures.some entered.0 c.loop-place.invariant.0

pub returns-in-Stray-clause-found : goal.returns-in-Stray-clause-found
returns-in-Stray-clause-found c = (c.in-Some.item, did_here _ _ _ _ c.loop-place-test.true c.in-Some.ensures.some)

pub returns-in-Stray-clause-past : goal.returns-in-Stray-clause-past
returns-in-Stray-clause-past c =
    let none = rw c.in-Stray.is at c.in_ok-enter.ensures in
    stray_past _ _ _ _ _ _ _ c.loop-place-test.true c.in-Some.ensures.some none c.loop-place.invariant.1

pub returns-clause-found : goal.returns-clause-found
returns-clause-found c = tabled_end _ _ _ _ c.loop-place-test.false c.loop-place.invariant.0

pub returns-clause-past : goal.returns-clause-past
returns-clause-past c = tabled_below c.args.calls.now c.args.kind c.loop-place.table.items c.args.items (tabled_end _ _ _ _ c.loop-place-test.false c.loop-place.invariant.0) c.loop-place.invariant.1
