use Rattle.std.proofs.Common.{ℕ, List, sym, subst, arith}
use Rattle.cc_judge.specs.Names.{Call, Fault}
use Rattle.cc_judge.specs.Faults.{Differ}
use Rattle.cc_judge.specs.Faultless.{IsWritten, NoFault}
use Rattle.cc_judge.specs.Verdict.{AreSentBelow, Stands}
use Rattle.cc_judge.proofs.Until.{IsSought, NoneBefore, until_below, until_differ, until_end, until_written, none_first, none_until, stands_first}
use Rattle.cc_judge.proofs.decide.first_fault.Goals as goal
use Rattle.cc_judge.proofs.decide.first_fault.Goals.{in-Some, in-None}

pub loop-low-init : goal.loop-low-init
loop-low-init c = (omega (arith), none_first c.args.rules.now c.args.calls.now, record { part = c.args.calls.now; part_is = until_end c.last_end-high.result c.args.calls.now c.last_end-high.ensures; stands = c.requires.stands })

pub found_in-requires-clause-written : goal.found_in-requires-clause-written
found_in-requires-clause-written c = subst IsWritten (sym c.as_slice.ensures.value) (until_written c.next_time-time.result c.args.calls.now c.in_ok-part.part.items c.in_ok-part.ensures c.requires.written)

pub found_in-requires-clause-differ : goal.found_in-requires-clause-differ
found_in-requires-clause-differ c = subst Differ (sym c.as_slice.ensures.value) (until_differ c.next_time-time.result c.args.calls.now c.in_ok-part.part.items c.in_ok-part.ensures c.requires.differ)

pub found_in-requires-clause-below : goal.found_in-requires-clause-below
found_in-requires-clause-below c = subst (λ (part : List Call). AreSentBelow part c.args.items) (sym c.as_slice.ensures.value) (until_below c.next_time-time.result c.args.calls.now c.in_ok-part.part.items c.in_ok-part.ensures c.args.items c.requires.below)

pub loop-low-preserved : goal.loop-low-preserved
loop-low-preserved c =
    let rules = c.args.rules.now in
    let calls = c.args.calls.now in
    let now = c.match-branch-4 in
    let part = c.in_ok-part.part.items in
    let time = c.next_time-time.result in
    let from = c.next_time-time.ensures.from in
    let before = c.next_time-time.ensures.before in
    elim c.match-branch-4.branch [
      | in-Some w ↦
          subst (λ (n : ℕ). IsSought rules calls n now.high now.first) (sym w.low-is)
          (subst (λ (n : ℕ). IsSought rules calls c.loop-low.low n now.first) (sym w.high-is)
          (subst (λ (f : Fault). IsSought rules calls c.loop-low.low time f) (sym w.first-is)
          (from, c.loop-low.invariant.1, record { part = part; part_is = c.in_ok-part.ensures; stands = subst (λ (x : List Call). Stands rules x w.in-Some.fault) c.as_slice.ensures.value (rw w.in-Some.is at c.in_ok-fault.ensures.some) })))
      | in-None w ↦
          let next = w.after-low.ensures in
          let fine = subst (λ (x : List Call). NoFault rules x) c.as_slice.ensures.value (rw w.in-None.is at c.in_ok-fault.ensures.none).0 in
          subst (λ (n : ℕ). IsSought rules calls n now.high now.first) (sym w.low-is)
          (subst (λ (n : ℕ). IsSought rules calls w.after-low.result n now.first) (sym w.high-is)
          (subst (λ (f : Fault). IsSought rules calls w.after-low.result c.loop-low.high f) (sym w.first-is)
          (omega (arith, next, before), subst (NoneBefore rules calls) (sym next) (none_until rules calls part time c.requires.differ c.requires.written c.in_ok-part.ensures fine), c.loop-low.invariant.2)))
    ]

pub returns : goal.returns
returns c = stands_first c.args.rules.now c.args.calls.now c.loop-low.low c.loop-low.high c.loop-low.first (omega (arith, c.loop-low-test.false)) c.loop-low.invariant
