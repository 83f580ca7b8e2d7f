use Rattle.std.proofs.Common.{ℕ}
use Rattle.cc_judge.specs.Names.{Rules}
use Rattle.cc_judge.specs.Faultless.{NoFault}
use Rattle.cc_judge.specs.Sweeps.{AreLists, IsShutAt, MayBeEmpty}
use Rattle.cc_judge.specs.Verdict.{Stands}
use Rattle.cc_judge.proofs.Judging.{no_fault}
use Rattle.cc_judge.proofs.Deciding.{ok_some, ok_none}
use Rattle.cc_judge.proofs.decide.fault_of.Goals as goal

pub returns-in-Some-clause-some : goal.returns-in-Some-clause-some
returns-in-Some-clause-some c = c.in-Some.ensures.some c.args.rules.now

pub returns-in-Some-close_fault-clause-some : goal.returns-in-Some-close_fault-clause-some
returns-in-Some-close_fault-clause-some c = c.in-Some-close_fault.ensures.some c.args.rules.now c.shut_of-shut.ensures

pub returns-in-Some-2-clause-some : goal.returns-in-Some-2-clause-some
returns-in-Some-2-clause-some c =
    let keeps = c.in_default-close_fault.ensures.none c.args.rules.now c.shut_of-shut.ensures in
    let lists = c.in_ok-lists.ensures c.args.rules.now c.requires.written c.shut_of-shut.ensures in
    (rw c.in-Some-2.is at c.in_ok-fault.ensures.some) c.args.rules.now lists keeps

pub returns-clause-some : goal.returns-clause-some
returns-clause-some c =
    let lists = c.in_ok-lists.ensures c.args.rules.now c.requires.written c.shut_of-shut.ensures in
    ok_some _ (Stands c.args.rules.now c.args.calls.now) _ c.none_fault.ensures.some (λ fault stands. stands c.args.rules.now lists c.shut_of-shut.ensures)

pub returns-clause-none : goal.returns-clause-none
returns-clause-none c =
    let keeps = c.in_default-close_fault.ensures.none c.args.rules.now c.shut_of-shut.ensures in
    let lists = c.in_ok-lists.ensures c.args.rules.now c.requires.written c.shut_of-shut.ensures in
    ok_none ((rules : Rules) → AreLists rules c.args.calls.now c.in_ok-lists.lists → IsShutAt rules c.args.calls.now c.shut_of-shut.result → (place : ℕ) → MayBeEmpty rules c.args.calls.now place) (NoFault c.args.rules.now c.args.calls.now) c.none_fault.result c.none_fault.ensures.none (λ may.
    no_fault c.args.rules.now c.args.calls.now c.args.index.now c.requires.index c.requires.written c.in_default.ensures.none keeps ((rw c.in_default-2.is at c.in_ok-fault.ensures.none) c.args.rules.now lists) (may c.args.rules.now lists c.shut_of-shut.ensures))
