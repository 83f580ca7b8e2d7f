use Rattle.std.proofs.Common.{◌≡◌, ◌≤◌, ◌<◌, ℕ, Bool, true, false, if◌then◌else◌, length, Result, Some, Ok, Err, ap, sym, ◌∙◌, arith, rules}
use Rattle.cc_machine.specs.Names.{Config, Call, BeginFault, Chain, Phase, Stand, Pass, Board}
use Rattle.cc_machine.specs.BoardSteps.{view_of, IsLaid}
use Rattle.cc_model.specs.declared.body.Body.{Body}
use Rattle.cc_runs.specs.State.{chain_of}
use Rattle.cc_runs.specs.Run.{begun_after}
use Rattle.cc_machine.specs.View.{View, state_in}
use Rattle.cc_machine.specs.Machine.{unless_wrong, unless_busy, unless_worn, index_of, fault_at, begin_fault, OnSide}
use Rattle.cc_machine.proofs.Rows.{inside}
use Rattle.cc_machine.proofs.board.Board.may_begin.Goals as goal
use Rattle.cc_machine.proofs.board.Board.may_begin.Goals.{in-Send, in_default-call}

-- a pass that is found has its place on the board
placed : (b : Board) (who : Pass) (p : ℕ) → IsLaid b → Some p ≡ index_of b.setting who → p < length b.stands.items
placed b who p laid found = omega (arith, laid.stands, inside b.setting who p (sym found))

-- the causes that come once the pass is found, on the side of its call
abbrev later : Config → Call → Stand → Result (Unit {0}) BeginFault
later c call stand = unless_busy stand.phase (unless_worn c (begun_after call stand.begun))

found : (m : View) (who : Pass) (call : Call) (p : ℕ) (x : Chain) (b : Bool) → Some p ≡ index_of m.setting who → x ≡ chain_of m.setting.config p → OnSide m.setting.served x call b →
    begin_fault m who call ≡ (if b then later m.setting.config call ((state_in m).stand p) else Err BeginFault.WrongSide)
found m who call p x b row on side =
    let rest = later m.setting.config call ((state_in m).stand p) in
    ap (λ i. fault_at m call i) (sym row) ∙ ap (λ (y : Chain). unless_wrong m.setting.served y call rest) (sym on) ∙ side rest

wrong : (m : View) (who : Pass) (call : Call) (p : ℕ) (x : Chain) (b : Bool) → Some p ≡ index_of m.setting who → x ≡ chain_of m.setting.config p → OnSide m.setting.served x call b → b ≡ false →
    begin_fault m who call ≡ Err BeginFault.WrongSide
wrong m who call p x b row on side is =
    found m who call p x b row on side ∙ ap (λ (z : Bool). if z then later m.setting.config call ((state_in m).stand p) else Err BeginFault.WrongSide) is

right : (m : View) (who : Pass) (call : Call) (p : ℕ) (x : Chain) (b : Bool) (stand : Stand) → Some p ≡ index_of m.setting who → x ≡ chain_of m.setting.config p → OnSide m.setting.served x call b → b ≡ true →
    stand ≡ (state_in m).stand p → begin_fault m who call ≡ later m.setting.config call stand
right m who call p x b stand row on side is there =
    found m who call p x b row on side ∙ ap (λ (z : Bool). if z then later m.setting.config call ((state_in m).stand p) else Err BeginFault.WrongSide) is
    ∙ ap (λ (s : Stand). later m.setting.config call s) (sym there)

busy : (at : Phase) (rest : Result (Unit {0}) BeginFault) → (at ≡ Phase.Idle → ⊥) → unless_busy at rest ≡ Err BeginFault.Busy
busy at rest other = grind arith

idle : (c : Config) (call : Call) (stand : Stand) (n : ℕ) → stand.phase ≡ Phase.Idle → n ≡ begun_after call stand.begun → later c call stand ≡ unless_worn c n
idle c call stand n at is = ap (λ (z : Phase). unless_busy z (unless_worn c (begun_after call stand.begun))) at ∙ ap (λ (k : ℕ). unless_worn c k) (sym is)

worn : (c : Config) (n : ℕ) → c.per_sender < n → unless_worn c n ≡ Err BeginFault.Worn
worn c n more = grind (arith, more)

fresh : (c : Config) (n : ℕ) → n ≤ c.per_sender → unless_worn c n ≡ Ok tt
fresh c n few = grind (arith, few)

no_send : (call : Call) (n : ℕ) → ((body : Body) → call ≡ Call.Send body → ⊥) → n ≡ begun_after call n
no_send call n none = grind arith

pub chain-requires-clause-pass : goal.chain-requires-clause-pass
chain-requires-clause-pass c = placed c.args.self.now c.args.pass c.in-Some.index c.requires.valid.laid c.in-Some.ensures

pub stand-stand-requires : goal.stand-stand-requires
stand-stand-requires c = placed c.args.self.now c.args.pass c.in-Some.index c.requires.valid.laid c.in-Some.ensures

pub returns-in_default-clause-fault : goal.returns-in_default-clause-fault
returns-in_default-clause-fault c = ap (λ i. fault_at (view_of c.args.self.now) c.args.call i) (sym c.row.ensures ∙ c.in_default.is)

pub returns-then-not-is_on_side-clause-fault : goal.returns-then-not-is_on_side-clause-fault
returns-then-not-is_on_side-clause-fault c =
    wrong (view_of c.args.self.now) c.args.pass c.args.call _ _ _ c.in-Some.ensures c.chain.ensures c.is_on_side.ensures c.if-not-is_on_side.true

pub returns-in_default-phase : goal.returns-in_default-phase
returns-in_default-phase c = record {
  place = tt;
  ok = tt;
  fault = right (view_of c.args.self.now) c.args.pass c.args.call _ _ _ _ c.in-Some.ensures c.chain.ensures c.is_on_side.ensures c.if-not-is_on_side.false c.stand-stand.ensures
      ∙ busy _ _ c.in_default-phase.not-Idle;
  body = search rules;
}

pub returns-then-begun-self-clause-fault : goal.returns-then-begun-self-clause-fault
returns-then-begun-self-clause-fault c =
    let begun : c.match-call.begun ≡ begun_after c.args.call c.stand-stand.result.begun = elim c.match-call.branch [
      | in-Send w ↦ w.begun-is ∙ sym (ap (λ (k : Call). begun_after k c.stand-stand.result.begun) w.in-Send.is)
      | in_default-call w ↦ w.begun-is ∙ no_send c.args.call _ w.in_default-call.not-Send
    ] in
    right (view_of c.args.self.now) c.args.pass c.args.call _ _ _ _ c.in-Some.ensures c.chain.ensures c.is_on_side.ensures c.if-not-is_on_side.false c.stand-stand.ensures
    ∙ idle c.args.self.now.setting.config c.args.call c.stand-stand.result _ c.in-Idle.is begun ∙ worn c.args.self.now.setting.config _ c.if-begun-self.true

pub returns-clause-ok : goal.returns-clause-ok
returns-clause-ok c =
    let begun : c.match-call.begun ≡ begun_after c.args.call c.stand-stand.result.begun = elim c.match-call.branch [
      | in-Send w ↦ w.begun-is ∙ sym (ap (λ (k : Call). begun_after k c.stand-stand.result.begun) w.in-Send.is)
      | in_default-call w ↦ w.begun-is ∙ no_send c.args.call _ w.in_default-call.not-Send
    ] in
    right (view_of c.args.self.now) c.args.pass c.args.call _ _ _ _ c.in-Some.ensures c.chain.ensures c.is_on_side.ensures c.if-not-is_on_side.false c.stand-stand.ensures
    ∙ idle c.args.self.now.setting.config c.args.call c.stand-stand.result _ c.in-Idle.is begun ∙ fresh c.args.self.now.setting.config _ c.if-begun-self.false
