use Rattle.std.proofs.Common.{◌≡◌, ◌≤◌, ◌++◌, [], ◌∷◌, length, map, ap₂, ◌∙◌, arith, rules}
use Rattle.std.proofs.Math.Seq.{get_or-append_seam}
use Rattle.cc_model.specs.Body.{body_of}
use Rattle.cc_plan.specs.Names.{Call}
use Rattle.cc_plan.specs.CompactCall.{call_in}
use Rattle.cc_plan.specs.declared.plan.compact_call.CompactCall.{CompactCall}
use Rattle.cc_plan.proofs.CompactCalls.{bodies_of_more, same_calls}
use Rattle.cc_plan.proofs.plan.calls.Calls.push_body.Goals as goal

pub invariant_of-self : goal.invariant_of-self
invariant_of-self c =
    let more : length c.args.self.now.bodies.items ≤ length c.push.new.self.items = grind arith in
    record { kept = bodies_of_more _ _ c.args.self.now.calls.items more c.args.self.now.kept }

pub returns : goal.returns
returns c =
    let bodies = c.args.self.now.bodies.items in
    let put : c.push.new.self.items ≡ bodies ++ c.args.body ∷ [] = c.in_ok-push.ensures.items in
    let place : c.len-place.result ≡ length bodies = search rules in
    c.in_ok-push_compact.ensures
    ∙ ap₂ (λ bs at. map (call_in bs) c.args.self.now.calls.items ++ call_in bs (CompactCall.Body at) ∷ []) put place
    ∙ ap₂ (λ cs b. cs ++ Call.Send b ∷ []) (same_calls bodies c.args.body c.args.self.now.calls.items c.args.self.now.kept) (get_or-append_seam bodies c.args.body [] (body_of []))
