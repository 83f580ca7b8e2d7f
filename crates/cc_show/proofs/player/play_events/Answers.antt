use Rattle.std.proofs.Common.{length, [], ◌+◌, refl, sym, ap, ◌∙◌, arith}
use Rattle.std.proofs.lemmas.List.{length-map}
use Rattle.cc_plan.specs.Calls.{calls_in}
use Rattle.cc_plan.specs.Plan.{plan_value}
use Rattle.cc_play.proofs.Between.{opened_between}
use Rattle.cc_play.proofs.Followed.{written_back, opened, leads_on}
use Rattle.cc_show.specs.Events.{event_limit}
use Rattle.cc_show.proofs.Events.{too_many, all_told}
use Rattle.cc_show.proofs.player.play_events.Goals as goal

pub loop-pass-init : goal.loop-pass-init
loop-pass-init c =
    let p = c.args.plan.now in
    let at = opened (plan_value p) _ _ _ _ c.requires.valid c.in-Ok.ensures.opened (c.in_ok-begun.ensures.items_if_clones_equal (λ y e. e)) (c.len.ensures ∙ p.senders.ok.0 ∙ sym (length-map p.senders.items calls_in)) (c.len-2.ensures ∙ p.receivers.ok.0) in
    record { short = omega (arith, ap length c.new-events.ensures.items); between = opened_between (plan_value p) _ _ c.in-Ok.ensures.opened; leads = record { run = []; at = record { at = at; told = c.new-events.ensures.items }; leads = refl } }

pub loop-pass-preserved : goal.loop-pass-preserved
loop-pass-preserved c =
    let value = c.as_mut_slice.ensures.value in
    let on = leads_on (plan_value c.args.plan.now) _ _ c.deref-pass-items.result.now c.loop-pass.pass-index _ c.deref-pass-items.ensures.value c.loop-pass-test.true c.loop-pass.invariant.leads (λ run at. c.in_ok-follow_entry.ensures.followed run (rw value at)) in
    rw (written_back _ _ c.follow_entry.new.begun (c.follow_entry.ensures.rows ∙ ap length value) (sym c.as_mut_slice.ensures.len ∙ ap length value))
    (record { short = omega (arith, c.if-len-gt-EVENT_LIMIT.false, c.len-in-loop-pass.ensures); between = c.in_ok-follow_entry.ensures.between; leads = on })

pub follow_entry-requires : goal.follow_entry-requires
follow_entry-requires c = rw c.as_mut_slice.ensures.value (record { valid = c.requires.valid; rows = c.loop-pass.invariant.leads.at.at.rows; between = c.loop-pass.invariant.between })

pub returns-then-len-gt-EVENT_LIMIT : goal.returns-then-len-gt-EVENT_LIMIT
returns-then-len-gt-EVENT_LIMIT c =
    let on = leads_on (plan_value c.args.plan.now) _ _ c.deref-pass-items.result.now c.loop-pass.pass-index _ c.deref-pass-items.ensures.value c.loop-pass-test.true c.loop-pass.invariant.leads (λ run at. c.in_ok-follow_entry.ensures.followed run (rw c.as_mut_slice.ensures.value at)) in
    too_many (plan_value c.args.plan.now) _ _ _ (c.loop-pass.pass-index + 1) event_limit on (omega (arith, c.if-len-gt-EVENT_LIMIT.true, c.len-in-loop-pass.ensures))

pub returns : goal.returns
returns c =
    let all = ap length c.deref-pass-items.ensures.value in
    let done = all_told (plan_value c.args.plan.now) _ _ _ c.loop-pass.pass-index (omega (arith, all, c.loop-pass-test.false)) c.loop-pass.invariant.leads in
    (done.0, done.1, done.2, done.3, c.loop-pass.invariant.short)
