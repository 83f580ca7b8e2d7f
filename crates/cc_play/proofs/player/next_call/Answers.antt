use Rattle.std.proofs.Common.{◌≡◌, ◌<◌, ◌-◌, [], get_or, length, map, ap, sym, ◌∙◌, arith}
use Rattle.std.specs.List.{slice_get}
use Rattle.std.proofs.lemmas.List.{get_or-map}
use Rattle.cc_plan.specs.Calls.{calls_in}
use Rattle.cc_play.proofs.player.next_call.Goals as goal

pub returns-in_ok-calls-in-Sender-clause-call : goal.returns-in_ok-calls-in-Sender-clause-call
returns-in_ok-calls-in-Sender-clause-call c =
    let senders = c.args.plan.now.senders.items in
    let calls = c.in_ok-calls-in-Sender.calls.now in
    let there : c.in-Sender.n - 1 < length senders = grind arith in
    let found : calls ≡ get_or senders (c.in-Sender.n - 1) calls = grind arith in
    let listed : get_or (map calls_in senders) (c.in-Sender.n - 1) [] ≡ calls_in calls = get_or-map calls_in senders (c.in-Sender.n - 1) calls [] there ∙ ap calls_in (sym found) in
    rw c.in-Sender.is (c.get-in-Sender.ensures.call ∙ ap (λ l. slice_get l c.args.begun) (sym listed))
