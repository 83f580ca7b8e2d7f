use Rattle.std.proofs.Common.{[], ◌+◌, ◌∷◌, ◌++◌, ◌∙◌, map, sym, ap, arith}
use Rattle.std.proofs.lemmas.List.{map-append}
use Rattle.cc_queue.specs.Receipts.{sent}
use Rattle.cc_steps.specs.Walk.{Walk, fresh}
use Rattle.cc_drive.proofs.Dealt.{fresh_split}
use Rattle.cc_drive.proofs.Rows.{one_longer}
use Rattle.cc_tests.proofs.Rounds.{all_fresh, kept_more}
use Rattle.cc_tests.proofs.on_threads.send_and_close.Goals as goal

pub send_side-senders-requires-clause-own : goal.send_side-senders-requires-clause-own
send_side-senders-requires-clause-own g c κs within = all_fresh c.args.queue.now 0 _ (fresh_split c.args.queue.now 0 _ _ c.in-Some.closer c.in-Some.ensures.items c.requires).0

pub send_side-senders-requires-clause-row : goal.send_side-senders-requires-clause-row
send_side-senders-requires-clause-row g c κs within = (fresh_split c.args.queue.now 0 _ _ c.in-Some.closer c.in-Some.ensures.items c.requires).0

pub close_by-closer-requires : goal.close_by-closer-requires
close_by-closer-requires g c = let is = (fresh_split c.args.queue.now 0 _ _ c.in-Some.closer c.in-Some.ensures.items c.requires).1 in is ∙ ap (λ (w : Walk). fresh c.args.queue.now w.number) (sym is)

pub returns : goal.returns
returns g c =
    let one = one_longer _ _ _ c.in-Some.ensures.items in
    let one' = one_longer _ _ _ c.add.ensures in
    let same = c.send_side-senders.ensures.count in
    let is = (fresh_split c.args.queue.now 0 _ _ c.in-Some.closer c.in-Some.ensures.items c.requires).1 in record {
      count = omega (arith, one, one', same);
      kept = kept_more sent c.args.queue.now 0 _ _ _ _ _ _ [] c.send_side-senders.ensures.kept c.close_by-closer.ensures.kept (ap (λ (w : Walk). w.number) is ∙ ap (λ n. 0 + n) (sym same)) c.add.ensures
          (ap (map (λ k. k.items)) c.add-2.ensures ∙ map-append (λ k. k.items) _ _ ∙ ap (λ l. map (λ k. k.items) c.send_side-senders.result.1.items ++ l ∷ []) c.new.ensures.items);
      closed = record { others = c.send_side-senders.result.0.items; closer = c.close_by-closer.result.0; last = c.add.ensures; closed = c.close_by-closer.ensures.closed };
    }
