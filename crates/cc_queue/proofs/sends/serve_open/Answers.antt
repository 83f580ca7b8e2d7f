use Rattle.std.proofs.Common.{◌≡◌, ◌≢◌, ℕ, ◌==◌, Bool, false, cond, None, refl, ap, ◌∙◌, arith}
use Rattle.std.proofs.lemmas.Bool.{eq-eqb, ne_eqb}
use Rattle.cc_queue.specs.Names.{Answer, BodyWords, Config, Job, Kind, Phase, SendAnswer, Sending, Stand}
use Rattle.cc_runs.specs.SendLines.{by_count}
use Rattle.cc_runs.specs.ServiceLine.{On, Decides, phase_of}
use Rattle.cc_steps.specs.Seen.{Onward, settled}
use Rattle.cc_steps.specs.Walk.{Walk, walked_to}
use Rattle.cc_queue.specs.Work.{Serves}
use Rattle.cc_queue.proofs.Service.{one_step, own_config, serves_none, still_here, then_serves}
use Rattle.cc_queue.proofs.sends.serve_open.Goals as goal

-- the place after the count of items was read
abbrev counts_to : Config → Job → ℕ → BodyWords → ℕ → Phase
counts_to c job tag body count = phase_of Phase.Sending job (by_count c record { tag = tag; body = body } count)

abbrev by_tests : Job → ℕ → BodyWords → ℕ → (close spent : Bool) → Phase
by_tests job tag body count close spent = phase_of Phase.Sending job (cond close (On (Sending.ReadLastToClose count)) (cond spent (Decides (Answer.Send SendAnswer.Spent)) (On (Sending.ReadCursor record { place = count; tag = tag; body = body }))))

closes : (c : Config) (job : Job) (tag : ℕ) (body : BodyWords) (count : ℕ) → tag ≡ 0 → counts_to c job tag body count ≡ Phase.Sending job (Sending.ReadLastToClose count)
closes c job tag body count is = ap (λ (b : Bool). by_tests job tag body count b (count == c.life)) (eq-eqb tag 0 is)

sends : (c : Config) (job : Job) (tag : ℕ) (body : BodyWords) (count : ℕ) → tag ≢ 0 → counts_to c job tag body count ≡ by_tests job tag body count false (count == c.life)
sends c job tag body count is = ap (λ (b : Bool). by_tests job tag body count b (count == c.life)) (ne_eqb tag 0 is)

refuses : (c : Config) (job : Job) (tag : ℕ) (body : BodyWords) (count : ℕ) → tag ≢ 0 → count ≡ c.life → counts_to c job tag body count ≡ Phase.WriteAnswer job (Answer.Send SendAnswer.Spent)
refuses c job tag body count is all = sends c job tag body count is ∙ ap (λ (b : Bool). by_tests job tag body count false b) (eq-eqb count c.life all)

scans : (c : Config) (job : Job) (tag : ℕ) (body : BodyWords) (count : ℕ) → tag ≢ 0 → count ≢ c.life → counts_to c job tag body count ≡ Phase.Sending job (Sending.ReadCursor record { place = count; tag = tag; body = body })
scans c job tag body count is more = sends c job tag body count is ∙ ap (λ (b : Bool). by_tests job tag body count false b) (ne_eqb count c.life more)

counted : (v r : Walk) (job : Job) (tag : ℕ) (body : BodyWords) (count : ℕ) (to : Phase) → v.stand.phase ≡ Phase.Sending job (Sending.ReadCount record { tag = tag; body = body }) → r ≡ walked_to v None count r.seen → Onward v.seen r.seen → counts_to v.setting.config job tag body count ≡ to
    → ((z : Stand) → settled (record z { phase = to }) ≡ record z { phase = to }) → Serves v to 0 r
counted v r job tag body count to at step later leads stays =
    one_step v v r Kind.ReadObject (Phase.Sending job (Sending.ReadCount record { tag = tag; body = body })) to 0 count (serves_none v _ at) step later refl (refl, refl, refl) (λ z. ap (λ (p : Phase). settled (record z { phase = p })) leads ∙ stays z)

pub link_mark-requires : goal.link_mark-requires
link_mark-requires c =
    let count = c.read_object-count in
    let part = counted c.args.seat.now _ c.args.job c.args.request.tag c.args.request.body count.result _ c.requires.at count.ensures.step count.ensures.later (closes c.args.seat.now.setting.config _ _ _ _ c.if-request-eq0.true) (λ z. refl) in
    record { here = still_here _ _ c.args.seat.now _ _ _ c.requires.here part; at = ap (λ (z : Walk). z.stand.phase) part.worked }

pub tell-requires : goal.tell-requires
tell-requires c =
    let count = c.read_object-count in
    let own = own_config _ c.args.seat.now _ c.requires.here.here c.config.ensures.config in
    let part = counted c.args.seat.now _ c.args.job c.args.request.tag c.args.request.body count.result _ c.requires.at count.ensures.step count.ensures.later (refuses c.args.seat.now.setting.config _ _ _ _ c.if-request-eq0.false (c.if-count-config.true ∙ ap (λ (x : Config). x.life) own)) (λ z. refl) in
    record {
      here = still_here _ _ c.args.seat.now _ _ _ c.requires.here part;
      at = ap (λ (z : Walk). z.stand.phase) part.worked;
      alone = refl;
      ready = count.ensures.found.walked.ready;
    }

pub scan-requires : goal.scan-requires
scan-requires c =
    let count = c.read_object-count in
    let own = own_config _ c.args.seat.now _ c.requires.here.here c.config.ensures.config in
    let part = counted c.args.seat.now _ c.args.job c.args.request.tag c.args.request.body count.result _ c.requires.at count.ensures.step count.ensures.later (scans c.args.seat.now.setting.config _ _ _ _ c.if-request-eq0.false (λ e. c.if-count-config.false (omega (arith, e, ap (λ (x : Config). x.life) own)))) (λ z. refl) in
    record { here = still_here _ _ c.args.seat.now _ _ _ c.requires.here part; at = ap (λ (z : Walk). z.stand.phase) part.worked }

pub returns-then-request-eq0 : goal.returns-then-request-eq0
returns-then-request-eq0 c =
    let count = c.read_object-count in
    let part = counted c.args.seat.now _ c.args.job c.args.request.tag c.args.request.body count.result _ c.requires.at count.ensures.step count.ensures.later (closes c.args.seat.now.setting.config _ _ _ _ c.if-request-eq0.true) (λ z. refl) in
    then_serves c.args.seat.now _ _ _ _ 0 0 _ part c.link_mark.ensures (omega arith)

pub returns-then-count-config : goal.returns-then-count-config
returns-then-count-config c =
    let count = c.read_object-count in
    let own = own_config _ c.args.seat.now _ c.requires.here.here c.config.ensures.config in
    let part = counted c.args.seat.now _ c.args.job c.args.request.tag c.args.request.body count.result _ c.requires.at count.ensures.step count.ensures.later (refuses c.args.seat.now.setting.config _ _ _ _ c.if-request-eq0.false (c.if-count-config.true ∙ ap (λ (x : Config). x.life) own)) (λ z. refl) in
    then_serves c.args.seat.now _ _ _ _ 0 0 _ part c.tell.ensures (omega arith)

pub returns-else-count-config : goal.returns-else-count-config
returns-else-count-config c =
    let count = c.read_object-count in
    let own = own_config _ c.args.seat.now _ c.requires.here.here c.config.ensures.config in
    let part = counted c.args.seat.now _ c.args.job c.args.request.tag c.args.request.body count.result _ c.requires.at count.ensures.step count.ensures.later (scans c.args.seat.now.setting.config _ _ _ _ c.if-request-eq0.false (λ e. c.if-count-config.false (omega (arith, e, ap (λ (x : Config). x.life) own)))) (λ z. refl) in
    then_serves c.args.seat.now _ _ _ _ 0 _ _ part c.scan.ensures (omega (arith, ap (λ (z : Walk). z.setting.config.capacity) part.worked))
