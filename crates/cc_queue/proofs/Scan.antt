-- The scan for a free list node, as the seat of its combiner sees it.
use Rattle.std.proofs.Common.{◌≡◌, ◌≢◌, ℕ, ◌+◌, ◌%◌, ◌<◌, ◌≤◌, ◌==◌, Bool, true, false, cond, None, refl, sym, ap, ◌∙◌, subst, arith}
use Rattle.std.proofs.Math.Nat.{mod-eq_of_lt, mod_self, zero-mod}
use Rattle.std.proofs.lemmas.Bool.{eq-eqb, ne_eqb}
use Rattle.cc_queue.specs.Names.{Answer, Chain, Config, Job, Kind, Parcel, Phase, SendAnswer, Sending, Stand}
use Rattle.cc_runs.specs.MachineLaws.{FindsNode}
use Rattle.cc_runs.proofs.ListRuns.Laws.{links_name_nodes}
use Rattle.cc_runs.specs.Run.{reached}
use Rattle.cc_runs.specs.SendLines.{after, by_passed}
use Rattle.cc_runs.specs.ServiceLine.{On, Decides, phase_of}
use Rattle.cc_runs.specs.State.{chain_of}
use Rattle.cc_steps.specs.Seen.{Onward, settled, stand_in}
use Rattle.cc_steps.specs.Topic.{Topic}
use Rattle.cc_steps.specs.Walk.{Found, Walk, walked_to}
use Rattle.cc_queue.specs.Work.{IsOnList, Serves, scan_phase}
use Rattle.cc_queue.proofs.Service.{one_step, serves_most, serves_none, then_serves}

-- the places after a look at a list node
abbrev looks_to : Config → Job → Parcel → (at nodes passed : ℕ) → Phase
looks_to c job parcel at nodes passed = phase_of Phase.Sending job (by_passed c parcel at nodes passed)

-- to the next one or, after the last one, to the answer, if it isn't free
looks_on : (c : Config) (job : Job) (parcel : Parcel) (at nodes passed : ℕ) → passed ≢ c.groups → looks_to c job parcel at nodes passed ≡ scan_phase c job parcel (at + 1) nodes
looks_on c job parcel at nodes passed used =
    ap (λ (b : Bool). phase_of Phase.Sending job (cond b (On (Sending.ResetPassed parcel at)) (cond (nodes == c.capacity + 1) (Decides (Answer.Send SendAnswer.Full)) (On (Sending.ReadPassed parcel (after c at) (nodes + 1)))))) (ne_eqb passed c.groups used)
    ∙ either (nodes == c.capacity + 1)
  where
    either : (b : Bool) → phase_of Phase.Sending job (cond b (Decides (Answer.Send SendAnswer.Full)) (On (Sending.ReadPassed parcel (after c at) (nodes + 1)))) ≡ cond b (Phase.WriteAnswer job (Answer.Send SendAnswer.Full)) (Phase.Sending job (Sending.ReadPassed parcel (after c at) (nodes + 1)))
    either true = refl
    either false = refl

-- and to its reset if it is
looks_free : (c : Config) (job : Job) (parcel : Parcel) (at nodes passed : ℕ) → passed ≡ c.groups → looks_to c job parcel at nodes passed ≡ Phase.Sending job (Sending.ResetPassed parcel at)
looks_free c job parcel at nodes passed free =
    ap (λ (b : Bool). phase_of Phase.Sending job (cond b (On (Sending.ResetPassed parcel at)) (cond (nodes == c.capacity + 1) (Decides (Answer.Send SendAnswer.Full)) (On (Sending.ReadPassed parcel (after c at) (nodes + 1)))))) (eq-eqb passed c.groups free)

-- neither of the first two ends the call
scan_stays : (c : Config) (job : Job) (parcel : Parcel) (at looked : ℕ) (z : Stand) → settled (record z { phase = scan_phase c job parcel at looked }) ≡ record z { phase = scan_phase c job parcel at looked }
scan_stays c job parcel at looked z = either (looked == c.capacity + 1)
  where
    either : (b : Bool) → settled (record z { phase = cond b (Phase.WriteAnswer job (Answer.Send SendAnswer.Full)) (Phase.Sending job (Sending.ReadPassed parcel (at % (c.capacity + 1)) (looked + 1))) }) ≡ record z { phase = cond b (Phase.WriteAnswer job (Answer.Send SendAnswer.Full)) (Phase.Sending job (Sending.ReadPassed parcel (at % (c.capacity + 1)) (looked + 1))) }
    either true = refl
    either false = refl

-- before a look at an ordinary list node, after this number of others
module _ (v s : Walk) (job : Job) (parcel : Parcel) (at looked most : ℕ) (low : at < v.setting.config.capacity + 1) (below : looked < v.setting.config.capacity + 1) (before : Serves v (scan_phase v.setting.config job parcel at looked) most s) where
  abbrev c : Config
  c = v.setting.config

  pub looks_here : Serves v (Phase.Sending job (Sending.ReadPassed parcel at (looked + 1))) most s
  looks_here =
      subst (λ (z : Bool × ℕ). Serves v (cond z.0 (Phase.WriteAnswer job (Answer.Send SendAnswer.Full)) (Phase.Sending job (Sending.ReadPassed parcel z.1 (looked + 1)))) most s)
      (λ i. (ne_eqb looked (c.capacity + 1) (λ e. omega (arith, e, below)) i, mod-eq_of_lt low i)) before

  -- and after it
  module _ (r : Walk) (passed : ℕ) (step : r ≡ walked_to s None passed r.seen) (later : Onward s.seen r.seen) where
    used : passed ≢ c.groups → Serves v (scan_phase c job parcel (at + 1) (looked + 1)) (1 + most) r
    used is =
        one_step v s r Kind.ReadPassed (Phase.Sending job (Sending.ReadPassed parcel at (looked + 1))) (scan_phase c job parcel (at + 1) (looked + 1)) most passed looks_here step later refl (refl, refl, refl)
        (λ z. ap (λ (p : Phase). settled (record z { phase = p })) (looks_on c job parcel at (looked + 1) passed is) ∙ scan_stays c job parcel (at + 1) (looked + 1) z)

    pub looks_further : (next on more : ℕ) → next ≡ at + 1 → on ≡ looked + 1 → more ≡ 1 + most → passed ≢ c.groups → Serves v (scan_phase c job parcel next on) more r
    looks_further next on more next_is on_is more_is is = subst (λ (n : ℕ × ℕ × ℕ). Serves v (scan_phase c job parcel n.0 n.1) n.2 r) (λ i. (sym next_is i, sym on_is i, sym more_is i)) (used is)

    pub finds_free : passed ≡ c.groups → Serves v (Phase.Sending job (Sending.ResetPassed parcel at)) (1 + most) r
    finds_free is =
        one_step v s r Kind.ReadPassed (Phase.Sending job (Sending.ReadPassed parcel at (looked + 1))) (Phase.Sending job (Sending.ResetPassed parcel at)) most passed looks_here step later refl (refl, refl, refl)
        (λ z. ap (λ (p : Phase). settled (record z { phase = p })) (looks_free c job parcel at (looked + 1) passed is))

-- a free node was found, by no more looks than these
pub frees_by : (v w : Walk) (job : Job) (parcel : Parcel) (next node some most : ℕ) → Serves v (Phase.Sending job (Sending.ResetPassed parcel next)) some w → next ≡ node → some ≤ most → Serves v (Phase.Sending job (Sending.ResetPassed parcel node)) most w
frees_by v w job parcel next node some most free is less = serves_most v w (Phase.Sending job (Sending.ResetPassed parcel node)) some most (subst (λ (n : ℕ). Serves v (Phase.Sending job (Sending.ResetPassed parcel n)) some w) is free) less

-- a part of the row was looked at, and is in use
module _ (v s : Walk) (job : Job) (parcel : Parcel) (at looked some : ℕ) (part : Serves v (scan_phase v.setting.config job parcel at looked) some s) where
  same_config : s.setting.config ≡ v.setting.config
  same_config = ap (λ (z : Walk). z.setting.config) part.worked

  pub same_capacity : s.setting.config.capacity ≡ v.setting.config.capacity
  same_capacity = ap (λ (x : Config). x.capacity) same_config

  -- so it looks at the next one
  pub scans_at : s.stand.phase ≡ scan_phase s.setting.config job parcel at looked
  scans_at = ap (λ (z : Walk). z.stand.phase) part.worked ∙ ap (λ (x : Config). scan_phase x job parcel at looked) (sym same_config)

  module _ (w : Walk) (more most : ℕ) (within : some + more ≤ most) where
    -- further nodes are in use too
    pub scans_on : (next on node all : ℕ) → Serves s (scan_phase s.setting.config job parcel next on) more w → next ≡ node → on ≡ all → Serves v (scan_phase v.setting.config job parcel node all) most w
    scans_on next on node all rest node_is all_is =
        subst (λ (n : Config × ℕ × ℕ). Serves v (scan_phase n.0 job parcel n.1 n.2) most w) (λ i. (same_config i, node_is i, all_is i))
        (then_serves v s w (scan_phase v.setting.config job parcel at looked) (scan_phase s.setting.config job parcel next on) some more most part rest within)

    -- one of them is free
    pub frees_on : (next node : ℕ) → Serves s (Phase.Sending job (Sending.ResetPassed parcel next)) more w → next ≡ node → Serves v (Phase.Sending job (Sending.ResetPassed parcel node)) most w
    frees_on next node free node_is =
        subst (λ (n : ℕ). Serves v (Phase.Sending job (Sending.ResetPassed parcel n)) most w) node_is
        (then_serves v s w (scan_phase v.setting.config job parcel at looked) (Phase.Sending job (Sending.ResetPassed parcel next)) some more most part free within)

-- behind the last node it goes on with the first one
pub from_start : (v s : Walk) (job : Job) (parcel : Parcel) (at looked on some : ℕ) → at ≡ v.setting.config.capacity + 1 → looked ≡ on → Serves v (scan_phase v.setting.config job parcel at looked) some s → Serves v (scan_phase v.setting.config job parcel 0 on) some s
from_start v s job parcel at looked on some is same part =
    let nodes : ℕ = v.setting.config.capacity + 1 in
    subst (λ (n : ℕ × ℕ). Serves v (cond (n.1 == nodes) (Phase.WriteAnswer job (Answer.Send SendAnswer.Full)) (Phase.Sending job (Sending.ReadPassed parcel n.0 (n.1 + 1)))) some s)
    (λ i. ((ap (λ (n : ℕ). n % nodes) is ∙ mod_self nodes ∙ sym (zero-mod nodes)) i, same i)) part

-- all nodes are in use
pub all_used : (v s : Walk) (job : Job) (parcel : Parcel) (at looked some : ℕ) → looked ≡ v.setting.config.capacity + 1 → Serves v (scan_phase v.setting.config job parcel at looked) some s → Serves v (Phase.WriteAnswer job (Answer.Send SendAnswer.Full)) some s
all_used v s job parcel at looked some all part =
    subst (λ (b : Bool). Serves v (cond b (Phase.WriteAnswer job (Answer.Send SendAnswer.Full)) (Phase.Sending job (Sending.ReadPassed parcel (at % (v.setting.config.capacity + 1)) (looked + 1)))) some s)
    (eq-eqb looked (v.setting.config.capacity + 1) all) part

-- the load of the cursor, with which a scan begins
module _ (v r : Walk) (job : Job) (parcel : Parcel) (cursor : ℕ) (at : v.stand.phase ≡ Phase.Sending job (Sending.ReadCursor parcel)) (look : Found v None cursor r) (step : r ≡ walked_to v None cursor r.seen) where
  pub begins : Serves v (Phase.Sending job (Sending.ReadPassed parcel cursor 1)) 0 r
  begins =
      one_step v v r Kind.ReadObject (Phase.Sending job (Sending.ReadCursor parcel)) (Phase.Sending job (Sending.ReadPassed parcel cursor 1)) 0 cursor (serves_none v (Phase.Sending job (Sending.ReadCursor parcel)) at) step look.walked.later refl (refl, refl, refl)
      (λ z. refl)

  first_at : r.stand.phase ≡ Phase.Sending job (Sending.ReadPassed parcel cursor 1)
  first_at = ap (λ (z : Walk). z.stand.phase) begins.worked

  -- it is an ordinary node
  pub cursor_low : (t : Topic) (x : Chain) → IsOnList t x v → cursor ≤ r.setting.config.capacity
  unfolding stand_in
  cursor_low t x is =
      let k = look.walked in
      subst (λ (p : Phase). FindsNode r.setting.config (reached r.setting r.seen) (chain_of r.setting.config r.number) p)
      (sym (ap (λ (z : Stand). z.phase) k.shows.0) ∙ first_at)
      (links_name_nodes r.setting r.seen (ap (λ (z : Walk). z.setting.served) step ∙ is.list) k.checked k.run r.number)

  pub scan_begins : (t : Topic) (x : Chain) → IsOnList t x v → r.stand.phase ≡ scan_phase r.setting.config job parcel cursor 0
  scan_begins t x is =
      let low : cursor < r.setting.config.capacity + 1 = omega (arith, cursor_low t x is) in
      first_at
      ∙ (λ i. cond (sym (ne_eqb 0 (r.setting.config.capacity + 1) (λ e. omega (arith, e))) i) (Phase.WriteAnswer job (Answer.Send SendAnswer.Full)) (Phase.Sending job (Sending.ReadPassed parcel (sym (mod-eq_of_lt low) i) 1)))
