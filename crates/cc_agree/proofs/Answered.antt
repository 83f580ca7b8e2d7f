-- Steps that report calls which a sequential queue answers exactly so are answered by the judge's queue.
use Rattle.std.proofs.Common.{◌≡◌, ℕ, zero, suc, ◌+◌, ◌<◌, ◌≤◌, Bool, true, false, ◌||◌, List, [], ◌∷◌, ◌++◌, length, map, Option, Some, inl, inr, refl, sym, ap, ◌∙◌, subst, arith, append-nil, slice_index_or, length-append}
use Rattle.std.proofs.lemmas.Option.{slice_get_within}
use Rattle.std.specs.List.{slice_get}
use Rattle.cc_model.specs.Record.{Side, Record, silent, of_group}
use Rattle.cc_model.specs.Items.{accepted, accepted_item, is_shut, shuts, handed, handed_by, handed_item, handed_to_all, least}
use Rattle.cc_model.specs.Legal.{IsReceivers}
use Rattle.cc_model.specs.Sequential.{Exactly}
use Rattle.cc_model.proofs.Grows.{accepted_more, get_last, any-append, handed_by-append}
use Rattle.cc_runs.specs.State.{noted}
use Rattle.cc_runs.specs.OnChain.{IsThere}
use Rattle.cc_runs.specs.Linearizable.{Effect, replay, AnswersAfter, IsExact, IsOfChain}
use Rattle.cc_runs.proofs.Chains.Opening.{no_calls}
use Rattle.cc_runs.proofs.ListRuns.Decided.{group_mine}
use Rattle.cc_runs.proofs.Linear.Replay.{accepted_by_calls, replay_groups, replay_even}
use Rattle.cc_judge.specs.Order.{Does, Allows, closed_after, IsRun, Closes}
use Rattle.cc_agree.specs.Names.{Body, Pass, Call, Item, Entry, Answer, TakeAnswer, Config, Chain, Act, Step}
use Rattle.cc_agree.specs.OneQueue.{begun, returned, ChangesNothing, Reports, Adds, ReportAll, ExactOrdersAreAnswered}
use Rattle.cc_agree.proofs.Goes.{waiting, MayReport, Goes, send_goes, take_goes, accepts_none, shuts_none, hands_none}

-- ---- the judge's queue, with what it holds at the end

-- a queue of this capacity that holds `held` and is closed or not answers so, and holds `last` afterwards
abbrev pub Plays : (capacity : Option ℕ) → (held : List ℕ) → (closed : Bool) → List Step → (last : List ℕ) → (end : Bool) → Type 0
Plays capacity held closed [] last end = (held ≡ last) × (closed ≡ end)
Plays capacity held closed (s ∷ steps) last end = (next : List ℕ) × Does capacity held s.act next × Allows closed s.act × Plays capacity next (closed_after closed s.act) steps last end

pub plays_run : (capacity : Option ℕ) (held : List ℕ) (closed : Bool) (steps : List Step) (last : List ℕ) (end : Bool) → Plays capacity held closed steps last end → IsRun capacity held steps × Closes closed steps
plays_run capacity held closed [] last end p = (tt, tt)
plays_run capacity held closed (s ∷ steps) last end p =
    let rest : IsRun capacity p.0 steps × Closes (closed_after closed s.act) steps = plays_run capacity p.0 (closed_after closed s.act) steps last end p.3 in
    ((p.0, p.1, rest.0), (p.2, rest.1))

pub plays_more : (capacity : Option ℕ) (held : List ℕ) (closed : Bool) (steps : List Step) (mid : List ℕ) (now : Bool) (s : Step) (last : List ℕ) (end : Bool) → Plays capacity held closed steps mid now
    → Does capacity mid s.act last → Allows now s.act → closed_after now s.act ≡ end → Plays capacity held closed (steps ++ s ∷ []) last end
plays_more capacity held closed [] mid now s last end p does allows ends =
    (last, subst (λ (l : List ℕ). Does capacity l s.act last) (sym p.0) does, subst (λ (b : Bool). Allows b s.act) (sym p.1) allows, (refl, ap (λ (b : Bool). closed_after b s.act) p.1 ∙ ends))
plays_more capacity held closed (t ∷ steps) mid now s last end p does allows ends =
    (p.0, p.1, p.2, plays_more capacity p.0 (closed_after closed t.act) steps mid now s last end p.3 does allows ends)

-- ---- what one call adds to a history

module _ (h : Record) (e : Entry) (a : Answer) where
  pub send_accepted : length h.sends.calls ≡ length h.sends.answers → accepted (noted Chain.Send h (Some e) (Some a)) ≡ accepted h ++ accepted_item e a
  send_accepted even =
      let next : slice_get (h.sends.calls ++ e ∷ []) (length h.sends.answers) ≡ Some e = ap (λ (n : ℕ). slice_get (h.sends.calls ++ e ∷ []) n) (sym even) ∙ get_last h.sends.calls e in
      accepted_more (h.sends.calls ++ e ∷ []) h.sends.answers e a next ∙ ap (λ (l : List Item). l ++ accepted_item e a) (accepted_by_calls h.sends.answers h.sends.calls (e ∷ []) even)

  pub send_shut : is_shut (noted Chain.Send h (Some e) (Some a)) ≡ (is_shut h || (shuts a || false))
  send_shut = any-append shuts h.sends.answers (a ∷ [])

  pub take_handed : 0 < length h.takes → length (handed (noted (Chain.Take 0) h (Some e) (Some a)) 0) ≡ length (handed h 0) + length (handed_item a)
  take_handed inside =
      let mine : handed (noted (Chain.Take 0) h (Some e) (Some a)) 0 ≡ handed_by ((of_group h 0).answers ++ a ∷ []) = ap (λ (s : Side). handed_by s.answers) (group_mine h 0 _ inside) in
      omega (
        arith,
        ap length mine,
        ap length (handed_by-append (of_group h 0).answers (a ∷ [])),
        length-append (handed h 0) (handed_by (a ∷ [])),
        length-append (handed_item a) [],
      )

-- one group was handed what all groups were
pub to_all : (h : Record) → length h.takes ≡ 1 → handed_to_all h ≡ length (handed h 0)
to_all h one = by_takes h.takes one
  where
    by_takes : (takes : List Side) → length takes ≡ 1 → least (map (λ (side : Side). length (handed_by side.answers)) takes) ≡ length (handed_by (slice_index_or takes 0 silent).answers)
    by_takes [] is = absurd (omega (arith, is))
    by_takes (side ∷ []) is = refl
    by_takes (side ∷ other ∷ rest) is = absurd (omega (arith, is))

-- ---- an order

module _ (cfg : Config) (number : Body → ℕ) (one : cfg.groups ≡ 1) where
  abbrev after : List Effect → Record
  after order = replay cfg.groups order

  -- what waits after the order, by its numbers
  abbrev pub held : List Effect → List ℕ
  held order = waiting number (length (handed (after order) 0)) (accepted (after order))

  abbrev Played : List Effect → List Step → Type 0
  Played order steps = (length (handed (after order) 0) ≤ length (accepted (after order))) × Plays (Some cfg.capacity) [] false steps (held order) (is_shut (after order))

  -- by what the call adds
  adds : (h later : Record) (e : Effect) (before steps : List Step)
      → ((act : Act) → Reports number e act → Goes cfg number (accepted h) (is_shut h) (length (handed h 0)) act (accepted later) (is_shut later) (length (handed later 0)))
      → (ChangesNothing e.answer → (accepted later ≡ accepted h) × (is_shut later ≡ is_shut h) × (length (handed later 0) ≡ length (handed h 0)))
      → Plays (Some cfg.capacity) [] false before (waiting number (length (handed h 0)) (accepted h)) (is_shut h) → Adds number e before steps
      → Plays (Some cfg.capacity) [] false steps (waiting number (length (handed later 0)) (accepted later)) (is_shut later)
  adds h later e before steps goes same plays (inl step) =
      let g : Goes cfg number (accepted h) (is_shut h) (length (handed h 0)) step.0.act (accepted later) (is_shut later) (length (handed later 0)) = goes step.0.act step.1 in
      subst (λ (l : List Step). Plays (Some cfg.capacity) [] false l (waiting number (length (handed later 0)) (accepted later)) (is_shut later)) (sym step.2)
      (plays_more (Some cfg.capacity) [] false before (waiting number (length (handed h 0)) (accepted h)) (is_shut h) step.0 (waiting number (length (handed later 0)) (accepted later)) (is_shut later) plays g.0 g.1 g.2)
  adds h later e before steps goes same plays (inr none) =
      let is : (accepted later ≡ accepted h) × (is_shut later ≡ is_shut h) × (length (handed later 0) ≡ length (handed h 0)) = same none.0 in
      subst (λ (l : List Step). Plays (Some cfg.capacity) [] false l (waiting number (length (handed later 0)) (accepted later)) (is_shut later)) (sym none.1)
      (subst (λ (t : Type 0). t) (λ i. Plays (Some cfg.capacity) [] false before (waiting number (sym is.2 i) (sym is.0 i)) (sym is.1 i)) plays)

  is_take : (g : ℕ) (pass : Pass) (k : Call) → IsReceivers cfg g pass k → k ≡ Call.Take
  is_take g (Pass.Receiver r) Call.Take is = refl
  is_take _ _ _ is = absurd is

  module _ (h : Record) (entry : Entry) (a : Answer) (single : length h.takes ≡ 1) (few : length (handed h 0) ≤ length (accepted h)) where
    abbrev out : ℕ
    out = length (handed h 0)

    -- ---- of a send or a close
    abbrev sent : Record
    sent = noted Chain.Send h (Some entry) (Some a)

    module _ (even : length h.sends.calls ≡ length h.sends.answers) (of_chain : IsOfChain cfg Chain.Send entry) (exact : AnswersAfter cfg h Chain.Send entry.call a) where
      items : accepted sent ≡ accepted h ++ accepted_item entry a
      items = send_accepted h entry a even

      sent_within : out ≤ length (accepted sent)
      sent_within = omega (arith, few, ap length items, length-append (accepted h) (accepted_item entry a))

      sent_goes : (act : Act) → Reports number (record { chain = Chain.Send; entry = entry; answer = a }) act → Goes cfg number (accepted h) (is_shut h) out act (accepted sent) (is_shut sent) out
      sent_goes act t = subst (λ (z : Type 0). z) (λ i. Goes cfg number (accepted h) (is_shut h) out act (sym items i) (sym (send_shut h entry a) i) out)
          (send_goes cfg number (accepted h) (is_shut h) out few entry.pass entry.call entry.number entry.known a of_chain
          (subst (λ (n : ℕ). Exactly cfg (accepted h) (is_shut h) 0 n entry.call a) (to_all h single) exact) act t)

      or_false : (b : Bool) → (b || false) ≡ b
      or_false true = refl
      or_false false = refl

      sent_same : ChangesNothing a → (accepted sent ≡ accepted h) × (is_shut sent ≡ is_shut h) × (length (handed sent 0) ≡ length (handed h 0))
      sent_same none = (
        items ∙ ap (λ (l : List Item). accepted h ++ l) (accepts_none entry a none) ∙ append-nil (accepted h),
        send_shut h entry a ∙ ap (λ (b : Bool). is_shut h || (b || false)) (shuts_none a none) ∙ or_false (is_shut h),
        refl,
      )

    -- ---- of a take
    abbrev took : Record
    took = noted (Chain.Take 0) h (Some entry) (Some a)

    module _ (of_chain : IsOfChain cfg (Chain.Take 0) entry) (exact : AnswersAfter cfg h (Chain.Take 0) entry.call a) where
      call_is : entry.call ≡ Call.Take
      call_is = is_take 0 entry.pass entry.call of_chain

      more : length (handed took 0) ≡ out + length (handed_item a)
      more = take_handed h entry a (omega (arith, single))

      exactly : Exactly cfg (accepted h) (is_shut h) out out Call.Take a
      exactly = subst (λ (k : Call). Exactly cfg (accepted h) (is_shut h) out out k a) call_is (subst (λ (n : ℕ). Exactly cfg (accepted h) (is_shut h) out n entry.call a) (to_all h single) exact)

      within : (b : Answer) → Exactly cfg (accepted h) (is_shut h) out out Call.Take b → out + length (handed_item b) ≤ length (accepted h)
      within (Answer.Take (TakeAnswer.Got item)) e = omega (arith, slice_get_within (accepted h) out item e)
      within (Answer.Take TakeAnswer.Empty) e = omega (arith, few)
      within (Answer.Take (TakeAnswer.Ended total)) e = omega (arith, few)
      within (Answer.Send told) e = absurd e
      within (Answer.Close told) e = absurd e

      took_within : length (handed took 0) ≤ length (accepted took)
      took_within = omega (arith, more, within a exactly)

      took_goes : (act : Act) → Reports number (record { chain = Chain.Take 0; entry = entry; answer = a }) act → Goes cfg number (accepted h) (is_shut h) out act (accepted took) (is_shut took) (length (handed took 0))
      took_goes act t = take_goes cfg number (accepted h) (is_shut h) out few a exactly act (subst (λ (k : Call). MayReport (returned number (begun number k) a) act) call_is t) (length (handed took 0)) more

      took_same : ChangesNothing a → (accepted took ≡ accepted h) × (is_shut took ≡ is_shut h) × (length (handed took 0) ≡ length (handed h 0))
      took_same none = (refl, refl, omega (arith, more, ap length (hands_none a none)))

  -- after one call more no more is handed than was accepted, and the judge's queue goes where the sequential queue does
  pub record Grows (h later : Record) (e : Effect) : Type 0 where
    pub few : length (handed later 0) ≤ length (accepted later)
    pub goes : (act : Act) → Reports number e act → Goes cfg number (accepted h) (is_shut h) (length (handed h 0)) act (accepted later) (is_shut later) (length (handed later 0))
    pub same : ChangesNothing e.answer → (accepted later ≡ accepted h) × (is_shut later ≡ is_shut h) × (length (handed later 0) ≡ length (handed h 0))

  pub grows : (earlier : List Effect) (x : Chain) (entry : Entry) (a : Answer) → length (handed (after earlier) 0) ≤ length (accepted (after earlier)) → IsThere cfg x → IsOfChain cfg x entry → AnswersAfter cfg (after earlier) x entry.call a
      → Grows (after earlier) (after (record { chain = x; entry = entry; answer = a } ∷ earlier)) (record { chain = x; entry = entry; answer = a })
  grows earlier Chain.Send entry a few there of_chain answers =
      let single : length (after earlier).takes ≡ 1 = replay_groups cfg.groups earlier ∙ one in
      let even : length (after earlier).sends.calls ≡ length (after earlier).sends.answers = (replay_even cfg.groups earlier).0 in
      record {
        few = sent_within (after earlier) entry a single few even of_chain answers;
        goes = sent_goes (after earlier) entry a single few even of_chain answers;
        same = sent_same (after earlier) entry a single few even of_chain answers;
      }
  grows earlier (Chain.Take zero) entry a few there of_chain answers =
      let single : length (after earlier).takes ≡ 1 = replay_groups cfg.groups earlier ∙ one in
      record {
        few = took_within (after earlier) entry a single few of_chain answers;
        goes = took_goes (after earlier) entry a single few of_chain answers;
        same = took_same (after earlier) entry a single few of_chain answers;
      }
  grows earlier (Chain.Take (suc g)) entry a few there of_chain answers = absurd (omega (arith, there, one))

  nothing : (n : ℕ) → [] ≡ waiting number n []
  nothing zero = refl
  nothing (suc n) = refl

  pub played : (order : List Effect) (steps : List Step) → IsExact cfg order → ReportAll number order steps → Played order steps
  played [] steps exact report = (
    subst (λ (s : Side). length (handed_by s.answers) ≤ 0) (sym (no_calls cfg.groups (Chain.Take 0))) (omega arith),
    subst (λ (l : List Step). Plays (Some cfg.capacity) [] false l (held []) false) (sym report) (nothing (length (handed (after []) 0)), refl),
  )
  played (e ∷ earlier) steps exact report =
      let before : Played earlier report.0 = played earlier report.0 exact.0 report.1 in
      let g : Grows (after earlier) (after (e ∷ earlier)) e = grows earlier e.chain e.entry e.answer before.0 exact.1 exact.2 exact.3 in
      (g.few, adds (after earlier) (after (e ∷ earlier)) e report.0 steps g.goes g.same before.1 report.2)

pub exact_orders_are_answered : ExactOrdersAreAnswered
exact_orders_are_answered cfg number order steps one exact report =
    plays_run (Some cfg.capacity) [] false steps (held cfg number one order) (is_shut (replay cfg.groups order)) (played cfg number one order steps exact report).1
