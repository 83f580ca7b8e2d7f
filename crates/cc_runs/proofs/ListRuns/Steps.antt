-- Each step of the machine keeps the list's invariant, the passes' and the calls'.
use Rattle.std.proofs.Common.{List, ◌≡◌, ◌≢◌, inl, inr, None, arith, ℕ, zero, suc, ◌+◌, ◌<◌, ◌≤◌, [], ◌∷◌, ◌++◌, length, false, refl, sym, ap, subst}
use Rattle.std.proofs.lemmas.Bool.{cases_eq}
use Rattle.std.proofs.lemmas.List.{length-set}
use Rattle.cc_model.specs.Legal.{TakeSideAnswers}
use Rattle.cc_runs.specs.Words.{groups}
use Rattle.cc_runs.proofs.Chains.Facts.{noted_none}
use Rattle.cc_runs.proofs.ListRuns.Decided.{group_mine, group_other}
use Rattle.cc_model.specs.Record.{Side, Record, of_group, with_call, with_sends, with_takes}
use Rattle.cc_model.specs.Items.{accepted, handed_by, handed_to_all, is_shut, entries}
use Rattle.cc_runs.specs.Names.{Config, Pass, Entry, Served, Chain, Word, Job, Round, Request, Phase, Sending, Stand}
use Rattle.cc_model.proofs.Grows.{get_front, e_calls_more, accepted_calls_more, d_calls_more}
use Rattle.cc_model.proofs.Fresh.{all_at}
use Rattle.cc_runs.specs.Codes.{further_words}
use Rattle.cc_runs.specs.State.{State, chain_of, pass_at, hold, noted, word_of}
use Rattle.cc_runs.specs.Lines.{operation, after_next}
use Rattle.cc_runs.specs.Step.{stepped_from}
use Rattle.cc_runs.specs.Run.{passes}
use Rattle.cc_runs.specs.MachineLaws.{links_at}
use Rattle.cc_runs.proofs.ReadWords.{behind_word}
use Rattle.cc_runs.proofs.LinkedList.Queue.{Enq}
use Rattle.cc_runs.proofs.LinkedList.Grow.{Kept}
use Rattle.cc_runs.proofs.ListRuns.View.{Duty, Regs, queue_from}
use Rattle.cc_runs.proofs.ListRuns.Ties.{then_linked, Ties, ghosts, ghosts_same, IsNextSend, IsNextTake, ties_same}
use Rattle.cc_runs.proofs.ListRuns.SendTurn.{Caller}
use Rattle.cc_runs.proofs.ListRuns.Facts.{lists, ChainFacts}
use Rattle.cc_runs.proofs.ListRuns.Posts.{Well, Posts, Calls}
use Rattle.cc_runs.proofs.ListRuns.Untouched.{StillSend, StillTake, still_send, still_take, in_send, plain_goes}
use Rattle.cc_runs.proofs.ListRuns.Invariant.{Parts, quiet}
use Rattle.cc_runs.proofs.ListRuns.ServeSend.{send_serves}
use Rattle.cc_runs.proofs.ListRuns.ServeTake.{take_serves}
use Rattle.cc_runs.proofs.ListRuns.EnterSend.{send_enters}
use Rattle.cc_runs.proofs.ListRuns.EnterTake.{take_enters}

-- ---- if a combiner goes on

read_tag_still : (job : Job) → StillSend (Phase.Sending job Sending.ReadTag)
read_tag_still job = record { enq_is = λ e from. refl; serves = λ u. u; open_send = λ u. u; reads = λ c e from. tt }

read_body_still : (job : Job) (request : Request) (i : ℕ) → StillSend (Phase.Sending job (Sending.ReadBody request i))
read_body_still job request i = record { enq_is = λ e from. refl; serves = λ u. u; open_send = λ u. u; reads = λ c e from. tt }

next_send_still : (round : Round) (found : ℕ) → StillSend (after_next Served.List Chain.Send round found)
next_send_still round zero = still_send (Phase.HandOver round.at) tt
next_send_still round (suc n) = read_tag_still _

next_take_still : (round : Round) (found : ℕ) → StillTake (after_next Served.List Chain.Send round found)
next_take_still round zero = still_take (Phase.HandOver round.at) tt
next_take_still round (suc n) = in_send _ _

-- ---- an exchange puts a call into the history

e_call_ties : (c : Config) (h : Record) (e : Entry) (nodes : List ℕ) (k : Kept) → Ties c h nodes k → Ties c (with_sends h (with_call h.sends e)) nodes k × (ghosts c (with_sends h (with_call h.sends e)) nodes k ≡ ghosts c h nodes k)
e_call_ties c h e nodes k t =
    let same : accepted (with_sends h (with_call h.sends e)) ≡ accepted h = accepted_calls_more c 0 false h.sends.calls h.sends.answers (e ∷ []) t.legal.sends in (
      ties_same c h (with_sends h (with_call h.sends e)) nodes k t refl same (record {
        sends = e_calls_more c 0 false h.sends.calls h.sends.answers (e ∷ []) t.legal.sends;
        takes = λ y. rw same (t.legal.takes y);
      }),
      ghosts_same c h (with_sends h (with_call h.sends e)) nodes k same refl (λ y. refl),
    )

-- a history with a call of a group more
abbrev called : Record → ℕ → Entry → Record
called h y e = with_takes h y (with_call (of_group h y) e)

module _ (c : Config) (h : Record) (y : ℕ) (e : Entry) (inside : y < length h.takes) where
  -- what the calls of a side don't change
  pub called_side : {X : Type 0} (look : Side → X) → look (with_call (of_group h y) e) ≡ look (of_group h y) → (x : ℕ) → look (of_group (called h y e) x) ≡ look (of_group h x)
  called_side look same x =
      grind (arith, group_mine h y (with_call (of_group h y) e) inside, group_other h y x (with_call (of_group h y) e))

  pub called_mine : (of_group (called h y e) y).calls ≡ (of_group h y).calls ++ e ∷ []
  called_mine = ap (λ (s : Side). s.calls) (group_mine h y (with_call (of_group h y) e) inside)

  pub called_others : (x : ℕ) → x ≢ y → (of_group (called h y e) x).calls ≡ (of_group h x).calls
  called_others x ne = ap (λ (s : Side). s.calls) (group_other h y x (with_call (of_group h y) e) ne)

  pub called_next : (x : ℕ) (a : Entry) → IsNextTake h x a → IsNextTake (called h y e) x a
  called_next x a n = grind (arith, group_mine, get_front, group_other)

  pub d_call_ties : (nodes : List ℕ) (k : Kept) → Ties c h nodes k → Ties c (called h y e) nodes k × (ghosts c (called h y e) nodes k ≡ ghosts c h nodes k)
  d_call_ties nodes k t = (
    ties_same c h (called h y e) nodes k t (length-set h.takes y _) refl (record {
      sends = t.legal.sends;
      takes = λ x. elim (cases_eq x y) [
        | inl at ↦ subst (λ (z : ℕ). TakeSideAnswers (accepted h) (is_shut h) 0 (of_group (called h y e) z).calls (of_group (called h y e) z).answers) (sym at)
            (subst (λ (s : Side). TakeSideAnswers (accepted h) (is_shut h) 0 s.calls s.answers) (sym (group_mine h y (with_call (of_group h y) e) inside)) (d_calls_more (accepted h) (is_shut h) 0 (of_group h y).calls (of_group h y).answers (e ∷ []) (t.legal.takes y)))
        | inr ne ↦ subst (λ (s : Side). TakeSideAnswers (accepted h) (is_shut h) 0 s.calls s.answers) (sym (group_other h y x (with_call (of_group h y) e) ne)) (t.legal.takes x)
      ];
    }),
    ghosts_same c h (called h y e) nodes k refl refl (called_side (λ (s : Side). length (handed_by s.answers)) refl),
  )

-- ---- a step of a sender

module _ (c : Config) (s : State) (p begun own : ℕ) (within : p < passes (lists c)) {nodes : List ℕ} (k : Parts c s nodes) (posts : Posts c s) (calls : Calls c s.history) where
  e_callers : (e : Entry) → IsNextSend s.history e → Caller c e × (e.known ≤ handed_to_all s.history)
  e_callers e is = (record { senders = all_at _ s.history.sends.calls (length s.history.sends.answers) e calls.senders is; small = all_at _ s.history.sends.calls (length s.history.sends.answers) e calls.small is }, all_at _ s.history.sends.calls (length s.history.sends.answers) e calls.e_known is)

  d_callers : (y : ℕ) (e : Entry) → IsNextTake s.history y e → e.known ≤ entries s.history
  d_callers y e is = all_at _ (of_group s.history y).calls (length (of_group s.history y).answers) e (calls.d_known y) is

  abbrev stand_at : Phase → Stand
  stand_at at = record { begun = begun; node = own; phase = at }

  -- what the step finds
  abbrev finds : Chain → Phase → ℕ
  finds x at = s.mem (word_of (operation (lists c) x own at))

  -- at a place of the chain's own, which leads to one
  chain_step : (x : Chain) (at : Phase) → s.stand p ≡ stand_at at → (mem' : Word → ℕ) (now : Stand)
      → StillSend at → StillTake at → StillSend now.phase → StillTake now.phase
      → ((d : Duty) (e : Enq) (r : ℕ → Regs) → queue_from mem' d e r ≡ queue_from s.mem d e r)
      → Parts c (record { mem = mem'; stand = hold s.stand p now; history = s.history }) nodes
  chain_step x at stands mem' now a b e f words =
      let same : at ≡ (s.stand p).phase = ap (λ (z : Stand). z.phase) (sym stands) in
      quiet c s p now mem' s.history k (subst StillSend same a) (subst StillTake same b) e f words (λ e n. n) (λ y e n. n) (λ kept t. (t, refl))

  pub send_step : (at : Phase) → s.stand p ≡ stand_at at → Well s.history Chain.Send (Pass.Sender (p + 1)) begun at → ChainFacts (lists c) s → Parts c (stepped_from (lists c) s Chain.Send p (stand_at at)) (then_linked nodes (links_at at))
  send_step (Phase.Counting job service) stands w facts = absurd w
  send_step (Phase.Taking job service) stands w facts = absurd w
  send_step (Phase.Sending job Sending.ReadTag) stands w facts =
      chain_step Chain.Send _ stands _ _ (read_tag_still job) (in_send job _) (read_body_still job _ 0) (in_send job _) (λ d e r. refl)
  -- a word of a request: the service begins with the last one
  send_step (Phase.Sending job (Sending.ReadBody request i)) stands w facts =
      behind_word (λ (z : Sending). Parts c (record { mem = s.mem; stand = hold s.stand p (stand_at (Phase.Sending job z)); history = s.history }) nodes) (further_words request.tag) i _ _
      (λ more. chain_step Chain.Send _ stands _ _ (read_body_still job request i) (in_send job _) (read_body_still job _ (i + 1)) (in_send job _) (λ d e r. refl))
      (λ last. send_enters c s p begun own job request i last (ap (λ (z : Stand). z.phase) stands) within facts posts.outside e_callers k)
  send_step (Phase.Sending job service) stands w facts = send_serves c s p begun own job service stands tt k
  send_step (Phase.ReadNext round) stands w facts =
      chain_step Chain.Send _ stands _ _ (still_send (Phase.ReadNext round) tt) (still_take (Phase.ReadNext round) tt) (next_send_still round _) (next_take_still round _) (λ d e r. refl)
  send_step (Phase.Exchange e) stands w facts =
      let same : Phase.Exchange e ≡ (s.stand p).phase = ap (λ (z : Stand). z.phase) (sym stands) in
      quiet c s p _ _ (with_sends s.history (with_call s.history.sends e)) k (subst StillSend same (still_send (Phase.Exchange e) tt)) (subst StillTake same (still_take (Phase.Exchange e) tt))
      (still_send (Phase.WriteTag own _) tt) (still_take (Phase.WriteTag own _) tt) (λ d e r. refl)
      (get_front s.history.sends.calls (e ∷ []) (length s.history.sends.answers)) (λ y a n. n) (e_call_ties c s.history e nodes)
  send_step (Phase.ResetNext e) stands w facts = chain_step Chain.Send _ stands _ _ (still_send (Phase.ResetNext e) tt) (still_take (Phase.ResetNext e) tt) (still_send (Phase.ResetState e) tt) (still_take (Phase.ResetState e) tt) (λ d e r. refl)
  send_step (Phase.ResetState e) stands w facts = chain_step Chain.Send _ stands _ _ (still_send (Phase.ResetState e) tt) (still_take (Phase.ResetState e) tt) (still_send (Phase.Exchange e) tt) (still_take (Phase.Exchange e) tt) (λ d e r. refl)
  send_step Phase.Idle stands w facts = chain_step Chain.Send _ stands _ _ (still_send Phase.Idle tt) (still_take Phase.Idle tt) (still_send Phase.Idle tt) (still_take Phase.Idle tt) (λ d e r. refl)
  send_step at stands w facts = chain_step Chain.Send _ stands _ _ (still_send at tt) (still_take at tt) (plain_goes c Chain.Send own at (finds Chain.Send at) tt).still_send (plain_goes c Chain.Send own at (finds Chain.Send at) tt).still_take (λ d e r. refl)

  -- ---- a step of a receiver of group y

  module _ (y : ℕ) (chain : chain_of c p ≡ Chain.Take y) (inside : y < groups c) where
    side_in : y < length s.history.takes
    side_in = omega (arith, inside, k.ties.many)

    -- at a place of the chain's own, which leads to one, with nothing for the history
    quiet_step : (at : Phase) → s.stand p ≡ stand_at at → (mem' : Word → ℕ) (now : Stand)
        → StillSend at → StillTake at → StillSend now.phase → StillTake now.phase
        → ((d : Duty) (e : Enq) (r : ℕ → Regs) → queue_from mem' d e r ≡ queue_from s.mem d e r)
        → Parts c (record { mem = mem'; stand = hold s.stand p now; history = noted (Chain.Take y) s.history None None }) nodes
    quiet_step at stands mem' now a b e f words =
        subst (λ (h : Record). Parts c (record { mem = mem'; stand = hold s.stand p now; history = h }) nodes) (sym (noted_none (Chain.Take y) s.history)) (chain_step (Chain.Take y) at stands mem' now a b e f words)

    next_step : (round : Round) → s.stand p ≡ stand_at (Phase.ReadNext round) → (found : ℕ)
        → ChainFacts (lists c) (record { mem = s.mem; stand = hold s.stand p (stand_at (after_next Served.List (Chain.Take y) round found)); history = noted (Chain.Take y) s.history None None })
        → Parts c (record { mem = s.mem; stand = hold s.stand p (stand_at (after_next Served.List (Chain.Take y) round found)); history = noted (Chain.Take y) s.history None None }) nodes
    next_step round stands zero facts = quiet_step _ stands _ _ (still_send (Phase.ReadNext round) tt) (still_take (Phase.ReadNext round) tt) (still_send (Phase.HandOver round.at) tt) (still_take (Phase.HandOver round.at) tt) (λ d e r. refl)
    next_step round stands (suc next) facts =
        subst (λ (h : Record). Parts c (record { mem = s.mem; stand = hold s.stand p (stand_at (after_next Served.List (Chain.Take y) round (suc next))); history = h }) nodes) (sym (noted_none (Chain.Take y) s.history))
        (take_enters c s p begun own y chain inside round next (ap (λ (z : Stand). z.phase) stands) within posts.outside (d_callers y) k
        (subst (λ (h : Record). ChainFacts (lists c) (record { mem = s.mem; stand = hold s.stand p (stand_at (after_next Served.List (Chain.Take y) round (suc next))); history = h })) (noted_none (Chain.Take y) s.history) facts))

    pub take_step : (at : Phase) → s.stand p ≡ stand_at at → Well s.history (Chain.Take y) (pass_at c p) begun at → ChainFacts (lists c) (stepped_from (lists c) s (Chain.Take y) p (stand_at at)) → Parts c (stepped_from (lists c) s (Chain.Take y) p (stand_at at)) (then_linked nodes (links_at at))
    take_step (Phase.Counting job service) stands w facts = absurd w
    take_step (Phase.Sending job service) stands w facts = absurd cc
    take_step (Phase.Taking job service) stands w facts = take_serves c s p begun own y chain inside job service stands k
    take_step (Phase.ReadNext round) stands w facts = next_step round stands (finds (Chain.Take y) (Phase.ReadNext round)) facts
    take_step (Phase.Exchange e) stands w facts =
        let same : Phase.Exchange e ≡ (s.stand p).phase = ap (λ (z : Stand). z.phase) (sym stands) in
        quiet c s p _ _ (called s.history y e) k (subst StillSend same (still_send (Phase.Exchange e) tt)) (subst StillTake same (still_take (Phase.Exchange e) tt))
        (still_send (Phase.Link own) tt) (still_take (Phase.Link own) tt) (λ d e r. refl)
        (λ a n. n) (called_next c s.history y e side_in) (d_call_ties c s.history y e side_in nodes)
    take_step (Phase.ResetNext e) stands w facts = quiet_step _ stands _ _ (still_send (Phase.ResetNext e) tt) (still_take (Phase.ResetNext e) tt) (still_send (Phase.ResetState e) tt) (still_take (Phase.ResetState e) tt) (λ d e r. refl)
    take_step (Phase.ResetState e) stands w facts = quiet_step _ stands _ _ (still_send (Phase.ResetState e) tt) (still_take (Phase.ResetState e) tt) (still_send (Phase.Exchange e) tt) (still_take (Phase.Exchange e) tt) (λ d e r. refl)
    take_step Phase.Idle stands w facts = quiet_step _ stands _ _ (still_send Phase.Idle tt) (still_take Phase.Idle tt) (still_send Phase.Idle tt) (still_take Phase.Idle tt) (λ d e r. refl)
    take_step at stands w facts = quiet_step _ stands _ _ (still_send at tt) (still_take at tt) (plain_goes c (Chain.Take y) own at (finds (Chain.Take y) at) tt).still_send (plain_goes c (Chain.Take y) own at (finds (Chain.Take y) at) tt).still_take (λ d e r. refl)
