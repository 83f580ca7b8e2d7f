-- The list's invariant after every run.
use Rattle.std.proofs.Common.{get_or, zero, suc, ◌≡◌, ◌≢◌, ℕ, ◌+◌, ◌-◌, ◌*◌, ◌/◌, ◌^◌, ◌<◌, ◌≤◌, ◌==◌, nat_lt, List, [], ◌∷◌, length, Bool, true, false, if◌then◌else◌, None, inl, inr, refl, sym, ap, ◌∙◌, subst, arith}
use Rattle.std.proofs.lemmas.Bool.{lt-ltb, eqb-true}
use Rattle.std.specs.List.{AllByRecursion}
use Rattle.std.proofs.lemmas.List.{length-replicate}
use Rattle.cc_model.specs.Record.{Side, Record, silent, of_group}
use Rattle.cc_model.specs.Items.{known_at, accepted, is_shut, handed, handed_by, handed_to_all, entries}
use Rattle.cc_model.specs.Legal.{Legal, TakeSideAnswers, IsReceivers, send_numbers}
use Rattle.cc_runs.specs.Names.{Config, Pass, Call, Chain, Phase, Stand, Move, Entry}
use Rattle.cc_runs.specs.State.{State, appended, chain_of, pass_at, first_node, word_of}
use Rattle.cc_runs.specs.Lines.{operation, goes, enters, decides}
use Rattle.cc_runs.specs.Step.{stepped_from}
use Rattle.cc_runs.specs.Words.{groups}
use Rattle.cc_runs.proofs.Chains.Opening.{no_calls}
use Rattle.cc_runs.proofs.Chains.Others.{receiver_chain, group_is}
use Rattle.cc_runs.proofs.ListRuns.Decided.{few_answers, group_mine, group_other}
use Rattle.cc_runs.specs.Run.{passes, nowhere, first_word, opening, begun_after, number_of, begins, rests, moved, reached, IsIdle, IsFinished, May, IsRun}
use Rattle.cc_runs.specs.MachineLaws.{links_at, linked_nodes}
use Rattle.cc_runs.proofs.Ranges.{InRange}
use Rattle.cc_runs.proofs.LinkedList.Queue.{Queue, Ghosts}
use Rattle.cc_runs.proofs.LinkedList.Open as open_list
use Rattle.cc_runs.proofs.LinkedList.Sides.{smallest_is, above_none}
use Rattle.cc_runs.proofs.Changed.{changed, changed_here, changed_away}
use Rattle.cc_runs.proofs.RunPrefixes.{begins_noted}
use Rattle.cc_runs.proofs.KnownPrefixes.{known_grow}
use Rattle.cc_runs.proofs.LinkedList.Busy as busy
use Rattle.cc_runs.proofs.LinkedList.Grow.{Kept}
use Rattle.cc_runs.proofs.ListRuns.View.{Duty, Regs, none, resting, enq_at, regs_at, regs_of, queue_from, queue_of}
use Rattle.cc_runs.proofs.ListRuns.Ties.{Holds, ghosts, further, ReadsAt, IsServing, IsUndecidedAt, IsTaking, then_linked, then_is}
use Rattle.cc_runs.proofs.ListRuns.Facts.{lists, ChainFacts}
use Rattle.cc_runs.proofs.ListRuns.Posts.{Begun, Well, Posts, Calls, HasNumber, waits, is_send, OfSend, OfTake, of_side, group_in}
use Rattle.cc_runs.proofs.ListRuns.PostSteps.{next_well, next_waits, posts_on, calls_on, own_sent, other_sent, e_calls_on, d_calls_on}
use Rattle.cc_runs.proofs.ListRuns.Untouched.{StillSend, StillTake, still_send, still_take}
use Rattle.cc_runs.proofs.ListRuns.Invariant.{Parts, ghosts_at, quiet}
use Rattle.cc_runs.proofs.ListRuns.Steps.{send_step, take_step, called_mine, called_others}

pub record Whole (c : Config) (s : State) (nodes : List ℕ) : Type 0 where
  pub parts : Parts c s nodes
  pub posts : Posts c s
  pub calls : Calls c s.history

-- ---- a step

module _ (c : Config) (fits : InRange c) (s : State) (p begun own : ℕ) (within : p < passes (lists c)) {nodes : List ℕ} (w : Whole c s nodes) where
  abbrev h : Record
  h = s.history

  abbrev stand_at : Phase → Stand
  stand_at at = record { begun = begun; node = own; phase = at }

  abbrev to : Chain → Phase → State
  to x at = stepped_from (lists c) s x p (stand_at at)

  abbrev finds : Chain → Phase → ℕ
  finds x at = s.mem (word_of (operation (lists c) x own at))

  -- what can be known grows with the history
  up : (x : Chain) (at : Phase) (pass : Pass) → known_at pass h ≤ known_at pass (to x at).history
  up x at pass = known_grow h (to x at).history pass (few_answers c 0 false h.sends.calls h.sends.answers w.parts.ties.legal.sends) (begins_noted x h (enters at) (decides (lists c) at (finds x at)))

  few_sends : c.per_sender < 2 ^ 32
  few_sends = omega (arith, fits.per_sender)

  few_senders : c.senders < 2 ^ 16
  few_senders = omega (arith, fits.senders)

  limit_at : (at : Phase) → s.stand p ≡ stand_at at → begun ≤ c.per_sender
  limit_at at stands = subst (λ (z : Stand). z.begun ≤ c.per_sender) stands (w.posts.limit p)

  module _ (of : OfSend c p) where
    well_at : (at : Phase) → s.stand p ≡ stand_at at → Well h Chain.Send (Pass.Sender (p + 1)) begun at
    well_at at stands = subst (λ (x : Chain). Well h x (Pass.Sender (p + 1)) begun at) of.chain_is (subst (λ (z : Pass). Well h (chain_of c p) z begun at) of.pass_is (subst (λ (z : Stand). Well h (chain_of c p) (pass_at c p) z.begun z.phase) stands (w.posts.well p)))

    sent_at : (at : Phase) → s.stand p ≡ stand_at at → length (send_numbers (p + 1) h.sends.calls) + waits at ≡ begun
    sent_at at stands = subst (λ (z : Stand). length (send_numbers (p + 1) h.sends.calls) + waits z.phase ≡ z.begun) stands (w.posts.sent p of.within)

    send_well : (at : Phase) → s.stand p ≡ stand_at at → Well (to Chain.Send at).history (chain_of c p) (pass_at c p) begun (goes (lists c) Chain.Send own at (finds Chain.Send at))
    send_well at stands = subst (λ (x : Chain). Well (to Chain.Send at).history x (pass_at c p) begun (goes (lists c) Chain.Send own at (finds Chain.Send at))) (sym of.chain_is) (subst (λ (z : Pass). Well (to Chain.Send at).history Chain.Send z begun (goes (lists c) Chain.Send own at (finds Chain.Send at))) (sym of.pass_is)
        (next_well c Chain.Send own at (finds Chain.Send at) h _ (Pass.Sender (p + 1)) begun (up Chain.Send at (Pass.Sender (p + 1))) (well_at at stands)))

    send_rest : (at : Phase) → s.stand p ≡ stand_at at → Posts c (to Chain.Send at) × Calls c (to Chain.Send at).history
    send_rest (Phase.Exchange e) stands =
        let later : Record = (to Chain.Send (Phase.Exchange e)).history in
        let b : Begun h Chain.Send (Pass.Sender (p + 1)) begun e = well_at (Phase.Exchange e) stands in
        let e_up : handed_to_all h ≤ handed_to_all later = up Chain.Send (Phase.Exchange e) (Pass.Sender 0) in
        let d_up : entries h ≤ entries later = up Chain.Send (Phase.Exchange e) (Pass.Receiver 0) in
        let limit = limit_at (Phase.Exchange e) stands in
        let sent = sent_at (Phase.Exchange e) stands in (
          posts_on c s p _ _ _ w.posts within (up Chain.Send (Phase.Exchange e)) limit (send_well (Phase.Exchange e) stands)
              (λ l. omega (arith, own_sent c h later p begun e refl (λ y. refl) e_up d_up of.within b limit few_sends few_senders sent w.calls))
              (other_sent c h later p begun e refl (λ y. refl) e_up d_up of.within b limit few_sends few_senders sent w.calls),
          e_calls_on c h later p begun e refl (λ y. refl) e_up d_up of.within b limit few_sends few_senders sent w.calls,
        )
    send_rest at stands = (
      posts_on c s p _ _ _ w.posts within (up Chain.Send at) (limit_at at stands) (send_well at stands)
          (λ l. omega (arith, next_waits c Chain.Send own at (finds Chain.Send at) h (Pass.Sender (p + 1)) begun (well_at at stands), sent_at at stands))
          (λ q ne. refl),
      calls_on c h _ refl (λ y. refl) (up Chain.Send at (Pass.Sender 0)) (up Chain.Send at (Pass.Receiver 0)) w.calls,
    )

    send_whole : (at : Phase) → s.stand p ≡ stand_at at → ChainFacts (lists c) s → Whole c (to Chain.Send at) (then_linked nodes (links_at at))
    send_whole at stands facts =
        let on : Parts c (to Chain.Send at) (then_linked nodes (links_at at)) = send_step c s p begun own within w.parts w.posts w.calls at stands (well_at at stands) facts in
        let rest : Posts c (to Chain.Send at) × Calls c (to Chain.Send at).history = send_rest at stands in
        record { parts = on; posts = rest.0; calls = rest.1 }

  module _ (of : OfTake c p) where
    abbrev y : ℕ
    y = (p - c.senders) / c.receivers

    inside : y < groups c
    inside = group_in c p within of

    side_in : y < length h.takes
    side_in = omega (arith, inside, w.parts.ties.many)

    take_well_at : (at : Phase) → s.stand p ≡ stand_at at → Well h (Chain.Take y) (pass_at c p) begun at
    take_well_at at stands = subst (λ (x : Chain). Well h x (pass_at c p) begun at) of.chain_is (subst (λ (z : Stand). Well h (chain_of c p) (pass_at c p) z.begun z.phase) stands (w.posts.well p))

    take_well : (at : Phase) → s.stand p ≡ stand_at at → Well (to (Chain.Take y) at).history (chain_of c p) (pass_at c p) begun (goes (lists c) (Chain.Take y) own at (finds (Chain.Take y) at))
    take_well at stands = subst (λ (x : Chain). Well (to (Chain.Take y) at).history x (pass_at c p) begun (goes (lists c) (Chain.Take y) own at (finds (Chain.Take y) at))) (sym of.chain_is)
        (next_well c (Chain.Take y) own at (finds (Chain.Take y) at) h _ (pass_at c p) begun (up (Chain.Take y) at (pass_at c p)) (take_well_at at stands))

    -- a step that enters no call leaves the calls
    same_calls : (at : Phase) → enters at ≡ None → (x : ℕ) → (of_group (to (Chain.Take y) at).history x).calls ≡ (of_group h x).calls
    same_calls at none x =
        let found : ℕ = finds (Chain.Take y) at in
        let now : Side = record { calls = appended (of_group h y).calls (enters at); answers = appended (of_group h y).answers (decides (lists c) at found) } in
        grind (arith, group_mine h y now side_in, none, group_other h y x now)

    take_still : (at : Phase) → enters at ≡ None → s.stand p ≡ stand_at at → Posts c (to (Chain.Take y) at) × Calls c (to (Chain.Take y) at).history
    take_still at none stands = (
      posts_on c s p _ _ _ w.posts within (up (Chain.Take y) at) (limit_at at stands) (take_well at stands)
          (λ l. absurd (omega (arith, l, of.low)))
          (λ q ne. refl),
      calls_on c h _ refl (same_calls at none) (up (Chain.Take y) at (Pass.Sender 0)) (up (Chain.Take y) at (Pass.Receiver 0)) w.calls,
    )

    take_rest : (at : Phase) → s.stand p ≡ stand_at at → Posts c (to (Chain.Take y) at) × Calls c (to (Chain.Take y) at).history
    take_rest (Phase.Exchange e) stands =
        let later : Record = (to (Chain.Take y) (Phase.Exchange e)).history in
        let b : Begun h (Chain.Take y) (Pass.Receiver (p - c.senders + 1)) begun e = subst (λ (z : Pass). Begun h (Chain.Take y) z begun e) of.pass_is (take_well_at (Phase.Exchange e) stands) in
        let e_up : handed_to_all h ≤ handed_to_all later = up (Chain.Take y) (Phase.Exchange e) (Pass.Sender 0) in
        let d_up : entries h ≤ entries later = up (Chain.Take y) (Phase.Exchange e) (Pass.Receiver 0) in
        let back : p - c.senders + 1 - 1 ≡ p - c.senders = omega arith in (
          posts_on c s p _ _ _ w.posts within (up (Chain.Take y) (Phase.Exchange e)) (limit_at (Phase.Exchange e) stands) (take_well (Phase.Exchange e) stands)
              (λ l. absurd (omega (arith, l, of.low)))
              (λ q ne. refl),
          d_calls_on c h later y (p - c.senders + 1) begun e refl (called_mine c h y e side_in) (called_others c h y e side_in) e_up d_up (omega arith) (omega (arith, within, of.low)) (ap (λ (k : ℕ). k / c.receivers) back) b w.calls,
        )
    take_rest at stands = take_still at refl stands

    take_whole : (at : Phase) → s.stand p ≡ stand_at at → ChainFacts (lists c) (to (Chain.Take y) at) → Whole c (to (Chain.Take y) at) (then_linked nodes (links_at at))
    take_whole at stands facts =
        let on : Parts c (to (Chain.Take y) at) (then_linked nodes (links_at at)) = take_step c s p begun own within w.parts w.posts w.calls y of.chain_is inside at stands (take_well_at at stands) facts in
        let rest : Posts c (to (Chain.Take y) at) × Calls c (to (Chain.Take y) at).history = take_rest at stands in
        record { parts = on; posts = rest.0; calls = rest.1 }

  step_on : (at : Phase) → s.stand p ≡ stand_at at → ChainFacts (lists c) s → ChainFacts (lists c) (to (chain_of c p) at) → Whole c (to (chain_of c p) at) (then_linked nodes (links_at at))
  step_on at stands before after = elim (of_side c p) [
    | inl of ↦ subst (λ (x : Chain). Whole c (to x at) (then_linked nodes (links_at at))) (sym of.chain_is) (send_whole of at stands before)
    | inr of ↦ subst (λ (x : Chain). Whole c (to x at) (then_linked nodes (links_at at))) (sym of.chain_is) (take_whole of at stands (subst (λ (x : Chain). ChainFacts (lists c) (to x at)) of.chain_is after))
  ]

-- ---- a call is begun, or its answer taken

idle_still : (at : Phase) → IsIdle at → StillSend at × StillTake at
idle_still Phase.Idle u = (still_send Phase.Idle tt, still_take Phase.Idle tt)
idle_still _ u = absurd u

finished_still : (at : Phase) → IsFinished at → StillSend at × StillTake at
finished_still (Phase.Finished told) u = (still_send (Phase.Finished told) tt, still_take (Phase.Finished told) tt)
finished_still _ u = absurd u

idle_waits : (at : Phase) → IsIdle at → waits at ≡ 0
idle_waits at u = grind arith

finished_waits : (at : Phase) → IsFinished at → waits at ≡ 0
finished_waits at u = grind arith

numbered : (k : Call) (begun : ℕ) → HasNumber k (number_of k begun) (begun_after k begun)
numbered k begun = grind arith

one_more : (k : Call) (begun : ℕ) → begun_after k begun ≡ begun + is_send k
one_more k begun = grind arith

begin_on : (c : Config) (s : State) (p : ℕ) (k : Call) (known : ℕ) → May (lists c) s (Move.Begin p k known) → {nodes : List ℕ} → Whole c s nodes → Whole c (moved (lists c) s (Move.Begin p k known)) nodes
begin_on c s p k known may w =
    let now : Stand = begins c p k known (s.stand p) in
    let still : StillSend (s.stand p).phase × StillTake (s.stand p).phase = idle_still (s.stand p).phase may.2 in
    let on : Parts c (moved (lists c) s (Move.Begin p k known)) _ =
    quiet c s p (begins c p k known (s.stand p)) s.mem s.history w.parts still.0 still.1 (still_send (Phase.ResetNext _) tt) (still_take (Phase.ResetNext _) tt) (λ d e r. refl) (λ e n. n) (λ y e n. n) (λ kept t. (t, refl)) in
    record {
      parts = on;
      posts = posts_on c s p (begins c p k known (s.stand p)) s.mem s.history w.posts may.0 (λ pass. omega arith) may.3
          (record { pass_is = refl; on = may.1; number_is = numbered k (s.stand p).begun; known_in = may.4 })
          (λ l. omega (arith, w.posts.sent p l, idle_waits (s.stand p).phase may.2, one_more k (s.stand p).begun))
          (λ q ne. refl);
      calls = w.calls;
    }

answer_on : (c : Config) (s : State) (p : ℕ) → May (lists c) s (Move.Take p) → {nodes : List ℕ} → Whole c s nodes → Whole c (moved (lists c) s (Move.Take p)) nodes
answer_on c s p may w =
    let still : StillSend (s.stand p).phase × StillTake (s.stand p).phase = finished_still (s.stand p).phase may.1 in
    let on : Parts c (moved (lists c) s (Move.Take p)) _ =
    quiet c s p (rests (s.stand p)) s.mem s.history w.parts still.0 still.1 (still_send Phase.Idle tt) (still_take Phase.Idle tt) (λ d e r. refl) (λ e n. n) (λ y e n. n) (λ kept t. (t, refl)) in
    record {
      parts = on;
      posts = posts_on c s p (rests (s.stand p)) s.mem s.history w.posts may.0 (λ pass. omega arith) (w.posts.limit p) tt
          (λ l. omega (arith, w.posts.sent p l, finished_waits (s.stand p).phase may.1))
          (λ q ne. refl);
      calls = w.calls;
    }

-- ---- the opening

module _ (c : Config) (fits : InRange c) where
  abbrev s0 : State
  s0 = opening (lists c)

  abbrev duty0 : Duty
  duty0 = record { e_pass = 0; e_call = record { pass = Pass.Sender 1; call = Call.Close; number = 0; known = 0 }; from = 0; d_pass = λ y. c.senders + (y * c.receivers + 0); d_call = λ y. record { pass = Pass.Sender 1; call = Call.Close; number = 0; known = 0 } }

  abbrev kept0 : Kept
  kept0 = record { items = λ k j. 0; role = changed (λ x. 0) 0 2; pos = λ x. 0 }

  abbrev told0 : Ghosts
  told0 = ghosts c s0.history (0 ∷ []) kept0

  idle0 : (p : ℕ) → (s0.stand p).phase ≡ Phase.Idle
  idle0 p = by_case (nat_lt p (passes (lists c)))
    where
      by_case : (b : Bool) → (if b then record { begun = 0; node = first_node c p; phase = Phase.Idle } else nowhere).phase ≡ Phase.Idle
      by_case b = grind arith

  begun0 : (p : ℕ) → (s0.stand p).begun ≡ 0
  begun0 p = by_case (nat_lt p (passes (lists c)))
    where
      by_case : (b : Bool) → (if b then record { begun = 0; node = first_node c p; phase = Phase.Idle } else nowhere).begun ≡ 0
      by_case b = grind arith

  abbrev queue0 : Queue
  queue0 = queue_from (first_word c) duty0 (resting duty0.e_call duty0.from) (λ y. none)

  many0 : further c + 1 ≡ groups c
  many0 = omega (arith, fits.groups)

  free0 : (x : ℕ) → x ≢ 0 → x ≤ c.capacity → queue0.passed x ≡ further c + 1
  free0 x ne l = by_zero (x == 0) refl ∙ sym many0
    where
      by_end : (b : Bool) → (nat_lt x (c.capacity + 1)) ≡ b → (if b then groups c else 0) ≡ groups c
      by_end true e = refl
      by_end false e = absurd (true_false (sym (lt-ltb x (c.capacity + 1) (omega (arith, l))) ∙ e))
        where
          true_false : true ≡ false → ⊥
          true_false z = cc

      by_zero : (b : Bool) → (x == 0) ≡ b → (if b then 0 else (if nat_lt x (c.capacity + 1) then groups c else 0)) ≡ groups c
      by_zero true e = absurd (ne (eqb-true x 0 e))
      by_zero false e = by_end (nat_lt x (c.capacity + 1)) refl

  head0 : (q : ℕ) → q < further c + 1 → (queue0.side q).head ≡ 1
  head0 q l = ap (λ (b : Bool). if b then 1 else 0) (lt-ltb q (groups c) (omega (arith, l, many0)))

  opens0 : open_list.Opens c.capacity (further c + 1) queue0
  opens0 = record {
    some = omega arith;
    last = refl;
    shut = refl;
    count = refl;
    cursor = fits.capacity.0;
    dummy_next = refl;
    dummy_passed = refl;
    free = free0;
    mark_tag = refl;
    rest = refl;
    side_rest = λ q. refl;
    head = head0;
    taken = λ q. refl;
  }

  same_queue0 : queue_of s0 duty0 ≡ queue0
  same_queue0 =
      ap (λ (z : Phase). queue_from (first_word c) duty0 (enq_at duty0.e_call duty0.from z) (regs_of s0.stand duty0)) (idle0 0)
      ∙ ap (λ (r : ℕ → Regs). queue_from (first_word c) duty0 (resting duty0.e_call duty0.from) r) (λ i y. regs_at (idle0 (duty0.d_pass y) i))

  -- nothing is called yet
  silent0 : (y : ℕ) → of_group s0.history y ≡ silent
  silent0 y = no_calls (groups c) (Chain.Take y)

  none0 : (y : ℕ) → length (handed s0.history y) ≡ 0
  none0 y = ap (λ (z : Side). length (handed_by z.answers)) (silent0 y)

  one_node : (k : ℕ) → get_or {A = ℕ} (0 ∷ []) k 0 ≡ 0
  one_node zero = refl
  one_node (suc k) = refl

  zero0 : open_list.Zero told0
  zero0 = record {
    accepted = refl;
    handed = none0;
    shut = refl;
    node = one_node;
    pos = λ x. refl;
    least = let r : (y : ℕ) × (y ≤ further c) × (length (handed s0.history y) ≡ told0.least) = smallest_is (further c) (λ y. length (handed s0.history y)) in omega (arith, r.2, none0 r.0);
    by = λ k. above_none (further c + 1) (λ y. length (handed s0.history y)) k (λ y l. omega (arith, none0 y));
    role_first = changed_here (λ x. 0) 0 2;
    role_others = changed_away (λ x. 0) 0 2;
  }

  parts0 : Parts c s0 (0 ∷ [])
  parts0 = record {
    duty = duty0;
    kept = kept0;
    list = subst (λ (v : Queue). Holds c s0.history (0 ∷ []) kept0 v) (sym same_queue0) (open_list.opens c.capacity c.life (further c + 1) queue0 told0 opens0 zero0);
    serving = record {
      e_only = λ q ne u. subst (λ (z : Phase). IsServing z) (idle0 q) u;
      d_mine = λ y. receiver_chain c (c.senders + (y * c.receivers + 0)) (omega arith) ∙ ap Chain.Take (group_is c y 0 (omega (arith, fits.receivers)));
      d_only = λ y q on ne u. subst (λ (z : Phase). IsTaking z) (idle0 q) u;
      caller = record { senders = (omega arith, fits.senders.0); small = record { sender = omega arith; number = omega arith; body = tt } };
      reads = subst (λ (z : Phase). ReadsAt c duty0.e_call duty0.from z) (sym (idle0 0)) tt;
      next_send = λ u. absurd (subst (λ (z : Phase). IsUndecidedAt z) (idle0 0) u);
      next_take = λ y u. absurd (subst (λ (z : Phase). IsTaking z) (idle0 (duty0.d_pass y)) u);
    };
    ties = record {
      some = omega (arith, fits.groups);
      many = length-replicate _ _;
      linked = refl;
      items_are = λ k l. absurd (omega (arith, l));
      legal = record { sends = tt; takes = λ y. subst (λ (z : Side). TakeSideAnswers (accepted s0.history) (is_shut s0.history) 0 z.calls z.answers) (sym (silent0 y)) tt };
    };
  }

  whole0 : Whole c s0 (0 ∷ [])
  whole0 = record {
    parts = parts0;
    posts = record {
      well = λ p. subst (λ (z : Phase). Well s0.history (chain_of c p) (pass_at c p) (s0.stand p).begun z) (sym (idle0 p)) tt;
      outside = λ p l. subst (λ (z : Phase). IsIdle z) (sym (idle0 p)) tt;
      limit = λ p. omega (arith, begun0 p);
      sent = λ p l. omega (arith, begun0 p, ap waits (idle0 p));
    };
    calls = record {
      senders = tt;
      receivers = λ y. subst (λ (z : Side). AllByRecursion (λ (e : Entry). IsReceivers c y e.pass e.call) z.calls) (sym (silent0 y)) tt;
      numbers = λ s. tt;
      small = tt;
      e_known = tt;
      d_known = λ y. subst (λ (z : Side). AllByRecursion (λ (e : Entry). e.known ≤ entries s0.history) z.calls) (sym (silent0 y)) tt;
    };
  }

-- ---- every run

abbrev pub AfterRun : Config → List Move → Type 0
AfterRun c moves = Whole c (reached (lists c) moves) (linked_nodes (lists c) moves)

pub after_run : (c : Config) → InRange c → ((moves : List Move) → IsRun (lists c) moves → ChainFacts (lists c) (reached (lists c) moves)) → (moves : List Move) → IsRun (lists c) moves → AfterRun c moves
after_run c fits facts [] r = whole0 c fits
after_run c fits facts (Move.Begin p k known ∷ earlier) r = begin_on c (reached (lists c) earlier) p k known r.1 (after_run c fits facts earlier r.0)
after_run c fits facts (Move.Take p ∷ earlier) r = answer_on c (reached (lists c) earlier) p r.1 (after_run c fits facts earlier r.0)
after_run c fits facts (Move.Step p ∷ earlier) r =
    let s : State = reached (lists c) earlier in
    subst (λ (l : List ℕ). Whole c (reached (lists c) (Move.Step p ∷ earlier)) l) (then_is (linked_nodes (lists c) earlier) (links_at (s.stand p).phase))
    (step_on c fits s p (s.stand p).begun (s.stand p).node r.1.0 (after_run c fits facts earlier r.0) (s.stand p).phase refl (facts earlier r.0) (facts (Move.Step p ∷ earlier) r))

-- ---- the history is legal

pub legal : (c : Config) (s : State) {nodes : List ℕ} → Whole c s nodes → Legal c s.history
legal c s {nodes} w =
    let k : Parts c s nodes = w.parts in
    let room : (ghosts_at c s k).accepted ≤ (ghosts_at c s k).least + c.capacity = busy.room c.capacity c.life (further c + 1) (queue_of s k.duty) (ghosts_at c s k) k.list in
    record {
      answers = k.ties.legal.sends;
      senders = w.calls.senders;
      numbers = w.calls.numbers;
      groups = k.ties.many;
      takes = λ y l.
          let below : y < further c + 1 = omega (arith, l, k.ties.some) in
          let in_order : (ghosts_at c s k).handed y ≤ (ghosts_at c s k).accepted = k.list.hands.order y below in
          let least : (ghosts_at c s k).least ≤ (ghosts_at c s k).handed y = k.list.hands.least_is y below in
          record {
            answers = k.ties.legal.takes y;
            receivers = w.calls.receivers y;
            within = omega (arith, in_order);
            room = omega (arith, room, least);
          };
    }
