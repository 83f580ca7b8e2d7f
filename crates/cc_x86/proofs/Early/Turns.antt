-- A turn of a pass: where it leads, and what other passes have posted stays known.
use Rattle.std.proofs.Common.{◌≡◌, ◌≢◌, ◌⊎◌, inl, inr, ℕ, ◌+◌, ◌-◌, ◌<◌, Bool, true, false, cond, ◌==◌, refl, ap, sym, ◌∙◌, subst, ⊎_elim, List, Option, arith}
use Rattle.std.specs.Prelude.{nat_lt}
use Rattle.std.proofs.lemmas.Bool.{ltb-true, lt-ltb, eqb-true, eqb-false}
use Rattle.cc_x86.specs.Program as threads
use Rattle.cc_x86.specs.Program.{Program, found, written}
use Rattle.cc_x86.specs.Sequential as atomic
use Rattle.cc_x86.specs.Buffered.{Waiting}
use Rattle.cc_x86.specs.Names.{Setting, NodeField, Chain, Word, Stand, Phase}
use Rattle.cc_x86.specs.Threads.{as_thread, next_at, Ask, passes_as_threads}
use Rattle.cc_x86.proofs.Stores.{by_bool, contradiction, at_hold', held}
use Rattle.cc_x86.proofs.Threads.{IsBusy, busy_next, busy_after, idle_next, idle_after, finished_next, finished_after}
use Rattle.cc_x86.proofs.Early.Phases.{IsStore, IsLoad, IsSwap, IsPast, past_asks, past_combines}
use Rattle.cc_x86.proofs.Early.Steps.{unwritten, asks_stays, swaps_or_keeps, comes}
use Rattle.cc_x86.proofs.Early.Known.{Moment, chain, Facts, Lent}
use Rattle.cc_runs.specs.Words.{same}
use Rattle.cc_runs.specs.State.{Operation, Swap, word_of}
use Rattle.cc_runs.specs.Lines.{operation}
use Rattle.cc_runs.specs.Step.{advanced}
use Rattle.cc_runs.specs.Run.{passes, IsIdle, IsFinished, begins, rests}
use Rattle.cc_runs.specs.ChainLaws.{IsCombining}
use Rattle.cc_runs.specs.NodeLaws.{IsAsking, HasNode, IsAwaited}
use Rattle.cc_runs.proofs.Words.{same_is, same_self}

pub either : (p q : ℕ) (P : Type 0) → (p ≡ q → P) → (p ≢ q → P) → P
either p q P here there = by_bool P (p == q) (λ it. here (eqb-true p q it)) (λ it. there (eqb-false p q it))

-- ---- what acts is a pass, and what stores is busy

is_pass : (b : Bool) (n does : threads.Operation Word) → cond b n threads.Stop ≡ does → atomic.Acts does → (b ≡ true) × (n ≡ does)
is_pass true n does e acts = (refl, e)
is_pass false n does e acts = absurd (subst (λ (o : threads.Operation Word). atomic.Acts o) (sym e) acts)

pub acting : (c : Setting) (asks : ℕ → Ask) (p : ℕ) (own : Stand) (does : threads.Operation Word) → (passes_as_threads c asks).next p own ≡ does → atomic.Acts does → (p < passes c) × (next_at c (chain c p) own.node own.phase ≡ does)
acting c asks p own does e acts =
    let t = is_pass (nat_lt p (passes c)) (next_at c (chain c p) own.node own.phase) does e acts in
    (ltb-true p (passes c) t.0, t.1)

pub op_store : (o : Operation) (w : Word) (v : ℕ) → as_thread o ≡ threads.Store w v → IsStore o × (word_of o ≡ w)
op_store o w v e = grind arith

pub store_busy : (c : Setting) (x : Chain) (own : ℕ) (at : Phase) (w : Word) (v : ℕ) → next_at c x own at ≡ threads.Store w v → IsIdle at ⊎ IsFinished at ⊎ IsBusy at → IsBusy at
store_busy c x own at w v e (inl idle) = absurd (differ (sym (idle_next c x own at idle) ∙ e))
  where
    differ : threads.Outside 0 ≡ threads.Store w v → ⊥
    differ e = cc
store_busy c x own at w v e (inr (inl finished)) = absurd (differ (sym (finished_next c x own at finished) ∙ e))
  where
    differ : threads.Outside 0 ≡ threads.Store w v → ⊥
    differ e = cc
store_busy c x own at w v e (inr (inr is_busy)) = is_busy

module _ (c : Setting) (asks : ℕ → Ask) where
  abbrev pub T : Program Word Stand
  T = passes_as_threads c asks

  -- ---- where a turn of pass a leads

  module _ (r : threads.State Word Stand) (a told : ℕ) (an : a < passes c) where
    abbrev pub then_r : threads.State Word Stand
    then_r = atomic.stepped_by T r a told (T.next a (r.own a))

    abbrev pub does_a : Operation
    does_a = operation c (chain c a) (r.own a).node (r.own a).phase

    abbrev pub x_found : ℕ
    x_found = found r.words (as_thread (operation c (chain c a) (r.own a).node (r.own a).phase)) told

    pub next_of : T.next a (r.own a) ≡ next_at c (chain c a) (r.own a).node (r.own a).phase
    next_of = ap (λ (b : Bool). cond b (next_at c (chain c a) (r.own a).node (r.own a).phase) threads.Stop) (lt-ltb a (passes c) an)

    pub next_busy : IsBusy (r.own a).phase → T.next a (r.own a) ≡ as_thread does_a
    next_busy is_busy = next_of ∙ busy_next c (chain c a) (r.own a).node (r.own a).phase is_busy

    own_by : (does : threads.Operation Word) → T.next a (r.own a) ≡ does → then_r.own a ≡ T.after a (r.own a) (found r.words does told)
    own_by does is = held r.own a (T.after a (r.own a) (found r.words (T.next a (r.own a)) told)) ∙ ap (λ (d : threads.Operation Word). T.after a (r.own a) (found r.words d told)) is

    pub own_then : IsBusy (r.own a).phase → then_r.own a ≡ advanced c (chain c a) (r.own a) x_found
    own_then is_busy = own_by (as_thread does_a) (next_busy is_busy) ∙ busy_after c asks a (r.own a) (r.own a).phase x_found is_busy

    pub words_then : IsBusy (r.own a).phase → then_r.words ≡ written same r.words (as_thread does_a)
    words_then is_busy = ap (λ (d : threads.Operation Word). written same r.words d) (next_busy is_busy)

    pub others_then : (q : ℕ) → q ≢ a → then_r.own q ≡ r.own q
    others_then q other = at_hold' (λ (b : Bool). cond b (T.after a (r.own a) (found r.words (T.next a (r.own a)) told)) (r.own q) ≡ r.own q) a q (λ same_pass. absurd (other (sym same_pass))) (λ _. refl)

    pub word_then : IsBusy (r.own a).phase → (w : Word) → (word_of does_a ≡ w → ⊥) → then_r.words w ≡ r.words w
    word_then is_busy w away = ap (λ (ws : Word → ℕ). ws w) (words_then is_busy) ∙ unwritten does_a w r.words away

    pub loads_then : IsBusy (r.own a).phase → IsLoad does_a → then_r.words ≡ r.words
    loads_then is_busy loads = words_then is_busy ∙ by_load does_a loads
      where
        by_load : (o : Operation) → IsLoad o → written same r.words (as_thread o) ≡ r.words
        by_load o l = grind arith

    -- a begin, and a return
    pub record Quietly : Type 0 where
      pub words : then_r.words ≡ r.words
      pub node : (then_r.own a).node ≡ (r.own a).node
      pub past : IsPast (then_r.own a).phase
      pub was : IsPast (r.own a).phase

    quietly : (at : Stand) → T.next a (r.own a) ≡ threads.Outside 0 → then_r.own a ≡ at → at.node ≡ (r.own a).node → IsPast at.phase → IsPast (r.own a).phase → Quietly
    quietly at is own node past was = record {
      words = ap (λ (d : threads.Operation Word). written same r.words d) is;
      node = ap (λ (z : Stand). z.node) own ∙ node;
      past = subst (λ (z : Stand). IsPast z.phase) (sym own) past;
      was = was;
    }

    pub idle_then : IsIdle (r.own a).phase → Quietly
    idle_then idle =
        let is : T.next a (r.own a) ≡ threads.Outside 0 = next_of ∙ idle_next c (chain c a) (r.own a).node (r.own a).phase idle in
        quietly (begins c.config a (asks told).call (asks told).known (r.own a)) is (own_by (threads.Outside 0) is ∙ idle_after c asks a (r.own a) (r.own a).phase told idle) refl tt (idle_past (r.own a).phase idle)
      where
        idle_past : (at : Phase) → IsIdle at → IsPast at
        idle_past at idle = grind arith

    pub finished_then : IsFinished (r.own a).phase → Quietly
    finished_then finished =
        let is : T.next a (r.own a) ≡ threads.Outside 0 = next_of ∙ finished_next c (chain c a) (r.own a).node (r.own a).phase finished in
        quietly (rests (r.own a)) is (own_by (threads.Outside 0) is ∙ finished_after c asks a (r.own a) (r.own a).phase told finished) refl tt (finished_past (r.own a).phase finished)
      where
        finished_past : (at : Phase) → IsFinished at → IsPast at
        finished_past at finished = grind arith

  -- ---- what is lent stays so

  module _ (m m' : Moment) (x : Chain) (i : ℕ) (l : Lent c m.r x i) (a : ℕ) (an : a < passes c) (others : (q : ℕ) → q ≢ a → m'.r.own q ≡ m.r.own q)
      (same_state : m'.r.words (Word.Node x i NodeField.State) ≡ m.r.words (Word.Node x i NodeField.State))
      (comes_not : chain c a ≡ x → IsCombining (m'.r.own a).phase → ⊥)
      (asks_then : HasNode c m'.r.words m'.r.own x i a → IsAsking (m'.r.own a).phase)
      (tail_then : m.r.words (Word.Tail x) ≡ i + 1 → IsAwaited c m'.r.words m'.r.own x i)
      (asks_on : HasNode c m.r.words m.r.own x i a → IsAsking (m.r.own a).phase → ((m'.r.own a).node ≡ i) × IsAsking (m'.r.own a).phase) where
    has_then : (q : ℕ) → q ≢ a → HasNode c m'.r.words m'.r.own x i q → HasNode c m.r.words m.r.own x i q
    has_then q other h = (h.0, h.1, ap (λ (z : Stand). z.node) (sym (others q other)) ∙ h.2)

    lent_stays : Lent c m'.r x i
    lent_stays = record {
      nil = same_state ∙ l.nil;
      none = λ q qn on combines. either q a ⊥
          (λ it. comes_not (ap (chain c) (sym it) ∙ on) (subst (λ (z : ℕ). IsCombining (m'.r.own z).phase) it combines))
          (λ other. l.none q qn on (subst (λ (z : Stand). IsCombining z.phase) (others q other) combines));
      asking = λ q h. either q a (IsAsking (m'.r.own q).phase)
          (λ it. subst (λ (z : ℕ). IsAsking (m'.r.own z).phase) (sym it) (asks_then (subst (λ (z : ℕ). HasNode c m'.r.words m'.r.own x i z) it h)))
          (λ other. subst (λ (z : Stand). IsAsking z.phase) (sym (others q other)) (l.asking q (has_then q other h)));
      place = ⊎_elim tail_then
          (λ (w : (q : ℕ) × HasNode c m.r.words m.r.own x i q × IsAsking (m.r.own q).phase). either w.0 a (IsAwaited c m'.r.words m'.r.own x i)
          (λ it.
          let h : HasNode c m.r.words m.r.own x i a = subst (λ (z : ℕ). HasNode c m.r.words m.r.own x i z) it w.1 in
          let then = asks_on h (subst (λ (z : ℕ). IsAsking (m.r.own z).phase) it w.2) in
          inr (a, (h.0, h.1, then.0), then.1))
          (λ other. inr (w.0, (w.1.0, w.1.1, ap (λ (z : Stand). z.node) (others w.0 other) ∙ w.1.2), subst (λ (z : Stand). IsAsking z.phase) (sym (others w.0 other)) w.2)))
          l.place;
    }

  module _ (m : Moment) (f : Facts c m.r) (a told : ℕ) (an : a < passes c) (settled' : Word → ℕ) (posted' : ℕ → List (Waiting Word)) (busy' : Option ℕ) where
    abbrev pub then_m : Moment
    then_m = record { r = then_r m.r a told an; settled = settled'; posted = posted'; busy = busy' }

    abbrev does : Operation
    does = does_a m.r a told an

    abbrev finds : ℕ
    finds = x_found m.r a told an

    -- a busy pass that doesn't write the state of the lent node, nor reads it
    pub busy_lent : (x : Chain) (i : ℕ) → Lent c m.r x i → IsBusy (m.r.own a).phase → IsLoad does ⊎ (word_of does ≡ Word.Node x i NodeField.State → ⊥)
        → (chain c a ≡ x → (m.r.own a).node ≡ i → (m.r.own a).phase ≡ Phase.ReadState → ⊥) → Lent c (then_r m.r a told an) x i
    busy_lent x i l is_busy writes stuck =
        lent_stays m then_m x i l a an (others_then m.r a told an) same_state comes_not asks_then tail_then asks_on
      where
        own_is : (then_r m.r a told an).own a ≡ advanced c (chain c a) (m.r.own a) finds
        own_is = own_then m.r a told an is_busy

        same_state : (then_r m.r a told an).words (Word.Node x i NodeField.State) ≡ m.r.words (Word.Node x i NodeField.State)
        same_state = ⊎_elim (λ (loads : IsLoad does). ap (λ (ws : Word → ℕ). ws (Word.Node x i NodeField.State)) (loads_then m.r a told an is_busy loads))
            (λ (away : word_of does ≡ Word.Node x i NodeField.State → ⊥). word_then m.r a told an is_busy (Word.Node x i NodeField.State) away) writes

        found_state : (m.r.own a).phase ≡ Phase.ReadState → finds ≡ m.r.words (Word.Node (chain c a) (m.r.own a).node NodeField.State)
        found_state reads = ap (λ (z : Phase). found m.r.words (as_thread (operation c (chain c a) (m.r.own a).node z)) told) reads

        found_tail : (o : Operation) → IsSwap o → word_of o ≡ Word.Tail (chain c a) → found m.r.words (as_thread o) told ≡ m.r.words (Word.Tail (chain c a))
        found_tail (Swap w v) s e = ap m.r.words e
        found_tail o s e = grind arith

        -- who comes to combine has read the 0 of this node
        comes_not : chain c a ≡ x → IsCombining ((then_r m.r a told an).own a).phase → ⊥
        comes_not on combines = ⊎_elim (λ (was : IsCombining (m.r.own a).phase). l.none a an on was)
            (λ (reads : ((m.r.own a).phase ≡ Phase.ReadState) × (finds ≡ 0)). stuck on
            (f.nodes.one_zero a i an (ap (λ (z : Chain). m.r.words (Word.Node z i NodeField.State)) on ∙ l.nil) (subst (λ (z : Chain). IsAwaited c m.r.words m.r.own z i) (sym on) l.place) reads.0 (sym (found_state reads.0) ∙ reads.1)) reads.0)
            (comes c (chain c a) (m.r.own a).begun (m.r.own a).node (m.r.own a).phase finds is_busy (subst (λ (z : Stand). IsCombining z.phase) own_is combines))

        asks_then : HasNode c (then_r m.r a told an).words (then_r m.r a told an).own x i a → IsAsking ((then_r m.r a told an).own a).phase
        asks_then h = subst (λ (z : Stand). IsAsking z.phase) (sym own_is) (⊎_elim
            (λ (swaps : IsSwap does × (word_of does ≡ Word.Tail (chain c a)) × IsAsking (advanced c (chain c a) (m.r.own a) finds).phase × ((advanced c (chain c a) (m.r.own a) finds).node ≡ finds - 1)). swaps.2)
            (λ (keeps : ((advanced c (chain c a) (m.r.own a) finds).node ≡ (m.r.own a).node) × ((y : Chain) → word_of does ≡ Word.Tail y → IsBusy (m.r.own a).phase → ⊥)).
            let was : (m.r.own a).node ≡ i = sym keeps.0 ∙ ap (λ (z : Stand). z.node) (sym own_is) ∙ h.2 in
            (asks_stays c (chain c a) (m.r.own a).begun (m.r.own a).node (m.r.own a).phase finds (l.asking a (an, h.1, was)) (stuck h.1 was)).0)
            (swaps_or_keeps c (chain c a) (m.r.own a).begun (m.r.own a).node (m.r.own a).phase finds))

        less : (z : ℕ) → z ≡ i + 1 → z - 1 ≡ i
        less z e = omega (arith, e)

        tail_is : (y z : Chain) → Word.Tail y ≡ Word.Tail z → y ≡ z
        tail_is y z e = cc

        tail_then : m.r.words (Word.Tail x) ≡ i + 1 → IsAwaited c (then_r m.r a told an).words (then_r m.r a told an).own x i
        tail_then tail = ⊎_elim
            (λ (swaps : IsSwap does × (word_of does ≡ Word.Tail (chain c a)) × IsAsking (advanced c (chain c a) (m.r.own a) finds).phase × ((advanced c (chain c a) (m.r.own a) finds).node ≡ finds - 1)).
            by_bool (IsAwaited c (then_r m.r a told an).words (then_r m.r a told an).own x i) (same (Word.Tail (chain c a)) (Word.Tail x))
            (λ it.
            let on : chain c a ≡ x = tail_is (chain c a) x (same_is (Word.Tail (chain c a)) (Word.Tail x) it) in
            let found_it : finds ≡ i + 1 = found_tail does swaps.0 swaps.1 ∙ ap (λ (z : Chain). m.r.words (Word.Tail z)) on ∙ tail in
            inr (a, (an, on, ap (λ (z : Stand). z.node) own_is ∙ swaps.3 ∙ less finds found_it), subst (λ (z : Stand). IsAsking z.phase) (sym own_is) swaps.2))
            (λ it. inl (word_then m.r a told an is_busy (Word.Tail x) (λ e. contradiction (same (Word.Tail (chain c a)) (Word.Tail x)) (ap (λ (z : Word). same z (Word.Tail x)) (sym swaps.1 ∙ e) ∙ same_self (Word.Tail x)) it) ∙ tail)))
            (λ (keeps : ((advanced c (chain c a) (m.r.own a) finds).node ≡ (m.r.own a).node) × ((y : Chain) → word_of does ≡ Word.Tail y → IsBusy (m.r.own a).phase → ⊥)).
            inl (word_then m.r a told an is_busy (Word.Tail x) (λ e. keeps.1 x e is_busy) ∙ tail))
            (swaps_or_keeps c (chain c a) (m.r.own a).begun (m.r.own a).node (m.r.own a).phase finds)

        asks_on : HasNode c m.r.words m.r.own x i a → IsAsking (m.r.own a).phase → (((then_r m.r a told an).own a).node ≡ i) × IsAsking ((then_r m.r a told an).own a).phase
        asks_on h asks_now =
            let then = asks_stays c (chain c a) (m.r.own a).begun (m.r.own a).node (m.r.own a).phase finds asks_now (stuck h.1 h.2) in
            (ap (λ (z : Stand). z.node) own_is ∙ then.1 ∙ h.2, subst (λ (z : Stand). IsAsking z.phase) (sym own_is) then.0)

    pub quiet_lent : (x : Chain) (i : ℕ) → Lent c m.r x i → Quietly m.r a told an → Lent c (then_r m.r a told an) x i
    quiet_lent x i l k =
        lent_stays m then_m x i l a an (others_then m.r a told an) (ap (λ (ws : Word → ℕ). ws (Word.Node x i NodeField.State)) k.words)
        (λ on combines. past_combines ((then_r m.r a told an).own a).phase k.past combines)
        (λ h. absurd (past_asks (m.r.own a).phase k.was (l.asking a (h.0, h.1, sym k.node ∙ h.2))))
        (λ tail. inl (ap (λ (ws : Word → ℕ). ws (Word.Tail x)) k.words ∙ tail))
        (λ h asks_now. absurd (past_asks (m.r.own a).phase k.was asks_now))
