-- A store that is posted: what is known of all stores that passes have posted then.
use Rattle.std.proofs.Common.{◌≡◌, ◌≢◌, ◌⊎◌, inl, inr, ℕ, ◌+◌, ◌<◌, ◌≤◌, Bool, true, false, cond, refl, ap, sym, ◌∙◌, subst, ⊎_elim, List, [], ◌∷◌, ◌++◌, Some, arith}
use Rattle.cc_x86.specs.Program as threads
use Rattle.cc_x86.specs.Program.{hold, found, written}
use Rattle.cc_x86.specs.Buffered.{Waiting}
use Rattle.cc_x86.specs.Posted.{IsFor, has, Agrees}
use Rattle.cc_x86.specs.Names.{Setting, NodeField, ItemField, Job, Chain, Word, Stand, Phase}
use Rattle.cc_x86.specs.Threads.{as_thread, next_at, Ask}
use Rattle.cc_runs.specs.Early.{may_be_early}
use Rattle.cc_x86.specs.Early.{early}
use Rattle.cc_x86.proofs.Stores.{by_bool, contradiction, unseen, has_snoc, at_hold', held}
use Rattle.cc_x86.proofs.Threads.{IsBusy, busy_next, stands_so}
use Rattle.cc_x86.proofs.Early.Phases.{IsStore, IsLoad, store_no_load, store_no_swap, OfSenders, OfReceivers, IsHand, IsMark, IsPast, IsShut, hand_or_not, mark_or_not, past_combines, asking_combines, answering_shut, stand}
use Rattle.cc_x86.proofs.Early.Steps.{past_stores, nodes_stored, combines_on, node_stays}
use Rattle.cc_x86.proofs.Early.Words.{OwnWord, Inner, Since, Grown, grows, marks}
use Rattle.cc_x86.proofs.Early.Known.{Moment, Ends, chain, Facts, state, Knows, Marked, Lent, Lends, Known, Invariant, front_has, marked_moves, alone_at, writes_alone}
use Rattle.cc_x86.proofs.Early.Turns.{acting, op_store, store_busy, either, T, next_busy, own_then, others_then, word_then, then_m}
use Rattle.cc_x86.proofs.Early.Others.{known_stays}
use Rattle.cc_runs.specs.Words.{same}
use Rattle.cc_runs.specs.State.{Operation, word_of}
use Rattle.cc_runs.specs.Lines.{operation, after_done}
use Rattle.cc_runs.specs.Step.{advanced}
use Rattle.cc_runs.specs.Run.{passes}
use Rattle.cc_runs.specs.ChainLaws.{IsCombining, IsEntering}
use Rattle.cc_runs.specs.NodeLaws.{IsAsking, IsAnswering, IsSending, HasNode, IsWaitedFor}
use Rattle.cc_runs.proofs.Words.{same_is, same_self}

-- ---- one store more in a list

has_more : (l : List (Waiting Word)) (e : Waiting Word) (y : Word) → has same (l ++ e ∷ []) y ≡ true → (has same l y ≡ true) ⊎ (e.word ≡ y)
has_more l e y it = by_bool ((has same l y ≡ true) ⊎ (e.word ≡ y)) (has same l y) (λ older. inl older)
    (λ newer. inr (same_is e.word y (by_bool (same e.word y ≡ true) (same e.word y) (λ is. is)
    (λ is_not. absurd (contradiction (has same (l ++ e ∷ []) y) it (has_snoc same l e y newer is_not))))))

ends_more : (x : Chain) (own : ℕ) (l : List (Waiting Word)) (e : Waiting Word) → Ends x own l → ((n : ℕ) (f : NodeField) → own ≢ n → e.word ≡ Word.Node x n f → has same l (Word.Node x n NodeField.State) ≡ false) → Ends x own (l ++ e ∷ [])
ends_more x own [] e ends fresh = (λ n f other is. refl, tt)
ends_more x own (d ∷ newer) e ends fresh = (
  λ n f other is. by_bool (has same (newer ++ e ∷ []) (Word.Node x n f) ≡ false) (same e.word (Word.Node x n f))
      (λ it. absurd (contradiction (has same (d ∷ newer) (Word.Node x n NodeField.State))
      (ap (λ (b : Bool). cond b true (has same newer (Word.Node x n NodeField.State))) (ap (λ (z : Word). same z (Word.Node x n NodeField.State)) is ∙ same_self (Word.Node x n NodeField.State)))
      (fresh n f other (same_is e.word (Word.Node x n f) it))))
      (λ it. has_snoc same newer e (Word.Node x n f) (ends.0 n f other is) it),
  ends_more x own newer e ends.1
      (λ n f other is. second (same d.word (Word.Node x n NodeField.State)) (has same newer (Word.Node x n NodeField.State)) (fresh n f other is)),
)
  where
    second : (a b : Bool) → cond a true b ≡ false → b ≡ false
    second true b e = absurd (contradiction true refl e)
    second false b e = e

-- the state of the node at which a store is made was 1 for all
module _ (c : Setting) (asks : ℕ → Ask) (m : Moment) (f : Facts c m.r) (j : Invariant c m) (p : ℕ) (its : IsFor m.busy p) (agrees : Agrees same m.r.words m.posted m.settled)
    (w : Word) (v : ℕ) (is : (T c asks).next p (m.r.own p) ≡ threads.Store w v) (plain : early c p (m.r.own p) ≡ true) where
  turns : (p < passes c) × (next_at c (chain c p) (m.r.own p).node (m.r.own p).phase ≡ threads.Store w v)
  turns = acting c asks p (m.r.own p) (threads.Store w v) is tt

  pub pn : p < passes c
  pn = turns.0

  abbrev x : Chain
  x = chain c p

  abbrev own : ℕ
  own = (m.r.own p).node

  abbrev at : Phase
  at = (m.r.own p).phase

  is_busy : IsBusy (m.r.own p).phase
  is_busy = store_busy c x own at w v turns.1 (stands_so at)

  abbrev op : Operation
  op = operation c (chain c p) (m.r.own p).node (m.r.own p).phase

  op_is : as_thread op ≡ threads.Store w v
  op_is = sym (busy_next c x own at is_busy) ∙ turns.1

  stores : IsStore op
  stores = (op_store op w v op_is).0

  word_is : word_of op ≡ w
  word_is = (op_store op w v op_is).1

  no_load : IsLoad op → ⊥
  no_load l = store_no_load op stores l

  abbrev e : Waiting Word
  e = record { word = w; value = v }

  abbrev then_posted : ℕ → List (Waiting Word)
  then_posted = hold m.posted p (m.posted p ++ record { word = w; value = v } ∷ [])

  abbrev m' : Moment
  m' = then_m c asks m f p 0 pn m.settled then_posted (Some p)

  own_next : m'.r.own p ≡ advanced c x (m.r.own p) 0
  own_next = own_then c asks m.r p 0 pn is_busy ∙ ap (λ (d : threads.Operation Word). advanced c x (m.r.own p) (found m.r.words d 0)) op_is

  node_next : (m'.r.own p).node ≡ own
  node_next = ap (λ (z : Stand). z.node) own_next ∙ node_stays c x (m.r.own p).begun own at 0 (λ s. store_no_swap op stores s)

  posted_next : m'.posted p ≡ m.posted p ++ e ∷ []
  posted_next = held m.posted p (m.posted p ++ e ∷ [])

  newest : has same (m'.posted p) w ≡ true
  newest = ap (λ (l : List (Waiting Word)). has same l w) posted_next ∙ last (m.posted p)
    where
      last : (l : List (Waiting Word)) → has same (l ++ record { word = w; value = v } ∷ []) w ≡ true
      last [] = ap (λ (b : Bool). cond b true false) (same_self w)
      last (d ∷ l) = by_test (same d.word w) (has same (l ++ record { word = w; value = v } ∷ []) w) (last l)
        where
          by_test : (a b : Bool) → b ≡ true → cond a true b ≡ true
          by_test a b e = grind arith

  still : (y : Word) → has same (m.posted p) y ≡ true → has same (m'.posted p) y ≡ true
  still y it = ap (λ (l : List (Waiting Word)). has same l y) posted_next ∙ front_has c (m.posted p) (e ∷ []) y it

  -- ---- a store to another pass's node

  module _ (n : ℕ) (g : NodeField) (other : own ≢ n) (touches : word_of op ≡ Word.Node x n g) where
    combines : IsCombining (m.r.own p).phase
    combines = ⊎_elim (λ (mine : own ≡ n). absurd (other mine)) (λ (both : IsCombining at). both) (f.nodes.touched p n x g pn touches).1

    kind : IsAnswering at n ⊎ (at ≡ Phase.HandOver n)
    kind = nodes_stored c x (m.r.own p).begun own at x n g combines stores touches

    one : m.r.words (state c m p n) ≡ 1
    one = ⊎_elim (λ (answers : IsAnswering at n). (f.nodes.answers_waiting p n pn answers other).3) (λ (hands : at ≡ Phase.HandOver n). f.nodes.hands_one p n pn hands) kind

    unshut : OfReceivers x ⊎ IsHand at → IsShut x at → ⊥
    unshut how shut = ⊎_elim (λ (answers : IsAnswering at n). ⊎_elim (λ (takes : OfReceivers x). answering_shut x at n takes answers shut) (λ (hands : IsHand at). no_hand at answers hands) how)
        (λ (hands : at ≡ Phase.HandOver n). subst (λ (z : Phase). IsShut x z) hands shut) kind
      where
        no_hand : (z : Phase) → IsAnswering z n → IsHand z → ⊥
        no_hand z a b = grind arith

    -- its state isn't posted yet
    fresh : OfReceivers x ⊎ IsHand at → has same (m.posted p) (state c m p n) ≡ false
    fresh how = by_bool (has same (m.posted p) (state c m p n) ≡ false) (has same (m.posted p) (state c m p n)) (λ it. absurd (by_kind (j.known p (state c m p n) it))) (λ it. it)
      where
        by_kind : Known c m p (state c m p n) → ⊥
        by_kind (inl (inl (_, inl shut))) = unshut how shut
        by_kind (inl (inl (_, inr (inl asks)))) = asking_combines at asks.0 combines
        by_kind (inl (inl (_, inr (inr a)))) = a.4 (let same_field : NodeField.State ≡ a.1 = cc in same_field)
        by_kind (inl (inr (_, inl mine))) = other (let same_node : n ≡ own = cc in sym same_node)
        by_kind (inl (inr (_, inr item))) = no_item item.0 item.1 item.3
          where
            no_item : (i : ℕ) (h : ItemField) → Word.Node x n NodeField.State ≡ Word.Item i h → ⊥
            no_item i h e = cc
        by_kind (inr (inl (_, k))) = differ (m.r.words (state c m p n)) one (ap (λ (z : ℕ). m.r.words (state c m p z)) (let same_node : n ≡ k.n = cc in same_node) ∙ k.two)
          where
            differ : (z : ℕ) → z ≡ 1 → z ≡ 2 → ⊥
            differ z a b = omega (arith, a, b)
        by_kind (inr (inr h)) = past_combines at h.past combines

  -- its state is 1 for all
  one_settled : (n : ℕ) → own ≢ n → word_of op ≡ state c m p n → OfReceivers x ⊎ IsHand at → m.settled (state c m p n) ≡ 1
  one_settled n other touches how =
      let o = agrees (state c m p n) in
      let none : has same (m.posted o.0) (state c m p n) ≡ false = either o.0 p (has same (m.posted o.0) (state c m p n) ≡ false)
      (λ it. ap (λ (z : ℕ). has same (m.posted z) (state c m p n)) it ∙ fresh n NodeField.State other touches how)
      (λ it. alone_at c m f j p its pn no_load (state c m p n) touches o.0 it) in
      sym (unseen same (m.posted o.0) (state c m p n) (m.settled (state c m p n)) none) ∙ sym o.2 ∙ one n NodeField.State other touches

  -- ---- what was known stays so

  marked_stays : (y : Word) → IsCombining at → Marked c m p y → Marked c m' p y
  marked_stays y both k =
      marked_moves c m m' p y k node_next
      (others_then c asks m.r p 0 pn k.q (λ it. k.other (ap (λ (z : ℕ). (m.r.own z).node) (sym it) ∙ k.its.2)))
      (word_then c asks m.r p 0 pn is_busy (state c m p k.n) (λ touches. differ (m.r.words (state c m p k.n)) (one k.n NodeField.State k.other touches) k.two))
      refl (still (state c m p k.n) k.posts)
    where
      differ : (z : ℕ) → z ≡ 1 → z ≡ 2 → ⊥
      differ z a b = omega (arith, a, b)

  low : IsEntering at → m'.r.words (state c m p own) ≤ 1
  low enters = subst (λ (z : ℕ). z ≤ 1) (sym (word_then c asks m.r p 0 pn is_busy (state c m p own) (no_state at enters))) (f.nodes.entering p pn enters)
    where
      no_state : (z : Phase) → IsEntering z → word_of (operation c x own z) ≡ Word.Node x own NodeField.State → ⊥
      no_state z a e = grind arith

  of_senders : IsSending at → OfSenders x
  of_senders sends = subst OfSenders (sym (f.nodes.sends p pn sends)) tt

  -- any store but a mark and a hand-over
  module _ (no_mark : IsMark at → ⊥) (no_hand : IsHand at → ⊥) where
    grown : (y : Word) → Grown c (λ n. m.r.words (state c m p n)) x (m.r.own p) y → Knows c m' p y
    grown y was = by_kind (subst (λ (z : Stand). Inner (λ n. m'.r.words (state c m p n)) x z y) (sym own_next)
        (grows c (λ n. m.r.words (state c m p n)) (λ n. m'.r.words (state c m p n)) x (m.r.own p).begun own at y stores no_mark no_hand of_senders low was))
      where
        by_kind : Inner (λ n. m'.r.words (state c m p n)) x (m'.r.own p) y → Knows c m' p y
        by_kind h = grind arith

    mine : (y : Word) → has same (m.posted p) y ≡ true → Known c m p y → Known c m' p y
    mine y it (inl (inl (_, before))) = inl (grown y (inr (inl before)))
    mine y it (inl (inr since)) = inl (grown y (inr (inr since)))
    mine y it (inr (inl (both, k))) = inr (inl (subst (λ (z : Stand). IsCombining z.phase) (sym own_next) (combines_on c x (m.r.own p).begun own at 0 both no_hand), marked_stays y both k))
    mine y it (inr (inr h)) = inl (inl (refl, inl (subst (λ (z : Stand). IsShut x z.phase) (sym own_next) (past_stores c x (m.r.own p).begun own at h.past stores))))

    others_known : (y : Word) → has same (m.posted p) y ≡ true → Known c m' p y
    others_known y it = mine y it (j.known p y it)

    new_known : (y : Word) → w ≡ y → Known c m' p y
    new_known y is_it = inl (grown y (inl (sym is_it ∙ sym word_is)))

  -- a store of this value, to this word
  stored_is : (u : Word) (z : ℕ) → as_thread op ≡ threads.Store u z → m'.r.words u ≡ z
  stored_is u z store_is =
      ap (λ (ws : Word → ℕ). ws u) (ap (λ (d : threads.Operation Word). written same m.r.words d) (next_busy c asks m.r p 0 pn is_busy ∙ store_is))
      ∙ ap (λ (b : Bool). cond b z (m.r.words u)) (same_self u)

  same_store : (u : Word) (z : ℕ) → as_thread op ≡ threads.Store u z → (w ≡ u) × (v ≡ z)
  same_store u z store_is = by_store w u v z (sym op_is ∙ store_is)
    where
      by_store : (a b : Word) (k n : ℕ) → threads.Store a k ≡ threads.Store b n → (a ≡ b) × (k ≡ n)
      by_store a b k n e = (cc, cc)

  -- the mark of a take
  module _ (job : Job) (marking : (m.r.own p).phase ≡ Phase.MarkDone job) where
    abbrev n : ℕ
    n = job.round.at

    takes : OfReceivers (chain c p)
    takes = by_chain (chain c p) (ap (λ (z : Phase). may_be_early (chain c p) z) (sym marking) ∙ plain)
      where
        by_chain : (y : Chain) → may_be_early y (Phase.MarkDone job) ≡ true → OfReceivers y
        by_chain Chain.Send e = absurd (contradiction false e refl)
        by_chain (Chain.Take g) e = tt

    answers : IsAnswering (m.r.own p).phase n
    answers = subst (λ (z : Phase). IsAnswering z n) (sym marking) refl

    mark_is : as_thread op ≡ threads.Store (state c m p n) 2
    mark_is = ap (λ (z : Phase). as_thread (operation c x own z)) marking

    here : m.r.own p ≡ stand (m.r.own p).begun own (Phase.MarkDone job)
    here = λ i. record { begun = (m.r.own p).begun; node = (m.r.own p).node; phase = marking i }

    then_is : m'.r.own p ≡ stand (m.r.own p).begun own (after_done c.config.bound job)
    then_is = own_next ∙ ap (λ (z : Stand). advanced c x z 0) here

    newly_marked : (y : Word) (g : NodeField) → own ≢ n → y ≡ Word.Node x n g → Marked c m' p y
    newly_marked y g other y_is =
        let its_pass : IsWaitedFor c m.r.words m.r.own x n = f.nodes.answers_waiting p n pn answers other in
        let not_p : its_pass.0 ≢ p = λ it. other (ap (λ (z : ℕ). (m.r.own z).node) (sym it) ∙ its_pass.1.2) in
        let stays : m'.r.own its_pass.0 ≡ m.r.own its_pass.0 = others_then c asks m.r p 0 pn its_pass.0 not_p in record {
          takes = takes;
          n = n;
          f = g;
          q = its_pass.0;
          is = y_is;
          other = λ mine. other (sym node_next ∙ mine);
          its = (its_pass.1.0, its_pass.1.1, ap (λ (z : Stand). z.node) stays ∙ its_pass.1.2);
          reads = ap (λ (z : Stand). z.phase) stays ∙ its_pass.2;
          two = stored_is (state c m p n) 2 mark_is;
          one = one_settled n other (ap (λ (z : Phase). word_of (operation c x own z)) marking) (inl takes);
          posts = subst (λ (u : Word). has same (m'.posted p) u ≡ true) (same_store (state c m p n) 2 mark_is).0 newest;
        }

    by_mark : (y : Word) → Grown c (λ k. m.r.words (state c m p k)) x (m.r.own p) y → Known c m' p y
    by_mark y was = ⊎_elim
        (λ (since : Since x own (after_done c.config.bound job) y). inl (inr (subst (λ (z : Stand). Since x z.node z.phase y) (sym then_is) since)))
        (λ (marked : (own ≢ n) × (g : NodeField) × (y ≡ Word.Node x n g)). inr (inl (combining, newly_marked y marked.1 marked.0 marked.2)))
        (marks c (λ k. m.r.words (state c m p k)) (λ k. m.r.words (state c m p k)) x (m.r.own p).begun own job y takes (subst (λ (z : Stand). Grown c (λ k. m.r.words (state c m p k)) x z y) here was))
      where
        combining : IsCombining (m'.r.own p).phase
        combining = subst (λ (z : Stand). IsCombining z.phase) (sym own_next) (combines_on c x (m.r.own p).begun own at 0 (subst IsCombining (sym marking) refl) (λ hands. subst IsHand marking hands))

    mark_known : (y : Word) → has same (m.posted p) y ≡ true → Known c m p y → Known c m' p y
    mark_known y it (inl (inl (_, before))) = by_mark y (inr (inl before))
    mark_known y it (inl (inr since)) = by_mark y (inr (inr since))
    mark_known y it (inr (inl (both, k))) = inr (inl (subst (λ (z : Stand). IsCombining z.phase) (sym own_next) (combines_on c x (m.r.own p).begun own at 0 both (λ hands. subst IsHand marking hands)), marked_stays y both k))
    mark_known y it (inr (inr h)) = absurd (subst IsPast marking h.past)

  -- a hand-over
  module _ (i : ℕ) (hands : (m.r.own p).phase ≡ Phase.HandOver i) where
    hand_op : as_thread op ≡ threads.Store (state c m p i) 0
    hand_op = ap (λ (z : Phase). as_thread (operation c x own z)) hands

    asks_not : IsAsking (m.r.own p).phase → ⊥
    asks_not a = subst IsAsking hands a

    combines_now : IsCombining (m.r.own p).phase
    combines_now = subst IsCombining (sym hands) refl

    not_own : own ≢ i
    not_own mine = asks_not (f.nodes.hands_asking p p i pn hands (pn, refl, mine))

    is_hand : IsHand (m.r.own p).phase
    is_hand = subst IsHand (sym hands) tt

    past_then : IsPast (m'.r.own p).phase
    past_then = subst (λ (z : Stand). IsPast z.phase) (sym own_next) (subst (λ (z : Phase). IsPast (advanced c x (stand (m.r.own p).begun own z) 0).phase) (sym hands) tt)

    other_own : (q : ℕ) → q ≢ p → m'.r.own q ≡ m.r.own q
    other_own q other = others_then c asks m.r p 0 pn q other

    has_before : (q : ℕ) → q ≢ p → HasNode c m'.r.words m'.r.own x i q → HasNode c m.r.words m.r.own x i q
    has_before q other h = (h.0, h.1, ap (λ (z : Stand). z.node) (sym (other_own q other)) ∙ h.2)

    hand_lent : Lent c m'.r x i
    hand_lent = record {
      nil = stored_is (state c m p i) 0 hand_op;
      none = λ q qn on combines. either q p ⊥
          (λ it. past_combines (m'.r.own p).phase past_then (subst (λ (z : ℕ). IsCombining (m'.r.own z).phase) it combines))
          (λ other. other (f.one q p qn pn on (subst (λ (z : Stand). IsCombining z.phase) (other_own q other) combines) combines_now));
      asking = λ q h. either q p (IsAsking (m'.r.own q).phase)
          (λ it. absurd (not_own (sym node_next ∙ ap (λ (z : ℕ). (m'.r.own z).node) (sym it) ∙ h.2)))
          (λ other. subst (λ (z : Stand). IsAsking z.phase) (sym (other_own q other)) (f.nodes.hands_asking p q i pn hands (has_before q other h)));
      place = ⊎_elim
          (λ (tail : m.r.words (Word.Tail x) ≡ i + 1). inl (word_then c asks m.r p 0 pn is_busy (Word.Tail x) (λ touches. no_tail (sym touches ∙ ap (λ (z : Phase). word_of (operation c x own z)) hands)) ∙ tail))
          (λ (q : (q : ℕ) × HasNode c m.r.words m.r.own x i q × IsAsking (m.r.own q).phase).
          let other : q.0 ≢ p = λ it. asks_not (subst (λ (z : ℕ). IsAsking (m.r.own z).phase) it q.2) in
          inr (q.0, (q.1.0, q.1.1, ap (λ (z : Stand). z.node) (other_own q.0 other) ∙ q.1.2), subst (λ (z : Stand). IsAsking z.phase) (sym (other_own q.0 other)) q.2))
          (f.nodes.hands_awaited p i pn hands);
    }
      where
        no_tail : Word.Tail x ≡ Word.Node x i NodeField.State → ⊥
        no_tail e = cc

    before_hand : (y : Word) → Known c m p y → OwnWord x (m'.r.own p).node y ⊎ Marked c m' p y
    before_hand y h = grind (arith, asks_not, node_next, marked_stays y)

    hand_lends : Lends c m' p
    hand_lends =
        let store = same_store (state c m p i) 0 hand_op in record {
          past = past_then;
          i = i;
          front = m.posted p;
          only = posted_next ∙ (λ k. m.posted p ++ record { word = store.0 k; value = store.1 k } ∷ []);
          before = λ y it. before_hand y (j.known p y it);
          one = one_settled i not_own (ap (λ (z : Phase). word_of (operation c x own z)) hands) (inr is_hand);
          lent = hand_lent;
        }

  -- ---- all of them

  has_then : (q : ℕ) (y : Word) → has same (m'.posted q) y ≡ true → (has same (m.posted q) y ≡ true) ⊎ ((q ≡ p) × (w ≡ y))
  has_then q y = at_hold' (λ (b : Bool). has same (cond b (m.posted p ++ record { word = w; value = v } ∷ []) (m.posted q)) y ≡ true → (has same (m.posted q) y ≡ true) ⊎ ((q ≡ p) × (w ≡ y))) p q
      (λ it posts. ⊎_elim (λ (older : has same (m.posted p) y ≡ true). inl (ap (λ (z : ℕ). has same (m.posted z) y) (sym it) ∙ older)) (λ (newer : w ≡ y). inr (sym it, newer)) (has_more (m.posted p) e y posts))
      (λ _ posts. inl posts)

  own_known : (y : Word) → (has same (m.posted p) y ≡ true) ⊎ (w ≡ y) → Known c m' p y
  own_known y was = ⊎_elim
      (λ (hand : (i : ℕ) × ((m.r.own p).phase ≡ Phase.HandOver i)). inr (inr (hand_lends hand.0 hand.1)))
      (λ (no_hand : IsHand at → ⊥). ⊎_elim
      (λ (mark : (job : Job) × ((m.r.own p).phase ≡ Phase.MarkDone job)). ⊎_elim
      (λ (older : has same (m.posted p) y ≡ true). mark_known mark.0 mark.1 y older (j.known p y older))
      (λ (newer : w ≡ y). by_mark mark.0 mark.1 y (inl (sym newer ∙ sym word_is))) was)
      (λ (no_mark : IsMark at → ⊥). ⊎_elim
      (λ (older : has same (m.posted p) y ≡ true). others_known no_mark no_hand y older)
      (λ (newer : w ≡ y). new_known no_mark no_hand y newer) was)
      (mark_or_not at))
      (hand_or_not at)

  other_posted : (q : ℕ) → q ≢ p → m'.posted q ≡ m.posted q
  other_posted q other = at_hold' (λ (b : Bool). cond b (m.posted p ++ record { word = w; value = v } ∷ []) (m.posted q) ≡ m.posted q) p q (λ it. absurd (other (sym it))) (λ _. refl)

  other_known : (q : ℕ) (y : Word) → q ≢ p → has same (m.posted q) y ≡ true → Known c m' q y
  other_known q y other older =
      known_stays c asks m f p 0 pn its m.settled then_posted (Some p) (λ b u other' posts _ touches. writes_alone c m f j p its pn no_load b u other' posts touches)
      q other (other_posted q other) (λ u posts. refl) y (j.known q y older)

  -- another hasn't posted a store to this word
  mixed : (q : ℕ) (y : Word) → w ≡ y → has same (m.posted q) y ≡ true → q ≡ p
  mixed q y is_it older = either q p (q ≡ p) (λ it. it) (λ other. absurd (writes_alone c m f j p its pn no_load q y other older (word_is ∙ is_it)))

  pub posts_keep : Invariant c m'
  posts_keep = record {
    inside = λ q y posts. ⊎_elim (λ (older : has same (m.posted q) y ≡ true). j.inside q y older) (λ (newer : (q ≡ p) × (w ≡ y)). subst (λ (z : ℕ). z < passes c) (sym newer.0) pn) (has_then q y posts);
    known = λ q y posts. either q p (Known c m' q y)
        (λ it. subst (λ (z : ℕ). Known c m' z y) (sym it) (own_known y (⊎_elim (λ (older : has same (m.posted q) y ≡ true). inl (ap (λ (z : ℕ). has same (m.posted z) y) (sym it) ∙ older)) (λ (newer : (q ≡ p) × (w ≡ y)). inr newer.1) (has_then q y posts))))
        (λ other. ⊎_elim (λ (older : has same (m.posted q) y ≡ true). other_known q y other older) (λ (newer : (q ≡ p) × (w ≡ y)). absurd (other newer.0)) (has_then q y posts));
    apart = λ q1 q2 y one two. ⊎_elim
        (λ (a : has same (m.posted q1) y ≡ true). ⊎_elim (λ (b : has same (m.posted q2) y ≡ true). j.apart q1 q2 y a b) (λ (b : (q2 ≡ p) × (w ≡ y)). mixed q1 y b.1 a ∙ sym b.0) (has_then q2 y two))
        (λ (a : (q1 ≡ p) × (w ≡ y)). ⊎_elim (λ (b : has same (m.posted q2) y ≡ true). a.0 ∙ sym (mixed q2 y a.1 b)) (λ (b : (q2 ≡ p) × (w ≡ y)). a.0 ∙ sym b.0) (has_then q2 y two))
        (has_then q1 y one);
    ends = λ q takes. either q p (Ends (chain c q) (m'.r.own q).node (m'.posted q))
        (λ it. subst (λ (z : ℕ). Ends (chain c z) (m'.r.own z).node (m'.posted z)) (sym it)
        (own_ends (subst (λ (z : ℕ). OfReceivers (chain c z)) it takes)))
        (λ other. subst (λ (z : Stand). Ends (chain c q) z.node (m'.posted q)) (sym (others_then c asks m.r p 0 pn q other))
        (subst (λ (l : List (Waiting Word)). Ends (chain c q) (m.r.own q).node l) (sym (other_posted q other)) (j.ends q takes)));
  }
    where
      own_ends : OfReceivers (chain c p) → Ends (chain c p) (m'.r.own p).node (m'.posted p)
      own_ends takes =
          subst (λ (z : ℕ). Ends (chain c p) z (m'.posted p)) (sym node_next)
          (subst (λ (l : List (Waiting Word)). Ends (chain c p) own l) (sym posted_next)
          (ends_more (chain c p) own (m.posted p) e (j.ends p takes) (λ n g other touches. fresh n g other (word_is ∙ touches) (inl takes))))
