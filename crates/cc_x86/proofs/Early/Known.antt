-- What is known of the stores that passes have posted, and that so no other pass touches their words, but by a load that waits.
use Rattle.std.proofs.Common.{◌≡◌, ◌≢◌, ◌⊎◌, inl, inr, ℕ, ◌<◌, Bool, true, false, cond, refl, ap, sym, ◌∙◌, subst, ⊎_elim, List, [], ◌∷◌, ◌++◌, Option, Some, None, arith}
use Rattle.std.specs.Prelude.{nat_lt}
use Rattle.std.proofs.lemmas.Bool.{ltb-true}
use Rattle.cc_x86.specs.Program as threads
use Rattle.cc_x86.specs.Buffered.{Waiting, seen}
use Rattle.cc_x86.specs.Posted.{IsFor, has, Alone, AloneAt, IsApart}
use Rattle.cc_x86.specs.Names.{Setting, NodeField, Chain, Word, Stand, Phase}
use Rattle.cc_x86.specs.Threads.{as_thread, next_at}
use Rattle.cc_x86.specs.Early.{waits_at, waiting}
use Rattle.cc_x86.proofs.Stores.{by_bool, contradiction, unseen}
use Rattle.cc_x86.proofs.Threads.{IsBusy, busy_next, idle_next, finished_next, stands_so}
use Rattle.cc_x86.proofs.Early.Phases.{IsLoad, OfReceivers, IsPast, open_combines, sending_combines, prepares_sending}
use Rattle.cc_x86.proofs.Early.Steps.{touches_item, asks_state}
use Rattle.cc_x86.proofs.Early.Words.{OwnWord, ItemWord, Before, Since}
use Rattle.cc_runs.specs.Words.{same}
use Rattle.cc_runs.specs.State.{Operation, chain_of, word_of}
use Rattle.cc_runs.specs.Lines.{operation}
use Rattle.cc_runs.specs.Run.{passes, IsIdle, IsFinished}
use Rattle.cc_runs.specs.MachineLaws.{Prepares, HoldsAt}
use Rattle.cc_runs.specs.ChainLaws.{IsCombining}
use Rattle.cc_runs.specs.NodeLaws.{IsAsking, IsSending, HasNode, IsAwaited, NodeLaws}
use Rattle.cc_runs.proofs.Words.{same_is, same_self}

-- a run with posted stores: its words and passes, the words as passes have them that posted nothing to them, the stores that each
-- pass has posted, and the pass that has posted and not looked since
pub record Moment : Type 0 where
  pub r : threads.State Word Stand
  pub settled : Word → ℕ
  pub posted : ℕ → List (Waiting Word)
  pub busy : Option ℕ

-- no store to a node of chain x comes behind its mark, unless it is the pass's own
abbrev pub Ends : Chain → ℕ → List (Waiting Word) → Type 0
Ends x own [] = Unit {0}
Ends x own (e ∷ newer) = ((n : ℕ) (f : NodeField) → own ≢ n → e.word ≡ Word.Node x n NodeField.State → has same newer (Word.Node x n f) ≡ false) × Ends x own newer

-- the last of these stores is a hand-over
abbrev pub hand : Chain → ℕ → Waiting Word
hand x i = record { word = Word.Node x i NodeField.State; value = 0 }

pub not_its : (busy : Option ℕ) (p q : ℕ) → IsFor busy p → busy ≡ Some q → q ≡ p
not_its None p q its e = absurd (cc)
not_its (Some r) p q its e = let same_pass : r ≡ q = cc in sym same_pass ∙ its

module _ (c : Setting) where
  abbrev pub chain : ℕ → Chain
  chain p = chain_of c.config p

  -- laws of runs, of these words and places
  pub record Facts (r : threads.State Word Stand) : Type 0 where
    pub nodes : NodeLaws c r.words r.own
    pub one : (p q : ℕ) → p < passes c → q < passes c → chain p ≡ chain q → IsCombining (r.own p).phase → IsCombining (r.own q).phase → p ≡ q
    pub apart : (p q : ℕ) → p < passes c → q < passes c → chain p ≡ chain q → (r.own p).node ≡ (r.own q).node → p ≡ q
    pub own_link : (p at : ℕ) → p < passes c → (r.own p).phase ≡ Phase.ReadNext record { at = at; served = 0 } → 0 < r.words (Word.Node (chain p) at NodeField.Next)
    pub alone : (p q x : ℕ) → Prepares (r.own p).phase x → HoldsAt (r.own q).phase x → ⊥

  -- node i of chain x is lent: its state is 0, and its pass, or one that comes to it, hasn't read that yet
  pub record Lent (r : threads.State Word Stand) (x : Chain) (i : ℕ) : Type 0 where
    pub nil : r.words (Word.Node x i NodeField.State) ≡ 0
    pub none : (q : ℕ) → q < passes c → chain q ≡ x → IsCombining (r.own q).phase → ⊥
    pub asking : (q : ℕ) → HasNode c r.words r.own x i q → IsAsking (r.own q).phase
    pub place : IsAwaited c r.words r.own x i

  module _ (m : Moment) where
    abbrev pub state : ℕ → ℕ → Word
    state p n = Word.Node (chain p) n NodeField.State

    -- words of its own node, of a list node that it prepares, or of a node whose answer it writes
    abbrev pub Knows : ℕ → Word → Type 0
    Knows p w = ((m.busy ≡ Some p) × Before (λ n. m.r.words (state p n)) (chain p) (m.r.own p).node (m.r.own p).phase w) ⊎ Since (chain p) (m.r.own p).node (m.r.own p).phase w

    -- a word of another pass's node n, which the receivers' combiner p has marked: that pass still waits
    pub record Marked (p : ℕ) (w : Word) : Type 0 where
      pub takes : OfReceivers (chain p)
      pub n : ℕ
      pub f : NodeField
      pub q : ℕ
      pub is : w ≡ Word.Node (chain p) n f
      pub other : (m.r.own p).node ≢ n
      pub its : HasNode c m.r.words m.r.own (chain p) n q
      pub reads : (m.r.own q).phase ≡ Phase.ReadState
      pub two : m.r.words (state p n) ≡ 2
      pub one : m.settled (state p n) ≡ 1
      pub posts : has same (m.posted p) (state p n) ≡ true

    -- the last store that pass p has posted is its hand-over, of node i
    pub record Lends (p : ℕ) : Type 0 where
      pub past : IsPast (m.r.own p).phase
      pub i : ℕ
      pub front : List (Waiting Word)
      pub only : m.posted p ≡ front ++ hand (chain p) i ∷ []
      pub before : (w : Word) → has same front w ≡ true → OwnWord (chain p) (m.r.own p).node w ⊎ Marked p w
      pub one : m.settled (state p i) ≡ 1
      pub lent : Lent m.r (chain p) i

    abbrev pub Known : ℕ → Word → Type 0
    Known p w = Knows p w ⊎ (IsCombining (m.r.own p).phase × Marked p w) ⊎ Lends p

    pub record Invariant : Type 0 where
      pub inside : (p : ℕ) (w : Word) → has same (m.posted p) w ≡ true → p < passes c
      pub known : (p : ℕ) (w : Word) → has same (m.posted p) w ≡ true → Known p w
      pub apart : (p q : ℕ) (w : Word) → has same (m.posted p) w ≡ true → has same (m.posted q) w ≡ true → p ≡ q
      pub ends : (p : ℕ) → OfReceivers (chain p) → Ends (chain p) (m.r.own p).node (m.posted p)

  -- what is known of one moment, and of another one at which the same holds of its parts
  pub marked_moves : (m m' : Moment) (p : ℕ) (w : Word) (k : Marked m p w) → (m'.r.own p).node ≡ (m.r.own p).node → m'.r.own k.q ≡ m.r.own k.q → m'.r.words (state m p k.n) ≡ m.r.words (state m p k.n)
      → m'.settled (state m p k.n) ≡ m.settled (state m p k.n) → has same (m'.posted p) (state m p k.n) ≡ true → Marked m' p w
  marked_moves m m' p w k node own words settled posts = record {
    takes = k.takes;
    n = k.n;
    f = k.f;
    q = k.q;
    is = k.is;
    other = λ e. k.other (sym node ∙ e);
    its = (k.its.0, k.its.1, ap (λ (z : Stand). z.node) own ∙ k.its.2);
    reads = ap (λ (z : Stand). z.phase) own ∙ k.reads;
    two = words ∙ k.two;
    one = settled ∙ k.one;
    posts = posts;
  }

  pub lends_move : (m m' : Moment) (p : ℕ) (h : Lends m p) → IsPast (m'.r.own p).phase → (m'.r.own p).node ≡ (m.r.own p).node → m'.posted p ≡ m.posted p
      → ((w : Word) → has same h.front w ≡ true → Marked m p w → Marked m' p w) → m'.settled (state m p h.i) ≡ m.settled (state m p h.i) → Lent m'.r (chain p) h.i → Lends m' p
  lends_move m m' p h past node posts marked settled lent = record {
    past = past;
    i = h.i;
    front = h.front;
    only = posts ∙ h.only;
    before = λ w it. ⊎_elim (λ (own : OwnWord (chain p) (m.r.own p).node w). inl (own.0, own.1 ∙ ap (λ (z : ℕ). Word.Node (chain p) z own.0) (sym node)))
        (λ (k : Marked m p w). inr (marked w it k)) (h.before w it);
    one = settled ∙ h.one;
    lent = lent;
  }

  -- what a list that ends with a hand-over has
  has_hand : (front : List (Waiting Word)) (x : Chain) (i : ℕ) (w : Word) → has same (front ++ hand x i ∷ []) w ≡ true → (has same front w ≡ true) ⊎ (Word.Node x i NodeField.State ≡ w)
  has_hand [] x i w it = inr (same_is (Word.Node x i NodeField.State) w (by_test (same (Word.Node x i NodeField.State) w) it))
    where
      by_test : (b : Bool) → cond b true false ≡ true → b ≡ true
      by_test b e = grind arith
  has_hand (e ∷ newer) x i w it = by_test (same e.word w) (has same newer w) (has_hand newer x i w) it
    where
      by_test : (a b : Bool) → (has same (newer ++ hand x i ∷ []) w ≡ true → (b ≡ true) ⊎ (Word.Node x i NodeField.State ≡ w)) → cond a true (has same (newer ++ hand x i ∷ []) w) ≡ true
          → (cond a true b ≡ true) ⊎ (Word.Node x i NodeField.State ≡ w)
      by_test a b rest e = grind arith

  pub hand_is : (front : List (Waiting Word)) (x : Chain) (i : ℕ) → has same (front ++ hand x i ∷ []) (Word.Node x i NodeField.State) ≡ true
  hand_is [] x i = ap (λ (b : Bool). cond b true false) (same_self (Word.Node x i NodeField.State))
  hand_is (e ∷ newer) x i = by_test (same e.word (Word.Node x i NodeField.State)) (has same (newer ++ hand x i ∷ []) (Word.Node x i NodeField.State)) (hand_is newer x i)
    where
      by_test : (a b : Bool) → b ≡ true → cond a true b ≡ true
      by_test a b e = grind arith

  pub front_has : (front last : List (Waiting Word)) (w : Word) → has same front w ≡ true → has same (front ++ last) w ≡ true
  front_has [] last w it = absurd (contradiction false it refl)
  front_has (e ∷ newer) last w it = by_test (same e.word w) (has same newer w) (front_has newer last w) it
    where
      by_test : (a b : Bool) → (b ≡ true → has same (newer ++ last) w ≡ true) → cond a true b ≡ true → cond a true (has same (newer ++ last) w) ≡ true
      by_test a b rest e = grind arith

  pub lends_has : (m : Moment) (p : ℕ) (h : Lends m p) → has same (m.posted p) (state m p h.i) ≡ true
  lends_has m p h = ap (λ (l : List (Waiting Word)). has same l (state m p h.i)) h.only ∙ hand_is h.front (chain p) h.i

  pub lends_only : (m : Moment) (p : ℕ) (h : Lends m p) (w : Word) → has same (m.posted p) w ≡ true → (has same h.front w ≡ true) ⊎ (state m p h.i ≡ w)
  lends_only m p h w it = has_hand h.front (chain p) h.i w (ap (λ (l : List (Waiting Word)). has same l w) (sym h.only) ∙ it)

  -- ---- a word that a pass touches is posted by no other pass, or is a state that the pass waits for

  module _ (m : Moment) (f : Facts m.r) (j : Invariant m) (p : ℕ) (its : IsFor m.busy p) (pn : p < passes c) where
    abbrev pub does_at : Operation
    does_at = operation c (chain p) (m.r.own p).node (m.r.own p).phase

    abbrev pub Waits : Word → Type 0
    Waits w = ((m.r.own p).phase ≡ Phase.ReadState) × (m.settled w ≡ 1)

    not_own : (q : ℕ) (w : Word) → q ≢ p → q < passes c → (IsCombining (m.r.own p).phase → chain q ≡ chain p → ⊥) → OwnWord (chain q) (m.r.own q).node w → word_of does_at ≡ w → ⊥
    not_own q w other qn none own e =
        let t = f.nodes.touched p (m.r.own q).node (chain q) own.0 pn (e ∙ own.1) in
        ⊎_elim (λ (same_node : (m.r.own p).node ≡ (m.r.own q).node). other (f.apart q p qn pn t.0 (sym same_node)))
        (λ (both : IsCombining (m.r.own p).phase). none both t.0) t.1

    not_item : (q : ℕ) (w : Word) → q ≢ p → q < passes c → ItemWord (m.r.own q).phase w → word_of does_at ≡ w → ⊥
    not_item q w other qn item e =
        let sending : IsSending (m.r.own q).phase = prepares_sending (m.r.own q).phase item.0 item.2 in
        ⊎_elim (λ (sends : IsSending (m.r.own p).phase). other (f.one q p qn pn (f.nodes.sends q qn sending ∙ sym (f.nodes.sends p pn sends)) (sending_combines (m.r.own q).phase sending) (sending_combines (m.r.own p).phase sends)))
        (λ (takes : HoldsAt (m.r.own p).phase item.0). f.alone q p item.0 item.2 takes)
        (touches_item c (chain p) (m.r.own p).node (m.r.own p).phase item.0 item.1 (e ∙ item.3))

    -- a pass that touches its own node, while it asks and others write there, reads its state
    reads_state : (q n : ℕ) (g : NodeField) → chain q ≡ chain p → (m.r.own p).node ≡ n → (m.r.own p).phase ≡ Phase.ReadState → word_of does_at ≡ Word.Node (chain q) n g → word_of does_at ≡ state m q n
    reads_state q n g on node reads e = ap (λ (z : Phase). word_of (operation c (chain p) (m.r.own p).node z)) reads ∙ (λ k. Word.Node (sym on k) (node k) NodeField.State)

    marked_waits : (q : ℕ) (w : Word) → (k : Marked m q w) → (IsCombining (m.r.own p).phase → chain q ≡ chain p → ⊥) → word_of does_at ≡ w → Waits w
    marked_waits q w k none e =
        let t = f.nodes.touched p k.n (chain q) k.f pn (e ∙ k.is) in
        ⊎_elim
        (λ (node : (m.r.own p).node ≡ k.n).
        let same_pass : k.q ≡ p = f.apart k.q p k.its.0 pn (k.its.1 ∙ t.0) (k.its.2 ∙ sym node) in
        let reads : (m.r.own p).phase ≡ Phase.ReadState = ap (λ (z : ℕ). (m.r.own z).phase) (sym same_pass) ∙ k.reads in
        (reads, ap m.settled (sym e ∙ reads_state q k.n k.f t.0 node reads (e ∙ k.is)) ∙ k.one))
        (λ (both : IsCombining (m.r.own p).phase). absurd (none both t.0)) t.1

    hand_waits : (q : ℕ) (w : Word) → (h : Lends m q) → state m q h.i ≡ w → word_of does_at ≡ w → Waits w
    hand_waits q w h is e =
        let t = f.nodes.touched p h.i (chain q) NodeField.State pn (e ∙ sym is) in
        ⊎_elim
        (λ (node : (m.r.own p).node ≡ h.i).
        (asks_state c (chain p) (m.r.own p).begun (m.r.own p).node (m.r.own p).phase (chain q) h.i (h.lent.asking p (pn, sym t.0, node)) (e ∙ sym is), ap m.settled (sym is) ∙ h.one))
        (λ (both : IsCombining (m.r.own p).phase). absurd (h.lent.none p pn (sym t.0) both)) t.1

    pub touches_waits : (q : ℕ) (w : Word) → q ≢ p → has same (m.posted q) w ≡ true → word_of does_at ≡ w → Waits w
    touches_waits q w other posts e = by_kind (j.known q w posts)
      where
        by_kind : Known m q w → Waits w
        by_kind (inl (inl before)) = absurd (other (not_its m.busy p q its before.0))
        by_kind (inl (inr (is, inl own))) = absurd (not_own q w other (j.inside q w posts) (λ both on. other (f.one q p (j.inside q w posts) pn on (open_combines (chain q) (m.r.own q).phase is) both)) own e)
        by_kind (inl (inr (is, inr item))) = absurd (not_item q w other (j.inside q w posts) item e)
        by_kind (inr (inl (combines, k))) = marked_waits q w k (λ both on. other (f.one q p (j.inside q w posts) pn on combines both)) e
        by_kind (inr (inr h)) = ⊎_elim
            (λ (front : has same h.front w ≡ true). ⊎_elim
            (λ (own : OwnWord (chain q) (m.r.own q).node w). absurd (not_own q w other (j.inside q w posts) (λ both on. h.lent.none p pn (sym on) both) own e))
            (λ (k : Marked m q w). marked_waits q w k (λ both on. h.lent.none p pn (sym on) both) e)
            (h.before w front))
            (λ (is : state m q h.i ≡ w). hand_waits q w h is e)
            (lends_only m q h w posts)

    -- which a store or a swap doesn't
    pub writes_alone : (IsLoad does_at → ⊥) → (q : ℕ) (w : Word) → q ≢ p → has same (m.posted q) w ≡ true → word_of does_at ≡ w → ⊥
    writes_alone not q w other posts e =
        not (subst (λ (z : Phase). IsLoad (operation c (chain p) (m.r.own p).node z)) (sym (touches_waits q w other posts e).0) tt)

    -- and a load that finds 1 there waits
    pub looks_alone : (w : Word) → word_of does_at ≡ w → waits_at (m.r.own p).phase (seen same (m.posted p) w (m.settled w)) ≡ false → (q : ℕ) → q ≢ p → has same (m.posted q) w ≡ true → ⊥
    looks_alone w is looks q other posts =
        let waits : Waits w = touches_waits q w other posts is in
        let none : has same (m.posted p) w ≡ false = by_bool (has same (m.posted p) w ≡ false) (has same (m.posted p) w) (λ it. absurd (other (j.apart q p w posts it))) (λ it. it) in
        contradiction (waits_at (m.r.own p).phase (seen same (m.posted p) w (m.settled w)))
        (ap (λ (n : ℕ). waits_at (m.r.own p).phase n) (unseen same (m.posted p) w (m.settled w) none ∙ waits.1) ∙ ap (λ (z : Phase). waits_at z 1) waits.0) looks

    no_other : (w : Word) → ((q : ℕ) → q ≢ p → has same (m.posted q) w ≡ true → ⊥) → Alone same m.posted p w
    no_other w never q other = by_bool (has same (m.posted q) w ≡ false) (has same (m.posted q) w) (λ it. absurd (never q other it)) (λ it. it)

    pub alone_at : (IsLoad does_at → ⊥) → (w : Word) → word_of does_at ≡ w → Alone same m.posted p w
    alone_at not w e = no_other w (λ q other posts. writes_alone not q w other posts e)

    pub alone_near : (IsLoad does_at → ⊥) → (w : Word) → word_of does_at ≡ w → AloneAt same m.posted p w
    alone_near not w e x it_is = alone_at not x (e ∙ same_is w x it_is)

    step_apart : (o : Operation) → does_at ≡ o → IsApart same waiting p (m.r.own p) m.posted m.settled (as_thread o)
    step_apart o e = grind (arith, no_other, looks_alone, alone_near, alone_at)

    abbrev Apart : threads.Operation Word → Type 0
    Apart o = IsApart same waiting p (m.r.own p) m.posted m.settled o

    pub pass_apart : IsIdle (m.r.own p).phase ⊎ IsFinished (m.r.own p).phase ⊎ IsBusy (m.r.own p).phase → IsApart same waiting p (m.r.own p) m.posted m.settled (next_at c (chain p) (m.r.own p).node (m.r.own p).phase)
    pass_apart (inl idle) = subst Apart (sym (idle_next c (chain p) (m.r.own p).node (m.r.own p).phase idle)) tt
    pass_apart (inr (inl finished)) = subst Apart (sym (finished_next c (chain p) (m.r.own p).node (m.r.own p).phase finished)) tt
    pass_apart (inr (inr is_busy)) = subst Apart (sym (busy_next c (chain p) (m.r.own p).node (m.r.own p).phase is_busy)) (step_apart does_at refl)

  -- so the discipline is kept
  pub thread_apart : (m : Moment) → Facts m.r → Invariant m → (p : ℕ) → IsFor m.busy p → (b : Bool) → nat_lt p (passes c) ≡ b
      → IsApart same waiting p (m.r.own p) m.posted m.settled (cond b (next_at c (chain p) (m.r.own p).node (m.r.own p).phase) threads.Stop)
  thread_apart m f j p its true e = pass_apart m f j p its (ltb-true p (passes c) e) (stands_so (m.r.own p).phase)
  thread_apart m f j p its false e = tt
