-- A posted store that all have got: what is known of those that are left.
use Rattle.std.proofs.Common.{◌≡◌, ◌≢◌, inl, inr, ℕ, Bool, true, false, cond, refl, ap, sym, ◌∙◌, subst, ⊎_elim, List, [], ◌∷◌, ◌++◌, None, arith}
use Rattle.std.proofs.lemmas.Option.{none-some}
use Rattle.cc_x86.specs.Program.{hold, put}
use Rattle.cc_x86.specs.Buffered.{Waiting}
use Rattle.cc_x86.specs.Posted.{has, but_first}
use Rattle.cc_x86.specs.Names.{Setting, NodeField, Word}
use Rattle.cc_x86.proofs.Stores.{by_bool, contradiction, at_hold', held}
use Rattle.cc_x86.proofs.Early.Phases.{OfReceivers, past_asks}
use Rattle.cc_x86.proofs.Early.Words.{OwnWord}
use Rattle.cc_x86.proofs.Early.Known.{Moment, Ends, hand, chain, state, Marked, Lends, Known, Invariant, marked_moves, lends_move, lends_has, front_has}
use Rattle.cc_x86.proofs.Early.Turns.{either}
use Rattle.cc_runs.specs.Words.{same}
use Rattle.cc_runs.proofs.Words.{same_is, same_self}

module _ (c : Setting) (m : Moment) (j : Invariant c m) (p : ℕ) (e : Waiting Word) (newer : List (Waiting Word)) (quiet : m.busy ≡ None) (is : m.posted p ≡ e ∷ newer) where
  abbrev pub settled_m : Moment
  settled_m = record { r = m.r; settled = put same m.settled e.word e.value; posted = hold m.posted p newer; busy = None }

  later : (a b : Bool) → b ≡ true → cond a true b ≡ true
  later a b it = grind arith

  had : (q : ℕ) (y : Word) → has same (hold m.posted p newer q) y ≡ true → has same (m.posted q) y ≡ true
  had q y = at_hold' (λ (b : Bool). has same (cond b newer (m.posted q)) y ≡ true → has same (m.posted q) y ≡ true) p q
      (λ it posts. ap (λ (z : ℕ). has same (m.posted z) y) (sym it) ∙ ap (λ (l : List (Waiting Word)). has same l y) is ∙ later (same e.word y) (has same newer y) posts)
      (λ _ posts. posts)

  first_had : has same (m.posted p) e.word ≡ true
  first_had = ap (λ (l : List (Waiting Word)). has same l e.word) is ∙ ap (λ (b : Bool). cond b true (has same newer e.word)) (same_self e.word)

  other_posted : (q : ℕ) → q ≢ p → hold m.posted p newer q ≡ m.posted q
  other_posted q other = at_hold' (λ (b : Bool). cond b newer (m.posted q) ≡ m.posted q) p q (λ it. absurd (other (sym it))) (λ _. refl)

  own_posted : hold m.posted p newer p ≡ newer
  own_posted = held m.posted p newer

  put_away : (w : Word) → (e.word ≡ w → ⊥) → put same m.settled e.word e.value w ≡ m.settled w
  put_away w away = by_bool (put same m.settled e.word e.value w ≡ m.settled w) (same e.word w) (λ it. absurd (away (same_is e.word w it)))
      (λ it. ap (λ (b : Bool). cond b e.value (m.settled w)) it)

  -- of another pass
  put_other : (q : ℕ) (w : Word) → q ≢ p → has same (m.posted q) w ≡ true → put same m.settled e.word e.value w ≡ m.settled w
  put_other q w other posts = put_away w (λ touches. other (j.apart q p e.word (subst (λ (z : Word). has same (m.posted q) z ≡ true) (sym touches) posts) first_had))

  other_known : (q : ℕ) (y : Word) → q ≢ p → Known c m q y → Known c settled_m q y
  other_known q y other (inl (inl (of_q, _))) = absurd (none-some q (sym quiet ∙ of_q))
  other_known q y other (inl (inr since)) = inl (inr since)
  other_known q y other (inr (inl (both, k))) = inr (inl (both, marked k))
    where
      marked : Marked c m q y → Marked c settled_m q y
      marked k = marked_moves c m settled_m q y k refl refl refl (put_other q (state c m q k.n) other k.posts) (ap (λ (l : List (Waiting Word)). has same l (state c m q k.n)) (other_posted q other) ∙ k.posts)
  other_known q y other (inr (inr h)) =
      inr (inr (lends_move c m settled_m q h h.past refl (other_posted q other)
      (λ u it k. marked_moves c m settled_m q u k refl refl refl (put_other q (state c m q k.n) other k.posts) (ap (λ (l : List (Waiting Word)). has same l (state c m q k.n)) (other_posted q other) ∙ k.posts))
      (put_other q (state c m q h.i) other (lends_has c m q h)) h.lent))

  -- of the pass itself: what is left of a marked node ends with the mark
  left_marked : (y : Word) → has same newer y ≡ true → Marked c m p y → Marked c settled_m p y
  left_marked y left k = marked_moves c m settled_m p y k refl refl refl (put_away (state c m p k.n) not_it) (ap (λ (l : List (Waiting Word)). has same l (state c m p k.n)) own_posted ∙ has_left)
    where
      first_ends : (n : ℕ) (g : NodeField) → (m.r.own p).node ≢ n → e.word ≡ Word.Node (chain c p) n NodeField.State → has same newer (Word.Node (chain c p) n g) ≡ false
      first_ends = (subst (λ (l : List (Waiting Word)). Ends (chain c p) (m.r.own p).node l) is (j.ends p k.takes)).0

      not_it : e.word ≡ state c m p k.n → ⊥
      not_it touches = contradiction (has same newer y) left (ap (λ (z : Word). has same newer z) k.is ∙ first_ends k.n k.f k.other touches)

      has_left : has same newer (state c m p k.n) ≡ true
      has_left = by_bool (has same newer (state c m p k.n) ≡ true) (same e.word (state c m p k.n)) (λ it. absurd (not_it (same_is e.word (state c m p k.n) it)))
          (λ it. sym (ap (λ (b : Bool). cond b true (has same newer (state c m p k.n))) it) ∙ sym (ap (λ (l : List (Waiting Word)). has same l (state c m p k.n)) is) ∙ k.posts)

  -- and what is left before a hand-over
  lends_left : (h : Lends c m p) → (front : List (Waiting Word)) → h.front ≡ front → (y : Word) → has same newer y ≡ true → Lends c settled_m p
  lends_left h [] none y left =
      absurd (contradiction (has same newer y) left (ap (λ (l : List (Waiting Word)). has same l y) (ap but_first (sym is ∙ h.only ∙ ap (λ (l : List (Waiting Word)). l ++ hand (chain c p) h.i ∷ []) none))))
  lends_left h (d ∷ front) some y left = record {
    past = h.past;
    i = h.i;
    front = front;
    only = own_posted ∙ rest;
    before = λ w it. ⊎_elim (λ (own : OwnWord (chain c p) (m.r.own p).node w). inl own) (λ (k : Marked c m p w). inr (left_marked w (ap (λ (l : List (Waiting Word)). has same l w) rest ∙ front_has c front (hand (chain c p) h.i ∷ []) w it) k))
        (h.before w (ap (λ (l : List (Waiting Word)). has same l w) some ∙ later (same d.word w) (has same front w) it));
    one = put_away (state c m p h.i) not_it ∙ h.one;
    lent = h.lent;
  }
    where
      whole : e ∷ newer ≡ d ∷ (front ++ hand (chain c p) h.i ∷ [])
      whole = sym is ∙ h.only ∙ ap (λ (l : List (Waiting Word)). l ++ hand (chain c p) h.i ∷ []) some

      rest : newer ≡ front ++ hand (chain c p) h.i ∷ []
      rest = ap but_first whole

      not_it : e.word ≡ state c m p h.i → ⊥
      not_it touches = ⊎_elim
          (λ (own : OwnWord (chain c p) (m.r.own p).node (state c m p h.i)). past_asks (m.r.own p).phase h.past (h.lent.asking p (j.inside p e.word first_had, refl, (let same_node : h.i ≡ (m.r.own p).node = same_own own.0 own.1 in sym same_node))))
          (λ (k : Marked c m p (state c m p h.i)). zero_two (m.r.words (state c m p h.i)) h.lent.nil (ap (λ (z : ℕ). m.r.words (state c m p z)) (same_node k.n k.f k.is) ∙ k.two))
          (h.before (state c m p h.i) (ap (λ (l : List (Waiting Word)). has same l (state c m p h.i)) some ∙ ap (λ (b : Bool). cond b true (has same front (state c m p h.i))) (ap (λ (z : Word). same z (state c m p h.i)) (sym (ap (first e) whole) ∙ touches) ∙ same_self (state c m p h.i))))
        where
          first : Waiting Word → List (Waiting Word) → Word
          first z [] = z.word
          first z (a ∷ l) = a.word

          same_own : (g : NodeField) → state c m p h.i ≡ Word.Node (chain c p) (m.r.own p).node g → h.i ≡ (m.r.own p).node
          same_own g e = cc

          same_node : (n : ℕ) (g : NodeField) → state c m p h.i ≡ Word.Node (chain c p) n g → h.i ≡ n
          same_node n g e = cc

          zero_two : (z : ℕ) → z ≡ 0 → z ≡ 2 → ⊥
          zero_two z a b = omega (arith, a, b)

  left_known : (y : Word) → has same newer y ≡ true → Known c m p y → Known c settled_m p y
  left_known y left (inl (inl (of_p, _))) = absurd (none-some p (sym quiet ∙ of_p))
  left_known y left (inl (inr since)) = inl (inr since)
  left_known y left (inr (inl (both, k))) = inr (inl (both, left_marked y left k))
  left_known y left (inr (inr h)) = inr (inr (lends_left h h.front refl y left))

  pub settles_keep : Invariant c settled_m
  settles_keep = record {
    inside = λ q y posts. j.inside q y (had q y posts);
    known = λ q y posts. either q p (Known c settled_m q y)
        (λ it. subst (λ (z : ℕ). Known c settled_m z y) (sym it)
        (left_known y (sym (ap (λ (l : List (Waiting Word)). has same l y) own_posted) ∙ ap (λ (z : ℕ). has same (hold m.posted p newer z) y) (sym it) ∙ posts) (j.known p y (ap (λ (z : ℕ). has same (m.posted z) y) (sym it) ∙ had q y posts))))
        (λ other. other_known q y other (j.known q y (had q y posts)));
    apart = λ q1 q2 y one two. j.apart q1 q2 y (had q1 y one) (had q2 y two);
    ends = λ q takes. either q p (Ends (chain c q) (m.r.own q).node (hold m.posted p newer q))
        (λ it. subst (λ (z : ℕ). Ends (chain c z) (m.r.own z).node (hold m.posted p newer z)) (sym it)
        (subst (λ (l : List (Waiting Word)). Ends (chain c p) (m.r.own p).node l) (sym own_posted) (subst (λ (l : List (Waiting Word)). Ends (chain c p) (m.r.own p).node l) is (j.ends p (subst (λ (z : ℕ). OfReceivers (chain c z)) it takes))).1))
        (λ other. subst (λ (l : List (Waiting Word)). Ends (chain c q) (m.r.own q).node l) (sym (other_posted q other)) (j.ends q takes));
  }
