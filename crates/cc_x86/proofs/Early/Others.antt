-- What other passes have posted stays known when a pass has its turn and touches none of it.
use Rattle.std.proofs.Common.{◌≡◌, ◌≢◌, ◌⊎◌, inl, inr, ℕ, ◌<◌, true, ap, sym, ◌∙◌, subst, List, Option}
use Rattle.cc_x86.specs.Buffered.{Waiting}
use Rattle.cc_x86.specs.Posted.{IsFor, has}
use Rattle.cc_x86.specs.Names.{Setting, NodeField, Word, Stand, Phase}
use Rattle.cc_x86.specs.Threads.{Ask}
use Rattle.cc_x86.proofs.Threads.{IsBusy, stands_so}
use Rattle.cc_x86.proofs.Early.Phases.{IsPast}
use Rattle.cc_x86.proofs.Early.Words.{Since}
use Rattle.cc_x86.proofs.Early.Known.{Moment, not_its, chain, Facts, state, Marked, Lent, Lends, Known, marked_moves, lends_move, lends_has}
use Rattle.cc_x86.proofs.Early.Turns.{does_a, others_then, word_then, idle_then, finished_then, then_m, busy_lent, quiet_lent}
use Rattle.cc_runs.specs.Words.{same}
use Rattle.cc_runs.specs.State.{word_of}
use Rattle.cc_runs.specs.Lines.{operation}
use Rattle.cc_runs.specs.Run.{passes, IsIdle, IsFinished}
use Rattle.cc_runs.specs.ChainLaws.{IsCombining}

module _ (c : Setting) (asks : ℕ → Ask) (m : Moment) (f : Facts c m.r) (a told : ℕ) (an : a < passes c) (its : IsFor m.busy a) (settled' : Word → ℕ) (posted' : ℕ → List (Waiting Word)) (busy' : Option ℕ)
    (untouched : (b : ℕ) (w : Word) → b ≢ a → has same (m.posted b) w ≡ true → IsBusy (m.r.own a).phase → word_of (does_a c asks m.r a told an) ≡ w → ⊥) where
  abbrev m' : Moment
  m' = then_m c asks m f a told an settled' posted' busy'

  read_busy : (at : Phase) → at ≡ Phase.ReadState → IsBusy at
  read_busy at e = subst IsBusy (sym e) tt

  -- a word that another has posted is as it was
  word_stays : (b : ℕ) (w : Word) → b ≢ a → has same (m.posted b) w ≡ true → m'.r.words w ≡ m.r.words w
  word_stays b w other posts = by_place (stands_so (m.r.own a).phase)
    where
      by_place : IsIdle (m.r.own a).phase ⊎ IsFinished (m.r.own a).phase ⊎ IsBusy (m.r.own a).phase → m'.r.words w ≡ m.r.words w
      by_place (inl idle) = ap (λ (ws : Word → ℕ). ws w) (idle_then c asks m.r a told an idle).words
      by_place (inr (inl finished)) = ap (λ (ws : Word → ℕ). ws w) (finished_then c asks m.r a told an finished).words
      by_place (inr (inr is_busy)) = word_then c asks m.r a told an is_busy w (λ e. untouched b w other posts is_busy e)

  -- a pass that reads the state of node n doesn't have its turn, if another has posted that state
  reads_not : (b n : ℕ) → b ≢ a → has same (m.posted b) (state c m b n) ≡ true → chain c a ≡ chain c b → (m.r.own a).node ≡ n → (m.r.own a).phase ≡ Phase.ReadState → ⊥
  reads_not b n other posts on node reads =
      untouched b (state c m b n) other posts (read_busy (m.r.own a).phase reads)
      (ap (λ (z : Phase). word_of (operation c (chain c a) (m.r.own a).node z)) reads ∙ (λ k. Word.Node (on k) (node k) NodeField.State))

  module _ (b : ℕ) (other : b ≢ a) (same_posted : posted' b ≡ m.posted b) (same_settled : (w : Word) → has same (m.posted b) w ≡ true → settled' w ≡ m.settled w) where
    own_stays : m'.r.own b ≡ m.r.own b
    own_stays = others_then c asks m.r a told an b other

    marked_stays : (w : Word) → Marked c m b w → Marked c m' b w
    marked_stays w k =
        marked_moves c m m' b w k (ap (λ (z : Stand). z.node) own_stays)
        (others_then c asks m.r a told an k.q (λ it. reads_not b k.n other k.posts (ap (chain c) (sym it) ∙ k.its.1) (ap (λ (z : ℕ). (m.r.own z).node) (sym it) ∙ k.its.2) (ap (λ (z : ℕ). (m.r.own z).phase) (sym it) ∙ k.reads)))
        (word_stays b (state c m b k.n) other k.posts) (same_settled (state c m b k.n) k.posts)
        (ap (λ (l : List (Waiting Word)). has same l (state c m b k.n)) same_posted ∙ k.posts)

    lent_stays : (h : Lends c m b) → Lent c m'.r (chain c b) h.i
    lent_stays h = by_place (stands_so (m.r.own a).phase)
      where
        by_place : IsIdle (m.r.own a).phase ⊎ IsFinished (m.r.own a).phase ⊎ IsBusy (m.r.own a).phase → Lent c m'.r (chain c b) h.i
        by_place (inl idle) = quiet_lent c asks m f a told an settled' posted' busy' (chain c b) h.i h.lent (idle_then c asks m.r a told an idle)
        by_place (inr (inl finished)) = quiet_lent c asks m f a told an settled' posted' busy' (chain c b) h.i h.lent (finished_then c asks m.r a told an finished)
        by_place (inr (inr is_busy)) =
            busy_lent c asks m f a told an settled' posted' busy' (chain c b) h.i h.lent is_busy
            (inr (λ e. untouched b (state c m b h.i) other (lends_has c m b h) is_busy e)) (reads_not b h.i other (lends_has c m b h))

    pub known_stays : (w : Word) → Known c m b w → Known c m' b w
    known_stays w (inl (inl before)) = absurd (other (not_its m.busy a b its before.0))
    known_stays w (inl (inr since)) = inl (inr (subst (λ (z : Stand). Since (chain c b) z.node z.phase w) (sym own_stays) since))
    known_stays w (inr (inl (combines, k))) = inr (inl (subst (λ (z : Stand). IsCombining z.phase) (sym own_stays) combines, marked_stays w k))
    known_stays w (inr (inr h)) = inr (inr (lends_move c m m' b h (subst (λ (z : Stand). IsPast z.phase) (sym own_stays) h.past) (ap (λ (z : Stand). z.node) own_stays) same_posted
        (λ y it k. marked_stays y k) (same_settled (state c m b h.i) (lends_has c m b h)) (lent_stays h)))
