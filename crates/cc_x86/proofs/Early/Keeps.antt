-- A look, and a write that all get at once: what is known of all posted stores then.
use Rattle.std.proofs.Common.{◌≡◌, ◌≢◌, ◌⊎◌, inl, inr, ℕ, ◌<◌, true, false, refl, ap, sym, ◌∙◌, subst, List, [], None, arith}
use Rattle.cc_x86.specs.Program as threads
use Rattle.cc_x86.specs.Program.{found, written}
use Rattle.cc_x86.specs.Sequential as atomic
use Rattle.cc_x86.specs.Buffered.{Waiting, seen}
use Rattle.cc_x86.specs.Posted.{IsLook, IsWrite, IsFor, has}
use Rattle.cc_x86.specs.Names.{Setting, Chain, Word, Stand, Phase}
use Rattle.cc_x86.specs.Threads.{as_thread, next_at, Ask}
use Rattle.cc_x86.specs.Early.{waits_at, waiting}
use Rattle.cc_x86.proofs.Stores.{contradiction}
use Rattle.cc_x86.proofs.Threads.{IsBusy, busy_next, idle_next, finished_next, stands_so}
use Rattle.cc_x86.proofs.Early.Phases.{IsLoad, load_no_swap, OfReceivers, IsHand, IsNext, IsPast, IsOpen, past_asks, past_combines}
use Rattle.cc_x86.proofs.Early.Steps.{unwritten, past_looks, combines_on, node_stays}
use Rattle.cc_x86.proofs.Early.Words.{Inner, Since, past_inner, looks}
use Rattle.cc_x86.proofs.Early.Known.{Moment, Ends, chain, Facts, state, Marked, Known, Invariant, marked_moves, lends_move, looks_alone, writes_alone}
use Rattle.cc_x86.proofs.Early.Turns.{acting, either, T, does_a, own_then, others_then, loads_then, Quietly, idle_then, finished_then, then_m, busy_lent, quiet_lent}
use Rattle.cc_x86.proofs.Early.Others.{known_stays}
use Rattle.cc_runs.specs.Words.{same}
use Rattle.cc_runs.specs.State.{Operation, word_of}
use Rattle.cc_runs.specs.Lines.{operation}
use Rattle.cc_runs.specs.Step.{advanced}
use Rattle.cc_runs.specs.Run.{passes, IsIdle, IsFinished}
use Rattle.cc_runs.specs.ChainLaws.{IsCombining}

-- ---- what looks and what writes acts

pub look_acts : (p : ℕ) (own : Stand) (words : Word → ℕ) (posted : List (Waiting Word)) (settled : Word → ℕ) (does : threads.Operation Word) → IsLook same waiting p own words posted settled does → atomic.Acts does
look_acts p own words posted settled does l = grind arith

pub write_acts : (does : threads.Operation Word) → IsWrite does → atomic.Acts does
write_acts does a = grind arith

hand_no_load : (c : Setting) (x : Chain) (own : ℕ) (at : Phase) → IsHand at → IsLoad (operation c x own at) → ⊥
hand_no_load c x own at a l = grind arith

module _ (c : Setting) (asks : ℕ → Ask) (m : Moment) (f : Facts c m.r) (j : Invariant c m) (p : ℕ) (its : IsFor m.busy p) where
  -- ---- a look

  module _ (told : ℕ) (does : threads.Operation Word) (is : (T c asks).next p (m.r.own p) ≡ does) (look : IsLook same waiting p (m.r.own p) m.r.words (m.posted p) m.settled does) where
    turns : (p < passes c) × (next_at c (chain c p) (m.r.own p).node (m.r.own p).phase ≡ does)
    turns = acting c asks p (m.r.own p) does is (look_acts p (m.r.own p) m.r.words (m.posted p) m.settled does look)

    pub pn : p < passes c
    pn = turns.0

    abbrev x : Chain
    x = chain c p

    abbrev own : ℕ
    own = (m.r.own p).node

    abbrev at : Phase
    at = (m.r.own p).phase

    abbrev op : Operation
    op = operation c (chain c p) (m.r.own p).node (m.r.own p).phase

    abbrev m' : Moment
    m' = then_m c asks m f p told pn m.settled m.posted None

    -- what is known of the pass's own stores
    abbrev Mine : Type 0
    Mine = (y : Word) → has same (m.posted p) y ≡ true → Known c m p y → Known c m' p y

    -- a begin or a return
    module _ (k : Quietly c asks m.r p told pn) where
      quiet_mine : Mine
      quiet_mine y posts (inl (inl (_, before))) = absurd (past_inner (λ n. m.r.words (state c m p n)) x own at y k.was (inl before))
      quiet_mine y posts (inl (inr since)) = absurd (past_inner (λ n. m.r.words (state c m p n)) x own at y k.was (inr since))
      quiet_mine y posts (inr (inl (both, marked))) = absurd (past_combines at k.was both)
      quiet_mine y posts (inr (inr h)) =
          inr (inr (lends_move c m m' p h k.past k.node refl (λ u it marked. moved u marked) refl (quiet_lent c asks m f p told pn m.settled m.posted None (chain c p) h.i h.lent k)))
        where
          moved : (u : Word) → Marked c m p u → Marked c m' p u
          moved u marked =
              marked_moves c m m' p u marked k.node (others_then c asks m.r p told pn marked.q (λ it. marked.other (ap (λ (z : ℕ). (m.r.own z).node) (sym it) ∙ marked.its.2)))
              (ap (λ (ws : Word → ℕ). ws (state c m p marked.n)) k.words) refl marked.posts

    -- a load
    module _ (is_busy : IsBusy (m.r.own p).phase) where
      op_is : as_thread op ≡ does
      op_is = sym (busy_next c x own at is_busy) ∙ turns.1

      record Loads : Type 0 where
        pub load : IsLoad op
        pub found_it : found m.r.words (as_thread op) told ≡ m.r.words (word_of op)
        pub same_word : m.r.words (word_of op) ≡ seen same (m.posted p) (word_of op) (m.settled (word_of op))
        pub goes_on : waits_at at (seen same (m.posted p) (word_of op) (m.settled (word_of op))) ≡ false

      by_op : (o : Operation) → IsLook same waiting p (m.r.own p) m.r.words (m.posted p) m.settled (as_thread o)
          → IsLoad o × (found m.r.words (as_thread o) told ≡ m.r.words (word_of o)) × (m.r.words (word_of o) ≡ seen same (m.posted p) (word_of o) (m.settled (word_of o)))
          × (waits_at at (seen same (m.posted p) (word_of o) (m.settled (word_of o))) ≡ false)
      by_op o l = grind arith

      loads : Loads
      loads = let t = by_op op (subst (λ (o : threads.Operation Word). IsLook same waiting p (m.r.own p) m.r.words (m.posted p) m.settled o) (sym op_is) look) in
          record { load = t.0; found_it = t.1; same_word = t.2; goes_on = t.3 }

      abbrev finds : ℕ
      finds = m.r.words (word_of op)

      own_next : m'.r.own p ≡ advanced c x (m.r.own p) finds
      own_next = own_then c asks m.r p told pn is_busy ∙ ap (λ (z : ℕ). advanced c x (m.r.own p) z) loads.found_it

      node_next : (m'.r.own p).node ≡ own
      node_next = ap (λ (z : Stand). z.node) own_next ∙ node_stays c x (m.r.own p).begun own at finds (λ s. load_no_swap op loads.load s)

      words_next : m'.r.words ≡ m.r.words
      words_next = loads_then c asks m.r p told pn is_busy loads.load

      marked_next : (y : Word) → Marked c m p y → Marked c m' p y
      marked_next y k =
          marked_moves c m m' p y k node_next (others_then c asks m.r p told pn k.q (λ it. k.other (ap (λ (z : ℕ). (m.r.own z).node) (sym it) ∙ k.its.2)))
          (ap (λ (ws : Word → ℕ). ws (state c m p k.n)) words_next) refl k.posts

      linked : IsOpen x at → IsNext at → (0 < finds) ⊎ OfReceivers x
      linked = by_place at refl
        where
          by_place : (z : Phase) → (m.r.own p).phase ≡ z → IsOpen x z → IsNext z → (0 < m.r.words (word_of (operation c x own z))) ⊎ OfReceivers x
          by_place (Phase.ReadNext round) here (inl first) n = inl (f.own_link p round.at pn (here ∙ ap (λ (z : ℕ). Phase.ReadNext record { at = round.at; served = z }) first))
          by_place (Phase.ReadNext round) here (inr takes) n = inr takes
          by_place _ here a n = absurd n

      since : (y : Word) → Inner (λ n. m.r.words (state c m p n)) x (m.r.own p) y → Since x (m'.r.own p).node (m'.r.own p).phase y
      since y was = subst (λ (z : Stand). Since x z.node z.phase y) (sym own_next)
          (looks c (λ n. m.r.words (state c m p n)) (λ n. m.r.words (state c m p n)) x (m.r.own p).begun own at finds y loads.load linked
          (λ reads. ap (λ (z : Phase). m.r.words (word_of (operation c x own z))) reads) (ap (λ (z : ℕ). waits_at at z) loads.same_word ∙ loads.goes_on) was)

      load_mine : Mine
      load_mine y posts (inl (inl (_, before))) = inl (inr (since y (inl before)))
      load_mine y posts (inl (inr was)) = inl (inr (since y (inr was)))
      load_mine y posts (inr (inl (both, k))) =
          inr (inl (subst (λ (z : Stand). IsCombining z.phase) (sym own_next) (combines_on c x (m.r.own p).begun own at finds both (λ hands. hand_no_load c x own at hands loads.load)), marked_next y k))
      load_mine y posts (inr (inr h)) =
          inr (inr (lends_move c m m' p h
          (subst (λ (z : Stand). IsPast z.phase) (sym own_next) (past_looks c x (m.r.own p).begun own at finds h.past is_busy loads.load)) node_next refl
          (λ u it k. marked_next u k) refl
          (busy_lent c asks m f p told pn m.settled m.posted None (chain c p) h.i h.lent is_busy (inl loads.load) (λ on node reads. past_asks Phase.ReadState (subst IsPast reads h.past) tt))))

      load_alone : (w : Word) → word_of op ≡ w → (q : ℕ) → q ≢ p → has same (m.posted q) w ≡ true → ⊥
      load_alone w e q other posts =
          looks_alone c m f j p its pn w e (subst (λ (z : Word). waits_at at (seen same (m.posted p) z (m.settled z)) ≡ false) e loads.goes_on) q other posts

    -- what another has posted isn't touched
    untouched : (b : ℕ) (w : Word) → b ≢ p → has same (m.posted b) w ≡ true → IsBusy (m.r.own p).phase → word_of (does_a c asks m.r p told pn) ≡ w → ⊥
    untouched b w other posts is_busy touches = load_alone is_busy w touches b other posts

    mine : IsIdle (m.r.own p).phase ⊎ IsFinished (m.r.own p).phase ⊎ IsBusy (m.r.own p).phase → Mine
    mine (inl idle) = quiet_mine (idle_then c asks m.r p told pn idle)
    mine (inr (inl finished)) = quiet_mine (finished_then c asks m.r p told pn finished)
    mine (inr (inr is_busy)) = load_mine is_busy

    node_then : IsIdle (m.r.own p).phase ⊎ IsFinished (m.r.own p).phase ⊎ IsBusy (m.r.own p).phase → (m'.r.own p).node ≡ own
    node_then (inl idle) = (idle_then c asks m.r p told pn idle).node
    node_then (inr (inl finished)) = (finished_then c asks m.r p told pn finished).node
    node_then (inr (inr is_busy)) = node_next is_busy

    own_known : (y : Word) → has same (m.posted p) y ≡ true → Known c m' p y
    own_known y posts = mine (stands_so (m.r.own p).phase) y posts (j.known p y posts)

    pub looks_keep : Invariant c m'
    looks_keep = record {
      inside = j.inside;
      known = λ q y posts. either q p (Known c m' q y)
          (λ it. subst (λ (z : ℕ). Known c m' z y) (sym it) (own_known y (ap (λ (z : ℕ). has same (m.posted z) y) (sym it) ∙ posts)))
          (λ other. known_stays c asks m f p told pn its m.settled m.posted None untouched q other refl (λ u it. refl) y (j.known q y posts));
      apart = j.apart;
      ends = λ q takes. either q p (Ends (chain c q) (m'.r.own q).node (m.posted q))
          (λ it. subst (λ (z : ℕ). Ends (chain c q) z (m.posted q)) (sym (ap (λ (z : ℕ). (m'.r.own z).node) it ∙ node_then (stands_so (m.r.own p).phase) ∙ ap (λ (z : ℕ). (m.r.own z).node) (sym it))) (j.ends q takes))
          (λ other. subst (λ (z : Stand). Ends (chain c q) z.node (m.posted q)) (sym (others_then c asks m.r p told pn q other)) (j.ends q takes));
    }

  -- ---- a write that all get at once

  module _ (told : ℕ) (does : threads.Operation Word) (is : (T c asks).next p (m.r.own p) ≡ does) (write : IsWrite does) (none : m.posted p ≡ []) where
    write_turns : (p < passes c) × (next_at c (chain c p) (m.r.own p).node (m.r.own p).phase ≡ does)
    write_turns = acting c asks p (m.r.own p) does is (write_acts does write)

    pub write_pn : p < passes c
    write_pn = write_turns.0

    abbrev written_m : Moment
    written_m = then_m c asks m f p told write_pn (written same m.settled does) m.posted None

    write_busy : IsIdle (m.r.own p).phase ⊎ IsFinished (m.r.own p).phase ⊎ IsBusy (m.r.own p).phase → IsBusy (m.r.own p).phase
    write_busy (inl idle) = absurd (subst (λ (o : threads.Operation Word). IsWrite o) (sym write_turns.1 ∙ idle_next c (chain c p) (m.r.own p).node (m.r.own p).phase idle) write)
    write_busy (inr (inl finished)) = absurd (subst (λ (o : threads.Operation Word). IsWrite o) (sym write_turns.1 ∙ finished_next c (chain c p) (m.r.own p).node (m.r.own p).phase finished) write)
    write_busy (inr (inr busy_now)) = busy_now

    abbrev write_op : Operation
    write_op = operation c (chain c p) (m.r.own p).node (m.r.own p).phase

    write_is : as_thread write_op ≡ does
    write_is = sym (busy_next c (chain c p) (m.r.own p).node (m.r.own p).phase (write_busy (stands_so (m.r.own p).phase))) ∙ write_turns.1

    no_write : (o : Operation) → IsWrite (as_thread o) → IsLoad o → ⊥
    no_write o a l = grind arith

    no_load : IsLoad write_op → ⊥
    no_load l = no_write write_op (subst (λ (o : threads.Operation Word). IsWrite o) (sym write_is) write) l

    own_none : (y : Word) → has same (m.posted p) y ≡ true → ⊥
    own_none y posts = contradiction (has same (m.posted p) y) posts (ap (λ (l : List (Waiting Word)). has same l y) none)

    settled_stays : (q : ℕ) (w : Word) → q ≢ p → has same (m.posted q) w ≡ true → written same m.settled does w ≡ m.settled w
    settled_stays q w other posts =
        ap (λ (d : threads.Operation Word). written same m.settled d w) (sym write_is) ∙ unwritten write_op w m.settled (λ touches. writes_alone c m f j p its write_pn no_load q w other posts touches)

    pub writes_keep : Invariant c written_m
    writes_keep = record {
      inside = j.inside;
      known = λ q y posts. either q p (Known c written_m q y)
          (λ it. absurd (own_none y (ap (λ (z : ℕ). has same (m.posted z) y) (sym it) ∙ posts)))
          (λ other. known_stays c asks m f p told write_pn its (written same m.settled does) m.posted None (λ b u away posts_too _ touches. writes_alone c m f j p its write_pn no_load b u away posts_too touches)
          q other refl (λ u posts_too. settled_stays q u other posts_too) y (j.known q y posts));
      apart = j.apart;
      ends = λ q takes. either q p (Ends (chain c q) (written_m.r.own q).node (m.posted q))
          (λ it. subst (λ (l : List (Waiting Word)). Ends (chain c q) (written_m.r.own q).node l) (sym (ap m.posted it ∙ none)) tt)
          (λ other. subst (λ (z : Stand). Ends (chain c q) z.node (m.posted q)) (sym (others_then c asks m.r p told write_pn q other)) (j.ends q takes));
    }
