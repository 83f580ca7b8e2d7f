-- What a move does to what is ahead of a call.
use Rattle.std.proofs.Common.{◌≡◌, ◌≢◌, ◌⊎◌, ℕ, ◌+◌, ◌<◌, ◌≤◌, Bool, true, false, ◌&&◌, ◌==◌, cond, IsTrue, Option, Some, None, List, length, refl, ap, sym, ◌∙◌, subst, arith, inl, inr}
use Rattle.std.proofs.lemmas.Bool.{cases_eq, true≢false}
use Rattle.std.proofs.lemmas.List.{length_push}
use Rattle.cc_model.specs.Record.{Side}
use Rattle.cc_runs.specs.Names.{Setting, Answer, Chain, NodeField, Word, Round, Stand, Phase, Move}
use Rattle.cc_runs.specs.Words.{same_chain}
use Rattle.cc_runs.specs.State.{State, chain_of, appended, stored, word_of, hold}
use Rattle.cc_runs.specs.Lines.{operation, goes, enters, decides, after_state, group_of}
use Rattle.cc_runs.specs.Step.{stepped_from, stepped, advanced}
use Rattle.cc_runs.specs.Run.{passes, May, begins, rests, moved}
use Rattle.cc_runs.specs.Passes.{pass_of}
use Rattle.cc_runs.specs.MachineLaws.{scan_reads}
use Rattle.cc_runs.specs.Turns.{is_in, is_among, decided, IsTurnAt, IsTurn}
use Rattle.cc_runs.specs.Ahead.{shares, combiner, serving_part, entering_left, ahead}
use Rattle.cc_runs.specs.ChainLaws.{is_combining}
use Rattle.cc_runs.specs.Progress.{BringsNearer}
use Rattle.cc_runs.proofs.Progress.Moves.{GoesOn}
use Rattle.cc_runs.proofs.Combining.Apart.{reads_zero}
use Rattle.cc_runs.proofs.ChainLaws.{combining_rank}
use Rattle.cc_runs.proofs.Passes.{moved_apart}
use Rattle.cc_runs.proofs.Chains.View.{view, members, pass_on, post_of, post_at}
use Rattle.cc_runs.proofs.Chains.Frame.{hold_here, hold_apart, pass_apart}
use Rattle.cc_runs.proofs.Chains.Registers.{IsChain, calls_on, answers_on}
use Rattle.cc_runs.proofs.Chains.Ties.{ghost_of, Holds}
use Rattle.cc_runs.proofs.Chains.Facts.{side_same, own_node}
use Rattle.cc_runs.proofs.Chains.Service.{send_words, take_words, count_words}
use Rattle.cc_runs.proofs.Chains.Others.{IsOn, IsOff, which, side_other, put_there}
use Rattle.cc_runs.proofs.Progress.Among.{at_among}
use Rattle.cc_runs.proofs.Progress.Shares.{shares_le, shares_lt}
use Rattle.cc_runs.proofs.Progress.Moves.{Lowers, lowers, idle_out, finished_out, other_off, own_apart}
use Rattle.cc_runs.proofs.Progress.Served.{more, as_combiner, add_le, add_lt, lt_add, combiner_step, combiner_starts}
use Rattle.cc_runs.proofs.Progress.Combiner.{phase_at, combiner_is, combiner_none, combiner_same, two_decided, not_two_decided, not_decided, stays_out}
use Rattle.cc_runs.proofs.Progress.Turns.{enters_le, enters_lt}

length_more : (l : List Answer) (o : Option Answer) → length (appended l o) ≡ length l + more o
length_more l None = omega arith
length_more l (Some told) = length_push l told

false_by : (b : Bool) → (b ≡ true → ⊥) → b ≡ false
false_by b never = grind arith

-- a step that isn't a combiner's of this chain leaves the state of each node but its own
state_kept : (c : Setting) (mem : Word → ℕ) (x y : Chain) (i own : ℕ) (at : Phase) → (same_chain y x && (own == i)) ≡ false → (is_combining at ≡ false) ⊎ (same_chain y x ≡ false) →
    stored mem (operation c y own at) (Word.Node x i NodeField.State) ≡ mem (Word.Node x i NodeField.State)
state_kept c mem x y i own at apart out =
    grind (arith, count_words c mem x, send_words c mem x, take_words c mem x (group_of y) i NodeField.State)

-- ---- the kinds of turns

module _ (c : Setting) (x : Chain) (k : ℕ) (s : State) (n : ℕ) where
  abbrev Reads : Type 0
  Reads = (s.mem (Word.Node x (s.stand (pass_on c x n)).node NodeField.State) ≡ 0) × (length (answers_on x s.history) < k)

  data Kinds (at : Phase) : Type 0 where
    enters_it : 0 < entering_left at → IsTrue (is_among c x k s n) → Kinds at
    reads_it : at ≡ Phase.ReadState → Reads → Kinds at
    serves_it : is_combining at ≡ true → length (answers_on x s.history) < k + decided at → Kinds at

  kinds_of : (at : Phase) → IsTurnAt c x k s n at → Kinds at
  kinds_of (Phase.WriteTag put request) turn = enters_it (omega arith) turn
  kinds_of (Phase.WriteBody put request i) turn = enters_it (omega arith) turn
  kinds_of (Phase.Link put) turn = enters_it (omega arith) turn
  kinds_of Phase.ReadState turn = reads_it refl turn
  kinds_of Phase.Idle turn = serves_it turn.0 turn.1
  kinds_of _ turn = serves_it turn.0 turn.1

  pub enters_back : (at : Phase) → 0 < entering_left at → IsTrue (is_among c x k s n) → IsTurnAt c x k s n at
  enters_back at some among = grind arith

  serves_back : (at : Phase) → is_combining at ≡ true → length (answers_on x s.history) < k + decided at → IsTurnAt c x k s n at
  serves_back at is less = grind arith

not_read : (at : Phase) → 0 < entering_left at → at ≢ Phase.ReadState
not_read at some e = grind arith

enters_in : (at : Phase) → 0 < entering_left at → is_combining at ≡ false
enters_in at some = grind arith

pub is_read : (at : Phase) → (at ≡ Phase.ReadState) ⊎ (at ≢ Phase.ReadState)
is_read at = grind arith

-- a pass whose turn it is, is in one of the first calls
pub turn_among : (c : Setting) (x : Chain) (k : ℕ) (s : State) (w : Holds c x s) (n : ℕ) → n < members c x → IsTurn c x k s n → IsTrue (is_among c x k s n)
turn_among c x k s w n inside turn = by_kind (kinds_of c x k s n (phase_at c x s n) turn)
  where
    by_kind : Kinds c x k s n (phase_at c x s n) → IsTrue (is_among c x k s n)
    by_kind (enters_it some among) = among
    by_kind (reads_it reads state) =
        let four : (post_at x (s.stand (pass_on c x n))).rank ≡ 4 = ap (λ (z : Phase). (post_of x (s.stand (pass_on c x n)).node z).rank) reads in
        let own : s.mem (Word.Node x (post_at x (s.stand (pass_on c x n))).node NodeField.State) ≡ 0 = ap (λ (z : ℕ). s.mem (Word.Node x z NodeField.State)) (own_node x (s.stand (pass_on c x n)).node (phase_at c x s n)) ∙ state.0 in
        let none = reads_zero (members c x) c.config.bound (view c x s) (ghost_of w) w.inv n inside four own in
        at_among c x s w k n inside (omega (arith, four)) (omega (arith, none.0, state.1, w.inv.serving.free_answers none.1))
    by_kind (serves_it is less) =
        let rank : (post_at x (s.stand (pass_on c x n))).rank ≡ 5 = combining_rank x (s.stand (pass_on c x n)).node (phase_at c x s n) is in
        let mine : (ghost_of w).server ≡ n + 1 = w.inv.server.server_is n inside rank in
        at_among c x s w k n inside (omega (arith, rank)) (elim (cases_eq (post_at x (s.stand (pass_on c x n))).stage 2) [
          | inl two ↦ omega (arith, less, w.inv.server.server_low n mine, w.inv.serving.decided n mine two, two_decided x (s.stand (pass_on c x n)).node (phase_at c x s n) two)
          | inr other ↦ omega (arith, less, w.inv.server.server_low n mine, w.inv.serving.undecided n mine other, not_two_decided x (s.stand (pass_on c x n)).node (phase_at c x s n) other)
        ])

-- and goes on
pub turn_goes_on : (c : Setting) (x : Chain) (k : ℕ) (s : State) (n : ℕ) → IsTurn c x k s n → GoesOn s x (s.stand (pass_on c x n))
turn_goes_on c x k s n turn = by_kind (kinds_of c x k s n (phase_at c x s n) turn)
  where
    by_kind : Kinds c x k s n (phase_at c x s n) → GoesOn s x (s.stand (pass_on c x n))
    by_kind (enters_it some among) = λ e. absurd (not_read (phase_at c x s n) some e)
    by_kind (reads_it reads state) = λ e one. absurd (omega (arith, one, state.0))
    by_kind (serves_it is less) = λ e. absurd (true≢false (sym is ∙ ap is_combining e))

-- ---- a move

module _ (c : Setting) (x : Chain) (ok : IsChain c x) (k : ℕ) (s : State) (w : Holds c x s) (few : k ≤ length (calls_on x s.history)) (short : (n : ℕ) → n < members c x → scan_reads (phase_at c x s n) ≤ c.config.capacity + 1)
    (linked : (n : ℕ) (round : Round) → n < members c x → phase_at c x s n ≡ Phase.ReadNext round → round.served ≡ 0 → s.mem (Word.Node x round.at NodeField.Next) ≢ 0) where
  abbrev answers : State → ℕ
  answers t = length (answers_on x t.history)

  abbrev part_of : State → ℕ
  part_of t = serving_part c.config x k (answers t) (combiner c x t)

  falls : (p : ℕ) → p < passes c → is_in (s.stand p).phase ≡ true → entering_left (goes c x (s.stand p).node (s.stand p).phase (s.mem (word_of (operation c x (s.stand p).node (s.stand p).phase)))) ≤ entering_left (s.stand p).phase
  falls p inside is = enters_le c x (s.stand p).node (s.stand p).phase (s.mem (word_of (operation c x (s.stand p).node (s.stand p).phase))) is

  entries : (m : Move) → May c s m → Lowers entering_left c x k s m
  entries m may = lowers c x ok k s w few entering_left falls m may

  five : (r : ℕ) → is_combining (phase_at c x s r) ≡ true → (post_at x (s.stand (pass_on c x r))).rank ≡ 5
  five r is = combining_rank x (s.stand (pass_on c x r)).node (phase_at c x s r) is

  one : (q r : ℕ) → q < members c x → r < members c x → is_combining (phase_at c x s q) ≡ true → is_combining (phase_at c x s r) ≡ true → r ≡ q
  one q r qn rn a b = omega (arith, w.inv.server.server_is q qn (five q a), w.inv.server.server_is r rn (five r b))

  -- a pass that reads state 0: nobody combines
  nobody : (n : ℕ) → n < members c x → phase_at c x s n ≡ Phase.ReadState → s.mem (Word.Node x (s.stand (pass_on c x n)).node NodeField.State) ≡ 0 → (r : ℕ) → r < members c x → is_combining (phase_at c x s r) ≡ false
  nobody n inside reads state r rn =
      let four : (post_at x (s.stand (pass_on c x n))).rank ≡ 4 = ap (λ (z : Phase). (post_of x (s.stand (pass_on c x n)).node z).rank) reads in
      let own : s.mem (Word.Node x (post_at x (s.stand (pass_on c x n))).node NodeField.State) ≡ 0 = ap (λ (z : ℕ). s.mem (Word.Node x z NodeField.State)) (own_node x (s.stand (pass_on c x n)).node (phase_at c x s n)) ∙ state in
      let none = reads_zero (members c x) c.config.bound (view c x s) (ghost_of w) w.inv n inside four own in
      false_by (is_combining (phase_at c x s r)) (λ is. absurd (omega (arith, none.1, w.inv.server.server_is r rn (five r is))))

  -- ---- a step of pass i

  module _ (i : ℕ) (inside : i < members c x) where
    abbrev P : ℕ
    P = pass_on c x i

    abbrev at : Phase
    at = (s.stand P).phase

    abbrev own : ℕ
    own = (s.stand P).node

    abbrev found : ℕ
    found = s.mem (word_of (operation c x own at))

    abbrev next : State
    next = stepped_from c s x P (s.stand P)

    abbrev to : Phase
    to = goes c x own at found

    here : phase_at c x next i ≡ to
    here = ap (λ (z : Stand). z.phase) (hold_here s.stand P (advanced c x (s.stand P) found))

    there : (r : ℕ) → r ≢ i → phase_at c x next r ≡ phase_at c x s r
    there r ne = ap (λ (z : Stand). z.phase) (hold_apart s.stand P (pass_on c x r) (advanced c x (s.stand P) found) (pass_apart c x i r ne))

    answers_are : answers_on x next.history ≡ appended (answers_on x s.history) (decides c at found)
    answers_are = ap (λ (z : Side). z.answers) (side_same x s.history (record { calls = appended (calls_on x s.history) (enters at); answers = appended (answers_on x s.history) (decides c at found) }) w.side_in)

    answers_next : answers next ≡ answers s + more (decides c at found)
    answers_next = ap length answers_are ∙ length_more (answers_on x s.history) (decides c at found)

    record Part : Type 0 where
      le : part_of next ≤ part_of s
      lt : IsTurn c x k s i → entering_left at ≡ 0 → part_of next < part_of s

    -- what falls, at the combiners before and after
    at_parts : (from after_ : Phase) → combiner c x s ≡ from → combiner c x next ≡ after_ → (part_of next ≡ serving_part c.config x k (answers s + more (decides c at found)) after_) × (part_of s ≡ serving_part c.config x k (answers s) from)
    at_parts from after_ a b = ((λ j. serving_part c.config x k (answers_next j) (b j)), (λ j. serving_part c.config x k (answers s) (a j)))

    -- the combiner's step
    combines : is_combining at ≡ true → Part
    combines is =
        let before : combiner c x s ≡ at = combiner_is c x s (members c x) i inside is (λ r rn h. one i r inside rn is h) in
        let others : (r : ℕ) → r < members c x → r ≢ i → is_combining (phase_at c x next r) ≡ false =
        λ r rn ne. ap is_combining (there r ne) ∙ false_by (is_combining (phase_at c x s r)) (λ h. ne (one i r inside rn is h)) in
        let after_ : combiner c x next ≡ as_combiner to = by_case (is_combining to) refl others in
        let f = combiner_step c x k (answers s) own at found is (short i inside) (λ round e none. linked_here round e none) in
        let parts = at_parts at (as_combiner to) before after_ in
        record {
          le = subst (λ (z : ℕ). z ≤ part_of s) (sym parts.0) (subst (λ (z : ℕ). serving_part c.config x k (answers s + more (decides c at found)) (as_combiner to) ≤ z) (sym parts.1) f.0);
          lt = λ turn none. subst (λ (z : ℕ). z < part_of s) (sym parts.0)
              (subst (λ (z : ℕ). serving_part c.config x k (answers s + more (decides c at found)) (as_combiner to) < z) (sym parts.1) (f.1 (counted (kinds_of c x k s i at turn) is none)));
        }
      where
        counted : Kinds c x k s i at → is_combining at ≡ true → entering_left at ≡ 0 → answers s < k + decided at
        counted (enters_it some among) is none = absurd (omega (arith, some, none))
        counted (reads_it reads state) is none = absurd (true≢false (sym is ∙ ap is_combining reads))
        counted (serves_it is2 less) is none = less

        linked_here : (round : Round) → at ≡ Phase.ReadNext round → round.served ≡ 0 → found ≢ 0
        linked_here round e none zero_ = linked i round inside e none (sym (ap (λ (z : Phase). s.mem (word_of (operation c x own z))) e) ∙ zero_)

        by_case : (b : Bool) → is_combining to ≡ b → ((r : ℕ) → r < members c x → r ≢ i → is_combining (phase_at c x next r) ≡ false) → combiner c x next ≡ as_combiner to
        by_case true is others =
            combiner_is c x next (members c x) i inside (ap is_combining here ∙ is) (λ r rn h. elim (cases_eq r i) [ inl same ↦ same | inr ne ↦ absurd (true≢false (sym h ∙ others r rn ne)) ])
            ∙ here ∙ sym (ap (λ (b : Bool). cond b to Phase.Idle) is)
        by_case false is others =
            combiner_none c x next (members c x) (λ r rn. elim (cases_eq r i) [ inl same ↦ ap (λ (z : ℕ). is_combining (phase_at c x next z)) same ∙ ap is_combining here ∙ is | inr ne ↦ others r rn ne ])
            ∙ sym (ap (λ (b : Bool). cond b to Phase.Idle) is)

    -- the read of state 0
    starts : at ≡ Phase.ReadState → found ≡ 0 → Part
    starts reads none =
        let state : s.mem (Word.Node x own NodeField.State) ≡ 0 = sym (ap (λ (z : Phase). s.mem (word_of (operation c x own z))) reads) ∙ none in
        let out : (r : ℕ) → r < members c x → is_combining (phase_at c x s r) ≡ false = nobody i inside reads state in
        let before : combiner c x s ≡ Phase.Idle = combiner_none c x s (members c x) out in
        let goes_to : to ≡ Phase.ReadNext record { at = own; served = 0 } = (λ j. goes c x own (reads j) found) ∙ ap (after_state own) none in
        let after_ : combiner c x next ≡ Phase.ReadNext record { at = own; served = 0 } =
        combiner_is c x next (members c x) i inside (ap is_combining (here ∙ goes_to)) (λ r rn h. elim (cases_eq r i) [ inl same ↦ same | inr ne ↦ absurd (true≢false (sym h ∙ ap is_combining (there r ne) ∙ out r rn)) ]) ∙ here ∙ goes_to in
        let no_answer : more (decides c at found) ≡ 0 = ap more (not_decided c at found (ap is_combining reads)) in
        let f = combiner_starts c x k (answers s) own in
        let parts = at_parts Phase.Idle (Phase.ReadNext record { at = own; served = 0 }) before after_ in
        let now : part_of next ≡ serving_part c.config x k (answers s + 0) (Phase.ReadNext record { at = own; served = 0 }) = parts.0 ∙ ap (λ (z : ℕ). serving_part c.config x k (answers s + z) (Phase.ReadNext record { at = own; served = 0 })) no_answer in
        record {
          le = subst (λ (z : ℕ). z ≤ part_of s) (sym now) (subst (λ (z : ℕ). serving_part c.config x k (answers s + 0) (Phase.ReadNext record { at = own; served = 0 }) ≤ z) (sym parts.1) f.0);
          lt = λ turn enter. subst (λ (z : ℕ). z < part_of s) (sym now)
              (subst (λ (z : ℕ). serving_part c.config x k (answers s + 0) (Phase.ReadNext record { at = own; served = 0 }) < z) (sym parts.1) (f.1 (counted (kinds_of c x k s i at turn) reads enter)));
        }
      where
        plus_zero : k + 0 ≡ k
        plus_zero = omega arith

        counted : Kinds c x k s i at → at ≡ Phase.ReadState → entering_left at ≡ 0 → answers s < k + 0
        counted (enters_it some among) reads none = absurd (omega (arith, some, none))
        counted (reads_it reads2 state) reads none = omega (arith, state.1)
        counted (serves_it is less) reads none = absurd (true≢false (sym is ∙ ap is_combining reads))

    -- any other step
    others_step : is_combining at ≡ false → (at ≡ Phase.ReadState → found ≢ 0) → Part
    others_step out state =
        let same : combiner c x next ≡ combiner c x s = combiner_same c x s next (members c x)
        (λ r rn. elim (cases_eq r i) [
          | inl is ↦ inr (ap (λ (z : ℕ). is_combining (phase_at c x s z)) is ∙ out, ap (λ (z : ℕ). is_combining (phase_at c x next z)) is ∙ ap is_combining here ∙ stays_out c x own at found out state)
          | inr ne ↦ inl (there r ne)
        ]) in
        let no_answer : answers next ≡ answers s = answers_next ∙ ap (λ (z : Option Answer). answers s + more z) (not_decided c at found out) ∙ plus_zero (answers s) in
        let even : part_of next ≡ part_of s = λ j. serving_part c.config x k (no_answer j) (same j) in
        record {
          le = le_of (part_of next) (part_of s) even;
          lt = λ turn none. absurd (no_turn (kinds_of c x k s i at turn) none);
        }
      where
        plus_zero : (n : ℕ) → n + 0 ≡ n
        plus_zero n = omega arith

        le_of : (m n : ℕ) → m ≡ n → m ≤ n
        le_of m n e = omega (arith, e)

        no_turn : Kinds c x k s i at → entering_left at ≡ 0 → ⊥
        no_turn (enters_it some among) none = absurd (omega (arith, some, none))
        no_turn (reads_it reads was) none = state reads (ap (λ (z : Phase). s.mem (word_of (operation c x own z))) reads ∙ was.0)
        no_turn (serves_it is less) none = true≢false (sym is ∙ out)

    part_step : Part
    part_step = by_case (is_combining at) refl
      where
        by_read : is_combining at ≡ false → Part
        by_read out = elim (is_read at) [
          | inl reads ↦ elim (cases_eq found 0) [ inl none ↦ starts reads none | inr some ↦ others_step out (λ e. some) ]
          | inr ne ↦ others_step out (λ e. absurd (ne e))
        ]

        by_case : (b : Bool) → is_combining at ≡ b → Part
        by_case true is = combines is
        by_case false out = by_read out

    -- so what is ahead falls, if it is its turn
    own_le : (m : Move) → May c s m → moved c s m ≡ next → ahead c x k next ≤ ahead c x k s
    own_le m may is = add_le (part_of s) (part_of next) _ _ part_step.le (subst (λ (t : State). shares entering_left c x k t (members c x) ≤ shares entering_left c x k s (members c x)) is (shares_le entering_left c x k s (moved c s m) (members c x) (entries m may).each))

    own_lt : (m : Move) → May c s m → m ≡ Move.Step P → moved c s m ≡ next → IsTurn c x k s i → ahead c x k next < ahead c x k s
    own_lt m may step is turn = by_kind (kinds_of c x k s i at turn)
      where
        enters_less : 0 < entering_left at → IsTrue (is_among c x k s i) → shares entering_left c x k (moved c s m) (members c x) < shares entering_left c x k s (members c x)
        enters_less some among = shares_lt entering_left c x k s (moved c s m) (members c x) i inside (entries m may).each ((entries m may).less i inside step among (enters_lt c x own at found some))

        none_in : is_combining at ≡ true → entering_left at ≡ 0
        none_in is2 = none_by (entering_left at) (λ some. true≢false (sym is2 ∙ enters_in at some))
          where
            none_by : (n : ℕ) → (0 < n → ⊥) → n ≡ 0
            none_by n never = grind arith

        no_more_entries : shares entering_left c x k next (members c x) ≤ shares entering_left c x k s (members c x)
        no_more_entries = subst (λ (t : State). shares entering_left c x k t (members c x) ≤ shares entering_left c x k s (members c x)) is (shares_le entering_left c x k s (moved c s m) (members c x) (entries m may).each)

        by_kind : Kinds c x k s i at → ahead c x k next < ahead c x k s
        by_kind (enters_it some among) =
            add_lt (part_of s) (part_of next) _ _ part_step.le (subst (λ (t : State). shares entering_left c x k t (members c x) < shares entering_left c x k s (members c x)) is (enters_less some among))
        by_kind (reads_it reads state) = lt_add (part_of s) (part_of next) _ _ (part_step.lt turn (ap entering_left reads)) no_more_entries
        by_kind (serves_it is2 less) = lt_add (part_of s) (part_of next) _ _ (part_step.lt turn (none_in is2)) no_more_entries

  -- ---- a move that none of the chain's combiners makes

  -- the chain's answers, and the state of the node of pass n
  record Quiet (t : State) (n : ℕ) : Type 0 where
    answers_same : answers_on x t.history ≡ answers_on x s.history
    stand_same : t.stand (pass_on c x n) ≡ s.stand (pass_on c x n)
    state_same : t.mem (Word.Node x (s.stand (pass_on c x n)).node NodeField.State) ≡ s.mem (Word.Node x (s.stand (pass_on c x n)).node NodeField.State)

  quiet_own : (i n : ℕ) (in_i : i < members c x) → n < members c x → n ≢ i → is_combining (phase_at c x s i) ≡ false → Quiet (next i in_i) n
  quiet_own i n in_i inside ne out = record {
    answers_same = answers_are i in_i ∙ ap (λ (z : Option Answer). appended (answers_on x s.history) z) (not_decided c (at i in_i) (found i in_i) out);
    stand_same = hold_apart s.stand (pass_on c x i) (pass_on c x n) (advanced c x (s.stand (pass_on c x i)) (found i in_i)) (pass_apart c x i n ne);
    state_same = state_kept c s.mem x x (s.stand (pass_on c x n)).node (own i in_i) (at i in_i) (own_apart c x ok k s w few entering_left falls i in_i n inside ne) (inl out);
  }

  quiet_far : (p n : ℕ) → n < members c x → IsOff c x p → Quiet (stepped c s p) n
  quiet_far p n inside off = record {
    answers_same = ap (λ (z : Side). z.answers) (side_other x (chain_of c.config p) s.history _ off.other);
    stand_same = hold_apart s.stand p (pass_on c x n) _ (off.away n inside);
    state_same = state_kept c s.mem x (chain_of c.config p) (s.stand (pass_on c x n)).node (s.stand p).node (s.stand p).phase (ap (λ (b : Bool). b && ((s.stand p).node == (s.stand (pass_on c x n)).node)) (other_off x (chain_of c.config p) off.other))
        (inr (other_off x (chain_of c.config p) off.other));
  }

  quiet_step : (p n : ℕ) → n < members c x → p ≢ pass_on c x n → ((r : ℕ) → r < members c x → r ≢ n → is_combining (phase_at c x s r) ≡ false) → IsOn c x p ⊎ IsOff c x p → Quiet (stepped c s p) n
  quiet_step p n inside ne out (inl on) =
      let apart : n ≢ on.number = λ same. ne (on.pass_is ∙ ap (λ (z : ℕ). pass_on c x z) (sym same)) in
      subst (λ (y : Chain). Quiet (stepped_from c s y p (s.stand p)) n) (sym on.chain_is)
      (subst (λ (z : ℕ). Quiet (stepped_from c s x z (s.stand z)) n) (sym on.pass_is) (quiet_own on.number n on.inside inside apart (out on.number on.inside (λ same. apart (sym same)))))
  quiet_step p n inside ne out (inr off) = quiet_far p n inside off

  quiet_move : (m : Move) → May c s m → (n : ℕ) → n < members c x → pass_of m ≢ pass_on c x n → ((r : ℕ) → r < members c x → r ≢ n → is_combining (phase_at c x s r) ≡ false) → Quiet (moved c s m) n
  quiet_move (Move.Begin p call known) may n inside ne out = record { answers_same = refl; stand_same = hold_apart s.stand p (pass_on c x n) (begins c.config p call known (s.stand p)) (λ same. ne (sym same)); state_same = refl }
  quiet_move (Move.Take p) may n inside ne out = record { answers_same = refl; stand_same = hold_apart s.stand p (pass_on c x n) (rests (s.stand p)) (λ same. ne (sym same)); state_same = refl }
  quiet_move (Move.Step p) may n inside ne out = quiet_step p n inside ne out (which c x ok p may.0)

  -- ---- turns stay

  module _ (m : Move) (may : May c s m) where
    abbrev t : State
    t = moved c s m

    turn_stays : (n : ℕ) → n < members c x → pass_of m ≢ pass_on c x n → IsTurn c x k s n → IsTurn c x k t n
    turn_stays n inside ne turn = by_kind (kinds_of c x k s n (phase_at c x s n) turn)
      where
        again : t.stand (pass_on c x n) ≡ s.stand (pass_on c x n) → IsTurnAt c x k t n (phase_at c x s n) → IsTurn c x k t n
        again same h = subst (λ (z : Stand). IsTurnAt c x k t n z.phase) (sym same) h

        reads_again : (z : Phase) → z ≡ Phase.ReadState → (t.mem (Word.Node x (t.stand (pass_on c x n)).node NodeField.State) ≡ 0) × (answers t < k) → IsTurnAt c x k t n z
        reads_again z e h = subst (λ (y : Phase). IsTurnAt c x k t n y) (sym e) h

        by_kind : Kinds c x k s n (phase_at c x s n) → IsTurn c x k t n
        by_kind (enters_it some among) =
            again (moved_apart c s m (pass_on c x n) ne) (enters_back c x k t n (phase_at c x s n) some ((entries m may).among n inside ne ∙ among))
        by_kind (reads_it reads state) =
            let q : Quiet t n = quiet_move m may n inside ne (λ r rn other. nobody n inside reads state.0 r rn) in
            let node : (t.stand (pass_on c x n)).node ≡ (s.stand (pass_on c x n)).node = ap (λ (z : Stand). z.node) q.stand_same in
            again q.stand_same (reads_again (phase_at c x s n) reads (ap (λ (z : ℕ). t.mem (Word.Node x z NodeField.State)) node ∙ q.state_same ∙ state.0, subst (λ (l : List Answer). length l < k) (sym q.answers_same) state.1))
        by_kind (serves_it is less) =
            let q : Quiet t n = quiet_move m may n inside ne (λ r rn other. false_by (is_combining (phase_at c x s r)) (λ h. other (one n r inside rn is h))) in
            again q.stand_same (serves_back c x k t n (phase_at c x s n) is (subst (λ (l : List Answer). length l < k + decided (phase_at c x s n)) (sym q.answers_same) less))

  -- while a pass whose turn it is combines or reads state 0, moves of others decide nothing
  pub turn_keeps_answers : (m : Move) → May c s m → (n : ℕ) → n < members c x → pass_of m ≢ pass_on c x n → IsTurn c x k s n → entering_left (phase_at c x s n) ≡ 0 → answers_on x (moved c s m).history ≡ answers_on x s.history
  turn_keeps_answers m may n inside ne turn none = by_kind (kinds_of c x k s n (phase_at c x s n) turn)
    where
      by_kind : Kinds c x k s n (phase_at c x s n) → answers_on x (moved c s m).history ≡ answers_on x s.history
      by_kind (enters_it some among) = absurd (omega (arith, some, none))
      by_kind (reads_it reads state) = (quiet_move m may n inside ne (λ r rn other. nobody n inside reads state.0 r rn)).answers_same
      by_kind (serves_it is less) = (quiet_move m may n inside ne (λ r rn other. false_by (is_combining (phase_at c x s r)) (λ h. other (one n r inside rn is h)))).answers_same

  -- ---- moves that leave the combiner where it is

  same_part : (t2 : State) → answers_on x t2.history ≡ answers_on x s.history → ((r : ℕ) → r < members c x → (phase_at c x t2 r ≡ phase_at c x s r) ⊎ ((is_combining (phase_at c x s r) ≡ false) × (is_combining (phase_at c x t2 r) ≡ false))) → part_of t2 ≤ part_of s
  same_part t2 same each =
      let even : part_of t2 ≡ part_of s = λ j. serving_part c.config x k (length (same j)) (combiner_same c x s t2 (members c x) each j) in le_of (part_of t2) (part_of s) even
    where
      le_of : (a b : ℕ) → a ≡ b → a ≤ b
      le_of a b e = omega (arith, e)

  put_part : (p : ℕ) (there2 : Stand) → is_combining (s.stand p).phase ≡ false → is_combining there2.phase ≡ false → part_of (put_there s p there2) ≤ part_of s
  put_part p there2 was is =
      same_part (put_there s p there2) refl
      (λ r rn. elim (cases_eq (pass_on c x r) p) [
        | inl same ↦ inr (ap (λ (z : ℕ). is_combining (s.stand z).phase) same ∙ was, ap (λ (z : Stand). is_combining z.phase) (ap (hold s.stand p there2) same ∙ hold_here s.stand p there2) ∙ is)
        | inr ne ↦ inl (ap (λ (z : Stand). z.phase) (hold_apart s.stand p (pass_on c x r) there2 ne))
      ])

  far_part : (p : ℕ) → IsOff c x p → part_of (stepped c s p) ≤ part_of s
  far_part p off = same_part (stepped c s p) (ap (λ (z : Side). z.answers) (side_other x (chain_of c.config p) s.history _ off.other)) (λ r rn. inl (ap (λ (z : Stand). z.phase) (hold_apart s.stand p (pass_on c x r) _ (off.away r rn))))

  out_combining : (at2 : Phase) → is_in at2 ≡ false → is_combining at2 ≡ false
  out_combining at2 out = grind arith

  step_le : (p : ℕ) → (may : May c s (Move.Step p)) → IsOn c x p ⊎ IsOff c x p → ahead c x k (stepped c s p) ≤ ahead c x k s
  step_le p may (inl on) =
      let e : moved c s (Move.Step p) ≡ next on.number on.inside = ap (λ (y : Chain). stepped_from c s y p (s.stand p)) on.chain_is ∙ ap (λ (z : ℕ). stepped_from c s x z (s.stand z)) on.pass_is in
      subst (λ (t2 : State). ahead c x k t2 ≤ ahead c x k s) (sym e) (own_le on.number on.inside (Move.Step p) may e)
  step_le p may (inr off) = add_le (part_of s) (part_of (stepped c s p)) _ _ (far_part p off) (shares_le entering_left c x k s (stepped c s p) (members c x) (entries (Move.Step p) may).each)

  moves_le : (m : Move) → May c s m → ahead c x k (moved c s m) ≤ ahead c x k s
  moves_le (Move.Begin p call known) may =
      add_le (part_of s) (part_of (moved c s (Move.Begin p call known))) _ _ (put_part p (begins c.config p call known (s.stand p)) (out_combining (s.stand p).phase (idle_out (s.stand p).phase may.2)) refl)
      (shares_le entering_left c x k s (moved c s (Move.Begin p call known)) (members c x) (entries (Move.Begin p call known) may).each)
  moves_le (Move.Take p) may =
      add_le (part_of s) (part_of (moved c s (Move.Take p))) _ _ (put_part p (rests (s.stand p)) (out_combining (s.stand p).phase (finished_out (s.stand p).phase may.1)) refl)
      (shares_le entering_left c x k s (moved c s (Move.Take p)) (members c x) (entries (Move.Take p) may).each)
  moves_le (Move.Step p) may = step_le p may (which c x ok p may.0)

  moves_lt : (m : Move) → May c s m → (n : ℕ) (inside : n < members c x) → pass_on c x n < passes c → m ≡ Move.Step (pass_on c x n) → IsTurn c x k s n → IsOn c x (pass_on c x n) ⊎ IsOff c x (pass_on c x n) → ahead c x k (moved c s m) < ahead c x k s
  moves_lt m may n inside there2 step turn (inl on) =
      let e : moved c s m ≡ next n inside = ap (λ (z : Move). moved c s z) step ∙ ap (λ (y : Chain). stepped_from c s y (pass_on c x n) (s.stand (pass_on c x n))) on.chain_is in
      subst (λ (t2 : State). ahead c x k t2 < ahead c x k s) (sym e) (own_lt n inside m may step e turn)
  moves_lt m may n inside there2 step turn (inr off) = absurd (off.away n inside refl)

  pub brings_nearer : (m : Move) → May c s m → ((n : ℕ) → n < members c x → pass_on c x n < passes c) → BringsNearer c x k s m
  brings_nearer m may in_all = record {
    no_more = moves_le m may;
    fewer = λ n inside step turn. moves_lt m may n inside (in_all n inside) step turn (which c x ok (pass_on c x n) (in_all n inside));
    stays = λ n inside ne turn. turn_stays m may n inside ne turn;
  }
