-- What a move does to the work of the first calls of a chain.
use Rattle.std.proofs.Common.{◌≡◌, ◌≢◌, ◌⊎◌, ℕ, ◌+◌, ◌<◌, ◌≤◌, Bool, true, false, not, ◌&&◌, ◌||◌, ◌==◌, cond, IsTrue, Option, None, List, [], ◌∷◌, ◌++◌, length, drop, refl, ap, sym, ◌∙◌, subst, arith, inl, inr}
use Rattle.std.specs.List.{list_any}
use Rattle.std.proofs.Math.Bool.{and-false, or-false, or-true}
use Rattle.std.proofs.lemmas.Bool.{ne_eqb, cases_eq}
use Rattle.std.proofs.lemmas.List.{drop-append-le}
use Rattle.std.proofs.lemmas.List.Folds.{list_any-append}
use Rattle.cc_model.specs.Record.{Side}
use Rattle.cc_model.specs.Items.{is_pass}
use Rattle.cc_runs.specs.Names.{Setting, Pass, Entry, Chain, NodeField, Word, Event, Stand, Phase, Move}
use Rattle.cc_runs.specs.Words.{same_chain}
use Rattle.cc_runs.specs.State.{State, chain_of, pass_at, appended, stored, word_of}
use Rattle.cc_runs.specs.Lines.{operation, goes, event_at, enters, after_exchange, group_of}
use Rattle.cc_runs.specs.Step.{stepped_from, stepped, advanced}
use Rattle.cc_runs.specs.Run.{passes, May, IsIdle, IsFinished, begins, rests, moved}
use Rattle.cc_runs.specs.Passes.{pass_of}
use Rattle.cc_runs.specs.ChainLaws.{served_by}
use Rattle.cc_runs.specs.MachineLaws.{scan_reads}
use Rattle.cc_runs.specs.Turns.{is_in, has_later, is_among, IsAmong}
use Rattle.cc_runs.specs.Ahead.{share}
use Rattle.cc_runs.proofs.Progress.Left.{steps_left}
use Rattle.cc_runs.proofs.Chains.View.{members, pass_on, post_at}
use Rattle.cc_runs.proofs.Chains.Frame.{hold_here, hold_apart, pass_apart}
use Rattle.cc_runs.proofs.Chains.Registers.{IsChain, HasCall, calls_on}
use Rattle.cc_runs.proofs.Chains.Ties.{Holds}
use Rattle.cc_runs.proofs.Chains.Facts.{side_same, own_node}
use Rattle.cc_runs.proofs.Chains.Service.{send_words, take_words, count_words}
use Rattle.cc_runs.proofs.Chains.Others.{IsOther, IsOn, IsOff, which, side_other, put_there}
use Rattle.cc_runs.proofs.Chains.ReadAnswers.{name_is, other_name}
use Rattle.cc_runs.proofs.Progress.Left.{leaves, leaves_no_more}
use Rattle.cc_runs.proofs.Progress.Shares.{part, part_le, part_lt, part_out, part_later, both_true, true_both}
use Rattle.cc_runs.proofs.CallsMade.{pass_self}

-- ---- the calls of a chain after a step

module _ (k : ℕ) (calls : List Entry) (few : k ≤ length calls) (who : Pass) where
  abbrev its : Entry → Bool
  its e = is_pass who e.pass

  later_more : (call : Entry) → has_later who k (calls ++ call ∷ []) ≡ (has_later who k calls || (its call || false))
  later_more call = ap (list_any its) (drop-append-le k calls (call ∷ []) few) ∙ list_any-append its (drop k calls) (call ∷ [])

  later_own : (call : Entry) → its call ≡ true → has_later who k (calls ++ call ∷ []) ≡ true
  later_own call is = later_more call ∙ ap (λ (b : Bool). has_later who k calls || (b || false)) is ∙ or-true (has_later who k calls)

  -- a step of another pass
  pub later_other : (at : Phase) → ((call : Entry) → at ≡ Phase.Exchange call → its call ≡ false) → has_later who k (appended calls (enters at)) ≡ has_later who k calls
  later_other (Phase.Exchange call) not_its = later_more call ∙ ap (λ (b : Bool). has_later who k calls || (b || false)) (not_its call refl) ∙ or-false (has_later who k calls)
  later_other _ not_its = refl

  module _ (left : Phase → ℕ) (c : Setting) (x : Chain) (own found : ℕ) where
    -- its own step makes its share no more, if it leaves it no more steps
    pub own_le : (at : Phase) → event_at at ≢ Event.Idle → (is_in at ≡ true → left (goes c x own at found) ≤ left at) → ((call : Entry) → at ≡ Phase.Exchange call → its call ≡ true) →
        part (is_in (goes c x own at found)) (has_later who k (appended calls (enters at))) (left (goes c x own at found)) ≤ part (is_in at) (has_later who k calls) (left at)
    own_le Phase.Idle busy falls mine = absurd (busy refl)
    own_le (Phase.Finished told) busy falls mine = absurd (busy refl)
    own_le (Phase.ResetNext call) busy falls mine = omega arith
    own_le (Phase.ResetState call) busy falls mine = omega arith
    own_le (Phase.Exchange call) busy falls mine = omega (arith, part_later (is_in (after_exchange x own call)) (has_later who k (calls ++ call ∷ [])) (left (after_exchange x own call)) (later_own call (mine call refl)))
    own_le at busy falls mine = part_le (is_in at) (is_in (goes c x own at found)) (has_later who k calls) (left at) (left (goes c x own at found)) refl (falls refl)

    -- and less, if it leaves it fewer in one of the first calls
    pub own_lt : (at : Phase) → IsTrue (is_in at && not (has_later who k calls)) → left (goes c x own at found) < left at →
        part (is_in (goes c x own at found)) (has_later who k (appended calls (enters at))) (left (goes c x own at found)) < part (is_in at) (has_later who k calls) (left at)
    own_lt at among less = grind (
      arith,
      part_lt (is_in at) (is_in (goes c x own at found)) (has_later who k calls) (left at) (left (goes c x own at found)) among less,
    )

in_enters : (at : Phase) → is_in at ≡ true → enters at ≡ None
in_enters at inside = grind arith

-- ---- the state of a node

either_word : (b : Bool) (value old : ℕ) → value ≢ 1 → old ≢ 1 → cond b value old ≢ 1
either_word b value old a z = grind arith

-- a state that isn't 1 stays so, but for the reset of the own node
pub kept : (c : Setting) (mem : Word → ℕ) (x y : Chain) (i own : ℕ) (at : Phase) → (same_chain y x && (own == i)) ≡ false → mem (Word.Node x i NodeField.State) ≢ 1 → stored mem (operation c y own at) (Word.Node x i NodeField.State) ≢ 1
kept c mem x y i own (Phase.ResetState call) apart ne = λ is. ne (sym (ap (λ (b : Bool). cond b 1 (mem (Word.Node x i NodeField.State))) apart) ∙ is)
kept c mem x y i own (Phase.MarkDone job) apart ne = either_word (same_chain y x && (job.round.at == i)) 2 (mem (Word.Node x i NodeField.State)) (λ is. absurd (omega (arith, is))) ne
kept c mem x y i own (Phase.HandOver at) apart ne = either_word (same_chain y x && (at == i)) 0 (mem (Word.Node x i NodeField.State)) (λ is. absurd (omega (arith, is))) ne
kept c mem x y i own (Phase.Counting job at) apart ne = λ is. ne (sym (count_words c mem x job.round.at i NodeField.State at) ∙ is)
kept c mem x y i own (Phase.Sending job at) apart ne = λ is. ne (sym (send_words c mem x job.round.at i NodeField.State at) ∙ is)
kept c mem x y i own (Phase.Taking job at) apart ne = λ is. ne (sym (take_words c mem x (group_of y) i NodeField.State at) ∙ is)
kept c mem x y i own _ apart ne = ne

pub other_off : (x y : Chain) → IsOther x y → same_chain y x ≡ false
other_off x y o = grind arith

pub idle_out : (at : Phase) → IsIdle at → is_in at ≡ false
idle_out at is = grind arith

pub finished_out : (at : Phase) → IsFinished at → is_in at ≡ false
finished_out at is = grind arith

-- ---- a move

-- a pass that doesn't wait
abbrev pub GoesOn : State → Chain → Stand → Type 0
GoesOn s x at = at.phase ≡ Phase.ReadState → s.mem (Word.Node x at.node NodeField.State) ≢ 1

-- It makes the share of no pass more, and that of its own pass less, if it leaves it fewer steps. Other passes stay in their calls, and go on
-- if they did; its own stays in its call unless it ends it.
pub record Lowers (left : Phase → ℕ) (c : Setting) (x : Chain) (k : ℕ) (s : State) (m : Move) : Type 0 where
  pub each : (n : ℕ) → n < members c x → share left c x k (moved c s m) n ≤ share left c x k s n
  pub less : (n : ℕ) → n < members c x → m ≡ Move.Step (pass_on c x n) → IsTrue (is_among c x k s n) →
      left (goes c x (s.stand (pass_on c x n)).node (s.stand (pass_on c x n)).phase (s.mem (word_of (operation c x (s.stand (pass_on c x n)).node (s.stand (pass_on c x n)).phase)))) < left (s.stand (pass_on c x n)).phase →
      share left c x k (moved c s m) n < share left c x k s n
  pub among : (n : ℕ) → n < members c x → pass_of m ≢ pass_on c x n → is_among c x k (moved c s m) n ≡ is_among c x k s n
  pub goes_on : (n : ℕ) → n < members c x → pass_of m ≢ pass_on c x n → GoesOn s x (s.stand (pass_on c x n)) → GoesOn (moved c s m) x ((moved c s m).stand (pass_on c x n))
  pub own : (n : ℕ) → n < members c x → m ≡ Move.Step (pass_on c x n) → IsAmong c x k s n → is_in ((moved c s m).stand (pass_on c x n)).phase ≡ true → IsAmong c x k (moved c s m) n

module _ (c : Setting) (x : Chain) (ok : IsChain c x) (k : ℕ) (s : State) (w : Holds c x s) (few : k ≤ length (calls_on x s.history)) (left : Phase → ℕ)
    (falls : (p : ℕ) → p < passes c → is_in (s.stand p).phase ≡ true → left (goes c x (s.stand p).node (s.stand p).phase (s.mem (word_of (operation c x (s.stand p).node (s.stand p).phase)))) ≤ left (s.stand p).phase) where
  abbrev name : ℕ → Pass
  name n = pass_at c.config (pass_on c x n)

  -- a pass that stays where it is, and whose calls do
  stays_there : (t : State) (n : ℕ) → t.stand (pass_on c x n) ≡ s.stand (pass_on c x n) → has_later (name n) k (calls_on x t.history) ≡ has_later (name n) k (calls_on x s.history) →
      (share left c x k t n ≡ share left c x k s n) × (is_among c x k t n ≡ is_among c x k s n)
  stays_there t n stands later = ((λ i. part (is_in (stands i).phase) (later i) (left (stands i).phase)), (λ i. is_in (stands i).phase && not (later i)))

  -- a pass that goes elsewhere
  abbrev there_part : Stand → List Entry → ℕ → ℕ
  there_part there calls n = part (is_in there.phase) (has_later (name n) k calls) (left there.phase)

  -- ---- a step of pass i of the chain

  module _ (i : ℕ) (inside : i < members c x) where
    abbrev P : ℕ
    P = pass_on c x i

    abbrev at : Phase
    at = (s.stand P).phase

    abbrev own : ℕ
    own = (s.stand P).node

    abbrev found : ℕ
    found = s.mem (word_of (operation c x own at))

    abbrev next : State
    next = stepped_from c s x P (s.stand P)

    calls_next : calls_on x next.history ≡ appended (calls_on x s.history) (enters at)
    calls_next = ap (λ (z : Side). z.calls) (side_same x s.history (record { calls = appended (calls_on x s.history) (enters at); answers = _ }) w.side_in)

    mine : (call : Entry) → at ≡ Phase.Exchange call → is_pass (name i) call.pass ≡ true
    mine call e =
        let had : HasCall c x i (Phase.Exchange call) = subst (λ (z : Phase). HasCall c x i z) e (w.ties.begun i inside) in
        ap (λ (z : Pass). is_pass (name i) z) had.pass_is ∙ pass_self (name i)

    theirs : (n : ℕ) → n < members c x → n ≢ i → (call : Entry) → at ≡ Phase.Exchange call → is_pass (name n) call.pass ≡ false
    theirs n less ne call e =
        let had : HasCall c x i (Phase.Exchange call) = subst (λ (z : Phase). HasCall c x i z) e (w.ties.begun i inside) in
        (λ j. is_pass (name_is c x n less j) ((had.pass_is ∙ name_is c x i inside) j)) ∙ other_name c x n i (λ same. ne (sym same))

    own_part : share left c x k next i ≡ part (is_in (goes c x own at found)) (has_later (name i) k (appended (calls_on x s.history) (enters at))) (left (goes c x own at found))
    own_part = λ j. there_part (hold_here s.stand P (advanced c x (s.stand P) found) j) (calls_next j) i

    other_stays : (n : ℕ) → n < members c x → n ≢ i → (share left c x k next n ≡ share left c x k s n) × (is_among c x k next n ≡ is_among c x k s n)
    other_stays n less ne =
        stays_there next n (hold_apart s.stand P (pass_on c x n) (advanced c x (s.stand P) found) (pass_apart c x i n ne))
        (ap (λ (l : List Entry). has_later (name n) k l) calls_next ∙ later_other k (calls_on x s.history) few (name n) at (theirs n less ne))

    step_each : P < passes c → event_at at ≢ Event.Idle → (n : ℕ) → n < members c x → share left c x k next n ≤ share left c x k s n
    step_each there busy n less = elim (cases_eq n i) [
      | inl same ↦ subst (λ (z : ℕ). share left c x k next z ≤ share left c x k s z) (sym same) (omega (arith, own_part, own_le k (calls_on x s.history) few (name i) left c x own found at busy (falls P there) mine))
      | inr ne ↦ omega (arith, (other_stays n less ne).0)
    ]

    own_stays : IsAmong c x k s i → is_in (next.stand P).phase ≡ true → IsAmong c x k next i
    own_stays among inside_still =
        let two = both_true (is_in at) (not (has_later (name i) k (calls_on x s.history))) among in
        true_both (is_in (next.stand P).phase) (not (has_later (name i) k (calls_on x next.history))) inside_still
        (ap (λ (l : List Entry). not (has_later (name i) k l)) (calls_next ∙ ap (λ (z : Option Entry). appended (calls_on x s.history) z) (in_enters at two.0)) ∙ two.1)

    step_less : IsTrue (is_among c x k s i) → left (goes c x own at found) < left at → share left c x k next i < share left c x k s i
    step_less among less = omega (arith, own_part, own_lt k (calls_on x s.history) few (name i) left c x own found at among less)

    -- the states of the other passes' nodes
    pub own_apart : (n : ℕ) → n < members c x → n ≢ i → (same_chain x x && (own == (s.stand (pass_on c x n)).node)) ≡ false
    own_apart n less ne =
        let first : (post_at x (s.stand (pass_on c x n))).node ≡ (s.stand (pass_on c x n)).node = own_node x (s.stand (pass_on c x n)).node (s.stand (pass_on c x n)).phase in
        let second : (post_at x (s.stand P)).node ≡ own = own_node x own at in
        ap (λ (b : Bool). same_chain x x && b) (ne_eqb own (s.stand (pass_on c x n)).node (λ same. ne (w.inv.nodes.apart n i less inside (first ∙ sym same ∙ sym second)))) ∙ and-false (same_chain x x)

    step_goes_on : (n : ℕ) → n < members c x → n ≢ i → GoesOn s x (s.stand (pass_on c x n)) → GoesOn next x (next.stand (pass_on c x n))
    step_goes_on n less ne goes_on =
        subst (λ (z : Stand). GoesOn next x z) (sym (hold_apart s.stand P (pass_on c x n) (advanced c x (s.stand P) found) (pass_apart c x i n ne)))
        (λ e. kept c s.mem x x (s.stand (pass_on c x n)).node own at (own_apart n less ne) (goes_on e))

  -- ---- a step of a pass of another chain

  module _ (p : ℕ) (off : IsOff c x p) where
    abbrev far : State
    far = stepped c s p

    far_calls : calls_on x far.history ≡ calls_on x s.history
    far_calls = ap (λ (z : Side). z.calls) (side_other x (chain_of c.config p) s.history _ off.other)

    far_stand : (n : ℕ) → n < members c x → far.stand (pass_on c x n) ≡ s.stand (pass_on c x n)
    far_stand n less = hold_apart s.stand p (pass_on c x n) _ (off.away n less)

    far_stays : (n : ℕ) → n < members c x → (share left c x k far n ≡ share left c x k s n) × (is_among c x k far n ≡ is_among c x k s n)
    far_stays n less = stays_there far n (far_stand n less) (ap (λ (l : List Entry). has_later (name n) k l) far_calls)

    far_goes_on : (n : ℕ) → n < members c x → GoesOn s x (s.stand (pass_on c x n)) → GoesOn far x (far.stand (pass_on c x n))
    far_goes_on n less goes_on =
        subst (λ (z : Stand). GoesOn far x z) (sym (far_stand n less))
        (λ e. kept c s.mem x (chain_of c.config p) (s.stand (pass_on c x n)).node (s.stand p).node (s.stand p).phase
        (ap (λ (b : Bool). b && ((s.stand p).node == (s.stand (pass_on c x n)).node)) (other_off x (chain_of c.config p) off.other)) (goes_on e))

  -- ---- a move that only puts a pass elsewhere: out of its chain

  module _ (p : ℕ) (there : Stand) (was_out : is_in (s.stand p).phase ≡ false) (is_out : is_in there.phase ≡ false) where
    put_stays : (n : ℕ) → pass_on c x n ≢ p → (share left c x k (put_there s p there) n ≡ share left c x k s n) × (is_among c x k (put_there s p there) n ≡ is_among c x k s n)
    put_stays n ne = stays_there (put_there s p there) n (hold_apart s.stand p (pass_on c x n) there ne) refl

    put_each : (n : ℕ) → n < members c x → share left c x k (put_there s p there) n ≤ share left c x k s n
    put_each n less = grind (arith, hold_here, part_out, put_stays n)

    put_goes_on : (n : ℕ) → pass_on c x n ≢ p → GoesOn s x (s.stand (pass_on c x n)) → GoesOn (put_there s p there) x ((put_there s p there).stand (pass_on c x n))
    put_goes_on n ne goes_on = subst (λ (z : Stand). GoesOn (put_there s p there) x z) (sym (hold_apart s.stand p (pass_on c x n) there ne)) goes_on

    put_lowers : (m : Move) → moved c s m ≡ put_there s p there → pass_of m ≡ p → ((q : ℕ) → m ≢ Move.Step q) → Lowers left c x k s m
    put_lowers m is mover no_step = record {
      each = λ n inside. subst (λ (t : State). share left c x k t n ≤ share left c x k s n) (sym is) (put_each n inside);
      less = λ n inside same among falls. absurd (no_step (pass_on c x n) same);
      among = λ n inside ne. subst (λ (t : State). is_among c x k t n ≡ is_among c x k s n) (sym is) (put_stays n (λ same. ne (mover ∙ sym same))).1;
      goes_on = λ n inside ne goes_on. subst (λ (t : State). GoesOn t x (t.stand (pass_on c x n))) (sym is) (put_goes_on n (λ same. ne (mover ∙ sym same)) goes_on);
      own = λ n inside same. absurd (no_step (pass_on c x n) same);
    }

  -- ---- a step

  step_no_more : (p : ℕ) → p < passes c → event_at (s.stand p).phase ≢ Event.Idle → IsOn c x p ⊎ IsOff c x p → (n : ℕ) → n < members c x → share left c x k (stepped c s p) n ≤ share left c x k s n
  step_no_more p there busy (inl on) n less =
      let inside : pass_on c x on.number < passes c = subst (λ (z : ℕ). z < passes c) on.pass_is there in
      let moves : event_at (s.stand (pass_on c x on.number)).phase ≢ Event.Idle = subst (λ (z : ℕ). event_at (s.stand z).phase ≢ Event.Idle) on.pass_is busy in
      subst (λ (y : Chain). share left c x k (stepped_from c s y p (s.stand p)) n ≤ share left c x k s n) (sym on.chain_is)
      (subst (λ (z : ℕ). share left c x k (stepped_from c s x z (s.stand z)) n ≤ share left c x k s n) (sym on.pass_is) (step_each on.number on.inside inside moves n less))
  step_no_more p there busy (inr off) n less = omega (arith, (far_stays p off n less).0)

  step_is_less : (n : ℕ) (inside : n < members c x) → IsTrue (is_among c x k s n) → IsOn c x (pass_on c x n) ⊎ IsOff c x (pass_on c x n) → left (goes c x (own n inside) (at n inside) (found n inside)) < left (at n inside) → share left c x k (stepped c s (pass_on c x n)) n < share left c x k s n
  step_is_less n inside among (inl on) less =
      subst (λ (y : Chain). share left c x k (stepped_from c s y (pass_on c x n) (s.stand (pass_on c x n))) n < share left c x k s n) (sym on.chain_is) (step_less n inside among less)
  step_is_less n inside among (inr off) less = absurd (off.away n inside refl)

  -- a step of a pass of this chain
  on_step : (p : ℕ) (on : IsOn c x p) → stepped c s p ≡ next on.number on.inside
  on_step p on = ap (λ (y : Chain). stepped_from c s y p (s.stand p)) on.chain_is ∙ ap (λ (z : ℕ). stepped_from c s x z (s.stand z)) on.pass_is

  other_than : (p : ℕ) (on : IsOn c x p) (n : ℕ) → p ≢ pass_on c x n → n ≢ on.number
  other_than p on n ne same = ne (on.pass_is ∙ ap (λ (z : ℕ). pass_on c x z) (sym same))

  step_among : (p : ℕ) → IsOn c x p ⊎ IsOff c x p → (n : ℕ) → n < members c x → p ≢ pass_on c x n → is_among c x k (stepped c s p) n ≡ is_among c x k s n
  step_among p (inl on) n inside ne = ap (λ (t : State). is_among c x k t n) (on_step p on) ∙ (other_stays on.number on.inside n inside (other_than p on n ne)).1
  step_among p (inr off) n inside ne = (far_stays p off n inside).1

  step_still_goes_on : (p : ℕ) → IsOn c x p ⊎ IsOff c x p → (n : ℕ) → n < members c x → p ≢ pass_on c x n → GoesOn s x (s.stand (pass_on c x n)) → GoesOn (stepped c s p) x ((stepped c s p).stand (pass_on c x n))
  step_still_goes_on p (inl on) n inside ne goes_on = subst (λ (t : State). GoesOn t x (t.stand (pass_on c x n))) (sym (on_step p on)) (step_goes_on on.number on.inside n inside (other_than p on n ne) goes_on)
  step_still_goes_on p (inr off) n inside ne goes_on = far_goes_on p off n inside goes_on

  step_own : (n : ℕ) (inside : n < members c x) → IsOn c x (pass_on c x n) ⊎ IsOff c x (pass_on c x n) → IsAmong c x k s n → is_in ((stepped c s (pass_on c x n)).stand (pass_on c x n)).phase ≡ true → IsAmong c x k (stepped c s (pass_on c x n)) n
  step_own n inside (inl on) among still =
      let e : stepped c s (pass_on c x n) ≡ next n inside = ap (λ (y : Chain). stepped_from c s y (pass_on c x n) (s.stand (pass_on c x n))) on.chain_is in
      subst (λ (t : State). IsAmong c x k t n) (sym e) (own_stays n inside among (ap (λ (t : State). is_in (t.stand (pass_on c x n)).phase) (sym e) ∙ still))
  step_own n inside (inr off) among still = absurd (off.away n inside refl)

  step_pass : (p q : ℕ) → Move.Step p ≡ Move.Step q → p ≡ q
  step_pass p q e = cc

  pub lowers : (m : Move) → May c s m → Lowers left c x k s m
  lowers (Move.Begin p call known) may = put_lowers p (begins c.config p call known (s.stand p)) (idle_out (s.stand p).phase may.2) refl (Move.Begin p call known) refl refl (λ q e. absurd (cc))
  lowers (Move.Take p) may = put_lowers p (rests (s.stand p)) (finished_out (s.stand p).phase may.1) refl (Move.Take p) refl refl (λ q e. absurd (cc))
  lowers (Move.Step p) may = record {
    each = step_no_more p may.0 may.1 (which c x ok p may.0);
    less = λ n inside same among less.
        let is : p ≡ pass_on c x n = step_pass p (pass_on c x n) same in
        subst (λ (z : ℕ). share left c x k (stepped c s z) n < share left c x k s n) (sym is) (step_is_less n inside among (which c x ok (pass_on c x n) (subst (λ (z : ℕ). z < passes c) is may.0)) less);
    among = λ n inside ne. step_among p (which c x ok p may.0) n inside ne;
    goes_on = λ n inside ne goes_on. step_still_goes_on p (which c x ok p may.0) n inside ne goes_on;
    own = λ n inside same among still.
        let is : p ≡ pass_on c x n = step_pass p (pass_on c x n) same in
        subst (λ (z : ℕ). is_in ((stepped c s z).stand (pass_on c x n)).phase ≡ true → IsAmong c x k (stepped c s z) n) (sym is)
        (step_own n inside (which c x ok (pass_on c x n) (subst (λ (z : ℕ). z < passes c) is may.0)) among) still;
  }

-- ---- the steps that are left

module _ (c : Setting) (x : Chain) (ok : IsChain c x) (k : ℕ) (s : State) (w : Holds c x s) (few : k ≤ length (calls_on x s.history)) (bounded : (p : ℕ) → p < passes c → served_by (s.stand p).phase < c.config.bound)
    (short : (p : ℕ) → p < passes c → scan_reads (s.stand p).phase ≤ c.config.capacity + 1) where
  abbrev its_own : ℕ → ℕ
  its_own p = (s.stand p).node

  abbrev its_at : ℕ → Phase
  its_at p = (s.stand p).phase

  abbrev it_finds : ℕ → ℕ
  it_finds p = s.mem (word_of (operation c x (its_own p) (its_at p)))

  its_falls : (p : ℕ) → p < passes c → is_in (its_at p) ≡ true → steps_left c.config x (goes c x (its_own p) (its_at p) (it_finds p)) ≤ steps_left c.config x (its_at p)
  its_falls p inside is = leaves_no_more c x (its_own p) (its_at p) (it_finds p) is (bounded p inside) (short p inside)

  pub lowers_steps : (m : Move) → May c s m → Lowers (steps_left c.config x) c x k s m
  lowers_steps m may = lowers c x ok k s w few (steps_left c.config x) its_falls m may

  pub step_leaves : (n : ℕ) → pass_on c x n < passes c → IsTrue (is_among c x k s n) → GoesOn s x (s.stand (pass_on c x n)) → steps_left c.config x (goes c x (its_own (pass_on c x n)) (its_at (pass_on c x n)) (it_finds (pass_on c x n))) < steps_left c.config x (its_at (pass_on c x n))
  step_leaves n inside among goes_on =
      leaves c x (its_own (pass_on c x n)) (its_at (pass_on c x n)) (it_finds (pass_on c x n)) (both_true (is_in (its_at (pass_on c x n))) _ among).0 (bounded (pass_on c x n) inside) (short (pass_on c x n) inside)
      (λ e one. goes_on e (sym (ap (λ (z : Phase). s.mem (word_of (operation c x (its_own (pass_on c x n)) z))) e) ∙ one))
