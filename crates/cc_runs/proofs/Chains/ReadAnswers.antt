-- The answer that a call reads is its answer in the history.
use Rattle.std.proofs.Common.{◌≡◌, ◌≢◌, ℕ, zero, suc, ◌+◌, ◌*◌, ◌/◌, ◌-◌, ◌<◌, ◌≤◌, Bool, true, false, cond, refl, ap, sym, ◌∙◌, subst, arith, Option, Some, None, List, [], ◌∷◌, ◌++◌, length, get_or}
use Rattle.std.proofs.lemmas.Bool.{lt-ltb, le-ltb, eq-eqb, ne_eqb}
use Rattle.std.proofs.lemmas.List.{append-nil}
use Rattle.std.proofs.lemmas.List.Elements.{filter-append}
use Rattle.std.specs.List.{filter, flat_map}
use Rattle.std.proofs.lemmas.Nat.{div-mul-add}
use Rattle.cc_model.specs.Record.{Side, Record, silent}
use Rattle.cc_model.specs.Items.{is_pass, answered, calls_of}
use Rattle.cc_runs.specs.Names.{Pass, Entry, Answer, Setting, Chain, Phase}
use Rattle.cc_runs.specs.State.{State, side, pass_at}
use Rattle.cc_runs.proofs.Chains.Others.{IsOther}
use Rattle.cc_runs.specs.Run.{IsFinished}
use Rattle.cc_runs.proofs.Chains.View.{members, pass_on, post_at}
use Rattle.cc_runs.proofs.Chains.Registers.{calls_on, answers_on, call_at, answer_at, IsCall, IsAnswer, HasRead, reads}
use Rattle.cc_runs.proofs.Chains.Ties.{ghost_of, Holds}
use Rattle.cc_runs.proofs.Chains.Last.{chosen, chosen_none, Ends, chosen_last, chosen_open}

-- the name of a pass of the chain
abbrev pub named : Setting → Chain → ℕ → Pass
named c Chain.Send p = Pass.Sender (p + 1)
named c (Chain.Take g) p = Pass.Receiver (g * c.config.receivers + p + 1)

pub name_is : (c : Setting) (x : Chain) (p : ℕ) → p < members c x → pass_at c.config (pass_on c x p) ≡ named c x p
name_is c Chain.Send p less = ap (λ (b : Bool). cond b (Pass.Sender (p + 1)) (Pass.Receiver (p - c.config.senders + 1))) (lt-ltb p c.config.senders less)
name_is c (Chain.Take g) p less =
    let q : ℕ = g * c.config.receivers + p in
    let back : c.config.senders + (g * c.config.receivers + p) - c.config.senders ≡ g * c.config.receivers + p = omega arith in
    ap (λ (b : Bool). cond b (Pass.Sender (c.config.senders + (g * c.config.receivers + p) + 1)) (Pass.Receiver (c.config.senders + (g * c.config.receivers + p) - c.config.senders + 1))) (le-ltb (c.config.senders + (g * c.config.receivers + p)) c.config.senders (omega arith)) ∙ ap (λ (z : ℕ). Pass.Receiver (z + 1)) back

same_name : (c : Setting) (x : Chain) (p : ℕ) → is_pass (named c x p) (named c x p) ≡ true
same_name c Chain.Send p = eq-eqb (p + 1) (p + 1) refl
same_name c (Chain.Take g) p = eq-eqb (g * c.config.receivers + p + 1) (g * c.config.receivers + p + 1) refl

pub other_name : (c : Setting) (x : Chain) (p q : ℕ) → q ≢ p → is_pass (named c x p) (named c x q) ≡ false
other_name c Chain.Send p q ne = ne_eqb (p + 1) (q + 1) (λ e. ne (omega arith))
other_name c (Chain.Take g) p q ne = ne_eqb (g * c.config.receivers + p + 1) (g * c.config.receivers + q + 1) (λ e. ne (omega arith))

-- passes of two chains have two names
pub apart_names : (c : Setting) (x y : Chain) (p q : ℕ) → IsOther x y → p < members c x → q < members c y → is_pass (named c x p) (named c y q) ≡ false
apart_names c (Chain.Take g) (Chain.Take h) p q o pn qn =
    ne_eqb (g * c.config.receivers + p + 1) (h * c.config.receivers + q + 1)
    (λ e. o (sym (div-mul-add g c.config.receivers p pn) ∙ ap (λ (k : ℕ). k / c.config.receivers) (omega (arith, e)) ∙ div-mul-add h c.config.receivers q qn))
apart_names c x y p q o pn qn = grind arith

-- none of another chain's calls is a pass's of this one
abbrev pub NotOther : Setting → Chain → Record → Type 0
NotOther c x h = (p : ℕ) → p < members c x → (y : Chain) → IsOther x y → (j : ℕ) → j < length (calls_on y h) → is_pass (named c x p) (call_at (calls_on y h) j).pass ≡ false

-- of each group those that are chosen
abbrev picked : (Entry → Bool) → Side → List (Entry × Option Answer)
picked f side = chosen f side.calls side.answers

pub filter-flat : (f : Entry → Bool) (sides : List Side) → filter (λ (z : Entry × Option Answer). f z.0) (flat_map (λ side. answered side.calls side.answers) sides) ≡ flat_map (picked f) sides
filter-flat f [] = refl
filter-flat f (side ∷ sides) =
    filter-append (λ (z : Entry × Option Answer). f z.0) (answered side.calls side.answers) (flat_map (λ side. answered side.calls side.answers) sides)
    ∙ ap (λ (l : List (Entry × Option Answer)). picked f side ++ l) (filter-flat f sides)

pub flat-none : (f : Entry → Bool) (sides : List Side) → ((k : ℕ) → picked f (get_or sides k silent) ≡ []) → flat_map (picked f) sides ≡ []
flat-none f [] none = refl
flat-none f (side ∷ sides) none = ap (λ (l : List (Entry × Option Answer)). l ++ flat_map (picked f) sides) (none 0) ∙ flat-none f sides (λ k. none (suc k))

pub flat-one : (f : Entry → Bool) (sides : List Side) (g : ℕ) → ((k : ℕ) → k ≢ g → picked f (get_or sides k silent) ≡ []) → flat_map (picked f) sides ≡ picked f (get_or sides g silent)
flat-one f [] g others = refl
flat-one f (side ∷ sides) zero others =
    ap (λ (l : List (Entry × Option Answer)). picked f side ++ l) (flat-none f sides (λ k. others (suc k) (λ e. absurd (omega (arith, e))))) ∙ append-nil (picked f side)
flat-one f (side ∷ sides) (suc g) others =
    ap (λ (l : List (Entry × Option Answer)). l ++ flat_map (picked f) sides) (others 0 (λ e. absurd (omega (arith, e)))) ∙ flat-one f sides g (λ k ne. others (suc k) (λ e. ne (omega (arith, e))))

-- the calls of a pass of one chain are all on that chain
pub calls_one : (c : Setting) (x : Chain) (h : Record) (p : ℕ) → p < members c x → NotOther c x h → calls_of (named c x p) h ≡ chosen (λ (z : Entry). is_pass (named c x p) z.pass) (calls_on x h) (answers_on x h)
calls_one c x h p inside none =
    filter-append (λ (z : Entry × Option Answer). is_pass (named c x p) z.0.pass) (answered h.sends.calls h.sends.answers) (flat_map (λ side. answered side.calls side.answers) h.takes)
    ∙ ap (λ (l : List (Entry × Option Answer)). picked f h.sends ++ l) (filter-flat f h.takes) ∙ by x refl
  where
    f : Entry → Bool
    f = λ (z : Entry). is_pass (named c x p) z.pass

    other : (y : Chain) → IsOther x y → picked f (side y h) ≡ []
    other y o = chosen_none f (calls_on y h) (answers_on y h) (none p inside y o)

    by : (y : Chain) → x ≡ y → picked f h.sends ++ flat_map (picked f) h.takes ≡ picked f (side y h)
    by Chain.Send e = ap (λ (l : List (Entry × Option Answer)). picked f h.sends ++ l) (flat-none f h.takes (λ k. other (Chain.Take k) (subst (λ (z : Chain). IsOther z (Chain.Take k)) (sym e) tt))) ∙ append-nil (picked f h.sends)
    by (Chain.Take g) e =
        ap (λ (l : List (Entry × Option Answer)). l ++ flat_map (picked f) h.takes) (other Chain.Send (subst (λ (z : Chain). IsOther z Chain.Send) (sym e) tt))
        ∙ flat-one f h.takes g (λ k ne. other (Chain.Take k) (subst (λ (z : Chain). IsOther z (Chain.Take k)) (sym e) (λ same. ne (sym same))))

-- the last call of a pass is answered
pub record HasAnswer (c : Setting) (x : Chain) (h : Record) (who : Pass) (number : ℕ) : Type 0 where
  pub within : number < length (answers_on x h)
  pub before : List (Entry × Option Answer)
  pub last : calls_of who h ≡ before ++ (call_at (calls_on x h) number, Some (answer_at (answers_on x h) number)) ∷ []
  pub sided : IsAnswer c.served x (answer_at (answers_on x h) number)

-- a call of pass n of the chain that is its last one
module _ (c : Setting) (x : Chain) (s : State) (w : Holds c x s) (none : NotOther c x s.history) (n : ℕ) (inside : n < members c x) (called : (ghost_of w).at n < length (calls_on x s.history)) (its_is : (ghost_of w).pass_of ((ghost_of w).at n) ≡ n) where
  pass_of_call : (k : ℕ) → k < length (calls_on x s.history) → (call_at (calls_on x s.history) k).pass ≡ named c x ((ghost_of w).pass_of k)
  pass_of_call k less =
      let below : k < (ghost_of w).calls = omega arith in
      let is : IsCall c x ((ghost_of w).pass_of k) (call_at (calls_on x s.history) k) = w.ties.entered k below in is.pass_is ∙ name_is c x ((ghost_of w).pass_of k) (w.ties.pass_in k below)

  its : is_pass (named c x n) (call_at (calls_on x s.history) ((ghost_of w).at n)).pass ≡ true
  its = ap (λ (z : Pass). is_pass (named c x n) z) (pass_of_call ((ghost_of w).at n) called ∙ ap (λ (z : ℕ). named c x z) its_is) ∙ same_name c x n

  none_later : (j : ℕ) → (ghost_of w).at n < j → j < length (calls_on x s.history) → is_pass (named c x n) (call_at (calls_on x s.history) j).pass ≡ false
  none_later j after less =
      ap (λ (z : Pass). is_pass (named c x n) z) (pass_of_call j less) ∙ other_name c x n ((ghost_of w).pass_of j) (λ same. w.inv.passes.at_last n j after (omega arith) same)

  abbrev pub its_calls : List (Entry × Option Answer)
  its_calls = chosen (λ (z : Entry). is_pass (named c x n) z.pass) (calls_on x s.history) (answers_on x s.history)

  calls_are : calls_of (pass_at c.config (pass_on c x n)) s.history ≡ its_calls
  calls_are = ap (λ (z : Pass). calls_of z s.history) (name_is c x n inside) ∙ calls_one c x s.history n inside none

  pub ends_with : (told : Option Answer) → Ends its_calls (call_at (calls_on x s.history) ((ghost_of w).at n)) told → Ends (calls_of (pass_at c.config (pass_on c x n)) s.history) (call_at (calls_on x s.history) ((ghost_of w).at n)) told
  ends_with told ends = record { before = ends.before; last = calls_are ∙ ends.last }

  pub ends_answered : (ghost_of w).at n < length (answers_on x s.history) → Ends (calls_of (pass_at c.config (pass_on c x n)) s.history) (call_at (calls_on x s.history) ((ghost_of w).at n)) (Some (answer_at (answers_on x s.history) ((ghost_of w).at n)))
  ends_answered answered =
      ends_with (Some (answer_at (answers_on x s.history) ((ghost_of w).at n))) (chosen_last (λ (z : Entry). is_pass (named c x n) z.pass) (calls_on x s.history) (answers_on x s.history) ((ghost_of w).at n) called answered its none_later)

  pub ends_open : length (answers_on x s.history) ≤ (ghost_of w).at n → Ends (calls_of (pass_at c.config (pass_on c x n)) s.history) (call_at (calls_on x s.history) ((ghost_of w).at n)) None
  ends_open pending = ends_with None (chosen_open (λ (z : Entry). is_pass (named c x n) z.pass) (calls_on x s.history) (answers_on x s.history) ((ghost_of w).at n) called pending its none_later)

module _ (c : Setting) (x : Chain) (s : State) (w : Holds c x s) (none : NotOther c x s.history) (n : ℕ) (inside : n < members c x) (marked : (ghost_of w).at n < (ghost_of w).marked) (its_is : (ghost_of w).pass_of ((ghost_of w).at n) ≡ n) where
  answered_it : (ghost_of w).at n < length (answers_on x s.history)
  answered_it = omega (arith, marked, w.inv.calls.in_order)

  called_it : (ghost_of w).at n < length (calls_on x s.history)
  called_it = omega (arith, marked, w.inv.calls.in_order, w.inv.calls.in_order2)

  pub answer_on : HasAnswer c x s.history (pass_at c.config (pass_on c x n)) ((ghost_of w).at n)
  answer_on =
      let ends : Ends (calls_of (pass_at c.config (pass_on c x n)) s.history) (call_at (calls_on x s.history) ((ghost_of w).at n)) (Some (answer_at (answers_on x s.history) ((ghost_of w).at n))) =
      ends_answered c x s w none n inside called_it its_is answered_it in
      record { within = answered_it; before = ends.before; last = ends.last; sided = w.ties.answered ((ghost_of w).at n) (omega (arith, answered_it)) }

-- a call that exchanged and isn't linked yet is its pass's last, and has no answer
module _ (c : Setting) (x : Chain) (s : State) (w : Holds c x s) (none : NotOther c x s.history) (n : ℕ) (inside : n < members c x) (entering : (post_at x (s.stand (pass_on c x n))).rank ≡ 3) where
  its_call : (ghost_of w).pass_of ((ghost_of w).at n) ≡ n
  its_call = w.inv.passes.at_is n inside (omega (arith, entering))

  -- if an answer is decided and not marked, its call is linked
  not_decided : (p : ℕ) → (ghost_of w).server ≡ p + 1 → (post_at x (s.stand (pass_on c x p))).stage ≡ 2 → (ghost_of w).at n ≢ (ghost_of w).marked
  not_decided p served stage same =
      let linked : 4 ≤ (post_at x (s.stand (pass_on c x ((ghost_of w).pass_of (ghost_of w).marked)))).rank = w.inv.serving.serving_linked p served (omega (arith, stage)) (omega (arith, stage)) in
      let who : (ghost_of w).pass_of (ghost_of w).marked ≡ n = ap (ghost_of w).pass_of (sym same) ∙ its_call in
      omega (arith, entering, subst (λ (z : ℕ). 4 ≤ (post_at x (s.stand (pass_on c x z))).rank) who linked)

  open_by : (server : ℕ) → (ghost_of w).server ≡ server → (ghost_of w).answers ≤ (ghost_of w).at n
  open_by zero free = omega (arith, w.inv.serving.free_answers free, w.inv.passes.early n inside entering)
  open_by (suc p) serves =
      let served : (ghost_of w).server ≡ p + 1 = omega (arith, serves) in
      let low : (ghost_of w).marked ≤ (ghost_of w).at n = w.inv.passes.early n inside entering in
      grind (arith, not_decided p served, w.inv.serving.decided p served, w.inv.serving.undecided p served)

  pub open_on : Ends (calls_of (pass_at c.config (pass_on c x n)) s.history) (call_at (calls_on x s.history) ((ghost_of w).at n)) None
  open_on =
      let called : (ghost_of w).at n < length (calls_on x s.history) = omega (arith, w.inv.passes.at_in n inside (omega (arith, entering))) in
      ends_open c x s w none n inside called its_call (omega (arith, open_by (ghost_of w).server refl))

-- and this is what is read of it
pub record HasTold (c : Setting) (x : Chain) (h : Record) (who : Pass) (told : Answer) : Type 0 where
  pub number : ℕ
  pub within : number < length (answers_on x h)
  pub before : List (Entry × Option Answer)
  pub last : calls_of who h ≡ before ++ (call_at (calls_on x h) number, Some (answer_at (answers_on x h) number)) ∷ []
  pub sided : IsAnswer c.served x (answer_at (answers_on x h) number)
  pub read : told ≡ reads c.served x (answer_at (answers_on x h) number)

pub told_on : (c : Setting) (x : Chain) (s : State) (w : Holds c x s) → NotOther c x s.history → (n : ℕ) → n < members c x → (told : Answer) → (s.stand (pass_on c x n)).phase ≡ Phase.Finished told →
    HasTold c x s.history (pass_at c.config (pass_on c x n)) told
told_on c x s w none n inside told e =
    let ended : ((ghost_of w).at n < (ghost_of w).marked) × ((ghost_of w).pass_of ((ghost_of w).at n) ≡ n) = w.ties.ended n inside (subst (λ (z : Phase). IsFinished z) (sym e) tt) in
    let a : HasAnswer c x s.history (pass_at c.config (pass_on c x n)) ((ghost_of w).at n) = answer_on c x s w none n inside ended.0 ended.1 in
    record {
      number = (ghost_of w).at n;
      within = a.within;
      before = a.before;
      last = a.last;
      sided = a.sided;
      read = subst (λ (z : Phase). HasRead c.served x (answer_at (answers_on x s.history) ((ghost_of w).at n)) z) e (w.ties.read n inside);
    }
