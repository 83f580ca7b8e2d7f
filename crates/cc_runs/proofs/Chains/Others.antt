-- The parts of a chain that a step of another chain, a begin, and the taking of an answer don't
-- change.
use Rattle.std.proofs.Common.{◌≡◌, ◌≢◌, ◌⊎◌, ℕ, ◌+◌, ◌*◌, ◌/◌, ◌%◌, ◌-◌, ◌<◌, ◌≤◌, Bool, false, ◌&&◌, ◌==◌, cond, refl, ap, sym, ◌∙◌, subst, arith, inl, inr}
use Rattle.std.proofs.Math.Bool.{and-false}
use Rattle.std.proofs.lemmas.Bool.{cases_eq, cases_lt, lt-ltb, le-ltb}
use Rattle.std.proofs.lemmas.List.{get_or-set_other}
use Rattle.std.proofs.lemmas.Nat.{div-mul-add, div-add-mod'}
use Rattle.std.proofs.Math.Nat.{mod-lt, div-lt_iff_lt-mul}
use Rattle.cc_model.specs.Record.{Side, Record, silent}
use Rattle.cc_runs.specs.Names.{Config, Setting, Served, Chain, NodeField, Word, Stand, Phase}
use Rattle.cc_runs.specs.Words.{groups, put, same, same_chain, same_field}
use Rattle.cc_runs.specs.Codes.{tag_of, body_words, word, ret_of}
use Rattle.cc_runs.specs.State.{State, chain_of, side, with_side, hold, stored, word_of}
use Rattle.cc_runs.specs.Lines.{operation, group_of}
use Rattle.cc_runs.specs.Step.{stepped_from, advanced}
use Rattle.cc_runs.specs.Run.{passes_of, passes}
use Rattle.cc_runs.proofs.Combining.Stay.{Stays}
use Rattle.cc_runs.proofs.Combining.Stay as by_stay
use Rattle.cc_runs.proofs.Chains.View.{view, members, pass_on, post_at, cell_of}
use Rattle.cc_runs.proofs.Chains.Frame.{hold_here, hold_apart, pass_apart}
use Rattle.cc_runs.proofs.Chains.Registers.{IsChainOf, IsChain, HasSide, calls_on, answers_on}
use Rattle.cc_runs.proofs.Chains.Service.{send_tail, send_words, take_tail, take_words, count_tail, count_words}
use Rattle.cc_runs.proofs.Chains.Ties.{ghost_of, holds_at, Holds, stands_on, ties_same, ties_moved}
use Rattle.cc_runs.proofs.Chains.Steps.{Moves}
use Rattle.cc_runs.proofs.Chains.Facts.{keeps_side}

-- a senders' chain and a receivers' chain, or those of two groups
abbrev pub IsOther : Chain → Chain → Type 0
IsOther Chain.Send (Chain.Take g) = Unit {0}
IsOther (Chain.Take g) Chain.Send = Unit {0}
IsOther (Chain.Take g) (Chain.Take h) = g ≢ h
IsOther Chain.Send Chain.Send = ⊥

other_off : (x y : Chain) → IsOther x y → same_chain y x ≡ false
other_off x y o = grind arith

put_other : (mem : Word → ℕ) (x y : Chain) (k i : ℕ) (f g : NodeField) (value : ℕ) → IsOther x y → put mem (Word.Node y k f) value (Word.Node x i g) ≡ mem (Word.Node x i g)
put_other mem x y k i f g value o =
    let off : same (Word.Node y k f) (Word.Node x i g) ≡ false =
    ap (λ (b : Bool). (same_field f g && b) && (k == i)) (other_off x y o) ∙ ap (λ (b : Bool). b && (k == i)) (and-false (same_field f g)) in
    ap (λ (b : Bool). cond b value (mem (Word.Node x i g))) off

put_tail : (mem : Word → ℕ) (x y : Chain) (value : ℕ) → IsOther x y → put mem (Word.Tail y) value (Word.Tail x) ≡ mem (Word.Tail x)
put_tail mem x y value o = ap (λ (b : Bool). cond b value (mem (Word.Tail x))) (other_off x y o)

module _ (c : Setting) (mem : Word → ℕ) (x y : Chain) (o : IsOther x y) (own : ℕ) where
  other_tail : (at : Phase) → stored mem (operation c y own at) (Word.Tail x) ≡ mem (Word.Tail x)
  other_tail at =
      grind (arith, put_tail mem x y (own + 1) o, count_tail c mem x, send_tail c mem x, take_tail c mem x (group_of y))

  other_words : (i : ℕ) (f : NodeField) (at : Phase) → stored mem (operation c y own at) (Word.Node x i f) ≡ mem (Word.Node x i f)
  other_words i f (Phase.ResetNext call) = put_other mem x y own i NodeField.Next f 0 o
  other_words i f (Phase.ResetState call) = put_other mem x y own i NodeField.State f 1 o
  other_words i f (Phase.WriteTag put request) = put_other mem x y own i NodeField.Tag f request.tag o
  other_words i f (Phase.WriteBody put request j) = put_other mem x y own i (NodeField.Body j) f (word request.body j) o
  other_words i f (Phase.Link put) = put_other mem x y own i NodeField.Next f (put + 1) o
  other_words i f (Phase.Counting job service) = count_words c mem x job.round.at i f service
  other_words i f (Phase.Sending job service) = send_words c mem x job.round.at i f service
  other_words i f (Phase.Taking job service) = take_words c mem x (group_of y) i f service
  other_words i f (Phase.WriteAnswer job told) = put_other mem x y job.round.at i NodeField.Ret f (ret_of c.served told) o
  other_words i f (Phase.WriteAnswerTag job item) = put_other mem x y job.round.at i NodeField.Tag f (tag_of item) o
  other_words i f (Phase.WriteAnswerBody job item j) = put_other mem x y job.round.at i (NodeField.Body j) f (word (body_words item) j) o
  other_words i f (Phase.MarkDone job) = put_other mem x y job.round.at i NodeField.State f 2 o
  other_words i f (Phase.HandOver at) = put_other mem x y at i NodeField.State f 0 o
  other_words i f _ = refl

-- the history of a chain doesn't get the other's calls and answers
pub side_other : (x y : Chain) (h : Record) (now : Side) → IsOther x y → side x (with_side y h now) ≡ side x h
side_other (Chain.Take g) (Chain.Take k) h now o = get_or-set_other h.takes k g now silent o
side_other x y h now o = grind arith

-- a state in which the chain's words, history and passes are as they were
unseen : (c : Setting) (x : Chain) (s t : State) → Holds c x s → t.mem (Word.Tail x) ≡ s.mem (Word.Tail x) → ((i : ℕ) (f : NodeField) → t.mem (Word.Node x i f) ≡ s.mem (Word.Node x i f)) →
    side x t.history ≡ side x s.history → HasSide x t.history → ((q : ℕ) → q < members c x → t.stand (pass_on c x q) ≡ s.stand (pass_on c x q)) → Holds c x t
unseen c x s t w tail words same there stands =
    let stays : Stays (members c x) (view c x s) (view c x t) = record { tail = tail; nodes = λ i j. cell_of x (λ f. words i f j); posts = λ q qn. ap (λ (z : Stand). post_at x z) (stands q qn) } in
    holds_at c x t (calls_on x s.history) (answers_on x s.history) w.kept (ap (λ (z : Side). z.calls) same) (ap (λ (z : Side). z.answers) same) (by_stay.keeps (members c x) c.config.bound (view c x s) (view c x t) (ghost_of w) w.inv stays)
    (ties_same c x (calls_on x s.history) (answers_on x s.history) (stands_on c x s) (stands_on c x t) w.kept 0 w.ties stands w.inv.server.server_in) there

-- a step of a pass of the other chain
pub other_step : (c : Setting) (x y : Chain) → IsOther x y → (s : State) (p : ℕ) (at : Stand) → ((q : ℕ) → q < members c x → pass_on c x q ≢ p) → Holds c x s → Holds c x (stepped_from c s y p at)
other_step c x y o s p at away w =
    unseen c x s (stepped_from c s y p at) w (other_tail c s.mem x y o at.node at.phase) (λ i f. other_words c s.mem x y o at.node i f at.phase) (side_other x y s.history _ o) (keeps_side x y s.history _ w.side_in)
    (λ q qn. hold_apart s.stand p (pass_on c x q) (advanced c y at (s.mem (word_of (operation c y at.node at.phase)))) (away q qn))

-- a move that puts a pass elsewhere and does nothing more
abbrev pub put_there : State → ℕ → Stand → State
put_there s p there = record { mem = s.mem; stand = hold s.stand p there; history = s.history }

pub other_put : (c : Setting) (x : Chain) (s : State) (p : ℕ) (there : Stand) → ((q : ℕ) → q < members c x → pass_on c x q ≢ p) → Holds c x s → Holds c x (put_there s p there)
other_put c x s p there away w = unseen c x s (put_there s p there) w refl (λ i f. refl) refl w.side_in (λ q qn. hold_apart s.stand p (pass_on c x q) there (away q qn))

pub own_put : (c : Setting) (x : Chain) (s : State) (p : ℕ) (there : Stand) → (w : Holds c x s) → post_at x there ≡ post_at x (s.stand (pass_on c x p)) → Moves c x s (ghost_of w) p (ghost_of w).marked (ghost_of w).server there.phase →
    Holds c x (put_there s (pass_on c x p) there)
own_put c x s p there w same m =
    let others : (q : ℕ) → q ≢ p → (put_there s (pass_on c x p) there).stand (pass_on c x q) ≡ s.stand (pass_on c x q) = λ q ne. hold_apart s.stand (pass_on c x p) (pass_on c x q) there (pass_apart c x p q ne) in
    let mine : (put_there s (pass_on c x p) there).stand (pass_on c x p) ≡ there = hold_here s.stand (pass_on c x p) there in
    let posts : (q : ℕ) → post_at x ((put_there s (pass_on c x p) there).stand (pass_on c x q)) ≡ post_at x (s.stand (pass_on c x q)) =
    λ q. grind (arith, same, others q) in
    record {
      kept = w.kept;
      inv = by_stay.keeps (members c x) c.config.bound (view c x s) (view c x (put_there s (pass_on c x p) there)) (ghost_of w) w.inv record { tail = refl; nodes = λ i. refl; posts = λ q qn. posts q };
      ties = ties_moved c x (calls_on x s.history) (answers_on x s.history) (stands_on c x s) (stands_on c x (put_there s (pass_on c x p) there)) w.kept p w.ties there (ghost_of w).marked (ghost_of w).server mine others m.onward
          m.call m.read m.ended m.serves m.keep;
      side_in = w.side_in;
    }

-- each pass is on a chain, and no other chain has it
pub record IsOn (c : Setting) (x : Chain) (p : ℕ) : Type 0 where
  pub number : ℕ
  pub inside : number < members c x
  pub pass_is : p ≡ pass_on c x number
  pub chain_is : chain_of c.config p ≡ x

pub record IsOff (c : Setting) (x : Chain) (p : ℕ) : Type 0 where
  pub other : IsOther x (chain_of c.config p)
  pub away : (q : ℕ) → q < members c x → pass_on c x q ≢ p

pub group_in : (s : Served) (n g : ℕ) → IsChainOf s n (Chain.Take g) → g < n
group_in s n g ok = grind arith

-- a receiver, by its group and its number in it
pub record InGroup (config : Config) (p : ℕ) : Type 0 where
  pub group : ℕ
  pub number : ℕ
  pub inside : number < config.receivers
  pub pass_is : p ≡ config.senders + (group * config.receivers + number)
  pub chain_is : chain_of config p ≡ Chain.Take group
  pub group_in : p < config.senders + groups config * config.receivers → group < groups config

pub sender_chain : (config : Config) (p : ℕ) → p < config.senders → chain_of config p ≡ Chain.Send
sender_chain config p less = ap (λ (b : Bool). cond b Chain.Send (Chain.Take ((p - config.senders) / config.receivers))) (lt-ltb p config.senders less)

pub receiver_chain : (config : Config) (p : ℕ) → config.senders ≤ p → chain_of config p ≡ Chain.Take ((p - config.senders) / config.receivers)
receiver_chain config p far = ap (λ (b : Bool). cond b Chain.Send (Chain.Take ((p - config.senders) / config.receivers))) (le-ltb p config.senders far)

pub in_group : (config : Config) (p : ℕ) → 0 < config.receivers → config.senders ≤ p → InGroup config p
in_group config p some far =
    let whole : (p - config.senders) / config.receivers * config.receivers + (p - config.senders) % config.receivers ≡ p - config.senders = div-add-mod' (p - config.senders) config.receivers in
    record {
      group = (p - config.senders) / config.receivers;
      number = (p - config.senders) % config.receivers;
      inside = mod-lt (p - config.senders) some;
      pass_is = omega (arith, whole, far);
      chain_is = receiver_chain config p far;
      group_in = λ less. (div-lt_iff_lt-mul some).1 (omega (arith, less, far));
    }

-- the group of such a pass
pub group_is : (config : Config) (g number : ℕ) → number < config.receivers → (config.senders + (g * config.receivers + number) - config.senders) / config.receivers ≡ g
group_is config g number less =
    let back : config.senders + (g * config.receivers + number) - config.senders ≡ g * config.receivers + number = omega arith in
    ap (λ (k : ℕ). k / config.receivers) back ∙ div-mul-add g config.receivers number less

some_receivers : (s : Served) (config : Config) (p g : ℕ) → IsChainOf s (groups config) (Chain.Take g) → p < passes_of s config → config.senders ≤ p → 0 < config.receivers
some_receivers Served.List config p g ok less far = grind arith
some_receivers Served.Counter config p g ok less far = absurd ok

pub which : (c : Setting) (x : Chain) → IsChain c x → (p : ℕ) → p < passes c → IsOn c x p ⊎ IsOff c x p
which c Chain.Send ok p less = elim (cases_lt p c.config.senders) [
  | inl near ↦ inl record { number = p; inside = near; pass_is = refl; chain_is = sender_chain c.config p near }
  | inr far ↦ inr record { other = subst (λ (y : Chain). IsOther Chain.Send y) (sym (receiver_chain c.config p far)) tt; away = λ q qn same. omega arith }
]
which c (Chain.Take g) ok p less = elim (cases_lt p c.config.senders) [
  | inl near ↦ inr record { other = subst (λ (y : Chain). IsOther (Chain.Take g) y) (sym (sender_chain c.config p near)) tt; away = λ q qn same. omega arith }
  | inr far ↦ here (in_group c.config p (some_receivers c.served c.config p g ok less far) far)
]
  where
    here : InGroup c.config p → IsOn c (Chain.Take g) p ⊎ IsOff c (Chain.Take g) p
    here i = elim (cases_eq g i.group) [
      | inl same ↦ inl record {
        number = i.number;
        inside = i.inside;
        pass_is = i.pass_is ∙ ap (λ (k : ℕ). c.config.senders + (k * c.config.receivers + i.number)) (sym same);
        chain_is = i.chain_is ∙ ap (λ (k : ℕ). Chain.Take k) (sym same);
      }
      | inr ne ↦ inr record {
        other = subst (λ (y : Chain). IsOther (Chain.Take g) y) (sym i.chain_is) ne;
        away = λ q qn same. ne (sym (group_is c.config g q qn) ∙ ap (λ (k : ℕ). (k - c.config.senders) / c.config.receivers) (same ∙ i.pass_is) ∙ group_is c.config i.group i.number i.inside);
      }
    ]
