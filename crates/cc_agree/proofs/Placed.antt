-- The calls of an order of a run, in the history of the run: each is the call of a pass with a number, as the log counts them.
use Rattle.std.proofs.Common.{◌≡◌, ℕ, ◌+◌, ◌*◌, ◌-◌, ◌/◌, ◌<◌, ◌≤◌, Bool, true, false, cond, nat_lt, List, [], ◌∷◌, ◌++◌, length, Option, Some, Ok, refl, sym, ap, ◌∙◌, subst, arith, append_assoc, length-append}
use Rattle.std.proofs.lemmas.Bool.{eq-eqb, lt-ltb, le-ltb, eqb-true, ltb-false}
use Rattle.std.proofs.lemmas.Option.{slice_get-map}
use Rattle.std.proofs.lemmas.List.{length-map}
use Rattle.std.specs.Option.{option_map}
use Rattle.std.specs.List.{slice_get}
use Rattle.cc_model.specs.Config.{config_fault, group_of}
use Rattle.cc_model.specs.Record.{Side, Record, empty}
use Rattle.cc_model.specs.Items.{IsPrefix, Begins, is_pass, calls_of, calls_made_by}
use Rattle.cc_model.specs.Legal.{IsSenders, IsReceivers}
use Rattle.cc_model.proofs.Grows.{get_front, get_last}
use Rattle.cc_runs.specs.State.{chain_of, pass_at, noted}
use Rattle.cc_runs.specs.OnChain.{IsThere, calls_on, answers_on}
use Rattle.cc_runs.specs.Run.{IsRun, passes, passes_of, reached, history_of}
use Rattle.cc_runs.specs.CallsMade.{made, to_exchange}
use Rattle.cc_runs.specs.Linearizable.{Effect, replay, AnswersAfter, IsExact, IsOfChain, in_order, IsOnTime, IsTimely, IsLinearization}
use Rattle.cc_runs.proofs.Ranges.{in_range}
use Rattle.cc_runs.proofs.RunPrefixes.{prefix_self, prefix_more, begins_noted}
use Rattle.cc_runs.proofs.CallsMade.{calls_made}
use Rattle.cc_runs.proofs.ChainRuns.{not_other}
use Rattle.cc_runs.proofs.Chains.Last.{chosen}
use Rattle.cc_runs.proofs.Chains.Others.{IsOn, sender_chain, receiver_chain}
use Rattle.cc_runs.proofs.Chains.Serving.{on_chain}
use Rattle.cc_runs.proofs.Chains.ReadAnswers.{named, name_is, calls_one}
use Rattle.cc_runs.proofs.ListRuns.Decided.{group_mine}
use Rattle.cc_runs.proofs.Linear.Replay.{replay_groups, replay_even}
use Rattle.cc_agree.specs.Names.{Pass, Call, Entry, Answer, Config, Setting, Served, Chain, Move}
use Rattle.cc_agree.proofs.Lists.{count, length-chosen, nth_chosen}

-- ---- the numbers of passes

abbrev pub pass_no : Config → Pass → ℕ
pass_no cfg (Pass.Sender s) = s - 1
pass_no cfg (Pass.Receiver r) = cfg.senders + (r - 1)

-- a call of the chain is of a pass of it
pub record IsOf (c : Setting) (x : Chain) (e : Entry) : Type 0 where
  pub less : pass_no c.config e.pass < passes c
  pub chain_is : chain_of c.config (pass_no c.config e.pass) ≡ x
  pub pass_is : pass_at c.config (pass_no c.config e.pass) ≡ e.pass

of_sender : (c : Setting) → c.served ≡ Served.List → (s number known : ℕ) (call : Call) → (1 ≤ s) × (s ≤ c.config.senders) → IsOf c Chain.Send (record { pass = Pass.Sender s; call = call; number = number; known = known })
of_sender c serves s number known call within =
    let low : s - 1 < c.config.senders = omega (arith, within.0, within.1) in
    let back : s - 1 + 1 ≡ s = omega (arith, within.0) in
    let all : passes c ≡ c.config.senders + c.config.groups * c.config.receivers = ap (λ (z : Served). passes_of z c.config) serves in
    record {
      less = omega (arith, low, all);
      chain_is = sender_chain c.config (s - 1) low;
      pass_is = ap (λ (b : Bool). cond b (Pass.Sender (s - 1 + 1)) (Pass.Receiver (s - 1 - c.config.senders + 1))) (lt-ltb (s - 1) c.config.senders low) ∙ ap Pass.Sender back;
    }

of_receiver : (c : Setting) → c.served ≡ Served.List → (g r number known : ℕ) (call : Call) → (1 ≤ r) × (r ≤ c.config.groups * c.config.receivers) × (group_of c.config r ≡ g)
    → IsOf c (Chain.Take g) (record { pass = Pass.Receiver r; call = call; number = number; known = known })
of_receiver c serves g r number known call within =
    let p : ℕ = c.config.senders + (r - 1) in
    let far : c.config.senders ≤ c.config.senders + (r - 1) = omega arith in
    let low : r - 1 < c.config.groups * c.config.receivers = omega (arith, within.0, within.1) in
    let all : passes c ≡ c.config.senders + c.config.groups * c.config.receivers = ap (λ (z : Served). passes_of z c.config) serves in
    let left : c.config.senders + (r - 1) - c.config.senders ≡ r - 1 = omega arith in
    let back : c.config.senders + (r - 1) - c.config.senders + 1 ≡ r = omega (arith, within.0) in
    record {
      less = omega (arith, low, all);
      chain_is = receiver_chain c.config (c.config.senders + (r - 1)) far ∙ ap (λ (n : ℕ). Chain.Take (n / c.config.receivers)) left ∙ ap Chain.Take within.2;
      pass_is = ap (λ (b : Bool). cond b (Pass.Sender (c.config.senders + (r - 1) + 1)) (Pass.Receiver (c.config.senders + (r - 1) - c.config.senders + 1))) (le-ltb (c.config.senders + (r - 1)) c.config.senders far) ∙ ap Pass.Receiver back;
    }

by_sender : (c : Setting) → c.served ≡ Served.List → (pass : Pass) (call : Call) (number known : ℕ) → IsSenders c.config pass call → IsOf c Chain.Send (record { pass = pass; call = call; number = number; known = known })
by_sender c serves (Pass.Sender s) (Call.Send body) number known is = of_sender c serves s number known (Call.Send body) is
by_sender c serves (Pass.Sender s) Call.Close number known is = of_sender c serves s number known Call.Close is
by_sender c serves (Pass.Sender s) Call.Take number known is = absurd is
by_sender c serves (Pass.Receiver r) call number known is = absurd is

by_receiver : (c : Setting) → c.served ≡ Served.List → (g : ℕ) (pass : Pass) (call : Call) (number known : ℕ) → IsReceivers c.config g pass call → IsOf c (Chain.Take g) (record { pass = pass; call = call; number = number; known = known })
by_receiver c serves g (Pass.Receiver r) Call.Take number known is = of_receiver c serves g r number known Call.Take is
by_receiver c serves g (Pass.Receiver r) (Call.Send body) number known is = absurd is
by_receiver c serves g (Pass.Receiver r) Call.Close number known is = absurd is
by_receiver c serves g (Pass.Sender s) call number known is = absurd is

pub is_of : (c : Setting) → c.served ≡ Served.List → (x : Chain) (e : Entry) → IsOfChain c.config x e → IsOf c x e
is_of c serves Chain.Send e is = by_sender c serves e.pass e.call e.number e.known is
is_of c serves (Chain.Take g) e is = by_receiver c serves g e.pass e.call e.number e.known is

pass_self : (who : Pass) → is_pass who who ≡ true
pass_self (Pass.Sender s) = eq-eqb s s refl
pass_self (Pass.Receiver r) = eq-eqb r r refl

-- a pass is the one with its number
no_pass : (c : Setting) (p : ℕ) (b : Bool) → nat_lt p c.config.senders ≡ b → pass_no c.config (cond b (Pass.Sender (p + 1)) (Pass.Receiver (p - c.config.senders + 1))) ≡ p
no_pass c p true is = omega arith
no_pass c p false is = let far : c.config.senders ≤ p = ltb-false p c.config.senders is in omega (arith, far)

same_pass : (a b : Pass) → is_pass a b ≡ true → a ≡ b
same_pass (Pass.Sender s) (Pass.Sender t) is = ap Pass.Sender (eqb-true s t is)
same_pass (Pass.Receiver s) (Pass.Receiver t) is = ap Pass.Receiver (eqb-true s t is)
same_pass (Pass.Sender s) (Pass.Receiver t) is = absurd (cc)
same_pass (Pass.Receiver s) (Pass.Sender t) is = absurd (cc)

-- ---- the calls of a pass in the history of a run

-- the calls of pass p
abbrev pub its : Setting → ℕ → Entry → Bool
its c p e = is_pass (pass_at c.config p) e.pass

pub its_own : (c : Setting) (x : Chain) (e : Entry) → IsOf c x e → its c (pass_no c.config e.pass) e ≡ true
its_own c x e of = ap (λ (z : Pass). is_pass z e.pass) of.pass_is ∙ pass_self e.pass

pub its_pass : (c : Setting) (p : ℕ) (e : Entry) → its c p e ≡ true → pass_no c.config e.pass ≡ p
its_pass c p e is = ap (pass_no c.config) (sym (same_pass (pass_at c.config p) e.pass is)) ∙ no_pass c p (nat_lt p c.config.senders) refl

module _ (c : Setting) (checked : config_fault c.config ≡ Ok tt) (moves : List Move) (run : IsRun c moves) (p : ℕ) (less : p < passes c) where
  abbrev h : Record
  h = history_of c moves

  abbrev x : Chain
  x = chain_of c.config p

  pub calls_here : calls_of (pass_at c.config p) (history_of c moves) ≡ chosen (its c p) (calls_on (chain_of c.config p) (history_of c moves)) (answers_on (chain_of c.config p) (history_of c moves))
  calls_here =
      let on : IsOn c (chain_of c.config p) p = on_chain c p less in
      let name : pass_at c.config p ≡ named c (chain_of c.config p) on.number = ap (λ (z : ℕ). pass_at c.config z) on.pass_is ∙ name_is c (chain_of c.config p) on.number on.inside in
      ap (λ (w : Pass). calls_of w h) name ∙ calls_one c x h on.number on.inside (not_other c (in_range c.config checked).bound.0 moves run x)
      ∙ ap (λ (w : Pass). chosen (λ (z : Entry). is_pass w z.pass) (calls_on x h) (answers_on x h)) (sym name)

  -- the history has no more calls of the pass than it began
  pub few_of : count (its c p) (calls_on (chain_of c.config p) (history_of c moves)) ≤ length (made c moves p)
  few_of = omega (
    arith,
    ap length (calls_made c checked moves run p less),
    length-append (calls_made_by (pass_at c.config p) h) (to_exchange ((reached c moves).stand p).phase),
    length-map (calls_of (pass_at c.config p) h) (λ (z : Entry × Option Answer). z.0),
    ap length calls_here,
    length-chosen (its c p) (calls_on x h) (answers_on x h),
  )

  -- the call with this number
  pub nth_made : (front rest : List Entry) (e : Entry) → calls_on (chain_of c.config p) (history_of c moves) ≡ front ++ e ∷ rest → its c p e ≡ true → slice_get (made c moves p) (count (its c p) front) ≡ Some e
  nth_made front rest e split mine =
      let n : ℕ = count (its c p) front in
      let there : slice_get (calls_of (pass_at c.config p) h) (count (its c p) front) ≡ Some (e, slice_get (answers_on x h) (length front)) = ap (λ (l : List (Entry × Option Answer)). slice_get l (count (its c p) front)) calls_here
      ∙ ap (λ (l : List Entry). slice_get (chosen (its c p) l (answers_on x h)) (count (its c p) front)) split ∙ nth_chosen (its c p) front e rest (answers_on x h) mine in
      let call : slice_get (calls_made_by (pass_at c.config p) h) (count (its c p) front) ≡ Some e = slice_get-map (λ (z : Entry × Option Answer). z.0) (calls_of (pass_at c.config p) h) (count (its c p) front) ∙ ap (option_map (λ (z : Entry × Option Answer). z.0)) there in
      ap (λ (l : List Entry). slice_get l (count (its c p) front)) (calls_made c checked moves run p less)
      ∙ get_front (calls_made_by (pass_at c.config p) h) (to_exchange ((reached c moves).stand p).phase) (count (its c p) front) e call

-- ---- the history of an order

-- a call more
pub calls_snoc : (x : Chain) (h : Record) (e : Entry) (a : Answer) (cfg : Config) → length h.takes ≡ cfg.groups → IsThere cfg x → calls_on x (noted x h (Some e) (Some a)) ≡ calls_on x h ++ e ∷ []
calls_snoc Chain.Send h e a cfg many there = refl
calls_snoc (Chain.Take g) h e a cfg many there = ap (λ (s : Side). s.calls) (group_mine h g _ (omega (arith, there, many)))

pub answers_snoc : (x : Chain) (h : Record) (e : Entry) (a : Answer) (cfg : Config) → length h.takes ≡ cfg.groups → IsThere cfg x → answers_on x (noted x h (Some e) (Some a)) ≡ answers_on x h ++ a ∷ []
answers_snoc Chain.Send h e a cfg many there = refl
answers_snoc (Chain.Take g) h e a cfg many there = ap (λ (s : Side). s.answers) (group_mine h g _ (omega (arith, there, many)))

pub even_on : (x : Chain) (cfg : Config) (order : List Effect) → IsThere cfg x → length (calls_on x (replay cfg.groups order)) ≡ length (answers_on x (replay cfg.groups order))
even_on Chain.Send cfg order there = (replay_even cfg.groups order).0
even_on (Chain.Take g) cfg order there = (replay_even cfg.groups order).1 g (omega (arith, there, replay_groups cfg.groups order))

pub begins_calls : (x : Chain) (h later : Record) → Begins h later → IsPrefix (calls_on x h) (calls_on x later)
begins_calls Chain.Send h later b = b.sends.calls
begins_calls (Chain.Take g) h later b = (b.takes g).calls

pub begins_answers : (x : Chain) (h later : Record) → Begins h later → IsPrefix (answers_on x h) (answers_on x later)
begins_answers Chain.Send h later b = b.sends.answers
begins_answers (Chain.Take g) h later b = (b.takes g).answers

-- an order that continues
pub calls_grow : (n : ℕ) (x : Chain) (after before : List Effect) → IsPrefix (calls_on x (replay n before)) (calls_on x (replay n (after ++ before)))
calls_grow n x [] before = prefix_self (calls_on x (replay n before))
calls_grow n x (e ∷ after) before = prefix_more (calls_on x (replay n before)) (calls_on x (replay n (after ++ before))) (calls_on x (replay n (e ∷ (after ++ before)))) (calls_grow n x after before)
    (begins_calls x (replay n (after ++ before)) (replay n (e ∷ (after ++ before))) (begins_noted e.chain (replay n (after ++ before)) (Some e.entry) (Some e.answer)))

pub answers_grow : (n : ℕ) (x : Chain) (after before : List Effect) → IsPrefix (answers_on x (replay n before)) (answers_on x (replay n (after ++ before)))
answers_grow n x [] before = prefix_self (answers_on x (replay n before))
answers_grow n x (e ∷ after) before = prefix_more (answers_on x (replay n before)) (answers_on x (replay n (after ++ before))) (answers_on x (replay n (e ∷ (after ++ before)))) (answers_grow n x after before)
    (begins_answers x (replay n (after ++ before)) (replay n (e ∷ (after ++ before))) (begins_noted e.chain (replay n (after ++ before)) (Some e.entry) (Some e.answer)))

pub exact_at : (cfg : Config) (after before : List Effect) → IsExact cfg (after ++ before) → IsExact cfg before
exact_at cfg [] before exact = exact
exact_at cfg (e ∷ after) before exact = exact_at cfg after before exact.0

-- ---- the calls of a linearization

on_time : (c : Setting) (moves : List Move) (effects : List (List Effect)) → IsTimely c moves effects → IsOnTime (history_of c moves) (replay c.config.groups (in_order effects))
on_time c [] [] t = record { calls = λ x. prefix_self (calls_on x (empty c.config.groups)); answers = λ x. prefix_self (answers_on x (empty c.config.groups)) }
on_time c [] (now ∷ before) t = absurd t
on_time c (m ∷ earlier) [] t = absurd t
on_time c (m ∷ earlier) (now ∷ before) t = t.1

-- a call of the order is one of the history, at this place of its chain, and answered
pub record Placed (c : Setting) (moves : List Move) (e : Effect) (before : List Effect) : Type 0 where
  pub there : IsThere c.config e.chain
  pub of : IsOf c e.chain e.entry
  pub answers : AnswersAfter c.config (replay c.config.groups before) e.chain e.entry.call e.answer
  pub rest : List Entry
  pub split : calls_on e.chain (history_of c moves) ≡ calls_on e.chain (replay c.config.groups before) ++ e.entry ∷ rest
  pub answer : slice_get (answers_on e.chain (history_of c moves)) (length (calls_on e.chain (replay c.config.groups before))) ≡ Some e.answer

pub placed : (c : Setting) → c.served ≡ Served.List → (moves : List Move) (effects : List (List Effect)) → IsLinearization c moves effects → (after : List Effect) (e : Effect) (before : List Effect) → in_order effects ≡ after ++ e ∷ before
    → Placed c moves e before
placed c serves moves effects l after e before split =
    let cfg : Config = c.config in
    let n : ℕ = c.config.groups in
    let x : Chain = e.chain in
    let r : Record = replay c.config.groups before in
    let exact : IsExact c.config (e ∷ before) = exact_at c.config after (e ∷ before) (subst (λ (o : List Effect). IsExact c.config o) split l.exact) in
    let snoc : calls_on e.chain (replay c.config.groups (e ∷ before)) ≡ calls_on e.chain (replay c.config.groups before) ++ e.entry ∷ [] = calls_snoc e.chain (replay c.config.groups before) e.entry e.answer c.config (replay_groups c.config.groups before) exact.1 in
    let told : answers_on e.chain (replay c.config.groups (e ∷ before)) ≡ answers_on e.chain (replay c.config.groups before) ++ e.answer ∷ [] = answers_snoc e.chain (replay c.config.groups before) e.entry e.answer c.config (replay_groups c.config.groups before) exact.1 in
    let time : IsOnTime (history_of c moves) (replay c.config.groups (in_order effects)) = on_time c moves effects l.timely in
    let calls : IsPrefix (calls_on e.chain (replay c.config.groups (e ∷ before))) (calls_on e.chain (history_of c moves)) =
    prefix_more (calls_on e.chain (replay c.config.groups (e ∷ before))) (calls_on e.chain (replay c.config.groups (after ++ e ∷ before))) (calls_on e.chain (history_of c moves)) (calls_grow c.config.groups e.chain after (e ∷ before))
    (subst (λ (o : List Effect). IsPrefix (calls_on e.chain (replay c.config.groups o)) (calls_on e.chain (history_of c moves))) split (time.calls e.chain)) in
    let answers : IsPrefix (answers_on e.chain (replay c.config.groups (e ∷ before))) (answers_on e.chain (history_of c moves)) =
    subst (λ (z : List Answer). IsPrefix (answers_on e.chain (replay c.config.groups (e ∷ before))) z) (ap (λ (o : List Effect). answers_on e.chain (replay c.config.groups o)) (sym split) ∙ l.whole e.chain) (answers_grow c.config.groups e.chain after (e ∷ before)) in
    record {
      there = exact.1;
      of = is_of c serves e.chain e.entry exact.2;
      answers = exact.3;
      rest = calls.0;
      split = calls.1 ∙ ap (λ (z : List Entry). z ++ calls.0) snoc ∙ append_assoc (calls_on e.chain (replay c.config.groups before)) (e.entry ∷ []) calls.0;
      answer =
          ap (λ (z : List Answer). slice_get z (length (calls_on e.chain (replay c.config.groups before)))) (answers.1 ∙ ap (λ (z : List Answer). z ++ answers.0) told)
          ∙ get_front (answers_on e.chain (replay c.config.groups before) ++ e.answer ∷ []) answers.0 (length (calls_on e.chain (replay c.config.groups before))) e.answer
          (ap (λ (k : ℕ). slice_get (answers_on e.chain (replay c.config.groups before) ++ e.answer ∷ []) k) (even_on e.chain c.config before exact.1) ∙ get_last (answers_on e.chain (replay c.config.groups before)) e.answer);
    }
