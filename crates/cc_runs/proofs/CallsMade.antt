-- The history has of each pass exactly those of its calls that have exchanged.
use Rattle.std.proofs.Common.{◌≡◌, ◌≢◌, ◌⊎◌, ℕ, ◌<◌, Bool, true, false, ◌==◌, cond, refl, ap, sym, ◌∙◌, subst, inl, inr, Option, Some, None, List, [], ◌∷◌, ◌++◌, map, arith}
use Rattle.std.specs.List.{filter}
use Rattle.std.proofs.lemmas.Bool.{cases_eq, eq-eqb, ne_eqb, lt-ltb}
use Rattle.std.proofs.lemmas.List.{append-nil}
use Rattle.std.proofs.lemmas.List.Elements.{filter-append}
use Rattle.cc_model.specs.Record.{Side, Record}
use Rattle.cc_model.specs.Items.{is_pass, calls_of}
use Rattle.cc_runs.specs.Names.{Pass, Call, Entry, Answer, Setting, Chain, Stand, Phase, Move}
use Rattle.cc_runs.specs.Words.{groups}
use Rattle.cc_runs.specs.State.{State, chain_of, pass_at, first_node, hold, noted, appended, word_of}
use Rattle.cc_runs.specs.Lines.{operation, goes, enters, decides}
use Rattle.cc_runs.specs.Step.{stepped, advanced}
use Rattle.cc_runs.specs.Run.{IsRun, IsIdle, IsFinished, begins, rests, number_of, moved, opening, nowhere, reached, passes}
use Rattle.cc_runs.specs.OnChain.{calls_on, answers_on}
use Rattle.cc_runs.proofs.Ranges.{in_range}
use Rattle.cc_runs.proofs.ChainRuns.{not_other}
use Rattle.cc_runs.proofs.Chains.Opening.{no_calls}
use Rattle.cc_runs.proofs.Chains.View.{pass_on}
use Rattle.cc_runs.proofs.Chains.Frame.{hold_here, hold_apart}
use Rattle.cc_runs.proofs.Chains.Registers.{HasSide, HasCall}
use Rattle.cc_runs.proofs.Chains.Others.{IsOn, IsOff, which, side_other}
use Rattle.cc_runs.proofs.Chains.Facts.{side_same}
use Rattle.cc_runs.proofs.Chains.Serving.{Chains, chains_hold, chain_is, on_chain}
use Rattle.cc_runs.proofs.Chains.Last.{chosen}
use Rattle.cc_runs.proofs.Chains.ReadAnswers.{named, name_is, other_name, NotOther, calls_one}
use Rattle.cc_runs.specs.CallsMade.{made, to_exchange, CallsOfRuns}
use Rattle.cc_runs.proofs.Leads.{IsAfter, LeadsAfter, goes_after}

-- ---- no step but a begin gives a pass a call to exchange

none_after : (at : Phase) → IsAfter (Unit {0}) at → to_exchange at ≡ []
none_after at never = grind arith

none_left : (c : Setting) (x : Chain) (own : ℕ) (at : Phase) (found : ℕ) → LeadsAfter (Unit {0}) at → to_exchange (goes c x own at found) ≡ []
none_left = goes_after (Unit {0}) (λ (at : Phase). to_exchange at ≡ []) none_after

-- ---- one step

-- a step of the pass itself, whose calls are those of which f holds
pub own_step : (c : Setting) (x : Chain) (own found : ℕ) (f : Entry → Bool) (calls began : List Entry) (at : Phase) → began ≡ filter f calls ++ to_exchange at → ((call : Entry) → at ≡ Phase.Exchange call → f call ≡ true) →
    began ≡ filter f (appended calls (enters at)) ++ to_exchange (goes c x own at found)
own_step c x own found f calls began (Phase.Exchange call) e its =
    let one : filter f (call ∷ []) ≡ call ∷ [] = ap (λ (b : Bool). cond b (call ∷ []) []) (its call refl) in
    let more : filter f (calls ++ call ∷ []) ≡ filter f calls ++ call ∷ [] = filter-append f calls (call ∷ []) ∙ ap (λ (l : List Entry). filter f calls ++ l) one in
    e ∙ sym more ∙ sym (append-nil (filter f (calls ++ call ∷ []))) ∙ ap (λ (l : List Entry). filter f (calls ++ call ∷ []) ++ l) (sym (none_left c x own (Phase.Exchange call) found tt))
own_step c x own found f calls began (Phase.ResetNext call) e its = e
own_step c x own found f calls began (Phase.ResetState call) e its = e
own_step c x own found f calls began at e its = e ∙ ap (λ (l : List Entry). filter f calls ++ l) (sym (none_left c x own at found tt))

-- a step of another pass
other_step : (f : Entry → Bool) (calls : List Entry) (at : Phase) → ((call : Entry) → at ≡ Phase.Exchange call → f call ≡ false) → filter f (appended calls (enters at)) ≡ filter f calls
other_step f calls (Phase.Exchange call) its =
    filter-append f calls (call ∷ []) ∙ ap (λ (b : Bool). filter f calls ++ cond b (call ∷ []) []) (its call refl) ∙ append-nil (filter f calls)
other_step f calls _ its = refl

-- the calls of a chain after a note
calls_noted : (x : Chain) (h : Record) (e : Option Entry) (a : Option Answer) → HasSide x h → calls_on x (noted x h e a) ≡ appended (calls_on x h) e
calls_noted x h e a there = ap (λ (s : Side). s.calls) (side_same x h (record { calls = appended (calls_on x h) e; answers = appended (answers_on x h) a }) there)

-- the calls of the history that a test takes, without their answers
abbrev bare : List (Entry × Option Answer) → List Entry
bare l = map (λ (z : Entry × Option Answer). z.0) l

bare_more : (e : Entry) (a : Option Answer) (l : List (Entry × Option Answer)) (m : List Entry) (b : Bool) → bare l ≡ m → bare (cond b ((e, a) ∷ l) l) ≡ cond b (e ∷ m) m
bare_more e a l m true same = ap (λ (n : List Entry). e ∷ n) same
bare_more e a l m false same = same

chosen_calls : (f : Entry → Bool) (calls : List Entry) (answers : List Answer) → bare (chosen f calls answers) ≡ filter f calls
chosen_calls f [] answers = refl
chosen_calls f (e ∷ calls) [] = bare_more e None (chosen f calls []) (filter f calls) (f e) (chosen_calls f calls [])
chosen_calls f (e ∷ calls) (a ∷ answers) = bare_more e (Some a) (chosen f calls answers) (filter f calls) (f e) (chosen_calls f calls answers)

-- ---- all runs

pub pass_self : (who : Pass) → is_pass who who ≡ true
pass_self (Pass.Sender s) = eq-eqb s s refl
pass_self (Pass.Receiver r) = eq-eqb r r refl

idle_none : (at : Phase) → IsIdle at → to_exchange at ≡ []
idle_none at a = grind arith

finished_none : (at : Phase) → IsFinished at → to_exchange at ≡ []
finished_none at a = grind arith

-- two passes of one chain have two names
two_names : (c : Setting) (x : Chain) (p q : ℕ) → IsOn c x p → IsOn c x q → q ≢ p → is_pass (pass_at c.config p) (pass_at c.config q) ≡ false
two_names c x p q on_p on_q ne =
    let first : pass_at c.config p ≡ named c x on_p.number = ap (λ (z : ℕ). pass_at c.config z) on_p.pass_is ∙ name_is c x on_p.number on_p.inside in
    let second : pass_at c.config q ≡ named c x on_q.number = ap (λ (z : ℕ). pass_at c.config z) on_q.pass_is ∙ name_is c x on_q.number on_q.inside in
    (λ i. is_pass (first i) (second i)) ∙ other_name c x on_p.number on_q.number (λ same. ne (on_q.pass_is ∙ ap (λ (z : ℕ). pass_on c x z) same ∙ sym on_p.pass_is))

-- the calls of a pass are among those of its side
own_calls : (c : Setting) (s : State) (p : ℕ) → p < passes c → NotOther c (chain_of c.config p) s.history →
    bare (calls_of (pass_at c.config p) s.history) ≡ filter (λ (z : Entry). is_pass (pass_at c.config p) z.pass) (calls_on (chain_of c.config p) s.history)
own_calls c s p less none =
    let on : IsOn c (chain_of c.config p) p = on_chain c p less in
    let name : pass_at c.config p ≡ named c (chain_of c.config p) on.number = ap (λ (z : ℕ). pass_at c.config z) on.pass_is ∙ name_is c (chain_of c.config p) on.number on.inside in
    ap (λ (w : Pass). bare (calls_of w s.history)) name ∙ ap bare (calls_one c (chain_of c.config p) s.history on.number on.inside none)
    ∙ chosen_calls (λ (z : Entry). is_pass (named c (chain_of c.config p) on.number) z.pass) (calls_on (chain_of c.config p) s.history) (answers_on (chain_of c.config p) s.history)
    ∙ ap (λ (w : Pass). filter (λ (z : Entry). is_pass w z.pass) (calls_on (chain_of c.config p) s.history)) (sym name)

-- a call that is about to exchange is of its pass
exchange_pass : (c : Setting) (s : State) (k : Chains c s) (q : ℕ) → q < passes c → (call : Entry) → (s.stand q).phase ≡ Phase.Exchange call → call.pass ≡ pass_at c.config q
exchange_pass c s k q less call e =
    let on : IsOn c (chain_of c.config q) q = on_chain c q less in
    let has : HasCall c (chain_of c.config q) on.number (Phase.Exchange call) =
    subst (λ (z : Phase). HasCall c (chain_of c.config q) on.number z) (ap (λ (z : ℕ). (s.stand z).phase) (sym on.pass_is) ∙ e) ((k.holds (chain_of c.config q) (chain_is c q less)).ties.begun on.number on.inside) in
    has.pass_is ∙ ap (λ (z : ℕ). pass_at c.config z) (sym on.pass_is)

module _ (c : Setting) (some : 0 < c.config.bound) (p : ℕ) (less : p < passes c) where
  abbrev side : Chain
  side = chain_of c.config p

  abbrev its : Entry → Bool
  its z = is_pass (pass_at c.config p) z.pass

  abbrev Has : List Entry → State → Type 0
  Has began s = began ≡ filter its (calls_on side s.history) ++ to_exchange (s.stand p).phase

  begin_here : (s : State) (began : List Entry) (call : Call) (known : ℕ) → IsIdle (s.stand p).phase → Has began s →
      (began ++ record { pass = pass_at c.config p; call = call; number = number_of call (s.stand p).begun; known = known } ∷ []) ≡ filter its (calls_on side s.history) ++ to_exchange (begins c.config p call known (s.stand p)).phase
  begin_here s began call known idle has =
      let none : began ≡ filter its (calls_on side s.history) = has ∙ ap (λ (l : List Entry). filter its (calls_on side s.history) ++ l) (idle_none (s.stand p).phase idle) ∙ append-nil (filter its (calls_on side s.history)) in
      ap (λ (l : List Entry). l ++ record { pass = pass_at c.config p; call = call; number = number_of call (s.stand p).begun; known = known } ∷ []) none

  begin_keeps : (s : State) (began : List Entry) (q : ℕ) (call : Call) (known : ℕ) → IsIdle (s.stand q).phase → Has began s → q ≡ p ⊎ q ≢ p →
      Has (cond (q == p) (began ++ record { pass = pass_at c.config q; call = call; number = number_of call (s.stand q).begun; known = known } ∷ []) began) (moved c s (Move.Begin q call known))
  begin_keeps s began q call known idle has (inl same) =
      ap (λ (b : Bool). cond b (began ++ record { pass = pass_at c.config q; call = call; number = number_of call (s.stand q).begun; known = known } ∷ []) began) (eq-eqb q p same)
      ∙ ap (λ (z : ℕ). began ++ record { pass = pass_at c.config z; call = call; number = number_of call (s.stand z).begun; known = known } ∷ []) same
      ∙ begin_here s began call known (subst (λ (z : ℕ). IsIdle (s.stand z).phase) same idle) has
      ∙ ap (λ (z : Stand). filter its (calls_on side s.history) ++ to_exchange z.phase) (sym (ap (λ (z : ℕ). hold s.stand z (begins c.config z call known (s.stand z)) p) same ∙ hold_here s.stand p (begins c.config p call known (s.stand p))))
  begin_keeps s began q call known idle has (inr ne) =
      ap (λ (b : Bool). cond b (began ++ record { pass = pass_at c.config q; call = call; number = number_of call (s.stand q).begun; known = known } ∷ []) began) (ne_eqb q p ne)
      ∙ has ∙ ap (λ (z : Stand). filter its (calls_on side s.history) ++ to_exchange z.phase) (sym (hold_apart s.stand q p (begins c.config q call known (s.stand q)) (λ same. ne (sym same))))

  take_keeps : (s : State) (began : List Entry) (q : ℕ) → IsFinished (s.stand q).phase → Has began s → q ≡ p ⊎ q ≢ p → Has began (moved c s (Move.Take q))
  take_keeps s began q finished has (inl same) =
      has ∙ ap (λ (l : List Entry). filter its (calls_on side s.history) ++ l) (finished_none (s.stand p).phase (subst (λ (z : ℕ). IsFinished (s.stand z).phase) same finished))
      ∙ ap (λ (z : Stand). filter its (calls_on side s.history) ++ to_exchange z.phase) (sym (ap (λ (z : ℕ). hold s.stand z (rests (s.stand z)) p) same ∙ hold_here s.stand p (rests (s.stand p))))
  take_keeps s began q finished has (inr ne) =
      has ∙ ap (λ (z : Stand). filter its (calls_on side s.history) ++ to_exchange z.phase) (sym (hold_apart s.stand q p (rests (s.stand q)) (λ same. ne (sym same))))

  -- the calls of the side after a step of pass q
  calls_after : (s : State) (k : Chains c s) (q : ℕ) → chain_of c.config q ≡ side → calls_on side (stepped c s q).history ≡ appended (calls_on side s.history) (enters (s.stand q).phase)
  calls_after s k q same =
      ap (λ (y : Chain). calls_on side (noted y s.history (enters (s.stand q).phase) (decides c (s.stand q).phase (s.mem (word_of (operation c (chain_of c.config q) (s.stand q).node (s.stand q).phase)))))) same
      ∙ calls_noted side s.history (enters (s.stand q).phase) (decides c (s.stand q).phase (s.mem (word_of (operation c (chain_of c.config q) (s.stand q).node (s.stand q).phase)))) (k.holds side (chain_is c p less)).side_in

  step_own : (s : State) (k : Chains c s) (began : List Entry) → Has began s → Has began (stepped c s p)
  step_own s k began has =
      own_step c side (s.stand p).node (s.mem (word_of (operation c side (s.stand p).node (s.stand p).phase))) its (calls_on side s.history) began (s.stand p).phase has
      (λ call is. ap (λ (w : Pass). is_pass (pass_at c.config p) w) (exchange_pass c s k p less call is) ∙ pass_self (pass_at c.config p))
      ∙ ap (λ (l : List Entry). filter its l ++ to_exchange (advanced c side (s.stand p) (s.mem (word_of (operation c side (s.stand p).node (s.stand p).phase)))).phase) (sym (calls_after s k p refl))
      ∙ ap (λ (z : Stand). filter its (calls_on side (stepped c s p).history) ++ to_exchange z.phase) (sym (hold_here s.stand p (advanced c side (s.stand p) (s.mem (word_of (operation c side (s.stand p).node (s.stand p).phase))))))

  same_stand : (s : State) (q : ℕ) → q ≢ p → (stepped c s q).stand p ≡ s.stand p
  same_stand s q ne = hold_apart s.stand q p (advanced c (chain_of c.config q) (s.stand q) (s.mem (word_of (operation c (chain_of c.config q) (s.stand q).node (s.stand q).phase)))) (λ same. ne (sym same))

  -- another pass of the same side, and one of the other
  same_calls : (s : State) (k : Chains c s) (q : ℕ) → q < passes c → q ≢ p → IsOn c side q ⊎ IsOff c side q → filter its (calls_on side (stepped c s q).history) ≡ filter its (calls_on side s.history)
  same_calls s k q qn ne (inl on) =
      ap (λ (l : List Entry). filter its l) (calls_after s k q on.chain_is)
      ∙ other_step its (calls_on side s.history) (s.stand q).phase
      (λ call is. ap (λ (w : Pass). is_pass (pass_at c.config p) w) (exchange_pass c s k q qn call is) ∙ two_names c side p q (on_chain c p less) on ne)
  same_calls s k q qn ne (inr off) =
      ap (λ (l : List Entry). filter its l) (ap (λ (z : Side). z.calls) (side_other side (chain_of c.config q) s.history _ off.other))

  step_keeps : (s : State) (k : Chains c s) (began : List Entry) (q : ℕ) → q < passes c → Has began s → q ≡ p ⊎ q ≢ p → Has began (stepped c s q)
  step_keeps s k began q qn has (inl same) = subst (λ (z : ℕ). Has began (stepped c s z)) (sym same) (step_own s k began has)
  step_keeps s k began q qn has (inr ne) =
      has ∙ ap (λ (l : List Entry). l ++ to_exchange (s.stand p).phase) (sym (same_calls s k q qn ne (which c side (chain_is c p less) q qn)))
      ∙ ap (λ (z : Stand). filter its (calls_on side (stepped c s q).history) ++ to_exchange z.phase) (sym (same_stand s q ne))

  opened : Has [] (opening c)
  opened = sym (ap (λ (l : List Entry). filter its l ++ to_exchange ((opening c).stand p).phase) (ap (λ (z : Side). z.calls) (no_calls (groups c.config) side)) ∙ ap (λ (z : Stand). to_exchange z.phase) (ap (λ (b : Bool). cond b record { begun = 0; node = first_node c.config p; phase = Phase.Idle } nowhere) (lt-ltb p (passes c) less)))

  pub has_made : (moves : List Move) → IsRun c moves → Has (made c moves p) (reached c moves)
  has_made [] run = opened
  has_made (Move.Begin q call known ∷ earlier) run = begin_keeps (reached c earlier) (made c earlier p) q call known run.1.2 (has_made earlier run.0) (cases_eq q p)
  has_made (Move.Take q ∷ earlier) run = take_keeps (reached c earlier) (made c earlier p) q run.1.1 (has_made earlier run.0) (cases_eq q p)
  has_made (Move.Step q ∷ earlier) run = step_keeps (reached c earlier) (chains_hold c some earlier run.0) (made c earlier p) q run.1.0 (has_made earlier run.0) (cases_eq q p)

pub calls_made : CallsOfRuns
calls_made c checked moves run p less =
    let own : bare (calls_of (pass_at c.config p) (reached c moves).history) ≡ filter (λ (z : Entry). is_pass (pass_at c.config p) z.pass) (calls_on (chain_of c.config p) (reached c moves).history) =
    own_calls c (reached c moves) p less (not_other c (in_range c.config checked).bound.0 moves run (chain_of c.config p)) in
    has_made c (in_range c.config checked).bound.0 p less moves run ∙ ap (λ (l : List Entry). l ++ to_exchange ((reached c moves).stand p).phase) (sym own)
