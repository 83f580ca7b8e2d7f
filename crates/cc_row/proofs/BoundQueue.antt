-- One queue of a row with a bound: what its senders' calls may still add to it.
use Rattle.std.proofs.Common.{◌≡◌, ◌≢◌, ℕ, suc, ◌+◌, ◌-◌, ◌/◌, ◌<◌, ◌≤◌, Bool, true, ◌||◌, cond, lt-ltb, List, [], ◌∷◌, ◌++◌, length, Option, Some, None, Ok, inl, inr, refl, sym, ap, subst, ◌∙◌, arith, length-append, false}
use Rattle.std.proofs.lemmas.Bool.{cases_lt, cases_eq}
use Rattle.std.specs.List.{list_any, filter}
use Rattle.cc_model.specs.Config.{config_fault}
use Rattle.cc_model.specs.Record.{Side}
use Rattle.cc_model.specs.Items.{accepted, accepted_by, accepted_item, sent_item, shuts}
use Rattle.cc_model.specs.Legal.{SendSideAnswer, SendSideAnswers}
use Rattle.cc_runs.specs.State.{State, chain_of, appended, word_of}
use Rattle.cc_runs.specs.Step.{stepped, advanced, stepped_from}
use Rattle.cc_runs.specs.Lines.{enters, decides, goes, operation}
use Rattle.cc_runs.specs.Run.{IsRun, IsIdle, IsOn, reached, begins, rests}
use Rattle.cc_runs.specs.ChainLaws.{IsOut}
use Rattle.cc_runs.specs.CallsMade.{to_exchange}
use Rattle.cc_runs.specs.Counts.{counted}
use Rattle.cc_runs.specs.declared.phase.Phase.{Phase}
use Rattle.cc_runs.specs.declared.phase.Sending.{Sending}
use Rattle.cc_runs.specs.declared.phase.Job.{Job}
use Rattle.cc_runs.specs.declared.phase.Stand.{Stand}
use Rattle.cc_runs.proofs.Ranges.{InRange, in_range}
use Rattle.cc_runs.proofs.CallsMade.{own_step}
use Rattle.cc_runs.proofs.ChainLaws.{out_rank, chain_laws}
use Rattle.cc_runs.proofs.Chains.Frame.{hold_here, hold_apart}
use Rattle.cc_runs.proofs.Chains.Others.{IsOther, side_other}
use Rattle.cc_runs.proofs.Chains.Serving.{Chains, chains_hold, sending_where}
use Rattle.cc_runs.proofs.Chains.Ties.{ghost_of, Holds}
use Rattle.cc_runs.proofs.Chains.View.{pass_on, post_at}
use Rattle.cc_runs.proofs.ListRuns.Facts.{lists}
use Rattle.cc_runs.proofs.ListRuns.Runs.{AfterRun}
use Rattle.cc_runs.proofs.ListRuns.FromChains.{after_runs, of_setting}
use Rattle.cc_runs.proofs.Counts.State.{Late, late_at, either_count, count_now}
use Rattle.cc_row.specs.Names.{Config, Call, Entry, Answer, SendAnswer, Chain, Setting, Served, Move}
use Rattle.cc_row.specs.BoundThreads.{IsBeginOn}
use Rattle.cc_row.specs.BoundRuns.{sends_of, waiting}
use Rattle.cc_row.proofs.Threads.{idle_event, chains}

-- ---- sends that have no answer yet

abbrev pub sends_in : List Entry → ℕ
sends_in [] = 0
sends_in (e ∷ l) = sends_of e.call + sends_in l

pub none_waits : (calls : List Entry) (answers : List Answer) → length calls ≤ length answers → waiting calls answers ≡ 0
none_waits [] answers less = refl
none_waits (e ∷ calls) [] less = absurd (omega (arith, less))
none_waits (e ∷ calls) (a ∷ answers) less = none_waits calls answers (omega (arith, less))

enter_waits : (calls : List Entry) (answers : List Answer) (e : Entry) → length answers ≤ length calls → waiting (calls ++ e ∷ []) answers ≤ waiting calls answers + sends_of e.call
enter_waits [] [] e order = omega arith
enter_waits [] (a ∷ answers) e order = absurd (omega (arith, order))
enter_waits (d ∷ calls) [] e order = omega (arith, enter_waits calls [] e (omega arith))
enter_waits (d ∷ calls) (a ∷ answers) e order = enter_waits calls answers e (omega (arith, order))

enter_items : (calls : List Entry) (answers : List Answer) (e : Entry) → length answers ≤ length calls → length (accepted_by (calls ++ e ∷ []) answers) ≤ length (accepted_by calls answers)
enter_items (d ∷ calls) (a ∷ answers) e order =
    omega (arith, enter_items calls answers e (omega (arith, order)), length-append (accepted_item d a) (accepted_by calls answers), length-append (accepted_item d a) (accepted_by (calls ++ e ∷ []) answers))
enter_items calls answers e order = grind arith

pub item_few : (e : Entry) (a : Answer) → length (accepted_item e a) ≤ sends_of e.call
item_few e (Answer.Send (SendAnswer.Accepted place)) = by e.pass e.call
  where
    by : (pass : _) (call : Call) → length (sent_item pass call e.number place) ≤ sends_of call
    by pass call = grind arith
item_few e _ = omega arith

decide_items : (calls : List Entry) (answers : List Answer) (a : Answer) → length (accepted_by calls (answers ++ a ∷ [])) + waiting calls (answers ++ a ∷ []) ≤ length (accepted_by calls answers) + waiting calls answers
decide_items [] answers a = omega arith
decide_items (d ∷ []) [] a = omega (arith, item_few d a, length-append (accepted_item d a) [])
decide_items (d ∷ e ∷ calls) [] a = omega (arith, item_few d a, length-append (accepted_item d a) [])
decide_items (d ∷ calls) (b ∷ answers) a =
    omega (arith, decide_items calls answers a, length-append (accepted_item d b) (accepted_by calls answers), length-append (accepted_item d b) (accepted_by calls (answers ++ a ∷ [])))

abbrev entered : Option Entry → ℕ
entered None = 0
entered (Some e) = sends_of e.call

side_more : (calls : List Entry) (answers : List Answer) (e : Option Entry) (a : Option Answer) → length answers ≤ length calls
    → length (accepted_by (appended calls e) (appended answers a)) + waiting (appended calls e) (appended answers a) ≤ length (accepted_by calls answers) + waiting calls answers + entered e
side_more calls answers e a order =
    grind (arith, decide_items calls answers, enter_items calls answers, enter_waits calls answers, decide_items)

-- ---- what a queue has accepted, and what this pass and those that wait may add

abbrev pub to_come : Phase → ℕ
to_come at = sends_in (to_exchange at)

abbrev pub may_have : State → (who : ℕ) → ℕ
may_have s who = length (accepted s.history) + waiting s.history.sends.calls s.history.sends.answers + to_come (s.stand who).phase

-- the other senders have no call
abbrev pub Others : Setting → State → (who : ℕ) → Type 0
Others c s who = (p : ℕ) → p ≢ who → chain_of c.config p ≡ Chain.Send → IsIdle (s.stand p).phase

abbrev pub Nobody : Setting → State → Type 0
Nobody c s = (p : ℕ) → chain_of c.config p ≡ Chain.Send → IsIdle (s.stand p).phase

split_exchange : (c : Setting) (x : Chain) (own found : ℕ) (at : Phase) → to_come at ≡ entered (enters at) + to_come (goes c x own at found)
split_exchange c x own found at = ap sends_in (own_step c x own found (λ (z : Entry). true) [] (to_exchange at) at refl (λ e same. refl)) ∙ by (enters at)
  where
    by : (o : Option Entry) → sends_in (filter (λ (z : Entry). true) (appended [] o) ++ to_exchange (goes c x own at found)) ≡ entered o + to_come (goes c x own at found)
    by o = grind arith

takes_none : (what : Served) (x : Chain) (call : Call) → x ≢ Chain.Send → IsOn what x call → sends_of call ≡ 0
takes_none what x call off is = grind arith

module _ (c : Setting) (checked : config_fault c.config ≡ Ok tt) (moves : List Move) where
  abbrev s : State
  s = reached c moves

  ordered : IsRun c moves → length s.history.sends.answers ≤ length s.history.sends.calls
  ordered run = (chain_laws c checked moves run).ordered Chain.Send

  -- a move that isn't the begin of a sender's call
  pub goes_on : (m : Move) (who : ℕ) → IsRun c (m ∷ moves) → (IsBeginOn c m → ⊥) → Others c s who → Others c (reached c (m ∷ moves)) who × (may_have (reached c (m ∷ moves)) who ≤ may_have s who)
  goes_on (Move.Begin p call known) who run off rest = (
    (λ q ne on. subst (λ (z : Stand). IsIdle z.phase) (sym (hold_apart s.stand p q (begins c.config p call known (s.stand p)) (λ is. off (subst (λ (z : ℕ). chain_of c.config z ≡ Chain.Send) is on)))) (rest q ne on)),
    elim (cases_eq who p) [
      | inl is ↦ omega (
        arith,
        ap (λ (z : ℕ). to_come ((reached c (Move.Begin p call known ∷ moves)).stand z).phase) is,
        ap (λ (z : Stand). to_come z.phase) (hold_here s.stand p (begins c.config p call known (s.stand p))),
        takes_none c.served (chain_of c.config p) call off run.1.1,
      )
      | inr ne ↦ omega (arith, ap (λ (z : Stand). to_come z.phase) (hold_apart s.stand p who (begins c.config p call known (s.stand p)) ne))
    ],
  )
  goes_on (Move.Take p) who run off rest = (
    (λ q ne on. elim (cases_eq q p) [
      | inl is ↦ subst (λ (z : Stand). IsIdle z.phase) (sym (ap ((reached c (Move.Take p ∷ moves)).stand) is ∙ hold_here s.stand p (rests (s.stand p)))) tt
      | inr other ↦ subst (λ (z : Stand). IsIdle z.phase) (sym (hold_apart s.stand p q (rests (s.stand p)) other)) (rest q ne on)
    ]),
    elim (cases_eq who p) [
      | inl is ↦ omega (arith, ap (λ (z : ℕ). to_come ((reached c (Move.Take p ∷ moves)).stand z).phase) is, ap (λ (z : Stand). to_come z.phase) (hold_here s.stand p (rests (s.stand p))))
      | inr ne ↦ omega (arith, ap (λ (z : Stand). to_come z.phase) (hold_apart s.stand p who (rests (s.stand p)) ne))
    ],
  )
  goes_on (Move.Step p) who run off rest = elim (chains Chain.Send (chain_of c.config p)) [
    | inl on ↦ elim (cases_eq p who) [
      | inl is ↦ (
        (λ q ne mine. subst (λ (z : Stand). IsIdle z.phase) (sym (hold_apart s.stand p q now (λ same. ne (same ∙ is)))) (rest q ne mine)),
        subst (λ (x : Chain). may_have (stepped_from c s x p (s.stand p)) who ≤ may_have s who) (sym on) (omega (
          arith,
          side_more s.history.sends.calls s.history.sends.answers (enters (s.stand p).phase) (decides c (s.stand p).phase (s.mem (word_of (operation c Chain.Send (s.stand p).node (s.stand p).phase)))) (ordered run.0),
          split_exchange c Chain.Send (s.stand p).node (s.mem (word_of (operation c Chain.Send (s.stand p).node (s.stand p).phase))) (s.stand p).phase,
          ap (λ (z : ℕ). to_come ((stepped_from c s Chain.Send p (s.stand p)).stand z).phase) (sym is),
          ap (λ (z : ℕ). to_come (s.stand z).phase) (sym is),
          ap (λ (z : Stand). to_come z.phase) (hold_here s.stand p (advanced c Chain.Send (s.stand p) (s.mem (word_of (operation c Chain.Send (s.stand p).node (s.stand p).phase))))),
        )),
      )
      | inr ne ↦ absurd (run.1.1 (idle_event (s.stand p).phase (rest p ne on)))
    ]
    | inr other ↦ (
      (λ q ne mine. subst (λ (z : Stand). IsIdle z.phase) (sym (hold_apart s.stand p q now (λ same. apart other (subst (λ (z : ℕ). chain_of c.config z ≡ Chain.Send) same mine)))) (rest q ne mine)),
      let same : (stepped c s p).history.sends ≡ s.history.sends = side_other Chain.Send (chain_of c.config p) s.history _ other in
          omega (arith, ap (λ (z : Side). length (accepted_by z.calls z.answers)) same, ap (λ (z : Side). waiting z.calls z.answers) same, elsewhere),
    )
  ]
    where
      now : Stand
      now = advanced c (chain_of c.config p) (s.stand p) (s.mem (word_of (operation c (chain_of c.config p) (s.stand p).node (s.stand p).phase)))

      apart : {x : Chain} → IsOther Chain.Send x → x ≡ Chain.Send → ⊥
      apart {x} o is = subst (λ (z : Chain). IsOther Chain.Send z) is o

      elsewhere : to_come ((stepped c s p).stand who).phase ≤ to_come (s.stand who).phase
      elsewhere = elim (cases_eq who p) [
        | inl is ↦ omega (
          arith,
          ap (λ (z : ℕ). to_come ((stepped c s p).stand z).phase) is,
          ap (λ (z : ℕ). to_come (s.stand z).phase) is,
          ap (λ (z : Stand). to_come z.phase) (hold_here s.stand p now),
          split_exchange c (chain_of c.config p) (s.stand p).node (s.mem (word_of (operation c (chain_of c.config p) (s.stand p).node (s.stand p).phase))) (s.stand p).phase,
        )
        | inr ne ↦ omega (arith, ap (λ (z : Stand). to_come z.phase) (hold_apart s.stand p who now ne))
      ]

  -- nobody sends, and no sender begins
  pub still_nobody : (m : Move) → IsRun c (m ∷ moves) → (IsBeginOn c m → ⊥) → Nobody c s → Nobody c (reached c (m ∷ moves)) × ((reached c (m ∷ moves)).history.sends ≡ s.history.sends)
  still_nobody (Move.Step p) run off idle = (
    (λ q on. (goes_on (Move.Step p) (suc q) run off (λ z ne. idle z)).0 q (λ is. absurd (omega (arith, is))) on),
    elim (chains Chain.Send (chain_of c.config p)) [
      | inl on ↦ absurd (run.1.1 (idle_event (s.stand p).phase (idle p on)))
      | inr other ↦ side_other Chain.Send (chain_of c.config p) s.history _ other
    ],
  )
  still_nobody e run off idle =
      ((λ q on. (goes_on e (suc q) run off (λ z ne. idle z)).0 q (λ is. absurd (omega (arith, is))) on), refl)

  -- a pass begins, and nobody else has a call
  pub begins_alone : (p : ℕ) (call : Call) (known : ℕ) → Nobody c s → Others c (reached c (Move.Begin p call known ∷ moves)) p × (may_have (reached c (Move.Begin p call known ∷ moves)) p ≡ length (accepted s.history) + waiting s.history.sends.calls s.history.sends.answers + sends_of call)
  begins_alone p call known idle = (
    (λ q ne on. subst (λ (z : Stand). IsIdle z.phase) (sym (hold_apart s.stand p q (begins c.config p call known (s.stand p)) ne)) (idle q on)),
    omega (arith, ap (λ (z : Stand). to_come z.phase) (hold_here s.stand p (begins c.config p call known (s.stand p)))),
  )

-- ---- a queue at which nobody sends

module _ (c : Config) (checked : config_fault c ≡ Ok tt) (moves : List Move) (run : IsRun (lists c) moves) (idle : Nobody (lists c) (reached (lists c) moves)) where
  fits : InRange c
  fits = in_range c checked

  abbrev t : State
  t = reached (lists c) moves

  ch : Chains (lists c) (reached (lists c) moves)
  ch = chains_hold (lists c) (in_range c checked).bound.0 moves run

  whole : AfterRun c moves
  whole = after_runs c (in_range c checked) moves run

  never : (p : ℕ) (job : Job) (service : Sending) → (t.stand p).phase ≡ Phase.Sending job service → ⊥
  never p job service stands = grind (
    arith,
    stands,
    idle p,
    sending_where (lists c) (reached (lists c) moves) ch p job service,
    whole.posts.outside p,
  )

  -- each item is counted
  all_counted : length (accepted t.history) ≤ counted t
  all_counted = elim (either_count c (reached (lists c) moves) whole.parts) [
    | inl now ↦ omega (arith, count_now c (reached (lists c) moves) whole.parts now)
    | inr late ↦ absurd (busy _ (late_at whole.parts.duty.e_call whole.parts.duty.from (t.stand whole.parts.duty.e_pass).phase late.0 late.1))
  ]
    where
      busy : (count : ℕ) → Late (t.stand whole.parts.duty.e_pass).phase count → ⊥
      busy count (Late.last job node stands) = never whole.parts.duty.e_pass job (Sending.WriteLast count node) stands
      busy count (Late.then job node stands) = never whole.parts.duty.e_pass job (Sending.WriteCount count node) stands

pub idle_counted : (c : Setting) → c.served ≡ Served.List → config_fault c.config ≡ Ok tt → (moves : List Move) → IsRun c moves → Nobody c (reached c moves) → length (accepted (reached c moves).history) ≤ counted (reached c moves)
idle_counted c serves checked moves run idle =
    of_setting (λ (z : Setting). config_fault z.config ≡ Ok tt → IsRun z moves → Nobody z (reached z moves) → length (accepted (reached z moves).history) ≤ counted (reached z moves)) c serves (λ ok r i. all_counted c.config ok moves r i) checked run idle

-- and each call is answered
pub idle_answered : (c : Setting) → config_fault c.config ≡ Ok tt → (moves : List Move) → IsRun c moves → Nobody c (reached c moves) → length (reached c moves).history.sends.calls ≤ length (reached c moves).history.sends.answers
idle_answered c checked moves run idle =
    let w : Holds c Chain.Send (reached c moves) = (chains_hold c (in_range c.config checked).bound.0 moves run).holds Chain.Send tt in
    elim (cases_lt (ghost_of w).marked (ghost_of w).calls) [
      | inl some ↦
          let n : ℕ = (ghost_of w).pass_of (ghost_of w).marked in
          let rank : 3 ≤ (post_at Chain.Send ((reached c moves).stand (pass_on c Chain.Send ((ghost_of w).pass_of (ghost_of w).marked)))).rank = w.inv.calls.open_low (ghost_of w).marked (omega arith) some in
          let low : (post_at Chain.Send ((reached c moves).stand (pass_on c Chain.Send ((ghost_of w).pass_of (ghost_of w).marked)))).rank ≤ 2 =
          out_rank Chain.Send ((reached c moves).stand (pass_on c Chain.Send ((ghost_of w).pass_of (ghost_of w).marked))).node ((reached c moves).stand (pass_on c Chain.Send ((ghost_of w).pass_of (ghost_of w).marked))).phase
          (is_out ((reached c moves).stand (pass_on c Chain.Send ((ghost_of w).pass_of (ghost_of w).marked))).phase (idle (pass_on c Chain.Send ((ghost_of w).pass_of (ghost_of w).marked)) (on_send c ((ghost_of w).pass_of (ghost_of w).marked) (w.ties.pass_in (ghost_of w).marked some)))) in
          absurd (omega (arith, rank, low))
      | inr all ↦ omega (arith, all, w.inv.calls.in_order)
    ]
  where
    is_out : (at : Phase) → IsIdle at → IsOut at
    is_out at is = grind arith

    on_send : (c : Setting) (n : ℕ) → n < c.config.senders → chain_of c.config n ≡ Chain.Send
    on_send c n less = ap (λ (b : Bool). cond b Chain.Send (Chain.Take ((n - c.config.senders) / c.config.receivers))) (lt-ltb n c.config.senders less)

-- ---- a queue that is shut accepts nothing more

dead_item : (cfg : Config) (count n : ℕ) (e : Entry) (a : Answer) → SendSideAnswer cfg count true n e.call a → length (accepted_item e a) ≡ 0
dead_item cfg count n e (Answer.Send (SendAnswer.Accepted place)) legal = absurd (closed e.call legal)
  where
    closed : (call : Call) → SendSideAnswer cfg count true n call (Answer.Send (SendAnswer.Accepted place)) → ⊥
    closed call h = grind arith
dead_item cfg count n e _ legal = refl

dead : (cfg : Config) (count : ℕ) (calls : List Entry) (answers : List Answer) → SendSideAnswers cfg count true calls answers → length (accepted_by calls answers) ≡ 0
dead cfg count (e ∷ calls) (a ∷ answers) legal =
    omega (arith, length-append (accepted_item e a) (accepted_by calls answers), dead_item cfg count e.known e a legal.0, dead cfg (count + length (accepted_item e a)) calls answers legal.1)
dead cfg count _ _ legal = refl

pub frozen : (cfg : Config) (count : ℕ) (shut : Bool) (calls more : List Entry) (answers later : List Answer) → SendSideAnswers cfg count shut (calls ++ more) (answers ++ later) → (shut || list_any shuts answers) ≡ true → length answers ≤ length calls
    → length (accepted_by (calls ++ more) (answers ++ later)) ≤ length (accepted_by calls answers)
frozen cfg count true [] more [] later legal is order = omega (arith, dead cfg count more later legal)
frozen cfg count false [] more [] later legal is order = absurd (cc)
frozen cfg count shut [] more (a ∷ answers) later legal is order = absurd (omega (arith, order))
frozen cfg count true (d ∷ calls) more [] later legal is order = omega (arith, dead cfg count (d ∷ (calls ++ more)) later legal)
frozen cfg count false (d ∷ calls) more [] later legal is order = absurd (cc)
frozen cfg count shut (d ∷ calls) more (a ∷ answers) later legal is order = omega (
  arith,
  length-append (accepted_item d a) (accepted_by calls answers),
  length-append (accepted_item d a) (accepted_by (calls ++ more) (answers ++ later)),
  frozen cfg (count + length (accepted_item d a)) (shut || shuts a) calls more answers later legal.1 (either shut (shuts a) (list_any shuts answers) is) (omega (arith, order)),
)
  where
    either : (x y z : Bool) → (x || (y || z)) ≡ true → ((x || y) || z) ≡ true
    either true y z e = refl
    either false y z e = e
