-- Each fault leaves a log without a legal order.
use Rattle.std.proofs.Common.{◌≡◌, ◌≢◌, ℕ, false, inl, inr, List, Option, sym, ap, ◌∙◌, subst, ◌⊎◌, arith}
use Rattle.cc_judge.specs.Names.{Act, Call, Rules, Step, Stay, Kind, Fault}
use Rattle.cc_judge.specs.Order.{EndsBefore, IsOrder}
use Rattle.cc_judge.specs.Faults.{Differ, NeverSent, TakenBeforeSent, TakenTwice, ShowsClosed, WasOpen, Reopened, ClosedEarly}
use Rattle.cc_judge.specs.Table.{IsTable}
use Rattle.cc_judge.specs.Verdict.{FaultsHaveNoOrder}
use Rattle.cc_judge.proofs.Places.{In, before_first, in_order}
use Rattle.cc_judge.proofs.Orders.{returned_step, sent_in_log, closed_in_log, in_time, one_take}
use Rattle.cc_judge.proofs.Shut.{WantsOpen, closed_first, not_after, send_of, accepted_step, shown_step}
use Rattle.cc_judge.proofs.Full.{not_full}
use Rattle.cc_judge.proofs.Many.{too_many}
use Rattle.cc_judge.proofs.Counted.{counts_have_no_order}

pub never_sent : (rules : Rules) (calls : List Call) (take : ℕ) (order : List Step) → NeverSent calls take → IsOrder rules calls order → ⊥
never_sent rules calls take order f o =
    let t = returned_step rules calls order o take (Act.Took f.item) (λ is. cc) f.took in
    let e = send_of rules calls order o t.step f.item t.within t.act_is in
    f.none e.step.place (sent_in_log rules calls order o e.step f.item (before_first e.step t.step order e.before) e.act_is)

pub taken_before_sent : (rules : Rules) (calls : List Call) (send take : ℕ) (order : List Step) → Differ calls → TakenBeforeSent calls send take → IsOrder rules calls order → ⊥
taken_before_sent rules calls send take order differ f o =
    let t = returned_step rules calls order o take (Act.Took f.passed.item) (λ is. cc) f.passed.took in
    let e = send_of rules calls order o t.step f.passed.item t.within t.act_is in
    let sent = sent_in_log rules calls order o e.step f.passed.item (before_first e.step t.step order e.before) e.act_is in
    let here : e.step.place ≡ send = differ f.passed.item e.step.place send sent f.passed.sent in
    in_time rules calls order o e.step t.step e.before (subst (λ (x : ℕ × ℕ). EndsBefore calls x.0 x.1) (λ i. (sym t.place_is i, sym here i)) f.early)

pub taken_twice : (rules : Rules) (calls : List Call) (first second : ℕ) (order : List Step) → Differ calls → TakenTwice calls first second → IsOrder rules calls order → ⊥
taken_twice rules calls first second order differ f o =
    let s = returned_step rules calls order o first (Act.Took f.item) (λ is. cc) f.took in
    let t = returned_step rules calls order o second (Act.Took f.item) (λ is. cc) f.took_again in
    let same = one_take rules calls order o differ f.item s.step t.step s.within t.within s.act_is t.act_is in
    f.apart (sym s.place_is ∙ ap (λ (x : Step). x.place) same ∙ t.place_is)

-- a send that found the queue open has a step that wants it so
open_step : (rules : Rules) (calls : List Call) (send : ℕ) (order : List Step) → Differ calls → IsOrder rules calls order → WasOpen calls send → (s : Step) × In s order × (s.place ≡ send) × WantsOpen s.act
open_step rules calls send order differ o (inl full) =
    let s = returned_step rules calls order o send Act.Full (λ is. cc) full in
    (s.step, s.within, s.place_is, inr s.act_is)
open_step rules calls send order differ o (inr sent) =
    let s = accepted_step rules calls order o differ send sent.0 sent.1 in
    (s.step, s.within, s.place_is, inl (s.item, s.act_is))

wants_other : (act : Act) → ShowsClosed act → WantsOpen act → ⊥
wants_other act shows wants = grind arith

pub reopened : (rules : Rules) (calls : List Call) (closed send : ℕ) (order : List Step) → Differ calls → Reopened rules calls closed send → IsOrder rules calls order → ⊥
reopened rules calls closed send order differ f o =
    let h = shown_step rules calls order o closed f.was_closed in
    let s = open_step rules calls send order differ o f.was_open in
    let shows : ShowsClosed h.step.act = subst ShowsClosed (sym h.act_is) f.was_closed.shows in
    elim (in_order h.step s.0 order h.within s.1) [
      | inl same ↦ wants_other s.0.act (subst (λ (x : Step). ShowsClosed x.act) same shows) s.3
      | inr placed ↦ elim placed [
        | inl right ↦ not_after false order h.step s.0 (o.closing f.judged) right shows s.3
        | inr wrong ↦ in_time rules calls order o s.0 h.step wrong (subst (λ (x : ℕ × ℕ). EndsBefore calls x.0 x.1) (λ i. (sym h.place_is i, sym s.2 i)) f.after)
      ]
    ]

answers_return : (act : Act) → ((act ≡ Act.Closed) ⊎ (act ≡ Act.Ended)) → act ≢ Act.Taking
answers_return act answers taking = grind arith

pub closed_early : (rules : Rules) (calls : List Call) (call : ℕ) (order : List Step) → ClosedEarly rules calls call → IsOrder rules calls order → ⊥
closed_early rules calls call order f o =
    let t = returned_step rules calls order o call f.act (answers_return f.act f.answered) f.returned in
    let e = closed_first order t.step (o.closing f.judged) t.within (subst (λ (a : Act). (a ≡ Act.Closed) ⊎ (a ≡ Act.Ended)) (sym t.act_is) f.answered) in
    let close = closed_in_log rules calls order o e.step (before_first e.step t.step order e.before) e.act_is in
    in_time rules calls order o e.step t.step e.before (subst (λ (p : ℕ). EndsBefore calls p e.step.place) (sym t.place_is) (f.later e.step.place close))

-- ---- of any fault

pub no_order : FaultsHaveNoOrder
no_order rules calls (Fault.NeverSent take) differ stands (order, o) = never_sent rules calls take order stands o
no_order rules calls (Fault.TakenBeforeSent send take) differ stands (order, o) = taken_before_sent rules calls send take order differ stands o
no_order rules calls (Fault.TakenTwice first second) differ stands (order, o) = taken_twice rules calls first second order differ stands o
no_order rules calls (Fault.Overtaken (Stay.Taken send take closed) later_send later_take) differ stands has = counts_have_no_order.took_over rules calls send take later_send later_take differ stands has
no_order rules calls (Fault.Overtaken (Stay.Left sends more next closed) later_send later_take) differ stands has = counts_have_no_order.left_behind rules calls later_send later_take differ stands.0 has
no_order rules calls (Fault.NotEmpty call stays) differ (inl never, shown) has = counts_have_no_order.never_empty rules calls call differ never has
no_order rules calls (Fault.NotEmpty call stays) differ (inr ended, shown) has = counts_have_no_order.ended_with_items rules calls call differ ended has
no_order rules calls (Fault.Reopened closed send) differ stands (order, o) = reopened rules calls closed send order differ stands o
no_order rules calls (Fault.ClosedEarly call) differ stands (order, o) = closed_early rules calls call order stands o
no_order rules calls (Fault.NotFull call) differ stands (order, o) = not_full rules calls call order differ stands o
no_order rules calls (Fault.TooMany call sends) differ stands (order, o) = too_many rules calls call sends.items order differ stands o
no_order rules calls Fault.NoOrder differ stands has = stands has

-- no item is sent twice in a log whose sends have a table
pub differ : (calls : List Call) (table : List (Option ℕ)) → IsTable calls Kind.Send table → Differ calls
differ calls table is item i j one other =
    cc (sym (is.all i item one) ∙ is.all j item other)
