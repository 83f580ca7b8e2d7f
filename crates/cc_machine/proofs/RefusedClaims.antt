-- The clauses refuse these claims.
use Rattle.std.proofs.Common.{◌≡◌, ◌≢◌, ℕ, ◌+◌, [], ◌∷◌, ◌++◌, length, take, sym, ap, ◌∙◌, arith, length-append}
use Rattle.cc_model.specs.Items.{handed_to_all}
use Rattle.cc_model.specs.Record.{Record}
use Rattle.cc_runs.specs.State.{State, chain_of}
use Rattle.cc_runs.specs.Step.{stepped, stepped_from}
use Rattle.cc_machine.specs.BoardSteps.{side_room}
use Rattle.cc_machine.specs.Known.{IsKnown, entries_by}
use Rattle.cc_machine.specs.Names.{AnswerCounts, Board, Chain, Entry, Phase, Setting, Stand}
use Rattle.cc_machine.specs.Valid.{HasRoomToCome}
use Rattle.cc_machine.specs.Refused.{RefusedClaims, one_item, one_group_got}

uncounted : (k : AnswerCounts) → k.sent ≡ 1 → k.entries ≡ 0 → IsKnown one_item k → ⊥
uncounted k one none known =
    let many : k.entries ≡ 1 = known.entries_is ∙ ap (λ (n : ℕ). entries_by one_item.sends.calls (take n one_item.sends.answers)) one in
    absurd (omega (arith, none, many))

of_one_group : handed_to_all one_group_got ≡ 1 → ⊥
of_one_group is = absurd (omega (arith, is))

no_room : (b : Board) (x : Chain) → (side_room x b.history).room ≡ length (side_room x b.history).lists.calls → HasRoomToCome b x → ⊥
no_room b x full room = absurd (omega (arith, full, room))

entered_by : (c : Setting) (s : State) (p : ℕ) (call : Entry) (at : Stand) → at.phase ≡ Phase.Exchange call → length (stepped_from c s Chain.Send p at).history.sends.calls ≡ length (s.history.sends.calls ++ call ∷ [])
entered_by c s p call at is = ap (λ (f : Phase). length (stepped_from c s Chain.Send p (record at { phase = f })).history.sends.calls) is

-- the history after a step of a sender at its exchange has one call more
exchanged : (c : Setting) (s : State) (p : ℕ) (call : Entry) (at : Stand) → at.phase ≡ Phase.Exchange call → (stepped_from c s Chain.Send p at).history ≡ s.history → ⊥
exchanged c s p call at is same =
    let entered : length (stepped_from c s Chain.Send p at).history.sends.calls ≡ length (s.history.sends.calls ++ call ∷ []) = entered_by c s p call at is in
    let kept : length (stepped_from c s Chain.Send p at).history.sends.calls ≡ length s.history.sends.calls = ap (λ (h : Record). length h.sends.calls) same in
    let more = length-append s.history.sends.calls (call ∷ []) in absurd (omega (arith, entered, kept, more))

no_call_placed : (c : Setting) (s : State) (p : ℕ) (call : Entry) → chain_of c.config p ≡ Chain.Send → (s.stand p).phase ≡ Phase.Exchange call → (stepped c s p).history ≡ s.history → ⊥
no_call_placed c s p call sends is same = exchanged c s p call (s.stand p) is (ap (λ (x : Chain). (stepped_from c s x p (s.stand p)).history) (sym sends) ∙ same)

linked : (c : Setting) (s : State) (p put : ℕ) (at : Stand) → at.phase ≡ Phase.Link put → (stepped_from c s Chain.Send p at).history ≡ s.history
linked c s p put at is = grind (arith, is)

placed_at_link : (c : Setting) (s : State) (p put : ℕ) → chain_of c.config p ≡ Chain.Send → (s.stand p).phase ≡ Phase.Link put → (stepped c s p).history ≢ s.history → ⊥
placed_at_link c s p put sends is other = other (ap (λ (x : Chain). (stepped_from c s x p (s.stand p)).history) sends ∙ linked c s p put (s.stand p) is)

pub claims_refused : RefusedClaims
claims_refused = record {
  counts_no_answers = uncounted;
  knows_the_greatest_of_the_groups = of_one_group;
  one_call_has_no_room = no_room;
  exchange_places_no_call = no_call_placed;
  call_is_placed_at_its_link = placed_at_link;
}
