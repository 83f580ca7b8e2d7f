-- Refused claims: for each kind of mistake a small log, and a claim about it that the clause doesn't admit.
use Rattle.std.specs.Prelude.{◌≡◌, ℕ, List, [], ◌∷◌, Option, Some, None, true, false, slice_get}
use Rattle.cc_judge.specs.Names.{Act, Call, Fault, Lists, Rules, Spell}
use Rattle.cc_judge.specs.Order.{Does, Allows, IsOrder}
use Rattle.cc_judge.specs.Faults.{Passed, TakenBeforeSent, TakenTwice, WasClosed, ClosedEarly, MoreAt}
use Rattle.cc_judge.specs.Counts.{TookOver}
use Rattle.cc_judge.specs.Late.{judged_capacity, padded}
use Rattle.cc_judge.specs.Room.{FullsArePossible, ItemsFit}
use Rattle.cc_judge.specs.Sweeps.{IsPassedLast}
use Rattle.cc_judge.specs.Verdict.{StandsFirst}

-- a claim that doesn't hold
abbrev pub Refused : Type 0 → Type 0
Refused claim = claim → ⊥

-- a call that begins and ends at these times, and one that hasn't returned
abbrev pub call : (begin end : ℕ) → Act → Call
call begin end act = record { begin = begin; end = Some end; act = act }

abbrev pub waiting : (begin : ℕ) → Act → Call
waiting begin act = record { begin = begin; end = None; act = act }

-- one item is sent, and then taken
abbrev pub handed : List Call
handed = call 0 1 (Act.Send 0) ∷ call 2 3 (Act.Took 0) ∷ []

-- two sends, of which none ended before the other began
abbrev pub beside : List Call
beside = call 0 5 (Act.Send 0) ∷ call 1 6 (Act.Send 1) ∷ []

-- a close, and then a send that found the queue closed
abbrev pub closed : List Call
closed = call 0 1 Act.Close ∷ call 2 3 Act.Closed ∷ []

-- a send that found the queue full, and then another send
abbrev pub full_early : List Call
full_early = call 0 3 Act.Full ∷ call 4 5 (Act.Send 0) ∷ []

-- two items are sent, and no call takes them
abbrev pub crowded : List Call
crowded = call 0 1 (Act.Send 0) ∷ call 2 3 (Act.Send 1) ∷ []

-- two takes of items that no call sent
abbrev pub strays : List Call
strays = call 0 1 (Act.Took 7) ∷ call 10 11 (Act.Took 8) ∷ []

-- two items that were in the queue from 5 until 20
abbrev pub one_item : Spell
one_item = record { from = 1; until = 30; send = 0; take = 2 }

abbrev pub next_item : Spell
next_item = record { from = 3; until = 40; send = 1; take = 3 }

-- a table in which the item has a place
abbrev pub placed : List (Option ℕ)
placed = Some 0 ∷ []

pub record RefusedClaims : Type 0 where
  pub accepted_though_untaken : Refused ((take : ℕ) × Passed (waiting 0 (Act.Send 0) ∷ []) 0 take)
  pub as_many_items_as_room : Refused (MoreAt handed (0 ∷ []) 1 1)
  pub clean_without_an_order : (rules : Rules) → Refused (IsOrder rules (call 0 1 (Act.Took 7) ∷ []) (record { place = 0; act = Act.Took 7 } ∷ []))
  pub close_before_a_late_log_forgotten : Refused (padded true true [] 0 ≡ [])
  pub closed_early_beside_a_close : (rules : Rules) → Refused (ClosedEarly rules closed 1)
  pub ended_while_open : Refused (Allows false Act.Ended)
  pub first_item_passed_named : (rules : Rules) (calls : List Call) (lists : Lists) → lists.spells.items ≡ one_item ∷ next_item ∷ [] → Refused (IsPassedLast rules calls lists 5 20 one_item)
  pub full_before_a_send_began : (rules : Rules) → rules.capacity ≡ Some 1 → Refused (FullsArePossible rules full_early)
  pub last_fault_named : (rules : Rules) → rules.ties.items ≡ [] → Refused (StandsFirst rules strays (Fault.NeverSent 1))
  pub late_log_judged_by_a_capacity : Refused (judged_capacity true (Some 1) ≡ Some 1)
  pub more_items_than_room : (rules : Rules) → rules.capacity ≡ Some 1 → Refused (ItemsFit rules crowded)
  pub never_sent_of_a_sent_item : Refused (slice_get placed 0 ≡ Some None)
  pub none_beside_an_item : Refused (Does None (7 ∷ []) Act.FoundNone (7 ∷ []))
  pub overtaken_in_one_go : (take later : ℕ) → Refused (TookOver beside 0 take 1 later)
  pub shut_by_a_send : Refused (WasClosed handed 0)
  pub taken_after_sent : Refused (TakenBeforeSent handed 0 1)
  pub taken_twice_by_one_call : Refused (TakenTwice handed 1 1)
  pub too_many_of_a_taken_item : Refused (MoreAt handed (0 ∷ []) 0 3)
