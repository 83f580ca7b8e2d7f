-- Claims about counts, times and cuts that the clauses refuse: for each kind of mistake a small log.
use Rattle.std.specs.Prelude.{◌≡◌, false, List, [], ◌∷◌, None}
use Rattle.cc_judge.specs.Names.{Act, Call, Explored, Rules, Tie, Verdict}
use Rattle.cc_judge.specs.Counts.{SentBy, IsLeftBy, WaitsBy, MoreLeft, AreEnough, NeverEmpty}
use Rattle.cc_judge.specs.Cuts.{MeetAt, MayBeCut, CutCall}
use Rattle.cc_judge.specs.Faultless.{IsWritten}
use Rattle.cc_judge.specs.Splits.{IsExplored, SplitCall}
use Rattle.cc_judge.specs.Verdict.{IsDecided}
use Rattle.cc_judge.specs.Refused.{Refused, call, waiting, handed}

-- one item is left, and one take hasn't returned
abbrev pub left : List Call
left = call 0 1 (Act.Send 0) ∷ []

abbrev pub left_and_taking : List Call
left_and_taking = call 0 1 (Act.Send 0) ∷ waiting 0 Act.Taking ∷ []

-- a take that found none began before the send of an item had ended, and ended after that
abbrev pub filled : List Call
filled = call 0 5 (Act.Send 0) ∷ call 1 9 Act.FoundNone ∷ call 20 21 (Act.Took 0) ∷ []

-- two threads, each of which ended one call and began the next at the time 5
abbrev pub two_meetings : List Call
two_meetings = call 0 5 (Act.Send 0) ∷ call 5 9 (Act.Send 1) ∷ call 1 5 (Act.Send 2) ∷ call 5 8 (Act.Send 3) ∷ []

abbrev pub first_meeting : Tie
first_meeting = record { earlier = 0; later = 1 }

abbrev pub second_meeting : Tie
second_meeting = record { earlier = 2; later = 3 }

-- two calls of one thread, of which the second may have begun before the first had ended
abbrev pub overlapping : List Call
overlapping = call 0 5 (Act.Send 0) ∷ call 3 9 (Act.Send 1) ∷ []

pub record RefusedCounts : Type 0 where
  pub as_many_takes_as_items : (rules : Rules) → Refused (MoreLeft rules left_and_taking 2 2)
  pub cut_beside_the_later_call : Refused (CutCall (first_meeting ∷ []) 1 (call 5 9 (Act.Send 1)) (call 20 39 (Act.Send 1)))
  pub cut_where_two_pairs_meet : Refused (MayBeCut two_meetings (first_meeting ∷ second_meeting ∷ []))
  pub done_when_it_ended : (rules : Rules) → rules.closes ≡ false → Refused (SentBy rules handed 0 0 1)
  pub empty_at_first : (rules : Rules) → rules.closes ≡ false → Refused (NeverEmpty rules filled 1)
  pub empty_at_no_time : (rules : Rules) → Refused (NeverEmpty rules (call 3 1 Act.FoundNone ∷ []) 0)
  pub enough_without_a_take : (rules : Rules) → Refused (AreEnough rules left 2 2)
  pub left_though_taken : (rules : Rules) → Refused (IsLeftBy rules handed 4 0)
  pub met_apart : Refused (MeetAt handed (record { earlier = 0; later = 1 }) 1)
  pub no_order_though_one : (rules : Rules) → Refused (IsExplored rules [] Explored.NoOrder)
  pub split_beside_the_time : Refused (SplitCall first_meeting 4 1 (call 3 9 (Act.Send 1)) (call 4 10 (Act.Send 1)))
  pub undecided_though_small : (rules : Rules) → rules.ties.items ≡ first_meeting ∷ [] → Refused (IsDecided rules overlapping 2 (Verdict.Undecided None))
  pub waits_before_it_began : Refused (WaitsBy (waiting 5 Act.Taking ∷ []) 4 0)
  pub written_backwards : Refused (IsWritten (call 3 1 Act.FoundNone ∷ []))
