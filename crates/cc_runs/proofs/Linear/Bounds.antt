-- A sequential queue keeps its bounds, so that it always has exactly one answer to each call.
use Rattle.std.proofs.Common.{◌≡◌, ℕ, ◌+◌, ◌<◌, ◌≤◌, Bool, List, [], ◌∷◌, ◌++◌, length, Some, sym, ap, ◌∙◌, subst, arith, length-append}
use Rattle.std.proofs.lemmas.Option.{slice_get_within}
use Rattle.std.specs.List.{slice_get}
use Rattle.cc_model.specs.Record.{Side, Record, of_group}
use Rattle.cc_model.specs.Items.{accepted, accepted_item, sent_item, is_shut, handed, handed_by, handed_item, handed_to_all}
use Rattle.cc_model.specs.Sequential.{Exactly}
use Rattle.cc_model.proofs.Sequential.{no_two_answers, each_call_has_an_answer}
use Rattle.cc_model.proofs.Grows.{accepted_more, get_last, handed_by-append}
use Rattle.cc_runs.specs.Names.{Config, Call, Entry, Item, Pass, Answer, SendAnswer, TakeAnswer, Chain}
use Rattle.cc_runs.specs.State.{noted}
use Rattle.cc_runs.specs.OnChain.{IsThere}
use Rattle.cc_runs.specs.Linearizable.{Effect, replay, handed_on, AnswersAfter, IsExact, ExactOrdersGoOn}
use Rattle.cc_runs.proofs.Chains.Opening.{no_calls}
use Rattle.cc_runs.proofs.ListRuns.Decided.{group_mine, group_other}
use Rattle.cc_runs.proofs.RunPrefixes.{begins_noted}
use Rattle.cc_runs.proofs.KnownPrefixes.{known_grow}
use Rattle.cc_runs.proofs.Linear.Replay.{accepted_by_calls, replay_groups, replay_even}

-- at most `capacity` items wait, and no group was handed more than was accepted
abbrev IsBounded : Config → Record → Type 0
IsBounded c h = (length (accepted h) ≤ handed_to_all h + c.capacity) × ((g : ℕ) → length (handed h g) ≤ length (accepted h))

sent_few : (pass : Pass) (k : Call) (number place : ℕ) → length (sent_item pass k number place) ≤ 1
sent_few pass k number place = grind arith

module _ (c : Config) (items : List Item) (shut : Bool) (out to_all : ℕ) where
  room_for : (k : Call) (place : ℕ) → Exactly c items shut out to_all k (Answer.Send (SendAnswer.Accepted place)) → length items < to_all + c.capacity
  room_for k place h = grind arith

  accepts_within : (e : Entry) (a : Answer) → Exactly c items shut out to_all e.call a → length items ≤ to_all + c.capacity → length items + length (accepted_item e a) ≤ to_all + c.capacity
  accepts_within e (Answer.Send (SendAnswer.Accepted place)) h within = omega (arith, room_for e.call place h, sent_few e.pass e.call e.number place)
  accepts_within e a h within = grind arith

  hands_within : (k : Call) (a : Answer) → Exactly c items shut out to_all k a → out ≤ length items → out + length (handed_item a) ≤ length items
  hands_within Call.Take (Answer.Take (TakeAnswer.Got item)) h within = omega (arith, slice_get_within items out item h)
  hands_within k a h within = grind arith

one_more : (c : Config) (h : Record) (x : Chain) (e : Entry) (a : Answer) → length h.takes ≡ c.groups → length h.sends.calls ≡ length h.sends.answers → IsThere c x → AnswersAfter c h x e.call a → IsBounded c h
    → IsBounded c (noted x h (Some e) (Some a))
one_more c h Chain.Send e a many even there fits w =
    let next : slice_get (h.sends.calls ++ e ∷ []) (length h.sends.answers) ≡ Some e = ap (λ (n : ℕ). slice_get (h.sends.calls ++ e ∷ []) n) (sym even) ∙ get_last h.sends.calls e in
    let items : accepted (noted Chain.Send h (Some e) (Some a)) ≡ accepted h ++ accepted_item e a =
    accepted_more (h.sends.calls ++ e ∷ []) h.sends.answers e a next ∙ ap (λ (l : List Item). l ++ accepted_item e a) (accepted_by_calls h.sends.answers h.sends.calls (e ∷ []) even) in
    let count : length (accepted (noted Chain.Send h (Some e) (Some a))) ≡ length (accepted h) + length (accepted_item e a) = ap length items ∙ length-append (accepted h) (accepted_item e a) in
    (omega (arith, count, accepts_within c (accepted h) (is_shut h) 0 (handed_to_all h) e a fits w.0), λ g. omega (arith, count, w.1 g))
one_more c h (Chain.Take y) e a many even there fits w =
    (omega (arith, known_grow h (noted (Chain.Take y) h (Some e) (Some a)) (Pass.Sender 1) (omega (arith, even)) (begins_noted (Chain.Take y) h (Some e) (Some a)), w.0), each)
  where
    inside : y < length h.takes
    inside = omega (arith, there, many)

    mine : length (handed_by ((of_group h y).answers ++ a ∷ [])) ≤ length (accepted h)
    mine = omega (
      arith,
      ap length (handed_by-append (of_group h y).answers (a ∷ [])),
      length-append (handed h y) (handed_by (a ∷ [])),
      length-append (handed_item a) [],
      hands_within c (accepted h) (is_shut h) (length (handed h y)) (handed_to_all h) e.call a fits (w.1 y),
    )

    each : (g : ℕ) → length (handed (noted (Chain.Take y) h (Some e) (Some a)) g) ≤ length (accepted h)
    each g = grind (arith, group_mine h y, inside, mine, group_other h y g, w.1 g)

bounded : (c : Config) (order : List Effect) → IsExact c order → IsBounded c (replay c.groups order)
bounded c [] exact = (omega arith, λ g. subst (λ (s : Side). length (handed_by s.answers) ≤ 0) (sym (no_calls c.groups (Chain.Take g))) (omega arith))
bounded c (e ∷ earlier) exact =
    one_more c (replay c.groups earlier) e.chain e.entry e.answer (replay_groups c.groups earlier) (replay_even c.groups earlier).0 exact.1 exact.3 (bounded c earlier exact.0)

pub exact_orders_go_on : ExactOrdersGoOn
exact_orders_go_on c order exact x call =
    let h : Record = replay c.groups order in
    let w : IsBounded c h = bounded c order exact in
    let has : (a : Answer) × AnswersAfter c h x call a = each_call_has_an_answer c (accepted h) (is_shut h) (handed_on x h) (handed_to_all h) call (few x h w) w.0 in
    (has.0, has.1, λ b told. no_two_answers c (accepted h) (is_shut h) (handed_on x h) (handed_to_all h) call b has.0 told has.1)
  where
    few : (y : Chain) (h : Record) → IsBounded c h → handed_on y h ≤ length (accepted h)
    few y h w = grind arith
