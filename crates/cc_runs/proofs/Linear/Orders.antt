-- Every run of a machine whose chains serve the list is linearizable.
use Rattle.std.proofs.Common.{◌≡◌, ◌≢◌, ◌⊎◌, ℕ, ◌+◌, ◌-◌, ◌/◌, ◌<◌, ◌≤◌, Bool, false, List, [], ◌∷◌, ◌++◌, length, Option, Some, None, Ok, inl, inr, refl, sym, ap, ◌∙◌, subst, arith, append-nil, append_assoc, zero-add, length-append}
use Rattle.std.proofs.lemmas.Option.{slice_get-get_or}
use Rattle.std.specs.List.{AllByRecursion, slice_get, list_any}
use Rattle.cc_model.specs.Config.{config_fault}
use Rattle.cc_model.specs.Record.{Side, Record, of_group}
use Rattle.cc_model.specs.Items.{IsPrefix, Begins, accepted, accepted_item, is_shut, shuts, handed, handed_to_all}
use Rattle.cc_model.specs.Legal.{Legal, SendSideAnswer, TakeSideAnswer, TakeSideAnswers, IsSenders, IsReceivers}
use Rattle.cc_model.proofs.Grows.{get_front, accepted_more}
use Rattle.cc_model.proofs.Fresh.{all_at}
use Rattle.cc_runs.specs.Names.{Config, Call, Pass, Entry, Item, Answer, SendAnswer, TakeAnswer, Setting, Chain, ItemField, Word, Phase, Move}
use Rattle.cc_runs.specs.Words.{groups}
use Rattle.cc_runs.specs.State.{State, chain_of, pass_at, noted, word_of}
use Rattle.cc_runs.specs.Lines.{enters, decides, operation}
use Rattle.cc_runs.specs.OnChain.{calls_on, answers_on}
use Rattle.cc_runs.specs.ChainLaws.{ServesNext, served_node}
use Rattle.cc_runs.specs.Run.{IsRun, reached, history_of}
use Rattle.cc_runs.proofs.Ranges.{in_range}
use Rattle.cc_runs.proofs.RunPrefixes.{prefixes_begin, prefix_more, prefix_self}
use Rattle.cc_runs.proofs.ChainLaws.{chain_laws}
use Rattle.cc_runs.proofs.LinkedList.Busy as busy
use Rattle.cc_runs.proofs.ListRuns.View.{queue_of}
use Rattle.cc_runs.proofs.ListRuns.Ties.{further}
use Rattle.cc_runs.proofs.ListRuns.Facts.{lists}
use Rattle.cc_runs.proofs.ListRuns.Posts.{Well, of_side, OfSend, OfTake, group_in}
use Rattle.cc_runs.proofs.ListRuns.Runs.{AfterRun, legal}
use Rattle.cc_runs.proofs.ListRuns.Invariant.{ghosts_at, parts_least}
use Rattle.cc_runs.proofs.ListRuns.Decided.{group_mine, group_other}
use Rattle.cc_runs.proofs.ListRuns.FromChains.{after_runs, of_setting}
use Rattle.cc_runs.specs.Linearizable.{AnswersAfter, Effect, replay, IsExact, in_order, IsOnTime, IsTimely, IsLinearization, IsLinearizable, RunsAreLinearizable, Cut, OrderKeepsTime, OrderIsRealTime, IsPart, prefix, Orders, OrdersAgree}
use Rattle.cc_runs.proofs.Linear.Part.{part_self, part_more, part_of_part}
use Rattle.cc_runs.proofs.Linear.Scan.{Waits, start, begun}
use Rattle.cc_runs.proofs.Linear.Full as scan
use Rattle.cc_runs.proofs.Linear.Full.{same_accepted, since}
use Rattle.cc_runs.proofs.Linear.Empty.{empty}
use Rattle.cc_runs.proofs.Linear.Replay.{front_next, prefix_length, front_same, replay_groups, replay_even, Alike, answers_alike, Timed, timed_alike, full, with_full}
use Rattle.cc_runs.proofs.Linear.Insert.{AreTimed, PutIn, put_in}
use Rattle.cc_runs.proofs.Linear.Decided.{e_last, d_last, send_exact, full_exact, take_exact, accepts_one, open_of, enters_none, FromNull, IsTakePlace, empty_from, FromScan, IsSendPlace, full_from}

-- an order of the answered calls of a run, with the moment of each
pub record Lin (c : Config) (moves : List Move) : Type 0 where
  pub effects : List (List Effect)
  pub timed : AreTimed (lists c) moves effects
  pub exact : IsExact c (in_order effects)
  pub last : Timed (history_of (lists c) moves) (replay c.groups (in_order effects))
  pub whole : length (replay c.groups (in_order effects)).sends.answers ≤ length (history_of (lists c) moves).sends.answers

is_full : (a : Answer) → (a ≡ full) ⊎ (a ≡ full → ⊥)
is_full a = grind arith

send_place : (h : Record) (pass : Pass) (begun : ℕ) (place : Phase) → Well h Chain.Send pass begun place → IsSendPlace place
send_place h pass begun place w = grind arith

take_place : (h : Record) (y : ℕ) (pass : Pass) (begun : ℕ) (place : Phase) → Well h (Chain.Take y) pass begun place → IsTakePlace place
take_place h y pass begun place w = grind arith

is_take : (c : Config) (y : ℕ) (pass : Pass) (k : Call) → IsReceivers c y pass k → k ≡ Call.Take
is_take c y pass k is = grind arith

-- a step that decides nothing leaves the answers of each group
take_none : (h : Record) (y g : ℕ) (call : Option Entry) → y < length h.takes → (of_group (noted (Chain.Take y) h call None) g).answers ≡ (of_group h g).answers
take_none h y g call inside = grind (arith, group_mine h y, inside, group_other h y g)

module _ (c : Config) (checked : config_fault c ≡ Ok tt) where
  abbrev m : ℕ
  m = c.groups - 1

  some : c.groups ≡ m + 1
  some = omega (arith, (in_range c checked).groups.0)

  many : (moves : List Move) → IsRun (lists c) moves → length (history_of (lists c) moves).takes ≡ m + 1
  many moves run = (after_runs c (in_range c checked) moves run).parts.ties.many ∙ some

  -- a run with one move more has such an order too, of which the order before is a part
  abbrev Grows : (mv : Move) (earlier : List Move) → Lin c earlier → Type 0
  Grows mv earlier k = (next : Lin c (mv ∷ earlier)) × IsPart (in_order k.effects) (in_order next.effects)

  -- no answer is decided
  still : (mv : Move) (earlier : List Move) → IsRun (lists c) (mv ∷ earlier) → (history_of (lists c) (mv ∷ earlier)).sends.answers ≡ (history_of (lists c) earlier).sends.answers
      → ((g : ℕ) → (of_group (history_of (lists c) (mv ∷ earlier)) g).answers ≡ (of_group (history_of (lists c) earlier) g).answers) → (k : Lin c earlier) → Grows mv earlier k
  still mv earlier run sends takes k =
      let h : Record = history_of (lists c) earlier in
      let later : Record = history_of (lists c) (mv ∷ earlier) in
      let r : Record = replay c.groups (in_order k.effects) in
      let b : Begins h later = (prefixes_begin (lists c) (mv ∷ []) earlier run).1 in
      let t : Timed later r = record {
        send_calls = prefix_more r.sends.calls h.sends.calls later.sends.calls k.last.send_calls b.sends.calls;
        send_answers = subst (λ (l : List Answer). IsPrefix l r.sends.answers) (sym sends) k.last.send_answers;
        take_calls = λ g. prefix_more (of_group r g).calls (of_group h g).calls (of_group later g).calls (k.last.take_calls g) (b.takes g).calls;
        take_answers = λ g. k.last.take_answers g ∙ sym (takes g);
      } in
      (record { effects = [] ∷ k.effects; timed = (k.timed, t); exact = k.exact; last = t; whole = omega (arith, k.whole, ap length sends) }, part_self (in_order k.effects))

  alike : (moves : List Move) → IsRun (lists c) moves → (k : Lin c moves) → Alike (history_of (lists c) moves) (replay c.groups (in_order k.effects))
  alike moves run k = timed_alike m (history_of (lists c) moves) (replay c.groups (in_order k.effects)) k.last k.whole (replay_even c.groups (in_order k.effects)).0 (many moves run) (replay_groups c.groups (in_order k.effects) ∙ some)

  room : (moves : List Move) → IsRun (lists c) moves → length (accepted (history_of (lists c) moves)) ≤ handed_to_all (history_of (lists c) moves) + c.capacity
  room moves run =
      let s : State = reached (lists c) moves in
      let a : AfterRun c moves = after_runs c (in_range c checked) moves run in
      omega (arith, busy.room c.capacity c.life (further c + 1) (queue_of s a.parts.duty) (ghosts_at c s a.parts) a.parts.list, parts_least c s a.parts)

  module _ (earlier : List Move) (p : ℕ) (run : IsRun (lists c) (Move.Step p ∷ earlier)) where
    abbrev s : State
    s = reached (lists c) earlier

    abbrev h : Record
    h = s.history

    abbrev place : Phase
    place = (s.stand p).phase

    abbrev found : ℕ
    found = s.mem (word_of (operation (lists c) (chain_of c p) (s.stand p).node place))

    abbrev later : Record
    later = history_of (lists c) (Move.Step p ∷ earlier)

    well : Well h (chain_of c p) (pass_at c p) (s.stand p).begun place
    well = (after_runs c (in_range c checked) earlier run.0).posts.well p

    module _ (a : Answer) (e : decides (lists c) place found ≡ Some a) where
      serves : ServesNext s (chain_of c p) (served_node place)
      serves = open_of c (ServesNext s (chain_of c p) (served_node place)) place found a e ((chain_laws (lists c) checked earlier run.0).serves p run.1.0)

      entry : Entry
      entry = serves.entry

      -- ---- of a send or a close
      module _ (of : OfSend c p) where
        abbrev after_send : Record
        after_send = noted Chain.Send h None (Some a)

        later_is : later ≡ after_send
        later_is = λ i. noted (of.chain_is i) h (enters_none c place found a e i) (e i)

        next : slice_get h.sends.calls (length h.sends.answers) ≡ Some entry
        unfolding entry
        next = subst (λ (x : Chain). slice_get (calls_on x h) (length (answers_on x h)) ≡ Some serves.entry) of.chain_is serves.next

        law : Legal c after_send
        law = subst (λ (z : Record). Legal c z) later_is (legal c (reached (lists c) (Move.Step p ∷ earlier)) (after_runs c (in_range c checked) (Move.Step p ∷ earlier) run))

        is_senders : IsSenders c entry.pass entry.call
        is_senders = all_at (λ (z : Entry). IsSenders c z.pass z.call) h.sends.calls (length h.sends.answers) entry law.senders next

        told : SendSideAnswer c (length (accepted h)) (is_shut h) entry.known entry.call a
        told = subst (λ (n : ℕ). SendSideAnswer c n (is_shut h) entry.known entry.call a) (zero-add _) (e_last c 0 false h.sends.calls h.sends.answers entry a law.answers next)

        more_room : (at : ℕ) → a ≡ Answer.Send (SendAnswer.Accepted at) → length (accepted h) < handed_to_all h + c.capacity
        more_room at is =
            let one : length (accepted_item entry (Answer.Send (SendAnswer.Accepted at))) ≡ 1 = accepts_one c (length (accepted h)) entry.known (is_shut h) entry.pass entry.call entry.number at
            is_senders (subst (λ (z : Answer). SendSideAnswer c (length (accepted h)) (is_shut h) entry.known entry.call z) is told) in
            omega (
              arith,
              subst (λ (z : Record). length (accepted z) ≤ handed_to_all z + c.capacity) later_is (room (Move.Step p ∷ earlier) run),
              ap length (accepted_more h.sends.calls h.sends.answers entry a next),
              length-append (accepted h) (accepted_item entry a),
              one,
              ap (λ (z : Answer). length (accepted_item entry z)) is,
            )

        -- the answer is in the order at its step
        send_now : (a ≡ full → ⊥) → (k : Lin c earlier) → Grows (Move.Step p) earlier k
        send_now never k =
            let es : List Effect = in_order k.effects in
            let r : Record = replay c.groups es in
            let even : length r.sends.calls ≡ length r.sends.answers = (replay_even c.groups es).0 in
            let same : r.sends.answers ≡ h.sends.answers = front_same h.sends.answers r.sends.answers k.last.send_answers k.whole in
            let fits : AnswersAfter c h Chain.Send entry.call a = send_exact c (accepted h) (is_shut h) 0 (handed_to_all h) entry.known entry.call a told never more_room in
            let t : Timed later (noted Chain.Send r (Some entry) (Some a)) = subst (λ (z : Record). Timed z (noted Chain.Send r (Some entry) (Some a))) (sym later_is) (record {
              send_calls = front_next r.sends.calls h.sends.calls (length h.sends.answers) entry k.last.send_calls (omega (arith, even, ap length same)) next;
              send_answers = ([], ap (λ (l : List Answer). l ++ a ∷ []) same ∙ sym (append-nil (h.sends.answers ++ a ∷ [])));
              take_calls = k.last.take_calls;
              take_answers = k.last.take_answers;
            }) in (
              record {
                effects = (record { chain = Chain.Send; entry = entry; answer = a } ∷ []) ∷ k.effects;
                timed = (k.timed, t);
                exact = (k.exact, tt, is_senders, answers_alike c h r (alike earlier run.0 k) Chain.Send entry.call a fits);
                last = t;
                whole = omega (arith, ap (λ (z : Record). length z.sends.answers) later_is, length-append h.sends.answers (a ∷ []), length-append r.sends.answers (a ∷ []), ap length same);
              },
              part_more es es _ (part_self es),
            )

        -- Full is in it where the scan began
        module _ (is : a ≡ full) (k : Lin c earlier) where
          from : FromScan c place found
          from = full_from c place found (send_place h (pass_at c p) (s.stand p).begun place (subst (λ (x : Chain). Well h x (pass_at c p) (s.stand p).begun place) of.chain_is well)) (e ∙ ap Some is)

          ne : s.mem (Word.Item from.at ItemField.Passed) ≢ groups c
          ne z = from.busy (ap (λ (q : Phase). s.mem (word_of (operation (lists c) (chain_of c p) (s.stand p).node q))) from.place_is ∙ z)

          w : Waits c earlier
          w = since c checked earlier run.0 p run.1.0 from.job from.parcel from.at from.reads from.place_is ne from.all

          abbrev h0 : Record
          h0 = start c earlier w

          before : IsRun (lists c) (w.first ∷ w.before) × Begins h0 h
          before = begun c checked earlier run.0 w

          room_full : length (accepted h0) ≡ handed_to_all h0 + c.capacity
          unfolding w
          room_full = scan.full c checked earlier run.0 p run.1.0 from.job from.parcel from.at from.reads from.place_is ne from.all

          items : accepted h ≡ accepted h0
          items = same_accepted c checked earlier run.0 w

          fits_full : AnswersAfter c h0 Chain.Send entry.call full
          fits_full = full_exact c (accepted h0) (is_shut h0) 0 (handed_to_all h0) entry.known entry.call
              (subst (λ (b : Bool). SendSideAnswer c (length (accepted h0)) b entry.known entry.call full) (ap (list_any shuts) w.same)
              (subst (λ (l : List Item). SendSideAnswer c (length l) (is_shut h) entry.known entry.call full) items (subst (λ (z : Answer). SendSideAnswer c (length (accepted h)) (is_shut h) entry.known entry.call z) is told)))
              room_full

          next0 : slice_get h0.sends.calls (length h0.sends.answers) ≡ Some entry
          next0 =
              let n : ℕ = length h0.sends.answers in
              let got : slice_get h0.sends.calls n ≡ Some _ = slice_get-get_or h0.sends.calls n entry w.opens in
              let there : slice_get h.sends.calls n ≡ Some _ = ap (λ (l : List Entry). slice_get l n) before.1.sends.calls.1 ∙ get_front h0.sends.calls before.1.sends.calls.0 n _ got in
              let here : slice_get h.sends.calls n ≡ Some entry = ap (λ (l : List Answer). slice_get h.sends.calls (length l)) (sym w.same) ∙ next in
              got ∙ sym there ∙ here

          put : PutIn (lists c) (w.more ++ w.first ∷ w.before) k.effects entry
          put = put_in (lists c) m some w.first w.before entry (many (w.first ∷ w.before) before.0) next0 is_senders fits_full w.more k.effects (subst (λ (l : List Move). IsRun (lists c) l) w.split run.0)
              (subst (λ (l : List Move). AreTimed (lists c) l k.effects) w.split k.timed) k.exact (omega (arith, k.whole, ap length w.same))

          send_full : Grows (Move.Step p) earlier k
          send_full =
              let r : Record = replay c.groups (in_order k.effects) in
              let even : length r.sends.calls ≡ length r.sends.answers = (replay_even c.groups (in_order k.effects)).0 in
              let same : r.sends.answers ≡ h.sends.answers = front_same h.sends.answers r.sends.answers k.last.send_answers k.whole in
              let to : later ≡ noted Chain.Send h None (Some full) = later_is ∙ ap (λ (z : Answer). noted Chain.Send h None (Some z)) is in
              let t : Timed later (replay c.groups (in_order put.later)) = subst (λ (z : Record). Timed later z) (sym put.is) (subst (λ (z : Record). Timed z (with_full r entry)) (sym to) (record {
                send_calls = front_next r.sends.calls h.sends.calls (length h.sends.answers) entry k.last.send_calls (omega (arith, even, ap length same)) next;
                send_answers = ([], ap (λ (l : List Answer). l ++ full ∷ []) same ∙ sym (append-nil (h.sends.answers ++ full ∷ [])));
                take_calls = k.last.take_calls;
                take_answers = k.last.take_answers;
              })) in (
                record {
                  effects = [] ∷ put.later;
                  timed = (subst (λ (l : List Move). AreTimed (lists c) l put.later) (sym w.split) put.timed, t);
                  exact = put.exact;
                  last = t;
                  whole = omega (arith, ap (λ (z : Record). length z.sends.answers) put.is, ap (λ (z : Record). length z.sends.answers) to, length-append h.sends.answers (full ∷ []), length-append r.sends.answers (full ∷ []), ap length same);
                },
                put.part,
              )

        sends : (k : Lin c earlier) → Grows (Move.Step p) earlier k
        sends k = elim (is_full a) [ inl is ↦ send_full is k | inr never ↦ send_now never k ]

      -- ---- of a take
      module _ (of : OfTake c p) where
        abbrev y : ℕ
        y = (p - c.senders) / c.receivers

        inside : y < groups c
        inside = group_in c p run.1.0 of

        side_in : y < length h.takes
        side_in = omega (arith, inside, many earlier run.0, some)

        abbrev mine : Side
        mine = record { calls = (of_group h y).calls; answers = (of_group h y).answers ++ a ∷ [] }

        abbrev after_take : Record
        after_take = noted (Chain.Take y) h None (Some a)

        take_later : later ≡ after_take
        take_later = λ i. noted (of.chain_is i) h (enters_none c place found a e i) (e i)

        take_next : slice_get (of_group h y).calls (length (of_group h y).answers) ≡ Some entry
        unfolding entry
        take_next = subst (λ (x : Chain). slice_get (calls_on x h) (length (answers_on x h)) ≡ Some serves.entry) of.chain_is serves.next

        take_law : Legal c after_take
        take_law = subst (λ (z : Record). Legal c z) take_later (legal c (reached (lists c) (Move.Step p ∷ earlier)) (after_runs c (in_range c checked) (Move.Step p ∷ earlier) run))

        take_told : TakeSideAnswer (accepted h) (is_shut h) (length (handed h y)) entry.known a
        take_told = subst (λ (n : ℕ). TakeSideAnswer (accepted h) (is_shut h) n entry.known a) (zero-add _)
            (d_last (accepted h) (is_shut h) 0 (of_group h y).calls (of_group h y).answers entry a (subst (λ (z : Side). TakeSideAnswers (accepted h) (is_shut h) 0 z.calls z.answers) (group_mine h y mine side_in) (take_law.takes y inside).answers) take_next)

        is_receivers : IsReceivers c y entry.pass entry.call
        is_receivers = all_at (λ (z : Entry). IsReceivers c y z.pass z.call) (of_group h y).calls (length (of_group h y).answers) entry
            (subst (λ (z : Side). AllByRecursion (λ (q : Entry). IsReceivers c y q.pass q.call) z.calls) (group_mine h y mine side_in) (take_law.takes y inside).receivers) take_next

        call_is : entry.call ≡ Call.Take
        call_is = is_take c y entry.pass entry.call is_receivers

        none_left : a ≡ Answer.Take TakeAnswer.Empty → (is_shut h ≡ false) × (length (handed h y) ≡ length (accepted h))
        none_left is =
            let from : FromNull place found = empty_from c place found (take_place h y (pass_at c p) (s.stand p).begun place (subst (λ (x : Chain). Well h x (pass_at c p) (s.stand p).begun place) of.chain_is well)) (e ∙ ap Some is) in
            empty c checked earlier run.0 p y of.chain_is inside from.job from.dummy from.taken from.place_is
            (ap (λ (q : Phase). s.mem (word_of (operation (lists c) (chain_of c p) (s.stand p).node q))) (sym from.place_is) ∙ from.null)

        take_fits : AnswersAfter c h (Chain.Take y) entry.call a
        take_fits = subst (λ (k : Call). AnswersAfter c h (Chain.Take y) k a) (sym call_is) (take_exact c (accepted h) (is_shut h) (length (handed h y)) (handed_to_all h) entry.known a take_told none_left)

        module _ (k : Lin c earlier) where
          abbrev r : Record
          r = replay c.groups (in_order k.effects)

          abbrev r' : Record
          r' = noted (Chain.Take y) r (Some entry) (Some a)

          r_in : y < length r.takes
          r_in = omega (arith, inside, replay_groups c.groups (in_order k.effects))

          abbrev Group : ℕ → Side → Side → Type 0
          Group g of_h of_r = IsPrefix of_r.calls of_h.calls × (of_r.answers ≡ of_h.answers)

          even_in : length (of_group r y).calls ≡ length (of_group r y).answers
          even_in = (replay_even c.groups (in_order k.effects)).1 y r_in

          here : Group y mine (record { calls = (of_group r y).calls ++ entry ∷ []; answers = (of_group r y).answers ++ a ∷ [] })
          here = (
            front_next (of_group r y).calls (of_group h y).calls (length (of_group h y).answers) entry (k.last.take_calls y) (omega (arith, even_in, ap length (k.last.take_answers y))) take_next,
            ap (λ (l : List Answer). l ++ a ∷ []) (k.last.take_answers y),
          )

          each : (g : ℕ) → Group g (of_group after_take g) (of_group r' g)
          each g = grind (
            arith,
            group_mine h y mine side_in,
            group_mine r y,
            r_in,
            here,
            group_other h y g mine,
            group_other r y g,
            k.last.take_calls g,
            k.last.take_answers g,
          )

          take_timed : Timed later r'
          take_timed = subst (λ (z : Record). Timed z r') (sym take_later) (record { send_calls = k.last.send_calls; send_answers = k.last.send_answers; take_calls = λ g. (each g).0; take_answers = λ g. (each g).1 })

          takes : Grows (Move.Step p) earlier k
          takes = (
            record {
              effects = (record { chain = Chain.Take y; entry = entry; answer = a } ∷ []) ∷ k.effects;
              timed = (k.timed, take_timed);
              exact = (k.exact, inside, is_receivers, answers_alike c h r (alike earlier run.0 k) (Chain.Take y) entry.call a take_fits);
              last = take_timed;
              whole = omega (arith, k.whole, ap (λ (z : Record). length z.sends.answers) take_later);
            },
            part_more (in_order k.effects) (in_order k.effects) _ (part_self (in_order k.effects)),
          )

      decided : (k : Lin c earlier) → Grows (Move.Step p) earlier k
      decided k = elim (of_side c p) [ inl of ↦ sends of k | inr of ↦ takes of k ]

    undecided : decides (lists c) place found ≡ None → (k : Lin c earlier) → Grows (Move.Step p) earlier k
    undecided e k = elim (of_side c p) [
      | inl of ↦
          let to : later ≡ noted Chain.Send h (enters place) None = λ i. noted (of.chain_is i) h (enters place) (e i) in
          still (Move.Step p) earlier run (ap (λ (z : Record). z.sends.answers) to) (λ g. ap (λ (z : Record). (of_group z g).answers) to) k
      | inr of ↦
          let to : later ≡ noted (Chain.Take ((p - c.senders) / c.receivers)) h (enters place) None = λ i. noted (of.chain_is i) h (enters place) (e i) in
          let in_it : (p - c.senders) / c.receivers < length h.takes = omega (arith, group_in c p run.1.0 of, many earlier run.0, some) in
          still (Move.Step p) earlier run (ap (λ (z : Record). z.sends.answers) to) (λ g. ap (λ (z : Record). (of_group z g).answers) to ∙ take_none h ((p - c.senders) / c.receivers) g (enters place) in_it) k
    ]

    stepped : (k : Lin c earlier) → Grows (Move.Step p) earlier k
    stepped k = by_decided (decides (lists c) place found) refl
      where
        by_decided : (d : Option Answer) → decides (lists c) place found ≡ d → Grows (Move.Step p) earlier k
        by_decided None e = undecided e k
        by_decided (Some a) e = decided a e k

  grows : (mv : Move) (earlier : List Move) → IsRun (lists c) (mv ∷ earlier) → (k : Lin c earlier) → Grows mv earlier k
  grows (Move.Step p) earlier run k = stepped earlier p run k
  grows e earlier run k = still e earlier run refl (λ g. refl) k

  pub lin : (moves : List Move) → IsRun (lists c) moves → Lin c moves
  lin [] run = record {
    effects = [];
    timed = tt;
    exact = tt;
    last = record { send_calls = prefix_self []; send_answers = prefix_self []; take_calls = λ g. prefix_self _; take_answers = λ g. refl };
    whole = omega arith;
  }
  lin (mv ∷ earlier) run = (grows mv earlier run (lin earlier run.0)).0

  pub agrees : (later seen : List Move) (run : IsRun (lists c) (later ++ seen)) → IsPart (in_order (lin seen (prefix (lists c) later seen run)).effects) (in_order (lin (later ++ seen) run).effects)
  unfolding lin
  agrees [] seen run = part_self (in_order (lin seen run).effects)
  agrees (mv ∷ later) seen run =
      let k : Lin c (later ++ seen) = lin (later ++ seen) run.0 in
      let next : Grows mv (later ++ seen) k = grows mv (later ++ seen) run k in
      part_of_part (in_order (lin seen (prefix (lists c) later seen run.0)).effects) (in_order k.effects) (in_order next.0.effects) (agrees later seen run.0) next.1

-- ---- the law

on_time : (h r : Record) → Timed h r → IsOnTime h r
on_time h r t = record { calls = calls; answers = answers }
  where
    calls : (x : Chain) → IsPrefix (calls_on x r) (calls_on x h)
    calls Chain.Send = t.send_calls
    calls (Chain.Take g) = t.take_calls g

    answers : (x : Chain) → IsPrefix (answers_on x h) (answers_on x r)
    answers Chain.Send = t.send_answers
    answers (Chain.Take g) = ([], t.take_answers g ∙ sym (append-nil (of_group h g).answers))

timely : (c : Setting) (moves : List Move) (effects : List (List Effect)) → AreTimed c moves effects → IsTimely c moves effects
timely c (m ∷ earlier) (now ∷ old) t = (timely c earlier old t.0, on_time (history_of c (m ∷ earlier)) (replay c.config.groups (now ++ in_order old)) t.1)
timely c moves effects t = grind arith

whole_of : (h r : Record) → Timed h r → length r.sends.answers ≤ length h.sends.answers → (x : Chain) → answers_on x r ≡ answers_on x h
whole_of h r t less Chain.Send = front_same h.sends.answers r.sends.answers t.send_answers less
whole_of h r t less (Chain.Take g) = t.take_answers g

linearizes : (c : Config) (checked : config_fault c ≡ Ok tt) (moves : List Move) (run : IsRun (lists c) moves) → IsLinearization (lists c) moves (lin c checked moves run).effects
linearizes c checked moves run =
    let k : Lin c moves = lin c checked moves run in
    record { timely = timely (lists c) moves k.effects k.timed; exact = k.exact; whole = whole_of (history_of (lists c) moves) (replay c.groups (in_order k.effects)) k.last k.whole }

pub linearizable : RunsAreLinearizable
linearizable c moves serves checked run =
    of_setting (λ (z : Setting). config_fault z.config ≡ Ok tt → IsRun z moves → IsLinearizable z moves) c serves
    (λ ok r. ((lin c.config ok moves r).effects, linearizes c.config ok moves r)) checked run

pub orders_agree : OrdersAgree
orders_agree c serves checked =
    of_setting (λ (z : Setting). config_fault z.config ≡ Ok tt → Orders z) c serves
    (λ ok. record { order = λ moves run. (lin c.config ok moves run).effects; linearizes = λ moves run. linearizes c.config ok moves run; agrees = λ later seen run. agrees c.config ok later seen run }) checked

-- ---- the order keeps the time

silent_on_time : (h : Record) → IsOnTime h h
silent_on_time h = record { calls = λ x. prefix_self (calls_on x h); answers = λ x. prefix_self (answers_on x h) }

pub timely_now : (c : Setting) (moves : List Move) (effects : List (List Effect)) → IsTimely c moves effects → IsOnTime (history_of c moves) (replay c.config.groups (in_order effects))
timely_now c [] [] t = silent_on_time (history_of c [])
timely_now c moves effects t = grind arith

cut_in : (c : Setting) (newer seen : List Move) (effects : List (List Effect)) → IsTimely c (newer ++ seen) effects → Cut c seen (in_order effects)
cut_in c [] seen effects t = record { after = []; before = in_order effects; split = refl; on_time = timely_now c seen effects t }
cut_in c (m ∷ newer) seen [] t = absurd t
cut_in c (m ∷ newer) seen (now ∷ old) t =
    let k : Cut c seen (in_order old) = cut_in c newer seen old t.0 in
    record { after = now ++ k.after; before = k.before; split = ap (λ (l : List Effect). now ++ l) k.split ∙ sym (append_assoc now k.after k.before); on_time = k.on_time }

pub order_keeps_time : OrderKeepsTime
order_keeps_time c later seen effects l = cut_in c later seen effects l.timely

pub order_is_real_time : OrderIsRealTime
order_is_real_time c later seen effects l x y i j answered entered =
    let k : Cut c seen (in_order effects) = cut_in c later seen effects l.timely in
    record {
      after = k.after;
      before = k.before;
      split = k.split;
      first = omega (arith, answered, prefix_length (answers_on x (history_of c seen)) (answers_on x (replay c.config.groups k.before)) (k.on_time.answers x));
      second = omega (arith, entered, prefix_length (calls_on y (replay c.config.groups k.before)) (calls_on y (history_of c seen)) (k.on_time.calls y));
    }
