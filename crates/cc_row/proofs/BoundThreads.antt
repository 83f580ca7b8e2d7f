-- Threads that keep the rules of the bound: at each moment no more items are in the row than the bound.
use Rattle.std.proofs.Common.{◌≡◌, ◌≢◌, ◌⊎◌, ℕ, zero, suc, ◌+◌, ◌-◌, ◌/◌, ◌<◌, ◌≤◌, Bool, true, false, cond, lt-ltb, List, [], ◌∷◌, ◌++◌, append_assoc, length, inl, inr, refl, sym, ap, subst, ◌∙◌, arith}
use Rattle.std.proofs.lemmas.Bool.{cases_eq}
use Rattle.std.specs.List.{list_any}
use Rattle.cc_model.specs.Record.{Side, Record}
use Rattle.cc_model.specs.Items.{Begins, accepted, accepted_by, handed, shuts}
use Rattle.cc_model.specs.Legal.{Legal, SendSideAnswers}
use Rattle.cc_runs.specs.State.{State, chain_of}
use Rattle.cc_runs.specs.Run.{IsRun, IsIdle, IsOn, reached, history_of}
use Rattle.cc_runs.specs.Counts.{counted_for}
use Rattle.cc_runs.specs.declared.phase.Phase.{Phase}
use Rattle.cc_runs.proofs.Ranges.{in_range}
use Rattle.cc_runs.proofs.RunPrefixes.{prefixes_begin}
use Rattle.cc_runs.proofs.ChainLaws.{chain_laws}
use Rattle.cc_runs.proofs.Chains.Others.{IsOther}
use Rattle.cc_runs.proofs.ListRuns.Laws.{history_is_legal}
use Rattle.cc_row.specs.Names.{Config, Call, Entry, Chain, Served, Move}
use Rattle.cc_row.specs.Runs.{RowMove, moves_at}
use Rattle.cc_row.specs.Threads.{RowEvent, RowSetting, moves_of, moves_there, last_of, queue_of}
use Rattle.cc_row.specs.BoundThreads.{queue_at, accepted_below, handed_below, counted_below, HasBound, HaveCome, NoSenderCalls, IsBeginOn, NoneBegins, FindsRoom, HasLooked, BeginsLetIn, KeepBound, ThreadsKeepBounds}
use Rattle.cc_row.specs.BoundRuns.{sends_of, waiting, WaitingSendsHaveRoom, CountedTakesAreOpen}
use Rattle.cc_row.proofs.Merge.{moves_here, moves_else}
use Rattle.cc_row.proofs.Threads.{Quiet, run_here, queue_grows, last_grows}
use Rattle.cc_row.proofs.BoundLooks.{Sound, sound_before, sound_then, sound_of, More, more_moves, near, legal, kept, grown, behind, there}
use Rattle.cc_row.proofs.BoundQueue.{none_waits, to_come, may_have, Others, Nobody, goes_on, still_nobody, begins_alone, idle_counted, idle_answered, frozen}
use Rattle.cc_row.proofs.Sums.{grows}

idle_nothing : (at : Phase) → IsIdle at → to_come at ≡ 0
idle_nothing at is = grind arith

no_take : (what : Served) → IsOn what Chain.Send Call.Take → ⊥
no_take what is = grind arith

apart : {x : Chain} → IsOther Chain.Send x → x ≡ Chain.Send → ⊥
apart {x} o is = subst (λ (z : Chain). IsOther Chain.Send z) is o

shut_items : (cfg : Config) (h t : Record) → length h.sends.answers ≤ length h.sends.calls → Begins h t → Legal cfg t → list_any shuts h.sends.answers ≡ true → length (accepted t) ≤ length (accepted h)
shut_items cfg h t order b legal_t is =
    let same : length (accepted t) ≡ length (accepted_by (h.sends.calls ++ b.sends.calls.0) (h.sends.answers ++ b.sends.answers.0)) = λ i. length (accepted_by (b.sends.calls.1 i) (b.sends.answers.1 i)) in
    let answers : SendSideAnswers cfg 0 false (h.sends.calls ++ b.sends.calls.0) (h.sends.answers ++ b.sends.answers.0) = subst (λ (z : Type 0). z) (λ i. SendSideAnswers cfg 0 false (b.sends.calls.1 i) (b.sends.answers.1 i)) legal_t.answers in
    omega (arith, same, frozen cfg 0 false h.sends.calls b.sends.calls.0 h.sends.answers b.sends.answers.0 answers is order)

module _ (r : RowSetting) where
  -- a queue before the last one accepts nothing more
  frozen_at : (later events : List RowEvent) → Sound r (later ++ events) → (q : ℕ) → q < last_of events → length (accepted (queue_at r q (later ++ events)).history) ≤ length (accepted (queue_at r q events).history)
  frozen_at later events s q less =
      let m : More r q later events = more_moves r q later events in
      let run : IsRun (r.of q) (m.0 ++ moves_there q events) = subst (λ (l : List Move). IsRun (r.of q) l) m.1 (s.runs q) in
      let b = prefixes_begin (r.of q) m.0 (moves_there q events) run in
      subst (λ (l : List Move). length (accepted (reached (r.of q) l).history) ≤ length (accepted (queue_at r q events).history)) (sym m.1) (
      shut_items (r.of q).config (history_of (r.of q) (moves_there q events)) (history_of (r.of q) (m.0 ++ moves_there q events)) ((chain_laws (r.of q) (s.checked q) (moves_there q events) b.0).ordered Chain.Send) b.1
      (history_is_legal (r.of q) (m.0 ++ moves_there q events) (s.serves q) (s.checked q) run) ((kept r events (sound_then r later events s)).shut q less)
      )

  below_frozen : (later events : List RowEvent) → Sound r (later ++ events) → (n : ℕ) → n ≤ last_of events → accepted_below r n (later ++ events) ≤ accepted_below r n events
  below_frozen later events s zero less = omega arith
  below_frozen later events s (suc n) less = omega (arith, below_frozen later events s n (omega (arith, less)), frozen_at later events s n (omega (arith, less)))

  same_accepted : (n : ℕ) (a b : List RowEvent) → moves_of a ≡ moves_of b → accepted_below r n a ≡ accepted_below r n b
  same_accepted zero a b is = refl
  same_accepted (suc n) a b is = omega (arith, same_accepted n a b is, ap (λ (l : List RowMove). length (accepted (reached (r.of n) (moves_at n l)).history)) is)

  same_counted : (n g : ℕ) (a b : List RowEvent) → moves_of a ≡ moves_of b → counted_below r n g a ≡ counted_below r n g b
  same_counted zero g a b is = refl
  same_counted (suc n) g a b is = omega (arith, same_counted n g a b is, ap (λ (l : List RowMove). counted_for (reached (r.of n) (moves_at n l)) g) is)

  counted_up : (events : List RowEvent) (g n m : ℕ) → n ≤ m → counted_below r n g events ≤ counted_below r m g events
  counted_up events g = grows (λ k. counted_below r k g events) (λ k. omega arith)

  pub last_up : (later events : List RowEvent) → last_of events ≤ last_of (later ++ events)
  last_up [] events = omega arith
  last_up (e ∷ later) events = omega (arith, last_up later events, last_grows r e (later ++ events))

  -- while no sender begins at a queue where nobody sends
  abbrev Still : ℕ → List RowEvent → State → Type 0
  Still q seen t = Nobody (r.of q) t × (t.history.sends ≡ (queue_at r q seen).history.sends)

  still : (since seen : List RowEvent) → Sound r (since ++ seen) → (q : ℕ) → NoneBegins r q since → NoSenderCalls r q seen → Still q seen (queue_at r q (since ++ seen))
  still [] seen s q none idle = (idle, refl)
  still (RowEvent.Moves m ∷ since) seen s q none idle =
      let before : Still q seen (queue_at r q (since ++ seen)) = still since seen (sound_before r (RowEvent.Moves m) (since ++ seen) s) q none.0 idle in
      elim (cases_eq m.at q) [
        | inl at ↦
            let now : Nobody (r.of q) (reached (r.of q) (m.move ∷ moves_there q (since ++ seen))) × ((reached (r.of q) (m.move ∷ moves_there q (since ++ seen))).history.sends ≡ (queue_at r q (since ++ seen)).history.sends) =
            still_nobody (r.of q) (s.checked q) (moves_there q (since ++ seen)) m.move (run_here r m (moves_of (since ++ seen)) s.runs q at) (λ on. none.1 (at, on)) before.0 in
            subst (λ (l : List Move). Still q seen (reached (r.of q) l)) (sym (moves_here m (moves_of (since ++ seen)) q at)) (now.0, now.1 ∙ before.1)
        | inr differ ↦ subst (λ (l : List Move). Still q seen (reached (r.of q) l)) (sym (moves_else m (moves_of (since ++ seen)) q differ)) before
      ]
  still (e ∷ since) seen s q none idle = still since seen (sound_before r e (since ++ seen) s) q none.0 idle

  module _ (count bound : ℕ) (has : HasBound r count bound) where
    inside_of : (g q : ℕ) → g < count → g < (r.of q).config.groups
    inside_of g q inside = omega (arith, inside, has.groups_are q)

    counted_stays : (later events : List RowEvent) → Sound r (later ++ events) → (n g : ℕ) → g < count → counted_below r n g events ≤ counted_below r n g (later ++ events)
    counted_stays later events s zero g inside = omega arith
    counted_stays later events s (suc n) g inside = omega (arith, counted_stays later events s n g inside, (grown r later events s n).2.taken g (inside_of g n inside))

    -- all items of the queues that a group has gone on from are counted as taken by it
    pub all_come : (events : List RowEvent) (s : Sound r events) (g : ℕ) → g < count → (n : ℕ) → n ≤ queue_of g events → accepted_below r n events ≤ counted_below r n g events
    all_come events s g inside zero less = omega arith
    all_come events s g inside (suc n) less =
        omega (arith, all_come events s g inside n (omega (arith, less)), behind r count bound has events s g inside n (omega (arith, less)), (near r events s n).taken_least g (inside_of g n inside))

    -- ---- what is kept

    -- one sender alone may have a call at the last queue, and there is room for what it may add
    record Lone (events : List RowEvent) : Type 0 where
      who : ℕ
      rest : Others (r.of (last_of events)) (queue_at r (last_of events) events) who
      room : (g : ℕ) → g < count → accepted_below r (last_of events) events + may_have (queue_at r (last_of events) events) who ≤ counted_below r (suc (last_of events)) g events + bound

    abbrev Bounded : List RowEvent → Type 0
    Bounded events = HaveCome count (last_of events) events ⊎ Lone events

    most : (events : List RowEvent) → Sound r events → Bounded events → (g : ℕ) → g < count → accepted_below r (suc (last_of events)) events ≤ counted_below r (suc (last_of events)) g events + bound
    most events s (inl come) g inside = omega (
      arith,
      all_come events s g inside (last_of events) (come g inside),
      ((legal r events s (last_of events)).takes g (inside_of g (last_of events) inside)).room,
      has.capacity_is (last_of events),
      (near r events s (last_of events)).taken_least g (inside_of g (last_of events) inside),
    )
    most events s (inr lone) g inside = omega (arith, lone.room g inside)

    come_more : (e : RowEvent) (events : List RowEvent) → last_of (e ∷ events) ≡ last_of events → HaveCome count (last_of events) events → HaveCome count (last_of (e ∷ events)) (e ∷ events)
    come_more e events is come g inside = omega (arith, is, come g inside, queue_grows r g e events)

    lone_same : (e : RowEvent) (events : List RowEvent) → moves_of (e ∷ events) ≡ moves_of events → last_of (e ∷ events) ≡ last_of events → Lone events → Lone (e ∷ events)
    lone_same e events m l k = record {
      who = k.who;
      rest = subst (λ (z : ℕ). Others (r.of z) (queue_at r z (e ∷ events)) k.who) (sym l)
          (subst (λ (ms : List RowMove). Others (r.of (last_of events)) (reached (r.of (last_of events)) (moves_at (last_of events) ms)) k.who) (sym m) k.rest);
      room = λ g inside. subst (λ (z : ℕ). accepted_below r z (e ∷ events) + may_have (queue_at r z (e ∷ events)) k.who ≤ counted_below r (suc z) g (e ∷ events) + bound) (sym l) (omega (
        arith,
        k.room g inside,
        same_accepted (last_of events) (e ∷ events) events m,
        same_counted (suc (last_of events)) g (e ∷ events) events m,
        ap (λ (ms : List RowMove). may_have (reached (r.of (last_of events)) (moves_at (last_of events) ms)) k.who) m,
      ));
    }

    same : (e : RowEvent) (events : List RowEvent) → moves_of (e ∷ events) ≡ moves_of events → last_of (e ∷ events) ≡ last_of events → Bounded events → Bounded (e ∷ events)
    same e events m l (inl come) = inl (come_more e events l come)
    same e events m l (inr lone) = inr (lone_same e events m l lone)

    lone_append : (events : List RowEvent) → Sound r events → Bounded events → Lone (RowEvent.Appends ∷ events)
    lone_append events s k =
        let quiet : Quiet (r.of (suc (last_of events))) Chain.Send (moves_there (suc (last_of events)) events) = (kept r events s).no_send (suc (last_of events)) (omega arith) in
        let h : Record = (queue_at r (suc (last_of events)) events).history in
        let first : chain_of (r.of (suc (last_of events))).config 0 ≡ Chain.Send =
        ap (λ (b : Bool). cond b Chain.Send (Chain.Take ((0 - (r.of (suc (last_of events))).config.senders) / (r.of (suc (last_of events))).config.receivers)))
        (lt-ltb 0 (r.of (suc (last_of events))).config.senders (omega (arith, (in_range (r.of (suc (last_of events))).config (s.checked (suc (last_of events)))).senders.0))) in
        record {
          who = 0;
          rest = λ p ne on. quiet.idle p on;
          room = λ g inside. omega (
            arith,
            most events s k g inside,
            same_accepted (suc (last_of events)) (RowEvent.Appends ∷ events) events refl,
            same_counted (suc (last_of events)) g (RowEvent.Appends ∷ events) events refl,
            ap (λ (l : List Entry). length (accepted_by l h.sends.answers)) quiet.none,
            ap (λ (l : List Entry). waiting l h.sends.answers) quiet.none,
            idle_nothing ((queue_at r (suc (last_of events)) events).stand 0).phase (quiet.idle 0 first),
          );
        }

    -- ---- a look

    record Found (q : ℕ) (events : List RowEvent) : Type 0 where
      nobody : Nobody (r.of q) (queue_at r q events)
      answered : waiting (queue_at r q events).history.sends.calls (queue_at r q events).history.sends.answers ≡ 0
      room : (g : ℕ) → g < count → accepted_below r q events + length (accepted (queue_at r q events).history) < counted_below r (suc q) g events + bound

    looked : (since seen : List RowEvent) → Sound r (since ++ seen) → (q : ℕ) → last_of seen ≡ q → last_of (since ++ seen) ≡ q → NoSenderCalls r q seen → NoneBegins r q since → ((g : ℕ) → g < count → FindsRoom r bound q g since seen) → Found q (since ++ seen)
    looked since seen s q was is idle none room =
        let now : Still q seen (queue_at r q (since ++ seen)) = still since seen s q none idle in
        let before : Sound r seen = sound_then r since seen s in
        record {
          nobody = now.0;
          answered = none_waits (queue_at r q (since ++ seen)).history.sends.calls (queue_at r q (since ++ seen)).history.sends.answers (idle_answered (r.of q) (s.checked q) (moves_there q (since ++ seen)) (s.runs q) now.0);
          room = λ g inside.
              let f : FindsRoom r bound q g since seen = room g inside in
              let m : List RowEvent = f.between ++ seen in
              let split : since ++ seen ≡ f.after ++ (f.between ++ seen) = ap (λ (l : List RowEvent). l ++ seen) f.split ∙ append_assoc f.after f.between seen in
              let whole : Sound r (f.after ++ (f.between ++ seen)) = subst (λ (l : List RowEvent). Sound r l) split s in
              let at : Sound r (f.between ++ seen) = sound_then r f.after (f.between ++ seen) whole in
              omega (
                arith,
                f.finds,
                below_frozen since seen s q (omega (arith, was)),
                ap (λ (z : Side). length (accepted_by z.calls z.answers)) now.1,
                idle_counted (r.of q) (s.serves q) (s.checked q) (moves_there q seen) (before.runs q) idle,
                all_come (f.between ++ seen) at g inside (queue_of g (f.between ++ seen)) (omega arith),
                counted_up (f.between ++ seen) g (suc (queue_of g (f.between ++ seen))) (suc q)
                    (omega (arith, (kept r (f.between ++ seen) at).behind g, last_up f.after (f.between ++ seen), ap last_of split, is)),
                counted_stays f.after (f.between ++ seen) whole (suc q) g inside,
                ap (λ (l : List RowEvent). counted_below r (suc q) g l) split,
              );
        }

    found : (q : ℕ) (events : List RowEvent) → Sound r events → last_of events ≡ q → HasLooked r count bound q events → Found q events
    found q events s is look =
        subst (λ (l : List RowEvent). Found q l) (sym look.split)
        (looked look.since look.seen (subst (λ (l : List RowEvent). Sound r l) look.split s) q look.last (ap last_of (sym look.split) ∙ is) look.alone look.none look.room)

    -- ---- one move

    module _ (m : RowMove) (events : List RowEvent) (s : Sound r (RowEvent.Moves m ∷ events)) where
      before : Sound r events
      before = sound_before r (RowEvent.Moves m) events s

      -- at another queue
      lone_elsewhere : (m.at ≡ last_of events → ⊥) → Lone events → Lone (RowEvent.Moves m ∷ events)
      lone_elsewhere differ k = record {
        who = k.who;
        rest = subst (λ (l : List Move). Others (r.of (last_of events)) (reached (r.of (last_of events)) l) k.who) (sym (moves_else m (moves_of events) (last_of events) differ)) k.rest;
        room = λ g inside. omega (
          arith,
          k.room g inside,
          below_frozen (RowEvent.Moves m ∷ []) events s (last_of events) (omega arith),
          counted_stays (RowEvent.Moves m ∷ []) events s (suc (last_of events)) g inside,
          ap (λ (l : List Move). may_have (reached (r.of (last_of events)) l) k.who) (moves_else m (moves_of events) (last_of events) differ),
        );
      }

      -- at the last queue: what another pass, or the same, may add now
      lone_here : m.at ≡ last_of events → (who : ℕ) → Others (r.of (last_of events)) (reached (r.of (last_of events)) (m.move ∷ moves_there (last_of events) events)) who
          → ((g : ℕ) → g < count → accepted_below r (last_of events) events + may_have (reached (r.of (last_of events)) (m.move ∷ moves_there (last_of events) events)) who ≤ counted_below r (suc (last_of events)) g events + bound) → Lone (RowEvent.Moves m ∷ events)
      lone_here at who rest room = record {
        who = who;
        rest = subst (λ (l : List Move). Others (r.of (last_of events)) (reached (r.of (last_of events)) l) who) (sym (moves_here m (moves_of events) (last_of events) at)) rest;
        room = λ g inside. omega (
          arith,
          room g inside,
          below_frozen (RowEvent.Moves m ∷ []) events s (last_of events) (omega arith),
          counted_stays (RowEvent.Moves m ∷ []) events s (suc (last_of events)) g inside,
          ap (λ (l : List Move). may_have (reached (r.of (last_of events)) l) who) (moves_here m (moves_of events) (last_of events) at),
        );
      }

      move_here : m.at ≡ last_of events → BeginsLetIn r count bound (last_of events) m.move events → Lone events → Bounded (RowEvent.Moves m ∷ events)
      move_here at rule k = by m.move refl (run_here r m (moves_of events) s.runs (last_of events) at) rule
        where
          plainly : (IsBeginOn (r.of (last_of events)) m.move → ⊥) → IsRun (r.of (last_of events)) (m.move ∷ moves_there (last_of events) events) → Bounded (RowEvent.Moves m ∷ events)
          plainly off run =
              let on = goes_on (r.of (last_of events)) (s.checked (last_of events)) (moves_there (last_of events) events) m.move k.who run off k.rest in
              inr (lone_here at k.who on.0 (λ g inside. omega (arith, k.room g inside, on.1)))

          come : HaveCome count (last_of events) events → Bounded (RowEvent.Moves m ∷ events)
          come have = inl (come_more (RowEvent.Moves m) events refl have)

          -- a sender's begin that nobody is beside
          alone : (p : ℕ) (call : Call) (known : ℕ) → m.move ≡ Move.Begin p call known → Nobody (r.of (last_of events)) (queue_at r (last_of events) events)
              → ((g : ℕ) → g < count → accepted_below r (last_of events) events + (length (accepted (queue_at r (last_of events) events).history) + waiting (queue_at r (last_of events) events).history.sends.calls (queue_at r (last_of events) events).history.sends.answers + sends_of call)
              ≤ counted_below r (suc (last_of events)) g events + bound) → Bounded (RowEvent.Moves m ∷ events)
          alone p call known is idle room =
              let b = begins_alone (r.of (last_of events)) (s.checked (last_of events)) (moves_there (last_of events) events) p call known idle in
              inr (lone_here at p
              (subst (λ (z : Move). Others (r.of (last_of events)) (reached (r.of (last_of events)) (z ∷ moves_there (last_of events) events)) p) (sym is) b.0)
              (λ g inside. omega (arith, room g inside, b.1, ap (λ (z : Move). may_have (reached (r.of (last_of events)) (z ∷ moves_there (last_of events) events)) p) is)))

          by : (move : Move) → m.move ≡ move → IsRun (r.of (last_of events)) (m.move ∷ moves_there (last_of events) events) → BeginsLetIn r count bound (last_of events) move events → Bounded (RowEvent.Moves m ∷ events)
          by (Move.Begin p (Call.Send body) known) is run (inl have) = come have
          by (Move.Begin p (Call.Send body) known) is run (inr look) =
              let f : Found (last_of events) events = found (last_of events) events before refl look in
              alone p (Call.Send body) known is f.nobody (λ g inside. omega (arith, f.room g inside, f.answered))
          by (Move.Begin p Call.Close known) is run (inl have) = come have
          by (Move.Begin p Call.Close known) is run (inr idle) = alone p Call.Close known is idle (λ g inside. omega (arith, k.room g inside))
          by (Move.Begin p Call.Take known) is run rule = plainly (λ on.
              let chain : chain_of (r.of (last_of events)).config p ≡ Chain.Send = subst (λ (z : Move). IsBeginOn (r.of (last_of events)) z) is on in
              let may : IsRun (r.of (last_of events)) (Move.Begin p Call.Take known ∷ moves_there (last_of events) events) = subst (λ (z : Move). IsRun (r.of (last_of events)) (z ∷ moves_there (last_of events) events)) is run in
              no_take (r.of (last_of events)).served (subst (λ (x : Chain). IsOn (r.of (last_of events)).served x Call.Take) chain may.1.1)) run
          by _ is run rule = plainly (λ on. subst (λ (z : Move). IsBeginOn (r.of (last_of events)) z) is on) run

      move_more : BeginsLetIn r count bound m.at m.move events → Bounded events → Bounded (RowEvent.Moves m ∷ events)
      move_more rule (inl come) = inl (come_more (RowEvent.Moves m) events refl come)
      move_more rule (inr lone) = grind (arith, move_here, lone_elsewhere)

    bounded : (events : List RowEvent) → Sound r events → KeepBound r count bound events → Bounded events
    bounded [] s keep = inl (λ g inside. omega arith)
    bounded (RowEvent.Moves m ∷ events) s keep = move_more m events s keep.1 (bounded events (sound_before r (RowEvent.Moves m) events s) keep.0)
    bounded (RowEvent.Appends ∷ events) s keep = inr (lone_append events (sound_before r RowEvent.Appends events s) (bounded events (sound_before r RowEvent.Appends events s) keep))
    bounded (e ∷ events) s keep = same e events refl refl (bounded events (sound_before r e events s) keep)

-- ---- takes that are counted

module _ (r : RowSetting) (count bound : ℕ) (has : HasBound r count bound) (events : List RowEvent) (s : Sound r events) (g : ℕ) (inside : g < count) where
  abbrev pub taken : ℕ → ℕ
  taken q = length (handed (queue_at r q events).history g)

  -- of a queue that the group isn't at
  pub elsewhere : (q : ℕ) → q ≢ queue_of g events → counted_for (queue_at r q events) g ≡ taken q
  elsewhere q apart = grind (
    arith,
    behind r count bound has events s g inside q,
    (near r events s q).taken_most g (there r count bound has events s g inside q),
    (near r events s q).taken_least g (there r count bound has events s g inside q),
    (near r events s q).taken_pending g (there r count bound has events s g inside q),
    has.names_are q g,
    λ (more : queue_of (r.names q g) events < q). ap length ((kept r events s).no_take q g more).none,
  )

  until : (n : ℕ) → n ≤ queue_of g events → counted_below r n g events ≡ handed_below r n g events
  until zero less = refl
  until (suc n) less = omega (arith, until n (omega (arith, less)), elsewhere n (λ is. omega (arith, is, less)))

  beyond_it : (n : ℕ) → queue_of g events < n
      → counted_below r n g events + taken (queue_of g events) ≡ handed_below r n g events + counted_for (queue_at r (queue_of g events) events) g
  beyond_it zero less = absurd (omega (arith, less))
  beyond_it (suc n) less = grind (arith, until n, beyond_it n, elsewhere n)

pub counted_takes_are_open : CountedTakesAreOpen
counted_takes_are_open r count bound events has is_kept g inside =
    let s : Sound r events = sound_of r events is_kept in
    let q : ℕ = queue_of g events in
    let all : counted_below r (suc (last_of events)) g events + taken r count bound has events s g inside (queue_of g events)
    ≡ handed_below r (suc (last_of events)) g events + counted_for (queue_at r (queue_of g events) events) g =
    beyond_it r count bound has events s g inside (suc (last_of events)) (omega (arith, (kept r events s).behind g)) in
    let inner : g < (r.of (queue_of g events)).config.groups = there r count bound has events s g inside (queue_of g events) in
    grind (arith, (near r events s (queue_of g events)).taken_near g inner, (near r events s (queue_of g events)).taken_pending, (near r events s (queue_of g events)).taken_least g inner)

pub waiting_sends_have_room : WaitingSendsHaveRoom
waiting_sends_have_room r count bound events has is_kept keep =
    let s : Sound r events = sound_of r events is_kept in
    elim (bounded r count bound has events s keep) [
      | inl come ↦ inl come
      | inr lone ↦ inr (λ g inside. omega (arith, lone.room g inside))
    ]

pub threads_keep_bounds : ThreadsKeepBounds
threads_keep_bounds r count bound events has is_kept keep =
    let s = sound_of r events is_kept in most r count bound has events s (bounded r count bound has events s keep)
