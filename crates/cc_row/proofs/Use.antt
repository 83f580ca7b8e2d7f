-- The merged order of a row's run has each call after the queue before it was closed, or found ended by its group.
use Rattle.std.proofs.Common.{◌≡◌, ◌⊎◌, ℕ, suc, ◌<◌, ◌≤◌, Bool, true, false, ◌||◌, List, [], ◌∷◌, ◌++◌, map, length, Some, inl, inr, refl, sym, ap, subst, ◌∙◌, arith, append_assoc, length-append}
use Rattle.std.proofs.lemmas.Bool.{cases_eq}
use Rattle.std.specs.List.{list_any}
use Rattle.cc_model.specs.Record.{Side, Record, empty, of_group}
use Rattle.cc_model.specs.Items.{IsPrefix, is_shut, shuts, handed_to_all, accepted}
use Rattle.cc_model.specs.Legal.{IsSenders, IsReceivers}
use Rattle.cc_model.specs.Sequential.{Exactly}
use Rattle.cc_model.proofs.Grows.{any-append}
use Rattle.cc_runs.specs.State.{noted}
use Rattle.cc_runs.specs.Run.{history_of}
use Rattle.cc_runs.specs.OnChain.{IsThere, calls_on, answers_on}
use Rattle.cc_runs.specs.Linearizable.{Effect, replay, AnswersAfter, IsExact, IsOfChain, in_order, IsOnTime}
use Rattle.cc_runs.proofs.Chains.Opening.{no_calls}
use Rattle.cc_runs.proofs.ListRuns.Decided.{group_mine, group_other}
use Rattle.cc_runs.proofs.Linear.Replay.{replay_groups, prefix_length}
use Rattle.cc_runs.proofs.Linear.Orders.{timely_now}
use Rattle.cc_runs.proofs.Linear.Insert.{exact_before}
use Rattle.cc_row.specs.Names.{Config, Pass, Call, Item, Entry, Answer, Chain, Setting}
use Rattle.cc_row.specs.Row.{At, ends, shut_at, ended_at, StartsNext}
use Rattle.cc_row.specs.Queues.{AtQueue, AreApart, only, group_on, seen, InOrder}
use Rattle.cc_row.specs.Runs.{RowMove, moves_at, FoundEnded, UsedInOrder, IsUsed, flat, RowsAreLinearizable}
use Rattle.cc_row.proofs.States.{shut_else, ended_here, ended_else, ended_other, ended_none}
use Rattle.cc_row.proofs.Exact as exact
use Rattle.cc_row.proofs.Exact.{exact_queues_are_one}
use Rattle.cc_row.proofs.Merge.{head, tail, head_tail, put, cut, merge, Each, cut_else, cut_here, each_before, only_merged, row_timely, each_of}

-- ---- ends

ends_none : (cfg : Config) (pass : Pass) (call : Call) (items : List Item) (shut : Bool) (taken all : ℕ) (a : Answer) → IsSenders cfg pass call → Exactly cfg items shut taken all call a → ends a ≡ false
ends_none cfg pass call items shut taken all a is h = grind arith

or_none : (b c : Bool) → (b || (c || false)) ≡ (b || c)
or_none b c = grind arith

abbrev pub found : Record → ℕ → Bool
found h g = list_any ends (of_group h g).answers

ends_more : (cfg : Config) (names : ℕ → ℕ → ℕ) (q : ℕ) (h : Record) (o : List At) (x : Chain) (e : Entry) (a : Answer) (s n : ℕ) (g : ℕ) → ((k l : ℕ) → k < cfg.groups → l < cfg.groups → names q k ≡ names q l → k ≡ l) → IsThere cfg x → IsOfChain cfg x e
    → AnswersAfter cfg h x e.call a → length h.takes ≡ cfg.groups → g < cfg.groups
    → found h g ≡ ended_at q (names q g) o → found (noted x h (Some e) (Some a)) g ≡ ended_at q (names q g) (record { queue = q; group = group_on names q x; sender = s; number = n; call = e.call; answer = a } ∷ o)
ends_more cfg names q h o Chain.Send e a s n g apart there mine exactly size inside same =
    same ∙ sym (ended_none (record { queue = q; group = 0; sender = s; number = n; call = e.call; answer = a }) o q (names q g) (ends_none cfg e.pass e.call (accepted h) (is_shut h) 0 (handed_to_all h) a mine exactly))
ends_more cfg names q h o (Chain.Take y) e a s n g apart there mine exactly size inside same = elim (cases_eq y g) [
  | inl at ↦ subst (λ (z : ℕ). found (noted (Chain.Take z) h (Some e) (Some a)) g ≡ ended_at q (names q g) (record { queue = q; group = names q y; sender = s; number = n; call = e.call; answer = a } ∷ o)) (sym at) (here at)
  | inr other ↦ ap (λ (z : Side). list_any ends z.answers) (group_other h y g _ (λ z. other (sym z))) ∙ same
      ∙ sym (ended_other (record { queue = q; group = names q y; sender = s; number = n; call = e.call; answer = a }) o q (names q g) (λ is. other (apart y g there inside is)))
]
  where
    here : y ≡ g → found (noted (Chain.Take g) h (Some e) (Some a)) g ≡ ended_at q (names q g) (record { queue = q; group = names q y; sender = s; number = n; call = e.call; answer = a } ∷ o)
    here at =
        ap (λ (z : Side). list_any ends z.answers) (group_mine h g _ (omega (arith, inside, size)))
        ∙ any-append ends (of_group h g).answers (a ∷ [])
        ∙ or_none (found h g) (ends a)
        ∙ ap (λ (b : Bool). b || ends a) same
        ∙ sym (ended_here (record { queue = q; group = names q y; sender = s; number = n; call = e.call; answer = a }) o q (names q g) refl (ap (names q) at))

none_found : (n g : ℕ) → found (empty n) g ≡ false
none_found n g = ap (λ (s : Side). list_any ends s.answers) (no_calls n (Chain.Take g))

pub ended_same : (cfg : ℕ → Config) (names : ℕ → ℕ → ℕ) (apart : AreApart cfg names) (order : List AtQueue) → exact.Exact cfg order → (q g : ℕ) → g < (cfg q).groups → found (exact.after cfg q order) g ≡ ended_at q (names q g) (map (seen names) order)
ended_same cfg names apart [] ok q g inside = none_found (cfg q).groups g
ended_same cfg names apart (e ∷ order) ok q g inside = by (ended_same cfg names apart order (exact.exact_before cfg e order ok) q g inside) (cases_eq e.at q)
  where
    by : found (exact.after cfg q order) g ≡ ended_at q (names q g) (map (seen names) order) → (e.at ≡ q) ⊎ (e.at ≡ q → ⊥) → found (exact.after cfg q (e ∷ order)) g ≡ ended_at q (names q g) (seen names e ∷ map (seen names) order)
    by before (inr differ) = ap (λ (l : List Effect). found (replay (cfg q).groups l) g) (exact.only_else cfg e order q differ) ∙ before ∙ sym (ended_else (seen names e) (map (seen names) order) q (names q g) differ)
    by before (inl is) =
        let now : IsExact (cfg q) (e.effect ∷ only q order) = subst (λ (l : List Effect). IsExact (cfg q) l) (exact.only_here cfg e order q is) (ok q) in
        ap (λ (l : List Effect). found (replay (cfg q).groups l) g) (exact.only_here cfg e order q is)
        ∙ ends_more (cfg q) names q (exact.after cfg q order) (map (seen names) order) e.effect.chain e.effect.entry e.effect.answer (seen names e).sender (seen names e).number g (apart q) now.1 now.2 now.3
        (replay_groups (cfg q).groups (only q order)) inside before
        ∙ ap (λ (z : ℕ). ended_at q (names q g) (record { queue = z; group = group_on names z e.effect.chain; sender = (seen names e).sender; number = (seen names e).number; call = (seen names e).call; answer = (seen names e).answer } ∷ map (seen names) order)) (sym is)

-- ---- a call that took effect is in the history

calls_grow : (y x : Chain) (n : ℕ) (h : Record) (e : Entry) (a : Answer) → length h.takes ≡ n → ((g : ℕ) → x ≡ Chain.Take g → g < n) → 0 < length (calls_on x h) → 0 < length (calls_on x (noted y h (Some e) (Some a)))
calls_grow Chain.Send Chain.Send n h e a size inside some = omega (arith, some, length-append h.sends.calls (e ∷ []))
calls_grow (Chain.Take y) (Chain.Take g) n h e a size inside some = elim (cases_eq y g) [
  | inl at ↦ subst (λ (z : ℕ). 0 < length (calls_on (Chain.Take g) (noted (Chain.Take z) h (Some e) (Some a)))) (sym at)
      (omega (arith, ap (λ (s : Side). length s.calls) (group_mine h g (record { calls = (of_group h g).calls ++ e ∷ []; answers = (of_group h g).answers ++ a ∷ [] }) (omega (arith, inside g refl, size))), length-append (of_group h g).calls (e ∷ [])))
  | inr other ↦ omega (arith, some, ap (λ (s : Side). length s.calls) (group_other h y g (record { calls = (of_group h y).calls ++ e ∷ []; answers = (of_group h y).answers ++ a ∷ [] }) (λ z. other (sym z))))
]
calls_grow _ _ n h e a size inside some = some

calls_new : (x : Chain) (n : ℕ) (h : Record) (e : Entry) (a : Answer) → length h.takes ≡ n → ((g : ℕ) → x ≡ Chain.Take g → g < n) → 0 < length (calls_on x (noted x h (Some e) (Some a)))
calls_new Chain.Send n h e a size inside = omega (arith, length-append h.sends.calls (e ∷ []))
calls_new (Chain.Take g) n h e a size inside =
    omega (arith, ap (λ (s : Side). length s.calls) (group_mine h g (record { calls = (of_group h g).calls ++ e ∷ []; answers = (of_group h g).answers ++ a ∷ [] }) (omega (arith, inside g refl, size))), length-append (of_group h g).calls (e ∷ []))

has_calls : (n : ℕ) (front : List Effect) (e : Effect) (more : List Effect) → ((g : ℕ) → e.chain ≡ Chain.Take g → g < n) → 0 < length (calls_on e.chain (replay n (front ++ e ∷ more)))
has_calls n [] e more inside = calls_new e.chain n (replay n more) e.entry e.answer (replay_groups n more) inside
has_calls n (d ∷ front) e more inside = calls_grow d.chain e.chain n (replay n (front ++ e ∷ more)) d.entry d.answer (replay_groups n (front ++ e ∷ more)) inside (has_calls n front e more inside)

-- ---- parts of exact orders

there_inside : (cfg : Config) (x : Chain) → IsThere cfg x → (g : ℕ) → x ≡ Chain.Take g → g < cfg.groups
there_inside cfg Chain.Send there g is = absurd (cc)
there_inside cfg (Chain.Take y) there g is = let same : y ≡ g = cc in omega (arith, there, same)

pub any_prefix : {X : Type 0} (p : X → Bool) (a b : List X) → IsPrefix a b → list_any p a ≡ true → list_any p b ≡ true
any_prefix {X} p a b front is = ap (λ (l : List X). list_any p l) front.1 ∙ any-append p a front.0 ∙ ap (λ (c : Bool). c || list_any p front.0) is

-- ---- what was used by now

sender_starts : (cfg : Config) (p g : ℕ) (pass : Pass) (call : Call) (o : List At) → IsSenders cfg pass call → ((k : ℕ) → suc k ≡ p → shut_at k o ≡ true) → StartsNext p g call o
sender_starts cfg p g pass call o is shut = grind arith

taker_starts : (cfg : Config) (p g name : ℕ) (pass : Pass) (call : Call) (o : List At) → IsReceivers cfg g pass call → ((k : ℕ) → suc k ≡ p → ended_at k name o ≡ true) → StartsNext p name call o
taker_starts cfg p g name pass call o is ended = grind arith

skip_shut : (names : ℕ → ℕ → ℕ) (p k : ℕ) (l : List Effect) (rest : List AtQueue) → (p ≡ k → ⊥) → shut_at k (map (seen names) (put p l ++ rest)) ≡ shut_at k (map (seen names) rest)
skip_shut names p k [] rest differ = refl
skip_shut names p k (e ∷ l) rest differ = shut_else (seen names (record { at = p; effect = e })) (map (seen names) (put p l ++ rest)) k differ ∙ skip_shut names p k l rest differ

skip_ended : (names : ℕ → ℕ → ℕ) (p k g : ℕ) (l : List Effect) (rest : List AtQueue) → (p ≡ k → ⊥) → ended_at k g (map (seen names) (put p l ++ rest)) ≡ ended_at k g (map (seen names) rest)
skip_ended names p k g [] rest differ = refl
skip_ended names p k g (e ∷ l) rest differ = ended_else (seen names (record { at = p; effect = e })) (map (seen names) (put p l ++ rest)) k g differ ∙ skip_ended names p k g l rest differ

module _ (c : ℕ → Setting) where
  abbrev pub cfg : ℕ → Config
  cfg q = (c q).config

  abbrev pub Exacts : (ℕ → List (List Effect)) → Type 0
  Exacts f = (q : ℕ) → IsExact (cfg q) (in_order (f q))

  pub exacts_cut : (p : ℕ) (f : ℕ → List (List Effect)) → Exacts f → Exacts (cut p f)
  exacts_cut p f ok q = grind (arith, cut_here, exact_before, head_tail, ok q, cut_else)

  pub merged_exact : (moves : List RowMove) (f : ℕ → List (List Effect)) → Each c moves f → Exacts f → exact.Exact cfg (flat (merge moves f))
  merged_exact moves f each ok q = subst (λ (l : List Effect). IsExact (cfg q) l) (sym (only_merged c moves f each q)) (ok q)

  module _ (names : ℕ → ℕ → ℕ) (apart : AreApart cfg names) (m : RowMove) (earlier : List RowMove) (f : ℕ → List (List Effect)) (each : Each c (m ∷ earlier) f) (ok : Exacts f) (used : UsedInOrder c names (m ∷ earlier)) where
    abbrev rest : List AtQueue
    rest = flat (merge earlier (cut m.at f))

    on_time : (q : ℕ) → IsOnTime (history_of (c q) (moves_at q (m ∷ earlier))) (replay (cfg q).groups (in_order (f q)))
    on_time q = timely_now (c q) (moves_at q (m ∷ earlier)) (f q) (each q)

    rest_exact : exact.Exact cfg rest
    rest_exact = merged_exact earlier (cut m.at f) (each_before c m earlier f each) (exacts_cut m.at f ok)

    rest_at : (k : ℕ) → (m.at ≡ k → ⊥) → only k rest ≡ in_order (f k)
    rest_at k differ = only_merged c earlier (cut m.at f) (each_before c m earlier f each) k ∙ ap in_order (cut_else f m.at k differ)

    shut_by_now : (k : ℕ) → suc k ≡ m.at → 0 < length (calls_on Chain.Send (history_of (c m.at) (moves_at m.at (m ∷ earlier)))) → shut_at k (map (seen names) rest) ≡ true
    shut_by_now k next some =
        let told : is_shut (history_of (c k) (moves_at k (m ∷ earlier))) ≡ true =
        used.senders k (subst (λ (z : ℕ). 0 < length (calls_on Chain.Send (history_of (c z) (moves_at z (m ∷ earlier))))) (sym next) some) in
        let on : IsOnTime (history_of (c k) (moves_at k (m ∷ earlier))) (replay (cfg k).groups (in_order (f k))) = on_time k in
        let shut : is_shut (replay (cfg k).groups (in_order (f k))) ≡ true =
        any_prefix shuts (answers_on Chain.Send (history_of (c k) (moves_at k (m ∷ earlier)))) (answers_on Chain.Send (replay (cfg k).groups (in_order (f k)))) (on.answers Chain.Send) told in
        let state : exact.Same names k (cfg k).groups (exact.after cfg k rest) (map (seen names) rest) = exact.same cfg names apart rest rest_exact k in
        sym state.shut ∙ ap (λ (l : List Effect). is_shut (replay (cfg k).groups l)) (rest_at k (λ z. omega (arith, z, next))) ∙ shut

    ended_by_now : (k g : ℕ) → suc k ≡ m.at → g < (cfg m.at).groups → 0 < length (calls_on (Chain.Take g) (history_of (c m.at) (moves_at m.at (m ∷ earlier)))) → ended_at k (names m.at g) (map (seen names) rest) ≡ true
    ended_by_now k g next inside some =
        let was : FoundEnded (c k) (names k) (moves_at k (m ∷ earlier)) (names (suc k) g) =
        used.takers k g (omega (arith, inside, ap (λ (z : ℕ). (cfg z).groups) next)) (subst (λ (z : ℕ). 0 < length (calls_on (Chain.Take g) (history_of (c z) (moves_at z (m ∷ earlier))))) (sym next) some) in
        let on : IsOnTime (history_of (c k) (moves_at k (m ∷ earlier))) (replay (cfg k).groups (in_order (f k))) = on_time k in
        let shut : found (replay (cfg k).groups (in_order (f k))) was.group ≡ true =
        any_prefix ends (answers_on (Chain.Take was.group) (history_of (c k) (moves_at k (m ∷ earlier)))) (answers_on (Chain.Take was.group) (replay (cfg k).groups (in_order (f k)))) (on.answers (Chain.Take was.group)) was.ended in
        ap (λ (z : ℕ). ended_at k z (map (seen names) rest)) (sym (was.named ∙ ap (λ (z : ℕ). names z g) next)) ∙ sym (ended_same cfg names apart rest rest_exact k was.group was.inside)
        ∙ ap (λ (l : List Effect). found (replay (cfg k).groups l) was.group) (rest_at k (λ z. omega (arith, z, next))) ∙ shut

    starts : (l : List Effect) (x : Chain) (e : Entry) → IsThere (cfg m.at) x → IsOfChain (cfg m.at) x e → 0 < length (calls_on x (history_of (c m.at) (moves_at m.at (m ∷ earlier)))) → StartsNext m.at (group_on names m.at x) e.call (map (seen names) (put m.at l ++ rest))
    starts l Chain.Send e there mine some =
        sender_starts (cfg m.at) m.at 0 e.pass e.call (map (seen names) (put m.at l ++ rest)) mine (λ k next. skip_shut names m.at k l rest (λ z. omega (arith, z, next)) ∙ shut_by_now k next some)
    starts l (Chain.Take g) e there mine some =
        taker_starts (cfg m.at) m.at g (names m.at g) e.pass e.call (map (seen names) (put m.at l ++ rest)) mine (λ k next. skip_ended names m.at k (names m.at g) l rest (λ z. omega (arith, z, next)) ∙ ended_by_now k g next there some)

    now_in_order : (last : ℕ) → m.at ≤ last → InOrder names last rest → (l front : List Effect) → front ++ l ≡ head (f m.at) → InOrder names last (put m.at l ++ rest)
    now_in_order last within before [] front is = before
    now_in_order last within before (e ∷ l) front is =
        let more : List Effect = l ++ in_order (tail (f m.at)) in
        let split : in_order (f m.at) ≡ front ++ e ∷ (l ++ in_order (tail (f m.at))) = sym (head_tail (f m.at)) ∙ ap (λ (z : List Effect). z ++ in_order (tail (f m.at))) (sym is) ∙ append_assoc front (e ∷ l) (in_order (tail (f m.at))) in
        let parts : IsExact (cfg m.at) (e ∷ (l ++ in_order (tail (f m.at)))) = exact_before (cfg m.at) front (e ∷ (l ++ in_order (tail (f m.at)))) (subst (λ (z : List Effect). IsExact (cfg m.at) z) split (ok m.at)) in
        let has : 0 < length (calls_on e.chain (replay (cfg m.at).groups (in_order (f m.at)))) =
        subst (λ (z : List Effect). 0 < length (calls_on e.chain (replay (cfg m.at).groups z))) (sym split) (has_calls (cfg m.at).groups front e (l ++ in_order (tail (f m.at))) (there_inside (cfg m.at) e.chain parts.1)) in
        let on : IsOnTime (history_of (c m.at) (moves_at m.at (m ∷ earlier))) (replay (cfg m.at).groups (in_order (f m.at))) = on_time m.at in
        let some : 0 < length (calls_on e.chain (history_of (c m.at) (moves_at m.at (m ∷ earlier)))) =
        omega (arith, has, prefix_length (calls_on e.chain (replay (cfg m.at).groups (in_order (f m.at)))) (calls_on e.chain (history_of (c m.at) (moves_at m.at (m ∷ earlier)))) (on.calls e.chain)) in
        (now_in_order last within before l (front ++ e ∷ []) (append_assoc front (e ∷ []) l ∙ is), within, starts l e.chain e.entry parts.1 parts.2 some)

  pub merged_in_order : (names : ℕ → ℕ → ℕ) → AreApart cfg names → (last : ℕ) (moves : List RowMove) (f : ℕ → List (List Effect)) → Each c moves f → Exacts f → IsUsed c names last moves → InOrder names last (flat (merge moves f))
  merged_in_order names apart last [] f each ok used = tt
  merged_in_order names apart last (m ∷ earlier) f each ok used =
      now_in_order names apart m earlier f each ok used.2 last used.1 (merged_in_order names apart last earlier (cut m.at f) (each_before c m earlier f each) (exacts_cut m.at f ok) used.0) (head (f m.at)) [] refl

pub rows_are_linearizable : RowsAreLinearizable
rows_are_linearizable c names last moves run =
    let f : ℕ → List (List Effect) = λ q. (each_of c names last moves run q).0 in
    let each : Each c moves (λ q. (each_of c names last moves run q).0) = λ q. (each_of c names last moves run q).1.timely in
    let ok : (q : ℕ) → IsExact (c q).config (in_order ((each_of c names last moves run q).0)) = λ q. (each_of c names last moves run q).1.exact in
    let merged : List (List AtQueue) = merge moves (λ q. (each_of c names last moves run q).0) in
    let orders : (q : ℕ) → IsExact (c q).config (only q (flat (merge moves (λ q. (each_of c names last moves run q).0)))) = merged_exact c moves (λ q. (each_of c names last moves run q).0) each ok in (
      merge moves (λ q. (each_of c names last moves run q).0),
      record {
        timely = row_timely c moves (λ q. (each_of c names last moves run q).0) each;
        exact = orders;
        one = λ wide room life.
            exact_queues_are_one (λ q. (c q).config) names wide last (flat (merge moves (λ q. (each_of c names last moves run q).0))) run.apart orders
            (merged_in_order c names run.apart last moves (λ q. (each_of c names last moves run q).0) each ok run.used) room life;
      },
    )
