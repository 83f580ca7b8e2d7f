-- The state of each queue of a row is that of its own history.
use Rattle.std.proofs.Common.{◌≡◌, ◌⊎◌, ℕ, ◌+◌, ◌<◌, Bool, false, ◌||◌, cond, List, [], ◌∷◌, ◌++◌, map, length, Some, inl, inr, refl, sym, ap, subst, ◌∙◌, arith, eq-eqb, length-append}
use Rattle.std.proofs.lemmas.Bool.{cases_eq, ne_eqb}
use Rattle.std.proofs.lemmas.List.{length-map}
use Rattle.std.specs.List.{slice_get}
use Rattle.cc_model.specs.Record.{Side, Record, empty, of_group}
use Rattle.cc_model.specs.Items.{accepted, accepted_item, is_shut, shuts, handed, handed_by, handed_item, handed_to_all}
use Rattle.cc_model.specs.Legal.{IsSenders, IsReceivers}
use Rattle.cc_model.specs.Sequential.{Exactly}
use Rattle.cc_model.proofs.Grows.{accepted_more, get_last, any-append, handed_by-append}
use Rattle.cc_runs.specs.State.{noted}
use Rattle.cc_runs.specs.OnChain.{IsThere}
use Rattle.cc_runs.specs.Linearizable.{Effect, replay, AnswersAfter, IsExact, IsOfChain}
use Rattle.cc_runs.proofs.Chains.Opening.{no_calls}
use Rattle.cc_runs.proofs.ListRuns.Decided.{group_mine, group_other}
use Rattle.cc_runs.proofs.Linear.Replay.{accepted_by_calls, replay_groups, replay_even}
use Rattle.cc_row.specs.Names.{Config, Pass, Call, Item, Entry, Answer, Chain}
use Rattle.cc_row.specs.Row.{At, new_item, items_at, shut_at, taken_at, IsChain}
use Rattle.cc_row.specs.Queues.{AtQueue, AreApart, only, group_on, sender_of, seen, InOrder, ExactQueuesAreOne}
use Rattle.cc_row.proofs.States.{items_here, items_else, items_none, shut_here, shut_else, shut_none, taken_here, taken_else, taken_other, taken_none}
use Rattle.cc_row.proofs.Law.{rows_are_queues}
use Rattle.cc_row.proofs.Chains.{chains_are_rows}

-- ---- what one call adds

sent : (cfg : Config) (pass : Pass) (call : Call) (number known : ℕ) (a : Answer) → IsSenders cfg pass call
    → accepted_item (record { pass = pass; call = call; number = number; known = known }) a ≡ new_item (sender_of pass) number call a
sent cfg pass call number known a is = grind arith

hands_none : (cfg : Config) (pass : Pass) (call : Call) (items : List Item) (shut : Bool) (taken all : ℕ) (a : Answer) → IsSenders cfg pass call → Exactly cfg items shut taken all call a → handed_item a ≡ []
hands_none cfg pass call items shut taken all a is h = grind arith

adds_none : (cfg : Config) (g : ℕ) (pass : Pass) (call : Call) (sender number : ℕ) (a : Answer) → IsReceivers cfg g pass call → new_item sender number call a ≡ []
adds_none cfg g pass call sender number a is = grind arith

shuts_none : (cfg : Config) (g : ℕ) (pass : Pass) (call : Call) (items : List Item) (shut : Bool) (taken all : ℕ) (a : Answer) → IsReceivers cfg g pass call → Exactly cfg items shut taken all call a → shuts a ≡ false
shuts_none cfg g pass call items shut taken all a is h = grind arith

module _ (h : Record) (e : Entry) (a : Answer) where
  pub send_accepted : length h.sends.calls ≡ length h.sends.answers → accepted (noted Chain.Send h (Some e) (Some a)) ≡ accepted h ++ accepted_item e a
  send_accepted even =
      let next : slice_get (h.sends.calls ++ e ∷ []) (length h.sends.answers) ≡ Some e = ap (λ (n : ℕ). slice_get (h.sends.calls ++ e ∷ []) n) (sym even) ∙ get_last h.sends.calls e in
      accepted_more (h.sends.calls ++ e ∷ []) h.sends.answers e a next ∙ ap (λ (l : List Item). l ++ accepted_item e a) (accepted_by_calls h.sends.answers h.sends.calls (e ∷ []) even)

  or_none : (b c : Bool) → (b || (c || false)) ≡ (b || c)
  or_none b c = grind arith

  send_shut : is_shut (noted Chain.Send h (Some e) (Some a)) ≡ (is_shut h || shuts a)
  send_shut = any-append shuts h.sends.answers (a ∷ []) ∙ or_none (is_shut h) (shuts a)

  pub take_mine : (g : ℕ) → g < length h.takes → length (handed (noted (Chain.Take g) h (Some e) (Some a)) g) ≡ length (handed h g) + length (handed_item a)
  take_mine g inside =
      let mine : handed (noted (Chain.Take g) h (Some e) (Some a)) g ≡ handed_by ((of_group h g).answers ++ a ∷ []) = ap (λ (s : Side). handed_by s.answers) (group_mine h g _ inside) in
      omega (
        arith,
        ap length mine,
        ap length (handed_by-append (of_group h g).answers (a ∷ [])),
        length-append (handed h g) (handed_by (a ∷ [])),
        length-append (handed_item a) [],
      )

  pub take_other : (g k : ℕ) → (k ≡ g → ⊥) → handed (noted (Chain.Take g) h (Some e) (Some a)) k ≡ handed h k
  take_other g k differ = ap (λ (s : Side). handed_by s.answers) (group_other h g k _ differ)

-- ---- the state of one queue

pub record Same (names : ℕ → ℕ → ℕ) (q n : ℕ) (h : Record) (o : List At) : Type 0 where
  pub items : accepted h ≡ items_at q o
  pub shut : is_shut h ≡ shut_at q o
  pub taken : (g : ℕ) → g < n → length (handed h g) ≡ taken_at q (names q g) o

abbrev shown : (ℕ → ℕ → ℕ) → ℕ → Chain → Entry → Answer → At
shown names q x e a = record { queue = q; group = group_on names q x; sender = sender_of e.pass; number = e.number; call = e.call; answer = a }

same_more : (cfg : Config) (names : ℕ → ℕ → ℕ) (q : ℕ) (h : Record) (o : List At) (x : Chain) (e : Entry) (a : Answer) → ((g k : ℕ) → g < cfg.groups → k < cfg.groups → names q g ≡ names q k → g ≡ k) → IsThere cfg x → IsOfChain cfg x e
    → AnswersAfter cfg h x e.call a → length h.sends.calls ≡ length h.sends.answers → length h.takes ≡ cfg.groups → Same names q cfg.groups h o → Same names q cfg.groups (noted x h (Some e) (Some a)) (shown names q x e a ∷ o)
same_more cfg names q h o Chain.Send e a apart there mine exact even n same =
    let d : At = shown names q Chain.Send e a in
    record {
      items = send_accepted h e a even ∙ (λ i. same.items i ++ sent cfg e.pass e.call e.number e.known a mine i) ∙ sym (items_here d o q refl);
      shut = send_shut h e a ∙ ap (λ (b : Bool). b || shuts a) same.shut ∙ sym (shut_here d o q refl);
      taken = λ g inside. same.taken g inside ∙ sym (taken_none d o q (names q g) (hands_none cfg e.pass e.call (accepted h) (is_shut h) 0 (handed_to_all h) a mine exact));
    }
same_more cfg names q h o (Chain.Take y) e a apart there mine exact even n same =
    let d : At = shown names q (Chain.Take y) e a in
    record {
      items = same.items ∙ sym (items_none d o q (adds_none cfg y e.pass e.call (sender_of e.pass) e.number a mine));
      shut = same.shut ∙ sym (shut_none d o q (shuts_none cfg y e.pass e.call (accepted h) (is_shut h) (length (handed h y)) (handed_to_all h) a mine exact));
      taken = λ g inside. grind (arith, by_group g, take_other h e a y g, same.taken g inside, taken_other d o q (names q g), apart y g there inside);
    }
  where
    by_group : (g : ℕ) → y ≡ g → g < cfg.groups → length (handed (noted (Chain.Take y) h (Some e) (Some a)) g) ≡ taken_at q (names q g) (shown names q (Chain.Take y) e a ∷ o)
    by_group g at inside = omega (
      arith,
      ap (λ (z : ℕ). length (handed (noted (Chain.Take y) h (Some e) (Some a)) z)) at,
      take_mine h e a y (omega (arith, at, inside, n)),
      ap (λ (z : ℕ). length (handed h z)) at,
      same.taken g inside,
      taken_here (shown names q (Chain.Take y) e a) o q (names q g) refl (ap (names q) at),
    )

module _ (cfg : ℕ → Config) where
  abbrev pub after : ℕ → List AtQueue → Record
  after q order = replay (cfg q).groups (only q order)

  pub none_handed : (n g : ℕ) → length (handed (empty n) g) ≡ 0
  none_handed n g = ap (λ (s : Side). length (handed_by s.answers)) (no_calls n (Chain.Take g))

  pub only_here : (e : AtQueue) (order : List AtQueue) (q : ℕ) → e.at ≡ q → only q (e ∷ order) ≡ e.effect ∷ only q order
  only_here e order q is = ap (λ (b : Bool). cond b (e.effect ∷ only q order) (only q order)) (eq-eqb e.at q is)

  pub only_else : (e : AtQueue) (order : List AtQueue) (q : ℕ) → (e.at ≡ q → ⊥) → only q (e ∷ order) ≡ only q order
  only_else e order q differ = ap (λ (b : Bool). cond b (e.effect ∷ only q order) (only q order)) (ne_eqb e.at q differ)

  abbrev pub Exact : List AtQueue → Type 0
  Exact order = (q : ℕ) → IsExact (cfg q) (only q order)

  pub exact_before : (e : AtQueue) (order : List AtQueue) → Exact (e ∷ order) → Exact order
  exact_before e order exact q = grind (arith, exact q)

  pub exact_now : (e : AtQueue) (order : List AtQueue) → Exact (e ∷ order) → IsExact (cfg e.at) (e.effect ∷ only e.at order)
  exact_now e order exact = subst (λ (l : List Effect). IsExact (cfg e.at) l) (only_here e order e.at refl) (exact e.at)

module _ (cfg : ℕ → Config) (names : ℕ → ℕ → ℕ) (apart : AreApart cfg names) where
  pub same : (order : List AtQueue) → Exact cfg order → (q : ℕ) → Same names q (cfg q).groups (after cfg q order) (map (seen names) order)
  same [] exact q = record { items = refl; shut = refl; taken = λ g inside. none_handed cfg (cfg q).groups g }
  same (e ∷ order) exact q = by (same order (exact_before cfg e order exact) q) (cases_eq e.at q)
    where
      by : Same names q (cfg q).groups (after cfg q order) (map (seen names) order) → (e.at ≡ q) ⊎ (e.at ≡ q → ⊥) → Same names q (cfg q).groups (after cfg q (e ∷ order)) (seen names e ∷ map (seen names) order)
      by before (inr differ) = record {
        items = ap (λ (l : List Effect). accepted (replay (cfg q).groups l)) (only_else cfg e order q differ) ∙ before.items ∙ sym (items_else (seen names e) (map (seen names) order) q differ);
        shut = ap (λ (l : List Effect). is_shut (replay (cfg q).groups l)) (only_else cfg e order q differ) ∙ before.shut ∙ sym (shut_else (seen names e) (map (seen names) order) q differ);
        taken = λ g inside. ap (λ (l : List Effect). length (handed (replay (cfg q).groups l) g)) (only_else cfg e order q differ) ∙ before.taken g inside ∙ sym (taken_else (seen names e) (map (seen names) order) q (names q g) differ);
      }
      by before (inl is) =
          let now : IsExact (cfg q) (e.effect ∷ only q order) = subst (λ (l : List Effect). IsExact (cfg q) l) (only_here cfg e order q is) (exact q) in
          let more : Same names q (cfg q).groups (replay (cfg q).groups (e.effect ∷ only q order)) (shown names q e.effect.chain e.effect.entry e.effect.answer ∷ map (seen names) order) =
          same_more (cfg q) names q (after cfg q order) (map (seen names) order) e.effect.chain e.effect.entry e.effect.answer (apart q) now.1 now.2 now.3 (replay_even (cfg q).groups (only q order)).0 (replay_groups (cfg q).groups (only q order)) before in
          subst (λ (z : ℕ). Same names q (cfg q).groups (after cfg q (e ∷ order)) (shown names z e.effect.chain e.effect.entry e.effect.answer ∷ map (seen names) order)) (sym is)
          (subst (λ (l : List Effect). Same names q (cfg q).groups (replay (cfg q).groups l) (shown names q e.effect.chain e.effect.entry e.effect.answer ∷ map (seen names) order)) (sym (only_here cfg e order q is)) more)

  exactly_same : (c : Config) (q n : ℕ) (h : Record) (o : List At) (s : Same names q n h o) (t u all : ℕ) (call : Call) (a : Answer) → t ≡ u → Exactly c (accepted h) (is_shut h) t all call a → Exactly c (items_at q o) (shut_at q o) u all call a
  exactly_same c q n h o s t u all call a p e = subst (λ (z : Type 0). z) (λ i. Exactly c (s.items i) (s.shut i) (p i) all call a) e

  -- what a group took doesn't matter to a sender
  pub any_taken : (c : Config) (pass : Pass) (items : List Item) (shut : Bool) (t u all : ℕ) (call : Call) (a : Answer) → IsSenders c pass call → Exactly c items shut t all call a → Exactly c items shut u all call a
  any_taken c pass items shut t u all call a is h = grind arith

  pub exactly_at : (q : ℕ) (h : Record) (o : List At) (s : Same names q (cfg q).groups h o) (x : Chain) (e : Entry) (a : Answer) → IsThere (cfg q) x → IsOfChain (cfg q) x e → AnswersAfter (cfg q) h x e.call a
      → Exactly (cfg q) (items_at q o) (shut_at q o) (taken_at q (group_on names q x) o) (handed_to_all h) e.call a
  exactly_at q h o s Chain.Send e a there mine exact =
      any_taken (cfg q) e.pass (items_at q o) (shut_at q o) 0 (taken_at q 0 o) (handed_to_all h) e.call a mine (exactly_same (cfg q) q (cfg q).groups h o s 0 0 (handed_to_all h) e.call a refl exact)
  exactly_at q h o s (Chain.Take g) e a there mine exact = exactly_same (cfg q) q (cfg q).groups h o s (length (handed h g)) (taken_at q (names q g) o) (handed_to_all h) e.call a (s.taken g there) exact

  pub chain : (last : ℕ) (order : List AtQueue) → Exact cfg order → InOrder names last order → IsChain cfg last (map (seen names) order)
  chain last [] exact orderly = tt
  chain last (e ∷ order) exact orderly =
      let before : Exact cfg order = exact_before cfg e order exact in
      let now : IsExact (cfg e.at) (e.effect ∷ only e.at order) = exact_now cfg e order exact in (
        chain last order before orderly.0,
        orderly.1,
        orderly.2,
        (handed_to_all (after cfg e.at order), exactly_at e.at (after cfg e.at order) (map (seen names) order) (same order before e.at) e.effect.chain e.effect.entry e.effect.answer now.1 now.2 now.3),
      )

pub exact_queues_are_one : ExactQueuesAreOne
exact_queues_are_one cfg names wide last order apart exact orderly room life =
    rows_are_queues cfg wide last (map (seen names) order) (chains_are_rows cfg last (map (seen names) order) (chain cfg names apart last order exact orderly)) (omega (arith, length-map order (seen names), room)) (omega (arith, length-map order (seen names), life))
