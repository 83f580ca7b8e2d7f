-- A list of topics that grows by one topic that was opened.
use Rattle.std.proofs.Common.{◌≡◌, ℕ, zero, suc, ◌+◌, ◌<◌, List, [], ◌∷◌, ◌++◌, take, length, slice_get, slice_index_or, All, Ok, Some, refl, sym, ap, subst, ◌∙◌, arith}
use Rattle.std.specs.Borrow.{Bor}
use Rattle.std.proofs.Math.Seq.{take-suc}
use Rattle.std.proofs.lemmas.List.Elements.{All-push}
use Rattle.std.proofs.lemmas.List.{map-append}
use Rattle.std.proofs.lemmas.Option.{none-some}
use Rattle.cc_model.specs.declared.config.Config.{Config}
use Rattle.cc_model.specs.Config.{config_fault}
use Rattle.cc_runs.specs.declared.setting.Setting.{Setting}
use Rattle.cc_runs.specs.declared.setting.Served.{Served}
use Rattle.cc_steps.specs.Topic.{Topic}
use Rattle.cc_queue.specs.Opened as queue
use Rattle.cc_broker.specs.Names.{AreDistinct}
use Rattle.cc_broker.specs.Topics.{names, queues, settings, asked_names, asked_settings}
use Rattle.cc_broker.specs.Opened.{AreItsPasses, AreTheirPasses, Senders, Receivers}

-- the topics and passes so far: the names and settings are those that were asked for, and the passes those of the queues
pub record Opened (asked : List (Bor (List ℕ) × Config)) (topics : List (List ℕ × Topic)) (passes : List (Senders × Receivers)) : Type 0 where
  pub names_are : names topics ≡ asked_names asked
  pub settings_are : settings topics ≡ asked_settings asked
  pub passes_are : AreTheirPasses (queues topics) passes

passes_push : (queues : List Topic) (passes : List (Senders × Receivers)) (z : Topic) (p : Senders × Receivers)
    → AreTheirPasses queues passes → AreItsPasses z p → AreTheirPasses (queues ++ z ∷ []) (passes ++ p ∷ [])
passes_push [] [] z p so one = (one, tt)
passes_push (y ∷ ys) (q ∷ qs) z p so one = (so.0, passes_push ys qs z p so.1 one)
passes_push [] (q ∷ qs) z p so one = absurd so
passes_push (y ∷ ys) [] z p so one = absurd so

-- the passes of a queue that was opened are its passes
its_passes : (c : Config) (z : Topic) (p : Senders × Receivers) → queue.HasOpened c record { queue = z; senders = p.0; receivers = p.1 } → AreItsPasses z p
its_passes c z p h = subst (λ d. queue.HasOpened d record { queue = z; senders = p.0; receivers = p.1 }) (sym (ap (λ (s : Setting). s.config) h.setting)) h

opened_push : (asked : List (Bor (List ℕ) × Config)) (topics : List (List ℕ × Topic)) (passes : List (Senders × Receivers)) (a : Bor (List ℕ) × Config) (t : List ℕ × Topic) (p : Senders × Receivers)
    → Opened asked topics passes → t.0 ≡ a.0.now → queue.HasOpened a.1 record { queue = t.1; senders = p.0; receivers = p.1 }
    → Opened (asked ++ a ∷ []) (topics ++ t ∷ []) (passes ++ p ∷ [])
opened_push asked topics passes a t p so name one = record {
  names_are = map-append (λ t. t.0) topics (t ∷ []) ∙ (λ i. so.names_are i ++ name i ∷ []) ∙ sym (map-append (λ t. t.0.now) asked (a ∷ []));
  settings_are = map-append (λ t. t.1.setting) topics (t ∷ []) ∙ (λ i. so.settings_are i ++ one.setting i ∷ []) ∙ sym (map-append (λ t. record { served = Served.List; config = t.1 }) asked (a ∷ []));
  passes_are = subst (λ zs. AreTheirPasses zs (passes ++ p ∷ [])) (sym (map-append (λ t. t.1) topics (t ∷ []))) (passes_push (queues topics) passes t.1 p so.passes_are (its_passes a.1 t.1 p one));
}

-- a name before this place
name_before : (asked : List (Bor (List ℕ) × Config)) (n i : ℕ) (name : List ℕ) → slice_get (asked_names (take n asked)) i ≡ Some name → (i < n) × (slice_get (asked_names asked) i ≡ Some name)
name_before [] zero i name e = absurd (none-some _ e)
name_before [] (suc n) i name e = absurd (none-some _ e)
name_before (a ∷ rest) zero i name e = absurd (none-some _ e)
name_before (a ∷ rest) (suc n) zero name e = (omega arith, e)
name_before (a ∷ rest) (suc n) (suc i) name e =
    let later = name_before rest n i name e in (omega (arith, later.0), later.1)

pub name_at : (asked : List (Bor (List ℕ) × Config)) (n : ℕ) (d : Bor (List ℕ) × Config) → n < length asked → (slice_get (asked_names asked) n ≡ Some (slice_index_or asked n d).0.now) × (n < length (asked_names asked))
name_at [] n d some = absurd (omega (arith, some))
name_at (a ∷ rest) zero d some = (refl, omega arith)
name_at (a ∷ rest) (suc n) d some =
    let later = name_at rest n d (omega (arith, some)) in (later.0, omega (arith, later.1))

-- so the next name is new
pub next_name : (asked : List (Bor (List ℕ) × Config)) (topics : List (List ℕ × Topic)) (passes : List (Senders × Receivers)) (n : ℕ) (d : Bor (List ℕ) × Config)
    → AreDistinct (asked_names asked) → n < length asked → Opened (take n asked) topics passes → (i : ℕ) → slice_get (names topics) i ≡ Some (slice_index_or asked n d).0.now → ⊥
next_name asked topics passes n d distinct some so i e =
    let before = name_before asked n i _ (sym (ap (λ l. slice_get l i) so.names_are) ∙ e) in
    let here = name_at asked n d some in
    distinct n record { before = i; earlier = before.0; within = here.1; same = before.1 ∙ sym here.0 }

-- one more place
next_place : {X : Type 0} (xs : List X) (n : ℕ) (d : X) → n < length xs → take (n + 1) xs ≡ take n xs ++ slice_index_or xs n d ∷ []
next_place xs n d some = ap (λ m. take m xs) next ∙ take-suc xs n d some
  where
    next : n + 1 ≡ suc n
    next = omega arith

-- the topic at the next place was opened too
pub next_opened : (asked : List (Bor (List ℕ) × Config)) (n : ℕ) (d : Bor (List ℕ) × Config) (topics topics' : List (List ℕ × Topic)) (passes passes' : List (Senders × Receivers)) (t : List ℕ × Topic) (p : Senders × Receivers)
    → n < length asked → Opened (take n asked) topics passes → t.0 ≡ (slice_index_or asked n d).0.now → queue.HasOpened (slice_index_or asked n d).1 record { queue = t.1; senders = p.0; receivers = p.1 }
    → topics' ≡ topics ++ t ∷ [] → passes' ≡ passes ++ p ∷ [] → Opened (take (n + 1) asked) topics' passes'
next_opened asked n d topics topics' passes passes' t p some so name one ts ps =
    subst (λ (y : List (Bor (List ℕ) × Config) × List (List ℕ × Topic) × List (Senders × Receivers)). Opened y.0 y.1 y.2)
    (λ i. (sym (next_place asked n d some) i, sym ts i, sym ps i))
    (opened_push (take n asked) topics passes (slice_index_or asked n d) t p so name one)

-- and if its configuration is in range, all so far are
pub next_valid : (asked : List (Bor (List ℕ) × Config)) (n : ℕ) (d : Bor (List ℕ) × Config) → n < length asked → All (λ a. config_fault a.1 ≡ Ok tt) (take n asked) → config_fault (slice_index_or asked n d).1 ≡ Ok tt → All (λ a. config_fault a.1 ≡ Ok tt) (take (n + 1) asked)
next_valid asked n d some so one = subst (All (λ a. config_fault a.1 ≡ Ok tt)) (sym (next_place asked n d some)) (All-push (λ a. config_fault a.1 ≡ Ok tt) (take n asked) (slice_index_or asked n d) so one)
