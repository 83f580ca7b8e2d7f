-- Whether the name at a place occurs before it too.
use Rattle.std.proofs.Common.{◌≡◌, ℕ, ◌+◌, ◌<◌, ◌≤◌, inl, inr, Bool, true, false, List, length, slice_get, slice_index_or, bytes_eq, Some, unwrap_or, sym, ap, ◌∙◌, true≢false, arith}
use Rattle.std.specs.Borrow.{Bor}
use Rattle.std.proofs.lemmas.Bool.{cases_lt}
use Rattle.std.proofs.lemmas.Slice.Eq.{bytes_eq-Decides}
use Rattle.cc_model.specs.declared.config.Config.{Config}
use Rattle.cc_broker.specs.Names.{IsDouble, IsFirstDouble}
use Rattle.cc_broker.specs.Topics.{asked_names}
use Rattle.cc_broker.proofs.Built.{name_at}

-- no place so far has the name of this one
abbrev pub NoneSo : List (List ℕ) → ℕ → ℕ → Type 0
NoneSo names place so = (other : ℕ) → other < so → slice_get names other ≡ slice_get names place → ⊥

module _ (asked : List (Bor (List ℕ) × Config)) (before place : ℕ) (d : Bor (List ℕ) × Config) (r : Bool)
    (earlier : before < place) (within : place < length asked)
    (told : r ≡ bytes_eq (slice_index_or asked before d).0.now (slice_index_or asked place d).0.now) where
  pub double_at : r ≡ true → IsDouble (asked_names asked) place
  double_at holds =
      let one = name_at asked before d (omega (arith, earlier, within)) in
      let two = name_at asked place d within in
      record {
        before = before;
        earlier = earlier;
        within = two.1;
        same = one.0 ∙ ap Some ((bytes_eq-Decides (slice_index_or asked before d).0.now (slice_index_or asked place d).0.now).0 (sym told ∙ holds)) ∙ sym two.0;
      }

  pub none_more : r ≡ false → NoneSo (asked_names asked) place before → NoneSo (asked_names asked) place (before + 1)
  none_more fails none other below e =
      elim (cases_lt other before) [
        | inl under ↦ none other under e
        | inr over ↦
            let here : other ≡ before = omega (arith, below, over) in
            let one = name_at asked before d (omega (arith, earlier, within)) in
            let two = name_at asked place d within in
            let alike = sym one.0 ∙ ap (slice_get (asked_names asked)) (sym here) ∙ e ∙ two.0 in
            true≢false (sym ((bytes_eq-Decides (slice_index_or asked before d).0.now (slice_index_or asked place d).0.now).1 (ap (λ r. unwrap_or r (slice_index_or asked before d).0.now) alike)) ∙ sym told ∙ fails)
      ]

-- if no place before it is a double, it is the first
pub first_at : (names : List (List ℕ)) (place : ℕ) → ((other : ℕ) → other < place → IsDouble names other → ⊥) → IsDouble names place → IsFirstDouble names place
first_at names place none double = record { double = double; least = least }
  where
    least : (other : ℕ) → IsDouble names other → place ≤ other
    least other h =
        elim (cases_lt other place) [
          | inl under ↦ absurd (none other under h)
          | inr over ↦ over
        ]
