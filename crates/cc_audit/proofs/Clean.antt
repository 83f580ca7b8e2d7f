-- Receipts that come from items in their places have no fault.
use Rattle.std.proofs.Common.{◌≡◌, ℕ, ◌<◌, ◌≤◌, ◌==◌, ◌⊎◌, inl, inr, List, [], length, map, Option, Some, get_or, Any, IsSomeAnd, refl, sym, ap, ◌∙◌, subst, arith, length-append}
use Rattle.std.specs.List.{slice_get}
use Rattle.std.proofs.lemmas.Bool.{eqb-true}
use Rattle.std.proofs.lemmas.List.{get_or-map, get_or_default, length-map}
use Rattle.std.proofs.lemmas.Option.{slice_get-get_or}
use Rattle.cc_model.specs.Body.{body_of}
use Rattle.cc_model.specs.Items.{IsPrefix}
use Rattle.cc_audit.specs.Names.{Item, SendReceipt, TakeReceipt}
use Rattle.cc_model.proofs.Grows.{get_front}
use Rattle.cc_audit.specs.Receipts.{send_receipt}
use Rattle.cc_audit.specs.Verdict.{HasNoFault, double_accept, double_take, stranger, altered, gap, disorder, overrun, SendNames, TakeNames, Differs, DoubleAccept, DoubleTake, Stranger, Altered, Gap, Disorder, Overrun}
use Rattle.cc_audit.proofs.Counts.{Two, two_of_count}

-- Items at their places, of which a prefix was taken, in the order of each sender's numbers; and a total of exactly
-- these
pub record Fair (sent : List Item) (takes : List TakeReceipt) (total : Option ℕ) : Type 0 where
  pub places : (i : ℕ) (x : Item) → slice_get sent i ≡ Some x → x.place ≡ i
  pub front : IsPrefix (map (λ t. t.item) takes) sent
  pub numbers : (i j : ℕ) (x y : Item) → i < j → slice_get sent i ≡ Some x → slice_get sent j ≡ Some y → x.sender ≡ y.sender → x.number < y.number
  pub all : (n : ℕ) → total ≡ Some n → n ≡ length sent

module _ (sent : List Item) (takes : List TakeReceipt) (total : Option ℕ) (fair : Fair sent takes total) where
  abbrev sends : List SendReceipt
  sends = map send_receipt sent

  no_item : Item
  no_item = record { place = 0; sender = 0; number = 0; body = body_of [] }

  -- the item of a send receipt
  sent_item : (k : ℕ) (d : SendReceipt) → k < length sends → (x : Item) × (slice_get sent k ≡ Some x) × (get_or sends k d ≡ send_receipt x)
  sent_item k d l =
      let short : k < length sent = simp length-map at l in
      (get_or sent k no_item, slice_get-get_or sent k no_item short, get_or-map send_receipt sent k no_item d short)

  sent_place : (k : ℕ) (d : SendReceipt) → k < length sends → (get_or sends k d).place ≡ k
  sent_place k d l = let x = sent_item k d l in ap (λ (s : SendReceipt). s.place) x.2 ∙ fair.places k x.0 x.1

  -- the item of a take receipt
  taken_item : (k : ℕ) (d : TakeReceipt) → k < length takes → slice_get sent k ≡ Some (get_or takes k d).item
  taken_item k d l =
      let items = map (λ (t : TakeReceipt). t.item) takes in
      let short : k < length items = simp length-map l in
      let here : slice_get items k ≡ Some (get_or takes k d).item = slice_get-get_or items k no_item short ∙ ap (λ (x : Item). Some x) (get_or-map (λ (t : TakeReceipt). t.item) takes k d no_item l) in
      subst (λ (xs : List Item). slice_get xs k ≡ Some (get_or takes k d).item) (sym fair.front.1) (get_front items fair.front.0 k _ here)

  taken_place : (k : ℕ) (d : TakeReceipt) → k < length takes → (get_or takes k d).item.place ≡ k
  taken_place k d l = fair.places k (get_or takes k d).item (taken_item k d l)

  few : length takes ≤ length sent
  few = omega (arith, ap length fair.front.1, length-append (map (λ (t : TakeReceipt). t.item) takes) fair.front.0, length-map takes (λ (t : TakeReceipt). t.item))

  no_double_accept : (p : ℕ) → DoubleAccept sends p → ⊥
  no_double_accept p h =
      let two : Two (λ (s : SendReceipt). s.place == p) sends = two_of_count (λ s. s.place == p) sends h in
      let d : SendReceipt = send_receipt no_item in
      omega (arith, two.order, two.below, sent_place two.first d (omega (arith, two.order, two.below)), sent_place two.second d two.below, eqb-true _ p (two.first_passes d), eqb-true _ p (two.second_passes d))

  no_double_take : (p : ℕ) → DoubleTake takes p → ⊥
  no_double_take p h =
      let two : Two (λ (t : TakeReceipt). t.item.place == p) takes = two_of_count (λ t. t.item.place == p) takes h in
      let d : TakeReceipt = record { receiver = 0; item = no_item } in
      omega (arith, two.order, two.below, taken_place two.first d (omega (arith, two.order, two.below)), taken_place two.second d two.below, eqb-true _ p (two.first_passes d), eqb-true _ p (two.second_passes d))

  -- a receipt that names p is at p
  send_at : (p k : ℕ) (s : SendReceipt) → k < length sends → get_or sends k s ≡ s → s.place ≡ p → k ≡ p
  send_at p k s l is names = omega (arith, sent_place k s l, ap (λ (r : SendReceipt). r.place) is, names)

  take_at : (p k : ℕ) (t : TakeReceipt) → k < length takes → get_or takes k t ≡ t → t.item.place ≡ p → k ≡ p
  take_at p k t l is names = omega (arith, taken_place k t l, ap (λ (r : TakeReceipt). r.item.place) is, names)

  send_below : (p : ℕ) → p < length sent → Any (SendNames p) sends
  send_below p l =
      let short : p < length sends = simp length-map l in
      let d : SendReceipt = send_receipt no_item in
      (p, get_or sends p d, short, get_or_default sends p _ d short, sent_place p d short)

  take_below : (p : ℕ) → p < length takes → Any (TakeNames p) takes
  take_below p l =
      let d : TakeReceipt = record { receiver = 0; item = no_item } in
      (p, get_or takes p d, l, get_or_default takes p _ d l, taken_place p d l)

  no_stranger : (p : ℕ) → Stranger sends takes p → ⊥
  no_stranger p h = h.1 (send_below p (omega (arith, few, take_at p h.0.0 h.0.1 h.0.2 h.0.3 h.0.4, h.0.2)))

  no_gap : (p : ℕ) → Gap takes p → ⊥
  no_gap p h = h.0 (take_below p (omega (arith, take_at h.1.1.item.place h.1.0 h.1.1 h.1.2 h.1.3 refl, h.1.2, h.1.4)))

  -- a receipt of an item is of this item
  as_sent : (x : Item) → Differs (send_receipt x) x → ⊥
  as_sent x h = elim h [ inl differ ↦ differ refl | inr other ↦ elim other [ inl differ ↦ differ refl | inr differ ↦ differ refl ] ]

  no_altered : (p : ℕ) → Altered sends takes p → ⊥
  no_altered p h =
      let t = h.1 in
      let other = h.4.1 in
      let s = other.1 in
      let k : h.0 ≡ p = take_at p h.0 t h.2 h.3 h.4.0 in
      let j : other.0 ≡ p = send_at p other.0 s other.2 other.3 other.4.0 in
      let x = sent_item other.0 s other.2 in
      let item_taken : slice_get sent h.0 ≡ Some t.item = subst (λ (r : TakeReceipt). slice_get sent h.0 ≡ Some r.item) h.3 (taken_item h.0 t h.2) in
      let at_same : slice_get sent other.0 ≡ slice_get sent h.0 = ap (slice_get sent) (j ∙ sym k) in
      let same : Some x.0 ≡ Some t.item = sym x.1 ∙ at_same ∙ item_taken in
      let item_same : x.0 ≡ t.item = cc in
      as_sent t.item (subst (λ (r : SendReceipt). Differs r t.item) (sym other.3 ∙ x.2 ∙ ap send_receipt item_same) other.4.1)

  no_disorder : (p : ℕ) → Disorder sends p → ⊥
  no_disorder p h =
      let s = h.1 in
      let lower = h.4.1 in
      let e = lower.1 in
      let b : h.0 ≡ p = send_at p h.0 s h.2 h.3 h.4.0 in
      let a : lower.0 ≡ e.place = send_at e.place lower.0 e lower.2 lower.3 refl in
      let y = sent_item h.0 s h.2 in
      let x = sent_item lower.0 e lower.2 in
      let is_y : s ≡ send_receipt y.0 = sym h.3 ∙ y.2 in
      let is_x : e ≡ send_receipt x.0 = sym lower.3 ∙ x.2 in
      let same : x.0.sender ≡ y.0.sender = sym (ap (λ (r : SendReceipt). r.sender) is_x) ∙ lower.4.0 ∙ ap (λ (r : SendReceipt). r.sender) is_y in
      omega (arith, fair.numbers lower.0 h.0 x.0 y.0 (omega (arith, a, b, lower.4.1)) x.1 y.1 same, ap (λ (r : SendReceipt). r.number) is_x, ap (λ (r : SendReceipt). r.number) is_y, lower.4.2)

  below_total : (p : ℕ) → p < length sent → (r : Option ℕ) → ((n : ℕ) → r ≡ Some n → n ≡ length sent) → IsSomeAnd r (λ n. n ≤ p) → ⊥
  below_total p l r all h = grind arith

  no_overrun : (p : ℕ) → Overrun sends takes total p → ⊥
  no_overrun p h = below_total p (within h.1) total fair.all h.0
    where
      within : Any (SendNames p) sends ⊎ Any (TakeNames p) takes → p < length sent
      within (inl names) = let l : names.0 < length sent = simp length-map at names.2 in omega (arith, l, send_at p names.0 names.1 names.2 names.3 names.4)
      within (inr names) = omega (arith, few, names.2, take_at p names.0 names.1 names.2 names.3 names.4)

  pub no_fault : HasNoFault sends takes total
  no_fault kind p (double_accept is h) = no_double_accept p h
  no_fault kind p (double_take is h) = no_double_take p h
  no_fault kind p (stranger is h) = no_stranger p h
  no_fault kind p (altered is h) = no_altered p h
  no_fault kind p (gap is h) = no_gap p h
  no_fault kind p (disorder is h) = no_disorder p h
  no_fault kind p (overrun is h) = no_overrun p h
