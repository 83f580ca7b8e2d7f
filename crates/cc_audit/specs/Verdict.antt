-- The verdict on receipts: seven kinds of fault, each of them at a place.
use Rattle.std.specs.Prelude.{◌≡◌, ℕ, ◌<◌, ◌≤◌, ◌==◌, ◌≢◌, ◌⊎◌, List, Option, IsSomeAnd, Any, IsPermutation, count_by}
use Rattle.cc_model.specs.Body.{words_of}
use Rattle.cc_audit.specs.Names.{Item, SendReceipt, TakeReceipt, Verdict}

-- the receipt names the place
abbrev pub SendNames : ℕ → SendReceipt → Type 0
SendNames p s = s.place ≡ p

abbrev pub TakeNames : ℕ → TakeReceipt → Type 0
TakeNames p t = t.item.place ≡ p

-- two send receipts name the place
abbrev pub DoubleAccept : List SendReceipt → ℕ → Type 0
DoubleAccept sends p = 2 ≤ count_by (λ s. s.place == p) sends

-- two take receipts name the place
abbrev pub DoubleTake : List TakeReceipt → ℕ → Type 0
DoubleTake takes p = 2 ≤ count_by (λ t. t.item.place == p) takes

-- a take receipt names the place, and no send receipt does
abbrev pub Stranger : List SendReceipt → List TakeReceipt → ℕ → Type 0
Stranger sends takes p = Any (TakeNames p) takes × (Any (SendNames p) sends → ⊥)

-- another sender, another number or other words were taken than were sent
abbrev pub Differs : SendReceipt → Item → Type 0
Differs s x = (s.sender ≢ x.sender) ⊎ (s.number ≢ x.number) ⊎ (words_of s.body ≢ words_of x.body)

-- a take receipt and a send receipt name the place, and differ
abbrev pub Altered : List SendReceipt → List TakeReceipt → ℕ → Type 0
Altered sends takes p = Any (λ t. TakeNames p t × Any (λ s. SendNames p s × Differs s t.item) sends) takes

-- no take receipt names the place, and one names a greater place
abbrev pub Gap : List TakeReceipt → ℕ → Type 0
Gap takes p = (Any (TakeNames p) takes → ⊥) × Any (λ t. p < t.item.place) takes

-- a send receipt names the place, and another of its sender names a lower place with a number that isn't less
abbrev pub Disorder : List SendReceipt → ℕ → Type 0
Disorder sends p = Any (λ s. SendNames p s × Any (λ e. (e.sender ≡ s.sender) × (e.place < p) × (s.number ≤ e.number)) sends) sends

-- a receipt names the place, and a total is given that the place isn't below
abbrev pub Overrun : List SendReceipt → List TakeReceipt → Option ℕ → ℕ → Type 0
Overrun sends takes total p = IsSomeAnd total (λ n. n ≤ p) × (Any (SendNames p) sends ⊎ Any (TakeNames p) takes)

-- the kinds by their numbers: a fault of this kind is at the place
pub data Holds (sends : List SendReceipt) (takes : List TakeReceipt) (total : Option ℕ) (kind p : ℕ) : Type 0 where
  double_accept : kind ≡ 1 → DoubleAccept sends p → Holds sends takes total kind p
  double_take : kind ≡ 2 → DoubleTake takes p → Holds sends takes total kind p
  stranger : kind ≡ 3 → Stranger sends takes p → Holds sends takes total kind p
  altered : kind ≡ 4 → Altered sends takes p → Holds sends takes total kind p
  gap : kind ≡ 5 → Gap takes p → Holds sends takes total kind p
  disorder : kind ≡ 6 → Disorder sends p → Holds sends takes total kind p
  overrun : kind ≡ 7 → Overrun sends takes total p → Holds sends takes total kind p

-- no kind holds at any place
abbrev pub HasNoFault : List SendReceipt → List TakeReceipt → Option ℕ → Type 0
HasNoFault sends takes total = (kind p : ℕ) → Holds sends takes total kind p → ⊥

-- the kind holds at the place, none holds at a lower place, and no lesser one holds there
pub record IsFirstFault (sends : List SendReceipt) (takes : List TakeReceipt) (total : Option ℕ) (kind p : ℕ) : Type 0 where
  pub holds : Holds sends takes total kind p
  pub least_place : (k q : ℕ) → q < p → Holds sends takes total k q → ⊥
  pub least_kind : (k : ℕ) → k < kind → Holds sends takes total k p → ⊥

-- the verdict on the receipts
abbrev pub IsVerdict : List SendReceipt → List TakeReceipt → Option ℕ → Verdict → Type 0
IsVerdict sends takes total Verdict.Clean = HasNoFault sends takes total
IsVerdict sends takes total (Verdict.Fault kind p) = IsFirstFault sends takes total kind p

-- the law: the same receipts have one verdict
abbrev pub OneVerdict : Type 0
OneVerdict = (sends : List SendReceipt) (takes : List TakeReceipt) (total : Option ℕ) (v w : Verdict) → IsVerdict sends takes total v → IsVerdict sends takes total w → v ≡ w

-- the law: receipts in another order have the same verdict
abbrev pub AnyOrder : Type 0
AnyOrder = (sends sends' : List SendReceipt) (takes takes' : List TakeReceipt) (total : Option ℕ) (v : Verdict) → IsPermutation sends sends' → IsPermutation takes takes' → IsVerdict sends takes total v → IsVerdict sends' takes' total v
