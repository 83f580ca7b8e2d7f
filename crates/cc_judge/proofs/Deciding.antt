-- What the verdict on a log rests on: no log without ties, of items that differ and are below a number, is left undecided.
use Rattle.std.proofs.Common.{ℕ, ◌<◌, ◌≤◌, List, Option, Some, None, Result, Ok, Err, IfOk, IfSome, IfNone, arith}
use Rattle.cc_judge.specs.Names.{Call, Kind}
use Rattle.cc_judge.specs.Faults.{Did}
use Rattle.cc_judge.specs.Table.{act_of}

-- no item is past the number that all are below
pub none_past : (calls : List Call) (items place : ℕ) (kind : Kind) → ((item : ℕ) × Did calls place (act_of kind item)) → ((item : ℕ) → Did calls place (act_of kind item) → items ≤ item) → ((item : ℕ) → Did calls place (act_of kind item) → item < items) → ⊥
none_past calls items place kind (item, did) past below =
    let le = past item did in
    let less = below item did in
    omega (arith, le, less)

-- what holds if none was found may be weakened
pub ok_none : {X E : Type 0} (P Q : Type 0) (r : Result (Option X) E) → IfOk r (λ found. IfNone found P) → (P → Q) → IfOk r (λ found. IfNone found Q)
ok_none P Q (Ok None) p f = f p
ok_none P Q (Ok (Some x)) p f = p
ok_none P Q (Err e) p f = p

-- what holds of one that was found may be weakened
pub ok_some : {X E : Type 0} (P Q : X → Type 0) (r : Result (Option X) E) → IfOk r (λ found. IfSome found P) → ((x : X) → P x → Q x) → IfOk r (λ found. IfSome found Q)
ok_some P Q (Ok None) p f = p
ok_some P Q (Ok (Some x)) p f = f x p
ok_some P Q (Err e) p f = p

-- both of two
pub both_none : {X E : Type 0} (P Q : Type 0) (r : Result (Option X) E) → P → IfOk r (λ found. IfNone found Q) → IfOk r (λ found. IfNone found (P × Q))
both_none P Q (Ok None) p q = (p, q)
both_none P Q (Ok (Some x)) p q = tt
both_none P Q (Err e) p q = tt
