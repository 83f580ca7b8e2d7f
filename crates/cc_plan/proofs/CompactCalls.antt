-- The calls of a sender as a plan keeps them.
use Rattle.std.proofs.Common.{◌≡◌, ◌≤◌, ◌++◌, ◌&&◌, ℕ, true, List, [], ◌∷◌, length, map, refl, ap, ap₂, arith}
use Rattle.std.specs.List.{list_all}
use Rattle.std.proofs.lemmas.Bool.{and_parts}
use Rattle.std.proofs.lemmas.Bool.Decides.{nat_tests}
use Rattle.std.proofs.lemmas.List.{get_or_append_left}
use Rattle.cc_model.specs.Body.{body_of}
use Rattle.cc_plan.specs.Names.{Body, Call}
use Rattle.cc_plan.specs.CompactCall.{call_in, has_body}
use Rattle.cc_plan.specs.declared.plan.compact_call.CompactCall.{CompactCall}

has_body_of_more : (n m : ℕ) (k : CompactCall) → n ≤ m → has_body n k ≡ true → has_body m k ≡ true
has_body_of_more n m CompactCall.Close le h = h
has_body_of_more n m (CompactCall.Word word) le h = h
has_body_of_more n m (CompactCall.Body place) le h = grind (arith, nat_tests, le, h)

pub bodies_of_more : (n m : ℕ) (ks : List CompactCall) → n ≤ m → list_all (has_body n) ks ≡ true → list_all (has_body m) ks ≡ true
bodies_of_more n m [] le h = h
bodies_of_more n m (k ∷ ks) le h = let both = and_parts (has_body n k) (list_all (has_body n) ks) h in ap₂ (λ a b. a && b) (has_body_of_more n m k le both.0) (bodies_of_more n m ks le both.1)

pub bodies_push : (n : ℕ) (ks : List CompactCall) (k : CompactCall) → list_all (has_body n) ks ≡ true → has_body n k ≡ true → list_all (has_body n) (ks ++ k ∷ []) ≡ true
bodies_push n [] k h is = ap (λ b. b && true) is
bodies_push n (j ∷ ks) k h is = let both = and_parts (has_body n j) (list_all (has_body n) ks) h in ap₂ (λ a b. a && b) both.0 (bodies_push n ks k both.1 is)

same_call : (bs : List Body) (b : Body) (k : CompactCall) → has_body (length bs) k ≡ true → call_in (bs ++ b ∷ []) k ≡ call_in bs k
same_call bs b CompactCall.Close h = refl
same_call bs b (CompactCall.Word word) h = refl
same_call bs b (CompactCall.Body place) h = ap Call.Send (get_or_append_left bs (b ∷ []) (body_of []) place (grind (arith, nat_tests, h)))

pub same_calls : (bs : List Body) (b : Body) (ks : List CompactCall) → list_all (has_body (length bs)) ks ≡ true → map (call_in (bs ++ b ∷ [])) ks ≡ map (call_in bs) ks
same_calls bs b [] h = refl
same_calls bs b (k ∷ ks) h = let both = and_parts (has_body (length bs) k) (list_all (has_body (length bs)) ks) h in ap₂ (λ c cs. c ∷ cs) (same_call bs b k both.0) (same_calls bs b ks both.1)
