-- Every plan that an input describes is legal.
use Rattle.std.proofs.Common.{ℕ, suc, nat_lt, codes, ◌≡◌, ◌≤◌, ◌<◌, ◌-◌, ◌*◌, ◌/◌, ◌%◌, ◌^◌, ◌==◌, ◌&&◌, ◌⊎◌, inl, Bool, true, false, not, cond, List, [], ◌∷◌, length, get_or, All, Option, Some, None, option_map, option_and_then, Result, Ok, Err, IfOk, refl, ap, sym, ◌∙◌, subst, arith}
use Rattle.std.specs.List.{AllByRecursion, position, position_or_len}
use Rattle.std.proofs.lemmas.List.Elements.{All-from_recursion}
use Rattle.std.proofs.lemmas.List.Sums.{prefix_len_passes}
use Rattle.std.proofs.lemmas.Bool.Decides.{nat_tests}
use Rattle.std.proofs.Math.Nat.{div-add-mod}
use Rattle.serde_json.specs.Data.{Data}
use Rattle.serde_json.specs.Find.{get}
use Rattle.cc_model.specs.Range.{within}
use Rattle.cc_model.specs.Config.{config_fault}
use Rattle.cc_plan.specs.Names.{Body, Call, Pass, Plan, PlanFault}
use Rattle.cc_plan.specs.Json.{elements, pair_of, each, ranged, number_in, whole_number, body_as, is_word}
use Rattle.cc_plan.specs.Refusal.{◌>>=◌, Refusal, wrong_shape, or_range, value_at, tree_of}
use Rattle.cc_plan.specs.Answers.{Gives}
use Rattle.cc_plan.specs.Plan.{PlanValue, plan_value}
use Rattle.cc_plan.specs.PlanShape.{named, has_plan_shape}
use Rattle.cc_plan.specs.PlanValues.{groups_of, counted, call_of, calls_of, senders_of, fill_groups, receivers_of, entry_of, schedule_of}
use Rattle.cc_plan.specs.Version.{version_in, version_of}
use Rattle.cc_plan.specs.PlanOf.{config_of, plan_of_lists, plan_of_values, has_pass, known_passes, with_known_passes, values_of_tree, plan_of_tree, plan_of}
use Rattle.cc_plan.specs.PlanLaws.{IsOfSender, Valid}

-- ---- steps that gave something

some_step : {A B : Type 0} (o : Option A) (f : A → Option B) (y : B) → option_and_then f o ≡ Some y → (x : A) × (o ≡ Some x) × (f x ≡ Some y)
some_step None f y e = cc e
some_step (Some x) f y e = (x, refl, e)

ok_step : {A B : Type 0} (r : Result A Refusal) (f : A → Result B Refusal) (y : B) → (r >>= f) ≡ Ok y → (x : A) × (r ≡ Ok x) × (f x ≡ Ok y)
ok_step (Ok x) f y e = (x, refl, e)
ok_step (Err fault) f y e = cc e

in_range : {A : Type 0} (key : List ℕ) (o : Option A) (x : A) → or_range key o ≡ Ok x → o ≡ Some x
in_range key (Some y) x e = cc e
in_range key None x e = cc e

ok_same : {A : Type 0} (x y : A) → ◌≡◌ {A = Result A Refusal} (Ok x) (Ok y) → x ≡ y
ok_same x y e = cc e

-- the tree at the key gave the value
at_key : {A : Type 0} (read : Data → Option A) (key : List ℕ) (d : Data) (x : A) → value_at read key d ≡ Ok x → (v : Data) × (read v ≡ Some x)
at_key read key d x e = let s = some_step (get key d) read x (in_range key _ x e) in (s.0, s.2)

-- ---- ranges

chosen : {A : Type 0} (b : Bool) (x y : A) → cond b (Some x) None ≡ Some y → (b ≡ true) × (x ≡ y)
chosen true x y e = (refl, cc e)
chosen false x y e = cc e

number_within : (low high : ℕ) (d : Data) (n : ℕ) → number_in low high d ≡ Some n → within low high n ≡ true
number_within low high d n e =
    let s = some_step (whole_number d) (ranged low high) n e in
    let c = chosen (within low high s.0) s.0 n s.2 in
    sym (ap (within low high) c.1) ∙ c.0

bounds : (low high n : ℕ) → within low high n ≡ true → (low ≤ n) × (n ≤ high)
bounds low high n e = (grind (arith, nat_tests, e), grind (arith, nat_tests, e))

count_within : (low high : ℕ) (d : Data) (ds : List Data) → counted low high d ≡ Some ds → within low high (length ds) ≡ true
count_within low high d ds e =
    let s = some_step (elements d) (λ l. cond (within low high (length l)) (Some l) None) ds e in
    let c = chosen (within low high (length s.0)) s.0 ds s.2 in
    sym (ap (λ (l : List Data). within low high (length l)) c.1) ∙ c.0

-- ---- versions and groups

one_or_two : (v : ℕ) → (1 ≤ v) × (v ≤ 2) → (v ≡ 1) ⊎ (v ≡ 2)
one_or_two v b = grind (arith, b)

known_version : (o : Option Data) (v : ℕ) → version_in o ≡ Some v → (v ≡ 1) ⊎ (v ≡ 2)
known_version None v e = inl (cc e)
known_version (Some d) v e = one_or_two v (bounds 1 2 v (number_within 1 2 d v e))

groups_when : (second : Bool) (version g : ℕ) (o : Option Data) → (version == 2) ≡ second → cond second (option_and_then (number_in 1 8) o) (Some 1) ≡ Some g
    → (within 1 8 g ≡ true) × (version ≡ 1 → g ≡ 1)
groups_when true version g o is e =
    let s = some_step o (number_in 1 8) g e in
    (number_within 1 8 s.0 g s.2, λ first. absurd (grind (arith, nat_tests, is, first)))
groups_when false version g o is e = let one : 1 ≡ g = cc e in (ap (within 1 8) (sym one), λ first. sym one)

if_some : {A : Type 0} (b : Bool) (o : Option A) (y : A) → cond b o None ≡ Some y → (b ≡ true) × (o ≡ Some y)
if_some true o y e = (refl, e)
if_some false o y e = cc e

both : (b c : Bool) → (b && c) ≡ true → (b ≡ true) × (c ≡ true)
both true c e = (refl, e)
both false c e = cc e

whole_groups : (g n : ℕ) → (n % g == 0) ≡ true → n ≡ g * (n / g)
whole_groups g n none = let no_rest : n % g ≡ 0 = grind (arith, nat_tests, none) in omega (arith, div-add-mod n g, no_rest)

-- ---- lists

each_step : {A : Type 0} (f : Data → Option A) (d : Data) (ds : List Data) (xs : List A) → each f (d ∷ ds) ≡ Some xs
    → (y : A) × (ys : List A) × (f d ≡ Some y) × (each f ds ≡ Some ys) × (y ∷ ys ≡ xs)
each_step f d ds xs e =
    let s = some_step (f d) (λ x. option_map (λ xs. x ∷ xs) (each f ds)) xs e in
    let r = mapped s.0 (each f ds) xs s.2 in
    (s.0, r.0, s.1, r.1, r.2)
  where
    mapped : {A : Type 0} (y : A) (o : Option (List A)) (xs : List A) → option_map (λ l. y ∷ l) o ≡ Some xs → (ys : List A) × (o ≡ Some ys) × (y ∷ ys ≡ xs)
    mapped y None xs e = cc e
    mapped y (Some ys) xs e = (ys, refl, cc e)

each_holds : {A : Type 0} (P : A → Type 0) (f : Data → Option A) → ((d : Data) (x : A) → f d ≡ Some x → P x) → (ds : List Data) (xs : List A) → each f ds ≡ Some xs → AllByRecursion P xs
each_holds P f h [] [] e = tt
each_holds P f h [] (x ∷ xs) e = cc e
each_holds P f h (d ∷ ds) xs e =
    let s = each_step f d ds xs e in
    subst (AllByRecursion P) s.4 (h d s.0 s.2, each_holds P f h ds s.1 s.3)

each_all : {A : Type 0} (P : A → Type 0) (f : Data → Option A) → ((d : Data) (x : A) → f d ≡ Some x → P x) → (ds : List Data) (xs : List A) → each f ds ≡ Some xs → All P xs
each_all P f h ds xs e = All-from_recursion P xs (each_holds P f h ds xs e)

pub each_length : {A : Type 0} (f : Data → Option A) (ds : List Data) (xs : List A) → each f ds ≡ Some xs → length ds ≡ length xs
each_length f [] [] e = refl
each_length f [] (x ∷ xs) e = cc e
each_length f (d ∷ ds) xs e = let s = each_step f d ds xs e in ap (λ (n : ℕ). suc n) (each_length f ds s.1 s.3) ∙ ap length s.4

-- no more than the elements that were counted
few_each : {A : Type 0} (f : Data → Option A) (d : Data) (xs : List A) → option_and_then (each f) (counted 0 65536 d) ≡ Some xs → length xs ≤ 65536
few_each f d xs e =
    let s = some_step (counted 0 65536 d) (each f) xs e in
    let n = each_length f s.0 xs s.2 in
    let b = bounds 0 65536 (length s.0) (count_within 0 65536 d s.0 s.1) in
    omega arith

-- ---- calls

of_sender : (b : Bool) (o : Option Body) (c : Call) → cond b (Some Call.Close) (option_map Call.Send o) ≡ Some c → IsOfSender c
of_sender true o c e = let same : Call.Close ≡ c = cc e in subst IsOfSender same tt
of_sender false (Some body) c e = let same : Call.Send body ≡ c = cc e in subst IsOfSender same tt
of_sender false None c e = cc e

all_of_sender : (version : ℕ) (d : Data) (calls : List Call) → calls_of version d ≡ Some calls → All IsOfSender calls
all_of_sender version d calls e =
    let s = some_step (counted 0 65536 d) (each (call_of version)) calls e in
    each_all IsOfSender (call_of version) (λ v c h. of_sender (is_word (codes "close") v) (body_as version v) c h) s.0 calls s.2

-- ---- the schedule

entry_steps : (d : Data) (x : Pass × ℕ) → entry_of d ≡ Some x → (1 ≤ x.1) × (x.1 ≤ 100000)
entry_steps d x e =
    let a = some_step (elements d) _ x e in
    let b = some_step (pair_of a.0) _ x a.2 in
    let c = some_step (named b.0.0) _ x b.2 in
    let n = some_step (number_in 1 100000 b.0.1) (λ m. Some (c.0, m)) x c.2 in
    let same : (c.0, n.0) ≡ x = cc (n.2) in
    subst (λ (y : Pass × ℕ). (1 ≤ y.1) × (y.1 ≤ 100000)) same (bounds 1 100000 n.0 (number_within 1 100000 b.0.1 n.0 n.1))

far_when : (b : Bool) (n m k : ℕ) → nat_lt n m ≡ b → cond b (Some n) None ≡ None → k < m → k < n
far_when true n m k is none h = cc none
far_when false n m k is none h = grind (arith, nat_tests, is, h)

twice : (b : Bool) → not (not b) ≡ true → b ≡ true
twice true e = refl
twice false e = e

-- the first entry that fails is nowhere
passes_all : {A : Type 0} (test : A → Bool) (xs : List A) → position (λ x. not (test x)) xs ≡ None → All (λ x. test x ≡ true) xs
passes_all test xs none k d h =
    let n = position_or_len (λ x. not (test x)) xs in
    twice (test (get_or xs k d)) (prefix_len_passes (λ x. not (not (test x))) xs k d (far_when (nat_lt n (length xs)) n (length xs) k refl none h))

known_ones : (o : Option ℕ) (q p : PlanValue) → known_passes o q ≡ Ok p → (o ≡ None) × (q ≡ p)
known_ones None q p e = (refl, cc e)
known_ones (Some i) q p e = cc e

-- ---- the whole plan

-- all but that the schedule's passes are there
record Valued (p : PlanValue) : Type 0 where
  version : (p.version ≡ 1) ⊎ (p.version ≡ 2)
  config : config_fault p.config ≡ Ok tt
  limit : p.config.per_sender ≡ 2 ^ 32 - 1
  groups : p.version ≡ 1 → p.config.groups ≡ 1
  senders : length p.senders ≡ p.config.senders
  receivers : length p.receivers ≡ p.config.groups * p.config.receivers
  calls : All (All IsOfSender) p.senders
  sends : All (λ calls. length calls ≤ 65536) p.senders
  takes : All (λ n. n ≤ 65536) p.receivers
  entries : length p.schedule ≤ 65536
  steps : All (λ e. (1 ≤ e.1) × (e.1 ≤ 100000)) p.schedule

fields_valid : (groups senders receivers capacity bound life : ℕ) → within 1 8 groups ≡ true → within 1 64 senders ≡ true → within 1 64 receivers ≡ true → within 1 4096 capacity ≡ true → within 1 1024 bound ≡ true → within 1 (2 ^ 48) life ≡ true
    → config_fault (config_of groups senders receivers capacity bound life) ≡ Ok tt
fields_valid groups senders receivers capacity bound life g a b c d e = rw (a, b, c, d, e, g) refl

-- what each key gave, and the plan of it
record Given (d : Data) (p : PlanValue) : Type 0 where
  version : ℕ
  groups : ℕ
  capacity : ℕ
  bound : ℕ
  life : ℕ
  senders : List (List Call)
  receivers : List ℕ
  schedule : List (Pass × ℕ)
  version_is : or_range (codes "version") (version_of d) ≡ Ok version
  groups_is : or_range (codes "groups") (groups_of version d) ≡ Ok groups
  capacity_is : value_at (number_in 1 4096) (codes "capacity") d ≡ Ok capacity
  bound_is : value_at (number_in 1 1024) (codes "bound") d ≡ Ok bound
  life_is : value_at (number_in 1 (2 ^ 48)) (codes "life") d ≡ Ok life
  senders_are : value_at (senders_of version) (codes "senders") d ≡ Ok senders
  receivers_are : value_at (receivers_of groups) (codes "receivers") d ≡ Ok receivers
  schedule_is : value_at schedule_of (codes "schedule") d ≡ Ok schedule
  plan_is : record { version = version; config = config_of groups (length senders) (length receivers / groups) capacity bound life; senders = senders; receivers = receivers; schedule = schedule } ≡ p

values_given : (d : Data) (p : PlanValue) → plan_of_values d ≡ Ok p → Given d p
unfolding plan_of_values plan_of_lists
values_given d p e =
    let version = ok_step (or_range (codes "version") (version_of d)) _ p e in
    let groups = ok_step (or_range (codes "groups") (groups_of version.0 d)) _ p version.2 in
    let capacity = ok_step (value_at (number_in 1 4096) (codes "capacity") d) _ p groups.2 in
    let bound = ok_step (value_at (number_in 1 1024) (codes "bound") d) _ p capacity.2 in
    let life = ok_step (value_at (number_in 1 (2 ^ 48)) (codes "life") d) _ p bound.2 in
    let senders = ok_step (value_at (senders_of version.0) (codes "senders") d) _ p life.2 in
    let receivers = ok_step (value_at (receivers_of groups.0) (codes "receivers") d) _ p senders.2 in
    let schedule = ok_step (value_at schedule_of (codes "schedule") d) _ p receivers.2 in
    record {
      version = version.0;
      groups = groups.0;
      capacity = capacity.0;
      bound = bound.0;
      life = life.0;
      senders = senders.0;
      receivers = receivers.0;
      schedule = schedule.0;
      version_is = version.1;
      groups_is = groups.1;
      capacity_is = capacity.1;
      bound_is = bound.1;
      life_is = life.1;
      senders_are = senders.1;
      receivers_are = receivers.1;
      schedule_is = schedule.1;
      plan_is = ok_same _ p schedule.2;
    }

given_valid : (d : Data) (p : PlanValue) → Given d p → Valued p
given_valid d p g =
    let capacity_at = at_key (number_in 1 4096) (codes "capacity") d g.capacity g.capacity_is in
    let bound_at = at_key (number_in 1 1024) (codes "bound") d g.bound g.bound_is in
    let life_at = at_key (number_in 1 (2 ^ 48)) (codes "life") d g.life g.life_is in
    let senders_at = at_key (senders_of g.version) (codes "senders") d g.senders g.senders_are in
    let receivers_at = at_key (receivers_of g.groups) (codes "receivers") d g.receivers g.receivers_are in
    let schedule_at = at_key schedule_of (codes "schedule") d g.schedule g.schedule_is in
    let s = some_step (counted 1 64 senders_at.0) (each (calls_of g.version)) g.senders senders_at.1 in
    let r = some_step (elements receivers_at.0) (λ ds. cond (fill_groups g.groups (length ds)) (each (number_in 0 65536) ds) None) g.receivers receivers_at.1 in
    let full = if_some (fill_groups g.groups (length r.0)) (each (number_in 0 65536) r.0) g.receivers r.2 in
    let parts = both (length r.0 % g.groups == 0) (within 1 64 (length r.0 / g.groups)) full.0 in
    let all_receivers = each_length (number_in 0 65536) r.0 g.receivers full.1 in
    let known = in_range (codes "version") (version_of d) g.version g.version_is in
    let grouped = groups_when (g.version == 2) g.version g.groups (get (codes "groups") d) refl (in_range (codes "groups") (groups_of g.version d) g.groups g.groups_is) in
    let t = some_step (counted 0 65536 schedule_at.0) (each entry_of) g.schedule schedule_at.1 in
    subst Valued g.plan_is (record {
      version = known_version (get (codes "version") d) g.version known;
      config = fields_valid g.groups (length g.senders) (length g.receivers / g.groups) g.capacity g.bound g.life
          grouped.0
          (sym (ap (within 1 64) (each_length (calls_of g.version) s.0 g.senders s.2)) ∙ count_within 1 64 senders_at.0 s.0 s.1)
          (sym (ap (λ (n : ℕ). within 1 64 (n / g.groups)) all_receivers) ∙ parts.1)
          (number_within 1 4096 capacity_at.0 g.capacity capacity_at.1)
          (number_within 1 1024 bound_at.0 g.bound bound_at.1)
          (number_within 1 (2 ^ 48) life_at.0 g.life life_at.1);
      limit = refl;
      groups = grouped.1;
      senders = refl;
      receivers = whole_groups g.groups (length g.receivers) (sym (ap (λ (n : ℕ). n % g.groups == 0) all_receivers) ∙ parts.0);
      calls = each_all (All IsOfSender) (calls_of g.version) (all_of_sender g.version) s.0 g.senders s.2;
      sends = each_all (λ calls. length calls ≤ 65536) (calls_of g.version) (few_each (call_of g.version)) s.0 g.senders s.2;
      takes = each_all (λ n. n ≤ 65536) (number_in 0 65536) (λ v n h. (bounds 0 65536 n (number_within 0 65536 v n h)).1) r.0 g.receivers full.1;
      entries = few_each entry_of schedule_at.0 g.schedule schedule_at.1;
      steps = each_all (λ x. (1 ≤ x.1) × (x.1 ≤ 100000)) entry_of entry_steps t.0 g.schedule t.2;
    })

with_passes : (q p : PlanValue) → Valued q → with_known_passes q ≡ Ok p → Valid p
with_passes q p v e =
    let known = known_ones (position (λ x. not (has_pass q.config x.0)) q.schedule) q p e in
    subst Valid known.1 (record {
      version = v.version;
      config = v.config;
      limit = v.limit;
      groups = v.groups;
      senders = v.senders;
      receivers = v.receivers;
      calls = v.calls;
      sends = v.sends;
      takes = v.takes;
      entries = v.entries;
      passes = passes_all (λ x. has_pass q.config x.0) q.schedule known.0;
      steps = v.steps;
    })

shaped : {A : Type 0} (b : Bool) (r : Result A Refusal) (p : A) → cond b r (Err wrong_shape) ≡ Ok p → r ≡ Ok p
shaped true r p e = e
shaped false r p e = cc e

-- the plan of an input is legal
plan_valid : (bytes : List ℕ) (p : PlanValue) → plan_of bytes ≡ Ok p → Valid p
unfolding plan_of
plan_valid bytes p e =
    let tree = ok_step (tree_of bytes) plan_of_tree p e in
    let values = ok_step (values_of_tree tree.0) with_known_passes p tree.2 in
    with_passes values.0 p (given_valid tree.0 values.0 (values_given tree.0 values.0 (shaped (has_plan_shape tree.0) _ values.0 values.1))) values.2

-- the result of a reading function is legal
pub valid_if_given : (r : Result Plan PlanFault) (bytes : List ℕ) → Gives plan_value r (plan_of bytes) → IfOk r (λ p. Valid (plan_value p))
valid_if_given (Ok p) bytes given = plan_valid bytes (plan_value p) given
valid_if_given (Err fault) bytes given = tt
