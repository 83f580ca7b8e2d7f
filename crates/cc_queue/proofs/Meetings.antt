-- A pass that meets others in turn.
use Rattle.std.proofs.Common.{◌≡◌, ◌≢◌, ℕ, zero, suc, ◌+◌, ◌<◌, ◌≤◌, List, [], ◌∷◌, ◌++◌, length, get_or, set, refl, sym, ap, ◌∙◌, subst, arith, append-nil, get_or-set_same, get_or-set_other, Bool, true, false, nat_lt, length-append, if◌then◌else◌}
use Rattle.std.proofs.lemmas.Bool.{ltb-true}
use Rattle.std.proofs.lemmas.List.{get_or_default}
use Rattle.std.specs.List.{All}
use native.Mathlib.Decide.{ℕ_discrete}
use Rattle.cc_runs.specs.CallsMade.{to_exchange}
use Rattle.cc_queue.specs.Names.{Move, Served, Stand, Phase, SenderSeat, ReceiverSeat}
use Rattle.cc_steps.specs.Seen.{Later, Onward}
use Rattle.cc_steps.specs.Shown.{longer}
use Rattle.cc_steps.specs.Topic.{Topic}
use Rattle.cc_steps.specs.Walk.{Walk, IsOf, IsSound}
use Rattle.cc_queue.specs.Passes.{IsStill, HasStopped, KeepsSender, KeepsReceiver}
use Rattle.cc_queue.specs.Met.{IsOfOne, MayMeet, Sees, HasMet, EachHasMet, Swept, Gathered}
use Rattle.cc_model.specs.Items.{HasAnswer, calls_of}
use Rattle.std.specs.List.{AllByRecursion}
use Rattle.cc_runs.specs.ChainLaws.{IsOut}
use Rattle.cc_queue.specs.Headline.{IsAtRest, name, history}
use Rattle.cc_queue.proofs.Headline.{answers_in, stands_in_one, stands_more, still_out}

-- a pass that doesn't move, whose seat has seen more
pub met_stopped : (u v w : Walk) → v ≡ u → HasStopped v → Sees v w → HasMet u w
met_stopped u v w is stop s = subst (λ (x : Walk). HasMet x w) is (record {
  stands = stands_in_one v w [] s.sound (ap (λ (x : Walk). x.setting.served) s.same ∙ stop.list) (ap (λ (x : Walk). to_exchange x.stand.phase) s.same ∙ still_out v.stand.phase stop.still)
      (ap (λ (x : Walk). x.table_id) s.same, ap (λ (x : Walk). x.setting) s.same, ap (λ (x : Walk). x.number) s.same) s.onward (ap (λ (x : Walk). x.made) s.same ∙ sym (append-nil v.made));
  same = s.same;
})

-- an idle pass doesn't move
idle_stopped : (v : Walk) → v.setting.served ≡ Served.List → v.stand.phase ≡ Phase.Idle → HasStopped v
idle_stopped v list at = record { list = list; still = subst IsStill (sym at) tt }

pub idle_sender : (s : SenderSeat) → KeepsSender s Phase.Idle → HasStopped s.seat
idle_sender s k = idle_stopped s.seat k.list (ap (λ (z : Stand). z.phase) k.stand)

pub idle_receiver : (r : ReceiverSeat) → KeepsReceiver r Phase.Idle → HasStopped r.seat
idle_receiver r k = idle_stopped r.seat k.list (ap (λ (z : Stand). z.phase) k.stand)

-- the pass of a seat, which doesn't move
pub met_on : (v w : Walk) → HasStopped v → Sees v w → HasMet v w
met_on v w stop s = met_stopped v v w refl stop s

pub still_stopped : (v w : Walk) → HasStopped v → w ≡ record v { seen = w.seen } → HasStopped w
still_stopped v w stop same = record {
  list = ap (λ (x : Walk). x.setting.served) same ∙ stop.list;
  still = subst (λ (x : Walk). IsStill x.stand.phase) (sym same) stop.still;
}

-- one that has seen no more has met itself
met_still : (u v : Walk) → v ≡ u → HasStopped v → IsSound v → HasMet u u
met_still u v is stop s = subst (λ (x : Walk). HasMet x x) is (met_stopped v v v refl stop (record { same = refl; onward = λ first k. k; sound = s }))

-- an idle pass, which a caller knows as u, has met itself and come to rest
pub rests_so : (u v : Walk) (begun node : ℕ) → v ≡ u → v.setting.served ≡ Served.List → v.stand ≡ record { begun = begun; node = node; phase = Phase.Idle } → IsSound v → HasMet u u × IsAtRest u
rests_so u v begun node is list stand s =
    let met = met_still u v is (idle_stopped v list (ap (λ (z : Stand). z.phase) stand)) s in
    (met, record { stands = met.stands; answered = subst (λ (x : Walk). AllByRecursion HasAnswer (calls_of (name x) (history x))) is (answers_in v s (subst (λ (x : Stand). IsOut x.phase) (sym stand) tt)) })

pub met_more : (a b c : Walk) → HasMet a b → HasMet b c → HasMet a c
met_more a b c f g = record { stands = stands_more a b c [] [] f.stands g.stands; same = g.same ∙ (λ i. record (f.same i) { seen = c.seen }) }

later_more : (xs ys zs : List Move) → Later xs ys → Onward ys zs → Later xs zs
later_more xs ys zs l on = let g = on xs (record { more = l.0; is = l.1 }) in (g.more, g.is)

later_self : (xs : List Move) → Later xs xs
later_self xs = ([], refl)

-- a run that goes on from the other is the longer
longer_back : (xs ys : List Move) → Later ys xs → longer xs ys ≡ xs
longer_back xs ys f = go (nat_lt (length xs) (length ys)) refl
  where
    go : (b : Bool) → nat_lt (length xs) (length ys) ≡ b → (if b then ys else xs) ≡ xs
    go true e = let lt : length xs < length ys = ltb-true _ _ e in let l : length xs ≡ length (f.0 ++ ys) = ap length f.1 in absurd (omega (arith, l, length-append f.0 ys))
    go false e = refl

-- the loop so far: `first` was `was`, `now` was `old`, and the first i have met it
pub record Sweeping {X : Type 0} (walk : X → Walk) (was first : Walk) (old now : List X) (i : ℕ) : Type 0 where
  pub met : HasMet was first
  pub each : (k : ℕ) (d : X) → k < i → k < length old → HasMet (walk (get_or old k d)) (walk (get_or now k d))
  pub rest : (k : ℕ) (d : X) → i ≤ k → get_or now k d ≡ get_or old k d
  pub within : (k : ℕ) (d : X) → k < i → k < length old → Later (walk (get_or now k d)).seen first.seen
  pub still : ((k : ℕ) (d : X) → k < length old → Later (walk (get_or old k d)).seen was.seen) → (first.seen ≡ was.seen) × ((k : ℕ) (d : X) → k < i → k < length old → (walk (get_or now k d)).seen ≡ first.seen)

sweeps : {X : Type 0} (walk : X → Walk) (was first first' : Walk) (old now : List X) (i : ℕ) (x x' : X) → Sweeping walk was first old now i → i < length old → length now ≡ length old → ((d : X) → get_or now i d ≡ x)
    → HasMet first first' → HasMet (walk x) (walk x') → (walk x').seen ≡ first'.seen → first'.seen ≡ longer first.seen (walk x).seen → Sweeping walk was first' old (set now i x') (i + 1)
sweeps {X} walk was first first' old now i x x' h lt len at one other seen longest =
    let here : (d : X) → get_or (set now i x') i d ≡ x' = λ d. get_or-set_same now i x' d (omega (arith, len)) in
    let others : (k : ℕ) (d : X) → k ≢ i → get_or (set now i x') k d ≡ get_or now k d = λ k d ne. get_or-set_other now i k x' d ne in
    record {
      met = met_more was first first' h.met one;
      each = λ k d lo hi. elim (ℕ_discrete k i) as (λ _. HasMet (walk (get_or old k d)) (walk (get_or (set now i x') k d))) [
        | yes e ↦ subst (λ (j : ℕ). HasMet (walk (get_or old j d)) (walk (get_or (set now i x') j d))) (sym e) (subst (λ (y : X × X). HasMet (walk y.0) (walk y.1)) (λ j. ((sym (at d) ∙ h.rest i d (omega arith)) j, sym (here d) j)) other)
        | no ne ↦ subst (λ (y : X). HasMet (walk (get_or old k d)) (walk y)) (sym (others k d ne)) (h.each k d (omega arith) hi)
      ];
      rest = λ k d le. others k d (λ e. omega arith) ∙ h.rest k d (omega arith);
      within = λ k d lo hi. elim (ℕ_discrete k i) as (λ _. Later (walk (get_or (set now i x') k d)).seen first'.seen) [
        | yes e ↦ subst (λ (l : List Move). Later l first'.seen) (sym (ap (λ (j : ℕ). (walk (get_or (set now i x') j d)).seen) e ∙ ap (λ (y : X). (walk y).seen) (here d) ∙ seen)) (later_self first'.seen)
        | no ne ↦ subst (λ (y : X). Later (walk y).seen first'.seen) (sym (others k d ne)) (later_more _ _ _ (h.within k d (omega arith) hi) one.stands.onward)
      ];
      still = λ all.
          let k0 = h.still all in
          let x_is : x ≡ get_or old i x = sym (at x) ∙ h.rest i x (omega arith) in
          let f : Later (walk x).seen first.seen = subst (λ (l : List Move). Later (walk x).seen l) (sym k0.0) (subst (λ (y : X). Later (walk y).seen was.seen) (sym x_is) (all i x lt)) in
          let same : first'.seen ≡ first.seen = longest ∙ longer_back first.seen (walk x).seen f in (
            same ∙ k0.0,
            λ k d lo hi. elim (ℕ_discrete k i) as (λ _. (walk (get_or (set now i x') k d)).seen ≡ first'.seen) [
              | yes e ↦ ap (λ (j : ℕ). (walk (get_or (set now i x') j d)).seen) e ∙ ap (λ (y : X). (walk y).seen) (here d) ∙ seen
              | no ne ↦ ap (λ (y : X). (walk y).seen) (others k d ne) ∙ k0.1 k d (omega arith) hi ∙ sym same
            ],
          );
    }

-- one more of them, which is x' now: neither moves, and each sees the other
pub sweeps_on : {X : Type 0} (walk : X → Walk) (was first first' : Walk) (old now : List X) (i : ℕ) (d x' : X) → HasStopped was → Sweeping walk was first old now i → i < length old → length now ≡ length old → Sees first first'
    → HasMet (walk (get_or now i d)) (walk x') → (walk x').seen ≡ first'.seen → first'.seen ≡ longer first.seen (walk (get_or now i d)).seen → Sweeping walk was first' old (set now i x') (i + 1)
sweeps_on walk was first first' old now i d x' stop so less len one other seen longest =
    sweeps walk was first first' old now i (get_or now i d) x' so less len (λ e. get_or_default now i e d (omega (arith, less, len))) (met_on first first' (still_stopped was first stop so.met.same) one) other seen longest

-- before the first of them
pub sweeps_none : {X : Type 0} (walk : X → Walk) (was : Walk) (old : List X) → HasStopped was → IsSound was → Sweeping walk was was old old 0
sweeps_none walk was old stop sound = record {
  met = met_still was was refl stop sound;
  each = λ k d lo. absurd (omega arith);
  rest = λ k d le. refl;
  within = λ k d lo. absurd (omega arith);
  still = λ all. (refl, λ k d lo. absurd (omega arith));
}

-- after the last of them
pub swept : {X : Type 0} (walk : X → Walk) (was first : Walk) (old now : List X) (i : ℕ) → Sweeping walk was first old now i → length old ≤ i → length now ≡ length old → Swept walk was first old now
swept walk was first old now i h all len = record {
  first = h.met;
  others = λ k d less. h.each k d (omega arith) less;
  within = λ k d less. h.within k d (omega arith) (omega arith);
  still = λ before. let s = h.still before in (s.0, λ k d less. s.1 k d (omega arith) (omega arith));
}

later_all : (first after : Walk) (xs : List Walk) → HasMet first after → All (λ o. Later o.seen first.seen) xs → All (λ o. Later o.seen after.seen) xs
later_all first after xs met all = λ k d less. later_more _ _ _ (all k d less) met.stands.onward

each_more : (xs ys zs : List Walk) → length ys ≡ length xs → EachHasMet xs ys → EachHasMet ys zs → EachHasMet xs zs
each_more xs ys zs same f g k d less = met_more _ _ _ (f k d less) (g k d (omega (arith, same)))

-- a sweep over passes that clauses see as walks
abbrev SweptAll : Walk → Walk → List Walk → List Walk → Type 0
SweptAll = Swept (λ (w : Walk). w)

-- two sweeps over three lists
pub gathered : (v0 v1 v2 v3 v4 v5 v6 : Walk) (a0 a1 a2 b0 b1 b2 c0 c1 c2 : List Walk) → length a1 ≡ length a0 → length b1 ≡ length b0 → length c1 ≡ length c0
    → SweptAll v0 v1 a0 a1 → SweptAll v1 v2 b0 b1 → SweptAll v2 v3 c0 c1 → SweptAll v3 v4 a1 a2 → SweptAll v4 v5 b1 b2 → SweptAll v5 v6 c1 c2 → Gathered v0 v6 a0 a2 b0 b2 c0 c2
gathered v0 v1 v2 v3 v4 v5 v6 a0 a1 a2 b0 b1 b2 c0 c1 c2 la lb lc one two three four five six =
    let fourth = four.still (later_all v1 v3 a1 (met_more v1 v2 v3 two.first three.first) one.within) in
    let fifth = five.still (later_all v2 v4 b1 (met_more v2 v3 v4 three.first four.first) two.within) in
    let sixth = six.still (later_all v3 v5 c1 (met_more v3 v4 v5 four.first five.first) three.within) in
    record {
      first = met_more v0 v1 v6 one.first (met_more v1 v2 v6 two.first (met_more v2 v3 v6 three.first (met_more v3 v4 v6 four.first (met_more v4 v5 v6 five.first six.first))));
      senders_met = each_more a0 a1 a2 la one.others four.others;
      receivers_met = each_more b0 b1 b2 lb two.others five.others;
      given_up_met = each_more c0 c1 c2 lc three.others six.others;
      senders_one = λ k d less. fourth.1 k d less ∙ sym fifth.0 ∙ sym sixth.0;
      receivers_one = λ k d less. fifth.1 k d less ∙ sym sixth.0;
      given_up_one = sixth.1;
    }

-- a pass that has met some may meet more
pub may_more : (z : Topic) (v w : Walk) → MayMeet z v → HasMet v w → MayMeet z w
may_more z v w may met = record { here = subst (IsOf z) (sym met.same) (may.here.0, may.here.1); still = still_stopped v w may.still met.same }

-- and is still of their queue, also of those that have met others since
pub of_one_more : (v w : Walk) (xs : List Walk) → HasMet v w → All (IsOfOne v) xs → All (IsOfOne w) xs
of_one_more v w xs met are = λ k d less. subst (λ (x : Walk). IsOfOne x (get_or xs k d)) (sym met.same) (are k d less)

pub met_of_one : (v w : Walk) (xs ys : List Walk) → length ys ≡ length xs → HasMet v w → EachHasMet xs ys → All (IsOfOne v) xs → All (IsOfOne w) ys
met_of_one v w xs ys same met each are =
    of_one_more v w ys met (λ k d less. let l : k < length xs = omega (arith, same, less) in subst (IsOfOne v) (sym (each k d l).same) (are k d l))

-- the first of a list of passes may meet the others of its own list, and those of two other lists; its seat is v, and its
-- words are z
pub may_gather : (q z : Topic) (all rest second third : List Walk) (x v : Walk) → z ≡ q → v ≡ x → HasStopped v → All (IsOf q) all → All (IsOf q) second → All (IsOf q) third → all ≡ x ∷ rest
    → MayMeet z v × All (IsOfOne v) rest × All (IsOfOne v) second × All (IsOfOne v) third
may_gather q z all rest second third x v words seat still are second_are third_are is =
    let listed : All (IsOf q) (x ∷ rest) = subst (All (IsOf q)) is are in
    let here : IsOf q v = subst (IsOf q) (sym seat) (listed 0 x (omega arith)) in
    let of_one : (w : Walk) → IsOf q w → IsOfOne v w = λ w there. (there.0 ∙ sym here.0, there.1 ∙ sym here.1) in (
      record { here = subst (λ (y : Topic). IsOf y v) (sym words) here; still = still },
      λ k d less. of_one (get_or rest k d) (listed (suc k) d (omega (arith, less))),
      λ k d less. of_one (get_or second k d) (second_are k d less),
      λ k d less. of_one (get_or third k d) (third_are k d less),
    )

-- all have seen what the first one has
pub with_first : (w : Walk) (others : List Walk) → All (λ o. o.seen ≡ w.seen) others → All (λ o. o.seen ≡ w.seen) (w ∷ others)
with_first w others have zero d less = refl
with_first w others have (suc k) d less = have k d (omega (arith, less))

-- the first of a list of passes, whose seat was v, and the others have met
heads_met : (x w : Walk) (rest rest' : List Walk) → HasMet x w → EachHasMet rest rest' → EachHasMet (x ∷ rest) (w ∷ rest')
heads_met x w rest rest' met each zero d less = met
heads_met x w rest rest' met each (suc k) d less = each k d (omega (arith, less))

pub all_met : (all rest rest' : List Walk) (x v w : Walk) → v ≡ x → all ≡ x ∷ rest → HasMet v w → EachHasMet rest rest' → EachHasMet all (w ∷ rest')
all_met all rest rest' x v w seat is met each =
    subst (λ (xs : List Walk). EachHasMet xs (w ∷ rest')) (sym is) (heads_met x w rest rest' (subst (λ (y : Walk). HasMet y w) seat met) each)
