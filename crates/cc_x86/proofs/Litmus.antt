-- Two threads that each look too early; and one that hears of two stores in their order.
use Rattle.std.proofs.Common.{◌≡◌, ℕ, zero, suc, ◌<◌, Bool, true, false, cond, ◌==◌, refl, ap, sym, ◌∙◌, subst, List, [], ◌∷◌, arith}
use Rattle.std.proofs.lemmas.Bool.{ne_eqb}
use Rattle.cc_x86.specs.Program.{State, Turn, hold, found, written}
use Rattle.cc_x86.specs.Sequential as sequential
use Rattle.cc_x86.specs.Sequential.{reached, IsRun}
use Rattle.cc_x86.specs.Buffered.{Waiting, Machine, Move, Acts, Drains, is_plain, buffered, acted_by, drained_by, arrived}
use Rattle.cc_x86.specs.Fenced.{IsFencedAt, turns}
use Rattle.cc_x86.specs.Litmus.{next_of, after_of, crossing, begin, all_plain, StoreBuffering, tells, heard, passing, MessagePassing}
use Rattle.cc_x86.proofs.Buffers.{at_hold, buffers_are_not_seen}

-- both write into their buffers, both read 0, and then both stores arrive
abbrev both : List Move
both = Drains 1 ∷ Drains 0 ∷ Acts record { thread = 1; told = 0 } true ∷ Acts record { thread = 0; told = 0 } true ∷ Acts record { thread = 1; told = 0 } true ∷ Acts record { thread = 0; told = 0 } true ∷ []

-- what thread p has in its buffer, by whether it is thread 0 and whether it is thread 1
abbrev left : Bool → Bool → List (Waiting ℕ)
left a b = cond b [] (cond a [] (cond b (record { word = 1; value = 1 } ∷ []) (cond a (record { word = 0; value = 1 } ∷ []) (cond b (record { word = 1; value = 1 } ∷ []) (cond a (record { word = 0; value = 1 } ∷ []) [])))))

none_left : (p : ℕ) → (arrived crossing all_plain begin both).buffer p ≡ []
none_left (suc (suc p)) =
    ap (λ (a : Bool). left a (1 == suc (suc p))) (ne_eqb 0 (suc (suc p)) (λ e. absurd (omega arith)))
    ∙ ap (λ (b : Bool). left false b) (ne_eqb 1 (suc (suc p)) (λ e. absurd (omega arith)))
none_left _ = refl

-- who has written finds that its word is written
record Kept (s : State ℕ ℕ) : Type 0 where
  pub first : 0 < s.own 0 → s.words 0 ≡ 1
  pub second : 0 < s.own 1 → s.words 1 ≡ 1
  pub not_both : s.own 0 ≡ 2 → s.own 1 ≡ 2 → ⊥

keeps_by : (s : State ℕ ℕ) → Kept s → (p : ℕ) (own : ℕ) (told : ℕ) → s.own p ≡ own → sequential.Acts (next_of p own) →
    Kept record { words = written (λ v w. v == w) s.words (next_of p own); own = hold s.own p (after_of own (found s.words (next_of p own) told)) }
keeps_by s k zero zero told is acts = record { first = λ h. refl; second = k.second; not_both = λ e f. absurd (omega arith) }
keeps_by s k zero (suc zero) told is acts = record {
  first = λ h. k.first (omega (arith, is));
  second = k.second;
  not_both = λ e f. let w : s.words 1 ≡ 1 = k.second (omega (arith, f)) in absurd (omega (arith, w, e));
}
keeps_by s k (suc zero) zero told is acts = record { first = k.first; second = λ h. refl; not_both = λ e f. absurd (omega arith) }
keeps_by s k (suc zero) (suc zero) told is acts = record {
  first = k.first;
  second = λ h. k.second (omega (arith, is));
  not_both = λ e f. let w : s.words 0 ≡ 1 = k.first (omega (arith, e)) in absurd (omega (arith, w, f));
}
keeps_by s k p own told is acts = grind arith

keeps : (ts : List Turn) → IsRun crossing begin ts → Kept (reached crossing begin ts)
keeps [] run = record { first = λ h. absurd (omega arith); second = λ h. absurd (omega arith); not_both = λ e f. absurd (omega arith) }
keeps (t ∷ earlier) run = keeps_by (reached crossing begin earlier) (keeps earlier run.0) t.thread ((reached crossing begin earlier).own t.thread) t.told refl run.1

pub store_buffering : StoreBuffering
store_buffering = record {
  with_buffers = (both, (((((((tt, tt), tt), tt), tt), tt), tt)), none_left, refl, refl);
  by_atomic_steps = λ ts run. (keeps ts run).not_both;
  forbidden = λ fenced. fenced 0 0;
}

-- ---- message passing

told_of_it : (x : ℕ) → heard 1 0 x ≡ 2 → 0 < x
told_of_it x e = grind arith

has_read_once : (x : ℕ) → heard 1 0 x ≡ 4 → ⊥
has_read_once x e = grind arith

misses_it : (x : ℕ) → heard 1 2 x ≡ 4 → 0 < x → ⊥
misses_it x e h = grind arith

has_read_twice : (x : ℕ) → heard 1 2 x ≡ 2 → ⊥
has_read_twice x e = grind arith

-- the word 0 is written first
record Told (s : State ℕ ℕ) : Type 0 where
  pub first : 0 < s.own 0 → 0 < s.words 0
  pub second : 0 < s.words 1 → 0 < s.words 0
  pub heard_of_it : s.own 1 ≡ 2 → 0 < s.words 0
  pub not_missed : s.own 1 ≡ 4 → ⊥

tells_by : (s : State ℕ ℕ) → Told s → (p : ℕ) (own : ℕ) (told : ℕ) → s.own p ≡ own → sequential.Acts (tells p own) →
    Told record { words = written (λ v w. v == w) s.words (tells p own); own = hold s.own p (heard p own (found s.words (tells p own) told)) }
tells_by s k zero zero told is acts = record { first = λ h. omega arith; second = λ h. omega arith; heard_of_it = λ e. omega arith; not_missed = k.not_missed }
tells_by s k zero (suc zero) told is acts = record {
  first = λ h. k.first (omega (arith, is));
  second = λ h. k.first (omega (arith, is));
  heard_of_it = k.heard_of_it;
  not_missed = k.not_missed;
}
tells_by s k (suc zero) zero told is acts = record {
  first = k.first;
  second = k.second;
  heard_of_it = λ e. k.second (told_of_it (s.words 1) e);
  not_missed = λ e. has_read_once (s.words 1) e;
}
tells_by s k (suc zero) (suc zero) told is acts = record {
  first = k.first;
  second = k.second;
  heard_of_it = λ e. absurd (omega (arith, e));
  not_missed = λ e. omega (arith, e);
}
tells_by s k (suc zero) (suc (suc zero)) told is acts = record {
  first = k.first;
  second = k.second;
  heard_of_it = λ e. absurd (has_read_twice (s.words 0) e);
  not_missed = λ e. misses_it (s.words 0) e (k.heard_of_it is);
}
tells_by s k p own told is acts = grind arith

all_told : (ts : List Turn) → IsRun passing begin ts → Told (reached passing begin ts)
all_told [] run = record { first = λ h. absurd (omega (arith, h)); second = λ h. absurd (omega (arith, h)); heard_of_it = λ e. absurd (omega (arith, e)); not_missed = λ e. omega (arith, e) }
all_told (t ∷ earlier) run = tells_by (reached passing begin earlier) (all_told earlier run.0) t.thread ((reached passing begin earlier).own t.thread) t.told refl run.1

-- thread 1 writes nothing
quiet : (own : ℕ) (flag : Bool) (waiting : List (Waiting ℕ)) → waiting ≡ [] → buffered waiting (tells 1 own) flag ≡ []
quiet own flag waiting e = grind arith

acts_quietly : (m : Machine ℕ ℕ) (p told : ℕ) (flag : Bool) → m.buffer 1 ≡ [] → (acted_by passing m p told (tells p (m.own p)) flag).buffer 1 ≡ []
acts_quietly m p told flag e =
    at_hold (λ (b : Bool). cond b (buffered (m.buffer p) (tells p (m.own p)) flag) (m.buffer 1) ≡ []) p 1
    (λ same. subst (λ (q : ℕ). buffered (m.buffer q) (tells q (m.own q)) flag ≡ []) (sym same) (quiet (m.own 1) flag (m.buffer 1) e))
    e

drains_quietly : (m : Machine ℕ ℕ) (p : ℕ) (waiting : List (Waiting ℕ)) → m.buffer p ≡ waiting → m.buffer 1 ≡ [] → (drained_by passing m p waiting).buffer 1 ≡ []
drains_quietly m p [] is e = e
drains_quietly m p (w ∷ newer) is e =
    at_hold (λ (b : Bool). cond b newer (m.buffer 1) ≡ []) p 1
    (λ same. let none : w ∷ newer ≡ [] = sym is ∙ ap m.buffer same ∙ e in absurd (cc))
    e

none_of_1 : (moves : List Move) → (arrived passing all_plain begin moves).buffer 1 ≡ []
none_of_1 [] = refl
none_of_1 (Acts t plainly ∷ earlier) = acts_quietly (arrived passing all_plain begin earlier) t.thread t.told (is_plain all_plain t.thread ((arrived passing all_plain begin earlier).own t.thread) plainly) (none_of_1 earlier)
none_of_1 (Drains p ∷ earlier) = drains_quietly (arrived passing all_plain begin earlier) p ((arrived passing all_plain begin earlier).buffer p) refl (none_of_1 earlier)

fenced_at : (p own : ℕ) → IsFencedAt passing p own (tells p own) true
fenced_at p own = grind arith

pub message_passing : MessagePassing
message_passing moves run missed =
    let k = buffers_are_not_seen ℕ ℕ passing all_plain begin moves fenced_at run in
    (all_told (turns passing all_plain begin moves) k.run).not_missed (k.own 1 (none_of_1 moves) ∙ missed)
