-- Calls that only their lines order: where they are in the log, and that they meet, or overlap by the skew.
use Rattle.std.proofs.Common.{◌≡◌, ◌<◌, ◌≤◌, ◌+◌, ◌-◌, ◌^◌, ◌++◌, inl, inr, ℕ, zero, suc, min, Bool, true, false, nat_le, nat_lt, if◌then◌else◌, List, [], ◌∷◌, length, Option, Some, None, option_map, Result, Ok, Err, refl, sym, ap, subst, ◌∙◌, arith}
use Rattle.std.specs.List.{slice_get}
use Rattle.std.specs.Str.{bytes_eq}
use Rattle.std.proofs.lemmas.Bool.{leb-true, ltb-false}
use Rattle.cc_judge.proofs.Listing.{at_pushed, last_pushed, some_is}
use Rattle.cc_judge.proofs.Marks.{get_front, get_split}
use Rattle.cc_log.specs.Names.{Call, Last, Line, LineFault, Tie}
use Rattle.cc_log.specs.Line.{Body}
use Rattle.cc_log.specs.Log.{Entry, Refusal, ◌>>=◌, after_end, after_last, allowed, bodies_of, call_of, calls_of, differs, last_of, or_refusal, sender_of, tie_with, ties_of, touches}
use Rattle.cc_log.specs.Written.{AreFair, AreTied, IsTied}
use Rattle.cc_log.proofs.Steps.{calls_length}

pub one_of : {X : Type 0} (x z : X) (k : ℕ) → slice_get (x ∷ []) k ≡ Some z → (k ≡ 0) × (x ≡ z)
one_of x z zero is = (refl, some_is x z is)
one_of x z (suc k) is = absurd (cc is)

-- ---- a call that may come next

free_by : (number : ℕ) (next : Result (Unit {0}) Refusal) (r : Result (Unit {0}) LineFault) → (or_refusal number r >>= (λ free. next)) ≡ Ok tt → r ≡ Ok tt
free_by number next (Ok done) is = refl
free_by number next (Err fault) is = absurd (cc is)

new_by : (number : ℕ) (next : Result (Unit {0}) Refusal) (r : Result (Unit {0}) LineFault) → (or_refusal number r >>= (λ free. next)) ≡ Ok tt → next ≡ Ok tt
new_by number next (Ok done) is = is
new_by number next (Err fault) is = absurd (cc is)

-- its thread is free
free_of : (e : Entry) (last : Option Last) (sender : Body → Option ℕ) → allowed e last sender ≡ Ok tt → after_last e.line.begin last ≡ Ok tt
free_of e last sender is = free_by e.number (differs e.number e.line.said sender) (after_last e.line.begin last) is

-- no earlier one sent its item
pub new_of : (e : Entry) (last : Option Last) (sender : Body → Option ℕ) → allowed e last sender ≡ Ok tt → differs e.number e.line.said sender ≡ Ok tt
new_of e last sender is = new_by e.number (differs e.number e.line.said sender) (after_last e.line.begin last) is

-- so the last call of its thread had ended
abbrev checked : (b c : Bool) → Result (Unit {0}) LineFault
checked b c = if b then Err LineFault.Unsorted else (if c then Err LineFault.Overlap else Ok tt)

had_ended : (begin last_begin : ℕ) (last_end : Option ℕ) → after_end begin last_begin last_end ≡ Ok tt → (end : ℕ) × (last_end ≡ Some end) × (end ≤ begin)
had_ended begin last_begin None is = absurd (cc is)
had_ended begin last_begin (Some end) is = by (nat_lt begin last_begin) (nat_lt begin end) refl is
  where
    by : (b c : Bool) → nat_lt begin end ≡ c → checked b c ≡ Ok tt → (e : ℕ) × (Some end ≡ Some e) × (e ≤ begin)
    by true c less none = absurd (cc none)
    by false true less none = absurd (cc none)
    by false false less done = (end, refl, ltb-false begin end less)

-- ---- the last call of a thread, in the log

record IsLast (skew : ℕ) (before : List Entry) (last : Last) : Type 0 where
  call : Call
  at : slice_get (calls_of skew before) last.place ≡ Some call
  ends : call.end ≡ option_map (λ end. min (end + skew) (2 ^ 64 - 1)) last.end
  within : last.place < length before

-- the call of the last line
newest : (skew : ℕ) (e : Entry) (before : List Entry) → slice_get (calls_of skew (e ∷ before)) (length before) ≡ Some (call_of skew (bodies_of before) e.line)
newest skew e before =
    subst (λ (n : ℕ). slice_get (calls_of skew (e ∷ before)) n ≡ Some (call_of skew (bodies_of before) e.line)) (calls_length skew before)
    (last_pushed (calls_of skew before) (call_of skew (bodies_of before) e.line))

last_is : (skew : ℕ) (thread : List ℕ) (before : List Entry) (last : Last) → last_of thread before ≡ Some last → IsLast skew before last
last_is skew thread [] last is = absurd (cc is)
last_is skew thread (e ∷ before) last is = by (bytes_eq e.thread thread) (last_is skew thread before last) is
  where
    by : (b : Bool) → (last_of thread before ≡ Some last → IsLast skew before last) → (if b then Some (record { begin = e.line.begin; end = e.line.end; place = length before }) else last_of thread before) ≡ Some last → IsLast skew (e ∷ before) last
    by true older here =
        subst (IsLast skew (e ∷ before)) (some_is (record { begin = e.line.begin; end = e.line.end; place = length before }) last here)
        (record { call = call_of skew (bodies_of before) e.line; at = newest skew e before; ends = refl; within = omega arith })
    by false older there =
        let old = older there in
        let within = old.within in
        record { call = old.call; at = at_pushed (calls_of skew before) (call_of skew (bodies_of before) e.line) old.call last.place old.at; ends = old.ends; within = omega (arith, within) }

-- ---- two calls that only their lines order

record IsTieOf (skew place begin : ℕ) (o : Option Last) (tie : Tie) : Type 0 where
  last : Last
  last_is : o ≡ Some last
  tie_is : tie ≡ record { earlier = last.place; later = place }
  touch : touches skew begin last.end ≡ true

tie_of : (skew place begin : ℕ) (o : Option Last) (k : ℕ) (tie : Tie) → slice_get (tie_with skew place begin o) k ≡ Some tie → IsTieOf skew place begin o tie
tie_of skew place begin None k tie is = absurd (cc is)
tie_of skew place begin (Some last) k tie is = by (touches skew begin last.end) refl is
  where
    by : (b : Bool) → touches skew begin last.end ≡ b → slice_get (if b then record { earlier = last.place; later = place } ∷ [] else []) k ≡ Some tie → IsTieOf skew place begin (Some last) tie
    by true touch here = record { last = last; last_is = refl; tie_is = sym (one_of (record { earlier = last.place; later = place }) tie k here).1; touch = touch }
    by false touch none = absurd (cc none)

-- without a skew the later one began just when the earlier one ended
meets : (skew begin end t : ℕ) → begin < 2 ^ 64 → end ≤ begin → min (end + skew) (2 ^ 64 - 1) ≡ t → begin - skew ≤ t → skew ≡ 0 → begin - skew ≡ t
meets skew begin end t low after is touch none = omega arith

new_tied : (skew : ℕ) (e : Entry) (before : List Entry) (k : ℕ) (tie : Tie) → AreFair (e ∷ before) → slice_get (tie_with skew (length before) e.line.begin (last_of e.thread before)) k ≡ Some tie → IsTied skew (calls_of skew (e ∷ before)) tie
new_tied skew e before k tie fair is =
    let t = tie_of skew (length before) e.line.begin (last_of e.thread before) k tie is in
    let old = last_is skew e.thread before t.last t.last_is in
    let free = subst (λ (o : Option Last). after_last e.line.begin o ≡ Ok tt) t.last_is (free_of e (last_of e.thread before) (λ body. sender_of body before) fair.1) in
    let ended = had_ended e.line.begin t.last.begin t.last.end free in
    let touch : e.line.begin - skew ≤ min (ended.0 + skew) (2 ^ 64 - 1) =
    leb-true (e.line.begin - skew) (min (ended.0 + skew) (2 ^ 64 - 1)) (subst (λ (o : Option ℕ). touches skew e.line.begin o ≡ true) ended.1 t.touch) in
    subst (IsTied skew (calls_of skew (e ∷ before))) (sym t.tie_is) (record {
      one = old.call;
      other = call_of skew (bodies_of before) e.line;
      one_is = at_pushed (calls_of skew before) (call_of skew (bodies_of before) e.line) old.call t.last.place old.at;
      other_is = newest skew e before;
      in_turn = old.within;
      end = min (ended.0 + skew) (2 ^ 64 - 1);
      ended = old.ends ∙ ap (option_map (λ end. min (end + skew) (2 ^ 64 - 1))) ended.1;
      touch = touch;
      meet = meets skew e.line.begin ended.0 (min (ended.0 + skew) (2 ^ 64 - 1)) fair.0.low ended.2 refl touch;
    })

-- they stay so with further calls behind
pub still_tied : (skew : ℕ) (calls more : List Call) (tie : Tie) → IsTied skew calls tie → IsTied skew (calls ++ more) tie
still_tied skew calls more tie t = record {
  one = t.one;
  other = t.other;
  one_is = get_front calls more tie.earlier t.one t.one_is;
  other_is = get_front calls more tie.later t.other t.other_is;
  in_turn = t.in_turn;
  end = t.end;
  ended = t.ended;
  touch = t.touch;
  meet = t.meet;
}

pub are_tied : (skew : ℕ) (before : List Entry) → AreFair before → AreTied skew (calls_of skew before) (ties_of skew before)
are_tied skew [] fair i tie is = absurd (cc is)
are_tied skew (e ∷ before) fair i tie is = elim (get_split (ties_of skew before) (tie_with skew (length before) e.line.begin (last_of e.thread before)) i tie is) [
  | inl front ↦ still_tied skew (calls_of skew before) (call_of skew (bodies_of before) e.line ∷ []) tie (are_tied skew before fair.2 i tie front)
  | inr behind ↦ new_tied skew e before behind.0 tie fair behind.2
]
