-- A line that was read: its end, and what the line says of its call.
use Rattle.std.proofs.Common.{◌≡◌, ◌<◌, ◌≤◌, ◌^◌, ◌||◌, ℕ, Bool, true, false, cond, nat_le, nat_lt, if◌then◌else◌, List, Option, Some, None, is_some, option_and_then, Result, Ok, Err, refl, sym, ap, subst, ◌∙◌, arith}
use Rattle.std.specs.Prelude.{codes}
use Rattle.std.specs.Str.{bytes_eq}
use Rattle.std.proofs.lemmas.Bool.{ltb-false}
use Rattle.serde_json.specs.Data.{Data}
use Rattle.serde_json.specs.Find.{get, as_bool, as_null, as_object}
use Rattle.cc_plan.specs.Json.{whole_number}
use Rattle.cc_log.specs.Names.{Line, LineFault, Said, Window}
use Rattle.cc_log.specs.Line.{Body, ◌>>=◌, answer_of, body_in, close_of, end_from, end_of, is_true, line_of, no_answer, no_item, object_of_call, or_fault, said_in, said_of, send_of, sent, take_of, took_item, took_none, unless}
use Rattle.cc_log.specs.Window.{begins_after, cut, ends_after, ends_early, open_said, opened}
use Rattle.cc_log.specs.Written.{Fits, IsFair}

pub record Bound {A B : Type 0} (r : Result A LineFault) (f : A → Result B LineFault) (y : B) : Type 0 where
  pub value : A
  pub is : r ≡ Ok value
  pub next : f value ≡ Ok y

bound : {A B : Type 0} (r : Result A LineFault) (f : A → Result B LineFault) (y : B) → (r >>= f) ≡ Ok y → Bound r f y
bound (Ok x) f y is = record { value = x; is = refl; next = is }
bound (Err fault) f y is = absurd (cc is)

abbrev okay : {A : Type 0} → A → Result A LineFault
okay x = Ok x

value_or : {A : Type 0} → A → Result A LineFault → A
value_or other (Ok x) = x
value_or other (Err fault) = other

ok_is : {A : Type 0} (x y : A) → okay x ≡ okay y → x ≡ y
unfolding value_or
ok_is x y is = ap (value_or x) is

some_is : {A : Type 0} (x y : A) → Some x ≡ Some y → x ≡ y
some_is x y is = cc

-- ---- the end

end_by : (begin n : ℕ) (b : Bool) (end : Option ℕ) (e : ℕ) → nat_lt n begin ≡ b → (if b then Err LineFault.End else Ok (Some n)) ≡ Ok end → end ≡ Some e → begin ≤ e
end_by begin n true end e less is some = absurd (cc is)
end_by begin n false end e less is some =
    let same : n ≡ e = some_is n e (ok_is (Some n) end is ∙ some) in
    let up : begin ≤ n = ltb-false n begin less in
    omega (arith, same, up)

end_of_some : (begin : ℕ) (o : Option ℕ) (end : Option ℕ) (e : ℕ) → end_from begin o ≡ Ok end → end ≡ Some e → begin ≤ e
end_of_some begin None end e is some = absurd (cc is)
end_of_some begin (Some n) end e is some = end_by begin n (nat_lt n begin) end e refl is some

timed : (begin : ℕ) (o : Option Data) (end : Option ℕ) (e : ℕ) → end_of begin o ≡ Ok end → end ≡ Some e → begin ≤ e
timed begin None end e is some = let none : None ≡ Some e = ok_is None end is ∙ some in absurd (cc none)
timed begin (Some d) end e is some = end_of_some begin (whole_number d) end e is some

-- ---- what the line says

fits_ok : (end : Option ℕ) (said known : Said) → okay known ≡ okay said → Fits end known → Fits end said
fits_ok end said known is fits = subst (Fits end) (ok_is known said is) fits

fits_if : (end : Option ℕ) (said known : Said) (b : Bool) (rest : Result Said LineFault) → (if b then Ok known else rest) ≡ Ok said → Fits end known → (rest ≡ Ok said → Fits end said) → Fits end said
fits_if end said known true rest is fits other = fits_ok end said known is fits
fits_if end said known false rest is fits other = other is

fits_sent : (end : Option ℕ) (body : Body) (text : Option (List ℕ)) (said : Said) → sent body text ≡ Ok said → Fits end said
fits_sent end body None said is = fits_ok end said (Said.Send body) is tt
fits_sent end body (Some text) said is =
    fits_if end said (Said.Full body) (bytes_eq text (codes "full")) (if bytes_eq text (codes "closed") then Ok (Said.Closed body) else Err LineFault.Answer) is tt
    (λ rest. fits_if end said (Said.Closed body) (bytes_eq text (codes "closed")) (Err LineFault.Answer) rest tt (λ none. absurd (cc none)))

fits_send : (end : Option ℕ) (value : Data) (answer : Option Data) (said : Said) → send_of end value answer ≡ Ok said → Fits end said
fits_send end value answer said is =
    let a = bound (body_in value) (λ body. answer_of end answer >>= (λ text. sent body text)) said is in
    let b = bound (answer_of end answer) (λ text. sent a.value text) said a.next in
    fits_sent end a.value b.value said b.next

fits_none : (e : ℕ) (text : Option (List ℕ)) (said : Said) → took_none (Some e) text ≡ Ok said → Fits (Some e) said
fits_none e None said is = fits_ok (Some e) said Said.FoundNone is tt
fits_none e (Some text) said is =
    fits_if (Some e) said Said.Ended (bytes_eq text (codes "ended") || bytes_eq text (codes "closed")) (Err LineFault.Answer) is refl (λ none. absurd (cc none))

fits_no_item : (end : Option ℕ) (answer : Option Data) (said : Said) → no_item end answer ≡ Ok said → Fits end said
fits_no_item None None said is = fits_ok None said Said.Taking is refl
fits_no_item (Some e) None said is = fits_none e None said is
fits_no_item None (Some d) said is = absurd (cc is)
fits_no_item (Some e) (Some d) said is =
    let a = bound (answer_of (Some e) (Some d)) (λ text. took_none (Some e) text) said is in
    fits_none e a.value said a.next

some_end : (end : Option ℕ) (body : Body) (x : Unit {0}) → unless LineFault.Open (is_some end) ≡ Ok x → Fits end (Said.Took body)
some_end None body x is = absurd (cc is)
some_end (Some e) body x is = refl

fits_item : (end : Option ℕ) (value : Data) (answer : Option Data) (said : Said) → took_item end value answer ≡ Ok said → Fits end said
fits_item end value answer said is =
    let a = bound (no_answer answer) (λ none. body_in value >>= (λ body. unless LineFault.Open (is_some end) >>= (λ ended. Ok (Said.Took body)))) said is in
    let b = bound (body_in value) (λ body. unless LineFault.Open (is_some end) >>= (λ ended. Ok (Said.Took body))) said a.next in
    let c = bound (unless LineFault.Open (is_some end)) (λ ended. Ok (Said.Took b.value)) said b.next in
    fits_ok end said (Said.Took b.value) c.next (some_end end b.value c.value c.is)

fits_take : (end : Option ℕ) (value : Data) (answer : Option Data) (said : Said) → take_of end value answer ≡ Ok said → Fits end said
fits_take end value answer said is = by (is_some (as_null value)) is
  where
    by : (b : Bool) → (if b then no_item end answer else took_item end value answer) ≡ Ok said → Fits end said
    by true none = fits_no_item end answer said none
    by false item = fits_item end value answer said item

fits_close : (end : Option ℕ) (value : Data) (answer : Option Data) (said : Said) → close_of value answer ≡ Ok said → Fits end said
fits_close end value answer said is =
    let a = bound (unless LineFault.Call (is_true (as_bool value))) (λ close. no_answer answer >>= (λ none. Ok Said.Close)) said is in
    let b = bound (no_answer answer) (λ none. Ok Said.Close) said a.next in
    fits_ok end said Said.Close b.next tt

fits : (end : Option ℕ) (send take close answer : Option Data) (said : Said) → said_of end send take close answer ≡ Ok said → Fits end said
fits end (Some value) None None answer said is = fits_send end value answer said is
fits end None (Some value) None answer said is = fits_take end value answer said is
fits end None None (Some value) answer said is = fits_close end value answer said is
fits end None None None answer said is = absurd (cc is)
fits end (Some value) (Some w) close answer said is = absurd (cc is)
fits end (Some value) None (Some w) answer said is = absurd (cc is)
fits end None (Some value) (Some w) answer said is = absurd (cc is)

-- ---- the line

-- all but that the begin is a word of 64 bits
pub record IsRead (line : Line) : Type 0 where
  pub timed : (end : ℕ) → line.end ≡ Some end → line.begin ≤ end
  pub fits : Fits line.end line.said

pub line_read : (d : Data) (line : Line) → line_of d ≡ Ok line → IsRead line
line_read d line is =
    let said_after = λ (begin : ℕ). λ (end : Option ℕ). said_in end d >>= (λ said. Ok (record { begin = begin; end = end; said = said })) in
    let a = bound (object_of_call (as_object d)) (λ object. or_fault LineFault.Begin (option_and_then whole_number (get (codes "begin") d)) >>= (λ begin. end_of begin (get (codes "end") d) >>= said_after begin)) line is in
    let b = bound (or_fault LineFault.Begin (option_and_then whole_number (get (codes "begin") d))) (λ begin. end_of begin (get (codes "end") d) >>= said_after begin) line a.next in
    let c = bound (end_of b.value (get (codes "end") d)) (said_after b.value) line b.next in
    let e = bound (said_in c.value d) (λ said. Ok (record { begin = b.value; end = c.value; said = said })) line c.next in
    subst IsRead (ok_is (record { begin = b.value; end = c.value; said = e.value }) line e.next) (record {
      timed = λ end some. timed b.value (get (codes "end") d) c.value end c.is some;
      fits = fits c.value (get (codes "send") d) (get (codes "take") d) (get (codes "close") d) (get (codes "answer") d) e.value e.is;
    })

-- ---- as it is judged

open_fits : (said now : Said) → open_said said ≡ Some now → Fits None now
open_fits (Said.Send body) now is = subst (Fits None) (some_is (Said.Send body) now is) tt
open_fits (Said.Took body) now is = subst (Fits None) (some_is Said.Taking now is) refl
open_fits Said.FoundNone now is = subst (Fits None) (some_is Said.Taking now is) refl
open_fits Said.Taking now is = subst (Fits None) (some_is Said.Taking now is) refl
open_fits (Said.Full body) now is = absurd (cc is)
open_fits (Said.Closed body) now is = absurd (cc is)
open_fits Said.Ended now is = subst (Fits None) (some_is Said.Taking now is) refl
open_fits Said.Close now is = subst (Fits None) (some_is Said.Close now is) tt

opened_read : (begin : ℕ) (said : Said) (o : Option Said) (line : Line) → open_said said ≡ o → opened begin o ≡ Some line → IsRead line
opened_read begin said None line from is = absurd (cc is)
opened_read begin said (Some s) line from is =
    subst IsRead (some_is (record { begin = begin; end = None; said = s }) line is) (record { timed = λ end some. absurd (cc some); fits = open_fits said s from })

pub cut_read : (window : Window) (whole line : Line) → IsRead whole → cut window whole ≡ Some line → IsRead line
cut_read window whole line read is = by (ends_early window.from whole.end || begins_after window.until whole.begin) (ends_after window.until whole.end) is
  where
    by : (b c : Bool) → (if b then None else (if c then opened whole.begin (open_said whole.said) else Some whole)) ≡ Some line → IsRead line
    by true c none = absurd (cc none)
    by false true cuts = opened_read whole.begin whole.said (open_said whole.said) line refl cuts
    by false false same = subst IsRead (some_is whole line same) read

pub fair : (line : Line) → IsRead line → line.begin < 2 ^ 64 → IsFair line
fair line read low = record { low = low; timed = read.timed; fits = read.fits }
