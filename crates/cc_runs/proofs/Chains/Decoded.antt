-- An answer whose numbers fit is read as it was written.
use Rattle.std.proofs.Common.{◌≡◌, ℕ, ◌^◌, ◌<◌, ◌==◌, if◌then◌else◌, refl, ap, ◌∙◌, arith}
use Rattle.cc_runs.specs.Names.{Item, Answer, SendAnswer, CloseAnswer, TakeAnswer, Served, Chain, BodyWords}
use Rattle.cc_runs.proofs.Bodies.{sender_told, number_told, body_told}
use Rattle.cc_runs.specs.Codes.{item_of, tag_of, body_words, no_words, coded, code_of, value_of, list_word, list_reads}
pub use Rattle.cc_runs.specs.OnChain.{IsTellable, Fits, FitsIn}
use Rattle.cc_runs.proofs.Chains.Registers.{IsAnswer, reads, take_reads}

code_back : (code value : ℕ) → value < 2 ^ 56 → code_of (coded code value) ≡ code
code_back code value less = omega arith

value_back : (code value : ℕ) → value < 2 ^ 56 → value_of (coded code value) ≡ value
value_back code value less = omega arith

item_back : (item : Item) (value : ℕ) → value ≡ item.place → IsTellable item → item_of value (tag_of item) (body_words item) ≡ item
item_back item value is tells = λ i. record {
  place = is i;
  sender = sender_told item.sender item.number item.body tells.sender tells.number i;
  number = number_told item.sender item.number item.body tells.number i;
  body = body_told item.sender item.number item.body tells.number tells.body i;
}

-- an answer by its code and its number
abbrev send_by : ℕ → ℕ → Answer
send_by code value =
    if code == 1 then Answer.Send (SendAnswer.Accepted value)
    else if code == 2 then Answer.Send SendAnswer.Full
    else if code == 3 then Answer.Send SendAnswer.Closed
    else if code == 4 then Answer.Send SendAnswer.Spent
    else if code == 5 then Answer.Close (CloseAnswer.Shut value)
    else Answer.Close (CloseAnswer.Already value)

abbrev take_by : ℕ → ℕ → ℕ → BodyWords → Answer
take_by code value tag body =
    if code == 1 then Answer.Take (TakeAnswer.Got (item_of value tag body))
    else if code == 2 then Answer.Take TakeAnswer.Empty
    else Answer.Take (TakeAnswer.Ended value)

send_back : (code value : ℕ) → value < 2 ^ 56 → list_reads (coded code value) ≡ send_by code value
send_back code value less = λ i. send_by (code_back code value less i) (value_back code value less i)

take_back : (code value tag : ℕ) (body : BodyWords) → value < 2 ^ 56 → take_reads (coded code value) tag body ≡ take_by code value tag body
take_back code value tag body less = λ i. take_by (code_back code value less i) (value_back code value less i) tag body

reads_list : (x : Chain) (a : Answer) → IsAnswer Served.List x a → Fits a → reads Served.List x a ≡ a
reads_list Chain.Send (Answer.Send (SendAnswer.Accepted place)) is fits = send_back 1 place fits
reads_list Chain.Send (Answer.Send SendAnswer.Full) is fits = send_back 2 0 (omega arith)
reads_list Chain.Send (Answer.Send SendAnswer.Closed) is fits = send_back 3 0 (omega arith)
reads_list Chain.Send (Answer.Send SendAnswer.Spent) is fits = send_back 4 0 (omega arith)
reads_list Chain.Send (Answer.Close (CloseAnswer.Shut total)) is fits = send_back 5 total fits
reads_list Chain.Send (Answer.Close (CloseAnswer.Already total)) is fits = send_back 6 total fits
reads_list (Chain.Take g) (Answer.Take (TakeAnswer.Got item)) is fits =
    take_back 1 item.place (tag_of item) (body_words item) fits.0 ∙ ap (λ (z : Item). Answer.Take (TakeAnswer.Got z)) (item_back item item.place refl fits.1)
reads_list (Chain.Take g) (Answer.Take TakeAnswer.Empty) is fits = take_back 2 0 0 no_words (omega arith)
reads_list (Chain.Take g) (Answer.Take (TakeAnswer.Ended total)) is fits = take_back 3 total 0 no_words fits
reads_list x a is fits = grind arith

reads_counter : (x : Chain) (a : Answer) → IsAnswer Served.Counter x a → reads Served.Counter x a ≡ a
reads_counter x a is = grind arith

pub reads_back : (what : Served) (x : Chain) (a : Answer) → IsAnswer what x a → FitsIn what a → reads what x a ≡ a
reads_back Served.Counter x a is fits = reads_counter x a is
reads_back Served.List x a is fits = reads_list x a is fits

-- an answer that fits has a word
pub word_fits : (a : Answer) → Fits a → list_word a < 2 ^ 64
word_fits a fits = grind arith
