-- Tags, requests and answers as words.
use Rattle.std.specs.Prelude.{ℕ, zero, suc, ◌+◌, ◌*◌, ◌^◌, ◌/◌, ◌%◌, ◌==◌, nat_lt, if◌then◌else◌, List, [], ◌∷◌, slice_index_or}
use Rattle.cc_model.specs.Body.{words_of, body_of, further_of}
use Rattle.cc_runs.specs.Names.{Body, Entry, Item, Call, Pass, Answer, SendAnswer, CloseAnswer, TakeAnswer, BodyWords, Request, Parcel, Served}

-- a sender and the number of its send as one word
abbrev pub pack : ℕ → ℕ → ℕ
pack sender number = sender * 2 ^ 32 + number

-- how many words of its body a tag counts after the first: three at most
abbrev pub further_words : ℕ → ℕ
further_words tag = tag / 2 ^ 48 % 4

-- the tag of a send of this body: a sender's number has sixteen bits in it
abbrev pub packed : ℕ → ℕ → Body → ℕ
packed sender number body = further_of body * 2 ^ 48 + pack (sender % 2 ^ 16) number

-- the sender of a tag, and the number of its send
abbrev pub tag_sender : ℕ → ℕ
tag_sender tag = tag / 2 ^ 32 % 2 ^ 16

abbrev pub tag_number : ℕ → ℕ
tag_number tag = tag % 2 ^ 32

-- a word of a body, by its number from 0 on
abbrev pub word : BodyWords → ℕ → ℕ
word body zero = body.first
word body (suc zero) = body.second
word body (suc (suc zero)) = body.third
word body (suc (suc (suc zero))) = body.fourth
word body (suc (suc (suc (suc _)))) = 0

-- the body with this word at that number
abbrev pub with_word : BodyWords → ℕ → ℕ → BodyWords
with_word body zero value = record body { first = value }
with_word body (suc zero) value = record body { second = value }
with_word body (suc (suc zero)) value = record body { third = value }
with_word body (suc (suc (suc zero))) value = record body { fourth = value }
with_word body (suc (suc (suc (suc _)))) value = body

abbrev pub no_words : BodyWords
no_words = record { first = 0; second = 0; third = 0; fourth = 0 }

-- the phase after the step at a word: the next word, while there is one of this many after the first, or on
abbrev pub behind : {A : Type 0} → ℕ → ℕ → A → A → A
behind further index next on = if nat_lt index further then next else on

-- the words of a body, and 0 after them
abbrev pub slots : List ℕ → BodyWords
slots words = record { first = slice_index_or words 0 0; second = slice_index_or words 1 0; third = slice_index_or words 2 0; fourth = slice_index_or words 3 0 }

abbrev pub words_in : Body → BodyWords
words_in body = slots (words_of body)

-- the body of the first of these words, and of this many after it
abbrev pub body_in : ℕ → BodyWords → Body
body_in zero words = body_of (words.first ∷ [])
body_in (suc zero) words = body_of (words.first ∷ words.second ∷ [])
body_in (suc (suc zero)) words = body_of (words.first ∷ words.second ∷ words.third ∷ [])
body_in (suc (suc (suc _))) words = body_of (words.first ∷ words.second ∷ words.third ∷ words.fourth ∷ [])

-- the item at a place, of its words
abbrev pub item_of : ℕ → ℕ → BodyWords → Item
item_of place tag words = record { place = place; sender = tag_sender tag; number = tag_number tag; body = body_in (further_words tag) words }

-- the tag of an item, and its body's words
abbrev pub tag_of : Item → ℕ
tag_of item = packed item.sender item.number item.body

abbrev pub body_words : Item → BodyWords
body_words item = words_in item.body

-- an item on its way
abbrev pub parcel : ℕ → ℕ → BodyWords → Parcel
parcel place tag body = record { place = place; tag = tag; body = body }

-- of which one word more was read
abbrev pub with_read : Parcel → ℕ → ℕ → Parcel
with_read p index value = record p { body = with_word p.body index value }

abbrev pub item_in : Parcel → Item
item_in p = item_of p.place p.tag p.body

-- a request of which one word more was read
abbrev pub with_asked : Request → ℕ → ℕ → Request
with_asked request index value = record request { body = with_word request.body index value }

-- what a call of a sender asks for: the tag of a close is 0
abbrev pub request_of : Pass → Call → ℕ → Request
request_of (Pass.Sender s) (Call.Send body) number = record { tag = packed s number body; body = words_in body }
request_of _ _ number = record { tag = 0; body = no_words }

-- the request of a call in the history
abbrev pub request_in : Entry → Request
request_in e = request_of e.pass e.call e.number

-- an answer word: which answer, and its number
abbrev pub coded : ℕ → ℕ → ℕ
coded code value = code * 2 ^ 56 + value

-- which answer an answer word is
abbrev pub code_of : ℕ → ℕ
code_of ret = ret / 2 ^ 56

-- and its number
abbrev pub value_of : ℕ → ℕ
value_of ret = ret % 2 ^ 56

-- an answer of the list as a word
abbrev pub list_word : Answer → ℕ
list_word (Answer.Send (SendAnswer.Accepted place)) = coded 1 place
list_word (Answer.Send SendAnswer.Full) = coded 2 0
list_word (Answer.Send SendAnswer.Closed) = coded 3 0
list_word (Answer.Send SendAnswer.Spent) = coded 4 0
list_word (Answer.Close (CloseAnswer.Shut total)) = coded 5 total
list_word (Answer.Close (CloseAnswer.Already total)) = coded 6 total
list_word (Answer.Take (TakeAnswer.Got item)) = coded 1 item.place
list_word (Answer.Take TakeAnswer.Empty) = coded 2 0
list_word (Answer.Take (TakeAnswer.Ended total)) = coded 3 total

-- the counter's answer is the number that it held, and is in the history that of a send accepted at this place
abbrev pub count_word : Answer → ℕ
count_word (Answer.Send (SendAnswer.Accepted place)) = place
count_word _ = 0

-- what a combiner writes for an answer
abbrev pub ret_of : Served → Answer → ℕ
ret_of Served.Counter told = count_word told
ret_of Served.List told = list_word told

-- what a sender reads in an answer word of the list
abbrev pub list_reads : ℕ → Answer
list_reads ret =
    if code_of ret == 1 then Answer.Send (SendAnswer.Accepted (value_of ret))
    else if code_of ret == 2 then Answer.Send SendAnswer.Full
    else if code_of ret == 3 then Answer.Send SendAnswer.Closed
    else if code_of ret == 4 then Answer.Send SendAnswer.Spent
    else if code_of ret == 5 then Answer.Close (CloseAnswer.Shut (value_of ret))
    else Answer.Close (CloseAnswer.Already (value_of ret))

-- and in one of what is served
abbrev pub sender_reads : Served → ℕ → Answer
sender_reads Served.Counter ret = Answer.Send (SendAnswer.Accepted ret)
sender_reads Served.List ret = list_reads ret
