-- The text of a report.
use Rattle.std.specs.Prelude.{ℕ, ◌+◌, ◌==◌, List, [], ◌∷◌, ◌++◌, codes, if◌then◌else◌, Option, Some, None}
use Rattle.std.specs.List.{slice_get}
use Rattle.cc_model.specs.Body.{words_of}
use Rattle.cc_model.specs.Record.{Side, Record}
use Rattle.cc_report.specs.Names.{Pass, Call, Item, Entry, Answer, SendAnswer, CloseAnswer, TakeAnswer, Verdict, Caller}
use Rattle.cc_io.specs.Written.{word_text}

-- the texts of a list's elements, one after another, each by its place, from n
abbrev pub texts : {A : Type 0} → (ℕ → A → List ℕ) → ℕ → List A → List ℕ
texts text n [] = []
texts text n (x ∷ xs) = text n x ++ texts text (n + 1) xs

unfoldable pub pass_text : Pass → List ℕ
pass_text (Pass.Sender s) = word_text (codes "s") s
pass_text (Pass.Receiver r) = word_text (codes "r") r

-- the words of a body, each after a space
abbrev pub words_text : List ℕ → List ℕ
words_text words = texts (λ i word. word_text (codes " ") word) 0 words

unfoldable pub call_text : Call → List ℕ
call_text (Call.Send body) = codes "send" ++ words_text (words_of body)
call_text Call.Close = codes "close"
call_text Call.Take = codes "take"

unfoldable pub item_text : Item → List ℕ
item_text x = word_text (codes "got ") x.place ++ word_text (codes " s") x.sender ++ word_text (codes " ") x.number ++ words_text (words_of x.body)

unfoldable pub answer_text : Option Answer → List ℕ
answer_text None = codes "pending"
answer_text (Some (Answer.Send (SendAnswer.Accepted place))) = word_text (codes "accepted ") place
answer_text (Some (Answer.Send SendAnswer.Full)) = codes "full"
answer_text (Some (Answer.Send SendAnswer.Closed)) = codes "closed"
answer_text (Some (Answer.Send SendAnswer.Spent)) = codes "spent"
answer_text (Some (Answer.Close (CloseAnswer.Shut total))) = word_text (codes "shut ") total
answer_text (Some (Answer.Close (CloseAnswer.Already total))) = word_text (codes "already ") total
answer_text (Some (Answer.Take (TakeAnswer.Got x))) = item_text x
answer_text (Some (Answer.Take TakeAnswer.Empty)) = codes "empty"
answer_text (Some (Answer.Take (TakeAnswer.Ended total))) = word_text (codes "ended ") total

-- the caller, at the beginning of a line
unfoldable pub caller_text : Caller → List ℕ
caller_text Caller.Sender = codes "E"
caller_text Caller.Receiver = codes "D"
caller_text (Caller.ReceiverOf group) = word_text (codes "D ") group

-- the caller in the lines of a group, from 0: version 2 names the group, from 1
abbrev pub caller_in : (version group : ℕ) → Caller
caller_in version group = if version == 2 then Caller.ReceiverOf (group + 1) else Caller.Receiver

-- a call with its place in its list
unfoldable pub line_text : Caller → ℕ → Entry → Option Answer → List ℕ
line_text who place c a = caller_text who ++ word_text (codes " ") place ++ codes " " ++ pass_text c.pass ++ codes " " ++ call_text c.call ++ codes " -> " ++ answer_text a ++ codes "\n"

-- a line for each call, numbered from 0
abbrev pub lines_text : Caller → Side → List ℕ
lines_text who side = texts (λ place c. line_text who place c (slice_get side.answers place)) 0 side.calls

-- the lines of one group after another
abbrev pub groups_text : (version : ℕ) → List Side → List ℕ
groups_text version groups = texts (λ group side. lines_text (caller_in version group) side) 0 groups

unfoldable pub verdict_text : Verdict → List ℕ
verdict_text Verdict.Clean = codes "audit clean\n"
verdict_text (Verdict.Fault kind place) = word_text (codes "audit fault ") kind ++ word_text (codes " place ") place ++ codes "\n"

-- the lines of the senders' calls, those of the receivers' calls group by group, and the verdict
unfoldable pub report_text : (version : ℕ) → Record → Verdict → List ℕ
report_text version h v = lines_text Caller.Sender h.sends ++ groups_text version h.takes ++ verdict_text v
