-- The receipts of a history.
use Rattle.std.specs.Prelude.{ℕ, ◌<◌, List, [], ◌∷◌, ◌++◌, map, Option, Some, None}
use Rattle.cc_model.specs.Record.{Record, of_group}
use Rattle.cc_model.specs.Items.{accepted}
use Rattle.cc_model.specs.Legal.{Legal}
use Rattle.cc_audit.specs.Names.{Config, Pass, Item, Entry, Answer, CloseAnswer, TakeAnswer, SendReceipt, TakeReceipt, Verdict}
use Rattle.cc_audit.specs.Verdict.{IsVerdict}

-- the receipt of the send that an item comes from
abbrev pub send_receipt : Item → SendReceipt
send_receipt x = record { sender = x.sender; number = x.number; place = x.place; body = x.body }

-- one receipt for each send that returned Accepted
abbrev pub sends_of : Record → List SendReceipt
sends_of h = map send_receipt (accepted h)

-- the receipt of a take that returned Got
abbrev pub take_receipt : Pass → Answer → List TakeReceipt
take_receipt (Pass.Receiver r) (Answer.Take (TakeAnswer.Got item)) = record { receiver = r; item = item } ∷ []
take_receipt _ _ = []

abbrev pub takes_by : List Entry → List Answer → List TakeReceipt
takes_by [] answers = []
takes_by (c ∷ calls) [] = []
takes_by (c ∷ calls) (a ∷ answers) = take_receipt c.pass a ++ takes_by calls answers

-- one receipt for each take of a group that returned Got
abbrev pub takes_of : Record → (group : ℕ) → List TakeReceipt
takes_of h g = takes_by (of_group h g).calls (of_group h g).answers

abbrev pub total_by : List Answer → Option ℕ
total_by [] = None
total_by (Answer.Close (CloseAnswer.Shut total) ∷ answers) = Some total
total_by (_ ∷ answers) = total_by answers

-- the total of the first close that returned Shut
abbrev pub total_of : Record → Option ℕ
total_of h = total_by h.sends.answers

-- the law: the receipts of a legal history are clean, those of the takes of each group
abbrev pub LegalGivesClean : Type 0
LegalGivesClean = (cfg : Config) (h : Record) (g : ℕ) → g < cfg.groups → Legal cfg h → IsVerdict (sends_of h) (takes_of h g) (total_of h) Verdict.Clean
