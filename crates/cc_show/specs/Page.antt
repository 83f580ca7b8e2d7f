-- The text of a page.
use Rattle.std.specs.Prelude.{ℕ, ◌++◌, List, codes}
use Rattle.cc_model.specs.Body.{words_of}
use Rattle.cc_io.specs.Written.{word_text}
use Rattle.cc_plan.specs.Plan.{PlanValue}
use Rattle.cc_report.specs.Report.{texts, words_text}
use Rattle.cc_show.specs.Names.{Call, ShownEvent, Kind}
use Rattle.cc_show.specs.declared.page.TheConstants.{FRONT, MIDDLE, BACK}

-- the number of a kind
abbrev pub kind_number : Kind → ℕ
kind_number Kind.ResetState = 1
kind_number Kind.Exchange = 2
kind_number Kind.ReadState = 3
kind_number Kind.HandOver = 4
kind_number Kind.ReadObject = 5
kind_number Kind.WriteObject = 6
kind_number Kind.ResetNext = 7
kind_number Kind.WriteRequest = 8
kind_number Kind.Link = 9
kind_number Kind.ReadNext = 10
kind_number Kind.ReadRequest = 11
kind_number Kind.WriteAnswer = 12
kind_number Kind.MarkDone = 13
kind_number Kind.ReadAnswer = 14
kind_number Kind.ReadPassed = 15
kind_number Kind.ResetListNode = 16
kind_number Kind.WriteItem = 17
kind_number Kind.LinkLast = 18
kind_number Kind.ReadDummyNext = 19
kind_number Kind.ReadItem = 20
kind_number Kind.AddPassed = 21

-- an event: the row of its pass, and its kind
unfoldable pub event_text : ShownEvent → List ℕ
event_text e = word_text (codes " ") e.row ++ word_text (codes " ") (kind_number e.kind)

abbrev pub events_text : List ShownEvent → List ℕ
events_text events = texts (λ i e. event_text e) 0 events

-- a send with the words of its body, a close, or a take
unfoldable pub call_text : Call → List ℕ
call_text (Call.Send body) = codes " s" ++ words_text (words_of body)
call_text Call.Close = codes " c"
call_text Call.Take = codes " t"

abbrev pub calls_text : List Call → List ℕ
calls_text calls = texts (λ i call. call_text call) 0 calls

-- a line for the calls of each sender
abbrev pub senders_text : List (List Call) → List ℕ
senders_text senders = texts (λ i calls. calls_text calls ++ codes "\n") 0 senders

-- the line of the version and the configuration
unfoldable pub config_text : PlanValue → List ℕ
config_text p = word_text (codes " ") p.version ++ word_text (codes " ") p.config.capacity ++ word_text (codes " ") p.config.bound ++ word_text (codes " ") p.config.life
    ++ word_text (codes " ") p.config.groups ++ word_text (codes " ") p.config.senders ++ word_text (codes " ") p.config.receivers ++ codes "\n"

-- the configuration, the calls of the senders, how often each receiver takes, and the events
unfoldable pub run_text : PlanValue → List ShownEvent → List ℕ
run_text p events = config_text p ++ senders_text p.senders ++ words_text p.receivers ++ codes "\n" ++ events_text events ++ codes "\n"

-- the text before the report
unfoldable pub front_text : PlanValue → List ShownEvent → List ℕ
front_text p events = FRONT.now ++ run_text p events ++ MIDDLE.now

-- up to the end of the report
unfoldable pub told_text : PlanValue → List ShownEvent → (report : List ℕ) → List ℕ
told_text p events report = front_text p events ++ report

-- the page of a plan with these events, and a report
unfoldable pub page_text : PlanValue → List ShownEvent → (report : List ℕ) → List ℕ
page_text p events report = told_text p events report ++ BACK.now
