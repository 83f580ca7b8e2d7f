-- The text of a trace: the events of a run as lines of JSON.
use Rattle.std.specs.Prelude.{ℕ, ◌+◌, ◌++◌, List, codes}
use Rattle.cc_io.specs.Written.{word_text}
use Rattle.cc_report.specs.Report.{texts, pass_text}
use Rattle.cc_show.specs.Names.{Chain, ShownEvent, ItemField, Kind, NodeField, Object, Word}

-- the name of a kind
abbrev pub kind_name : Kind → List ℕ
kind_name Kind.ResetState = codes "ResetState"
kind_name Kind.Exchange = codes "Exchange"
kind_name Kind.ReadState = codes "ReadState"
kind_name Kind.HandOver = codes "HandOver"
kind_name Kind.ReadObject = codes "ReadObject"
kind_name Kind.WriteObject = codes "WriteObject"
kind_name Kind.ResetNext = codes "ResetNext"
kind_name Kind.WriteRequest = codes "WriteRequest"
kind_name Kind.Link = codes "Link"
kind_name Kind.ReadNext = codes "ReadNext"
kind_name Kind.ReadRequest = codes "ReadRequest"
kind_name Kind.WriteAnswer = codes "WriteAnswer"
kind_name Kind.MarkDone = codes "MarkDone"
kind_name Kind.ReadAnswer = codes "ReadAnswer"
kind_name Kind.ReadPassed = codes "ReadPassed"
kind_name Kind.ResetListNode = codes "ResetListNode"
kind_name Kind.WriteItem = codes "WriteItem"
kind_name Kind.LinkLast = codes "LinkLast"
kind_name Kind.ReadDummyNext = codes "ReadDummyNext"
kind_name Kind.ReadItem = codes "ReadItem"
kind_name Kind.AddPassed = codes "AddPassed"

-- a chain: e is that of the senders, d with a number that of a group, from 1, as the lines of a report begin
unfoldable pub chain_text : Chain → List ℕ
chain_text Chain.Send = codes "e"
chain_text (Chain.Take g) = word_text (codes "d") (g + 1)

-- a word of the list as a whole, or of a group's end of it
unfoldable pub object_text : Object → List ℕ
object_text Object.Last = codes "list.last"
object_text Object.Shut = codes "list.shut"
object_text Object.Count = codes "list.count"
object_text Object.Cursor = codes "list.cursor"
object_text (Object.Head g) = chain_text (Chain.Take g) ++ codes ".head"
object_text (Object.Taken g) = chain_text (Chain.Take g) ++ codes ".taken"

-- a word of a node, with the number of a word of a body, from 0
unfoldable pub node_field_text : NodeField → List ℕ
node_field_text NodeField.Next = codes ".next"
node_field_text NodeField.State = codes ".state"
node_field_text NodeField.Tag = codes ".tag"
node_field_text (NodeField.Body i) = word_text (codes ".body") i
node_field_text NodeField.Ret = codes ".ret"

-- the same of a list node
unfoldable pub item_field_text : ItemField → List ℕ
item_field_text ItemField.Tag = codes "list.tag"
item_field_text (ItemField.Body i) = word_text (codes "list.body") i
item_field_text ItemField.Next = codes "list.next"
item_field_text ItemField.Passed = codes "list.passed"

-- the name of a word: that of a node ends with the node's number
unfoldable pub word_name : Word → List ℕ
word_name (Word.Tail x) = chain_text x ++ codes ".tail"
word_name (Word.Object object) = object_text object
word_name (Word.Node x node field) = chain_text x ++ node_field_text field ++ word_text (codes "[") node ++ codes "]"
word_name (Word.Item node field) = item_field_text field ++ word_text (codes "[") node ++ codes "]"

-- the line of an event of this number
unfoldable pub line_text : ℕ → ShownEvent → List ℕ
line_text number e =
    word_text (codes "{\"event\":") number ++ codes ",\"pass\":\"" ++ pass_text e.pass ++ codes "\",\"kind\":\"" ++ kind_name e.kind
    ++ codes "\",\"word\":\"" ++ word_name e.word ++ word_text (codes "\",\"before\":") e.before ++ word_text (codes ",\"after\":") e.after
    ++ word_text (codes ",\"call\":") e.call ++ codes "}\n"

-- a line for each event, numbered from 1
abbrev pub trace_text : List ShownEvent → List ℕ
trace_text events = texts (λ i e. line_text (i + 1) e) 0 events
