-- The laws of every run of a machine; but for the last law, of one whose chains serve the list.
use Rattle.std.specs.Prelude.{◌≡◌, ◌⊎◌, ℕ, zero, suc, ◌+◌, ◌<◌, ◌≤◌, ◌==◌, if◌then◌else◌, List, [], ◌∷◌, ◌++◌, length, Some, Ok}
use Rattle.std.specs.List.{AllByRecursion, slice_get}
use Rattle.cc_model.specs.Config.{config_fault}
use Rattle.cc_model.specs.Record.{Record}
use Rattle.cc_model.specs.Items.{Begins, accepted, handed_to_all}
use Rattle.cc_model.specs.Legal.{Legal}
use Rattle.cc_model.specs.Fifo.{Fifo}
use Rattle.cc_runs.specs.Names.{Config, Answer, SendAnswer, CloseAnswer, TakeAnswer, Setting, Served, ItemField, Object, Word, Phase, Sending, Taking, Chain, Move}
use Rattle.cc_runs.specs.Words.{groups}
use Rattle.cc_runs.specs.State.{State, chain_of, pass_at}
use Rattle.cc_runs.specs.Lines.{group_of}
use Rattle.cc_runs.specs.OnChain.{IsTellable, answers_on}
use Rattle.cc_runs.specs.Ready.{IsReady}
use Rattle.cc_runs.specs.ChainLaws.{IsLastAnswer}
use Rattle.cc_runs.specs.Run.{passes, reached, history_of, IsRun}

-- of every run of such a machine, whose configuration was checked
abbrev pub AfterEveryRun : (Setting → List Move → Type 0) → Type 0
AfterEveryRun P = (c : Setting) (moves : List Move) → c.served ≡ Served.List → config_fault c.config ≡ Ok tt → IsRun c moves → P c moves

-- ---- the history

-- its answers are legal
abbrev pub HistoryIsLegal : Type 0
HistoryIsLegal = AfterEveryRun (λ c moves. Legal c.config (history_of c moves))

-- and so items are handed out in the order in which they were accepted
abbrev pub HistoryIsFifo : Type 0
HistoryIsFifo = AfterEveryRun (λ c moves. Fifo (history_of c moves))

-- ---- busy nodes

-- a list node is busy until every group has passed it
abbrev pub is_busy : Config → (Word → ℕ) → ℕ → ℕ
is_busy c mem i = if mem (Word.Item i ItemField.Passed) == groups c then 0 else 1

-- how many of the first nodes are busy
abbrev pub busy_below : Config → (Word → ℕ) → ℕ → ℕ
busy_below c mem zero = 0
busy_below c mem (suc n) = is_busy c mem n + busy_below c mem n

-- a send's service prepares a node, from the reset of its count of groups up to its link
abbrev pub IsPreparing : Sending → ℕ → Type 0
IsPreparing (Sending.ResetItemNext parcel at) x = at ≡ x
IsPreparing (Sending.WriteItemTag parcel at) x = at ≡ x
IsPreparing (Sending.WriteItemBody parcel at i) x = at ≡ x
IsPreparing (Sending.ReadLast count at) x = at ≡ x
IsPreparing (Sending.LinkItem count at last) x = at ≡ x
IsPreparing _ x = ⊥

-- a pass in this phase does
abbrev pub Prepares : Phase → ℕ → Type 0
Prepares (Phase.Sending job service) x = IsPreparing service x
Prepares _ x = ⊥

-- outside the preparation of a node the items that wait have a busy node each, and the dummy is one more
abbrev pub BusyNodesAreItems : Type 0
BusyNodesAreItems = AfterEveryRun (λ c moves. let s : State = reached c moves in
    ((p x : ℕ) → Prepares (s.stand p).phase x → ⊥)
    → busy_below c.config s.mem (c.config.capacity + 1) + handed_to_all s.history ≡ length (accepted s.history) + 1)

-- and in it the node that is prepared is one more
abbrev pub PreparedNodeIsBusy : Type 0
PreparedNodeIsBusy = AfterEveryRun (λ c moves. let s : State = reached c moves in
    (p x : ℕ) → Prepares (s.stand p).phase x
    → busy_below c.config s.mem (c.config.capacity + 1) + handed_to_all s.history ≡ length (accepted s.history) + 2)

-- ---- reuse of list nodes

-- the node that a step links into the list
abbrev pub links : Sending → List ℕ
links (Sending.LinkItem count at last) = at ∷ []
links _ = []

-- and a step of a pass in this phase
abbrev pub links_at : Phase → List ℕ
links_at (Phase.Sending job service) = links service
links_at _ = []

-- the nodes of the list in order, the first dummy and then the node of each accepted item
abbrev pub linked_nodes : Setting → List Move → List ℕ
linked_nodes c [] = 0 ∷ []
linked_nodes c (Move.Step p ∷ earlier) = linked_nodes c earlier ++ links_at ((reached c earlier).stand p).phase
linked_nodes c (Move.Begin p call known ∷ earlier) = linked_nodes c earlier
linked_nodes c (Move.Take p ∷ earlier) = linked_nodes c earlier

-- the node that is reset now: its count of groups, or its link
abbrev pub Resets : Phase → ℕ → Type 0
Resets (Phase.Sending job (Sending.ResetPassed parcel at)) x = at ≡ x
Resets (Phase.Sending job (Sending.ResetItemNext parcel at)) x = at ≡ x
Resets _ x = ⊥

-- A node that was in the list is reset only after the take that went past it was decided: the take with number k goes
-- from the node at place k to the next one.
abbrev pub ResetAfterTheTake : Type 0
ResetAfterTheTake = AfterEveryRun (λ c moves. let s : State = reached c moves in
    (p x k : ℕ) → Resets (s.stand p).phase x → slice_get (linked_nodes c moves) k ≡ Some x → k < handed_to_all s.history)

-- a take's service holds the dummy for steps to come, and the node after it once its link was read
abbrev pub Holds : Taking → ℕ → Type 0
Holds Taking.ReadHead x = ⊥
Holds (Taking.ReadTaken dummy) x = dummy ≡ x
Holds (Taking.ReadDummyNext dummy taken) x = dummy ≡ x
Holds (Taking.ReadItemTag dummy taken at) x = (dummy ≡ x) ⊎ (at ≡ x)
Holds (Taking.ReadItemBody dummy at p i) x = (dummy ≡ x) ⊎ (at ≡ x)
Holds (Taking.WriteHead dummy at parcel) x = (dummy ≡ x) ⊎ (at ≡ x)
Holds (Taking.WriteTaken dummy parcel) x = dummy ≡ x
Holds (Taking.AddPassed dummy parcel) x = dummy ≡ x

-- a pass in this phase does
abbrev pub HoldsAt : Phase → ℕ → Type 0
HoldsAt (Phase.Taking job service) x = Holds service x
HoldsAt _ x = ⊥

-- from its reset up to its link no take holds a node
abbrev pub PreparedAlone : Type 0
PreparedAlone = AfterEveryRun (λ c moves. let s : State = reached c moves in (p q x : ℕ) → Prepares (s.stand p).phase x → HoldsAt (s.stand q).phase x → ⊥)

-- ---- links and numbers

-- the link of an ordinary list node
abbrev pub NamesNode : Config → ℕ → Type 0
NamesNode c link = (1 ≤ link) × (link ≤ c.capacity + 1)

-- A step of a service finds: `last` and `head` name ordinary nodes, and the dummy's next is null or names a node, or the
-- closing mark. The scan starts at an ordinary node, and from there on up to the last word of its send the node that is
-- looked at, or was found, is an ordinary one.
abbrev pub FindsNode : Config → State → Chain → Phase → Type 0
FindsNode c s x (Phase.Sending job (Sending.ReadLastToClose total)) = NamesNode c (s.mem (Word.Object Object.Last))
FindsNode c s x (Phase.Sending job (Sending.ReadCursor parcel)) = s.mem (Word.Object Object.Cursor) ≤ c.capacity
FindsNode c s x (Phase.Sending job (Sending.ReadPassed parcel at reads)) = at ≤ c.capacity
FindsNode c s x (Phase.Sending job (Sending.ResetPassed parcel at)) = at ≤ c.capacity
FindsNode c s x (Phase.Sending job (Sending.ResetItemNext parcel at)) = at ≤ c.capacity
FindsNode c s x (Phase.Sending job (Sending.WriteItemTag parcel at)) = at ≤ c.capacity
FindsNode c s x (Phase.Sending job (Sending.WriteItemBody parcel at i)) = at ≤ c.capacity
FindsNode c s x (Phase.Sending job (Sending.ReadLast count at)) = NamesNode c (s.mem (Word.Object Object.Last)) × (at ≤ c.capacity)
FindsNode c s x (Phase.Sending job (Sending.LinkItem count at last)) = at ≤ c.capacity
FindsNode c s x (Phase.Sending job (Sending.WriteLast count at)) = at ≤ c.capacity
FindsNode c s x (Phase.Sending job (Sending.WriteCount count at)) = at ≤ c.capacity
FindsNode c s x (Phase.Sending job (Sending.WriteCursor count at)) = at ≤ c.capacity
FindsNode c s x (Phase.Taking job Taking.ReadHead) = NamesNode c (s.mem (Word.Object (Object.Head (group_of x))))
FindsNode c s x (Phase.Taking job (Taking.ReadDummyNext dummy taken)) = s.mem (Word.Item dummy ItemField.Next) ≤ c.capacity + 2
FindsNode c s x _ = Unit {0}

-- each link that is read is one, and a scan reads ordinary nodes alone
abbrev pub LinksNameNodes : Type 0
LinksNameNodes = AfterEveryRun (λ c moves. (p : ℕ) → FindsNode c.config (reached c moves) (chain_of c.config p) ((reached c moves).stand p).phase)

-- a scan in this phase has read this many nodes, with the next one
abbrev pub scan_reads : Phase → ℕ
scan_reads (Phase.Sending job (Sending.ReadPassed parcel at reads)) = reads
scan_reads _ = 0

-- a scan reads at most as many nodes as there are ordinary ones
abbrev pub ScansAreShort : Type 0
ScansAreShort = AfterEveryRun (λ c moves. (p : ℕ) → scan_reads ((reached c moves).stand p).phase ≤ c.config.capacity + 1)

-- a place is below this number, and a count of items at most so great
abbrev pub AnswerWithin : ℕ → Answer → Type 0
AnswerWithin most (Answer.Send (SendAnswer.Accepted at)) = at < most
AnswerWithin most (Answer.Close (CloseAnswer.Shut total)) = total ≤ most
AnswerWithin most (Answer.Close (CloseAnswer.Already total)) = total ≤ most
AnswerWithin most (Answer.Take (TakeAnswer.Got item)) = (item.place < most) × IsTellable item
AnswerWithin most (Answer.Take (TakeAnswer.Ended total)) = total ≤ most
AnswerWithin most _ = Unit {0}

-- at most `life` items are accepted; each place in an answer is below that, each total at most that, and each send's number
-- below 2^32
pub record IsWithin (c : Config) (h : Record) : Type 0 where
  pub life : length (accepted h) ≤ c.life
  pub answers : (x : Chain) → AllByRecursion (AnswerWithin c.life) (answers_on x h)

-- of every history
abbrev pub NumbersStayWithin : Type 0
NumbersStayWithin = AfterEveryRun (λ c moves. IsWithin c.config (history_of c moves))

-- ---- steps

-- each step finds its words, no number leaves its range, and an answer is decided of a call that has none
abbrev pub StepsAreReady : Type 0
StepsAreReady = AfterEveryRun (λ c moves. (p : ℕ) → p < passes c → IsReady c (reached c moves) p)

-- ---- answers

-- what a call has read as its answer is the answer of its pass's last call in the history
abbrev pub AnswersAreTold : Type 0
AnswersAreTold = AfterEveryRun (λ c moves. (p : ℕ) (told : Answer) → p < passes c → ((reached c moves).stand p).phase ≡ Phase.Finished told → IsLastAnswer (pass_at c.config p) (history_of c moves) told)

-- ---- prefixes of runs, whatever is served

-- a prefix of a run is a run, and its history begins the later one
abbrev pub PrefixesBegin : Type 0
PrefixesBegin = (c : Setting) (later earlier : List Move) → IsRun c (later ++ earlier) → IsRun c earlier × Begins (history_of c earlier) (history_of c (later ++ earlier))
