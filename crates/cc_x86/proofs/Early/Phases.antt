-- What a pass does at its phase: which words it touches, where it goes, and which of its words it has posted there.
use Rattle.std.proofs.Common.{◌≡◌, ◌⊎◌, ℕ, Bool, cond, arith}
use Rattle.cc_x86.specs.Names.{Job, Chain, Stand, Phase, Sending, Taking}
use Rattle.cc_runs.specs.State.{Operation, Load, Store, Swap}
use Rattle.cc_runs.specs.MachineLaws.{Prepares}
use Rattle.cc_runs.specs.ChainLaws.{IsCombining}
use Rattle.cc_runs.specs.NodeLaws.{IsAsking, IsAnswering, IsSending}

-- ---- kinds of operations, chains and phases

abbrev pub IsStore : Operation → Type 0
IsStore (Store w v) = Unit {0}
IsStore _ = ⊥

abbrev pub IsLoad : Operation → Type 0
IsLoad (Load w) = Unit {0}
IsLoad _ = ⊥

abbrev pub IsSwap : Operation → Type 0
IsSwap (Swap w v) = Unit {0}
IsSwap _ = ⊥

pub store_no_load : (o : Operation) → IsStore o → IsLoad o → ⊥
store_no_load o st l = grind arith

pub load_no_swap : (o : Operation) → IsLoad o → IsSwap o → ⊥
load_no_swap o l s = grind arith

pub store_no_swap : (o : Operation) → IsStore o → IsSwap o → ⊥
store_no_swap o st s = grind arith

abbrev pub OfSenders : Chain → Type 0
OfSenders Chain.Send = Unit {0}
OfSenders (Chain.Take g) = ⊥

abbrev pub OfReceivers : Chain → Type 0
OfReceivers Chain.Send = ⊥
OfReceivers (Chain.Take g) = Unit {0}

pub not_both : (x : Chain) → OfSenders x → OfReceivers x → ⊥
not_both x a b = grind arith

abbrev pub IsHand : Phase → Type 0
IsHand (Phase.HandOver at) = Unit {0}
IsHand _ = ⊥

abbrev pub IsMark : Phase → Type 0
IsMark (Phase.MarkDone job) = Unit {0}
IsMark _ = ⊥

abbrev pub IsNext : Phase → Type 0
IsNext (Phase.ReadNext round) = Unit {0}
IsNext _ = ⊥

-- from the hand-over to the next call's first store
abbrev pub IsPast : Phase → Type 0
IsPast Phase.ReadAnswer = Unit {0}
IsPast (Phase.ReadAnswerTag at) = Unit {0}
IsPast (Phase.ReadAnswerBody p i) = Unit {0}
IsPast (Phase.Finished told) = Unit {0}
IsPast Phase.Idle = Unit {0}
IsPast (Phase.ResetNext call) = Unit {0}
IsPast _ = ⊥

-- its next look comes after a locked instruction: an exchange, an addition, or the mark of a send
abbrev pub IsShut : Chain → Phase → Type 0
IsShut x (Phase.ResetState call) = Unit {0}
IsShut x (Phase.Exchange call) = Unit {0}
IsShut x (Phase.Sending job (Sending.WriteLastMark total)) = OfSenders x
IsShut x (Phase.Sending job (Sending.WriteShut total)) = OfSenders x
IsShut x (Phase.Sending job (Sending.WriteLast place at)) = OfSenders x
IsShut x (Phase.Sending job (Sending.WriteCount place at)) = OfSenders x
IsShut x (Phase.Sending job (Sending.WriteCursor place at)) = OfSenders x
IsShut x (Phase.Taking job (Taking.WriteTaken dummy parcel)) = Unit {0}
IsShut x (Phase.Taking job (Taking.AddPassed dummy parcel)) = Unit {0}
IsShut x (Phase.WriteAnswer job told) = OfSenders x
IsShut x (Phase.WriteAnswerTag job item) = OfSenders x
IsShut x (Phase.WriteAnswerBody job item i) = OfSenders x
IsShut x (Phase.MarkDone job) = OfSenders x
IsShut x _ = ⊥

-- It combines. On the senders' chain it has marked nobody, or is in a later service: all before its last mark has settled.
abbrev pub IsOpen : Chain → Phase → Type 0
IsOpen x (Phase.ReadNext round) = (round.served ≡ 0) ⊎ OfReceivers x
IsOpen x (Phase.HandOver at) = OfReceivers x
IsOpen x (Phase.Counting job service) = Unit {0}
IsOpen x (Phase.Sending job service) = Unit {0}
IsOpen x (Phase.Taking job service) = Unit {0}
IsOpen x (Phase.WriteAnswer job told) = Unit {0}
IsOpen x (Phase.WriteAnswerTag job item) = Unit {0}
IsOpen x (Phase.WriteAnswerBody job item i) = Unit {0}
IsOpen x (Phase.MarkDone job) = Unit {0}
IsOpen x _ = ⊥

pub open_combines : (x : Chain) (at : Phase) → IsOpen x at → IsCombining at
open_combines x at a = grind arith

pub sending_combines : (at : Phase) → IsSending at → IsCombining at
sending_combines at a = grind arith

pub prepares_sending : (at : Phase) (i : ℕ) → Prepares at i → IsSending at
prepares_sending at i e = grind arith

pub past_asks : (at : Phase) → IsPast at → IsAsking at → ⊥
past_asks at a b = grind arith

pub past_combines : (at : Phase) → IsPast at → IsCombining at → ⊥
past_combines at a b = grind arith

pub past_shut : (x : Chain) (at : Phase) → IsPast at → IsShut x at → ⊥
past_shut x at a b = grind arith

pub asking_combines : (at : Phase) → IsAsking at → IsCombining at → ⊥
asking_combines at a b = grind arith

pub hand_or_not : (at : Phase) → ((i : ℕ) × (at ≡ Phase.HandOver i)) ⊎ (IsHand at → ⊥)
hand_or_not at = grind arith

pub mark_or_not : (at : Phase) → ((job : Job) × (at ≡ Phase.MarkDone job)) ⊎ (IsMark at → ⊥)
mark_or_not at = grind arith

pub asking_open : (x : Chain) (at : Phase) → IsAsking at → IsOpen x at → ⊥
asking_open x at a b = grind arith

pub asking_shut : (x : Chain) (at : Phase) → IsAsking at → IsShut x at → ⊥
asking_shut x at a b = grind arith

pub answering_combines : (at : Phase) (n : ℕ) → IsAnswering at n → IsCombining at
answering_combines at n a = grind arith

pub answering_one : (at : Phase) (n m : ℕ) → IsAnswering at n → IsAnswering at m → n ≡ m
answering_one at n m a b = grind arith

pub answering_asks : (at : Phase) (n : ℕ) → IsAnswering at n → IsAsking at → ⊥
answering_asks at n a b = grind arith

pub answering_prepares : (at : Phase) (n i : ℕ) → IsAnswering at n → Prepares at i → ⊥
answering_prepares at n i a b = grind arith

pub answering_shut : (x : Chain) (at : Phase) (n : ℕ) → OfReceivers x → IsAnswering at n → IsShut x at → ⊥
answering_shut x (Phase.WriteAnswer job told) n takes a b = not_both x b takes
answering_shut x (Phase.WriteAnswerTag job item) n takes a b = not_both x b takes
answering_shut x (Phase.WriteAnswerBody job item i) n takes a b = not_both x b takes
answering_shut x (Phase.MarkDone job) n takes a b = not_both x b takes
answering_shut x _ n takes a b = a

pub either_way : (P : Phase → Type 0) (b : Bool) (now then : Phase) → P now → P then → P (cond b now then)
either_way P b now then a d = grind arith

abbrev pub stand : ℕ → ℕ → Phase → Stand
stand begun own at = record { begun = begun; node = own; phase = at }
