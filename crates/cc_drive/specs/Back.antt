-- The passes that workers give back.
use Rattle.std.specs.Prelude.{ℕ, ◌≡◌, ◌+◌, ◌<◌, ◌≤◌, ◌⊎◌, List, [], ◌∷◌, length, map, true, Option, Some, IfSome, IfNone, ⊤}
use Rattle.std.specs.List.{AllByRecursion}
use Rattle.cc_model.specs.Body.{body_of}
use Rattle.cc_model.specs.Items.{HasAnswer, calls_of}
use Rattle.cc_drive.specs.Names.{Body, Call, Entry, Answer, SendAnswer, TakeAnswer, SendReceipt, TakeReceipt, Point, Go, Worked}
use Rattle.cc_runs.specs.ChainLaws.{IsLastAnswer}
use Rattle.cc_steps.specs.Topic.{Topic}
use Rattle.cc_steps.specs.Walk.{Walk, IsOf}
use Rattle.cc_queue.specs.Calls.{Begun}
use Rattle.cc_queue.specs.Headline.{StandsInOne, name, history}
use Rattle.cc_queue.specs.Receipts.{receipts_in, sent, got}
use Rattle.cc_queue.specs.Work.{tally, reads}
use Rattle.cc_drive.specs.Work.{AskedForCalls, AskedAtLast}

-- the calls of a pass in the history that it has seen, each with its answer or pending
abbrev pub calls : Walk → List (Entry × Option Answer)
calls w = calls_of (name w) (history w)

-- The pass of this place in the row of all passes. All that it has seen is one history, in which each of its calls has its
-- answer.
pub record IsBack (z : Topic) (row : ℕ) (w : Walk) : Type 0 where
  pub here : IsOf z w
  pub at : w.number ≡ row
  pub stands : StandsInOne w [] w
  pub answered : AllByRecursion HasAnswer (calls w)

-- the body of this one word
abbrev pub one_word : ℕ → Body
one_word n = body_of (n ∷ [])

-- these bodies have one word each: this number, and then the numbers after it, in order
abbrev pub BodiesFrom : ℕ → List Body → Type 0
BodiesFrom n [] = ⊤
BodiesFrom n (b ∷ bs) = (b ≡ one_word n) × BodiesFrom (n + 1) bs

-- these calls are sends of the bodies from this number on, in order: of each one until it was accepted
abbrev pub SendsFrom : ℕ → List (Entry × Option Answer) → Type 0
SendsFrom n [] = ⊤
SendsFrom n (z ∷ zs) = (z.0.call ≡ Call.Send (one_word n)) × SendsFrom (n + length (sent z)) zs

-- the call's answer isn't Closed
abbrev pub IsNotClosed : Entry × Option Answer → Type 0
IsNotClosed (e, Some (Answer.Send SendAnswer.Closed)) = ⊥
IsNotClosed _ = ⊤

-- A sender whose calls are sends of the bodies 1, 2 and so on, as its receipts have them: all items that it had to send were
-- accepted.
pub record SenderIsBack (z : Topic) (items row : ℕ) (w : Walk) : Type 0 where
  pub back : IsBack z row w
  pub sends : SendsFrom 1 (calls w)
  pub bodies : BodiesFrom 1 (map (λ r. r.body) (receipts_in sent (calls w)))
  pub all : length (receipts_in sent (calls w)) ≡ items

-- A sender that came to a limit before all its items were accepted. It began the send of the next body, and no turn was left;
-- or it was exhausted.
pub record SenderStopped (z : Topic) (items limit row made : ℕ) : Type 0 where
  pub pass : Walk
  pub back : IsBack z row pass
  pub sends : SendsFrom 1 (calls pass)
  pub short : length (receipts_in sent (calls pass)) < items
  pub why : ((made ≡ limit) × ((begun : Walk) × Begun pass (Call.Send (one_word (length (receipts_in sent (calls pass)) + 1))) begun)) ⊎ (z.setting.config.per_sender ≤ pass.stand.begun)

-- A receiver whose last take was answered that the queue has ended.
pub record ReceiverIsBack (z : Topic) (row : ℕ) (w : Walk) : Type 0 where
  pub back : IsBack z row w
  pub total : ℕ
  pub ended : IsLastAnswer (name w) (history w) (Answer.Take (TakeAnswer.Ended total))

-- A receiver that came to its limit on turns.
pub record ReceiverStopped (z : Topic) (limit row made : ℕ) : Type 0 where
  pub pass : Walk
  pub back : IsBack z row pass
  pub all_made : made ≡ limit

-- The result of the thread of a sender: the pass, with the receipts of its calls if there was memory for each of them; or
-- none, if it came to a limit.
abbrev pub SenderGave : Topic → (items limit row : ℕ) → Worked Walk SendReceipt → Type 0
SenderGave z items limit row d =
    IfSome d.pass (SenderIsBack z items row) × IfSome d.pass (λ w. d.kept.is_whole ≡ true → d.kept.receipts.items ≡ receipts_in sent (calls w))
    × IfNone d.pass (SenderStopped z items limit row d.made) × (d.made ≤ limit) × (d.row ≡ row)

-- and that of a receiver
abbrev pub ReceiverGave : Topic → (limit row : ℕ) → Worked Walk TakeReceipt → Type 0
ReceiverGave z limit row d =
    IfSome d.pass (ReceiverIsBack z row) × IfSome d.pass (λ w. d.kept.is_whole ≡ true → d.kept.receipts.items ≡ receipts_in got (calls w))
    × IfNone d.pass (ReceiverStopped z limit row d.made) × (d.made ≤ limit) × (d.row ≡ row)

-- A gate was asked for each call of this pass. Each turn that was made was a read of a state by the pass, or one answer of the
-- gate that held it up.
abbrev pub MadeByGate : {G : Type 0} → (G → Point → Go → G → Type 0) → (begun answered : Point) → (made : ℕ) → Walk → G → G → Type 0
MadeByGate tells begun answered made w g h = (held : ℕ) × AskedForCalls tells begun answered (length (calls w)) held g h × (made ≡ tally reads w.did + held)

-- So it was until these turns were made, and then for a call that came to the limit, or for none. The pass was given up after
-- that.
abbrev pub LeftByGate : {G : Type 0} → (G → Point → Go → G → Type 0) → (begun answered : Point) → (made : ℕ) → Walk → Option Walk → G → G → Type 0
LeftByGate {G} tells begun answered made w left first h = (g : G) × (held : ℕ) × (last : ℕ) × AskedForCalls tells begun answered (length (calls w)) held first g × AskedAtLast tells begun answered last g h
    × ((x : Walk) × (left ≡ Some x) × (made ≡ tally reads x.did + held + last))

-- The gate of a sender's worker was asked for each of its calls. If it came to a limit, the gate was also asked for the send
-- that it then began, if it began one.
abbrev pub SendsByGate : {G : Type 0} → (G → Point → Go → G → Type 0) → G → Topic → (items limit row : ℕ) → Worked Walk SendReceipt → Type 0
SendsByGate {G} tells gate z items limit row d =
    IfSome d.pass (λ w. (h : G) × MadeByGate tells Point.SendBegun Point.SendAnswered d.made w gate h)
    × IfNone d.pass ((s : SenderStopped z items limit row d.made) × (h : G) × LeftByGate tells Point.SendBegun Point.SendAnswered d.made s.pass d.left gate h)

-- and that of a receiver's
abbrev pub TakesByGate : {G : Type 0} → (G → Point → Go → G → Type 0) → G → Topic → (limit row : ℕ) → Worked Walk TakeReceipt → Type 0
TakesByGate {G} tells gate z limit row d =
    IfSome d.pass (λ w. (h : G) × MadeByGate tells Point.TakeBegun Point.TakeAnswered d.made w gate h)
    × IfNone d.pass ((s : ReceiverStopped z limit row d.made) × (h : G) × LeftByGate tells Point.TakeBegun Point.TakeAnswered d.made s.pass d.left gate h)
