-- The questions to a worker's gate, call after call.
use Rattle.std.proofs.Common.{◌≡◌, ℕ, suc, ◌+◌, ◌-◌, ◌<◌, ◌≤◌, Bool, List, inl, inr, [], ◌∷◌, length, Some, refl, sym, ap, ◌∙◌, subst, arith, length-append}
use Rattle.cc_drive.specs.Names.{Body, Call, Pass, Setting, Answer, SendAnswer, TakeAnswer, Point, Go, Turns, Left, Sent, SendReceipt, TakeReceipt}
use Rattle.std.specs.Prelude.{Ok, Err}
use Rattle.cc_steps.specs.Topic.{Topic}
use Rattle.cc_steps.specs.Walk.{Walk, fresh}
use Rattle.cc_queue.specs.Calls.{Begun, Completed}
use Rattle.cc_queue.specs.Headline.{entry_of}
use Rattle.cc_queue.specs.Met.{HasMet}
use Rattle.cc_queue.specs.Receipts.{got}
use Rattle.cc_queue.specs.Work.{tally, reads}
use Rattle.cc_drive.specs.Back.{IsBack, SenderStopped, ReceiverStopped, MadeByGate, LeftByGate, one_word, calls}
use Rattle.cc_drive.specs.Work.{AskedForCalls, CameBack, IsAskedInSend, IsAskedInTake, Stopped, WentOn, pass_left}
use Rattle.cc_drive.proofs.Workers.{Working, Sending, call_more, calls_fresh}
use Rattle.cc_drive.proofs.Told.{Told}

-- one call more
made_more : {G : Type 0} (tells : G → Point → Go → G → Type 0) (begun answered : Point) (first g h : G) (v p w : Walk) (call : Call) (told : Answer) (old new : Turns) → length (calls w) ≡ length (calls v) + 1 → Begun v call p → MadeByGate tells begun answered old.made v first g
    → CameBack tells begun answered p told old new w g h → MadeByGate tells begun answered new.made w first h
made_more tells begun answered first g h v p w call told old new one b was a =
    let next : suc (length (calls v)) ≡ length (calls w) = omega (arith, one) in
    let held : ℕ = was.0 + (a.entered.made - old.made) + (new.made - a.done.made) in (
      held,
      subst (λ (k : ℕ). AskedForCalls tells begun answered k held first h) next (g, a.gate, was.0, a.entered.made - old.made, new.made - a.done.made, refl, was.1, a.first, a.last),
      omega (arith, b.reads, was.2, a.enters.more, a.leaves.more, a.answer.read.reads),
    )

-- the call that came to the limit
left_by : {G : Type 0} (tells : G → Point → Go → G → Type 0) (begun answered : Point) (first g h : G) (v p x : Walk) (call : Call) (old new : Turns) (left : Left Walk Walk) → Begun v call p → MadeByGate tells begun answered old.made v first g → WentOn old new
    → Stopped tells (λ q. q) (λ s. s) begun answered p old new g h left → x ≡ pass_left left → LeftByGate tells begun answered new.made v (Some x) first h
left_by tells begun answered first g h v p x call old new (Left.Waiting q) b was on (inl a) same =
    let read : tally reads x.did ≡ tally reads p.did = ap (λ (y : Walk). tally reads y.did) (same ∙ a.1) in
    (g, was.0, new.made - old.made, was.1, inl a.0, (x, refl, omega (arith, b.reads, was.2, on.more, read)))
left_by tells begun answered first g h v p x call old new (Left.Waiting q) b was on (inr a) same =
    let read : tally reads x.did ≡ tally reads q.did = ap (λ (y : Walk). tally reads y.did) same in
    (g, was.0, a.entered.made - old.made + 0, was.1, inr (h, a.entered.made - old.made, 0, refl, a.first, refl), (x, refl, omega (arith, b.reads, was.2, a.enters.more, a.waited.read.reads, read)))
left_by tells begun answered first g h v p x call old new (Left.Answered d) b was on a same =
    let read : tally reads x.did ≡ tally reads d.did = ap (λ (y : Walk). tally reads y.did) same in (
      g,
      was.0,
      a.1.entered.made - old.made + (new.made - a.1.done.made),
      was.1,
      inr (a.1.gate, a.1.entered.made - old.made, new.made - a.1.done.made, refl, a.1.first, a.1.last),
      (x, refl, omega (arith, b.reads, was.2, a.1.enters.more, a.1.leaves.more, a.1.answer.read.reads, read)),
    )

-- or none did
left_between : {G : Type 0} (tells : G → Point → Go → G → Type 0) (begun answered : Point) (first g : G) (v x : Walk) (made : ℕ) → MadeByGate tells begun answered made v first g → x ≡ v → LeftByGate tells begun answered made v (Some x) first g
left_between tells begun answered first g v x made was same =
    let read : tally reads x.did ≡ tally reads v.did = ap (λ (y : Walk). tally reads y.did) same in
    (g, was.0, 0, was.1, inl refl, (x, refl, omega (arith, was.2, read)))

one_call : (z : Topic) (row : ℕ) (w x : Walk) (c : Call) (told : Answer) → IsBack z row w → Completed w c told x → length (calls x) ≡ length (calls w) + 1
one_call z row w x c told b k = ap length (call_more z row w x c told b k) ∙ length-append (calls w) ((entry_of w c, Some told) ∷ [])

-- a sender's calls
pub send_asked : {G : Type 0} (tells : G → Point → Go → G → Type 0) (z : Topic) (row : ℕ) (v w : Walk) (body : Body) (told : SendAnswer) (old new : Turns) (first g h : G) → IsBack z row v → Completed v (Call.Send body) (Answer.Send told) w
    → IsAskedInSend tells v body old new g h (Sent.Answered w told) → MadeByGate tells Point.SendBegun Point.SendAnswered old.made v first g → MadeByGate tells Point.SendBegun Point.SendAnswered new.made w first h
send_asked tells z row v w body told old new first g h back k asked was =
    made_more tells Point.SendBegun Point.SendAnswered first g h v asked.0 w (Call.Send body) (Answer.Send told) old new (one_call z row v w (Call.Send body) (Answer.Send told) back k) asked.1 was asked.2

-- the sender that came to its limit, and its gate
module _ {G : Type 0} (tells : G → Point → Go → G → Type 0) (z : Topic) (items limit row n : ℕ) (v : Walk) (first g : G) where
  abbrev pub SenderEnds : ℕ → Walk → Type 0
  SenderEnds made left = (s : SenderStopped z items limit row made) × (h : G) × LeftByGate tells Point.SendBegun Point.SendAnswered made s.pass (Some left) first h

  abbrev pub ReceiverEnds : ℕ → Walk → Type 0
  ReceiverEnds made left = (s : ReceiverStopped z limit row made) × (h : G) × LeftByGate tells Point.TakeBegun Point.TakeAnswered made s.pass (Some left) first h

  pub send_stopped : (whole : Bool) (keeps : List SendReceipt) (accepted : ℕ) (body : Body) (left : Left Walk Walk) (x : Walk) (old new : Turns) (h : G) → Sending z row n v whole keeps accepted → accepted < items → body ≡ one_word (accepted + 1) → new.made ≡ limit → WentOn old new
      → IsAskedInSend tells v body old new g h (Sent.Limited left) → MadeByGate tells Point.SendBegun Point.SendAnswered old.made v first g → x ≡ pass_left left → SenderEnds new.made x
  send_stopped whole keeps accepted body left x old new h s short is made on asked was same = (
    record {
      pass = v;
      back = s.works.back;
      sends = s.sends;
      short = subst (λ (k : ℕ). k < items) s.count short;
      why = inl (made, (asked.0, subst (λ (b : Body). Begun v (Call.Send b) asked.0) (is ∙ ap (λ (k : ℕ). one_word (k + 1)) s.count) asked.1));
    },
    h,
    left_by tells Point.SendBegun Point.SendAnswered first g h v asked.0 x (Call.Send body) old new left asked.1 was on asked.2 same,
  )

  -- or a sender that is exhausted
  pub send_worn : (whole : Bool) (keeps : List SendReceipt) (accepted : ℕ) (x : Walk) (old new : Turns) → Sending z row n v whole keeps accepted → accepted < items → v.setting.config.per_sender ≤ v.stand.begun → new ≡ old → MadeByGate tells Point.SendBegun Point.SendAnswered old.made v first g → x ≡ v → SenderEnds new.made x
  send_worn whole keeps accepted x old new s short worn still was same = (
    record {
      pass = v;
      back = s.works.back;
      sends = s.sends;
      short = subst (λ (k : ℕ). k < items) s.count short;
      why = inr (subst (λ (y : Setting). y.config.per_sender ≤ v.stand.begun) s.works.back.here.1 worn);
    },
    g,
    left_between tells Point.SendBegun Point.SendAnswered first g v x new.made (subst (λ (turns : Turns). MadeByGate tells Point.SendBegun Point.SendAnswered turns.made v first g) (sym still) was) same,
  )

  -- and a receiver, in a take or between two
  pub take_stopped : (whole : Bool) (keeps : List TakeReceipt) (left : Left Walk Walk) (x : Walk) (old new : Turns) (h : G) → Working got z row (Pass.Receiver n) v whole keeps → new.made ≡ limit → WentOn old new
      → IsAskedInTake tells v old new g h (Err left) → MadeByGate tells Point.TakeBegun Point.TakeAnswered old.made v first g → x ≡ pass_left left → ReceiverEnds new.made x
  take_stopped whole keeps left x old new h w made on asked was same = (
    record { pass = v; back = w.back; all_made = made },
    h,
    left_by tells Point.TakeBegun Point.TakeAnswered first g h v asked.0 x Call.Take old new left asked.1 was on asked.2 same,
  )

  pub take_none_left : (whole : Bool) (keeps : List TakeReceipt) (x : Walk) (made : ℕ) → Working got z row (Pass.Receiver n) v whole keeps → made ≡ limit → MadeByGate tells Point.TakeBegun Point.TakeAnswered made v first g → x ≡ v → ReceiverEnds made x
  take_none_left whole keeps x made w is was same = (record { pass = v; back = w.back; all_made = is }, g, left_between tells Point.TakeBegun Point.TakeAnswered first g v x made was same)

-- a receiver's calls
pub take_asked_on : {G : Type 0} (tells : G → Point → Go → G → Type 0) (z : Topic) (row : ℕ) (v w : Walk) (told : TakeAnswer) (old new : Turns) (first g h : G) → IsBack z row v → Completed v Call.Take (Answer.Take told) w
    → IsAskedInTake tells v old new g h (Ok (w, told)) → MadeByGate tells Point.TakeBegun Point.TakeAnswered old.made v first g → MadeByGate tells Point.TakeBegun Point.TakeAnswered new.made w first h
take_asked_on tells z row v w told old new first g h back k asked was =
    made_more tells Point.TakeBegun Point.TakeAnswered first g h v asked.0 w Call.Take (Answer.Take told) old new (one_call z row v w Call.Take (Answer.Take told) back k) asked.1 was asked.2

-- before the first call none was asked, and no turn was made
pub none_asked : {G : Type 0} (tells : G → Point → Go → G → Type 0) (begun answered : Point) (z : Topic) (row : ℕ) (w : Walk) (made : ℕ) (first g : G) → w ≡ fresh z row → HasMet w w → made ≡ 0 → g ≡ first → MadeByGate tells begun answered made w first g
none_asked {G} tells begun answered z row w made first g is met none same =
    let read : tally reads w.did ≡ 0 = ap (λ (x : Walk). tally reads x.did) is in
    (0, subst (λ (l : List Told). AskedForCalls tells begun answered (length l) 0 first g) (sym (calls_fresh z row w is met)) (refl, same), omega (arith, none, read))
