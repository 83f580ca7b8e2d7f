-- A worker's calls, one after another, and the receipts that it keeps of them.
use Rattle.std.proofs.Common.{◌≡◌, ◌≢◌, ℕ, ◌+◌, Bool, true, List, [], ◌∷◌, ◌++◌, map, length, Some, None, refl, sym, ap, ◌∙◌, subst, arith, append-nil, length-append}
use Rattle.std.specs.List.{AllByRecursion}
use Rattle.std.proofs.lemmas.List.{map-append, length-map}
use Rattle.cc_model.specs.Items.{sent_item}
use Rattle.cc_drive.specs.Names.{Body, Call, Pass, Entry, Item, Answer, SendAnswer, TakeAnswer, TakeReceipt, SendReceipt}
use Rattle.cc_runs.specs.State.{pass_at}
use Rattle.cc_steps.specs.Topic.{Topic}
use Rattle.cc_steps.specs.Walk.{Walk, fresh}
use Rattle.cc_queue.specs.Calls.{Completed}
use Rattle.cc_queue.specs.Headline.{entry_of, name}
use Rattle.cc_queue.specs.Met.{HasMet}
use Rattle.cc_model.specs.Items.{HasAnswer}
use Rattle.cc_queue.specs.Receipts.{receipts_in, sent, got}
use Rattle.cc_audit.specs.Receipts.{send_receipt, take_receipt}
use Rattle.cc_queue.proofs.Held.{in_both}
use Rattle.cc_drive.specs.Back.{IsBack, one_word, BodiesFrom, SendsFrom, calls}
use Rattle.cc_drive.proofs.Told.{Told, nil_of, stands_self, same_name, calls_more, each_answered}

-- the pass of a worker so far, and what the worker has kept
pub record Working {X : Type 0} (receipts : Told → List X) (z : Topic) (row : ℕ) (who : Pass) (w : Walk) (whole : Bool) (keeps : List X) : Type 0 where
  pub back : IsBack z row w
  pub named : name w ≡ who
  pub kept : whole ≡ true → keeps ≡ receipts_in receipts (calls w)

-- ---- before the first call

-- a fresh pass has made no call
pub calls_fresh : (z : Topic) (row : ℕ) (w : Walk) → w ≡ fresh z row → HasMet w w → calls w ≡ []
calls_fresh z row w is met = nil_of (calls w) (met.stands.calls_are ∙ ap (λ (x : Walk). x.made) is)

pub working_none : {X : Type 0} (receipts : Told → List X) (z : Topic) (row : ℕ) (who : Pass) (w : Walk) (whole : Bool) (keeps : List X) → w ≡ fresh z row → pass_at z.setting.config row ≡ who → HasMet w w → keeps ≡ [] → Working receipts z row who w whole keeps
working_none receipts z row who w whole keeps is named met none =
    let empty : calls w ≡ [] = calls_fresh z row w is met in
    record {
      back = record {
        here = (ap (λ (x : Walk). x.table_id) is, ap (λ (x : Walk). x.setting) is);
        at = ap (λ (x : Walk). x.number) is;
        stands = met.stands;
        answered = subst (AllByRecursion HasAnswer) (sym empty) tt;
      };
      named = ap name is ∙ named;
      kept = λ _. none ∙ ap (receipts_in receipts) (sym empty);
    }

-- ---- one more call

pub call_more : (z : Topic) (row : ℕ) (w x : Walk) (c : Call) (told : Answer) → IsBack z row w → Completed w c told x → calls x ≡ calls w ++ (entry_of w c, Some told) ∷ []
call_more z row w x c told b k = calls_more w x (entry_of w c) told b.stands b.answered k.stands k.last

pub back_more : (z : Topic) (row : ℕ) (w x : Walk) (c : Call) (told : Answer) → IsBack z row w → Completed w c told x → IsBack z row x
back_more z row w x c told b k = record {
  here = (k.stands.same.0 ∙ b.here.0, k.stands.same.1 ∙ b.here.1);
  at = k.stands.same.2 ∙ b.at;
  stands = stands_self w x (entry_of w c ∷ []) k.stands;
  answered = each_answered w x (entry_of w c ∷ []) told k.stands k.last;
}

receipts_more : {X : Type 0} (receipts : Told → List X) (z : Topic) (row : ℕ) (w x : Walk) (c : Call) (told : Answer) → IsBack z row w → Completed w c told x → receipts_in receipts (calls x) ≡ receipts_in receipts (calls w) ++ receipts (entry_of w c, Some told)
receipts_more receipts z row w x c told b k =
    ap (receipts_in receipts) (call_more z row w x c told b k) ∙ in_both receipts (calls w) ((entry_of w c, Some told) ∷ []) ∙ ap (λ l. receipts_in receipts (calls w) ++ l) (append-nil (receipts (entry_of w c, Some told)))

pub working_more : {X : Type 0} (receipts : Told → List X) (z : Topic) (row : ℕ) (who : Pass) (w x : Walk) (whole whole' : Bool) (keeps keeps' : List X) (c : Call) (told : Answer) → Working receipts z row who w whole keeps → Completed w c told x
    → (whole' ≡ true → whole ≡ true) → (whole' ≡ true → keeps' ≡ keeps ++ receipts (entry_of w c, Some told)) → Working receipts z row who x whole' keeps'
working_more receipts z row who w x whole whole' keeps keeps' c told b k still more = record {
  back = back_more z row w x c told b.back k;
  named = same_name w x (entry_of w c ∷ []) k.stands ∙ b.named;
  kept = λ is. more is ∙ ap (λ l. l ++ receipts (entry_of w c, Some told)) (b.kept (still is)) ∙ sym (receipts_more receipts z row w x c told b.back k);
}

-- ---- a send

pub sent_one : (n begun : ℕ) (w : Walk) (body : Body) (place : ℕ) (told : SendAnswer) → name w ≡ Pass.Sender n → begun ≡ w.stand.begun → told ≡ SendAnswer.Accepted place → sent (entry_of w (Call.Send body), Some (Answer.Send told)) ≡ record { sender = n; number = begun + 1; place = place; body = body } ∷ []
sent_one n begun w body place told named is accepted =
    ap (λ (a : SendAnswer). sent (entry_of w (Call.Send body), Some (Answer.Send a))) accepted
    ∙ ap (λ (p : Pass). map send_receipt (sent_item p (Call.Send body) (w.stand.begun + 1) place)) named ∙ (λ i. record { sender = n; number = sym is i + 1; place = place; body = body } ∷ [])

pub sent_none : (e : Entry) (told : SendAnswer) → ((place : ℕ) → told ≢ SendAnswer.Accepted place) → sent (e, Some (Answer.Send told)) ≡ []
sent_none e SendAnswer.Full ne = refl
sent_none e SendAnswer.Closed ne = refl
sent_none e SendAnswer.Spent ne = refl
sent_none e (SendAnswer.Accepted place) ne = absurd (ne place refl)

count_more : (z : Topic) (row : ℕ) (w x : Walk) (body : Body) (told : SendAnswer) → IsBack z row w → Completed w (Call.Send body) (Answer.Send told) x → length (receipts_in sent (calls x)) ≡ length (receipts_in sent (calls w)) + length (sent (entry_of w (Call.Send body), Some (Answer.Send told)))
count_more z row w x body told b k = ap length (receipts_more sent z row w x (Call.Send body) (Answer.Send told) b k) ∙ length-append (receipts_in sent (calls w)) (sent (entry_of w (Call.Send body), Some (Answer.Send told)))

-- ---- a take

got_one : (n : ℕ) (w : Walk) (item : Item) → name w ≡ Pass.Receiver n → got (entry_of w Call.Take, Some (Answer.Take (TakeAnswer.Got item))) ≡ record { receiver = n; item = item } ∷ []
got_one n w item named = ap (λ (p : Pass). take_receipt p (Answer.Take (TakeAnswer.Got item))) named

got_none : (n : ℕ) (w : Walk) (told : TakeAnswer) → name w ≡ Pass.Receiver n → ((item : Item) → told ≢ TakeAnswer.Got item) → got (entry_of w Call.Take, Some (Answer.Take told)) ≡ []
got_none n w (TakeAnswer.Got item) named not = absurd (not item refl)
got_none n w told named not = ap (λ (p : Pass). take_receipt p (Answer.Take told)) named

-- a call that leaves no receipt
pub working_still : {X : Type 0} (receipts : Told → List X) (z : Topic) (row : ℕ) (who : Pass) (w x : Walk) (whole : Bool) (keeps : List X) (c : Call) (told : Answer) → Working receipts z row who w whole keeps → Completed w c told x → receipts (entry_of w c, Some told) ≡ [] → Working receipts z row who x whole keeps
working_still receipts z row who w x whole keeps c told b k none = working_more receipts z row who w x whole whole keeps keeps c told b k (λ is. is) (λ is. sym (append-nil keeps) ∙ ap (λ l. keeps ++ l) (sym none))

pub taken_one : (z : Topic) (row n : ℕ) (w x : Walk) (whole whole' : Bool) (keeps keeps' : List TakeReceipt) (told : TakeAnswer) (item : Item) → Working got z row (Pass.Receiver n) w whole keeps → Completed w Call.Take (Answer.Take told) x → told ≡ TakeAnswer.Got item
    → (whole' ≡ true → whole ≡ true) → (whole' ≡ true → keeps' ≡ keeps ++ record { receiver = n; item = item } ∷ []) → Working got z row (Pass.Receiver n) x whole' keeps'
taken_one z row n w x whole whole' keeps keeps' told item b k is still more =
    working_more got z row (Pass.Receiver n) w x whole whole' keeps keeps' Call.Take (Answer.Take told) b k still
    (λ all. more all ∙ ap (λ l. keeps ++ l) (sym (ap (λ (a : TakeAnswer). got (entry_of w Call.Take, Some (Answer.Take a))) is ∙ got_one n w item b.named)))

pub taken_none : (z : Topic) (row n : ℕ) (w x : Walk) (whole : Bool) (keeps : List TakeReceipt) (told : TakeAnswer) → Working got z row (Pass.Receiver n) w whole keeps → Completed w Call.Take (Answer.Take told) x → ((item : Item) → told ≢ TakeAnswer.Got item) → Working got z row (Pass.Receiver n) x whole keeps
taken_none z row n w x whole keeps told b k not = working_still got z row (Pass.Receiver n) w x whole keeps Call.Take (Answer.Take told) b k (got_none n w told b.named not)

-- ---- sends of the bodies in order

-- one more
sends_end : (n : ℕ) (zs : List Told) (z : Told) → SendsFrom n zs → z.0.call ≡ Call.Send (one_word (n + length (receipts_in sent zs))) → SendsFrom n (zs ++ z ∷ [])
sends_end n [] z s is = (is ∙ (let e : n + 0 ≡ n = omega arith in ap (λ (m : ℕ). Call.Send (one_word m)) e), tt)
sends_end n (y ∷ zs) z s is = (
  s.0,
  sends_end (n + length (sent y)) zs z s.1
      (is ∙ (let e : n + length (sent y ++ receipts_in sent zs) ≡ n + length (sent y) + length (receipts_in sent zs) = omega (arith, length-append (sent y) (receipts_in sent zs)) in ap (λ (m : ℕ). Call.Send (one_word m)) e)),
)

sends_more : (z : Topic) (row : ℕ) (w x : Walk) (body : Body) (so_far : ℕ) (told : Answer) → body ≡ one_word (so_far + 1) → IsBack z row w → Completed w (Call.Send body) told x → so_far ≡ length (receipts_in sent (calls w)) → SendsFrom 1 (calls w) → SendsFrom 1 (calls x)
sends_more z row w x body so_far told is b k are s =
    subst (SendsFrom 1) (sym (call_more z row w x (Call.Send body) told b k))
    (sends_end 1 (calls w) (entry_of w (Call.Send body), Some told) s (ap (λ (c : Body). Call.Send c) is ∙ (let e : so_far + 1 ≡ 1 + length (receipts_in sent (calls w)) = omega (arith, are) in ap (λ (m : ℕ). Call.Send (one_word m)) e)))

-- their receipts have these bodies
abbrev body_in : SendReceipt → Body
body_in r = r.body

one_body : (n : ℕ) (z : Told) → z.0.call ≡ Call.Send (one_word n) → BodiesFrom n (map body_in (sent z))
one_body n (e, None) is = tt
one_body n (e, Some (Answer.Send (SendAnswer.Accepted place))) is = go e.pass e.call is
  where
    go : (p : Pass) (c : Call) → c ≡ Call.Send (one_word n) → BodiesFrom n (map body_in (map send_receipt (sent_item p c e.number place)))
    go (Pass.Sender s) (Call.Send other) is = (let same : other ≡ one_word n = cc is in same, tt)
    go (Pass.Sender s) Call.Close is = tt
    go (Pass.Sender s) Call.Take is = tt
    go (Pass.Receiver r) c is = tt
one_body n (e, Some (Answer.Send SendAnswer.Full)) is = tt
one_body n (e, Some (Answer.Send SendAnswer.Closed)) is = tt
one_body n (e, Some (Answer.Send SendAnswer.Spent)) is = tt
one_body n (e, Some (Answer.Close told)) is = tt
one_body n (e, Some (Answer.Take told)) is = tt

bodies_both : (n m : ℕ) (xs ys : List Body) → m ≡ n + length xs → BodiesFrom n xs → BodiesFrom m ys → BodiesFrom n (xs ++ ys)
bodies_both n m [] ys at k l = (let e : m ≡ n = omega (arith, at) in subst (λ (j : ℕ). BodiesFrom j ys) e l)
bodies_both n m (x ∷ xs) ys at k l = (k.0, bodies_both (n + 1) m xs ys (omega (arith, at)) k.1 l)

bodies_of : (n : ℕ) (zs : List Told) → SendsFrom n zs → BodiesFrom n (map body_in (receipts_in sent zs))
bodies_of n [] s = tt
bodies_of n (z ∷ zs) s =
    subst (BodiesFrom n) (sym (map-append body_in (sent z) (receipts_in sent zs)))
    (bodies_both n (n + length (sent z)) (map body_in (sent z)) (map body_in (receipts_in sent zs)) (ap (λ (m : ℕ). n + m) (sym (length-map (sent z) body_in))) (one_body n z s.0) (bodies_of (n + length (sent z)) zs s.1))

-- ---- the work of a sender so far

pub record Sending (z : Topic) (row n : ℕ) (w : Walk) (whole : Bool) (keeps : List SendReceipt) (accepted : ℕ) : Type 0 where
  pub works : Working sent z row (Pass.Sender n) w whole keeps
  pub count : accepted ≡ length (receipts_in sent (calls w))
  pub sends : SendsFrom 1 (calls w)
  pub bodies : BodiesFrom 1 (map body_in (receipts_in sent (calls w)))

pub sending_none : (z : Topic) (row n : ℕ) (w : Walk) (whole : Bool) (keeps : List SendReceipt) → w ≡ fresh z row → pass_at z.setting.config row ≡ Pass.Sender n → HasMet w w → keeps ≡ [] → Sending z row n w whole keeps 0
sending_none z row n w whole keeps is named met none =
    let empty : [] ≡ calls w = sym (calls_fresh z row w is met) in
    record {
      works = working_none sent z row (Pass.Sender n) w whole keeps is named met none;
      count = ap (λ l. length (receipts_in sent l)) empty;
      sends = subst (SendsFrom 1) empty tt;
      bodies = bodies_of 1 (calls w) (subst (SendsFrom 1) empty tt);
    }

pub sending_more : (z : Topic) (row n : ℕ) (w x : Walk) (whole whole' : Bool) (keeps keeps' : List SendReceipt) (accepted accepted' : ℕ) (body : Body) (told : SendAnswer) → Sending z row n w whole keeps accepted → Completed w (Call.Send body) (Answer.Send told) x → body ≡ one_word (accepted + 1)
    → (whole' ≡ true → whole ≡ true) → (whole' ≡ true → keeps' ≡ keeps ++ sent (entry_of w (Call.Send body), Some (Answer.Send told))) → accepted' ≡ accepted + length (sent (entry_of w (Call.Send body), Some (Answer.Send told))) → Sending z row n x whole' keeps' accepted'
sending_more z row n w x whole whole' keeps keeps' accepted accepted' body told s k is still more now =
    let sends = sends_more z row w x body accepted (Answer.Send told) is s.works.back k s.count s.sends in
    record {
      works = working_more sent z row (Pass.Sender n) w x whole whole' keeps keeps' (Call.Send body) (Answer.Send told) s.works k still more;
      count = now ∙ ap (λ (m : ℕ). m + length (sent (entry_of w (Call.Send body), Some (Answer.Send told)))) s.count ∙ sym (count_more z row w x body told s.works.back k);
      sends = sends;
      bodies = bodies_of 1 (calls x) sends;
    }

pub sending_still : (z : Topic) (row n : ℕ) (w x : Walk) (whole : Bool) (keeps : List SendReceipt) (accepted : ℕ) (body : Body) (told : SendAnswer) → Sending z row n w whole keeps accepted → Completed w (Call.Send body) (Answer.Send told) x → body ≡ one_word (accepted + 1)
    → sent (entry_of w (Call.Send body), Some (Answer.Send told)) ≡ [] → Sending z row n x whole keeps accepted
sending_still z row n w x whole keeps accepted body told s k is none =
    sending_more z row n w x whole whole keeps keeps accepted accepted body told s k is (λ all. all) (λ all. sym (append-nil keeps) ∙ ap (λ l. keeps ++ l) (sym none)) (let many : length (sent (entry_of w (Call.Send body), Some (Answer.Send told))) ≡ 0 = ap length none in omega (arith, many))
