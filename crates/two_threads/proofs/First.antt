-- The first call of a pass that is alone on its side.
use Rattle.std.proofs.Common.{◌≡◌, ℕ, ◌+◌, ◌-◌, ◌/◌, ◌<◌, ◌≤◌, Bool, true, List, [], ◌∷◌, ◌++◌, map, length, Some, if◌then◌else◌, refl, sym, ap, ◌∙◌, subst, arith, eq-eqb, length-append}
use Rattle.std.proofs.lemmas.List.{length-map}
use Rattle.std.specs.List.{slice_get, AllByRecursion}
use Rattle.cc_model.specs.Config.{group_of}
use Rattle.cc_model.specs.Record.{Side, Record, of_group}
use Rattle.cc_model.specs.Items.{IsPrefix, accepted, accepted_by, accepted_item, sent_item, handed_by, is_pass, is_shut, calls_of}
use Rattle.cc_model.specs.Legal.{TakeSideAnswer, TakeSideAnswers, IsSenders, IsReceivers}
use Rattle.cc_model.specs.Fresh.{IsAnswered}
use Rattle.cc_model.specs.After.{side_of, Tells}
use Rattle.cc_model.proofs.Fresh.{all_at, d_at, front}
use Rattle.cc_model.proofs.After.{group_there}
use Rattle.cc_queue.specs.Names.{Body, Config, Pass, Call, Item, Entry, Answer, SendAnswer, TakeAnswer, Setting}
use Rattle.cc_steps.specs.Noted.{Noted, noted_by}
use Rattle.cc_steps.specs.Topic.{Topic}
use Rattle.cc_steps.specs.Walk.{Walk, IsOf, IsSameSeat}
use Rattle.cc_queue.specs.Calls.{Completed}
use Rattle.cc_queue.specs.Headline.{StandsInOne, entry_of, name, history}
use Rattle.cc_queue.specs.Noted.{CompletedAfter, noted_history}
use Rattle.cc_queue.proofs.AnswerKinds.{last_is, map_last}
use Rattle.cc_queue.proofs.Heeded.{own, its_length, FoundAt, found_last, heeded_stays, noted_goes_on}
use Rattle.cc_queue.proofs.OnItsSide.{Told, on_its_side}
use Rattle.two_threads.specs.HandedOn.{IsFirst, HasFirst, BeginsWith}

-- one pass has one name
same_name : (v w : Walk) → IsSameSeat v w → name w ≡ name v
same_name v w same = λ i. name (record w { setting = same.1 i; number = same.2 i })

-- ---- a side whose calls are all of one pass

own_all : (P : Entry → Type 0) (p : Pass) → ((e : Entry) → P e → is_pass p e.pass ≡ true) → (calls : List Entry) → AllByRecursion P calls → own p calls ≡ length calls
own_all P p is [] all = refl
own_all P p is (c ∷ calls) all = omega (arith, ap {B = ℕ} (λ (b : Bool). if b then 1 else 0) (is c all.0), own_all P p is calls all.1)

-- it has as many calls as the pass made
as_made : (w : Walk) (v : Walk) (made : List Entry) → StandsInOne v made w → own (name w) (side_of w.setting.config (name w) (history w)).calls ≡ length w.made
as_made w v made s =
    let side : Side = side_of w.setting.config (name w) (history w) in
    omega (arith, its_length (name w) side.calls side.answers, ap (λ (l : List Told). length l) (on_its_side w.setting.config (history w) (name w) s.legal), ap (λ (l : List Entry). length l) s.calls_are, length-map (calls_of (name w) (history w)) (λ (x : Told). x.0))

-- so the first call comes after no answer
none_before : (calls : List Entry) (before : List Answer) (e : Entry) → length calls ≡ 1 → slice_get calls (length before) ≡ Some e → before ≡ []
none_before [] before e one is = absurd (omega (arith, one))
none_before (c ∷ []) [] e one is = refl
none_before (c ∷ []) (b ∷ before) e one is = cc
none_before (c ∷ d ∷ calls) before e one is = absurd (omega (arith, one))

-- ---- one sender

its_sender : (cfg : Config) (s : ℕ) → cfg.senders ≡ 1 → 1 ≤ s → s ≤ cfg.senders → (p : Pass) (c : Call) → IsSenders cfg p c → is_pass (Pass.Sender s) p ≡ true
its_sender cfg s one low high (Pass.Sender t) (Call.Send body) is = eq-eqb s t (omega (arith, one, low, high, is.0, is.1))
its_sender cfg s one low high (Pass.Sender t) Call.Close is = eq-eqb s t (omega (arith, one, low, high, is.0, is.1))
its_sender cfg s one low high (Pass.Sender t) Call.Take is = absurd is
its_sender cfg s one low high (Pass.Receiver t) c is = absurd is

-- ---- one receiver in each group

only_group : (cfg : Config) (q : ℕ) → cfg.receivers ≡ 1 → group_of cfg q ≡ q - 1
only_group cfg q one = ap (λ (n : ℕ). (q - 1) / n) one ∙ omega arith

its_receiver : (cfg : Config) (r : ℕ) → cfg.receivers ≡ 1 → 1 ≤ r → (p : Pass) (c : Call) → IsReceivers cfg (group_of cfg r) p c → is_pass (Pass.Receiver r) p ≡ true
its_receiver cfg r one low (Pass.Receiver q) Call.Take is = eq-eqb r q (omega (arith, low, is.0, is.2, only_group cfg q one, only_group cfg r one))
its_receiver cfg r one low (Pass.Receiver q) (Call.Send body) is = absurd is
its_receiver cfg r one low (Pass.Receiver q) Call.Close is = absurd is
its_receiver cfg r one low (Pass.Sender q) c is = absurd is

receiver_low : (cfg : Config) (g r : ℕ) (c : Call) → IsReceivers cfg g (Pass.Receiver r) c → 1 ≤ r
receiver_low cfg g r Call.Take is = is.0
receiver_low cfg g r (Call.Send body) is = absurd is
receiver_low cfg g r Call.Close is = absurd is

-- ---- the first take

abbrev pub Gets : Noted → TakeAnswer → Type 0
Gets n told = (item : Item) × (told ≡ TakeAnswer.Got item) × IsFirst n item

pub got_it : (n : Noted) (told : TakeAnswer) (item : Item) → Gets n told → told ≡ TakeAnswer.Got item → IsFirst n item
got_it n told item t is = let both : TakeAnswer.Got t.0 ≡ TakeAnswer.Got item = sym t.1 ∙ is in let same : t.0 ≡ item = cc in subst (IsFirst n) same t.2

front_first : (xs ys : List Item) (x y : Item) → IsPrefix xs ys → slice_get xs 0 ≡ Some x → slice_get ys 0 ≡ Some y → x ≡ y
front_first [] ys x y f is at = cc
front_first (z ∷ xs) ys x y f is at =
    let whole : ys ≡ z ∷ (xs ++ f.0) = f.1 in
    let there : slice_get (z ∷ (xs ++ f.0)) 0 ≡ Some y = subst (λ (l : List Item). slice_get l 0 ≡ Some y) whole at in
    let one : z ≡ x = cc in
    let two : z ≡ y = cc in
    sym one ∙ two

some_items : (xs : List Item) (x : Item) → slice_get xs 0 ≡ Some x → 0 < length xs
some_items [] x is = cc
some_items (y ∷ xs) x is = omega arith

gets_first : (cfg : Config) (n : Noted) (later : Record) (who : Pass) (told : TakeAnswer) (known : ℕ) → IsPrefix (accepted (noted_history n)) (accepted later) → HasFirst n → Tells cfg (noted_history n) later who [] (Answer.Take told) → TakeSideAnswer (accepted later) (is_shut later) 0 known (Answer.Take told) → Gets n told
gets_first cfg n later who (TakeAnswer.Got item) known f has tells told =
    let same : has.0 ≡ item = front_first (accepted (noted_history n)) (accepted later) has.0 item f has.1 told.0 in
    (item, refl, subst (IsFirst n) same has.1)
gets_first cfg n later who TakeAnswer.Empty known f has tells told =
    absurd (omega (arith, some_items (accepted (noted_history n)) has.0 has.1, ap (λ (l : List Item). length l) tells.0.1, length-append (accepted (noted_history n)) tells.0.0))
gets_first cfg n later who (TakeAnswer.Ended total) known f has tells told =
    absurd (omega (arith, some_items (accepted (noted_history n)) has.0 has.1, tells, told.1))

module _ (n : Noted) (u w : Walk) (told : TakeAnswer) (c : CompletedAfter n u Call.Take (Answer.Take told) w) (none : u.made ≡ []) (one : w.setting.config.receivers ≡ 1) (has : HasFirst n) where
  abbrev E : Entry
  E = entry_of c.heeding Call.Take

  abbrev C : Config
  C = w.setting.config

  abbrev H : Record
  H = history w

  made_one : length w.made ≡ 1
  made_one =
      let before : c.heeding.made ≡ [] = ap (λ (x : Walk). x.made) c.met.same ∙ none in
      omega (arith, ap (λ (l : List Entry). length l) c.completed.stands.made, length-append c.heeding.made (E ∷ []), ap (λ (l : List Entry). length l) before)

  own_one : own E.pass (side_of C E.pass H).calls ≡ 1
  own_one =
      let named : name w ≡ E.pass = same_name c.heeding w c.completed.stands.same in
      subst (λ (p : Pass). own p (side_of C p H).calls ≡ 1) named (as_made w c.heeding (E ∷ []) c.completed.stands ∙ made_one)

  in_group : (r : ℕ) → E.pass ≡ Pass.Receiver r → IsAnswered (of_group H (group_of C r)) c.fresh.before E (Answer.Take told) → own (Pass.Receiver r) (of_group H (group_of C r)).calls ≡ 1 → Gets n told
  in_group r is a count =
      let g : ℕ = group_of C r in
      let calls : List Entry = (of_group H g).calls in
      let inside = group_there C H g c.fresh.before E (Answer.Take told) c.completed.stands.legal a in
      let of = c.completed.stands.legal.takes g inside in
      let mine : IsReceivers C g (Pass.Receiver r) E.call = subst (λ (p : Pass). IsReceivers C g p E.call) is (all_at (λ (x : Entry). IsReceivers C g x.pass x.call) calls (length c.fresh.before) E of.receivers a.call_is) in
      let all = own_all (λ (x : Entry). IsReceivers C g x.pass x.call) (Pass.Receiver r) (λ x. its_receiver C r one (receiver_low C g r E.call mine) x.pass x.call) calls of.receivers in
      let first : c.fresh.before ≡ [] = none_before calls c.fresh.before E (sym all ∙ count) a.call_is in
      let answers = subst (λ (l : List Answer). TakeSideAnswers (accepted H) (is_shut H) 0 calls l) a.answers_are of.answers in
      let told_so = d_at (accepted H) (is_shut H) 0 calls c.fresh.before a.behind E (Answer.Take told) answers a.call_is in
      let goes = noted_goes_on n w (heeded_stays n c.heeding w (E ∷ []) c.heeded c.completed.stands) in
      gets_first C n H E.pass told E.known (front C (noted_history n) H goes) has
      (subst (λ (l : List Answer). Tells C (noted_history n) H E.pass l (Answer.Take told)) first c.fresh.tells)
      (subst (λ (l : List Answer). TakeSideAnswer (accepted H) (is_shut H) (0 + length (handed_by l)) E.known (Answer.Take told)) first told_so)

  by_pass : (who : Pass) → E.pass ≡ who → Gets n told
  by_pass (Pass.Receiver r) is =
      in_group r is (subst (λ (p : Pass). IsAnswered (side_of C p H) c.fresh.before E (Answer.Take told)) is c.fresh.after.answered) (subst (λ (p : Pass). own p (side_of C p H).calls ≡ 1) is own_one)
  by_pass (Pass.Sender s) is =
      let a : IsAnswered H.sends c.fresh.before E (Answer.Take told) = subst (λ (p : Pass). IsAnswered (side_of C p H) c.fresh.before E (Answer.Take told)) is c.fresh.after.answered in
      absurd (subst (λ (p : Pass). IsSenders C p Call.Take) is (all_at (λ (x : Entry). IsSenders C x.pass x.call) H.sends.calls (length c.fresh.before) E c.completed.stands.legal.senders a.call_is))

  -- the first take of the only receiver of a group gets the first item, if there was one when the note was made
  pub taken_first : Gets n told
  taken_first = by_pass E.pass refl

-- ---- the first send

first_item : (calls : List Entry) (answers behind : List Answer) (e : Entry) (told : Answer) (x : Item) → slice_get calls 0 ≡ Some e → answers ≡ told ∷ behind → accepted_item e told ≡ x ∷ [] → slice_get (accepted_by calls answers) 0 ≡ Some x
first_item [] answers behind e told x at is item = cc
first_item (c ∷ calls) answers behind e told x at is item =
    let same : c ≡ e = cc in
    let items : accepted_by (c ∷ calls) answers ≡ x ∷ accepted_by calls behind = ap (accepted_by (c ∷ calls)) is ∙ ap (λ (l : List Item). l ++ accepted_by calls behind) (ap (λ (d : Entry). accepted_item d told) same ∙ item) in
    ap (λ (l : List Item). slice_get l 0) items

no_send : (cfg : Config) (g : ℕ) (p : Pass) (body : Body) → IsReceivers cfg g p (Call.Send body) → ⊥
no_send cfg g (Pass.Receiver r) body is = is
no_send cfg g (Pass.Sender s) body is = is

module _ (v w : Walk) (body : Body) (place : ℕ) (k : Completed v (Call.Send body) (Answer.Send (SendAnswer.Accepted place)) w) (none : v.made ≡ []) (one : w.setting.config.senders ≡ 1) where
  abbrev S : Entry
  S = entry_of v (Call.Send body)

  abbrev T : Answer
  T = Answer.Send (SendAnswer.Accepted place)

  abbrev D : Config
  D = w.setting.config

  abbrev R : Record
  R = history w

  its_last : k.last.entry ≡ S
  its_last =
      last_is (map (λ (x : Told). x.0) k.last.before) v.made k.last.entry S
      (sym (map_last (λ (x : Told). x.0) k.last.before (k.last.entry, Some T)) ∙ sym (ap (map (λ (x : Told). x.0)) k.last.last) ∙ k.stands.calls_are ∙ k.stands.made)

  named : name w ≡ S.pass
  named = same_name v w k.stands.same

  found : FoundAt (side_of D S.pass R).calls (side_of D S.pass R).answers S T 0
  found =
      let f = found_last (name w) (side_of D (name w) R).calls (side_of D (name w) R).answers k.last.before k.last.entry T (sym (on_its_side D R (name w) k.stands.legal) ∙ k.last.last) in
      subst (λ (x : Pass × Entry). FoundAt (side_of D x.0 R).calls (side_of D x.0 R).answers x.1 T 0) (λ i. (named i, its_last i)) f

  send_one : own S.pass (side_of D S.pass R).calls ≡ 1
  send_one =
      let count : length w.made ≡ 1 = omega (arith, ap (λ (l : List Entry). length l) k.stands.made, length-append v.made (S ∷ []), ap (λ (l : List Entry). length l) none) in
      subst (λ (p : Pass). own p (side_of D p R).calls ≡ 1) named (as_made w v (S ∷ []) k.stands ∙ count)

  by_sender : (who : Pass) → S.pass ≡ who → BeginsWith (noted_by w) body
  by_sender (Pass.Receiver r) is =
      let f : FoundAt (of_group R (group_of D r)).calls (of_group R (group_of D r)).answers S T 0 = subst (λ (p : Pass). FoundAt (side_of D p R).calls (side_of D p R).answers S T 0) is found in
      let inside = group_there D R (group_of D r) f.before S T k.stands.legal f.answered in
      absurd (no_send D (group_of D r) S.pass body (all_at (λ (x : Entry). IsReceivers D (group_of D r) x.pass x.call) (of_group R (group_of D r)).calls (length f.before) S (k.stands.legal.takes (group_of D r) inside).receivers f.answered.call_is))
  by_sender (Pass.Sender s) is =
      let f : FoundAt R.sends.calls R.sends.answers S T 0 = subst (λ (p : Pass). FoundAt (side_of D p R).calls (side_of D p R).answers S T 0) is found in
      let mine : (1 ≤ s) × (s ≤ D.senders) = subst (λ (p : Pass). IsSenders D p (Call.Send body)) is (all_at (λ (x : Entry). IsSenders D x.pass x.call) R.sends.calls (length f.before) S k.stands.legal.senders f.answered.call_is) in
      let all = own_all (λ (x : Entry). IsSenders D x.pass x.call) (Pass.Sender s) (λ x. its_sender D s one mine.0 mine.1 x.pass x.call) R.sends.calls k.stands.legal.senders in
      let first : f.before ≡ [] = none_before R.sends.calls f.before S (sym all ∙ subst (λ (p : Pass). own p (side_of D p R).calls ≡ 1) is send_one) f.answered.call_is in
      let item : Item = record { place = place; sender = s; number = S.number; body = body } in
      let made : accepted_item S T ≡ item ∷ [] = ap (λ (p : Pass). sent_item p (Call.Send body) S.number place) is in
      record {
        item = item;
        first = first_item R.sends.calls R.sends.answers f.answered.behind S T item (subst (λ (l : List Answer). slice_get R.sends.calls (length l) ≡ Some S) first f.answered.call_is) (f.answered.answers_are ∙ ap (λ (l : List Answer). l ++ T ∷ f.answered.behind) first) made;
        body_is = refl;
      }

  -- the first send of the only sender: what it has seen begins with its item
  pub sent_first : BeginsWith (noted_by w) body
  sent_first = by_sender S.pass refl

-- of a queue with one receiver in each group
pub taken_alone : (n : Noted) (u w : Walk) (told : TakeAnswer) (z : Topic) → CompletedAfter n u Call.Take (Answer.Take told) w → IsOf z u → u.made ≡ [] → z.setting.config.receivers ≡ 1 → HasFirst n → Gets n told
taken_alone n u w told z c here none one has =
    taken_first n u w told c none (ap (λ (s : Setting). s.config.receivers) (c.completed.stands.same.1 ∙ ap (λ (x : Walk). x.setting) c.met.same ∙ here.1) ∙ one) has

-- and of one with one sender
pub sent_alone : (v w : Walk) (body : Body) (place : ℕ) (z : Topic) → Completed v (Call.Send body) (Answer.Send (SendAnswer.Accepted place)) w → IsOf z v → v.made ≡ [] → z.setting.config.senders ≡ 1 → BeginsWith (noted_by w) body
sent_alone v w body place z k here none one = sent_first v w body place k none (ap (λ (s : Setting). s.config.senders) (k.stands.same.1 ∙ here.1) ∙ one)
