-- The step that decides an answer: a sequential queue gives the answer too, after the calls that were answered before.
use Rattle.std.proofs.Common.{◌≡◌, ◌≢◌, ℕ, zero, suc, ◌+◌, ◌<◌, ◌==◌, Bool, true, false, ◌||◌, if◌then◌else◌, List, [], ◌∷◌, ◌++◌, length, Some, None, refl, sym, subst, arith, add-zero, length-append}
use Rattle.std.proofs.Math.Bool.{or_assoc, or-false}
use Rattle.std.proofs.lemmas.Bool.{eqb-true, eqb-false}
use Rattle.std.specs.List.{slice_get, list_any}
use Rattle.cc_model.specs.Items.{accepted_by, accepted_item, sent_item, shuts, handed_by, handed_item}
use Rattle.cc_model.specs.Legal.{SendSideAnswer, SendSideAnswers, TakeSideAnswer, TakeSideAnswers, IsSenders}
use Rattle.cc_runs.specs.Names.{Config, Call, Entry, Item, Pass, Answer, SendAnswer, TakeAnswer, Job, Parcel, Phase, Sending, Taking}
use Rattle.cc_runs.specs.Words.{groups}
use Rattle.cc_runs.specs.Lines.{enters, decides}
use Rattle.cc_runs.specs.SendLines as send_side
use Rattle.cc_runs.specs.SendLines.{after}
use Rattle.cc_runs.specs.ServiceLine.{Next, On, Decides, answer_of}
use Rattle.cc_runs.specs.Ready.{WhileUndecided}
use Rattle.cc_runs.proofs.ListRuns.Facts.{lists}
use Rattle.cc_model.specs.Sequential.{Exactly}
use Rattle.cc_runs.proofs.Linear.Replay.{full}

-- ---- the last answer of a legal side

pub e_last : (cfg : Config) (n : ℕ) (shut : Bool) (calls : List Entry) (answers : List Answer) (c : Entry) (a : Answer) → SendSideAnswers cfg n shut calls (answers ++ a ∷ []) → slice_get calls (length answers) ≡ Some c
    → SendSideAnswer cfg (n + length (accepted_by calls answers)) (shut || list_any shuts answers) c.known c.call a
e_last cfg n shut [] answers c a h is = absurd (cc)
e_last cfg n shut (d ∷ calls) [] c a h is =
    let same : d ≡ c = cc in
    subst (λ (z : Entry). SendSideAnswer cfg (n + 0) (shut || false) z.known z.call a) same (subst (λ (b : Bool). SendSideAnswer cfg (n + 0) b d.known d.call a) (sym (or-false shut)) (subst (λ (k : ℕ). SendSideAnswer cfg k shut d.known d.call a) (sym (add-zero n)) h.0))
e_last cfg n shut (d ∷ calls) (b ∷ answers) c a h is =
    let rest : SendSideAnswer cfg (n + length (accepted_item d b) + length (accepted_by calls answers)) ((shut || shuts b) || list_any shuts answers) c.known c.call a = e_last cfg (n + length (accepted_item d b)) (shut || shuts b) calls answers c a h.1 is in
    let sum : n + length (accepted_item d b) + length (accepted_by calls answers) ≡ n + length (accepted_item d b ++ accepted_by calls answers) = omega (arith, length-append (accepted_item d b) (accepted_by calls answers)) in
    subst (λ (z : Bool). SendSideAnswer cfg (n + length (accepted_item d b ++ accepted_by calls answers)) z c.known c.call a) (or_assoc shut (shuts b) (list_any shuts answers))
    (subst (λ (k : ℕ). SendSideAnswer cfg k ((shut || shuts b) || list_any shuts answers) c.known c.call a) sum rest)

pub d_last : (items : List Item) (shut : Bool) (n : ℕ) (calls : List Entry) (answers : List Answer) (c : Entry) (a : Answer) → TakeSideAnswers items shut n calls (answers ++ a ∷ []) → slice_get calls (length answers) ≡ Some c
    → TakeSideAnswer items shut (n + length (handed_by answers)) c.known a
d_last items shut n [] answers c a h is = absurd (cc)
d_last items shut n (d ∷ calls) [] c a h is =
    let same : d ≡ c = cc in
    subst (λ (z : Entry). TakeSideAnswer items shut (n + 0) z.known a) same (subst (λ (k : ℕ). TakeSideAnswer items shut k d.known a) (sym (add-zero n)) h.0)
d_last items shut n (d ∷ calls) (b ∷ answers) c a h is =
    let rest : TakeSideAnswer items shut (n + length (handed_item b) + length (handed_by answers)) c.known a = d_last items shut (n + length (handed_item b)) calls answers c a h.1 is in
    subst (λ (k : ℕ). TakeSideAnswer items shut k c.known a) (omega (arith, length-append (handed_item b) (handed_by answers))) rest

-- ---- which is exact

pub send_exact : (cfg : Config) (items : List Item) (shut : Bool) (handed to_all known : ℕ) (k : Call) (a : Answer) → SendSideAnswer cfg (length items) shut known k a → (a ≡ full → ⊥)
    → ((place : ℕ) → a ≡ Answer.Send (SendAnswer.Accepted place) → length items < to_all + cfg.capacity) → Exactly cfg items shut handed to_all k a
send_exact cfg items shut handed to_all known k a h never room = grind arith

pub full_exact : (cfg : Config) (items : List Item) (shut : Bool) (handed to_all known : ℕ) (k : Call) → SendSideAnswer cfg (length items) shut known k full → length items ≡ to_all + cfg.capacity → Exactly cfg items shut handed to_all k full
full_exact cfg items shut handed to_all known k h is = grind arith

pub take_exact : (cfg : Config) (items : List Item) (shut : Bool) (handed to_all known : ℕ) (a : Answer) → TakeSideAnswer items shut handed known a → (a ≡ Answer.Take TakeAnswer.Empty → (shut ≡ false) × (handed ≡ length items))
    → Exactly cfg items shut handed to_all Call.Take a
take_exact cfg items shut handed to_all known a h none = grind arith

-- a send that is accepted adds an item
pub accepts_one : (cfg : Config) (n known : ℕ) (shut : Bool) (pass : Pass) (k : Call) (number place : ℕ) → IsSenders cfg pass k → SendSideAnswer cfg n shut known k (Answer.Send (SendAnswer.Accepted place)) → length (sent_item pass k number place) ≡ 1
accepts_one cfg n known shut pass k number place is h = grind arith

-- ---- the places of such steps

pub open_of : (c : Config) (P : Type 0) (place : Phase) (found : ℕ) (a : Answer) → decides (lists c) place found ≡ Some a → WhileUndecided place P → P
open_of c P place found a e w = grind arith

pub enters_none : (c : Config) (place : Phase) (found : ℕ) (a : Answer) → decides (lists c) place found ≡ Some a → enters place ≡ None
enters_none c place found a e = grind arith

-- ---- Empty is decided at a null link

pub record FromNull (place : Phase) (found : ℕ) : Type 0 where
  pub job : Job
  pub dummy : ℕ
  pub taken : ℕ
  pub place_is : place ≡ Phase.Taking job (Taking.ReadDummyNext dummy taken)
  pub null : found ≡ 0

abbrev pub IsTakePlace : Phase → Type 0
IsTakePlace (Phase.Sending job service) = ⊥
IsTakePlace (Phase.Counting job service) = ⊥
IsTakePlace _ = Unit {0}

pub empty_from : (c : Config) (place : Phase) (found : ℕ) → IsTakePlace place → decides (lists c) place found ≡ Some (Answer.Take TakeAnswer.Empty) → FromNull place found
empty_from c (Phase.Taking job (Taking.ReadDummyNext dummy taken)) zero u e = record { job = job; dummy = dummy; taken = taken; place_is = refl; null = refl }
empty_from c place found never e = grind arith

-- ---- Full is decided at the last read of a scan

pub record FromScan (c : Config) (place : Phase) (found : ℕ) : Type 0 where
  pub job : Job
  pub parcel : Parcel
  pub at : ℕ
  pub reads : ℕ
  pub place_is : place ≡ Phase.Sending job (Sending.ReadPassed parcel at reads)
  pub busy : found ≢ groups c
  pub all : reads ≡ c.capacity + 1

abbrev NotFull : Next Sending → Type 0
NotFull next = answer_of next ≡ Some full → ⊥

either : (b : Bool) (first second : Next Sending) → NotFull first → NotFull second → NotFull (if b then first else second)
either b first second x y = grind arith

full_passed : (c : Config) (job : Job) (parcel : Parcel) (at reads found : ℕ) (free all : Bool) → (found == groups c) ≡ free → (reads == c.capacity + 1) ≡ all
    → answer_of (if free then On (Sending.ResetPassed parcel at) else if all then Decides full else On (Sending.ReadPassed parcel (after c at) (reads + 1))) ≡ Some full → FromScan c (Phase.Sending job (Sending.ReadPassed parcel at reads)) found
full_passed c job parcel at reads found false true e f h = record { job = job; parcel = parcel; at = at; reads = reads; place_is = refl; busy = eqb-false found (groups c) e; all = eqb-true reads (c.capacity + 1) f }
full_passed c job parcel at reads found _ _ e f h = absurd (cc)

full_in : (c : Config) (job : Job) (service : Sending) (found : ℕ) → send_side.decides c service found ≡ Some full → FromScan c (Phase.Sending job service) found
full_in c job (Sending.ReadShut request) zero h = absurd (cc)
full_in c job (Sending.ReadShut request) (suc found) h = absurd (either (request.tag == 0) (On Sending.ReadTotal) (Decides (Answer.Send SendAnswer.Closed)) (λ z. cc) (λ z. cc) h)
full_in c job (Sending.ReadCount request) found h =
    absurd (either (request.tag == 0) _ _ (λ z. cc) (either (found == c.life) (Decides (Answer.Send SendAnswer.Spent)) (On (Sending.ReadCursor record { place = found; tag = request.tag; body = request.body })) (λ z. cc) (λ z. cc)) h)
full_in c job (Sending.ReadPassed parcel at reads) found h = full_passed c job parcel at reads found (found == groups c) (reads == c.capacity + 1) refl refl h
full_in c job _ found h = absurd (cc)

abbrev pub IsSendPlace : Phase → Type 0
IsSendPlace (Phase.Taking job service) = ⊥
IsSendPlace (Phase.Counting job service) = ⊥
IsSendPlace _ = Unit {0}

pub full_from : (c : Config) (place : Phase) (found : ℕ) → IsSendPlace place → decides (lists c) place found ≡ Some full → FromScan c place found
full_from c (Phase.Sending job service) found u e = full_in c job service found e
full_from c place found u e = grind arith
