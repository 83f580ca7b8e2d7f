-- No send of a run returns Closed: the senders meet the closer before it closes, and there is no close in what they have seen
-- then.
use Rattle.std.proofs.Common.{◌≡◌, ℕ, zero, suc, ◌+◌, ◌<◌, ◌≤◌, inl, inr, Bool, true, false, List, [], ◌∷◌, length, Some, None, refl, sym, ap, ◌∙◌, subst, arith, eq-eqb, append-nil}
use Rattle.std.specs.List.{All, AllByRecursion, filter}
use Rattle.std.proofs.lemmas.Bool.{cases_lt}
use Rattle.cc_model.specs.Record.{Record}
use Rattle.cc_model.specs.Items.{answered, calls_of, is_pass, accepted_item, shuts}
use Rattle.cc_model.specs.Legal.{Legal, IsSenders, SendSideAnswer, SendSideAnswers}
use Rattle.cc_drive.specs.Names.{Body, Config, Call, Pass, Entry, Answer, SendAnswer, CloseAnswer, Setting}
use Rattle.cc_runs.specs.State.{pass_at}
use Rattle.cc_runs.specs.Run.{history_of}
use Rattle.cc_steps.specs.Topic.{Topic}
use Rattle.cc_steps.specs.Walk.{Walk, fresh}
use Rattle.cc_queue.specs.Met.{HasMet}
use Rattle.cc_queue.specs.Receipts.{sent}
use Rattle.cc_queue.proofs.Held.{sender_named}
use Rattle.cc_queue.proofs.OnItsSide.{Told, its, kept, on_its_side}
use Rattle.cc_drive.specs.Back.{one_word, IsBack, SenderIsBack, SendsFrom, IsNotClosed, calls}
use Rattle.cc_drive.specs.Row.{InRow}
use Rattle.cc_drive.proofs.Told.{nil_of}

abbrev IsSend : Told → Type 0
IsSend z = (body : Body) × (z.0.call ≡ Call.Send body)

sends_all : (n : ℕ) (zs : List Told) → SendsFrom n zs → AllByRecursion IsSend zs
sends_all n [] s = tt
sends_all n (z ∷ zs) s = ((one_word n, s.0), sends_all (n + length (sent z)) zs s.1)

-- ---- if each sender made sends alone

tail_all : (P : Told → Type 0) (b : Bool) (z : Told) (zs : List Told) → AllByRecursion P (kept b z zs) → AllByRecursion P zs
tail_all P true z zs all = all.1
tail_all P false z zs all = all

filter_all : (P : Told → Type 0) (f : Told → Bool) (zs : List Told) → AllByRecursion P zs → AllByRecursion P (filter f zs)
filter_all P f [] all = tt
filter_all P f (z ∷ zs) all = go (f z) (filter_all P f zs all.1)
  where
    go : (b : Bool) → AllByRecursion P (filter f zs) → AllByRecursion P (kept b z (filter f zs))
    go true rest = (all.0, rest)
    go false rest = rest

one_send : (cfg : Config) (p : Pass) (c : Call) (z : Told) (rest : ℕ → List Told) → IsSenders cfg p c → ((s : ℕ) → 1 ≤ s → s ≤ cfg.senders → AllByRecursion IsSend (kept (is_pass (Pass.Sender s) p) z (rest s))) → IsSend z
one_send cfg (Pass.Sender s) (Call.Send body) z rest is each = (subst (λ (b : Bool). AllByRecursion IsSend (kept b z (rest s))) (eq-eqb s s refl) (each s is.0 is.1)).0
one_send cfg (Pass.Sender s) Call.Close z rest is each = (subst (λ (b : Bool). AllByRecursion IsSend (kept b z (rest s))) (eq-eqb s s refl) (each s is.0 is.1)).0
one_send cfg (Pass.Sender s) Call.Take z rest is each = absurd is
one_send cfg (Pass.Receiver r) c z rest is each = absurd is

each_send : (cfg : Config) (entries : List Entry) (answers : List Answer) → AllByRecursion (λ c. IsSenders cfg c.pass c.call) entries → ((s : ℕ) → 1 ≤ s → s ≤ cfg.senders → AllByRecursion IsSend (its (Pass.Sender s) entries answers)) → AllByRecursion IsSend (answered entries answers)
each_send cfg [] answers are each = tt
each_send cfg (c ∷ entries) [] are each = (
  one_send cfg c.pass c.call (c, None) (λ s. its (Pass.Sender s) entries []) are.0 each,
  each_send cfg entries [] are.1 (λ s low high. tail_all IsSend (is_pass (Pass.Sender s) c.pass) (c, None) (its (Pass.Sender s) entries []) (each s low high)),
)
each_send cfg (c ∷ entries) (a ∷ answers) are each = (
  one_send cfg c.pass c.call (c, Some a) (λ s. its (Pass.Sender s) entries answers) are.0 each,
  each_send cfg entries answers are.1 (λ s low high. tail_all IsSend (is_pass (Pass.Sender s) c.pass) (c, Some a) (its (Pass.Sender s) entries answers) (each s low high)),
)

-- ---- nothing is answered that the queue is closed

answer_of_send : (cfg : Config) (count known : ℕ) (e : Entry) (c : Call) (a : Answer) (body : Body) → c ≡ Call.Send body → SendSideAnswer cfg count false known c a → IsNotClosed (e, Some a) × (shuts a ≡ false)
answer_of_send cfg count known e c (Answer.Send (SendAnswer.Accepted place)) body is k = (tt, refl)
answer_of_send cfg count known e c (Answer.Send SendAnswer.Full) body is k = (tt, refl)
answer_of_send cfg count known e c (Answer.Send SendAnswer.Spent) body is k = (tt, refl)
answer_of_send cfg count known e (Call.Send other) (Answer.Send SendAnswer.Closed) body is k = absurd k
answer_of_send cfg count known e Call.Close (Answer.Send SendAnswer.Closed) body is k = absurd k
answer_of_send cfg count known e Call.Take (Answer.Send SendAnswer.Closed) body is k = absurd k
answer_of_send cfg count known e (Call.Send other) (Answer.Close (CloseAnswer.Shut total)) body is k = absurd k
answer_of_send cfg count known e Call.Close (Answer.Close (CloseAnswer.Shut total)) body is k = absurd (cc is)
answer_of_send cfg count known e Call.Take (Answer.Close (CloseAnswer.Shut total)) body is k = absurd k
answer_of_send cfg count known e c (Answer.Close (CloseAnswer.Already total)) body is k = (tt, refl)
answer_of_send cfg count known e c (Answer.Take told) body is k = (tt, refl)

none_closed : (cfg : Config) (count : ℕ) (entries : List Entry) (answers : List Answer) → AllByRecursion IsSend (answered entries answers) → SendSideAnswers cfg count false entries answers → AllByRecursion IsNotClosed (answered entries answers)
none_closed cfg count [] answers all k = tt
none_closed cfg count (c ∷ entries) [] all k = (tt, none_closed cfg count entries [] all.1 tt)
none_closed cfg count (c ∷ entries) (a ∷ answers) all k =
    let one = answer_of_send cfg count c.known c c.call a all.0.0 all.0.1 k.0 in
    (one.0, none_closed cfg (count + length (accepted_item c a)) entries answers all.1 (subst (λ (b : Bool). SendSideAnswers cfg (count + length (accepted_item c a)) b entries answers) one.1 k.1))

-- ---- the senders of a run, and its closer

-- the calls of a pass, in the history that others have seen too
calls_at : (z : Topic) (row : ℕ) (w : Walk) (h : Record) → IsBack z row w → history_of z.setting w.seen ≡ h → calls w ≡ calls_of (pass_at z.setting.config row) h
calls_at z row w h b same = (λ i. calls_of (pass_at (b.here.1 i).config (b.at i)) (history_of (b.here.1 i) w.seen)) ∙ ap (calls_of (pass_at z.setting.config row)) same

row_sends : (z : Topic) (items n : ℕ) (ws : List Walk) (h : Record) → InRow (SenderIsBack z items) n ws → All (λ w. history_of z.setting w.seen ≡ h) ws → (k : ℕ) → n ≤ k → k < n + length ws → AllByRecursion IsSend (calls_of (pass_at z.setting.config k) h)
row_sends z items n [] h row same k low high = absurd (omega (arith, low, high))
row_sends z items n (w ∷ ws) h row same k low high = elim (cases_lt n k) [
  | inl later ↦ row_sends z items (n + 1) ws h row.1 (λ j d less. same (suc j) d (omega (arith, less))) k (omega (arith, later)) (omega (arith, high))
  | inr here ↦
      let at : n ≡ k = omega (arith, here, low) in
      subst (AllByRecursion IsSend) (calls_at z n w h row.0.back (same 0 w (omega arith)) ∙ ap (λ (m : ℕ). calls_of (pass_at z.setting.config m) h) at) (sends_all 1 (calls w) row.0.sends)
]

row_unclosed : (z : Topic) (items n : ℕ) (ws : List Walk) (h : Record) → n + length ws ≤ z.setting.config.senders → Legal z.setting.config h → InRow (SenderIsBack z items) n ws → All (λ w. history_of z.setting w.seen ≡ h) ws
    → AllByRecursion IsNotClosed (answered h.sends.calls h.sends.answers) → AllByRecursion (λ w. AllByRecursion IsNotClosed (calls w)) ws
row_unclosed z items n [] h few l row same none = tt
row_unclosed z items n (w ∷ ws) h few l row same none =
    let its_own : calls w ≡ its (Pass.Sender (1 + n)) h.sends.calls h.sends.answers =
    calls_at z n w h row.0.back (same 0 w (omega arith)) ∙ ap (λ (p : Pass). calls_of p h) (sender_named z.setting.config n (omega (arith, few))) ∙ on_its_side z.setting.config h (Pass.Sender (1 + n)) l in (
      subst (AllByRecursion IsNotClosed) (sym its_own) (filter_all IsNotClosed (λ x. is_pass (Pass.Sender (1 + n)) x.0.pass) (answered h.sends.calls h.sends.answers) none),
      row_unclosed z items (n + 1) ws h (omega (arith, few)) l row.1 (λ j d less. same (suc j) d (omega (arith, less))) none,
    )

-- if they have seen one run before the close
pub unclosed : (z : Topic) (items : ℕ) (senders : List Walk) (met : Walk) → z.setting.config.senders ≡ length senders + 1 → InRow (SenderIsBack z items) 0 senders → HasMet (fresh z (length senders)) met → All (λ s. s.seen ≡ met.seen) senders
    → AllByRecursion (λ w. AllByRecursion IsNotClosed (calls w)) senders
unclosed z items senders met count row m after =
    let cfg : Config = z.setting.config in
    let h : Record = history_of z.setting met.seen in
    let here : met.setting ≡ z.setting = m.stands.same.1 in
    let valid : Legal cfg h = subst (λ (s : Setting). Legal s.config (history_of s met.seen)) here m.stands.legal in
    let same : All (λ w. history_of z.setting w.seen ≡ h) senders = λ k d less. ap (history_of z.setting) (after k d less) in
    let none : calls met ≡ [] = nil_of (calls met) (m.stands.calls_are ∙ m.stands.made ∙ append-nil []) in
    let closers : calls met ≡ calls_of (pass_at cfg (length senders)) h = λ i. calls_of (pass_at (here i).config (m.stands.same.2 i)) (history_of (here i) met.seen) in
    let by_place : (k : ℕ) → k < cfg.senders → AllByRecursion IsSend (calls_of (pass_at cfg k) h) = λ k less. elim (cases_lt k (length senders)) [
      | inl before ↦ row_sends z items 0 senders h row same k (omega arith) (omega (arith, before))
      | inr last ↦
          let at : k ≡ length senders = omega (arith, last, less, count) in
          subst (λ (zs : List Told). AllByRecursion IsSend zs) (sym none ∙ closers ∙ ap (λ (n : ℕ). calls_of (pass_at cfg n) h) (sym at)) tt
    ] in
    let by_number : (s : ℕ) → 1 ≤ s → s ≤ cfg.senders → AllByRecursion IsSend (its (Pass.Sender s) h.sends.calls h.sends.answers) = λ s low high. numbered cfg h valid by_place s low high in
    row_unclosed z items 0 senders h (omega (arith, count)) valid row same (none_closed cfg 0 h.sends.calls h.sends.answers (each_send cfg h.sends.calls h.sends.answers valid.senders by_number) valid.answers)
  where
    numbered : (cfg : Config) (h : Record) → Legal cfg h → ((k : ℕ) → k < cfg.senders → AllByRecursion IsSend (calls_of (pass_at cfg k) h)) → (s : ℕ) → 1 ≤ s → s ≤ cfg.senders → AllByRecursion IsSend (its (Pass.Sender s) h.sends.calls h.sends.answers)
    numbered cfg h l each zero low high = absurd (omega (arith, low))
    numbered cfg h l each (suc k) low high =
        let less : k < cfg.senders = omega (arith, high) in
        let at : 1 + k ≡ suc k = omega arith in
        subst (λ (s : ℕ). AllByRecursion IsSend (its (Pass.Sender s) h.sends.calls h.sends.answers)) at
        (subst (AllByRecursion IsSend) (ap (λ (p : Pass). calls_of p h) (sender_named cfg k less) ∙ on_its_side cfg h (Pass.Sender (1 + k)) l) (each k less))
