-- The counter over every run: its word, the answers, and how many there can be.
use Rattle.std.proofs.Common.{◌≡◌, ◌≢◌, ℕ, zero, suc, ◌+◌, ◌*◌, ◌-◌, ◌^◌, ◌<◌, ◌≤◌, refl, ap, sym, ◌∙◌, subst, arith, inl, inr, Option, None, List, [], ◌∷◌, ◌++◌, length}
use Rattle.std.proofs.lemmas.Bool.{cases_eq}
use Rattle.std.proofs.lemmas.List.{length_push, get_or_push, get_or_append_left}
use Rattle.cc_runs.specs.Names.{Config, Entry, Answer, SendAnswer, Setting, Served, Chain, Object, Word, Event, Job, Round, Stand, Counting, Phase}
use Rattle.cc_runs.specs.Codes.{further_words}
use Rattle.cc_runs.specs.State.{State, hold, appended, word_of}
use Rattle.cc_runs.specs.Lines.{operation, goes, event_at, enters, decides, after_next}
use Rattle.cc_runs.specs.Step.{stepped_from, advanced}
use Rattle.cc_runs.specs.Run.{passes, passes_of}
use Rattle.cc_runs.specs.CallsMade.{before_exchange}
use Rattle.cc_runs.proofs.Leads.{IsAfter, goes_after}
use Rattle.cc_runs.proofs.ReadWords.{behind_word}
use Rattle.cc_runs.proofs.Chains.Frame.{hold_here, hold_apart}
use Rattle.cc_runs.proofs.Chains.View.{post_of, post_at}
use Rattle.cc_runs.proofs.Chains.Registers.{call_at, answer_at, no_answer, HasService}
use Rattle.cc_runs.proofs.Chains.Ties.{ghost_of, Holds}
use Rattle.cc_runs.proofs.Chains.Own.{sends_where, takes_where}

-- a combiner that has read the counter knows how many answers there are
abbrev pub HasCount : ℕ → Phase → Type 0
HasCount n (Phase.Counting job (Counting.WriteCount count)) = count ≡ n
HasCount n _ = Unit {0}

-- if a step doesn't touch the counter, and comes neither from nor to a wait for the exchange
pub record IsCalm (there : Phase) : Type 0 where
  pub waits_not : before_exchange there ≡ 0
  pub counts_not : (n : ℕ) → HasCount n there

calm_after : (at : Phase) → IsAfter ⊥ at → IsCalm at
calm_after (Phase.ResetNext call) never = absurd never
calm_after (Phase.ResetState call) never = absurd never
calm_after (Phase.Exchange call) never = absurd never
calm_after (Phase.Counting job service) never = absurd never
calm_after (Phase.Sending job service) never = absurd never
calm_after (Phase.Taking job service) never = absurd never
calm_after _ u = record { waits_not = refl; counts_not = λ n. tt }

calm_next : (s : Served) → s ≡ Served.Counter → (round : Round) (found : ℕ) → IsCalm (after_next s Chain.Send round found)
calm_next s e round zero = record { waits_not = refl; counts_not = λ n. tt }
calm_next Served.Counter e round (suc found) = record { waits_not = refl; counts_not = λ n. tt }
calm_next Served.List e round (suc found) = absurd (cc)

-- the calls of a pass that have exchanged, and those of the first n passes
abbrev pub gone : Stand → ℕ
gone at = at.begun - before_exchange at.phase

abbrev pub total : (ℕ → Stand) → ℕ → ℕ
total stands zero = 0
total stands (suc n) = gone (stands n) + total stands n

total_far : (stands : ℕ → Stand) (p n : ℕ) (there : Stand) → n ≤ p → total (hold stands p there) n ≡ total stands n
total_far stands p zero there far = refl
total_far stands p (suc n) there far =
    let here : gone (hold stands p there n) ≡ gone (stands n) = ap gone (hold_apart stands p n there (λ same. omega arith)) in
    omega (arith, total_far stands p n there (omega arith))

total_near : (stands : ℕ → Stand) (p n : ℕ) (there : Stand) → p < n → total (hold stands p there) n + gone (stands p) ≡ total stands n + gone there
total_near stands p zero there near = absurd (omega arith)
total_near stands p (suc n) there near = grind (
  arith,
  hold_here stands p there,
  total_far stands p n there,
  hold_apart stands p n there,
  total_near stands p n there,
)

pub total_most : (stands : ℕ → Stand) (n : ℕ) → ((p : ℕ) → p < n → (stands p).begun ≤ 2 ^ 32) → total stands n ≤ n * 2 ^ 32
total_most stands zero few = omega arith
total_most stands (suc n) few = omega (arith, few n (omega arith), total_most stands n (λ p less. few p (omega arith)))

pub total_none : (stands : ℕ → Stand) (n : ℕ) → ((p : ℕ) → p < n → (stands p).begun ≡ 0) → total stands n ≡ 0
total_none stands zero none = refl
total_none stands (suc n) none = omega (arith, none n (omega arith), total_none stands n (λ p less. none p (omega arith)))

pub record Counts (c : Setting) (s : State) : Type 0 where
  pub count : s.mem (Word.Object Object.Count) ≡ length s.history.sends.answers
  pub counted : (p : ℕ) → p < passes c → HasCount (length s.history.sends.answers) (s.stand p).phase
  pub kth : (k : ℕ) → k < length s.history.sends.answers → answer_at s.history.sends.answers k ≡ Answer.Send (SendAnswer.Accepted k)
  pub begun_in : (p : ℕ) → p < passes c → (s.stand p).begun ≤ c.config.per_sender
  pub began : (p : ℕ) → p < passes c → before_exchange (s.stand p).phase ≤ (s.stand p).begun
  pub calls : length s.history.sends.calls ≡ total s.stand (passes c)

module _ (c : Setting) (s : State) (p : ℕ) (inside : p < passes c) (k : Counts c s) (there : Stand) where
  begun_after_all : there.begun ≤ c.config.per_sender → (q : ℕ) → q < passes c → (hold s.stand p there q).begun ≤ c.config.per_sender
  begun_after_all few q qn = grind (arith, hold_here s.stand p there, hold_apart s.stand p q there, k.begun_in q qn)

  began_all : before_exchange there.phase ≤ there.begun → (q : ℕ) → q < passes c → before_exchange (hold s.stand p there q).phase ≤ (hold s.stand p there q).begun
  began_all few q qn = grind (arith, hold_here s.stand p there, hold_apart s.stand p q there, k.began q qn)

  counted_all : (n : ℕ) → HasCount n there.phase → ((q : ℕ) → q < passes c → q ≢ p → HasCount n (s.stand q).phase) → (q : ℕ) → q < passes c → HasCount n (hold s.stand p there q).phase
  counted_all n here others q qn = grind (arith, hold_here s.stand p there, hold_apart s.stand p q there, others q qn)

  -- the pass goes there, and the history stays but for calls
  pub counts_on : (t : State) → t.stand ≡ hold s.stand p there → t.mem (Word.Object Object.Count) ≡ s.mem (Word.Object Object.Count) → t.history.sends.answers ≡ s.history.sends.answers →
      length t.history.sends.calls + gone (s.stand p) ≡ length s.history.sends.calls + gone there → HasCount (length s.history.sends.answers) there.phase → there.begun ≤ c.config.per_sender → before_exchange there.phase ≤ there.begun → Counts c t
  counts_on t stands mem answers calls counted begun began = record {
    count = mem ∙ k.count ∙ ap length (sym answers);
    counted = λ q qn. subst (λ (l : List Answer). HasCount (length l) (t.stand q).phase) (sym answers)
        (subst (λ (f : ℕ → Stand). HasCount (length s.history.sends.answers) (f q).phase) (sym stands) (counted_all (length s.history.sends.answers) counted (λ r rn ne. k.counted r rn) q qn));
    kth = λ j l. subst (λ (z : List Answer). answer_at z j ≡ Answer.Send (SendAnswer.Accepted j)) (sym answers) (k.kth j (omega (arith, ap length answers)));
    begun_in = λ q qn. subst (λ (f : ℕ → Stand). (f q).begun ≤ c.config.per_sender) (sym stands) (begun_after_all begun q qn);
    began = λ q qn. subst (λ (f : ℕ → Stand). before_exchange (f q).phase ≤ (f q).begun) (sym stands) (began_all began q qn);
    calls = omega (arith, k.calls, total_near s.stand p (passes c) there inside, ap (λ (f : ℕ → Stand). total f (passes c)) stands);
  }

  -- one answer more
  counts_more : (t : State) (others : (q : ℕ) → q < passes c → q ≢ p → (n : ℕ) → HasCount n (s.stand q).phase) → t.stand ≡ hold s.stand p there →
      t.mem (Word.Object Object.Count) ≡ length s.history.sends.answers + 1 → t.history.sends.answers ≡ s.history.sends.answers ++ Answer.Send (SendAnswer.Accepted (length s.history.sends.answers)) ∷ [] →
      t.history.sends.calls ≡ s.history.sends.calls → gone there ≡ gone (s.stand p) → ((n : ℕ) → HasCount n there.phase) → there.begun ≤ c.config.per_sender → before_exchange there.phase ≤ there.begun → Counts c t
  counts_more t others stands mem answers calls same counted begun began =
      let a : Answer = Answer.Send (SendAnswer.Accepted (length s.history.sends.answers)) in
      let long : length t.history.sends.answers ≡ length s.history.sends.answers + 1 = ap length answers ∙ length_push s.history.sends.answers a in
      record {
        count = mem ∙ sym long;
        counted = λ q qn. subst (λ (f : ℕ → Stand). HasCount (length t.history.sends.answers) (f q).phase) (sym stands)
            (counted_all (length t.history.sends.answers) (counted (length t.history.sends.answers)) (λ r rn ne. others r rn ne (length t.history.sends.answers)) q qn);
        kth = λ j l. subst (λ (z : List Answer). answer_at z j ≡ Answer.Send (SendAnswer.Accepted j)) (sym answers) (elim (cases_eq j (length s.history.sends.answers)) [
          | inl is ↦ get_or_push s.history.sends.answers a no_answer j (sym is) ∙ ap (λ (z : ℕ). Answer.Send (SendAnswer.Accepted z)) (sym is)
          | inr ne ↦ let less : j < length s.history.sends.answers = omega (arith, long) in get_or_append_left s.history.sends.answers (a ∷ []) no_answer j less ∙ k.kth j less
        ]);
        begun_in = λ q qn. subst (λ (f : ℕ → Stand). (f q).begun ≤ c.config.per_sender) (sym stands) (begun_after_all begun q qn);
        began = λ q qn. subst (λ (f : ℕ → Stand). before_exchange (f q).phase ≤ (f q).begun) (sym stands) (began_all began q qn);
        calls = omega (arith, k.calls, total_near s.stand p (passes c) there inside, ap (λ (f : ℕ → Stand). total f (passes c)) stands, ap length calls);
      }

-- a counter has senders alone
pub senders_only : (what : Served) (config : Config) → what ≡ Served.Counter → passes_of what config ≡ config.senders
senders_only what config e = grind arith

pub not_both : Served.Counter ≡ Served.List → ⊥
not_both e = cc

-- only a combiner has read the counter
not_counting : (own : ℕ) (at : Phase) → (post_of Chain.Send own at).rank ≢ 5 → (n : ℕ) → HasCount n at
not_counting own at ne n = grind arith

module _ (c : Setting) (counter : c.served ≡ Served.Counter) (s : State) (k : Counts c s) (w : Holds c Chain.Send s) (p begun own : ℕ) (inside : p < passes c) (member : p < c.config.senders) where
  abbrev Here : Phase → Type 0
  Here at = s.stand p ≡ record { begun = begun; node = own; phase = at }

  abbrev next : Phase → State
  next at = stepped_from c s Chain.Send p record { begun = begun; node = own; phase = at }

  abbrev found : Phase → ℕ
  found at = s.mem (word_of (operation c Chain.Send own at))

  begun_is : (at : Phase) → Here at → begun ≤ c.config.per_sender
  begun_is at e = subst (λ (z : Stand). z.begun ≤ c.config.per_sender) e (k.begun_in p inside)

  waits_is : (at : Phase) → Here at → before_exchange at ≤ begun
  waits_is at e = subst (λ (z : Stand). before_exchange z.phase ≤ z.begun) e (k.began p inside)

  quiet : (at there : Phase) → Here at → goes c Chain.Send own at (found at) ≡ there → before_exchange there ≡ before_exchange at → HasCount (length s.history.sends.answers) there → (next at).mem (Word.Object Object.Count) ≡ s.mem (Word.Object Object.Count) →
      enters at ≡ None → decides c at (found at) ≡ None → Counts c (next at)
  quiet at there e go wait counted mem enter none =
      let old : gone (s.stand p) ≡ begun - before_exchange at = ap gone e in
      let same : before_exchange (goes c Chain.Send own at (found at)) ≡ before_exchange at = ap before_exchange go ∙ wait in
      counts_on c s p inside k (advanced c Chain.Send record { begun = begun; node = own; phase = at } (found at)) (next at) refl mem (ap (λ (z : Option Answer). appended s.history.sends.answers z) none)
      (omega (arith, old, same, ap (λ (z : Option Entry). length (appended s.history.sends.calls z)) enter))
      (subst (λ (z : Phase). HasCount (length s.history.sends.answers) z) (sym go) counted) (begun_is at e) (omega (arith, same, waits_is at e))

  calm : (at there : Phase) → Here at → goes c Chain.Send own at (found at) ≡ there → before_exchange at ≡ 0 → IsCalm there → (next at).mem (Word.Object Object.Count) ≡ s.mem (Word.Object Object.Count) → enters at ≡ None → decides c at (found at) ≡ None → Counts c (next at)
  calm at there e go wait is mem enter none = quiet at there e go (is.waits_not ∙ sym wait) (is.counts_not (length s.history.sends.answers)) mem enter none

  exchange : (call : Entry) → Here (Phase.Exchange call) → Counts c (next (Phase.Exchange call))
  exchange call e =
      let old : gone (s.stand p) ≡ begun - 1 = ap gone e in
      counts_on c s p inside k (advanced c Chain.Send record { begun = begun; node = own; phase = Phase.Exchange call } (found (Phase.Exchange call))) (next (Phase.Exchange call)) refl refl refl
      (omega (arith, old, waits_is (Phase.Exchange call) e, length_push s.history.sends.calls call)) tt (begun_is (Phase.Exchange call) e) (omega arith)

  me : (at : Phase) → Here at → (post_of Chain.Send own at).rank ≡ 5 → (ghost_of w).server ≡ p + 1
  me at e five = w.inv.server.server_is p member (ap (λ (z : Stand). (post_at Chain.Send z).rank) e ∙ five)

  others : (at : Phase) → Here at → (post_of Chain.Send own at).rank ≡ 5 → (q : ℕ) → q < passes c → q ≢ p → (n : ℕ) → HasCount n (s.stand q).phase
  others at e five q qn ne n =
      not_counting (s.stand q).node (s.stand q).phase (λ same. ne (omega (arith, me at e five, w.inv.server.server_is q (omega (arith, senders_only c.served c.config counter)) same))) n

  write_count : (job : Job) (count : ℕ) → Here (Phase.Counting job (Counting.WriteCount count)) → Counts c (next (Phase.Counting job (Counting.WriteCount count)))
  write_count job count e =
      let is : count ≡ length s.history.sends.answers = subst (λ (z : Stand). HasCount (length s.history.sends.answers) z.phase) e (k.counted p inside) in
      counts_more c s p inside k (advanced c Chain.Send record { begun = begun; node = own; phase = Phase.Counting job (Counting.WriteCount count) } (found (Phase.Counting job (Counting.WriteCount count)))) (next (Phase.Counting job (Counting.WriteCount count)))
      (others (Phase.Counting job (Counting.WriteCount count)) e refl) refl (ap (λ (z : ℕ). z + 1) is) (ap (λ (z : ℕ). s.history.sends.answers ++ Answer.Send (SendAnswer.Accepted z) ∷ []) is) refl (sym (ap gone e)) (λ n. tt)
      (begun_is (Phase.Counting job (Counting.WriteCount count)) e) (omega arith)

  serves_at : (at : Phase) → Here at → (post_of Chain.Send own at).rank ≡ 5 → HasService c.served Chain.Send (call_at s.history.sends.calls (ghost_of w).marked) (answer_at s.history.sends.answers (ghost_of w).marked) at
  serves_at at e five = subst (λ (z : Stand). HasService c.served Chain.Send (call_at s.history.sends.calls (ghost_of w).marked) (answer_at s.history.sends.answers (ghost_of w).marked) z.phase) e (w.ties.served p (me at e five))

  counting_step : (job : Job) (service : Counting) → Here (Phase.Counting job service) → Counts c (next (Phase.Counting job service))
  counting_step job Counting.ReadTag e = quiet (Phase.Counting job Counting.ReadTag) _ e refl refl tt refl refl refl
  counting_step job (Counting.ReadBody tag i) e = calm (Phase.Counting job (Counting.ReadBody tag i)) _ e refl refl (behind_word (λ (z : Counting). IsCalm (Phase.Counting job z)) (further_words tag) i _ _ (λ more. record { waits_not = refl; counts_not = λ n. tt }) (λ last. record { waits_not = refl; counts_not = λ n. tt })) refl refl refl
  counting_step job Counting.ReadCount e = quiet (Phase.Counting job Counting.ReadCount) (Phase.Counting job (Counting.WriteCount (s.mem (Word.Object Object.Count)))) e refl refl k.count refl refl refl
  counting_step job (Counting.WriteCount count) e = write_count job count e

  pub counts_step : (at : Phase) → Here at → event_at at ≢ Event.Idle → Counts c (next at)
  counts_step Phase.Idle e busy = absurd (busy refl)
  counts_step (Phase.ResetNext call) e busy = quiet (Phase.ResetNext call) (Phase.ResetState call) e refl refl tt refl refl refl
  counts_step (Phase.ResetState call) e busy = quiet (Phase.ResetState call) (Phase.Exchange call) e refl refl tt refl refl refl
  counts_step (Phase.Exchange call) e busy = exchange call e
  counts_step (Phase.ReadNext round) e busy = calm (Phase.ReadNext round) _ e refl refl (calm_next c.served counter round (found (Phase.ReadNext round))) refl refl refl
  counts_step (Phase.Counting job service) e busy = counting_step job service e
  counts_step (Phase.Sending job service) e busy =
      let no : c.served ≡ Served.List = (sends_where c.served Chain.Send _ (serves_at (Phase.Sending job service) e refl)).0 in absurd (not_both (sym counter ∙ no))
  counts_step (Phase.Taking job service) e busy = let no : c.served ≡ Served.List = (takes_where c.served Chain.Send (serves_at (Phase.Taking job service) e refl)).0 in absurd (not_both (sym counter ∙ no))
  counts_step (Phase.Finished told) e busy = absurd (busy refl)
  counts_step at e busy = calm at _ e refl refl (goes_after ⊥ IsCalm calm_after c Chain.Send own at (found at) tt) refl refl refl
