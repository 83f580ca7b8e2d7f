-- Each move keeps what holds of the passes and of the calls.
use Rattle.std.proofs.Common.{◌≡◌, ◌≢◌, ℕ, zero, suc, ◌+◌, ◌*◌, ◌<◌, ◌≤◌, ◌^◌, ◌==◌, List, [], ◌∷◌, ◌++◌, length, Bool, true, false, inl, inr, refl, sym, ap, ◌∙◌, subst, arith, length-append, append-nil, if◌then◌else◌}
use Rattle.std.proofs.lemmas.Bool.{cases_eq, eq-eqb, eqb-true}
use Rattle.cc_model.specs.Record.{Record, of_group}
use Rattle.cc_model.specs.Items.{known_at, handed_to_all, entries}
use Rattle.std.specs.List.{AllByRecursion}
use Rattle.cc_model.specs.Config.{group_of}
use Rattle.cc_model.specs.Legal.{IsSenders, IsReceivers, CountsFrom, send_number, send_numbers}
use Rattle.cc_runs.specs.Names.{Config, Pass, Call, Entry, Served, Chain, Word, Job, Round, Phase, Sending, Taking, Stand}
use Rattle.cc_model.proofs.Grows.{all-append, counts_more, send_numbers-append}
use Rattle.cc_runs.specs.Words.{groups}
use Rattle.cc_runs.specs.State.{State, chain_of, pass_at, hold}
use Rattle.cc_runs.specs.Lines.{goes, after_next, after_exchange}
use Rattle.cc_runs.specs.SendLines as send_side
use Rattle.cc_runs.specs.TakeLines as take_side
use Rattle.cc_runs.specs.Run.{passes, IsOn, IsIdle}
use Rattle.cc_runs.proofs.ListRuns.View.{hold_all}
use Rattle.cc_runs.proofs.ListRuns.Facts.{lists}
use Rattle.cc_model.specs.Body.{HasBody}
use Rattle.cc_runs.proofs.ListRuns.Fits.{FitsTag, sender_number}
use Rattle.cc_runs.proofs.ListRuns.Posts.{Begun, IsTakes, Well, Posts, Calls, HasNumber, waits, is_send, well_grows, all_map}
use Rattle.cc_runs.proofs.ListRuns.Untouched.{plain_goes}
use Rattle.cc_runs.proofs.Leads.{leads}

-- ---- the places after a service's steps

-- a place in the service of chain x, or after it
record Kept (x : Chain) (at : Phase) : Type 0 where
  well : (h : Record) (pass : Pass) (begun : ℕ) → Well h x pass begun at
  waits_none : waits at ≡ 0

sends : (x : Chain) (job : Job) (service : Sending) → x ≡ Chain.Send → Kept x (Phase.Sending job service)
sends x job service e = record { well = λ h pass begun. e; waits_none = refl }

takes : (x : Chain) (job : Job) (service : Taking) → IsTakes x → Kept x (Phase.Taking job service)
takes x job service e = record { well = λ h pass begun. e; waits_none = refl }

over : (x : Chain) (job : Job) (told : _) → Kept x (Phase.WriteAnswer job told)
over x job told = record { well = λ h pass begun. tt; waits_none = refl }

send_kept : (c : Config) (x : Chain) (job : Job) (service : Sending) (found : ℕ) → x ≡ Chain.Send → Kept x (send_side.goes c job service found)
send_kept c x job service found e = leads (Kept x) send_side.in_service job (λ s. sends x job s e) (over x job) (send_side.line c 0 service found).next

take_kept : (x : Chain) (job : Job) (service : Taking) (found : ℕ) → IsTakes x → Kept x (take_side.goes job service found)
take_kept x job service found e = leads (Kept x) take_side.in_service job (λ s. takes x job s e) (over x job) (take_side.line 0 service found).next

next_kept : (x : Chain) (round : Round) (found : ℕ) → Kept x (after_next Served.List x round found)
next_kept x round zero = record { well = λ h pass begun. tt; waits_none = refl }
next_kept Chain.Send round (suc n) = sends Chain.Send _ _ refl
next_kept (Chain.Take g) round (suc n) = takes (Chain.Take g) _ _ tt

exchange_kept : (x : Chain) (own : ℕ) (e : Entry) → Kept x (after_exchange x own e)
exchange_kept Chain.Send own e = record { well = λ h pass begun. tt; waits_none = refl }
exchange_kept (Chain.Take g) own e = record { well = λ h pass begun. tt; waits_none = refl }

-- ---- the places after each step

pub next_well : (c : Config) (x : Chain) (own : ℕ) (at : Phase) (found : ℕ) (h later : Record) (pass : Pass) (begun : ℕ) → known_at pass h ≤ known_at pass later → Well h x pass begun at → Well later x pass begun (goes (lists c) x own at found)
next_well c x own (Phase.ResetNext e) found h later pass begun up w = well_grows h later x pass begun (Phase.ResetState e) up w
next_well c x own (Phase.ResetState e) found h later pass begun up w = well_grows h later x pass begun (Phase.Exchange e) up w
next_well c x own (Phase.Exchange e) found h later pass begun up w = (exchange_kept x own e).well later pass begun
next_well c x own (Phase.ReadNext round) found h later pass begun up w = (next_kept x round found).well later pass begun
next_well c x own (Phase.Sending job service) found h later pass begun up w = (send_kept c x job service found w).well later pass begun
next_well c x own (Phase.Taking job service) found h later pass begun up w = (take_kept x job service found w).well later pass begun
next_well c x own (Phase.Counting job service) found h later pass begun up w = absurd w
next_well c x own Phase.Idle found h later pass begun up w = tt
next_well c x own at found h later pass begun up w = (plain_goes c x own at found tt).well later x pass begun

-- an exchange ends the wait
abbrev pub waits_after : Phase → ℕ
waits_after (Phase.Exchange e) = 0
waits_after at = waits at

pub next_waits : (c : Config) (x : Chain) (own : ℕ) (at : Phase) (found : ℕ) (h : Record) (pass : Pass) (begun : ℕ) → Well h x pass begun at → waits (goes (lists c) x own at found) ≡ waits_after at
next_waits c x own (Phase.ResetNext e) found h pass begun w = refl
next_waits c x own (Phase.ResetState e) found h pass begun w = refl
next_waits c x own (Phase.Exchange e) found h pass begun w = (exchange_kept x own e).waits_none
next_waits c x own (Phase.ReadNext round) found h pass begun w = (next_kept x round found).waits_none
next_waits c x own (Phase.Sending job service) found h pass begun w = (send_kept c x job service found w).waits_none
next_waits c x own (Phase.Taking job service) found h pass begun w = (take_kept x job service found w).waits_none
next_waits c x own (Phase.Counting job service) found h pass begun w = absurd w
next_waits c x own Phase.Idle found h pass begun w = refl
next_waits c x own at found h pass begun w = (plain_goes c x own at found tt).waits_none

-- ---- pass p goes on, in a history of which no less is known

module _ (c : Config) (s : State) (p : ℕ) (now : Stand) (mem' : Word → ℕ) (later : Record) (posts : Posts c s) (within : p < passes (lists c)) (up : (pass : Pass) → known_at pass s.history ≤ known_at pass later) where
  abbrev t : State
  t = record { mem = mem'; stand = hold s.stand p now; history = later }

  pub posts_on : now.begun ≤ c.per_sender → Well later (chain_of c p) (pass_at c p) now.begun now.phase
      → (p < c.senders → length (send_numbers (p + 1) later.sends.calls) + waits now.phase ≡ now.begun)
      → ((q : ℕ) → p ≢ q → length (send_numbers (q + 1) later.sends.calls) ≡ length (send_numbers (q + 1) s.history.sends.calls))
      → Posts c t
  posts_on limit well sent others = record {
    well = hold_all (λ (q : ℕ) (z : Stand). Well later (chain_of c q) (pass_at c q) z.begun z.phase) s.stand p now well
        (λ q ne. well_grows s.history later (chain_of c q) (pass_at c q) (s.stand q).begun (s.stand q).phase (up (pass_at c q)) (posts.well q));
    outside = hold_all (λ (q : ℕ) (z : Stand). passes (lists c) ≤ q → IsIdle z.phase) s.stand p now (λ l. absurd (omega (arith, l, within))) (λ q ne. posts.outside q);
    limit = hold_all (λ (q : ℕ) (z : Stand). z.begun ≤ c.per_sender) s.stand p now limit (λ q ne. posts.limit q);
    sent = hold_all (λ (q : ℕ) (z : Stand). q < c.senders → length (send_numbers (q + 1) later.sends.calls) + waits z.phase ≡ z.begun) s.stand p now sent (λ q ne l. omega (arith, others q ne, posts.sent q l));
  }

-- ---- the same calls, in a history of which no less is known

pub calls_on : (c : Config) (h later : Record) → later.sends.calls ≡ h.sends.calls → ((y : ℕ) → (of_group later y).calls ≡ (of_group h y).calls) → handed_to_all h ≤ handed_to_all later → entries h ≤ entries later → Calls c h → Calls c later
calls_on c h later e d up_e up_d k = record {
  senders = rw e k.senders;
  receivers = λ y. rw (d y) (k.receivers y);
  numbers = λ s. rw e (k.numbers s);
  small = rw e k.small;
  e_known = rw e (all_map (λ (x : Entry). x.known ≤ handed_to_all h) (λ (x : Entry). x.known ≤ handed_to_all later) h.sends.calls (λ x l. omega (arith, l, up_e)) k.e_known);
  d_known = λ y. rw (d y) (all_map (λ (x : Entry). x.known ≤ entries h) (λ (x : Entry). x.known ≤ entries later) (of_group h y).calls (λ x l. omega (arith, l, up_d)) (k.d_known y));
}

-- ---- one more call of a sender

-- its numbers, by whose they are
own_numbers : (s : ℕ) (k : Call) (number : ℕ) → length (send_number s (Pass.Sender s) k number) ≡ is_send k
own_numbers s (Call.Send body) number = ap (λ (b : Bool). length (if b then number ∷ [] else [])) (eq-eqb s s refl)
own_numbers s _ number = refl

other_numbers : (s q : ℕ) (k : Call) (number : ℕ) → s ≢ q → send_number q (Pass.Sender s) k number ≡ []
other_numbers s q (Call.Send body) number ne = by_case (s == q) refl
  where
    by_case : (b : Bool) → (s == q) ≡ b → (if b then number ∷ [] else []) ≡ []
    by_case true e = absurd (ne (eqb-true s q e))
    by_case false e = refl
other_numbers s q _ number ne = refl

counts_on : (s : ℕ) (k : Call) (number begun : ℕ) (xs : List ℕ) → CountsFrom 1 xs → HasNumber k number begun → length xs + is_send k ≡ begun → CountsFrom 1 (xs ++ send_number s (Pass.Sender s) k number)
counts_on s (Call.Send body) number begun xs all is long = by_case (s == s) (eq-eqb s s refl)
  where
    by_case : (b : Bool) → b ≡ true → CountsFrom 1 (xs ++ (if b then number ∷ [] else []))
    by_case true e = counts_more 1 xs number all (omega (arith, is, long))
    by_case false e = cc
counts_on s _ number begun xs all is long = rw append-nil all

small_number : (k : Call) (number begun : ℕ) → HasNumber k number begun → begun < 2 ^ 32 → number < 2 ^ 32
small_number k number begun is l = grind arith

sends_a_body : (k : Call) → IsOn Served.List Chain.Send k → HasBody k
sends_a_body k on = grind arith

sender_makes : (c : Config) (s : ℕ) (k : Call) → 1 ≤ s → s ≤ c.senders → IsOn Served.List Chain.Send k → IsSenders c (Pass.Sender s) k
sender_makes c s k low high on = grind arith

receiver_makes : (c : Config) (y r : ℕ) (k : Call) → 1 ≤ r → r ≤ groups c * c.receivers → group_of c r ≡ y → IsOn Served.List (Chain.Take y) k → IsReceivers c y (Pass.Receiver r) k
receiver_makes c y r k low high is on = grind arith

module _ (c : Config) (h later : Record) (p begun : ℕ) (e : Entry) (is : later.sends.calls ≡ h.sends.calls ++ e ∷ []) (same : (y : ℕ) → (of_group later y).calls ≡ (of_group h y).calls) (e_up : handed_to_all h ≤ handed_to_all later) (d_up : entries h ≤ entries later)
    (within : p < c.senders) (b : Begun h Chain.Send (Pass.Sender (p + 1)) begun e) (most : begun ≤ c.per_sender) (fits : c.per_sender < 2 ^ 32) (few : c.senders < 2 ^ 16) (sent : length (send_numbers (p + 1) h.sends.calls) + is_send e.call ≡ begun) (k : Calls c h) where
  abbrev numbers_now : ℕ → List ℕ
  numbers_now s = send_numbers s h.sends.calls ++ send_number s e.pass e.call e.number

  numbers_are : (s : ℕ) → send_numbers s later.sends.calls ≡ numbers_now s
  numbers_are s = ap (λ (l : List Entry). send_numbers s l) is ∙ send_numbers-append s h.sends.calls e

  pub own_sent : length (send_numbers (p + 1) later.sends.calls) ≡ begun
  own_sent =
      let own : length (send_number (p + 1) e.pass e.call e.number) ≡ is_send e.call = ap (λ (z : Pass). length (send_number (p + 1) z e.call e.number)) b.pass_is ∙ own_numbers (p + 1) e.call e.number in
      omega (arith, ap length (numbers_are (p + 1)), length-append (send_numbers (p + 1) h.sends.calls) (send_number (p + 1) e.pass e.call e.number), own, sent)

  pub other_sent : (q : ℕ) → p ≢ q → length (send_numbers (q + 1) later.sends.calls) ≡ length (send_numbers (q + 1) h.sends.calls)
  other_sent q ne = ap length (numbers_are (q + 1) ∙ ap (λ (z : Pass). send_numbers (q + 1) h.sends.calls ++ send_number (q + 1) z e.call e.number) b.pass_is
      ∙ ap (λ (l : List ℕ). send_numbers (q + 1) h.sends.calls ++ l) (other_numbers (p + 1) (q + 1) e.call e.number (λ z. ne (omega (arith, z)))) ∙ append-nil (send_numbers (q + 1) h.sends.calls))

  counts : (s : ℕ) → CountsFrom 1 (send_numbers s later.sends.calls)
  counts s = elim (cases_eq s (p + 1)) [
    | inl own ↦ subst (λ (j : ℕ). CountsFrom 1 (send_numbers j later.sends.calls)) (sym own) (rw (numbers_are (p + 1), b.pass_is) (counts_on (p + 1) e.call e.number begun (send_numbers (p + 1) h.sends.calls) (k.numbers (p + 1)) b.number_is sent))
    | inr ne ↦ rw (numbers_are s, b.pass_is, other_numbers (p + 1) s e.call e.number (λ z. ne (sym z)), append-nil) (k.numbers s)
  ]

  pub e_calls_on : Calls c later
  e_calls_on = record {
    senders = rw is (all-append (λ (x : Entry). IsSenders c x.pass x.call) h.sends.calls e k.senders (rw b.pass_is (sender_makes c (p + 1) e.call (omega arith) (omega (arith, within)) b.on)));
    receivers = λ y. rw (same y) (k.receivers y);
    numbers = counts;
    small = rw is (all-append FitsTag h.sends.calls e k.small (record {
      sender = omega (arith, ap sender_number b.pass_is, within, few);
      number = small_number e.call e.number begun b.number_is (omega (arith, most, fits));
      body = sends_a_body e.call b.on;
    }));
    e_known = rw is (all-append (λ (x : Entry). x.known ≤ handed_to_all later) h.sends.calls e
        (all_map (λ (x : Entry). x.known ≤ handed_to_all h) (λ (x : Entry). x.known ≤ handed_to_all later) h.sends.calls (λ x l. omega (arith, l, e_up)) k.e_known) (omega (arith, b.known_in, e_up)));
    d_known = λ y. rw (same y) (all_map (λ (x : Entry). x.known ≤ entries h) (λ (x : Entry). x.known ≤ entries later) (of_group h y).calls (λ x l. omega (arith, l, d_up)) (k.d_known y));
  }

-- ---- one more take

module _ (c : Config) (h later : Record) (y r begun : ℕ) (e : Entry) (same : later.sends.calls ≡ h.sends.calls) (is : (of_group later y).calls ≡ (of_group h y).calls ++ e ∷ []) (others : (x : ℕ) → x ≢ y → (of_group later x).calls ≡ (of_group h x).calls)
    (e_up : handed_to_all h ≤ handed_to_all later) (d_up : entries h ≤ entries later) (low : 1 ≤ r) (high : r ≤ groups c * c.receivers) (of : group_of c r ≡ y) (b : Begun h (Chain.Take y) (Pass.Receiver r) begun e) (k : Calls c h) where
  known_more : (x : ℕ) → AllByRecursion (λ (z : Entry). z.known ≤ entries later) (of_group h x).calls
  known_more x = all_map (λ (z : Entry). z.known ≤ entries h) (λ (z : Entry). z.known ≤ entries later) (of_group h x).calls (λ z l. omega (arith, l, d_up)) (k.d_known x)

  pub d_calls_on : Calls c later
  d_calls_on = record {
    senders = rw same k.senders;
    receivers = λ x. grind (arith, all-append, (of_group h y).calls, k.receivers y, b.pass_is, receiver_makes c y r e.call low high of b.on, others x, k.receivers x);
    numbers = λ s. rw same (k.numbers s);
    small = rw same k.small;
    e_known = rw same (all_map (λ (x : Entry). x.known ≤ handed_to_all h) (λ (x : Entry). x.known ≤ handed_to_all later) h.sends.calls (λ x l. omega (arith, l, e_up)) k.e_known);
    d_known = λ x. grind (arith, all-append, (of_group h y).calls, known_more y, b.known_in, others x, known_more x);
  }
