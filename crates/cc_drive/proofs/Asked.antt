-- The gates that the workers of a run asked.
use Rattle.std.proofs.Common.{◌≡◌, ℕ, ◌+◌, ◌++◌, ◌∙◌, List, [], ◌∷◌, length, map, false, Option, None, is_some, Result, Ok, Err, refl, sym, ap, subst, arith, append-nil}
use Rattle.std.specs.Prelude.{OnOk, vec_len}
use Rattle.std.proofs.lemmas.List.{length-map}
use Rattle.cc_steps.specs.Topic.{Topic}
use Rattle.cc_drive.specs.Asked.{ReceiversAsked, SendersAsked, WereAsked, gates_in}
use Rattle.cc_drive.specs.Names.{DriveConfig, DriveFault, Go, Point, Ran, Refused}
use Rattle.cc_drive.specs.Jobs.{AreReady}
use Rattle.cc_drive.specs.Start.{IsStarted}
use Rattle.cc_drive.specs.declared.jobs.Workers.{Workers}
use Rattle.cc_drive.proofs.Crewed.{all_started, both_started}

-- the gates of a run all of whose threads were started
pub were_asked : {G : Type 0} (tells : G → Point → Go → G → Type 0) (z : Topic) (c : DriveConfig) (all : Workers G) (sending taking : ℕ) (first second : Option Refused) (ours theirs : Option ℕ) (result : Result Ran DriveFault) → AreReady z c all → OnOk result ((is_some second ≡ false) × (ours ≡ None) × (theirs ≡ None))
    → IsStarted None (c.senders + 1) (vec_len all.receivers) taking first → IsStarted first 0 (vec_len all.senders) sending second
    → SendersAsked tells z c.items c.limit sending ours (map (λ j. j.gate) all.senders.items) → ReceiversAsked tells z c.limit (c.senders + 1) c.senders taking theirs (map (λ j. j.gate) all.receivers.items) → OnOk result (WereAsked tells (gates_in all) c)
were_asked tells z c all sending taking first second ours theirs (Err told) ready free by by' sent taken = tt
were_asked tells z c all sending taking first second ours theirs (Ok ran) ready free by by' sent taken =
    let both = both_started c.senders c.receivers sending taking first second (subst (λ (n : ℕ). IsStarted None (c.senders + 1) n taking first) ready.count_receivers by) (subst (λ (n : ℕ). IsStarted first 0 n sending second) ready.count_senders by') in
    let whole = all_started c.senders c.receivers sending taking second free.0 both in record {
      sending = map (λ j. j.gate) all.senders.items;
      taking = map (λ j. j.gate) all.receivers.items;
      in_order = refl;
      count_sending = length-map all.senders.items (λ j. j.gate) ∙ sym all.senders.ok.0 ∙ ready.count_senders;
      queue = z;
      opened = ready.queue;
      senders = subst (λ (n : ℕ × Option ℕ). SendersAsked tells z c.items c.limit n.0 n.1 (map (λ j. j.gate) all.senders.items)) (λ i. (whole.0 i, free.1 i)) sent;
      receivers = subst (λ (n : ℕ × Option ℕ). ReceiversAsked tells z c.limit (c.senders + 1) c.senders n.0 n.1 (map (λ j. j.gate) all.receivers.items)) (λ i. (whole.1 i, free.2 i)) taken;
    }

-- the senders' limit is the same after the close
pub sent_limited : {A E : Type 0} (result : Result A E) (refused : Option Refused) (before after theirs : Option ℕ) → after ≡ before → OnOk result ((is_some refused ≡ false) × (after ≡ None) × (theirs ≡ None)) → OnOk result ((is_some refused ≡ false) × (before ≡ None) × (theirs ≡ None))
sent_limited (Ok ran) refused before after theirs same free = (free.0, sym same ∙ free.1, free.2)
sent_limited (Err told) refused before after theirs same free = tt

-- the gates as they were dealt
pub as_dealt : {G : Type 0} (first second gates left rest : List G) → first ++ left ≡ gates → second ++ rest ≡ left → rest ≡ [] → first ++ second ≡ gates
as_dealt first second gates left rest is is' none = ap (λ l. first ++ l) (sym (append-nil second) ∙ ap (λ l. second ++ l) (sym none) ∙ is') ∙ is

pub none_left : {A : Type 0} (xs : List A) → length xs ≡ 0 → xs ≡ []
none_left [] e = refl
none_left (x ∷ xs) e = absurd (omega (arith, e))

pub asked_of : {G : Type 0} (tells : G → Point → Go → G → Type 0) (c : DriveConfig) (made gates : List G) {E : Type 0} (result : Result E DriveFault) → made ≡ gates → OnOk result (WereAsked tells made c) → OnOk result (WereAsked tells gates c)
asked_of tells c made gates (Ok end) same asked = subst (λ gs. WereAsked tells gs c) same asked
asked_of tells c made gates (Err told) same asked = tt
