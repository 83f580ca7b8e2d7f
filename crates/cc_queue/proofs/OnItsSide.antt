-- The calls of a pass in a legal history are all on its own side: the senders', or that of its group.
use Rattle.std.proofs.Common.{◌≢◌, inl, inr, ◌≡◌, ℕ, Bool, false, List, [], ◌∷◌, ◌++◌, Option, Some, None, if◌then◌else◌, refl, sym, ap, ◌∙◌, arith, append-nil}
use Rattle.std.specs.List.{AllByRecursion, filter, flat_map}
use Rattle.std.proofs.lemmas.Bool.{cases_lt, ne_eqb}
use Rattle.std.proofs.lemmas.List.{get_or_past}
use Rattle.std.proofs.lemmas.List.Elements.{filter-append}
use Rattle.cc_model.specs.Record.{Side, Record, silent, of_group}
use Rattle.cc_model.specs.Items.{Begins, SideBegins, answered, calls_of, is_pass}
use Rattle.cc_model.specs.After.{side_of}
use Rattle.cc_model.specs.Legal.{Legal, IsSenders, IsReceivers}
use Rattle.cc_model.specs.Config.{group_of}
use Rattle.cc_queue.specs.Names.{Config, Call, Pass, Entry, Answer}
use Rattle.cc_runs.proofs.Chains.ReadAnswers.{filter-flat, flat-none, flat-one}

abbrev pub Told : Type 0
Told = Entry × Option Answer

-- the calls of a pass among these
abbrev pub its : Pass → List Entry → List Answer → List Told
its p calls answers = filter (λ z. is_pass p z.0.pass) (answered calls answers)

abbrev pub kept : Bool → Told → List Told → List Told
kept b z l = if b then z ∷ l else l

-- no call of such a list is the pass's
none_of : (P : Entry → Type 0) (p : Pass) → ((e : Entry) → P e → is_pass p e.pass ≡ false) → (calls : List Entry) (answers : List Answer) → AllByRecursion P calls → its p calls answers ≡ []
none_of P p other [] answers all = refl
none_of P p other (c ∷ calls) [] all = ap (λ (b : Bool). kept b (c, None) (its p calls [])) (other c all.0) ∙ none_of P p other calls [] all.1
none_of P p other (c ∷ calls) (a ∷ answers) all = ap (λ (b : Bool). kept b (c, Some a) (its p calls answers)) (other c all.0) ∙ none_of P p other calls answers all.1

not_a_sender : (cfg : Config) (r : ℕ) (p : Pass) (c : Call) → IsSenders cfg p c → is_pass (Pass.Receiver r) p ≡ false
not_a_sender cfg r (Pass.Sender s) c is = refl
not_a_sender cfg r (Pass.Receiver s) c is = absurd is

not_a_receiver : (cfg : Config) (g s : ℕ) (p : Pass) (c : Call) → IsReceivers cfg g p c → is_pass (Pass.Sender s) p ≡ false
not_a_receiver cfg g s (Pass.Receiver r) c is = refl
not_a_receiver cfg g s (Pass.Sender r) c is = absurd is

not_in_group : (cfg : Config) (g r : ℕ) → group_of cfg r ≢ g → (p : Pass) (c : Call) → IsReceivers cfg g p c → is_pass (Pass.Receiver r) p ≡ false
not_in_group cfg g r ne (Pass.Receiver n) Call.Take is = ne_eqb r n (λ e. ne (ap (group_of cfg) e ∙ is.2))
not_in_group cfg g r ne (Pass.Receiver n) (Call.Send body) is = absurd is
not_in_group cfg g r ne (Pass.Receiver n) Call.Close is = absurd is
not_in_group cfg g r ne (Pass.Sender n) c is = absurd is

-- nor of any group if none is of those that there are
none_of_group : (cfg : Config) (h : Record) (p : Pass) (k : ℕ) → Legal cfg h → ((q : Pass) (c : Call) → IsReceivers cfg k q c → is_pass p q ≡ false) → its p (of_group h k).calls (of_group h k).answers ≡ []
none_of_group cfg h p k l other = elim (cases_lt k cfg.groups) [
  | inl inside ↦ none_of (λ e. IsReceivers cfg k e.pass e.call) p (λ e is. other e.pass e.call is) (of_group h k).calls (of_group h k).answers (l.takes k inside).receivers
  | inr far ↦ ap (λ (s : Side). its p s.calls s.answers) (get_or_past h.takes k silent (omega (arith, far, l.groups)))
]

abbrev is_its : Pass → Entry → Bool
is_its p e = is_pass p e.pass

-- the senders' calls, and those of each group
all_sides : (h : Record) (p : Pass) → calls_of p h ≡ its p h.sends.calls h.sends.answers ++ flat_map (λ side. its p side.calls side.answers) h.takes
all_sides h p =
    filter-append (λ (z : Told). is_pass p z.0.pass) (answered h.sends.calls h.sends.answers) (flat_map (λ side. answered side.calls side.answers) h.takes)
    ∙ ap (λ (l : List Told). its p h.sends.calls h.sends.answers ++ l) (filter-flat (is_its p) h.takes)

sender_on_its_side : (cfg : Config) (h : Record) (s : ℕ) → Legal cfg h → calls_of (Pass.Sender s) h ≡ its (Pass.Sender s) h.sends.calls h.sends.answers
sender_on_its_side cfg h s l =
    all_sides h (Pass.Sender s)
    ∙ ap (λ (l : List Told). its (Pass.Sender s) h.sends.calls h.sends.answers ++ l) (flat-none (is_its (Pass.Sender s)) h.takes (λ k. none_of_group cfg h (Pass.Sender s) k l (not_a_receiver cfg k s)))
    ∙ append-nil (its (Pass.Sender s) h.sends.calls h.sends.answers)

receiver_on_its_side : (cfg : Config) (h : Record) (r : ℕ) → Legal cfg h → calls_of (Pass.Receiver r) h ≡ its (Pass.Receiver r) (of_group h (group_of cfg r)).calls (of_group h (group_of cfg r)).answers
receiver_on_its_side cfg h r l =
    all_sides h (Pass.Receiver r)
    ∙ ap (λ (xs : List Told). xs ++ flat_map (λ side. its (Pass.Receiver r) side.calls side.answers) h.takes) (none_of (λ e. IsSenders cfg e.pass e.call) (Pass.Receiver r) (λ e is. not_a_sender cfg r e.pass e.call is) h.sends.calls h.sends.answers l.senders)
    ∙ flat-one (is_its (Pass.Receiver r)) h.takes (group_of cfg r) (λ k ne. none_of_group cfg h (Pass.Receiver r) k l (not_in_group cfg k r (λ e. ne (sym e))))

-- a history begins another on this side too
pub side_begins : (cfg : Config) (p : Pass) (h later : Record) → Begins h later → SideBegins (side_of cfg p h) (side_of cfg p later)
side_begins cfg (Pass.Sender s) h later b = b.sends
side_begins cfg (Pass.Receiver r) h later b = b.takes (group_of cfg r)

pub on_its_side : (cfg : Config) (h : Record) (p : Pass) → Legal cfg h → calls_of p h ≡ its p (side_of cfg p h).calls (side_of cfg p h).answers
on_its_side cfg h (Pass.Sender s) l = sender_on_its_side cfg h s l
on_its_side cfg h (Pass.Receiver r) l = receiver_on_its_side cfg h r l
