-- A scan that finds no free node: every ordinary node was busy when it began.
use Rattle.std.proofs.lemmas.Option.{slice_get-get_or}
use Rattle.std.proofs.Common.{◌≡◌, ◌≢◌, ◌⊎◌, ℕ, suc, ◌+◌, ◌-◌, ◌<◌, ◌≤◌, ◌==◌, nat_lt, List, [], ◌∷◌, ◌++◌, length, Bool, true, false, if◌then◌else◌, Option, Some, None, Ok, inl, inr, refl, sym, ap, ◌∙◌, subst, arith, append-nil}
use Rattle.std.proofs.lemmas.Bool.{cases_eq, ne_eqb, eqb-false}
use Rattle.std.proofs.Math.Nat.{mod-eq_of_lt, mod_self}
use Rattle.std.specs.List.{slice_get}
use Rattle.cc_model.specs.Config.{config_fault}
use Rattle.cc_model.specs.Record.{Record}
use Rattle.cc_model.specs.Items.{Begins, handed_to_all, known_at}
use Rattle.cc_runs.specs.Names.{Config, Answer, SendAnswer, Served, Chain, ItemField, Word, Job, Parcel, Round, Pass, Phase, Sending, Stand, Move}
use Rattle.cc_runs.specs.Words.{groups}
use Rattle.cc_runs.specs.State.{State, appended, noted, chain_of, pass_at, first_node, hold, word_of}
use Rattle.cc_runs.specs.Lines.{goes, enters, decides, operation, after_next}
use Rattle.cc_runs.specs.CountLines as count_side
use Rattle.cc_runs.specs.TakeLines as take_side
use Rattle.cc_runs.specs.SendLines as send_side
use Rattle.cc_runs.specs.SendLines.{after}
use Rattle.cc_runs.specs.ServiceLine.{Next, On, Decides, phase_of, answer_of}
use Rattle.cc_runs.specs.Codes.{further_words}
use Rattle.cc_runs.specs.Run.{IsRun, reached, passes, nowhere, history_of}
use Rattle.cc_runs.specs.MachineLaws.{linked_nodes, links_at}
use Rattle.cc_runs.specs.Ready.{HasOpenCall, IsOpenAt}
use Rattle.cc_runs.proofs.Ranges.{in_range}
use Rattle.cc_runs.proofs.Leads.{leads, IsAfter, goes_after}
use Rattle.cc_runs.proofs.Changed.{changed, changed_here, changed_away}
use Rattle.cc_runs.proofs.RunPrefixes.{prefixes_begin}
use Rattle.cc_runs.proofs.KnownPrefixes.{prefixes_know}
use Rattle.cc_runs.proofs.LinkedList.Invariant.{LInv}
use Rattle.cc_runs.proofs.LinkedList.Scan.{looked_role}
use Rattle.cc_runs.proofs.ListRuns.Ties.{further, Scanned}
use Rattle.cc_runs.proofs.ListRuns.Facts.{lists, IsSending}
use Rattle.cc_runs.proofs.ListRuns.Invariant.{ghosts_at, parts_least, Parts}
use Rattle.cc_runs.proofs.ListRuns.Posts.{Well, of_side}
use Rattle.cc_runs.proofs.ListRuns.Runs.{AfterRun}
use Rattle.cc_runs.proofs.ListRuns.Safe.{send_queue, send_holds, send_reads}
use Rattle.cc_runs.proofs.ListRuns.FromChains.{after_runs, chain_facts}
use Rattle.cc_runs.proofs.ListRuns.Ready.{list_ready}
use Rattle.cc_runs.proofs.Chains.Frame.{hold_here}
use Rattle.cc_runs.proofs.ListRuns.View.{hold_other}

-- ---- what a scan has read

-- this node was read, at most `done` nodes before `at`, round the end
abbrev pub IsRead : Config → (at done x : ℕ) → Type 0
IsRead c at done x = (x ≤ c.capacity) × (((x < at) × (at ≤ x + done)) ⊎ ((at < x) × (at + c.capacity + 1 ≤ x + done)))

-- one node more
pub read_more : (c : Config) (at done x : ℕ) → at ≤ c.capacity → IsRead c (after c at) (done + 1) x → x ≢ at → IsRead c at done x
read_more c at done x within r ne = grind (arith, mod_self (c.capacity + 1), r.0, r.1, ne, mod-eq_of_lt, within)

-- all others, if there were as many
pub read_all : (c : Config) (at x : ℕ) → at ≤ c.capacity → x ≤ c.capacity → x ≢ at → IsRead c at c.capacity x
read_all c at x within low ne = grind (arith, low, within, ne)

-- ---- the scan in a run

-- a run goes on from one in which a send waits, and no send was answered since
pub record Waits (c : Config) (moves : List Move) : Type 0 where
  pub more : List Move
  pub first : Move
  pub before : List Move
  pub split : moves ≡ more ++ first ∷ before
  pub opens : length (history_of (lists c) (first ∷ before)).sends.answers < length (history_of (lists c) (first ∷ before)).sends.calls
  pub same : (history_of (lists c) moves).sends.answers ≡ (history_of (lists c) (first ∷ before)).sends.answers

-- the history there
abbrev pub start : (c : Config) (moves : List Move) → Waits c moves → Record
start c moves w = history_of (lists c) (w.first ∷ w.before)

-- each node that was read has a place in the list that some group hadn't passed then
pub record Scan (c : Config) (moves : List Move) (at reads : ℕ) : Type 0 where
  pub waits : Waits c moves
  pub place : ℕ → ℕ
  pub placed : (x : ℕ) → IsRead c at (reads - 1) x → (handed_to_all (start c moves waits) ≤ place x) × (slice_get (linked_nodes (lists c) moves) (place x) ≡ Some x)

-- a move that links no node and answers no send
on_scan : (c : Config) (m : Move) (earlier : List Move) (at reads : ℕ) → linked_nodes (lists c) (m ∷ earlier) ≡ linked_nodes (lists c) earlier
    → (history_of (lists c) (m ∷ earlier)).sends.answers ≡ (history_of (lists c) earlier).sends.answers → Scan c earlier at reads → Scan c (m ∷ earlier) at reads
on_scan c m earlier at reads nodes answers s = record {
  waits = record {
    more = m ∷ s.waits.more;
    first = s.waits.first;
    before = s.waits.before;
    split = ap (λ (l : List Move). m ∷ l) s.waits.split;
    opens = s.waits.opens;
    same = answers ∙ s.waits.same;
  };
  place = s.place;
  placed = λ x r. ((s.placed x r).0, ap (λ (l : List ℕ). slice_get l (s.place x)) nodes ∙ (s.placed x r).1);
}

-- ---- a node that is read busy

module _ (c : Config) (moves : List Move) (a : AfterRun c moves) (p : ℕ) (job : Job) (parcel : Parcel) (at reads : ℕ) (stands : ((reached (lists c) moves).stand p).phase ≡ Phase.Sending job (Sending.ReadPassed parcel at reads)) where
  abbrev s : State
  s = reached (lists c) moves

  abbrev k : Parts c s (linked_nodes (lists c) moves)
  k = a.parts

  pub scanned : Scanned c k.duty.from at reads
  scanned = (send_reads c s p job (Sending.ReadPassed parcel at reads) stands tt k).1

  i : LInv c.capacity c.life (further c + 1) (send_queue c s p job (Sending.ReadPassed parcel at reads) stands tt k) (ghosts_at c s k)
  i = send_holds c s p job (Sending.ReadPassed parcel at reads) stands tt k

  module _ (ne : s.mem (Word.Item at ItemField.Passed) ≢ groups c) where
    role : (ghosts_at c s k).role at ≡ 2
    role = looked_role c.capacity c.life (further c + 1) at (send_queue c s p job (Sending.ReadPassed parcel at reads) stands tt k) (ghosts_at c s k) i refl
        (scanned.within, scanned.past, λ l. scanned.round l) (λ e. ne (omega (arith, e, k.ties.some)))

    low : (ghosts_at c s k).least ≤ (ghosts_at c s k).pos at
    low = grind (arith, ne, i.nodes.passed_is at scanned.within role, i.hands.by_all ((ghosts_at c s k).pos at), k.ties.some)

    pub busy_place : ℕ
    busy_place = (ghosts_at c s k).pos at

    pub busy_low : handed_to_all s.history ≤ busy_place
    unfolding busy_place
    busy_low = omega (arith, low, parts_least c s k)

    pub busy_is : slice_get (linked_nodes (lists c) moves) busy_place ≡ Some at
    unfolding busy_place
    busy_is = slice_get-get_or (linked_nodes (lists c) moves) ((ghosts_at c s k).pos at) 0 (omega (arith, a.parts.ties.linked, i.nodes.pos_high at scanned.within role)) ∙ ap (λ (x : ℕ). Some x) (i.nodes.pos_is at scanned.within role)

-- ---- the steps that lead to a read of the scan

abbrev InRead : Sending → (at reads : ℕ) → Type 0
InRead (Sending.ReadPassed parcel at reads) x n = (at ≡ x) × (reads ≡ n)
InRead _ x n = ⊥

abbrev AtRead : Phase → (at reads : ℕ) → Type 0
AtRead (Phase.Sending job service) x n = InRead service x n
AtRead _ x n = ⊥

-- from the read before, of a busy node
record Before (c : Config) (place : Phase) (found at reads : ℕ) : Type 0 where
  job : Job
  parcel : Parcel
  last : ℕ
  fewer : ℕ
  place_is : place ≡ Phase.Sending job (Sending.ReadPassed parcel last fewer)
  busy : found ≢ groups c
  others : fewer ≢ c.capacity + 1
  at_is : at ≡ after c last
  reads_is : reads ≡ fewer + 1

abbrev From : Config → Phase → (found at reads : ℕ) → Type 0
From c place found at reads = (reads ≡ 1) ⊎ Before c place found at reads

in_either : (b : Bool) (first second : Sending) (at reads : ℕ) → (InRead first at reads → ⊥) → (InRead second at reads → ⊥) → InRead (if b then first else second) at reads → ⊥
in_either b first second at reads x y = grind arith

next_either : (job : Job) (b : Bool) (first second : Next Sending) (at reads : ℕ) → (AtRead (phase_of send_side.in_service job first) at reads → ⊥) → (AtRead (phase_of send_side.in_service job second) at reads → ⊥) → AtRead (phase_of send_side.in_service job (if b then first else second)) at reads → ⊥
next_either job b first second at reads x y = grind arith

passed_from : (c : Config) (job : Job) (parcel : Parcel) (last fewer found at reads : ℕ) (free all : Bool) → (found == groups c) ≡ free → (fewer == c.capacity + 1) ≡ all
    → AtRead (phase_of send_side.in_service job (if free then On (Sending.ResetPassed parcel last) else if all then Decides (Answer.Send SendAnswer.Full) else On (Sending.ReadPassed parcel (after c last) (fewer + 1)))) at reads
    → Before c (Phase.Sending job (Sending.ReadPassed parcel last fewer)) found at reads
passed_from c job parcel last fewer found at reads false false e f h = record { job = job; parcel = parcel; last = last; fewer = fewer; place_is = refl; busy = eqb-false found (groups c) e; others = eqb-false fewer (c.capacity + 1) f; at_is = sym h.0; reads_is = sym h.1 }
passed_from c job parcel last fewer found at reads _ _ e f h = absurd h

service_from : (c : Config) (job : Job) (service : Sending) (found at reads : ℕ) → AtRead (send_side.goes c job service found) at reads → From c (Phase.Sending job service) found at reads
service_from c job (Sending.ReadBody request i) found at reads h = absurd (in_either (nat_lt i (further_words request.tag)) _ _ at reads (λ z. z) (λ z. z) h)
service_from c job (Sending.ReadShut request) (suc found) at reads h = absurd (next_either job (request.tag == 0) _ _ at reads (λ z. z) (λ z. z) h)
service_from c job (Sending.ReadCount request) found at reads h = absurd (next_either job (request.tag == 0) _ _ at reads (λ z. z) (next_either job (found == c.life) _ _ at reads (λ z. z) (λ z. z)) h)
service_from c job (Sending.ReadPassed parcel last fewer) found at reads h = inr (passed_from c job parcel last fewer found at reads (found == groups c) (fewer == c.capacity + 1) refl refl h)
service_from c job (Sending.WriteItemBody parcel x i) found at reads h = absurd (in_either (nat_lt i (further_words parcel.tag)) _ _ at reads (λ z. z) (λ z. z) h)
service_from c job service found at reads h = grind arith

none_read : (at reads : ℕ) (place : Phase) → IsAfter ⊥ place → AtRead place at reads → ⊥
none_read at reads place never h = grind arith

next_none : (c : Config) (x : Chain) (round : Round) (found at reads : ℕ) → AtRead (after_next Served.List x round found) at reads → ⊥
next_none c x round found at reads h = grind arith

place_from : (c : Config) (x : Chain) (own : ℕ) (place : Phase) (found at reads : ℕ) → AtRead (goes (lists c) x own place found) at reads → From c place found at reads
place_from c x own (Phase.Sending job service) found at reads h = service_from c job service found at reads h
place_from c x own (Phase.Counting job service) found at reads h = absurd (leads (λ (z : Phase). AtRead z at reads → ⊥) count_side.in_service job (λ s z. z) (λ told z. z) (count_side.line 0 service found).next h)
place_from c x own (Phase.Taking job service) found at reads h = absurd (leads (λ (z : Phase). AtRead z at reads → ⊥) take_side.in_service job (λ s z. z) (λ told z. z) (take_side.line 0 service found).next h)
place_from c x own (Phase.ReadNext round) found at reads h = absurd (next_none c x round found at reads h)
place_from c x own (Phase.ResetNext call) found at reads h = absurd h
place_from c x own (Phase.ResetState call) found at reads h = absurd h
place_from c x own place found at reads h = absurd (goes_after ⊥ (λ (z : Phase). AtRead z at reads → ⊥) (none_read at reads) (lists c) x own place found tt h)

-- ---- a step that isn't one of the senders' service decides no send, and links no node

links_none : (place : Phase) → (IsSending place → ⊥) → links_at place ≡ []
links_none place off = grind arith

send_none : (c : Config) (h : Record) (pass : Pass) (begun : ℕ) (place : Phase) (found : ℕ) → Well h Chain.Send pass begun place → (IsSending place → ⊥) → decides (lists c) place found ≡ None
send_none c h pass begun place found well off = grind arith

module _ (c : Config) (h : Record) (p : ℕ) (place : Phase) (found : ℕ) where
  abbrev told : Record
  told = noted (chain_of c p) h (enters place) (decides (lists c) place found)

  pub same_sends : decides (lists c) place found ≡ None → told.sends.answers ≡ h.sends.answers
  same_sends is = elim (of_side c p) [
    | inl of ↦ ap (λ (x : Chain). (noted x h (enters place) (decides (lists c) place found)).sends.answers) of.chain_is ∙ ap (λ (a : Option Answer). appended h.sends.answers a) is
    | inr of ↦ ap (λ (x : Chain). (noted x h (enters place) (decides (lists c) place found)).sends.answers) of.chain_is
  ]

  pub other_sends : (begun : ℕ) → Well h (chain_of c p) (pass_at c p) begun place → (IsSending place → ⊥) → told.sends.answers ≡ h.sends.answers
  other_sends begun well off = elim (of_side c p) [
    | inl of ↦ same_sends (send_none c h (pass_at c p) begun place found (subst (λ (x : Chain). Well h x (pass_at c p) begun place) of.chain_is well) off)
    | inr of ↦ ap (λ (x : Chain). (noted x h (enters place) (decides (lists c) place found)).sends.answers) of.chain_is
  ]

-- ---- every scan in every run

opening_idle : (c : Config) (p : ℕ) (b : Bool) → (if b then record { begun = 0; node = first_node c p; phase = Phase.Idle } else nowhere).phase ≡ Phase.Idle
opening_idle c p b = grind arith

held : (stands : ℕ → Stand) (q p : ℕ) (now : Stand) (to : Phase) → ((now.phase ≡ to) → ⊥) → (hold stands q now p).phase ≡ to → (stands p).phase ≡ to
held stands q p now to never e = by_case (q == p) refl e
  where
    by_case : (b : Bool) → (q == p) ≡ b → (if b then now else stands p).phase ≡ to → (stands p).phase ≡ to
    by_case true same e = absurd (never e)
    by_case false same e = e

module _ (c : Config) (checked : config_fault c ≡ Ok tt) where
  abbrev after_it : (moves : List Move) → IsRun (lists c) moves → AfterRun c moves
  after_it moves run = after_runs c (in_range c checked) moves run

  -- a pass that serves a send is a sender
  pub sender : (moves : List Move) → IsRun (lists c) moves → (p : ℕ) (job : Job) (service : Sending) → ((reached (lists c) moves).stand p).phase ≡ Phase.Sending job service → chain_of c p ≡ Chain.Send
  sender moves run p job service stands =
      let s : State = reached (lists c) moves in
      subst (λ (z : Phase). Well s.history (chain_of c p) (pass_at c p) (s.stand p).begun z) stands ((after_it moves run).posts.well p)

  -- where it waits for its answer, there is one call without
  pub waiting : (moves : List Move) → IsRun (lists c) moves → (p : ℕ) → p < passes (lists c) → (job : Job) (parcel : Parcel) (at reads : ℕ) → ((reached (lists c) moves).stand p).phase ≡ Phase.Sending job (Sending.ReadPassed parcel at reads)
      → length (history_of (lists c) moves).sends.answers < length (history_of (lists c) moves).sends.calls
  waiting moves run p less job parcel at reads stands =
      let s : State = reached (lists c) moves in
      let open_at : IsOpenAt s.history (chain_of c p) (Phase.Sending job (Sending.ReadPassed parcel at reads)) = subst (λ (z : Phase). IsOpenAt s.history (chain_of c p) z) stands (list_ready (lists c) refl checked moves run p less).unanswered in
      subst (λ (x : Chain). HasOpenCall s.history x) (sender moves run p job (Sending.ReadPassed parcel at reads) stands) open_at

  begin_scan : (m : Move) (earlier : List Move) → IsRun (lists c) (m ∷ earlier) → (p : ℕ) → p < passes (lists c) → (job : Job) (parcel : Parcel) (at reads : ℕ)
      → ((reached (lists c) (m ∷ earlier)).stand p).phase ≡ Phase.Sending job (Sending.ReadPassed parcel at reads) → reads ≡ 1 → Scan c (m ∷ earlier) at reads
  begin_scan m earlier run p less job parcel at reads stands one = record {
    waits = record { more = []; first = m; before = earlier; split = refl; opens = waiting (m ∷ earlier) run p less job parcel at reads stands; same = refl };
    place = λ x. 0;
    placed = λ x r. absurd (none x r);
  }
    where
      none : (x : ℕ) → IsRead c at (reads - 1) x → ⊥
      none x r = elim r.1 [ inl l ↦ omega (arith, l.0, l.1, one) | inr l ↦ omega (arith, l.0, l.1, one, r.0) ]

  -- the history before
  pub begun : (moves : List Move) → IsRun (lists c) moves → (w : Waits c moves) → IsRun (lists c) (w.first ∷ w.before) × Begins (start c moves w) (history_of (lists c) moves)
  begun moves run w =
      let f : IsRun (lists c) (w.first ∷ w.before) × Begins (start c moves w) (history_of (lists c) (w.more ++ w.first ∷ w.before)) = prefixes_begin (lists c) w.more (w.first ∷ w.before) (subst (λ (l : List Move). IsRun (lists c) l) w.split run) in
      (f.0, subst (λ (l : List Move). Begins (start c moves w) (history_of (lists c) l)) (sym w.split) f.1)

  pub handed_less : (moves : List Move) → IsRun (lists c) moves → (w : Waits c moves) → handed_to_all (start c moves w) ≤ handed_to_all (history_of (lists c) moves)
  handed_less moves run w = elim (of_side c 0) [
    | inl of ↦ subst (λ (l : List Move). handed_to_all (start c moves w) ≤ handed_to_all (history_of (lists c) l)) (sym w.split)
        (subst (λ (z : Pass). known_at z (start c moves w) ≤ known_at z (history_of (lists c) (w.more ++ w.first ∷ w.before))) of.pass_is
        (prefixes_know (lists c) checked w.more (w.first ∷ w.before) (subst (λ (l : List Move). IsRun (lists c) l) w.split run) 0))
    | inr of ↦ absurd (omega (arith, of.low, (in_range c checked).senders.0))
  ]

  -- the pass reads on
  go_on : (earlier : List Move) → IsRun (lists c) (earlier) → (p found at reads : ℕ)
      → found ≡ (reached (lists c) earlier).mem (word_of (operation (lists c) (chain_of c p) ((reached (lists c) earlier).stand p).node ((reached (lists c) earlier).stand p).phase))
      → (b : Before c ((reached (lists c) earlier).stand p).phase found at reads) → Scan c earlier b.last b.fewer → Scan c (Move.Step p ∷ earlier) at reads
  go_on earlier run p found at reads found_is b scan =
      on_scan c (Move.Step p) earlier at reads nodes answers (record { waits = scan.waits; place = place; placed = placed })
    where
      s : State
      s = reached (lists c) earlier

      a : AfterRun c earlier
      a = after_it earlier run

      word : found ≡ (reached (lists c) earlier).mem (Word.Item b.last ItemField.Passed)
      word = found_is ∙ ap (λ (z : Phase). (reached (lists c) earlier).mem (word_of (operation (lists c) (chain_of c p) ((reached (lists c) earlier).stand p).node z))) b.place_is

      ne : (reached (lists c) earlier).mem (Word.Item b.last ItemField.Passed) ≢ groups c
      ne e = b.busy (word ∙ e)

      within : b.last ≤ c.capacity
      within = (scanned c earlier a p b.job b.parcel b.last b.fewer b.place_is).within

      some : 1 ≤ b.fewer
      some = (scanned c earlier a p b.job b.parcel b.last b.fewer b.place_is).some

      here : ℕ
      here = busy_place c earlier a p b.job b.parcel b.last b.fewer b.place_is ne

      place : ℕ → ℕ
      place = changed scan.place b.last here

      here_placed : (handed_to_all (start c earlier scan.waits) ≤ here) × (slice_get (linked_nodes (lists c) earlier) here ≡ Some b.last)
      here_placed = (omega (arith, handed_less earlier run scan.waits, busy_low c earlier a p b.job b.parcel b.last b.fewer b.place_is ne), busy_is c earlier a p b.job b.parcel b.last b.fewer b.place_is ne)

      Placed : ℕ → ℕ → Type 0
      Placed x k = (handed_to_all (start c earlier scan.waits) ≤ k) × (slice_get (linked_nodes (lists c) earlier) k ≡ Some x)

      placed : (x : ℕ) → IsRead c at (reads - 1) x → Placed x (place x)
      placed x r = grind (
        arith,
        changed_here scan.place b.last here x,
        here_placed,
        changed_away scan.place b.last here x,
        scan.placed x,
        read_more c b.last (b.fewer - 1) x within,
        b.at_is,
        b.reads_is,
        some,
      )

      nodes : linked_nodes (lists c) (Move.Step p ∷ earlier) ≡ linked_nodes (lists c) earlier
      nodes = ap (λ (z : Phase). linked_nodes (lists c) earlier ++ links_at z) b.place_is ∙ append-nil (linked_nodes (lists c) earlier)

      none : decides (lists c) ((reached (lists c) earlier).stand p).phase found ≡ None
      none =
          ap (λ (z : Phase). decides (lists c) z found) b.place_is
          ∙ ap (λ (free : Bool). answer_of (if free then On (Sending.ResetPassed b.parcel b.last) else if b.fewer == c.capacity + 1 then Decides (Answer.Send SendAnswer.Full) else On (Sending.ReadPassed b.parcel (after c b.last) (b.fewer + 1)))) (ne_eqb found (groups c) b.busy)
          ∙ ap (λ (all : Bool). answer_of (if all then Decides (Answer.Send SendAnswer.Full) else On (Sending.ReadPassed b.parcel (after c b.last) (b.fewer + 1)))) (ne_eqb b.fewer (c.capacity + 1) b.others)

      answers : (history_of (lists c) (Move.Step p ∷ earlier)).sends.answers ≡ (history_of (lists c) earlier).sends.answers
      answers = same_sends c (history_of (lists c) earlier) p ((reached (lists c) earlier).stand p).phase _ (subst (λ (n : ℕ). decides (lists c) ((reached (lists c) earlier).stand p).phase n ≡ None) found_is none)

  -- another pass steps
  others : (earlier : List Move) → IsRun (lists c) earlier → (p q : ℕ) → p < passes (lists c) → q < passes (lists c) → q ≢ p → (job : Job) (parcel : Parcel) (at reads : ℕ)
      → ((reached (lists c) earlier).stand p).phase ≡ Phase.Sending job (Sending.ReadPassed parcel at reads) → Scan c earlier at reads → Scan c (Move.Step q ∷ earlier) at reads
  others earlier run p q less q_less ne job parcel at reads stands scan =
      on_scan c (Move.Step q) earlier at reads
      (ap (λ (l : List ℕ). linked_nodes (lists c) earlier ++ l) (links_none ((reached (lists c) earlier).stand q).phase off) ∙ append-nil (linked_nodes (lists c) earlier))
      (other_sends c (history_of (lists c) earlier) q ((reached (lists c) earlier).stand q).phase _ ((reached (lists c) earlier).stand q).begun ((after_it earlier run).posts.well q) off)
      scan
    where
      off : IsSending ((reached (lists c) earlier).stand q).phase → ⊥
      off u = ne ((chain_facts c (in_range c checked) earlier run).one_sending q p q_less less u (subst (λ (z : Phase). IsSending z) (sym stands) tt))

  pub scan_is : (moves : List Move) → IsRun (lists c) moves → (p : ℕ) → p < passes (lists c) → (job : Job) (parcel : Parcel) (at reads : ℕ)
      → ((reached (lists c) moves).stand p).phase ≡ Phase.Sending job (Sending.ReadPassed parcel at reads) → Scan c moves at reads
  scan_is [] run p less job parcel at reads stands = let no : Phase.Idle ≡ Phase.Sending job (Sending.ReadPassed parcel at reads) = sym (opening_idle c p (nat_lt p (passes (lists c)))) ∙ stands in absurd (cc)
  scan_is (Move.Begin q call known ∷ earlier) run p less job parcel at reads stands =
      on_scan c (Move.Begin q call known) earlier at reads refl refl (scan_is earlier run.0 p less job parcel at reads (held (reached (lists c) earlier).stand q p _ _ (λ e. cc) stands))
  scan_is (Move.Take q ∷ earlier) run p less job parcel at reads stands =
      on_scan c (Move.Take q) earlier at reads refl refl (scan_is earlier run.0 p less job parcel at reads (held (reached (lists c) earlier).stand q p _ _ (λ e. cc) stands))
  scan_is (Move.Step q ∷ earlier) run p less job parcel at reads stands = elim (cases_eq q p) [
    | inl is ↦
        let s : State = reached (lists c) earlier in
        let found : ℕ = s.mem (word_of (operation (lists c) (chain_of c p) (s.stand p).node (s.stand p).phase)) in
        let run' : IsRun (lists c) (Move.Step p ∷ earlier) = subst (λ (j : ℕ). IsRun (lists c) (Move.Step j ∷ earlier)) is run in
        let stands' : ((reached (lists c) (Move.Step p ∷ earlier)).stand p).phase ≡ Phase.Sending job (Sending.ReadPassed parcel at reads) = subst (λ (j : ℕ). ((reached (lists c) (Move.Step j ∷ earlier)).stand p).phase ≡ Phase.Sending job (Sending.ReadPassed parcel at reads)) is stands in
        let goes_to : goes (lists c) (chain_of c p) (s.stand p).node (s.stand p).phase found ≡ Phase.Sending job (Sending.ReadPassed parcel at reads) = ap (λ (z : Stand). z.phase) (sym (hold_here s.stand p _)) ∙ stands' in
        let from : From c (s.stand p).phase found at reads = place_from c (chain_of c p) (s.stand p).node (s.stand p).phase found at reads (subst (λ (z : Phase). AtRead z at reads) (sym goes_to) (refl, refl)) in
        subst (λ (j : ℕ). Scan c (Move.Step j ∷ earlier) at reads) (sym is) (elim from [
          | inl one ↦ begin_scan (Move.Step p) earlier run' p less job parcel at reads stands' one
          | inr b ↦ go_on earlier run.0 p found at reads refl b (scan_is earlier run.0 p less b.job b.parcel b.last b.fewer b.place_is)
        ])
    | inr ne ↦
        let before : ((reached (lists c) earlier).stand p).phase ≡ Phase.Sending job (Sending.ReadPassed parcel at reads) = ap (λ (z : Stand). z.phase) (sym (hold_other (reached (lists c) earlier).stand q p _ ne)) ∙ stands in
        others earlier run.0 p q less run.1.0 ne job parcel at reads before (scan_is earlier run.0 p less job parcel at reads before)
  ]
