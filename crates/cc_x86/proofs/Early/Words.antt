-- Which words a pass has posted at its phase, after one more store, and after a look.
use Rattle.std.proofs.Common.{◌≡◌, ◌≢◌, ◌⊎◌, inl, inr, ℕ, zero, suc, ◌+◌, ◌<◌, ◌≤◌, Bool, true, false, cond, ◌==◌, refl, ap, sym, ◌∙◌, subst, ⊎_elim, arith}
use Rattle.std.specs.Prelude.{nat_lt}
use Rattle.std.proofs.lemmas.Bool.{cases_eq}
use Rattle.cc_x86.specs.Names.{Setting, Served, Answer, NodeField, ItemField, Round, Job, Chain, Word, Stand, Phase, Sending}
use Rattle.cc_x86.specs.Early.{waits_at}
use Rattle.cc_x86.proofs.Stores.{contradiction}
use Rattle.cc_x86.proofs.Early.Phases.{IsStore, IsLoad, load_no_swap, OfSenders, OfReceivers, not_both, IsHand, IsMark, IsNext, IsPast, IsShut, IsOpen, open_combines, past_asks, past_combines, past_shut, answering_combines, asking_open, asking_shut, answering_one, answering_asks, answering_prepares, answering_shut, either_way, stand}
use Rattle.cc_x86.proofs.Early.Steps.{node_stays}
use Rattle.cc_runs.specs.State.{word_of}
use Rattle.cc_runs.specs.Lines.{operation, serves, after_answer, after_next, after_done}
use Rattle.cc_runs.specs.Codes.{behind, further_words, tag_of}
use Rattle.cc_runs.specs.SendLines as send_side
use Rattle.cc_runs.specs.TakeLines as take_side
use Rattle.cc_runs.specs.CountLines as count_side
use Rattle.cc_runs.specs.ServiceLine.{Next, phase_of}
use Rattle.cc_runs.specs.Step.{advanced}
use Rattle.cc_runs.specs.MachineLaws.{Prepares, IsPreparing}
use Rattle.cc_runs.specs.ChainLaws.{IsEntering}
use Rattle.cc_runs.specs.NodeLaws.{IsAsking, IsAnswering, IsSending}

-- a word of its own node, of a list node that it prepares, and of a node whose answer it writes
abbrev pub OwnWord : Chain → ℕ → Word → Type 0
OwnWord x own w = (f : NodeField) × (w ≡ Word.Node x own f)

abbrev pub ItemWord : Phase → Word → Type 0
ItemWord at w = (i : ℕ) × (f : ItemField) × Prepares at i × (w ≡ Word.Item i f)

abbrev pub AnswerWord : Chain → ℕ → Phase → Word → Type 0
AnswerWord x own at w = (n : ℕ) × (f : NodeField) × IsAnswering at n × (own ≢ n) × (NodeField.State ≢ f) × (w ≡ Word.Node x n f)

-- what it has linked wasn't served before
abbrev pub IsLow : ℕ → Phase → Type 0
IsLow state Phase.ReadState = state ≤ 1
IsLow state _ = Unit {0}

-- what it has posted before its next look; with what the state of each node of the chain is
abbrev pub Before : (ℕ → ℕ) → Chain → ℕ → Phase → Word → Type 0
Before state x own at w = IsShut x at ⊎ (IsAsking at × OwnWord x own w × IsLow (state own) at) ⊎ AnswerWord x own at w

-- what it has still posted since its last look
abbrev pub Since : Chain → ℕ → Phase → Word → Type 0
Since x own at w = IsOpen x at × (OwnWord x own w ⊎ ItemWord at w)

abbrev pub Inner : (ℕ → ℕ) → Chain → Stand → Word → Type 0
Inner state x at w = Before state x at.node at.phase w ⊎ Since x at.node at.phase w

-- from its hand-over on a pass has posted nothing of these kinds
pub past_inner : (state : ℕ → ℕ) (x : Chain) (own : ℕ) (at : Phase) (w : Word) → IsPast at → Before state x own at w ⊎ Since x own at w → ⊥
past_inner state x own at w past (inl (inl shut)) = past_shut x at past shut
past_inner state x own at w past (inl (inr (inl asks))) = past_asks at past asks.0
past_inner state x own at w past (inl (inr (inr answers))) = past_combines at past (answering_combines at answers.0 answers.2)
past_inner state x own at w past (inr (is, _)) = past_combines at past (open_combines x at is)

-- a word that is posted at a place in a request is the pass's own
own_asking : (state : ℕ → ℕ) (x : Chain) (own : ℕ) (at : Phase) (w : Word) → IsAsking at → Before state x own at w ⊎ Since x own at w → OwnWord x own w
own_asking state x own at w a h = grind (arith, asking_shut x at a, answering_asks at, asking_open x at a)

prepares_on : (i : ℕ) (b : Bool) (now then : Sending) → IsPreparing now i → IsPreparing then i → IsPreparing (cond b now then) i
prepares_on i b now then a d = grind arith

-- the word that its next step touches, or one that it has posted
abbrev pub Grown : Setting → (ℕ → ℕ) → Chain → Stand → Word → Type 0
Grown c state x at y = (y ≡ word_of (operation c x at.node at.phase)) ⊎ Inner state x at y

module _ (c : Setting) (state after : ℕ → ℕ) (x : Chain) (begun own : ℕ) where
  -- ---- after one more store

  abbrev Grows : Phase → Word → Type 0
  Grows at y = Grown c state x (stand begun own at) y → Inner after x (advanced c x (stand begun own at) 0) y

  asked : (at : Phase) (y : Word) (f : NodeField) → IsAsking at → (y ≡ Word.Node x own f) ⊎ Inner state x (stand begun own at) y → OwnWord x own y
  asked at y f a (inl is) = (f, is)
  asked at y f a (inr was) = own_asking state x own at y a was

  -- a later word of the request, or its link
  asks_on : (y : Word) (b : Bool) (now then : Phase) → IsAsking now → IsAsking then → OwnWord x own y → IsLow (after own) now → IsLow (after own) then → Before after x own (cond b now then) y
  asks_on y true now then a d its low low' = inr (inl (a, its, low))
  asks_on y false now then a d its low low' = inr (inl (d, its, low'))

  -- the words of a node that is prepared
  prepared : (job : Job) (service then : Sending) (at : ℕ) (y : Word) (f : ItemField) → ((i : ℕ) → IsPreparing service i → at ≡ i) → IsPreparing then at
      → ((i : ℕ) → at ≡ i → IsPreparing then i) → (IsShut x (Phase.Sending job service) → ⊥)
      → (y ≡ Word.Item at f) ⊎ Inner state x (stand begun own (Phase.Sending job service)) y → Inner after x (stand begun own (Phase.Sending job then)) y
  prepared job service then at y f was now all unshut h = grind arith

  sent : (job : Job) (service : Sending) (y : Word) → OfSenders x → IsStore (operation c x own (Phase.Sending job service)) → Grows (Phase.Sending job service) y
  sent job service y sends st was = grind (arith, prepared job, behind, further_words, prepares_on, nat_lt)

  -- a word of an answer, before the mark: on the senders' chain the mark is locked
  told : (at then : Phase) (n : ℕ) (y : Word) (f : NodeField) → IsAnswering at n → IsAnswering then n → IsOpen x then → (OfSenders x → IsShut x then) → NodeField.State ≢ f
      → (y ≡ Word.Node x n f) ⊎ Inner state x (stand begun own at) y → Inner after x (stand begun own then) y
  told at then n y f a d on shut no_state was = by_chain x refl
    where
      newer : (z : Word) → OfReceivers x → z ≡ Word.Node x n f → Inner after x (stand begun own then) z
      newer z takes is = ⊎_elim
          (λ (mine : own ≡ n). inr (on, inl (f, is ∙ ap (λ (k : ℕ). Word.Node x k f) (sym mine))))
          (λ (other : own ≡ n → ⊥). inl (inr (inr (n, f, d, other, no_state, is)))) (cases_eq own n)

      older : (z : Word) → OfReceivers x → Inner state x (stand begun own at) z → Inner after x (stand begun own then) z
      older z takes (inl (inl e)) = absurd (answering_shut x at n takes a e)
      older z takes (inl (inr (inl e))) = absurd (answering_asks at n a e.0)
      older z takes (inl (inr (inr e))) = inl (inr (inr (e.0, e.1, subst (λ (k : ℕ). IsAnswering then k) (answering_one at n e.0 a e.2) d, e.3, e.4, e.5)))
      older z takes (inr (_, inl its)) = inr (on, inl its)
      older z takes (inr (_, inr item)) = absurd (answering_prepares at n item.0 a item.2)

      by_chain : (z : Chain) → x ≡ z → Inner after x (stand begun own then) y
      by_chain Chain.Send e = inl (inl (shut (subst OfSenders (sym e) tt)))
      by_chain (Chain.Take g) e = let takes : OfReceivers x = subst OfReceivers (sym e) tt in ⊎_elim (newer y takes) (older y takes) was

  told_first : (job : Job) (answer : Answer) → IsAnswering (after_answer job answer) job.round.at × IsOpen x (after_answer job answer) × (OfSenders x → IsShut x (after_answer job answer))
  told_first job answer = grind arith

  -- a store that is posted, but for marks and hand-overs
  pub grows : (at : Phase) (y : Word) → IsStore (operation c x own at) → (IsMark at → ⊥) → (IsHand at → ⊥) → (IsSending at → OfSenders x) → (IsEntering at → after own ≤ 1) → Grows at y
  grows (Phase.WriteTag put request) y st mark hand sends low was = inl (inr (inl (tt, asked (Phase.WriteTag put request) y NodeField.Tag tt was, tt)))
  grows (Phase.WriteBody put request i) y st mark hand sends low was =
      inl (asks_on y (nat_lt i (further_words request.tag)) (Phase.WriteBody put request (i + 1)) (Phase.Link put) tt tt (asked (Phase.WriteBody put request i) y (NodeField.Body i) tt was) tt tt)
  grows (Phase.Link put) y st mark hand sends low was = inl (inr (inl (tt, asked (Phase.Link put) y NodeField.Next tt was, low tt)))
  grows (Phase.Sending job service) y st mark hand sends low was = sent job service y (sends tt) st was
  grows (Phase.WriteAnswer job answer) y st mark hand sends low was =
      let t = told_first job answer in told (Phase.WriteAnswer job answer) (after_answer job answer) job.round.at y NodeField.Ret refl t.0 t.1 t.2 (λ e. cc) was
  grows (Phase.WriteAnswerTag job item) y st mark hand sends low was =
      told (Phase.WriteAnswerTag job item) (Phase.WriteAnswerBody job item 0) job.round.at y NodeField.Tag refl refl tt (λ a. a) (λ e. cc) was
  grows (Phase.WriteAnswerBody job item i) y st mark hand sends low was =
      told (Phase.WriteAnswerBody job item i) (cond (nat_lt i (further_words (tag_of item))) (Phase.WriteAnswerBody job item (i + 1)) (Phase.MarkDone job)) job.round.at y (NodeField.Body i) refl
      (either_way (λ (z : Phase). IsAnswering z job.round.at) (nat_lt i (further_words (tag_of item))) (Phase.WriteAnswerBody job item (i + 1)) (Phase.MarkDone job) refl refl)
      (either_way (λ (z : Phase). IsOpen x z) (nat_lt i (further_words (tag_of item))) (Phase.WriteAnswerBody job item (i + 1)) (Phase.MarkDone job) tt tt)
      (λ a. either_way (λ (z : Phase). IsShut x z) (nat_lt i (further_words (tag_of item))) (Phase.WriteAnswerBody job item (i + 1)) (Phase.MarkDone job) a a)
      (λ e. cc) was
  grows at y st mark hand sends low was = grind arith

  -- the mark of a take: what it has posted of another node than its own is marked now
  pub marks : (job : Job) (y : Word) → OfReceivers x → Grown c state x (stand begun own (Phase.MarkDone job)) y
      → Since x own (after_done c.config.bound job) y ⊎ ((own ≢ job.round.at) × (f : NodeField) × (y ≡ Word.Node x job.round.at f))
  marks job y takes was = by_kind was
    where
      on : IsOpen x (after_done c.config.bound job)
      on = either_way (λ (z : Phase). IsOpen x z) (job.round.served + 1 == c.config.bound) (Phase.HandOver job.next) (Phase.ReadNext record { at = job.next; served = job.round.served + 1 }) takes (inr takes)

      of_node : (n : ℕ) (f : NodeField) → y ≡ Word.Node x n f → job.round.at ≡ n → Since x own (after_done c.config.bound job) y ⊎ ((own ≢ job.round.at) × (f : NodeField) × (y ≡ Word.Node x job.round.at f))
      of_node n f is same = ⊎_elim
          (λ (mine : own ≡ job.round.at). inl (on, inl (f, is ∙ ap (λ (k : ℕ). Word.Node x k f) (sym same ∙ sym mine))))
          (λ (other : own ≡ job.round.at → ⊥). inr (other, f, is ∙ ap (λ (k : ℕ). Word.Node x k f) (sym same))) (cases_eq own job.round.at)

      by_kind : (y ≡ Word.Node x job.round.at NodeField.State) ⊎ Inner state x (stand begun own (Phase.MarkDone job)) y → Since x own (after_done c.config.bound job) y ⊎ ((own ≢ job.round.at) × (f : NodeField) × (y ≡ Word.Node x job.round.at f))
      by_kind h = grind (arith, of_node job.round.at NodeField.State, not_both x, of_node, on)

  -- ---- after a look

  service_on : {S : Type 0} (in_service : Job → S → Phase) (job : Job) (n : Next S) → ((s : S) → IsOpen x (in_service job s)) → IsOpen x (phase_of in_service job n)
  service_on in_service job n all = grind arith

  serves_on : (what : Served) (y : Chain) (job : Job) → IsOpen x (serves what y job)
  serves_on what y job = grind arith

  next_on : (round : Round) (found : ℕ) → (0 < found) ⊎ OfReceivers x → IsOpen x (after_next c.served x round found)
  next_on round zero (inl linked) = absurd (omega (arith, linked))
  next_on round zero (inr takes) = takes
  next_on round (suc n) linked = serves_on c.served x record { round = round; next = n }

  -- a combiner's look
  looks_on : (at : Phase) (found : ℕ) → IsLoad (operation c x own at) → IsOpen x at → (IsNext at → (0 < found) ⊎ OfReceivers x) → IsOpen x (advanced c x (stand begun own at) found).phase
  looks_on (Phase.ReadNext round) found l a linked = next_on round found (linked tt)
  looks_on (Phase.Counting job service) found l a linked = service_on count_side.in_service job (count_side.line 0 service found).next (λ s. tt)
  looks_on (Phase.Sending job service) found l a linked = service_on send_side.in_service job (send_side.line c.config 0 service found).next (λ s. tt)
  looks_on (Phase.Taking job service) found l a linked = service_on take_side.in_service job (take_side.line 0 service found).next (λ s. tt)
  looks_on at found l a linked = grind arith

  looks_prepare : (at : Phase) (found i : ℕ) → IsLoad (operation c x own at) → Prepares at i → Prepares (advanced c x (stand begun own at) found).phase i
  looks_prepare at found i l e = grind arith

  shut_no_load : (at : Phase) → IsShut x at → IsLoad (operation c x own at) → ⊥
  shut_no_load at a l = grind arith

  answering_no_load : (at : Phase) (n : ℕ) → IsAnswering at n → IsLoad (operation c x own at) → ⊥
  answering_no_load at n a l = grind arith

  -- a request's last look: it doesn't wait, so it finds 0
  asks_look : (at : Phase) (found : ℕ) (y : Word) → IsAsking at → IsLoad (operation c x own at) → IsLow (state own) at → OwnWord x own y
      → (at ≡ Phase.ReadState → found ≡ state own) → waits_at at found ≡ false
      → Since x (advanced c x (stand begun own at) found).node (advanced c x (stand begun own at) found).phase y
  asks_look Phase.ReadState (suc zero) y a l low its finds waits = absurd (contradiction true refl waits)
  asks_look Phase.ReadState (suc (suc n)) y a l low its finds waits = absurd (too_many n (state own) (finds refl) low)
    where
      too_many : (n z : ℕ) → suc (suc n) ≡ z → z ≤ 1 → ⊥
      too_many n z e low = omega (arith, e, low)
  asks_look at found y a l low its finds waits = grind arith

  -- what a pass has posted, after its look
  pub looks : (at : Phase) (found : ℕ) (y : Word) → IsLoad (operation c x own at) → (IsOpen x at → IsNext at → (0 < found) ⊎ OfReceivers x) → (at ≡ Phase.ReadState → found ≡ state own) → waits_at at found ≡ false
      → Inner state x (stand begun own at) y → Since x (advanced c x (stand begun own at) found).node (advanced c x (stand begun own at) found).phase y
  looks at found y l linked finds waits (inl (inl shut)) = absurd (shut_no_load at shut l)
  looks at found y l linked finds waits (inl (inr (inl (asking, its, low)))) = asks_look at found y asking l low its finds waits
  looks at found y l linked finds waits (inl (inr (inr answers))) = absurd (answering_no_load at answers.0 answers.2 l)
  looks at found y l linked finds waits (inr (on, inl its)) = (
    looks_on at found l on (linked on),
    inl (its.0, its.1 ∙ ap (λ (z : ℕ). Word.Node x z its.0) (sym (node_stays c x begun own at found (λ s. load_no_swap (operation c x own at) l s)))),
  )
  looks at found y l linked finds waits (inr (on, inr item)) = (looks_on at found l on (linked on), inr (item.0, item.1, looks_prepare at found item.0 l item.2, item.3))
