-- The laws of the chains, from their invariant.
use Rattle.std.proofs.Common.{◌≡◌, ◌≢◌, ◌⊎◌, ℕ, suc, ◌+◌, ◌<◌, ◌≤◌, refl, ap, sym, ◌∙◌, subst, arith, inl, inr, Some, List, length, Ok, ◌*◌}
use Rattle.std.proofs.lemmas.Bool.{cases_eq, cases_lt}
use Rattle.std.proofs.lemmas.Option.{slice_get-get_or, get_or_from_slice_get, slice_get_within}
use Rattle.cc_model.specs.Config.{config_fault}
use Rattle.cc_model.specs.Items.{calls_of}
use Rattle.cc_runs.specs.Names.{Entry, Pass, Item, Answer, TakeAnswer, Setting, Served, Chain, NodeField, Word, Job, Sending, Stand, Phase, Move}
use Rattle.cc_runs.specs.Codes.{ret_of, code_of, request_in, further_words, word, tag_of}
use Rattle.cc_runs.proofs.Bodies.{few_further}
use Rattle.cc_runs.proofs.Chains.Sides.{asks_word}
use Rattle.cc_runs.specs.State.{side, State, chain_of, pass_at, word_of}
use Rattle.cc_runs.specs.Lines.{operation}
use Rattle.cc_model.specs.Record.{silent, Side}
use Rattle.cc_runs.specs.Words.{groups}
use Rattle.std.proofs.lemmas.List.{get_or_past}
use Rattle.cc_runs.specs.Run.{IsRun, reached, passes}
use Rattle.cc_runs.specs.Ready.{WhileUndecided}
use Rattle.cc_runs.specs.OnChain.{passes_on, calls_on, answers_on}
use Rattle.cc_runs.specs.ChainLaws.{IsCombining, served_by, AreNodes, served_node, HoldsRequest, ServesNext, IsWithinBound, WasTold, IsReading, ReadsWord, IsToldBy, IsOut, ChainLaws, ChainLawsOfRuns, CounterLawsOfRuns}
use Rattle.cc_runs.proofs.Ranges.{InRange, in_range}
use Rattle.cc_runs.proofs.Chains.View.{view, pass_on, post_of, post_at, serving, request_words, request_long, asked_words, answer_words, answer_long}
use Rattle.cc_runs.proofs.Chains.Frame.{answer_first}
use Rattle.cc_runs.proofs.Chains.Registers.{IsChain, call_at, answer_at, no_call, no_answer, OnTake, IsAnswer, HasRead, coded_words, tag_word, words_told, IsChainOf}
use Rattle.cc_runs.proofs.Chains.Facts.{own_node, some_words, coded_first, got_item}
use Rattle.cc_runs.proofs.Chains.Ties.{ghost_of, Holds}
use Rattle.cc_runs.proofs.Chains.Others.{IsOn}
use Rattle.cc_runs.proofs.Chains.Safe as safe
use Rattle.cc_runs.proofs.Chains.Read as read
use Rattle.cc_runs.proofs.Chains.Touched.{Touches, touches}
use Rattle.cc_runs.proofs.Combining.Apart.{node_apart}
use Rattle.cc_runs.proofs.Chains.Serving.{Chains, chains_hold, chain_is, on_chain, one_combiner, sending_where, counting_where, next_call, next_words}
use Rattle.cc_runs.proofs.Chains.ReadAnswers.{HasTold, HasAnswer, NotOther, named, name_is, answer_on}
use Rattle.cc_runs.proofs.Chains.Decoded.{reads_back}
use Rattle.cc_runs.proofs.Counted.{Counts}
use Rattle.cc_runs.proofs.CounterRuns.{counter_holds, counter_ready}
use Rattle.cc_runs.proofs.ChainRuns.{has_told, not_other, silent_takes, sides_are}

pub combining_rank : (x : Chain) (own : ℕ) (at : Phase) → IsCombining at → (post_of x own at).rank ≡ 5
combining_rank x own at a = grind arith

-- the request's words, on either side
holds_request : (s : State) (x : Chain) (at : ℕ) (e : Entry) → ((j : ℕ) → j < request_long x e → request_words x (λ (f : NodeField). s.mem (Word.Node x at f)) j ≡ asked_words x e j) → HoldsRequest s x at e
holds_request s Chain.Send at e words = (words 0 (omega arith), λ i most. words (suc i) (omega (arith, most)) ∙ asks_word (request_in e) i (omega (arith, most, few_further (request_in e).tag)))
holds_request s (Chain.Take g) at e words = tt

-- a pass that reads its answer
reading_post : (x : Chain) (own : ℕ) (at : Phase) → IsReading at → post_of x own at ≡ post_of x own Phase.ReadAnswer
reading_post x own at a = grind arith

-- after the first word of an answer there are further ones for an item alone
item_read : (what : Served) (x : Chain) (a : Answer) (A : Type 0) → IsAnswer what x a → OnTake x A → (A → code_of (ret_of what a) ≡ 1) → (item : Item) × (a ≡ Answer.Take (TakeAnswer.Got item))
item_read what Chain.Send a A is had code = absurd had
item_read what (Chain.Take g) a A is had code = got_item what g a is (code had)

tag_read : (what : Served) (x : Chain) (a : Answer) (words : NodeField → ℕ) (A : Type 0) → OnTake x A → answer_words x words 1 ≡ coded_words what x a 1 → words NodeField.Tag ≡ tag_word a
tag_read what x a words A had same = grind arith

body_read : (what : Served) (x : Chain) (a : Answer) (words : NodeField → ℕ) (i : ℕ) (A : Type 0) → OnTake x A → answer_words x words (suc (suc i)) ≡ coded_words what x a (suc (suc i)) → words (NodeField.Body i) ≡ word (words_told a) i
body_read what x a words i A had same = grind arith

-- a pass out of its chain has none of its words
pub out_rank : (x : Chain) (own : ℕ) (at : Phase) → IsOut at → (post_of x own at).rank ≤ 2
out_rank x own at a = grind arith

-- a pass of a chain x, and its place
module _ (c : Setting) (r : InRange c.config) (s : State) (k : Chains c s) (x : Chain) (ok : IsChain c x) (p : ℕ) (on : IsOn c x p) where
  w : Holds c x s
  w = k.holds x ok

  abbrev own : ℕ
  own = (s.stand p).node

  abbrev Here : Phase → Type 0
  Here at = s.stand p ≡ record { begun = (s.stand p).begun; node = (s.stand p).node; phase = at }

  there : (at : Phase) → Here at → s.stand (pass_on c x on.number) ≡ record { begun = (s.stand p).begun; node = (s.stand p).node; phase = at }
  there at e = ap s.stand (sym on.pass_is) ∙ e

  target_at : (at : Phase) → Here at → (post_of x own at).rank ≡ 5 → (post_of x own at).target ≤ passes_on c x
  target_at at e five = safe.target_in c x ok r s on.number own (s.stand p).begun on.inside (k.holds x ok) at (there at e) five

  served_at : (at : Phase) → Here at → (post_of x own at).rank ≡ 5 → (post_of x own at).stage ≤ 2 → (post_of x own at).served < c.config.bound
  served_at at e five low = safe.served_in c x ok r s on.number own (s.stand p).begun on.inside (k.holds x ok) at (there at e) five low

  next_at : (at : Phase) (job : Job) → Here at → (post_of x own at).rank ≡ 5 → 1 ≤ (post_of x own at).stage → (post_of x own at).stage ≤ 2 → (post_of x own at).next ≡ job.next + 1 → job.next ≤ passes_on c x
  next_at at job e five low high is =
      safe.next_in c x ok r s on.number own (s.stand p).begun on.inside (k.holds x ok) at job.next (there at e) five low high is

  bounded_at : (at : Phase) → Here at → served_by at < c.config.bound
  bounded_at at e = grind (arith, served_at, safe.send_low, r.bound.0)

  nodes_at : (at : Phase) → Here at → AreNodes (passes_on c x) at
  nodes_at (Phase.WriteTag put request) e = safe.put_in c x ok r s on.number own (s.stand p).begun on.inside (k.holds x ok) (Phase.WriteTag put request) (there (Phase.WriteTag put request) e) refl
  nodes_at (Phase.WriteBody put request i) e = safe.put_in c x ok r s on.number own (s.stand p).begun on.inside (k.holds x ok) (Phase.WriteBody put request i) (there (Phase.WriteBody put request i) e) refl
  nodes_at (Phase.Link put) e = safe.put_in c x ok r s on.number own (s.stand p).begun on.inside (k.holds x ok) (Phase.Link put) (there (Phase.Link put) e) refl
  nodes_at (Phase.ReadNext round) e = target_at (Phase.ReadNext round) e refl
  nodes_at (Phase.Counting job service) e = (target_at (Phase.Counting job service) e refl, next_at (Phase.Counting job service) job e refl (omega arith) (omega arith) refl)
  nodes_at (Phase.Sending job service) e = (target_at (Phase.Sending job service) e refl, next_at (Phase.Sending job service) job e refl (safe.send_high service) (safe.send_low service) refl)
  nodes_at (Phase.Taking job service) e = (target_at (Phase.Taking job service) e refl, next_at (Phase.Taking job service) job e refl (omega arith) (omega arith) refl)
  nodes_at (Phase.WriteAnswer job told) e = (target_at (Phase.WriteAnswer job told) e refl, next_at (Phase.WriteAnswer job told) job e refl (omega arith) (omega arith) refl)
  nodes_at (Phase.WriteAnswerTag job item) e = (target_at (Phase.WriteAnswerTag job item) e refl, next_at (Phase.WriteAnswerTag job item) job e refl (omega arith) (omega arith) refl)
  nodes_at (Phase.WriteAnswerBody job item i) e = (target_at (Phase.WriteAnswerBody job item i) e refl, next_at (Phase.WriteAnswerBody job item i) job e refl (omega arith) (omega arith) refl)
  nodes_at (Phase.MarkDone job) e = (target_at (Phase.MarkDone job) e refl, next_at (Phase.MarkDone job) job e refl (omega arith) (omega arith) refl)
  nodes_at (Phase.HandOver at) e = target_at (Phase.HandOver at) e refl
  nodes_at _ e = tt

  link_at : (at served : ℕ) → Here (Phase.ReadNext record { at = at; served = served }) → s.mem (Word.Node x at NodeField.Next) ≤ passes_on c x + 1
  link_at at served e = safe.link_in c x ok r s on.number own (s.stand p).begun on.inside (k.holds x ok) record { at = at; served = served } (there (Phase.ReadNext record { at = at; served = served }) e)

  own_link_at : (at : ℕ) → Here (Phase.ReadNext record { at = at; served = 0 }) → 0 < s.mem (Word.Node x at NodeField.Next)
  own_link_at at e = safe.own_link_in c x ok r s on.number own (s.stand p).begun on.inside (k.holds x ok) at (there (Phase.ReadNext record { at = at; served = 0 }) e)

  own_at : (at : Phase) → Here at → own ≤ passes_on c x
  own_at at e = safe.own_in c x ok r s on.number own (s.stand p).begun on.inside (k.holds x ok) at (there at e)

  post_node : (post_at x (s.stand (pass_on c x on.number))).node ≡ (s.stand p).node
  post_node = ap (λ (z : ℕ). (post_at x (s.stand z)).node) (sym on.pass_is) ∙ own_node x (s.stand p).node (s.stand p).phase

  free_at : s.mem (Word.Tail x) ≢ (s.stand p).node + 1
  free_at same = (k.holds x ok).inv.nodes.last_apart on.number on.inside (omega (arith, post_node, (k.holds x ok).inv.nodes.tail_is))

  tail_at : (0 < s.mem (Word.Tail x)) × (s.mem (Word.Tail x) ≤ passes_on c x + 1)
  tail_at = omega (arith, (k.holds x ok).inv.nodes.tail_is, (k.holds x ok).inv.nodes.last_in)

  serves_next : (at : Phase) (job : Job) → (s.stand p).phase ≡ at → ((own : ℕ) → post_of x own at ≡ serving own job 1 0) → ServesNext s x job.round.at
  serves_next at job e undecided = record {
    entry = call_at (calls_on x s.history) (length (answers_on x s.history));
    next = next_call c s k x ok p on at job e undecided;
    request = holds_request s x job.round.at (call_at (calls_on x s.history) (length (answers_on x s.history))) (next_words c s k x ok p on at job e undecided);
  }

  serves_send : (job : Job) (service : Sending) → (s.stand p).phase ≡ Phase.Sending job service → WhileUndecided (Phase.Sending job service) (ServesNext s x job.round.at)
  serves_send job (Sending.WriteLastMark total) e = tt
  serves_send job (Sending.WriteShut total) e = tt
  serves_send job (Sending.WriteLast at on) e = tt
  serves_send job (Sending.WriteCount at on) e = tt
  serves_send job (Sending.WriteCursor at on) e = tt
  serves_send job Sending.ReadTag e = serves_next (Phase.Sending job Sending.ReadTag) job e (λ own. refl)
  serves_send job service e = serves_next (Phase.Sending job service) job e (λ own. refl)

  serves_at : (at : Phase) → (s.stand p).phase ≡ at → WhileUndecided at (ServesNext s x (served_node at))
  serves_at at e = grind (arith, serves_next, serves_send)

  -- the word of its answer that the pass reads next
  its_read : (at : Phase) → Here at → HasRead c.served x (answer_at (answers_on x s.history) ((ghost_of (k.holds x ok)).at on.number)) at
  its_read at e = subst (λ (z : Stand). HasRead c.served x (answer_at (answers_on x s.history) ((ghost_of (k.holds x ok)).at on.number)) z.phase) (there at e) ((k.holds x ok).ties.read on.number on.inside)

  word_of_it : (at : Phase) (j : ℕ) → Here at → IsReading at → j < answer_long (answer_at (answers_on x s.history) ((ghost_of (k.holds x ok)).at on.number)) →
      answer_words x (λ (f : NodeField). s.mem (Word.Node x own f)) j ≡ coded_words c.served x (answer_at (answers_on x s.history) ((ghost_of (k.holds x ok)).at on.number)) j
  word_of_it at j e reading less = read.word_at c x ok r.bound.0 s on.number (s.stand p).begun own on.inside (k.holds x ok) at j (there at e) (reading_post x own at reading) less

  reads_word : (at : Phase) → Here at → IsReading at → IsAnswer c.served x (answer_at (answers_on x s.history) ((ghost_of (k.holds x ok)).at on.number)) →
      ReadsWord c.served s x own (answer_at (answers_on x s.history) ((ghost_of (k.holds x ok)).at on.number)) at
  reads_word Phase.ReadAnswer e reading sided =
      sym (answer_first x (λ (f : NodeField). s.mem (Word.Node x own f))) ∙ word_of_it Phase.ReadAnswer 0 e tt (omega (arith, some_words (answer_at (answers_on x s.history) ((ghost_of (k.holds x ok)).at on.number))))
      ∙ coded_first c.served x (answer_at (answers_on x s.history) ((ghost_of (k.holds x ok)).at on.number))
  reads_word (Phase.ReadAnswerTag at) e reading sided =
      let item = item_read c.served x (answer_at (answers_on x s.history) ((ghost_of (k.holds x ok)).at on.number)) _ sided (its_read (Phase.ReadAnswerTag at) e) (λ h. h.0) in
      let long : answer_long (answer_at (answers_on x s.history) ((ghost_of (k.holds x ok)).at on.number)) ≡ further_words (tag_of item.0) + 3 = ap answer_long item.1 in (
        item.0,
        item.1,
        tag_read c.served x (answer_at (answers_on x s.history) ((ghost_of (k.holds x ok)).at on.number)) (λ (f : NodeField). s.mem (Word.Node x own f)) _ (its_read (Phase.ReadAnswerTag at) e) (word_of_it (Phase.ReadAnswerTag at) 1 e tt (omega (arith, long)))
            ∙ ap tag_word item.1,
      )
  reads_word (Phase.ReadAnswerBody at i) e reading sided =
      let item = item_read c.served x (answer_at (answers_on x s.history) ((ghost_of (k.holds x ok)).at on.number)) _ sided (its_read (Phase.ReadAnswerBody at i) e) (λ h. h.0) in
      let had = safe.on_take x _ (its_read (Phase.ReadAnswerBody at i) e) in
      let long : answer_long (answer_at (answers_on x s.history) ((ghost_of (k.holds x ok)).at on.number)) ≡ further_words (tag_of item.0) + 3 = ap answer_long item.1 in
      let low : i ≤ further_words (tag_of item.0) = omega (arith, had.3, ap further_words (had.2 ∙ ap tag_word item.1)) in (
        item.0,
        item.1,
        body_read c.served x (answer_at (answers_on x s.history) ((ghost_of (k.holds x ok)).at on.number)) (λ (f : NodeField). s.mem (Word.Node x own f)) i _ (its_read (Phase.ReadAnswerBody at i) e) (word_of_it (Phase.ReadAnswerBody at i) (suc (suc i)) e tt (omega (arith, long, low)))
            ∙ ap (λ (z : Answer). word (words_told z) i) item.1,
      )
  reads_word _ e reading sided = absurd reading

  reads_at : NotOther c x s.history → (at : Phase) → Here at → IsReading at → IsToldBy c.served s x own (pass_at c.config p) at
  reads_at none at e reading =
      let v : Holds c x s = k.holds x ok in
      let rank : (post_at x (s.stand (pass_on c x on.number))).rank ≡ 6 = ap (λ (z : Stand). (post_at x z).rank) (there at e) ∙ ap (λ z. z.rank) (reading_post x own at reading) in
      let a : HasAnswer c x s.history (pass_at c.config (pass_on c x on.number)) ((ghost_of (k.holds x ok)).at on.number) =
      answer_on c x s (k.holds x ok) none on.number on.inside ((k.holds x ok).inv.passes.late on.number on.inside rank) ((k.holds x ok).inv.passes.at_is on.number on.inside (omega (arith, rank))) in
      record {
        before = a.before;
        entry = call_at (calls_on x s.history) ((ghost_of (k.holds x ok)).at on.number);
        answer = answer_at (answers_on x s.history) ((ghost_of (k.holds x ok)).at on.number);
        last = ap (λ (z : ℕ). calls_of (pass_at c.config z) s.history) on.pass_is ∙ a.last;
        word = reads_word at e reading a.sided;
      }

  -- the call of a combiner, and how far it has come from there
  within_at : IsCombining (s.stand p).phase → IsWithinBound c.config.bound (calls_on x s.history) (answers_on x s.history) (pass_at c.config p)
  within_at combining =
      let v : Holds c x s = k.holds x ok in
      let rank : (post_at x (s.stand (pass_on c x on.number))).rank ≡ 5 = ap (λ (z : ℕ). (post_at x (s.stand z)).rank) (sym on.pass_is) ∙ combining_rank x (s.stand p).node (s.stand p).phase combining in
      let mine : (ghost_of v).server ≡ on.number + 1 = v.inv.server.server_is on.number on.inside rank in
      let called : (ghost_of v).at on.number < length (calls_on x s.history) = omega (arith, v.inv.passes.at_in on.number on.inside (omega (arith, rank))) in
      let its : (ghost_of v).pass_of ((ghost_of v).at on.number) ≡ on.number = v.inv.passes.at_is on.number on.inside (omega (arith, rank)) in
      record {
        own = (ghost_of v).at on.number;
        last = record {
          entry = call_at (calls_on x s.history) ((ghost_of v).at on.number);
          its = slice_get-get_or (calls_on x s.history) ((ghost_of v).at on.number) no_call called;
          who_is = (v.ties.entered ((ghost_of v).at on.number) (omega arith)).pass_is ∙ ap (λ (z : ℕ). pass_at c.config (pass_on c x z)) its ∙ ap (λ (z : ℕ). pass_at c.config z) (sym on.pass_is);
          none_later = λ j later after is same.
              let below : j < (ghost_of v).calls = omega (arith, slice_get_within (calls_on x s.history) j later is) in
              let theirs : named c x ((ghost_of v).pass_of j) ≡ named c x on.number =
              sym (name_is c x ((ghost_of v).pass_of j) (v.ties.pass_in j below)) ∙ sym (v.ties.entered j below).pass_is ∙ ap (λ (z : Entry). z.pass) (get_or_from_slice_get (calls_on x s.history) j later no_call is) ∙ same
              ∙ ap (λ (z : ℕ). pass_at c.config z) on.pass_is ∙ name_is c x on.number on.inside in
              v.inv.passes.at_last on.number j after below (same_number x ((ghost_of v).pass_of j) on.number theirs);
        };
        low = omega (arith, v.inv.server.server_low on.number mine, v.inv.calls.in_order);
        high = most v mine;
      }
    where
      same_number : (y : Chain) (a b : ℕ) → named c y a ≡ named c y b → a ≡ b
      same_number Chain.Send a b e = let next : a + 1 ≡ b + 1 = cc in omega arith
      same_number (Chain.Take g) a b e = let next : g * c.config.receivers + a + 1 ≡ g * c.config.receivers + b + 1 = cc in omega arith

      most : (v : Holds c x s) → (ghost_of v).server ≡ on.number + 1 → length (answers_on x s.history) ≤ (ghost_of v).at on.number + c.config.bound
      most v mine = elim (cases_eq (post_at x (s.stand (pass_on c x on.number))).stage 2) [
        | inl two ↦
            omega (arith, v.inv.serving.decided on.number mine two, v.inv.server.server_at on.number mine (omega (arith, two)), v.inv.server.server_bound on.number mine (omega (arith, two)))
        | inr other ↦ omega (arith, v.inv.serving.undecided on.number mine other, v.inv.server.server_most on.number mine)
      ]

ordered_on : (c : Setting) (s : State) (k : Chains c s) (x : Chain) → IsChain c x → length (answers_on x s.history) ≤ length (calls_on x s.history)
ordered_on c s k x ok = omega (arith, (k.holds x ok).inv.calls.in_order2, (k.holds x ok).inv.calls.in_order)

-- every side's lists
ordered_by : (c : Setting) (s : State) (k : Chains c s) (what : Served) → c.served ≡ what → (what ≡ Served.Counter → (g : ℕ) → side (Chain.Take g) s.history ≡ silent) → length s.history.takes ≡ groups c.config → (x : Chain) → length (answers_on x s.history) ≤ length (calls_on x s.history)
ordered_by c s k what e none many Chain.Send = ordered_on c s k Chain.Send tt
ordered_by c s k Served.Counter e none many (Chain.Take g) = omega (arith, ap (λ (z : Side). length z.answers) (none refl g))
ordered_by c s k Served.List e none many (Chain.Take g) = elim (cases_lt g (groups c.config)) [
  | inl near ↦ ordered_on c s k (Chain.Take g) (subst (λ (z : Served). IsChainOf z (groups c.config) (Chain.Take g)) (sym e) near)
  | inr far ↦ omega (arith, ap (λ (z : Side). length z.answers) (get_or_past s.history.takes g silent (omega (arith, far, many))))
]

was_told : (c : Setting) (s : State) (x : Chain) (who : Pass) (told : Answer) → HasTold c x s.history who told → WasTold c.served s.history who told
was_told c s x who told t = record {
  before = t.before;
  entry = call_at (calls_on x s.history) t.number;
  answer = answer_at (answers_on x s.history) t.number;
  last = t.last;
  same = λ fits. t.read ∙ reads_back c.served x (answer_at (answers_on x s.history) t.number) t.sided fits;
}

apart_on : (c : Setting) (s : State) (k : Chains c s) (x : Chain) (ok : IsChain c x) (p q : ℕ) (on_p : IsOn c x p) (on_q : IsOn c x q) → (s.stand p).node ≡ (s.stand q).node → p ≡ q
apart_on c s k x ok p q on_p on_q same =
    let first : (post_at x (s.stand (pass_on c x on_p.number))).node ≡ (s.stand p).node = ap (λ (z : ℕ). (post_at x (s.stand z)).node) (sym on_p.pass_is) ∙ own_node x (s.stand p).node (s.stand p).phase in
    let second : (post_at x (s.stand (pass_on c x on_q.number))).node ≡ (s.stand q).node = ap (λ (z : ℕ). (post_at x (s.stand z)).node) (sym on_q.pass_is) ∙ own_node x (s.stand q).node (s.stand q).phase in
    let number : on_p.number ≡ on_q.number = (k.holds x ok).inv.nodes.apart on_p.number on_q.number on_p.inside on_q.inside (first ∙ same ∙ sym second) in
    on_p.pass_is ∙ ap (λ (z : ℕ). pass_on c x z) number ∙ sym on_q.pass_is

-- no other pass of the chain touches the node of a pass that is out of it
untouched_on : (c : Setting) (s : State) (k : Chains c s) (x : Chain) (ok : IsChain c x) (p q i : ℕ) (on_p : IsOn c x p) (on_q : IsOn c x q) → p ≢ q → IsOut (s.stand p).phase → i ≡ (s.stand p).node →
    (i ≡ (s.stand q).node) ⊎ (((post_at x (s.stand q)).rank ≡ 5) × (i ≡ (post_at x (s.stand q)).target)) → ⊥
untouched_on c s k x ok p q i on_p on_q ne out is (inl own) = ne (apart_on c s k x ok p q on_p on_q (sym is ∙ own))
untouched_on c s k x ok p q i on_p on_q ne out is (inr its) =
    let v : Holds c x s = k.holds x ok in
    let rank : (post_at x (s.stand (pass_on c x on_q.number))).rank ≡ 5 = ap (λ (z : ℕ). (post_at x (s.stand z)).rank) (sym on_q.pass_is) ∙ its.0 in
    let target : (post_at x (s.stand (pass_on c x on_q.number))).target ≡ (post_at x (s.stand q)).target = ap (λ (z : ℕ). (post_at x (s.stand z)).target) (sym on_q.pass_is) in
    let low : (post_at x (s.stand (pass_on c x on_p.number))).rank ≤ 2 = subst (λ (z : ℕ). (post_at x (s.stand z)).rank ≤ 2) on_p.pass_is (out_rank x (s.stand p).node (s.stand p).phase out) in
    let node_is : (post_at x (s.stand (pass_on c x on_p.number))).node ≡ (s.stand p).node = ap (λ (z : ℕ). (post_at x (s.stand z)).node) (sym on_p.pass_is) ∙ own_node x (s.stand p).node (s.stand p).phase in
    let head : (post_at x (s.stand (pass_on c x on_q.number))).target ≡ (ghost_of v).chain (ghost_of v).marked = v.inv.server.server_target on_q.number (v.inv.server.server_is on_q.number on_q.inside rank) in
    node_apart (passes_on c x) c.config.bound (view c x s) (ghost_of v) v.inv on_p.number (ghost_of v).marked on_p.inside (omega arith) (omega (arith, v.inv.calls.in_order, v.inv.calls.in_order2))
    (λ more same. absurd (omega (arith, low, v.inv.calls.open_low (ghost_of v).marked (omega arith) more, ap (λ (z : ℕ). (post_at x (s.stand (pass_on c x z))).rank) same))) (sym head ∙ target ∙ sym its.1 ∙ is ∙ sym node_is)

untouched_by : (c : Setting) (s : State) (k : Chains c s) (p q : ℕ) (f : NodeField) (pn : p < passes c) (qn : q < passes c) → p ≢ q → IsOut (s.stand p).phase →
    word_of (operation c (chain_of c.config q) (s.stand q).node (s.stand q).phase) ≢ Word.Node (chain_of c.config p) (s.stand p).node f
untouched_by c s k p q f pn qn ne out e =
    let t : Touches (chain_of c.config q) (chain_of c.config p) (s.stand q).node (s.stand p).node (s.stand q).phase =
    touches c (chain_of c.config q) (chain_of c.config p) (s.stand q).node (s.stand p).node f (s.stand q).phase (λ job service is. (counting_where c s k q job service qn is).1) (λ job service is. (sending_where c s k q job service qn is).1) e in
    untouched_on c s k (chain_of c.config q) (chain_is c q qn) p q (s.stand p).node (subst (λ (y : Chain). IsOn c y p) t.chain (on_chain c p pn)) (on_chain c q qn) ne out refl t.which

module _ (c : Setting) (checked : config_fault c.config ≡ Ok tt) (moves : List Move) (run : IsRun c moves) where
  abbrev s : State
  s = reached c moves

  r : InRange c.config
  r = in_range c.config checked

  k : Chains c (reached c moves)
  k = chains_hold c r.bound.0 moves run

  abbrev x : ℕ → Chain
  x p = chain_of c.config p

  pub laws : ChainLaws c (reached c moves)
  laws = record {
    one = λ p q pn qn same a b. one_combiner c (reached c moves) k p q pn qn same (combining_rank Chain.Send (s.stand p).node (s.stand p).phase a) (combining_rank Chain.Send (s.stand q).node (s.stand q).phase b);
    bounded = λ p pn. bounded_at c r (reached c moves) k (x p) (chain_is c p pn) p (on_chain c p pn) (s.stand p).phase refl;
    within = λ p pn a. within_at c r (reached c moves) k (x p) (chain_is c p pn) p (on_chain c p pn) a;
    ordered = λ y. ordered_by c (reached c moves) k c.served refl (λ e. silent_takes c e moves run) (sides_are c moves) y;
    serves = λ p pn. serves_at c r (reached c moves) k (x p) (chain_is c p pn) p (on_chain c p pn) (s.stand p).phase refl;
    reads = λ p pn reading. reads_at c r (reached c moves) k (x p) (chain_is c p pn) p (on_chain c p pn) (not_other c r.bound.0 moves run (x p)) (s.stand p).phase refl reading;
    told = λ p told pn e. was_told c (reached c moves) (x p) (pass_at c.config p) told (has_told c r.bound.0 moves run p pn told e);
    own = λ p pn. own_at c r (reached c moves) k (x p) (chain_is c p pn) p (on_chain c p pn) (s.stand p).phase refl;
    nodes = λ p pn. nodes_at c r (reached c moves) k (x p) (chain_is c p pn) p (on_chain c p pn) (s.stand p).phase refl;
    link = λ p at served pn e. link_at c r (reached c moves) k (x p) (chain_is c p pn) p (on_chain c p pn) at served (λ i. record { begun = (s.stand p).begun; node = (s.stand p).node; phase = e i });
    own_link = λ p at pn e. own_link_at c r (reached c moves) k (x p) (chain_is c p pn) p (on_chain c p pn) at (λ i. record { begun = (s.stand p).begun; node = (s.stand p).node; phase = e i });
    tail = λ p pn. tail_at c r (reached c moves) k (x p) (chain_is c p pn) p (on_chain c p pn);
    apart = λ p q pn qn same e. apart_on c (reached c moves) k (x p) (chain_is c p pn) p q (on_chain c p pn) (subst (λ (y : Chain). IsOn c y q) (sym same) (on_chain c q qn)) e;
    free = λ p pn. free_at c r (reached c moves) k (x p) (chain_is c p pn) p (on_chain c p pn);
    untouched = λ p q f pn qn ne out. untouched_by c (reached c moves) k p q f pn qn ne out;
  }

pub chain_laws : ChainLawsOfRuns
chain_laws c checked moves run = laws c checked moves run

pub counter_laws : CounterLawsOfRuns
counter_laws c counter checked moves run =
    let r : InRange c.config = in_range c.config checked in
    let v : Counts c (reached c moves) = counter_holds c counter r.bound.0 moves run in
    record {
      chain = laws c checked moves run;
      count = v.count;
      numbers = λ n less. slice_get-get_or (reached c moves).history.sends.answers n no_answer less ∙ ap (λ (z : Answer). Some z) (v.kth n less);
      ready = λ p less. counter_ready c counter checked moves run p less;
    }
