-- Each step of a pass of the chain keeps what holds of the chain.
use Rattle.std.proofs.Common.{length, ◌≡◌, ◌≢◌, ℕ, zero, suc, ◌+◌, ◌<◌, ◌≤◌, refl, ap, sym, ◌∙◌, subst, arith, Some, None, [], ◌∷◌, ◌++◌}
use Rattle.cc_model.specs.Record.{Side, Record, with_call}
use Rattle.cc_runs.specs.Words.{groups}
use Rattle.cc_runs.specs.Names.{Entry, Setting, Chain, NodeField, Word, Stand, Round, Phase}
use Rattle.cc_runs.specs.State.{State, side, noted}
use Rattle.cc_runs.specs.Lines.{goes, enters, decides, after_exchange, after_state, after_next, serves}
use Rattle.cc_runs.specs.Step.{advanced}
use Rattle.cc_runs.specs.Run.{IsFinished}
use Rattle.cc_runs.proofs.Combining.Chain.{Ghost}
use Rattle.cc_runs.proofs.Combining.Invariant.{Inv}
use Rattle.cc_runs.proofs.Combining.Stay as by_stay
use Rattle.cc_runs.proofs.Combining.CallSteps as by_call
use Rattle.cc_runs.proofs.Combining.CombinerSteps as by_combiner
use Rattle.cc_runs.proofs.Chains.View.{view, members, pass_on, post_of, post_at}
use Rattle.cc_runs.proofs.Chains.Frame.{hold_here, hold_apart, pass_apart, serves_post}
use Rattle.cc_runs.proofs.Chains.Bridge as bridge
use Rattle.cc_runs.proofs.Chains.Bridge.{standing, after, found}
use Rattle.cc_runs.proofs.Chains.Registers.{IsChain, HasSide, calls_on, answers_on, call_at, answer_at, HasCall, HasService, HasRead}
use Rattle.cc_runs.proofs.Chains.Ties.{ghost_of, holds_at, ghosts, Holds, stands_on, ties_moved}
use Rattle.cc_runs.proofs.Chains.Grown as grown
use Rattle.cc_runs.proofs.Chains.Facts.{noted_none, side_same, keeps_side, IsFree, free_at, exchanged_free, serves_it, few_asked}

-- an exchange puts its call at the end of its chain's
entered : (x : Chain) (h : Record) (e : Entry) → HasSide x h → side x (noted x h (Some e) None) ≡ with_call (side x h) e
entered x h e i = side_same x h _ i

module _ (c : Setting) (x : Chain) (s : State) (p begun own : ℕ) where
  pub mine : (at : Phase) → (after c x s p begun own at).stand (pass_on c x p) ≡ advanced c x (standing c x s p begun own at) (found c x s p begun own at)
  mine at = hold_here s.stand (pass_on c x p) _

  pub others : (at : Phase) (q : ℕ) → q ≢ p → (after c x s p begun own at).stand (pass_on c x q) ≡ s.stand (pass_on c x q)
  others at q ne = hold_apart s.stand (pass_on c x p) (pass_on c x q) _ (pass_apart c x p q ne)

  pub history_same : (at : Phase) → enters at ≡ None → decides c at (found c x s p begun own at) ≡ None → (after c x s p begun own at).history ≡ s.history
  history_same at e d = (λ i. noted x s.history (e i) (d i)) ∙ noted_none x s.history

-- the ties that a step keeps, if the history stays
pub record Moves (c : Setting) (x : Chain) (s : State) (g : Ghost) (p marked server : ℕ) (there : Phase) : Type 0 where
  pub onward : g.marked ≤ marked
  pub call : HasCall c x p there
  pub read : HasRead c.served x (answer_at (answers_on x s.history) (g.at p)) there
  pub ended : IsFinished there → (g.at p < marked) × (g.pass_of (g.at p) ≡ p)
  pub serves : server ≡ p + 1 → HasService c.served x (call_at (calls_on x s.history) marked) (answer_at (answers_on x s.history) marked) there
  pub keep : (q : ℕ) → q ≢ p → server ≡ q + 1 → (g.server ≡ q + 1) × (g.marked ≡ marked)

module _ (c : Setting) (x : Chain) (ok : IsChain c x) (some : 0 < c.config.bound) (s : State) (p begun own : ℕ) (inside : p < members c x) (w : Holds c x s) where
  abbrev pub Here : Phase → Type 0
  Here at = s.stand (pass_on c x p) ≡ standing c x s p begun own at

  abbrev pub next : Phase → State
  next at = after c x s p begun own at

  abbrev pub found_at : Phase → ℕ
  found_at at = found c x s p begun own at

  -- the history stays, and the pass goes there
  pub goes_on : (at there : Phase) (marked server : ℕ) → goes c x own at (found_at at) ≡ there → enters at ≡ None → decides c at (found_at at) ≡ None →
      Inv (members c x) c.config.bound (view c x (next at)) (record (ghost_of w) { marked = marked; server = server }) → Moves c x s (ghost_of w) p marked server there → Holds c x (next at)
  goes_on at there marked server go e d inv m =
      let place_is : goes c x own at (found_at at) ≡ there = go in
      let back : there ≡ goes c x own at (found_at at) = sym go in
      holds_at c x (next at) (calls_on x s.history) (answers_on x s.history) (record w.kept { marked = marked; server = server }) (ap (calls_on x) (history_same c x s p begun own at e d)) (ap (answers_on x) (history_same c x s p begun own at e d)) inv
      (ties_moved c x (calls_on x s.history) (answers_on x s.history) (stands_on c x s) (stands_on c x (next at)) w.kept p w.ties
      (advanced c x (standing c x s p begun own at) (found_at at)) marked server (mine c x s p begun own at) (λ q ne. others c x s p begun own at q ne) m.onward
      (subst (λ (z : Phase). HasCall c x p z) back m.call)
      (subst (λ (z : Phase). HasRead c.served x (answer_at (answers_on x s.history) ((ghost_of w).at p)) z) back m.read)
      (λ f. m.ended (subst (λ (z : Phase). IsFinished z) place_is f))
      (λ a. subst (λ (z : Phase). HasService c.served x (call_at (calls_on x s.history) marked) (answer_at (answers_on x s.history) marked) z) back (m.serves a)) m.keep)
      (keeps_side x x s.history _ w.side_in)

  -- the pass keeps its part in the chain
  pub stays_in : (there : Phase) → IsFree c x p there →
      ((ghost_of w).server ≡ p + 1 → HasService c.served x (call_at (calls_on x s.history) (ghost_of w).marked) (answer_at (answers_on x s.history) (ghost_of w).marked) there) → Moves c x s (ghost_of w) p (ghost_of w).marked (ghost_of w).server there
  stays_in there free serves = record { onward = omega arith; call = free.call; read = free.read _; ended = λ f. absurd (free.unfinished f); serves = serves; keep = λ q ne a. (a, refl) }

  pub reset_next : (call : Entry) → Here (Phase.ResetNext call) → Holds c x (next (Phase.ResetNext call))
  reset_next call e =
      goes_on (Phase.ResetNext call) (Phase.ResetState call) (ghost_of w).marked (ghost_of w).server refl refl refl
      (by_call.resets (members c x) c.config.bound (view c x s) (view c x (next (Phase.ResetNext call))) (ghost_of w) p inside w.inv (bridge.reset_next c x s p begun own call e))
      record { onward = omega arith; call = subst (λ (z : Stand). HasCall c x p z.phase) e (w.ties.begun p inside); read = tt; ended = λ f. absurd f; serves = λ a. tt; keep = λ q ne a. (a, refl) }

  pub reset_state : (call : Entry) → Here (Phase.ResetState call) → Holds c x (next (Phase.ResetState call))
  reset_state call e =
      let was : post_at x (s.stand (pass_on c x p)) ≡ post_of x own (Phase.ResetState call) = ap (λ (z : Stand). post_at x z) e in
      let clear : s.mem (Word.Node x own NodeField.Next) ≡ 0 = grind (arith, w.inv.links.ready_next p) in
      goes_on (Phase.ResetState call) (Phase.Exchange call) (ghost_of w).marked (ghost_of w).server refl refl refl
      (by_call.resets (members c x) c.config.bound (view c x s) (view c x (next (Phase.ResetState call))) (ghost_of w) p inside w.inv (bridge.reset_state c x s p begun own call e clear))
      record { onward = omega arith; call = subst (λ (z : Stand). HasCall c x p z.phase) e (w.ties.begun p inside); read = tt; ended = λ f. absurd f; serves = λ a. tt; keep = λ q ne a. (a, refl) }

  pub link : (put : ℕ) → Here (Phase.Link put) → Holds c x (next (Phase.Link put))
  link put e =
      let rank : (post_at x (s.stand (pass_on c x p))).rank ≡ 3 = ap (λ (z : Stand). (post_at x z).rank) e in
      let called : (ghost_of w).at p < (ghost_of w).calls = w.inv.passes.at_in p inside (omega (arith, rank)) in
      goes_on (Phase.Link put) Phase.ReadState (ghost_of w).marked (ghost_of w).server refl refl refl
      (by_call.links (members c x) c.config.bound (view c x s) (view c x (next (Phase.Link put))) (ghost_of w) p inside w.inv
      (bridge.link c x s p begun own ((ghost_of w).asks_long ((ghost_of w).at p)) put (omega (arith, few_asked x (call_at (calls_on x s.history) ((ghost_of w).at p)))) e))
      record { onward = omega arith; call = tt; read = tt; ended = λ f. absurd f; serves = λ a. tt; keep = λ q ne a. (a, refl) }

  wait : Here Phase.ReadState → s.mem (Word.Node x own NodeField.State) ≡ 1 → Holds c x (next Phase.ReadState)
  wait e saw =
      goes_on Phase.ReadState Phase.ReadState (ghost_of w).marked (ghost_of w).server (ap (λ (z : ℕ). after_state own z) saw) refl refl
      (by_stay.keeps (members c x) c.config.bound (view c x s) (view c x (next Phase.ReadState)) (ghost_of w) w.inv
      (bridge.stays c x s p begun own (members c x) Phase.ReadState e (ap (λ (z : ℕ). post_of x own (after_state own z)) saw) refl (λ i f. refl)))
      record { onward = omega arith; call = tt; read = tt; ended = λ f. absurd f; serves = λ a. tt; keep = λ q ne a. (a, refl) }

  collect : (k : ℕ) → Here Phase.ReadState → s.mem (Word.Node x own NodeField.State) ≡ suc (suc k) → Holds c x (next Phase.ReadState)
  collect k e saw =
      goes_on Phase.ReadState Phase.ReadAnswer (ghost_of w).marked (ghost_of w).server (ap (λ (z : ℕ). after_state own z) saw) refl refl
      (by_call.collects (members c x) c.config.bound (view c x s) (view c x (next Phase.ReadState)) (ghost_of w) p inside w.inv (bridge.collect c x s p begun own k e saw))
      record { onward = omega arith; call = tt; read = tt; ended = λ f. absurd f; serves = λ a. tt; keep = λ q ne a. (a, refl) }

  start : Here Phase.ReadState → s.mem (Word.Node x own NodeField.State) ≡ 0 → Holds c x (next Phase.ReadState)
  start e saw =
      goes_on Phase.ReadState (Phase.ReadNext record { at = own; served = 0 }) (ghost_of w).marked (p + 1) (ap (λ (z : ℕ). after_state own z) saw) refl refl
      (by_call.starts (members c x) c.config.bound (view c x s) (view c x (next Phase.ReadState)) (ghost_of w) p inside w.inv some (bridge.start c x s p begun own e saw))
      record { onward = omega arith; call = tt; read = tt; ended = λ f. absurd f; serves = λ a. tt; keep = λ q ne a. absurd (ne (omega arith)) }

  read_state_by : (k : ℕ) → Here Phase.ReadState → s.mem (Word.Node x own NodeField.State) ≡ k → Holds c x (next Phase.ReadState)
  read_state_by zero e saw = start e saw
  read_state_by (suc zero) e saw = wait e saw
  read_state_by (suc (suc k)) e saw = collect k e saw

  pub read_state : Here Phase.ReadState → Holds c x (next Phase.ReadState)
  read_state e = read_state_by (s.mem (Word.Node x own NodeField.State)) e refl

  stop : (round : Round) → Here (Phase.ReadNext round) → s.mem (Word.Node x round.at NodeField.Next) ≡ 0 → Holds c x (next (Phase.ReadNext round))
  stop round e saw =
      goes_on (Phase.ReadNext round) (Phase.HandOver round.at) (ghost_of w).marked (ghost_of w).server (ap (λ (z : ℕ). after_next c.served x round z) saw) refl refl
      (by_combiner.stops (members c x) c.config.bound (view c x s) (view c x (next (Phase.ReadNext round))) (ghost_of w) p inside w.inv (bridge.stop c x s p begun own round e saw))
      record { onward = omega arith; call = tt; read = tt; ended = λ f. absurd f; serves = λ a. tt; keep = λ q ne a. (a, refl) }

  pick : (round : Round) (k : ℕ) → Here (Phase.ReadNext round) → s.mem (Word.Node x round.at NodeField.Next) ≡ suc k → Holds c x (next (Phase.ReadNext round))
  pick round k e saw =
      goes_on (Phase.ReadNext round) (serves c.served x record { round = round; next = k }) (ghost_of w).marked (ghost_of w).server (ap (λ (z : ℕ). after_next c.served x round z) saw) refl refl
      (by_combiner.picks (members c x) c.config.bound (view c x s) (view c x (next (Phase.ReadNext round))) (ghost_of w) p inside w.inv (bridge.pick c x s p begun own round k e saw))
      (stays_in (serves c.served x record { round = round; next = k }) (free_at c x p own _ (ap (λ z. z.rank) (serves_post c.served x own record { round = round; next = k })))
      (λ a. serves_it c.served (groups c.config) x (call_at (calls_on x s.history) (ghost_of w).marked) (answer_at (answers_on x s.history) (ghost_of w).marked) record { round = round; next = k } ok))

  read_next_by : (round : Round) (k : ℕ) → Here (Phase.ReadNext round) → s.mem (Word.Node x round.at NodeField.Next) ≡ k → Holds c x (next (Phase.ReadNext round))
  read_next_by round zero e saw = stop round e saw
  read_next_by round (suc k) e saw = pick round k e saw

  pub read_next : (round : Round) → Here (Phase.ReadNext round) → Holds c x (next (Phase.ReadNext round))
  read_next round e = read_next_by round (s.mem (Word.Node x round.at NodeField.Next)) e refl

  pub exchange : (call : Entry) → Here (Phase.Exchange call) → Holds c x (next (Phase.Exchange call))
  exchange call e =
      let was : post_at x (s.stand (pass_on c x p)) ≡ post_of x own (Phase.Exchange call) = ap (λ (z : Stand). post_at x z) e in
      let tailed : 0 < s.mem (Word.Tail x) = omega (arith, w.inv.nodes.tail_is) in
      let not_server : (ghost_of w).server ≢ p + 1 = λ a. absurd (grind (arith, w.inv.server.server_rank p)) in
      let free : IsFree c x p (after_exchange x own call) = exchanged_free c x p own call in
      let more : calls_on x (next (Phase.Exchange call)).history ≡ calls_on x s.history ++ call ∷ [] = ap (λ (z : Side). z.calls) (entered x s.history call w.side_in) in
      let same : answers_on x (next (Phase.Exchange call)).history ≡ answers_on x s.history = ap (λ (z : Side). z.answers) (entered x s.history call w.side_in) in
      holds_at c x (next (Phase.Exchange call)) (calls_on x s.history ++ call ∷ []) (answers_on x s.history) (grown.extended (length (calls_on x s.history)) w.kept p _) more same
      (by_call.exchanges (members c x) c.config.bound (view c x s) (view c x (next (Phase.Exchange call))) (ghost_of w) p inside w.inv _
      (bridge.exchange c x s p begun own call e tailed)
      (subst (λ (z : ℕ). by_call.Extends (ghost_of w) (ghosts c x (calls_on x s.history ++ call ∷ []) (answers_on x s.history) (grown.extended (length (calls_on x s.history)) w.kept p own)) p z
      (post_at x ((next (Phase.Exchange call)).stand (pass_on c x p))).asks) (sym (ap (λ z. z.node) was))
      (grown.extends c x (calls_on x s.history) (answers_on x s.history) (stands_on c x s) (stands_on c x (next (Phase.Exchange call))) w.kept p inside w.ties call own _ (bridge.asks c x s p begun own call))))
      (grown.ties_entered c x (calls_on x s.history) (answers_on x s.history) (stands_on c x s) (stands_on c x (next (Phase.Exchange call))) w.kept p inside w.ties call own _
      (subst (λ (z : Stand). HasCall c x p z.phase) e (w.ties.begun p inside)) (mine c x s p begun own (Phase.Exchange call)) (λ q ne. others c x s p begun own (Phase.Exchange call) q ne) not_server w.inv.server.server_in
      w.inv.calls.in_order w.inv.calls.in_order2
      (λ q qn f. let old = w.ties.ended q qn f in omega (arith, old.0, w.inv.calls.in_order, w.inv.calls.in_order2))
      (λ q a low high. w.inv.serving.serving q a low high) free.call free.read free.unfinished)
      (keeps_side x x s.history _ w.side_in)
