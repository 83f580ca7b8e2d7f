-- The laws of every run about one step: nodes that are used again, calls that wait for their link, and which stores may be early
-- (each but the mark of a send or a close).
use Rattle.std.proofs.Common.{◌≡◌, ℕ, List, ◌∷◌, ◌++◌, Option, Some, None, refl, sym, ap, ◌∙◌, subst, arith, ◌≢◌, true}
use Rattle.cc_model.specs.Record.{Record}
use Rattle.cc_steps.specs.Names.{Call, Move, Setting, Served, Chain, ItemField, NodeField, Word, Kind, Event, Phase, Sending, Stand, Entry}
use Rattle.cc_runs.proofs.Chains.Facts.{noted_none}
use Rattle.cc_runs.specs.State.{Operation, Store, chain_of, pass_at, word_of, noted}
use Rattle.cc_runs.specs.Lines.{operation, event_at, goes, enters, decides}
use Rattle.cc_runs.specs.Run.{history_of}
use Rattle.cc_runs.specs.ChainLaws.{IsEntering, IsLastPending}
use Rattle.cc_runs.specs.MachineLaws.{Resets, Prepares}
use Rattle.cc_runs.proofs.ListRuns.Laws.{reset_after_the_take, prepared_alone}
use Rattle.cc_runs.proofs.ChainLaws.{chain_laws}
use Rattle.cc_runs.proofs.ChainRuns.{calls_wait}
use Rattle.cc_runs.specs.Step.{advanced}
use Rattle.cc_steps.specs.Seen.{stand_in, word_in, does_at, rested}
use Rattle.cc_steps.specs.Walk.{Walk, Walked, Steps, CanBegin, IsPendingIn, walked_to, IsEarly}
use Rattle.cc_steps.specs.Reuse.{HasReused, HasOwned}
use Rattle.cc_steps.proofs.Runs.{taken_history}
use Rattle.cc_steps.proofs.StepFacts.{same, number, checked, below, run_then, run_here, stands, stands_then}
use Rattle.cc_runs.specs.Early.{may_be_early}

-- no step but a mark is late
by_kind : (x : Chain) (at : Phase) (kind : Kind) → event_at at ≡ Event.Did kind → kind ≢ Kind.MarkDone → may_be_early x at ≡ true
by_kind x at kind e other = grind arith

pub is_early : (v : Walk) (kind : Kind) (op : Operation) → Steps v kind op → kind ≢ Kind.MarkDone → IsEarly v None
is_early v kind op can other = by_kind (chain_of v.setting.config v.number) v.stand.phase kind can.0 other

-- nor is the reset by which a call begins
resets : (x : Chain) (call : Entry) → may_be_early x (Phase.ResetNext call) ≡ true
resets x call = grind arith

pub begin_is_early : (v : Walk) (call : Call) → IsEarly v (Some call)
begin_is_early v call = resets (chain_of v.setting.config v.number) _

-- nor is the mark of a take, whose chain is that of its word
by_word : (c : Setting) (x : Chain) (own : ℕ) (at : Phase) (g n : ℕ) → event_at at ≡ Event.Did Kind.MarkDone → operation c x own at ≡ Store (Word.Node (Chain.Take g) n NodeField.State) 2 → may_be_early x at ≡ true
by_word c x own at g n e o = grind arith

pub take_mark_is_early : (v : Walk) (g n : ℕ) → Steps v Kind.MarkDone (Store (Word.Node (Chain.Take g) n NodeField.State) 2) → IsEarly v None
take_mark_is_early v g n can = by_word v.setting (chain_of v.setting.config v.number) v.stand.node v.stand.phase g n can.0 can.1

-- the step is a reset of this node, and leads on to its preparation
resets_at : (c : Setting) (x : Chain) (b own n : ℕ) (f : ItemField) (at : Phase) → event_at at ≡ Event.Did Kind.ResetListNode → operation c x own at ≡ Store (Word.Item n f) 0 → Resets at n × Prepares (goes c x own at 0) n
resets_at c x b own n f (Phase.Sending job (Sending.ResetPassed parcel at)) e o = let is : at ≡ n = cc o in (is, is)
resets_at c x b own n f (Phase.Sending job (Sending.ResetItemNext parcel at)) e o = let is : at ≡ n = cc o in (is, is)
resets_at c x b own n f at e o = grind arith

-- the node that is reset is the pass's own
owns_at : (c : Setting) (x y : Chain) (own n : ℕ) (at : Phase) → event_at at ≡ Event.Did Kind.ResetState → operation c x own at ≡ Store (Word.Node y n NodeField.State) 1 → (x ≡ y) × (own ≡ n)
owns_at c x y own n at e o = grind arith

-- a link puts nothing into the history, and its call has exchanged
links_at : (c : Setting) (x : Chain) (h : Record) (at : Phase) (found : ℕ) → event_at at ≡ Event.Did Kind.Link → IsEntering at × (noted x h (enters at) (decides c at found) ≡ h)
links_at c x h (Phase.Link put) found e = (tt, noted_none x h)
links_at c x h at found e = grind arith

still_prepares : (n : ℕ) (pl : Phase) (at : Stand) → at.phase ≡ pl → Prepares pl n → Prepares (rested pl at).phase n
still_prepares n (Phase.Finished told) at is p = absurd p
still_prepares n _ at is p = subst (λ (x : Phase). Prepares x n) (sym is) p

-- a store, which may be the first step of a call
module _ (v w : Walk) (call : Option Call) (k : Walked v call w) (step : w ≡ walked_to v call 0 w.seen) where
  owned_as : (y : Chain) (n : ℕ) → (chain_of v.setting.config v.number ≡ y) × (v.stand.node ≡ n) → HasOwned v call y n w
  unfolding stand_in
  owned_as y n is =
      let mine : (stand_in v.setting (k.between ++ v.seen) v.number).node ≡ n = ap (λ (x : Stand). x.node) (stands v w call 0 k step) ∙ is.1 in
      record {
        between = k.between;
        others = k.others;
        seen = k.seen;
        chain = is.0;
        mine = mine;
        own = λ q less on owns. (chain_laws v.setting (checked v w call 0 k step) (k.between ++ v.seen) (run_here v w call 0 k step)).apart q v.number less (below v w call 0 k step) (on ∙ sym is.0) (owns ∙ sym mine);
      }

-- the first step of a call
module _ (v w : Walk) (call : Call) (k : Walked v (Some call) w) (step : w ≡ walked_to v (Some call) 0 w.seen) where
  pub begun_owned : (y : Chain) (n : ℕ) → CanBegin v call (Store (Word.Node y n NodeField.Next) 0) → HasOwned v (Some call) y n w
  begun_owned y n can = owned_as v w (Some call) k step y n (cc can.1, cc can.1)

-- a later one
module _ (v w : Walk) (k : Walked v None w) (step : w ≡ walked_to v None 0 w.seen) where
  abbrev D : Setting
  D = v.setting

  abbrev Before : List Move
  Before = k.between ++ v.seen

  pub owned : (y : Chain) (n : ℕ) → Steps v Kind.ResetState (Store (Word.Node y n NodeField.State) 1) → HasOwned v None y n w
  owned y n can = owned_as v w None k step y n (owns_at D (chain_of D.config v.number) y v.stand.node n v.stand.phase can.0 can.1)

  pub reused : (n : ℕ) (f : ItemField) → D.served ≡ Served.List → Steps v Kind.ResetListNode (Store (Word.Item n f) 0) → HasReused v n w
  unfolding stand_in
  reused n f list can =
      let r = resets_at D (chain_of D.config v.number) v.stand.begun v.stand.node n f v.stand.phase can.0 can.1 in
      record {
        between = k.between;
        others = k.others;
        seen = k.seen;
        passed = λ j at. reset_after_the_take D Before list (checked v w None 0 k step) (run_here v w None 0 k step) v.number n j (subst (λ (x : Stand). Resets x.phase n) (sym (stands v w None 0 k step)) r.0) at;
        alone = λ q holds. prepared_alone D w.seen list (checked v w None 0 k step) (run_then v w None 0 k step) v.number q n
            (subst (λ (x : Stand). Prepares x.phase n) (sym (stands_then v w None 0 k step)) (still_prepares n _ (advanced D (chain_of D.config v.number) v.stand 0) refl r.1)) holds;
      }

  pub pending : (op : Operation) → Steps v Kind.Link op → IsPendingIn w
  unfolding stand_in word_in
  pending op can =
      let link : event_at (stand_in D Before v.number).phase ≡ Event.Did Kind.Link = subst (λ (x : Stand). event_at x.phase ≡ Event.Did Kind.Link) (sym (stands v w None 0 k step)) can.0 in
      let l = links_at D (chain_of D.config v.number) (history_of D Before) (stand_in D Before v.number).phase (word_in D Before (word_of (does_at D v.number (stand_in D Before v.number)))) link in
      let history : history_of D w.seen ≡ history_of D Before = ap (history_of D) k.seen ∙ taken_history D v.number (Move.Step v.number ∷ Before) (stand_in D (Move.Step v.number ∷ Before) v.number).phase ∙ l.1 in
      subst (λ (x : Setting × ℕ × Record). IsLastPending (pass_at x.0.config x.1) x.2) (λ i. (sym (same v w None 0 k step) i, sym (number v w None 0 k step) i, (sym history ∙ (λ j. history_of (sym (same v w None 0 k step) j) w.seen)) i))
      (calls_wait D (checked v w None 0 k step) Before (run_here v w None 0 k step) v.number (below v w None 0 k step) l.0)
