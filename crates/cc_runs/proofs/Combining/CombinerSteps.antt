-- The steps of the combiner: it loads a next, decides the answer of a request, writes it, marks the node done, and hands over.
use Rattle.std.proofs.Common.{◌≡◌, ℕ, ◌+◌, ◌<◌, ◌≤◌, ◌≢◌, arith}
use Rattle.std.proofs.lemmas.Bool.{cases_eq}
use Rattle.cc_runs.proofs.Combining.Chain.{Chain, Ghost}
use Rattle.cc_runs.proofs.Combining.Invariant.{Inv, Words}
use Rattle.cc_runs.proofs.Combining.Apart.{chain_apart, node_apart}
use Rattle.cc_runs.proofs.Combining.Step.{Loads, Stores, post_at}

-- a null next is loaded
pub record Stops (v v' : Chain) (p : ℕ) : Type 0 where
  pub step : Loads v v' p
  pub before : (v.post p).rank ≡ 5
  pub start : (v.post p).stage ≡ 0
  pub rank_is : (v'.post p).rank ≡ 5
  pub target : (v'.post p).target ≡ (v.post p).target
  pub stage : (v'.post p).stage ≡ 3
  pub read : (v.node (v.post p).target).next ≡ 0

-- a next that names a node
pub record Picks (v v' : Chain) (p : ℕ) : Type 0 where
  pub step : Loads v v' p
  pub before : (v.post p).rank ≡ 5
  pub start : (v.post p).stage ≡ 0
  pub rank_is : (v'.post p).rank ≡ 5
  pub target : (v'.post p).target ≡ (v.post p).target
  pub served : (v'.post p).served ≡ (v.post p).served
  pub stage : (v'.post p).stage ≡ 1
  pub next : (v'.post p).next ≡ (v.node (v.post p).target).next
  pub read : (v.node (v.post p).target).next ≢ 0

-- the answer of the request that is served is decided
pub record Decides (v v' : Chain) (p : ℕ) : Type 0 where
  pub step : Loads v v' p
  pub before : (v.post p).rank ≡ 5
  pub start : (v.post p).stage ≡ 1
  pub rank_is : (v'.post p).rank ≡ 5
  pub target : (v'.post p).target ≡ (v.post p).target
  pub served : (v'.post p).served ≡ (v.post p).served
  pub next : (v'.post p).next ≡ (v.post p).next
  pub stage : (v'.post p).stage ≡ 2
  pub told : (v'.post p).told ≡ 0

-- and the history has one answer more
pub record Answers (g g' : Ghost) (tells : ℕ → ℕ) : Type 0 where
  pub calls : g'.calls ≡ g.calls
  pub answers : g'.answers ≡ g.answers + 1
  pub marked : g'.marked ≡ g.marked
  pub server : g'.server ≡ g.server
  pub told_now : (j : ℕ) → g'.told g.answers j ≡ tells j
  pub told_before : (k j : ℕ) → k ≢ g.answers → g'.told k j ≡ g.told k j
  pub pass_of : (k : ℕ) → g'.pass_of k ≡ g.pass_of k
  pub asked : (k j : ℕ) → g'.asked k j ≡ g.asked k j
  pub asks_long : (k : ℕ) → g'.asks_long k ≡ g.asks_long k
  pub told_long : (k : ℕ) → k ≢ g.answers → g'.told_long k ≡ g.told_long k
  pub chain : (k : ℕ) → g'.chain k ≡ g.chain k
  pub at : (q : ℕ) → g'.at q ≡ g.at q

-- a store into the node that is served, which leaves its link and its request
pub record Serves (v v' : Chain) (p : ℕ) : Type 0 where
  pub stores : Stores v v' p (v.post p).target
  pub before : (v.post p).rank ≡ 5
  pub next : (v'.node (v.post p).target).next ≡ (v.node (v.post p).target).next
  pub request : (j : ℕ) → (v'.node (v.post p).target).request j ≡ (v.node (v.post p).target).request j

-- the next word of an answer of this number of words; after the last one all are there
pub record Tells (long : ℕ) (v v' : Chain) (p word : ℕ) : Type 0 where
  pub step : Serves v v' p
  pub start : (v.post p).stage ≡ 2
  pub rank_is : (v'.post p).rank ≡ 5
  pub target : (v'.post p).target ≡ (v.post p).target
  pub served : (v'.post p).served ≡ (v.post p).served
  pub next_is : (v'.post p).next ≡ (v.post p).next
  pub stage : (v'.post p).stage ≡ 2
  pub told : (j : ℕ) → j < (v'.post p).told → j < long → j ≤ (v.post p).told
  pub state : (v'.node (v.post p).target).state ≡ (v.node (v.post p).target).state
  pub answer : (v'.node (v.post p).target).answer (v.post p).told ≡ word
  pub answers : (j : ℕ) → j ≢ (v.post p).told → (v'.node (v.post p).target).answer j ≡ (v.node (v.post p).target).answer j

-- the node that is served is marked done
pub record Marks (h w : ℕ) (v v' : Chain) (p : ℕ) : Type 0 where
  pub step : Serves v v' p
  pub start : (v.post p).stage ≡ 2
  pub told : w ≤ (v.post p).told
  pub rank_is : (v'.post p).rank ≡ 5
  pub target : (v'.post p).target + 1 ≡ (v.post p).next
  pub full : (v.post p).served + 1 ≡ h → (v'.post p).stage ≡ 3
  pub again : (v.post p).served + 1 ≢ h → (v'.post p).stage ≡ 0
  pub served : (v.post p).served + 1 ≢ h → (v'.post p).served ≡ (v.post p).served + 1
  pub state : (v'.node (v.post p).target).state ≡ 2
  pub answer : (j : ℕ) → (v'.node (v.post p).target).answer j ≡ (v.node (v.post p).target).answer j

-- the combiner stops, and gives its part to the call whose node it has come to
pub record Hands (v v' : Chain) (p : ℕ) : Type 0 where
  pub step : Serves v v' p
  pub start : (v.post p).stage ≡ 3
  pub rank : (v'.post p).rank ≡ 6
  pub state : (v'.node (v.post p).target).state ≡ 0
  pub answer : (j : ℕ) → (v'.node (v.post p).target).answer j ≡ (v.node (v.post p).target).answer j

module _ (n h : ℕ) (v v' : Chain) (g : Ghost) (p : ℕ) (inside : p < n) (i : Inv n h v g) where
  -- the combiner is pass p, and no other
  me : (v.post p).rank ≡ 5 → g.server ≡ p + 1
  me before = i.server.server_is p inside before

  only : (v.post p).rank ≡ 5 → (q : ℕ) → g.server ≡ q + 1 → q ≡ p
  only before q a = omega (arith, me before)

  target : (v.post p).rank ≡ 5 → (v.post p).target ≡ g.chain g.marked
  target before = i.server.server_target p (me before)

  pub stops : Stops v v' p → Inv n h v' g
  stops t = grind (arith, post_at v v' p t.step.others, t.step.nodes, me t.before, only t.before)

  pub picks : Picks v v' p → Inv n h v' g
  picks t = grind (arith, post_at v v' p t.step.others, t.step.nodes, me t.before, only t.before, target t.before, more, owner, is_linked, next_is)
    where
      more : g.marked < g.calls
      more = grind (arith, cases_eq g.marked g.calls, i.links.last_next, target t.before, t.read)

      owner : g.at (g.pass_of g.marked) ≡ g.marked
      owner = i.calls.open_at g.marked (omega arith) more

      is_linked : 4 ≤ (v.post (g.pass_of g.marked)).rank
      is_linked = grind (arith, i.calls.open_low g.marked, cases_eq (v.post (g.pass_of g.marked)).rank 3, i.links.ready_next (g.pass_of g.marked), i.calls.open_pass g.marked, i.calls.open_node g.marked, target t.before, t.read)

      next_is : (v.node (v.post p).target).next ≡ g.chain (g.marked + 1) + 1
      next_is = grind (arith, target t.before, owner, is_linked, more, i.calls.open_pass g.marked, i.calls.open_node g.marked, i.links.linked (g.pass_of g.marked))

  pub decides : (g' : Ghost) (tells : ℕ → ℕ) → Decides v v' p → Answers g g' tells → Inv n h v' g'
  decides g' tells t x = grind (arith, post_at v v' p t.step.others, t.step.nodes, me t.before, only t.before, even)
    where
      even : g.answers ≡ g.marked
      even = i.serving.undecided p (me t.before) (λ two. omega (arith, t.start))

  module _ (t : Serves v v' p) where
    next_same : (k : ℕ) → (v'.node k).next ≡ (v.node k).next
    next_same k = grind (arith, cases_eq k (v.post p).target, t.stores.nodes k)

    request_same : (k j : ℕ) → (v'.node k).request j ≡ (v.node k).request j
    request_same k j = grind (arith, cases_eq k (v.post p).target, t.stores.nodes k, t.request j)

    answer_same : ((j : ℕ) → (v'.node (v.post p).target).answer j ≡ (v.node (v.post p).target).answer j) → (k j : ℕ) → (v'.node k).answer j ≡ (v.node k).answer j
    answer_same same k j = grind (arith, cases_eq k (v.post p).target, t.stores.nodes k, same j)

    -- the node of a pass whose call isn't the one that is served, and a later node of the chain
    cell : (q : ℕ) → q < n → (g.marked < g.calls → g.pass_of g.marked ≢ q) → v'.node (v.post q).node ≡ v.node (v.post q).node
    cell q qn a = t.stores.nodes (v.post q).node (λ same. node_apart n h v g i q g.marked qn (omega arith) (omega (arith, i.calls.in_order, i.calls.in_order2)) a (grind (arith, target t.before)))

    chain_cell : (k : ℕ) → g.marked < k → k ≤ g.calls → v'.node (g.chain k) ≡ v.node (g.chain k)
    chain_cell k a b = t.stores.nodes (g.chain k) (λ same. let e : k ≡ g.marked = chain_apart n h v g i k g.marked (omega arith) (omega arith) b (omega arith) (grind (arith, target t.before)) in omega arith)

  pub tells : Tells (g.told_long g.marked) v v' p (g.told g.marked (v.post p).told) → Inv n h v' g
  tells t = grind (arith, post_at v v' p t.step.stores.others, me b, only b, target b, next_same t.step, state_same, request_same t.step, more, told_cell, words)
    where
      b : (v.post p).rank ≡ 5
      b = t.step.before

      state_same : (k : ℕ) → (v'.node k).state ≡ (v.node k).state
      state_same k = grind (arith, cases_eq k (v.post p).target, t.step.stores.nodes k)

      more : g.marked < g.calls
      more = i.serving.serving p (me b) (omega arith) (omega arith)

      told_cell : (q : ℕ) → q < n → g.at q < g.marked → v'.node (v.post q).node ≡ v.node (v.post q).node
      told_cell q qn a = cell t.step q qn (λ more is. omega (arith, let e : g.at q ≡ g.marked = grind (arith, i.calls.open_at g.marked, is) in e))

      words : Words n h v' g
      words = record {
        written = λ q j qn a b d. grind (arith, cases_eq q p, t.step.stores.others q, i.words.written q j, request_same t.step (v.post q).node j);
        linked_written = λ q j qn a b d. grind (arith, cases_eq q p, t.step.stores.others q, i.words.linked_written q j, t.step.stores.node, t.step.before, request_same t.step (v.post q).node j);
        serving_told = λ q j a b d e. grind (arith, cases_eq q p, only t.step.before q, me t.step.before, target t.step.before, cases_eq j (v.post p).told, t.told j, t.answer, t.answers j, i.words.serving_told p j, t.start);
        done_told = λ q j qn a b d. grind (arith, cases_eq q p, t.step.stores.others q, t.step.stores.node, t.step.before, i.words.done_told q j, told_cell q);
      }

  pub marks : Marks h (g.told_long g.marked) v v' p → Inv n h v' (record g { marked = g.marked + 1 })
  marks t = record {
    nodes = grind (arith, cases_eq, me b, only b, target b, more, is_linked, next, even, owner, next_same t.step, request_same t.step, answer_same t.step t.answer, cell t.step, chain_cell t.step);
    calls = grind (arith, cases_eq, me b, only b, target b, more, is_linked, next, even, owner, next_same t.step, request_same t.step, answer_same t.step t.answer, cell t.step, chain_cell t.step);
    passes = grind (arith, cases_eq, me b, only b, target b, more, is_linked, next, even, owner, next_same t.step, request_same t.step, answer_same t.step t.answer, cell t.step, chain_cell t.step);
    links = grind (arith, cases_eq, me b, only b, target b, more, is_linked, next, even, owner, next_same t.step, request_same t.step, answer_same t.step t.answer, cell t.step, chain_cell t.step);
    words = record {
      written = λ q j qn a b. grind (arith, cases_eq q p, t.step.stores.others q, i.words.written q j, request_same t.step (v.post q).node j);
      linked_written = λ q j qn a b c. grind (arith, cases_eq q p, t.step.stores.others q, i.words.linked_written q j, request_same t.step (v.post q).node j);
      serving_told = λ q j a b c d. grind (arith, cases_eq q p, t.step.stores.others q, i.words.serving_told q j, only t.step.before q, me t.step.before, cases_eq ((v.post p).served + 1) h);
      done_told = λ q j qn a b c. grind (arith, cases_eq q p, t.step.stores.others q, i.words.done_told q j, owner q, cases_eq (g.at q) g.marked, answer_same t.step t.answer (v.post q).node j, i.calls.open_node g.marked, i.words.serving_told p j, me t.step.before, target t.step.before, more);
    };
    states = record {
      ready_state = λ q qn a. grind (arith, cases_eq q p, t.step.stores.others q, i.states.ready_state q, cell t.step q, i.calls.open_low g.marked);
      waiting = λ k a b. grind (arith, i.states.waiting k, chain_cell t.step k);
      free_state = λ a. absurd (omega (arith, me t.step.before));
      busy_state = λ q a b. grind (arith, i.states.waiting (g.marked + 1), chain_cell t.step (g.marked + 1));
      done_state = λ q qn a b. grind (arith, cases_eq q p, t.step.stores.others q, i.states.done_state q, owner q, cases_eq (g.at q) g.marked, cell t.step q, i.calls.open_node g.marked, target t.step.before, more);
    };
    server = grind (arith, cases_eq, me b, only b, target b, more, is_linked, next, even, owner, next_same t.step, request_same t.step, answer_same t.step t.answer, cell t.step, chain_cell t.step);
    serving = grind (arith, cases_eq, me b, only b, target b, more, is_linked, next, even, owner, next_same t.step, request_same t.step, answer_same t.step t.answer, cell t.step, chain_cell t.step);
  }
    where
      b : (v.post p).rank ≡ 5
      b = t.step.before

      more : g.marked < g.calls
      more = i.serving.serving p (me b) (omega arith) (omega arith)

      is_linked : 4 ≤ (v.post (g.pass_of g.marked)).rank
      is_linked = i.serving.serving_linked p (me b) (omega arith) (omega arith)

      next : (v'.post p).target ≡ g.chain (g.marked + 1)
      next = omega (arith, i.serving.serving_next p (me b) (omega arith) (omega arith))

      even : g.answers ≡ g.marked + 1
      even = i.serving.decided p (me b) t.start

      owner : (q : ℕ) → q < n → 3 ≤ (v.post q).rank → g.at q ≡ g.marked → q ≡ g.pass_of g.marked
      owner q qn a same = grind (arith, i.passes.at_is q)

  pub hands : Hands v v' p → Inv n h v' (record g { server = 0 })
  hands t = grind (arith, post_at v v' p t.step.stores.others, me b, only b, target b, past, next_same t.step, request_same t.step, answer_same t.step t.answer, cell t.step, chain_cell t.step, words)
    where
      b : (v.post p).rank ≡ 5
      b = t.step.before

      past : g.at p < g.marked
      past = i.server.server_past p (me b) t.start

      words : Words n h v' (record g { server = 0 })
      words = record {
        written = λ q j qn a b. grind (arith, cases_eq q p, t.step.stores.others q, i.words.written q j, request_same t.step (v.post q).node j);
        linked_written = λ q j qn a b c. grind (arith, cases_eq q p, t.step.stores.others q, i.words.linked_written q j, request_same t.step (v.post q).node j);
        serving_told = λ q j a b c d. absurd (omega (arith, a));
        done_told = λ q j qn a b c. grind (arith, cases_eq q p, t.step.stores.others q, i.words.done_told q j, answer_same t.step t.answer (v.post q).node j);
      }
