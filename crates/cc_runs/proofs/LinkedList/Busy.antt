-- How many nodes are busy, and why the list never holds more than its capacity.
use Rattle.std.proofs.Common.{◌≡◌, ℕ, ◌+◌, ◌-◌, ◌<◌, ◌≤◌, ◌≢◌, arith, refl, inl, inr}
use Rattle.std.proofs.lemmas.Bool.{cases_eq, cases_lt}
use Rattle.cc_runs.proofs.Changed.{changed, changed_here, changed_away}
use Rattle.cc_runs.proofs.LinkedList.Queue.{Queue, Ghosts}
use Rattle.cc_runs.proofs.LinkedList.Invariant.{LInv}
use Rattle.cc_runs.proofs.LinkedList.Count.{total, covered, below, below_yes, below_no, below_most, ones}

module _ (c life n : ℕ) (v : Queue) (g : Ghosts) (i : LInv c life n v g) where
  -- accepted minus the least handed is the capacity at most
  pub room : g.accepted ≤ g.least + c
  room = omega (
    arith,
    i.hands.least_in,
    covered (c + 1) (g.accepted + 1 - g.least) (λ (x : ℕ). g.pos x - g.least) (λ (j : ℕ). g.node (g.least + j))
        (λ j l. omega (arith, i.live.live_in (g.least + j) (omega arith) (omega arith)))
        (λ j l. omega (arith, i.live.live_pos (g.least + j) (omega arith) (omega arith))),
  )

  pub busy_nodes : ℕ
  busy_nodes = total (c + 1) (λ (x : ℕ). below (v.passed x) n)

  pub busy_nodes_are : busy_nodes ≡ total (c + 1) (λ (x : ℕ). below (v.passed x) n)
  unfolding busy_nodes
  busy_nodes_are = refl

  -- every count of sides is one of them
  pub passed_most : (x : ℕ) → x ≤ c → v.passed x ≤ n
  passed_most x l = grind (arith, cases_eq (g.role x) 0, cases_eq (g.role x) 1, i.nodes.fresh x, i.nodes.role_most x, i.nodes.prep_is x, i.nodes.prep_low x, i.nodes.prep_high x, i.found.found_busy, i.nodes.passed_is x, i.hands.by_all (g.pos x), i.hands.by_some (g.pos x), cases_lt (g.pos x) g.least)

  -- a node is busy if it is in preparation, or linked at a place from the least on
  busy_is : (x : ℕ) → x < c + 1 → v.passed x < n → g.role x ≢ 1 → g.role x ≡ 2
  busy_is x a b ne = grind (arith, i.nodes.fresh x, i.nodes.role_most x, cases_eq (g.role x) 0)

  busy_low : (x : ℕ) → x < c + 1 → v.passed x < n → g.role x ≡ 2 → g.least ≤ g.pos x
  busy_low x a b e = grind (arith, i.nodes.passed_is x, i.hands.by_all (g.pos x), cases_lt (g.pos x) g.least)

  live_busy : (k : ℕ) → g.least ≤ k → k ≤ g.accepted → v.passed (g.node k) < n
  live_busy k a b = grind (arith, i.live.live_in k, i.live.live_role k, i.live.live_pos k, i.nodes.passed_is (g.node k), i.hands.by_some k)

  one_busy : (x : ℕ) → below (v.passed x) n ≡ 1 → v.passed x < n
  one_busy x e = grind (arith, cases_lt (v.passed x) n, below_no (v.passed x) n)

  -- outside preparation
  module _ (rest : (x : ℕ) → x ≤ c → g.role x ≢ 1) where
    pub busy_count : busy_nodes + g.least ≡ g.accepted + 1
    unfolding busy_nodes
    busy_count = omega (
      arith,
      i.hands.least_in,
      ones (c + 1) (g.accepted + 1 - g.least) (λ (x : ℕ). below (v.passed x) n) (λ (j : ℕ). g.node (g.least + j)) (λ (x : ℕ). g.pos x - g.least) (record {
        small = λ x l. below_most (v.passed x) n;
        place = λ x l e. omega (arith, i.hands.least_in, busy_low x l (one_busy x e) (busy_is x l (one_busy x e) (rest x (omega arith))), i.nodes.pos_high x (omega arith) (busy_is x l (one_busy x e) (rest x (omega arith))));
        place_is = λ x l e.
            let two : g.role x ≡ 2 = busy_is x l (one_busy x e) (rest x (omega arith)) in
            let same : g.least + (g.pos x - g.least) ≡ g.pos x = omega (arith, busy_low x l (one_busy x e) two) in
            grind (arith, same, two, i.nodes.pos_is x);
        one_in = λ j l. omega (arith, i.live.live_in (g.least + j) (omega arith) (omega arith));
        one = λ j l. below_yes (v.passed (g.node (g.least + j))) n (live_busy (g.least + j) (omega arith) (omega arith));
        at_is = λ j l. omega (arith, i.live.live_pos (g.least + j) (omega arith) (omega arith));
      }),
    )

  -- in preparation: one more
  module _ (preparing : 7 ≤ v.enq.stage) (preparing2 : v.enq.stage ≤ 10) where
    node' : ℕ → ℕ
    node' = changed (λ (j : ℕ). g.node (g.least + j)) (g.accepted + 1 - g.least) v.enq.found

    at' : ℕ → ℕ
    at' x = elim (cases_eq (g.role x) 1) [ inl _ ↦ g.accepted + 1 - g.least | inr _ ↦ g.pos x - g.least ]

    node_last : (j : ℕ) → j ≡ g.accepted + 1 - g.least → node' j ≡ v.enq.found
    unfolding node'
    node_last = changed_here _ _ _

    node_early : (j : ℕ) → j ≢ g.accepted + 1 - g.least → node' j ≡ g.node (g.least + j)
    unfolding node'
    node_early = changed_away _ _ _

    at_last : (x : ℕ) → g.role x ≡ 1 → at' x ≡ g.accepted + 1 - g.least
    unfolding at'
    at_last x same = elim (cases_eq (g.role x) 1) as (λ d. elim d as (λ _. ℕ) [ inl _ ↦ g.accepted + 1 - g.least | inr _ ↦ g.pos x - g.least ] ≡ g.accepted + 1 - g.least) [ inl _ ↦ refl | inr ne ↦ absurd (ne same) ]

    at_early : (x : ℕ) → g.role x ≢ 1 → at' x ≡ g.pos x - g.least
    unfolding at'
    at_early x other = elim (cases_eq (g.role x) 1) as (λ d. elim d as (λ _. ℕ) [ inl _ ↦ g.accepted + 1 - g.least | inr _ ↦ g.pos x - g.least ] ≡ g.pos x - g.least) [ inl same ↦ absurd (other same) | inr _ ↦ refl ]

    found_in : v.enq.found ≤ c
    found_in = grind arith

    found_role : g.role v.enq.found ≡ 1
    found_role = grind arith

    found_busy : v.passed v.enq.found < n
    found_busy = grind (arith, i.hands.some)

    busy_place : (x : ℕ) → x < c + 1 → v.passed x < n → (at' x < g.accepted + 2 - g.least) × (node' (at' x) ≡ x)
    busy_place x l b = grind (arith, at_last x, i.hands.least_in, node_last (at' x), i.nodes.prep_is x, busy_is x l b, busy_low x l b, i.nodes.pos_high x, at_early x, node_early (at' x), i.nodes.pos_is x)

    same_pos : (j : ℕ) → node' j ≡ g.node (g.least + j) → g.least + j ≤ g.accepted → g.pos (node' j) ≡ g.least + j
    same_pos j same high = grind (arith, same, i.live.live_pos (g.least + j))

    busy_node : (j : ℕ) → j < g.accepted + 2 - g.least → (node' j ≤ c) × (v.passed (node' j) < n) × (at' (node' j) ≡ j)
    busy_node j l = elim (cases_eq j (g.accepted + 1 - g.least)) [
      | inl e ↦ let same : node' j ≡ v.enq.found = node_last j e in (grind (arith, same, found_in), grind (arith, same, found_busy), grind (arith, same, found_role, e, at_last (node' j)))
      | inr ne ↦
          let same : node' j ≡ g.node (g.least + j) = node_early j ne in
          let high : g.least + j ≤ g.accepted = omega arith in
          let two : g.role (node' j) ≡ 2 = grind (arith, same, high, i.live.live_role (g.least + j)) in
          (grind (arith, same, high, i.live.live_in (g.least + j)), grind (arith, same, high, live_busy (g.least + j)), omega (arith, at_early (node' j) (λ (o : g.role (node' j) ≡ 1). omega (arith, o, two)), same_pos j same high))
    ]

    pub busy_count_prep : busy_nodes + g.least ≡ g.accepted + 2
    unfolding busy_nodes
    busy_count_prep = omega (
      arith,
      i.hands.least_in,
      ones (c + 1) (g.accepted + 2 - g.least) (λ (x : ℕ). below (v.passed x) n) node' at' (record {
        small = λ x l. below_most (v.passed x) n;
        place = λ x l e. (busy_place x l (one_busy x e)).0;
        place_is = λ x l e. (busy_place x l (one_busy x e)).1;
        one_in = λ j l. omega (arith, (busy_node j l).0);
        one = λ j l. below_yes (v.passed (node' j)) n (busy_node j l).1;
        at_is = λ j l. (busy_node j l).2;
      }),
    )
