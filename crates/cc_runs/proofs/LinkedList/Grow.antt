-- The ghosts after each step that moves them: what each of these steps changes of them, and that they can be so.
use Rattle.std.proofs.Math.Seq.{get_or-append_seam}
use Rattle.std.proofs.Common.{List, [], ◌∷◌, ◌++◌, length, get_or, ◌≡◌, ℕ, ◌+◌, ◌<◌, ◌≤◌, ◌≢◌, arith, refl, sym, ap, ◌∙◌}
use Rattle.std.proofs.lemmas.Bool.{cases_eq}
use Rattle.cc_runs.proofs.LinkedList.Queue.{Queue, Ghosts, SameLog, SameHands, SameRoles}
use Rattle.cc_runs.proofs.Changed.{get_or_away, changed, changed_here, changed_away}
use Rattle.cc_runs.proofs.LinkedList.Sides.{smallest, smallest_least, smallest_is, above, above_all, above_some, above_now, above_others}

-- one item more is accepted
pub record Accepts (v : Queue) (g g' : Ghosts) : Type 0 where
  pub hands : SameHands g g'
  pub shut : g'.shut ≡ g.shut
  pub accepted : g'.accepted ≡ g.accepted + 1
  pub items_now : (j : ℕ) → g'.items g.accepted j ≡ v.enq.asks j
  pub items : (k j : ℕ) → k ≢ g.accepted → g'.items k j ≡ g.items k j
  pub long_now : g'.long g.accepted ≡ v.enq.asks_long
  pub long : (k : ℕ) → k ≢ g.accepted → g'.long k ≡ g.long k
  pub tells : (a : ℕ) → g'.tells a ≡ g.tells a
  pub node_now : g'.node (g.accepted + 1) ≡ v.enq.found
  pub node : (k : ℕ) → k ≢ g.accepted + 1 → g'.node k ≡ g.node k
  pub role_now : g'.role v.enq.found ≡ 2
  pub role : (x : ℕ) → x ≢ v.enq.found → g'.role x ≡ g.role x
  pub pos_now : g'.pos v.enq.found ≡ g.accepted + 1
  pub pos : (x : ℕ) → x ≢ v.enq.found → g'.pos x ≡ g.pos x

-- one item more is handed out on side s
pub record Gives (n : ℕ) (g g' : Ghosts) (s : ℕ) : Type 0 where
  pub log : SameLog g g'
  pub roles : SameRoles g g'
  pub handed_now : g'.handed s ≡ g.handed s + 1
  pub handed : (q : ℕ) → q ≢ s → g'.handed q ≡ g.handed q
  pub by_now : g'.by (g.handed s) ≡ g.by (g.handed s) + 1
  pub by : (k : ℕ) → k ≢ g.handed s → g'.by k ≡ g.by k
  -- of the counts: `least` is the smallest, and the places below it are those that all sides have passed
  pub least_most : (q : ℕ) → q < n → g'.least ≤ g'.handed q
  pub least_grows : g.least ≤ g'.least
  pub by_all : (k : ℕ) → k < g'.least → g'.by k ≡ n
  pub by_some : (k : ℕ) → g'.least ≤ k → g'.by k < n

-- What neither a word nor the run holds: the words of the items, and what each node is
pub record Kept : Type 0 where
  pub items : ℕ → ℕ → ℕ
  pub role : ℕ → ℕ
  pub pos : ℕ → ℕ

-- the ghosts of a list with m + 1 sides that has accepted and handed out so many, and has linked these nodes
abbrev pub ghosts_from : (m : ℕ) (tells : ℕ → ℕ) (accepted shut : ℕ) (handed : ℕ → ℕ) (nodes : List ℕ) → Kept → Ghosts
ghosts_from m tells accepted shut handed nodes k = record {
  accepted = accepted;
  handed = handed;
  shut = shut;
  items = k.items;
  long = λ n. tells (k.items n 0);
  tells = tells;
  node = λ i. get_or nodes i 0;
  role = k.role;
  pos = k.pos;
  least = smallest m handed;
  by = above (m + 1) handed;
}

abbrev pub accepting : Queue → ℕ → Kept → Kept
accepting v n k = record {
  items = changed k.items n v.enq.asks;
  role = changed k.role v.enq.found 2;
  pos = changed k.pos v.enq.found (n + 1);
}

abbrev pub preparing : Queue → Kept → Kept
preparing v k = record k { role = changed k.role v.enq.found 1 }

smallest_up : (m : ℕ) (h h' : ℕ → ℕ) → ((s : ℕ) → h s ≤ h' s) → smallest m h ≤ smallest m h'
smallest_up m h h' up = let r : (s : ℕ) × (s ≤ m) × (h' s ≡ smallest m h') = smallest_is m h' in omega (arith, r.2, up r.0, smallest_least m h r.0 r.1)

module _ (m : ℕ) (tells : ℕ → ℕ) (n shut : ℕ) (handed : ℕ → ℕ) (nodes : List ℕ) (k : Kept) where
  abbrev g : Ghosts
  g = ghosts_from m tells n shut handed nodes k

  pub accepts : (v : Queue) (n' shut' : ℕ) → n' ≡ n + 1 → shut' ≡ shut → v.enq.asks_long ≡ tells (v.enq.asks 0) → length nodes ≡ n + 1 → Accepts v g (ghosts_from m tells n' shut' handed (nodes ++ v.enq.found ∷ []) (accepting v n k))
  accepts v n' shut' more same long many = record {
    hands = record { handed = λ s. refl; least = refl; by = λ k. refl };
    shut = same;
    accepted = more;
    items_now = λ j. ap (λ (f : ℕ → ℕ). f j) (changed_here k.items n v.enq.asks n refl);
    items = λ i j ne. ap (λ (f : ℕ → ℕ). f j) (changed_away k.items n v.enq.asks i ne);
    long_now = ap (λ (f : ℕ → ℕ). tells (f 0)) (changed_here k.items n v.enq.asks n refl) ∙ sym long;
    long = λ i ne. ap (λ (f : ℕ → ℕ). tells (f 0)) (changed_away k.items n v.enq.asks i ne);
    tells = λ a. refl;
    node_now = ap (λ (i : ℕ). get_or (nodes ++ v.enq.found ∷ []) i 0) (sym many) ∙ get_or-append_seam nodes v.enq.found [] 0;
    node = λ i ne. get_or_away nodes v.enq.found i 0 (λ e. ne (e ∙ many));
    role_now = changed_here _ _ _ _ refl;
    role = changed_away _ _ _;
    pos_now = changed_here _ _ _ _ refl;
    pos = changed_away _ _ _;
  }

  pub gives : (handed' : ℕ → ℕ) (s : ℕ) → s < m + 1 → handed' s ≡ handed s + 1 → ((q : ℕ) → q ≢ s → handed' q ≡ handed q) → Gives (m + 1) g (ghosts_from m tells n shut handed' nodes k) s
  gives handed' s inside now others = record {
    log = record { accepted = refl; shut = refl; items = λ k j. refl; long = λ k. refl; tells = λ a. refl; node = λ k. refl };
    roles = record { role = λ x. refl; pos = λ x. refl };
    handed_now = now;
    handed = others;
    by_now = above_now (m + 1) handed handed' s inside now others;
    by = above_others (m + 1) handed handed' s inside now others;
    least_most = λ q l. smallest_least m handed' q (omega arith);
    least_grows = smallest_up m handed handed' (λ q. grind (arith, cases_eq q s, now, others q));
    by_all = λ k l. above_all m (m + 1) handed' k refl l;
    by_some = λ k l. above_some m (m + 1) handed' k refl l;
  }
