-- Code that follows the table by atomic steps follows it with store buffers too. Up to any moment its run is one of
-- the passes. By their law this is one of atomic steps, in which each thread finds the same. So the next access is
-- again that of the pass.
use Rattle.std.proofs.Common.{◌≡◌, ◌≢◌, inl, inr, ℕ, Bool, true, false, cond, refl, ap, sym, ◌∙◌, subst, ⊎_elim, List, [], ◌∷◌, ◌++◌, Option, Some, None, Ok, arith}
use Rattle.std.specs.Prelude.{nat_lt}
use Rattle.std.proofs.lemmas.Bool.{lt-ltb}
use Rattle.cc_model.specs.Config.{config_fault}
use Rattle.cc_x86.specs.Program as threads
use Rattle.cc_x86.specs.Program.{Operation, Store, Outside, Stop, Program, State, Turn, hold, found, written}
use Rattle.cc_x86.specs.Sequential as atomic
use Rattle.cc_x86.specs.Buffered as buffers
use Rattle.cc_x86.specs.Buffered.{Plain, is_plain, Waiting, found_behind, at_once, acts_with, MayAct}
use Rattle.cc_x86.specs.Posted.{Waits, AreWaiting, IsOrderly, Order, order}
use Rattle.cc_x86.specs.Driven as driven
use Rattle.cc_x86.specs.Driven.{Tagged, Crew, Move, TakesUp, Leaves, Acts, Drains, stores, tagged, waits_more, drained_by, reached, Fresh, AreFresh, MayTakeUp, MayDrain, IsDrivenRun, by_passes, drains_with, done}
use Rattle.cc_x86.specs.Names as queue
use Rattle.cc_x86.specs.Names.{Setting, Served, Chain, Word, Phase, Stand}
use Rattle.cc_x86.specs.Threads.{Ask, passes_as_threads, opened, next_at, moves_of}
use Rattle.cc_x86.specs.OnX86.{MayBegin}
use Rattle.cc_x86.specs.Early.{early, waits_at, waiting, early_order}
use Rattle.cc_runs.specs.Early.{is_fresh}
use Rattle.cc_x86.specs.Crews.{fresh, moves_by_passes, LinearizableWithDrivenPasses}
use Rattle.cc_x86.specs.AnyCode.{Code, code, plain, ready, begins, Follows, FollowsByAtomicSteps, as_marked, by_table, FollowsWithBuffers, CodeFollowsWithBuffers, code_of, PremiseOfCode}
use Rattle.cc_x86.proofs.Stores.{by_bool, contradiction, held}
use Rattle.cc_x86.proofs.Buffers.{at_hold, Behind, may_be}
use Rattle.cc_x86.proofs.Tied.{HoldsBefore}
use Rattle.cc_x86.proofs.Posted.{follow, order_adds}
use Rattle.cc_x86.proofs.Driven.{driven_runs_are_by_passes}
use Rattle.cc_x86.proofs.Crews.{by_passes_adds, are_fresh}
use Rattle.cc_x86.proofs.Threads.{busy_move, stands_so}
use Rattle.cc_x86.proofs.Early.Turns.{acting, store_busy}
use Rattle.cc_x86.proofs.Early.Law.{begins_before, orderly, are_waiting}
use Rattle.cc_x86.proofs.Beside.{beside, open_both, plain_both, waits_both, fresh_both, reached_first, orderly_both, waiting_both, order_first, first_crew, crew_first, run_first, done_first, by_passes_first, fresh_stays}
use Rattle.cc_runs.specs.State.{chain_of, first_node}
use Rattle.cc_runs.specs.Run.{passes, nowhere}
use Rattle.cc_runs.specs.Early.{may_be_early}
use Rattle.cc_runs.specs.MachineLaws.{PreparedAlone}
use Rattle.cc_runs.specs.ChainLaws.{ChainLawsOfRuns}
use Rattle.cc_runs.specs.NodeLaws.{NodeLawsOfRuns}

-- Two programs: the second has the first's accesses wherever its runs of atomic steps are those of the first.
module _ {W S X : Type 0} (c : Program W S) (early : Plain S) (waits : Waits S) (fresh : Fresh S) (s : State W S)
    (next : ℕ → X → Operation W) (after : ℕ → X → ℕ → X) (begun : ℕ → X) (plain : Plain X) (ready : Fresh X)
    (At : ℕ → X → S → Type 0) where
  abbrev its : Program W X
  its = record { same = c.same; next = next; after = after }

  abbrev start : State W X
  start = record { words = s.words; own = begun }

  abbrev both : Program W (S × X)
  both = beside c waits after

  abbrev both_start : State W (S × X)
  both_start = open_both s begun

  abbrev both_early : Plain (S × X)
  both_early = plain_both early

  abbrev both_waits : Waits (S × X)
  both_waits = waits_both waits

  abbrev both_fresh : Fresh (S × X)
  both_fresh = fresh_both fresh

  abbrev now : List Turn → State W (S × X)
  now ts = atomic.reached both both_start ts

  -- what holds where the second follows the first
  pub record Rules : Type 0 where
    pub next_is : (p : ℕ) (own : X) (at : S) → At p own at → next p own ≡ c.next p at
    pub plain_is : (p : ℕ) (own : X) (at : S) → At p own at → plain p own ≡ true → early p at ≡ true
    pub fresh_is : (p : ℕ) (own : X) (at : S) → At p own at → ready p own ≡ true → fresh p at ≡ true
    pub waits_is : (p : ℕ) (own : X) (at : S) → At p own at → (x : ℕ) → waits p at x ≡ true → after p own x ≡ own

  module _ (rules : Rules) where
    joins : (p : ℕ) (own : S × X) (x : ℕ) → At p own.1 own.0
        → after p own.1 x ≡ cond (waits p own.0 x) own.1 (after p own.1 x)
    joins p own x at = by_bool (after p own.1 x ≡ cond (waits p own.0 x) own.1 (after p own.1 x)) (waits p own.0 x)
        (λ it. rules.waits_is p own.1 own.0 at x it ∙ sym (ap (λ (b : Bool). cond b own.1 (after p own.1 x)) it))
        (λ it. sym (ap (λ (b : Bool). cond b own.1 (after p own.1 x)) it))

    -- ---- a run of threads that drive passes

    pub record Tie (m : Crew W X) (r : Crew W (S × X)) : Type 0 where
      pub words : m.words ≡ r.words
      pub own : (p : ℕ) → m.own p ≡ (r.own p).1
      pub buffer : m.buffer ≡ r.buffer
      pub drives : m.drives ≡ r.drives

    module _ (m : Crew W X) (r : Crew W (S × X)) (k : Tie m r) where
      module _ (t p told : ℕ) (plainly : Bool) (at : At p (r.own p).1 (r.own p).0) where
        abbrev flag : Bool
        flag = is_plain plain p (m.own p) plainly

        abbrev both_flag : Bool
        both_flag = is_plain both_early p (r.own p) flag

        at_own : At p (m.own p) (r.own p).0
        at_own = subst (λ (x : X). At p x (r.own p).0) (sym (k.own p)) at

        same_does : next p (m.own p) ≡ c.next p (r.own p).0
        same_does = rules.next_is p (m.own p) (r.own p).0 at_own

        flag_stays : (f : Bool) → (f ≡ true → early p (r.own p).0 ≡ true) → f ≡ is_plain both_early p (r.own p) f
        flag_stays f it = grind arith

        same_flag : flag ≡ both_flag
        same_flag = flag_stays flag (λ e. rules.plain_is p (m.own p) (r.own p).0 at_own
            (may_be its plain p (m.own p) plainly e))

        abbrev finds : ℕ
        finds = found_behind c.same m.words (stores (m.buffer t)) (next p (m.own p)) told

        abbrev both_finds : ℕ
        both_finds = found_behind c.same r.words (stores (r.buffer t)) (c.next p (r.own p).0) told

        same_finds : finds ≡ both_finds
        same_finds = λ i. found_behind c.same (k.words i) (stores (k.buffer i t)) (same_does i) told

        goes : after p (m.own p) finds ≡ (both.after p (r.own p) both_finds).1
        goes = (λ i. after p (k.own p i) (same_finds i)) ∙ joins p (r.own p) both_finds at

        acts_tie : Tie (driven.acted_by its m t p told (next p (m.own p)) flag)
            (driven.acted_by both r t p told (c.next p (r.own p).0) both_flag)
        acts_tie = record {
          words = λ i. at_once c.same (k.words i) (same_does i) (same_flag i);
          own = λ q. at_hold (λ (b : Bool). cond b (after p (m.own p) finds) (m.own q)
              ≡ (cond b (both.after p (r.own p) both_finds) (r.own q)).1) p q (λ _. goes) (k.own q);
          buffer = λ i. hold (k.buffer i) t (k.buffer i t ++ tagged p (waits_more p (same_does i) (same_flag i)));
          drives = k.drives;
        }

        acts_may : MayAct (stores (m.buffer t)) (next p (m.own p)) flag
            → MayAct (stores (r.buffer t)) (c.next p (r.own p).0) both_flag
        acts_may may =
            subst (λ (l : ℕ → List (Tagged W)). MayAct (stores (l t)) (c.next p (r.own p).0) both_flag) k.buffer
            (subst (λ (d : Operation W). MayAct (stores (m.buffer t)) d both_flag) same_does
            (subst (λ (f : Bool). MayAct (stores (m.buffer t)) (next p (m.own p)) f) same_flag may))

        acts_effects : acts_with p finds (next p (m.own p)) flag
            ≡ acts_with p both_finds (c.next p (r.own p).0) both_flag
        acts_effects = λ i. acts_with p (same_finds i) (same_does i) (same_flag i)

      takes_may : (t p : ℕ) → At p (r.own p).1 (r.own p).0 → MayTakeUp ready m t p → MayTakeUp both_fresh r t p
      takes_may t p at may = record {
        free = λ u other. subst (λ (d : ℕ → Option ℕ). d u ≢ Some p) k.drives (may.free u other);
        out = λ u other. ap (λ (l : ℕ → List (Tagged W)). driven.of_pass p (l u)) (sym k.buffer) ∙ may.out u other;
        ready = ⊎_elim
            (λ (e : m.buffer t ≡ []). inl (ap (λ (l : ℕ → List (Tagged W)). l t) (sym k.buffer) ∙ e))
            (λ (f : ready p (m.own p) ≡ true).
            inr (rules.fresh_is p (r.own p).1 (r.own p).0 at (ap (ready p) (sym (k.own p)) ∙ f)))
            may.ready;
      }

      drives_tie : (t : ℕ) (pass : Option ℕ)
          → Tie record { words = m.words; own = m.own; buffer = m.buffer; drives = hold m.drives t pass }
          record { words = r.words; own = r.own; buffer = r.buffer; drives = hold r.drives t pass }
      drives_tie t pass =
          record { words = k.words; own = k.own; buffer = k.buffer; drives = λ i. hold (k.drives i) t pass }

      drained_tie : (t : ℕ) (l : List (Tagged W)) → Tie (drained_by its m t l) (drained_by both r t l)
      drained_tie t [] = k
      drained_tie t (e ∷ newer) = record {
        words = λ i. threads.put c.same (k.words i) e.store.word e.store.value;
        own = k.own;
        buffer = λ i. hold (k.buffer i) t newer;
        drives = k.drives;
      }

      drains_tie : (t : ℕ) → Tie (drained_by its m t (m.buffer t)) (drained_by both r t (r.buffer t))
      drains_tie t =
          subst (λ (l : ℕ → List (Tagged W)). Tie (drained_by its m t (m.buffer t)) (drained_by both r t (l t)))
          k.buffer (drained_tie t (m.buffer t))

    module _ (Holds : List Turn → Type 0) (before : HoldsBefore Holds)
        (stores_hold : (ts : List Turn) (p : ℕ) (w : W) (v : ℕ) → c.next p ((atomic.reached c s ts).own p) ≡ Store w v
        → Holds ts → Holds (record { thread = p; told = 0 } ∷ ts))
        (follows : (ts : List Turn) → atomic.IsRun its start ts → Holds ts
        → (p : ℕ) → At p ((atomic.reached its start ts).own p) ((atomic.reached c s ts).own p)) where
      -- ---- by atomic steps

      record Same (ts : List Turn) : Type 0 where
        pub run : atomic.IsRun its start ts
        pub words : (atomic.reached its start ts).words ≡ (now ts).words
        pub own : (p : ℕ) → (atomic.reached its start ts).own p ≡ ((now ts).own p).1

      at_now : (ts : List Turn) → Holds ts → Same ts → (p : ℕ) → At p ((now ts).own p).1 ((now ts).own p).0
      at_now ts holds k p =
          subst (λ (x : X). At p x ((now ts).own p).0) (k.own p)
          (subst (λ (z : State W S). At p ((atomic.reached its start ts).own p) (z.own p))
          (sym (reached_first c early waits fresh s after begun ts)) (follows ts k.run holds p))

      same_now : (ts : List Turn) → atomic.IsRun both both_start ts → Holds ts → Same ts
      same_now [] run holds = record { run = tt; words = refl; own = λ p. refl }
      same_now (t ∷ earlier) run holds =
          let r : State W (S × X) = now earlier in
          let m : State W X = atomic.reached its start earlier in
          let p : ℕ = t.thread in
          let k : Same earlier = same_now earlier run.0 (before t earlier holds) in
          let at : At p (r.own p).1 (r.own p).0 = at_now earlier (before t earlier holds) k p in
          let does : next p (m.own p) ≡ c.next p (r.own p).0 =
          ap (next p) (k.own p) ∙ rules.next_is p (r.own p).1 (r.own p).0 at in
          let finds : ℕ = found r.words (c.next p (r.own p).0) t.told in
          let same_finds : found m.words (next p (m.own p)) t.told ≡ finds = λ i. found (k.words i) (does i) t.told in
          let goes : after p (m.own p) (found m.words (next p (m.own p)) t.told) ≡ (both.after p (r.own p) finds).1 =
          (λ i. after p (k.own p i) (same_finds i)) ∙ joins p (r.own p) finds at in
          record {
            run = (k.run, subst (λ (o : Operation W). atomic.Acts o) (sym does) run.1);
            words = λ i. written c.same (k.words i) (does i);
            own = λ q. at_hold
                (λ (b : Bool). cond b (after p (m.own p) (found m.words (next p (m.own p)) t.told)) (m.own q)
                ≡ (cond b (both.after p (r.own p) finds) (r.own q)).1) p q (λ _. goes) (k.own q);
          }

      -- ahead by stores
      ahead : (p : ℕ) (own : S × X) (l : List (Waiting W)) (ts : List Turn) → atomic.IsRun both both_start ts → Holds ts
          → Behind both both_early p ((now ts).own p) l own → At p own.1 own.0
      ahead p own [] ts run holds b = subst (λ (z : S × X). At p z.1 z.0) b (at_now ts holds (same_now ts run holds) p)
      ahead p own (e ∷ newer) ts run holds b =
          let r : State W (S × X) = now ts in
          let t : Turn = record { thread = p; told = 0 } in
          let is : c.next p ((atomic.reached c s ts).own p) ≡ Store e.word e.value =
          subst (λ (z : State W S). c.next p (z.own p) ≡ Store e.word e.value)
          (reached_first c early waits fresh s after begun ts) b.0 in
          let goes : (now (t ∷ ts)).own p ≡ both.after p (r.own p) 0 =
          held r.own p (both.after p (r.own p) (found r.words (both.next p (r.own p)) 0))
          ∙ ap (λ (o : Operation W). both.after p (r.own p) (found r.words o 0)) b.0 in
          ahead p own newer (t ∷ ts) (run, subst (λ (o : Operation W). atomic.Acts o) (sym b.0) tt)
          (stores_hold ts p e.word e.value is holds)
          (subst (λ (z : S × X). Behind both both_early p z newer own) (sym goes) b.2)

      module _ (are_waiting : AreWaiting c waits) (orderly : IsOrderly c early waits s Holds)
          (are_fresh : AreFresh c fresh) where
        abbrev order_of : List Move → List Turn
        order_of moves =
            (order both both_early both_waits both_start (by_passes both both_early both_start moves)).turns

        -- ---- with buffers

        at_end : (moves : List Move) → IsDrivenRun both both_early both_fresh both_start moves → Holds (order_of moves)
            → (p : ℕ) → At p ((reached both both_early both_start moves).own p).1
            ((reached both both_early both_start moves).own p).0
        at_end moves run holds p =
            let k = driven_runs_are_by_passes W (S × X) both both_early both_fresh both_start moves
            (fresh_stays c early waits fresh s after begun are_fresh) run in
            let f = follow both both_early both_waits both_start
            (waiting_both c early waits fresh s after begun are_waiting) Holds before
            (orderly_both c early waits fresh s after begun Holds orderly)
            (by_passes both both_early both_start moves) k.run holds in
            let o = order both both_early both_waits both_start (by_passes both both_early both_start moves) in
            subst (λ (own : ℕ → S × X). At p (own p).1 (own p).0) k.own
            (ahead p ((buffers.arrived both both_early both_start (by_passes both both_early both_start moves)).own p)
            (o.late p) o.turns f.tied.run holds (f.tied.behind p))

        front : (more ts : List Turn) → Holds (more ++ ts) → Holds ts
        front [] ts holds = holds
        front (t ∷ more) ts holds = front more ts (before t (more ++ ts) holds)

        earlier_holds : (move : Move) (earlier : List Move)
            → Holds (order_of (move ∷ earlier)) → Holds (order_of earlier)
        earlier_holds move earlier holds =
            let b = by_passes_adds both both_early both_start (move ∷ []) earlier in
            let o = order_adds both both_early both_waits both_start b.0
            (by_passes both both_early both_start earlier) in
            let by : List buffers.Move → List Turn = λ l. (order both both_early both_waits both_start l).turns in
            front o.0 (order_of earlier) (subst Holds o.1 (subst (λ (l : List buffers.Move). Holds (by l)) b.1 holds))

        abbrev marked : List Move → List Move
        marked moves = as_marked its plain start moves

        pub record So (moves : List Move) : Type 0 where
          pub run : IsDrivenRun both both_early both_fresh both_start (marked moves)
          pub effects : done its plain start moves ≡ done both both_early both_start (marked moves)
          pub tie : Tie (reached its plain start moves) (reached both both_early both_start (marked moves))

        pub so : (moves : List Move) → IsDrivenRun its plain ready start moves → Holds (order_of (marked moves))
            → So moves
        so [] run holds = record {
          run = tt;
          effects = refl;
          tie = record { words = refl; own = λ p. refl; buffer = refl; drives = refl };
        }
        so (TakesUp t p ∷ earlier) run holds =
            let m : Crew W X = reached its plain start earlier in
            let r : Crew W (S × X) = reached both both_early both_start (marked earlier) in
            let holds_then : Holds (order_of (marked earlier)) = earlier_holds (TakesUp t p) (marked earlier) holds in
            let k : So earlier = so earlier run.0 holds_then in record {
              run = (k.run, takes_may m r k.tie t p (at_end (marked earlier) k.run holds_then p) run.1);
              effects = k.effects;
              tie = drives_tie m r k.tie t (Some p);
            }
        so (Leaves t ∷ earlier) run holds =
            let m : Crew W X = reached its plain start earlier in
            let r : Crew W (S × X) = reached both both_early both_start (marked earlier) in
            let k : So earlier = so earlier run.0 (earlier_holds (Leaves t) (marked earlier) holds) in record {
              run = (k.run, tt);
              effects = k.effects;
              tie = drives_tie m r k.tie t None;
            }
        so (Acts t turn plainly ∷ earlier) run holds =
            let m : Crew W X = reached its plain start earlier in
            let r : Crew W (S × X) = reached both both_early both_start (marked earlier) in
            let p : ℕ = turn.thread in
            let holds_then : Holds (order_of (marked earlier)) =
            earlier_holds (Acts t turn (is_plain plain p (m.own p) plainly)) (marked earlier) holds in
            let k : So earlier = so earlier run.0 holds_then in
            let still_drives : r.drives t ≡ Some p = subst (λ (d : ℕ → Option ℕ). d t ≡ Some p) k.tie.drives run.1.0 in
            let at : At p (r.own p).1 (r.own p).0 = at_end (marked earlier) k.run holds_then p in record {
              run = (k.run, (still_drives, acts_may m r k.tie t p turn.told plainly at run.1.1));
              effects = λ i. acts_effects m r k.tie t p turn.told plainly at i ++ k.effects i;
              tie = acts_tie m r k.tie t p turn.told plainly at;
            }
        so (Drains t ∷ earlier) run holds =
            let m : Crew W X = reached its plain start earlier in
            let r : Crew W (S × X) = reached both both_early both_start (marked earlier) in
            let k : So earlier = so earlier run.0 (earlier_holds (Drains t) (marked earlier) holds) in record {
              run = (k.run, subst (λ (l : ℕ → List (Tagged W)). MayDrain (l t)) k.tie.buffer run.1);
              effects = λ i. drains_with (k.tie.buffer i t) ++ k.effects i;
              tie = drains_tie m r k.tie t;
            }

-- ---- the passes and their code

module _ (c : Setting) (asks : ℕ → Ask) (codes : ℕ → Code) where
  abbrev T : Program Word Stand
  T = passes_as_threads c asks

  abbrev Begins : List Turn → Type 0
  Begins ts = MayBegin c (moves_of c asks ts)

  -- a store begins no call
  stores_begin : (ts : List Turn) (p : ℕ) (w : Word) (v : ℕ)
      → T.next p ((atomic.reached T (opened c) ts).own p) ≡ Store w v
      → Begins ts → Begins (record { thread = p; told = 0 } ∷ ts)
  stores_begin ts p w v is may =
      let at : Stand = (atomic.reached T (opened c) ts).own p in
      let a = acting c asks p at (Store w v) is tt in
      let is_busy = store_busy c (chain_of c.config p) at.node at.phase w v a.1 (stands_so at.phase) in
      subst (λ (m : queue.Move). MayBegin c (m ∷ moves_of c asks ts))
      (sym (busy_move asks record { thread = p; told = 0 } at.phase is_busy)) may

  the_rules : Rules T (early c) waiting fresh (opened c) code.next code.after codes plain ready (Follows c asks)
  the_rules = record {
    next_is = λ p own at f. f.does;
    plain_is = λ p own at f. f.plain;
    fresh_is = λ p own at f. f.fresh;
    waits_is = λ p own at f. f.waits;
  }

  -- the passes with the codes beside
  abbrev both_T : Program Word (Stand × Code)
  both_T = beside T waiting code.after

  abbrev both_opened : State Word (Stand × Code)
  both_opened = open_both (opened c) codes

  abbrev both_reached : List Move → Crew Word (Stand × Code)
  both_reached moves = reached both_T (plain_both (early c)) both_opened moves

  abbrev both_order : List buffers.Move → Order Word
  both_order moves = order both_T (plain_both (early c)) (waits_both waiting) both_opened moves

  module _ (chains : ChainLawsOfRuns) (nodes : NodeLawsOfRuns) (prepared : PreparedAlone)
      (law : LinearizableWithDrivenPasses)
      (moves : List Move) (list : c.served ≡ Served.List) (checked : config_fault c.config ≡ Ok tt)
      (premise : FollowsByAtomicSteps c asks codes) (run : IsDrivenRun code plain ready (begins c codes) moves)
      (may : MayBegin c (early_order c asks (moves_by_passes c asks (by_table c codes moves)))) where
    before : HoldsBefore Begins
    before t ts b = begins_before c asks chains nodes prepared list checked t ts b

    abbrev keeps : IsOrderly T (early c) waiting (opened c) Begins
    keeps = orderly c asks chains nodes prepared list checked

    abbrev table_moves : List Move
    table_moves = by_table c codes moves

    abbrev by_both : List buffers.Move
    by_both = by_passes both_T (plain_both (early c)) both_opened table_moves

    first_order : both_order by_both
        ≡ order T (early c) waiting (opened c) (by_passes T (early c) (opened c) table_moves)
    first_order =
        order_first T (early c) waiting fresh (opened c) code.after codes by_both
        ∙ ap (order T (early c) waiting (opened c))
        (by_passes_first T (early c) waiting fresh (opened c) code.after codes table_moves)

    all_begin : Begins (both_order by_both).turns
    all_begin = subst (λ (o : Order Word). Begins o.turns) (sym first_order) may

    ended : So T (early c) waiting fresh (opened c) code.next code.after codes plain ready (Follows c asks) the_rules
        Begins before stores_begin premise (are_waiting c asks) keeps (are_fresh c asks) moves
    ended = so T (early c) waiting fresh (opened c) code.next code.after codes plain ready (Follows c asks) the_rules
        Begins before stores_begin premise (are_waiting c asks) keeps (are_fresh c asks) moves run all_begin

    crew_is : first_crew T (early c) waiting fresh (opened c) code.after codes (both_reached table_moves)
        ≡ reached T (early c) (opened c) table_moves
    crew_is = crew_first T (early c) waiting fresh (opened c) code.after codes table_moves

    table_run : IsDrivenRun T (early c) fresh (opened c) table_moves
    table_run = run_first T (early c) waiting fresh (opened c) code.after codes table_moves ended.run

    follows_both : (p : ℕ) → Follows c asks p ((both_reached table_moves).own p).1 ((both_reached table_moves).own p).0
    follows_both p =
        at_end T (early c) waiting fresh (opened c) code.next code.after codes plain ready (Follows c asks) the_rules
        Begins before stores_begin premise (are_waiting c asks) keeps (are_fresh c asks)
        table_moves ended.run all_begin p

    pub with_buffers : FollowsWithBuffers c asks codes moves
    with_buffers = record {
      run = table_run;
      effects = ended.effects ∙ done_first T (early c) waiting fresh (opened c) code.after codes table_moves;
      words = ended.tie.words ∙ ap (λ (m : Crew Word Stand). m.words) crew_is;
      follows = λ p.
          let own : Code = (reached code plain (begins c codes) moves).own p in
          subst (λ (m : Crew Word Stand). Follows c asks p own (m.own p)) crew_is
          (subst (λ (z : Code). Follows c asks p z ((both_reached table_moves).own p).0) (sym (ended.tie.own p))
          (follows_both p));
      linearizable = law c asks table_moves list checked table_run may;
    }

pub code_follows_with_buffers : ChainLawsOfRuns → NodeLawsOfRuns → PreparedAlone → LinearizableWithDrivenPasses
    → CodeFollowsWithBuffers
code_follows_with_buffers chains nodes prepared law c asks codes moves list checked premise run may =
    with_buffers c asks codes chains nodes prepared law moves list checked premise run may

-- ---- which code follows

module _ (c : Setting) (asks : ℕ → Ask) where
  abbrev P : Program Word Stand
  P = passes_as_threads c asks

  abbrev own_codes : ℕ → Code
  own_codes p = code_of c asks p ((opened c).own p)

  record AsPasses (ts : List Turn) : Type 0 where
    pub words : (atomic.reached code (begins c own_codes) ts).words ≡ (atomic.reached P (opened c) ts).words
    pub own : (p : ℕ) → (atomic.reached code (begins c own_codes) ts).own p
        ≡ code_of c asks p ((atomic.reached P (opened c) ts).own p)

  as_passes : (ts : List Turn) → AsPasses ts
  as_passes [] = record { words = refl; own = λ p. refl }
  as_passes (t ∷ earlier) =
      let k : AsPasses earlier = as_passes earlier in
      let m : State Word Code = atomic.reached code (begins c own_codes) earlier in
      let r : State Word Stand = atomic.reached P (opened c) earlier in
      let p : ℕ = t.thread in
      let does : code.next p (m.own p) ≡ P.next p (r.own p) = ap (code.next p) (k.own p) in
      let finds : ℕ = found r.words (P.next p (r.own p)) t.told in
      let finds_too : ℕ = found m.words (code.next p (m.own p)) t.told in
      let goes : code.after p (m.own p) finds_too ≡ code_of c asks p (P.after p (r.own p) finds) =
      λ i. code.after p (k.own p i) (found (k.words i) (does i) t.told) in
      record {
        words = λ i. written P.same (k.words i) (does i);
        own = λ q. at_hold
            (λ (b : Bool). cond b (code.after p (m.own p) finds_too) (m.own q)
            ≡ code_of c asks q (cond b (P.after p (r.own p) finds) (r.own q))) p q
            (λ it. goes ∙ ap (λ (z : ℕ). code_of c asks z (P.after p (r.own p) finds)) it)
            (k.own q);
      }

  pub passes_follow : FollowsByAtomicSteps c asks own_codes
  passes_follow ts run may p =
      subst (λ (own : Code). Follows c asks p own ((atomic.reached P (opened c) ts).own p)) (sym ((as_passes ts).own p))
      record {
        does = refl;
        plain = λ it. it;
        fresh = λ it. it;
        waits = λ x it. ap (code_of c asks p) (are_waiting c asks p ((atomic.reached P (opened c) ts).own p) x it);
      }

-- an idle pass asks for a call
idle_asks : (c : Setting) (x : Chain) (idle other : Stand) (b : Bool) (does : Operation Word)
    → idle.phase ≡ Phase.Idle → b ≡ true → does ≡ Stop
    → does ≡ cond b (next_at c x (cond b idle other).node (cond b idle other).phase) Stop → ⊥
idle_asks c x idle other true does is it stop e =
    differ does stop (e ∙ ap (λ (at : Phase). next_at c x idle.node at) is)
  where
    differ : (o : Operation Word) → o ≡ Stop → o ≡ Outside 0 → ⊥
    differ o stops asks = cc
idle_asks c x idle other false does is it stop e = contradiction false it refl

pub premise_of_code : PremiseOfCode
premise_of_code = record {
  passes_follow = passes_follow;
  plain_mark = λ c asks p own at job of_senders marks is_plain f.
      contradiction (early c p at) (f.plain is_plain) (λ i. may_be_early (of_senders i) (marks i));
  stopped = λ c asks codes p inside stop follows.
      idle_asks c (chain_of c.config p) record { begun = 0; node = first_node c.config p; phase = Phase.Idle } nowhere
      (nat_lt p (passes c)) (code.next p (codes p)) refl
      (lt-ltb p (passes c) inside) stop (follows [] tt tt p).does;
  counts_its_waits = λ c asks p own at reads differs f.
      differs (ap (code.next p) (f.waits 1 (ap (λ (z : Phase). waits_at z 1) reads)));
  taken_up_while_it_waits = λ c asks p own at reads is_ready f.
      contradiction (fresh p at) (f.fresh is_ready) (ap is_fresh reads);
}
