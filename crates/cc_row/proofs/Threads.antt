-- Threads that keep the rules of a row use its queues in order, in every interleaving.
use Rattle.std.proofs.lemmas.Bool.{cases_eq}
use Rattle.std.proofs.Common.{◌≡◌, ◌≢◌, ◌⊎◌, ℕ, suc, ◌<◌, ◌≤◌, nat_lt, Bool, true, cond, List, [], ◌∷◌, ◌++◌, length, Some, append_assoc, inl, inr, refl, sym, ap, subst, ◌∙◌, arith}
use Rattle.std.specs.List.{list_any}
use Rattle.cc_model.specs.Record.{Side}
use Rattle.cc_model.specs.Items.{is_shut, shuts}
use Rattle.cc_runs.specs.State.{State, chain_of}
use Rattle.cc_runs.specs.Step.{stepped}
use Rattle.cc_runs.specs.Lines.{event_at}
use Rattle.cc_runs.specs.OnChain.{IsChain, calls_on, answers_on}
use Rattle.cc_runs.specs.Run.{IsRun, IsIdle, IsFinished, history_of, reached, moved, passes, nowhere}
use Rattle.cc_runs.specs.Passes.{pass_of}
use Rattle.cc_runs.specs.declared.phase.Event.{Event}
use Rattle.cc_runs.specs.declared.phase.Phase.{Phase}
use Rattle.cc_runs.proofs.RunPrefixes.{prefixes_begin}
use Rattle.cc_runs.proofs.Chains.Frame.{hold_apart}
use Rattle.cc_runs.proofs.Chains.Opening.{no_calls}
use Rattle.cc_runs.proofs.Chains.Others.{IsOther, side_other}
use Rattle.cc_runs.proofs.Chains.Serving.{chain_is}
use Rattle.cc_row.specs.Names.{Answer, Chain, Setting, Served, Move}
use Rattle.cc_row.specs.Row.{ends}
use Rattle.cc_row.specs.Runs.{RowMove, FoundEnded, UsedInOrder, IsUsed, moves_at}
use Rattle.cc_row.specs.Threads.{Role, RowEvent, Look, RowSetting, moves_of, moves_there, last_of, queue_of, found_by, look_of, is_closed, Serves, HasFound, IsAtRest, BeginsWhereFound, KeepRules, final_of, ThreadsMakeRows, IsLeft, WasAway, LeftQueuesRest}
use Rattle.cc_row.proofs.Merge.{moves_here, moves_else}
use Rattle.cc_row.proofs.Use.{any_prefix, rows_are_linearizable}

-- ---- a chain whose passes have begun no call

pub record Quiet (c : Setting) (x : Chain) (moves : List Move) : Type 0 where
  pub none : calls_on x (history_of c moves) ≡ []
  pub idle : (p : ℕ) → chain_of c.config p ≡ x → IsIdle ((reached c moves).stand p).phase

pub idle_first : (c : Setting) (p : ℕ) → IsIdle ((reached c []).stand p).phase
idle_first c p = at_first (nat_lt p (passes c)) _
  where
    at_first : (b : Bool) (first : ℕ) → IsIdle (cond b (record { begun = 0; node = first; phase = Phase.Idle }) nowhere).phase
    at_first b first = grind arith

quiet_first : (c : Setting) (x : Chain) → Quiet c x []
quiet_first c x = record { none = ap (λ (s : Side). s.calls) (no_calls c.config.groups x); idle = λ p on. idle_first c p }

pub idle_event : (at : Phase) → IsIdle at → event_at at ≡ Event.Idle
idle_event at is = grind arith

pub idle_unfinished : (at : Phase) → IsIdle at → IsFinished at → ⊥
idle_unfinished at is ended = grind arith

-- one of two chains is the other, or is apart from it
pub chains : (x y : Chain) → (y ≡ x) ⊎ IsOther x y
chains x y = grind arith

-- a begin by a pass of this chain
abbrev BeginsOn : Setting → Chain → Move → Type 0
BeginsOn c x (Move.Begin p call known) = chain_of c.config p ≡ x
BeginsOn c x (Move.Step p) = ⊥
BeginsOn c x (Move.Take p) = ⊥

module _ (c : Setting) (x : Chain) (moves : List Move) (quiet : Quiet c x moves) where
  abbrev s : State
  s = reached c moves

  -- a pass of the chain has no step, and no answer to take
  no_step : (p : ℕ) → IsRun c (Move.Step p ∷ moves) → chain_of c.config p ≢ x
  no_step p run on = run.1.1 (idle_event (s.stand p).phase (quiet.idle p on))

  no_answer : (p : ℕ) → IsRun c (Move.Take p ∷ moves) → chain_of c.config p ≢ x
  no_answer p run on = idle_unfinished (s.stand p).phase (quiet.idle p on) run.1.1

  -- the passes of the chain stand as they did, if another chain's pass moved
  others_idle : (p : ℕ) (t : State) → chain_of c.config p ≢ x → ((q : ℕ) → q ≢ p → t.stand q ≡ s.stand q) → (q : ℕ) → chain_of c.config q ≡ x → IsIdle (t.stand q).phase
  others_idle p t off same q on = subst (λ (z : Phase). IsIdle z) (sym (ap (λ z. z.phase) (same q (λ is. off (subst (λ (z : ℕ). chain_of c.config z ≡ x) is on))))) (quiet.idle q on)

  quiet_more : (m : Move) → IsRun c (m ∷ moves) → (BeginsOn c x m → ⊥) → Quiet c x (m ∷ moves)
  quiet_more (Move.Begin p call known) run not = record {
    none = quiet.none;
    idle = others_idle p (moved c s (Move.Begin p call known)) not (λ q ne. hold_apart s.stand p q _ ne);
  }
  quiet_more (Move.Take p) run not = record {
    none = quiet.none;
    idle = others_idle p (moved c s (Move.Take p)) (no_answer p run) (λ q ne. hold_apart s.stand p q _ ne);
  }
  quiet_more (Move.Step p) run not = elim (chains x (chain_of c.config p)) [
    | inl on ↦ absurd (no_step p run on)
    | inr other ↦ record {
      none = ap (λ (z : Side). z.calls) (side_other x (chain_of c.config p) s.history _ other) ∙ quiet.none;
      idle = others_idle p (stepped c s p) (no_step p run) (λ q ne. hold_apart s.stand p q _ ne);
    }
  ]

-- ---- what stays

grown : (c : Setting) (m : Move) (moves : List Move) (x : Chain) (p : Answer → Bool) → IsRun c (m ∷ moves) → list_any p (answers_on x (history_of c moves)) ≡ true → list_any p (answers_on x (history_of c (m ∷ moves))) ≡ true
grown c m moves Chain.Send p run is = any_prefix p _ _ (prefixes_begin c (m ∷ []) moves run).1.sends.answers is
grown c m moves (Chain.Take g) p run is = any_prefix p _ _ ((prefixes_begin c (m ∷ []) moves run).1.takes g).answers is

module _ (r : RowSetting) where
  abbrev pub c : ℕ → Setting
  c = r.of

  abbrev pub names : ℕ → ℕ → ℕ
  names = r.names

  abbrev pub Runs : List RowMove → Type 0
  Runs moves = (q : ℕ) → IsRun (c q) (moves_at q moves)

  pub runs_before : (m : RowMove) (earlier : List RowMove) → Runs (m ∷ earlier) → Runs earlier
  runs_before m earlier runs q = grind (arith, runs q)

  -- the run of the queue that makes a move
  pub run_here : (m : RowMove) (earlier : List RowMove) → Runs (m ∷ earlier) → (q : ℕ) → m.at ≡ q → IsRun (c q) (m.move ∷ moves_at q earlier)
  run_here m earlier runs q here = subst (λ (l : List Move). IsRun (c q) l) (moves_here m earlier q here) (runs q)

  -- what held of a queue's answers holds after one more move
  told_stays : (m : RowMove) (earlier : List RowMove) → Runs (m ∷ earlier) → (q : ℕ) (x : Chain) (p : Answer → Bool) → list_any p (answers_on x (history_of (c q) (moves_at q earlier))) ≡ true
      → list_any p (answers_on x (history_of (c q) (moves_at q (m ∷ earlier)))) ≡ true
  told_stays m earlier runs q x p is = grind (arith, moves_here, grown, run_here m earlier runs q, moves_else)

  ended_stays : (m : RowMove) (earlier : List RowMove) → Runs (m ∷ earlier) → (q name : ℕ) → FoundEnded (c q) (names q) (moves_at q earlier) name → FoundEnded (c q) (names q) (moves_at q (m ∷ earlier)) name
  ended_stays m earlier runs q name was = record { group = was.group; inside = was.inside; named = was.named; ended = told_stays m earlier runs q (Chain.Take was.group) ends was.ended }

  -- so does that a chain is quiet, if none of its passes may begin
  quiet_stays : (m : RowMove) (earlier : List RowMove) → Runs (m ∷ earlier) → (q : ℕ) (x : Chain) → (m.at ≡ q → BeginsOn (c q) x m.move → ⊥) → Quiet (c q) x (moves_at q earlier) → Quiet (c q) x (moves_at q (m ∷ earlier))
  quiet_stays m earlier runs q x not quiet = grind (arith, moves_here m earlier q, quiet_more (c q) x (moves_at q earlier) quiet m.move, run_here m earlier runs q, moves_else m earlier q)

  -- ---- looks

  pub queue_grows : (name : ℕ) (e : RowEvent) (earlier : List RowEvent) → queue_of name earlier ≤ queue_of name (e ∷ earlier)
  queue_grows name e earlier = grind arith

  pub last_grows : (e : RowEvent) (earlier : List RowEvent) → last_of earlier ≤ last_of (e ∷ earlier)
  last_grows e earlier = grind arith

  found_grows : (role : Role) (e : RowEvent) (earlier : List RowEvent) → found_by role earlier ≤ found_by role (e ∷ earlier)
  found_grows role e earlier = grind (arith, last_grows, queue_grows)

  -- ---- what threads that keep the rules keep

  pub record Kept (events : List RowEvent) : Type 0 where
    pub shut : (q : ℕ) → q < last_of events → list_any shuts (answers_on Chain.Send (history_of (c q) (moves_there q events))) ≡ true
    pub ended : (name q : ℕ) → q < queue_of name events → FoundEnded (c q) (names q) (moves_there q events) name
    pub behind : (name : ℕ) → queue_of name events ≤ last_of events
    pub looked : (seat : ℕ) (look : Look) → look_of seat events ≡ Some look → look.queue ≤ found_by look.role events
    pub busy : (q p : ℕ) → (IsIdle ((reached (c q) (moves_there q events)).stand p).phase → ⊥) → HasFound r q p events
    pub no_send : (q : ℕ) → last_of events < q → Quiet (c q) Chain.Send (moves_there q events)
    pub no_take : (q g : ℕ) → queue_of (names q g) events < q → Quiet (c q) (Chain.Take g) (moves_there q events)

  kept_first : Kept []
  kept_first = record {
    shut = λ q less. absurd (omega (arith, less));
    ended = λ name q less. absurd (omega (arith, less));
    behind = λ name. omega arith;
    looked = λ seat look is. absurd (cc);
    busy = λ q p not. absurd (not (idle_first (c q) p));
    no_send = λ q more. quiet_first (c q) Chain.Send;
    no_take = λ q g more. quiet_first (c q) (Chain.Take g);
  }

  -- a queue that a pass's thread has found had been reached by the senders, or by the group of the pass
  abbrev IsReached : (q : ℕ) → Chain → List RowEvent → Type 0
  IsReached q Chain.Send events = q ≤ last_of events
  IsReached q (Chain.Take g) events = q ≤ queue_of (names q g) events

  is_reached : (q p : ℕ) (events : List RowEvent) → Kept events → HasFound r q p events → IsReached q (chain_of (c q).config p) events
  is_reached q p events k found = by (chain_of (c q).config p) found.role found.serves (k.looked (r.seats q p) (record { role = found.role; queue = q }) found.looks)
    where
      by : (x : Chain) (role : Role) → Serves (names q) x role → q ≤ found_by role events → IsReached q x events
      by (Chain.Take g) (Role.Takes name) is near = subst (λ (z : ℕ). q ≤ queue_of z events) (sym is) near
      by x role is near = grind arith

  began_there : (m : RowMove) (q : ℕ) (x : Chain) (earlier : List RowEvent) → Kept earlier → BeginsWhereFound r m.at m.move earlier → m.at ≡ q → BeginsOn (c q) x m.move → IsReached q x earlier
  began_there m q x earlier k found here on = by m.move (subst (λ (z : ℕ). BeginsWhereFound r z m.move earlier) here found) on
    where
      by : (move : Move) → BeginsWhereFound r q move earlier → BeginsOn (c q) x move → IsReached q x earlier
      by (Move.Begin p call known) found on = subst (λ (z : Chain). IsReached q z earlier) on (is_reached q p earlier k found)
      by _ found on = absurd on

  abbrev state_at : ℕ → List RowEvent → State
  state_at q earlier = reached (c q) (moves_there q earlier)

  -- a pass that has a call after a move began the call now, or had the call before
  had_call : (q p : ℕ) (move : Move) (earlier : List RowEvent) → IsRun (c q) (move ∷ moves_there q earlier) → BeginsWhereFound r q move earlier
      → ((IsIdle ((reached (c q) (moves_there q earlier)).stand p).phase → ⊥) → HasFound r q p earlier)
      → (IsIdle ((reached (c q) (move ∷ moves_there q earlier)).stand p).phase → ⊥) → HasFound r q p earlier
  had_call q p move earlier run found before not = by move run found not
    where
      -- another pass moved
      other : (mover : ℕ) (t : State) → (p ≢ mover → t.stand p ≡ (state_at q earlier).stand p) → p ≢ mover → (IsIdle (t.stand p).phase → ⊥) → HasFound r q p earlier
      other mover t same ne not = before (λ idle. not (subst (λ (z : Phase). IsIdle z) (sym (ap (λ z. z.phase) (same ne))) idle))

      by : (move : Move) → IsRun (c q) (move ∷ moves_there q earlier) → BeginsWhereFound r q move earlier → (IsIdle ((reached (c q) (move ∷ moves_there q earlier)).stand p).phase → ⊥) → HasFound r q p earlier
      by (Move.Begin b call known) run found not = elim (cases_eq p b) [
        | inl is ↦ subst (λ (z : ℕ). HasFound r q z earlier) (sym is) found
        | inr ne ↦ other b (moved (c q) (state_at q earlier) (Move.Begin b call known)) (λ ne. hold_apart (state_at q earlier).stand b p _ ne) ne not
      ]
      by (Move.Step b) run found not = elim (cases_eq p b) [
        | inl is ↦ before (λ idle. run.1.1 (idle_event ((state_at q earlier).stand b).phase (subst (λ (z : ℕ). IsIdle ((state_at q earlier).stand z).phase) is idle)))
        | inr ne ↦ other b (stepped (c q) (state_at q earlier) b) (λ ne. hold_apart (state_at q earlier).stand b p _ ne) ne not
      ]
      by (Move.Take b) run found not = elim (cases_eq p b) [
        | inl is ↦ before (λ idle. idle_unfinished ((state_at q earlier).stand b).phase (subst (λ (z : ℕ). IsIdle ((state_at q earlier).stand z).phase) is idle) run.1.1)
        | inr ne ↦ other b (moved (c q) (state_at q earlier) (Move.Take b)) (λ ne. hold_apart (state_at q earlier).stand b p _ ne) ne not
      ]

  kept_move : (m : RowMove) (earlier : List RowEvent) → Runs (m ∷ moves_of earlier) → BeginsWhereFound r m.at m.move earlier → Kept earlier → Kept (RowEvent.Moves m ∷ earlier)
  kept_move m earlier runs found k = record {
    shut = λ q less. told_stays m (moves_of earlier) runs q Chain.Send shuts (k.shut q less);
    ended = λ name q less. ended_stays m (moves_of earlier) runs q name (k.ended name q less);
    behind = k.behind;
    looked = λ seat look is. omega (arith, k.looked seat look is, found_grows look.role (RowEvent.Moves m) earlier);
    busy = λ q p not. still q p (was_busy q p not);
    no_send = λ q more. quiet_stays m (moves_of earlier) runs q Chain.Send (λ here on. let there : q ≤ last_of earlier = began_there m q Chain.Send earlier k found here on in omega (arith, more, there)) (k.no_send q more);
    no_take = λ q g more. quiet_stays m (moves_of earlier) runs q (Chain.Take g) (λ here on. let there : q ≤ queue_of (names q g) earlier = began_there m q (Chain.Take g) earlier k found here on in omega (arith, more, there)) (k.no_take q g more);
  }
    where
      still : (q p : ℕ) → HasFound r q p earlier → HasFound r q p (RowEvent.Moves m ∷ earlier)
      still q p has = record { role = has.role; serves = has.serves; looks = has.looks }

      was_busy : (q p : ℕ) → (IsIdle ((reached (c q) (moves_there q (RowEvent.Moves m ∷ earlier))).stand p).phase → ⊥) → HasFound r q p earlier
      was_busy q p not = elim (cases_eq m.at q) [
        | inl here ↦ had_call q p m.move earlier (run_here m (moves_of earlier) runs q here) (subst (λ (z : ℕ). BeginsWhereFound r z m.move earlier) here found) (k.busy q p)
            (λ idle. not (subst (λ (l : List Move). IsIdle ((reached (c q) l).stand p).phase) (sym (moves_here m (moves_of earlier) q here)) idle))
        | inr differ ↦ k.busy q p (λ idle. not (subst (λ (l : List Move). IsIdle ((reached (c q) l).stand p).phase) (sym (moves_else m (moves_of earlier) q differ)) idle))
      ]

  kept_look : (seat : ℕ) (role : Role) (earlier : List RowEvent) → IsAtRest r seat earlier → Kept earlier → Kept (RowEvent.Looks seat role ∷ earlier)
  kept_look seat role earlier rest k = record {
    shut = k.shut;
    ended = k.ended;
    behind = k.behind;
    looked =
        λ other look is. grind (arith, k.looked other look, found_grows look.role (RowEvent.Looks seat role) earlier);
    busy = λ q p not. let has : HasFound r q p earlier = k.busy q p not in record { role = has.role; serves = has.serves; looks = grind (arith, has.looks, rest q p, not) };
    no_send = k.no_send;
    no_take = k.no_take;
  }

  kept_leave : (seat : ℕ) (earlier : List RowEvent) → IsAtRest r seat earlier → Kept earlier → Kept (RowEvent.Leaves seat ∷ earlier)
  kept_leave seat earlier rest k = record {
    shut = k.shut;
    ended = k.ended;
    behind = k.behind;
    looked = λ other look is. grind (arith, k.looked other look, found_grows look.role (RowEvent.Leaves seat) earlier);
    busy = λ q p not. let has : HasFound r q p earlier = k.busy q p not in record { role = has.role; serves = has.serves; looks = grind (arith, has.looks, rest q p, not) };
    no_send = k.no_send;
    no_take = k.no_take;
  }

  kept_append : (earlier : List RowEvent) → is_shut (history_of (c (last_of earlier)) (moves_there (last_of earlier) earlier)) ≡ true → Kept earlier → Kept (RowEvent.Appends ∷ earlier)
  kept_append earlier closed k = record {
    shut = λ q less. grind (arith, closed, k.shut q);
    ended = k.ended;
    behind = λ name. omega (arith, k.behind name);
    looked = λ seat look is. omega (arith, k.looked seat look is, found_grows look.role RowEvent.Appends earlier);
    busy = λ q p not. let has : HasFound r q p earlier = k.busy q p not in record { role = has.role; serves = has.serves; looks = has.looks };
    no_send = λ q more. k.no_send q (omega (arith, more));
    no_take = k.no_take;
  }

  kept_on : (name : ℕ) (earlier : List RowEvent) → queue_of name earlier < last_of earlier → FoundEnded (c (queue_of name earlier)) (names (queue_of name earlier)) (moves_there (queue_of name earlier) earlier) name
      → Kept earlier → Kept (RowEvent.GoesOn name ∷ earlier)
  kept_on name earlier before found k = record {
    shut = k.shut;
    ended = λ other q less. grind (arith, found, k.ended other q);
    behind = λ other. grind (arith, k.behind other, before);
    looked = λ seat look is. omega (arith, k.looked seat look is, found_grows look.role (RowEvent.GoesOn name) earlier);
    busy = λ q p not. let has : HasFound r q p earlier = k.busy q p not in record { role = has.role; serves = has.serves; looks = has.looks };
    no_send = k.no_send;
    no_take = λ q g more. k.no_take q g (omega (arith, more, queue_grows (names q g) (RowEvent.GoesOn name) earlier));
  }

  kept_close : (earlier : List RowEvent) → Kept earlier → Kept (RowEvent.Closes ∷ earlier)
  kept_close earlier k = record {
    shut = k.shut;
    ended = k.ended;
    behind = k.behind;
    looked = λ seat look is. omega (arith, k.looked seat look is, found_grows look.role RowEvent.Closes earlier);
    busy = λ q p not. let has : HasFound r q p earlier = k.busy q p not in record { role = has.role; serves = has.serves; looks = has.looks };
    no_send = k.no_send;
    no_take = k.no_take;
  }

  -- ---- so the queues are used in order

  some_calls : (q : ℕ) (x : Chain) (events : List RowEvent) → Quiet (c q) x (moves_there q events) → 0 < length (calls_on x (history_of (c q) (moves_there q events))) → ⊥
  some_calls q x events quiet some = omega (arith, some, ap length quiet.none)

  in_order : (events : List RowEvent) → Kept events → UsedInOrder c names (moves_of events)
  in_order events k = record {
    senders = λ q some. grind (arith, k.shut q, some_calls (suc q) Chain.Send events, k.no_send (suc q));
    takers = λ q g inside some. grind (arith, k.ended (names (suc q) g) q, some_calls (suc q) (Chain.Take g) events, k.no_take (suc q) g);
  }

  -- whoever makes a move at a queue has found that queue
  has_found : (m : RowMove) (earlier : List RowEvent) → Runs (m ∷ moves_of earlier) → BeginsWhereFound r m.at m.move earlier → Kept earlier → HasFound r m.at (pass_of m.move) earlier × (pass_of m.move < passes (c m.at))
  has_found m earlier runs found k = by m.move (run_here m (moves_of earlier) runs m.at refl) found
    where
      by : (move : Move) → IsRun (c m.at) (move ∷ moves_there m.at earlier) → BeginsWhereFound r m.at move earlier → HasFound r m.at (pass_of move) earlier × (pass_of move < passes (c m.at))
      by (Move.Begin p call known) run found = (found, run.1.0)
      by (Move.Step p) run found = (k.busy m.at p (λ idle. run.1.1 (idle_event _ idle)), run.1.0)
      by (Move.Take p) run found = (k.busy m.at p (λ idle. idle_unfinished _ idle run.1.1), run.1.0)

  pub within : (m : RowMove) (earlier : List RowEvent) → Runs (m ∷ moves_of earlier) → BeginsWhereFound r m.at m.move earlier → Kept earlier → m.at ≤ last_of earlier
  within m earlier runs found k = by (chain_of (c m.at).config (pass_of m.move)) (is_reached m.at (pass_of m.move) earlier k (has_found m earlier runs found k).0)
    where
      by : (x : Chain) → IsReached m.at x earlier → m.at ≤ last_of earlier
      by Chain.Send near = near
      by (Chain.Take g) near = omega (arith, near, k.behind (names m.at g))

  -- what is kept, and that all moves so far were in order
  pub record Good (events : List RowEvent) : Type 0 where
    pub kept : Kept events
    pub used : (last : ℕ) → last_of events ≤ last → IsUsed c names last (moves_of events)

  pub good : (events : List RowEvent) → Runs (moves_of events) → KeepRules r events → Good events
  good [] runs rules = record { kept = kept_first; used = λ last up. tt }
  good (RowEvent.Moves m ∷ earlier) runs rules =
      let before : Good earlier = good earlier (runs_before m (moves_of earlier) runs) rules.0 in
      let now : Kept (RowEvent.Moves m ∷ earlier) = kept_move m earlier runs rules.1 (good earlier (runs_before m (moves_of earlier) runs) rules.0).kept in
      record {
        kept = now;
        used = λ last up. (before.used last up, omega (arith, up, within m earlier runs rules.1 before.kept), in_order (RowEvent.Moves m ∷ earlier) now);
      }
  good (RowEvent.Looks seat role ∷ earlier) runs rules =
      let before : Good earlier = good earlier runs rules.0 in
      record { kept = kept_look seat role earlier rules.1 before.kept; used = before.used }
  good (RowEvent.Leaves seat ∷ earlier) runs rules =
      let before : Good earlier = good earlier runs rules.0 in
      record { kept = kept_leave seat earlier rules.1 before.kept; used = before.used }
  good (RowEvent.Appends ∷ earlier) runs rules =
      let before : Good earlier = good earlier runs rules.0 in
      record { kept = kept_append earlier rules.1.1 before.kept; used = λ last up. before.used last (omega (arith, up)) }
  good (RowEvent.GoesOn name ∷ earlier) runs rules =
      let before : Good earlier = good earlier runs rules.0 in
      record { kept = kept_on name earlier rules.1.0 rules.1.1 before.kept; used = before.used }
  good (RowEvent.Closes ∷ earlier) runs rules =
      let before = good earlier runs rules.0 in record { kept = kept_close earlier before.kept; used = before.used }

  -- ---- a queue that all have left

  left_stays : (q : ℕ) (later since : List RowEvent) → IsLeft r q since → IsLeft r q (later ++ since)
  left_stays q [] since left = left
  left_stays q (e ∷ later) since left =
      let before : IsLeft r q (later ++ since) = left_stays q later since left in
      record {
        senders = omega (arith, before.senders, last_grows e (later ++ since));
        groups = λ g inside. omega (arith, before.groups g inside, queue_grows (names q g) e (later ++ since));
      }

  -- a look doesn't find the queue any more
  finds_further : (q p : ℕ) (role : Role) (earlier : List RowEvent) → ((x : ℕ) → (c x).served ≡ Served.List) → p < passes (c q) → IsLeft r q earlier → Serves (names q) (chain_of (c q).config p) role → q < found_by role earlier
  finds_further q p role earlier lists inside left serves = by (chain_of (c q).config p) role serves (chain_is (c q) p inside)
    where
      by : (x : Chain) (role : Role) → Serves (names q) x role → IsChain (c q) x → q < found_by role earlier
      by x role is there = grind (arith, left.senders, left.groups, lists q)

  abbrev found_at : Role → ℕ → Look
  found_at role q = record { role = role; queue = q }

  comes_late : (q p : ℕ) (role found : Role) (earlier : List RowEvent) → ((x : ℕ) → (c x).served ≡ Served.List) → p < passes (c q) → IsLeft r q earlier → Serves (names q) (chain_of (c q).config p) found
      → found_at role (found_by role earlier) ≡ found_at found q → ⊥
  comes_late q p role found earlier lists inside left serves same =
      omega (arith, ap (λ (z : Look). z.queue) same, finds_further q p role earlier lists inside left (subst (λ (z : Role). Serves (names q) (chain_of (c q).config p) z) (sym (ap (λ (z : Look). z.role) same)) serves))

  -- so no thread finds it that hadn't
  none_comes : (q p : ℕ) (e : RowEvent) (earlier : List RowEvent) → ((x : ℕ) → (c x).served ≡ Served.List) → p < passes (c q) → IsLeft r q earlier → (HasFound r q p earlier → ⊥) → HasFound r q p (e ∷ earlier) → ⊥
  none_comes q p (RowEvent.Looks seat role) earlier lists inside left not has =
      not record { role = has.role; serves = has.serves; looks = grind (arith, has.looks, comes_late q p role has.role earlier lists inside left has.serves) }
  none_comes q p (RowEvent.Leaves seat) earlier lists inside left not has =
      not record { role = has.role; serves = has.serves; looks = grind (arith, has.looks) }
  none_comes q p _ earlier lists inside left not has =
      not record { role = has.role; serves = has.serves; looks = has.looks }

  none_came : (q p : ℕ) (after earlier : List RowEvent) → ((x : ℕ) → (c x).served ≡ Served.List) → p < passes (c q) → IsLeft r q earlier → (HasFound r q p earlier → ⊥) → HasFound r q p (after ++ earlier) → ⊥
  none_came q p [] earlier lists inside left not = not
  none_came q p (e ∷ after) earlier lists inside left not = none_comes q p e (after ++ earlier) lists inside (left_stays q after earlier left) (none_came q p after earlier lists inside left not)

pub final_last : (events : List RowEvent) → last_of events ≤ final_of events
final_last events = by (is_closed events)
  where
    by : (b : Bool) → last_of events ≤ cond b (last_of events) (suc (last_of events))
    by b = grind arith

pub threads_make_rows : ThreadsMakeRows
threads_make_rows r events kept =
    rows_are_linearizable r.of r.names (final_of events) (moves_of events) record {
      serves = kept.serves;
      checked = kept.checked;
      apart = kept.apart;
      runs = kept.runs;
      used = (good r events kept.runs kept.rules).used (final_of events) (final_last events);
    }

pub left_queues_rest : LeftQueuesRest
left_queues_rest r q m later since kept left away here =
    let before : List RowEvent = later ++ since in
    let runs : Runs r (moves_of (later ++ since)) = runs_before r m (moves_of (later ++ since)) kept.runs in
    let found = has_found r m (later ++ since) kept.runs kept.rules.1 (good r (later ++ since) runs kept.rules.0).kept in
    let seat : ℕ = r.seats m.at (pass_of m.move) in
    let was : WasAway (r.seats m.at (pass_of m.move)) q later since = away (r.seats m.at (pass_of m.move)) in
    none_came r m.at (pass_of m.move) was.after (was.before ++ since) kept.serves found.1 (subst (λ (z : ℕ). IsLeft r z (was.before ++ since)) (sym here) (left_stays r q was.before since left))
    (λ has. was.away (record { role = has.role; queue = m.at }) has.looks here)
    (subst (λ (l : List RowEvent). HasFound r m.at (pass_of m.move) l) (ap (λ (l : List RowEvent). l ++ since) was.split ∙ append_assoc was.after was.before since) found.0)
