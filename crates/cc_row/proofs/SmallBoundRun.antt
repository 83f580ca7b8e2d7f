-- The small row of one item, by threads that keep the rules of the bound.
use Rattle.std.proofs.Common.{◌≡◌, ℕ, zero, suc, ◌<◌, List, [], ◌∷◌, Some, inl, inr, refl, sym, arith, append-nil}
use Rattle.cc_row.specs.Names.{Call, Move}
use Rattle.cc_row.specs.Runs.{RowMove}
use Rattle.cc_row.specs.SmallRun.{steps, makes, sends, takes}
use Rattle.cc_row.specs.SmallThreads.{small_row, with_moves, fills_first}
use Rattle.cc_row.specs.Threads.{Role, RowEvent, HasFound, moves_of, look_of}
use Rattle.cc_row.specs.BoundThreads.{FindsFull, HaveCome, FindsRoom, HasLooked, BeginsLetIn, KeepBound}
use Rattle.cc_row.specs.SmallBoundRun.{takes_item, at_look, sends_narrow, small_bound_run, SmallBoundRun}
use Rattle.cc_row.proofs.SmallRun.{onto, walked, runs_of, Good}
use Rattle.cc_row.proofs.SmallThreads.{Fine, one_more, looks, leaves, filled, seven}

good_run : Good (moves_of small_bound_run)
good_run = walked (onto (moves_of small_bound_run) []) [] record { first = tt; second = tt; others = λ q. refl; used = tt } refl

-- ---- the rules of threads

abbrev looks_taker : List RowEvent → List RowEvent
looks_taker earlier = RowEvent.Looks 2 (Role.Takes 0) ∷ earlier

abbrev ended : List RowEvent
ended = with_moves (takes 0 14 []) sends_narrow

abbrev went_on : List RowEvent
went_on = RowEvent.GoesOn 0 ∷ RowEvent.Leaves 2 ∷ ended

-- a thread of the receiver's role has found this queue
taker_found : (q : ℕ) (events : List RowEvent) → look_of 2 events ≡ Some (record { role = Role.Takes 0; queue = q }) → HasFound small_row q 2 events
taker_found q events is = record { role = Role.Takes 0; serves = refl; looks = is }

item_taken : Fine takes_item
item_taken = one_more 0 2 Call.Take 22 [] (looks_taker fills_first) (taker_found 0 (looks_taker fills_first) refl)
    (looks 2 (Role.Takes 0) fills_first filled)

appended : Fine (RowEvent.Appends ∷ RowEvent.Leaves 0 ∷ takes_item)
appended = record { rules = ((leaves 0 takes_item item_taken).rules, (refl, refl)); rest = (leaves 0 takes_item item_taken).rest }

looked : Fine at_look
looked = looks 0 Role.Sends (RowEvent.Appends ∷ RowEvent.Leaves 0 ∷ takes_item) appended

sent : Fine sends_narrow
sent = one_more 1 0 seven 27 [] at_look record { role = Role.Sends; serves = tt; looks = refl } looked

emptied : Fine ended
emptied = one_more 0 2 Call.Take 14 [] sends_narrow (taker_found 0 sends_narrow refl) sent

gone_on : Fine went_on
gone_on = record {
  rules = ((leaves 2 ended emptied).rules, (omega arith, record { group = 0; inside = omega arith; named = refl; ended = refl }));
  rest = (leaves 2 ended emptied).rest;
}

all_fine : Fine small_bound_run
all_fine = one_more 1 2 Call.Take 22 [] (looks_taker went_on) (taker_found 1 (looks_taker went_on) refl)
    (looks 2 (Role.Takes 0) went_on gone_on)

-- ---- the rules of the bound

abbrev Bounded : List RowEvent → Type 0
Bounded events = KeepBound small_row 1 1 events

steps_let : (q p n : ℕ) (l : List RowMove) (earlier : List RowEvent) → Bounded (with_moves l earlier)
    → Bounded (with_moves (steps q p n l) earlier)
steps_let q p zero l earlier keep = keep
steps_let q p (suc n) l earlier keep = (steps_let q p n l earlier keep, tt)

pub one_let : (q p : ℕ) (call : Call) (n : ℕ) (l : List RowMove) (earlier : List RowEvent)
    → BeginsLetIn small_row 1 1 q (Move.Begin p call 0) (with_moves l earlier) → Bounded (with_moves l earlier)
    → Bounded (with_moves (makes q p call n l) earlier)
one_let q p call n l earlier lets keep = (steps_let q p n (record { at = q; move = Move.Begin p call 0 } ∷ l) earlier (keep, lets), tt)

abbrev first_look : List RowEvent
first_look = RowEvent.Looks 0 Role.Sends ∷ []

-- all groups are at the first queue
pub come : (events : List RowEvent) → HaveCome 1 0 events
come events g inside = omega arith

first_let : Bounded fills_first
first_let =
    one_let 0 0 Call.Close 20 (sends 0 19 (sends 0 27 [])) first_look (inl (come (with_moves (sends 0 19 (sends 0 27 [])) first_look)))
    (one_let 0 0 seven 19 (sends 0 27 []) first_look (inl (come (with_moves (sends 0 27 []) first_look)))
    (one_let 0 0 seven 27 [] first_look (inl (come first_look)) tt))

finds_room : (g : ℕ) → g < 1 → FindsRoom small_row 1 1 g [] at_look
finds_room zero inside = record { after = []; between = []; split = refl; finds = omega arith }
finds_room (suc g) inside = absurd (omega (arith, inside))

has_looked : HasLooked small_row 1 1 1 at_look
has_looked = record {
  since = [];
  seen = at_look;
  split = refl;
  last = refl;
  alone = λ p on. looked.rest 1 p;
  none = tt;
  room = finds_room;
}

all_let : Bounded small_bound_run
all_let =
    one_let 1 2 Call.Take 22 [] (looks_taker went_on) tt (one_let 0 2 Call.Take 14 [] sends_narrow tt
    (one_let 1 0 seven 27 [] at_look (inr has_looked) (one_let 0 2 Call.Take 22 [] (looks_taker fills_first) tt first_let)))

finds_full : FindsFull small_row 1 1 [] fills_first
finds_full = record { queue = 0; there = omega arith; group = 0; inside = omega arith; from = 0; which = inl refl; finds = omega arith }

pub small_bound_run_is : SmallBoundRun
small_bound_run_is = record {
  has = record { some = omega arith; room = omega arith; groups_are = λ q. refl; capacity_is = λ q. refl; names_are = λ q g. refl };
  kept = record {
    serves = λ q. refl;
    checked = λ q. refl;
    apart = λ q g h in_g in_h is. is;
    runs = runs_of (moves_of small_bound_run) good_run;
    rules = all_fine.rules;
  };
  bound = all_let;
  is_narrow = λ come. omega (arith, come 0 (omega arith));
  accepts = refl;
  gets_full = λ later is. record { after = later; between = []; split = sym (append-nil later); finds = finds_full; no_close = refl };
}
