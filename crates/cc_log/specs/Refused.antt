-- Refused claims: for each kind of mistake a small case, and a claim about it that doesn't hold.
use Rattle.std.specs.Prelude.{◌≡◌, ℕ, List, [], ◌∷◌, codes, false, None, Some, Ok}
use Rattle.cc_judge.specs.Faults.{Did}
use Rattle.cc_log.specs.Names.{Act, Call, Ending, Followed, Last, Options, Said, Tie, Verdict, Window}
use Rattle.cc_log.specs.Follow.{IsFollowed}
use Rattle.cc_log.specs.Form.{members_in}
use Rattle.cc_log.specs.Line.{Body, end_from}
use Rattle.cc_log.specs.Written.{IsWellFormed}
use Rattle.cc_log.specs.Log.{Entry, at_first, is_early, item_of, not_ended, tie_with, with_close, with_cut}

-- a claim that doesn't hold
abbrev pub Refused : Type 0 → Type 0
Refused claim = claim → ⊥

-- the body of this word
abbrev pub word : ℕ → Body
word n = (1, n, 0, 0, 0)

-- the call that is the first of a log, and ended at 5
abbrev pub until_five : Last
until_five = record { begin = 2; end = Some 5; place = 0 }

pub record RefusedClaims : Type 0 where
  -- a call ends before it begins
  pub end_before_begin : Refused (end_from 2 (Some 1) ≡ Ok (Some 1))
  -- a body that is there has a new number
  pub item_numbered_anew : Refused (item_of (word 7 ∷ []) (word 7) ≡ 1)
  -- an object with a key twice has one member: {"a":1,"a":2}
  pub key_twice : Refused (members_in (codes "{\"a\":1,\"a\":2}") ≡ 1)
  -- a colon in a text is that of a member: {"a":":\":"}
  pub colon_in_a_text : Refused (members_in (codes "{\"a\":\":\\\":\"}") ≡ 2)
  -- two calls that touch have no tie
  pub tie_lost : Refused (tie_with 0 1 5 (Some until_five) ≡ [])
  -- two calls that may touch by the skew have none
  pub skewed_tie_lost : Refused (tie_with 3 1 9 (Some until_five) ≡ [])
  -- a log that ends early has all calls
  pub early_is_whole : Refused (is_early (Some Ending.Early) ≡ false)
  -- a line may come after the one that says how the log ends
  pub goes_on_after_end : Refused (not_ended 3 (Some Ending.Whole) ≡ Ok tt)
  -- a close that isn't in the part of the log that is judged says nothing
  pub close_outside_lost : (window : Window) (e : Entry) → Refused (with_cut (with_close (at_first window) Said.Close) e None ≡ Ok (at_first window))
  -- a log that was followed is clean, though its one line is none of a log
  pub clean_unread : (options : Options) (f : Followed) → f.verdict ≡ Verdict.Clean → Refused (IsFollowed options (codes "[" ∷ []) f)
  -- a log with a send has no items
  pub items_lost : (calls : List Call) (ties : List Tie) (place item : ℕ) → Did calls place (Act.Send item) → Refused (IsWellFormed 0 calls 0 ties)
