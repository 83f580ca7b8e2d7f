-- The state after the stores of an opening.
use Rattle.std.proofs.Common.{if◌then◌else◌, ◌==◌, ◌≡◌, ℕ, ◌+◌, ◌<◌, nat_lt, arith}
use Rattle.cc_runs.specs.Names.{Config, Chain, ItemField, Object, Word}
use Rattle.cc_runs.specs.Words.{groups, put}
use Rattle.cc_runs.specs.Run.{first_word}

-- the words after the passed counts of ordinary nodes below n were set
abbrev pub freed : Config → ℕ → Word → ℕ
freed c n (Word.Item i ItemField.Passed) = if i == 0 then 0 else if nat_lt i n then groups c else 0
freed c n w = first_word c w

pub freed_all : (c : Config) → freed c (c.capacity + 1) ≡ first_word c
freed_all c = λ i w. at w i
  where
    at : (w : Word) → freed c (c.capacity + 1) w ≡ first_word c w
    at w = grind arith

pub freed_more : (c : Config) (n : ℕ) → 0 < n → put (freed c n) (Word.Item n ItemField.Passed) (groups c) ≡ freed c (n + 1)
freed_more c n some = λ i w. at w i
  where
    at : (w : Word) → put (freed c n) (Word.Item n ItemField.Passed) (groups c) w ≡ freed c (n + 1) w
    at w = grind arith

-- the words after the first stores and those of the first n groups
abbrev pub opened : Config → ℕ → Word → ℕ
opened c n (Word.Tail Chain.Send) = 1
opened c n (Word.Tail (Chain.Take g)) = if nat_lt g n then 1 else 0
opened c n (Word.Object Object.Last) = 1
opened c n (Word.Object Object.Cursor) = 1
opened c n (Word.Object (Object.Head g)) = if nat_lt g n then 1 else 0
opened c n _ = 0

abbrev pub first_stores : (Word → ℕ) → Word → ℕ
first_stores m = put (put (put m (Word.Tail Chain.Send) 1) (Word.Object Object.Last) 1) (Word.Object Object.Cursor) 1

pub started : (c : Config) (m : Word → ℕ) → ((w : Word) → m w ≡ 0) → first_stores m ≡ opened c 0
started c m none = λ i w. at w i
  where
    at : (w : Word) → first_stores m w ≡ opened c 0 w
    at w = grind (arith, none w)

pub group_more : (c : Config) (n : ℕ) → put (put (opened c n) (Word.Tail (Chain.Take n)) 1) (Word.Object (Object.Head n)) 1 ≡ opened c (n + 1)
group_more c n = λ i w. at w i
  where
    at : (w : Word) → put (put (opened c n) (Word.Tail (Chain.Take n)) 1) (Word.Object (Object.Head n)) 1 w ≡ opened c (n + 1) w
    at w = grind arith

pub groups_all : (c : Config) → opened c (groups c) ≡ freed c 1
groups_all c = λ i w. at w i
  where
    at : (w : Word) → opened c (groups c) w ≡ freed c 1 w
    at w = grind arith
