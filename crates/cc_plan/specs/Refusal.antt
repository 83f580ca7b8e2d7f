-- Why an input is refused.
use Rattle.std.specs.Prelude.{ℕ, List, codes, length, nat_lt, if◌then◌else◌, Option, Some, None, option_and_then, Result, Ok, Err}
use Rattle.serde_json.specs.Data.{Data}
use Rattle.serde_json.specs.Find.{get}
use Rattle.cc_io.specs.Input.{input_limit}
use Rattle.cc_plan.specs.Json.{json_of}

pub data Refusal : Type 0 where
  no_json : Refusal
  wrong_shape : Refusal
  out_of_range : List ℕ → Refusal
  unknown_pass : ℕ → Refusal

infixl 10 ◌>>=◌
abbrev pub ◌>>=◌ : {A B : Type 0} → Result A Refusal → (A → Result B Refusal) → Result B Refusal
(Ok x) >>= f = f x
(Err e) >>= f = Err e

-- the value, or that the key is out of its range
abbrev pub or_range : {A : Type 0} → List ℕ → Option A → Result A Refusal
or_range key (Some x) = Ok x
or_range key None = Err (out_of_range key)

-- what is read of the tree at the key
abbrev pub value_at : {A : Type 0} → (Data → Option A) → List ℕ → Data → Result A Refusal
value_at read key d = or_range key (option_and_then read (get key d))

abbrev pub or_no_json : Option Data → Result Data Refusal
or_no_json (Some d) = Ok d
or_no_json None = Err no_json

-- the tree of an input that isn't too long
unfoldable pub tree_of : List ℕ → Result Data Refusal
tree_of bytes = if nat_lt input_limit (length bytes) then Err (out_of_range (codes "input")) else or_no_json (json_of bytes)
