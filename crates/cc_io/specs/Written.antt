-- Texts that go out to a sink, piece by piece.
use Rattle.std.specs.Prelude.{ℕ, ◌≡◌, ◌+◌, ◌++◌, Bool, true, false, List, Option, decimal}
use Rattle.std.specs.Io.KnownBytes.{Keeps, Appends}
use Rattle.cc_model.specs.Items.{IsPrefix}

-- all of the text was appended; or a prefix of it was, and one write failed
abbrev pub Writes : (failed : Bool) → Option (List ℕ) → Option (List ℕ) → ℕ → ℕ → List ℕ → Type 0
Writes false old new before after text = Appends old new text × (after ≡ before)
Writes true old new before after text = (front : List ℕ) × IsPrefix front text × Appends old new front × (after ≡ before + 1)

-- what a pen holds back, and whether a write of it failed
pub record Ink : Type 0 where
  pub held : List ℕ
  pub failed : Bool

-- a pen over a sink: what the sink has, and how often its writes failed
pub record Desk : Type 0 where
  pub ink : Ink
  pub written : Option (List ℕ)
  pub failures : ℕ

abbrev pub desk : Ink → Option (List ℕ) → ℕ → Desk
desk ink written failures = record { ink = ink; written = written; failures = failures }

-- After a failed write nothing goes out. Else the text goes after what was held: a part goes out and the rest is held; or a
-- write fails, and a prefix of it all is out.
abbrev pub GoesOn : (had_failed failed : Bool) → (had held : List ℕ) → Option (List ℕ) → Option (List ℕ) → ℕ → ℕ → List ℕ → Type 0
GoesOn true failed had held old new before after text = (failed ≡ true) × Keeps old new × (after ≡ before)
GoesOn false false had held old new before after text = (out : List ℕ) × (had ++ text ≡ out ++ held) × Appends old new out × (after ≡ before)
GoesOn false true had held old new before after text = (front : List ℕ) × IsPrefix front (had ++ text) × Appends old new front × (after ≡ before + 1)

-- the text was written by the pen
pub record Pens (old new : Desk) (text : List ℕ) : Type 0 where
  pub goes : GoesOn old.ink.failed new.ink.failed old.ink.held new.ink.held old.written new.written old.failures new.failures text

-- some text, and then a number in decimal
abbrev pub word_text : List ℕ → ℕ → List ℕ
word_text bytes n = bytes ++ decimal n
