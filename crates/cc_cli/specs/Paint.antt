-- The colours of a text at a terminal: marks before and behind its head. The text goes to one sink and the marks to another.
use Rattle.std.specs.Prelude.{ℕ, ◌==◌, ◌&&◌, ◌||◌, ◌++◌, Bool, true, false, not, List, [], ◌∷◌, codes, if◌then◌else◌, Option, Some, None}
use Rattle.std.specs.List.{starts_with}
use Rattle.std.specs.Str.{bytes_eq}
use Rattle.std.specs.Io.KnownBytes.{Appends, Keeps}
use Rattle.cc_model.specs.Items.{IsPrefix}
use Rattle.cc_cli.specs.Names.{Head, Mark, Painter, Task}

-- a terminal of this kind has colours, and the value of NO_COLOR doesn't forbid them; both are empty if they aren't set
abbrev pub wants_colours : (term no_color : List ℕ) → Bool
wants_colours term no_color = not (bytes_eq term [] || bytes_eq term (codes "dumb")) && bytes_eq no_color []

-- a task that answers by the verdict on a log
abbrev pub is_painted : Task → Bool
is_painted (Task.Judge options) = true
is_painted task = false

-- the text begins with these bytes
abbrev pub begins : (text bytes : List ℕ) → Bool
begins text bytes = starts_with (λ a b. a == b) text bytes

-- a head of this length
abbrev pub head_at : ℕ → Mark → Option Head
head_at length mark = Some (record { length = length; mark = mark })

-- the head of a text: the name of a fault or of a good verdict
abbrev pub head_of : List ℕ → Option Head
head_of text = if begins text (codes "error: ") then head_at 5 Mark.Fault
    else (if begins text (codes "ccq: ") then head_at 3 Mark.Fault
    else (if begins text (codes "judge fault: ") then head_at 11 Mark.Fault
    else (if begins text (codes "judge clean: ") then head_at 11 Mark.Good else None)))

-- the bytes that begin a mark
abbrev pub mark_text : Mark → List ℕ
mark_text Mark.Fault = 27 ∷ codes "[1;31m"
mark_text Mark.Good = 27 ∷ codes "[1;32m"

-- the bytes that end each mark
abbrev pub end_text : List ℕ
end_text = 27 ∷ codes "[0m"

-- the sink of the text, and that of the marks
abbrev pub text_of : {T M : Type 0} → Painter T M → T
text_of p = p.text

abbrev pub marks_of : {T M : Type 0} → Painter T M → M
marks_of p = p.marks

-- the next text is painted, if it has a head
abbrev pub is_due : {T M : Type 0} → Painter T M → Bool
is_due p = p.is_due

-- the head that a painter has to mark in a text
abbrev pub due_head : Bool → List ℕ → Option Head
due_head due text = if due then head_of text else None

-- Both marks of a head went out, each as far as that didn't fail. No byte did if there is no head.
abbrev pub Marks : Option Head → (old new : Option (List ℕ)) → Type 0
Marks None old new = Keeps old new
Marks (Some head) old new = (front back : List ℕ) × IsPrefix front (mark_text head.mark) × IsPrefix back end_text × Appends old new (front ++ back)
