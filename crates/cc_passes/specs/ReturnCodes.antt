-- The codes of all calls.
use Rattle.std.specs.Prelude.{ℕ, Bool, true, ◌&&◌, ◌==◌, not, List, [], ◌∷◌}
use Rattle.std.specs.List.{list_any}
use Rattle.cc_passes.specs.declared.return_codes.TheConstants.{DONE, BAD_SENDERS, BAD_RECEIVERS, BAD_CAPACITY, BAD_BOUND, BAD_LIFE, BAD_PER_SENDER, NO_MEMORY, BAD_HANDLES, NO_PASS, WRONG_SIDE, BUSY, NOT_BEGUN, WORN, BEGUN, WAITING, ACCEPTED, FULL, CLOSED, SPENT, SHUT, ALREADY, GOT, EMPTY, ENDED, BAD_GROUPS, BAD_WORDS, LONG, WIDE}

-- all of them, and 27, which is a code of the header alone
abbrev pub all_codes : List ℕ
all_codes =
    DONE ∷ BAD_SENDERS ∷ BAD_RECEIVERS ∷ BAD_CAPACITY ∷ BAD_BOUND ∷ BAD_LIFE ∷ BAD_PER_SENDER ∷ NO_MEMORY ∷ BAD_HANDLES ∷ NO_PASS ∷ WRONG_SIDE ∷ BUSY ∷ NOT_BEGUN ∷ WORN ∷ BEGUN ∷ WAITING
    ∷ ACCEPTED ∷ FULL ∷ CLOSED ∷ SPENT ∷ SHUT ∷ ALREADY ∷ GOT ∷ EMPTY ∷ ENDED ∷ BAD_GROUPS ∷ 27 ∷ BAD_WORDS ∷ LONG ∷ WIDE ∷ []

-- no number occurs twice
abbrev pub are_apart : List ℕ → Bool
are_apart [] = true
are_apart (n ∷ ns) = not (list_any (λ m. m == n) ns) && are_apart ns
