-- The sequentially consistent machine: each operation is one atomic step on the words.
use Rattle.std.specs.Prelude.{ℕ, List, [], ◌∷◌}
use Rattle.cc_x86.specs.Program.{Operation, Stop, Program, State, Effect, Turn, hold, found, written}

-- the state after thread p did this
abbrev pub stepped_by : {W S : Type 0} → Program W S → State W S → ℕ → ℕ → Operation W → State W S
stepped_by c s p told does = record {
  words = written c.same s.words does;
  own = hold s.own p (c.after p (s.own p) (found s.words does told));
}

-- the state after turns, the newest first
abbrev pub reached : {W S : Type 0} → Program W S → State W S → List Turn → State W S
reached c s [] = s
reached c s (t ∷ earlier) =
    let before = reached c s earlier in stepped_by c before t.thread t.told (c.next t.thread (before.own t.thread))

-- what the turns did, the newest first
abbrev pub effects : {W S : Type 0} → Program W S → State W S → List Turn → List (Effect W)
effects c s [] = []
effects c s (t ∷ earlier) =
    let before = reached c s earlier in
    let does = c.next t.thread (before.own t.thread) in
    record { thread = t.thread; does = does; found = found before.words does t.told } ∷ effects c s earlier

-- a thread that has stopped does nothing
abbrev pub Acts : {W : Type 0} → Operation W → Type 0
Acts Stop = ⊥
Acts _ = Unit {0}

-- each turn was that of a thread that acts
abbrev pub IsRun : {W S : Type 0} → Program W S → State W S → List Turn → Type 0
IsRun c s [] = Unit {0}
IsRun c s (t ∷ earlier) = IsRun c s earlier × Acts (c.next t.thread ((reached c s earlier).own t.thread))
