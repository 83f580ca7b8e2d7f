-- A value moves out of a struct that owns more than its fields.
use denote.Exit.{Exit, unchanged, leaves, hidden, under}
use denote.Param.Send.{Quiet}

pub quiet : {D X : Type 0} (to : D → X) (e : Exit X) → Quiet e → Quiet (hidden (under to e))
quiet to unchanged q = λ x w. tt
quiet to (leaves L l S s r₀) q = λ d. q (to d)
