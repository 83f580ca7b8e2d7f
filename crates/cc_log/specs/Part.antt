-- A log that is a part: what is asked of its verdict.
use Rattle.std.specs.Prelude.{◌≡◌, List, ◌++◌, length, true}
use Rattle.cc_judge.specs.declared.decide.Fault.{Fault}
use Rattle.cc_judge.specs.declared.decide.Verdict.{Verdict}
use Rattle.cc_judge.specs.declared.log.Call.{Call}
use Rattle.cc_judge.specs.declared.log.Rules.{Rules}
use Rattle.cc_judge.specs.Faults.{Differ}
use Rattle.cc_judge.specs.Late.{AreOfPart, IsSound, Weaker}
use Rattle.cc_judge.specs.Order.{IsLinearizable}
use Rattle.cc_judge.specs.Verdict.{IsVerdict}
use Rattle.cc_log.specs.Log.{Known, bodies_of, calls_of, is_part, spelled}
use Rattle.cc_log.specs.Names.{Options}

-- The law: no correct queue is accused for what a part lacks. `calls` are those that the lines of the part describe, as they were; the
-- part may say less of them. The `lacked` calls are in no line, whenever they began and ended. If all of them together have a legal
-- order, no right verdict on the part is a fault.
abbrev pub PartsHaveNoFault : Type 0
PartsHaveNoFault = (options : Options) (known : Known) (whole rules : Rules) (calls lacked : List Call) → is_part known ≡ true
    → Weaker calls (calls_of options.skew known.before) → IsSound (calls_of options.skew known.before) (length (bodies_of known.before))
    → AreOfPart whole rules (calls_of options.skew known.before) → rules.closes ≡ known.closes → Differ (calls ++ lacked)
    → IsLinearizable whole (calls ++ lacked) → (fault : Fault) → IsVerdict rules (spelled options known).calls (Verdict.Fault fault) → ⊥
