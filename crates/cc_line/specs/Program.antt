-- The command that the words are read by, as far as clap reads it: the program, its tasks, and their options.
use Rattle.std.specs.Prelude.{ℕ, pos, ◌-◌, ◌^◌, true, [], ◌∷◌, codes, Some}
use Rattle.clap.specs.Words.{App, Rule, Shape, Text, new_app, new_rule, with_rule, with_subcommand}
use Rattle.clap.specs.Simple.{new_shape}
use Rattle.clap.specs.declared.builder.action.ArgAction.{ArgAction}
use Rattle.clap.specs.declared.builder.value_parser.ValueParser.{ValueParser}

-- ---- options

-- the file of a task's input
abbrev pub file : Rule
file = record (new_rule (codes "file")) { value_names = 1 }

-- an option without a value
abbrev pub flag : (name : Text) → Rule
flag name = record (new_rule name) { long = Some name; action = Some ArgAction.SetTrue }

-- an option with a number of this range
abbrev pub option : (name : Text) → ValueParser → Rule
option name range = record (new_rule name) { long = Some name; action = Some ArgAction.Set; parser = Some range; value_names = 1 }

-- the same with a default
abbrev pub by_default : (default name : Text) → ValueParser → Rule
by_default default name range = record (option name range) { defaults = default ∷ [] }

-- numbers of 32 bits, and of 64
abbrev pub small : (low high : ℕ) → ValueParser
small low high = ValueParser.Signed (pos low) (pos high)

abbrev pub large : (low high : ℕ) → ValueParser
large low high = ValueParser.Unsigned low high

-- ---- tasks

abbrev pub play : Shape
play = (with_rule (new_app (codes "play")) file).top

abbrev pub audit : Shape
audit = (with_rule (new_app (codes "audit")) file).top

abbrev pub show : Shape
show = (with_rule (with_rule (new_app (codes "show")) (flag (codes "trace"))) file).top

-- two flags of `judge`, with them its third and its capacity, with these its skew and the begin of what is judged, and with these all
abbrev pub with_flags : App
with_flags = with_rule (with_rule (new_app (codes "judge")) (flag (codes "follow"))) (flag (codes "page"))

abbrev pub with_capacity : App
with_capacity = with_rule (with_rule with_flags (flag (codes "times"))) (option (codes "capacity") (small 1 (2 ^ 32 - 1)))

abbrev pub with_clocks : App
with_clocks = with_rule (with_rule with_capacity
    (by_default (codes "0") (codes "skew") (large 0 (2 ^ 64 - 1))))
    (option (codes "from") (large 0 (2 ^ 64 - 1)))

abbrev pub judge : Shape
judge = (with_rule (with_rule with_clocks (option (codes "until") (large 0 (2 ^ 64 - 1)))) file).top

-- the threads of `drive`, with them its items, and with these all
abbrev pub with_threads : App
with_threads = with_rule (with_rule (new_app (codes "drive"))
    (by_default (codes "4") (codes "senders") (small 1 63)))
    (by_default (codes "4") (codes "receivers") (small 1 64))

abbrev pub with_items : App
with_items = with_rule with_threads (by_default (codes "1000") (codes "items") (large 0 1000000))

abbrev pub drive : Shape
drive = (with_rule (with_rule with_items
    (by_default (codes "64") (codes "capacity") (small 1 4096)))
    (by_default (codes "8") (codes "bound") (small 1 1024))).top

-- ---- the program

abbrev pub bare_program : App
bare_program = record (new_app (codes "ccq")) {
  top = record (new_shape (codes "ccq")) { has_version = true; arg_required_else_help = true; subcommand_required = true; no_binary_name = true };
}

abbrev pub with_inputs : App
with_inputs = with_subcommand (with_subcommand (with_subcommand bare_program play) audit) judge

abbrev pub program : App
program = with_subcommand (with_subcommand with_inputs show) drive
