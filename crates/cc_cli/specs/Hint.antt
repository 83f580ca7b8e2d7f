-- The lines for a person at a terminal, beside the answer: the input that a task waits for, and that a page is for a browser; and
-- the tasks whose refusals have a line with their place.
use Rattle.std.specs.Prelude.{ℕ, Bool, true, false, List, [], codes}
use Rattle.cc_cli.specs.Names.{Task}

-- it reads a plan or receipts, and the place is reported at which they are refused
abbrev pub is_explained : Task → Bool
is_explained Task.Play = true
is_explained Task.Audit = true
is_explained (Task.Show form) = true
is_explained task = false

-- the line of a task that waits for its input
abbrev pub waits_line : Task → List ℕ
waits_line Task.Play = codes "ccq: waiting for a plan on standard input; Ctrl-D ends it\n"
waits_line Task.Audit = codes "ccq: waiting for receipts on standard input; Ctrl-D ends them\n"
waits_line (Task.Judge options) = codes "ccq: waiting for a log on standard input; Ctrl-D ends it\n"
waits_line (Task.Show form) = codes "ccq: waiting for a plan on standard input; Ctrl-D ends it\n"
waits_line (Task.Drive config) = []

-- the line of a page that would go to a terminal
abbrev pub page_line : List ℕ
page_line = codes "error: a page is for a browser, and standard output is a terminal: add `> page.html`\n"
