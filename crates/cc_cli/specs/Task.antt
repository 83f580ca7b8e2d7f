-- The tasks whose answer is a page.
use Rattle.std.specs.Prelude.{Bool, true, false}
use Rattle.cc_cli.specs.Names.{Form, Task}

abbrev pub writes_page : Task → Bool
writes_page (Task.Show Form.Page) = true
writes_page (Task.Judge options) = options.page
writes_page task = false
