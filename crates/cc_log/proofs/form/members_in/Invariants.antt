use Rattle.std.proofs.Common.{◌≡◌, take}
use Rattle.cc_log.specs.Form.{scan_in}
use Rattle.cc_log.proofs.form.members_in.Given as goal

abbrev pub invariant-loop-byte : goal.invariant-loop-byte
invariant-loop-byte l = l.scan ≡ scan_in (take l.byte-index l.text)
