use Rattle.std.proofs.Common.{◌≡◌, ◌+◌, ◌≤◌, take}
use Rattle.cc_place.specs.Position.{column_after, line_after}
use Rattle.cc_place.proofs.place.position.after.Given as goal

abbrev pub invariant-loop-byte : goal.invariant-loop-byte
invariant-loop-byte l = record {
  line : l.line ≡ line_after (take l.byte-index l.front);
  column : l.column ≡ column_after (take l.byte-index l.front);
  few_lines : l.line ≤ l.byte-index + 1;
  few_columns : l.column ≤ l.byte-index + 1;
}
