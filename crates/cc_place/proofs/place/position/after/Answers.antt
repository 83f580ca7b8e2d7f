use Rattle.std.proofs.Common.{◌≤◌, ◌+◌, get_or, sym, subst, arith}
use Rattle.cc_place.specs.Position.{begins_character, is_line_feed}
use Rattle.cc_place.proofs.Positions.{column_few, column_more, line_more, one_few}
use Rattle.cc_place.proofs.place.position.after.Goals as goal

pub loop-byte-preserved : goal.loop-byte-preserved
loop-byte-preserved c =
    let front = c.args.front.now in
    let i = c.loop-byte.byte-index in
    let byte = get_or front i 0 in
    let line = line_more front i 0 (omega arith) in
    let column = column_more front i 0 (omega arith) in
    record {
      line = cc;
      column = cc;
      few_lines = omega (arith, c.next_line-line.ensures, one_few (is_line_feed byte));
      few_columns = subst (λ n. n ≤ i + 1 + 1) (sym c.next_column-column.ensures) (column_few (is_line_feed byte) (begins_character byte) _ _ c.loop-byte.invariant.few_columns);
    }
