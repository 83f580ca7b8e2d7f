-- The slots of a table: past the configuration, and on different lines if different threads write.
use Rattle.std.proofs.Common.{◌≡◌, ℕ, ◌+◌, ◌*◌, ◌<◌, ◌≤◌, Bool, true, ◌&&◌, nat_lt, IsTrue, refl, sym, ap, ◌∙◌, arith}
use Rattle.std.proofs.lemmas.Bool.{and_parts}
use Rattle.cc_steps.specs.Names.{Chain, Object, Word}
use Rattle.cc_runs.specs.Words.{Layout, IsRoomy, exists, is_node_field, is_item_field}
use Rattle.cc_runs.proofs.Words.{one_to_one, field_small, part_small}
use Rattle.cc_steps.specs.Slots.{spread, slot, first_beside, LinesApart}

pub spread_roomy : IsRoomy spread
spread_roomy = omega arith

-- the first eight words are no machine's
pub past_config : (l : Layout) (w : Word) → 8 ≤ slot l w
past_config l w = grind arith

-- a word is on the line that the first one next to it begins
record OnLine (l : Layout) (w : Word) : Type 0 where
  line : ℕ
  begins : slot l (first_beside w) ≡ 8 * line
  low : 8 * line ≤ slot l w
  high : slot l w < 8 * line + 8

on_line : (l : Layout) (w : Word) → IsTrue (exists l w) → OnLine l w
on_line l (Word.Tail Chain.Send) a = record { line = 2; begins = refl; low = omega arith; high = omega arith }
on_line l (Word.Tail (Chain.Take g)) a = record { line = 6 + 4 * g; begins = omega arith; low = omega arith; high = omega arith }
on_line l (Word.Object (Object.Head g)) a = record { line = 8 + 4 * g; begins = omega arith; low = omega arith; high = omega arith }
on_line l (Word.Object (Object.Taken g)) a = record { line = 8 + 4 * g; begins = omega arith; low = omega arith; high = omega arith }
on_line l (Word.Node Chain.Send i f) a =
    let few = field_small Chain.Send f (and_parts (nat_lt i (l.senders + 1)) (is_node_field f) a).1 in
    record { line = 6 + 4 * l.groups + 2 * i; begins = omega arith; low = omega arith; high = omega (arith, few) }
on_line l (Word.Node (Chain.Take g) i f) a =
    let few = field_small (Chain.Take g) f (and_parts (nat_lt g l.groups && nat_lt i (l.receivers + 1)) (is_node_field f) a).1 in
    record { line = 6 + 4 * l.groups + 2 * (l.senders + 1) + 2 * (g * (l.receivers + 1)) + 2 * i; begins = omega arith; low = omega arith; high = omega (arith, few) }
on_line l (Word.Item i f) a =
    let few = part_small f (and_parts (nat_lt i (l.capacity + 2)) (is_item_field f) a).1 in
    record { line = 6 + 4 * l.groups + 2 * (l.senders + 1) + 2 * (l.groups * (l.receivers + 1)) + i; begins = omega arith; low = omega arith; high = omega (arith, few) }
on_line l (Word.Object _) a = record { line = 4; begins = refl; low = omega arith; high = omega arith }

-- and that one is there too
there : (a b : Bool) → a && b ≡ true → a && true ≡ true
there a b e = grind arith

exists_beside : (l : Layout) (w : Word) → IsTrue (exists l w) → IsTrue (exists l (first_beside w))
exists_beside l w a = grind (arith, there, nat_lt, is_node_field, l.groups, is_item_field)

pub lines_apart : LinesApart
lines_apart l v w a b same =
    let x = on_line l v a in
    let y = on_line l w b in
    let line : x.line ≡ y.line = omega (arith, same, x.low, x.high, y.low, y.high) in
    one_to_one spread spread_roomy l (first_beside v) (first_beside w) (exists_beside l v a) (exists_beside l w b) (x.begins ∙ ap (λ (n : ℕ). 8 * n) line ∙ sym y.begins)
