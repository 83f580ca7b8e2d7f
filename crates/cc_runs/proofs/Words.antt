-- Two words that there are lie in two places of a row, so a store changes the word of its name alone.
use Rattle.std.proofs.Common.{◌≡◌, ◌≢◌, ◌⊎◌, ℕ, zero, suc, ◌+◌, ◌*◌, ◌<◌, ◌≤◌, Bool, true, false, ◌&&◌, nat_lt, List, length, slice_index_or, slice_set, IsTrue, cond, refl, ap, sym, ◌∙◌, subst, arith, ⊎_elim, inl, inr, if◌then◌else◌}
use Rattle.std.proofs.Math.Nat.{mul-le-mul_left}
use Rattle.std.proofs.lemmas.Bool.{cases_lt, cases_Bool, false≢true, and_parts}
use Rattle.std.proofs.lemmas.List.{get_or-set_same, get_or-set_other}
use Rattle.cc_runs.specs.Names.{Chain, NodeField, ItemField, Object, Word}
use Rattle.cc_runs.specs.Words.{Layout, Spacing, IsRoomy, dense, node_field, item_field, is_node_field, is_item_field, same_field, same_part, lies, exists, same, same_chain, object_number, word_in_row, put, OneToOne, send_nodes, take_nodes, items, row_size}

-- two fields that there are have two places
field_same : (x : Chain) (f g : NodeField) → IsTrue (is_node_field f) → IsTrue (is_node_field g) → node_field x f ≡ node_field x g → f ≡ g
field_same x f g a b e = grind arith

pub field_small : (x : Chain) (f : NodeField) → IsTrue (is_node_field f) → node_field x f < 8
field_small x f a = grind arith

-- the order of the fields is one for all groups
field_fixed : (g h : ℕ) (f : NodeField) → node_field (Chain.Take g) f ≡ node_field (Chain.Take h) f
field_fixed g h f = grind arith

part_same : (f g : ItemField) → IsTrue (is_item_field f) → IsTrue (is_item_field g) → item_field f ≡ item_field g → f ≡ g
part_same f g a b e = grind arith

pub part_small : (f : ItemField) → IsTrue (is_item_field f) → item_field f < 7
part_small f a = grind arith

-- a later one of a kind begins after an earlier one's end
steps_apart : (n i count : ℕ) → i < count → n * i + n ≤ n * count
steps_apart n i count less = grind arith

steps_order : (n i j : ℕ) → ((i ≡ j) × (n * i ≡ n * j)) ⊎ ((n * i + n ≤ n * j) ⊎ (n * j + n ≤ n * i))
steps_order n i j = ⊎_elim (λ (lt : i < j). inr (inl (steps_apart n i j lt))) (λ (le : j ≤ i). ⊎_elim (λ (lt : j < i). inr (inr (steps_apart n j i lt))) (λ (ge : i ≤ j). let same : i ≡ j = omega (arith, le, ge) in inl (same, ap (λ (z : ℕ). n * z) same)) (cases_lt j i)) (cases_lt i j)

-- and the nodes of a later group after those of an earlier one
scaled : (n x y z : ℕ) → x + y ≤ z → n * x + n * y ≤ n * z
scaled n x y z le = let whole : n * (x + y) ≤ n * z = mul-le-mul_left n le in let parts : n * (x + y) ≡ n * x + n * y = omega arith in omega (arith, whole, parts)

groups_apart : (n m g h : ℕ) → g < h → n * (g * m) + n * m ≤ n * (h * m)
groups_apart n m g h lt = scaled n (g * m) m (h * m) (grind arith)

groups_order : (n m g h : ℕ) → (g ≡ h) ⊎ ((n * (g * m) + n * m ≤ n * (h * m)) ⊎ (n * (h * m) + n * m ≤ n * (g * m)))
groups_order n m g h = ⊎_elim (λ (lt : g < h). inr (inl (groups_apart n m g h lt))) (λ (le : h ≤ g). ⊎_elim (λ (lt : h < g). inr (inr (groups_apart n m h g lt))) (λ (ge : g ≤ h). inl (omega (arith, le, ge))) (cases_lt h g)) (cases_lt g h)

-- the numbers of a word that there is
abbrev Within : Spacing → Layout → Word → Type 0
Within k l (Word.Tail Chain.Send) = 0 < 1
Within k l (Word.Tail (Chain.Take g)) = k.end_step * g + k.end_step ≤ k.end_step * l.groups
Within k l (Word.Object (Object.Head g)) = k.end_step * g + k.end_step ≤ k.end_step * l.groups
Within k l (Word.Object (Object.Taken g)) = k.end_step * g + k.end_step ≤ k.end_step * l.groups
Within k l (Word.Object _) = 0 < 1
Within k l (Word.Node Chain.Send i f) = (k.node_step * i + k.node_step ≤ k.node_step * (l.senders + 1)) × (node_field Chain.Send f < 8)
Within k l (Word.Node (Chain.Take g) i f) = (k.node_step * i + k.node_step ≤ k.node_step * (l.receivers + 1)) × (node_field (Chain.Take g) f < 8) × (k.node_step * (g * (l.receivers + 1)) + k.node_step * (l.receivers + 1) ≤ k.node_step * (l.groups * (l.receivers + 1)))
Within k l (Word.Item i f) = (k.item_step * i + k.item_step ≤ k.item_step * (l.capacity + 2)) × (item_field f < 7)

within : (k : Spacing) (l : Layout) (w : Word) → IsTrue (exists l w) → Within k l w
within k l (Word.Tail (Chain.Take g)) a = steps_apart k.end_step g l.groups (grind arith)
within k l (Word.Object (Object.Head g)) a = steps_apart k.end_step g l.groups (grind arith)
within k l (Word.Object (Object.Taken g)) a = steps_apart k.end_step g l.groups (grind arith)
within k l (Word.Node Chain.Send i f) a =
    let t = and_parts (nat_lt i (l.senders + 1)) (is_node_field f) a in
    (steps_apart k.node_step i (l.senders + 1) (grind (arith, t.0)), field_small Chain.Send f t.1)
within k l (Word.Node (Chain.Take g) i f) a =
    let t = and_parts (nat_lt g l.groups && nat_lt i (l.receivers + 1)) (is_node_field f) a in
    let u = and_parts (nat_lt g l.groups) (nat_lt i (l.receivers + 1)) t.0 in
    (steps_apart k.node_step i (l.receivers + 1) (grind (arith, u.1)), field_small (Chain.Take g) f t.1, groups_apart k.node_step (l.receivers + 1) g l.groups (grind (arith, u.0)))
within k l (Word.Item i f) a =
    let t = and_parts (nat_lt i (l.capacity + 2)) (is_item_field f) a in
    (steps_apart k.item_step i (l.capacity + 2) (grind (arith, t.0)), part_small f t.1)
within k l _ a = omega arith

-- the group whose word it is
abbrev group_of : Object → ℕ
group_of (Object.Head g) = g
group_of (Object.Taken g) = g
group_of _ = 0

-- the words of the object lie between the senders' tail and the nodes, and aren't a group's tail
object_low : (k : Spacing) → IsRoomy k → (l : Layout) (a : Object) → IsTrue (exists l (Word.Object a)) → (k.objects ≤ lies k l (Word.Object a)) × (lies k l (Word.Object a) < k.ends + k.end_step * l.groups)
object_low k r l (Object.Head g) e = let m = within k l (Word.Object (Object.Head g)) e in (omega (arith, r), omega (arith, m, r))
object_low k r l (Object.Taken g) e = let m = within k l (Word.Object (Object.Taken g)) e in (omega (arith, r), omega (arith, m, r))
object_low k r l _ e = (omega arith, omega (arith, r))

object_tail : (k : Spacing) → IsRoomy k → (l : Layout) (a : Object) (g : ℕ) → lies k l (Word.Object a) ≢ k.ends + k.end_step * g
object_tail k r l (Object.Head h) g e = omega (arith, e, r, steps_order k.end_step h g)
object_tail k r l (Object.Taken h) g e = omega (arith, e, r, steps_order k.end_step h g)
object_tail k r l _ g e = omega (arith, e, r)

-- the kinds of words, in the order of their places
abbrev rank : Word → ℕ
rank (Word.Tail Chain.Send) = 0
rank (Word.Node Chain.Send i f) = 2
rank (Word.Node (Chain.Take g) i f) = 3
rank (Word.Item i f) = 4
rank _ = 1

-- where the words of a kind begin
abbrev first : Spacing → Layout → ℕ → ℕ
first k l zero = 0
first k l (suc zero) = k.objects
first k l (suc (suc zero)) = send_nodes k l
first k l (suc (suc (suc zero))) = take_nodes k l 0
first k l (suc (suc (suc (suc zero)))) = items k l
first k l _ = row_size k l

between : (k : Spacing) → IsRoomy k → (l : Layout) (w : Word) → IsTrue (exists l w) → (first k l (rank w) ≤ lies k l w) × (lies k l w < first k l (suc (rank w)))
between k r l w e = grind (arith, object_low k r l, within k l, within k l w e)

objects_same : (k : Spacing) → IsRoomy k → (l : Layout) (c d : Object) → lies k l (Word.Object c) ≡ lies k l (Word.Object d) → c ≡ d
objects_same k r l c d e = grind (arith, steps_order k.end_step (group_of c) (group_of d))

-- so there is in a dense row
pub roomy : IsRoomy dense
roomy = omega arith

pub one_to_one : OneToOne
one_to_one k r l (Word.Tail Chain.Send) (Word.Tail Chain.Send) a b e = refl
one_to_one k r l (Word.Tail (Chain.Take g)) (Word.Tail (Chain.Take h)) a b e = ap (λ (z : ℕ). Word.Tail (Chain.Take z)) (omega (arith, e, r, steps_order k.end_step g h))
one_to_one k r l (Word.Tail (Chain.Take g)) (Word.Object d) a b e = absurd (object_tail k r l d g (sym e))
one_to_one k r l (Word.Object c) (Word.Tail (Chain.Take h)) a b e = absurd (object_tail k r l c h e)
one_to_one k r l (Word.Object c) (Word.Object d) a b e = ap (λ (z : Object). Word.Object z) (objects_same k r l c d e)
one_to_one k r l (Word.Node Chain.Send i f) (Word.Node Chain.Send j g) a b e =
    let m = within k l (Word.Node Chain.Send i f) a in
    let n = within k l (Word.Node Chain.Send j g) b in
    let index : i ≡ j = omega (arith, m, n, e, r, steps_order k.node_step i j) in
    let start : k.node_step * i ≡ k.node_step * j = ap (λ (z : ℕ). k.node_step * z) index in
    let field : node_field Chain.Send f ≡ node_field Chain.Send g = omega (arith, e, start) in
    λ q. Word.Node Chain.Send (index q) (field_same Chain.Send f g (and_parts (nat_lt i (l.senders + 1)) (is_node_field f) a).1 (and_parts (nat_lt j (l.senders + 1)) (is_node_field g) b).1 field q)
one_to_one k r l (Word.Node (Chain.Take c) i f) (Word.Node (Chain.Take d) j g) a b e =
    let m = within k l (Word.Node (Chain.Take c) i f) a in
    let n = within k l (Word.Node (Chain.Take d) j g) b in
    let group : c ≡ d = omega (arith, m, n, e, r, groups_order k.node_step (l.receivers + 1) c d) in
    let before : k.node_step * (c * (l.receivers + 1)) ≡ k.node_step * (d * (l.receivers + 1)) = ap (λ (z : ℕ). k.node_step * (z * (l.receivers + 1))) group in
    let index : i ≡ j = omega (arith, m, n, e, r, before, steps_order k.node_step i j) in
    let start : k.node_step * i ≡ k.node_step * j = ap (λ (z : ℕ). k.node_step * z) index in
    let field : node_field (Chain.Take c) f ≡ node_field (Chain.Take c) g = omega (arith, e, before, start, field_fixed c d g) in
    λ q. Word.Node (Chain.Take (group q)) (index q) (field_same (Chain.Take c) f g (and_parts (nat_lt c l.groups && nat_lt i (l.receivers + 1)) (is_node_field f) a).1 (and_parts (nat_lt d l.groups && nat_lt j (l.receivers + 1)) (is_node_field g) b).1 field q)
one_to_one k r l (Word.Item i f) (Word.Item j g) a b e =
    let m = within k l (Word.Item i f) a in
    let n = within k l (Word.Item j g) b in
    let index : i ≡ j = omega (arith, m, n, e, r, steps_order k.item_step i j) in
    let start : k.item_step * i ≡ k.item_step * j = ap (λ (z : ℕ). k.item_step * z) index in
    let field : item_field f ≡ item_field g = omega (arith, e, start) in
    λ q. Word.Item (index q) (part_same f g (and_parts (nat_lt i (l.capacity + 2)) (is_item_field f) a).1 (and_parts (nat_lt j (l.capacity + 2)) (is_item_field g) b).1 field q)
one_to_one k r l v w a b e = grind (arith, between k r l v a, between k r l w b)

chain_is : (x y : Chain) → same_chain x y ≡ true → x ≡ y
chain_is x y e = grind arith

object_is : (a b : Object) → object_number a ≡ object_number b → a ≡ b
object_is a b e = grind arith

field_is : (f g : NodeField) → same_field f g ≡ true → f ≡ g
field_is f g e = grind arith

part_is : (f g : ItemField) → same_part f g ≡ true → f ≡ g
part_is f g e = grind arith

pub same_is : (v w : Word) → same v w ≡ true → v ≡ w
same_is v w e = grind (arith, chain_is, object_is, field_is, part_is)

chain_self : (x : Chain) → same_chain x x ≡ true
chain_self x = grind arith

field_self : (f : NodeField) → same_field f f ≡ true
field_self f = grind arith

part_self : (f : ItemField) → same_part f f ≡ true
part_self f = grind arith

pub same_self : (w : Word) → same w w ≡ true
same_self w = grind (arith, chain_self, field_self, part_self)

pub stored_words : (k : Spacing) → IsRoomy k → (l : Layout) (words : List ℕ) (w : Word) (value : ℕ) → IsTrue (exists l w) → lies k l w < length words → word_in_row k l (slice_set words (lies k l w) value) ≡ put (word_in_row k l words) w value
stored_words k r l words w value a below = λ i v. at v i
  where
    new : List ℕ
    new = slice_set words (lies k l w) value

    here : word_in_row k l (slice_set words (lies k l w) value) w ≡ value
    here = ap (λ (b : Bool). cond b (slice_index_or (slice_set words (lies k l w) value) (lies k l w) 0) 0) a ∙ get_or-set_same words (lies k l w) value 0 below

    other : (v : Word) → same w v ≡ false → word_in_row k l (slice_set words (lies k l w) value) v ≡ word_in_row k l words v
    other v off = elim (exists l v) as (λ b. exists l v ≡ b → cond b (slice_index_or (slice_set words (lies k l w) value) (lies k l v) 0) 0 ≡ cond b (slice_index_or words (lies k l v) 0) 0) [
      | true ↦ λ e. get_or-set_other words (lies k l w) (lies k l v) value 0 (λ same_place. apart e same_place)
      | false ↦ λ e. refl
    ] refl
      where
        apart : exists l v ≡ true → lies k l v ≡ lies k l w → ⊥
        apart e same_place = let is : v ≡ w = one_to_one k r l v w e a same_place in false≢true (sym off ∙ ap (λ (z : Word). same w z) is ∙ same_self w)

    at : (v : Word) → word_in_row k l (slice_set words (lies k l w) value) v ≡ put (word_in_row k l words) w value v
    at v = ⊎_elim
        (λ (e : same w v ≡ true). subst (λ (z : Word). word_in_row k l (slice_set words (lies k l w) value) z ≡ put (word_in_row k l words) w value z) (same_is w v e) (here ∙ sym (ap (λ (b : Bool). if b then value else word_in_row k l words w) (same_self w))))
        (λ (e : same w v ≡ false). other v e ∙ sym (ap (λ (b : Bool). if b then value else word_in_row k l words v) e))
        (cases_Bool (same w v))
