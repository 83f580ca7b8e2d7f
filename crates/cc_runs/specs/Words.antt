-- The words of one topic's table: their names, their places, and what a store changes.
use Rattle.std.specs.Prelude.{◌≡◌, ℕ, ◌+◌, ◌*◌, ◌<◌, ◌≤◌, Bool, true, false, ◌==◌, ◌&&◌, nat_lt, if◌then◌else◌, List, slice_index_or, IsTrue}
use Rattle.cc_runs.specs.Names.{Config, Chain, NodeField, ItemField, Object, Word}

-- the sizes that say where a word lies
pub record Layout : Type 0 where
  pub senders : ℕ
  pub receivers : ℕ
  pub groups : ℕ
  pub capacity : ℕ

-- how many groups of receivers there are
abbrev pub groups : Config → ℕ
groups c = c.groups

-- the sizes of a configuration's table
abbrev pub layout_of : Config → Layout
layout_of c = record { senders = c.senders; receivers = c.receivers; groups = groups c; capacity = c.capacity }

-- so small that addresses are numbers of a machine, with some receiver in each group
pub record IsSmall (l : Layout) : Type 0 where
  pub senders : l.senders ≤ 64
  pub some : 0 < l.receivers
  pub receivers : l.receivers ≤ 64
  pub groups : l.groups ≤ 8
  pub capacity : l.capacity ≤ 4096

-- the fields of a node in their order, which isn't the same on both sides
abbrev pub node_field : Chain → NodeField → ℕ
node_field x NodeField.Next = 0
node_field x NodeField.State = 1
node_field Chain.Send NodeField.Tag = 2
node_field Chain.Send (NodeField.Body i) = 3 + i
node_field Chain.Send NodeField.Ret = 7
node_field (Chain.Take g) NodeField.Ret = 2
node_field (Chain.Take g) NodeField.Tag = 3
node_field (Chain.Take g) (NodeField.Body i) = 4 + i

-- and those of a list node
abbrev pub item_field : ItemField → ℕ
item_field ItemField.Tag = 0
item_field (ItemField.Body i) = 1 + i
item_field ItemField.Next = 5
item_field ItemField.Passed = 6

-- a body has four words
abbrev pub is_node_field : NodeField → Bool
is_node_field (NodeField.Body i) = nat_lt i 4
is_node_field _ = true

abbrev pub is_item_field : ItemField → Bool
is_item_field (ItemField.Body i) = nat_lt i 4
is_item_field _ = true

-- The places of words in one row. Words 0 to 7 are kept for the configuration: the machine of one thread leaves them 0, and a
-- table that threads share has it there. Then come the senders' tail, the words of the object, the ends of the groups
-- (each its tail, then its head and its count of items taken), the senders' nodes, the nodes of each group, and the list
-- nodes: the place of the first of a kind, and the distance to the next one.
pub record Spacing : Type 0 where
  pub tail : ℕ
  pub objects : ℕ
  pub ends : ℕ
  pub end_step : ℕ
  pub end_words : ℕ
  pub node_step : ℕ
  pub item_step : ℕ

-- each word comes after the one before it
abbrev pub dense : Spacing
dense = record { tail = 8; objects = 9; ends = 13; end_step = 3; end_words = 1; node_step = 8; item_step = 7 }

-- there is room for the words of each kind
abbrev pub IsRoomy : Spacing → Type 0
IsRoomy k = (8 ≤ k.tail) × (k.tail < k.objects) × (k.objects + 4 ≤ k.ends) × (0 < k.end_words) × (k.end_words + 2 ≤ k.end_step) × (8 ≤ k.node_step) × (7 ≤ k.item_step)

-- the place of the first of the senders' nodes
abbrev pub send_nodes : Spacing → Layout → ℕ
send_nodes k l = k.ends + k.end_step * l.groups

-- the place of the first node of a group
abbrev pub take_nodes : Spacing → Layout → ℕ → ℕ
take_nodes k l g = send_nodes k l + k.node_step * (l.senders + 1) + k.node_step * (g * (l.receivers + 1))

-- the place of the first list node
abbrev pub items : Spacing → Layout → ℕ
items k l = take_nodes k l l.groups

-- how long the row is
abbrev pub row_size : Spacing → Layout → ℕ
row_size k l = items k l + k.item_step * (l.capacity + 2)

-- the place of a word in it
abbrev pub lies : Spacing → Layout → Word → ℕ
lies k l (Word.Tail Chain.Send) = k.tail
lies k l (Word.Tail (Chain.Take g)) = k.ends + k.end_step * g
lies k l (Word.Object Object.Last) = k.objects
lies k l (Word.Object Object.Shut) = k.objects + 1
lies k l (Word.Object Object.Count) = k.objects + 2
lies k l (Word.Object Object.Cursor) = k.objects + 3
lies k l (Word.Object (Object.Head g)) = k.ends + k.end_step * g + k.end_words
lies k l (Word.Object (Object.Taken g)) = k.ends + k.end_step * g + k.end_words + 1
lies k l (Word.Node Chain.Send i f) = send_nodes k l + k.node_step * i + node_field Chain.Send f
lies k l (Word.Node (Chain.Take g) i f) = take_nodes k l g + k.node_step * i + node_field (Chain.Take g) f
lies k l (Word.Item i f) = items k l + k.item_step * i + item_field f

-- how many words there are
abbrev pub size : Layout → ℕ
size l = row_size dense l

-- the number of a word among all words, from 0 on
abbrev pub address : Layout → Word → ℕ
address l w = lies dense l w

-- the words that there are
abbrev pub exists : Layout → Word → Bool
exists l (Word.Tail Chain.Send) = true
exists l (Word.Tail (Chain.Take g)) = nat_lt g l.groups
exists l (Word.Object (Object.Head g)) = nat_lt g l.groups
exists l (Word.Object (Object.Taken g)) = nat_lt g l.groups
exists l (Word.Object _) = true
exists l (Word.Node Chain.Send i f) = nat_lt i (l.senders + 1) && is_node_field f
exists l (Word.Node (Chain.Take g) i f) = nat_lt g l.groups && nat_lt i (l.receivers + 1) && is_node_field f
exists l (Word.Item i f) = nat_lt i (l.capacity + 2) && is_item_field f

-- whether two names are one
abbrev pub same_chain : Chain → Chain → Bool
same_chain Chain.Send Chain.Send = true
same_chain (Chain.Take g) (Chain.Take h) = g == h
same_chain _ _ = false

-- object words differ by a number
abbrev pub object_number : Object → ℕ
object_number Object.Last = 0
object_number Object.Shut = 1
object_number Object.Count = 2
object_number Object.Cursor = 3
object_number (Object.Head g) = 4 + 2 * g
object_number (Object.Taken g) = 5 + 2 * g

abbrev pub same_field : NodeField → NodeField → Bool
same_field NodeField.Next NodeField.Next = true
same_field NodeField.State NodeField.State = true
same_field NodeField.Tag NodeField.Tag = true
same_field NodeField.Ret NodeField.Ret = true
same_field (NodeField.Body i) (NodeField.Body j) = i == j
same_field _ _ = false

abbrev pub same_part : ItemField → ItemField → Bool
same_part ItemField.Tag ItemField.Tag = true
same_part ItemField.Next ItemField.Next = true
same_part ItemField.Passed ItemField.Passed = true
same_part (ItemField.Body i) (ItemField.Body j) = i == j
same_part _ _ = false

-- whether two names of words are one
abbrev pub same : Word → Word → Bool
same (Word.Tail x) (Word.Tail y) = same_chain x y
same (Word.Object a) (Word.Object b) = object_number a == object_number b
same (Word.Node x i f) (Word.Node y j g) = same_field f g && same_chain x y && (i == j)
same (Word.Item i f) (Word.Item j g) = same_part f g && (i == j)
same _ _ = false

-- the word of this name in a row of words; there are no others
abbrev pub word_in_row : Spacing → Layout → List ℕ → Word → ℕ
word_in_row k l words w = if exists l w then slice_index_or words (lies k l w) 0 else 0

-- the word of this name, each word after the one before it
abbrev pub word_at : Layout → List ℕ → Word → ℕ
word_at l words w = word_in_row dense l words w

-- the words after a store
abbrev pub put : (Word → ℕ) → Word → ℕ → Word → ℕ
put mem w value v = if same w v then value else mem v

-- no two words lie in one place
abbrev pub OneToOne : Type 0
OneToOne = (k : Spacing) → IsRoomy k → (l : Layout) (v w : Word) → IsTrue (exists l v) → IsTrue (exists l w) → lies k l v ≡ lies k l w → v ≡ w
