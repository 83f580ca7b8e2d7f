-- The places of a topic's words in its table: those that different threads write are on different lines.
use Rattle.std.specs.Prelude.{◌≡◌, ℕ, ◌*◌, ◌/◌, ◌<◌, List, length, slice_index_or, IsTrue}
use Rattle.cc_steps.specs.Names.{Chain, NodeField, ItemField, Object, Word, Starts}
use Rattle.cc_runs.specs.Words as laid
use Rattle.cc_runs.specs.Words.{Layout, Spacing, exists, lies, row_size, word_in_row}

-- A slot holds one word of 64 bits, a line 8 slots. Processors fetch lines in pairs, so words that many threads wait for are
-- 16 slots apart: each tail, the words of each side, each node of a chain. List nodes are 8 apart.
abbrev pub spread : Spacing
spread = record { tail = 16; objects = 32; ends = 48; end_step = 32; end_words = 16; node_step = 16; item_step = 8 }

-- the slot of a word
abbrev pub slot : Layout → Word → ℕ
slot l w = lies spread l w

-- the nodes of each kind begin there, counted in nodes: a chain's node has 16 slots, a list node 8
pub record HasStarts (l : Layout) (s : Starts) : Type 0 where
  pub send_nodes : 16 * s.send_nodes ≡ laid.send_nodes spread l
  pub eight : length s.take_nodes ≡ 8
  pub take_nodes : (g : ℕ) → g < l.groups → 16 * slice_index_or s.take_nodes g 0 ≡ laid.take_nodes spread l g
  pub items : 8 * s.items ≡ laid.items spread l

-- the slot at which the nodes of a chain begin
abbrev pub nodes_of : Layout → Chain → ℕ
nodes_of l Chain.Send = laid.send_nodes spread l
nodes_of l (Chain.Take g) = laid.take_nodes spread l g

-- the nodes of this chain and the list nodes begin there, counted in nodes
pub record AreStarts (l : Layout) (x : Chain) (nodes items : ℕ) : Type 0 where
  pub nodes_is : 16 * nodes ≡ nodes_of l x
  pub items_is : 8 * items ≡ laid.items spread l

-- if the word is in a chain's node, the chain is this one
abbrev pub IsWordOf : Chain → Word → Type 0
IsWordOf x (Word.Node y i f) = y ≡ x
IsWordOf x _ = Unit {0}

-- how many slots a table has
abbrev pub slot_count : Layout → ℕ
slot_count l = row_size spread l

-- what the word of this name holds in a table with these slots
abbrev pub held : Layout → List ℕ → Word → ℕ
held l slots w = word_in_row spread l slots w

-- the first of the words next to this one, which the same threads write
abbrev pub first_beside : Word → Word
first_beside (Word.Tail x) = Word.Tail x
first_beside (Word.Object (Object.Head g)) = Word.Object (Object.Head g)
first_beside (Word.Object (Object.Taken g)) = Word.Object (Object.Head g)
first_beside (Word.Object _) = Word.Object Object.Last
first_beside (Word.Node x i f) = Word.Node x i NodeField.Next
first_beside (Word.Item i f) = Word.Item i ItemField.Tag

-- two words on one line are neighbours
abbrev pub LinesApart : Type 0
LinesApart = (l : Layout) (v w : Word) → IsTrue (exists l v) → IsTrue (exists l w) → slot l v / 8 ≡ slot l w / 8 → first_beside v ≡ first_beside w
