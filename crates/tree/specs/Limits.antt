-- The limits, by their names.
use Rattle.std.specs.Prelude.{ℕ}

-- how many nodes a piece has at most
abbrev pub most_nodes : ℕ
most_nodes = 15

-- how many nodes the own tree of a piece has at most: its nodes, and a stand-in for each of 16 child pieces
abbrev pub most_own_nodes : ℕ
most_own_nodes = 31

-- how many states a piece has at most: two for each node of its own tree
abbrev pub most_states : ℕ
most_states = 62

-- how many pieces a good list has at most
abbrev pub most_pieces : ℕ
most_pieces = 128

-- how many records a good list has at most: 15 for each of 128 pieces
abbrev pub most_records : ℕ
most_records = 1920

-- how many bytes an expression has at most
abbrev pub longest_expression : ℕ
longest_expression = 1024

-- the largest place in an expression
abbrev pub most_place : ℕ
most_place = 1023

-- how many groups of an expression may be open at once
abbrev pub most_groups : ℕ
most_groups = 32

-- how many nodes the tree of an expression has at most: a leaf for each byte, and one node less above them
abbrev pub most_labels : ℕ
most_labels = 2047

-- the slots of the nodes of such a tree, and slot 0
abbrev pub slot_count : ℕ
slot_count = 2048

-- the slots of a short list's records, which are fewer, and of a longer one's
abbrev pub few_slots : ℕ
few_slots = 128

abbrev pub some_slots : ℕ
some_slots = 512

-- how many bytes a text has at most
abbrev pub longest_text : ℕ
longest_text = 65536
