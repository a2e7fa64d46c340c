-- The numbers of the refusals, by their names: the table of refusals, row by row. No number is given for two reasons.
use Rattle.std.specs.Prelude.{ℕ}

-- the expression has no bytes
abbrev pub expression_empty : ℕ
expression_empty = 1

-- it has more bytes than an expression may have
abbrev pub expression_too_long : ℕ
expression_too_long = 2

-- an operand is due, and a `|`, `)`, a sign that follows its operand, or the end stands there
abbrev pub operand_missing : ℕ
operand_missing = 3

-- the end comes after an operand, with a group open
abbrev pub group_left_open : ℕ
group_left_open = 4

-- a `)` after an operand, with no group open
abbrev pub closing_without_group : ℕ
closing_without_group = 5

-- a `(` would open one group more than may be open at once
abbrev pub too_many_groups : ℕ
too_many_groups = 6

-- a `\` is last, or not before a sign
abbrev pub backslash_before_no_sign : ℕ
backslash_before_no_sign = 7

-- the cut has more pieces than a good list may have
abbrev pub too_many_pieces : ℕ
too_many_pieces = 8

-- the record buffer is shorter than the records
abbrev pub buffer_too_short : ℕ
buffer_too_short = 9

-- a record list is not good
abbrev pub list_not_good : ℕ
list_not_good = 10

-- the text has more bytes than a text may have
abbrev pub text_too_long : ℕ
text_too_long = 11

-- fewer words are lent than there are pieces
abbrev pub too_few_words : ℕ
too_few_words = 12

-- a bit past the last state is set, or the two bits of a shared state differ
abbrev pub words_not_marks : ℕ
words_not_marks = 13

-- a class is not of its form, is left open, or has a range whose first byte is above its last; or a `]` outside a class
abbrev pub class_faulty : ℕ
class_faulty = 14

-- the class buffer is shorter than the class records
abbrev pub class_buffer_too_short : ℕ
class_buffer_too_short = 15

-- a count is not of its form, is left open, or is out of its bounds; or a `}` outside a count
abbrev pub count_faulty : ℕ
count_faulty = 16

-- the tree has more nodes than a tree may have
abbrev pub too_many_nodes : ℕ
too_many_nodes = 17

-- a table of steps has fewer entries than those that say where its columns begin
abbrev pub table_too_short : ℕ
table_too_short = 28
