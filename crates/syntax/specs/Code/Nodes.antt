-- Nodes as numbers: the number of each operation and the parts of a node. Nothing else spells one of them.
-- Internal: contracts of entry points do not speak of it. Assumes nothing.
use Rattle.std.specs.Prelude.{List, ℕ, ◌+◌, ◌*◌, ◌/◌, ◌%◌, get_or}

-- The operations in groups, each of which begins where the one before it ends; so a row more moves the groups behind it. The bases come first.

-- Calls of one term.
abbrev pub first_call : ℕ
first_call = 9

-- `OE` and `AO`.
abbrev pub oe_op : ℕ
oe_op = first_call + 7

abbrev pub ao_op : ℕ
ao_op = oe_op + 1

-- What makes one term of two: calls of two terms, and then `&` and `+`.
abbrev pub first_pair : ℕ
first_pair = ao_op + 1

abbrev pub first_join : ℕ
first_join = first_pair + 2

-- Tests: `@`; `=` and `!=`; `={}` and `!={}`.
abbrev pub member_op : ℕ
member_op = first_join + 2

abbrev pub first_alike : ℕ
first_alike = member_op + 1

abbrev pub first_empty : ℕ
first_empty = first_alike + 2

-- A count compared with a number, and with a count: the six comparisons of each.
abbrev pub first_numbered : ℕ
first_numbered = first_empty + 2

abbrev pub first_counted : ℕ
first_counted = first_numbered + 6

-- `=>` and `^`.
abbrev pub when_op : ℕ
when_op = first_counted + 6

abbrev pub also_op : ℕ
also_op = when_op + 1

abbrev pub ops_end : ℕ
ops_end = also_op + 1

-- The beginnings of a term that are no operation: a bracket, and the name of a choice.

abbrev pub bracket_head : ℕ
bracket_head = ops_end

abbrev pub choice_head : ℕ
choice_head = bracket_head + 1

-- A node is one number: its operation, below op_room, and its left and right index, below index_room.

abbrev pub op_room : ℕ
op_room = 256

abbrev pub index_room : ℕ
index_room = 4096

abbrev pub node_of : ℕ → ℕ → ℕ → ℕ
node_of o i j = o + 256 * i + 1048576 * j

abbrev pub operation_of : ℕ → ℕ
operation_of v = v % 256

abbrev pub left_of : ℕ → ℕ
left_of v = v / 256 % 4096

abbrev pub right_of : ℕ → ℕ
right_of v = v / 1048576

-- The parts of node k of a list.

abbrev pub op_at : List ℕ → ℕ → ℕ
op_at ns k = operation_of (get_or ns k 0)

abbrev pub left_at : List ℕ → ℕ → ℕ
left_at ns k = left_of (get_or ns k 0)

abbrev pub right_at : List ℕ → ℕ → ℕ
right_at ns k = right_of (get_or ns k 0)
