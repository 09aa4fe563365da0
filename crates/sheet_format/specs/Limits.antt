-- The limits, each behind one name.
use Rattle.std.specs.Prelude.{ℕ, ◌*◌}

-- ---- what is taken in, and the room that is lent

-- a sheet has at most so many bytes
abbrev pub most_sheet_bytes : ℕ
most_sheet_bytes = 8192

-- the number form has at most so many words, and reading wants room for as many
abbrev pub most_words : ℕ
most_words = 749

-- writing wants room for so many bytes
abbrev pub most_bytes : ℕ
most_bytes = 5243

-- ---- fields and lines

abbrev pub field_byte_count : ℕ
field_byte_count = 8

abbrev pub most_fields : ℕ
most_fields = 6

-- the words of a line in the number form: the field count, then the fields
abbrev pub line_word_count : ℕ
line_word_count = 7

-- what fits a field lies below these: eight digits, or a minus and seven
abbrev pub field_end : ℕ
field_end = 100000000

abbrev pub field_minus_end : ℕ
field_minus_end = 10000000

-- ---- terms, blocks, rows

-- constants are 0 and up, below this
abbrev pub constant_end : ℕ
constant_end = 10000000

-- variables are -1 down to minus this
abbrev pub most_variables : ℕ
most_variables = 12

-- atoms of the question or a list, and of a view
abbrev pub most_atoms : ℕ
most_atoms = 6

abbrev pub most_view_atoms : ℕ
most_view_atoms = 3

-- saved lists, one after another
abbrev pub most_lists : ℕ
most_lists = 4

abbrev pub most_views : ℕ
most_views = 8

-- listed rows of all views together
abbrev pub most_rows : ℕ
most_rows = 40

-- ---- tables of relations

-- a table has at most so many lines, each of so many fields; a relation has at most so many columns
abbrev pub most_relations : ℕ
most_relations = 32

abbrev pub table_fields : ℕ
table_fields = 4

abbrev pub most_columns : ℕ
most_columns = 4

-- a relation as plain numbers: its columns, key and parent; and those of a table
abbrev pub relation_number_count : ℕ
relation_number_count = 3

abbrev pub table_number_count : ℕ
table_number_count = most_relations * relation_number_count

-- ---- what follows from these

-- an accepted sheet has at most so many lines: a head and its atoms for question, lists and views, and the rows (a law shows it)
abbrev pub most_lines : ℕ
most_lines = 107
