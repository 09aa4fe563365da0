-- The plan of a sheet: where its tableau, listed rows, blocks and counts stand among plain numbers, every size and place behind one name. No
-- promise to a caller rests on these.
use Rattle.std.specs.Prelude.{ℕ, ◌+◌, ◌*◌}
use Rattle.sheet_format.specs.Limits.{most_atoms, most_view_atoms, most_lists, most_views, most_rows, table_number_count}
use Rattle.query_layout.specs.Layout.{names, row_columns, fact_width, block_width}

-- a copy of the question and one of its view's block for each listed row; each copy has slots of its own
abbrev pub most_copies : ℕ
most_copies = 1 + most_rows

abbrev pub slot_end : ℕ
slot_end = most_copies * names

-- the atoms of the copies: the question's, and its view's for each listed row
abbrev pub copied_atoms : ℕ
copied_atoms = most_atoms + most_rows * most_view_atoms

-- the tableau's atoms: those of the copies, and after each the one that it owes to its relation's parent
abbrev pub tableau_atoms : ℕ
tableau_atoms = copied_atoms * 2

abbrev pub tableau_numbers : ℕ
tableau_numbers = tableau_atoms * fact_width

-- the listed rows after them: a view and the columns each
abbrev pub row_width : ℕ
row_width = 1 + row_columns

abbrev pub rows_at : ℕ
rows_at = tableau_numbers

-- the blocks after them: the question, list i, view v; and how many atoms each has
abbrev pub question_block : ℕ
question_block = 0

abbrev pub list_block : ℕ → ℕ
list_block i = 1 + i

abbrev pub view_block : ℕ → ℕ
view_block v = 1 + most_lists + v

abbrev pub most_blocks : ℕ
most_blocks = view_block most_views

abbrev pub blocks_at : ℕ
blocks_at = rows_at + most_rows * row_width

abbrev pub sizes_at : ℕ
sizes_at = blocks_at + most_blocks * block_width

-- the counts after them: the tableau's atoms, the question's among them, the listed rows, the views, the lists
abbrev pub tableau_size_at : ℕ
tableau_size_at = sizes_at + most_blocks

abbrev pub asked_size_at : ℕ
asked_size_at = tableau_size_at + 1

abbrev pub row_count_at : ℕ
row_count_at = tableau_size_at + 2

abbrev pub view_count_at : ℕ
view_count_at = tableau_size_at + 3

abbrev pub list_count_at : ℕ
list_count_at = tableau_size_at + 4

-- the table of relations after them
abbrev pub table_at : ℕ
table_at = tableau_size_at + 5

abbrev pub plan_numbers : ℕ
plan_numbers = table_at + table_number_count
