-- The bytes of the library's own table.
use Rattle.std.specs.Prelude.{List, [], ◌∷◌, ℕ, ◌+◌, pos}
use Rattle.sheet_format.specs.Table.{Relation, ten_relations}
use Rattle.sheet_format.specs.Line.{Line, bytes_of}

-- the lines of relations, from number n on
abbrev pub lines_of : ℕ → List Relation → List Line
lines_of n [] = []
lines_of n (r ∷ rs) = (pos n ∷ pos r.columns ∷ pos r.key ∷ pos r.parent ∷ []) ∷ lines_of (n + 1) rs

abbrev pub own_lines : List Line
own_lines = lines_of 1 ten_relations

unfoldable pub own_bytes : List ℕ
own_bytes = bytes_of own_lines

-- how many these are
abbrev pub own_table_bytes : ℕ
own_table_bytes = 330
