-- What the bytes of a table of relations mean: a line for each relation, its fields the sheet's own.
use Rattle.std.specs.Prelude.{Bool, true, false, cond, ◌&&◌, ◌||◌, List, [], ◌∷◌, ◌++◌, map, ℕ, ◌+◌, eqb, ltb, leb, ℤ, pos, negsuc, length, get_or}
use Rattle.sheet_format.specs.Limits.{most_relations, most_columns, table_fields}
use Rattle.sheet_format.specs.Table.{Relation, Table, relation, table_by}
use Rattle.sheet_format.specs.Line.{Line, all, null, natural, byte_lines}
use Rattle.sheet_format.specs.Cause.{refusal, none}
use Rattle.sheet_format.specs.Answers.{Refusal}

-- ---- a line

-- field j of a line, from 0
abbrev pub field_number : Line → ℕ → ℕ
field_number l j = natural (get_or l j (pos 0))

-- relation number, columns, key columns, parent
abbrev pub number_in : Line → ℕ
number_in l = field_number l 0

abbrev pub relation_on_line : Line → Relation
relation_on_line l = record { columns = field_number l 1; key = field_number l 2; parent = field_number l 3 }

-- four fields, none below 0; a malformed line has no fields
abbrev pub not_negative : ℤ → Bool
not_negative (pos n) = true
not_negative (negsuc n) = false

abbrev pub four_fields : Line → Bool
four_fields l = eqb (length l) table_fields && all not_negative l

-- numbers are 1 upward in order: rs are the relations of the lines before
abbrev pub in_order : List Relation → ℕ → Bool
in_order rs n = eqb n (length rs + 1)

-- 1 to 4 columns
abbrev pub columns_right : Relation → Bool
columns_right r = leb 1 r.columns && leb r.columns most_columns

-- fewer key columns than columns; 0, for no key, are fewer too
abbrev pub key_right : Relation → Bool
key_right r = ltb r.key r.columns

-- no parent (0), or a lower number with equal columns and itself without parent
abbrev pub parent_right : List Relation → Relation → Bool
parent_right rs r = eqb r.parent 0 || (leb r.parent (length rs) && (eqb (relation (table_by rs) r.parent).columns r.columns && eqb (relation (table_by rs) r.parent).parent 0))

abbrev pub relation_right : List Relation → ℕ → Relation → Bool
relation_right rs n r = in_order rs n && (columns_right r && (key_right r && parent_right rs r))

unfoldable pub line_right : List Relation → Line → Bool
line_right rs l = four_fields l && relation_right rs (number_in l) (relation_on_line l)

-- ---- a table

-- 15 with the first line that is not right, or is the 33rd: rs are the relations of the lines before
unfoldable pub lines_refusal : List Relation → List Line → Refusal
lines_refusal rs [] = none
lines_refusal rs (l ∷ ls) = cond (ltb (length rs) most_relations && line_right rs l) (lines_refusal (rs ++ (relation_on_line l ∷ [])) ls) (refusal 15 (length rs + 1))

-- 15 with line 0 for an empty table
unfoldable pub table_refusal : List ℕ → Refusal
table_refusal s = cond (null (byte_lines s)) (refusal 15 0) (lines_refusal [] (byte_lines s))

-- the relations of a table that is not refused, and the table that they make
unfoldable pub relations_of : List ℕ → List Relation
relations_of s = map relation_on_line (byte_lines s)

unfoldable pub table_of : List ℕ → Table
table_of s = table_by (relations_of s)
