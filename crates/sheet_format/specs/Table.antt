-- Tables of relations: what a table says of a relation, the tables of which the theorems speak, and the library's own.
use Rattle.std.specs.Prelude.{◌≡◌, List, [], ◌∷◌, ℕ, zero, suc, ◌+◌, ◌*◌, ◌<◌, min, ℤ, pos, negsuc, get_or}
use Rattle.sheet_format.specs.Limits.{most_columns, relation_number_count}
use Rattle.sheet_format.specs.Relations.{relations, key_numbers, parent_numbers}

-- A relation's number of columns. Where `key` is not 0, rows that are alike in the first `key` columns are alike in all; where `parent`
-- is not 0, the relation of that number has every row that this one has.
pub record Relation : Type 0 where
  pub columns : ℕ
  pub key : ℕ
  pub parent : ℕ

-- stands for a relation that a table lacks: it has no columns
abbrev pub unknown : Relation
unknown = record { columns = 0; key = 0; parent = 0 }

-- what a table says at each place, from 0 on: relation 1, relation 2 and so on
abbrev pub Table : Type 0
Table = ℕ → Relation

-- the relation of a number
unfoldable pub relation : Table → ℕ → Relation
relation t zero = unknown
relation t (suc n) = t n

-- the columns of a relation; 0 where there is no such relation
unfoldable pub columns_of : Table → ℤ → ℕ
columns_of t (pos n) = (relation t n).columns
columns_of t (negsuc n) = 0

-- the tables of which the theorems speak: a parent has as many columns as its relation, and has no parent
pub record Sound (table : Table) : Type 0 where
  pub columns : (n : ℕ) → 0 < (relation table n).parent → (relation table (relation table n).parent).columns ≡ (relation table n).columns
  pub parentless : (n : ℕ) → 0 < (relation table n).parent → (relation table (relation table n).parent).parent ≡ 0

-- the table of relations that follow each other, and none behind them
abbrev pub table_by : List Relation → Table
table_by rs n = get_or rs n unknown

-- relations with these columns, keys and parents, one after the other
abbrev pub relations_by : List ℕ → List ℕ → List ℕ → List Relation
relations_by [] ks ps = []
relations_by (n ∷ ns) [] ps = []
relations_by (n ∷ ns) (k ∷ ks) [] = []
relations_by (n ∷ ns) (k ∷ ks) (p ∷ ps) = record { columns = n; key = k; parent = p } ∷ relations_by ns ks ps

-- the ten relations (The log's relations): a beat and noise are signals; a strap has one rower in a session and one rate at a tick
abbrev pub ten_relations : List Relation
ten_relations = relations_by relations key_numbers parent_numbers

abbrev pub ten : Table
ten = table_by ten_relations

-- the table that plain numbers give: columns, key and parent of each relation, no more columns than a fact has values; 0 past the numbers' end
abbrev pub table_in : List ℕ → Table
table_in ns n = record { columns = min most_columns (get_or ns (n * relation_number_count) 0); key = min most_columns (get_or ns (n * relation_number_count + 1) 0); parent = get_or ns (n * relation_number_count + 2) 0 }
