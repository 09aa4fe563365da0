-- What the contracts of private functions cite. No promise to a caller rests on it.
use Rattle.std.specs.Prelude.{◌≡◌, Bool, true, ◌&&◌, ◌||◌, List, [], ◌∷◌, ◌++◌, ℕ, zero, suc, ◌+◌, ◌-◌, ◌*◌, eqb, ltb, leb, ℤ, pos, negsuc, length, take, drop, get_or, set}
use Rattle.sheet_format.specs.Limits.{field_end, most_columns, most_relations}
use Rattle.sheet_format.specs.Table.{Relation, unknown}
use Rattle.sheet_format.specs.Line.{line_of}
use Rattle.sheet_format.specs.Answers.{Refusal}
use Rattle.sheet_format.specs.Answers.{Field}
use Rattle.sheet_format.specs.Answers.Field.{Number, Malformed}
use Rattle.sheet_table.specs.Tables.{relation_on_line, line_right, table_refusal, relations_of}

-- a field as a plain number; one that is malformed or below 0 is a number that no field holds and that every rule refuses
abbrev pub plain_number : ℤ → ℕ
plain_number (pos n) = n
plain_number (negsuc n) = field_end

abbrev pub plain_of : Field → ℕ
plain_of (Number z) = plain_number z
plain_of Malformed = field_end

-- the rule of parents, where ns has the numbers of the n relations before
unfoldable pub parent_obeys : List ℕ → ℕ → ℕ → ℕ → Bool
parent_obeys ns n c p = eqb p 0 || (leb p n && (eqb (get_or ns ((p - 1) * 3) 0) c && eqb (get_or ns ((p - 1) * 3 + 2) 0) 0))

-- all rules of a line with the number m
unfoldable pub line_obeys : List ℕ → ℕ → ℕ → ℕ → ℕ → ℕ → Bool
line_obeys ns n m c k p = eqb m (n + 1) && ((leb 1 c && leb c most_columns) && (ltb k c && parent_obeys ns n c p))

-- columns, key and parent of each of k relations, one after the other; 0 past the last
abbrev pub relation_numbers : Relation → List ℕ
relation_numbers r = r.columns ∷ r.key ∷ r.parent ∷ []

unfoldable pub numbers_of : ℕ → List Relation → List ℕ
numbers_of zero rs = []
numbers_of (suc k) rs = relation_numbers (get_or rs 0 unknown) ++ numbers_of k (drop 1 rs)

abbrev pub table_numbers : List Relation → List ℕ
table_numbers rs = numbers_of most_relations rs

-- relation n put among the numbers
unfoldable pub relation_put : List ℕ → ℕ → ℕ → ℕ → ℕ → List ℕ
relation_put ns n c k p = set (set (set ns (n * 3) c) (n * 3 + 1) k) (n * 3 + 2) p

-- the line between two places follows n relations: whether it is right, and then its numbers are put
pub record TakenLine (s : List ℕ) (at e : ℕ) (ns us : List ℕ) (n : ℕ) (r : Bool) : Type 0 where
  pub right : (rs : List Relation) → length rs ≡ n → ns ≡ table_numbers rs → r ≡ line_right rs (line_of (take (e - at) (drop at s)))
  pub put : (rs : List Relation) → length rs ≡ n → ns ≡ table_numbers rs → r ≡ true → us ≡ table_numbers (rs ++ (relation_on_line (line_of (take (e - at) (drop at s))) ∷ []))

-- all lines read: why they are sent back, and the numbers of relations that are not
pub record ReadLines (s us : List ℕ) (r : Refusal) : Type 0 where
  pub answer : r ≡ table_refusal s
  pub numbers : (table_refusal s).number ≡ 0 → us ≡ table_numbers (relations_of s)
