-- Tables whose relations a text can name: a name means the same relation by each of them.
use Rattle.std.specs.Prelude.{◌≡◌, ℕ, ◌≤◌, ℤ, pos}
use Rattle.sheet_format.specs.Limits.{field_end, most_columns}
use Rattle.sheet_format.specs.Table.{Table, columns_of, ten}

-- the ten have the columns that the library's own table gives them; the number of each other relation fits a field; none has more columns
-- than a fact has values
pub record Named (table : Table) : Type 0 where
  pub own : (n : ℕ) → n ≤ 10 → columns_of table (pos n) ≡ columns_of ten (pos n)
  pub short : (n : ℕ) → field_end ≤ n → columns_of table (pos n) ≡ 0
  pub narrow : (z : ℤ) → columns_of table z ≤ most_columns
