-- The logs that a table of relations allows. A table may ask for keys and parents, as the library's own does.
use Rattle.std.specs.Prelude.{◌≡◌, List, [], ◌∷◌, ℕ, zero, suc, ◌<◌, length, take}
pub use Rattle.sheet_format.specs.Table.{Relation, Table, unknown, Sound}
unfoldable pub use Rattle.sheet_format.specs.Table.{relation}
use Rattle.query_meaning.specs.Meaning.{Fact, Log, In, fact}

-- the row r as a fact of relation p, for p not 0
abbrev pub owed : ℕ → List ℕ → Log
owed zero r = []
owed (suc p) r = fact (suc p) r ∷ []

-- what a fact asks for besides itself: its row in its relation's parent
abbrev pub parents : Table → Fact → Log
parents table f = owed (relation table f.rel).parent f.row

-- Meaning, of facts: the relation is one of the table's, with one value for each of its columns
pub record Formed (table : Table) (f : Fact) : Type 0 where
  pub known : 0 < (relation table f.rel).columns
  pub full : length f.row ≡ (relation table f.rel).columns

-- two facts of one relation that are alike in its key
pub record SameKey (table : Table) (f g : Fact) : Type 0 where
  pub rel : f.rel ≡ g.rel
  pub some : 0 < (relation table f.rel).key
  pub first : take (relation table f.rel).key f.row ≡ take (relation table f.rel).key g.row

-- Meaning, of logs: the log is made of facts, a relation's parent has each row that the relation has, and rows alike in a key are alike.
-- A table without keys and parents asks for the first alone.
pub record Lawful (table : Table) (log : Log) : Type 0 where
  pub formed : (f : Fact) → In f log → Formed table f
  pub parented : (f : Fact) → In f log → (g : Fact) → In g (parents table f) → In g log
  pub keyed : (f g : Fact) → In f log → In g log → SameKey table f g → f.row ≡ g.row
