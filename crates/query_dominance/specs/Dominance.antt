-- When one value can take another's place in a column of a block's rows, over facts. No promise to a caller rests on these.
use Rattle.std.specs.Prelude.{◌≡◌, Bool, true, false, List, ◌⊎◌, ℕ, ◌+◌, ◌*◌, ◌/◌, ◌%◌, ◌<◌, ◌≤◌, length, get_or, set}
use Rattle.query_layout.specs.Layout.{block_head, block_width, names}
use Rattle.query_join.specs.Joins.{Becomes, Given}
use Rattle.query_join.specs.Parts.{column_term, column_value}

-- b dominates a in column p: with each row that has a there, the block is given the row that has b there
pub record Dominates (blk : List ℕ) (n : ℕ) (facts : List ℕ) (p a b : ℕ) : Type 0 where
  pub gives : (w : List ℕ) → Given blk n facts w → get_or w p 0 ≡ a → Given blk n facts (set w p b)

-- a term stands at place k of a block, and no relation
abbrev pub TermPlace : ℕ → Type 0
TermPlace k = (block_head ≤ k) ⊎ (0 < k % 5)

-- the term at place k is another, or it is the same place
pub record OtherTerm (blk : List ℕ) (at k : ℕ) : Type 0 where
  pub not : TermPlace k → (k ≡ at → ⊥) → get_or blk k 0 ≡ get_or blk at 0 → ⊥

-- the term at a place is a variable that stands at no other
pub record Lone (blk : List ℕ) (at : ℕ) : Type 0 where
  pub name : get_or blk at 0 < names
  pub others : (k : ℕ) → k < block_width → OtherTerm blk at k

-- the marked columns of atom j have such variables
pub record LoneColumns (blk : List ℕ) (j : ℕ) (free : List Bool) : Type 0 where
  pub lone : (c : ℕ) → c < 4 → get_or free c false ≡ true → Lone blk (j * 5 + 1 + c)

-- in a column with term t the value new can follow old where variable y becomes b
pub record ColumnFollows (t y b old new : ℕ) : Type 0 where
  pub changed : t ≡ y → new ≡ b
  pub kept : (t ≡ y → ⊥) → new ≡ old

-- atom j can be fact g instead of fact i where variable y becomes b; variables that stand nowhere else follow
pub record Replaces (blk facts : List ℕ) (j y b i g : ℕ) : Type 0 where
  pub relation : get_or facts (g * 5) 0 ≡ get_or facts (i * 5) 0
  pub columns : (c : ℕ) → c < 4 → Lone blk (j * 5 + 1 + c) ⊎ ColumnFollows (column_term blk j c) y b (column_value facts i c) (column_value facts g c)

-- a fact does
abbrev pub Replaced : List ℕ → List ℕ → ℕ → ℕ → ℕ → ℕ → Type 0
Replaced blk facts j y b i = (g : ℕ) × (g < length facts / 5) × Replaces blk facts j y b i g

-- variable y stands at no column of atom j
pub record Without (blk : List ℕ) (j y : ℕ) : Type 0 where
  pub none : (c : ℕ) → c < 4 → column_term blk j c ≡ y → ⊥

-- each fact that atom j becomes where y is a can be replaced where y becomes b
pub record AtomDominates (blk facts : List ℕ) (j y a b : ℕ) : Type 0 where
  pub replaced : (v : ℕ → ℕ) → v y ≡ a → (i : ℕ) → i < length facts / 5 → Becomes blk facts v j i → Replaced blk facts j y b i

-- the head's term in column p stands in no other column
pub record HeadOnce (blk : List ℕ) (p : ℕ) : Type 0 where
  pub other : (q : ℕ) → q < 4 → (q ≡ p → ⊥) → get_or blk (block_head + q) 0 ≡ get_or blk (block_head + p) 0 → ⊥
