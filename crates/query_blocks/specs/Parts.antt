-- The parts of reading a block: where its head is, how many atoms follow it, and each of its numbers by its word.
use Rattle.std.specs.Prelude.{◌≡◌, true, false, cond, List, [], ℕ, ◌+◌, ◌-◌, ◌*◌, ◌/◌, ◌%◌, ◌≤◌, ◌<◌, eqb, ltb, ℤ, pos, length, get_or, drop}
use Rattle.query_layout.specs.Layout.{block_head}
use Rattle.sheet_format.specs.Table.{Table}
use Rattle.sheet_format.specs.Line.{Line, natural}
use Rattle.sheet_format.specs.Cause.{refusal_of}
use Rattle.query_meaning.specs.Blocks.{as_term, block_of, block_at}
use Rattle.query_encoding.specs.Encoding.{term_number, has_block}

-- lines that some table of relations accepts: where blocks and rows stand does not depend on which one
abbrev pub AcceptedLines : List Line → Type 0
AcceptedLines ls = (t : Table) × ((refusal_of t ls).number ≡ 0)

-- line r is the head of block k; there is no block k where r is past the lines
pub record HeadAt (ls : List Line) (k r : ℕ) : Type 0 where
  pub here : r < length ls → (has_block ls k ≡ true) × (block_at ls k ≡ block_of (get_or ls r []) (drop (r + 1) ls))
  pub nowhere : length ls ≤ r → has_block ls k ≡ false

-- a word's number as a term
abbrev pub term_number_at : List ℤ → ℕ → ℕ
term_number_at ws i = term_number (as_term (get_or ws i (pos 0)))

-- number x of a block whose head is line h: six lines of five numbers each, a relation and four terms, and then the head's four terms
unfoldable pub entry_of : List ℤ → ℕ → ℕ → ℕ
entry_of ws h x =
    cond (ltb x block_head)
    (cond (eqb (x % 5) 0) (natural (get_or ws (7 * (h + 1 + x / 5) + 2) (pos 0))) (term_number_at ws (7 * (h + 1 + x / 5) + 2 + x % 5)))
    (term_number_at ws (7 * h + 2 + (x - block_head)))
