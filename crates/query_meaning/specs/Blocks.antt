-- The blocks of a sheet's lines, in their order: the question, the lists, the views.
use Rattle.std.specs.Prelude.{Bool, true, false, cond, List, [], ◌∷◌, map, ℕ, zero, suc, ℤ, pos, negsuc, length, drop}
use Rattle.sheet_format.specs.Line.{Line, natural}
use Rattle.sheet_format.specs.Cause.{Kind, question, saved, view, atom, row, other, kind, rest, second, terms, is_head, atoms}
use Rattle.query_meaning.specs.Meaning.{Term, con, var, Atom, Block}

-- a view's block with its listed rows
pub record View : Type 0 where
  pub block : Block
  pub rows : List (List ℕ)

-- -1 is variable 1, and so on down
abbrev pub as_term : ℤ → Term
as_term (pos n) = con n
as_term (negsuc n) = var (suc n)

abbrev pub atom_of : Line → Atom
atom_of l = record { rel = natural (second l); terms = map as_term (terms l) }

-- the block of a head, of which `ls` are the lines after it
abbrev pub block_of : Line → List Line → Block
block_of l ls = record { head = map as_term (rest l); atoms = map atom_of (atoms ls); apart = [] }

abbrev pub is_row : Kind → Bool
is_row question = false
is_row saved = false
is_row view = false
is_row atom = false
is_row row = true
is_row other = false

-- the listed rows at the front
unfoldable pub rows : List Line → List (List ℕ)
rows [] = []
rows (l ∷ ls) = cond (is_row (kind l)) (map natural (rest l) ∷ rows ls) []

abbrev pub view_of : Line → List Line → View
view_of l ls = record { block = block_of l ls; rows = rows (drop (length (atoms ls)) ls) }

-- the blocks whose heads have a kind that passes the test
unfoldable pub blocks : (Kind → Bool) → List Line → List View
blocks p [] = []
blocks p (l ∷ ls) = cond (p (kind l)) (view_of l ls ∷ blocks p ls) (blocks p ls)

-- all of them: block 1 is the question, then come the lists, then the views
abbrev pub all_blocks : List Line → List View
all_blocks ls = blocks is_head ls

abbrev pub nowhere : View
nowhere = record { block = record { head = []; atoms = []; apart = [] }; rows = [] }

abbrev pub nth : List View → ℕ → View
nth [] n = nowhere
nth (w ∷ ws) zero = w
nth (w ∷ ws) (suc n) = nth ws n

abbrev pub block_at : List Line → ℕ → Block
block_at ls zero = nowhere.block
block_at ls (suc n) = (nth (all_blocks ls) n).block
