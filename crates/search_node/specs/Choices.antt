-- A node of the search: alternatives, each a pair of rows of four values, of which one has to become one. Its numbers are a kind, a view or a
-- count, and two rows. No promise to a caller rests on these.
use Rattle.std.specs.Prelude.{◌≡◌, Bool, true, false, cond, List, [], ◌∷◌, ℕ, ◌+◌, ◌<◌, min, eqb, get_or}
use Rattle.tableau_plan.specs.Plan.{row_at, row_values, row_count}

-- ---- the kinds

-- the left row has to become one of a view's listed rows
abbrev pub rows_kind : ℕ
rows_kind = 0

-- the two rows have to become one
abbrev pub pair_kind : ℕ
pair_kind = 1

-- in one of so many columns the values of the two rows have to become one
abbrev pub each_kind : ℕ
each_kind = 2

-- ---- the numbers

abbrev pub left_at : ℕ
left_at = 2

abbrev pub right_at : ℕ
right_at = left_at + 4

abbrev pub node_kind : List ℕ → ℕ
node_kind node = get_or node 0 0

abbrev pub node_number : List ℕ → ℕ
node_number node = get_or node 1 0

-- four of them
abbrev pub node_row : List ℕ → ℕ → List ℕ
node_row node at = get_or node at 0 ∷ get_or node (at + 1) 0 ∷ get_or node (at + 2) 0 ∷ get_or node (at + 3) 0 ∷ []

-- a row with one value
abbrev pub one_value : ℕ → List ℕ
one_value v = v ∷ 0 ∷ 0 ∷ 0 ∷ []

-- a node by its parts
abbrev pub node_of_parts : ℕ → ℕ → List ℕ → List ℕ → List ℕ
node_of_parts kind number a b =
    kind ∷ number ∷ get_or a 0 0 ∷ get_or a 1 0 ∷ get_or a 2 0 ∷ get_or a 3 0 ∷ get_or b 0 0 ∷ get_or b 1 0 ∷ get_or b 2 0 ∷ get_or b 3 0 ∷ []

-- as digits, the alternatives to try first: listed rows leave the right row free for it
unfoldable pub node_hint : List ℕ → ℕ
node_hint node = cond (eqb (node_kind node) rows_kind) (get_or node right_at 0) 0

-- ---- the alternatives

-- a row of alternative k: the whole of it, or its column k alone
unfoldable pub part_of : List ℕ → ℕ → ℕ → List ℕ
part_of node at k = cond (eqb (node_kind node) each_kind) (one_value (get_or node (at + k) 0)) (node_row node at)

abbrev pub left_of : List ℕ → ℕ → List ℕ
left_of node k = part_of node left_at k

unfoldable pub right_of : List ℕ → List ℕ → ℕ → List ℕ
right_of p node k = cond (eqb (node_kind node) rows_kind) (row_values p k) (part_of node right_at k)

unfoldable pub how_many : List ℕ → List ℕ → ℕ
how_many p node = cond (eqb (node_kind node) rows_kind) (row_count p) (cond (eqb (node_kind node) each_kind) (min (node_number node) 4) 1)

-- alternative k has to be tried: of listed rows, those of the view
pub record LiveAt (p node : List ℕ) (k : ℕ) : Type 0 where
  pub inside : k < how_many p node
  pub listed : node_kind node ≡ rows_kind → row_at p k 0 ≡ node_number node

-- so far as it is told by its view
abbrev pub LiveBy : Bool → List ℕ → List ℕ → ℕ → Type 0
LiveBy true p node k = node_kind node ≡ rows_kind → row_at p k 0 ≡ node_number node
LiveBy false p node k = LiveAt p node k → ⊥
