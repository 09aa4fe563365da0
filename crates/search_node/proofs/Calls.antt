-- What calls say by their results.
use mathlib.Core.Path.{◌≡◌, sym}
use mathlib.Core.Bool.{Bool, true, false, true≢false}
use mathlib.Core.List.{List}
use Prim.Native.Nat.{ℕ}
use native.Mathlib.Omega.{arith}
use Rattle.tableau_plan.specs.Plan.{row_count}
use Rattle.tableau_parts.specs.Views.{ListedRow}
use Rattle.tableau_parts.specs.Walks.{SameBy, ListedBy}

pub same-yes : (b : Bool) (t u : List ℕ) → b ≡ true → SameBy b t u → t ≡ u
same-yes true t u e s = s
same-yes false t u e s = absurd (true≢false (sym e))

-- no row of the plan is this row of the view
pub listed-no : (b : Bool) (p : List ℕ) (n v : ℕ) (u : List ℕ) → b ≡ false → n ≡ row_count p → ListedBy b p n v u → ListedRow p v u → ⊥
listed-no true p n v u e q s l = absurd (true≢false e)
listed-no false p n v u e q s (i, lt, f, g) = s (record { at = i; inside = omega arith; view = f; values = g })
