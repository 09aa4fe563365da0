-- The kinds of lines by their words.
use mathlib.Core.Path.{◌≡◌, refl, sym, ap, ◌∙◌}
use mathlib.Core.Bool.{Bool, true, false, cond}
use mathlib.Core.List.{[], ◌∷◌}
use Prim.Native.Nat.{ℕ}
use lib.Dec.{eqb}
use lib.IntN.{ℤ, pos, negsuc}
use lib.ListN.{get_or}
use mir.Syntax.{w32}
use mir.Val.{of_z}
use borrow.Author.Tests.{ne_eqb}
use Rattle.sheet_format.specs.Line.{Line, null}
use Rattle.sheet_format.specs.Cause.{Kind, kind_of, kind, is_head, is_atom}
use Rattle.sheet_format.proofs.Lists.{no_way}

pub atom-other : (z : ℤ) → (of_z w32 z ≡ 4 → ⊥) → false ≡ is_atom (kind_of z)
unfolding kind_of
atom-other (pos n) h = go (eqb n 1) (eqb n 2) (eqb n 3) (eqb n 5) ∙ ap (λ t. is_atom (cond (eqb n 1) Kind.question (cond (eqb n 2) Kind.saved (cond (eqb n 3) Kind.view (cond t Kind.atom (cond (eqb n 5) Kind.row Kind.other)))))) (sym (ne_eqb n 4 h))
  where
    go : (a b c d : Bool) → false ≡ is_atom (cond a Kind.question (cond b Kind.saved (cond c Kind.view (cond d Kind.row Kind.other))))
    go true b c d = refl
    go false true c d = refl
    go false false true d = refl
    go false false false true = refl
    go false false false false = refl
atom-other (negsuc n) h = refl

pub head-other : (z : ℤ) → (of_z w32 z ≡ 1 → ⊥) → (of_z w32 z ≡ 2 → ⊥) → (of_z w32 z ≡ 3 → ⊥) → false ≡ is_head (kind_of z)
unfolding kind_of
head-other (pos n) h1 h2 h3 = go (eqb n 4) (eqb n 5) ∙ simp (ne_eqb n 1 h1, ne_eqb n 2 h2, ne_eqb n 3 h3)
  where
    go : (a b : Bool) → false ≡ is_head (cond a Kind.atom (cond b Kind.row Kind.other))
    go true b = refl
    go false true = refl
    go false false = refl
head-other (negsuc n) h1 h2 h3 = refl

pub kind-first : (l : Line) → null l ≡ false → kind l ≡ kind_of (get_or l 0 (pos 0))
kind-first [] e = no_way (sym e)
kind-first (k ∷ l) e = refl
