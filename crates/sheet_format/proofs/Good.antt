-- Good lines: malformed, or one to six numbers that fit. Formed lines: none of them malformed.
use mathlib.Core.Path.{◌≡◌, refl}
use mathlib.Core.Bool.{true, false, not}
use mathlib.Core.List.{List, [], ◌∷◌}
use Prim.Native.Nat.{◌≤◌}
use native.Mathlib.Omega.{arith}
use borrow.Author.Tests.{not-true}
use lib.ListN.{length}
use Rattle.sheet_format.specs.Limits.{most_fields}
use Rattle.sheet_format.specs.Field.{fits}
use Rattle.sheet_format.specs.Line.{Line, all, null}
use Rattle.sheet_format.proofs.Lists.{and_left, and_right}

pub record FittingLine (l : Line) : Type 0 where
  pub few : length l ≤ most_fields
  pub fitting : all fits l ≡ true

abbrev pub Goods : List Line → Type 0
Goods [] = Unit {0}
Goods (l ∷ ls) = FittingLine l × Goods ls

pub nil_good : FittingLine []
nil_good = record { few = omega arith; fitting = refl }

abbrev pub LinesNonempty : List Line → Type 0
LinesNonempty ls = all (λ l. not (null l)) ls ≡ true

pub formed-head : (l : Line) (ls : List Line) → LinesNonempty (l ∷ ls) → null l ≡ false
formed-head l ls h = not-true (null l) (and_left (not (null l)) (all (λ l. not (null l)) ls) h)

pub formed_tail : (l : Line) (ls : List Line) → LinesNonempty (l ∷ ls) → LinesNonempty ls
formed_tail l ls h = and_right (not (null l)) (all (λ l. not (null l)) ls) h
