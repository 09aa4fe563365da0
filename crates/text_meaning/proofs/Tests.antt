-- The way that a test leads.
use mathlib.Core.Path.{◌≡◌}
use mathlib.Core.Bool.{Bool, true, false, cond}

pub so : {A : Type 0} {t : Bool} {r x : A} (y : A) → t ≡ true → r ≡ x → r ≡ cond t x y
so y e h = rw e h

pub else : {A : Type 0} {t : Bool} {r y : A} (x : A) → t ≡ false → r ≡ y → r ≡ cond t x y
else x e h = rw e h
