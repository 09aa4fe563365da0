use mathlib.Core.Bool.{Bool, false}
use mathlib.Core.List.{List}
use mathlib.Core.Path.{sym, subst}
use Prim.Native.Nat.{ℕ, ◌-◌, ◌*◌}
use lib.ListN.{take}
use lib.Seq.{length-take-le}
use Rattle.case_minimization.specs.Minimization.{Parented}
use Rattle.case_minimization.specs.Parts.{OwedBy}
use Rattle.case_minimization.proofs.Laws.{unowed-goes}
use Rattle.case_minimization.proofs.drops.Goals as goal

pub returns : goal.returns
returns c = let a = c.args in
    let o = c.is_owed in
    let ms = take (a.n * 5) a.facts.now in
    let rest = take ((a.n - 1) * 5) a.room.now in
    λ ready owes e clean.
    c.is_left.ensures ready clean
    (subst (Parented a.p.now) (sym e)
    (unowed-goes a.p.now ms a.n a.i (length-take-le (a.n * 5) a.facts.now c.requires.2) c.requires.0 owes
    (subst (λ (l : List ℕ). OwedBy a.p.now false ms a.i l) e (subst (λ (b : Bool). OwedBy a.p.now b ms a.i rest) c.if-is_owed.false (o.ensures ready.size)))))
