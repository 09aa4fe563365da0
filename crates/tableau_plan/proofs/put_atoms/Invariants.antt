use mathlib.Core.Path.{◌≡◌}
use mathlib.Core.List.{List, ◌++◌}
use Prim.Native.Nat.{ℕ, ◌≤◌, ◌<◌, ◌+◌, ◌*◌}
use lib.ListN.{length, drop}
use Rattle.sheet_format.specs.Table.{table_in}
use Rattle.tableau_layout.specs.Layout.{rows_at, tableau_atoms}
use Rattle.query_meaning.specs.Meaning.{Atom}
use Rattle.query_encoding.specs.Encoding.{atom_at}
use Rattle.tableau_plan.specs.Parts.{KeptOutside, PlacedAtom, own_atoms, AtomAt, AtomsStored}
use Rattle.tableau_plan.proofs.put_atoms.Given as goal

abbrev pub invariant-loop-j : goal.invariant-loop-j
invariant-loop-j state = (state.j ≤ state.n)
    × (state.next ≤ tableau_atoms)
    × KeptOutside state.initial.p state.p 0 rows_at
    × ((l left : List PlacedAtom) (own : List Atom) → length l ≤ tableau_atoms → state.n ≡ length own → ((i : ℕ) → i < state.n → AtomAt state.initial.p (state.from + i * 5) (atom_at own i)) → AtomsStored state.initial.p state.at l (own_atoms (table_in state.table) state.copy own ++ left) → AtomsStored state.p state.next l (own_atoms (table_in state.table) state.copy (drop state.j own) ++ left))
