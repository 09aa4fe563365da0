-- A table is sound if each of its relations is; so are the ten.
use mathlib.Core.Path.{◌≡◌, refl}
use mathlib.Core.List.{List, [], ◌∷◌}
use mathlib.Core.Logic.{◌⊎◌, inl, inr, ⊎_elim}
use Prim.Native.Nat.{ℕ, zero, suc, ◌<◌}
use native.Mathlib.Omega.{arith}
use lib.ListN.{get_or}
use Rattle.sheet_format.specs.Table.{table_by, ten_relations}
use Rattle.query_meaning.specs.Meaning.{In}
use Rattle.case_verdicts.specs.Table.{Relation, Table, unknown, relation, Sound}
use Rattle.case_verdicts.specs.Sheets.{ten}
use Rattle.case_verdicts.proofs.Decide.{first-all}

line_among : (rs : List Relation) (n : ℕ) → 0 < (get_or rs n unknown).parent → In (get_or rs n unknown) rs
line_among [] n h = absurd (omega arith)
line_among (r ∷ rs) zero h = inl refl
line_among (r ∷ rs) (suc n) h = inr (line_among rs n h)

-- what has a parent is one of the table's relations
relation_among : (rs : List Relation) (n : ℕ) → 0 < (relation (table_by rs) n).parent → In (relation (table_by rs) n) rs
unfolding relation
relation_among rs zero h = absurd (omega arith)
relation_among rs (suc n) h = line_among rs n h

-- a relation without parent, or one that its parent fits
abbrev pub LineSound : Table → Relation → Type 0
LineSound table r = (r.parent ≡ 0) ⊎ (((relation table r.parent).columns ≡ r.columns) × ((relation table r.parent).parent ≡ 0))

pub sound : (rs : List Relation) → ((r : Relation) → In r rs → LineSound (table_by rs) r) → Sound (table_by rs)
sound rs each = record {
  columns = λ n h. ⊎_elim (λ e. absurd (omega arith)) (λ p. p.0) (each _ (relation_among rs n h));
  parentless = λ n h. ⊎_elim (λ e. absurd (omega arith)) (λ p. p.1) (each _ (relation_among rs n h));
}

-- ---- the ten

abbrev Each : (Relation → Type 0) → List Relation → Type 0
Each P [] = Unit {0}
Each P (r ∷ t) = P r × Each P t

each_in : (P : Relation → Type 0) (t : List Relation) → Each P t → (r : Relation) → In r t → P r
each_in P [] none r m = absurd m
each_in P (q ∷ t) (p, rest) r m = first-all P q t p (each_in P t rest) r m

-- beats and noise have a parent, which fits them
ten-each : Each (LineSound ten) ten_relations
unfolding relation
ten-each = (inl refl, (inl refl, (inl refl, (inl refl, (inr (refl, refl), (inr (refl, refl), (inl refl, (inl refl, (inl refl, (inl refl, tt))))))))))

pub ten-sound : Sound ten
ten-sound = sound ten_relations (each_in (LineSound ten) ten_relations ten-each)
