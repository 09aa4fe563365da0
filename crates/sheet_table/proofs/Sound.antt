-- A table that is not refused is sound: its relations have columns, keys shorter than these, and parents that fit.
use mathlib.Core.Path.{◌≡◌, refl, sym, ap, ◌∙◌, subst}
use mathlib.Core.Bool.{Bool, true, false, cond, ◌&&◌, ◌||◌}
use mathlib.Core.List.{List, [], ◌∷◌, ◌++◌, map, append_assoc, append-nil}
use mathlib.Core.Logic.{◌⊎◌, inl, inr, ⊎_elim}
use Prim.Native.Nat.{ℕ, zero, suc, ◌+◌, ◌<◌, ◌≤◌}
use native.Mathlib.Omega.{arith}
use borrow.Author.Tests.{eqb-true, leb-true, ltb-true, ltb-false}
use lib.Dec.{eqb, ltb, leb}
use lib.ListN.{length, get_or, length-append, get_or-append, get_or-eq_default}
use lib.Seq.{get_or-append_seam}
use Rattle.sheet_format.specs.Limits.{most_relations, most_columns}
use Rattle.sheet_format.specs.Table.{Relation, unknown, relation, Sound, table_by}
use Rattle.sheet_format.specs.Line.{Line, null, byte_lines}
use Rattle.sheet_format.specs.Cause.{refusal}
use Rattle.sheet_format.proofs.Lists.{both}
use Rattle.sheet_table.specs.Tables.{number_in, relation_on_line, four_fields, in_order, columns_right, key_right, parent_right, relation_right, line_right, lines_refusal, table_refusal, relations_of, table_of}

-- r's parent is one of rs, and fits
pub record FittingParent (rs : List Relation) (r : Relation) : Type 0 where
  pub lower : r.parent ≤ length rs
  pub columns : (relation (table_by rs) r.parent).columns ≡ r.columns
  pub parentless : (relation (table_by rs) r.parent).parent ≡ 0

pub record RightRelation (rs : List Relation) (r : Relation) : Type 0 where
  pub some : 1 ≤ r.columns
  pub few : r.columns ≤ most_columns
  pub key : r.key < r.columns
  pub parent : (r.parent ≡ 0) ⊎ FittingParent rs r

pub record RightTable (rs : List Relation) : Type 0 where
  pub each : (n : ℕ) → n < length rs → RightRelation rs (get_or rs n unknown)

-- ---- a relation more

relation-front : (rs us : List Relation) (p : ℕ) → p ≤ length rs → relation (table_by (rs ++ us)) p ≡ relation (table_by rs) p
unfolding relation
relation-front rs us zero le = refl
relation-front rs us (suc p) le = get_or-append rs us unknown p (omega arith)

right-more : (rs us : List Relation) (r : Relation) → RightRelation rs r → RightRelation (rs ++ us) r
right-more rs us r h = record { some = h.some; few = h.few; key = h.key; parent = ⊎_elim inl (λ p. inr (fits p)) h.parent }
  where
    fits : FittingParent rs r → FittingParent (rs ++ us) r
    fits p =
        let e = relation-front rs us r.parent p.lower in
        let l = length-append rs us in
        let b = p.lower in
        record { lower = omega arith; columns = ap (λ q. q.columns) e ∙ p.columns; parentless = ap (λ q. q.parent) e ∙ p.parentless }

either : (a b : Bool) → (a || b) ≡ true → (a ≡ true) ⊎ (b ≡ true)
either true b e = inl refl
either false b e = inr e

parent-fits : (rs : List Relation) (r : Relation) → parent_right rs r ≡ true → (r.parent ≡ 0) ⊎ FittingParent rs r
parent-fits rs r e = ⊎_elim (λ z. inl (eqb-true r.parent 0 z)) (λ h. inr (fits h)) (either (eqb r.parent 0) _ e)
  where
    fits : (leb r.parent (length rs) && (eqb (relation (table_by rs) r.parent).columns r.columns && eqb (relation (table_by rs) r.parent).parent 0)) ≡ true → FittingParent rs r
    fits h =
        let (a, b) = both (leb r.parent (length rs)) (eqb (relation (table_by rs) r.parent).columns r.columns && eqb (relation (table_by rs) r.parent).parent 0) h in
        let (x, y) = both (eqb (relation (table_by rs) r.parent).columns r.columns) (eqb (relation (table_by rs) r.parent).parent 0) b in
        record { lower = leb-true r.parent (length rs) a; columns = eqb-true (relation (table_by rs) r.parent).columns r.columns x; parentless = eqb-true (relation (table_by rs) r.parent).parent 0 y }

line-fits : (rs : List Relation) (l : Line) → line_right rs l ≡ true → RightRelation rs (relation_on_line l)
unfolding line_right
line-fits rs l e =
    let r = relation_on_line l in
    let h = (both (four_fields l) (relation_right rs (number_in l) r) e).1 in
    let i = (both (in_order rs (number_in l)) (columns_right r && (key_right r && parent_right rs r)) h).1 in
    let (c, j) = both (columns_right r) (key_right r && parent_right rs r) i in
    let (k, p) = both (key_right r) (parent_right rs r) j in
    let (s, f) = both (leb 1 r.columns) (leb r.columns most_columns) c in
    record { some = leb-true 1 r.columns s; few = leb-true r.columns most_columns f; key = ltb-true r.key r.columns k; parent = parent-fits rs r p }

one_more : (rs : List Relation) (r : Relation) → RightTable rs → RightRelation rs r → RightTable (rs ++ (r ∷ []))
one_more rs r h q = record { each = λ n lt. go n lt (ltb n (length rs)) refl }
  where
    go : (n : ℕ) → n < length (rs ++ (r ∷ [])) → (b : Bool) → ltb n (length rs) ≡ b → RightRelation (rs ++ (r ∷ [])) (get_or (rs ++ (r ∷ [])) n unknown)
    go n lt true e =
        let i = ltb-true n (length rs) e in
        subst (RightRelation (rs ++ (r ∷ []))) (sym (get_or-append rs (r ∷ []) unknown n i)) (right-more rs (r ∷ []) (get_or rs n unknown) (h.each n i))
    go n lt false e =
        let l = length-append rs (r ∷ []) in
        let i = ltb-false n (length rs) e in
        let k : length rs ≡ n = omega arith in
        subst (RightRelation (rs ++ (r ∷ []))) (sym (get_or-append_seam rs r [] unknown) ∙ ap (λ m. get_or (rs ++ (r ∷ [])) m unknown) k) (right-more rs (r ∷ []) r q)

-- ---- all lines

passed-line : (rs : List Relation) (l : Line) (ls : List Line) → (lines_refusal rs (l ∷ ls)).number ≡ 0 → (length rs < most_relations) × (line_right rs l ≡ true) × ((lines_refusal (rs ++ (relation_on_line l ∷ [])) ls).number ≡ 0)
unfolding lines_refusal
passed-line rs l ls h = go (ltb (length rs) most_relations && line_right rs l) refl h
  where
    go : (b : Bool) → ltb (length rs) most_relations && line_right rs l ≡ b → (cond b (lines_refusal (rs ++ (relation_on_line l ∷ [])) ls) (refusal 15 (length rs + 1))).number ≡ 0
        → (length rs < most_relations) × (line_right rs l ≡ true) × ((lines_refusal (rs ++ (relation_on_line l ∷ [])) ls).number ≡ 0)
    go true e z = let (a, b) = both (ltb (length rs) most_relations) (line_right rs l) e in (ltb-true (length rs) most_relations a, b, z)
    go false e z = absurd (omega arith)

lines-right : (ls : List Line) (rs : List Relation) → (lines_refusal rs ls).number ≡ 0 → RightTable rs → length rs ≤ most_relations → RightTable (rs ++ map relation_on_line ls) × (length (rs ++ map relation_on_line ls) ≤ most_relations)
lines-right [] rs h g le = rw (append-nil rs) (g, le)
lines-right (l ∷ ls) rs h g le =
    let (lt, r, z) = passed-line rs l ls h in
    let n = length-append rs (relation_on_line l ∷ []) in
    rw (sym (append_assoc rs (relation_on_line l ∷ []) (map relation_on_line ls)))
    (lines-right ls (rs ++ (relation_on_line l ∷ [])) z (one_more rs (relation_on_line l) g (line-fits rs l r)) (omega arith))

no-relations : RightTable []
no-relations = record { each = λ n lt. absurd (omega arith) }

taken-lines : (s : List ℕ) → (table_refusal s).number ≡ 0 → (lines_refusal [] (byte_lines s)).number ≡ 0
unfolding table_refusal
taken-lines s h = go (null (byte_lines s)) h
  where
    go : (b : Bool) → (cond b (refusal 15 0) (lines_refusal [] (byte_lines s))).number ≡ 0 → (lines_refusal [] (byte_lines s)).number ≡ 0
    go true e = absurd (omega arith)
    go false e = e

-- ---- the theorems: of a table that is not refused

pub table-right : (s : List ℕ) → (table_refusal s).number ≡ 0 → RightTable (relations_of s)
unfolding relations_of
table-right s h = (lines-right (byte_lines s) [] (taken-lines s h) no-relations (omega arith)).0

-- it has at most 32 relations
pub table-few : (s : List ℕ) → (table_refusal s).number ≡ 0 → length (relations_of s) ≤ most_relations
unfolding relations_of
table-few s h = (lines-right (byte_lines s) [] (taken-lines s h) no-relations (omega arith)).1

-- a relation with columns, or with a parent, is one of them
one_of : (rs : List Relation) (n : ℕ) → (get_or rs n unknown ≡ unknown → ⊥) → n < length rs
one_of rs n h = go (ltb n (length rs)) refl
  where
    go : (b : Bool) → ltb n (length rs) ≡ b → n < length rs
    go true e = ltb-true n (length rs) e
    go false e = absurd (h (get_or-eq_default rs unknown (ltb-false n (length rs) e)))

right-sound : (rs : List Relation) → RightTable rs → (n : ℕ) → 0 < (relation (table_by rs) n).parent → FittingParent rs (relation (table_by rs) n)
unfolding relation
right-sound rs h zero lt = absurd (omega arith)
right-sound rs h (suc n) lt =
    let i = one_of rs n (λ e. let q : (get_or rs n unknown).parent ≡ 0 = ap (λ r. r.parent) e in omega arith) in
    ⊎_elim (λ z. absurd (omega arith)) (λ p. p) (h.each n i).parent

-- a parent has as many columns as its relation, and has no parent
pub table-sound : (s : List ℕ) → (table_refusal s).number ≡ 0 → Sound (table_of s)
unfolding table_of
table-sound s h = record {
  columns = λ n lt. (right-sound (relations_of s) (table-right s h) n lt).columns;
  parentless = λ n lt. (right-sound (relations_of s) (table-right s h) n lt).parentless;
}

right-keys : (rs : List Relation) → RightTable rs → (n : ℕ) → 0 < (relation (table_by rs) n).columns → (relation (table_by rs) n).key < (relation (table_by rs) n).columns
unfolding relation
right-keys rs h zero lt = absurd (omega arith)
right-keys rs h (suc n) lt = (h.each n (one_of rs n (λ e. let q : (get_or rs n unknown).columns ≡ 0 = ap (λ r. r.columns) e in omega arith))).key

-- a key is shorter than the columns
pub table-keys : (s : List ℕ) → (table_refusal s).number ≡ 0 → (n : ℕ) → 0 < (relation (table_of s) n).columns → (relation (table_of s) n).key < (relation (table_of s) n).columns
unfolding table_of
table-keys s h = right-keys (relations_of s) (table-right s h)
