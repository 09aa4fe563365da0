-- Laws of a table's numbers: what stands where, and one relation more.
use mathlib.Core.Path.{◌≡◌, refl, ap, ◌∙◌}
use mathlib.Core.List.{List, [], ◌∷◌, ◌++◌}
use Prim.Native.Nat.{ℕ, zero, suc, ◌+◌, ◌*◌, ◌<◌}
use native.Mathlib.Omega.{arith}
use lib.ListN.{length, get_or, drop, set}
use Rattle.sheet_format.specs.Table.{Relation, unknown}
use Rattle.sheet_table.specs.Numbers.{relation_numbers, numbers_of, relation_put}

pub numbers-length : (k : ℕ) (rs : List Relation) → length (numbers_of k rs) ≡ k * 3
unfolding numbers_of
numbers-length zero rs = refl
numbers-length (suc k) rs = let h = numbers-length k (drop 1 rs) in omega arith

later : (rs : List Relation) (n : ℕ) → get_or (drop 1 rs) n unknown ≡ get_or rs (suc n) unknown
later [] n = refl
later (r ∷ rs) n = refl

first : (r : Relation) (l : List ℕ) (j : ℕ) → j < 3 → get_or (relation_numbers r ++ l) j 0 ≡ get_or (relation_numbers r) j 0
first r l zero lt = refl
first r l (suc zero) lt = refl
first r l (suc (suc zero)) lt = refl
first r l (suc (suc (suc j))) lt = absurd (omega arith)

-- number j of relation n, both from 0
pub numbers-at : (k n j : ℕ) (rs : List Relation) → n < k → j < 3 → get_or (numbers_of k rs) (n * 3 + j) 0 ≡ get_or (relation_numbers (get_or rs n unknown)) j 0
unfolding numbers_of
numbers-at zero n j rs lt h = absurd (omega arith)
numbers-at (suc k) zero j rs lt h =
    let l = numbers_of k (drop 1 rs) in
    let r = get_or rs 0 unknown in
    ap (λ i. get_or (relation_numbers r ++ l) i 0) (let e : 0 * 3 + j ≡ j = omega arith in e) ∙ first r l j h
numbers-at (suc k) (suc n) j rs lt h =
    let l = numbers_of k (drop 1 rs) in
    let r = get_or rs 0 unknown in
    ap (λ i. get_or (relation_numbers r ++ l) i 0) (let e : suc n * 3 + j ≡ suc (suc (suc (n * 3 + j))) = omega arith in e)
    ∙ numbers-at k n j (drop 1 rs) (omega arith) h
    ∙ ap (λ x. get_or (relation_numbers x) j 0) (later rs n)

put-past : (a b d : ℕ) (l : List ℕ) (n c k p : ℕ) → relation_put (a ∷ b ∷ d ∷ l) (suc n) c k p ≡ a ∷ b ∷ d ∷ relation_put l n c k p
unfolding relation_put
put-past a b d l n c k p =
    let m = a ∷ b ∷ d ∷ l in
    ap (λ i. set (set (set m i c) (suc n * 3 + 1) k) (suc n * 3 + 2) p) (let e : suc n * 3 ≡ suc (suc (suc (n * 3))) = omega arith in e)
    ∙ ap (λ i. set (set (a ∷ b ∷ d ∷ set l (n * 3) c) i k) (suc n * 3 + 2) p) (let e : suc n * 3 + 1 ≡ suc (suc (suc (n * 3 + 1))) = omega arith in e)
    ∙ ap (λ i. set (a ∷ b ∷ d ∷ set (set l (n * 3) c) (n * 3 + 1) k) i p) (let e : suc n * 3 + 2 ≡ suc (suc (suc (n * 3 + 2))) = omega arith in e)

-- the relation that follows the others
pub numbers_more : (k : ℕ) (rs : List Relation) (r : Relation) → length rs < k → relation_put (numbers_of k rs) (length rs) r.columns r.key r.parent ≡ numbers_of k (rs ++ (r ∷ []))
unfolding numbers_of relation_put
numbers_more zero rs r lt = absurd (omega arith)
numbers_more (suc k) [] r lt = here (numbers_of k [])
  where
    here : (l : List ℕ) → relation_put (0 ∷ 0 ∷ 0 ∷ l) 0 r.columns r.key r.parent ≡ r.columns ∷ r.key ∷ r.parent ∷ l
    here l = refl
numbers_more (suc k) (q ∷ rs) r lt =
    put-past q.columns q.key q.parent (numbers_of k rs) (length rs) r.columns r.key r.parent
    ∙ ap (λ l. relation_numbers q ++ l) (numbers_more k rs r (omega arith))
