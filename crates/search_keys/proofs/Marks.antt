-- Marking by which words two atoms are alike in a key, and the rows that it makes one. Assumes nothing.
use mathlib.Core.Path.{◌≡◌, refl, sym, ap, subst}
use mathlib.Core.List.{List, [], ◌∷◌}
use Prim.Native.Nat.{ℕ, zero, suc, ◌*◌, ◌<◌, ◌≤◌}
use native.Mathlib.Nat.{add-zero}
use native.Mathlib.Omega.{arith}
use lib.ListN.{get_or}
use Rattle.case_verdicts.specs.Sheets.{top}
use Rattle.case_verdicts.specs.Tableau.{State}
use Rattle.tableau_plan.specs.Plan.{key_in, slot_value, tableau_at}
use Rattle.search_slots.specs.Slots.{SetWithin}
use Rattle.search_links.specs.Links.{value_under}
use Rattle.search_reasons.specs.Reasons.{Obeys}
use Rattle.search_reasons.proofs.Laws.{obeys-less}
use Rattle.search_keys.specs.Clashes.{column_place, end_at, KeyMarked, ValueMarked, RowMarked, ClashShown}

within : (a b c : List ℕ) → SetWithin a b → SetWithin b c → SetWithin a c
within a b c f g n e = g n (f n e)

-- the relation of an atom
pub relation-at : (p : List ℕ) (i : ℕ) → get_or p (i * 5) 0 ≡ tableau_at p i 0
relation-at p i = ap (λ n. get_or p n 0) (sym (add-zero (i * 5)))

-- ---- the rows

pub row-marked : (p ws : List ℕ) (i key : ℕ) {s0 s1 s2 s3 s4 : List ℕ} {a b c d : ℕ} → ValueMarked p ws i key 0 s0 s1 a → ValueMarked p ws i key 1 s1 s2 b → ValueMarked p ws i key 2 s2 s3 c → ValueMarked p ws i key 3 s3 s4 d
    → RowMarked p ws i key s0 s4 (a ∷ b ∷ c ∷ d ∷ [])
row-marked p ws i key {s0} {s1} {s2} {s3} {s4} {a} {b} {c} {d} w x y z = record {
  more = λ n h. z.more n (y.more n (x.more n (w.more n h)));
  size = refl;
  zero = zeros;
  rest = rests;
  reads = reads;
}
  where
    zeros : (k : ℕ) → k < 4 → k < key → get_or (a ∷ b ∷ c ∷ d ∷ []) k 0 ≡ 0
    zeros zero lt h = w.zero h
    zeros (suc zero) lt h = x.zero h
    zeros (suc (suc zero)) lt h = y.zero h
    zeros (suc (suc (suc zero))) lt h = z.zero h
    zeros (suc (suc (suc (suc k)))) lt h = absurd (omega arith)

    rests : (k : ℕ) → k < 4 → key ≤ k → get_or (a ∷ b ∷ c ∷ d ∷ []) k 0 ≡ end_at p ws i k
    rests zero lt h = w.rest h
    rests (suc zero) lt h = x.rest h
    rests (suc (suc zero)) lt h = y.rest h
    rests (suc (suc (suc zero))) lt h = z.rest h
    rests (suc (suc (suc (suc k)))) lt h = absurd (omega arith)

    down3 : (t : State) → Obeys t ws s4 → Obeys t ws s3
    down3 t o = obeys-less t ws s3 s4 z.more o

    down2 : (t : State) → Obeys t ws s4 → Obeys t ws s2
    down2 t o = obeys-less t ws s2 s3 y.more (down3 t o)

    down1 : (t : State) → Obeys t ws s4 → Obeys t ws s1
    down1 t o = obeys-less t ws s1 s2 x.more (down2 t o)

    reads : (k : ℕ) → k < 4 → key ≤ k → (t : State) → Obeys t ws s4 → slot_value t (column_place p i k) ≡ value_under top t (get_or (a ∷ b ∷ c ∷ d ∷ []) k 0)
    reads zero lt h t o = w.reads h t (down1 t o)
    reads (suc zero) lt h t o = x.reads h t (down2 t o)
    reads (suc (suc zero)) lt h t o = y.reads h t (down3 t o)
    reads (suc (suc (suc zero))) lt h t o = z.reads h t o
    reads (suc (suc (suc (suc k)))) lt h t o = absurd (omega arith)

-- ---- together

row-still : {p ws : List ℕ} {i key : ℕ} {old set more row : List ℕ} → RowMarked p ws i key old set row → SetWithin set more → RowMarked p ws i key more more row
row-still {p} {ws} {i} {key} {old} {set} {more} {row} m w = record {
  more = λ n h. h;
  size = m.size;
  zero = m.zero;
  rest = m.rest;
  reads = λ c lt h t o. m.reads c lt h t (obeys-less t ws set more w o);
}

pub clash-shown : (p ws : List ℕ) (i k key : ℕ) {s0 s1 s2 s3 u v : List ℕ} → key ≡ key_in p (tableau_at p i 0) → KeyMarked p ws i k key s0 s1 → RowMarked p ws i key s1 s2 u → RowMarked p ws k key s2 s3 v
    → ClashShown p ws i k s3 u v
clash-shown p ws i k key {s0} {s1} {s2} {s3} {u} {v} e m a b = record {
  first = λ c lt same t o. m.reads c (subst (λ n. c < n) (sym e) lt) same t (obeys-less t ws s1 s2 a.more (obeys-less t ws s2 s3 b.more o));
  left = subst (λ n. RowMarked p ws i n s3 s3 u) e (row-still a b.more);
  right = subst (λ n. RowMarked p ws k n s3 s3 v) e (row-still b (λ n h. h));
}
