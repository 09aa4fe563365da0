-- The listed rows taken line by line. Assumes nothing.
use mathlib.Core.Path.{◌≡◌, refl, sym, ap, ◌∙◌, subst}
use mathlib.Core.Bool.{true, false}
use mathlib.Core.List.{List, [], ◌∷◌, map}
use Prim.Native.Nat.{ℕ, suc, ◌+◌, ◌-◌, ◌*◌, ◌/◌, ◌<◌, ◌≤◌}
use native.Mathlib.Omega.{arith}
use native.Mathlib.Numerals.{add-one}
use lib.IntN.{ℤ, pos}
use lib.ListN.{length, get_or, drop, set, length-drop, length-map, drop_of_length-le, get_or-map}
use lib.Seq.{drop-cons, get_or-set_same, get_or-set_other}
use borrow.Author.Count.{below_more}
use borrow.Author.Tests.{leb-true}
use Rattle.sheet_format.specs.Limits.{most_rows}
use Rattle.tableau_layout.specs.Layout.{blocks_at, plan_numbers, rows_at}
use Rattle.list_laws.proofs.Ranges.{kept_set, kept-wide}
use Rattle.list_laws.proofs.Lists.{drop-next}
use Rattle.sheet_format.specs.Line.{Line, natural, gather, word_lines}
use Rattle.sheet_format.specs.Cause.{Kind, question, saved, view, atom, row, other, kind_at, kind, rest, possible}
use Rattle.sheet_format.proofs.Lists.{no_way}
use Rattle.query_meaning.specs.Blocks.{is_row, blocks, nth}
use Rattle.query_encoding.specs.Encoding.{padded}
use Rattle.query_blocks.proofs.Accepted.{accepted-clean}
use Rattle.query_blocks.proofs.Words.{rest-word}
use Rattle.query_blocks.proofs.Parts.{inside, formed, kind_is}
use Rattle.case_verdicts.specs.Sheets.{is_saved, is_view_kind}
use Rattle.case_verdicts.specs.Tableau.{listed}
use Rattle.case_verdicts.proofs.Sizes.{accepted-jobs}
use Rattle.tableau_plan.specs.Plan.{row_at, row_values}
use Rattle.tableau_plan.specs.Parts.{KeptOutside, ViewRow, unlisted, rows_from, RowNumbers, RowsDone}
use Rattle.query_blocks.specs.Parts.{AcceptedLines}
use Rattle.tableau_plan.proofs.Rows.{kind-natural, not_saved, not-view, not-row, rows-view, rows_row, rows_other, flat_from, rows_walked, job_of, views-all, view-jobs}

-- ---- a row of at most four values

padded-four : (r : List ℕ) → length r ≤ 4 → padded r ≡ get_or r 0 0 ∷ get_or r 1 0 ∷ get_or r 2 0 ∷ get_or r 3 0 ∷ []
padded-four [] h = refl
padded-four (a ∷ []) h = refl
padded-four (a ∷ b ∷ []) h = refl
padded-four (a ∷ b ∷ c ∷ []) h = refl
padded-four (a ∷ b ∷ c ∷ d ∷ []) h = refl
padded-four (a ∷ b ∷ c ∷ d ∷ e ∷ r) h = absurd (omega arith)

-- ---- the walk

pub done-start : (p : List ℕ) (ls : List Line) → RowsDone p ls 0 0 0
done-start p ls = record { within = omega arith; left = refl; each = λ k h. absurd (omega arith) }

-- the numbers of a row stay
pub row_same : (p q : List ℕ) (k : ℕ) (l : ViewRow) → ((c : ℕ) → c < 5 → get_or q (rows_at + k * 5 + c) 0 ≡ get_or p (rows_at + k * 5 + c) 0) → RowNumbers p k l → RowNumbers q k l
row_same p q k l e h = record {
  view = e 0 (omega arith) ∙ h.view;
  values =
      let a = e 1 (omega arith) in
      let b = e 2 (omega arith) in
      let c = e 3 (omega arith) in
      let d = e 4 (omega arith) in
      let v : row_values q k ≡ row_values p k = cc in
      v ∙ h.values;
}

module _ (p : List ℕ) (ls : List Line) (i v r : ℕ) (lt : i < length ls) (h : RowsDone p ls i v r) where
  pub done-view : kind (get_or ls i []) ≡ view → RowsDone p ls (i + 1) (v + 1) r
  done-view e = record {
    within = h.within;
    left = h.left ∙ ap (rows_from v) (drop-next ls i [] lt) ∙ rows-view v (get_or ls i []) (drop (i + 1) ls) e ∙ ap (λ u. rows_from u (drop (i + 1) ls)) (sym (add-one v));
    each = h.each;
  }

  pub done-other : is_view_kind (kind (get_or ls i [])) ≡ false → is_row (kind (get_or ls i [])) ≡ false → RowsDone p ls (i + 1) v r
  done-other e f = record {
    within = h.within;
    left = h.left ∙ ap (rows_from v) (drop-next ls i [] lt) ∙ rows_other v (get_or ls i []) (drop (i + 1) ls) e f;
    each = h.each;
  }

  -- a row's line is row r
  abbrev this : ViewRow
  this = record { view = v - 1; row = map natural (rest (get_or ls i [])) }

  ahead : kind (get_or ls i []) ≡ row → drop r (rows_from 0 ls) ≡ this ∷ rows_from v (drop (i + 1) ls)
  ahead e = h.left ∙ ap (rows_from v) (drop-next ls i [] lt) ∙ rows_row v (get_or ls i []) (drop (i + 1) ls) e

  pub one_left : kind (get_or ls i []) ≡ row → r < length (rows_from 0 ls)
  one_left e =
      let a = ap length (ahead e) in
      let b = length-drop r (rows_from 0 ls) in
      omega arith

  pub done-row : (q : List ℕ) → kind (get_or ls i []) ≡ row → ((y : ℕ) → y < rows_at + r * 5 → get_or q y 0 ≡ get_or p y 0) → RowNumbers q r this → RowsDone q ls (i + 1) v (r + 1)
  done-row q e k n =
      let w = one_left e in
      let c = sym (drop-cons (rows_from 0 ls) r unlisted w) ∙ ahead e in
      let f : get_or (rows_from 0 ls) r unlisted ≡ this = cc in
      let g : drop (suc r) (rows_from 0 ls) ≡ rows_from v (drop (i + 1) ls) = cc in
      record {
        within = omega arith;
        left = ap (λ m. drop m (rows_from 0 ls)) (add-one r) ∙ g;
        each = below_more _ r (λ j lt. row_same p q j _ (λ c f. k (rows_at + j * 5 + c) (omega arith)) (h.each j lt)) (subst (RowNumbers q r) (sym f) n);
      }

-- ---- by the words of an accepted sheet

pub few-listed : (ls : List Line) → AcceptedLines ls → length (rows_from 0 ls) ≤ most_rows
few-listed ls ok =
    let f = nth (blocks is_view_kind ls) in
    let e : length (gather listed (blocks is_view_kind ls)) ≡ length (map (job_of f) (flat_from 0 (blocks is_view_kind ls))) = ap length (view-jobs f 0 (blocks is_view_kind ls) (views-all (blocks is_view_kind ls))) in
    let m : length (map (job_of f) (flat_from 0 (blocks is_view_kind ls))) ≡ length (flat_from 0 (blocks is_view_kind ls)) = length-map (flat_from 0 (blocks is_view_kind ls)) (job_of f) in
    let w = ap length (rows_walked ls ok) in
    let j = accepted-jobs ok.0 ls ok.1 in
    omega arith

row_sized : (k : Kind) (n : ℕ) → k ≡ row → possible k n ≡ true → n ≤ 5
row_sized question n e p = let z : ◌≡◌ {A = ℕ} 0 1 = cc in absurd (omega arith)
row_sized saved n e p = let z : ◌≡◌ {A = ℕ} 0 1 = cc in absurd (omega arith)
row_sized view n e p = let z : ◌≡◌ {A = ℕ} 0 1 = cc in absurd (omega arith)
row_sized atom n e p = let z : ◌≡◌ {A = ℕ} 0 1 = cc in absurd (omega arith)
row_sized row n e p = leb-true n 5 p
row_sized other n e p = no_way p

rest-few : (l : Line) → length l ≤ 5 → length (rest l) ≤ 4
rest-few [] h = omega arith
rest-few (k ∷ l) h = omega arith

module _ (ws : List ℤ) (i : ℕ) (lt : i < length ws / 7) (a : AcceptedLines (word_lines ws)) where
  kind-number : kind (get_or (word_lines ws) i []) ≡ kind_at (natural (get_or ws (7 * i + 1) (pos 0)))
  kind-number = kind_is ws i lt a ∙ kind-natural (get_or ws (7 * i + 1) (pos 0))

  pub kind-view : natural (get_or ws (7 * i + 1) (pos 0)) ≡ 3 → kind (get_or (word_lines ws) i []) ≡ view
  kind-view e = kind-number ∙ ap kind_at e

  pub kind_row : natural (get_or ws (7 * i + 1) (pos 0)) ≡ 5 → kind (get_or (word_lines ws) i []) ≡ row
  kind_row e = kind-number ∙ ap kind_at e

  pub kind-saved : natural (get_or ws (7 * i + 1) (pos 0)) ≡ 2 → kind (get_or (word_lines ws) i []) ≡ saved
  kind-saved e = kind-number ∙ ap kind_at e

  pub kind-no-saved : (natural (get_or ws (7 * i + 1) (pos 0)) ≡ 2 → ⊥) → is_saved (kind (get_or (word_lines ws) i [])) ≡ false
  kind-no-saved e = ap is_saved kind-number ∙ not_saved _ e

  pub kind-no-view : (natural (get_or ws (7 * i + 1) (pos 0)) ≡ 3 → ⊥) → is_view_kind (kind (get_or (word_lines ws) i [])) ≡ false
  kind-no-view e = ap is_view_kind kind-number ∙ not-view _ e

  pub kind-no-row : (natural (get_or ws (7 * i + 1) (pos 0)) ≡ 5 → ⊥) → is_row (kind (get_or (word_lines ws) i [])) ≡ false
  kind-no-row e = ap is_row kind-number ∙ not-row _ e

  -- the values of a row's line
  line-value : (c : ℕ) → c < 4 → natural (get_or ws (7 * i + 2 + c) (pos 0)) ≡ get_or (map natural (rest (get_or (word_lines ws) i []))) c 0
  line-value c h = ap natural (sym (rest-word ws i lt (formed ws i lt a) c (omega arith))) ∙ sym (get_or-map natural (rest (get_or (word_lines ws) i [])) c (pos 0))

  pub line-values : (q : List ℕ) (r : ℕ) → kind (get_or (word_lines ws) i []) ≡ row → ((c : ℕ) → c < 4 → get_or q (rows_at + r * 5 + 1 + c) 0 ≡ natural (get_or ws (7 * i + 2 + c) (pos 0)))
      → row_values q r ≡ padded (map natural (rest (get_or (word_lines ws) i [])))
  line-values q r e h =
      let s = rest-few (get_or (word_lines ws) i []) (row_sized _ _ e (accepted-clean a.0 (word_lines ws) a.1 i (inside ws i lt a)).1.sized) in
      let n = length-map (rest (get_or (word_lines ws) i [])) natural in
      let o = padded-four (map natural (rest (get_or (word_lines ws) i []))) (omega arith) in
      let v0 : row_at q r 1 ≡ get_or (map natural (rest (get_or (word_lines ws) i []))) 0 0 = place 1 0 refl ∙ h 0 (omega arith) ∙ line-value 0 (omega arith) in
      let v1 : row_at q r 2 ≡ get_or (map natural (rest (get_or (word_lines ws) i []))) 1 0 = place 2 1 refl ∙ h 1 (omega arith) ∙ line-value 1 (omega arith) in
      let v2 : row_at q r 3 ≡ get_or (map natural (rest (get_or (word_lines ws) i []))) 2 0 = place 3 2 refl ∙ h 2 (omega arith) ∙ line-value 2 (omega arith) in
      let v3 : row_at q r 4 ≡ get_or (map natural (rest (get_or (word_lines ws) i []))) 3 0 = place 4 3 refl ∙ h 3 (omega arith) ∙ line-value 3 (omega arith) in
      let all : row_values q r ≡ get_or (map natural (rest (get_or (word_lines ws) i []))) 0 0 ∷ get_or (map natural (rest (get_or (word_lines ws) i []))) 1 0 ∷ get_or (map natural (rest (get_or (word_lines ws) i []))) 2 0 ∷ get_or (map natural (rest (get_or (word_lines ws) i []))) 3 0 ∷ [] = cc in
      all ∙ sym o
    where
      place : (c d : ℕ) → c ≡ 1 + d → row_at q r c ≡ get_or q (rows_at + r * 5 + 1 + d) 0
      place c d e = ap (λ y. get_or q y 0) (let z : rows_at + r * 5 + c ≡ rows_at + r * 5 + 1 + d = omega arith in z)

-- ---- the stores for a row: its values, and then its view

pub row_kept : (p q : List ℕ) (r u : ℕ) → r < most_rows → KeptOutside p q (rows_at + r * 5 + 1) (rows_at + r * 5 + 1 + 4) → KeptOutside p (set q (rows_at + r * 5) u) rows_at blocks_at
row_kept p q r u lt k =
    kept_set p q rows_at blocks_at (rows_at + r * 5) u (omega arith) (omega arith) (kept-wide p q (rows_at + r * 5 + 1) (rows_at + r * 5 + 1 + 4) rows_at blocks_at (omega arith) (omega arith) k)

pub row-taken : (ws : List ℤ) (i : ℕ) → i < length ws / 7 → AcceptedLines (word_lines ws) → (p q : List ℕ) (v r u : ℕ) → r < most_rows → length p ≡ plan_numbers → KeptOutside p q (rows_at + r * 5 + 1) (rows_at + r * 5 + 1 + 4)
    → ((c : ℕ) → c < 4 → get_or q (rows_at + r * 5 + 1 + c) 0 ≡ natural (get_or ws (7 * i + 2 + c) (pos 0))) → u ≡ v - 1 → natural (get_or ws (7 * i + 1) (pos 0)) ≡ 5
    → RowsDone p (word_lines ws) i v r → RowsDone (set q (rows_at + r * 5) u) (word_lines ws) (i + 1) v (r + 1)
row-taken ws i lt a p q v r u few s k xs e is h =
    let kr = kind_row ws i lt a is in
    let t = k.same in
    let z : rows_at + r * 5 + 0 ≡ rows_at + r * 5 = omega arith in
    done-row p (word_lines ws) i v r (inside ws i lt a) h (set q (rows_at + r * 5) u) kr
    (λ y l. get_or-set_other q (rows_at + r * 5) y u 0 (λ g. absurd (omega arith)) ∙ k.below y (omega arith))
    (record {
      view = ap (λ y. get_or (set q (rows_at + r * 5) u) y 0) z ∙ get_or-set_same q (rows_at + r * 5) u 0 (omega arith) ∙ e;
      values = line-values ws i lt a (set q (rows_at + r * 5) u) r kr (λ c l. get_or-set_other q (rows_at + r * 5) (rows_at + r * 5 + 1 + c) u 0 (λ g. absurd (omega arith)) ∙ xs c l);
    })

-- all lines have been walked: all rows have been taken
pub all-taken : (p : List ℕ) (ls : List Line) (i v r : ℕ) → length ls ≤ i → RowsDone p ls i v r → r ≡ length (rows_from 0 ls)
unfolding rows_from
all-taken p ls i v r le h =
    let a = ap length (h.left ∙ ap (rows_from v) (drop_of_length-le ls le)) in
    let b = length-drop r (rows_from 0 ls) in
    let w = h.within in
    omega arith
