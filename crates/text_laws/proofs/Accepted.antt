-- A sheet that is accepted is accepted with its variables numbered by first place.
use mathlib.Core.Path.{◌≡◌, refl, ap}
use mathlib.Core.Bool.{Bool, true, false, not, ◌&&◌}
use mathlib.Core.List.{List, [], ◌∷◌}
use mathlib.Core.Logic.{⊎_elim}
use Prim.Native.Nat.{ℕ, zero, suc, ◌+◌, ◌<◌}
use native.Mathlib.Omega.{arith}
use lib.Dec.{eqb, ltb}
use lib.IntN.{ℤ, pos, negsuc}
use lib.ListN.{length}
use borrow.Author.Tests.{eqb-true, eq-eqb, ltb-true, lt-ltb, not-false}
use Rattle.list_laws.proofs.Order.{less?}
use Rattle.sheet_format.specs.Limits.{most_variables}
use Rattle.sheet_format.specs.Table.{Table}
use Rattle.sheet_format.specs.Line.{Line, all}
use Rattle.sheet_format.specs.Cause.{kind_of, rest, term_of, term, constant, above, cause, start, next, scan, heads, refusal_of}
use Rattle.sheet_format.specs.Answers.FieldTerm.{Variable}
use Rattle.sheet_format.specs.Answers.{Seen}
use Rattle.sheet_format.proofs.Lists.{no_way, true-false, and_left, and_right, and_both}
use Rattle.sheet_format.proofs.ScanLaws.{Clean, clean_line, accepted-scan}
use Rattle.text_laws.specs.Numbered.{place_among, known, known_after, numbered_terms, known_behind, terms_in, known_in, numbered_lines}
use Rattle.text_laws.proofs.Few.{few}
use Rattle.text_laws.proofs.Terms.{Below, new-fresh, in-range, term-token, terms-below}
use Rattle.text_laws.proofs.Lines.{constants-kept}
use Rattle.text_laws.proofs.Follows.{scan-on, no_other}
use Rattle.text_laws.proofs.Bound.{numbered_line, place-few, heads-kept}

-- ---- terms

terms-length : (ks : List ℕ) (zs : List ℤ) → length (numbered_terms ks zs) ≡ length zs
unfolding numbered_terms
terms-length ks [] = refl
terms-length ks (z ∷ zs) = ap suc (terms-length (known_after ks z) zs)

place-below : (v : ℕ) (ks : List ℕ) → v < most_variables → Below ks → place_among v ks < most_variables
place-below v ks h b =
    ⊎_elim (λ l. let f = few most_variables ks b in omega arith)
    (λ l. let f = few most_variables (v ∷ ks) (h, new-fresh v ks l, b) in let p = place-few v ks in omega arith)
    (less? (place_among v ks) (length ks))

terms-range : (zs : List ℤ) (ks : List ℕ) → all term zs ≡ true → Below ks → all term (numbered_terms ks zs) ≡ true
unfolding numbered_terms term_of
terms-range [] ks e b = refl
terms-range (pos n ∷ zs) ks e b = and_both (term (pos n)) (all term (numbered_terms ks zs)) (and_left (term (pos n)) (all term zs) e) (terms-range zs ks (and_right (term (pos n)) (all term zs) e) b)
terms-range (negsuc v ∷ zs) ks e b =
    let t = and_left (term (negsuc v)) (all term zs) e in
    let h = ltb-true v most_variables (in-range (ltb v most_variables) (Variable (suc v)) t) in
    and_both (term (negsuc (place_among v ks))) (all term (numbered_terms (known v ks) zs)) (rw (lt-ltb (place_among v ks) most_variables (place-below v ks h b)))
    (terms-range zs (known v ks) (and_right (term (negsuc v)) (all term zs) e) (term-token (negsuc v) ks t b).below)

-- ---- a line

-- a line is judged as before, and leaves the same
record Kept (table : Table) (g : Seen) (b c l : Line) (ks : List ℕ) : Type 0 where
  causes : cause table g c (numbered_line ks l) ≡ cause table g b l
  nexts : next g (numbered_line ks l) ≡ next g l
  below : Below (known_behind (known_in ks l) (terms_in l))
  rows : (next g l).last ≡ 5 → rest (numbered_line ks l) ≡ rest l

row_same : (last : ℕ) (b c : Line) (zs : List ℤ) → (last ≡ 5 → rest c ≡ rest b) → (eqb last 5 && not (above (rest c) zs)) ≡ (eqb last 5 && not (above (rest b) zs))
row_same last b c zs h = by (eqb last 5) refl
  where
    by : (t : Bool) → eqb last 5 ≡ t → (t && not (above (rest c) zs)) ≡ (t && not (above (rest b) zs))
    by true e = ap (λ x. not (above x zs)) (h (eqb-true last 5 e))
    by false e = refl

line_kept : (table : Table) (g : Seen) (b c l : Line) (ks : List ℕ) → Clean table g l → Below ks → (g.last ≡ 5 → rest c ≡ rest b) → Kept table g b c l ks
unfolding kind_of next cause
line_kept table g b c [] ks q d h = true-false q.formed
line_kept table g b c (negsuc v ∷ zs) ks q d h = no_way q.placed
line_kept table g b c (pos zero ∷ zs) ks q d h = no_way q.placed
line_kept table g b c (pos (suc zero) ∷ zs) ks q d h =
    let t = not-false (all term zs) q.ranged in
    record { causes = rw (terms-length [] zs, terms-range zs [] t tt, t); nexts = rw (terms-length [] zs); below = terms-below zs [] t tt; rows = λ e. absurd (omega arith) }
line_kept table g b c (pos (suc (suc zero)) ∷ zs) ks q d h =
    let t = not-false (all term zs) q.ranged in
    record { causes = rw (terms-length [] zs, terms-range zs [] t tt, t); nexts = rw (terms-length [] zs); below = terms-below zs [] t tt; rows = λ e. absurd (omega arith) }
line_kept table g b c (pos (suc (suc (suc zero))) ∷ zs) ks q d h =
    let t = not-false (all term zs) q.ranged in
    record { causes = rw (terms-length [] zs, terms-range zs [] t tt, t); nexts = rw (terms-length [] zs); below = terms-below zs [] t tt; rows = λ e. absurd (omega arith) }
line_kept table g b c (pos (suc (suc (suc (suc zero)))) ∷ []) ks q d h = no_way q.sized
line_kept table g b c (pos (suc (suc (suc (suc zero)))) ∷ r ∷ zs) ks q d h =
    let t = not-false (all term zs) q.ranged in
    record { causes = rw (terms-length ks zs, terms-range zs ks t d, t); nexts = refl; below = terms-below zs ks t d; rows = λ e. absurd (omega arith) }
line_kept table g b c (pos (suc (suc (suc (suc (suc zero))))) ∷ zs) ks q d h =
    let k = constants-kept zs ks (not-false (all constant zs) q.ranged) in
    record { causes = rw (k.0, row_same g.last b c zs h); nexts = refl; below = rw k.1 d; rows = λ e. k.0 }
line_kept table g b c (pos (suc (suc (suc (suc (suc (suc n)))))) ∷ zs) ks q d h = no_other g (suc (suc (suc (suc (suc (suc n)))))) zs (omega arith) q.placed

-- ---- all lines

scan-kept : (table : Table) (ls : List Line) (ks : List ℕ) (g : Seen) (b c : Line) (n : ℕ) → Below ks → (g.last ≡ 5 → rest c ≡ rest b) → eqb (scan table g b n ls).number 0 ≡ true → eqb (scan table g c n (numbered_lines ks ls)).number 0 ≡ true
unfolding scan numbered_lines
scan-kept table [] ks g b c n d h s = s
scan-kept table (l ∷ ls) ks g b c n d h s =
    let a = scan-on table g b l n ls s in
    let k = line_kept table g b c l ks (clean_line table g b l a.0) d h in
    rw (k.causes, a.0, k.nexts) (scan-kept table ls (known_behind (known_in ks l) (terms_in l)) (next g l) l (numbered_line ks l) (n + 1) k.below k.rows a.1)

pub numbered-accepted : (table : Table) (ls : List Line) → (refusal_of table ls).number ≡ 0 → (refusal_of table (numbered_lines [] ls)).number ≡ 0
unfolding refusal_of
numbered-accepted table ls e =
    let s = accepted-scan table ls e in
    let h : (heads 1 ls).number ≡ 0 = rw s at e in
    rw (scan-kept table ls [] start [] [] 1 tt (λ i. refl) s) (eqb-true (heads 1 (numbered_lines [] ls)).number 0 (heads-kept ls [] 1 (eq-eqb (heads 1 ls).number 0 h)))
