-- What is numbered by first place stays as it is when it is numbered again.
use mathlib.Core.Path.{◌≡◌, refl, ap, ◌∙◌}
use mathlib.Core.Bool.{Bool, true, false, cond}
use mathlib.Core.List.{List, [], ◌∷◌, ◌++◌}
use mathlib.Core.Logic.{⊎_elim}
use Prim.Native.Nat.{ℕ, zero, suc, ◌+◌, ◌≤◌, ◌<◌}
use native.Mathlib.Omega.{arith}
use lib.Dec.{eqb, ltb}
use lib.IntN.{ℤ, pos, negsuc}
use lib.ListN.{length, length-append}
use borrow.Author.Tests.{ne_eqb, ltb-false}
use Rattle.list_laws.proofs.Order.{less?}
use Rattle.sheet_format.specs.Table.{Table}
use Rattle.sheet_format.specs.Line.{Line}
use Rattle.sheet_format.specs.Cause.{kind_of, start, next, scan, refusal_of}
use Rattle.sheet_format.specs.Answers.{Seen}
use Rattle.sheet_format.proofs.Lists.{no_way, true-false}
use Rattle.sheet_format.proofs.ScanLaws.{Clean, clean_line, accepted-scan}
use Rattle.text_laws.specs.Numbered.{place_among, known, numbered_terms, known_behind, terms_in, known_in, numbered_lines}
use Rattle.text_laws.proofs.Follows.{scan-on, no_other}
use Rattle.text_laws.proofs.Bound.{numbered_line, place-stays, place-new, place-few}

-- ---- the first n variables in their order

abbrev firsts : ℕ → List ℕ
firsts zero = []
firsts (suc n) = firsts n ++ (n ∷ [])

firsts-length : (n : ℕ) → length (firsts n) ≡ n
firsts-length zero = refl
firsts-length (suc n) = length-append (firsts n) (n ∷ []) ∙ (let e = firsts-length n in omega arith)

place_other : (v k : ℕ) (ks : List ℕ) → length ks ≤ place_among v ks → (v ≡ k → ⊥) → place_among v (ks ++ (k ∷ [])) ≡ suc (length ks)
unfolding place_among
place_other v k [] h f = rw (ne_eqb v k f)
place_other v k (x ∷ ks) h f = by (eqb v x) h (λ l. place_other v k ks l f)
  where
    by : (t : Bool) → suc (length ks) ≤ cond t 0 (suc (place_among v ks)) → (length ks ≤ place_among v ks → place_among v (ks ++ (k ∷ [])) ≡ suc (length ks)) → cond t 0 (suc (place_among v (ks ++ (k ∷ [])))) ≡ suc (suc (length ks))
    by true h r = absurd (omega arith)
    by false h r = ap suc (r (omega arith))

-- none of them is n or more
place-far : (n p : ℕ) → n ≤ p → place_among p (firsts n) ≡ n
unfolding place_among
place-far zero p h = refl
place-far (suc n) p h =
    let e = firsts-length n in
    let f = place-far n p (omega arith) in
    place_other p n (firsts n) (omega arith) (λ i. omega arith) ∙ ap suc e

place-own : (n p : ℕ) → p < n → place_among p (firsts n) ≡ p
place-own zero p h = absurd (omega arith)
place-own (suc n) p h =
    ⊎_elim
    (λ l. let e = firsts-length n in let f = place-own n p l in place-stays p (firsts n) (n ∷ []) (omega arith) ∙ f)
    (λ l. let q : p ≡ n = omega arith in rw q (place-new n (firsts n) ∙ place-far n n (omega arith)))
    (less? p n)

place-first : (n p : ℕ) → p ≤ n → place_among p (firsts n) ≡ p
place-first n p h = ⊎_elim (place-own n p) (λ l. let e = place-far n p l in omega arith) (less? p n)

-- ---- terms

known_again : (v : ℕ) (ks : List ℕ) → known (place_among v ks) (firsts (length ks)) ≡ firsts (length (known v ks))
unfolding known
known_again v ks =
    let p = place_among v ks in
    let e = place-first (length ks) p (place-few v ks) in
    rw (e, firsts-length (length ks)) (by (ltb p (length ks)) refl)
  where
    by : (t : Bool) → ltb (place_among v ks) (length ks) ≡ t → cond t (firsts (length ks)) (firsts (length ks) ++ (place_among v ks ∷ [])) ≡ firsts (length (cond t ks (ks ++ (v ∷ []))))
    by true e = refl
    by false e =
        let l = ltb-false (place_among v ks) (length ks) e in
        let f = place-few v ks in
        let q : place_among v ks ≡ length ks = omega arith in
        let n : length (ks ++ (v ∷ [])) ≡ suc (length ks) = length-append ks (v ∷ []) ∙ omega arith in
        rw (q, n)

terms_again : (ks : List ℕ) (zs : List ℤ) → (numbered_terms (firsts (length ks)) (numbered_terms ks zs) ≡ numbered_terms ks zs) × (known_behind (firsts (length ks)) (numbered_terms ks zs) ≡ firsts (length (known_behind ks zs)))
unfolding numbered_terms known_behind
terms_again ks [] = (refl, refl)
terms_again ks (pos n ∷ zs) = let r = terms_again ks zs in (ap (λ x. pos n ∷ x) r.0, r.1)
terms_again ks (negsuc v ∷ zs) =
    let r = terms_again (known v ks) zs in (
      rw (known_again v ks, place-first (length ks) (place_among v ks) (place-few v ks)) (ap (λ x. negsuc (place_among v ks) ∷ x) r.0),
      (ap (λ js. known_behind js (numbered_terms (known v ks) zs)) (known_again v ks) ∙ r.1),
    )

-- ---- lines

abbrev LineAgain : List ℕ → Line → Type 0
LineAgain ks l = (numbered_line (firsts (length ks)) (numbered_line ks l) ≡ numbered_line ks l)
    × (known_behind (known_in (firsts (length ks)) (numbered_line ks l)) (terms_in (numbered_line ks l)) ≡ firsts (length (known_behind (known_in ks l) (terms_in l))))

line_again : (table : Table) (g : Seen) (l : Line) (ks : List ℕ) → Clean table g l → LineAgain ks l
unfolding kind_of
line_again table g [] ks q = true-false q.formed
line_again table g (negsuc v ∷ zs) ks q = no_way q.placed
line_again table g (pos zero ∷ zs) ks q = no_way q.placed
line_again table g (pos (suc zero) ∷ zs) ks q = let r = terms_again [] zs in (ap (λ x. pos 1 ∷ x) r.0, r.1)
line_again table g (pos (suc (suc zero)) ∷ zs) ks q = let r = terms_again [] zs in (ap (λ x. pos 2 ∷ x) r.0, r.1)
line_again table g (pos (suc (suc (suc zero))) ∷ zs) ks q = let r = terms_again [] zs in (ap (λ x. pos 3 ∷ x) r.0, r.1)
line_again table g (pos (suc (suc (suc (suc zero)))) ∷ []) ks q = no_way q.sized
line_again table g (pos (suc (suc (suc (suc zero)))) ∷ r ∷ zs) ks q = let a = terms_again ks zs in (ap (λ x. pos 4 ∷ r ∷ x) a.0, a.1)
line_again table g (pos (suc (suc (suc (suc (suc zero))))) ∷ zs) ks q = let r = terms_again ks zs in (ap (λ x. pos 5 ∷ x) r.0, r.1)
line_again table g (pos (suc (suc (suc (suc (suc (suc n)))))) ∷ zs) ks q = no_other g (suc (suc (suc (suc (suc (suc n)))))) zs (omega arith) q.placed

lines_again : (table : Table) (ls : List Line) (ks : List ℕ) (g : Seen) (b : Line) (n : ℕ) → eqb (scan table g b n ls).number 0 ≡ true → numbered_lines (firsts (length ks)) (numbered_lines ks ls) ≡ numbered_lines ks ls
unfolding numbered_lines
lines_again table [] ks g b n s = refl
lines_again table (l ∷ ls) ks g b n s =
    let a = scan-on table g b l n ls s in
    let q = line_again table g l ks (clean_line table g b l a.0) in
    let m = numbered_line ks l in
    let js = known_behind (known_in ks l) (terms_in l) in
    ap (λ x. x ∷ numbered_lines (known_behind (known_in (firsts (length ks)) m) (terms_in m)) (numbered_lines js ls)) q.0
    ∙ ap (λ x. m ∷ numbered_lines x (numbered_lines js ls)) q.1
    ∙ ap (λ x. m ∷ x) (lines_again table ls js (next g l) l (n + 1) a.1)

-- the lines of an accepted sheet
pub numbered_again : (table : Table) (ls : List Line) → (refusal_of table ls).number ≡ 0 → numbered_lines [] (numbered_lines [] ls) ≡ numbered_lines [] ls
numbered_again table ls e = lines_again table ls [] start [] 1 (accepted-scan table ls e)
