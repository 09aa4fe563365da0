-- A replacement leaves fewer made-up values in the slots, so a search comes to its end.
use mathlib.Core.Path.{◌≡◌, refl, sym, ap, ◌∙◌, subst}
use mathlib.Core.Bool.{Bool, true, false, cond}
use mathlib.Core.List.{List, [], ◌∷◌, map}
use mathlib.Core.Logic.{◌⊎◌, inl, inr, ⊎_elim}
use Prim.Native.Nat.{ℕ, ◌<◌, ◌≤◌}
use native.Mathlib.Omega.{arith}
use lib.Dec.{ltb}
use lib.ListN.{length}
use borrow.Author.Tests.{ltb-false, le-ltb}
use Rattle.query_meaning.specs.Meaning.{In}
use Rattle.query_blocks.proofs.Shape.{in_map, from-map}
use Rattle.case_verdicts.specs.Tableau.{State}
use Rattle.case_verdicts.specs.Search.{Equation, ◌≈◌, equations, Unifier, replace, after}
use Rattle.case_verdicts.proofs.Distinct.{taken_out, in_without, without_fewer, at_most, once, of_once, in-once, once-distinct}
use Rattle.case_verdicts.proofs.Decide.{same?, row?}
use Rattle.case_verdicts.proofs.Unify.{replace-same, replace-other}

abbrev made : ℕ → List ℕ → List ℕ
made top [] = []
made top (n ∷ l) = cond (ltb n top) (made top l) (n ∷ made top l)

of_made : (top k : ℕ) (l : List ℕ) → In k (made top l) → In k l × (top ≤ k)
of_made top k [] m = elim m [ ]
of_made top k (n ∷ l) m = go (of_made top k l) (ltb n top) refl m
  where
    go : (In k (made top l) → In k l × (top ≤ k)) → (b : Bool) → ltb n top ≡ b → In k (cond b (made top l) (n ∷ made top l)) → In k (n ∷ l) × (top ≤ k)
    go rec true e i = (inr (rec i).0, (rec i).1)
    go rec false e (inl p) = (inl p, subst (λ z. top ≤ z) (sym p) (ltb-false n top e))
    go rec false e (inr i) = (inr (rec i).0, (rec i).1)

in-made : (top k : ℕ) (l : List ℕ) → In k l → top ≤ k → In k (made top l)
in-made top k [] x'' h = elim x'' [ ]
in-made top k (n ∷ l) (inl e) h = subst (λ b. In k (cond b (made top l) (n ∷ made top l))) (sym (le-ltb n top (subst (λ z. top ≤ z) e h))) (inl e)
in-made top k (n ∷ l) (inr m) h = go (ltb n top) (in-made top k l m h)
  where
    go : (b : Bool) → In k (made top l) → In k (cond b (made top l) (n ∷ made top l))
    go true i = i
    go false i = inr i

-- the number of different made-up values in the slots
unfoldable pub measure : ℕ → List ℕ → State → ℕ
measure top slots s = length (once same? (made top (map s slots)))

module _ (top : ℕ) (slots : List ℕ) (s : State) (m n : ℕ) (made_up : top ≤ m) (there : In m (map s slots)) (other : m ≡ n → ⊥) (known : (n < top) ⊎ In n (map s slots)) where
  -- after the replacement there are no new made-up values, and m is gone
  left_over : (k : ℕ) → In k (map (after (replace m n) s) slots) → top ≤ k → In k (map s slots) × (k ≡ m → ⊥)
  left_over k i h =
      let (j, w, e) = from-map (after (replace m n) s) slots k i in
      go j w e (same? (s j) m)
    where
      go : (j : ℕ) → In j slots → k ≡ replace m n (s j) → Dec (s j ≡ m) → In k (map s slots) × (k ≡ m → ⊥)
      go j w e (yes p) =
          let q : k ≡ n = e ∙ ap (replace m n) p ∙ replace-same m n in
          (⊎_elim (λ l. absurd (omega arith)) (λ l. subst (λ z. In z (map s slots)) (sym q) l) known, λ r. other (sym r ∙ q))
      go j w e (no p) =
          let q : k ≡ s j = e ∙ replace-other m n (s j) p in
          (subst (λ z. In z (map s slots)) (sym q) (in_map s slots j w), λ r. p (sym q ∙ r))

  pub lower : measure top slots (after (replace m n) s) < measure top slots s
  unfolding measure
  lower =
      let old = once same? (made top (map s slots)) in
      let new = once same? (made top (map (after (replace m n) s) slots)) in
      let h = at_most same? new (taken_out same? m old) (once-distinct same? (made top (map (after (replace m n) s) slots)))
      (λ k i. let (a, b) = of_made top k (map (after (replace m n) s) slots) (of_once same? k (made top (map (after (replace m n) s) slots)) i) in
      let (c, d) = left_over k a b in
      in_without same? m k old (in-once same? k (made top (map s slots)) (in-made top k (map s slots) c b)) d) in
      let f = without_fewer same? m old (in-once same? m (made top (map s slots)) (in-made top m (map s slots) there made_up)) in
      omega arith

-- ---- unifying lowers the measure

-- n is one of the constants C, or in a slot
abbrev pub Known : (ℕ → Type 0) → List ℕ → State → ℕ → Type 0
Known C slots s n = C n ⊎ In n (map s slots)

-- r brings no new value into the slots, and changes a known value only where it lowers the measure
pub record Progress (top : ℕ) (C : ℕ → Type 0) (slots : List ℕ) (s : State) (r : ℕ → ℕ) : Type 0 where
  pub old : (n : ℕ) → In n (map (after r s) slots) → Known C slots s n
  pub known : (n : ℕ) → Known C slots s n → Known C slots (after r s) (r n)
  pub most : measure top slots (after r s) ≤ measure top slots s
  pub strict : (n : ℕ) → Known C slots s n → (r n ≡ n → ⊥) → measure top slots (after r s) < measure top slots s

-- the equations are between known values, and one of them is not met yet
pub record Open (C : ℕ → Type 0) (slots : List ℕ) (s : State) (es : List Equation) : Type 0 where
  pub known : (e : Equation) → In e es → Known C slots s e.left × Known C slots s e.right
  pub unmet : (e : Equation) × In e es × (e.left ≡ e.right → ⊥)

module _ (top : ℕ) (C : ℕ → Type 0) (small : (n : ℕ) → C n → n < top) (slots : List ℕ) (s : State) (m n : ℕ) (made_up : top ≤ m) (known-m : Known C slots s m) (known-n : Known C slots s n) (other : m ≡ n → ⊥) where
  -- known values but m are still known
  stays : (k : ℕ) → Known C slots s k → (k ≡ m → ⊥) → Known C slots (after (replace m n) s) k
  stays k (inl l) ne = inl l
  stays k (inr i) ne =
      let (j, w, e) = from-map s slots k i in
      inr (subst (λ z. In z (map (after (replace m n) s) slots)) (replace-other m n (s j) (λ p. ne (e ∙ p)) ∙ sym e) (in_map (after (replace m n) s) slots j w))

  replaced-known : (k : ℕ) → Known C slots s k → Dec (k ≡ m) → Known C slots (after (replace m n) s) (replace m n k)
  replaced-known k h (yes e) = subst (Known C slots (after (replace m n) s)) (sym (ap (replace m n) e ∙ replace-same m n)) (stays n known-n (λ p. other (sym p)))
  replaced-known k h (no ne) = subst (Known C slots (after (replace m n) s)) (sym (replace-other m n k ne)) (stays k h ne)

  was : (k : ℕ) → In k (map (after (replace m n) s) slots) → Known C slots s k
  was k i = let (j, w, e) = from-map (after (replace m n) s) slots k i in go j w e (same? (s j) m)
    where
      go : (j : ℕ) → In j slots → k ≡ replace m n (s j) → Dec (s j ≡ m) → Known C slots s k
      go j w e (yes p) = subst (Known C slots s) (sym (e ∙ ap (replace m n) p ∙ replace-same m n)) known-n
      go j w e (no p) = inr (subst (λ z. In z (map s slots)) (sym (e ∙ replace-other m n (s j) p)) (in_map s slots j w))

  pub progress_replace : Progress top C slots s (replace m n)
  progress_replace =
      let l = lower top slots s m n made_up (⊎_elim (λ h. absurd (let z = small m h in omega arith)) (λ h. h) known-m) other (⊎_elim (λ h. inl (small n h)) (λ h. inr h) known-n) in
      record { old = was; known = λ k h. replaced-known k h (same? k m); most = omega arith; strict = λ k h ne. l }

module _ {top : ℕ} {C : ℕ → Type 0} {slots : List ℕ} where
  pub progress_same : (s : State) → Progress top C slots s (λ n. n)
  progress_same s = record { old = λ n i. inr i; known = λ n k. k; most = omega arith; strict = λ n k ne. absurd (ne refl) }

  pub progress_after : {s : State} {r q : ℕ → ℕ} → Progress top C slots s r → Progress top C slots (after r s) q → Progress top C slots s (after q r)
  progress_after {s} {r} {q} p o = record {
    old = λ n i. ⊎_elim (λ c. inl c) (λ j. p.old n j) (o.old n i);
    known = λ n k. o.known (r n) (p.known n k);
    most = let a = p.most in let b = o.most in omega arith;
    strict = λ n k ne. go n k ne (same? (r n) n);
  }
    where
      go : (n : ℕ) → Known C slots s n → (q (r n) ≡ n → ⊥) → Dec (r n ≡ n) → measure top slots (after q (after r s)) < measure top slots s
      go n k ne (yes e) = let a = p.most in let b = o.strict (r n) (p.known n k) (λ i. ne (i ∙ e)) in omega arith
      go n k ne (no d) = let a = p.strict n k d in let b = o.most in omega arith

  pub unified-lower : {s : State} {r : ℕ → ℕ} {es : List Equation} → Unifier top r es → Progress top C slots s r → Open C slots s es → measure top slots (after r s) < measure top slots s
  unified-lower {s} {r} {es} u p o = let (e, m, ne) = o.unmet in go e m ne (same? (r e.left) e.left) (same? (r e.right) e.right)
    where
      go : (e : Equation) → In e es → (e.left ≡ e.right → ⊥) → Dec (r e.left ≡ e.left) → Dec (r e.right ≡ e.right) → measure top slots (after r s) < measure top slots s
      go e m ne (no d) k = p.strict e.left (o.known e m).0 d
      go e m ne (yes d) (no k) = p.strict e.right (o.known e m).1 k
      go e m ne (yes d) (yes k) = absurd (ne (sym d ∙ u.met e m ∙ k))

module _ (C : ℕ → Type 0) (slots : List ℕ) where
  -- rows of one length that differ
  pub open_rows : (s : State) (ms ns : List ℕ) → length ms ≡ length ns → (ms ≡ ns → ⊥) → ((n : ℕ) → In n ms → Known C slots s n) → ((n : ℕ) → In n ns → Known C slots s n) → Open C slots s (equations ms ns)
  open_rows s [] [] e ne k l = absurd (ne refl)
  open_rows s [] (n ∷ ns) e ne k l = absurd (omega arith)
  open_rows s (m ∷ ms) [] e ne k l = absurd (omega arith)
  open_rows s (m ∷ ms) (n ∷ ns) e ne k l = go (same? m n) (row? ms ns) (λ d. open_rows s ms ns (omega arith) d (λ z i. k z (inr i)) (λ z i. l z (inr i)))
    where
      rest : (xs ys : List ℕ) → ((z : ℕ) → In z xs → Known C slots s z) → ((z : ℕ) → In z ys → Known C slots s z) → (f : Equation) → In f (equations xs ys) → Known C slots s f.left × Known C slots s f.right
      rest [] ys kx ky f x7 = elim x7 [ ]
      rest (x ∷ xs) [] kx ky f x12 = elim x12 [ ]
      rest (x ∷ xs) (y ∷ ys) kx ky f (inl p) = (subst (λ (z : Equation). Known C slots s z.left) (sym p) (kx x (inl refl)), subst (λ (z : Equation). Known C slots s z.right) (sym p) (ky y (inl refl)))
      rest (x ∷ xs) (y ∷ ys) kx ky f (inr i) = rest xs ys (λ z j. kx z (inr j)) (λ z j. ky z (inr j)) f i

      all : (f : Equation) → In f (equations (m ∷ ms) (n ∷ ns)) → Known C slots s f.left × Known C slots s f.right
      all = rest (m ∷ ms) (n ∷ ns) k l

      go : Dec (m ≡ n) → Dec (ms ≡ ns) → ((ms ≡ ns → ⊥) → Open C slots s (equations ms ns)) → Open C slots s (equations (m ∷ ms) (n ∷ ns))
      go (no d) q rec = record { known = all; unmet = ((m ≈ n), inl refl, d) }
      go (yes d) (yes q) rec = absurd (ne (λ i. d i ∷ q i))
      go (yes d) (no q) rec = let (f, i, o) = (rec q).unmet in record { known = all; unmet = (f, inr i, o) }
