-- Equations are met in the most general way by replacing one value after the other; different constants cannot be met.
use mathlib.Core.Path.{◌≡◌, refl, sym, ap, ◌∙◌}
use mathlib.Core.Bool.{Bool, true, false, cond}
use mathlib.Core.List.{List, [], ◌∷◌}
use mathlib.Core.Logic.{inl, inr}
use Prim.Native.Nat.{ℕ, ◌+◌, ◌-◌, ◌<◌, ◌≤◌}
use native.Mathlib.Omega.{arith}
use lib.Dec.{eqb, ltb}
use borrow.Author.Tests.{eqb-true, eq-eqb, ne_eqb, lt-ltb, le-ltb}
use Rattle.query_meaning.specs.Meaning.{In}
use Rattle.case_verdicts.specs.Tableau.{State}
use Rattle.case_verdicts.specs.Search.{Keeps, Below, free, Equation, ◌≈◌, Met, Unifier, Clash, replace, after}

pub replace-same : (m n : ℕ) → replace m n m ≡ n
replace-same m n = ap (λ b. cond b n m) (eq-eqb m m refl)

pub replace-other : (m n k : ℕ) → (k ≡ m → ⊥) → replace m n k ≡ k
replace-other m n k h = ap (λ b. cond b n k) (ne_eqb k m h)

-- h does not see the replacement of m by n if it takes both to one value
through : (h : ℕ → ℕ) (m n : ℕ) → h m ≡ h n → (k : ℕ) → h (replace m n k) ≡ h k
through h m n e k = go (eqb k m) refl
  where
    go : (b : Bool) → eqb k m ≡ b → h (cond b n k) ≡ h k
    go true t = sym e ∙ ap h (sym (eqb-true k m t))
    go false t = refl

replace-right : (m n : ℕ) → replace m n n ≡ n
replace-right m n = go (eqb n m)
  where
    go : (b : Bool) → cond b n n ≡ n
    go true = refl
    go false = refl

-- ---- one equation

pub unify-same : (top a b : ℕ) → a ≡ b → Unifier top (λ n. n) ((a ≈ b) ∷ [])
unify-same top a b same = record { keeps = λ c h. refl; met = λ e m. one e m; general = λ h k m n. refl }
  where
    one : (e : Equation) → In e ((a ≈ b) ∷ []) → e.left ≡ e.right
    one e (inr x') = elim x' [ ]
    one e (inl p) = (λ i. (p i).left) ∙ same ∙ sym (λ i. (p i).right)

pub unify-left : (top m n : ℕ) → top ≤ m → Unifier top (replace m n) ((m ≈ n) ∷ [])
unify-left top m n made = record {
  keeps = λ c h. replace-other m n c (λ e. omega arith);
  met = λ e i. one e i;
  general = λ h k met. through h m n (met (m ≈ n) (inl refl));
}
  where
    one : (e : Equation) → In e ((m ≈ n) ∷ []) → replace m n e.left ≡ replace m n e.right
    one e (inr x') = elim x' [ ]
    one e (inl p) = ap (λ (q : Equation). replace m n q.left) p ∙ replace-same m n ∙ sym (replace-right m n) ∙ sym (ap (λ (q : Equation). replace m n q.right) p)

-- an equation may be read from right to left
met_swap : (h : ℕ → ℕ) (m n : ℕ) → Met h ((m ≈ n) ∷ []) → Met h ((n ≈ m) ∷ [])
met_swap h m n met e (inr x') = elim x' [ ]
met_swap h m n met e (inl p) = ap (λ (q : Equation). h q.left) p ∙ sym (met (m ≈ n) (inl refl)) ∙ sym (ap (λ (q : Equation). h q.right) p)

pub unify-right : (top m n : ℕ) → top ≤ n → Unifier top (replace n m) ((m ≈ n) ∷ [])
unify-right top m n made =
    let u = unify-left top n m made in
    record { keeps = u.keeps; met = met_swap (replace n m) n m u.met; general = λ h k met. u.general h k (met_swap h m n met) }

pub clash : (top m n : ℕ) → m < top → n < top → (m ≡ n → ⊥) → Clash top ((m ≈ n) ∷ [])
clash top m n hm hn ne = record { none = λ h k met. ne (sym (k m hm) ∙ met (m ≈ n) (inl refl) ∙ k n hn) }

-- ---- one equation after the other

pub unify-none : (top : ℕ) → Unifier top (λ n. n) []
unify-none top = record { keeps = λ c h. refl; met = λ e m. absurd m; general = λ h k m n. refl }

module _ {top : ℕ} {r : ℕ → ℕ} (a b : ℕ) {es : List Equation} (u : Unifier top r es) where
  -- h meets the next equation also as the earlier ones have left it
  became : (h : ℕ → ℕ) → Keeps top h → Met h ((a ≈ b) ∷ es) → Met h ((r a ≈ r b) ∷ [])
  became h k met e (inr x') = elim x' [ ]
  became h k met e (inl p) =
      let g = u.general h k (λ f m. met f (inr m)) in
      ap (λ (q : Equation). h q.left) p ∙ g a ∙ met (a ≈ b) (inl refl) ∙ sym (g b) ∙ sym (ap (λ (q : Equation). h q.right) p)

  pub unify-more : (q : ℕ → ℕ) → Unifier top q ((r a ≈ r b) ∷ []) → Unifier top (after q r) ((a ≈ b) ∷ es)
  unify-more q v = record {
    keeps = λ c h. ap q (u.keeps c h) ∙ v.keeps c h;
    met = all;
    general = λ h k met n. v.general h k (became h k met) (r n) ∙ u.general h k (λ f m. met f (inr m)) n;
  }
    where
      all : Met (after q r) ((a ≈ b) ∷ es)
      all e (inl p) = ap (λ (z : Equation). q (r z.left)) p ∙ v.met (r a ≈ r b) (inl refl) ∙ sym (ap (λ (z : Equation). q (r z.right)) p)
      all e (inr m) = ap q (u.met e m)

  pub clash-more : Clash top ((r a ≈ r b) ∷ []) → Clash top ((a ≈ b) ∷ es)
  clash-more v = record { none = λ h k met. v.none h k (became h k met) }

pub clash-rest : {top : ℕ} (e : Equation) {es : List Equation} → Clash top es → Clash top (e ∷ es)
clash-rest e c = record { none = λ h k met. c.none h k (λ f m. met f (inr m)) }

-- ---- states below a state

-- below the unified state lies what is below s and meets the equations, and nothing else
module _ {top : ℕ} {s t : State} {r : ℕ → ℕ} {es : List Equation} (u : Unifier top r es) where
  abbrev pub below-unified : (b : Below top s t) → Met b.to es → Below top (after r s) t
  below-unified b met = record { to = b.to; keeps = b.keeps; at = λ n. u.general b.to b.keeps met (s n) ∙ b.at n }

  abbrev pub below-first : Below top (after r s) t → Below top s t
  below-first b = record { to = λ n. b.to (r n); keeps = λ c h. ap b.to (u.keeps c h) ∙ b.keeps c h; at = b.at }

  pub below-met : (b : Below top (after r s) t) → Met (below-first b).to es
  below-met b e m = ap b.to (u.met e m)

pub below_trans : {top : ℕ} {s t w : State} → Below top s t → Below top t w → Below top s w
below_trans b c = record { to = λ n. c.to (b.to n); keeps = λ n h. ap c.to (b.keeps n h) ∙ c.keeps n h; at = λ n. ap c.to (b.at n) ∙ c.at n }

-- every state is below the one that the search starts from
pub all-below : (top : ℕ) (t : State) → Below top (free top) t
all-below top t = record {
  to = λ n. cond (ltb n top) n (t (n - top));
  keeps = λ c h. ap (λ b. cond b c (t (c - top))) (lt-ltb c top h);
  at = λ n. ap (λ b. cond b (top + n) (t (top + n - top))) (le-ltb (top + n) top (omega arith)) ∙ ap t (let e : top + n - top ≡ n = omega arith in e);
}
