-- Two rows of roots become one, a column at a time, and their slots are given back.
use mathlib.Core.Path.{◌≡◌, refl, sym, ap, ◌∙◌, subst}
use mathlib.Core.Bool.{Bool, true, false}
use mathlib.Core.List.{List, [], ◌∷◌}
use mathlib.Core.Logic.{◌⊎◌, inl, inr, ⊎_elim}
use Prim.Native.Nat.{ℕ, zero, suc, ◌+◌, ◌-◌, ◌<◌, ◌≤◌}
use native.Mathlib.Omega.{arith}
use lib.ListN.{length, get_or, set, take, drop, length-set, drop_of_length-le}
use lib.Seq.{get_or-set_same, get_or-set_other, ext_get_or, drop-cons}
use Rattle.std.proofs.lemmas.List.{take_more}
use Rattle.query_meaning.specs.Meaning.{In}
use Rattle.case_verdicts.specs.Search.{Keeps, Met, after, ◌≈◌, equations, Unifier, Clash}
use Rattle.case_verdicts.specs.Words.{state_of}
use Rattle.case_verdicts.proofs.Decide.{same?, in?}
use Rattle.case_verdicts.proofs.Lists.{in_left, in_right, in-cases}
use Rattle.case_verdicts.proofs.Unify.{unify-none, unify-more, clash-more, clash-rest}
use Rattle.search_links.specs.Links.{root, Linked, roots}
use Rattle.search_links.specs.Steps.{RootValue, RootValues, WrittenBy, Merged, MergedBy, Others, MetBy, Freed}
use Rattle.search_links.proofs.Links.{root-fixed, follow-after}
use Rattle.search_links.proofs.Words.{value_stays, root-own}

-- ---- lists

in-at : (c : ℕ) (u : List ℕ) → c < length u → In (get_or u c 0) u
in-at c [] h = absurd (omega arith)
in-at zero (x ∷ u) h = inl refl
in-at (suc c) (x ∷ u) h = inr (in-at c u (omega arith))

one_more : (u : List ℕ) (c : ℕ) → 0 < c → c ≤ length u → drop (c - 1) u ≡ get_or u (c - 1) 0 ∷ drop c u
one_more u c h g = drop-cons u (c - 1) 0 (omega arith) ∙ ap (λ (k : ℕ). get_or u (c - 1) 0 ∷ drop k u) (let e : suc (c - 1) ≡ c = omega arith in e)

clash-front : (top c : ℕ) (u r : List ℕ) → Clash top (equations (drop c u) (drop c r)) → Clash top (equations u r)
clash-front top zero u r k = k
clash-front top (suc c) [] r k = k
clash-front top (suc c) (m ∷ u) [] k = nothing (drop c u) k
  where
    nothing : (l : List ℕ) → Clash top (equations l []) → Clash top []
    nothing [] j = j
    nothing (x ∷ l) j = j
clash-front top (suc c) (m ∷ u) (n ∷ r) k = clash-rest (m ≈ n) (clash-front top c u r k)

-- ---- a column more

-- us and rs have become one. A has the values whose slots may have been written, and what they become
pub record ColumnsMet (top : ℕ) (A : ℕ → Type 0) (ws out us rs : List ℕ) : Type 0 where
  pub by : ℕ → ℕ
  pub unifier : Unifier top by (equations us rs)
  pub ends : (x : ℕ) → root top (state_of top out) x ≡ by (root top (state_of top ws) x)
  pub same : length out ≡ length ws
  pub linked : Linked top ws → Linked top out
  pub inner : (x : ℕ) → A x → A (by x)
  pub others : (n : ℕ) → (A (top + n) → ⊥) → get_or out n 0 ≡ get_or ws n 0
  pub words : Linked top ws → (h : ℕ → ℕ) → Keeps top h → Met h (equations us rs) → (n : ℕ) → h (state_of top out n) ≡ h (state_of top ws n)
  pub fewer : ((us ≡ rs) × (out ≡ ws)) ⊎ (roots top out < roots top ws)

module _ (top : ℕ) (A : ℕ → Type 0) (ws out us rs : List ℕ) (v w : ℕ) (av : A v) (aw : A w) (rv : RootValue top ws v) (rw' : RootValue top ws w)
    (p : ColumnsMet top A ws out us rs) where
  -- what has become of a root that the words had at first
  became : (x : ℕ) → RootValue top ws x → root top (state_of top out) x ≡ p.by x
  became x r = p.ends x ∙ ap p.by (root-fixed top (state_of top ws) x (value_stays top ws x r))

  moved : (r : Bool) (next : List ℕ) → MergedBy r top out next (root top (state_of top out) v) (root top (state_of top out) w) → MergedBy r top out next (p.by v) (p.by w)
  moved r next j =
      subst (λ (x : ℕ). MergedBy r top out next (p.by v) x) (became w rw') (subst (λ (x : ℕ). MergedBy r top out next x (root top (state_of top out) w)) (became v rv) j)

  unchanged : out ≡ ws → (x : ℕ) → RootValue top ws x → p.by x ≡ x
  unchanged e x r = sym (became x r) ∙ ap (λ (o : List ℕ). root top (state_of top o) x) e ∙ root-fixed top (state_of top ws) x (value_stays top ws x r)

  more : {next : List ℕ} → Merged top out next (p.by v) (p.by w) → ColumnsMet top A ws next (v ∷ us) (w ∷ rs)
  more {next} j = record {
    by = after j.by p.by;
    unifier = unify-more v w p.unifier j.by j.unifier;
    ends = λ x. j.ends x ∙ ap j.by (p.ends x);
    same = j.same ∙ p.same;
    linked = λ l. j.linked (p.linked l);
    inner = λ x a. go (p.by x) (p.inner x a) (j.among (p.by x));
    others = λ n off. j.others n (λ m. off (pair m)) ∙ p.others n off;
    words = λ l h k met n.
        let rest : Met h (equations us rs) = λ e m. met e (inr m) in
        let g = p.unifier.general h k rest in
        j.words (p.linked l) h (g v ∙ met (v ≈ w) (inl refl) ∙ sym (g w)) n ∙ p.words l h k rest n;
    fewer = less j.fewer p.fewer;
  }
    where
      pair : {x : ℕ} → In x (p.by v ∷ p.by w ∷ []) → A x
      pair (inl e) = subst A (sym e) (p.inner v av)
      pair (inr (inr x3)) = elim x3 [ ]
      pair (inr (inl e)) = subst A (sym e) (p.inner w aw)

      go : (y : ℕ) → A y → In (j.by y) (y ∷ p.by v ∷ p.by w ∷ []) → A (j.by y)
      go y a (inl e) = subst A (sym e) a
      go y a (inr m) = pair m

      less : ((p.by v ≡ p.by w) × (next ≡ out)) ⊎ (roots top next < roots top out) → ((us ≡ rs) × (out ≡ ws)) ⊎ (roots top out < roots top ws)
          → ((v ∷ us ≡ w ∷ rs) × (next ≡ ws)) ⊎ (roots top next < roots top ws)
      less (inl e) (inl q) = let f = sym (unchanged q.1 v rv) ∙ e.0 ∙ unchanged q.1 w rw' in inl ((λ i. f i ∷ q.0 i), e.1 ∙ q.1)
      less (inl e) (inr l) = inr (let f = ap (roots top) e.1 in omega arith)
      less (inr l) (inl q) = inr (let f = ap (roots top) q.1 in omega arith)
      less (inr l) (inr k) = inr (omega arith)

  pub columns_merged : {next : List ℕ} → MergedBy true top out next (root top (state_of top out) v) (root top (state_of top out) w) → ColumnsMet top A ws next (v ∷ us) (w ∷ rs)
  columns_merged {next} j = more (moved true next j)

  pub columns-apart : (next : List ℕ) → MergedBy false top out next (root top (state_of top out) v) (root top (state_of top out) w) → Clash top ((v ≈ w) ∷ equations us rs)
  columns-apart next j = clash-more v w p.unifier (moved false next j).0

-- ---- all columns

-- v stands in one of the rows
abbrev pub Either : List ℕ → List ℕ → ℕ → Type 0
Either u r v = In v u ⊎ In v r

pub below_top : (top : ℕ) (ws : List ℕ) (v : ℕ) → RootValue top ws v → v < top + length ws
below_top top ws v (inl h) = omega arith
below_top top ws v (inr f) = f.1

pub columns-start : (top : ℕ) (ws u r : List ℕ) (c : ℕ) → length u ≤ c → length r ≤ c → ColumnsMet top (Either u r) ws ws (drop c u) (drop c r)
columns-start top ws u r c h g = rw (drop_of_length-le u h, drop_of_length-le r g) none
  where
    none : ColumnsMet top (Either u r) ws ws [] []
    none = record { by = λ n. n; unifier = unify-none top; ends = λ x. refl; same = refl; linked = λ l. l; inner = λ x a. a; others = λ n off. refl; words = λ l h k met n. refl; fewer = inl (refl, refl) }

module _ (top : ℕ) (ws out u r : List ℕ) (c : ℕ) (some : 0 < c) (here : c ≤ length u) (there : c ≤ length r) (fu : RootValues top ws u) (fr : RootValues top ws r)
    (p : ColumnsMet top (Either u r) ws out (drop c u) (drop c r)) where
  in-u : In (get_or u (c - 1) 0) u
  in-u = in-at (c - 1) u (omega arith)

  in-r : In (get_or r (c - 1) 0) r
  in-r = in-at (c - 1) r (omega arith)

  pub low-u : get_or u (c - 1) 0 < top + length out
  low-u = rw p.same (below_top top ws (get_or u (c - 1) 0) (fu _ in-u))

  pub low-r : get_or r (c - 1) 0 < top + length out
  low-r = rw p.same (below_top top ws (get_or r (c - 1) 0) (fr _ in-r))

  pub columns-more : {next : List ℕ} → MergedBy true top out next (root top (state_of top out) (get_or u (c - 1) 0)) (root top (state_of top out) (get_or r (c - 1) 0))
      → ColumnsMet top (Either u r) ws next (drop (c - 1) u) (drop (c - 1) r)
  columns-more j =
      rw (one_more u c some here, one_more r c some there)
      (columns_merged top (Either u r) ws out (drop c u) (drop c r) (get_or u (c - 1) 0) (get_or r (c - 1) 0) (inl in-u) (inr in-r) (fu _ in-u) (fr _ in-r) p j)

  pub columns-clash : {next : List ℕ} → MergedBy false top out next (root top (state_of top out) (get_or u (c - 1) 0)) (root top (state_of top out) (get_or r (c - 1) 0))
      → MetBy false top ws next u r
  columns-clash {next} j = (
    clash-front top (c - 1) u r
        (rw (one_more u c some here, one_more r c some there)
        (columns-apart top (Either u r) ws out (drop c u) (drop c r) (get_or u (c - 1) 0) (get_or r (c - 1) 0) (inl in-u) (inr in-r) (fu _ in-u) (fr _ in-r) p next j)),
    ap length j.1 ∙ p.same,
    λ n nu nr. ap (λ (l : List ℕ). get_or l n 0) j.1 ∙ p.others n (⊎_elim nu nr),
  )

pub columns-end : (top : ℕ) (ws out u r : List ℕ) (c : ℕ) → c ≤ 0 → ColumnsMet top (Either u r) ws out (drop c u) (drop c r) → MetBy true top ws out u r
columns-end top ws out u r zero h p = record {
  by = p.by;
  unifier = p.unifier;
  ends = p.ends;
  state = follow-after top (state_of top ws) (state_of top out) p.by p.ends;
  same = p.same;
  linked = p.linked;
  others = λ n nu nr. p.others n (⊎_elim nu nr);
  words = p.words;
  fewer = ⊎_elim (λ q. inl q.0) (λ l. inr l) p.fewer;
}
columns-end top ws out u r (suc c) h p = absurd (omega arith)

-- ---- slots are given back

module _ (top : ℕ) (ws out us : List ℕ) (v : ℕ) (f : Freed top ws out us) where
  freed_set : top ≤ v → v - top < length out → Freed top ws (set out (v - top) v) (v ∷ us)
  freed_set made here = record {
    same = length-set out (v - top) v ∙ f.same;
    own = λ n m h. go n m h (same? n (v - top));
    others = λ n off. get_or-set_other out (v - top) n v 0 (λ e. off (inl (omega arith))) ∙ f.others n (λ m. off (inr m));
  }
    where
      go : (n : ℕ) → In (top + n) (v ∷ us) → n < length ws → Dec (n ≡ v - top) → get_or (set out (v - top) v) n 0 ≡ top + n
      go n m h (yes e) = let g = ap (λ (k : ℕ). get_or (set out (v - top) v) k 0) e ∙ get_or-set_same out (v - top) v 0 here in omega arith
      go n (inl q) h (no ne) = absurd (ne (omega arith))
      go n (inr m) h (no ne) = get_or-set_other out (v - top) n v 0 ne ∙ f.own n m h

  freed_kept : (v < top) ⊎ (top + length out ≤ v) → Freed top ws out (v ∷ us)
  freed_kept far = record { same = f.same; own = own; others = λ n off. f.others n (λ m. off (inr m)) }
    where
      own : (n : ℕ) → In (top + n) (v ∷ us) → n < length ws → get_or out n 0 ≡ top + n
      own n (inl q) h = let e = f.same in absurd (⊎_elim (λ l. omega arith) (λ l. omega arith) far)
      own n (inr m) h = f.own n m h

  freed_written : (r : Bool) (next : List ℕ) → WrittenBy r top out next v v → Freed top ws next (v ∷ us)
  freed_written true next t = rw t.2 (freed_set t.0 t.1)
  freed_written false next t = rw t.1 (freed_kept t.0)

-- what stands in the first i + 1 values is the value at i, or stands before it
pub front_in : (x : ℕ) (u : List ℕ) (i : ℕ) → i < length u → In x (take (i + 1) u) → In x (get_or u i 0 ∷ take i u)
front_in x u i h m = ⊎_elim (λ k. inr k) (λ k. ⊎_elim (λ e. inl e) (λ k'. elim k' [ ]) k) (in-cases x (take i u) (get_or u i 0 ∷ []) (subst (In x) (take_more u i 0 h) m))

pub front_has : (x : ℕ) (u : List ℕ) (i : ℕ) → i < length u → In x (get_or u i 0 ∷ take i u) → In x (take (i + 1) u)
front_has x u i h m = subst (In x) (sym (take_more u i 0 h)) (⊎_elim (λ e. in_right x (take i u) _ (inl e)) (λ k. in_left x (take i u) _ k) m)

pub freed_more : (top : ℕ) (ws out u : List ℕ) (i : ℕ) (r : Bool) (next : List ℕ) → i < length u → Freed top ws out (take i u)
    → WrittenBy r top out next (get_or u i 0) (get_or u i 0) → Freed top ws next (take (i + 1) u)
freed_more top ws out u i r next h f t =
    let g = freed_written top ws out (take i u) (get_or u i 0) f r next t in
    record { same = g.same; own = λ n m. g.own n (front_in (top + n) u i h m); others = λ n off. g.others n (λ m. off (front_has (top + n) u i h m)) }

-- u and r are roots of ws: if `old` differs from ws in their slots alone, giving these back leads to ws
pub freed_back : (top : ℕ) (ws old mid out u r : List ℕ) → RootValues top ws u → RootValues top ws r → length ws ≡ length old → Others top ws old u r
    → Freed top old mid u → Freed top mid out r → out ≡ ws
freed_back top ws old mid out u r fu fr l o f g = ext_get_or 0 out ws (g.same ∙ f.same ∙ sym l) (λ n h. go n (in? same? (top + n) r) (in? same? (top + n) u) h)
  where
    go : (n : ℕ) → Dec (In (top + n) r) → Dec (In (top + n) u) → n < length out → get_or out n 0 ≡ get_or ws n 0
    go n (yes m) d h = let a = g.same in g.own n m (omega arith) ∙ sym (root-own top ws n (fr (top + n) m)).1
    go n (no m) (yes k) h = let a = g.same in let b = f.same in g.others n m ∙ f.own n k (omega arith) ∙ sym (root-own top ws n (fu (top + n) k)).1
    go n (no m) (no k) h = g.others n m ∙ f.others n k ∙ o n k m
