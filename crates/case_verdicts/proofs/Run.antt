-- A search that can be computed. It applies the rules and nothing else, so its outcome is proved.
use mathlib.Core.Path.{◌≡◌, refl, sym, subst}
use mathlib.Core.List.{List, [], ◌∷◌, map}
use mathlib.Core.Logic.{◌⊎◌, inl, inr, ⊎_elim}
use Prim.Native.Nat.{ℕ, zero, suc, ◌+◌, ◌*◌, ◌<◌, ◌≤◌}
use native.Mathlib.Nat.{le_refl}
use native.Mathlib.Omega.{arith}
use lib.ListN.{length}
use Rattle.query_meaning.specs.Meaning.{Fact, Apart, Block, In, value, row, Holds, Differ, Answer}
use Rattle.query_meaning.specs.Blocks.{View}
use Rattle.query_blocks.proofs.Shape.{from-map}
use Rattle.case_verdicts.specs.Table.{SameKey}
use Rattle.case_verdicts.specs.Verdict.{Sheet}
use Rattle.case_verdicts.specs.Handed.{Stands}
use Rattle.case_verdicts.specs.Accepted.{width, FineSheet, Evaluable}
use Rattle.case_verdicts.specs.Tableau.{jobs, Copy, numbered, State, copy, tableau_log, head_of, Meets, Good}
use Rattle.case_verdicts.specs.Search.{free, Refuted, Equation, ◌≈◌, RefutedBy, Alternatives, Unifier, Clash, after, replace}
use Rattle.case_verdicts.proofs.Decide.{same?, less?, row?, in?, all_or, candidates, each-answer, settled_or, holds?, differ?}
use Rattle.case_verdicts.proofs.Unify.{unify-same, unify-left, unify-right, clash, unify-none, unify-more, clash-more, clash-rest}
use Rattle.case_verdicts.proofs.Refute.{list-gives, view-gives, same_key, copy_gives, line-broken, step, unified, clashed}
use Rattle.case_verdicts.proofs.Measure.{measure, Known, Progress, progress_same, progress_replace, progress_after, Open, unified-lower}
use Rattle.case_verdicts.proofs.Known.{slots, of_upto, stands-small, known-log, copy_open, key_open, lines_open, view_open}

-- ---- a state is good, or something is wrong with it

pub record Violation (top : ℕ) (x : Sheet) (s : State) : Type 0 where
  pub alts : List (List Equation)
  pub must : Alternatives top x s alts
  pub opens : (alt : List Equation) → In alt alts → Open (Stands x) (slots x) s alt

pub only : {C : ℕ → Type 0} {ns : List ℕ} {s : State} (es : List Equation) → Open C ns s es → (alt : List Equation) → In alt (es ∷ []) → Open C ns s alt
only {C = C} {ns = ns} {s = s} es o alt (inr x') = elim x' [ ]
only {C} {ns} {s} es o alt (inl e) = subst (Open C ns s) (sym e) o

abbrev KeySettled : Sheet → State → Fact → Fact → Type 0
KeySettled x s f g = SameKey x.table f g → f.row ≡ g.row

abbrev HeadHolds : Sheet → State → (List ℕ → Type 0) → Block → (ℕ → ℕ) → Type 0
HeadHolds x s P b v = Holds (tableau_log x s) v b → Differ v b → P (row v b.head)

module _ (x : Sheet) {top : ℕ} (ok : FineSheet top x) (s : State) where
  abbrev copy_meets? : (c : Copy) → In c (numbered (jobs x)) → Meets (copy s c.number) c.job ⊎ Violation top x s
  copy_meets? c m = go (row? (row (copy s c.number) c.job.block.head) (row (copy s c.number) c.job.is))
      (all_or (λ d. value (copy s c.number) d.left ≡ value (copy s c.number) d.right → ⊥) c.job.block.apart (λ d i. line d i (same? _ _)))
    where
      line : (d : Apart) → In d c.job.block.apart → Dec (value (copy s c.number) d.left ≡ value (copy s c.number) d.right)
          → (value (copy s c.number) d.left ≡ value (copy s c.number) d.right → ⊥) ⊎ Violation top x s
      line d i (yes e) = inr (record { alts = []; must = line-broken x ok s c m d i e; opens = λ alt j. absurd j })
      line d i (no n) = inl n

      go : Dec (row (copy s c.number) c.job.block.head ≡ row (copy s c.number) c.job.is) → Differ (copy s c.number) c.job.block ⊎ Violation top x s
          → Meets (copy s c.number) c.job ⊎ Violation top x s
      go (no n) d = inr (record { alts = _; must = copy_gives x ok s c m; opens = only _ (copy_open x ok s c m n) })
      go (yes e) (inr y) = inr y
      go (yes e) (inl d) = inl (record { gives = e; differ = d })

  abbrev keyed? : (f g : Fact) → In f (tableau_log x s) → In g (tableau_log x s) → KeySettled x s f g ⊎ Violation top x s
  keyed? f g m n = ⊎_elim (λ e. inl e) (λ k. inr (record { alts = _; must = same_key x ok s f g m n k.0; opens = only _ (key_open x ok s f g m n k.0.rel k.1) }))
      (settled_or x.table f g)

  -- P of every row that the block has by v
  abbrev fits? : (P : List ℕ → Type 0) (b : Block) → ((v : ℕ → ℕ) → Holds (tableau_log x s) v b → Differ v b → P (row v b.head) ⊎ Violation top x s)
      → (v : ℕ → ℕ) → HeadHolds x s P b v ⊎ Violation top x s
  fits? P b each v = go (holds? (tableau_log x s) v b) (differ? v b)
    where
      go : Holds (tableau_log x s) v b ⊎ (Holds (tableau_log x s) v b → ⊥) → Differ v b ⊎ (Differ v b → ⊥) → HeadHolds x s P b v ⊎ Violation top x s
      go (inr out) d = inl (λ h. absurd (out h))
      go (inl h) (inr out) = inl (λ k d. absurd (out d))
      go (inl h) (inl d) = ⊎_elim (λ p. inl (λ k e. p)) (λ y. inr y) (each v h d)

  abbrev view? : Evaluable x → (w : View) → In w x.views → ((r : List ℕ) → Answer (tableau_log x s) w.block r → In r w.rows) ⊎ Violation top x s
  view? safe w m = ⊎_elim (λ all. inl (each-answer (tableau_log x s) w.block (safe.views w m) (λ r. In r w.rows) all)) (λ y. inr y)
      (all_or (HeadHolds x s (λ r. In r w.rows) w.block) (candidates (tableau_log x s) w.block) (λ v i. fits? (λ r. In r w.rows) w.block each v))
    where
      each : (v : ℕ → ℕ) → Holds (tableau_log x s) v w.block → Differ v w.block → In (row v w.block.head) w.rows ⊎ Violation top x s
      each v h d = go (in? row? (row v w.block.head) w.rows)
        where
          go : Dec (In (row v w.block.head) w.rows) → In (row v w.block.head) w.rows ⊎ Violation top x s
          go (yes i) = inl i
          go (no n) = inr (record { alts = _; must = view-gives x ok s w m v h; opens = view_open x ok s w m (safe.views w m) v h d n })

  abbrev list? : Evaluable x → (l : Block) → In l x.lists → (Answer (tableau_log x s) l (head_of x s) → ⊥) ⊎ Violation top x s
  list? safe l m = ⊎_elim (λ all. inl (λ a. each-answer (tableau_log x s) l (safe.lists l m) (λ r. r ≡ head_of x s → ⊥) all (head_of x s) a refl)) (λ y. inr y)
      (all_or (HeadHolds x s (λ r. r ≡ head_of x s → ⊥) l) (candidates (tableau_log x s) l) (λ v i. fits? (λ r. r ≡ head_of x s → ⊥) l each v))
    where
      each : (v : ℕ → ℕ) → Holds (tableau_log x s) v l → Differ v l → (row v l.head ≡ head_of x s → ⊥) ⊎ Violation top x s
      each v h d = go (row? (row v l.head) (head_of x s))
        where
          go : Dec (row v l.head ≡ head_of x s) → (row v l.head ≡ head_of x s → ⊥) ⊎ Violation top x s
          go (yes e) = inr (record { alts = _; must = list-gives x ok s l m v h e; opens = lines_open x ok s l (inr (inl m)) (safe.lists l m) v h d })
          go (no n) = inl n

  abbrev pub look : Evaluable x → Good x s ⊎ Violation top x s
  look safe =
      ⊎_elim (λ meets. ⊎_elim (λ missing. ⊎_elim (λ keyed. ⊎_elim (λ none_more.
      inl (record { meets = meets; keyed = λ f g m n. keyed f m g n; none_more = none_more; missing = missing }))
      (λ y. inr y) (all_or (λ w. (r : List ℕ) → Answer (tableau_log x s) w.block r → In r w.rows) x.views (view? safe)))
      (λ y. inr y) (all_or (λ f. (g : Fact) → In g (tableau_log x s) → KeySettled x s f g) (tableau_log x s) (λ f m. all_or (KeySettled x s f) (tableau_log x s) (λ g n. keyed? f g m n))))
      (λ y. inr y) (all_or (λ l. Answer (tableau_log x s) l (head_of x s) → ⊥) x.lists (list? safe)))
      (λ y. inr y) (all_or (λ c. Meets (copy s c.number) c.job) (numbered (jobs x)) copy_meets?)

-- ---- equations are met, or cannot be

abbrev pub Has : Sheet → State → ℕ → Type 0
Has x s n = Known (Stands x) (slots x) s n

abbrev pub Unified : ℕ → Sheet → State → List Equation → Type 0
Unified top x s es = (r : ℕ → ℕ) × Unifier top r es × Progress top (Stands x) (slots x) s r

module _ {top : ℕ} (x : Sheet) (ok : FineSheet top x) where
  abbrev pub unify-one : (s : State) (a b : ℕ) → Has x s a → Has x s b → Unified top x s ((a ≈ b) ∷ []) ⊎ Clash top ((a ≈ b) ∷ [])
  unify-one s a b ka kb = go (same? a b) (less? a top) (less? b top)
    where
      go : Dec (a ≡ b) → (a < top) ⊎ (top ≤ a) → (b < top) ⊎ (top ≤ b) → Unified top x s ((a ≈ b) ∷ []) ⊎ Clash top ((a ≈ b) ∷ [])
      go (yes e) l r = inl ((λ n. n), unify-same top a b e, progress_same s)
      go (no n) (inr l) r = inl (replace a b, unify-left top a b l, progress_replace top (Stands x) (stands-small x ok) (slots x) s a b l ka kb n)
      go (no n) (inl l) (inr r) = inl (replace b a, unify-right top a b r, progress_replace top (Stands x) (stands-small x ok) (slots x) s b a r kb ka (λ e. n (sym e)))
      go (no n) (inl l) (inl r) = inr (clash top a b l r n)

  abbrev pub unify : (s : State) (es : List Equation) → ((e : Equation) → In e es → Has x s e.left × Has x s e.right) → Unified top x s es ⊎ Clash top es
  unify s [] known = inl ((λ n. n), unify-none top, progress_same s)
  unify s (e ∷ es) known =
      ⊎_elim (λ u. ⊎_elim (λ q. inl (after q.0 u.0, unify-more e.left e.right u.1 q.0 q.1, progress_after u.2 q.2))
      (λ c. inr (clash-more e.left e.right u.1 c))
      (unify-one (after u.0 s) (u.0 e.left) (u.0 e.right) (u.2.known e.left (known e (inl refl)).0) (u.2.known e.right (known e (inl refl)).1)))
      (λ c. inr (clash-rest e c)) (unify s es (λ f m. known f (inr m)))

-- ---- the search

-- a good state without new made-up values
pub record GoodState (x : Sheet) (s : State) : Type 0 where
  pub state : State
  pub good : Good x state
  pub old : (n : ℕ) → In n (map state (slots x)) → Has x s n

abbrev pub RunOutcome : ℕ → Sheet → State → Type 0
RunOutcome top x s = GoodState x s ⊎ Refuted top x s

pub still-less : {k m n : ℕ} → k < m → m < suc n → k < n
still-less h l = omega arith

abbrev pub earlier : {top : ℕ} {x : Sheet} {s : State} {r : ℕ → ℕ} → Progress top (Stands x) (slots x) s r → GoodState x (after r s) → GoodState x s
earlier p f = record { state = f.state; good = f.good; old = λ n i. ⊎_elim (λ c. inl c) (p.old n) (f.old n i) }

module _ {top : ℕ} (x : Sheet) (ok : FineSheet top x) (s : State) (n : ℕ) (most : measure top (slots x) s < suc n)
    (next : (t : State) → measure top (slots x) t < n → RunOutcome top x t) where
  abbrev pub alternative : (es : List Equation) → Open (Stands x) (slots x) s es → RefutedBy top x s es ⊎ GoodState x s
  alternative es o =
      ⊎_elim (λ u. ⊎_elim (λ g. inr (earlier u.2 g)) (λ z. inl (unified u.1 z)) (next (after u.0 s) (still-less (unified-lower u.1 u.2 o) most)))
      (λ c. inl (clashed c)) (unify x ok s es o.known)

  abbrev pub turn : Good x s ⊎ Violation top x s → RunOutcome top x s
  turn (inl g) = inl (record { state = s; good = g; old = λ k i. inr i })
  turn (inr y) = ⊎_elim (λ all. inr (step y.must all)) (λ g. inl g) (all_or (RefutedBy top x s) y.alts (λ es m. alternative es (y.opens es m)))

-- n bounds the rounds: each round lowers the measure
unfoldable pub search_from : (x : Sheet) {top : ℕ} → FineSheet top x → Evaluable x → (n : ℕ) (s : State) → measure top (slots x) s < n → RunOutcome top x s
search_from x ok safe zero s most = absurd (let h = most in omega arith)
search_from x ok safe (suc n) s most = turn x ok s n most (search_from x ok safe n) (look x ok s safe)

-- from the first state: something good, or nothing
abbrev pub decided : (x : Sheet) {top : ℕ} → FineSheet top x → Evaluable x → RunOutcome top x (free top)
decided x {top} ok safe = search_from x ok safe (suc (measure top (slots x) (free top))) (free top) (le_refl _)

-- the values of the log that is found
pub found-values : (x : Sheet) {top : ℕ} → FineSheet top x → (g : GoodState x (free top)) → (f : Fact) → In f (tableau_log x g.state) → (n : ℕ) → In n f.row
    → Stands x n ⊎ ((top ≤ n) × (n < top + length (jobs x) * width))
found-values x {top} ok g f m n i = ⊎_elim (λ c. inl c) (λ j. ⊎_elim (λ c. inl c) made (g.old n j)) (known-log x ok g.state f m n i)
  where
    made : In n (map (free top) (slots x)) → Stands x n ⊎ ((top ≤ n) × (n < top + length (jobs x) * width))
    made j =
        let (k, w, e) = from-map (free top) (slots x) n j in
        let h = of_upto (length (jobs x) * width) k w in
        inr (omega arith, omega arith)
