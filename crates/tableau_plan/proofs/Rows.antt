-- The listed rows of an accepted sheet: by the lines, one after the other, and by the views. Assumes nothing.
use mathlib.Core.Path.{◌≡◌, refl, sym, ap, ◌∙◌, subst}
use mathlib.Core.Bool.{Bool, true, false, cond}
use mathlib.Core.List.{List, [], ◌∷◌, ◌++◌, map}
use mathlib.Core.Logic.{inl, inr, ⊎_elim}
use Prim.Native.Nat.{ℕ, zero, suc, ◌+◌, ◌-◌, ◌<◌, ◌≤◌}
use native.Mathlib.Omega.{arith}
use lib.Dec.{eqb, leb}
use lib.IntN.{ℤ, pos, negsuc}
use lib.ListN.{length, get_or, drop}
use borrow.Author.Tests.{eqb-true, leb-true, ne_eqb}
use Rattle.query_encoding.proofs.Lists.{in-at}
use Rattle.sheet_format.specs.Table.{Table}
use Rattle.sheet_format.specs.Line.{Line, natural, gather}
use Rattle.sheet_format.specs.Cause.{Kind, question, saved, view, atom, row, other, kind_at, kind_of, kind, rest, in_place, start, next_by, next, scan, atoms}
use Rattle.sheet_format.specs.Answers.{Seen}
use Rattle.sheet_format.proofs.Lists.{no_way, and_left, and_right, map_append}
use Rattle.sheet_format.proofs.ScanLaws.{accepted-scan}
use Rattle.query_meaning.specs.Meaning.{con, In}
use Rattle.query_meaning.specs.Blocks.{View, is_row, rows, view_of, blocks, nth}
use Rattle.query_blocks.proofs.Accepted.{scan-first}
use Rattle.case_verdicts.specs.Tableau.{Job, listed}
use Rattle.case_verdicts.specs.Sheets.{is_saved, is_view_kind}
use Rattle.case_verdicts.proofs.Lists.{in_left, in_right, in-cases}
use Rattle.tableau_plan.specs.Parts.{ViewRow, unlisted, rows_from}
use Rattle.query_blocks.specs.Parts.{AcceptedLines}

-- ---- a line's kind by its word

pub kind-natural : (z : ℤ) → kind_of z ≡ kind_at (natural z)
unfolding kind_of
kind-natural (pos n) = refl
kind-natural (negsuc n) = refl

pub not-view : (n : ℕ) → (n ≡ 3 → ⊥) → is_view_kind (kind_at n) ≡ false
not-view n h = ap (λ t. is_view_kind (cond (eqb n 1) question (cond (eqb n 2) saved (cond t view (cond (eqb n 4) atom (cond (eqb n 5) row other)))))) (ne_eqb n 3 h) ∙ go (eqb n 1) (eqb n 2) (eqb n 4) (eqb n 5)
  where
    go : (a b c d : Bool) → is_view_kind (cond a question (cond b saved (cond c atom (cond d row other)))) ≡ false
    go true b c d = refl
    go false true c d = refl
    go false false true d = refl
    go false false false true = refl
    go false false false false = refl

pub not_saved : (n : ℕ) → (n ≡ 2 → ⊥) → is_saved (kind_at n) ≡ false
not_saved n h = ap (λ t. is_saved (cond (eqb n 1) question (cond t saved (cond (eqb n 3) view (cond (eqb n 4) atom (cond (eqb n 5) row other)))))) (ne_eqb n 2 h) ∙ go (eqb n 1) (eqb n 3) (eqb n 4) (eqb n 5)
  where
    go : (a b c d : Bool) → is_saved (cond a question (cond b view (cond c atom (cond d row other)))) ≡ false
    go true b c d = refl
    go false true c d = refl
    go false false true d = refl
    go false false false true = refl
    go false false false false = refl

pub not-row : (n : ℕ) → (n ≡ 5 → ⊥) → is_row (kind_at n) ≡ false
not-row n h = ap (λ t. is_row (cond (eqb n 1) question (cond (eqb n 2) saved (cond (eqb n 3) view (cond (eqb n 4) atom (cond t row other)))))) (ne_eqb n 5 h) ∙ go (eqb n 1) (eqb n 2) (eqb n 3) (eqb n 4)
  where
    go : (a b c d : Bool) → is_row (cond a question (cond b saved (cond c view (cond d atom other)))) ≡ false
    go true b c d = refl
    go false true c d = refl
    go false false true d = refl
    go false false false true = refl
    go false false false false = refl

-- ---- the rows by the lines

listed_at : ℕ → List ℕ → ViewRow
listed_at v r = record { view = v; row = r }

module _ (v : ℕ) (l : Line) (ls : List Line) where
  pub rows-view : kind l ≡ view → rows_from v (l ∷ ls) ≡ rows_from (suc v) ls
  unfolding rows_from
  rows-view e = simp e

  pub rows_row : kind l ≡ row → rows_from v (l ∷ ls) ≡ record { view = v - 1; row = map natural (rest l) } ∷ rows_from v ls
  unfolding rows_from
  rows_row e = simp e

  pub rows_other : is_view_kind (kind l) ≡ false → is_row (kind l) ≡ false → rows_from v (l ∷ ls) ≡ rows_from v ls
  unfolding rows_from
  rows_other e f = simp (e, f)

-- ---- the rows by the views

-- of the views, the first of which is view v
abbrev pub flat_from : ℕ → List View → List ViewRow
flat_from v [] = []
flat_from v (w ∷ ws) = map (λ r. record { view = v; row = r }) w.rows ++ flat_from (suc v) ws

-- the rows after the atoms at the front
front : List Line → List (List ℕ)
front ls = rows (drop (length (atoms ls)) ls)

front_by_kind : Line → List Line → Kind → List (List ℕ)
front_by_kind l ls question = []
front_by_kind l ls saved = []
front_by_kind l ls view = []
front_by_kind l ls atom = front ls
front_by_kind l ls row = map natural (rest l) ∷ rows ls
front_by_kind l ls other = []

front_by : (l : Line) (ls : List Line) (k : Kind) → kind l ≡ k → front (l ∷ ls) ≡ front_by_kind l ls k
unfolding front front_by_kind atoms rows
front_by l ls question e = simp e
front_by l ls saved e = simp e
front_by l ls view e = simp e
front_by l ls atom e = simp e
front_by l ls row e = simp e
front_by l ls other e = simp e

-- where a view's block is read, the rows at the front are its own
record RowsRead (block last v : ℕ) (all : List ViewRow) (ahead now : List (List ℕ)) (later : List ViewRow) : Type 0 where
  outside : (block ≡ 3 → ⊥) → all ≡ later
  before : block ≡ 3 → last ≤ 4 → all ≡ map (λ r. record { view = v - 1; row = r }) ahead ++ later
  after : block ≡ 3 → 5 ≤ last → all ≡ map (λ r. record { view = v - 1; row = r }) now ++ later

abbrev WalkedIn : Seen → ℕ → List Line → Type 0
WalkedIn g v ls = RowsRead g.block g.last v (rows_from v ls) (front ls) (rows ls) (flat_from v (blocks is_view_kind ls))

abbrev LineWalked : Seen → ℕ → Line → List Line → Kind → Type 0
LineWalked g v l ls k =
    RowsRead g.block g.last v (cond (is_view_kind k) (rows_from (suc v) ls) (cond (is_row k) (record { view = v - 1; row = map natural (rest l) } ∷ rows_from v ls) (rows_from v ls))) (front_by_kind l ls k)
    (cond (is_row k) (map natural (rest l) ∷ rows ls) []) (flat_from v (cond (is_view_kind k) (view_of l ls ∷ blocks is_view_kind ls) (blocks is_view_kind ls)))

walked_by : (g : Seen) (v : ℕ) (l : Line) (ls : List Line) (k : Kind) (n : ℕ) → in_place g k ≡ true → ((u : ℕ) → WalkedIn (next_by g k n) u ls) → LineWalked g v l ls k
unfolding front front_by_kind
walked_by g v l ls question n p ih =
    let e = eqb-true g.block 0 p in
    record { outside = λ h. (ih v).outside (λ z. omega arith); before = λ h. absurd (omega arith); after = λ h. absurd (omega arith) }
walked_by g v l ls saved n p ih =
    let e = leb-true g.block 2 (and_right (leb 1 g.block) (leb g.block 2) p) in
    record { outside = λ h. (ih v).outside (λ z. omega arith); before = λ h. absurd (omega arith); after = λ h. absurd (omega arith) }
walked_by g v l ls view n p ih =
    let q : suc v - 1 ≡ v = omega arith in
    let e = subst (λ u. rows_from (suc v) ls ≡ map (λ r. record { view = u; row = r }) (front ls) ++ flat_from (suc v) (blocks is_view_kind ls)) q ((ih (suc v)).before refl (omega arith)) in
    record { outside = λ h. e; before = λ h i. e; after = λ h i. e }
walked_by g v l ls atom n p ih =
    let e = leb-true g.last 4 (and_right (leb 1 g.last) (leb g.last 4) p) in
    record { outside = λ h. (ih v).outside h; before = λ h i. (ih v).before h (omega arith); after = λ h i. absurd (omega arith) }
walked_by g v l ls row n p ih =
    let e = eqb-true g.block 3 (and_left _ _ p) in
    let r = ap (λ (t : List ViewRow). record { view = v - 1; row = map natural (rest l) } ∷ t) ((ih v).after e (omega arith)) in
    record { outside = λ h. absurd (h e); before = λ h i. r; after = λ h i. r }
walked_by g v l ls other n p ih = no_way p

walked : (table : Table) (ls : List Line) (g : Seen) (b : Line) (n : ℕ) → (scan table g b n ls).number ≡ 0 → (v : ℕ) → WalkedIn g v ls
unfolding rows_from rows blocks next front atoms
walked table [] g b n s v = record { outside = λ h. refl; before = λ h i. refl; after = λ h i. refl }
walked table (l ∷ ls) g b n s v =
    let (c, r) = scan-first table l ls g b n s in
    subst (λ f. RowsRead g.block g.last v (rows_from v (l ∷ ls)) f (rows (l ∷ ls)) (flat_from v (blocks is_view_kind (l ∷ ls)))) (sym (front_by l ls (kind l) refl))
    (walked_by g v l ls (kind l) (length (rest l)) c.placed (λ u. walked table ls (next g l) l (n + 1) r u))

-- the rows by the lines are the rows by the views
pub rows_walked : (ls : List Line) → AcceptedLines ls → rows_from 0 ls ≡ flat_from 0 (blocks is_view_kind ls)
rows_walked ls ok = (walked ok.0 ls start [] 1 (eqb-true _ 0 (accepted-scan ok.0 ls ok.1)) 0).outside (λ z. omega arith)

-- ---- the jobs of the views, row by row

-- the job of a listed row, where f gives the views by their numbers
abbrev pub job_of : (ℕ → View) → ViewRow → Job
job_of f l = record { block = (f l.view).block; is = map con l.row }

-- views by their numbers, the first of them v
pub record Views (f : ℕ → View) (v : ℕ) (ws : List View) : Type 0 where
  pub is : (j : ℕ) → j < length ws → f (v + j) ≡ nth ws j

views-first : (f : ℕ → View) (v : ℕ) (w : View) (ws : List View) → Views f v (w ∷ ws) → f v ≡ w
views-first f v w ws h = ap f (let e : v ≡ v + 0 = omega arith in e) ∙ h.is 0 (omega arith)

views-rest : (f : ℕ → View) (v : ℕ) (w : View) (ws : List View) → Views f v (w ∷ ws) → Views f (suc v) ws
views-rest f v w ws h = record { is = λ j k. ap f (let e : suc v + j ≡ v + suc j = omega arith in e) ∙ h.is (suc j) (omega arith) }

pub views-all : (ws : List View) → Views (nth ws) 0 ws
views-all ws = record { is = λ j k. ap (nth ws) (let e : 0 + j ≡ j = omega arith in e) }

row-jobs : (f : ℕ → View) (v : ℕ) (w : View) (rs : List (List ℕ)) → f v ≡ w
    → map (λ r. record { block = w.block; is = map con r }) rs ≡ map (job_of f) (map (λ r. record { view = v; row = r }) rs)
row-jobs f v w [] e = refl
row-jobs f v w (r ∷ rs) e =
    ap (λ (u : View). record { block = u.block; is = map con r } ∷ map (λ r. record { block = w.block; is = map con r }) rs) (sym e)
    ∙ ap (λ (t : List Job). record { block = (f v).block; is = map con r } ∷ t) (row-jobs f v w rs e)

pub view-jobs : (f : ℕ → View) (v : ℕ) (ws : List View) → Views f v ws → gather listed ws ≡ map (job_of f) (flat_from v ws)
view-jobs f v [] h = refl
view-jobs f v (w ∷ ws) h =
    ap (λ t. t ++ gather listed ws) (row-jobs f v w w.rows (views-first f v w ws h))
    ∙ ap (λ t. map (job_of f) (map (λ r. record { view = v; row = r }) w.rows) ++ t) (view-jobs f (suc v) ws (views-rest f v w ws h))
    ∙ sym (map_append (job_of f) (map (λ r. record { view = v; row = r }) w.rows) (flat_from (suc v) ws))

-- ---- a listed row is a row of its view

pub record OfView (f : ℕ → View) (end : ℕ) (l : ViewRow) : Type 0 where
  pub low : l.view < end
  pub listed_in : In l.row (f l.view).rows

row_of : (v : ℕ) (rs : List (List ℕ)) (l : ViewRow) → In l (map (λ r. record { view = v; row = r }) rs) → (l.view ≡ v) × In l.row rs
row_of v [] l x' = elim x' [ ]
row_of v (r ∷ rs) l (inl e) = (ap (λ (x : ViewRow). x.view) e, inl (ap (λ (x : ViewRow). x.row) e))
row_of v (r ∷ rs) l (inr m) = let (a, b) = row_of v rs l m in (a, inr b)

pub flat_of : (f : ℕ → View) (v : ℕ) (ws : List View) → Views f v ws → (l : ViewRow) → In l (flat_from v ws) → OfView f (v + length ws) l
flat_of f v [] h l m = absurd m
flat_of f v (w ∷ ws) h l m =
    ⊎_elim
    (λ i.
    let (a, b) = row_of v w.rows l i in
    record { low = omega arith; listed_in = subst (λ (u : View). In l.row u.rows) (sym (ap f a ∙ views-first f v w ws h)) b })
    (λ i. let r = flat_of f (suc v) ws (views-rest f v w ws h) l i in record { low = let k = r.low in omega arith; listed_in = r.listed_in })
    (in-cases l (map (λ r. record { view = v; row = r }) w.rows) (flat_from (suc v) ws) m)

-- and each row of a view is listed
in_rows : (v : ℕ) (rs : List (List ℕ)) (r : List ℕ) → In r rs → In (listed_at v r) (map (λ r. record { view = v; row = r }) rs)
unfolding listed_at
in_rows v [] r x' = elim x' [ ]
in_rows v (s ∷ rs) r (inl e) = inl (ap (λ t. record { view = v; row = t }) e)
in_rows v (s ∷ rs) r (inr m) = inr (in_rows v rs r m)

in-flat : (v : ℕ) (ws : List View) (j : ℕ) → j < length ws → (r : List ℕ) → In r (nth ws j).rows → In (listed_at (v + j) r) (flat_from v ws)
in-flat v [] j h r m = absurd (omega arith)
in-flat v (w ∷ ws) zero h r m =
    let e : v ≡ v + 0 = omega arith in
    in_left (listed_at (v + 0) r) (map (λ r. record { view = v; row = r }) w.rows) (flat_from (suc v) ws) (subst (λ u. In (listed_at u r) (map (λ r. record { view = v; row = r }) w.rows)) e (in_rows v w.rows r m))
in-flat v (w ∷ ws) (suc j) h r m =
    let e : suc v + j ≡ v + suc j = omega arith in
    in_right (listed_at (v + suc j) r) (map (λ r. record { view = v; row = r }) w.rows) (flat_from (suc v) ws) (subst (λ u. In (listed_at u r) (flat_from (suc v) ws)) e (in-flat (suc v) ws j (omega arith) r m))

pub flat_place : (ws : List View) (j : ℕ) → j < length ws → (r : List ℕ) → In r (nth ws j).rows → (i : ℕ) × (i < length (flat_from 0 ws)) × (get_or (flat_from 0 ws) i unlisted ≡ record { view = j; row = r })
unfolding listed_at
flat_place ws j h r m =
    let e : 0 + j ≡ j = omega arith in
    in-at unlisted (listed_at j r) (flat_from 0 ws) (subst (λ u. In (listed_at u r) (flat_from 0 ws)) e (in-flat 0 ws j h r m))
