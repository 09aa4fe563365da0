-- The examples by computation: each is tested, and a test that is passed is a proof of what the entry says, but for what it says of every
-- case that may be handed over.
use mathlib.Core.Path.{◌≡◌}
use mathlib.Core.Bool.{Bool, true, false, ◌&&◌}
use mathlib.Core.List.{List, [], ◌∷◌}
use mathlib.Core.Logic.{◌⊎◌, inl, inr, ⊎_elim}
use Prim.Native.Nat.{ℕ, ◌+◌, ◌*◌, ◌<◌}
use lib.ListN.{length}
use Rattle.sheet_format.proofs.Lists.{no_way, both}
use Rattle.query_meaning.specs.Meaning.{Term, con, var, Log, Atom, Block, In, Answer}
use Rattle.query_meaning.specs.Blocks.{View, nowhere}
use Rattle.query_meaning.specs.Facts.{value_end}
use Rattle.query_meaning.specs.Evaluate.{◌≺◌, Ascending, Answers}
use Rattle.case_verdicts.specs.Table.{Table, relation, Sound}
use Rattle.case_verdicts.specs.Verdict.{Sheet, Covered, NoLog}
use Rattle.case_verdicts.specs.Handed.{Handed}
use Rattle.case_verdicts.specs.Accepted.{width, FineTerm, FineAtom, FineBlock, FineSheet, variables, Bound, Safe, Evaluable}
use Rattle.case_verdicts.specs.Tableau.{jobs}
use Rattle.case_verdicts.specs.Sheets.{top}
use Rattle.case_verdicts.specs.Examples.{Shown, covered, case, no_log, Shows, Entry, judge, judge_any, evaluate, evaluate_any, sheet, SaysOf, Says}
use Rattle.case_verdicts.proofs.Tables.{ten-sound}
use Rattle.case_verdicts.proofs.Decide.{same?, less?, in?, first-all, all_or, answer?, inside_or}
use Rattle.case_verdicts.proofs.Check.{judged}

-- a proof of P, or nothing
abbrev pub Or : Type 0 → Type 0
Or P = P ⊎ Unit {0}

abbrev pub of_dec : {P : Type 0} → Dec P → Or P
of_dec (yes p) = inl p
of_dec (no n) = inr tt

abbrev pub of_or : {P Q : Type 0} → P ⊎ Q → Or P
of_or (inl p) = inl p
of_or (inr q) = inr tt

abbrev pub then : {P Q : Type 0} → Or P → (P → Or Q) → Or Q
then p f = ⊎_elim f (λ z. inr z) p

-- ---- what the theorems ask of a sheet

abbrev pub term? : (top : ℕ) (t : Term) → Or (FineTerm top t)
term? top (con c) = of_or (less? c top)
term? top (var x) = of_or (less? x width)

abbrev pub bound? : (b : Block) (t : Term) → Or (Bound b t)
bound? b (con c) = inl tt
bound? b (var x) = of_dec (in? same? x (variables b))

abbrev pub atom? : (top : ℕ) (table : Table) (a : Atom) → Or (FineAtom top table a)
atom? top table a =
    then (all_or (FineTerm top) a.terms (λ t m. term? top t)) (λ f.
    then (of_or (less? 0 (relation table a.rel).columns)) (λ k.
    then (of_dec (same? (length a.terms) (relation table a.rel).columns)) (λ l. inl (record { terms = f; known = k; full = l }))))

abbrev pub block? : (top : ℕ) (table : Table) (b : Block) → Or (FineBlock top table b)
block? top table b =
    then (all_or (FineTerm top) b.head (λ t m. term? top t)) (λ h.
    then (all_or (FineAtom top table) b.atoms (λ a m. atom? top table a)) (λ a.
    then (all_or (λ d. FineTerm top d.left × FineTerm top d.right) b.apart (λ d m. then (term? top d.left) (λ l. then (term? top d.right) (λ r. inl (l, r))))) (λ p.
    inl (record { head = h; atoms = a; apart = p }))))

abbrev pub safe? : (b : Block) → Or (Safe b)
safe? b =
    then (all_or (Bound b) b.head (λ t m. bound? b t)) (λ h.
    then (all_or (λ d. Bound b d.left × Bound b d.right) b.apart (λ d m. then (bound? b d.left) (λ l. then (bound? b d.right) (λ r. inl (l, r))))) (λ p.
    inl (record { head = h; apart = p })))

abbrev RowsBelow : ℕ → View → Type 0
RowsBelow top w = (r : List ℕ) → In r w.rows → (n : ℕ) → In n r → n < top

abbrev Lengths : View → Type 0
Lengths w = (r : List ℕ) → In r w.rows → length r ≡ length w.block.head

abbrev pub accept : (top : ℕ) (x : Sheet) → Sound x.table → Or (FineSheet top x × Evaluable x)
accept top x sound =
    then (block? top x.table x.question) (λ q.
    then (all_or (FineBlock top x.table) x.lists (λ l m. block? top x.table l)) (λ l.
    then (all_or (λ w. FineBlock top x.table w.block) x.views (λ w m. block? top x.table w.block)) (λ v.
    then (all_or (RowsBelow top) x.views (λ w m. all_or (λ r. (n : ℕ) → In n r → n < top) w.rows (λ r i. all_or (λ n. n < top) r (λ n j. of_or (less? n top))))) (λ r.
    then (all_or Lengths x.views (λ w m. all_or (λ r. length r ≡ length w.block.head) w.rows (λ r i. of_dec (same? (length r) (length w.block.head))))) (λ n.
    then (all_or Safe x.lists (λ l m. safe? l)) (λ a.
    then (all_or (λ w. Safe w.block) x.views (λ w m. safe? w.block)) (λ b.
    inl (record { table = sound; question = q; lists = l; views = v; rows = r; lengths = n }, record { lists = a; views = b }))))))))

-- ---- judged sheets

abbrev pub SheetJudgement : Sheet → Type 0
SheetJudgement x = Covered x ⊎ (Handed top value_end x ⊎ NoLog x)

abbrev pub verdict? : (x : Sheet) → Sound x.table → Or (SheetJudgement x)
verdict? x sound =
    then (accept top x sound) (λ a.
    then (safe? x.question) (λ q.
    ⊎_elim (λ l. inr tt) (λ r. inl (judged x r a.0 q a.1)) (less? value_end (top + length (jobs x) * width))))

-- what no test can show: with 1 every case that may be handed over is as shown
abbrev pub OnlyOf : Sheet → Shown → Type 0
OnlyOf x covered = Unit {0}
OnlyOf x (case a n fs) = (h : Handed top value_end x) → Shows x a n fs h
OnlyOf x no_log = Unit {0}

abbrev pub shown? : (x : Sheet) → SheetJudgement x → (r : Shown) → Or (OnlyOf x r → SaysOf x r)
shown? x (inl c) covered = inl (λ o. c)
shown? x (inl c) (case a n fs) = inr tt
shown? x (inl c) no_log = inr tt
shown? x (inr (inl h)) covered = inr tt
shown? x (inr (inl h)) (case a n fs) = inl (λ o. (h, o))
shown? x (inr (inl h)) no_log = inr tt
shown? x (inr (inr z)) covered = inr tt
shown? x (inr (inr z)) (case a n fs) = inr tt
shown? x (inr (inr z)) no_log = inl (λ o. z)

-- agreeing does not look at the question and the lists
pub unasked : (ws : List View) → NoLog (sheet nowhere.block [] ws) → (q : Block) (ls : List Block) → NoLog (sheet q ls ws)
unasked ws none q ls log a = none log (record { lawful = a.lawful; agrees = a.agrees })

abbrev pub unasked? : (ws : List View) → SheetJudgement (sheet nowhere.block [] ws) → Or ((q : Block) (ls : List Block) → NoLog (sheet q ls ws))
unasked? ws (inl c) = inr tt
unasked? ws (inr (inl h)) = inr tt
unasked? ws (inr (inr z)) = inl (unasked ws z)

-- ---- evaluations

abbrev pub below? : (t u : List ℕ) → Or (t ≺ u)
below? [] u = inr tt
below? (m ∷ t) [] = inr tt
below? (m ∷ t) (n ∷ u) = ⊎_elim (λ l. inl (inl l)) (λ g. then (of_dec (same? m n)) (λ e. then (below? t u) (λ b. inl (inr (e, b))))) (less? m n)

abbrev pub ascending? : (ts : List (List ℕ)) → Or (Ascending ts)
ascending? [] = inl tt
ascending? (t ∷ ts) = then (all_or (λ u. t ≺ u) ts (λ u m. below? t u)) (λ b. then (ascending? ts) (λ a. inl (b, a)))

abbrev pub answers? : (b : Block) (log : Log) (ts : List (List ℕ)) → Or (Answers log b ts)
answers? b log ts =
    then (safe? b) (λ s.
    then (all_or (Answer log b) ts (λ t m. of_or (answer? log b s t))) (λ o.
    then (of_or (inside_or log b s ts)) (λ e.
    then (ascending? ts) (λ a. inl (record { only = o; every = e; ascending = a })))))

-- an atom is no fact of the empty log
pub no-facts : (b : Block) (a : Atom) → In a b.atoms → Answers [] b []
no-facts b a m = record { only = λ t i. absurd i; every = λ t n. absurd (n.holds a m); ascending = tt }

abbrev pub any_block? : (log : Log) (ts : List (List ℕ)) → Or ((b : Block) (a : Atom) → In a b.atoms → Answers log b ts)
any_block? [] [] = inl no-facts
any_block? [] (t ∷ ts) = inr tt
any_block? (f ∷ log) ts = inr tt

-- ---- entries

abbrev pub Only : Entry → Type 0
Only (judge x r) = OnlyOf x r
Only (judge_any ws) = Unit {0}
Only (evaluate b log ts) = Unit {0}
Only (evaluate_any log ts) = Unit {0}

-- a proof that holds without more
abbrev pub outright : {P : Type 0} → Or P → Or (Unit {0} → P)
outright (inl p) = inl (λ o. p)
outright (inr z) = inr z

-- no test shows that a table is sound either
abbrev pub SoundOf : Entry → Type 0
SoundOf (judge x r) = Sound x.table
SoundOf (judge_any ws) = Unit {0}
SoundOf (evaluate b log ts) = Unit {0}
SoundOf (evaluate_any log ts) = Unit {0}

abbrev pub says? : (e : Entry) → SoundOf e → Or (Only e → Says e)
says? (judge x r) sound = then (verdict? x sound) (λ v. shown? x v r)
says? (judge_any ws) sound = outright (then (verdict? (sheet nowhere.block [] ws) ten-sound) (unasked? ws))
says? (evaluate b log ts) sound = outright (answers? b log ts)
says? (evaluate_any log ts) sound = outright (any_block? log ts)

abbrev pub passed : {P : Type 0} → Or P → Bool
passed (inl p) = true
passed (inr z) = false

pub of_passed : {P : Type 0} (o : Or P) → passed o ≡ true → P
of_passed (inl p) e = p
of_passed (inr z) e = no_way e

-- all entries, what no test shows of each, and whether each passes its test
abbrev pub Onlys : List Entry → Type 0
Onlys [] = Unit {0}
Onlys (e ∷ es) = (SoundOf e × Only e) × Onlys es

abbrev pub all_pass : (es : List Entry) → Onlys es → Bool
all_pass [] o = true
all_pass (e ∷ es) o = passed (says? e o.0.0) && all_pass es o.1

-- then each says what is so
pub each_says : (es : List Entry) (o : Onlys es) → all_pass es o ≡ true → (e : Entry) → In e es → Says e
each_says [] o h e m = absurd m
each_says (d ∷ es) o h e m =
    let (p, q) = both (passed (says? d o.0.0)) (all_pass es o.1) h in
    first-all Says d es (of_passed (says? d o.0.0) p o.0.1) (each_says es o.1 q) e m
