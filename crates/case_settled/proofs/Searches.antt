-- What the cases of the two sheets are, and that they are fine where the sheet is.
use mathlib.Core.Path.{◌≡◌, refl, sym, ◌∙◌, subst}
use mathlib.Core.List.{List, [], ◌∷◌, map}
use mathlib.Core.Logic.{inl, inr, ⊎_elim}
use Prim.Native.Nat.{ℕ, ◌<◌}
use Rattle.query_meaning.specs.Meaning.{con, Log, Block, In, Answer}
use Rattle.case_verdicts.specs.Table.{Table}
use Rattle.case_verdicts.specs.Verdict.{Sheet, Agreeing, Case}
use Rattle.case_verdicts.specs.Accepted.{FineTerm, Fine, FineBlock, FineSheet}
use Rattle.case_verdicts.proofs.Reduce.{row-con}
use Rattle.case_settled.specs.Searches.{constant_block, beyond_rows, lacking_row}

-- ---- constant blocks

pub constant-answer : (log : Log) (r : List ℕ) → Answer log (constant_block r) r
constant-answer log r = record { val = λ n. 0; holds = λ a m. absurd m; differ = λ d m. absurd m; gives = row-con (λ n. 0) r }

pub constant-only : {log : Log} {t : List ℕ} (r : List ℕ) → Answer log (constant_block r) t → r ≡ t
constant-only r a = sym (row-con a.val r) ∙ a.gives

fine-con : (top : ℕ) (r : List ℕ) → ((n : ℕ) → In n r → n < top) → Fine top (map con r)
fine-con top [] small t m = absurd m
fine-con top (n ∷ r) small t m = ⊎_elim (λ e. subst (FineTerm top) (sym e) (small n (inl refl))) (fine-con top r (λ k i. small k (inr i)) t) m

pub constant-fine : (top : ℕ) (table : Table) (r : List ℕ) → ((n : ℕ) → In n r → n < top) → FineBlock top table (constant_block r)
constant-fine top table r small = record { head = fine-con top r small; atoms = λ a m. absurd m; apart = λ d m. absurd m }

-- a list of the sheet beyond some rows is the constant block of one of them
pub of_constants : (l : Block) (rs : List (List ℕ)) → In l (map constant_block rs) → (r : List ℕ) × In r rs × (l ≡ constant_block r)
of_constants l [] m = absurd m
of_constants l (r ∷ rs) m = ⊎_elim (λ e. (r, inl refl, e)) (λ n. let (q, i, e) = of_constants l rs n in (q, inr i, e)) m

-- ---- beyond some rows

pub beyond-case : (x : Sheet) (rs : List (List ℕ)) (log : Log) → Agreeing x log → (r : List ℕ) → Answer log x.question r → (In r rs → ⊥) → Case (beyond_rows x rs) log r
beyond-case x rs log a r q out = record {
  agreeing = record { lawful = a.lawful; agrees = a.agrees };
  asked = q;
  missing = λ l m b.
      let (u, i, e) = of_constants l rs m in
      out (subst (λ z. In z rs) (constant-only u (subst (λ (z : Block). Answer log z r) e b)) i);
}

pub beyond-agrees : (x : Sheet) (rs : List (List ℕ)) {log : Log} {r : List ℕ} → Case (beyond_rows x rs) log r → Agreeing x log
beyond-agrees x rs c = record { lawful = c.agreeing.lawful; agrees = c.agreeing.agrees }

in-constants : (rs : List (List ℕ)) (r : List ℕ) → In r rs → In (constant_block r) (map constant_block rs)
in-constants [] r m = absurd m
in-constants (q ∷ rs) r m = ⊎_elim (λ e. inl (λ i. constant_block (e i))) (λ n. inr (in-constants rs r n)) m

pub beyond-out : (x : Sheet) (rs : List (List ℕ)) {log : Log} {r : List ℕ} → Case (beyond_rows x rs) log r → In r rs → ⊥
beyond-out x rs {log} {r} c i = c.missing (constant_block r) (in-constants rs r i) (constant-answer log r)

pub beyond-fine : {top : ℕ} {x : Sheet} (rs : List (List ℕ)) → ((r : List ℕ) → In r rs → (n : ℕ) → In n r → n < top) → FineSheet top x → FineSheet top (beyond_rows x rs)
beyond-fine {top} {x} rs small ok = record {
  table = ok.table;
  question = ok.question;
  lists = λ l m. let (r, i, e) = of_constants l rs m in subst (FineBlock top x.table) (sym e) (constant-fine top x.table r (small r i));
  views = ok.views;
  rows = ok.rows;
  lengths = ok.lengths;
}

-- ---- without one row

pub lacking_case : (x : Sheet) (r : List ℕ) (log : Log) → Agreeing x log → (Answer log x.question r → ⊥) → Case (lacking_row x r) log r
lacking_case x r log a out = record {
  agreeing = record { lawful = a.lawful; agrees = a.agrees };
  asked = constant-answer log r;
  missing = λ l m b. ⊎_elim (λ e. out (subst (λ (z : Block). Answer log z r) e b)) (λ n. absurd n) m;
}

pub lacking_agrees : (x : Sheet) (r : List ℕ) {log : Log} {t : List ℕ} → Case (lacking_row x r) log t → Agreeing x log
lacking_agrees x r c = record { lawful = c.agreeing.lawful; agrees = c.agreeing.agrees }

pub lacking_out : (x : Sheet) (r : List ℕ) {log : Log} {t : List ℕ} → Case (lacking_row x r) log t → Answer log x.question r → ⊥
lacking_out x r {log} c b = c.missing x.question (inl refl) (subst (Answer log x.question) (constant-only r c.asked) b)

pub lacking_fine : {top : ℕ} {x : Sheet} (r : List ℕ) → ((n : ℕ) → In n r → n < top) → FineSheet top x → FineSheet top (lacking_row x r)
lacking_fine {top} {x} r small ok = record {
  table = ok.table;
  question = constant-fine top x.table r small;
  lists = λ l m. ⊎_elim (λ e. subst (FineBlock top x.table) (sym e) ok.question) (λ n. absurd n) m;
  views = ok.views;
  rows = ok.rows;
  lengths = ok.lengths;
}
