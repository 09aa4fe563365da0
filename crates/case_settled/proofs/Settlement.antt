-- The verdicts on a question from searches. One log that agrees is fixed: a log with an answer beyond some rows is told apart from it, so does
-- one that lacks an answer of it; and where there is neither, the rows are the answers in every log.
use mathlib.Core.Path.{◌≡◌, refl, sym, subst}
use mathlib.Core.List.{List}
use mathlib.Core.Logic.{⊎_elim}
use Prim.Native.Nat.{ℕ, zero, suc, ◌<◌}
use Rattle.query_meaning.specs.Meaning.{Log, Block, In, Answer}
use Rattle.query_meaning.specs.Blocks.{View}
use Rattle.query_meaning.specs.Evaluate.{Ascending}
use Rattle.case_verdicts.specs.Verdict.{Sheet, Agreeing, Case}
use Rattle.case_verdicts.specs.Accepted.{FineSheet, Safe}
use Rattle.case_verdicts.specs.Search.{free, Refuted}
use Rattle.case_verdicts.proofs.Decide.{row?, in?, or_not, answer?}
use Rattle.case_verdicts.proofs.Refute.{no-case}
use Rattle.case_settled.specs.Settled.{Settled, ToldApart, HasSettlement}
use Rattle.case_settled.specs.Searches.{beyond_rows, lacking_row}
use Rattle.case_settled.proofs.Searches.{beyond-case, beyond-agrees, beyond-out, beyond-fine, lacking_case, lacking_agrees, lacking_out, lacking_fine}

-- ---- at most one verdict

never_both : {x : Sheet} {rs : List (List ℕ)} {first second : Log} {r : List ℕ} → Settled x rs → ToldApart x first second r → ⊥
never_both {r = r} s p = p.lacked ((s.same _ p.second_agrees).only r ((s.same _ p.first_agrees).every r p.given))

pub exclusive : (x : Sheet) (m n : ℕ) → HasSettlement x m → HasSettlement x n → m ≡ n
exclusive x zero n p q = absurd p
exclusive x (suc zero) n p q = absurd p
exclusive x (suc (suc zero)) zero p q = absurd q
exclusive x (suc (suc zero)) (suc zero) p q = absurd q
exclusive x (suc (suc zero)) (suc (suc zero)) p q = refl
exclusive x (suc (suc zero)) (suc (suc (suc zero))) p (rs, s) = absurd (p s.some.0 s.some.1)
exclusive x (suc (suc zero)) (suc (suc (suc (suc zero)))) p (a, b, r, q) = absurd (p a q.first_agrees)
exclusive x (suc (suc zero)) (suc (suc (suc (suc (suc n))))) p q = absurd q
exclusive x (suc (suc (suc zero))) zero p q = absurd q
exclusive x (suc (suc (suc zero))) (suc zero) p q = absurd q
exclusive x (suc (suc (suc zero))) (suc (suc zero)) (rs, s) q = absurd (q s.some.0 s.some.1)
exclusive x (suc (suc (suc zero))) (suc (suc (suc zero))) p q = refl
exclusive x (suc (suc (suc zero))) (suc (suc (suc (suc zero)))) (rs, s) (a, b, r, q) = absurd (never_both s q)
exclusive x (suc (suc (suc zero))) (suc (suc (suc (suc (suc n))))) p q = absurd q
exclusive x (suc (suc (suc (suc zero)))) zero p q = absurd q
exclusive x (suc (suc (suc (suc zero)))) (suc zero) p q = absurd q
exclusive x (suc (suc (suc (suc zero)))) (suc (suc zero)) (a, b, r, p) q = absurd (q a p.first_agrees)
exclusive x (suc (suc (suc (suc zero)))) (suc (suc (suc zero))) (a, b, r, p) (rs, s) = absurd (never_both s p)
exclusive x (suc (suc (suc (suc zero)))) (suc (suc (suc (suc zero)))) p q = refl
exclusive x (suc (suc (suc (suc zero)))) (suc (suc (suc (suc (suc n))))) p q = absurd q
exclusive x (suc (suc (suc (suc (suc m))))) n p q = absurd p

-- ---- settled

-- no agreeing log has an answer beyond the rows, and none lacks one of them
pub says_settled : (x : Sheet) → Safe x.question → (some : Log) → Agreeing x some → (rs : List (List ℕ)) → Ascending rs
    → ((log : Log) (r : List ℕ) → Case (beyond_rows x rs) log r → ⊥) → ((r : List ℕ) → In r rs → (log : Log) (t : List ℕ) → Case (lacking_row x r) log t → ⊥) → Settled x rs
says_settled x safe some a rs up none each = record {
  some = (some, a);
  same = λ log b. record {
    only = λ r i. ⊎_elim (λ q. q) (λ out. absurd (each r i log r (lacking_case x r log b out))) (answer? log x.question safe r);
    every = λ r q. ⊎_elim (λ i. i) (λ out. absurd (none log r (beyond-case x rs log b r q out))) (or_not (in? row? r rs));
    ascending = up;
  };
}

-- the same from searches that found nothing
pub settled-by : {top : ℕ} (x : Sheet) → FineSheet top x → Safe x.question → (some : Log) → Agreeing x some → (rs : List (List ℕ)) → Ascending rs
    → ((r : List ℕ) → In r rs → (n : ℕ) → In n r → n < top) → Refuted top (beyond_rows x rs) (free top) → ((r : List ℕ) → In r rs → Refuted top (lacking_row x r) (free top)) → Settled x rs
settled-by x ok safe some a rs up small none each =
    says_settled x safe some a rs up (no-case (beyond_rows x rs) (beyond-fine rs small ok) none) (λ r i. no-case (lacking_row x r) (lacking_fine r (small r i) ok) (each r i))

-- ---- not settled

-- a log with an answer beyond the rows, where the fixed log's answers are among them if they are that one
pub apart-beyond : (x : Sheet) (rs : List (List ℕ)) {first second : Log} {r : List ℕ} → Agreeing x second → Case (beyond_rows x rs) first r → (Answer second x.question r → In r rs) → ToldApart x first second r
apart-beyond x rs b c known = record { first_agrees = beyond-agrees x rs c; second_agrees = b; given = c.asked; lacked = λ q. beyond-out x rs c (known q) }

-- a log that lacks an answer of the fixed one
pub apart_lacking : (x : Sheet) {first second : Log} {r t : List ℕ} → Agreeing x first → Answer first x.question r → Case (lacking_row x r) second t → ToldApart x first second r
apart_lacking x {r = r} a q c = record { first_agrees = a; second_agrees = lacking_agrees x r c; given = q; lacked = lacking_out x r c }

-- ---- a question that one of the views asks too

-- is settled by that view's rows, where some log agrees
pub settled-by-view : (x : Sheet) (w : View) → In w x.views → x.question ≡ w.block → Ascending w.rows → (some : Log) → Agreeing x some → Settled x w.rows
settled-by-view x w m e up some a = record {
  some = (some, a);
  same = λ log b. record {
    only = λ r i. subst (λ (z : Block). Answer log z r) (sym e) ((b.agrees w m).none_missing r i);
    every = λ r q. (b.agrees w m).none_more r (subst (λ (z : Block). Answer log z r) e q);
    ascending = up;
  };
}
