-- Covered, not covered and no log exclude each other, and one of them holds for the sheet of accepted lines.
use mathlib.Core.Path.{◌≡◌, refl}
use mathlib.Core.List.{List}
use mathlib.Core.Logic.{◌⊎◌, ⊎_elim}
use Prim.Native.Nat.{ℕ, zero, suc, ◌<◌, ◌≤◌}
use native.Mathlib.Omega.{arith}
use lib.ListN.{length}
use Rattle.tableau_layout.specs.Layout.{tableau_atoms}
use Rattle.sheet_format.specs.Table.{Table, Sound}
use Rattle.sheet_format.specs.Line.{Line}
use Rattle.sheet_format.specs.Cause.{refusal_of}
use Rattle.query_meaning.specs.Meaning.{Fact, In}
use Rattle.query_meaning.specs.Facts.{value_end}
use Rattle.case_verdicts.specs.Verdict.{Sheet, Covered, NoLog, HasVerdict}
use Rattle.case_verdicts.specs.Handed.{Handed}
use Rattle.case_verdicts.specs.Sheets.{top, sheet_of}
use Rattle.case_verdicts.proofs.Known.{stands-small}
use Rattle.case_verdicts.proofs.Check.{judged}
use Rattle.case_verdicts.proofs.Accepted.{accepted-sheet, accepted_evaluable, accepted-question}
use Rattle.case_verdicts.proofs.Sizes.{accepted-room, accepted-size}

-- no sheet has two verdicts
pub exclusive : (x : Sheet) (m n : ℕ) → HasVerdict x m → HasVerdict x n → m ≡ n
exclusive x zero zero p q = refl
exclusive x zero (suc zero) p (log, t, k) = absurd (p.none log t k)
exclusive x zero (suc (suc zero)) p q = absurd (q p.some.0 p.some.1)
exclusive x zero (suc (suc (suc n))) p q = absurd q
exclusive x (suc zero) zero (log, t, k) q = absurd (q.none log t k)
exclusive x (suc zero) (suc zero) p q = refl
exclusive x (suc zero) (suc (suc zero)) (log, t, k) q = absurd (q log k.agreeing)
exclusive x (suc zero) (suc (suc (suc n))) p q = absurd q
exclusive x (suc (suc zero)) zero p q = absurd (p q.some.0 q.some.1)
exclusive x (suc (suc zero)) (suc zero) p (log, t, k) = absurd (p log k.agreeing)
exclusive x (suc (suc zero)) (suc (suc zero)) p q = refl
exclusive x (suc (suc zero)) (suc (suc (suc n))) p q = absurd q
exclusive x (suc (suc (suc m))) n p q = absurd p

module _ (table : Table) (sound : Sound table) (ls : List Line) (ok : (refusal_of table ls).number ≡ 0) where
  -- a verdict, with a case to hand over where it is 1
  pub accepted-judged : Covered (sheet_of table ls) ⊎ (Handed top value_end (sheet_of table ls) ⊎ NoLog (sheet_of table ls))
  accepted-judged = judged (sheet_of table ls) (accepted-room table ls ok) (accepted-sheet table ls ok sound) (accepted-question table ls ok) (accepted_evaluable table ls ok)

  -- exactly one verdict
  pub one-verdict : (n : ℕ) × HasVerdict (sheet_of table ls) n × ((m : ℕ) → HasVerdict (sheet_of table ls) m → m ≡ n)
  one-verdict = ⊎_elim (only 0) (⊎_elim (λ h. only 1 (h.log, h.answer, h.is)) (only 2)) accepted-judged
    where
      only : (n : ℕ) → HasVerdict (sheet_of table ls) n → (n : ℕ) × HasVerdict (sheet_of table ls) n × ((m : ℕ) → HasVerdict (sheet_of table ls) m → m ≡ n)
      only n h = (n, h, λ m k. exclusive (sheet_of table ls) m n k h)

  -- ---- what is handed over: at most 252 facts, with values that a fact can have

  pub handed-few : (h : Handed top value_end (sheet_of table ls)) → length h.log ≤ tableau_atoms
  handed-few h = let s = accepted-size table ls ok in let m = h.most_with_parents in omega arith

  pub handed-small : (h : Handed top value_end (sheet_of table ls)) (f : Fact) → In f h.log → (n : ℕ) → In n f.row → n < value_end
  handed-small h f m n i = ⊎_elim (λ s. let l = stands-small (sheet_of table ls) (accepted-sheet table ls ok sound) n s in omega arith) (λ r. r.1) (h.values f m n i)
