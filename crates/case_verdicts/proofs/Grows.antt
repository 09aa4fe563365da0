-- Covered only grows where a table asks for keys: what is covered without them has no case with them.
use mathlib.Core.Path.{◌≡◌, refl, sym, ap, ◌∙◌, subst}
use mathlib.Core.List.{List}
use mathlib.Core.Logic.{◌⊎◌, inl, inr, ⊎_elim}
use Prim.Native.Nat.{ℕ, zero, suc, ◌<◌}
use native.Mathlib.Omega.{arith}
use lib.ListN.{length}
use Rattle.sheet_format.specs.Line.{Line}
use Rattle.sheet_format.specs.Cause.{refusal_of}
use Rattle.query_meaning.specs.Meaning.{Fact, Log, In}
use Rattle.case_verdicts.specs.Table.{Relation, Table, relation, Sound, owed, parents, Lawful}
use Rattle.case_verdicts.specs.Verdict.{Sheet, Agreeing, Case, Covered, NoLog}
use Rattle.case_verdicts.specs.Sheets.{sheet_of}
use Rattle.case_verdicts.proofs.Verdicts.{accepted-judged}

-- a relation without its key; a table without keys; a sheet by it
abbrev pub unkeyed : Relation → Relation
unkeyed r = record { columns = r.columns; key = 0; parent = r.parent }

abbrev pub without_keys : Table → Table
without_keys t n = unkeyed (t n)

abbrev pub judged_without_keys : Sheet → Sheet
judged_without_keys x = record { table = without_keys x.table; question = x.question; lists = x.lists; views = x.views }

relation-unkeyed : (t : Table) (n : ℕ) → relation (without_keys t) n ≡ unkeyed (relation t n)
unfolding relation
relation-unkeyed t zero = refl
relation-unkeyed t (suc n) = refl

module _ (t : Table) where
  columns-same : (n : ℕ) → (relation (without_keys t) n).columns ≡ (relation t n).columns
  columns-same n = ap (λ (r : Relation). r.columns) (relation-unkeyed t n)

  parents-same : (f : Fact) → parents (without_keys t) f ≡ parents t f
  parents-same f = ap (λ (r : Relation). owed r.parent f.row) (relation-unkeyed t f.rel)

  -- a log that counts counts without keys as well
  lawful-unkeyed : (log : Log) → Lawful t log → Lawful (without_keys t) log
  lawful-unkeyed log l = record {
    formed = λ f m. record { known = subst (λ k. 0 < k) (sym (columns-same f.rel)) (l.formed f m).known; full = (l.formed f m).full ∙ sym (columns-same f.rel) };
    parented = λ f m g n. l.parented f m g (subst (In g) (parents-same f) n);
    keyed = λ f g m n k. let some = k.some in let e = ap (λ (r : Relation). r.key) (relation-unkeyed t f.rel) in absurd (omega arith);
  }

module _ (x : Sheet) where
  pub case-unkeyed : (log : Log) (t : List ℕ) → Case x log t → Case (judged_without_keys x) log t
  case-unkeyed log t c = record {
    agreeing = record { lawful = lawful-unkeyed x.table log c.agreeing.lawful; agrees = c.agreeing.agrees };
    asked = c.asked;
    missing = c.missing;
  }

  -- covered without keys: no case with them
  pub covered-grows : Covered (judged_without_keys x) → (log : Log) (t : List ℕ) → Case x log t → ⊥
  covered-grows c log t k = c.none log t (case-unkeyed log t k)

-- covered without keys: covered with them, or no log agrees any more
pub covered_or_none : (table : Table) → Sound table → (ls : List Line) → (refusal_of table ls).number ≡ 0 → Covered (judged_without_keys (sheet_of table ls)) → Covered (sheet_of table ls) ⊎ NoLog (sheet_of table ls)
covered_or_none table sound ls ok c =
    ⊎_elim (λ d. inl d) (⊎_elim (λ h. absurd (covered-grows (sheet_of table ls) c h.log h.answer h.is)) (λ n. inr n)) (accepted-judged table sound ls ok)
