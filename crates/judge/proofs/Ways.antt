-- What the call gives, way by way.
use mathlib.Core.Path.{◌≡◌, refl, sym, ap, ◌∙◌, subst}
use mathlib.Core.Bool.{Bool, true, false, true≢false}
use mathlib.Core.List.{List, []}
use mathlib.Core.Logic.{◌⊎◌, inl, inr}
use Prim.Native.Nat.{ℕ, zero, suc, ◌+◌, ◌<◌, ◌≤◌}
use native.Mathlib.Omega.{arith}
use borrow.Author.Tests.{ne_eqb, le-ltb}
use lib.Dec.{eqb, ltb}
use lib.IntN.{ℤ}
use lib.ListN.{length}
use Rattle.sheet_format.specs.Limits.{most_words}
use Rattle.sheet_format.specs.Table.{Table, Sound, ten, table_in}
use Rattle.sheet_format.specs.Line.{Line, byte_lines}
use Rattle.sheet_format.specs.Cause.{refusal, refusal_of}
use Rattle.sheet_format.specs.Sheet.{sheet_refusal, read_ending}
use Rattle.sheet_format.specs.Answers.{Refusal}
use Rattle.sheet_format.specs.Answers.{Ending}
use Rattle.sheet_format.specs.Answers.Ending.{Done, Refused}
use Rattle.query_meaning.specs.Blocks.{nowhere, all_blocks, block_at}
use Rattle.query_encoding.specs.Encoding.{Shaped, has_block}
use Rattle.query_encoding.proofs.Lists.{in-at}
use Rattle.query_blocks.proofs.Shape.{accepted-shaped}
use Rattle.sheet.proofs.Calls.{refused-by, clean-sheet}
use Rattle.sheet_table.specs.Tables.{table_refusal}
use Rattle.sheet_table.specs.Loads.{Loads}
use Rattle.sheet_table.specs.Loads.{Loaded}
use Rattle.sheet_table.proofs.Sound.{table-sound}
use Rattle.sheet_own_table.specs.Own.{own_bytes}
use Rattle.sheet_own_table.proofs.Means.{own-passes, own_means}
use Rattle.case_verdicts.specs.Verdict.{Sheet}
use Rattle.case_verdicts.specs.Sheets.{top, sheet_of}
use Rattle.case_verdicts.specs.Tableau.{bare, State}
use Rattle.case_verdicts.specs.Search.{free, Refuted}
use Rattle.case_verdicts.proofs.Accepted.{accepted-sheet, accepted-lists}
use Rattle.case_verdicts.proofs.Order.{block-question, block-list, block_view, block-count}
use Rattle.case_verdicts.proofs.Judge.{says_covered, says_no_log}
use Rattle.tableau_plan.specs.Plan.{Plan}
use Rattle.search_task.specs.Task.{ReadyPlan}
use Rattle.search_node.specs.Node.{StateFound}
use Rattle.search_step.specs.Run.{FoundBy}
use Rattle.case_writer.specs.Over.{HandsOver}
use Rattle.judge_result.specs.Judged.{judgement, SheetSent, Short, Said, HandedOver, Decided, Judged, TableSent, JudgedBy, least_room}
use Rattle.judge_result.specs.Answers.{Judgement}

-- ---- a plan of accepted lines is ready for a search

module _ (table : Table) (ls : List Line) (ok : (refusal_of table ls).number ≡ 0) where
  is_block : (k : ℕ) → k < 1 + length (sheet_of table ls).lists + length (sheet_of table ls).views → has_block ls (suc k) ≡ true
  is_block k lt = let c = block-count table ls ok in rw (ne_eqb (suc k) 0 (λ e. omega arith), le-ltb (length (all_blocks ls)) (suc k) (omega arith)) refl

  shaped : (k : ℕ) → k < 1 + length (sheet_of table ls).lists + length (sheet_of table ls).views → Shaped table (block_at ls (suc k))
  shaped k lt = accepted-shaped table ls ok (suc k) (is_block k lt)

  pub ready-plan : Sound table → (p : List ℕ) → Plan p (sheet_of table ls) → ReadyPlan p (sheet_of table ls)
  ready-plan sound p plan = record {
    plan = plan;
    accepted = accepted-sheet table ls ok sound;
    question = subst (Shaped table) (block-question table ls ok) (shaped 0 (omega arith));
    lists = λ l m. let (i, lt, e) = in-at nowhere.block l (sheet_of table ls).lists m in (subst (Shaped table) (block-list table ls ok i lt ∙ e) (shaped (suc i) (omega arith)), accepted-lists table ls ok l m);
    views = λ v lt. let c = plan.views in subst (Shaped table) (block_view table ls ok v) (shaped (suc (length (sheet_of table ls).lists + v)) (omega arith));
  }

-- ---- the verdict from the two searches

module _ (p : List ℕ) (x : Sheet) (r : ReadyPlan p x) (out : List ℤ) (room : least_room ≤ length out) where
  pub found-case : (b : Bool) (ws : List ℕ) → b ≡ true → FoundBy b x x ws → StateFound x x ws
  found-case true ws e f = f
  found-case false ws e f = absurd (true≢false (sym e))

  no-case : (b : Bool) (ws : List ℕ) → b ≡ false → FoundBy b x x ws → Refuted top x (free top)
  no-case true ws e f = absurd (true≢false e)
  no-case false ws e f = f

  pub decided-case : (after : List ℤ) (k : ℕ) (u : List ℕ) → HandsOver x out after k u → Decided x out after (record { verdict = 1; number = 0; line = 0; count = k; missing = u })
  decided-case after k u h = inr (inr (inl (record {
    room = room;
    handed = h.handed;
    result = λ i. record { verdict = 1; number = 0; line = 0; count = h.count i; missing = h.answer i };
    facts = h.facts;
    read = h.read;
    rest = h.rest;
    same = h.same;
  })))

  pub decided-covered : (b c : Bool) (ws us : List ℕ) → b ≡ false → c ≡ true → FoundBy b x x ws → FoundBy c x (bare x) us → (q : Judgement) → q ≡ judgement 0 0 0 0 [] → Decided x out out q
  decided-covered b true ws us e g f h q is = inr (inl (record { room = room; holds = says_covered r.accepted (no-case b ws e f) h.good; result = is; lent = refl }))
  decided-covered b false ws us e g f h q is = absurd (true≢false (sym g))

  pub decided-no-log : (c : Bool) (us : List ℕ) → c ≡ false → FoundBy c x (bare x) us → (q : Judgement) → q ≡ judgement 2 0 0 0 [] → Decided x out out q
  decided-no-log true us g h q is = absurd (true≢false g)
  decided-no-log false us g h q is = inr (inr (inr (record { room = room; holds = says_no_log r.accepted h; result = is; lent = refl })))

-- ---- refusals

pub decided-short : (x : Sheet) (out : List ℤ) → length out < least_room → (q : Judgement) → q ≡ judgement 9 13 0 0 [] → Decided x out out q
decided-short x out few q is = inl (record { few = few; result = is; lent = refl })

module _ (table : Table) where
  pub judged-sent : (s : List ℕ) (out : List ℤ) (c l : ℕ) (r : Ending) → r ≡ read_ending table s most_words → r ≡ Refused c l → (q : Judgement) → q ≡ judgement 9 c l 0 [] → Judged table s out out q
  judged-sent s out c l r is e q b =
      let (h, k) = refused-by table s c l r is e in
      inl (record { cause = h; result = b ∙ sym (ap (λ (z : Refusal). judgement 9 z.number z.line 0 []) k); lent = refl })

  pub judged-read : (s : List ℕ) (out after : List ℤ) (n : ℕ) (ls : List Line) (q : Judgement) → read_ending table s most_words ≡ Done n → ls ≡ byte_lines s → Decided (sheet_of table ls) out after q → Judged table s out after q
  judged-read s out after n ls q done e d = inr (clean-sheet table s n done, subst (λ l. Decided (sheet_of table l) out after q) e d)

-- ---- by the bytes of a table

module _ (tb s : List ℕ) (t : Loaded) (loads : Loads tb t) where
  pub table-sent : (out : List ℤ) (q : Judgement) → (t.number ≡ 0 → ⊥) → q ≡ judgement 9 t.number t.line 0 [] → JudgedBy tb s out out q
  table-sent out q h is = inl (record {
    cause = λ z. h (loads.number ∙ z);
    result = is ∙ ap (λ n. judgement 9 n t.line 0 []) loads.number ∙ ap (λ n. judgement 9 (table_refusal tb).number n 0 []) loads.line;
    lent = refl;
  })

  pub table_taken : (out after : List ℤ) (q : Judgement) → t.number ≡ 0 → (Sound (table_in t.numbers) → Judged (table_in t.numbers) s out after q) → JudgedBy tb s out after q
  table_taken out after q z judged =
      let clean = sym loads.number ∙ z in
      let e = loads.table clean in
      inr (clean, subst (λ u. Judged u s out after q) e (judged (subst Sound (sym e) (table-sound tb clean))))

-- the library's own table is not sent back, and is the ten
pub own-judged : (s : List ℕ) (out after : List ℤ) (q : Judgement) → JudgedBy own_bytes s out after q → Judged ten s out after q
own-judged s out after q (inl d) = absurd (d.cause (ap (λ (r : Refusal). r.number) own-passes))
own-judged s out after q (inr d) = subst (λ t. Judged t s out after q) own_means d.1
