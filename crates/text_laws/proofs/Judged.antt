-- A sheet whose variables are numbered by first place has the verdict that the sheet has.
use mathlib.Core.Path.{◌≡◌, refl, sym, subst}
use mathlib.Core.Bool.{Bool, true, false, true≢false}
use mathlib.Core.List.{List, [], ◌∷◌, map}
use mathlib.Core.Logic.{inl, inr}
use Prim.Native.Nat.{ℕ, zero, suc}
use Rattle.sheet_format.specs.Table.{Table}
use Rattle.sheet_format.specs.Line.{Line}
use Rattle.sheet_format.specs.Cause as cause
use Rattle.sheet_format.specs.Cause.{Kind, is_head}
use Rattle.query_meaning.specs.Meaning.{Log, Block, In}
use Rattle.query_meaning.specs.Blocks.{View, nth, blocks}
use Rattle.query_encoding.proofs.Lists.{in_map, map_in}
use Rattle.case_verdicts.specs.Table.{Lawful}
use Rattle.case_verdicts.specs.Verdict.{Sheet, Agreeing, Case, HasVerdict}
use Rattle.case_verdicts.specs.Sheets.{is_question, is_saved, is_view_kind, sheet_of}
use Rattle.text_laws.specs.Numbered.{numbered_lines}
use Rattle.text_laws.proofs.Means.{SameAnswers, Alike, AllAlike, blocks-alike}

-- ---- views that are alike, one after the other

turned : (b c : Block) → SameAnswers b c → SameAnswers c b
turned b c s = record { to = s.from; from = s.to }

turned-view : (v w : View) → Alike v w → Alike w v
turned-view v w a = record { rows_are = sym a.rows_are; answers = turned v.block w.block a.answers }

all-turned : (vs ws : List View) → AllAlike vs ws → AllAlike ws vs
all-turned [] [] a = tt
all-turned [] (w ∷ ws) a = absurd a
all-turned (v ∷ vs) [] a = absurd a
all-turned (v ∷ vs) (w ∷ ws) (a, rest) = (turned-view v w a, all-turned vs ws rest)

partner : (vs ws : List View) → AllAlike vs ws → (w : View) → In w ws → (v : View) × In v vs × Alike v w
partner [] [] a w m = absurd m
partner [] (u ∷ ws) a w m = absurd a
partner (v ∷ vs) [] a w m = absurd m
partner (v ∷ vs) (u ∷ ws) (a, rest) w (inl e) = (v, inl refl, subst (Alike v) (sym e) a)
partner (v ∷ vs) (u ∷ ws) (a, rest) w (inr m) = let (x, i, s) = partner vs ws rest w m in (x, inr i, s)

first_alike : (vs ws : List View) → AllAlike vs ws → SameAnswers (nth vs 0).block (nth ws 0).block
first_alike [] [] a = record { to = λ log t x. x; from = λ log t x. x }
first_alike [] (w ∷ ws) a = absurd a
first_alike (v ∷ vs) [] a = absurd a
first_alike (v ∷ vs) (w ∷ ws) (a, rest) = a.answers

-- ---- sheets that mean the same

record SameSheets (x y : Sheet) : Type 0 where
  table : x.table ≡ y.table
  question : SameAnswers x.question y.question
  lists : (l : Block) → In l y.lists → (k : Block) × In k x.lists × SameAnswers k l
  views : (w : View) → In w y.views → (v : View) × In v x.views × Alike v w

agreeing-same : (x y : Sheet) → SameSheets x y → (log : Log) → Agreeing x log → Agreeing y log
agreeing-same x y s log a = record {
  lawful = subst (λ t. Lawful t log) s.table a.lawful;
  agrees = λ w m.
      let (v, i, l) = s.views w m in record {
        none_more = λ t n. subst (In t) l.rows_are ((a.agrees v i).none_more t (l.answers.from log t n));
        none_missing = λ t n. l.answers.to log t ((a.agrees v i).none_missing t (subst (In t) (sym l.rows_are) n));
      };
}

case_same : (x y : Sheet) → SameSheets x y → (log : Log) (t : List ℕ) → Case x log t → Case y log t
case_same x y s log t c = record {
  agreeing = agreeing-same x y s log c.agreeing;
  asked = s.question.to log t c.asked;
  missing = λ l m n. let (k, i, q) = s.lists l m in c.missing k i (q.from log t n);
}

verdict-same : (x y : Sheet) → SameSheets x y → SameSheets y x → (n : ℕ) → HasVerdict x n → HasVerdict y n
verdict-same x y s r zero h = record {
  some = (h.some.0, agreeing-same x y s h.some.0 h.some.1);
  none = λ log t c. h.none log t (case_same y x r log t c);
}
verdict-same x y s r (suc zero) (log, t, c) = (log, t, case_same x y s log t c)
verdict-same x y s r (suc (suc zero)) h = λ log a. h log (agreeing-same y x r log a)
verdict-same x y s r (suc (suc (suc n))) h = absurd h

-- ---- numbered lines

question-head : (k : Kind) → is_question k ≡ true → is_head k ≡ true
question-head cause.question e = refl
question-head cause.saved e = refl
question-head cause.view e = refl
question-head cause.atom e = absurd (true≢false (sym e))
question-head cause.row e = absurd (true≢false (sym e))
question-head cause.other e = absurd (true≢false (sym e))

saved-head : (k : Kind) → is_saved k ≡ true → is_head k ≡ true
saved-head cause.question e = refl
saved-head cause.saved e = refl
saved-head cause.view e = refl
saved-head cause.atom e = absurd (true≢false (sym e))
saved-head cause.row e = absurd (true≢false (sym e))
saved-head cause.other e = absurd (true≢false (sym e))

view-head : (k : Kind) → is_view_kind k ≡ true → is_head k ≡ true
view-head cause.question e = refl
view-head cause.saved e = refl
view-head cause.view e = refl
view-head cause.atom e = absurd (true≢false (sym e))
view-head cause.row e = absurd (true≢false (sym e))
view-head cause.other e = absurd (true≢false (sym e))

-- lines whose blocks are alike
same_sheets : (table : Table) (ls ms : List Line) → AllAlike (blocks is_question ls) (blocks is_question ms) → AllAlike (blocks is_saved ls) (blocks is_saved ms) → AllAlike (blocks is_view_kind ls) (blocks is_view_kind ms)
    → SameSheets (sheet_of table ls) (sheet_of table ms)
same_sheets table ls ms q l v = record {
  table = refl;
  question = first_alike (blocks is_question ls) (blocks is_question ms) q;
  lists = λ b m.
      let (w, i, e) = map_in (λ (u : View). u.block) b (blocks is_saved ms) m in
      let (u, j, a) = partner (blocks is_saved ls) (blocks is_saved ms) l w i in
      (u.block, in_map (λ (z : View). z.block) u (blocks is_saved ls) j, subst (SameAnswers u.block) (sym e) a.answers);
  views = λ w m. partner (blocks is_view_kind ls) (blocks is_view_kind ms) v w m;
}

module _ (table : Table) (ls : List Line) where
  numbered-sheet : SameSheets (sheet_of table (numbered_lines [] ls)) (sheet_of table ls)
  numbered-sheet = same_sheets table (numbered_lines [] ls) ls (blocks-alike is_question question-head [] ls) (blocks-alike is_saved saved-head [] ls) (blocks-alike is_view_kind view-head [] ls)

  sheet-numbered : SameSheets (sheet_of table ls) (sheet_of table (numbered_lines [] ls))
  sheet-numbered = same_sheets table ls (numbered_lines [] ls)
      (all-turned (blocks is_question (numbered_lines [] ls)) (blocks is_question ls) (blocks-alike is_question question-head [] ls))
      (all-turned (blocks is_saved (numbered_lines [] ls)) (blocks is_saved ls) (blocks-alike is_saved saved-head [] ls))
      (all-turned (blocks is_view_kind (numbered_lines [] ls)) (blocks is_view_kind ls) (blocks-alike is_view_kind view-head [] ls))

  -- each verdict holds of one exactly where it holds of the other
  pub numbered-verdict : (n : ℕ) → HasVerdict (sheet_of table (numbered_lines [] ls)) n → HasVerdict (sheet_of table ls) n
  numbered-verdict n h = verdict-same (sheet_of table (numbered_lines [] ls)) (sheet_of table ls) numbered-sheet sheet-numbered n h

  pub verdict-numbered : (n : ℕ) → HasVerdict (sheet_of table ls) n → HasVerdict (sheet_of table (numbered_lines [] ls)) n
  verdict-numbered n h = verdict-same (sheet_of table ls) (sheet_of table (numbered_lines [] ls)) sheet-numbered numbered-sheet n h
