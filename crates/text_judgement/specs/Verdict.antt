-- The verdict of a sheet in words, for all input, by a table of relations, t.
use Rattle.std.specs.Prelude.{cond, List, ◌++◌, map, ◌⊎◌, ℕ, eqb, ltb, ℤ, pos, length, take, replicate}
use Rattle.sheet_format.specs.Limits.{field_end}
use Rattle.sheet_format.specs.Table.{Table}
use Rattle.sheet_format.specs.Line.{byte_lines}
use Rattle.case_verdicts.specs.Sheets.{question_in}
use Rattle.judge_result.specs.Judged.{least_room, Judged}
use Rattle.judge_result.specs.Answers.{Judgement}
use Rattle.text_buffer.specs.Words.{bytes}
use Rattle.text_writer.specs.Texts.{terms_bytes, facts_bytes, refusal_bytes}
use Rattle.text_writer.specs.Says.{Silent, Spoken}

-- a value of a missing answer as a word; 0 for a number that no field holds
abbrev pub value_word : ℕ → ℤ
value_word n = cond (ltb n field_end) (pos n) (pos 0)

-- a missing answer of so many columns
abbrev pub missing_bytes : ℕ → List ℕ → List ℕ
missing_bytes columns missing = terms_bytes (take columns (map value_word missing))

-- a case: the missing answer, and the facts of the log, as many as are counted
unfoldable pub case_bytes : Table → ℕ → List ℕ → ℕ → List ℤ → List ℕ
case_bytes t columns missing count facts =
    bytes "not covered: "
    ++ missing_bytes columns missing
    ++ bytes " is missing. Log: "
    ++ facts_bytes t count facts
    ++ bytes "\n"

-- a judgement by its verdict: covered (0), no log (2), refused (9), or a case; `columns` are the question's, `facts` the words with the case
unfoldable pub verdict_bytes : Table → ℕ → Judgement → List ℤ → List ℕ
verdict_bytes t columns r facts =
    cond (eqb r.verdict 0) (bytes "covered\n")
    (cond (eqb r.verdict 2) (bytes "no log gives these rows\n")
    (cond (eqb r.verdict 9) (refusal_bytes r.number r.line 0)
    (case_bytes t columns r.missing r.count facts)))

-- the columns of a sheet's question
abbrev pub asked : List ℕ → ℕ
asked s = length (question_in (byte_lines s)).head

-- the words that are lent for judging
abbrev pub lent : List ℤ
lent = replicate least_room (pos 0)

-- the sheet is judged, and the judgement said, all of it
pub record Told (t : Table) (s old new : List ℕ) (r : ℕ) : Type 0 where
  pub after : List ℤ
  pub judgement : Judgement
  pub judged : Judged t s lent after judgement
  pub words : Spoken (verdict_bytes t (asked s) judgement after) old new r

-- where there is room for any words; else nothing
abbrev pub Verdict : Table → List ℕ → List ℕ → List ℕ → ℕ → Type 0
Verdict t s old new r = Silent old new r ⊎ Told t s old new r
