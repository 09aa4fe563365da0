-- The text of an accepted sheet has that sheet again, with the variables of each block numbered by first place.
use mathlib.Core.Path.{◌≡◌, ap, ◌∙◌, subst}
use mathlib.Core.List.{List, []}
use Prim.Native.Nat.{ℕ, ◌%◌, ◌≤◌}
use native.Mathlib.Omega.{arith}
use lib.ListN.{length}
use borrow.Author.Tests.{eq-eqb, le-ltb}
use Rattle.sheet_format.specs.Limits.{most_words, most_bytes, line_word_count}
use Rattle.sheet_format.specs.Table.{Table}
use Rattle.sheet_format.specs.Line.{Line, byte_lines, bytes_of, words_of}
use Rattle.sheet_format.specs.Cause.{refusal_of}
use Rattle.sheet_format.specs.Sheet.{sheet_refusal, words_refusal, write_ending}
use Rattle.sheet_format.specs.Answers.Ending.{Done}
use Rattle.sheet_format.proofs.Good.{Goods}
use Rattle.sheet_format.proofs.LineLaws.{words_back, bytes_back, all-words-length, bytes_good, bytes-shown}
use Rattle.sheet_format.proofs.ScanLaws.{accepted-lines, accepted-length}
use Rattle.sheet_format.proofs.RoundTrip.{ending-is, bytes-clean}
use Rattle.text_begins.specs.Begins.{most_text}
use Rattle.text_from_sheet.specs.Shown.{text_of}
use Rattle.text_from_sheet.proofs.Calls.{text-fits}
use Rattle.text_to_sheet.specs.Texts.{made_by_writing, made_of, sheet_bytes}
use Rattle.text_to_sheet.specs.Outcome.{Made as made}
use Rattle.text_meaning.specs.Reading.{reading_of, form_of}
use Rattle.text_laws.specs.Named.{Named}
use Rattle.text_laws.specs.Numbered.{numbered_lines, ByFirstPlace}
use Rattle.text_laws.proofs.Sound.{text-sound, goods_back, form-lines}
use Rattle.text_laws.proofs.Shown.{lines-shown}
use Rattle.text_laws.proofs.Again.{numbered_again}
use Rattle.text_laws.proofs.Accepted.{numbered-accepted}
use Rattle.text_laws.proofs.ReadBack.{Ends, start-run}

-- all of the text is understood, and its lines are the sheet's, numbered
pub text-back : (table : Table) → Named table → (s : List ℕ) → (sheet_refusal table s).number ≡ 0 → Ends (reading_of (text_of table s)) (numbered_lines [] (byte_lines s))
unfolding reading_of text_of
text-back table named s e =
    let r = start-run table named (byte_lines s) (bytes-clean table s e) in
    rw (lines-shown table (byte_lines s) (bytes_good s)) r

-- its sheet is the one that is numbered by first place
pub numbered-back : (table : Table) → Named table → (s : List ℕ) → (sheet_refusal table s).number ≡ 0 → sheet_bytes (text_of table s) ≡ bytes_of (numbered_lines [] (byte_lines s))
unfolding sheet_bytes
numbered-back table named s e = ap bytes_of (form-lines (text_of table s) ∙ (text-back table named s e).lines)

-- what is written from the words of accepted lines
words-written : (table : Table) (ls : List Line) → Goods ls → (refusal_of table ls).number ≡ 0 → (room : ℕ) → most_bytes ≤ room → write_ending table (words_of ls) room ≡ Done (length (bytes_of ls))
unfolding write_ending words_refusal
words-written table ls g e room le =
    let b = words_back ls g in
    let n = accepted-length table ls e in
    let m = all-words-length ls g in
    rw (le-ltb most_words (length (words_of ls)) (omega arith), eq-eqb (length (words_of ls) % line_word_count) 0 (omega arith), b) (ending-is (refusal_of table ls) room most_bytes (length (bytes_of ls)) e le)

module _ (table : Table) (named : Named table) (s : List ℕ) (e : (sheet_refusal table s).number ≡ 0) where
  abbrev numbered : List Line
  numbered = numbered_lines [] (byte_lines s)

  numbered-good : Goods numbered
  numbered-good = subst Goods (text-back table named s e).lines (goods_back (reading_of (text_of table s)).lines (text-sound (text_of table s)).lines)

  -- which has nothing left to number
  pub first-place : ByFirstPlace (sheet_bytes (text_of table s))
  first-place =
      let a = numbered-accepted table (byte_lines s) (bytes-clean table s e) in
      let b : byte_lines (sheet_bytes (text_of table s)) ≡ numbered = ap byte_lines (numbered-back table named s e) ∙ bytes_back numbered numbered-good (accepted-lines table numbered a) in
      rw b (numbered_again table (byte_lines s) (bytes-clean table s e))

  -- it is what sheet_of makes of the text, in any room that a sheet wants
  pub numbered-made : (room : ℕ) → most_bytes ≤ room → made_of table (text_of table s) room ≡ made.Sheet (length (bytes_of numbered))
  unfolding made_of form_of
  numbered-made room h =
      let t = text-back table named s e in
      let f = text-fits table named.narrow s e in
      let w : write_ending table (form_of (reading_of (text_of table s))) room ≡ Done (length (bytes_of numbered)) =
      ap (λ ls. write_ending table (words_of ls) room) t.lines ∙ words-written table numbered numbered-good (numbered-accepted table (byte_lines s) (bytes-clean table s e)) room h in
      rw (le-ltb most_text (length (text_of table s)) (omega arith), eq-eqb (reading_of (text_of table s)).control.expected 0 t.fits) (ap (made_by_writing (reading_of (text_of table s))) w)

  -- a sheet that is numbered so is given back byte for byte
  module _ (n : ByFirstPlace s) where
    same_bytes : bytes_of numbered ≡ s
    same_bytes = ap bytes_of n ∙ bytes-shown s (accepted-lines table (byte_lines s) (bytes-clean table s e))

    pub sheet-back : sheet_bytes (text_of table s) ≡ s
    sheet-back = numbered-back table named s e ∙ same_bytes

    pub made-back : (room : ℕ) → most_bytes ≤ room → made_of table (text_of table s) room ≡ made.Sheet (length s)
    made-back room h = numbered-made room h ∙ ap (λ x. made.Sheet (length x)) same_bytes
