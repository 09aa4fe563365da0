-- What the calls that read a sheet and put its text give, as what this crate's contract says.
use mathlib.Core.Path.{◌≡◌, sym, ap, ◌∙◌}
use mathlib.Core.List.{List}
use Prim.Native.Nat.{ℕ, ◌-◌, ◌*◌, ◌<◌, ◌≤◌}
use native.Mathlib.Omega.{arith}
use lib.IntN.{ℤ}
use lib.ListN.{length, take, drop}
use lib.Seq.{take_at}
use Rattle.sheet_format.specs.Limits.{most_words, line_word_count}
use Rattle.sheet_format.specs.Table.{Table, ten, table_in}
use Rattle.sheet_format.specs.Line.{byte_lines, words_of}
use Rattle.sheet_format.specs.Sheet.{over, lent_by, sheet_refusal, read_ending, read_words}
use Rattle.sheet_format.specs.Cause.{refusal}
use Rattle.sheet_format.specs.Answers.{Ending}
use Rattle.sheet_format.specs.Answers.Ending.{Done, Refused}
use Rattle.sheet_format.proofs.LineLaws.{bytes_good, all-words-length}
use Rattle.sheet_format.proofs.ScanLaws.{accepted-length}
use Rattle.sheet_format.proofs.RoundTrip.{ending-done, bytes-clean}
use Rattle.sheet_format.proofs.TableLaws.{Narrow}
use Rattle.sheet_terms.proofs.Laws.{columns-most}
use Rattle.sheet_table.specs.Loads.{Loads}
use Rattle.sheet_table.specs.Loads.{Loaded}
use Rattle.sheet_own_table.specs.Own.{own_bytes}
use Rattle.sheet.specs.ByTable.{table_refused}
use Rattle.sheet.proofs.ByTable.{answer, refused, taken, own}
use Rattle.sheet.proofs.Calls.{clean-sheet, refused-by}
use Rattle.sheet_format.proofs.Endings.{refused-way, short-way, done-way}
use Rattle.text_buffer.specs.Puts.{Put}
use Rattle.text_buffer.proofs.Laws.{said}
use Rattle.text_writer.specs.Rooms.{text_room}
use Rattle.text_writer.specs.Texts.{lines_bytes}
use Rattle.text_writer.proofs.Bounds.{text-few, all-put}
use Rattle.text_from_sheet.specs.Shown.{text_of, text_ending, text_lent, text_ending_by, text_lent_by}

-- the words are those of the sheet's lines
words-read : (table : Table) (s : List ℕ) (n : ℕ) (ws after : List ℤ) → read_ending table s most_words ≡ Done n → length ws ≡ most_words → after ≡ read_words table s ws → take (n * line_word_count - 0) after ≡ words_of (byte_lines s)
unfolding read_ending read_words
words-read table s n ws after done l e =
    let is = words_of (byte_lines s) in
    let c = (ending-done (sheet_refusal table s) most_words most_words (length (byte_lines s)) n done).count in
    let m = all-words-length (byte_lines s) (bytes_good s) in
    let q : after ≡ over is ws = e ∙ ap (λ x. lent_by x is ws) (ap (read_ending table s) l ∙ done) in
    rw q (take_at is (drop (length is) ws) (n * line_word_count - 0) (omega arith))

-- the room holds the text of every accepted sheet
pub text-fits : (table : Table) → Narrow table → (s : List ℕ) → (sheet_refusal table s).number ≡ 0 → length (text_of table s) ≤ text_room
unfolding text_of
text-fits table narrow s clean =
    let ls = byte_lines s in
    let m = all-words-length ls (bytes_good s) in
    let n = accepted-length table ls (bytes-clean table s clean) in
    let t = text-few table narrow (words_of ls) in
    omega arith

-- the result, and the lent bytes afterwards
abbrev pub Ends : Table → List ℕ → List ℕ → List ℕ → Ending → Type 0
Ends table s out after r = (r ≡ text_ending table s (length out)) × (after ≡ text_lent table s out)

abbrev pub EndsBy : List ℕ → List ℕ → List ℕ → List ℕ → Ending → Type 0
EndsBy tb s out after r = (r ≡ text_ending_by tb s (length out)) × (after ≡ text_lent_by tb s out)

module _ (ns s out : List ℕ) where
  pub sent_back : (c l : ℕ) (r : Ending) → r ≡ read_ending (table_in ns) s most_words → r ≡ Refused c l → Ends (table_in ns) s out out (Refused c l)
  unfolding text_ending text_lent
  sent_back c l r is e =
      let (h, k) = refused-by (table_in ns) s c l r is e in
      refused-way (sheet_refusal (table_in ns) s) text_room (length (text_of (table_in ns) s)) (text_of (table_in ns) s) out (refusal c l) (sym k) (λ z. h (ap (λ x. x.number) k ∙ z))

  module _ (n : ℕ) (done : read_ending (table_in ns) s most_words ≡ Done n) where
    pub short : length out < text_room → Ends (table_in ns) s out out (Refused 13 0)
    unfolding text_ending text_lent
    short lt = short-way (sheet_refusal (table_in ns) s) text_room (length (text_of (table_in ns) s)) (text_of (table_in ns) s) out (clean-sheet (table_in ns) s n done) lt

    pub shown : (ws words : List ℤ) → length ws ≡ most_words → words ≡ read_words (table_in ns) s ws → text_room ≤ length out → (after : List ℕ) (r : ℕ)
        → Put out after 0 (lines_bytes (table_in ns) (take (n * line_word_count - 0) words)) r → Ends (table_in ns) s out after (Done r)
    unfolding text_ending text_lent text_of
    shown ws words l e room after r p =
        let t = table_in ns in
        let clean = clean-sheet t s n done in
        let q = all-put (said (ap (lines_bytes t) (words-read t s n ws words done l e)) p) room (text-fits t (columns-most ns) s clean) in
        done-way (sheet_refusal t s) text_room (length (text_of t s)) (text_of t s) out after r clean room q.count q.lent

-- ---- by a table that was read

module _ (tb : List ℕ) (l : Loaded) (h : Loads tb l) (s out : List ℕ) where
  pub table-refused : (l.number ≡ 0 → ⊥) → EndsBy tb s out out (Refused l.number l.line)
  unfolding text_ending_by text_lent_by
  table-refused n = (answer tb l h n ∙ refused tb l h n (table_refused tb) _, refused tb l h n out _)

  pub table_taken : l.number ≡ 0 → (after : List ℕ) (r : Ending) → Ends (table_in l.numbers) s out after r → EndsBy tb s out after r
  unfolding text_ending_by text_lent_by
  table_taken z after r (a, b) = (taken tb l h z r (table_refused tb) (λ x. text_ending x s (length out)) a, taken tb l h z after out (λ x. text_lent x s out) b)

-- by the bytes of the own table: what comes without one
pub own-text : (s : List ℕ) (room : ℕ) → text_ending_by own_bytes s room ≡ text_ending ten s room
unfolding text_ending_by
own-text s room = own (table_refused own_bytes) (λ t. text_ending t s room)

pub own-lent : (s out : List ℕ) → text_lent_by own_bytes s out ≡ text_lent ten s out
unfolding text_lent_by
own-lent s out = own out (λ t. text_lent t s out)
