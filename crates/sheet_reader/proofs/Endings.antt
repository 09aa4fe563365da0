-- What reading answers, way by way.
use mathlib.Core.Path.{◌≡◌, sym, ap, ◌∙◌}
use mathlib.Core.List.{List}
use Prim.Native.Nat.{ℕ, ◌*◌, ◌<◌, ◌≤◌}
use native.Mathlib.Omega.{arith}
use borrow.Author.Tests.{lt-ltb, le-ltb}
use lib.IntN.{ℤ}
use lib.ListN.{length, take}
use Rattle.sheet_format.proofs.Endings.{refused-way, short-way, done-way}
use Rattle.sheet_format.specs.Limits.{most_lines, most_sheet_bytes, most_words}
use Rattle.sheet_format.specs.Line.{byte_lines, word_lines, words_of}
use Rattle.sheet_format.specs.Table.{Table}
use Rattle.sheet_format.specs.Cause.{refusal, refusal_of}
use Rattle.sheet_format.specs.Sheet.{over, sheet_refusal, read_ending, read_words}
use Rattle.sheet_format.specs.Answers.{Refusal}
use Rattle.sheet_format.specs.Answers.{Ending}
use Rattle.sheet_format.specs.Answers.Ending.{Done, Refused}
use Rattle.sheet_format.proofs.LineLaws.{words_back}
use Rattle.sheet_format.proofs.ScanLaws.{accepted-length}
use Rattle.list_laws.specs.Wrote.{Wrote}
use Rattle.list_laws.proofs.Laws.{wrote-over}
use Rattle.sheet_reader.specs.Parsed.{Parsed}

module _ (table : Table) where
  abbrev pub Read : List ℕ → List ℤ → List ℤ → Ending → Type 0
  Read s out after r = (r ≡ read_ending table s (length out)) × (after ≡ read_words table s out)

  long-sheet : (s : List ℕ) → most_sheet_bytes < length s → refusal 1 0 ≡ sheet_refusal table s
  unfolding sheet_refusal
  long-sheet s lt = rw (lt-ltb most_sheet_bytes (length s) lt)

  pub read-long : (s : List ℕ) (out : List ℤ) → most_sheet_bytes < length s → Read s out out (Refused 1 0)
  unfolding read_ending read_words
  read-long s out lt = refused-way (sheet_refusal table s) most_words (length (byte_lines s)) (words_of (byte_lines s)) out (refusal 1 0) (long-sheet s lt) (λ e. omega arith)

  -- what the lines of the words are refused for is what the sheet is refused for
  module _ (s : List ℕ) (ws : List ℤ) (n : ℕ) (p : Parsed s ws n) (short : length s ≤ most_sheet_bytes) where
    lines_same : refusal_of table (word_lines (take (n * 7) ws)) ≡ refusal_of table p.lines
    lines_same = ap (λ x. refusal_of table (word_lines x)) p.words ∙ ap (refusal_of table) (words_back p.lines p.good)

    refused-same : refusal_of table (word_lines (take (n * 7) ws)) ≡ sheet_refusal table s
    unfolding sheet_refusal
    refused-same = lines_same ∙ rw (le-ltb most_sheet_bytes (length s) short) (p.alike table)

    number_same : (r : Refusal) → r ≡ refusal_of table (word_lines (take (n * 7) ws)) → r ≡ sheet_refusal table s
    number_same r e = e ∙ refused-same

    pub read-refused : (out : List ℤ) (r : Refusal) → r ≡ refusal_of table (word_lines (take (n * 7) ws)) → (r.number ≡ 0 → ⊥) → Read s out out (Refused r.number r.line)
    unfolding read_ending read_words
    read-refused out r e h = refused-way (sheet_refusal table s) most_words (length (byte_lines s)) (words_of (byte_lines s)) out r (number_same r e) h

    pub read_short : (out : List ℤ) (r : Refusal) → r ≡ refusal_of table (word_lines (take (n * 7) ws)) → r.number ≡ 0 → length out < most_words → Read s out out (Refused 13 0)
    unfolding read_ending read_words
    read_short out r e z lt = short-way (sheet_refusal table s) most_words (length (byte_lines s)) (words_of (byte_lines s)) out (ap (λ x. x.number) (sym (number_same r e)) ∙ z) lt

    -- lines that are not refused fit the words that reading wants
    pub read_fits : (r : Refusal) → r ≡ refusal_of table (word_lines (take (n * 7) ws)) → r.number ≡ 0 → n ≤ most_lines
    read_fits r e z = let c = p.count in let k = accepted-length table p.lines (ap (λ x. x.number) (sym (e ∙ lines_same)) ∙ z) in omega arith

    pub read_done : (out after : List ℤ) (r : Refusal) → r ≡ refusal_of table (word_lines (take (n * 7) ws)) → r.number ≡ 0 → most_words ≤ length out → Wrote out after 0 (n * 7) (take (n * 7) ws) → Read s out after (Done n)
    unfolding read_ending read_words
    read_done out after r e z le w =
        let b : p.lines ≡ byte_lines s = p.whole table (ap (λ x. x.number) (sym (e ∙ lines_same)) ∙ z) in
        done-way (sheet_refusal table s) most_words (length (byte_lines s)) (words_of (byte_lines s)) out after n (ap (λ x. x.number) (sym (number_same r e)) ∙ z) le
        (sym p.count ∙ ap length b) (wrote-over out after (n * 7) (take (n * 7) ws) w ∙ ap (λ x. over x out) (p.words ∙ ap words_of b))
