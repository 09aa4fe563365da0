-- What writing answers, way by way.
use mathlib.Core.Path.{◌≡◌, sym, ap, ◌∙◌}
use mathlib.Core.List.{List}
use Prim.Native.Nat.{ℕ, ◌%◌, ◌<◌, ◌≤◌}
use native.Mathlib.Omega.{arith}
use borrow.Author.Tests.{lt-ltb, le-ltb, eq-eqb, ne_eqb}
use lib.IntN.{ℤ}
use lib.ListN.{length}
use Rattle.sheet_format.proofs.Endings.{refused-way, short-way, done-way}
use Rattle.sheet_format.specs.Limits.{most_words, most_bytes, line_word_count}
use Rattle.sheet_format.specs.Line.{bytes_of, word_lines}
use Rattle.sheet_format.specs.Table.{Table}
use Rattle.sheet_format.specs.Cause.{refusal, refusal_of}
use Rattle.sheet_format.specs.Sheet.{words_refusal, write_ending, write_bytes}
use Rattle.sheet_format.specs.Answers.{Refusal}
use Rattle.sheet_format.specs.Answers.{Ending}
use Rattle.sheet_format.specs.Answers.Ending.{Done, Refused}
use Rattle.list_laws.specs.Wrote.{Wrote}
use Rattle.list_laws.proofs.Laws.{wrote-over}

module _ (table : Table) where
  abbrev pub WriteEnded : List ℤ → List ℕ → List ℕ → Ending → Type 0
  WriteEnded ws out after r = (r ≡ write_ending table ws (length out)) × (after ≡ write_bytes table ws out)

  abbrev size : List ℤ → ℕ
  size ws = length (bytes_of (word_lines ws))

  module _ (ws : List ℤ) (out : List ℕ) where
    long-words : most_words < length ws → refusal 1 0 ≡ words_refusal table ws
    unfolding words_refusal
    long-words lt = rw (lt-ltb most_words (length ws) lt)

    odd_words : length ws ≤ most_words → (length ws % line_word_count ≡ 0 → ⊥) → refusal 2 0 ≡ words_refusal table ws
    unfolding words_refusal
    odd_words le h = rw (le-ltb most_words (length ws) le, ne_eqb (length ws % line_word_count) 0 h)

    whole_words : length ws ≤ most_words → length ws % line_word_count ≡ 0 → (r : Refusal) → r ≡ refusal_of table (word_lines ws) → r ≡ words_refusal table ws
    unfolding words_refusal
    whole_words le e r is = rw (le-ltb most_words (length ws) le, eq-eqb (length ws % line_word_count) 0 e) is

    pub write_long : most_words < length ws → WriteEnded ws out out (Refused 1 0)
    unfolding write_ending write_bytes
    write_long lt = refused-way (words_refusal table ws) most_bytes (size ws) (bytes_of (word_lines ws)) out (refusal 1 0) (long-words lt) (λ e. omega arith)

    pub write_odd : length ws ≤ most_words → (length ws % line_word_count ≡ 0 → ⊥) → WriteEnded ws out out (Refused 2 0)
    unfolding write_ending write_bytes
    write_odd le h = refused-way (words_refusal table ws) most_bytes (size ws) (bytes_of (word_lines ws)) out (refusal 2 0) (odd_words le h) (λ e. omega arith)

    pub write_refused : length ws ≤ most_words → length ws % line_word_count ≡ 0 → (r : Refusal) → r ≡ refusal_of table (word_lines ws) → (r.number ≡ 0 → ⊥) → WriteEnded ws out out (Refused r.number r.line)
    unfolding write_ending write_bytes
    write_refused le e r is h = refused-way (words_refusal table ws) most_bytes (size ws) (bytes_of (word_lines ws)) out r (whole_words le e r is) h

    pub write_short : length ws ≤ most_words → length ws % line_word_count ≡ 0 → (r : Refusal) → r ≡ refusal_of table (word_lines ws) → r.number ≡ 0 → length out < most_bytes → WriteEnded ws out out (Refused 13 0)
    unfolding write_ending write_bytes
    write_short le e r is z lt = short-way (words_refusal table ws) most_bytes (size ws) (bytes_of (word_lines ws)) out (ap (λ x. x.number) (sym (whole_words le e r is)) ∙ z) lt

    pub write_done : length ws ≤ most_words → length ws % line_word_count ≡ 0 → (r : Refusal) → r ≡ refusal_of table (word_lines ws) → r.number ≡ 0 → most_bytes ≤ length out
        → (after : List ℕ) (n : ℕ) → Wrote out after 0 n (bytes_of (word_lines ws)) → WriteEnded ws out after (Done n)
    unfolding write_ending write_bytes
    write_done le e r is z room after n w =
        done-way (words_refusal table ws) most_bytes (size ws) (bytes_of (word_lines ws)) out after n (ap (λ x. x.number) (sym (whole_words le e r is)) ∙ z) room
        (let k = w.end in omega arith) (wrote-over out after n (bytes_of (word_lines ws)) w)
