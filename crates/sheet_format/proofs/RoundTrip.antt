-- What write accepts, read gives back word for word; what read accepts, write gives back byte for byte.
use mathlib.Core.Path.{◌≡◌, refl, ap, ◌∙◌}
use mathlib.Core.Bool.{Bool, true, false, cond}
use mathlib.Core.List.{List}
use Prim.Native.Nat.{ℕ, ◌*◌, ◌/◌, ◌%◌, ◌≤◌}
use native.Mathlib.Omega.{arith}
use borrow.Author.Tests.{ltb-false, le-ltb, eqb-true, eq-eqb}
use lib.Dec.{eqb, ltb}
use lib.IntN.{ℤ}
use lib.ListN.{length, take, drop}
use lib.Seq.{take_at}
use Rattle.sheet_format.specs.Limits.{most_sheet_bytes, most_words, most_bytes, line_word_count}
use Rattle.sheet_format.specs.Line.{Line, byte_lines, bytes_of, word_lines, words_of}
use Rattle.sheet_format.specs.Table.{Table}
use Rattle.sheet_format.specs.Cause.{refusal, refusal_of}
use Rattle.sheet_format.specs.Sheet.{ending, over, lent_by, sheet_refusal, read_ending, read_words, words_refusal, write_ending, write_bytes}
use Rattle.sheet_format.specs.Answers.{Refusal}
use Rattle.sheet_format.specs.Answers.Ending.{Done, Refused}
use Rattle.sheet_format.proofs.Good.{Goods}
use Rattle.sheet_format.proofs.LineLaws.{sevens-length, sevens-good, sevens-shown, bytes_back, bytes_good, bytes-shown, bytes-size, words_back, all-words-length}
use Rattle.sheet_format.proofs.ScanLaws.{accepted-lines, accepted-length}

-- an answer is done only where nothing is refused and the room is enough
pub record Accepted (r : Refusal) (room wanted m n : ℕ) : Type 0 where
  pub clean : r.number ≡ 0
  pub enough : wanted ≤ room
  pub count : m ≡ n

not_done : {P : Type 0} (c l n : ℕ) → Refused c l ≡ Done n → P
not_done c l n e = let z : ◌≡◌ {A = ℕ} 0 1 = cc in absurd (omega arith)

pub ending-done : (r : Refusal) (room wanted m n : ℕ) → ending r room wanted m ≡ Done n → Accepted r room wanted m n
ending-done r room wanted m n e = go (eqb r.number 0) refl (ltb room wanted) refl e
  where
    go : (t : Bool) → eqb r.number 0 ≡ t → (u : Bool) → ltb room wanted ≡ u → cond t (cond u (Refused 13 0) (Done m)) (Refused r.number r.line) ≡ Done n → Accepted r room wanted m n
    go true a true b f = not_done 13 0 n f
    go true a false b f = record { clean = eqb-true r.number 0 a; enough = ltb-false room wanted b; count = cc }
    go false a u b f = not_done r.number r.line n f

-- nothing refused and room enough
pub ending-is : (r : Refusal) (room wanted m : ℕ) → r.number ≡ 0 → wanted ≤ room → ending r room wanted m ≡ Done m
ending-is r room wanted m e le = rw (eq-eqb r.number 0 e, le-ltb room wanted le)

module _ (table : Table) where
  -- ---- the number form that write accepts

  pub record CleanWords (ws : List ℤ) : Type 0 where
    pub clean : (refusal_of table (word_lines ws)).number ≡ 0
    pub whole : length ws ≡ length ws / line_word_count * 7

  words-clean : (ws : List ℤ) → (words_refusal table ws).number ≡ 0 → CleanWords ws
  unfolding words_refusal
  words-clean ws e = go (ltb most_words (length ws)) (eqb (length ws % line_word_count) 0) refl e
    where
      go : (t u : Bool) → eqb (length ws % line_word_count) 0 ≡ u → (cond t (refusal 1 0) (cond u (refusal_of table (word_lines ws)) (refusal 2 0))).number ≡ 0 → CleanWords ws
      go true u b f = absurd (omega arith)
      go false false b f = absurd (omega arith)
      go false true b f = let m = eqb-true (length ws % line_word_count) 0 b in record { clean = f; whole = omega arith }

  -- what is read from the bytes of accepted lines
  read-lines : (ls : List Line) → Goods ls → (refusal_of table ls).number ≡ 0 → (room : ℕ) → most_words ≤ room → read_ending table (bytes_of ls) room ≡ Done (length ls)
  unfolding read_ending sheet_refusal
  read-lines ls g e room le =
      let b = bytes_back ls g (accepted-lines table ls e) in
      let n = accepted-length table ls e in
      let m = bytes-size ls g in
      rw (le-ltb most_sheet_bytes (length (bytes_of ls)) (omega arith), b) (ending-is (refusal_of table ls) room most_words (length ls) e le)

  pub write_read :
      (ws : List ℤ) (buf : List ℕ) (n : ℕ) → write_ending table ws (length buf) ≡ Done n → (out : List ℤ) → most_words ≤ length out
      → (read_ending table (take n (write_bytes table ws buf)) (length out) ≡ Done (length ws / line_word_count)) × (read_words table (take n (write_bytes table ws buf)) out ≡ over ws out)
  unfolding write_ending write_bytes read_words
  write_read ws buf n e out le =
      let ls = word_lines ws in
      let a = ending-done (words_refusal table ws) (length buf) most_bytes (length (bytes_of ls)) n e in
      let w = words-clean ws a.clean in
      let g = sevens-good (length ws / line_word_count) ws in
      let t : take n (lent_by (write_ending table ws (length buf)) (bytes_of ls) buf) ≡ bytes_of ls =
      ap (λ r. take n (lent_by r (bytes_of ls) buf)) e ∙ take_at (bytes_of ls) (drop (length (bytes_of ls)) buf) n a.count in
      let r = read-lines ls g w.clean (length out) le in
      let f = accepted-lines table ls w.clean in
      rw t (
        (r ∙ ap Done (sevens-length (length ws / line_word_count) ws)),
        (ap (λ x. lent_by x (words_of (byte_lines (bytes_of ls))) out) r
            ∙ ap (λ x. over (words_of x) out) (bytes_back ls g f)
            ∙ ap (λ x. over x out) (sevens-shown (length ws / line_word_count) ws w.whole f)),
      )

  -- ---- the bytes that read accepts

  pub bytes-clean : (s : List ℕ) → (sheet_refusal table s).number ≡ 0 → (refusal_of table (byte_lines s)).number ≡ 0
  unfolding sheet_refusal
  bytes-clean s e = go (ltb most_sheet_bytes (length s)) e
    where
      go : (t : Bool) → (cond t (refusal 1 0) (refusal_of table (byte_lines s))).number ≡ 0 → (refusal_of table (byte_lines s)).number ≡ 0
      go true f = absurd (omega arith)
      go false f = f

  -- what is written from the words of accepted lines
  write_lines : (ls : List Line) → Goods ls → (refusal_of table ls).number ≡ 0 → (room : ℕ) → most_bytes ≤ room → write_ending table (words_of ls) room ≡ Done (length (bytes_of ls))
  unfolding write_ending words_refusal
  write_lines ls g e room le =
      let b = words_back ls g in
      let n = accepted-length table ls e in
      let m = all-words-length ls g in
      rw (le-ltb most_words (length (words_of ls)) (omega arith), eq-eqb (length (words_of ls) % line_word_count) 0 (omega arith), b) (ending-is (refusal_of table ls) room most_bytes (length (bytes_of ls)) e le)

  pub read_write :
      (s : List ℕ) (out : List ℤ) (n : ℕ) → read_ending table s (length out) ≡ Done n → (buf : List ℕ) → most_bytes ≤ length buf
      → (write_ending table (take (n * 7) (read_words table s out)) (length buf) ≡ Done (length s)) × (write_bytes table (take (n * 7) (read_words table s out)) buf ≡ over s buf)
  unfolding read_ending read_words write_bytes
  read_write s out n e buf le =
      let ls = byte_lines s in
      let a = ending-done (sheet_refusal table s) (length out) most_words (length ls) n e in
      let c = bytes-clean s a.clean in
      let g = bytes_good s in
      let m = all-words-length ls g in
      let k = a.count in
      let t : take (n * 7) (lent_by (read_ending table s (length out)) (words_of ls) out) ≡ words_of ls =
      ap (λ r. take (n * 7) (lent_by r (words_of ls) out)) e ∙ take_at (words_of ls) (drop (length (words_of ls)) out) (n * 7) (omega arith) in
      let w = write_lines ls g c (length buf) le in
      let b = bytes-shown s (accepted-lines table ls c) in
      rw t (
        (w ∙ ap (λ x. Done (length x)) b),
        (ap (λ x. lent_by x (bytes_of (word_lines (words_of ls))) buf) w ∙ ap (λ x. over (bytes_of x) buf) (words_back ls g) ∙ ap (λ x. over x buf) b),
      )
