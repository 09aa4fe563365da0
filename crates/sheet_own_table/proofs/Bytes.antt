-- Where the bytes of a table's lines stand.
use mathlib.Core.Path.{◌≡◌, refl, sym, ap, ◌∙◌}
use mathlib.Core.Bool.{true}
use mathlib.Core.List.{List, [], ◌∷◌, ◌++◌, append_assoc, append-nil}
use Prim.Native.Nat.{ℕ, zero, suc, ◌+◌, ◌-◌, ◌*◌, ◌/◌, ◌%◌, ◌<◌, ◌≤◌}
use native.Mathlib.Omega.{arith}
use borrow.Author.Tests.{eqb-true, leb-true}
use lib.Dec.{eqb, leb}
use lib.IntN.{pos}
use lib.ListN.{length, get_or, take, replicate, length-append, drop_of_length-le, get_or-append}
use lib.Seq.{get_or-append-add, get_or-append_seam, take-length}
use Rattle.list_laws.specs.Wrote.{Wrote}
use Rattle.list_laws.proofs.Laws.{wrote-over}
use Rattle.sheet_format.specs.Limits.{table_number_count}
use Rattle.sheet_format.specs.Relations.{relations, key_numbers, parent_numbers}
use Rattle.sheet_format.specs.Table.{Relation, unknown, ten_relations}
use Rattle.sheet_format.specs.Field.{field_bytes}
use Rattle.sheet_format.specs.Line.{Line, all, gather, line_bytes, bytes_of}
use Rattle.sheet_format.proofs.Lists.{both, all-at}
use Rattle.sheet_format.proofs.FieldLaws.{field-length}
use Rattle.sheet_format.proofs.LineLaws.{bytes-length}
use Rattle.sheet_format.proofs.TableLaws.{numbers_of_relation}
use Rattle.sheet_own_table.specs.Own.{lines_of, own_lines, own_bytes, own_table_bytes}

-- ---- lines of four fields

abbrev Fours : List Line → Type 0
Fours ls = all (λ l. eqb (length l) 4) ls ≡ true

line-length : (l : Line) → length l ≡ 4 → length (line_bytes l) ≡ 33
unfolding line_bytes
line-length l e = let h = bytes-length l in length-append (gather field_bytes l) (10 ∷ []) ∙ (let q : length (gather field_bytes l) + 1 ≡ 33 = omega arith in q)

module _ (l : Line) (ls : List Line) (h : Fours (l ∷ ls)) where
  first-four : length l ≡ 4
  first-four = eqb-true (length l) 4 (both (eqb (length l) 4) (all (λ l. eqb (length l) 4) ls) h).0

  rest-four : Fours ls
  rest-four = (both (eqb (length l) 4) (all (λ l. eqb (length l) 4) ls) h).1

lines-length : (ls : List Line) → Fours ls → length (bytes_of ls) ≡ length ls * 33
unfolding bytes_of
lines-length [] h = refl
lines-length (l ∷ ls) h =
    let a = line-length l (first-four l ls h) in
    let b = lines-length ls (rest-four l ls h) in
    length-append (line_bytes l) (bytes_of ls) ∙ (let q : length (line_bytes l) + length (bytes_of ls) ≡ suc (length ls) * 33 = omega arith in q)

lines-byte : (ls : List Line) → Fours ls → (n i : ℕ) → n < length ls → i < 33 → get_or (bytes_of ls) (n * 33 + i) 0 ≡ get_or (line_bytes (get_or ls n [])) i 0
unfolding bytes_of
lines-byte [] h n i lt k = absurd (omega arith)
lines-byte (l ∷ ls) h zero i lt k =
    let a = line-length l (first-four l ls h) in
    ap (λ x. get_or (line_bytes l ++ bytes_of ls) x 0) (let q : 0 * 33 + i ≡ i = omega arith in q) ∙ get_or-append (line_bytes l) (bytes_of ls) 0 i (omega arith)
lines-byte (l ∷ ls) h (suc n) i lt k =
    let a = line-length l (first-four l ls h) in
    ap (λ x. get_or (line_bytes l ++ bytes_of ls) x 0) (let q : suc n * 33 + i ≡ length (line_bytes l) + (n * 33 + i) = omega arith in q)
    ∙ get_or-append-add (line_bytes l) (bytes_of ls) (n * 33 + i) 0
    ∙ lines-byte ls (rest-four l ls h) n i (omega arith) k

-- ---- the bytes of a line

fields-byte : (l : Line) (r : List ℕ) (j k : ℕ) → j < length l → k < 8 → get_or (gather field_bytes l ++ r) (j * 8 + k) 0 ≡ get_or (field_bytes (get_or l j (pos 0))) k 0
fields-byte [] r j k lt h = absurd (omega arith)
fields-byte (z ∷ l) r zero k lt h =
    let a = field-length z in
    let t = gather field_bytes l in
    ap (λ x. get_or ((field_bytes z ++ t) ++ r) x 0) (let q : 0 * 8 + k ≡ k = omega arith in q)
    ∙ ap (λ x. get_or x k 0) (append_assoc (field_bytes z) t r)
    ∙ get_or-append (field_bytes z) (t ++ r) 0 k (omega arith)
fields-byte (z ∷ l) r (suc j) k lt h =
    let a = field-length z in
    let t = gather field_bytes l in
    ap (λ x. get_or ((field_bytes z ++ t) ++ r) x 0) (let q : suc j * 8 + k ≡ length (field_bytes z) + (j * 8 + k) = omega arith in q)
    ∙ ap (λ x. get_or x (length (field_bytes z) + (j * 8 + k)) 0) (append_assoc (field_bytes z) t r)
    ∙ get_or-append-add (field_bytes z) (t ++ r) (j * 8 + k) 0
    ∙ fields-byte l r j k (omega arith) h

line-end : (l : Line) → length l ≡ 4 → get_or (line_bytes l) 32 0 ≡ 10
unfolding line_bytes
line-end l e =
    let h = bytes-length l in
    ap (λ x. get_or (gather field_bytes l ++ (10 ∷ [])) x 0) (let q : 32 ≡ length (gather field_bytes l) = omega arith in q) ∙ get_or-append_seam (gather field_bytes l) 10 [] 0

four-at : (ls : List Line) → Fours ls → (n : ℕ) → n < length ls → length (get_or ls n []) ≡ 4
four-at [] h n lt = absurd (omega arith)
four-at (l ∷ ls) h zero lt = first-four l ls h
four-at (l ∷ ls) h (suc n) lt = four-at ls (rest-four l ls h) n (omega arith)

-- ---- the own table

lines_at : (rs : List Relation) (m n : ℕ) → n < length rs → get_or (lines_of m rs) n [] ≡ pos (m + n) ∷ pos (get_or rs n unknown).columns ∷ pos (get_or rs n unknown).key ∷ pos (get_or rs n unknown).parent ∷ []
lines_at [] m n lt = absurd (omega arith)
lines_at (r ∷ rs) m zero lt = ap (λ k. pos k ∷ pos r.columns ∷ pos r.key ∷ pos r.parent ∷ []) (let q : m ≡ m + 0 = omega arith in q)
lines_at (r ∷ rs) m (suc n) lt =
    lines_at rs (m + 1) n (omega arith)
    ∙ ap (λ k. pos k ∷ pos (get_or rs n unknown).columns ∷ pos (get_or rs n unknown).key ∷ pos (get_or rs n unknown).parent ∷ []) (let q : m + 1 + n ≡ m + suc n = omega arith in q)

-- line n, from 0
pub own_line : (n : ℕ) → n < 10 → get_or own_lines n [] ≡ pos (n + 1) ∷ pos (get_or relations n 0) ∷ pos (get_or key_numbers n 0) ∷ pos (get_or parent_numbers n 0) ∷ []
own_line n lt =
    let (c, k, p) = numbers_of_relation relations key_numbers parent_numbers n refl refl in
    lines_at ten_relations 1 n lt ∙ rw (c, k, p) (ap (λ m. pos m ∷ pos (get_or relations n 0) ∷ pos (get_or key_numbers n 0) ∷ pos (get_or parent_numbers n 0) ∷ []) (let q : 1 + n ≡ n + 1 = omega arith in q))

pub own-length : length own_bytes ≡ own_table_bytes
unfolding own_bytes
own-length = lines-length own_lines refl

-- the byte at a place: of a field, or a line's end
pub own-field-byte : (i : ℕ) → i < own_table_bytes → i % 33 < 32 → get_or own_bytes i 0 ≡ get_or (field_bytes (get_or (get_or own_lines (i / 33) []) (i % 33 / 8) (pos 0))) (i % 33 % 8) 0
unfolding own_bytes line_bytes
own-field-byte i lt h =
    let f = four-at own_lines refl (i / 33) (omega arith) in
    ap (λ x. get_or (bytes_of own_lines) x 0) (let q : i ≡ i / 33 * 33 + i % 33 = omega arith in q)
    ∙ lines-byte own_lines refl (i / 33) (i % 33) (omega arith) (omega arith)
    ∙ ap (λ x. get_or (line_bytes (get_or own_lines (i / 33) [])) x 0) (let q : i % 33 ≡ i % 33 / 8 * 8 + i % 33 % 8 = omega arith in q)
    ∙ fields-byte (get_or own_lines (i / 33) []) (10 ∷ []) (i % 33 / 8) (i % 33 % 8) (omega arith) (omega arith)

pub own-end-byte : (i : ℕ) → i < own_table_bytes → i % 33 ≡ 32 → get_or own_bytes i 0 ≡ 10
unfolding own_bytes
own-end-byte i lt h =
    ap (λ x. get_or (bytes_of own_lines) x 0) (let q : i ≡ i / 33 * 33 + 32 = omega arith in q)
    ∙ lines-byte own_lines refl (i / 33) 32 (omega arith) (omega arith)
    ∙ line-end (get_or own_lines (i / 33) []) (four-at own_lines refl (i / 33) (omega arith))

pub last-field : (j : ℕ) → j < 4 → (j ≡ 0 → ⊥) → (j ≡ 1 → ⊥) → (j ≡ 2 → ⊥) → j ≡ 3
last-field zero lt a b c = absurd (a refl)
last-field (suc zero) lt a b c = absurd (b refl)
last-field (suc (suc zero)) lt a b c = absurd (c refl)
last-field (suc (suc (suc j))) lt a b c = omega arith

-- field k of line n is what stands there
pub own_is : (n j k : ℕ) → n < 10 → j ≡ k → get_or (pos (n + 1) ∷ pos (get_or relations n 0) ∷ pos (get_or key_numbers n 0) ∷ pos (get_or parent_numbers n 0) ∷ []) k (pos 0) ≡ get_or (get_or own_lines n []) j (pos 0)
own_is n j k lt e = sym (ap (λ l. get_or l j (pos 0)) (own_line n lt) ∙ ap (λ i. get_or (pos (n + 1) ∷ pos (get_or relations n 0) ∷ pos (get_or key_numbers n 0) ∷ pos (get_or parent_numbers n 0) ∷ []) i (pos 0)) e)

-- the ten relations' numbers, and 0 up to the table's end
abbrev own_numbers : List ℕ
own_numbers = gather (λ (r : Relation). r.columns ∷ r.key ∷ r.parent ∷ []) ten_relations ++ replicate (table_number_count - 30) 0

pub own-numbers : (n : ℕ) → n < 10 → (get_or own_numbers (n * 3) 0 ≡ get_or relations n 0) × (get_or own_numbers (n * 3 + 1) 0 ≡ get_or key_numbers n 0) × (get_or own_numbers (n * 3 + 2) 0 ≡ get_or parent_numbers n 0)
own-numbers zero lt = (refl, refl, refl)
own-numbers (suc zero) lt = (refl, refl, refl)
own-numbers (suc (suc zero)) lt = (refl, refl, refl)
own-numbers (suc (suc (suc zero))) lt = (refl, refl, refl)
own-numbers (suc (suc (suc (suc zero)))) lt = (refl, refl, refl)
own-numbers (suc (suc (suc (suc (suc zero))))) lt = (refl, refl, refl)
own-numbers (suc (suc (suc (suc (suc (suc zero)))))) lt = (refl, refl, refl)
own-numbers (suc (suc (suc (suc (suc (suc (suc zero))))))) lt = (refl, refl, refl)
own-numbers (suc (suc (suc (suc (suc (suc (suc (suc zero)))))))) lt = (refl, refl, refl)
own-numbers (suc (suc (suc (suc (suc (suc (suc (suc (suc zero))))))))) lt = (refl, refl, refl)
own-numbers (suc (suc (suc (suc (suc (suc (suc (suc (suc (suc n)))))))))) lt = absurd (omega arith)

pub own-most : (i : ℕ) → i < 96 → get_or own_numbers i 0 ≤ 10
own-most i lt = leb-true (get_or own_numbers i 0) 10 (all-at (λ n. leb n 10) 0 own_numbers refl i lt)

-- the table's bytes, written from the first on
pub own-written : (a b : List ℕ) (i : ℕ) → length a ≡ own_table_bytes → i ≡ own_table_bytes → Wrote a b 0 i (take i own_bytes) → b ≡ own_bytes
own-written a b i l e w =
    let n = own-length in
    let t : take i own_bytes ≡ own_bytes = ap (λ k. take k own_bytes) (let q : i ≡ length own_bytes = omega arith in q) ∙ take-length own_bytes in
    let le : length a ≤ length own_bytes = omega arith in
    wrote-over a b i (take i own_bytes) w ∙ rw t (ap (λ x. own_bytes ++ x) (drop_of_length-le a le) ∙ append-nil own_bytes)
