-- How long the texts of terms, facts, lines and refusals are at most, and what is put where there is room for it.
use mathlib.Core.Path.{◌≡◌, refl, ap, ◌∙◌}
use mathlib.Core.Bool.{Bool, true, false, cond}
use mathlib.Core.List.{List, [], ◌∷◌, ◌++◌, map}
use Prim.Native.Nat.{ℕ, zero, suc, ◌+◌, ◌-◌, ◌*◌, ◌/◌, min, ◌≤◌}
use native.Mathlib.Omega.{arith}
use native.Mathlib.Nat.{suc-mul}
use borrow.Author.Tests.{ltb-false, leb-true, le-leb}
use lib.Dec.{eqb, ltb, leb}
use lib.IntN.{ℤ, pos}
use lib.ListN.{length, take, drop, get_or, length-append, length-take}
use Rattle.list_laws.proofs.Lists.{inside}
use Rattle.sheet_format.specs.Limits.{field_byte_count, most_fields, field_end, line_word_count, most_columns}
use Rattle.sheet_format.specs.Field.{field_bytes}
use Rattle.sheet_format.specs.Line.{all, natural}
use Rattle.sheet_format.specs.Cause.{term_of}
use Rattle.sheet_format.specs.Table.{Table, columns_of, ten}
use Rattle.sheet_format.specs.Answers.{FieldTerm}
use Rattle.sheet_format.specs.Answers.FieldTerm.{Constant, Variable, OutOfRange}
use Rattle.sheet_format.proofs.FieldLaws.{field-length}
use Rattle.sheet_format.proofs.TableLaws.{Narrow}
use Rattle.sheet_format.proofs.Lists.{and_left, and_right, and_both}
use Rattle.text_buffer.specs.Puts.{Put}
use Rattle.text_buffer.specs.Words.{bytes}
use Rattle.text_buffer.proofs.Laws.{reached-all, placed-all}
use Rattle.text_begins.specs.Begins.{most_text}
use Rattle.text_writer.specs.Rooms.{text_room}
use Rattle.text_writer.specs.Texts.{without_blanks, following, separated, groups, word_bytes, number_bytes, term_as, term_bytes, terms_bytes, relation_names, relation_bytes, fact_bytes, facts_bytes, small, line_terms, head_bytes, atom_bytes, values_bytes, row_bytes, line_text, block_kind, line_kind, kind_of_first, lines_from, lines_bytes, causes, cause_bytes, place_bytes, refusal_bytes, counts, count_bytes, columns_bytes, expectations, length_bytes, what_bytes, expected_bytes}
use Rattle.text_writer.specs.Says.{Spoken}
use Rattle.text_writer.proofs.Parts.{groups-length}

-- ---- what is put where there is room for it

pub all-put : {a b s : List ℕ} {r : ℕ} → Put a b 0 s r → text_room ≤ length a → length s ≤ text_room → Spoken s a b r
all-put {a} {b} {s} {r} p room few =
    record {
      room = room;
      lent = p.bytes ∙ placed-all a 0 s (omega arith) ∙ ap (λ (n : ℕ). s ++ drop n a) (let e : 0 + length s ≡ length s = omega arith in e);
      count = p.place ∙ reached-all (length a) 0 s (omega arith) ∙ omega arith;
    }

-- ---- the sizes

-- a term with its comma; a relation's name, or its letter and number; a fact with at most four terms in brackets, and with its comma
abbrev pub term-bytes : ℕ
term-bytes = field_byte_count + 1

abbrev pub name-bytes : ℕ
name-bytes = field_byte_count + 1

abbrev fact-bytes : ℕ
fact-bytes = name-bytes + most_columns * term-bytes + 2

abbrev pub next-fact-bytes : ℕ
next-fact-bytes = fact-bytes + 2

-- the terms of a line in brackets; a line with what stands around it
abbrev line-terms-bytes : ℕ
line-terms-bytes = (most_fields - 1) * term-bytes + 2

abbrev pub line-bytes : ℕ
line-bytes = line-terms-bytes + 4

-- the words of one cause, or of what was expected
abbrev cause-bytes : ℕ
cause-bytes = 80

-- ---- either of two

pub either-few : (t : Bool) (a b : List ℕ) (k : ℕ) → length a ≤ k → length b ≤ k → length (cond t a b) ≤ k
either-few true a b k h l = h
either-few false a b k h l = l

-- ---- numbers and terms

plain-few : (s : List ℕ) → length (without_blanks s) ≤ length s
unfolding without_blanks
plain-few [] = omega arith
plain-few (b ∷ s) = let h = plain-few s in either-few (eqb b 32) (without_blanks s) (b ∷ without_blanks s) (suc (length s)) (omega arith) (omega arith)

word-few : (w : ℤ) → length (word_bytes w) ≤ field_byte_count
unfolding word_bytes
word-few w = let a = plain-few (field_bytes w) in let b = field-length w in omega arith

number-few : (n : ℕ) → length (number_bytes n) ≤ field_byte_count
number-few n = either-few (ltb n field_end) (word_bytes (pos n)) [] field_byte_count (word-few (pos n)) (omega arith)

term_few : (w : ℤ) → length (term_bytes w) ≤ field_byte_count
unfolding term_bytes
term_few w = by (term_of w)
  where
    by : (t : FieldTerm) → length (term_as t w) ≤ field_byte_count
    by (Variable i) = omega arith
    by (Constant n) = word-few w
    by OutOfRange = word-few w

-- ---- separated parts

module _ {A : Type 0} (f : A → List ℕ) (sep : List ℕ) (m : ℕ) (few : (x : A) → length sep + length (f x) ≤ m) where
  following-few : (l : List A) → length (following sep (map f l)) ≤ length l * m
  unfolding following
  following-few [] = omega arith
  following-few (x ∷ l) =
      let h = following-few l in
      let k = few x in
      let e = suc-mul (length l) m in
      simp length-append (omega arith)

  separated-few : (l : List A) → length (separated sep (map f l)) ≤ length l * m
  unfolding separated
  separated-few [] = omega arith
  separated-few (x ∷ l) =
      let h = following-few l in
      let k = few x in
      let e = suc-mul (length l) m in
      simp length-append (omega arith)

pub terms-few : (ts : List ℤ) → length (terms_bytes ts) ≤ length ts * term-bytes + 2
unfolding terms_bytes
terms-few ts =
    let h = separated-few term_bytes (bytes ",") term-bytes (λ w. let t = term_few w in omega arith) ts in
    simp length-append (omega arith)

-- ---- facts

few-at : (texts : List (List ℕ)) (k : ℕ) → all (λ t. leb (length t) k) texts ≡ true → (other : List ℕ) → length other ≤ k → (n : ℕ) → length (get_or texts n other) ≤ k
few-at [] k h other l n = l
few-at (t ∷ ts) k h other l zero = leb-true (length t) k (and_left (leb (length t) k) (all (λ t. leb (length t) k) ts) h)
few-at (t ∷ ts) k h other l (suc n) = few-at ts k (and_right (leb (length t) k) (all (λ t. leb (length t) k) ts) h) other l n

relation-few : (n : ℕ) → length (relation_bytes n) ≤ name-bytes
unfolding relation_bytes
relation-few zero = omega arith
relation-few (suc n) = let h = number-few (suc n) in few-at relation_names name-bytes refl (bytes "R" ++ number_bytes (suc n)) (simp length-append (omega arith)) n

fact-few : (table : Table) → Narrow table → (ws : List ℤ) → length (fact_bytes table ws) ≤ fact-bytes
unfolding fact_bytes
fact-few table narrow ws =
    let r = get_or ws 0 (pos 0) in
    let ts = take (columns_of table r) (drop 1 ws) in
    let a = relation-few (natural r) in
    let b = terms-few ts in
    let d = narrow r in
    let l = length-take (columns_of table r) (drop 1 ws) in
    simp length-append (omega arith)

pub facts-few : (table : Table) → Narrow table → (count : ℕ) (ws : List ℤ) → length (facts_bytes table count ws) ≤ length ws / 5 * next-fact-bytes
unfolding facts_bytes
facts-few table narrow count ws =
    let n = min count (length ws / 5) in
    let h = separated-few (fact_bytes table) (bytes ", ") next-fact-bytes (λ f. let k = fact-few table narrow f in omega arith) (groups 5 n ws) in
    let l = groups-length 5 n ws in
    omega arith

-- ---- lines

small-few : (w : ℤ) → small w ≤ most_fields
small-few w = by (ltb 6 (natural w)) refl
  where
    by : (t : Bool) → ltb 6 (natural w) ≡ t → cond t 0 (natural w) ≤ 6
    by true e = omega arith
    by false e = ltb-false 6 (natural w) e

line-terms-few : (l : List ℤ) → length (terms_bytes (line_terms l)) ≤ line-terms-bytes
line-terms-few l =
    let k = small (get_or l 0 (pos 0)) - 1 in
    let a = terms-few (line_terms l) in
    let b = small-few (get_or l 0 (pos 0)) in
    let d = length-take k (drop 2 l) in
    omega arith

head_few : (l : List ℤ) (kind : ℕ) → length (head_bytes l kind) ≤ line-bytes - 1
head_few l kind = let h = line-terms-few l in simp length-append (omega arith)

atom-few : (table : Table) → Narrow table → (l : List ℤ) (block next : ℕ) → length (atom_bytes table l block next) ≤ line-bytes - 1
atom-few table narrow l block next =
    let h = fact-few table narrow (drop 2 l) in
    let e : List ℕ = cond (eqb next 4) (bytes ",") (cond (eqb block 3) (bytes " =") []) in
    let k : length e ≤ 2 = either-few (eqb next 4) (bytes ",") (cond (eqb block 3) (bytes " =") []) 2 (omega arith) (either-few (eqb block 3) (bytes " =") [] 2 (omega arith) (omega arith)) in
    simp length-append (omega arith)

row-few : (l : List ℤ) (next : ℕ) → length (row_bytes l next) ≤ line-bytes - 1
row-few l next =
    let t = term_few (get_or l 2 (pos 0)) in
    let h : length (values_bytes l) ≤ line-terms-bytes = either-few (eqb (small (get_or l 0 (pos 0))) 2) (term_bytes (get_or l 2 (pos 0))) (terms_bytes (line_terms l)) line-terms-bytes (omega arith) (line-terms-few l) in
    let k = either-few (eqb next 5) (bytes ";") [] 1 (omega arith) (omega arith) in
    simp length-append (omega arith)

line-few : (table : Table) → Narrow table → (l : List ℤ) (kind block next : ℕ) → length (line_text table l kind block next) ≤ line-bytes
unfolding line_text
line-few table narrow l kind block next =
    let h = either-few (eqb kind 4) (atom_bytes table l block next) (cond (eqb kind 5) (row_bytes l next) (head_bytes l kind)) (line-bytes - 1) (atom-few table narrow l block next) (either-few (eqb kind 5) (row_bytes l next) (head_bytes l kind) (line-bytes - 1) (row-few l next) (head_few l kind)) in
    let k = either-few (ltb next 4) (bytes "\n") [] 1 (omega arith) (omega arith) in
    simp length-append (omega arith)

lines-few : (table : Table) → Narrow table → (block : ℕ) (ls : List (List ℤ)) → length (lines_from table block ls) ≤ length ls * line-bytes
unfolding lines_from
lines-few table narrow block [] = omega arith
lines-few table narrow block (l ∷ ls) =
    let b = block_kind (line_kind l) block in
    let h = line-few table narrow l (line_kind l) b (kind_of_first ls) in
    let k = lines-few table narrow b ls in
    simp length-append (omega arith)

-- the text of a number form
pub text-few : (table : Table) → Narrow table → (ws : List ℤ) → length (lines_bytes table ws) ≤ length ws / line_word_count * line-bytes
unfolding lines_bytes
text-few table narrow ws =
    let n = length ws / 7 in
    let h = lines-few table narrow 0 (groups 7 n ws) in
    let l = groups-length 7 n ws in
    omega arith

-- ---- causes and what was expected

cause-few : (number : ℕ) → length (cause_bytes number) ≤ cause-bytes
cause-few zero = omega arith
cause-few (suc n) =
    let h = few-at causes cause-bytes refl (bytes "there is not room enough") (omega arith) n in
    either-few (eqb (suc n) 15) (bytes "a line of the table is not right, or the table has none") (get_or causes n (bytes "there is not room enough")) cause-bytes (omega arith) h

unless_few : (n : ℕ) (s : List ℕ) (k : ℕ) → length s ≤ k → length (cond (eqb n 0) [] s) ≤ k
unless_few n s k h = either-few (eqb n 0) [] s k (omega arith) h

after-few : (n : ℕ) (s : List ℕ) → length s ≤ 20 → length (cond (eqb n 0) [] (s ++ number_bytes n)) ≤ 28
after-few n s h = let k = number-few n in unless_few n (s ++ number_bytes n) 28 (simp length-append (omega arith))

pub refusal-few : (number line text : ℕ) → length (refusal_bytes number line text) ≤ text_room
unfolding refusal_bytes place_bytes
refusal-few number line text =
    let a = after-few number (bytes "cause ") (omega arith) in
    let b = after-few line (bytes " at line ") (omega arith) in
    let c = after-few text (bytes " of the sheet, line ") (omega arith) in
    let d = unless_few text (bytes " of the text") 12 (omega arith) in
    let e = cause-few number in
    simp length-append (omega arith)

count-few : (n : ℕ) → length (count_bytes n) ≤ 20
count-few zero = omega arith
count-few (suc n) = few-at counts 20 refl (bytes "four columns in ") (omega arith) n

relation-columns-few : (n : ℕ) → length (columns_bytes n) ≤ cause-bytes
unfolding columns_bytes
relation-columns-few n =
    let a = count-few (columns_of ten (pos n)) in
    let b = relation-few n in
    either-few (ltb 10 n) [] (count_bytes (columns_of ten (pos n)) ++ relation_bytes n) cause-bytes (omega arith) (simp length-append (omega arith))

length-few : length length_bytes ≤ cause-bytes
unfolding length_bytes
length-few = let a = number-few most_text in simp length-append (omega arith)

what_few : (what relation : ℕ) → length (what_bytes what relation) ≤ cause-bytes
what_few zero relation = length-few
what_few (suc n) relation =
    few-at (expectations relation) cause-bytes (and_both (leb (length (columns_bytes relation)) cause-bytes) _ (le-leb _ _ (relation-columns-few relation)) refl) length_bytes length-few n

pub expected-few : (line what relation : ℕ) → length (expected_bytes line what relation) ≤ text_room
unfolding expected_bytes
expected-few line what relation =
    let a = number-few line in
    let b = what_few what relation in
    simp length-append (omega arith)
