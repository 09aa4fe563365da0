-- Reading and writing by a table that was read: the table's refusal, or what the sheet is answered.
use mathlib.Core.Path.{◌≡◌, sym, ap, ◌∙◌}
use mathlib.Core.List.{List}
use Prim.Native.Nat.{ℕ}
use borrow.Author.Tests.{eq-eqb, ne_eqb}
use lib.IntN.{ℤ}
use lib.ListN.{length}
use Rattle.sheet_format.specs.Table.{Table, ten, table_in}
use Rattle.sheet_format.specs.Sheet.{returned, read_ending, read_returned, read_words, write_ending, write_returned, write_bytes}
use Rattle.sheet_format.specs.Answers.{Ending}
use Rattle.sheet_format.specs.Answers.Ending.{Refused}
use Rattle.sheet_table.specs.Tables.{table_refusal, table_of}
use Rattle.sheet_table.specs.Loads.{Loads}
use Rattle.sheet_table.specs.Loads.{Loaded}
use Rattle.sheet_own_table.specs.Own.{own_bytes}
use Rattle.sheet_own_table.proofs.Means.{own-passes, own_means}
use Rattle.sheet.specs.ByTable.{if_refused, table_refused, table_returned, read_ending_by, read_returned_by, read_words_by, write_ending_by, write_returned_by, write_bytes_by}

-- what a call does: the answer, the lent output afterwards, and the answer's numbers
abbrev pub Reads : Table → List ℕ → List ℤ → Ending → List ℤ → Type 0
Reads t s out r after = (r ≡ read_ending t s (length out)) × (after ≡ read_words t s out) × (returned r ≡ read_returned t s (length out))

abbrev pub ReadsBy : List ℕ → List ℕ → List ℤ → Ending → List ℤ → Type 0
ReadsBy t s out r after = (r ≡ read_ending_by t s (length out)) × (after ≡ read_words_by t s out) × (returned r ≡ read_returned_by t s (length out))

abbrev pub Writes : Table → List ℤ → List ℕ → Ending → List ℕ → Type 0
Writes t ws out r after = (r ≡ write_ending t ws (length out)) × (after ≡ write_bytes t ws out) × (returned r ≡ write_returned t ws (length out))

abbrev pub WritesBy : List ℕ → List ℤ → List ℕ → Ending → List ℕ → Type 0
WritesBy t ws out r after = (r ≡ write_ending_by t ws (length out)) × (after ≡ write_bytes_by t ws out) × (returned r ≡ write_returned_by t ws (length out))

module _ (t : List ℕ) (l : Loaded) (h : Loads t l) where
  -- ---- the table is sent back

  module _ (n : l.number ≡ 0 → ⊥) where
    pub refused : {A : Type 0} (x y : A) → x ≡ if_refused t x y
    refused x y = rw (ne_eqb (table_refusal t).number 0 (λ z. n (h.number ∙ z)))

    pub answer : Refused l.number l.line ≡ table_refused t
    answer = ap (λ k. Refused k l.line) h.number ∙ ap (Refused (table_refusal t).number) h.line

    pub read-sent-back : (s : List ℕ) (out : List ℤ) → ReadsBy t s out (Refused l.number l.line) out
    unfolding read_ending_by read_returned_by read_words_by
    read-sent-back s out = (answer ∙ refused (table_refused t) _, refused out _, ap returned answer ∙ refused (table_returned t) _)

    pub write_sent_back : (ws : List ℤ) (out : List ℕ) → WritesBy t ws out (Refused l.number l.line) out
    unfolding write_ending_by write_returned_by write_bytes_by
    write_sent_back ws out = (answer ∙ refused (table_refused t) _, refused out _, ap returned answer ∙ refused (table_returned t) _)

  -- ---- the table is taken

  module _ (z : l.number ≡ 0) where
    pub taken : {A : Type 0} (a x : A) (f : Table → A) → a ≡ f (table_in l.numbers) → a ≡ if_refused t x (f (table_of t))
    taken a x f e =
        let q : (table_refusal t).number ≡ 0 = sym h.number ∙ z in
        rw (eq-eqb (table_refusal t).number 0 q) (e ∙ ap f (h.table q))

    pub read_taken : (s : List ℕ) (out : List ℤ) (r : Ending) (after : List ℤ) → Reads (table_in l.numbers) s out r after → ReadsBy t s out r after
    unfolding read_ending_by read_returned_by read_words_by
    read_taken s out r after (a, b, c) =
        (taken r (table_refused t) (λ x. read_ending x s (length out)) a, taken after out (λ x. read_words x s out) b, taken (returned r) (table_returned t) (λ x. read_returned x s (length out)) c)

    pub write_taken : (ws : List ℤ) (out : List ℕ) (r : Ending) (after : List ℕ) → Writes (table_in l.numbers) ws out r after → WritesBy t ws out r after
    unfolding write_ending_by write_returned_by write_bytes_by
    write_taken ws out r after (a, b, c) =
        (taken r (table_refused t) (λ x. write_ending x ws (length out)) a, taken after out (λ x. write_bytes x ws out) b, taken (returned r) (table_returned t) (λ x. write_returned x ws (length out)) c)

-- ---- by the bytes of the library's own table: what the calls without a table give

pub own : {A : Type 0} (x : A) (f : Table → A) → if_refused own_bytes x (f (table_of own_bytes)) ≡ f ten
own x f = rw own-passes (ap f own_means)

pub own-read-ending : (s : List ℕ) (room : ℕ) → read_ending_by own_bytes s room ≡ read_ending ten s room
unfolding read_ending_by
own-read-ending s room = own (table_refused own_bytes) (λ t. read_ending t s room)

pub own-read-words : (s : List ℕ) (out : List ℤ) → read_words_by own_bytes s out ≡ read_words ten s out
unfolding read_words_by
own-read-words s out = own out (λ t. read_words t s out)

pub own_write_ending : (ws : List ℤ) (room : ℕ) → write_ending_by own_bytes ws room ≡ write_ending ten ws room
unfolding write_ending_by
own_write_ending ws room = own (table_refused own_bytes) (λ t. write_ending t ws room)

pub own_write_bytes : (ws : List ℤ) (out : List ℕ) → write_bytes_by own_bytes ws out ≡ write_bytes ten ws out
unfolding write_bytes_by
own_write_bytes ws out = own out (λ t. write_bytes t ws out)
