-- Lines that are written one after the other.
use mathlib.Core.Path.{◌≡◌, refl, sym, ◌∙◌}
use mathlib.Core.List.{List, [], ◌∷◌, ◌++◌, append_assoc}
use Prim.Native.Nat.{ℕ, ◌+◌, ◌≤◌, ◌<◌}
use native.Mathlib.Numerals.{add-one}
use lib.IntN.{ℤ}
use lib.ListN.{length, get_or, drop, drop_of_length-le}
use lib.Seq.{drop-cons}
use Rattle.sheet_format.specs.Table.{Table}
use Rattle.sheet_format.proofs.Lists.{append-nil}
use Rattle.text_buffer.specs.Puts.{Put}
use Rattle.text_buffer.proofs.Laws.{nothing, followed, said}
use Rattle.text_writer.specs.Texts.{line_kind, block_kind, kind_of_first, line_text, lines_from}

-- what is put so far, and what the lines that are left give, are the whole
pub record LinesWritten (table : Table) (old new : List ℕ) (n block : ℕ) (left : List (List ℤ)) (whole : List ℕ) : Type 0 where
  pub text : List ℕ
  pub put : Put old new 0 text n
  pub rest : text ++ lines_from table block left ≡ whole

pub begun : (table : Table) (out : List ℕ) (ls : List (List ℤ)) → LinesWritten table out out 0 0 ls (lines_from table 0 ls)
begun table out ls = record { text = []; put = nothing out 0; rest = refl }

-- the kind of the line at a place
pub kind_here : (ls : List (List ℤ)) (j : ℕ) → j < length ls → kind_of_first (drop j ls) ≡ line_kind (get_or ls j [])
kind_here ls j h = rw (drop-cons ls j [] h)

pub no_kind : (ls : List (List ℤ)) (j : ℕ) → length ls ≤ j → kind_of_first (drop j ls) ≡ 0
no_kind ls j h = rw (drop_of_length-le ls h)

-- one line more
pub more-lines : (table : Table) {a b c : List ℕ} {n m kind next block now : ℕ} (ls : List (List ℤ)) (i : ℕ) (whole : List ℕ)
    → i < length ls
    → kind ≡ line_kind (get_or ls i [])
    → next ≡ kind_of_first (drop (i + 1) ls)
    → now ≡ block_kind kind block
    → LinesWritten table a b n block (drop i ls) whole
    → Put b c n (line_text table (get_or ls i []) kind now next) m
    → LinesWritten table a c m now (drop (i + 1) ls) whole
unfolding lines_from
more-lines table {a} {b} {c} {n} {m} {kind} {next} {block} {now} ls i whole h k x g w p =
    let l : List ℤ = get_or ls i [] in
    let d : drop i ls ≡ l ∷ drop (i + 1) ls = drop-cons ls i [] h ∙ rw add-one in
    let t : lines_from table block (drop i ls) ≡ line_text table l kind now next ++ lines_from table now (drop (i + 1) ls) = rw (d, g, k, x) in
    record {
      text = w.text ++ line_text table l kind now next;
      put = followed w.put p;
      rest = append_assoc w.text (line_text table l kind now next) (lines_from table now (drop (i + 1) ls)) ∙ rw (← t) w.rest;
    }

-- no lines are left
pub all_lines : (table : Table) {a b : List ℕ} {n block : ℕ} (ls : List (List ℤ)) (i : ℕ) (whole : List ℕ)
    → length ls ≤ i
    → LinesWritten table a b n block (drop i ls) whole
    → Put a b 0 whole n
unfolding lines_from
all_lines table {block = block} ls i whole h w =
    let d : drop i ls ≡ [] = drop_of_length-le ls h in
    said (sym (append-nil w.text) ∙ rw d at w.rest) w.put
