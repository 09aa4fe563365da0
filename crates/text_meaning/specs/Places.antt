-- What a token does: where reading stands after it, or what was expected there instead. Tokens go by the kind of their first byte.
use Rattle.std.specs.Prelude.{Bool, true, false, cond, ◌&&◌, ◌||◌, ℕ, ◌-◌, eqb, ltb, leb, pos}
use Rattle.sheet_format.specs.Table.{columns_of, ten}
use Rattle.text_begins.specs.Begins.{letter_of}
use Rattle.text_meaning.specs.Control.{Control}
use Rattle.text_meaning.specs.Control.{Mark}

-- ---- the next place

-- the same line of the number form, at another place
abbrev pub goes : Control → ℕ → Control
goes c place = record { place = place; block = c.block; kind = c.kind; relation = c.relation; left = c.left; bare = c.bare; expected = 0; begins = false; puts = false }

-- something else was expected
abbrev pub fails : Control → ℕ → Control
fails c what = record { place = c.place; block = c.block; kind = c.kind; relation = c.relation; left = c.left; bare = c.bare; expected = what; begins = false; puts = false }

-- a head begins: its bracket (2) comes next
abbrev pub headed : Control → ℕ → Control
headed c block = record { place = 2; block = block; kind = block; relation = 0; left = 4; bare = false; expected = 0; begins = true; puts = false }

-- the columns of a relation that has a name (up to 10), by the library's own table; of any other four may come
unfoldable pub columns_in : ℕ → ℕ
columns_in relation = cond (leb relation 10) (columns_of ten (pos relation)) 4

-- an atom begins, with its relation: its bracket (2) comes next
abbrev pub atomed : Control → ℕ → Control
atomed c relation = record { place = 2; block = c.block; kind = 4; relation = relation; left = columns_in relation; bare = false; expected = 0; begins = true; puts = true }

-- a row begins, behind its bracket (3)
abbrev pub rowed : Control → Control
rowed c = record { place = 3; block = c.block; kind = 5; relation = 0; left = 4; bare = false; expected = 0; begins = true; puts = false }

-- a row without brackets begins, with its first value: what is behind a term (5) comes next
abbrev pub bared : Control → Control
bared c = record { place = 5; block = c.block; kind = 5; relation = 0; left = 3; bare = true; expected = 0; begins = true; puts = true }

-- one term more: what is behind a term (5) comes next
abbrev pub termed : Control → Control
termed c = record { place = 5; block = c.block; kind = c.kind; relation = c.relation; left = c.left - 1; bare = c.bare; expected = 0; begins = false; puts = true }

-- ---- lines of the text: a block each, or a comment, or nothing

-- behind a list (2) another list, where its letter says so, or a view (3)
abbrev pub after_list : ℕ → ℕ
after_list letter = cond (eqb letter (letter_of 2)) 2 3

-- the kind of the next block: the question (1), then lists, then views
unfoldable pub next_block : ℕ → ℕ → ℕ
next_block block letter = cond (eqb block 0) 1 (cond (eqb block 1) 2 (cond (eqb block 2) (after_list letter) 3))

-- a block's letter alone
abbrev pub headed_at : Control → Mark → ℕ → Control
headed_at c m block = cond (eqb m.letter (letter_of block)) (headed c block) (fails c block)

-- at the start of a line (0): its end (10), "#" (35) and a comment (1), or a block
unfoldable pub start_at : Control → Mark → Control
start_at c m = cond (eqb m.kind 10) (goes c 0) (cond (eqb m.kind 35) (goes c 1) (headed_at c m (next_block c.block m.letter)))

-- in a comment (1): it ends with the line
unfoldable pub comment_at : Control → Mark → Control
comment_at c m = cond (eqb m.kind 10) (goes c 0) (goes c 1)

-- ---- terms in brackets

-- before a bracket (2): "(" (40), and then a term (4) in an atom (4), else a term or the end (3)
unfoldable pub open_at : Control → Mark → Control
open_at c m = cond (eqb m.kind 40) (cond (eqb c.kind 4) (goes c 4) (goes c 3)) (fails c 4)

-- a term is a number (48) or a variable (97)
unfoldable pub term_expected : Control → Mark → ℕ → Control
term_expected c m what = cond (eqb m.kind 48 || eqb m.kind 97) (termed c) (fails c what)

-- a comma: there may be one column more. What is expected else goes by the relation, where it has a name: an atom has its columns.
abbrev pub is_counted : Control → Bool
is_counted c = eqb c.kind 4 && leb c.relation 10

unfoldable pub more_at : Control → Control
more_at c = cond (ltb 0 c.left) (goes c 4) (cond (is_counted c) (fails c 10) (fails c 11))

-- behind an atom (8), a row (11) or a head (6)
unfoldable pub closed_by : Control → Control
closed_by c = cond (eqb c.kind 4) (goes c 8) (cond (eqb c.kind 5) (goes c 11) (goes c 6))

-- a closing bracket: an atom has all its columns
unfoldable pub close_at : Control → Control
close_at c = cond (is_counted c) (cond (eqb c.left 0) (closed_by c) (fails c 10)) (closed_by c)

-- behind "(" (3): ")" (41) at once, or a term
unfoldable pub first_at : Control → Mark → Control
first_at c m = cond (eqb m.kind 41) (close_at c) (term_expected c m 5)

-- behind a row: ";" (59) and the next (10), or the end of the line
unfoldable pub row_end_at : Control → Mark → ℕ → Control
row_end_at c m what = cond (eqb m.kind 59) (goes c 10) (cond (eqb m.kind 10) (goes c 0) (fails c what))

-- behind a term (5): "," (44) and another; in a row without brackets its end; else ")"
unfoldable pub next_at : Control → Mark → Control
next_at c m = cond (eqb m.kind 44) (more_at c) (cond c.bare (row_end_at c m 16) (cond (eqb m.kind 41) (close_at c) (fails c 7)))

-- ---- a block's parts

-- behind a head (6): ":" (58), and then a relation (7)
unfoldable pub colon_at : Control → Mark → Control
colon_at c m = cond (eqb m.kind 58) (goes c 7) (fails c 8)

-- before a relation (7): a word in capitals (65) that names one
unfoldable pub relation_at : Control → Mark → Control
relation_at c m = cond (eqb m.kind 65) (cond (eqb m.value 0) (fails c 9) (atomed c m.value)) (fails c 9)

-- behind an atom (8): "," and another; in a view "=" (61) and the rows (9), else the end of the line
unfoldable pub atom_end_at : Control → Mark → Control
atom_end_at c m = cond (eqb m.kind 44) (goes c 7) (cond (eqb c.block 3) (cond (eqb m.kind 61) (goes c 9) (fails c 13)) (cond (eqb m.kind 10) (goes c 0) (fails c 12)))

-- a row, in brackets or without
unfoldable pub row_expected : Control → Mark → ℕ → Control
row_expected c m what = cond (eqb m.kind 40) (rowed c) (cond (eqb m.kind 48) (bared c) (fails c what))

-- behind "=" (9): a row, or none
unfoldable pub any_rows_at : Control → Mark → Control
any_rows_at c m = cond (eqb m.kind 10) (goes c 0) (row_expected c m 14)

-- ---- by the place

unfoldable pub step_from : ℕ → Control → Mark → Control
step_from place c m =
    cond (eqb place 0) (start_at c m)
    (cond (eqb place 1) (comment_at c m)
    (cond (eqb place 2) (open_at c m)
    (cond (eqb place 3) (first_at c m)
    (cond (eqb place 4) (term_expected c m 6)
    (cond (eqb place 5) (next_at c m)
    (cond (eqb place 6) (colon_at c m)
    (cond (eqb place 7) (relation_at c m)
    (cond (eqb place 8) (atom_end_at c m)
    (cond (eqb place 9) (any_rows_at c m)
    (cond (eqb place 10) (row_expected c m 15)
    (row_end_at c m 17)))))))))))

unfoldable pub step : Control → Mark → Control
step c m = step_from c.place c m
