-- A text's meaning: reading its tokens one after the other, from the first to the last or to the first that does not fit.
use Rattle.std.specs.Prelude.{false, cond, ◌&&◌, List, [], ◌∷◌, ◌++◌, reverse, ℕ, zero, suc, eqb, ltb, ℤ, pos, negsuc, get_or, take}
use Rattle.sheet_format.specs.Limits.{most_fields}
use Rattle.sheet_format.specs.Line.{Line, words_of}
use Rattle.text_meaning.specs.Tokens.{tokens}
use Rattle.text_meaning.specs.Names.{place_in, noted, token_mark}
use Rattle.text_meaning.specs.Places.{step}
use Rattle.text_meaning.specs.Control.{Control}
use Rattle.text_meaning.specs.Control.{Mark}

-- where reading stands, and in which line of the text; the block's variables by first place; the lines of the number form so far, the last one
-- first, and in which line of the text each begins
pub record Reading : Type 0 where
  pub control : Control
  pub line : ℕ
  pub names : List (List ℕ)
  pub lines : List Line
  pub starts : List ℕ

-- ---- what a token w with the mark m does, c being where reading stands after it

-- a line is counted at its end (10)
abbrev pub line_after : Control → Mark → ℕ → ℕ
line_after c m n = cond (eqb m.kind 10 && eqb c.expected 0) (suc n) n

-- a block (1 to 3) has variables of its own
abbrev pub names_in : Control → List (List ℕ) → List (List ℕ)
names_in c ns = cond (c.begins && ltb c.kind 4) [] ns

-- a variable (97) that is put is noted
abbrev pub names_after : Control → Mark → List ℕ → List (List ℕ) → List (List ℕ)
names_after c m w ns = cond (c.puts && eqb m.kind 97) (noted w ns) ns

-- a line begins with its kind
abbrev pub lines_in : Control → List Line → List Line
lines_in c ls = cond c.begins ((pos c.kind ∷ []) ∷ ls) ls

-- the field that is put: a variable (97) by its number, from -1 down, or the mark's number
abbrev pub field_for : Mark → List ℕ → List (List ℕ) → ℤ
field_for m w ns = cond (eqb m.kind 97) (negsuc (place_in w ns)) (pos m.value)

-- a field more in the last line; a line has no room for a seventh, which no text has
unfoldable pub grown : ℤ → List Line → List Line
grown z [] = []
grown z (l ∷ ls) = take most_fields (l ++ (z ∷ [])) ∷ ls

abbrev pub lines_after : Control → ℤ → List Line → List Line
lines_after c z ls = cond c.puts (grown z ls) ls

abbrev pub starts_after : Control → ℕ → List ℕ → List ℕ
starts_after c n ns = cond c.begins (n ∷ ns) ns

abbrev pub reading_after : Control → Mark → List ℕ → Reading → Reading
reading_after c m w s = record {
  control = c;
  line = line_after c m s.line;
  names = names_after c m w (names_in c s.names);
  lines = lines_after c (field_for m w (names_in c s.names)) (lines_in c s.lines);
  starts = starts_after c s.line s.starts;
}

-- one token more
unfoldable pub read : Reading → List ℕ → Reading
read s w = reading_after (step s.control (token_mark w)) (token_mark w) w s

-- ---- all tokens

-- up to the first that does not fit
unfoldable pub read_all : Reading → List (List ℕ) → Reading
read_all s [] = s
read_all s (w ∷ ws) = cond (eqb (read s w).control.expected 0) (read_all (read s w) ws) (read s w)

-- before the first token
abbrev pub unread : Reading
unread = record {
  control = record { place = 0; block = 0; kind = 0; relation = 0; left = 0; bare = false; expected = 0; begins = false; puts = false };
  line = 1;
  names = [];
  lines = [];
  starts = [];
}

-- a text is read to its end, which is a token without bytes
unfoldable pub reading_of : List ℕ → Reading
reading_of t = read_all unread (tokens t ++ ([] ∷ []))

-- the number form of what was read
unfoldable pub form_of : Reading → List ℤ
form_of s = words_of (reverse s.lines)

-- the line of the text in which line n of the number form begins; 0 for none
abbrev pub text_line : Reading → ℕ → ℕ
text_line s zero = 0
text_line s (suc n) = get_or (reverse s.starts) n 0
