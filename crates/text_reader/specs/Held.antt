-- What the reader holds of a reading: names by their places in the text, and lines of the number form in lent words.
use Rattle.std.specs.Prelude.{◌≡◌, cond, List, [], ◌∷◌, ◌++◌, map, reverse, ℕ, ◌+◌, ◌-◌, ◌*◌, ◌≤◌, ◌<◌, min, eqb, ltb, leb, ℤ, pos, negsuc, length, get_or, take, drop, set, replicate, Result, Ok, Err}
use Rattle.sheet_format.specs.Limits.{most_words, most_lines, line_word_count, most_fields, most_variables}
use Rattle.sheet_format.specs.Line.{Line, words_of}
use Rattle.text_meaning.specs.Tokens.{tokens}
use Rattle.text_meaning.specs.Names.{place_in, token_mark}
use Rattle.text_meaning.specs.Reading.{Reading, line_after, names_in, names_after, lines_in, lines_after, starts_after, field_for, read, reading_of}
use Rattle.text_meaning.specs.Control.{Control}
use Rattle.text_meaning.specs.Control.{Mark}
use Rattle.text_tokens.specs.Ends.{TokenBegins}
use Rattle.text_reader.specs.declared.Counts.{Counts}
use Rattle.text_meaning.specs.Numbers.{control_of, stepped}
use Rattle.text_reader.specs.declared.ReadTo.{ReadTo}
use Rattle.text_reader.specs.declared.Misfit.{Misfit}

-- ---- names

-- the first of some tokens
abbrev pub first_token : List (List ℕ) → List ℕ
first_token [] = []
first_token (w ∷ ws) = w

-- the token at a place of the text
abbrev pub name_at : List ℕ → ℕ → List ℕ
name_at text at = first_token (tokens (drop at text))

-- those at the first places of a table
abbrev pub names_at : List ℕ → List ℕ → ℕ → List (List ℕ)
names_at text names count = map (name_at text) (take count names)

pub record NamesBegin (text names : List ℕ) (count : ℕ) : Type 0 where
  pub each : (i : ℕ) → i < count → TokenBegins text (get_or names i 0)

pub record Noted (text names : List ℕ) (count : ℕ) (ns : List (List ℕ)) : Type 0 where
  pub size : length names ≡ most_variables
  pub few : count ≤ most_variables
  pub begin : NamesBegin text names count
  pub are : ns ≡ names_at text names count

-- ---- lines

pub record ReaderRoom (words : List ℤ) (begun : List ℕ) : Type 0 where
  pub words_size : length words ≡ most_words
  pub begun_size : length begun ≡ most_lines

-- a line of a kind begins behind n others, in a line of the text
pub record BegunLine (old new : List ℤ) (from to : List ℕ) (n kind line r : ℕ) : Type 0 where
  pub words : new ≡ cond (leb most_lines n) old (set (set old (n * line_word_count) (pos 1)) (n * line_word_count + 1) (pos kind))
  pub begun : to ≡ cond (leb most_lines n) from (set from n line)
  pub count : r ≡ cond (leb most_lines n) (most_lines + 1) (n + 1)

-- a field is put behind so many others into the last of n lines
pub record PutField (old new : List ℤ) (n fields : ℕ) (w : ℤ) (r : ℕ) : Type 0 where
  pub words : new ≡ cond (eqb n 0) old (cond (leb most_fields fields) old (cond (ltb most_lines n) old (set (set old ((n - 1) * line_word_count) (pos (fields + 1))) ((n - 1) * line_word_count + 1 + fields) w)))
  pub count : r ≡ cond (eqb n 0) fields (cond (leb most_fields fields) fields (fields + 1))

-- every line has at least a field, and no more than fit
abbrev pub Fit : List Line → Type 0
Fit [] = Unit
Fit (l ∷ ls) = (0 < length l) × (length l ≤ most_fields) × Fit ls

-- the fields of the last line
abbrev pub last_fields : List Line → ℕ
last_fields [] = 0
last_fields (l ∷ ls) = length l

-- the lent words begin with the lines, and zeros follow; and so with the lines of the text
pub record Stored (words : List ℤ) (begun : List ℕ) (ls : List Line) (starts : List ℕ) : Type 0 where
  pub form : words ≡ words_of (reverse ls) ++ replicate (most_words - length ls * line_word_count) (pos 0)
  pub places : begun ≡ reverse starts ++ replicate (most_lines - length ls) 0

pub record LinesKept (words : List ℤ) (begun : List ℕ) (n fields : ℕ) (ls : List Line) (starts : List ℕ) : Type 0 where
  pub room : ReaderRoom words begun
  pub count : n ≡ min (most_lines + 1) (length ls)
  pub same : length starts ≡ length ls
  pub fit : Fit ls
  pub last : fields ≡ last_fields ls
  pub stored : length ls ≤ most_lines → Stored words begun ls starts

-- ---- a reading

pub record Held (text : List ℕ) (words : List ℤ) (begun names : List ℕ) (n : Counts) (p : Reading) : Type 0 where
  pub line : n.line ≡ p.line
  pub noted : Noted text names n.names p.names
  pub kept : LinesKept words begun n.lines n.fields p.lines p.starts

pub record HeldSome (text : List ℕ) (words : List ℤ) (begun names : List ℕ) (n : Counts) : Type 0 where
  pub reading : Reading
  pub held : Held text words begun names n reading

-- the reading after a token, in three steps: a line begins, a field is put, the line of the text ends
abbrev pub begun_by : Control → Reading → Reading
begun_by c p = record { control = c; line = p.line; names = names_in c p.names; lines = lines_in c p.lines; starts = starts_after c p.line p.starts }

abbrev pub put_by : Control → Mark → List ℕ → Reading → Reading
put_by c m w p = record { control = p.control; line = p.line; names = names_after c m w p.names; lines = lines_after c (field_for m w p.names) p.lines; starts = p.starts }

abbrev pub ended_by : Control → Mark → Reading → Reading
ended_by c m p = record { control = p.control; line = line_after c m p.line; names = p.names; lines = p.lines; starts = p.starts }

-- the bytes from a place to another are no token, or the token that begins there
pub record WordAt (text : List ℕ) (at e : ℕ) : Type 0 where
  pub order : at ≤ e
  pub inside : e ≤ length text
  pub begins : at < e → TokenBegins text at
  pub is : at < e → name_at text at ≡ take (e - at) (drop at text)

-- what each step does to any reading that is held
pub record BlockBegun (c : Control) (old new : List ℤ) (from to : List ℕ) (n r : Counts) : Type 0 where
  pub held : {text names : List ℕ} {p : Reading} → Held text old from names n p → Held text new to names r (begun_by c p)
  pub line : r.line ≡ n.line

pub record PutBy (text : List ℕ) (at e : ℕ) (c : Control) (m : Mark) (old new : List ℤ) (from to : List ℕ) (n r : Counts) : Type 0 where
  pub held : {begun : List ℕ} {p : Reading} → Held text old begun from n p → Held text new begun to r (put_by c m (take (e - at) (drop at text)) p)
  pub line : r.line ≡ n.line

pub record NotedBy (old new : List ℕ) (count i at r : ℕ) : Type 0 where
  pub names : new ≡ cond (ltb i count) old (cond (leb most_variables count) old (set old count at))
  pub count_after : r ≡ cond (ltb i count) count (cond (leb most_variables count) count (count + 1))

-- a variable is put, by the place of its name
pub record VariablePut (text : List ℕ) (at e : ℕ) (old new : List ℤ) (from to : List ℕ) (n r : Counts) : Type 0 where
  pub field : PutField old new n.lines n.fields (negsuc (place_in (take (e - at) (drop at text)) (names_at text from n.names))) r.fields
  pub noted : NotedBy from to n.names (place_in (take (e - at) (drop at text)) (names_at text from n.names)) at r.names
  pub line : r.line ≡ n.line
  pub lines : r.lines ≡ n.lines

-- the mark of such bytes
pub record Marked (text : List ℕ) (at e : ℕ) (m : Mark) : Type 0 where
  pub is : m ≡ token_mark (take (e - at) (drop at text))

pub record EndedBy (c : Control) (m : Mark) (n r : Counts) : Type 0 where
  pub held : {text : List ℕ} {words : List ℤ} {begun names : List ℕ} {p : Reading} → Held text words begun names n p → Held text words begun names r (ended_by c m p)
  pub line : r.line ≤ n.line + 1

-- a token that fits, after some reading: what reading gives is held
pub record Taken (text : List ℕ) (at e : ℕ) (from : ReadTo) (old new : List ℤ) (begun begun-after names names-after : List ℕ) (r : ReadTo) : Type 0 where
  pub held : {p : Reading} → p.control ≡ control_of from.standing → Held text old begun names from.counts p → Held text new begun-after names-after r.counts (read p (take (e - at) (drop at text)))
  pub control : (p : Reading) → p.control ≡ control_of from.standing → (read p (take (e - at) (drop at text))).control ≡ control_of r.standing
  pub small : from.standing.kind ≤ 5 → r.standing.kind ≤ 5
  pub line : r.counts.line ≤ from.counts.line + 1

-- one that does not fit: something else was expected, and all is as it was
pub record Misfits (text : List ℕ) (at e : ℕ) (from : ReadTo) (old new : List ℤ) (begun begun-after names names-after : List ℕ) (f : Misfit) : Type 0 where
  pub held : {p : Reading} → p.control ≡ control_of from.standing → Held text old begun names from.counts p → Held text new begun-after names-after f.reached.counts (read p (take (e - at) (drop at text)))
  pub control : (p : Reading) → p.control ≡ control_of from.standing → (read p (take (e - at) (drop at text))).control ≡ stepped f.reached.standing (Err f.what)

abbrev pub TakenBy : List ℕ → ℕ → ℕ → ReadTo → List ℤ → List ℤ → List ℕ → List ℕ → List ℕ → List ℕ → Result ReadTo Misfit → Type 0
TakenBy text at e from old new begun begun-after names names-after (Ok r) = Taken text at e from old new begun begun-after names names-after r
TakenBy text at e from old new begun begun-after names names-after (Err f) = Misfits text at e from old new begun begun-after names names-after f

-- the text was read: where reading stands, in which line, and the lines of its number form
pub record ReadUp (text : List ℕ) (words : List ℤ) (begun : List ℕ) (c : Control) (n : Counts) : Type 0 where
  pub control : (reading_of text).control ≡ c
  pub line : n.line ≡ (reading_of text).line
  pub kept : LinesKept words begun n.lines n.fields (reading_of text).lines (reading_of text).starts

-- to its end, or to the first token that does not fit
abbrev pub ReadAs : List ℕ → List ℤ → List ℕ → Result ReadTo Misfit → Type 0
ReadAs text words begun (Ok r) = ReadUp text words begun (control_of r.standing) r.counts
ReadAs text words begun (Err f) = ReadUp text words begun (stepped f.reached.standing (Err f.what)) f.reached.counts
