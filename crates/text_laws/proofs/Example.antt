-- Worked examples of the definitions: a block and the lines of its number form, a text that is not understood, numbering by first place, and
-- a relation beyond the ten.
use mathlib.Core.Path.{◌≡◌, refl}
use mathlib.Core.List.{List, [], ◌∷◌, reverse}
use Prim.Native.Nat.{ℕ}
use lib.IntN.{ℤ, pos, negsuc}
use Rattle.sheet_format.specs.Table.{columns_of, relation}
use Rattle.sheet_format.specs.Field.{decimal}
use Rattle.sheet_format.specs.Cause.{kind_of as line_kind}
use Rattle.text_buffer.specs.Words.{bytes}
use Rattle.text_writer.specs.Texts.{without_blanks, word_bytes, relation_bytes}
use Rattle.text_meaning.specs.Tokens.{token_kind, joins, word_goes_on, behind, tokens}
use Rattle.text_meaning.specs.Names.{are_same_bytes, number_longer, number_from, among, relation_named, place_in, noted, token_mark}
use Rattle.text_meaning.specs.Places.{columns_in, next_block, start_at, comment_at, open_at, term_expected, more_at, closed_by, close_at, first_at, row_end_at, next_at, colon_at, relation_at, atom_end_at, row_expected, any_rows_at, step_from, step}
use Rattle.text_meaning.specs.Reading.{Reading, grown, read, read_all, reading_of}
use Rattle.text_laws.specs.Numbered.{place_among, known, numbered_terms, known_behind, numbered_lines}

-- a question is taken apart into words, numbers and signs
pub question-tokens : tokens (bytes "q(s,7): Sig(s,7)") ≡ bytes "q" ∷ bytes "(" ∷ bytes "s" ∷ bytes "," ∷ bytes "7" ∷ bytes ")" ∷ bytes ":" ∷ bytes "Sig" ∷ bytes "(" ∷ bytes "s" ∷ bytes "," ∷ bytes "7" ∷ bytes ")" ∷ []
unfolding behind word_goes_on joins token_kind
question-tokens = refl

-- a head and its atom, of which the first term is a variable
pub block-lines : reverse (reading_of (bytes "q(s): Sig(s,7)")).lines ≡ (pos 1 ∷ negsuc 0 ∷ []) ∷ (pos 4 ∷ pos 4 ∷ negsuc 0 ∷ pos 7 ∷ []) ∷ []
unfolding behind word_goes_on joins token_kind are_same_bytes number_longer number_from among relation_named place_in noted token_mark columns_of relation columns_in next_block start_at comment_at open_at term_expected more_at closed_by close_at first_at row_end_at next_at colon_at relation_at atom_end_at row_expected any_rows_at step_from step grown read read_all reading_of
block-lines = refl

-- a bracket that is not closed: in line 2 a comma or a bracket (7) was expected
pub open_bracket : ((reading_of (bytes "#\nq(s")).control.expected ≡ 7) × ((reading_of (bytes "#\nq(s")).line ≡ 2)
unfolding behind word_goes_on joins token_kind are_same_bytes number_longer number_from among relation_named place_in noted token_mark columns_of relation columns_in next_block start_at comment_at open_at term_expected more_at closed_by close_at first_at row_end_at next_at colon_at relation_at atom_end_at row_expected any_rows_at step_from step grown read read_all reading_of
open_bracket = (refl, refl)

-- a head's variables -3 and -1 are the first and the second of their block, also where its atom has them the other way round
pub numbered-block : numbered_lines [] ((pos 1 ∷ negsuc 2 ∷ negsuc 0 ∷ []) ∷ (pos 4 ∷ pos 4 ∷ negsuc 0 ∷ negsuc 2 ∷ []) ∷ []) ≡ (pos 1 ∷ negsuc 0 ∷ negsuc 1 ∷ []) ∷ (pos 4 ∷ pos 4 ∷ negsuc 1 ∷ negsuc 0 ∷ []) ∷ []
unfolding line_kind place_among known numbered_terms known_behind numbered_lines
numbered-block = refl

-- a relation beyond the ten is written, and read, by its number
pub far-relation : (relation_bytes 12 ≡ bytes "R12") × (relation_named (bytes "R12") ≡ 12)
unfolding relation_bytes word_bytes without_blanks decimal number_from number_longer are_same_bytes among relation_named
far-relation = (refl, refl)
