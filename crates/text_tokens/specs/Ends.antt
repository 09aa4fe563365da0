-- Where tokens begin and end.
use Rattle.std.specs.Prelude.{◌≡◌, false, List, ◌∷◌, ℕ, ◌-◌, ◌≤◌, ◌<◌, length, get_or, take, drop}
use Rattle.text_begins.specs.Begins.{is_blank_byte}
use Rattle.text_meaning.specs.Tokens.{tokens}

-- a token begins at a place: it has a byte that is no blank
pub record TokenBegins (text : List ℕ) (at : ℕ) : Type 0 where
  pub inside : at < length text
  pub byte : is_blank_byte (get_or text at 0) ≡ false

-- and it ends before place e: the bytes between are the first of the tokens from there on
pub record TokenEnds (text : List ℕ) (at e : ℕ) : Type 0 where
  pub after : at < e
  pub inside : e ≤ length text
  pub token : tokens (drop at text) ≡ take (e - at) (drop at text) ∷ tokens (drop e text)

-- r is the first place from `at` on without a blank: the tokens are the same, and one begins there, if any does
pub record Skipped (text : List ℕ) (at r : ℕ) : Type 0 where
  pub after : at ≤ r
  pub inside : r ≤ length text
  pub tokens : tokens (drop at text) ≡ tokens (drop r text)
  pub begins : r < length text → is_blank_byte (get_or text r 0) ≡ false
