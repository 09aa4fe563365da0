-- Where reading stands and what a token is, as the definitions have them: in numbers.
use Rattle.std.specs.Prelude.{Bool, ℕ}

-- a token: the kind of its first byte, that byte where the token has no other (else 0), and its number: a number's value, or the relation that
-- a word in capitals names, 0 where there is none
pub record Mark : Type 0 where
  pub kind : ℕ
  pub letter : ℕ
  pub value : ℕ

-- where reading stands: the place; the kind of the block, and of the last line of the number form; that line's relation and how many columns
-- may still come; whether it is a row without brackets; what was expected, 0 where the last token fitted; and what that token did: it began a
-- line, and it put a field into it
pub record Control : Type 0 where
  pub place : ℕ
  pub block : ℕ
  pub kind : ℕ
  pub relation : ℕ
  pub left : ℕ
  pub bare : Bool
  pub expected : ℕ
  pub begins : Bool
  pub puts : Bool
