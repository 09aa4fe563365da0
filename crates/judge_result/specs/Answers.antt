-- A judgement as the definitions speak of it: the verdict by its number, and with a refusal its number and line. Not covered: how many facts the
-- case in the lent words has, and the missing answer.
use Rattle.std.specs.Prelude.{List, ℕ}

pub record Judgement : Type 0 where
  pub verdict : ℕ
  pub number : ℕ
  pub line : ℕ
  pub count : ℕ
  pub missing : List ℕ
