-- No line is malformed.
use Rattle.std.specs.Prelude.{◌≡◌, true, not, List}
use Rattle.sheet_format.specs.Line.{Line, all, null}

pub record FormedLines (ls : List Line) : Type 0 where
  pub each : all (λ l. not (null l)) ls ≡ true
