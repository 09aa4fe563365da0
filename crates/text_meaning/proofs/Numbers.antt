-- What is expected has a number above 0.
use mathlib.Core.Path.{◌≡◌}
use native.Mathlib.Omega.{arith}
use Rattle.text_meaning.specs.Numbers.{expected_number}
use Rattle.text_meaning.specs.declared.Expected.{Expected}
use Rattle.text_meaning.specs.declared.Expected.TheVariants as expected

pub expected-some : (e : Expected) → expected_number e ≡ 0 → ⊥
expected-some expected.Question h = omega arith
expected-some expected.List h = omega arith
expected-some expected.View h = omega arith
expected-some expected.Open h = omega arith
expected-some expected.First h = omega arith
expected-some expected.Term h = omega arith
expected-some expected.Next h = omega arith
expected-some expected.Colon h = omega arith
expected-some expected.Relation h = omega arith
expected-some expected.Columns h = omega arith
expected-some expected.Fewer h = omega arith
expected-some expected.AtomEnd h = omega arith
expected-some expected.Rows h = omega arith
expected-some expected.FirstRow h = omega arith
expected-some expected.Row h = omega arith
expected-some expected.Bare h = omega arith
expected-some expected.RowEnd h = omega arith
expected-some expected.Shorter h = omega arith
