use mathlib.Core.Path.{◌≡◌, ap, ◌∙◌}
use Prim.Native.Nat.{◌-◌, ◌*◌}
use native.Mathlib.Omega.{arith}
use Prim.Native.Nat.{◌/◌}
use lib.ListN.{take, drop}
use Rattle.sheet_format.specs.Line.{line_of, line_words}
use Rattle.sheet_reader.proofs.LineOf.{line-none, odd_length, no_fields, many-fields, part_length}
use borrow.Author.Rules.{rules}
use Rattle.sheet_reader.proofs.line_words.Goals as goal

pub returns-then-size-ne0 : goal.returns-then-size-ne0
returns-then-size-ne0 c = let a = c.args in
    let t = take (a.e - a.at) (drop a.at a.s.now) in
    let l = part_length a.s.now a.at a.e (omega arith) (omega arith) in
    line-none t (odd_length t (λ h. c.if-size-ne0.true (omega arith)))

pub returns-then-n-lt1 : goal.returns-then-n-lt1
returns-then-n-lt1 c = let a = c.args in
    let t = take (a.e - a.at) (drop a.at a.s.now) in
    let l = part_length a.s.now a.at a.e (omega arith) (omega arith) in
    line-none t (no_fields t (omega arith))

pub returns-then-n-gt-MOST_FIELDS : goal.returns-then-n-gt-MOST_FIELDS
returns-then-n-gt-MOST_FIELDS c = let a = c.args in
    let t = take (a.e - a.at) (drop a.at a.s.now) in
    let l = part_length a.s.now a.at a.e (omega arith) (omega arith) in
    line-none t (many-fields t (omega arith))
