-- How a call ends, way by way: its result, and the lent output afterwards.
use mathlib.Core.Path.{◌≡◌, sym, ap, ◌∙◌}
use mathlib.Core.List.{List}
use Prim.Native.Nat.{ℕ, ◌<◌, ◌≤◌}
use borrow.Author.Tests.{lt-ltb, eq-eqb, ne_eqb}
use lib.ListN.{length}
use native.Mathlib.Omega.{arith}
use Rattle.sheet_format.specs.declared.Cause.{Cause}
use Rattle.sheet_format.specs.declared.Cause.TheVariants.{TooLong, Malformed, Misplaced, WrongColumns, OutOfRange, TooMany, WrongLength, UnsafeHead, NotAbove, NoBlock, BadFact, FactOrder, NoRoom, WrongEnds, WrongTable}
use Rattle.sheet_format.specs.Returns.{cause_number}
use Rattle.sheet_format.specs.Sheet.{ending, over, lent_by}
use Rattle.sheet_format.specs.Answers.{Refusal}
use Rattle.sheet_format.specs.Answers.Ending.{Done, Refused}
use Rattle.sheet_format.proofs.RoundTrip.{ending-is}

ending-refused : (r : Refusal) (room wanted n : ℕ) → (r.number ≡ 0 → ⊥) → ending r room wanted n ≡ Refused r.number r.line
ending-refused r room wanted n h = rw (ne_eqb r.number 0 h)

ending-short : (r : Refusal) (room wanted n : ℕ) → r.number ≡ 0 → room < wanted → ending r room wanted n ≡ Refused 13 0
ending-short r room wanted n e lt = rw (eq-eqb r.number 0 e, lt-ltb room wanted lt)

-- a call's result and the lent output afterwards
module _ {A : Type 0} (r : Refusal) (wanted n : ℕ) (new out : List A) where
  pub refused-way : (x : Refusal) → x ≡ r → (x.number ≡ 0 → ⊥) → (Refused x.number x.line ≡ ending r (length out) wanted n) × (out ≡ lent_by (ending r (length out) wanted n) new out)
  refused-way x is h =
      let e = ap (λ y. ending y (length out) wanted n) (sym is) ∙ ending-refused x (length out) wanted n h in
      (sym e, sym (ap (λ y. lent_by y new out) e))

  pub short-way : r.number ≡ 0 → length out < wanted → (Refused 13 0 ≡ ending r (length out) wanted n) × (out ≡ lent_by (ending r (length out) wanted n) new out)
  short-way z lt = let e = ending-short r (length out) wanted n z lt in (sym e, sym (ap (λ x. lent_by x new out) e))

  pub done-way : (after : List A) (m : ℕ) → r.number ≡ 0 → wanted ≤ length out → m ≡ n → after ≡ over new out
      → (Done m ≡ ending r (length out) wanted n) × (after ≡ lent_by (ending r (length out) wanted n) new out)
  done-way after m z le e a = let f = ending-is r (length out) wanted n z le in (ap Done e ∙ sym f, a ∙ sym (ap (λ x. lent_by x new out) f))

-- a cause has a number
pub named : (c : Cause) → cause_number c ≡ 0 → ⊥
named TooLong e = omega arith
named Malformed e = omega arith
named Misplaced e = omega arith
named WrongColumns e = omega arith
named OutOfRange e = omega arith
named TooMany e = omega arith
named WrongLength e = omega arith
named UnsafeHead e = omega arith
named NotAbove e = omega arith
named NoBlock e = omega arith
named BadFact e = omega arith
named FactOrder e = omega arith
named NoRoom e = omega arith
named WrongEnds e = omega arith
named WrongTable e = omega arith
