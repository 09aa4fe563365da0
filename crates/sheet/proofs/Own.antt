-- The library's own table handed out, way by way.
use mathlib.Core.Path.{◌≡◌, refl, sym, ap, ◌∙◌}
use mathlib.Core.List.{List}
use Prim.Native.Nat.{ℕ, ◌<◌, ◌≤◌}
use borrow.Author.Tests.{lt-ltb, le-ltb}
use lib.ListN.{length}
use Rattle.sheet_format.specs.Cause.{none}
use Rattle.sheet_format.specs.Sheet.{returned}
use Rattle.sheet_format.specs.Answers.Ending.{Done, Refused}
use Rattle.sheet_format.proofs.Endings.{short-way, done-way}
use Rattle.list_laws.specs.Wrote.{Wrote}
use Rattle.list_laws.proofs.Laws.{wrote-over}
use Rattle.sheet_own_table.specs.Own.{own_bytes, own_table_bytes}
use Rattle.sheet_own_table.proofs.Bytes.{own-length}
use Rattle.sheet.specs.ByTable.{own_ending, own_returned, own_lent}

module _ (out : List ℕ) where
  pub own-short : length out < own_table_bytes → (Refused 13 0 ≡ own_ending (length out)) × (out ≡ own_lent out) × (returned (Refused 13 0) ≡ own_returned (length out))
  unfolding own_ending own_returned own_lent
  own-short lt =
      let less : length out < length own_bytes = rw own-length lt in
      let (a, b) = short-way none (length own_bytes) (length own_bytes) own_bytes out refl less in
      (a, b, sym (rw (lt-ltb (length out) (length own_bytes) less) refl))

  pub own-done : (after : List ℕ) → own_table_bytes ≤ length out → Wrote out after 0 (length own_bytes) own_bytes → (Done own_table_bytes ≡ own_ending (length out)) × (after ≡ own_lent out) × (returned (Done own_table_bytes) ≡ own_returned (length out))
  unfolding own_ending own_returned own_lent
  own-done after le w =
      let enough : length own_bytes ≤ length out = rw own-length le in
      let (a, b) = done-way none (length own_bytes) (length own_bytes) own_bytes out after own_table_bytes refl enough (sym own-length) (wrote-over out after (length own_bytes) own_bytes w) in
      (a, b, ap (λ n. returned (Done n)) (sym own-length) ∙ sym (rw (le-ltb (length out) (length own_bytes) enough) refl))
