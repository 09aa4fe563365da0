-- What the calls that put words give, as what this crate's contract says.
use mathlib.Core.Path.{◌≡◌, refl, sym, ap, subst}
use mathlib.Core.List.{List, []}
use mathlib.Core.Logic.{inl, inr}
use Prim.Native.Nat.{ℕ, ◌<◌, ◌≤◌}
use native.Mathlib.Omega.{arith}
use lib.ListN.{length}
use Rattle.text_buffer.specs.Puts.{Put}
use Rattle.text_writer.specs.Rooms.{text_room}
use Rattle.text_writer.specs.Says.{SaysWords}
use Rattle.text_writer.specs.Texts.{refusal_bytes, expected_bytes}
use Rattle.text_writer.proofs.Bounds.{all-put, refusal-few, expected-few}
use Rattle.text_to_sheet.specs.Outcome.{Made}
use Rattle.text_to_sheet.specs.Outcome.Made.{Sheet, Expected, Refused}
use Rattle.text_message.specs.Message.{message_bytes}

module _ (m : Made) (out : List ℕ) where
  pub silent : length out < text_room → SaysWords (message_bytes m) out out 0
  silent few = inl (record { few = few; lent = refl; count = refl })

module _ (out : List ℕ) (room : text_room ≤ length out) where
  pub expected : (l w k : ℕ) (after : List ℕ) (r : ℕ) → Put out after 0 (expected_bytes l w k) r → SaysWords (message_bytes (Expected l w k)) out after r
  expected l w k after r p = inr (all-put p room (expected-few l w k))

  pub refused : (c l t : ℕ) (after : List ℕ) (r : ℕ) → Put out after 0 (refusal_bytes c l t) r → SaysWords (message_bytes (Refused c l t)) out after r
  refused c l t after r p = inr (all-put p room (refusal-few c l t))
