-- The call's refusal, step by step.
use mathlib.Core.Path.{◌≡◌, refl}
use mathlib.Core.List.{List}
use Prim.Native.Nat.{ℕ, ◌<◌, ◌≤◌}
use borrow.Author.Tests.{lt-ltb, le-ltb, eq-eqb, ne_eqb}
use lib.IntN.{ℤ}
use lib.ListN.{length}
use Rattle.judge_ends.specs.Sets.{refusal_of_set}
use Rattle.day_page.specs.Page.{page_room}
use Rattle.day_page.specs.Refusal.{refusal_of_day}

module _ (bytes ends : List ℕ) (out : List ℤ) (page : List ℕ) where
  pub by-set : (n : ℕ) → n ≡ refusal_of_set bytes ends out → (n ≡ 0 → ⊥) → n ≡ refusal_of_day bytes ends out page
  unfolding refusal_of_day
  by-set n is some = rw (← is, ne_eqb n 0 some) refl

  pub by_page : (n : ℕ) → n ≡ refusal_of_set bytes ends out → n ≡ 0 → length page < page_room → 13 ≡ refusal_of_day bytes ends out page
  unfolding refusal_of_day
  by_page n is clean short = rw (← is, eq-eqb n 0 clean, lt-ltb (length page) page_room short) refl

  pub by-none : (n : ℕ) → n ≡ refusal_of_set bytes ends out → n ≡ 0 → page_room ≤ length page → 0 ≡ refusal_of_day bytes ends out page
  unfolding refusal_of_day
  by-none n is clean room = rw (← is, eq-eqb n 0 clean, le-ltb (length page) page_room room) refl
