-- Lists by their places: the default, what follows a place, and parts.
use mathlib.Core.Path.{◌≡◌, refl, sym, ap, ◌∙◌}
use mathlib.Core.List.{List, [], ◌∷◌, ◌++◌, map}
use Prim.Native.Nat.{ℕ, zero, suc, ◌+◌, ◌<◌, ◌≤◌}
use native.Mathlib.Nat.{min-le_left}
use native.Mathlib.Numerals.{add-one}
use native.Mathlib.Omega.{arith}
use lib.ListN.{length, get_or, take, drop, replicate, length-take, length-drop, drop_of_length-le}
use lib.Seq.{drop-cons, slice, slice-cons, get_or-take, get_or-drop, ext_get_or}

module _ {A : Type 0} where
  -- the default plays no part inside a list
  pub inside : (l : List A) (i : ℕ) (d e : A) → i < length l → get_or l i d ≡ get_or l i e
  inside [] i d e h = absurd (omega arith)
  inside (x ∷ l) zero d e h = refl
  inside (x ∷ l) (suc i) d e h = inside l i d e (omega arith)

  -- a list from place i on
  pub drop-next : (l : List A) (i : ℕ) (d : A) → i < length l → drop i l ≡ get_or l i d ∷ drop (i + 1) l
  drop-next l i d h = drop-cons l i d h ∙ ap (λ n. get_or l i d ∷ drop n l) (sym (add-one i))

  pub slice-none : (i t : ℕ) (l : List A) → t ≤ i → slice i t l ≡ []
  slice-none i t l h =
      let k : length (take t l) ≤ i = rw length-take (let m = min-le_left t (length l) in omega arith) in
      drop_of_length-le (take t l) k

  pub slice-next : (i t : ℕ) (l : List A) (d : A) → i < t → t ≤ length l → slice i t l ≡ get_or l i d ∷ slice (i + 1) t l
  slice-next i t l d h k = slice-cons i t l d h k ∙ ap (λ n. get_or l i d ∷ slice n t l) (sym (add-one i))

  -- n elements from place o on
  pub part_get : (p : List A) (o n x : ℕ) (d : A) → x < n → get_or (take n (drop o p)) x d ≡ get_or p (o + x) d
  part_get p o n x d h = get_or-take n (drop o p) x d h ∙ get_or-drop o p x d

  pub part_length : (p : List A) (o n : ℕ) → o + n ≤ length p → length (take n (drop o p)) ≡ n
  part_length p o n h = simp (length-take, length-drop) (omega arith)

  -- a list that has them is that part
  pub part-is : (d : A) (p r : List A) (o n : ℕ) → o + n ≤ length p → length r ≡ n → ((x : ℕ) → x < n → get_or r x d ≡ get_or p (o + x) d) → r ≡ take n (drop o p)
  part-is d p r o n h l e =
      ext_get_or d r (take n (drop o p)) (l ∙ sym (part_length p o n h))
      (λ x k. let lt : x < n = omega arith in e x lt ∙ sym (part_get p o n x d lt))

  pub zeros_get : (d : A) (n i : ℕ) → get_or (replicate n d) i d ≡ d
  zeros_get d zero i = refl
  zeros_get d (suc n) zero = refl
  zeros_get d (suc n) (suc i) = zeros_get d n i

  pub map_append : {B : Type 0} (f : A → B) (l r : List A) → map f (l ++ r) ≡ map f l ++ map f r
  map_append f [] r = refl
  map_append f (x ∷ l) r = ap (λ t. f x ∷ t) (map_append f l r)

  -- what is put after a list to fill it up is its default
  pub padded_get : (d : A) (l : List A) (n i : ℕ) → get_or (l ++ replicate n d) i d ≡ get_or l i d
  padded_get d [] n i = zeros_get d n i
  padded_get d (x ∷ l) n zero = refl
  padded_get d (x ∷ l) n (suc i) = padded_get d l n i
