-- Laws of names that are held by their places in the text.
use mathlib.Core.Path.{◌≡◌, refl, sym, ap, ◌∙◌, subst}
use mathlib.Core.Bool.{Bool, true, false, cond}
use mathlib.Core.List.{List, [], ◌∷◌, ◌++◌, map}
use mathlib.Core.Logic.{◌⊎◌, inl, inr, ⊎_elim}
use Prim.Native.Nat.{ℕ, zero, suc, ◌+◌, ◌-◌, ◌≤◌, ◌<◌}
use native.Mathlib.Omega.{arith}
use native.Mathlib.Numerals.{add-one}
use native.Mathlib.Nat.{eq-or-lt_of_le}
use lib.Dec.{ltb, leb}
use lib.ListN.{length, get_or, take, drop, set, length-set, length-map, drop_of_length-le}
use lib.Seq.{take-suc-set, get_or-set_same, get_or-set_other, length-take-le}
use borrow.Author.Tests.{lt-ltb, le-ltb, le-leb, lt-leb}
use Rattle.list_laws.proofs.Lists.{drop-next, map_append}
use Rattle.list_laws.proofs.Order.{less?}
use Rattle.text_meaning.specs.Names.{are_same_bytes, place_in, noted}
use Rattle.text_tokens.specs.Ends.{TokenBegins}
use Rattle.text_reader.specs.Held.{name_at, names_at, NamesBegin, Noted, NotedBy}

-- ---- the place of a word

place-next : (w : List ℕ) (ns : List (List ℕ)) (i : ℕ) → i < length ns → are_same_bytes w (get_or ns i []) ≡ false → place_in w (drop i ns) ≡ suc (place_in w (drop (i + 1) ns))
unfolding place_in
place-next w ns i h e = rw (drop-next ns i [] h, e)

place_here : (w : List ℕ) (ns : List (List ℕ)) (i : ℕ) → i < length ns → are_same_bytes w (get_or ns i []) ≡ true → place_in w (drop i ns) ≡ 0
unfolding place_in
place_here w ns i h e = rw (drop-next ns i [] h, e)

place_none : (w : List ℕ) (ns : List (List ℕ)) (i : ℕ) → length ns ≤ i → place_in w (drop i ns) ≡ 0
unfolding place_in
place_none w ns i h = rw (drop_of_length-le ns h)

map_get : {A B : Type 0} (f : A → B) (l : List A) (i : ℕ) (d : A) (e : B) → i < length l → get_or (map f l) i e ≡ f (get_or l i d)
map_get f [] i d e h = absurd (omega arith)
map_get f (x ∷ l) zero d e h = refl
map_get f (x ∷ l) (suc i) d e h = map_get f l i d e (omega arith)

module _ (text names : List ℕ) (count : ℕ) (few : count ≤ length names) where
  pub names-length : length (names_at text names count) ≡ count
  names-length = length-map (take count names) (name_at text) ∙ length-take-le count names few

  name_get : (i : ℕ) → i < count → get_or (names_at text names count) i [] ≡ name_at text (get_or names i 0)
  name_get i h =
      let l = length-take-le count names few in
      map_get (name_at text) (take count names) i 0 [] (omega arith) ∙ ap (name_at text) (take_get count names i h)
    where
      take_get : (n : ℕ) (l : List ℕ) (i : ℕ) → i < n → get_or (take n l) i 0 ≡ get_or l i 0
      take_get zero l i h = absurd (omega arith)
      take_get (suc n) [] i h = refl
      take_get (suc n) (x ∷ l) zero h = refl
      take_get (suc n) (x ∷ l) (suc i) h = take_get n l i (omega arith)

  module _ (w : List ℕ) (i : ℕ) (all : place_in w (names_at text names count) ≡ i + place_in w (drop i (names_at text names count))) where
    pub another : i < count → are_same_bytes w (name_at text (get_or names i 0)) ≡ false → place_in w (names_at text names count) ≡ i + 1 + place_in w (drop (i + 1) (names_at text names count))
    another h e =
        let n = names-length in
        let q = place-next w (names_at text names count) i (omega arith) (ap (are_same_bytes w) (name_get i h) ∙ e) in
        omega arith

    pub found : i < count → are_same_bytes w (name_at text (get_or names i 0)) ≡ true → i ≡ place_in w (names_at text names count)
    found h e =
        let n = names-length in
        let q = place_here w (names_at text names count) i (omega arith) (ap (are_same_bytes w) (name_get i h) ∙ e) in
        omega arith

    pub not_found : count ≤ i → i ≡ place_in w (names_at text names count)
    not_found h =
        let n = names-length in
        let q = place_none w (names_at text names count) i (omega arith) in
        omega arith

-- ---- a name is noted

module _ (text names : List ℕ) (count at : ℕ) (size : length names ≡ 12) (room : count < 12) where
  names_more : names_at text (set names count at) (count + 1) ≡ names_at text names count ++ (name_at text at ∷ [])
  names_more = ap (λ k. map (name_at text) (take k (set names count at))) (add-one count) ∙ ap (map (name_at text)) (take-suc-set names count at (omega arith)) ∙ map_append (name_at text) (take count names) (at ∷ [])

  begin-more : NamesBegin text names count → TokenBegins text at → NamesBegin text (set names count at) (count + 1)
  begin-more b a = record { each = λ i h. let q : i ≤ count = omega arith in ⊎_elim (λ e. here i e) (λ l. before i l) (eq-or-lt_of_le q) }
    where
      here : (i : ℕ) → i ≡ count → TokenBegins text (get_or (set names count at) i 0)
      here i e = let s = size in let r = room in rw (e, get_or-set_same names count at 0 (omega arith)) a

      before : (i : ℕ) → i < count → TokenBegins text (get_or (set names count at) i 0)
      before i l = rw (get_or-set_other names count i at 0 (λ e. omega arith)) (b.each i l)

pub note_held : {text from to : List ℕ} {count at r : ℕ} {w : List ℕ} {ns : List (List ℕ)}
    → Noted text from count ns → NotedBy from to count (place_in w ns) at r → TokenBegins text at → name_at text at ≡ w → Noted text to r (noted w ns)
unfolding noted
note_held {text} {from} {to} {count} {at} {r} {w} {ns} h b a is = ⊎_elim old new (less? (place_in w ns) count)
  where
    long : length ns ≡ count
    long = let s = h.size in let f = h.few in ap length h.are ∙ names-length text from count (omega arith)

    same : to ≡ from → r ≡ count → Noted text to r ns
    same e f = rw (e, f) h

    old : place_in w ns < count → Noted text to r (cond (ltb (place_in w ns) (length ns)) ns (cond (leb 12 (length ns)) ns (ns ++ (w ∷ []))))
    old l =
        let t = lt-ltb (place_in w ns) count l in
        rw (long, t) (same (rw t at b.names) (rw t at b.count_after))

    new : count ≤ place_in w ns → Noted text to r (cond (ltb (place_in w ns) (length ns)) ns (cond (leb 12 (length ns)) ns (ns ++ (w ∷ []))))
    new l = ⊎_elim room full (less? count 12)
      where
        t : ltb (place_in w ns) count ≡ false
        t = le-ltb (place_in w ns) count l

        full : 12 ≤ count → Noted text to r (cond (ltb (place_in w ns) (length ns)) ns (cond (leb 12 (length ns)) ns (ns ++ (w ∷ []))))
        full k =
            let u = le-leb 12 count k in
            rw (long, t, u) (same (rw (t, u) at b.names) (rw (t, u) at b.count_after))

        room : count < 12 → Noted text to r (cond (ltb (place_in w ns) (length ns)) ns (cond (leb 12 (length ns)) ns (ns ++ (w ∷ []))))
        room k =
            let u = lt-leb 12 count k in
            let e : to ≡ set from count at = rw (t, u) at b.names in
            let f : r ≡ count + 1 = rw (t, u) at b.count_after in
            rw (long, t, u, e, f) (record {
              size = simp length-set h.size;
              few = omega arith;
              begin = begin-more text from count at h.size k h.begin a;
              are = rw (h.are, ← is) (sym (names_more text from count at h.size k));
            })
