-- Numbers without a fact, parts of facts, and facts tried, over lists.
use mathlib.Core.Path.{◌≡◌, refl, sym, ap, ◌∙◌, subst}
use mathlib.Core.Bool.{Bool, true, false, cond, not}
use mathlib.Core.List.{List}
use Prim.Native.Nat.{ℕ, zero, suc, ◌+◌, ◌-◌, ◌*◌, ◌/◌, ◌<◌, ◌≤◌, min}
use native.Mathlib.Numerals.{add-one}
use native.Mathlib.Omega.{arith}
use native.Mathlib.Decide.{dec_lt}
use borrow.Author.Count.{below_more}
use borrow.Author.Tests.{lt-ltb, le-ltb}
use lib.Dec.{ltb}
use lib.ListN.{length, get_or, take, drop, length-append, length-drop, get_or-append, get_or-eq_default}
use lib.Seq.{ext_get_or, get_or-take, get_or-drop, get_or-append-add, length-take-le}
use Rattle.tableau_layout.specs.Layout.{plan_numbers, table_at, view_block}
use Rattle.sheet_format.specs.Limits.{most_atoms, most_relations}
use Rattle.list_laws.specs.Kept.{Filled}
use Rattle.query_join.specs.Joins.{AtomMet, Given}
use Rattle.tableau_plan.specs.Plan.{parent_in, row_count, block_numbers, block_size}
use Rattle.tableau_parts.specs.Views.{NoStray, Missing, MissingBy}
use Rattle.sheet_format.specs.Table.{relation}
use Rattle.std.specs.Bool.{MatchBool}
use Rattle.tableau_parts.specs.Walks.{GivenTo, four_of}
use Rattle.case_minimization.specs.Minimization.{IsFact, Parented, IsCase, CaseBy, without, SubFacts, Shrunk}
use Rattle.case_minimization.specs.Parts.{Like, SomeLike, FindsBy, OwedBy, TriedFact}

-- ---- cases

pub left_not : (p ns : List ℕ) → (GivenTo p ns (row_count p) → ⊥) → IsCase p ns → ⊥
left_not p ns f c = f (record { all = c.0.0 })

pub left_by : (b : Bool) (p ns u : List ℕ) → GivenTo p ns (row_count p) → NoStray p ns → Parented p ns → MissingBy b p ns u → CaseBy b p ns
left_by true p ns u g s o m = ((g.all, s), (u, m.missing), o)
left_by false p ns u g s o m = λ c. m c.1.0 c.1.1

pub left-seen : (p ns u : List ℕ) → GivenTo p ns (row_count p) → NoStray p ns → Parented p ns → Missing p ns u → IsCase p ns
left-seen p ns u g s o m = ((g.all, s), (u, m), o)

-- ---- the numbers without a fact

pub length_without : (ns : List ℕ) (n i : ℕ) → length ns ≡ n * 5 → i < n → length (without ns i) ≡ (n - 1) * 5
length_without ns n i l lt =
    let h = length-take-le (i * 5) ns (omega arith) in
    length-append (take (i * 5) ns) (drop (i * 5 + 5) ns) ∙ (let d = length-drop (i * 5 + 5) ns in omega arith)

pub without-below : (ns : List ℕ) (n i y : ℕ) → length ns ≡ n * 5 → i < n → y < i * 5 → get_or (without ns i) y 0 ≡ get_or ns y 0
without-below ns n i y l lt h =
    let t = length-take-le (i * 5) ns (omega arith) in
    get_or-append (take (i * 5) ns) (drop (i * 5 + 5) ns) 0 y (omega arith) ∙ get_or-take (i * 5) ns y 0 h

pub without-above : (ns : List ℕ) (n i y : ℕ) → length ns ≡ n * 5 → i < n → i * 5 ≤ y → get_or (without ns i) y 0 ≡ get_or ns (y + 5) 0
without-above ns n i y l lt h =
    let t = length-take-le (i * 5) ns (omega arith) in
    let a : y ≡ length (take (i * 5) ns) + (y - i * 5) = omega arith in
    let b : i * 5 + 5 + (y - i * 5) ≡ y + 5 = omega arith in
    ap (λ k. get_or (without ns i) k 0) a ∙ get_or-append-add (take (i * 5) ns) (drop (i * 5 + 5) ns) (y - i * 5) 0 ∙ get_or-drop (i * 5 + 5) ns (y - i * 5) 0 ∙ ap (λ k. get_or ns k 0) b

-- ---- parts

pub part-all : (ns : List ℕ) (n : ℕ) → SubFacts ns n ns n
part-all ns n = record { from = λ i. i; inside = λ i h. h; rising = λ i j h k. h; same = λ i h c k. refl }

pub part-part : (a b c : List ℕ) (n m k : ℕ) → SubFacts a n b m → SubFacts b m c k → SubFacts a n c k
part-part a b c n m k x y = record {
  from = λ i. x.from (y.from i);
  inside = λ i h. x.inside (y.from i) (y.inside i h);
  rising = λ i j h l. x.rising (y.from i) (y.from j) (y.rising i j h l) (y.inside j l);
  same = λ i h q l. y.same i h q l ∙ x.same (y.from i) (y.inside i h) q l;
}

-- the facts but fact i, by their places
skip : ℕ → ℕ → ℕ
skip i j = cond (ltb j i) j (suc j)

skip_below : (i j : ℕ) → j < i → skip i j ≡ j
unfolding skip
skip_below i j h = rw (lt-ltb j i h)

skip-above : (i j : ℕ) → i ≤ j → skip i j ≡ suc j
unfolding skip
skip-above i j h = rw (le-ltb j i h)

pub part_without : (ns : List ℕ) (n i : ℕ) → length ns ≡ n * 5 → i < n → SubFacts ns n (without ns i) (n - 1)
part_without ns n i l lt = record { from = skip i; inside = inside; rising = rising; same = same }
  where
    inside : (j : ℕ) → j < n - 1 → skip i j < n
    inside j h = go (dec_lt j i)
      where
        go : Dec (j < i) → skip i j < n
        go (yes b) = let e = skip_below i j b in omega arith
        go (no b) = let e = skip-above i j (omega arith) in omega arith

    rising : (j k : ℕ) → j < k → k < n - 1 → skip i j < skip i k
    rising j k h g = go (dec_lt j i) (dec_lt k i)
      where
        go : Dec (j < i) → Dec (k < i) → skip i j < skip i k
        go (yes b) (yes d) = let e = skip_below i j b in let f = skip_below i k d in omega arith
        go (yes b) (no d) = let e = skip_below i j b in let f = skip-above i k (omega arith) in omega arith
        go (no b) (yes d) = absurd (omega arith)
        go (no b) (no d) = let e = skip-above i j (omega arith) in let f = skip-above i k (omega arith) in omega arith

    same : (j : ℕ) → j < n - 1 → (c : ℕ) → c < 5 → get_or (without ns i) (j * 5 + c) 0 ≡ get_or ns (skip i j * 5 + c) 0
    same j h c g = go (dec_lt j i)
      where
        go : Dec (j < i) → get_or (without ns i) (j * 5 + c) 0 ≡ get_or ns (skip i j * 5 + c) 0
        go (yes b) =
            let e : j * 5 + c ≡ skip i j * 5 + c = let s = skip_below i j b in omega arith in
            without-below ns n i (j * 5 + c) l lt (omega arith) ∙ ap (λ y. get_or ns y 0) e
        go (no b) =
            let e : j * 5 + c + 5 ≡ skip i j * 5 + c = let s = skip-above i j (omega arith) in omega arith in
            without-above ns n i (j * 5 + c) l lt (omega arith) ∙ ap (λ y. get_or ns y 0) e

-- what a part of the facts gives, the facts give too
pub given-part : (blk : List ℕ) (k : ℕ) (ns : List ℕ) (n : ℕ) (ms : List ℕ) (m : ℕ) (w : List ℕ) → length ns ≡ n * 5 → length ms ≡ m * 5 → SubFacts ns n ms m → Given blk k ms w → Given blk k ns w
given-part blk k ns n ms m w l l' q g = record { val = g.val; met = λ j lt. move j (g.met j lt); gives = g.gives }
  where
    move : (j : ℕ) → AtomMet blk ms g.val j → AtomMet blk ns g.val j
    move j (i, h, b) =
        let lt : i < m = omega arith in
        let lt' = q.inside i lt in (
          q.from i,
          omega arith,
          record {
            relation = sym (at i lt 0 (omega arith) (i * 5) (q.from i * 5) (omega arith) (omega arith)) ∙ b.relation;
            columns = λ c h'. sym (at i lt (1 + c) (omega arith) (i * 5 + 1 + c) (q.from i * 5 + 1 + c) (omega arith) (omega arith)) ∙ b.columns c h';
          },
        )
      where
        at : (i : ℕ) → i < m → (c : ℕ) → c < 5 → (x y : ℕ) → i * 5 + c ≡ x → q.from i * 5 + c ≡ y → get_or ms x 0 ≡ get_or ns y 0
        at i lt c h x y e f = ap (λ z. get_or ms z 0) (sym e) ∙ q.same i lt c h ∙ ap (λ z. get_or ns z 0) f

-- facts that give no stray row give none without fact i
pub no-stray-without : (p ns : List ℕ) (n i : ℕ) → length ns ≡ n * 5 → i < n → NoStray p ns → NoStray p (without ns i)
no-stray-without p ns n i l lt s v h u g =
    s v h u
    (given-part (block_numbers p (view_block v)) (min (block_size p (view_block v)) most_atoms) ns n (without ns i) (n - 1) u l (length_without ns n i l lt) (part_without ns n i l lt) g)

-- ---- rows that are owed

-- four numbers by their places
pub four_same : (ns ms : List ℕ) (i j : ℕ) → ((c : ℕ) → c < 4 → get_or ns (i + c) 0 ≡ get_or ms (j + c) 0) → four_of ns i ≡ four_of ms j
four_same ns ms i j h =
    let z : i ≡ i + 0 = omega arith in
    let w : j + 0 ≡ j = omega arith in
    let a : get_or ns i 0 ≡ get_or ms j 0 = ap (λ n. get_or ns n 0) z ∙ h 0 (omega arith) ∙ ap (λ n. get_or ms n 0) w in
    let b = h 1 (omega arith) in
    let c = h 2 (omega arith) in
    let d = h 3 (omega arith) in
    cc

pub four-at : (ns : List ℕ) (i c : ℕ) → c < 4 → get_or (four_of ns i) c 0 ≡ get_or ns (i + c) 0
four-at ns i zero h = ap (λ n. get_or ns n 0) (let z : i ≡ i + 0 = omega arith in z)
four-at ns i (suc zero) h = refl
four-at ns i (suc (suc zero)) h = refl
four-at ns i (suc (suc (suc zero))) h = refl
four-at ns i (suc (suc (suc (suc c)))) h = absurd (omega arith)

pub finds-by : (p : List ℕ) (b owing : Bool) (ns : List ℕ) (relation : ℕ) (row : List ℕ)
    → MatchBool b ((k : ℕ) × (k < length ns / 5) × Like p owing ns k relation row) ((k : ℕ) → k < length ns / 5 → Like p owing ns k relation row → ⊥) → FindsBy p b owing ns relation row
finds-by p true owing ns relation row h = h
finds-by p false owing ns relation row f = λ s. f s.0 s.1 s.2

pub owed-by : (p : List ℕ) (b : Bool) (ns : List ℕ) (i : ℕ) (rest : List ℕ) → 0 < get_or ns (i * 5) 0 → SomeLike p true rest (get_or ns (i * 5) 0) (four_of ns (i * 5 + 1)) → FindsBy p b false rest (get_or ns (i * 5) 0) (four_of ns (i * 5 + 1)) → OwedBy p (not b) ns i rest
owed-by p true ns i rest lt s f = λ _ _. f
owed-by p false ns i rest lt s f = (lt, s, f)

-- a relation that is no parent of those that a table can have is owed nothing
pub no-parent : (p : List ℕ) (k relation : ℕ) → length p ≡ plan_numbers → most_relations ≤ k → ((j : ℕ) → j < k → parent_in p (j + 1) ≡ relation → ⊥) → (n : ℕ) → parent_in p n ≡ relation → relation ≡ 0
unfolding relation
no-parent p k r long all none zero e = sym e
no-parent p k r long all none (suc n) e = go (dec_lt n most_relations)
  where
    go : Dec (n < most_relations) → r ≡ 0
    go (yes b) = absurd (none n (omega arith) (ap (parent_in p) (add-one n) ∙ e))
    go (no b) = sym e ∙ get_or-eq_default (drop table_at p) 0 (let d = length-drop table_at p in omega arith)

-- a fact that is owed must stay
pub owed-stays : (p : List ℕ) (ns : List ℕ) (i : ℕ) (rest : List ℕ) → OwedBy p true ns i rest → Parented p rest → ⊥
owed-stays p ns i rest (some, (j, lj, (e, f)), none) parented =
    let (k, lk, q) = parented j lj (subst (λ r. 0 < r) (sym e) some) in
    none (k, lk, (q.0 ∙ e, q.1 ∙ f))

-- a fact of a part has the numbers that it has in the whole
module _ {ns : List ℕ} {n : ℕ} {ms : List ℕ} {m : ℕ} (q : SubFacts ns n ms m) where
  part_at : (j c x y : ℕ) → j < m → c < 5 → j * 5 + c ≡ x → q.from j * 5 + c ≡ y → get_or ms x 0 ≡ get_or ns y 0
  part_at j c x y lt h e f = ap (λ z. get_or ms z 0) (sym e) ∙ q.same j lt c h ∙ ap (λ z. get_or ns z 0) f

  part-relation : (j : ℕ) → j < m → get_or ms (j * 5) 0 ≡ get_or ns (q.from j * 5) 0
  part-relation j lt = part_at j 0 _ _ lt (omega arith) (omega arith) (omega arith)

  part-values : (j : ℕ) → j < m → four_of ms (j * 5 + 1) ≡ four_of ns (q.from j * 5 + 1)
  part-values j lt = four_same ms ns (j * 5 + 1) (q.from j * 5 + 1) (λ c h. part_at j (1 + c) _ _ lt (omega arith) (omega arith) (omega arith))

module _ (p : List ℕ) (ns : List ℕ) (n i : ℕ) (l : length ns ≡ n * 5) (lt : i < n) where
  abbrev others : List ℕ
  others = without ns i

  -- where fact k is not fact i, it is one of the others
  still-there : (k : ℕ) → k < n → (k ≡ i → ⊥) → (m : ℕ) × (m < n - 1) × IsFact others m (get_or ns (k * 5) 0) (four_of ns (k * 5 + 1))
  unfolding part_without
  still-there k lk ne = go (dec_lt k i) (dec_lt i k)
    where
      at : (m : ℕ) → m < n - 1 → skip i m ≡ k → (m : ℕ) × (m < n - 1) × IsFact others m (get_or ns (k * 5) 0) (four_of ns (k * 5 + 1))
      at m lm e =
          let part = part_without ns n i l lt in
          (m, lm, (part-relation part m lm ∙ ap (λ z. get_or ns (z * 5) 0) e, part-values part m lm ∙ ap (λ z. four_of ns (z * 5 + 1)) e))

      go : Dec (k < i) → Dec (i < k) → (m : ℕ) × (m < n - 1) × IsFact others m (get_or ns (k * 5) 0) (four_of ns (k * 5 + 1))
      go (yes b) d = at k (omega arith) (skip_below i k b)
      go (no b) (yes d) = let e = skip-above i (k - 1) (omega arith) in at (k - 1) (omega arith) (omega arith)
      go (no b) (no d) = absurd (ne (omega arith))

  -- one that is not owed can go
  pub unowed-goes : Parented p ns → OwedBy p false ns i others → Parented p others
  unowed-goes parented owed j lj some =
      let few = length_without ns n i l lt in
      let part = part_without ns n i l lt in
      let h : j < n - 1 = omega arith in
      let r = part-relation part j h in
      let v = part-values part j h in
      let inside = part.inside j h in
      let (k, lk, q) = parented (part.from j) (omega arith) (subst (λ z. 0 < parent_in p z) r some) in
      go (q.0 ∙ ap (parent_in p) (sym r)) (q.1 ∙ sym v) (omega arith) (dec_lt k i) (dec_lt i k)
    where
      Found : Type 0
      Found = (k : ℕ) × (k < length others / 5) × IsFact others k (parent_in p (get_or others (j * 5) 0)) (four_of others (j * 5 + 1))

      other : {k : ℕ} → get_or ns (k * 5) 0 ≡ parent_in p (get_or others (j * 5) 0) → four_of ns (k * 5 + 1) ≡ four_of others (j * 5 + 1) → k < n → (k ≡ i → ⊥) → Found
      other {k} e f lk ne =
          let (m, lm, q) = still-there k lk ne in
          let few = length_without ns n i l lt in
          (m, omega arith, (q.0 ∙ e, q.1 ∙ f))

      own : get_or ns (i * 5) 0 ≡ parent_in p (get_or others (j * 5) 0) → four_of ns (i * 5 + 1) ≡ four_of others (j * 5 + 1) → Found
      own e f =
          let (m, lm, q) = owed (subst (λ z. 0 < z) (sym e) some) (j, lj, (sym e, sym f)) in
          (m, lm, (q.0 ∙ e, q.1 ∙ f))

      go : {k : ℕ} → get_or ns (k * 5) 0 ≡ parent_in p (get_or others (j * 5) 0) → four_of ns (k * 5 + 1) ≡ four_of others (j * 5 + 1) → k < n → Dec (k < i) → Dec (i < k) → Found
      go {k} e f lk (yes b) d = other e f lk (λ z. omega arith)
      go {k} e f lk (no b) (yes d) = other e f lk (λ z. omega arith)
      go {k} e f lk (no b) (no d) =
          let z : k ≡ i = omega arith in
          own (ap (λ y. get_or ns (y * 5) 0) (sym z) ∙ e) (ap (λ y. four_of ns (y * 5 + 1)) (sym z) ∙ f)

-- whether a case is left without fact i, asked of the same facts in another place
pub left-without : (b : Bool) (p ms ks : List ℕ) (m i : ℕ) → length ms ≡ m * 5 → i < m → ks ≡ without ms i → NoStray p ms → (NoStray p ks → CaseBy b p ks) → CaseBy b p (without ms i)
left-without b p ms ks m i l lt e s f = subst (λ (l : List ℕ). NoStray p l → CaseBy b p l) e f (no-stray-without p ms m i l lt s)

-- ---- numbers copied, and moved down

-- the numbers from fact i to before place y have been moved down by five
pub moved_all : (xs ys : List ℕ) (n i y : ℕ) → i < n → n * 5 ≤ length xs → (n - 1) * 5 ≤ y → Filled 0 xs ys (i * 5) y (λ z. get_or xs (z + 5) 0) → take ((n - 1) * 5) ys ≡ without (take (n * 5) xs) i
moved_all xs ys n i y lt h k m =
    let t = length-take-le (n * 5) xs h in
    let b = length-take-le ((n - 1) * 5) ys (let s = m.kept.same in omega arith) in
    ext_get_or 0 (take ((n - 1) * 5) ys) (without (take (n * 5) xs) i) (b ∙ sym (length_without (take (n * 5) xs) n i t lt))
    (λ z g. go t z (omega arith) (dec_lt z (i * 5)))
  where
    go : length (take (n * 5) xs) ≡ n * 5 → (z : ℕ) → z < (n - 1) * 5 → Dec (z < i * 5) → get_or (take ((n - 1) * 5) ys) z 0 ≡ get_or (without (take (n * 5) xs) i) z 0
    go t z g (yes q) = get_or-take ((n - 1) * 5) ys z 0 g ∙ m.kept.below z q ∙ sym (without-below (take (n * 5) xs) n i z t lt q ∙ get_or-take (n * 5) xs z 0 (omega arith))
    go t z g (no q) = get_or-take ((n - 1) * 5) ys z 0 g ∙ m.each z (omega arith) (omega arith) ∙ sym (without-above (take (n * 5) xs) n i z t lt (omega arith) ∙ get_or-take (n * 5) xs (z + 5) 0 (omega arith))

-- ---- a fact put back

-- where ys lacks fact i, it lacks the next one with fact i put back
pub patched_all : (xs ys zs : List ℕ) (n i y : ℕ) → i + 1 < n → n * 5 ≤ length xs → n * 5 ≤ length ys → y ≡ i * 5 + 5 → Filled 0 ys zs (i * 5) y (λ z. get_or xs z 0)
    → take ((n - 1) * 5) ys ≡ without (take (n * 5) xs) i → take ((n - 1) * 5) zs ≡ without (take (n * 5) xs) (i + 1)
patched_all xs ys zs n i y lt lx ly at m e =
    let t = length-take-le (n * 5) xs lx in
    let b = length-take-le ((n - 1) * 5) zs (let s = m.kept.same in omega arith) in
    ext_get_or 0 (take ((n - 1) * 5) zs) (without (take (n * 5) xs) (i + 1)) (b ∙ sym (length_without (take (n * 5) xs) n (i + 1) t lt))
    (λ z g. get_or-take ((n - 1) * 5) zs z 0 (omega arith) ∙ go t z (omega arith) (dec_lt z (i * 5)) (dec_lt z y))
  where
    old : (z : ℕ) → z < (n - 1) * 5 → get_or ys z 0 ≡ get_or (without (take (n * 5) xs) i) z 0
    old z g = sym (get_or-take ((n - 1) * 5) ys z 0 g) ∙ ap (λ l. get_or l z 0) e

    go : length (take (n * 5) xs) ≡ n * 5 → (z : ℕ) → z < (n - 1) * 5 → Dec (z < i * 5) → Dec (z < y) → get_or zs z 0 ≡ get_or (without (take (n * 5) xs) (i + 1)) z 0
    go t z g (yes q) w = m.kept.below z q ∙ old z g ∙ without-below (take (n * 5) xs) n i z t (omega arith) q ∙ sym (without-below (take (n * 5) xs) n (i + 1) z t lt (omega arith))
    go t z g (no q) (yes w) = m.each z (omega arith) w ∙ sym (without-below (take (n * 5) xs) n (i + 1) z t lt (omega arith) ∙ get_or-take (n * 5) xs z 0 (omega arith))
    go t z g (no q) (no w) = m.kept.above z (omega arith) ∙ old z g ∙ without-above (take (n * 5) xs) n i z t (omega arith) (omega arith) ∙ sym (without-above (take (n * 5) xs) n (i + 1) z t lt (omega arith))

-- ---- facts tried

pub tried-none : (p ns : List ℕ) (n before : ℕ) → IsCase p ns → TriedFact p ns n ns n before 0
tried-none p ns n before c = record { part = part-all ns n; still = c; needed = λ e j h. absurd (omega arith) }

pub tried-kept : (p ns : List ℕ) (n : ℕ) (ms : List ℕ) (m before i : ℕ) → (IsCase p (without ms i) → ⊥) → TriedFact p ns n ms m before i → TriedFact p ns n ms m before (i + 1)
tried-kept p ns n ms m before i f t = record { part = t.part; still = t.still; needed = λ e. below_more (λ j. IsCase p (without ms j) → ⊥) i (t.needed e) f }

-- fact i has been dropped
pub tried_dropped : (p ns : List ℕ) (n : ℕ) (ms : List ℕ) (m i : ℕ) → length ms ≡ m * 5 → i < m → m ≤ n → IsCase p (without ms i) → TriedFact p ns n ms m n i → TriedFact p ns n (without ms i) (m - 1) n i
tried_dropped p ns n ms m i l lt few c t = record {
  part = part-part ns ms (without ms i) n m (m - 1) t.part (part_without ms m i l lt);
  still = c;
  needed = λ e j h. absurd (omega arith);
}

-- no pass yet
pub tried-start : (p ns : List ℕ) (n before : ℕ) → n < before → IsCase p ns → TriedFact p ns n ns n before n
tried-start p ns n before lt c = record { part = part-all ns n; still = c; needed = λ e. absurd (omega arith) }

-- one more pass
pub tried_again : (p ns : List ℕ) (n : ℕ) (ms : List ℕ) (m before i : ℕ) (ks : List ℕ) (k : ℕ) → TriedFact p ns n ms m before i → TriedFact p ms m ks k m k → TriedFact p ns n ks k m k
tried_again p ns n ms m before i ks k t u = record { part = part-part ns ms ks n m k t.part u.part; still = u.still; needed = u.needed }

pub shrunk : (p ns : List ℕ) (n : ℕ) (ms : List ℕ) (m before : ℕ) → length ms ≡ m * 5 → m ≡ before → TriedFact p ns n ms m before m → Shrunk p ns n ms m
shrunk p ns n ms m before l e t = record { count = l; part = t.part; still = t.still; spare_free = t.needed e }
