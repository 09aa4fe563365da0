-- Keys among facts in numbers are keys of their log. Assumes nothing.
use mathlib.Core.Path.{◌≡◌, refl, sym, ap, ◌∙◌, subst}
use mathlib.Core.Bool.{Bool, true, false, true≢false}
use mathlib.Core.List.{List, []}
use mathlib.Core.Logic.{◌⊎◌, inl, inr, ⊎_elim}
use Prim.Native.Nat.{ℕ, ◌+◌, ◌*◌, ◌/◌, ◌<◌, ◌≤◌, min}
use native.Mathlib.Omega.{arith}
use lib.IntN.{pos}
use lib.ListN.{length, get_or, take, drop, length-take}
use lib.Seq.{ext_get_or, get_or-take}
use Rattle.sheet_format.specs.Table.{columns_of}
use Rattle.tableau_layout.specs.Layout.{table_at}
use Rattle.tableau_plan.specs.Plan.{plan_table, key_in}
use Rattle.sheet_terms.proofs.Laws.{key-most}
use Rattle.std.specs.Bool.{Decides}
use Rattle.list_laws.proofs.Lists.{part_get, part_length}
use Rattle.list_laws.proofs.Order.{less?}
use Rattle.query_meaning.specs.Meaning.{Fact, Log, In, fact}
use Rattle.query_encoding.specs.Encoding.{FactNumbers, ShapedLog, fact_at}
use Rattle.query_encoding.proofs.Lists.{at_in, in-at}
use Rattle.case_verdicts.specs.Table.{Table, relation, SameKey}
use Rattle.search_keys.specs.Keys.{AlikeIn, AlikeBy, SameKeyAt, KeySettled, KeyClash, KeysHold, KeysBy, SettledTo}

-- ---- columns one after the other

pub same_more : (f g : ℕ → ℕ) (n : ℕ) → ((c : ℕ) → c < n → f c ≡ g c) → f n ≡ g n → (c : ℕ) → c < n + 1 → f c ≡ g c
same_more f g n all e c lt = ⊎_elim (λ l. all c l) (λ l. let q : n ≡ c = omega arith in subst (λ z. f z ≡ g z) q e) (less? c n)

-- ---- pairs of facts

pub alike-back : (ns : List ℕ) (i k n : ℕ) → AlikeIn ns i k n → AlikeIn ns k i n
alike-back ns i k n a c lt = sym (a c lt)

settled_back : (p : List ℕ) (ns : List ℕ) (i k : ℕ) → KeySettled p ns i k → KeySettled p ns k i
settled_back p ns i k s h =
    alike-back ns i k 4 (s record {
      relation = sym h.relation;
      some = subst (λ r. 0 < key_in p r) h.relation h.some;
      first = λ c lt. sym (h.first c (subst (λ r. c < key_in p r) (sym h.relation) lt));
    })

-- by whether their columns are one list
pub alike-parts : (ns : List ℕ) (i k n u v : ℕ) (b : Bool) → u ≡ n → v ≡ n → i * 5 + 1 + n ≤ length ns → k * 5 + 1 + n ≤ length ns
    → Decides b (take u (drop (i * 5 + 1) ns) ≡ take v (drop (k * 5 + 1) ns)) → AlikeBy b ns i k n
alike-parts ns i k n u v true eu ev hi hk d = λ c lt.
    sym (part_get ns (i * 5 + 1) u c 0 (omega arith)) ∙ ap (λ (l : List ℕ). get_or l c 0) (d.0 refl) ∙ part_get ns (k * 5 + 1) v c 0 (omega arith)
alike-parts ns i k n u v false eu ev hi hk d = λ a.
    let lu = part_length ns (i * 5 + 1) u (omega arith) in
    let lv = part_length ns (k * 5 + 1) v (omega arith) in
    true≢false (sym (d.1 (ext_get_or 0 (take u (drop (i * 5 + 1) ns)) (take v (drop (k * 5 + 1) ns)) (omega arith) (λ c lt.
    part_get ns (i * 5 + 1) u c 0 (omega arith) ∙ a c (omega arith) ∙ sym (part_get ns (k * 5 + 1) v c 0 (omega arith))))))

pub settled-more : (p : List ℕ) (ns : List ℕ) (i k : ℕ) → SettledTo p ns i k → KeySettled p ns i k → SettledTo p ns i (k + 1)
settled-more p ns i k all one j lt h = ⊎_elim (λ l. all j lt l) (λ l. let e : k ≡ j = omega arith in subst (KeySettled p ns i) e one) (less? j k)

pub each_more : (p : List ℕ) (ns : List ℕ) (m i : ℕ) → ((j : ℕ) → j < i → SettledTo p ns j m) → SettledTo p ns i m → (j : ℕ) → j < i + 1 → SettledTo p ns j m
each_more p ns m i all one j lt = ⊎_elim (λ l. all j l) (λ l. let e : i ≡ j = omega arith in subst (λ z. SettledTo p ns z m) e one) (less? j i)

-- each with those after it: each with each
pub all_settled : (p : List ℕ) (ns : List ℕ) → ((i k : ℕ) → i < k → k < length ns / 5 → KeySettled p ns i k) → KeysHold p ns
all_settled p ns up = record { each = λ i k li lk. go i k li lk (less? i k) (less? k i) }
  where
    go : (i k : ℕ) → i < length ns / 5 → k < length ns / 5 → (i < k) ⊎ (k ≤ i) → (k < i) ⊎ (i ≤ k) → KeySettled p ns i k
    go i k li lk (inl a) b = up i k a lk
    go i k li lk (inr a) (inl b) = settled_back p ns k i (up k i b li)
    go i k li lk (inr a) (inr b) = let e : i ≡ k = omega arith in λ h c lt. ap (λ n. get_or ns (n * 5 + 1 + c) 0) e

-- by whether two facts clash
pub none-clash : (p : List ℕ) (ns : List ℕ) (b : Bool) (i k : ℕ) → b ≡ false → KeysBy b p ns i k → KeysHold p ns
none-clash p ns true i k e c = absurd (true≢false e)
none-clash p ns false i k e h = h

pub some-clash : (p : List ℕ) (ns : List ℕ) (b : Bool) (i k : ℕ) → b ≡ true → KeysBy b p ns i k → KeyClash p ns i k
some-clash p ns true i k e c = c
some-clash p ns false i k e h = absurd (true≢false (sym e))

-- ---- and their log

module _ (p : List ℕ) {table : Table} (plain : table ≡ plan_table p) {ns : List ℕ} {log : Log} (fn : FactNumbers ns log) (sh : ShapedLog table log) where
  same_length : (f g : Fact) → In f log → In g log → f.rel ≡ g.rel → length f.row ≡ length g.row
  same_length f g m n e = (sh f m).0 ∙ ap (λ r. columns_of table (pos r)) e ∙ sym (sh g n).0

  -- rows of one length that are alike in all numbers
  same_row : (i k : ℕ) → i < length log → k < length log → (fact_at log i).rel ≡ (fact_at log k).rel → AlikeIn ns i k 4 → (fact_at log i).row ≡ (fact_at log k).row
  same_row i k li lk e a =
      let mi = at_in (fact 0 []) log i li in
      let mk = at_in (fact 0 []) log k lk in
      ext_get_or 0 (fact_at log i).row (fact_at log k).row (same_length (fact_at log i) (fact_at log k) mi mk e) (λ c lt.
      let four : c < 4 = let s = (sh (fact_at log i) mi).1 in omega arith in
      sym (fn.values i li c four) ∙ a c four ∙ fn.values k lk c four)

  -- one key in numbers is one key
  same_key : (i k : ℕ) → i < length log → k < length log → SameKeyAt p ns i k → SameKey table (fact_at log i) (fact_at log k)
  same_key i k li lk h =
      let f = fact_at log i in
      let g = fact_at log k in
      let ri = fn.relation i li in
      let rk = fn.relation k lk in
      let rel : f.rel ≡ g.rel = sym ri ∙ h.relation ∙ rk in
      let key : (relation table f.rel).key ≡ key_in p (get_or ns (i * 5) 0) = ap (λ t. (relation t f.rel).key) plain ∙ ap (key_in p) (sym ri) in
      record {
        rel = rel;
        some = subst (λ n. 0 < n) (sym key) h.some;
        first = subst (λ n. take n f.row ≡ take n g.row) (sym key) (taken f g (key_in p (get_or ns (i * 5) 0)) (key-most (drop table_at p) (get_or ns (i * 5) 0))
            (same_length f g (at_in (fact 0 []) log i li) (at_in (fact 0 []) log k lk) rel) (λ c lt.
            let four : c < 4 = let few = key-most (drop table_at p) (get_or ns (i * 5) 0) in omega arith in
            sym (fn.values i li c four) ∙ h.first c lt ∙ fn.values k lk c four));
      }
    where
      taken : (f g : Fact) (n : ℕ) → n ≤ 4 → length f.row ≡ length g.row → ((c : ℕ) → c < n → get_or f.row c 0 ≡ get_or g.row c 0) → take n f.row ≡ take n g.row
      taken f g n few len same =
          ext_get_or 0 (take n f.row) (take n g.row) (length-take n f.row ∙ ap (min n) len ∙ sym (length-take n g.row)) (λ c lt.
          let h : c < n = let l = length-take n f.row in omega arith in
          get_or-take n f.row c 0 h ∙ same c h ∙ sym (get_or-take n g.row c 0 h))

  -- a key is one key in numbers
  key-numbers : (i k : ℕ) → i < length log → k < length log → SameKey table (fact_at log i) (fact_at log k) → SameKeyAt p ns i k
  key-numbers i k li lk h =
      let f = fact_at log i in
      let g = fact_at log k in
      let ri = fn.relation i li in
      let rk = fn.relation k lk in
      let key : (relation table f.rel).key ≡ key_in p (get_or ns (i * 5) 0) = ap (λ t. (relation t f.rel).key) plain ∙ ap (key_in p) (sym ri) in
      record {
        relation = ri ∙ h.rel ∙ sym rk;
        some = subst (λ n. 0 < n) key h.some;
        first = λ c lt.
            let four : c < 4 = let few = key-most (drop table_at p) (get_or ns (i * 5) 0) in omega arith in
            let less : c < (relation table f.rel).key = subst (λ n. c < n) (sym key) lt in
            fn.values i li c four ∙ sym (get_or-take (relation table f.rel).key f.row c 0 less) ∙ ap (λ l. get_or l c 0) h.first
            ∙ get_or-take (relation table f.rel).key g.row c 0 less ∙ sym (fn.values k lk c four);
      }

  -- keys hold among the numbers: they hold in the log
  pub keys-held : KeysHold p ns → (f g : Fact) → In f log → In g log → SameKey table f g → f.row ≡ g.row
  keys-held all f g m n h =
      let count = fn.count in
      let (i, li, e) = in-at (fact 0 []) f log m in
      let (k, lk, q) = in-at (fact 0 []) g log n in
      let at = key-numbers i k li lk (subst (λ u. SameKey table u (fact_at log k)) (sym e) (subst (λ u. SameKey table f u) (sym q) h)) in
      let s = same_row i k li lk (sym (fn.relation i li) ∙ at.relation ∙ fn.relation k lk) (all.each i k (omega arith) (omega arith) at) in
      ap (λ (u : Fact). u.row) (sym e) ∙ s ∙ ap (λ (u : Fact). u.row) q

  -- they hold in the log: two facts alike in a key are alike in all numbers
  pub keys-made-one : ((f g : Fact) → In f log → In g log → SameKey table f g → f.row ≡ g.row) → (i k : ℕ) → i < length ns / 5 → k < length ns / 5 → SameKeyAt p ns i k → AlikeIn ns i k 4
  keys-made-one held i k hi hk h c lt =
      let count = fn.count in
      let li : i < length log = omega arith in
      let lk : k < length log = omega arith in
      let e = held (fact_at log i) (fact_at log k) (at_in (fact 0 []) log i li) (at_in (fact 0 []) log k lk) (same_key i k li lk h) in
      fn.values i li c lt ∙ ap (λ r. get_or r c 0) e ∙ sym (fn.values k lk c lt)
