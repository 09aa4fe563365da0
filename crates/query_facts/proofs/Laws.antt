-- Facts by their words: why they are sent back, and the log of accepted ones. Assumes nothing.
use mathlib.Core.Path.{◌≡◌, refl, sym, ap, ◌∙◌, subst}
use mathlib.Core.Bool.{Bool, true, false, cond, not, ◌&&◌, ◌||◌}
use mathlib.Core.List.{List, [], ◌∷◌, map}
use mathlib.Core.Logic.{inl, inr}
use Prim.Native.Nat.{ℕ, zero, suc, ◌<◌, ◌≤◌, ◌+◌, ◌-◌, ◌*◌, ◌/◌, ◌%◌}
use native.Mathlib.Nat.{add-zero}
use native.Mathlib.Numerals.{add-one}
use native.Mathlib.Omega.{arith}
use lib.Dec.{eqb, ltb}
use lib.IntN.{ℤ, pos, negsuc}
use lib.ListN.{length, get_or, take, drop, length-take, length-drop, length-map, drop_of_length-le, get_or-eq_default, get_or-map}
use lib.Seq.{slice, drop-drop, take-take, take_all, get_or-take, get_or-drop, length-slice}
use borrow.Author.Tests.{eqb-true, eq-eqb, ne_eqb, ltb-true, ltb-false, lt-ltb, le-ltb, not-false}
use Rattle.list_laws.proofs.Lists.{slice-next, drop-next}
use Rattle.sheet_format.proofs.Lists.{no_way, and_left, and_right, neither, all-at}
use Rattle.sheet_format.specs.Cause.{above, refusal, none}
use Rattle.sheet_format.specs.Line.{all, is_zero, natural, null}
use Rattle.sheet_format.specs.Table.{Table, relation, columns_of}
use Rattle.query_meaning.specs.Meaning.{Fact, Log, In}
use Rattle.query_meaning.specs.Facts.{fact_by_fact, fact_in, facts_in, facts_refusal, fives, is_value, log_of, fact_relation, unused, used, value_end, wrong_fact}
use Rattle.query_encoding.specs.Encoding.{FactNumbers, ShapedLog, fact_at}
use Rattle.sheet_format.proofs.TableLaws.{Narrow}
use Rattle.query_facts.specs.Parts.{fact_before, in_range, most_fact_words}
use Rattle.query_facts.proofs.Words.{not-either, zero_word, value-range, zero-range, part_slice, all_same}

-- ---- a relation's columns

columns-natural : (table : Table) (z : ℤ) → columns_of table z ≡ columns_of table (pos (natural z))
unfolding columns_of relation
columns-natural table (pos n) = refl
columns-natural table (negsuc n) = refl

-- ---- the facts of a list of words

fives-length : (k : ℕ) (ws : List ℤ) → length (fives k ws) ≡ k
unfolding fives
fives-length zero ws = refl
fives-length (suc k) ws = ap suc (fives-length k (drop 5 ws))

fives_get : (k : ℕ) (ws : List ℤ) (i : ℕ) → i < k → get_or (fives k ws) i [] ≡ take 5 (drop (5 * i) ws)
unfolding fives
fives_get zero ws i h = absurd (omega arith)
fives_get (suc k) ws zero h = refl
fives_get (suc k) ws (suc i) h =
    fives_get k (drop 5 ws) i (omega arith)
    ∙ ap (take 5) (drop-drop (5 * i) 5 ws)
    ∙ ap (λ n. take 5 (drop n ws)) (let e : 5 + 5 * i ≡ 5 * suc i = omega arith in e)

pub facts-length : (ws : List ℤ) → length (facts_in ws) ≡ length ws / 5
facts-length ws = fives-length (length ws / 5) ws

pub fact_words : (ws : List ℤ) (i : ℕ) → i < length ws / 5 → get_or (facts_in ws) i [] ≡ slice (5 * i) (5 * i + 5) ws
fact_words ws i h = fives_get (length ws / 5) ws i h ∙ part_slice (5 * i) 5 ws

pub next-words : (ws : List ℤ) (i : ℕ) → i + 1 < length ws / 5 → get_or (facts_in ws) (i + 1) [] ≡ slice (5 * i + 5) (5 * i + 5 + 5) ws
next-words ws i h =
    let e : 5 * (i + 1) ≡ 5 * i + 5 = omega arith in
    fact_words ws (i + 1) h ∙ ap (λ n. slice n (n + 5) ws) e

-- ---- a fact by its words

module _ (ws : List ℤ) (at : ℕ) where
  rest-words : (n : ℕ) → drop n (slice at (at + 5) ws) ≡ slice (at + n) (at + 5) ws
  rest-words n = drop-drop n at (take (at + 5) ws)

  word_at : (n : ℕ) → n < 5 → get_or (slice at (at + 5) ws) n (pos 0) ≡ get_or ws (at + n) (pos 0)
  word_at n h = get_or-drop at (take (at + 5) ws) n (pos 0) ∙ get_or-take (at + 5) ws (at + n) (pos 0) (omega arith)

  used-words : (c : ℕ) → c ≤ 4 → take c (drop 1 (slice at (at + 5) ws)) ≡ slice (at + 1) (at + 1 + c) ws
  used-words c h =
      ap (take c) (rest-words 1)
      ∙ part_slice (at + 1) c (take (at + 5) ws)
      ∙ ap (drop (at + 1)) (take-take (at + 1 + c) (at + 5) ws (omega arith))

  unused-words : (c : ℕ) → drop c (drop 1 (slice at (at + 5) ws)) ≡ slice (at + 1 + c) (at + 5) ws
  unused-words c = ap (drop c) (rest-words 1) ∙ drop-drop c (at + 1) (take (at + 5) ws)

module _ (ws : List ℤ) (i : ℕ) (h : i < length ws / 5) where
  pub relation-word : fact_relation (get_or (facts_in ws) i []) ≡ get_or ws (5 * i) (pos 0)
  relation-word = ap fact_relation (fact_words ws i h) ∙ word_at ws (5 * i) 0 (omega arith) ∙ ap (λ n. get_or ws n (pos 0)) (add-zero (5 * i))

  values-told : (c : ℕ) → c ≤ 4 → all (in_range (pos value_end)) (slice (5 * i + 1) (5 * i + 1 + c) ws) ≡ all is_value (take c (drop 1 (get_or (facts_in ws) i [])))
  values-told c m =
      all_same (in_range (pos value_end)) is_value value-range (slice (5 * i + 1) (5 * i + 1 + c) ws)
      ∙ ap (all is_value) (sym (ap (λ f. take c (drop 1 f)) (fact_words ws i h) ∙ used-words ws (5 * i) c m))

  zeros-told : (c : ℕ) → all (in_range (pos 1)) (slice (5 * i + 1 + c) (5 * i + 5) ws) ≡ all is_zero (drop c (drop 1 (get_or (facts_in ws) i [])))
  zeros-told c =
      all_same (in_range (pos 1)) is_zero zero-range (slice (5 * i + 1 + c) (5 * i + 5) ws)
      ∙ ap (all is_zero) (sym (ap (λ f. drop c (drop 1 f)) (fact_words ws i h) ∙ unused-words ws (5 * i) c))

  -- the test by the columns, the values and the unused words
  pub wrong_told : (table : Table) → Narrow table → (c : ℕ) (u v : Bool) → c ≡ columns_of table (get_or ws (5 * i) (pos 0))
      → u ≡ all (in_range (pos value_end)) (slice (5 * i + 1) (5 * i + 1 + c) ws)
      → v ≡ all (in_range (pos 1)) (slice (5 * i + 1 + c) (5 * i + 5) ws)
      → eqb c 0 || (not u || not v) ≡ wrong_fact table (get_or (facts_in ws) i [])
  wrong_told table narrow c u v p q r =
      let m : c ≤ 4 = rw p (narrow (get_or ws (5 * i) (pos 0))) in
      let e : c ≡ columns_of table (fact_relation (get_or (facts_in ws) i [])) = p ∙ ap (columns_of table) (sym relation-word) in
      rw (q ∙ values-told c m, r ∙ zeros-told c, e)

-- ---- the order of facts

pub fact-some : (ws : List ℤ) (i : ℕ) → i < length ws / 5 → null (get_or (facts_in ws) i []) ≡ false
fact-some ws i h = ap null (fact_words ws i h ∙ slice-next (5 * i) (5 * i + 5) ws (pos 0) (omega arith) (omega arith))

pub order-first : (fs : List (List ℤ)) (i : ℕ) → i ≡ 0 → true ≡ (null (fact_before fs i) || above (fact_before fs i) (get_or fs i []))
order-first fs i e = rw e

pub order-next : (ws : List ℤ) (i : ℕ) (r : Bool) → (i ≡ 0 → ⊥) → i < length ws / 5
    → r ≡ above (get_or (facts_in ws) (i - 1) []) (get_or (facts_in ws) (i - 1 + 1) [])
    → r ≡ (null (fact_before (facts_in ws) i) || above (fact_before (facts_in ws) i) (get_or (facts_in ws) i []))
order-next ws zero r n h e = absurd (n refl)
order-next ws (suc i) r n h e =
    let p : suc i - 1 ≡ i = omega arith in
    rw (fact-some ws i (omega arith)) (rw (p, add-one i) at e)

-- ---- fact by fact

module _ (table : Table) (fs : List (List ℤ)) (i : ℕ) (h : i < length fs) where
  pub fact_wrong : wrong_fact table (get_or fs i []) ≡ true → refusal 11 0 ≡ fact_by_fact table (fact_before fs i) (drop i fs)
  unfolding fact_by_fact
  fact_wrong e = rw (drop-next fs i [] h, e)

  pub fact-low : wrong_fact table (get_or fs i []) ≡ false → null (fact_before fs i) || above (fact_before fs i) (get_or fs i []) ≡ false
      → refusal 12 0 ≡ fact_by_fact table (fact_before fs i) (drop i fs)
  unfolding fact_by_fact
  fact-low e g = rw (drop-next fs i [] h, e, not-either (null (fact_before fs i)) (above (fact_before fs i) (get_or fs i [])), g)

  pub fact-goes : wrong_fact table (get_or fs i []) ≡ false → null (fact_before fs i) || above (fact_before fs i) (get_or fs i []) ≡ true
      → fact_by_fact table (fact_before fs (i + 1)) (drop (i + 1) fs) ≡ fact_by_fact table (fact_before fs i) (drop i fs)
  unfolding fact_by_fact
  fact-goes e g =
      rw (drop-next fs i [] h, e, not-either (null (fact_before fs i)) (above (fact_before fs i) (get_or fs i [])), g)
      (ap (λ n. fact_by_fact table (fact_before fs n) (drop (i + 1) fs)) (add-one i))

pub facts-end : (table : Table) (fs : List (List ℤ)) (i : ℕ) → length fs ≤ i → none ≡ fact_by_fact table (fact_before fs i) (drop i fs)
unfolding fact_by_fact
facts-end table fs i h = rw (drop_of_length-le fs h)

-- ---- the word count, and then fact by fact

module _ (table : Table) (ws : List ℤ) where
  pub count_wrong : (length ws % 5 ≡ 0 → ⊥) → refusal 11 0 ≡ facts_refusal table ws
  unfolding facts_refusal
  count_wrong n = rw (ne_eqb (length ws % 5) 0 n)

  pub count-over : length ws % 5 ≡ 0 → most_fact_words < length ws → refusal 12 0 ≡ facts_refusal table ws
  unfolding facts_refusal
  count-over e h = rw (eq-eqb (length ws % 5) 0 e, lt-ltb most_fact_words (length ws) h)

  pub count-right : length ws % 5 ≡ 0 → length ws ≤ most_fact_words → fact_by_fact table [] (facts_in ws) ≡ facts_refusal table ws
  unfolding facts_refusal
  count-right e h = rw (eq-eqb (length ws % 5) 0 e, le-ltb most_fact_words (length ws) h)

-- ---- accepted facts

pub never : {A : Type 0} {n : ℕ} → suc n ≡ 0 → A
never e = absurd (omega arith)

-- none of them is wrong
pub by-fact-right : (table : Table) (b : List ℤ) (fs : List (List ℤ)) (i : ℕ) → (fact_by_fact table b fs).number ≡ 0 → i < length fs → wrong_fact table (get_or fs i []) ≡ false
unfolding fact_by_fact
by-fact-right table b [] i e h = absurd (omega arith)
by-fact-right table b (f ∷ fs) i e h = go (by-fact-right table f fs) (wrong_fact table f) refl (not (null b) && not (above b f)) i e h
  where
    go : ((i : ℕ) → (fact_by_fact table f fs).number ≡ 0 → i < length fs → wrong_fact table (get_or fs i []) ≡ false)
        → (s : Bool) → wrong_fact table f ≡ s → (t : Bool) (i : ℕ) → (cond s (refusal 11 0) (cond t (refusal 12 0) (fact_by_fact table f fs))).number ≡ 0
        → i < length (f ∷ fs) → wrong_fact table (get_or (f ∷ fs) i []) ≡ false
    go ih true g t i e h = never e
    go ih false g true i e h = never e
    go ih false g false zero e h = g
    go ih false g false (suc i) e h = ih i e (omega arith)

pub accepted : (table : Table) (ws : List ℤ) → (facts_refusal table ws).number ≡ 0 → (length ws % 5 ≡ 0) × ((fact_by_fact table [] (facts_in ws)).number ≡ 0)
unfolding facts_refusal
accepted table ws e = go (eqb (length ws % 5) 0) refl (ltb most_fact_words (length ws)) e
  where
    go : (s : Bool) → eqb (length ws % 5) 0 ≡ s → (t : Bool) → (cond (not s) (refusal 11 0) (cond t (refusal 12 0) (fact_by_fact table [] (facts_in ws)))).number ≡ 0
        → (length ws % 5 ≡ 0) × ((fact_by_fact table [] (facts_in ws)).number ≡ 0)
    go true g true e = never e
    go true g false e = (eqb-true (length ws % 5) 0 g, e)
    go false g t e = never e

-- ---- the log

pub log_of-length : (table : Table) (ws : List ℤ) → length (log_of table ws) ≡ length ws / 5
unfolding log_of
log_of-length table ws = length-map (facts_in ws) (fact_in table) ∙ facts-length ws

pub log-at : (table : Table) (ws : List ℤ) (i : ℕ) → fact_at (log_of table ws) i ≡ fact_in table (get_or (facts_in ws) i [])
unfolding log_of columns_of relation
log-at table ws i = get_or-map (fact_in table) (facts_in ws) i []

in-at : (l : Log) (f : Fact) → In f l → (i : ℕ) × (i < length l) × (f ≡ fact_at l i)
in-at [] f e = absurd e
in-at (g ∷ l) f (inl e) = (0, omega arith, e)
in-at (g ∷ l) f (inr e) = let (i, h, q) = in-at l f e in (suc i, omega arith, q)

-- a fact has as many values as its relation columns
row-length : (table : Table) → Narrow table → (f : List ℤ) → length f ≡ 5 → length (fact_in table f).row ≡ columns_of table (fact_relation f)
row-length table narrow f e =
    let m = narrow (fact_relation f) in
    let d = length-drop 1 f in
    length-map (used table f) natural ∙ length-take (columns_of table (fact_relation f)) (drop 1 f) ∙ (omega arith)

pub fact-length : (ws : List ℤ) (i : ℕ) → i < length ws / 5 → length (get_or (facts_in ws) i []) ≡ 5
fact-length ws i h = ap length (fact_words ws i h) ∙ length-slice (5 * i) (5 * i + 5) ws (omega arith) ∙ (omega arith)

-- the rows fit their relations
pub shaped-log : (table : Table) → Narrow table → (ws : List ℤ) → (facts_refusal table ws).number ≡ 0 → ShapedLog table (log_of table ws)
shaped-log table narrow ws r f m =
    let (i, h, q) = in-at (log_of table ws) f m in
    let n = log_of-length table ws in
    let w = get_or (facts_in ws) i [] in
    let e : f ≡ fact_in table w = q ∙ log-at table ws i in
    let l = row-length table narrow w (fact-length ws i (omega arith)) in
    rw e (l ∙ columns-natural table (fact_relation w), rw l (narrow (fact_relation w)))

-- ---- the log in plain numbers

-- a column's word is its value, in an unused column too
pub value-at : (table : Table) (f : List ℤ) → length f ≡ 5 → wrong_fact table f ≡ false → (c : ℕ) → c < 4 → get_or f (1 + c) (pos 0) ≡ get_or (used table f) c (pos 0)
value-at table f e w c h = go (ltb c n) refl
  where
    n : ℕ
    n = columns_of table (fact_relation f)

    zeros : all is_zero (unused table f) ≡ true
    zeros = not-false _ (neither (not (all is_value (used table f))) _ (neither (eqb n 0) _ w).1).1

    go : (t : Bool) → ltb c n ≡ t → get_or f (1 + c) (pos 0) ≡ get_or (used table f) c (pos 0)
    go true q = sym (get_or-take n (drop 1 f) c (pos 0) (ltb-true c n q) ∙ get_or-drop 1 f c (pos 0))
    go false q =
        let k = ltb-false c n q in
        let d = length-drop 1 f in
        let m = length-drop n (drop 1 f) in
        let o : length (used table f) ≤ c = rw (length-take n (drop 1 f)) (omega arith) in
        let p : n + (c - n) ≡ c = omega arith in
        sym (get_or-drop 1 f c (pos 0))
        ∙ ap (λ k. get_or (drop 1 f) k (pos 0)) (sym p)
        ∙ sym (get_or-drop n (drop 1 f) (c - n) (pos 0))
        ∙ zero_word (get_or (unused table f) (c - n) (pos 0)) (all-at is_zero (pos 0) (unused table f) zeros (c - n) (omega arith))
        ∙ sym (get_or-eq_default (used table f) (pos 0) o)

-- a number is that of the word in its place
pub number-at : (ws : List ℤ) (n : ℕ) → get_or (map natural ws) n 0 ≡ natural (get_or ws n (pos 0))
number-at ws n = get_or-map natural ws n (pos 0)

module _ (table : Table) (ws : List ℤ) (r : (facts_refusal table ws).number ≡ 0) where
  log-relation : (i : ℕ) → i < length (log_of table ws) → get_or (map natural ws) (i * 5) 0 ≡ (fact_at (log_of table ws) i).rel
  log-relation i h =
      let n = log_of-length table ws in
      let p : i * 5 ≡ 5 * i = omega arith in
      ap (λ k. get_or (map natural ws) k 0) p
      ∙ number-at ws (5 * i)
      ∙ ap natural (sym (relation-word ws i (omega arith)))
      ∙ ap (λ f. f.rel) (sym (log-at table ws i))

  log-value : (i : ℕ) → i < length (log_of table ws) → (c : ℕ) → c < 4 → get_or (map natural ws) (i * 5 + 1 + c) 0 ≡ get_or (fact_at (log_of table ws) i).row c 0
  log-value i h c l =
      let n = log_of-length table ws in
      let m = facts-length ws in
      let f = get_or (facts_in ws) i [] in
      let p : i * 5 + 1 + c ≡ 5 * i + (1 + c) = omega arith in
      ap (λ k. get_or (map natural ws) k 0) p
      ∙ number-at ws (5 * i + (1 + c))
      ∙ ap natural (sym (ap (λ f. get_or f (1 + c) (pos 0)) (fact_words ws i (omega arith)) ∙ word_at ws (5 * i) (1 + c) (omega arith)))
      ∙ ap natural (value-at table f (fact-length ws i (omega arith)) (by-fact-right table [] (facts_in ws) i (accepted table ws r).1 (omega arith)) c l)
      ∙ sym (number-at (used table f) c)
      ∙ ap (λ f. get_or f.row c 0) (sym (log-at table ws i))

  fact-numbers : FactNumbers (map natural ws) (log_of table ws)
  fact-numbers = record {
    count = length-map ws natural ∙ (let n = log_of-length table ws in let m = (accepted table ws r).0 in omega arith);
    relation = log-relation;
    values = log-value;
  }

-- all words are read
pub numbers-read : (table : Table) (ws : List ℤ) (ns : List ℕ) (i : ℕ) → i ≡ length ws → take i ns ≡ map natural (take i ws) → (facts_refusal table ws).number ≡ 0
    → FactNumbers (take (length ws) ns) (log_of table ws)
numbers-read table ws ns i e q r = rw (← e, q, take_all i ws (omega arith)) (fact-numbers table ws r)

-- ---- values of accepted facts

in-values : (l : List ℤ) → all is_value l ≡ true → (v : ℕ) → In v (map natural l) → v < value_end
in-values [] h v m = absurd m
in-values (pos n ∷ l) h v (inl e) = let q = ltb-true n value_end (and_left (ltb n value_end) (all is_value l) h) in omega arith
in-values (pos n ∷ l) h v (inr m) = in-values l (and_right (ltb n value_end) (all is_value l) h) v m
in-values (negsuc n ∷ l) h v m = no_way h

right-values : (table : Table) (f : List ℤ) → wrong_fact table f ≡ false → all is_value (used table f) ≡ true
right-values table f e = go (eqb (columns_of table (fact_relation f)) 0) (all is_value (used table f)) (all is_zero (unused table f)) e
  where
    go : (a b c : Bool) → (a || (not b || not c)) ≡ false → b ≡ true
    go true b c h = no_way (sym h)
    go false true c h = refl
    go false false c h = no_way (sym h)

pub log-small : (table : Table) (ws : List ℤ) → (facts_refusal table ws).number ≡ 0 → (f : Fact) → In f (log_of table ws) → (v : ℕ) → In v f.row → v < value_end
log-small table ws h f m v i =
    let (k, lt, e) = in-at (log_of table ws) f m in
    let n = log_of-length table ws in
    let l = facts-length ws in
    let g = get_or (facts_in ws) k [] in
    let r = by-fact-right table [] (facts_in ws) k (accepted table ws h).1 (omega arith) in
    in-values (used table g) (right-values table g r) v (subst (λ x. In v x.row) (e ∙ log-at table ws k) i)
