-- Facts as plain numbers, five to a fact, and as the words that give them: what a fact's numbers tell of it, when words are accepted, and the
-- numbers without one fact. Assumes nothing.
use mathlib.Core.Path.{◌≡◌, refl, sym, ap, ◌∙◌, subst}
use mathlib.Core.Bool.{Bool, true, false, ◌||◌}
use mathlib.Core.List.{List, [], ◌∷◌, ◌++◌, map}
use mathlib.Core.Logic.{inl, inr}
use Prim.Native.Nat.{ℕ, zero, suc, ◌<◌, ◌≤◌, ◌+◌, ◌-◌, ◌*◌, ◌/◌}
use native.Mathlib.Nat.{add-zero}
use native.Mathlib.Omega.{arith}
use lib.Dec.{ltb}
use lib.IntN.{ℤ, pos}
use lib.ListN.{length, get_or, take, drop, length-append, length-take, length-drop, length-map, get_or-append, get_or-eq_default, get_or-map}
use lib.Seq.{slice, length-slice, length-take-le, take_all, get_or-take, get_or-drop, get_or-append-add, ext_get_or}
use borrow.Author.Tests.{lt-ltb, le-ltb, ltb-true, ltb-false, ne_eqb, eq-eqb}
use Rattle.case_order.proofs.Laws.{number-at}
use Rattle.list_laws.proofs.Order.{less_irrefl, less_trans}
use Rattle.list_laws.specs.Order.{◌⊏◌}
use Rattle.sheet_format.proofs.Lists.{all_index}
use Rattle.sheet_format.specs.Cause.{above, none}
use Rattle.sheet_format.specs.Line.{all, is_zero, natural, null}
use Rattle.sheet_format.specs.Table.{Table, columns_of}
use Rattle.sheet_format.specs.Answers.{Refusal}
use Rattle.query_meaning.specs.Meaning.{Fact, Log, In, fact}
use Rattle.query_meaning.specs.Facts.{fact_by_fact, facts_in, facts_refusal, is_value, log_of, value_end, wrong_fact, most_facts}
use Rattle.query_encoding.specs.Encoding as numbers
use Rattle.query_encoding.specs.Encoding.{FactNumbers, ShapedLog}
use Rattle.query_encoding.proofs.Lists.{at_in, in-at}
use Rattle.query_facts.proofs.Words.{not-either}
use Rattle.query_facts.proofs.Laws.{count-right, fact_words, facts-length, log_of-length, numbers-read}
use Rattle.case_verdicts.specs.Handed.{Distinct}
use Rattle.case_order.specs.Order.{five_at}
use Rattle.case_minimization.specs.Minimization.{without}

-- a fact that words can hold
pub record FineFact (table : Table) (ns : List ℕ) (i : ℕ) : Type 0 where
  pub known : 0 < columns_of table (pos (get_or ns (i * 5) 0))
  pub small : (c : ℕ) → c < 4 → get_or ns (i * 5 + 1 + c) 0 < value_end
  pub rest : (c : ℕ) → columns_of table (pos (get_or ns (i * 5) 0)) ≤ c → c < 4 → get_or ns (i * 5 + 1 + c) 0 ≡ 0

-- ---- the five numbers by their places

column-number : (ns : List ℕ) (i c : ℕ) → c < 4 → get_or (five_at ns i) (suc c) 0 ≡ get_or ns (i * 5 + 1 + c) 0
column-number ns i c h = number-at ns i (suc c) (omega arith) ∙ ap (λ k. get_or ns k 0) (let e : i * 5 + suc c ≡ i * 5 + 1 + c = omega arith in e)

pub same-five : (ns ms : List ℕ) (i j : ℕ) → get_or ns (i * 5) 0 ≡ get_or ms (j * 5) 0 → ((c : ℕ) → c < 4 → get_or ns (i * 5 + 1 + c) 0 ≡ get_or ms (j * 5 + 1 + c) 0) → five_at ns i ≡ five_at ms j
same-five ns ms i j r v = ext_get_or 0 (five_at ns i) (five_at ms j) refl go
  where
    go : (k : ℕ) → k < 5 → get_or (five_at ns i) k 0 ≡ get_or (five_at ms j) k 0
    go zero h = r
    go (suc c) h = column-number ns i c (omega arith) ∙ v c (omega arith) ∙ sym (column-number ms j c (omega arith))

-- ---- a fact and its numbers

fact-same : (f g : Fact) → f.rel ≡ g.rel → f.row ≡ g.row → f ≡ g
fact-same f g r v = ap (λ n. fact n f.row) r ∙ ap (fact g.rel) v

module _ (table : Table) {ns ms : List ℕ} {l k : Log} (a : FactNumbers ns l) (b : FactNumbers ms k) where
  -- equal numbers, equal facts
  pub same-fact : ShapedLog table l → ShapedLog table k → (i j : ℕ) → i < length l → j < length k → five_at ns i ≡ five_at ms j → numbers.fact_at l i ≡ numbers.fact_at k j
  same-fact s t i j h g e =
      fact-same f f' rel
      (ext_get_or 0 f.row f'.row (short.0 ∙ ap (λ n. columns_of table (pos n)) rel ∙ sym (t f' (at_in (fact 0 []) k j g)).0) at)
    where
      f : Fact
      f = numbers.fact_at l i

      f' : Fact
      f' = numbers.fact_at k j

      rel : f.rel ≡ f'.rel
      rel = sym (a.relation i h) ∙ ap (λ n. get_or n 0 0) e ∙ b.relation j g

      short : (length f.row ≡ columns_of table (pos f.rel)) × (length f.row ≤ 4)
      short = s f (at_in (fact 0 []) l i h)

      at : (c : ℕ) → c < length f.row → get_or f.row c 0 ≡ get_or f'.row c 0
      at c lt =
          let m = short.1 in
          let o : c < 4 = omega arith in
          sym (a.values i h c o)
          ∙ sym (column-number ns i c o)
          ∙ ap (λ n. get_or n (suc c) 0) e
          ∙ column-number ms j c o
          ∙ b.values j g c o

  -- and equal facts, equal numbers
  pub same_numbers : (i j : ℕ) → i < length l → j < length k → numbers.fact_at l i ≡ numbers.fact_at k j → five_at ns i ≡ five_at ms j
  same_numbers i j h g e =
      same-five ns ms i j
      (a.relation i h ∙ ap (λ f. f.rel) e ∙ sym (b.relation j g))
      (λ c o. a.values i h c o ∙ ap (λ f. get_or f.row c 0) e ∙ sym (b.values j g c o))

-- shaped facts of known relations and small values have fine numbers
pub fine-fact : (table : Table) {ns : List ℕ} {l : Log} → FactNumbers ns l → ShapedLog table l → ((f : Fact) → In f l → 0 < columns_of table (pos f.rel))
    → ((f : Fact) → In f l → (n : ℕ) → In n f.row → n < value_end) → (i : ℕ) → i < length l → FineFact table ns i
fine-fact table {ns} {l} a s known small i h = record {
  known = rw (a.relation i h) (known f m);
  small = λ c o. rw (a.values i h c o) (go c (ltb c (length f.row)) refl);
  rest = λ c o p. a.values i h c p ∙ get_or-eq_default f.row 0 (rw ((s f m).0, ← a.relation i h) o);
}
  where
    f : Fact
    f = numbers.fact_at l i

    m : In f l
    m = at_in (fact 0 []) l i h

    go : (c : ℕ) (t : Bool) → ltb c (length f.row) ≡ t → get_or f.row c 0 < value_end
    go c true q = small f m (get_or f.row c 0) (at_in 0 f.row c (ltb-true c (length f.row) q))
    go c false q = rw (get_or-eq_default f.row 0 (ltb-false c (length f.row) q)) (omega arith)

-- and so have the same numbers elsewhere
pub fine-same : (table : Table) (ns ms : List ℕ) (i j : ℕ) → five_at ns i ≡ five_at ms j → FineFact table ns i → FineFact table ms j
fine-same table ns ms i j e f = record {
  known = subst (λ n. 0 < columns_of table (pos n)) rel f.known;
  small = λ c o. subst (λ n. n < value_end) (value c o) (f.small c o);
  rest = λ c h o. sym (value c o) ∙ f.rest c (subst (λ n. columns_of table (pos n) ≤ c) (sym rel) h) o;
}
  where
    rel : get_or ns (i * 5) 0 ≡ get_or ms (j * 5) 0
    rel = ap (λ n. get_or n 0 0) e

    value : (c : ℕ) → c < 4 → get_or ns (i * 5 + 1 + c) 0 ≡ get_or ms (j * 5 + 1 + c) 0
    value c o = sym (column-number ns i c o) ∙ ap (λ n. get_or n (suc c) 0) e ∙ column-number ms j c o

-- ---- a list without a part

module _ {A : Type 0} (l : List A) (a b : ℕ) (low : a ≤ length l) where
  cut-length : length (take a l ++ drop b l) ≡ a + (length l - b)
  cut-length = rw (length-append (take a l) (drop b l), length-take-le a l low, length-drop b l)

  cut-before : (d : A) (k : ℕ) → k < a → get_or (take a l ++ drop b l) k d ≡ get_or l k d
  cut-before d k h =
      let e = length-take-le a l low in
      get_or-append (take a l) (drop b l) d k (omega arith) ∙ get_or-take a l k d h

  cut-after : (d : A) (k : ℕ) → a ≤ k → get_or (take a l ++ drop b l) k d ≡ get_or l (b + (k - a)) d
  cut-after d k h =
      let e = length-take-le a l low in
      let p : k ≡ length (take a l) + (k - a) = omega arith in
      ap (λ j. get_or (take a l ++ drop b l) j d) p ∙ get_or-append-add (take a l) (drop b l) (k - a) d ∙ get_or-drop b l (k - a) d

-- ---- the numbers without those of fact i

-- the numbers have f for fact i
abbrev HasFact : List ℕ → ℕ → Fact → Type 0
HasFact ns i f = (get_or ns (i * 5) 0 ≡ f.rel) × ((c : ℕ) → c < 4 → get_or ns (i * 5 + 1 + c) 0 ≡ get_or f.row c 0)

-- the same numbers elsewhere have the same fact there
moved : (ns ms : List ℕ) (i j : ℕ) (f g : Fact) → g ≡ f → ((p : ℕ) → p < 5 → get_or ms (j * 5 + p) 0 ≡ get_or ns (i * 5 + p) 0) → HasFact ns i f → HasFact ms j g
moved ns ms i j f g e same (r, v) = (rel, values)
  where
    rel : get_or ms (j * 5) 0 ≡ g.rel
    rel = ap (λ k. get_or ms k 0) (sym (add-zero (j * 5))) ∙ same 0 (omega arith) ∙ ap (λ k. get_or ns k 0) (add-zero (i * 5)) ∙ r ∙ ap (λ h. h.rel) (sym e)

    values : (c : ℕ) → c < 4 → get_or ms (j * 5 + 1 + c) 0 ≡ get_or g.row c 0
    values c o =
        let p : j * 5 + 1 + c ≡ j * 5 + suc c = omega arith in
        let q : i * 5 + suc c ≡ i * 5 + 1 + c = omega arith in
        ap (λ k. get_or ms k 0) p ∙ same (suc c) (omega arith) ∙ ap (λ k. get_or ns k 0) q ∙ v c o ∙ ap (λ h. get_or h.row c 0) (sym e)

module _ {ns : List ℕ} {l : Log} (a : FactNumbers ns l) (i : ℕ) (h : i < length l) where
  number-before : (j p : ℕ) → p < 5 → j < i → get_or (without ns i) (j * 5 + p) 0 ≡ get_or ns (j * 5 + p) 0
  number-before j p o b = let n = a.count in cut-before ns (i * 5) (i * 5 + 5) (omega arith) 0 (j * 5 + p) (omega arith)

  number-after : (j p : ℕ) → i ≤ j → get_or (without ns i) (j * 5 + p) 0 ≡ get_or ns (suc j * 5 + p) 0
  number-after j p b =
      let n = a.count in
      let e : i * 5 + 5 + (j * 5 + p - i * 5) ≡ suc j * 5 + p = omega arith in
      cut-after ns (i * 5) (i * 5 + 5) (omega arith) 0 (j * 5 + p) (omega arith) ∙ ap (λ k. get_or ns k 0) e

  fact-before : (j : ℕ) → j < i → numbers.fact_at (take i l ++ drop (suc i) l) j ≡ numbers.fact_at l j
  fact-before j b = cut-before l i (suc i) (omega arith) (fact 0 []) j b

  fact-after : (j : ℕ) → i ≤ j → numbers.fact_at (take i l ++ drop (suc i) l) j ≡ numbers.fact_at l (suc j)
  fact-after j b =
      let e : suc i + (j - i) ≡ suc j = omega arith in
      cut-after l i (suc i) (omega arith) (fact 0 []) j b ∙ ap (numbers.fact_at l) e

  fact_left : (j : ℕ) → j < length (take i l ++ drop (suc i) l) → HasFact (without ns i) j (numbers.fact_at (take i l ++ drop (suc i) l) j)
  fact_left j lt = go (ltb j i) refl
    where
      go : (t : Bool) → ltb j i ≡ t → HasFact (without ns i) j (numbers.fact_at (take i l ++ drop (suc i) l) j)
      go true q =
          let b = ltb-true j i q in
          let o : j < length l = omega arith in
          moved ns (without ns i) j j _ _ (fact-before j b) (λ p m. number-before j p m b) (a.relation j o, a.values j o)
      go false q =
          let b = ltb-false j i q in
          let n = cut-length l i (suc i) (omega arith) in
          let o : suc j < length l = omega arith in
          moved ns (without ns i) (suc j) j _ _ (fact-after j b) (λ p m. number-after j p b) (a.relation (suc j) o, a.values (suc j) o)

  left-count : length (without ns i) ≡ length (take i l ++ drop (suc i) l) * 5
  left-count =
      let n = a.count in
      let e = cut-length ns (i * 5) (i * 5 + 5) (omega arith) in
      let f = cut-length l i (suc i) (omega arith) in
      omega arith

  -- they are those of the log without fact i
  pub dropped_numbers : FactNumbers (without ns i) (take i l ++ drop (suc i) l)
  dropped_numbers = record {
    count = left-count;
    relation = λ j lt. (fact_left j lt).0;
    values = λ j lt. (fact_left j lt).1;
  }

-- ---- the words of fine facts

-- a word is the number in its place
word_number : (ms : List ℕ) (n : ℕ) → get_or (map pos ms) n (pos 0) ≡ pos (get_or ms n 0)
word_number ms n = get_or-map pos ms n 0

numbers-back : (ms : List ℕ) → map natural (map pos ms) ≡ ms
numbers-back [] = refl
numbers-back (n ∷ ms) = ap (λ l. n ∷ l) (numbers-back ms)

-- the words of fact i are its numbers
words-at : (ms : List ℕ) (i : ℕ) → i < length (map pos ms) / 5 → get_or (facts_in (map pos ms)) i [] ≡ map pos (five_at ms i)
words-at ms i h = fact_words (map pos ms) i h ∙ ext_get_or (pos 0) (slice (5 * i) (5 * i + 5) (map pos ms)) (map pos (five_at ms i)) size at
  where
    size : length (slice (5 * i) (5 * i + 5) (map pos ms)) ≡ 5
    size = length-slice (5 * i) (5 * i + 5) (map pos ms) (omega arith) ∙ (omega arith)

    at : (k : ℕ) → k < length (slice (5 * i) (5 * i + 5) (map pos ms)) → get_or (slice (5 * i) (5 * i + 5) (map pos ms)) k (pos 0) ≡ get_or (map pos (five_at ms i)) k (pos 0)
    at k lt =
        let n = size in
        let o : k < 5 = omega arith in
        let e : 5 * i + k ≡ i * 5 + k = omega arith in
        get_or-drop (5 * i) (take (5 * i + 5) (map pos ms)) k (pos 0)
        ∙ get_or-take (5 * i + 5) (map pos ms) (5 * i + k) (pos 0) (omega arith)
        ∙ word_number ms (5 * i + k)
        ∙ ap (λ n. pos (get_or ms n 0)) e
        ∙ ap pos (sym (number-at ms i k o))
        ∙ sym (word_number (five_at ms i) k)

-- a fine fact's words are right
fine-right : (table : Table) (ms : List ℕ) (i : ℕ) → FineFact table ms i → wrong_fact table (map pos (five_at ms i)) ≡ false
fine-right table ms i f = rw (ne_eqb n 0 (λ e. let k = f.known in omega arith), values, zeros)
  where
    n : ℕ
    n = columns_of table (pos (get_or ms (i * 5) 0))

    ws : List ℤ
    ws = map pos (five_at ms i)

    column : (c : ℕ) → c < 4 → get_or (drop 1 ws) c (pos 0) ≡ pos (get_or ms (i * 5 + 1 + c) 0)
    column c o = word_number (five_at ms i) (suc c) ∙ ap pos (column-number ms i c o)

    values : all is_value (take n (drop 1 ws)) ≡ true
    values = all_index is_value (pos 0) (take n (drop 1 ws)) (λ c lt.
        let e = length-take n (drop 1 ws) in
        let o : c < 4 = omega arith in
        ap is_value (get_or-take n (drop 1 ws) c (pos 0) (omega arith) ∙ column c o) ∙ lt-ltb (get_or ms (i * 5 + 1 + c) 0) value_end (f.small c o))

    zeros : all is_zero (drop n (drop 1 ws)) ≡ true
    zeros = all_index is_zero (pos 0) (drop n (drop 1 ws)) (λ c lt.
        let e = length-drop n (drop 1 ws) in
        let o : n + c < 4 = omega arith in
        ap is_zero (get_or-drop n (drop 1 ws) c (pos 0) ∙ column (n + c) o) ∙ eq-eqb (get_or ms (i * 5 + 1 + (n + c)) 0) 0 (f.rest (n + c) (omega arith) o))

-- rising numbers are rising words
rising-above : (t u : List ℕ) → t ⊏ u → above (map pos t) (map pos u) ≡ true
rising-above [] u h = absurd h
rising-above (m ∷ t) [] h = absurd h
rising-above (m ∷ t) (n ∷ u) (inl lt) = rw (lt-ltb m n lt)
rising-above (m ∷ t) (n ∷ u) (inr h) =
    let e = h.0 in
    rw (le-ltb m n (omega arith), le-ltb n m (omega arith)) (rising-above t u h.1)

or_right : (s t : Bool) → t ≡ true → s || t ≡ true
or_right true t e = refl
or_right false t e = e

-- facts that are right and rise are accepted
by-fact-accepted : (table : Table) (b : List ℤ) (fs : List (List ℤ)) → ((i : ℕ) → i < length fs → wrong_fact table (get_or fs i []) ≡ false)
    → (0 < length fs → null b || above b (get_or fs 0 []) ≡ true)
    → ((i : ℕ) → suc i < length fs → above (get_or fs i []) (get_or fs (suc i) []) ≡ true)
    → fact_by_fact table b fs ≡ none
unfolding fact_by_fact
by-fact-accepted table b [] right first rises = refl
by-fact-accepted table b (f ∷ fs) right first rises =
    rw (right 0 (omega arith), not-either (null b) (above b f), first (omega arith))
    (by-fact-accepted table f fs (λ i h. right (suc i) (omega arith)) (λ h. or_right (null f) _ (rises 0 (omega arith))) (λ i h. rises (suc i) (omega arith)))

-- ---- facts in order

-- a list has no element twice if no two places have the same
distinct-places : {A : Type 0} (d : A) (l : List A) → ((i j : ℕ) → i < j → j < length l → get_or l i d ≡ get_or l j d → ⊥) → Distinct l
distinct-places d [] h = tt
distinct-places d (x ∷ l) h =
    ((λ m. let (i, lt, e) = in-at d x l m in h 0 (suc i) (omega arith) (omega arith) (sym e)), distinct-places d l (λ i j a b e. h (suc i) (suc j) (omega arith) (omega arith) e))

module _ (ms : List ℕ) (m : ℕ) (rising : (i : ℕ) → suc i < m → five_at ms i ⊏ five_at ms (suc i)) where
  -- and far apart
  pub rising-far : (i j : ℕ) → i < j → j < m → five_at ms i ⊏ five_at ms j
  rising-far i zero h k = absurd (omega arith)
  rising-far i (suc j) h k = go (λ b. rising-far i j b (omega arith)) (ltb i j) refl
    where
      go : (i < j → five_at ms i ⊏ five_at ms j) → (t : Bool) → ltb i j ≡ t → five_at ms i ⊏ five_at ms (suc j)
      go rec true q = less_trans (five_at ms i) (five_at ms j) (five_at ms (suc j)) (rec (ltb-true i j q)) (rising j k)
      go rec false q =
          let b = ltb-false i j q in
          let e : j ≡ i = omega arith in
          subst (λ n. five_at ms n ⊏ five_at ms (suc j)) e (rising j k)

module _ (table : Table) (ms : List ℕ) (m : ℕ) (count : length ms ≡ m * 5) (few : m ≤ most_facts) (fine : (i : ℕ) → i < m → FineFact table ms i)
    (rising : (i : ℕ) → suc i < m → five_at ms i ⊏ five_at ms (suc i)) where
  words-length : length (map pos ms) ≡ m * 5
  words-length = length-map ms pos ∙ count

  -- the words are accepted as facts
  pub words-accepted : (facts_refusal table (map pos ms)).number ≡ 0
  words-accepted =
      let n = words-length in
      let k = facts-length (map pos ms) in
      ap (λ (r : Refusal). r.number)
      (sym (count-right table (map pos ms) (omega arith) (omega arith))
      ∙ by-fact-accepted table [] (facts_in (map pos ms))
      (λ i h. ap (wrong_fact table) (words-at ms i (omega arith)) ∙ fine-right table ms i (fine i (omega arith)))
      (λ h. refl)
      (λ i h.
      rw (words-at ms i (omega arith), words-at ms (suc i) (omega arith))
      (rising-above (five_at ms i) (five_at ms (suc i)) (rising i (omega arith)))))

  -- the log that they give has these numbers
  pub words-numbers : FactNumbers ms (log_of table (map pos ms))
  words-numbers =
      let n = words-length in
      let e = take_all (length (map pos ms)) ms (omega arith) in
      subst (λ ns. FactNumbers ns (log_of table (map pos ms))) e
      (numbers-read table (map pos ms) ms (length (map pos ms)) refl
      (e ∙ sym (ap (map natural) (take_all (length (map pos ms)) (map pos ms) (omega arith)) ∙ numbers-back ms))
      words-accepted)

  pub words_count : length (log_of table (map pos ms)) ≡ m
  words_count = let n = words-length in log_of-length table (map pos ms) ∙ (omega arith)

  -- no fact stands twice
  pub words-distinct : Distinct (log_of table (map pos ms))
  words-distinct =
      let n = words_count in
      distinct-places (fact 0 []) (log_of table (map pos ms)) (λ i j a b e.
      less_irrefl (five_at ms j)
      (subst (λ f. f ⊏ five_at ms j) (same_numbers table words-numbers words-numbers i j (omega arith) b e) (rising-far ms m rising i j a (omega arith))))
