-- A line of bytes is right by its four fields.
use mathlib.Core.Path.{◌≡◌, refl, sym, ap, ◌∙◌}
use mathlib.Core.Bool.{Bool, true, false, cond, ◌&&◌}
use mathlib.Core.List.{List, [], ◌∷◌, ◌++◌, map}
use Prim.Native.Nat.{ℕ, zero, suc, ◌+◌, ◌-◌, ◌*◌, ◌/◌, ◌%◌, ◌<◌, ◌≤◌}
use native.Mathlib.Omega.{arith}
use borrow.Author.Tests.{eqb-true, leb-true, eq-eqb, ne_eqb, le-leb, lt-leb, le-ltb}
use lib.Dec.{eqb, ltb, leb}
use lib.IntN.{ℤ, pos, negsuc}
use lib.ListN.{length, take, drop, get_or, length-map}
use lib.Seq.{drop-drop}
use Rattle.sheet_format.specs.Limits.{field_byte_count, field_end, most_fields, most_relations}
use Rattle.sheet_format.specs.Table.{Relation, unknown, relation}
use Rattle.sheet_format.specs.Field.{field_of, field_at}
use Rattle.sheet_format.specs.Line.{all, natural, eights, is_number, number, fields_in, is_well_formed, line_of}
use Rattle.sheet_format.specs.Answers.{Field}
use Rattle.sheet_format.specs.Answers.Field.{Number, Malformed}
use Rattle.sheet_format.proofs.Lists.{both, no_way}
use Rattle.sheet_format.proofs.LineLaws.{line-by, eights-length}
use Rattle.sheet_reader.proofs.LineOf.{eights-take, part_length}
use Rattle.sheet_table.specs.Tables.{number_in, relation_on_line, not_negative, four_fields, parent_right, relation_right, line_right}
use Rattle.sheet_table.specs.Numbers.{plain_of, relation_numbers, table_numbers, parent_obeys, line_obeys, relation_put, TakenLine}
use Rattle.sheet_table.proofs.Numbers.{numbers-at, numbers_more}

and_no : (b : Bool) → b && false ≡ false
and_no true = refl
and_no false = refl

abbrev entry : ℕ → ℕ → ℕ → Relation
entry c k p = record { columns = c; key = k; parent = p }

-- ---- a number that no field holds is refused

module _ (rs : List Relation) (m c k p : ℕ) (few : length rs < most_relations) where
  bad_number : relation_right rs field_end (entry c k p) ≡ false
  bad_number = rw (ne_eqb field_end (length rs + 1) (λ e. omega arith))

  bad_columns : relation_right rs m (entry field_end k p) ≡ false
  bad_columns = and_no (eqb m (length rs + 1))

  bad_key : relation_right rs m (entry c field_end p) ≡ false
  bad_key = ap (λ b. eqb m (length rs + 1) && b) (go (leb 1 c && leb c 4) refl) ∙ and_no (eqb m (length rs + 1))
    where
      go : (b : Bool) → leb 1 c && leb c 4 ≡ b → (b && (ltb field_end c && parent_right rs (entry c field_end p))) ≡ false
      go true e = let h = leb-true c 4 (both (leb 1 c) (leb c 4) e).1 in rw (le-ltb field_end c (omega arith))
      go false e = refl

  bad_parent : relation_right rs m (entry c k field_end) ≡ false
  bad_parent =
      rw (lt-leb field_end (length rs) (omega arith), and_no (ltb k c), and_no (leb 1 c && leb c 4), and_no (eqb m (length rs + 1)))

-- ---- four fields

module _ (rs : List Relation) (few : length rs < most_relations) where
  four : (f g h i : Field) → line_right rs (cond (all is_number (f ∷ g ∷ h ∷ i ∷ [])) (map number (f ∷ g ∷ h ∷ i ∷ [])) []) ≡ relation_right rs (plain_of f) (entry (plain_of g) (plain_of h) (plain_of i))
  unfolding line_right
  four Malformed g h i = sym (bad_number rs 0 (plain_of g) (plain_of h) (plain_of i) few)
  four (Number (negsuc a)) g h i = go (all is_number (g ∷ h ∷ i ∷ [])) ∙ sym (bad_number rs 0 (plain_of g) (plain_of h) (plain_of i) few)
    where
      go : (b : Bool) → line_right rs (cond b (negsuc a ∷ number g ∷ number h ∷ number i ∷ []) []) ≡ false
      go true = refl
      go false = refl
  four (Number (pos a)) Malformed h i = sym (bad_columns rs a 0 (plain_of h) (plain_of i) few)
  four (Number (pos a)) (Number (negsuc b)) h i = go (all is_number (h ∷ i ∷ [])) ∙ sym (bad_columns rs a 0 (plain_of h) (plain_of i) few)
    where
      go : (x : Bool) → line_right rs (cond x (pos a ∷ negsuc b ∷ number h ∷ number i ∷ []) []) ≡ false
      go true = refl
      go false = refl
  four (Number (pos a)) (Number (pos b)) Malformed i = sym (bad_key rs a b 0 (plain_of i) few)
  four (Number (pos a)) (Number (pos b)) (Number (negsuc c)) i = go (all is_number (i ∷ [])) ∙ sym (bad_key rs a b 0 (plain_of i) few)
    where
      go : (x : Bool) → line_right rs (cond x (pos a ∷ pos b ∷ negsuc c ∷ number i ∷ []) []) ≡ false
      go true = refl
      go false = refl
  four (Number (pos a)) (Number (pos b)) (Number (pos c)) Malformed = sym (bad_parent rs a b c 0 few)
  four (Number (pos a)) (Number (pos b)) (Number (pos c)) (Number (negsuc d)) = sym (bad_parent rs a b c 0 few)
  four (Number (pos a)) (Number (pos b)) (Number (pos c)) (Number (pos d)) = refl

-- a right line's plain numbers are the relation's
plain-four : (rs : List Relation) (f g h i : Field) → line_right rs (cond (all is_number (f ∷ g ∷ h ∷ i ∷ [])) (map number (f ∷ g ∷ h ∷ i ∷ [])) []) ≡ true
    → relation_on_line (cond (all is_number (f ∷ g ∷ h ∷ i ∷ [])) (map number (f ∷ g ∷ h ∷ i ∷ [])) []) ≡ entry (plain_of g) (plain_of h) (plain_of i)
unfolding line_right
plain-four rs f g h i e = go (all is_number (f ∷ g ∷ h ∷ i ∷ [])) refl e
  where
    line : Bool → List ℤ
    line b = cond b (map number (f ∷ g ∷ h ∷ i ∷ [])) []

    plain : (x : Field) → is_number x ≡ true → not_negative (number x) ≡ true → natural (number x) ≡ plain_of x
    plain (Number (pos n)) p q = refl
    plain (Number (negsuc n)) p q = no_way q
    plain Malformed p q = no_way p

    go : (b : Bool) → all is_number (f ∷ g ∷ h ∷ i ∷ []) ≡ b → line_right rs (line b) ≡ true → relation_on_line (line b) ≡ entry (plain_of g) (plain_of h) (plain_of i)
    go false q r = no_way r
    go true q r =
        let ns = (both (is_number f) _ q).1 in
        let ns2 = (both (is_number g) _ ns).1 in
        let ns3 = (both (is_number h) _ ns2).1 in
        let ps = (both (all not_negative (line true)) _ r).0 in
        let ps1 = (both (not_negative (number f)) _ ps).1 in
        let ps2 = (both (not_negative (number g)) _ ps1).1 in
        let ps3 = (both (not_negative (number h)) _ ps2).1 in
        rw (
          plain g (both (is_number g) _ ns).0 (both (not_negative (number g)) _ ps1).0,
          plain h (both (is_number h) _ ns2).0 (both (not_negative (number h)) _ ps2).0,
          plain i (both (is_number i) true ns3).0 (both (not_negative (number i)) true ps3).0,
        )

-- ---- the rules over the numbers of the relations before

parent-same : (rs : List Relation) (c k p : ℕ) → length rs < most_relations → parent_obeys (table_numbers rs) (length rs) c p ≡ parent_right rs (entry c k p)
unfolding parent_obeys relation
parent-same rs c k zero few = refl
parent-same rs c k (suc p) few = rw (ne_eqb (suc p) 0 (λ e. omega arith)) (go (leb (suc p) (length rs)) refl)
  where
    -- number j of the parent
    at : (j : ℕ) → j < 3 → p < most_relations → get_or (table_numbers rs) ((suc p - 1) * 3 + j) 0 ≡ get_or (relation_numbers (get_or rs p unknown)) j 0
    at j lt h = ap (λ i. get_or (table_numbers rs) (i * 3 + j) 0) (let e : suc p - 1 ≡ p = omega arith in e) ∙ numbers-at most_relations p j rs h lt

    go : (b : Bool) → leb (suc p) (length rs) ≡ b
        → (b && (eqb (get_or (table_numbers rs) ((suc p - 1) * 3) 0) c && eqb (get_or (table_numbers rs) ((suc p - 1) * 3 + 2) 0) 0)) ≡ (b && (eqb (get_or rs p unknown).columns c && eqb (get_or rs p unknown).parent 0))
    go false e = refl
    go true e =
        let h = leb-true (suc p) (length rs) e in
        let z = ap (λ i. get_or (table_numbers rs) i 0) (let q : (suc p - 1) * 3 ≡ (suc p - 1) * 3 + 0 = omega arith in q) ∙ at 0 (omega arith) (omega arith) in
        ap (λ x. eqb x c && eqb (get_or (table_numbers rs) ((suc p - 1) * 3 + 2) 0) 0) z
        ∙ ap (λ x. eqb (get_or rs p unknown).columns c && eqb x 0) (at 2 (omega arith) (omega arith))

rules-same : (rs : List Relation) (m c k p : ℕ) → length rs < most_relations → line_obeys (table_numbers rs) (length rs) m c k p ≡ relation_right rs m (entry c k p)
unfolding line_obeys
rules-same rs m c k p few = ap (λ b. eqb m (length rs + 1) && ((leb 1 c && leb c 4) && (ltb k c && b))) (parent-same rs c k p few)

-- ---- the line's bytes

field-there : (s : List ℕ) (at j : ℕ) → at + j + 8 ≤ length s → field_at s (at + j) ≡ field_of (take field_byte_count (drop j (drop at s)))
field-there s at j le = rw (le-leb (at + j + field_byte_count) (length s) (omega arith), drop-drop j at s)

-- a line of another length has not four fields
pub other_length : (s : List ℕ) (rs : List Relation) → (length s ≡ 32 → ⊥) → false ≡ line_right rs (line_of s)
unfolding line_right
other_length s rs h = go (is_well_formed s) refl
  where
    go : (b : Bool) → is_well_formed s ≡ b → false ≡ line_right rs (line_of s)
    go false e = ap (line_right rs) (sym (line-by s false e))
    go true e =
        let r = eqb-true (length s % field_byte_count) 0 (both (eqb (length s % field_byte_count) 0) _ e).0 in
        let l : length (map number (fields_in s)) ≡ length s / field_byte_count = length-map (fields_in s) number ∙ length-map (eights (length s / field_byte_count) s) field_of ∙ eights-length (length s / field_byte_count) s in
        let q : four_fields (map number (fields_in s)) ≡ false = rw (ne_eqb (length (map number (fields_in s))) 4 (λ x. h (omega arith))) in
        ap (λ b. b && relation_right rs (number_in (map number (fields_in s))) (relation_on_line (map number (fields_in s)))) (sym q) ∙ ap (line_right rs) (sym (line-by s true e))

module _ (s : List ℕ) (at e : ℕ) (le : at ≤ e) (inside : e ≤ length s) (size : e - at ≡ 32) where
  abbrev part : List ℕ
  part = take (e - at) (drop at s)

  abbrev fields : List Field
  fields = field_at s at ∷ field_at s (at + 8) ∷ field_at s (at + 16) ∷ field_at s (at + 24) ∷ []

  part-fields : fields_in part ≡ fields
  part-fields =
      let l = part_length s at e le inside in
      let t = drop at s in
      let d16 : drop 8 (drop 8 t) ≡ drop 16 t = drop-drop 8 8 t in
      let d24 : drop 8 (drop 16 t) ≡ drop 24 t = drop-drop 8 16 t in
      let z : field_at s at ≡ field_of (take field_byte_count t) = ap (field_at s) (let q : at ≡ at + 0 = omega arith in q) ∙ field-there s at 0 (omega arith) in
      ap (λ k. map field_of (eights k part)) (let q : length part / field_byte_count ≡ 4 = omega arith in q)
      ∙ ap (map field_of) (eights-take 4 (e - at) t (omega arith))
      ∙ rw (d16, d24, z, field-there s at 8 (omega arith), field-there s at 16 (omega arith), field-there s at 24 (omega arith))

  part-formed : is_well_formed part ≡ all is_number fields
  part-formed =
      let l = part_length s at e le inside in
      let k = length part in
      rw (eq-eqb (k % field_byte_count) 0 (omega arith), le-leb 1 (k / field_byte_count) (omega arith), le-leb (k / field_byte_count) most_fields (omega arith)) (ap (all is_number) part-fields)

  part-line : line_of part ≡ cond (all is_number fields) (map number fields) []
  part-line = line-by part (all is_number fields) part-formed ∙ ap (λ x. cond (all is_number fields) (map number x) []) part-fields

  -- the line is right where its plain numbers fit
  pub right_by : (rs : List Relation) → length rs < most_relations
      → line_obeys (table_numbers rs) (length rs) (plain_of (field_at s at)) (plain_of (field_at s (at + 8))) (plain_of (field_at s (at + 16))) (plain_of (field_at s (at + 24))) ≡ line_right rs (line_of part)
  right_by rs few = rules-same rs _ _ _ _ few ∙ sym (ap (line_right rs) part-line ∙ four rs few (field_at s at) (field_at s (at + 8)) (field_at s (at + 16)) (field_at s (at + 24)))

  -- and then they are the relation's
  pub relation-by : (rs : List Relation) → line_right rs (line_of part) ≡ true → relation_on_line (line_of part) ≡ entry (plain_of (field_at s (at + 8))) (plain_of (field_at s (at + 16))) (plain_of (field_at s (at + 24)))
  relation-by rs h = ap relation_on_line part-line ∙ plain-four rs (field_at s at) (field_at s (at + 8)) (field_at s (at + 16)) (field_at s (at + 24)) (sym (ap (line_right rs) part-line) ∙ h)

-- ---- a line that is taken, or not

-- whether the line is right, and then the numbers to put
pub record LineRead (s : List ℕ) (at e : ℕ) (ns : List ℕ) (n c k p : ℕ) (r : Bool) : Type 0 where
  pub right : (rs : List Relation) → length rs ≡ n → ns ≡ table_numbers rs → r ≡ line_right rs (line_of (take (e - at) (drop at s)))
  pub put : (rs : List Relation) → length rs ≡ n → ns ≡ table_numbers rs → r ≡ true → relation_put ns n c k p ≡ table_numbers (rs ++ (relation_on_line (line_of (take (e - at) (drop at s))) ∷ []))

pub not-four : (s : List ℕ) (at e : ℕ) (ns us : List ℕ) (n : ℕ) → at ≤ e → e ≤ length s → (e - at ≡ 32 → ⊥) → TakenLine s at e ns us n false
not-four s at e ns us n le inside h =
    record { right = λ rs l q. other_length (take (e - at) (drop at s)) rs (λ x. h (sym (part_length s at e le inside) ∙ x)); put = λ rs l q x. no_way x }

module _ (s : List ℕ) (at e : ℕ) (le : at ≤ e) (inside : e ≤ length s) (size : e - at ≡ 32) (ns : List ℕ) (n : ℕ) (few : n < most_relations) (m c k p : ℕ)
    (ms : m ≡ plain_of (field_at s at)) (cs : c ≡ plain_of (field_at s (at + 8))) (ks : k ≡ plain_of (field_at s (at + 16))) (ps : p ≡ plain_of (field_at s (at + 24))) where
  abbrev line : List ℤ
  line = line_of (take (e - at) (drop at s))

  fits-right : (rs : List Relation) → length rs ≡ n → ns ≡ table_numbers rs → line_obeys ns n m c k p ≡ line_right rs line
  fits-right rs l q = rw (q, sym l, ms, cs, ks, ps) (right_by s at e le inside size rs (omega arith))

  pub line_read : (r : Bool) → r ≡ line_obeys ns n m c k p → LineRead s at e ns n c k p r
  line_read r h = record {
    right = λ rs l q. h ∙ fits-right rs l q;
    put = λ rs l q is.
        let x = relation-by s at e le inside size rs (sym (fits-right rs l q) ∙ sym h ∙ is) in
        rw (q, sym l, cs, ks, ps, x) (numbers_more most_relations rs (entry (plain_of (field_at s (at + 8))) (plain_of (field_at s (at + 16))) (plain_of (field_at s (at + 24)))) (omega arith));
  }

module _ {s : List ℕ} {at e : ℕ} {ns : List ℕ} {n c k p : ℕ} {r : Bool} (d : LineRead s at e ns n c k p r) where
  pub not_taken : (us : List ℕ) → r ≡ false → TakenLine s at e ns us n false
  not_taken us is = record { right = λ rs l q. sym is ∙ d.right rs l q; put = λ rs l q x. no_way x }

  pub taken : (us : List ℕ) → r ≡ true → us ≡ relation_put ns n c k p → TakenLine s at e ns us n true
  taken us is w = record { right = λ rs l q. sym is ∙ d.right rs l q; put = λ rs l q x. w ∙ d.put rs l q is }
