-- The copies of the tableau, stored one by one. Assumes nothing.
use mathlib.Core.Path.{◌≡◌, refl, sym, ap, ◌∙◌, subst}
use mathlib.Core.List.{List, [], ◌∷◌, ◌++◌, append_assoc}
use Prim.Native.Nat.{ℕ, zero, suc, ◌+◌, ◌*◌, ◌<◌, ◌≤◌}
use native.Mathlib.Omega.{arith}
use native.Mathlib.Numerals.{add-one}
use lib.ListN.{length, get_or, drop, set, length-drop, drop_of_length-le}
use lib.Seq.{drop-cons, drop-drop, get_or-drop, get_or-set_same, get_or-set_other}
use borrow.Author.Count.{below_more}
use Rattle.query_layout.specs.Layout.{block_width}
use Rattle.tableau_layout.specs.Layout.{blocks_at, plan_numbers, rows_at, sizes_at, tableau_atoms, view_block}
use Rattle.sheet_format.specs.Limits.{most_atoms, most_rows}
use Rattle.sheet_format.specs.Line.{gather}
use Rattle.sheet_format.specs.Table.{Table, relation}
use Rattle.sheet_format.proofs.Lists.{map_append}
use Rattle.query_encoding.proofs.Lists.{at_in}
use Rattle.list_laws.proofs.Ranges.{kept_set, kept-wide}
use Rattle.list_laws.proofs.Lists.{part_get}
use Rattle.query_meaning.specs.Meaning.{Atom, Block}
use Rattle.query_encoding.specs.Encoding.{term_number, term_at, atom_at, BlockNumbers}
use Rattle.tableau_plan.specs.Plan.{block_numbers, block_size, slot_value}
use Rattle.tableau_plan.specs.Parts.{KeptOutside, slot_of, source_of, empty_block, PlacedAtom, unplaced, placed_atom, placed_in, owed_atoms, with_owed, own_atoms, atoms_from, Sources, PlacedNumbers, AtomAt, AtomsStored, TableauDone}
use Rattle.tableau_plan.proofs.Blocks.{numbers-same}
use Rattle.tableau_plan.proofs.Tableau.{slot-value, term-fine}

-- ---- blocks and rows that stay

source-same : (p q : List ℕ) (k : ℕ) → KeptOutside p q 0 rows_at → source_of q k ≡ source_of p k
source-same p q zero h = refl
source-same p q (suc r) h = ap view_block (h.above (rows_at + r * 5 + 0) (omega arith))

pub sources-kept : (table : Table) (p q : List ℕ) (n : ℕ) (bs : List Block) → length p ≡ plan_numbers → KeptOutside p q 0 rows_at → Sources table p n bs → Sources table q n bs
sources-kept table p q n bs s h d = record {
  count = d.count;
  low = λ k l. let e = source-same p q k h in let w = d.low k l in omega arith;
  numbers = λ k l.
      let w = d.low k l in
      subst (λ b. BlockNumbers (block_numbers q b) (block_size q b) (get_or bs k empty_block)) (sym (source-same p q k h))
      (subst (λ z. BlockNumbers (block_numbers q (source_of p k)) z (get_or bs k empty_block)) (sym (h.above (sizes_at + source_of p k) (omega arith)))
      (numbers-same p q (source_of p k) (λ z. BlockNumbers z (block_size p (source_of p k)) (get_or bs k empty_block)) s (h.same ∙ s) w (λ y g v. h.above y (omega arith)) (d.numbers k l)));
  fine = d.fine;
  few = d.few;
}

-- ---- one atom more

pub placed_same : (p q : List ℕ) (i : ℕ) (a : PlacedAtom) → ((c : ℕ) → c < 5 → get_or q (i * 5 + c) 0 ≡ get_or p (i * 5 + c) 0) → PlacedNumbers p i a → PlacedNumbers q i a
placed_same p q i a e h = record {
  relation = e 0 (omega arith) ∙ h.relation;
  terms = λ s c l.
      let z : i * 5 + 1 + c ≡ i * 5 + (1 + c) = omega arith in
      ap (slot_value s) (ap (λ y. get_or q y 0) z ∙ e (1 + c) (omega arith) ∙ ap (λ y. get_or p y 0) (sym z)) ∙ h.terms s c l;
}

-- what is left has room
pub stored-room : {p : List ℕ} {n : ℕ} {l left : List PlacedAtom} {a : PlacedAtom} → AtomsStored p n l (a ∷ left) → n < length l
stored-room {p} {n} {l} {left} {a} h =
    let e : length (drop n l) ≡ suc (length left) = ap length h.ahead in
    let d = length-drop n l in
    let w = h.within in
    omega arith

stored_at : {p : List ℕ} {n : ℕ} {l left : List PlacedAtom} {a : PlacedAtom} → AtomsStored p n l (a ∷ left) → get_or l n unplaced ≡ a
stored_at {p} {n} {l} {left} {a} h =
    let z : n ≡ n + 0 = omega arith in
    ap (λ i. get_or l i unplaced) z ∙ sym (get_or-drop n l 0 unplaced) ∙ ap (λ r. get_or r 0 unplaced) h.ahead

stored_more : (p q : List ℕ) (n : ℕ) (l left : List PlacedAtom) (a : PlacedAtom) → KeptOutside p q (n * 5) (n * 5 + 5) → PlacedNumbers q n a → AtomsStored p n l (a ∷ left) → AtomsStored q (n + 1) l left
stored_more p q n l left a kept here h = record {
  within = let r = stored-room h in omega arith;
  ahead = sym (drop-drop 1 n l) ∙ ap (drop 1) h.ahead;
  each = below_more (λ i. PlacedNumbers q i (get_or l i unplaced)) n
      (λ i lt. placed_same p q i _ (λ c f. kept.below (i * 5 + c) (omega arith)) (h.each i lt))
      (subst (PlacedNumbers q n) (sym (stored_at h)) here);
}

-- the terms of an atom, and then its relation
module _ (p q : List ℕ) (k rel from n : ℕ) (few : k ≤ most_rows) (size : length p ≡ plan_numbers) (room : n < tableau_atoms) (kept : KeptOutside p q (n * 5 + 1) (n * 5 + 1 + 4))
    (ts : (c : ℕ) → c < 4 → get_or q (n * 5 + 1 + c) 0 ≡ slot_of k (get_or p (from + 1 + c) 0)) where
  abbrev end : List ℕ
  end = set q (n * 5) rel

  end_kept : KeptOutside p end (n * 5) (n * 5 + 5)
  end_kept = kept_set p q (n * 5) (n * 5 + 5) (n * 5) rel (omega arith) (omega arith) (kept-wide p q (n * 5 + 1) (n * 5 + 1 + 4) (n * 5) (n * 5 + 5) (omega arith) (omega arith) kept)

  pub atom-kept : KeptOutside p end 0 rows_at
  atom-kept = kept-wide p end (n * 5) (n * 5 + 5) 0 rows_at (omega arith) (omega arith) end_kept

  atom-numbers : (a : Atom) → AtomAt p from a → PlacedNumbers end n (placed_atom k rel a)
  atom-numbers a h = record {
    relation = ap (λ y. get_or end y 0) (let e : n * 5 + 0 ≡ n * 5 = omega arith in e) ∙ get_or-set_same q (n * 5) rel 0 (let s = kept.same in omega arith);
    terms = λ s c f.
        let u = term_at a.terms c in
        let e : get_or end (n * 5 + 1 + c) 0 ≡ slot_of k (term_number u) = get_or-set_other q (n * 5) (n * 5 + 1 + c) rel 0 (λ g. absurd (omega arith)) ∙ ts c f ∙ ap (slot_of k) (h.terms c f) in
        ap (slot_value s) e ∙ slot-value s k u few (term-fine a.terms h.fine c);
  }

  pub atom-stored : (l left : List PlacedAtom) (a : Atom) → AtomAt p from a → AtomsStored p n l (placed_atom k rel a ∷ left) → AtomsStored end (n + 1) l left
  atom-stored l left a h d = stored_more p end n l left (placed_atom k rel a) end_kept (atom-numbers a h) d

-- an atom of a block stays where the tableau is written
pub atom-same : (p q : List ℕ) (from : ℕ) (a : Atom) → rows_at ≤ from → KeptOutside p q 0 rows_at → AtomAt p from a → AtomAt q from a
atom-same p q from a low k h = record {
  relation = k.above from low ∙ h.relation;
  terms = λ c f. k.above (from + 1 + c) (omega arith) ∙ h.terms c f;
  fine = h.fine;
}

-- an atom and what it owes, by whether it owes
pub owes_none : (table : Table) (k parent : ℕ) (a : Atom) (left : List PlacedAtom) → parent ≡ (relation table a.rel).parent → parent ≡ 0 → placed_in k (with_owed table a) ++ left ≡ placed_atom k a.rel a ∷ left
owes_none table k parent a left e z = ap (λ n. placed_in k (a ∷ owed_atoms n a.terms) ++ left) (sym e ∙ z)

pub owes_one : (table : Table) (k parent : ℕ) (a : Atom) (left : List PlacedAtom) → parent ≡ (relation table a.rel).parent → (parent ≡ 0 → ⊥) → placed_in k (with_owed table a) ++ left ≡ placed_atom k a.rel a ∷ (placed_atom k parent a ∷ left)
owes_one table k parent a left e ne = ap (λ n. placed_in k (a ∷ owed_atoms n a.terms) ++ left) (sym e) ∙ go parent ne
  where
    go : (n : ℕ) → (n ≡ 0 → ⊥) → placed_in k (a ∷ owed_atoms n a.terms) ++ left ≡ placed_atom k a.rel a ∷ (placed_atom k n a ∷ left)
    go zero some = absurd (some refl)
    go (suc n) some = refl

-- the first of the atoms that are left, and the others
pub own_first : (table : Table) (k j : ℕ) (own : List Atom) (left : List PlacedAtom) → j < length own
    → own_atoms table k (drop j own) ++ left ≡ placed_in k (with_owed table (atom_at own j)) ++ (own_atoms table k (drop (j + 1) own) ++ left)
own_first table k j own left lt =
    let a = atom_at own j in
    let rest = drop (suc j) own in
    ap (λ t. own_atoms table k t ++ left) (drop-cons own j (record { rel = 0; terms = [] }) lt)
    ∙ ap (λ t. t ++ left) (map_append (λ b. record { number = k; atom = b }) (with_owed table a) (gather (with_owed table) rest))
    ∙ append_assoc (placed_in k (with_owed table a)) (own_atoms table k rest) left
    ∙ ap (λ n. placed_in k (with_owed table a) ++ (own_atoms table k (drop n own) ++ left)) (sym (add-one j))

pub own-none : (table : Table) (k j : ℕ) (own : List Atom) (left : List PlacedAtom) → length own ≤ j → own_atoms table k (drop j own) ++ left ≡ left
own-none table k j own left le = ap (λ t. own_atoms table k t ++ left) (drop_of_length-le own le)

-- ---- one copy more

module _ (table : Table) (p : List ℕ) (n : ℕ) (bs : List Block) (k b : ℕ) (is : b ≡ source_of p k) (d : Sources table p n bs) (lt : k < length bs) where
  abbrev pub copy_block : Block
  copy_block = get_or bs k empty_block

  numbers : BlockNumbers (block_numbers p b) (block_size p b) copy_block
  numbers = subst (λ c. BlockNumbers (block_numbers p c) (block_size p c) copy_block) (sym is) (d.numbers k lt)

  pub copy-few : block_size p b ≤ most_atoms
  copy-few = numbers.few

  pub copy-size : block_size p b ≡ length copy_block.atoms
  copy-size = numbers.count

  pub copy-atoms : (j : ℕ) → j < block_size p b → AtomAt p (blocks_at + b * block_width + j * 5) (atom_at copy_block.atoms j)
  copy-atoms j l =
      let six = copy-few in
      let z = copy-size in
      let o = blocks_at + b * block_width in
      record {
        relation = sym (part_get p o block_width (j * 5) 0 (omega arith)) ∙ numbers.relation j l;
        terms = λ c f.
            let e : o + j * 5 + 1 + c ≡ o + (j * 5 + 1 + c) = omega arith in
            ap (λ y. get_or p y 0) e ∙ sym (part_get p o block_width (j * 5 + 1 + c) 0 (omega arith)) ∙ numbers.columns j l c f;
        fine = d.fine k lt (atom_at copy_block.atoms j) (at_in _ copy_block.atoms j (omega arith));
      }

-- what is left begins with the copy's atoms
pub copy-ahead : (table : Table) (k : ℕ) (bs : List Block) → k < length bs → atoms_from table k (drop k bs) ≡ own_atoms table k (get_or bs k empty_block).atoms ++ atoms_from table (suc k) (drop (suc k) bs)
copy-ahead table k bs lt = ap (atoms_from table k) (drop-cons bs k empty_block lt)

pub copies-start : (table : Table) (p : List ℕ) (bs : List Block) → TableauDone table p 0 0 bs
copies-start table p bs = record { within = omega arith; ahead = refl; each = λ i h. absurd (omega arith) }

-- how many atoms have been stored
pub copies_length : (table : Table) (p : List ℕ) (k m : ℕ) (bs : List Block) → TableauDone table p k m bs → length (atoms_from table 0 bs) ≡ m + length (atoms_from table k (drop k bs))
copies_length table p k m bs h =
    let a : length (drop m (atoms_from table 0 bs)) ≡ length (atoms_from table k (drop k bs)) = ap length h.ahead in
    let b = length-drop m (atoms_from table 0 bs) in
    let w = h.within in
    omega arith

-- all copies have been stored: all atoms are there
pub copies-all : (table : Table) (p : List ℕ) (k m : ℕ) (bs : List Block) → length bs ≤ k → TableauDone table p k m bs → m ≡ length (atoms_from table 0 bs)
copies-all table p k m bs le h =
    let a = copies_length table p k m bs h in
    let b : length (atoms_from table k (drop k bs)) ≡ 0 = ap (λ l. length (atoms_from table k l)) (drop_of_length-le bs le) in
    omega arith
