-- Parts of a plan, and single stores. Assumes nothing.
use mathlib.Core.Path.{◌≡◌, refl, sym, ap, ◌∙◌}
use mathlib.Core.List.{List}
use Prim.Native.Nat.{ℕ, zero, suc, ◌+◌, ◌-◌, ◌*◌, ◌<◌, ◌≤◌}
use native.Mathlib.Omega.{arith}
use lib.ListN.{length, get_or, take, drop, set, length-set, length-drop}
use lib.Seq.{get_or-set_same, get_or-set_other, get_or-drop, ext_get_or}
use Rattle.query_layout.specs.Layout.{block_width}
use Rattle.sheet_format.specs.Limits.{table_number_count}
use Rattle.sheet_format.specs.Table.{table_in}
use Rattle.tableau_plan.specs.Plan.{plan_table}
use Rattle.tableau_layout.specs.Layout.{asked_size_at, blocks_at, list_count_at, most_blocks, plan_numbers, row_count_at, rows_at, sizes_at, table_at, tableau_size_at, view_block, view_count_at}
use Rattle.list_laws.proofs.Lists.{part_get, part_length}
use Rattle.tableau_plan.specs.Parts.{KeptOutside, BlockStored, source_of, Closed}

-- ---- parts

pub part_same : (p q : List ℕ) (o n : ℕ) → o + n ≤ length p → length q ≡ length p → ((y : ℕ) → o ≤ y → y < o + n → get_or q y 0 ≡ get_or p y 0) → take n (drop o q) ≡ take n (drop o p)
part_same p q o n h s e =
    let a = part_length p o n h in
    let b = part_length q o n (omega arith) in
    ext_get_or 0 (take n (drop o q)) (take n (drop o p)) (b ∙ sym a)
    (λ i k. part_get q o n i 0 (omega arith) ∙ e (o + i) (omega arith) (omega arith) ∙ sym (part_get p o n i 0 (omega arith)))

-- ---- the block of a copy

pub source_first : (p : List ℕ) (k : ℕ) → k ≡ 0 → 0 ≡ source_of p k
source_first p k e = sym (ap (source_of p) e)

pub source_row : (p : List ℕ) (k : ℕ) → (k ≡ 0 → ⊥) → view_block (get_or p (rows_at + (k - 1) * 5) 0) ≡ source_of p k
source_row p zero ne = absurd (ne refl)
source_row p (suc r) ne =
    let e : rows_at + (suc r - 1) * 5 ≡ rows_at + r * 5 + 0 = omega arith in
    let f = ap (λ y. get_or p y 0) e in
    omega arith

-- ---- single stores

-- a block's numbers, and then its size
pub block-put : (p q : List ℕ) (b n : ℕ) (blk : List ℕ) → b < most_blocks → length p ≡ plan_numbers → KeptOutside p q (blocks_at + b * block_width) (blocks_at + b * block_width + block_width) → ((x : ℕ) → x < block_width → get_or q (blocks_at + b * block_width + x) 0 ≡ get_or blk x 0)
    → BlockStored p (set q (sizes_at + b) n) b n blk
block-put p q b n blk lt s k e = record {
  long = length-set q (sizes_at + b) n ∙ k.same ∙ s;
  kept = λ y h. get_or-set_other q (sizes_at + b) y n 0 (λ g. absurd (omega arith)) ∙ k.below y h;
  sizes = λ c h. get_or-set_other q (sizes_at + b) (sizes_at + c) n 0 (λ g. absurd (omega arith)) ∙ k.above (sizes_at + c) (omega arith);
  numbers = λ x h. get_or-set_other q (sizes_at + b) (blocks_at + b * block_width + x) n 0 (λ g. absurd (omega arith)) ∙ e x h;
  size = let l = k.same in get_or-set_same q (sizes_at + b) n 0 (omega arith);
}

-- the five counts
module _ (p : List ℕ) (a k l n v : ℕ) (s : length p ≡ plan_numbers) where
  one : List ℕ
  one = set p tableau_size_at a

  two : List ℕ
  two = set one asked_size_at k

  three : List ℕ
  three = set two row_count_at l

  four : List ℕ
  four = set three view_count_at v

  five : List ℕ
  five = set four list_count_at n

  counted : (length one ≡ plan_numbers) × (length two ≡ plan_numbers) × (length three ≡ plan_numbers) × (length four ≡ plan_numbers) × (length five ≡ plan_numbers)
  unfolding one two three four five
  counted =
      let a1 = length-set p tableau_size_at a ∙ s in
      let a2 = length-set one asked_size_at k ∙ a1 in
      let a3 = length-set two row_count_at l ∙ a2 in
      let a4 = length-set three view_count_at v ∙ a3 in
      (a1, a2, a3, a4, length-set four list_count_at n ∙ a4)

  -- what the last stores leave as it was
  past_two : (y : ℕ) → y < row_count_at → get_or five y 0 ≡ get_or two y 0
  unfolding one two three four five
  past_two y h =
      get_or-set_other four list_count_at y n 0 (λ g. absurd (omega arith))
      ∙ get_or-set_other three view_count_at y v 0 (λ g. absurd (omega arith))
      ∙ get_or-set_other two row_count_at y l 0 (λ g. absurd (omega arith))

  pub closed : Closed p (set (set (set (set (set p tableau_size_at a) asked_size_at k) row_count_at l) view_count_at v) list_count_at n) a k l n v
  unfolding one two three four five
  closed =
      let m = counted in
      record {
        same = m.4 ∙ sym s;
        kept = λ y h. past_two y (omega arith) ∙ get_or-set_other one asked_size_at y k 0 (λ g. absurd (omega arith)) ∙ get_or-set_other p tableau_size_at y a 0 (λ g. absurd (omega arith));
        atoms_is = past_two tableau_size_at (omega arith) ∙ get_or-set_other one asked_size_at tableau_size_at k 0 (λ g. absurd (omega arith)) ∙ get_or-set_same p tableau_size_at a 0 (omega arith);
        asked_is = past_two asked_size_at (omega arith) ∙ get_or-set_same one asked_size_at k 0 (omega arith);
        listed_is = get_or-set_other four list_count_at row_count_at n 0 (λ g. absurd (omega arith)) ∙ get_or-set_other three view_count_at row_count_at v 0 (λ g. absurd (omega arith)) ∙ get_or-set_same two row_count_at l 0 (omega arith);
        lists_is = get_or-set_same four list_count_at n 0 (omega arith);
        views_is = get_or-set_other four list_count_at view_count_at n 0 (λ g. absurd (omega arith)) ∙ get_or-set_same three view_count_at v 0 (omega arith);
      }

-- the counts stay where the table is written behind them
pub closed-kept : (p q r : List ℕ) (a k l n v : ℕ) → Closed p q a k l n v → KeptOutside q r table_at (table_at + table_number_count) → Closed p r a k l n v
closed-kept p q r a k l n v c h = record {
  same = h.same ∙ c.same;
  kept = λ y lt. h.below y (omega arith) ∙ c.kept y lt;
  atoms_is = h.below tableau_size_at (omega arith) ∙ c.atoms_is;
  asked_is = h.below asked_size_at (omega arith) ∙ c.asked_is;
  listed_is = h.below row_count_at (omega arith) ∙ c.listed_is;
  lists_is = h.below list_count_at (omega arith) ∙ c.lists_is;
  views_is = h.below view_count_at (omega arith) ∙ c.views_is;
}

-- the table's numbers at their place are the table
pub table-stands : (p table : List ℕ) → length p ≡ plan_numbers → length table ≡ table_number_count → ((x : ℕ) → x < table_number_count → get_or p (table_at + x) 0 ≡ get_or table x 0) → table_in table ≡ plan_table p
table-stands p table long size each =
    ap table_in (sym (ext_get_or 0 (drop table_at p) table (let d = length-drop table_at p in omega arith) (λ x lt. get_or-drop table_at p x 0 ∙ each x (let d = length-drop table_at p in omega arith))))
