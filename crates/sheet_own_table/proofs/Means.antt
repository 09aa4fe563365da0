-- The library's own table is not refused, and means the ten relations.
use mathlib.Core.Path.{◌≡◌, refl, sym, ap, ◌∙◌}
use mathlib.Core.Bool.{true, ◌&&◌}
use mathlib.Core.List.{List, [], ◌∷◌, map}
use Prim.Native.Nat.{ℕ}
use lib.Dec.{leb}
use lib.ListN.{length}
use borrow.Author.Tests.{leb-true}
use Rattle.sheet_format.specs.Limits.{most_fields}
use Rattle.sheet_format.specs.Table.{relation, table_by, table_in, ten}
use Rattle.sheet_format.specs.Field.{fits}
use Rattle.sheet_format.specs.Line.{Line, all, byte_lines}
use Rattle.sheet_format.specs.Cause.{none}
use Rattle.sheet_format.proofs.Lists.{both}
use Rattle.sheet_format.proofs.Good.{Goods}
use Rattle.sheet_format.proofs.LineLaws.{bytes_back}
use Rattle.sheet_table.specs.Tables.{relation_on_line, line_right, lines_refusal, table_refusal, relations_of, table_of}
use Rattle.sheet_table.specs.Loads.{Loads}
use Rattle.sheet_own_table.specs.Own.{own_lines, own_bytes}

goods_by : (ls : List Line) → all (λ l. leb (length l) most_fields && all fits l) ls ≡ true → Goods ls
goods_by [] e = tt
goods_by (l ∷ ls) e =
    let (a, b) = both (leb (length l) most_fields && all fits l) (all (λ l. leb (length l) most_fields && all fits l) ls) e in
    let (x, y) = both (leb (length l) most_fields) (all fits l) a in
    (record { few = leb-true (length l) most_fields x; fitting = y }, goods_by ls b)

own-lines : byte_lines own_bytes ≡ own_lines
unfolding own_bytes
own-lines = bytes_back own_lines (goods_by own_lines refl) refl

pub own-passes : table_refusal own_bytes ≡ none
unfolding table_refusal lines_refusal line_right relation
own-passes = rw own-lines

pub own_means : table_of own_bytes ≡ ten
unfolding table_of relations_of
own_means = ap (λ ls. table_by (map relation_on_line ls)) own-lines

-- plain numbers that give the ten relations are the table's own
pub own_loads : (ns : List ℕ) → table_in ns ≡ ten → Loads own_bytes (record { number = 0; line = 0; numbers = ns })
own_loads ns e = record { number = ap (λ r. r.number) (sym own-passes); line = ap (λ r. r.line) (sym own-passes); table = λ z. e ∙ sym own_means }
