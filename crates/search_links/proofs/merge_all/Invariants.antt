use Rattle.std.proofs.Common.{drop}
use Rattle.case_verdicts.specs.Sheets.{top}
use Rattle.search_links.specs.Steps.{RootValues}
use Rattle.search_links.proofs.Rows.{ColumnsMet, Either}
use Rattle.search_links.proofs.merge_all.Given as goal

abbrev pub invariant-loop-c : goal.invariant-loop-c
invariant-loop-c l = RootValues top l.initial.ws l.u → RootValues top l.initial.ws l.r → ColumnsMet top (Either l.u l.r) l.initial.ws l.ws (drop l.c l.u) (drop l.c l.r)
