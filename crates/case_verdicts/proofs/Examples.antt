-- The table of examples holds.
use mathlib.Core.Path.{◌≡◌, refl}
use mathlib.Core.Bool.{true}
use Rattle.sheet_format.specs.Cause.{kind_of, atoms}
use Rattle.query_meaning.specs.Meaning.{In}
use Rattle.query_meaning.specs.Blocks.{rows, blocks}
use Rattle.case_verdicts.specs.Table.{relation}
use Rattle.case_verdicts.specs.Accepted.{width}
use Rattle.case_verdicts.specs.Tableau.{tableau_log}
use Rattle.case_verdicts.specs.Examples.{Entry, Says, examples}
use Rattle.case_verdicts.proofs.Tables.{ten-sound}
use Rattle.case_verdicts.proofs.Measure.{measure}
use Rattle.case_verdicts.proofs.Run.{search_from}
use Rattle.case_verdicts.proofs.Tests.{Onlys, all_pass, each_says}
use Rattle.case_verdicts.proofs.Shown.{whole_shows, straps_show, ticks_show}

-- every table is the ten relations; the three with verdict 1 have more to show
abbrev examples-only : Onlys examples
examples-only = ((ten-sound, whole_shows), ((ten-sound, tt), ((ten-sound, tt), ((ten-sound, tt), ((ten-sound, straps_show), ((tt, tt), ((ten-sound, tt), ((tt, tt), ((ten-sound, tt), ((ten-sound, ticks_show), ((ten-sound, tt), ((tt, tt), ((tt, tt), ((tt, tt), ((tt, tt), ((ten-sound, tt), ((tt, tt), tt)))))))))))))))))

examples_pass : all_pass examples examples-only ≡ true
unfolding kind_of atoms rows blocks relation width tableau_log search_from measure
examples_pass = refl

pub examples_hold : (e : Entry) → In e examples → Says e
examples_hold = each_says examples examples-only examples_pass
