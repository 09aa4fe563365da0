use mathlib.Core.Path.{◌≡◌, refl, sym, ap, ◌∙◌}
use mathlib.Core.Logic.{⊎_elim}
use Prim.Native.Nat.{ℕ, ◌≤◌, ◌<◌, ◌-◌, ◌%◌, ◌+◌, ◌*◌}
use native.Mathlib.Omega.{arith}
use lib.ListN.{length, get_or}
use lib.ListN.{take}
use borrow.Author.Rules.{rules}
use Rattle.case_writer.proofs.Handing.{spare_free_in}
use Rattle.case_order.proofs.arrange.Reads as arrange-reads
use Rattle.case_minimization.proofs.shrink.Reads as shrink-reads
use Rattle.search_state.proofs.facts.Reads as facts-reads
use Rattle.case_writer.proofs.spare_free.Goals as goal

pub returns : goal.returns
returns c = let f = c.facts-n in
    let a = c.arrange-m in
    let k = c.shrink in
    λ x r good. spare_free_in c.args.p.now x r c.args.st.now good c.args.room.now f.new.out a.new.facts k.new.facts f.result a.result k.result c.requires f.auto.out a.auto.facts f.ensures a.ensures k.ensures
