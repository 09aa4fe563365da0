use borrow.Author.Rules.{rules}
use Rattle.search_node.proofs.Sets.{put_full}
use Rattle.search_node.proofs.fill.Goals as goal

pub returns : goal.returns
returns c = let a = c.args in (put_full a.set.now c.put.ensures, c.put.ensures.same)
