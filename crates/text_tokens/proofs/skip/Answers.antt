use Rattle.text_tokens.proofs.Tokens.{skipped}
use Rattle.text_tokens.proofs.skip.Goals as goal

pub returns : goal.returns
returns c = let b = c.blanks in skipped c.args.text.now c.args.at b.result c.requires b.ensures.0 b.ensures.1
