use Rattle.search_step.proofs.Heads.{heads-free}
use Rattle.search_step.proofs.settle.Goals as goal

pub loop-i-init : goal.loop-i-init
loop-i-init c = λ x r goal e. heads-free c.args.p.now x r goal c.args.ws.now c.requires e
