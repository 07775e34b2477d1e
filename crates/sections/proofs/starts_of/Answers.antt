-- `sections::starts_of`: the sections' bytes add up. Assumes nothing.
use Rattle.sections.proofs.Puts.{starts-made}
use Rattle.sections.proofs.starts_of.Goals as goal

pub returns : goal.returns
returns c = starts-made c.args.c
