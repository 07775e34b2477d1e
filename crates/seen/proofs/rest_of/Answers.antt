-- `seen::rest_of`: by computing. Assumes nothing.
use Rattle.std.proofs.Common.{refl}
use Rattle.seen.proofs.rest_of.Goals as goal

pub returns : goal.returns
returns c = refl
