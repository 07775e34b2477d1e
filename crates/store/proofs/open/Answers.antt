-- `store::open` hands on what the call below promises. Assumes nothing.
use Rattle.store.proofs.open.Goals as goal

pub returns : goal.returns
returns c = c.open.ensures
