-- `store::insert` hands on what the call below promises. Assumes nothing.
use Rattle.store.proofs.insert.Goals as goal

pub returns : goal.returns
returns c = c.insert.ensures
