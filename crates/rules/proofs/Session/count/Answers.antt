-- `rules::Session::count`: the sum wraps. Assumes nothing.
use Rattle.rules.proofs.Session.count.Goals as goal

pub returns : goal.returns
returns c = rw c.wrapping_add_u32.ensures.value
