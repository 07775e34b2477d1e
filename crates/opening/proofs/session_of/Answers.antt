-- `opening::session_of`: the session is the one that `marks::opened` makes of the walk's two lists.
use Rattle.opening.proofs.session_of.Goals as goal

pub returns : goal.returns
returns c = c.opened.ensures
