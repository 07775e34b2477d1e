-- `dry::due_upper`: the first entry of the upper run, and those behind it. Assumes nothing.
use Rattle.dry.specs.Cursor.{due_upper}
use Rattle.dry.proofs.due_upper.Goals as goal

pub returns : goal.returns
unfolding due_upper
returns c = cc (c.place_in.ensures, c.rest_of.ensures)
