-- `dry::due_lower`: the first entry of the lower run, and those behind it. Assumes nothing.
use Rattle.dry.specs.Cursor.{due_lower}
use Rattle.dry.proofs.due_lower.Goals as goal

pub returns : goal.returns
unfolding due_lower
returns c = cc (c.place_in.ensures, c.rest_of.ensures)
