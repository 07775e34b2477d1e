-- `seen::place_in`: the entry at the run's first index, among those up to the run's end.
-- Assumes nothing.
use Rattle.seen.proofs.Spans.{place-kid}
use Rattle.seen.proofs.place_in.Goals as goal

pub returns : goal.returns
returns c = rw (c.kid.ensures, c.page_at-bytes.ensures.bytes) (place-kid c.args.table.now c.args.high c.args.r c.requires.1.1)
