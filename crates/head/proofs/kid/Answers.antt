-- `head::kid`: what entry j says, up to where its range ends.
-- Assumes nothing.
use Rattle.rules.specs.Place.{place_of}
use Rattle.head.specs.Head.{entry_of, nowhere}
use Rattle.head.proofs.Kids.{kid_at}
use Rattle.head.proofs.kid.Goals as goal

pub returns : goal.returns
unfolding place_of entry_of
returns c =
    let args = c.args in
    rw
    (c.child_entry-entry.ensures, c.child_high.ensures, kid_at args.page.now args.count args.high args.want args.j nowhere c.requires.0)
