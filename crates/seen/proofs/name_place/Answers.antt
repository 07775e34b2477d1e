-- `seen::name_place`: the child is named; of a lost one the page that shows it is spared. Assumes nothing.
use Rattle.seen.proofs.Noting.{note-child, note-lost}
use Rattle.seen.specs.Note.{tally, seen_of}
use Rattle.seen.proofs.name_place.Goals as goal

pub returns-then-page-child : goal.returns-then-page-child
returns-then-page-child c total certs =
    let args = c.args in
    let marked = c.marked in
    rw (marked.ensures, c.mark.ensures)
    (note-child (seen_of (tally args.whole total) args.children.now args.spared.now) args.child args.page certs c.if-page-child.true)

pub returns : goal.returns
returns c total certs =
    let args = c.args in
    let marked = c.marked in
    let mark = c.mark in
    let if1 = c.if-page-child in
    rw (marked.ensures, mark.ensures, c.mark-2.ensures)
    (note-lost (seen_of (tally args.whole total) args.children.now args.spared.now) args.child args.page certs if1.false)
