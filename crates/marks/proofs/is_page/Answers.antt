-- `marks::is_page`: the rules ask for 1 to n - 1; code asks whether a number above 0 is below n.
-- Assumes nothing.
use mathlib.Core.Path.{sym}
use borrow.Author.Tests.{lt-leb}
use Rattle.marks.proofs.Page.{no_page, page-below}
use Rattle.marks.proofs.is_page.Goals as goal

pub returns-then-i-ge1 : goal.returns-then-i-ge1
returns-then-i-ge1 c = sym (page-below c.args.n c.args.i c.if-i-ge1.true)

pub returns-else-i-ge1 : goal.returns-else-i-ge1
returns-else-i-ge1 c = rw (lt-leb 1 c.args.i c.if-i-ge1.false) (sym (no_page c.args.n c.args.i c.if-i-ge1.false))
