-- `seen::count_all`: a leaf has as many as its header says. Assumes nothing.
use Rattle.std.proofs.Common.{ap, ◌∙◌, arith}
use Rattle.head.specs.Head.{head_in}
use Rattle.seen.proofs.Counting.{all-leaf, all-inner}
use Rattle.seen.proofs.count_all.Goals as goal

pub returns-then-head-ne-LEAF : goal.returns-then-head-ne-LEAF
returns-then-head-ne-LEAF c = all-inner c.args.table.now c.args.page c.read_head-head.result (c.read_head-head.ensures ∙ ap head_in c.page_at.ensures.bytes) c.args.total c.if-head-ne-LEAF.true

pub returns : goal.returns
returns c = c.wrapping_add_u32.ensures.value ∙ all-leaf c.args.table.now c.args.page c.read_head-head.result (c.read_head-head.ensures ∙ ap head_in c.page_at.ensures.bytes) c.args.total (omega (arith, c.ranges.total)) c.if-head-ne-LEAF.false
