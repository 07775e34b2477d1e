-- `leaves::holding`: one test, since the root holds every key.
-- Assumes nothing.
use mathlib.Core.Path.{ap, ◌∙◌}
use Rattle.head.specs.Head.{head_in}
use Rattle.leaves.proofs.Heads.{holding-none, holding-here, holding-past}
use Rattle.leaves.proofs.holding.Goals as goal

pub returns-then-cursor-eq0 : goal.returns-then-cursor-eq0
returns-then-cursor-eq0 c =
    let args = c.args in
    holding-none args.key args.t.now args.cursor c.if-cursor-eq0.true

pub page_at-requires : goal.page_at-requires
page_at-requires c =
    let pre = c.requires in
    pre c.if-cursor-eq0.false

pub returns-then-holds : goal.returns-then-holds
returns-then-holds c =
    let args = c.args in
    let if1 = c.if-cursor-eq0 in
    let head = c.read_head-head.ensures ∙ ap head_in c.page_at.ensures.bytes in
    holding-here args.key args.t.now args.cursor if1.false c.read_head-head.result head
    c.holds.result c.holds.ensures c.if-holds.true

pub returns : goal.returns
returns c =
    let args = c.args in
    let if1 = c.if-cursor-eq0 in
    let head = c.read_head-head.ensures ∙ ap head_in c.page_at.ensures.bytes in
    holding-past args.key args.t.now args.cursor if1.false c.read_head-head.result head
    c.holds.result c.holds.ensures c.if-holds.false
