-- `dry::next_spot`: the lower run, the upper one, the root, or none. Assumes nothing.
use native.Mathlib.Omega.{arith}
use Rattle.dry.proofs.Turns.{due_low, due_up, due_first, due_none}
use Rattle.dry.proofs.next_spot.Goals as goal

pub due_lower-requires : goal.due_lower-requires
due_lower-requires c = (c.requires.lower, omega (arith, c.if-c-ne0.true))

pub returns-then-c-ne0 : goal.returns-then-c-ne0
returns-then-c-ne0 c = due_low c.args.table.bytes.now c.args.c c.if-c-ne0.true c.due_lower.result c.due_lower.ensures

pub due_upper-requires : goal.due_upper-requires
due_upper-requires c = (c.requires.upper, omega (arith, c.if-c-ne0-2.true))

pub returns-then-c-ne0-2 : goal.returns-then-c-ne0-2
returns-then-c-ne0-2 c =
    due_up c.args.table.bytes.now c.args.c c.if-c-ne0.false c.if-c-ne0-2.true c.due_upper.result c.due_upper.ensures

pub due_root-requires : goal.due_root-requires
due_root-requires c = omega (arith, c.requires.root_names)

pub returns-then-c : goal.returns-then-c
returns-then-c c =
    due_first c.args.table.bytes.now c.args.c c.if-c-ne0.false c.if-c-ne0-2.false c.if-c.true c.due_root.result
    c.due_root.ensures

pub returns : goal.returns
returns c = due_none c.args.table.bytes.now c.args.c c.if-c-ne0.false c.if-c-ne0-2.false c.if-c.false
