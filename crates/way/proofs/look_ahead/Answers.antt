-- `way::look_ahead`: by the page's kind and count.
-- Assumes nothing.
use mathlib.Core.Path.{ap, ◌∙◌}
use Rattle.way.specs.Ahead.{ahead_of}
use Rattle.way.proofs.Ahead.{leaf-many, leaf-few, inner-many, inner-few}
use native.Mathlib.Omega.{arith}
use Rattle.way.proofs.look_ahead.Goals as goal

pub returns-then-count-gt-LEAF_ROOM : goal.returns-then-count-gt-LEAF_ROOM
returns-then-count-gt-LEAF_ROOM c =
    let args = c.args in
    let page = c.page_at-page in
    let count = c.get16-count in
    let kind = c.get16 in
    leaf-many args.key args.upto page.result.now kind.result count.result kind.ensures count.ensures c.if-get16-eq-LEAF.true c.if-count-gt-LEAF_ROOM.true
    ∙ ap (ahead_of args.key args.upto) page.ensures.bytes

pub returns-then-get16-eq-LEAF : goal.returns-then-get16-eq-LEAF
returns-then-get16-eq-LEAF c =
    let args = c.args in
    let page = c.page_at-page in
    let count = c.get16-count in
    let kind = c.get16 in
    (rw c.certs.ensures at c.guess.ensures)
    ∙ (leaf-few args.key args.upto page.result.now kind.result count.result kind.ensures count.ensures c.if-get16-eq-LEAF.true (omega (arith, c.if-count-gt-LEAF_ROOM.false))
    ∙ ap (ahead_of args.key args.upto) page.ensures.bytes)

pub returns-then-count-gt-INNER_ROOM : goal.returns-then-count-gt-INNER_ROOM
returns-then-count-gt-INNER_ROOM c =
    let args = c.args in
    let page = c.page_at-page in
    let count = c.get16-count in
    let kind = c.get16 in
    inner-many args.key args.upto page.result.now kind.result count.result kind.ensures count.ensures c.if-get16-eq-LEAF.false c.if-count-gt-INNER_ROOM.true
    ∙ ap (ahead_of args.key args.upto) page.ensures.bytes

pub returns : goal.returns
returns c =
    let args = c.args in
    let page = c.page_at-page in
    let count = c.get16-count in
    let kind = c.get16 in
    (rw c.children.ensures at c.guess-2.ensures)
    ∙ (inner-few args.key args.upto page.result.now kind.result count.result kind.ensures count.ensures c.if-get16-eq-LEAF.false (omega (arith, c.if-count-gt-INNER_ROOM.false))
    ∙ ap (ahead_of args.key args.upto) page.ensures.bytes)
