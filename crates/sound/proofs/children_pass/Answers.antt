-- `sound::children_pass`: the first entry decides, or those behind it.
-- Assumes nothing.
use Rattle.std.proofs.Common.{arith}
use Rattle.sound.proofs.Children.{no_child, starts_elsewhere, starts_bad, starts_on}
use Rattle.sound.proofs.children_pass.Goals as goal

pub returns-then-count-eq0 : goal.returns-then-count-eq0
returns-then-count-eq0 c =
    let a = c.args in
    no_child a.page.now a.count a.low a.high a.n c.if-count-eq0.true

pub returns-then-first-low : goal.returns-then-first-low
returns-then-first-low c =
    let a = c.args in
    starts_elsewhere a.page.now a.count a.low a.high a.n c.child_key-first.result (omega arith)
    c.child_key-first.ensures c.if-first-low.true

pub returns-then-not-names_pages : goal.returns-then-not-names_pages
returns-then-not-names_pages c =
    let a = c.args in
    starts_bad a.page.now a.count a.low a.high a.n c.child_key-first.result (omega arith)
    c.child_key-first.ensures c.names_pages.ensures c.if-not-names_pages.true-raw

pub returns : goal.returns
returns c =
    let a = c.args in
    starts_on a.page.now a.count a.low a.high a.n c.child_key-first.result (omega arith)
    c.child_key-first.ensures c.names_pages.ensures c.if-first-low.false c.if-not-names_pages.false-raw c.rises.ensures
