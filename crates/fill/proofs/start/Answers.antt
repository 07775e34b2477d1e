-- `fill::start`: no key is below 0; otherwise those below are those not above the number before. Assumes nothing.
use mathlib.Core.Path.{sym, ◌∙◌}
use Rattle.entries.specs.Spot.{keys_in, start_of}
use Rattle.rules.specs.Layout.{leaf_header, cert_size}
use Rattle.entries.proofs.Cut.{start-spot}
use native.Mathlib.Omega.{arith}
use borrow.Author.Rules.{rules}
use Rattle.fill.proofs.start.Goals as goal

pub returns-then-low-eq0 : goal.returns-then-low-eq0
unfolding start_of
returns-then-low-eq0 c = search rules

pub returns : goal.returns
returns c =
    let args = c.args in
    c.spot.ensures ∙ sym
    (start-spot args.low (keys_in leaf_header cert_size args.count args.page.now) (let o = c.if-low-eq0.false in omega arith))
