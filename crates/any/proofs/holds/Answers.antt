-- `any::holds`: the last certificate before the spot, if there is one. Assumes nothing.
use Rattle.std.proofs.Common.{ℕ, ◌-◌, List, ap, ◌∙◌}
use Rattle.head.specs.Head.{cert_at}
use Rattle.any.proofs.Leaf.{holds-none, holds-last}
use Rattle.rules.specs.Table.{page_at}
use Rattle.any.proofs.holds.Goals as goal

pub returns-then-spot-eq0 : goal.returns-then-spot-eq0
returns-then-spot-eq0 c =
    let args = c.args in
    holds-none args.low (page_at args.t.now args.i) args.spot c.if-spot-eq0.true

pub returns : goal.returns
returns c =
    let args = c.args in
    let if1 = c.if-spot-eq0 in
    holds-last args.low (page_at args.t.now args.i) args.spot c.cert_key.result if1.false
    (c.cert_key.ensures ∙ ap (λ (b : List ℕ). (cert_at b (args.spot - 1)).key) c.page_at.ensures.bytes)
