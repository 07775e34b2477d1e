-- `lookup::find_on`: the entry before the spot has the key, or none has.
-- Assumes nothing.
use mathlib.Core.Path.{ap, ◌∙◌}
use Rattle.lookup.specs.Looks.{found_before}
use Rattle.lookup.proofs.Leaf.{first-missing, other-missing, found_here}
use Rattle.rules.specs.Table.{page_at}
use Rattle.lookup.proofs.find_on.Goals as goal

pub returns-then-spot-eq0 : goal.returns-then-spot-eq0
returns-then-spot-eq0 c =
    let args = c.args in
    first-missing (page_at args.table.now args.i) args.key args.spot c.if-spot-eq0.true

pub returns-then-cert_key-key : goal.returns-then-cert_key-key
returns-then-cert_key-key c =
    let args = c.args in
    let page = c.page_at-page in
    let cert-key = c.cert_key in
    other-missing page.result.now args.key args.spot cert-key.result c.if-spot-eq0.false cert-key.ensures c.if-cert_key-key.true
    ∙ ap (found_before args.key args.spot) page.ensures.bytes

pub returns : goal.returns
returns c =
    let args = c.args in
    let page = c.page_at-page in
    let cert-key = c.cert_key in
    let cert-record = c.cert_record in
    found_here page.result.now args.key args.spot cert-key.result cert-record.result c.if-spot-eq0.false cert-key.ensures c.if-cert_key-key.false cert-record.ensures
    ∙ ap (found_before args.key args.spot) page.ensures.bytes
