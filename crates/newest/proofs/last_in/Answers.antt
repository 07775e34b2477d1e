-- `newest::last_in`: the certificate before the spot, if it is asked for. Assumes nothing.
use Rattle.newest.proofs.Leaf.{last_none, last-below, last-here}
use Rattle.newest.proofs.last_in.Goals as goal

pub returns-then-spot-eq0 : goal.returns-then-spot-eq0
returns-then-spot-eq0 c =
    let args = c.args in
    last_none args.low args.page.now args.newest args.spot c.if-spot-eq0.true

pub returns-then-key-low : goal.returns-then-key-low
returns-then-key-low c =
    let args = c.args in
    let cert-key = c.cert_key-key in
    last-below args.low args.page.now args.newest args.spot cert-key.result
    c.if-spot-eq0.false cert-key.ensures c.if-key-low.true

pub returns : goal.returns
returns c =
    let args = c.args in
    let cert-key = c.cert_key-key in
    let cert-record = c.cert_record-record in
    last-here args.low args.page.now args.newest args.spot cert-key.result
    c.if-spot-eq0.false cert-key.ensures c.if-key-low.false cert-record.result cert-record.ensures
