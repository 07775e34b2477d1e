-- `sound::certs_pass`: the first certificate decides, or those behind it.
-- Assumes nothing.
use Rattle.std.proofs.Common.{arith}
use Rattle.sound.proofs.Certs.{no_cert, cert_below, cert_bad, certs-start}
use Rattle.sound.proofs.certs_pass.Goals as goal

pub returns-then-count-eq0 : goal.returns-then-count-eq0
returns-then-count-eq0 c =
    let a = c.args in
    no_cert a.page.now a.count a.low a.high c.if-count-eq0.true

pub returns-then-first-low : goal.returns-then-first-low
returns-then-first-low c =
    let a = c.args in
    cert_below a.page.now a.count a.low a.high c.cert_key-first.result (omega arith) c.cert_key-first.ensures c.if-first-low.true

pub returns-then-not-good_key : goal.returns-then-not-good_key
returns-then-not-good_key c =
    let a = c.args in
    cert_bad a.page.now a.count a.low a.high c.cert_key-first.result (omega arith) c.cert_key-first.ensures
    c.good_key.ensures c.if-not-good_key.true-raw

pub returns : goal.returns
returns c =
    let a = c.args in
    certs-start a.page.now a.count a.low a.high c.cert_key-first.result (omega arith) c.cert_key-first.ensures
    c.good_key.ensures c.if-first-low.false c.if-not-good_key.false-raw c.rises.ensures
