-- `fill::spot`: a key at either end tells the spot without halving.
-- Assumes nothing.
use Rattle.fill.proofs.Spots.{spot-none, spot-start, spot-end}
use native.Mathlib.Omega.{arith}
use Rattle.fill.proofs.spot.Goals as goal

pub returns-then-count-eq0 : goal.returns-then-count-eq0
returns-then-count-eq0 c =
    let args = c.args in
    spot-none args.page.now args.count args.key c.if-count-eq0.true

pub returns-then-cert_key-key : goal.returns-then-cert_key-key
returns-then-cert_key-key c =
    let args = c.args in
    let cert-key = c.cert_key in
    spot-start args.page.now args.count args.key (let o = c.if-count-eq0.false in omega arith)
    cert-key.result cert-key.ensures c.if-cert_key-key.true

pub returns-then-cert_key-key-2 : goal.returns-then-cert_key-key-2
returns-then-cert_key-key-2 c =
    let args = c.args in
    let pre = c.requires in
    let if1 = c.if-count-eq0 in
    let cert-key2 = c.cert_key-2 in
    spot-end args.page.now args.count args.key pre.2 (let o = if1.false in omega arith)
    cert-key2.result cert-key2.ensures c.if-cert_key-key-2.true
