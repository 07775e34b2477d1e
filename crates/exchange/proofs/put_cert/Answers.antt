-- `exchange::put_cert`: its place, its issue and its record.
-- Assumes nothing.
use Rattle.exchange.proofs.Puts.{put_cert_lem}
use Rattle.exchange.proofs.put_cert.Goals as goal

pub returns : goal.returns
returns c =
    let a = c.args in
    rw (
      c.put32-2.ensures,
      c.put16.ensures,
      c.put32.ensures,
    )
    (put_cert_lem a.out.now a.at a.place a.issue a.«record»)
