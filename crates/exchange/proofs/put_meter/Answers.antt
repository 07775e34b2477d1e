-- `exchange::put_meter`: its place and its serial.
-- Assumes nothing.
use Rattle.exchange.proofs.Puts.{put_meter_lem}
use Rattle.exchange.proofs.put_meter.Goals as goal

pub returns : goal.returns
returns c =
    let a = c.args in
    rw (c.put32.ensures, c.put16.ensures)
    (put_meter_lem a.out.now a.at a.place a.serial)
