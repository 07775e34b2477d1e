-- `exchange::put_model`: its two bytes.
-- Assumes nothing.
use Rattle.exchange.proofs.Puts.{put_model_lem}
use Rattle.exchange.proofs.put_model.Goals as goal

pub returns : goal.returns
returns c =
    rw c.put16.ensures
    (put_model_lem c.args.out.now
    c.args.at c.args.model)
