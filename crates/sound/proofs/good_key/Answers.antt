-- `sound::good_key`: the parts of the key, one by one.
-- Assumes nothing.
use Rattle.sound.proofs.GoodKey.{no_model, no_serial, by_issue}
use Rattle.sound.proofs.good_key.Goals as goal

pub returns-then-key-lt-MODEL : goal.returns-then-key-lt-MODEL
returns-then-key-lt-MODEL c = no_model c.args.key c.if-key-lt-MODEL.true

pub returns-then-key-eq0 : goal.returns-then-key-eq0
returns-then-key-eq0 c = no_serial c.args.key c.if-key-eq0.true

pub returns : goal.returns
returns c = by_issue c.args.key c.if-key-lt-MODEL.false c.if-key-eq0.false
