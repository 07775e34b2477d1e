-- `exports::delivered`: what a batch handed back, with the answer and the reason as numbers.
-- Assumes nothing.
use Rattle.exports.proofs.delivered.Goals as goal

pub returns : goal.returns
returns c = rw (c.number.ensures, c.reason.ensures)
