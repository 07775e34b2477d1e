-- `sound::has_key`: before each turn the answer is whether the key is among the entries left.
-- Assumes nothing.
use Rattle.std.proofs.Common.{◌≡◌}
use Rattle.sound.proofs.Mending.{sought, sought_from}
use Rattle.sound.proofs.has_key.Given as goal

abbrev pub invariant-loop-j : goal.invariant-loop-j
invariant-loop-j l = sought l.page l.count l.key ≡ sought_from l.page l.count l.key l.j
