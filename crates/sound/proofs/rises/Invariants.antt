-- `sound::rises`: before each round the answer is what is left to test after the last key.
-- Assumes nothing.
use Rattle.std.proofs.Common.{◌≡◌, ◌-◌, ◌≤◌}
use Rattle.sound.proofs.Rising.{ahead}
use Rattle.sound.proofs.rises.Given as goal

abbrev pub invariant-loop-j : goal.invariant-loop-j
invariant-loop-j g l =
    (1 ≤ l.j) × (l.j ≤ l.count)
    × (ahead (g.K.Kind.key_at l.page) (g.K.Kind.good_at l.kind l.page) l.high l.count l.first 1
    ≡ ahead (g.K.Kind.key_at l.page) (g.K.Kind.good_at l.kind l.page) l.high l.count l.last l.j)

abbrev pub decreases-loop-j : goal.decreases-loop-j
decreases-loop-j g l = l.count - l.j
