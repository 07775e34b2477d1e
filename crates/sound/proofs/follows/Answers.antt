-- `sound::follows`: a key that stands behind the one before it, by what is asked of it besides. Assumes nothing.
use Rattle.std.proofs.Common.{sym, ◌∙◌, le-ltb, lt-ltb}
use Rattle.sound.proofs.follows.Goals as goal

pub returns-then-key-last : goal.returns-then-key-last
returns-then-key-last g c = sym (rw (le-ltb c.args.last c.args.key c.if-key-last.true))

pub returns : goal.returns
returns g c = c.good.ensures ∙ sym (rw (lt-ltb c.args.last c.args.key c.if-key-last.false))
