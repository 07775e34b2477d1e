-- `dry::KeyRange::holds`: both ends of a range. Assumes nothing.
use mathlib.Core.Path.{sym}
use borrow.Author.Tests.{le-leb}
use native.Mathlib.Omega.{arith}
use Rattle.rules.specs.Test.{between}
use Rattle.rules.proofs.Entries.Tests.{between-below}
use Rattle.dry.proofs.KeyRange.holds.Goals as goal

pub returns-then-key-self : goal.returns-then-key-self
returns-then-key-self c = sym (between-below c.args.self.low c.args.self.high c.args.key c.if-key-self.true)

pub returns : goal.returns
unfolding between
returns c = sym (rw (between, le-leb c.args.self.low c.args.key (omega (arith, c.if-key-self.false))))
