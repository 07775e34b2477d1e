-- `driver::write_pages`: the pages below i are as the crash leaves them, the others as they were.
use Rattle.std.proofs.Common.{◌≡◌, take}
use Rattle.rules.specs.Crash.{mix}
use Rattle.driver.proofs.write_pages.Given as goal

abbrev pub invariant-loop-i : goal.invariant-loop-i
invariant-loop-i l = l.stable ≡ mix (take l.i l.written) l.working l.initial.stable
