-- `build::run_in`: the run is found by two searches.
-- Assumes nothing.
use Rattle.entries.proofs.Layouts.{header-entries_of, size-entries_of, count-entries_of, keys-entries_of}
use Rattle.build.proofs.Built.{entries_fit}
use native.Mathlib.Omega.{arith}
use Rattle.build.proofs.run_in.Goals as goal

pub start-requires : goal.start-requires
start-requires c =
    let b = c.args.page.now in
    rw (c.of-entries.ensures, header-entries_of, size-entries_of, count-entries_of) (omega (arith, c.requires.page_len, entries_fit b c.requires.roomy))

pub spot-requires : goal.spot-requires
spot-requires c =
    let b = c.args.page.now in
    rw (c.of-entries.ensures, header-entries_of, size-entries_of, count-entries_of) (omega (arith, c.requires.page_len, entries_fit b c.requires.roomy))

pub returns : goal.returns
returns c = (rw (c.start.ensures, c.of-entries.ensures, keys-entries_of), rw (c.spot.ensures, c.of-entries.ensures, keys-entries_of))
