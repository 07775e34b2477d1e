-- `sections::put_cert`: its meter's place, its issue and its record. Assumes nothing.
use Rattle.sections.specs.Puts.{put_cert}
use Rattle.sections.proofs.put_cert.Goals as goal

pub returns : goal.returns
unfolding put_cert
returns c = rw (c.put_cert.ensures, c.saturating_sub-place.ensures)
