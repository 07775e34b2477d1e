-- `driver::act`: an insert and a find hand on what the call reported. Assumes nothing.
use Rattle.std.proofs.Common.{ap}
use Rattle.rules.specs.Report.{Reported}
use Rattle.rules.specs.Reports.{insert_reported, lookup_reported}
use Rattle.rules.specs.Call.{Left}
use Rattle.rules.specs.Answer.{Inserted, Looked}
use Rattle.driver.specs.Acts.{told, inserted_reply, looked_reply}
use Rattle.driver.proofs.act.Goals as goal

pub returns-in-Insert : goal.returns-in-Insert
unfolding insert_reported
returns-in-Insert c = rw (c.in-Insert.is, c.number.ensures) (ap (λ (y : Reported (Left Inserted)). told inserted_reply y.left) c.insert-left.ensures)

pub returns-in-Find : goal.returns-in-Find
unfolding lookup_reported
returns-in-Find c = rw (c.in-Find.is, c.looked_reply.ensures) (ap (λ (y : Reported (Left Looked)). told looked_reply y.left) c.lookup-left.ensures)
