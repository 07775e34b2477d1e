-- `driver::crash_line` meets its contract. Assumes nothing.
use Rattle.std.proofs.Common.{ap, ◌∙◌}
use Rattle.rules.specs.Open.{opening}
use Rattle.driver.specs.Acts.{told, opened_reply}
use Rattle.driver.proofs.Mixing.{crashed_not, crashed-mix}
use Rattle.driver.proofs.crash_line.Goals.{then-session-ne0, else-session-ne0}
use Rattle.driver.proofs.crash_line.Goals as goal

pub returns : goal.returns
returns c =
    let args = c.args in
    rw c.number.ensures
    (ap (told opened_reply) (c.open-left.ensures ∙ ap (opening args.working.now)
    (elim c.if-session-ne0.branch [
      | then-session-ne0 w ↦ w.stable-is ∙ w.write_pages.ensures ∙ crashed-mix args.written args.session.n args.working.now args.stable.now w.if-session-ne0.true
      | else-session-ne0 w ↦ w.stable-is ∙ crashed_not args.written args.session.n args.working.now args.stable.now w.if-session-ne0.false
    ])))
