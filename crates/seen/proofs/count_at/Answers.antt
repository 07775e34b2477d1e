-- `seen::count_at`: of a place's own child nothing is cut off. Assumes nothing.
use Rattle.std.proofs.Common.{List, sym, ap, ◌∙◌}
use Rattle.rules.specs.Entry.{Cert}
use Rattle.seen.specs.Note.{count_on}
use Rattle.seen.proofs.count_at.Goals as goal

pub returns-then-page-e : goal.returns-then-page-e
returns-then-page-e c = c.count_all.ensures ∙ ap (λ (xs : List Cert). count_on c.args.total xs) (sym (c.requires.own c.if-page-e.true))
