-- What entering leaves and answers, as the code says it: the table, the header of the page found, and why it was mended.
use Rattle.rules.specs.Place.{Why}
use Rattle.std.specs.Prelude.{ℕ, List, [], ◌∷◌, Option, Some, None}
use Rattle.std.proofs.Math.Option as math
use Rattle.rules.specs.Page.{Page}
use Rattle.rules.specs.Enter as rules
use Rattle.head.specs.declared.Head.{Head}
use Rattle.head.proofs.Headers.{head_of}
use Rattle.enter.specs.declared.Above.{Above}
use Rattle.enter.specs.declared.Entered.{Entered}

pub record Entering : Type 0 where
  pub table : List ℕ
  pub answer : Option Entered

abbrev pub entering : List ℕ → Option Entered → Entering
entering t answer = record { table = t; answer = answer }

-- the numbers above; a child is never 0, so 0 stands for none
abbrev pub above_of : Above → List ℕ
above_of a = a.parent ∷ a.top ∷ []

-- the two answers: a page by its header, and none
abbrev pub found : Head → Why → Option Entered
found h r = Some (record { head = h; reason = r })

abbrev pub damaged : Option Entered
damaged = None

unfoldable pub answer_of : Why → math.Option Page → Option Entered
answer_of r math.none = damaged
answer_of r (math.some p) = found (head_of p) r

-- what the rules leave and find, where the page was lost for a reason
unfoldable pub told : Why → rules.Entered → Entering
told r x = record { table = x.table; answer = answer_of r x.page }
