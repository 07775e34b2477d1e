-- The lowest free numbers, as code looks for them.
use Rattle.std.specs.Prelude.{ℕ, ◌-◌, Bool, false, not, ◌&&◌, List, [], ◌∷◌, get_or, Option, Some, None}
use Rattle.rules.specs.Test.{mem}
use Rattle.rules.specs.Marks.{numbers_from}
use Rattle.rules.specs.declared.Session.{Session}

-- how many new pages an insert can need: two for each of three levels, and a root
abbrev pub most_new : ℕ
most_new = 7

-- page 0 and the entered pages never count as free
abbrev pub counts_free : Session → List ℕ → ℕ → Bool
counts_free s entered i = get_or s.free i false && not (mem i entered)

-- the rules' free_pages, from any number up
unfoldable pub free_from : Session → List ℕ → ℕ → List ℕ
free_from s entered i = numbers_from (counts_free s entered) i (s.n - i)

unfoldable pub first_of : List ℕ → Option ℕ
first_of [] = None
first_of (i ∷ is) = Some i
