-- The session of an opening, from a total and marks instead of lists: one for each number that the tree names as child, one
-- for each previous page of a lost entry. The laws beside it say when this is the rules' `opened`.
use Rattle.std.specs.Prelude.{ℕ, Bool, false, not, ◌&&◌, List, get_or}
use Rattle.rules.specs.Marks.{begun, marks, is_page}
use Rattle.rules.specs.declared.Session.{Session}

abbrev pub free_at_opening : ℕ → List Bool → List Bool → ℕ → Bool
free_at_opening n children spared i = is_page n i && (not (get_or children i false) && not (get_or spared i false))

unfoldable pub opened_by : ℕ → ℕ → ℕ → List Bool → List Bool → Session
opened_by n c total children spared = begun n c total (marks (free_at_opening n children spared)) (marks (λ i. false))
