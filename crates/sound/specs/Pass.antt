-- Parts of the rules' tests, as the code divides them.
use Rattle.std.specs.Prelude.{ℕ, zero, suc, ◌+◌, ◌-◌, Bool, not, ◌&&◌, ◌||◌, List, [], ◌∷◌, ◌==◌, nat_lt, nat_le}
use Rattle.rules.specs.Test.{between, every, all, mem}
use Rattle.rules.specs.Key.{good_key}
use Rattle.rules.specs.Entry.{Cert, Child, keys}
use Rattle.rules.specs.Sound.{starts_at, names_pages, in_order, sound}
use Rattle.rules.specs.Page.{Page, is_leaf}
use Rattle.rules.specs.Place.{kind_asked}
use Rattle.rules.specs.declared.Place.{Place}

-- what soundness asks of a page's entries beside their number: a leaf's certificates, an inner page's children
unfoldable pub certs_pass : ℕ → ℕ → List Cert → Bool
certs_pass low high xs = in_order low high (keys xs) && all (λ x. good_key x.key) xs

unfoldable pub children_pass : ℕ → ℕ → ℕ → List Child → Bool
children_pass n low high xs = starts_at low xs && (in_order low high (keys xs) && all (names_pages n) xs)

-- what is left to test behind an entry with the key `last`: so many entries from an index on, by their keys and whether
-- each is good
unfoldable pub risen_on : (ℕ → ℕ) → (ℕ → Bool) → ℕ → ℕ → ℕ → ℕ → Bool
risen_on key good high last zero j = nat_le last high
risen_on key good high last (suc k) j = nat_lt last (key j) && (good j && risen_on key good high (key j) k (j + 1))

-- what mending asks of the numbers in a place, and what it asks of the previous page
unfoldable pub names_previous : ℕ → Place → Bool
names_previous n e = between 1 (n - 1) e.previous && not (e.previous == e.child)

unfoldable pub covers : ℕ → Place → Page → Bool
covers n e q =
    every
    (sound n q
    ∷ kind_asked e.want q.view.kind
    ∷ nat_le q.low e.low
    ∷ nat_le e.high q.high
    ∷ (is_leaf q.view || mem e.low (keys q.view.children))
    ∷ [])
