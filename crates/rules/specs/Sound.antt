-- When a page is sound, whoever asks for it.
use Rattle.std.specs.Prelude.{ℕ, ◌-◌, Bool, false, ◌&&◌, ◌||◌, List, [], ◌∷◌, length, ◌==◌, nat_le, nat_lt}
use Rattle.rules.specs.Layout.{leaf_room, inner_room, leaf_kind, top_kind}
use Rattle.rules.specs.Test.{between, every, all}
use Rattle.rules.specs.Key.{good_key}
use Rattle.rules.specs.Entry.{Child, keys, rising}
use Rattle.rules.specs.Page.{Page, is_leaf}

-- the first child starts at the page's low, so there is one at least
unfoldable pub starts_at : ℕ → List Child → Bool
starts_at low [] = false
starts_at low (x ∷ xs) = x.key == low

-- children name a page other than 0; previous may be 0, for none
unfoldable pub names_pages : ℕ → Child → Bool
names_pages n x = between 1 (n - 1) x.value.child && nat_lt x.value.previous n

-- keys strictly rising and within low to high
unfoldable pub in_order : ℕ → ℕ → List ℕ → Bool
in_order low high ks = rising ks && all (between low high) ks

unfoldable pub sound : ℕ → Page → Bool
sound n p =
    every
    (between leaf_kind top_kind p.view.kind
    ∷ nat_le (length p.view.certs) leaf_room
    ∷ nat_le (length p.view.children) inner_room
    ∷ nat_le p.low p.high
    ∷ in_order p.low p.high (keys p.view.certs)
    ∷ in_order p.low p.high (keys p.view.children)
    ∷ all (λ x. good_key x.key) p.view.certs
    ∷ (is_leaf p.view || starts_at p.low p.view.children)
    ∷ all (names_pages n) p.view.children
    ∷ [])
