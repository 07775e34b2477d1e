-- A crash: each page of the stable table keeps its bytes or receives the working page of that moment.
use Rattle.std.specs.Prelude.{ℕ, ◌+◌, Bool, true, false, List, [], ◌∷◌, ◌++◌, take, drop, ◌==◌, nat_le}
use Rattle.rules.specs.Layout.{page_size, last_number}
use Rattle.rules.specs.Table.{set_number}
use Rattle.rules.specs.declared.Session.{Session}

-- one mark for each page, from page 0 on: written or not
unfoldable pub mix : List Bool → List ℕ → List ℕ → List ℕ
mix [] w s = s
mix (written ∷ more) w s =
    elim written [ true ↦ take page_size w | false ↦ take page_size s ]
    ++ mix more (drop page_size w) (drop page_size s)

-- between two calls. An opening that was refused hands out a session of no pages, and the driver gets no page after it.
unfoldable pub crashed : List Bool → ℕ → List ℕ → List ℕ → List ℕ
crashed written n w s = elim (n == 0) [ true ↦ s | false ↦ mix written w s ]

-- working's table inside a sync: its number is already c + 2. A sync that is refused writes no number.
unfoldable pub inside_sync : Session → List ℕ → List ℕ
inside_sync session w = elim (nat_le session.c last_number) [ true ↦ set_number w (session.c + 2) | false ↦ w ]
