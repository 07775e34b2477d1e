-- The session: its counter and total, its marks, taking, freeing and letting wait, and which numbers are free.
use Rattle.std.specs.Prelude.{ℕ, zero, suc, ◌+◌, ◌-◌, ◌%◌, Bool, true, false, not, ◌&&◌, ◌||◌, List, [], ◌∷◌, length, slice_index_or, slice_set}
use Rattle.rules.specs.Layout.{most_pages}
use Rattle.rules.specs.Test.{between, mem}
use Rattle.rules.specs.Tree.{Tree}
use Rattle.rules.specs.declared.Session.{Session}

-- ── A session ───────────────────────────────────────────────────────────────────────────────────────────────────

-- as an opening begins it
abbrev pub begun : ℕ → ℕ → ℕ → List Bool → List Bool → Session
begun n c total free waiting = record { n = n; c = c; total = total; free = free; waiting = waiting }

-- with other marks, and else as it was
abbrev pub marking : List Bool → List Bool → Session → Session
marking free waiting s = record { n = s.n; c = s.c; total = s.total; free = free; waiting = waiting }

-- the counter grows
abbrev pub raised : Session → Session
raised s = record { n = s.n; c = s.c + 1; total = s.total; free = s.free; waiting = s.waiting }

-- a number of certificates has 32 bits and wraps
abbrev pub wraps : ℕ → ℕ
wraps k = k % 4294967296

-- with another total
abbrev pub totalling : ℕ → Session → Session
totalling total s = record { n = s.n; c = s.c; total = total; free = s.free; waiting = s.waiting }

-- there is one certificate more
abbrev pub counted : Session → Session
counted s = totalling (wraps (s.total + 1)) s

-- there is one less
abbrev pub uncounted : Session → Session
uncounted s = totalling (wraps (s.total + 4294967295)) s

-- ── One page ────────────────────────────────────────────────────────────────────────────────────────────────────

abbrev pub taken : ℕ → Session → Session
taken i s = marking (slice_set s.free i false) s.waiting s

abbrev pub freed : ℕ → Session → Session
freed i s = marking (slice_set s.free i true) s.waiting s

abbrev pub waits : ℕ → Session → Session
waits i s = marking s.free (slice_set s.waiting i true) s

-- ── All pages ───────────────────────────────────────────────────────────────────────────────────────────────────

-- a mark for each number from i on, so many of them
unfoldable pub marks_from : (ℕ → Bool) → ℕ → ℕ → List Bool
marks_from mark i zero = []
marks_from mark i (suc k) = mark i ∷ marks_from mark (suc i) k

unfoldable pub marks : (ℕ → Bool) → List Bool
marks mark = marks_from mark 0 most_pages

unfoldable pub is_page : ℕ → ℕ → Bool
is_page n i = between 1 (n - 1) i

-- a page is free at opening unless it is page 0, a child in the tree, or the previous page of a lost entry; the total is
-- that of the certificates in the tree
unfoldable pub opened : ℕ → ℕ → Tree → Session
opened n c s =
    begun n c (wraps (length s.certs))
    (marks (λ i. is_page n i && (not (mem i s.children) && not (mem i s.spared))))
    (marks (λ i. false))

-- what a refused opening hands out
unfoldable pub nobody : Session
nobody = begun 0 0 0 (marks (λ i. false)) (marks (λ i. false))

-- sync's turn: waiting pages become free and wait no longer, and the counter grows
unfoldable pub turned : Session → Session
turned s =
    marking
    (marks (λ i. slice_index_or s.free i false || (is_page s.n i && slice_index_or s.waiting i false)))
    (marks (λ i. not (is_page s.n i) && slice_index_or s.waiting i false))
    (raised s)

-- ── The lowest free numbers ─────────────────────────────────────────────────────────────────────────────────────

unfoldable pub numbers_from : (ℕ → Bool) → ℕ → ℕ → List ℕ
numbers_from mark i zero = []
numbers_from mark i (suc k) = elim (mark i) [ true ↦ i ∷ numbers_from mark (suc i) k | false ↦ numbers_from mark (suc i) k ]

-- the free pages, lowest first; page 0 and the entered ones never count
unfoldable pub free_pages : Session → List ℕ → List ℕ
free_pages s entered = numbers_from (λ i. slice_index_or s.free i false && not (mem i entered)) 1 (s.n - 1)
