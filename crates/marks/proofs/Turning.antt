-- Sync's turn, one page after the other. Assumes nothing.
use mathlib.Core.Path.{◌≡◌, refl}
use mathlib.Core.Bool.{Bool, false, not, ◌&&◌, ◌||◌}
use mathlib.Core.List.{List}
use Prim.Native.Nat.{ℕ, ◌+◌, ◌<◌}
use native.Mathlib.Omega.{arith}
use lib.ListN.{length, get_or, set}
use Rattle.rules.specs.Layout.{most_pages}
use Rattle.rules.specs.Marks.{marking, raised, marks_from, is_page, turned}
use Rattle.rules.specs.declared.Session.{Session}
use Rattle.marks.proofs.Fill.{filled, filled_at, filled_more, filled-all}

abbrev pub free_after : ℕ → List Bool → List Bool → ℕ → Bool
free_after n free waiting i = get_or free i false || (is_page n i && get_or waiting i false)

abbrev pub waiting_after : ℕ → List Bool → ℕ → Bool
waiting_after n waiting i = not (is_page n i) && get_or waiting i false

-- the pages below a number have turned
abbrev pub turning : Session → ℕ → Session
turning s i =
    marking (filled (free_after s.n s.free s.waiting) i s.free) (filled (waiting_after s.n s.waiting) i s.waiting) s

-- one page turns
abbrev pub turn_page : ℕ → ℕ → Session → Session
turn_page n i t =
    marking (set t.free i (free_after n t.free t.waiting i)) (set t.waiting i (waiting_after n t.waiting i)) t

pub turning-none : (s : Session) → s ≡ turning s 0
unfolding marks_from
turning-none s = refl

module _ (s : Session) (free : length s.free ≡ most_pages) (waiting : length s.waiting ≡ most_pages) where
  pub turning-more : (i : ℕ) → i < most_pages → turn_page s.n i (turning s i) ≡ turning s (i + 1)
  turning-more i h =
      let f : i < length s.free = omega arith in
      let w : i < length s.waiting = omega arith in
      rw
      (filled_at (free_after s.n s.free s.waiting) i s.free f, filled_at (waiting_after s.n s.waiting) i s.waiting w, filled_more (free_after s.n s.free s.waiting) i s.free f, filled_more (waiting_after s.n s.waiting) i s.waiting w)

  pub turning-all : raised (turning s most_pages) ≡ turned s
  unfolding turned
  turning-all =
      rw (filled-all (free_after s.n s.free s.waiting) s.free free, filled-all (waiting_after s.n s.waiting) s.waiting waiting)
