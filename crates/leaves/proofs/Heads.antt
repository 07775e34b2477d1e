-- A page's header read at one look, and its range. Assumes nothing.
use Prim.Native.Nat.{ℕ, ◌≤◌, ◌<◌}
use mathlib.Core.Path.{◌≡◌, sym, ap, ◌∙◌}
use mathlib.Core.Bool.{Bool, true, false}
use mathlib.Core.List.{List}
use lib.Dec.{leb}
use borrow.Author.Tests.{eq-eqb, ne_eqb, le-leb}
use Rattle.rules.specs.Test.{between}
use Rattle.rules.specs.Table.{page_at, read}
use Rattle.rules.proofs.Entries.Tests.{between-below}
use Rattle.head.specs.Head.{head_in}
use Rattle.head.specs.declared.Head.{Head}
use Rattle.head.proofs.Headers.{head_of, head_in-page}
use Rattle.enter.specs.declared.Above.{Above}
use Rattle.leaves.specs.Cursors.{holding_in}

pub holds-below : (low high k : ℕ) → k < low → false ≡ between low high k
holds-below low high k h = sym (between-below low high k h)

pub holds-from : (low high k : ℕ) → low ≤ k → leb k high ≡ between low high k
unfolding between
holds-from low high k h = rw (le-leb low k h)

pub head_read : (t : List ℕ) (i : ℕ) (h : Head) → h ≡ head_in (page_at t i) → h ≡ head_of (read t i)
unfolding read
head_read t i h q = q ∙ head_in-page (page_at t i)

-- ── Whether the deepest page is passed over ─────────────────────────────────────────────────────────────────────

module _ (k : ℕ) (t : List ℕ) (x : Above) where
  pub holding-none : x.parent ≡ 0 → x ≡ holding_in k t x
  unfolding holding_in
  holding-none z = rw (eq-eqb x.parent 0 z, holding_in)

  module _ (z : x.parent ≡ 0 → ⊥) (h : Head) (q : h ≡ head_in (page_at t x.parent)) (b : Bool) (r : b ≡ between h.low h.high k) where
    range-is : between (read t x.parent).low (read t x.parent).high k ≡ b
    unfolding head_of
    range-is = sym (r ∙ ap (λ (y : Head). between y.low y.high k) (head_read t x.parent h q))

    pub holding-here : b ≡ true → x ≡ holding_in k t x
    unfolding holding_in
    holding-here f = rw (ne_eqb x.parent 0 z, holding_in, range-is ∙ f)

    pub holding-past : b ≡ false → record { parent = x.top; top = 0 } ≡ holding_in k t x
    unfolding holding_in
    holding-past f = rw (ne_eqb x.parent 0 z, holding_in, range-is ∙ f)
