-- Counting full pages and looking for late ones, one page after the other. Assumes nothing.
use Prim.Native.Nat.{ℕ, zero, suc, ◌+◌, ◌<◌}
use native.Mathlib.Omega.{arith}
use mathlib.Core.Path.{◌≡◌, refl, ap}
use mathlib.Core.Bool.{Bool, true, false}
use mathlib.Core.List.{List, [], ◌∷◌, ◌++◌}
use lib.Dec.{leb, eqb}
use lib.ListN.{length, take, get_or}
use borrow.Author.Tests.{eq-eqb, ne_eqb}
use Rattle.rules.specs.Layout.{leaf_kind, leaf_room, inner_room}
use Rattle.head.specs.declared.Head.{Head}
use Rattle.way.specs.declared.Step.{Step}
use Rattle.std.specs.Prelude.{take_while}
use Rattle.std.specs.List.{list_any, prefix_len}
use Rattle.plan.specs.Plan.{heads_of, full_by, splits_by, late_by, too_soon_by, numbers_of}

-- ── One page ────────────────────────────────────────────────────────────────────────────────────────────────────

pub full-leaf : (h : Head) → h.kind ≡ leaf_kind → leb leaf_room h.count ≡ full_by h
unfolding full_by
full-leaf h e = rw (eq-eqb h.kind leaf_kind e, full_by)

pub full-inner : (h : Head) → (h.kind ≡ leaf_kind → ⊥) → leb inner_room h.count ≡ full_by h
unfolding full_by
full-inner h e = rw (ne_eqb h.kind leaf_kind e, full_by)

pub late-leaf : (c : ℕ) (h : Head) → h.kind ≡ leaf_kind → false ≡ late_by c h
unfolding late_by
late-leaf c h e = rw (eq-eqb h.kind leaf_kind e)

pub late-inner : (c : ℕ) (h : Head) → (h.kind ≡ leaf_kind → ⊥) → eqb h.touched c ≡ late_by c h
unfolding late_by
late-inner c h e = rw (ne_eqb h.kind leaf_kind e)

-- ── Along a way ─────────────────────────────────────────────────────────────────────────────────────────────────

pub length-heads : (w : List Step) → length (heads_of w) ≡ length w
length-heads [] = refl
length-heads (x ∷ xs) = ap suc (length-heads xs)

pub length-numbers : (w : List Step) → length (numbers_of w) ≡ length w
length-numbers [] = refl
length-numbers (x ∷ xs) = ap suc (length-numbers xs)

pub numbers-append : (w : List Step) (x : Step) → numbers_of (w ++ x ∷ []) ≡ numbers_of w ++ x.place.child ∷ []
numbers-append [] x = refl
numbers-append (y ∷ w) x = ap (λ (is : List ℕ). y.place.child ∷ is) (numbers-append w x)

pub heads-take : (n : ℕ) (w : List Step) → heads_of (take n w) ≡ take n (heads_of w)
heads-take zero w = refl
heads-take (suc n) [] = refl
heads-take (suc n) (x ∷ xs) = ap (λ (hs : List Head). x.head ∷ hs) (heads-take n xs)

pub head-at : (w : List Step) (i : ℕ) (x : Step) → i < length w → get_or (heads_of w) i x.head ≡ (get_or w i x).head
head-at [] i x h = absurd (omega arith)
head-at (y ∷ w) zero x h = refl
head-at (y ∷ w) (suc i) x h = head-at w i x (omega arith)

-- the full pages from the leaf up, counted
pub splits-counted : (w : List Step) → length (take_while (λ (x : Step). full_by x.head) w) ≡ splits_by (heads_of w)
unfolding splits_by
splits-counted [] = refl
splits-counted (x ∷ w) = go (full_by x.head) refl (splits-counted w)
  where
    is_full : Step → Bool
    is_full y = full_by y.head

    go : (b : Bool) → full_by x.head ≡ b → length (take_while is_full w) ≡ splits_by (heads_of w) → length (take_while is_full (x ∷ w)) ≡ splits_by (heads_of (x ∷ w))
    go true f ih =
        let one : 1 + prefix_len is_full w ≡ suc (prefix_len is_full w) = omega arith in
        rw (f, splits_by, one) (ap suc ih)
    go false f ih = rw (f, splits_by)

pub soon-any : (c : ℕ) (w : List Step) → list_any (λ (x : Step). late_by c x.head) w ≡ too_soon_by c (heads_of w)
unfolding too_soon_by
soon-any c [] = refl
soon-any c (x ∷ w) = rw (soon-any c w)
