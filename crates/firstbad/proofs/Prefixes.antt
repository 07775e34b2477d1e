-- Items that follow each other so far: they can go on to a section's end, and whatever goes on begins so. Assumes nothing.
use Prim.Native.Nat.{ℕ, zero, suc, ◌+◌, ◌*◌, ◌-◌, ◌^◌, ◌≤◌, ◌<◌}
use native.Mathlib.Nat.{mul-zero, mul-suc, add-zero}
use native.Mathlib.Omega.{arith}
use mathlib.Core.Path.{◌≡◌, refl, sym, ap, ◌∙◌, subst}
use mathlib.Core.Logic.{inl}
use mathlib.Core.List.{List, [], ◌∷◌, ◌++◌}
use lib.ListN.{length, take}
use Rattle.exchange.specs.Item.{Item, place_width, number_width, value_width, size, item_at, item_for}
use Rattle.exchange.specs.Told.{items_from}
use Rattle.exchange.specs.declared.Section.{Section}
use Rattle.exchange.proofs.Steps.{Followed}
use Rattle.exchange.proofs.Runs.{AllFit, fit_none, fit_more}
use Rattle.exchange.proofs.Chains.{Chain}

-- each follows the one before it; u of those over them have something under them then, and the last one has the number l
unfoldable pub Prefix : ℕ → ℕ → ℕ → List Item → ℕ → ℕ → Type 0
Prefix over used last [] u l = (used ≡ u) × (last ≡ l)
Prefix over used last (i ∷ is) u l = Followed over used last i.place i.number × Prefix over (i.place + 1) i.number is u l

-- ── Going on ────────────────────────────────────────────────────────────────────────────────────────────────────

-- one item with number 1 under each of so many places
unfoldable pub one_each : ℕ → ℕ → List Item
one_each zero place = []
one_each (suc n) place = item_for place 1 0 ∷ one_each n (place + 1)

pub length_each : (n place : ℕ) → length (one_each n place) ≡ n
unfolding one_each
length_each zero place = refl
length_each (suc n) place = ap suc (length_each n (place + 1))

pub each_chain : (over n used last : ℕ) → used + n ≡ over → Chain over used last (one_each n used)
unfolding one_each Chain
each_chain over zero used last e = omega (arith, e)
each_chain over (suc n) used last e =
    (record { real = omega arith; inside = omega (arith, e); next = inl refl }, each_chain over n (used + 1) 1 (omega (arith, e)))

pub each_fits : (s : Section) (n place : ℕ) → place + n ≤ 256 ^ place_width s → 1 < 256 ^ number_width s → 0 < 256 ^ value_width s → AllFit s (one_each n place)
unfolding one_each
each_fits s zero place p n v = fit_none
each_fits s (suc n) place p a v =
    fit_more {i = item_for place 1 0} (record { place = omega (arith, p); number = a; value = v }) (each_fits s n (place + 1) (omega (arith, p)) a v)

pub fits-append : (s : Section) (is js : List Item) → AllFit s is → AllFit s js → AllFit s (is ++ js)
fits-append s [] js fit_none b = b
fits-append s (i ∷ is) js (fit_more h a) b = fit_more {i = i} h (fits-append s is js a b)

pub goes_on : (over used last : ℕ) (is js : List Item) (u l : ℕ) → Prefix over used last is u l → Chain over u l js → Chain over used last (is ++ js)
unfolding Prefix Chain
goes_on over used last [] js u l p c = subst (λ (x : ℕ). Chain over x last js) (sym p.0) (subst (λ (x : ℕ). Chain over u x js) (sym p.1) c)
goes_on over used last (i ∷ is) js u l p c = (p.0, goes_on over (i.place + 1) i.number is js u l p.1 c)

-- no more places are used than there are
pub prefix_used : (over used last : ℕ) (is : List Item) (u l : ℕ) → used ≤ over → Prefix over used last is u l → u ≤ over
unfolding Prefix
prefix_used over used last [] u l h p = omega (arith, h, p.0)
prefix_used over used last (i ∷ is) u l h p = prefix_used over (i.place + 1) i.number is u l (omega (arith, p.0.inside)) p.1

-- a chain is one whose end uses them all
pub chain_prefix : (over used last : ℕ) (is : List Item) → Chain over used last is → (l : ℕ) × Prefix over used last is over l
unfolding Chain Prefix
chain_prefix over used last [] c = (last, (c, refl))
chain_prefix over used last (i ∷ is) c = let r = chain_prefix over (i.place + 1) i.number is c.1 in (r.0, (c.0, r.1))

take-append : (is js : List Item) → take (length is) (is ++ js) ≡ is
take-append [] js = refl
take-append (i ∷ is) js = ap (λ (l : List Item). i ∷ l) (take-append is js)

pub take-first : (is js : List Item) (n : ℕ) → length is ≡ n → take n (is ++ js) ≡ is
take-first is js n e = ap (λ (k : ℕ). take k (is ++ js)) (sym e) ∙ take-append is js

-- ── What goes on ────────────────────────────────────────────────────────────────────────────────────────────────

head_of : (a b : Item) (ys zs : List Item) → a ∷ ys ≡ b ∷ zs → a ≡ b
head_of a b ys zs e = cc

tail_of : (a b : Item) (ys zs : List Item) → a ∷ ys ≡ b ∷ zs → ys ≡ zs
tail_of a b ys zs e = cc

module _ (s : Section) (f : List ℕ) (over : ℕ) where
  -- in a section that begins with these items and the next one, that one follows
  pub next-follows : (j at used last : ℕ) (xs : List Item) (u l : ℕ) → Chain over used last xs → take (suc j) xs ≡ items_from s f (suc j) at
      → Prefix over used last (items_from s f j at) u l
      → let i = item_at s f (at + size s * j) in Followed over u l i.place i.number
  unfolding Chain Prefix items_from
  next-follows j at used last [] u l c e p = absurd (omega (arith, ap (λ (y : List Item). length y) e))
  next-follows zero at used last (x ∷ xs) u l c e p =
      let q : at + size s * 0 ≡ at = rw (mul-zero, add-zero) in
      let h : x ≡ item_at s f at = head_of x (item_at s f at) (take 0 xs) [] e in
      let a = subst (λ (y : Item). Followed over used last y.place y.number) h c.0 in
      let b = subst (λ (y : ℕ). Followed over y last (item_at s f at).place (item_at s f at).number) p.0 a in
      let d = subst (λ (y : ℕ). Followed over u y (item_at s f at).place (item_at s f at).number) p.1 b in
      subst (λ (y : ℕ). Followed over u l (item_at s f y).place (item_at s f y).number) (sym q) d
  next-follows (suc j) at used last (x ∷ xs) u l c e p =
      let i = item_at s f at in
      let h : x ≡ i = head_of x i (take (suc j) xs) (items_from s f (suc j) (at + size s)) e in
      let t : take (suc j) xs ≡ items_from s f (suc j) (at + size s) = tail_of x i (take (suc j) xs) (items_from s f (suc j) (at + size s)) e in
      let c' = subst (λ (y : Item). Chain over (y.place + 1) y.number xs) h c.1 in
      let m : at + size s + size s * j ≡ at + size s * suc j = omega (arith, mul-suc (size s) j) in
      subst (λ (y : ℕ). Followed over u l (item_at s f y).place (item_at s f y).number) m
      (next-follows j (at + size s) (i.place + 1) i.number xs u l c' t p.1)

-- and if it has these alone, all that stands over them is used
pub ends_used : (over used last : ℕ) (xs : List Item) (u l : ℕ) → Chain over used last xs → Prefix over used last xs u l → u ≡ over
unfolding Chain Prefix
ends_used over used last [] u l c p = sym p.0 ∙ c
ends_used over used last (x ∷ xs) u l c p = ends_used over (x.place + 1) x.number xs u l c.1 p.1
