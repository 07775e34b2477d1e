-- The places of a page in key order: those before the key's place end below the key, those behind it begin above it.
-- Assumes nothing.
use Prim.Native.Nat.{ℕ, ◌-◌, ◌<◌}
use native.Mathlib.Omega.{arith}
use mathlib.Core.Path.{◌≡◌, refl, sym, ap, ◌∙◌, subst}
use mathlib.Core.Logic.{◌⊎◌, inl, inr}
use mathlib.Core.Bool.{Bool, true, false}
use mathlib.Core.List.Memᴰ
use mathlib.Core.List.{List, [], ◌∷◌, ◌++◌, Memᴰ}
use mathlib.Core.Option.{some, some-injective, none-ne-some}
use Rattle.rules.specs.Test.{between}
use Rattle.rules.specs.Entry.{Child, keys}
use Rattle.rules.specs.Page.{View}
use Rattle.rules.specs.Place.{high_before, place_of, places_in, kids, pick}
use Rattle.rules.specs.declared.Place.{Place}
use Rattle.rules.proofs.Entries.Tests.{between-low, between-high}
use Rattle.rules.proofs.Entries.Rises.{rises-mem, rising-from}
use Rattle.rules.proofs.Entries.Sounds.{Sound}
use Rattle.rules.proofs.Entries.Picks.{Kid, kid-key, kid-rise, Rising, rising-rest, places-kids, pick-here, pick-later, pick-nil, pick-holds, pick-mem}
use Rattle.rules.proofs.Entries.Asks.{kids-rising}

mem-after : (b : Place) (xs ys : List Place) → Memᴰ b ys → Memᴰ b (xs ++ ys)
mem-after b [] ys m = m
mem-after b (x ∷ xs) ys m = Memᴰ.tail (mem-after b xs ys m)

pub record Around (k : ℕ) (es : List Place) (d : Place) : Type 0 where
  pub before : List Place
  pub behind : List Place
  pub are : es ≡ before ++ (d ∷ behind)
  pub below : (b : Place) → Memᴰ b before → b.high < k
  pub above : (b : Place) → Memᴰ b behind → d.high < b.low

-- a place behind is one of them
pub behind-mem : {k : ℕ} {es : List Place} {d : Place} (y : Around k es d) (b : Place) → Memᴰ b y.behind → Memᴰ b es
behind-mem {d = d} y b m = subst (Memᴰ b) (sym y.are) (mem-after b y.before (d ∷ y.behind) (Memᴰ.tail m))

pub around_mem : {k : ℕ} {es : List Place} {d : Place} → Around k es d → Memᴰ d es
around_mem {d = d} y = subst (Memᴰ d) (sym y.are) (mem-after d y.before (d ∷ y.behind) (Memᴰ.head refl))

module _ (want high k : ℕ) where
  -- the first place is one among all, and ends below the later ones
  first_below : (x : Child) (xs : List Child) → Rising high (x ∷ xs) → (b : Place) → Memᴰ b (places_in want high xs)
      → high_before high xs < b.low
  unfolding places_in keys place_of
  first_below x xs r b m =
      let f = place_of want (high_before high xs) x in
      let y : Kid want high (x ∷ xs) f = places-kids want high (x ∷ xs) f r (Memᴰ.head refl) in
      let z : Kid want high (x ∷ xs) b = places-kids want high (x ∷ xs) b r (Memᴰ.tail m) in
      let k = kid-key (places-kids want high xs b (rising-rest r) m) in
      kid-rise y z (rises-mem x.key b.low (keys xs) (rising-from x.key (keys xs) r.rise) k)

  around : (xs : List Child) (d : Place) → Rising high xs → pick k (places_in want high xs) ≡ some d → Around k (places_in want high xs) d
  unfolding places_in place_of
  around [] d r h = absurd (none-ne-some d (sym (pick-nil k) ∙ h))
  around (x ∷ xs) d r h = go (between f.low f.high k) refl (around xs d (rising-rest r))
    where
      f : Place
      f = place_of want (high_before high xs) x

      go : (b : Bool) → between f.low f.high k ≡ b → (pick k (places_in want high xs) ≡ some d → Around k (places_in want high xs) d)
          → Around k (f ∷ places_in want high xs) d
      go true q ih =
          let e : f ≡ d = some-injective f d
          (sym (pick-here k f (places_in want high xs) (between-low f.low f.high k q) (between-high f.low f.high k q)) ∙ h) in
          record {
            before = [];
            behind = places_in want high xs;
            are = ap (λ (y : Place). y ∷ places_in want high xs) e;
            below = λ b m. absurd (Memᴰ.not-nil m);
            above = λ b m. subst (λ (y : Place). y.high < b.low) e (first_below x xs r b m);
          }
      go false q ih =
          let l = sym (pick-later k f (places_in want high xs) q) ∙ h in
          let y = ih l in
          record {
            before = f ∷ y.before;
            behind = y.behind;
            are = ap (λ (ys : List Place). f ∷ ys) y.are;
            below = λ b m. earlier y l b (Memᴰ.cases_cons m);
            above = y.above;
          }
        where
          earlier : (y : Around k (places_in want high xs) d) → pick k (places_in want high xs) ≡ some d
              → (b : Place) → (b ≡ f) ⊎ Memᴰ b y.before → b.high < k
          earlier y l b (inl q) =
              let z = first_below x xs r d (pick-mem k (places_in want high xs) d l) in
              let w = pick-holds k (places_in want high xs) d l in
              subst (λ (p : Place). p.high < k) (sym q) (omega (arith, z, w.0))
          earlier y l b (inr m) = y.below b m

-- the kids of a page that fits its place
pub kids_around : {n : ℕ} (k : ℕ) (e : Place) {v : View} → Sound n e.low e.high v → (d : Place) → pick k (kids e v) ≡ some d
    → Around k (kids e v) d
unfolding kids
kids_around k e {v} s d h = around (v.kind - 1) e.high k v.children d (kids-rising e s) h
