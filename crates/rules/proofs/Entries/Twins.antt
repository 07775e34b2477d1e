-- One entry of an inner page becomes two: the place that it asked for is divided, and every other place stays. Assumes
-- nothing.
use Rattle.std.proofs.Common.{◌≡◌, ℕ, suc, ◌-◌, ◌<◌, ◌≤◌, Bool, true, false, eqb, ltb, ◌≢◌, ◌⊎◌, List, [], ◌∷◌, sym, refl, ap, ◌∙◌, inl, inr, arith, ltb-false, ltb-true, eqb-true}
use mathlib.Core.Option.{Option, some, none, none-ne-some}
use borrow.Author.Tests.{eqb-false}
use Rattle.rules.specs.Test.{mem}
use Rattle.rules.specs.Entry.{Child, keys, find, put}
use Rattle.rules.specs.Page.{View, is_leaf}
use Rattle.rules.specs.Place.{places_in, place_of, high_before, kids, pick}
use Rattle.rules.specs.Walk.{Step}
use Rattle.rules.specs.Insert.{divide, previous_of, new_child, put_child, twins, root_over}
use Rattle.rules.specs.declared.Place.{Place}
use Rattle.rules.proofs.Entries.Puts.{find-put-same, find-put-other, mem-put, mem-put-same, mem-put_cases, put-rising}
use Rattle.rules.proofs.Entries.Views.{Shaped, shaped-put_child}
use Rattle.rules.proofs.Entries.Picks.{below_of, place_for, Kid, kid-key, kid-rise, kid-same-low, Rising, pick-holds, pick-kid, kid-pick}

abbrev pub twinned : Child → Child → List Child → List Child
twinned x y xs = put y (put x xs)

-- x takes the key of the place e, and y a later key within e's range
pub record Twin (want high : ℕ) (xs : List Child) (e : Place) (x y : Child) : Type 0 where
  pub order : Rising high xs
  pub kid : Kid want high xs e
  pub same : x.key ≡ e.low
  pub up : e.low < y.key
  pub to : y.key ≤ e.high

-- the two new places
abbrev pub lower_place : Place → Child → Child → Place
lower_place e x y = place_for e.want e.low (y.key - 1) x.value

abbrev pub upper_place : Place → Child → Place
upper_place e y = place_for e.want y.key e.high y.value

module _ {want high : ℕ} {xs : List Child} {e : Place} {x y : Child} (w : Twin want high xs e x y) where
  -- ── Keys and entries ──────────────────────────────────────────────────────────────────────────────────────────

  pub mem-twin : (j : ℕ) → mem j (keys xs) ≡ true → mem j (keys (twinned x y xs)) ≡ true
  mem-twin j m = mem-put j y (put x xs) (mem-put j x xs m)

  pub mem-twin_cases : (j : ℕ) → mem j (keys (twinned x y xs)) ≡ true → (j ≡ y.key) ⊎ (mem j (keys xs) ≡ true)
  mem-twin_cases j m = outer (mem-put_cases j y (put x xs) m)
    where
      inner : (j ≡ x.key) ⊎ (mem j (keys xs) ≡ true) → (j ≡ y.key) ⊎ (mem j (keys xs) ≡ true)
      inner (inl q) = inr (ap (λ (k : ℕ). mem k (keys xs)) (q ∙ w.same) ∙ kid-key w.kid)
      inner (inr k) = inr k

      outer : (j ≡ y.key) ⊎ (mem j (keys (put x xs)) ≡ true) → (j ≡ y.key) ⊎ (mem j (keys xs) ≡ true)
      outer (inl q) = inl q
      outer (inr k) = inner (mem-put_cases j x xs k)

  pub find-twin-other : (j : ℕ) → j ≢ e.low → j ≢ y.key → find j (twinned x y xs) ≡ find j xs
  find-twin-other j p q =
      find-put-other j y (put x xs) q ∙ find-put-other j x xs (λ s. p (s ∙ w.same))

  pub twin-rising : Rising high (twinned x y xs)
  twin-rising = record {
    rise = put-rising y (put x xs) (put-rising x xs w.order.rise);
    ends = λ k m. go k (mem-twin_cases k m);
  }
    where
      go : (k : ℕ) → (k ≡ y.key) ⊎ (mem k (keys xs) ≡ true) → k ≤ high
      go k (inl q) = omega (arith, q, w.to, w.kid.within)
      go k (inr m) = w.order.ends k m

  -- ── The places ────────────────────────────────────────────────────────────────────────────────────────────────

  pub lower-kid : Kid want high (twinned x y xs) (lower_place e x y)
  lower-kid =
      let u = w.up in
      let t = w.to in
      let i = w.kid.within in
      record {
        wants = w.kid.wants;
        entry = find-put-other e.low y (put x xs) (λ q. omega (arith, q))
            ∙ (ap (λ (k : ℕ). find k (put x xs)) (sym w.same) ∙ find-put-same x xs);
        range = omega arith;
        within = omega arith;
        next = λ j m p. go j (mem-twin_cases j m) p;
        top = inr (ap (λ (k : ℕ). mem k (keys (twinned x y xs))) back ∙ mem-put-same y (put x xs));
      }
    where
      back : suc (y.key - 1) ≡ y.key
      back = omega (arith, w.up)

      go : (j : ℕ) → (j ≡ y.key) ⊎ (mem j (keys xs) ≡ true) → e.low < j → y.key - 1 < j
      go j (inl q) p = omega (arith, q, w.up)
      go j (inr m) p = omega (arith, w.kid.next j m p, w.to)

  pub upper-kid : Kid want high (twinned x y xs) (upper_place e y)
  upper-kid = record {
    wants = w.kid.wants;
    entry = find-put-same y (put x xs);
    range = w.to;
    within = w.kid.within;
    next = λ j m p. go j (mem-twin_cases j m) p;
    top = end w.kid.top;
  }
    where
      go : (j : ℕ) → (j ≡ y.key) ⊎ (mem j (keys xs) ≡ true) → y.key < j → e.high < j
      go j (inl q) p = absurd (omega (arith, q))
      go j (inr m) p = w.kid.next j m (omega (arith, w.up))

      end : (e.high ≡ high) ⊎ (mem (suc e.high) (keys xs) ≡ true)
          → (e.high ≡ high) ⊎ (mem (suc e.high) (keys (twinned x y xs)) ≡ true)
      end (inl q) = inl q
      end (inr m) = inr (mem-twin (suc e.high) m)

  -- a key of another place is not the new one
  apart : (f : Place) → Kid want high xs f → f.low ≢ e.low → f.low < y.key → f.high < e.low
  apart f k n p = go (ltb f.low e.low) refl
    where
      go : (b : Bool) → ltb f.low e.low ≡ b → f.high < e.low
      go true q = kid-rise k w.kid (ltb-true f.low e.low q)
      go false q =
          let l = ltb-false f.low e.low q in
          absurd (omega (arith, kid-rise w.kid k (omega arith), w.to))

  pub other-kid : (f : Place) → Kid want high xs f → f.low ≢ e.low → Kid want high (twinned x y xs) f
  other-kid f k n = record {
    wants = k.wants;
    entry = find-twin-other f.low n (λ q. new q) ∙ k.entry;
    range = k.range;
    within = k.within;
    next = λ j m p. go j (mem-twin_cases j m) p;
    top = end k.top;
  }
    where
      new : f.low ≡ y.key → ⊥
      new q = omega (arith, w.kid.next f.low (kid-key k) (omega (arith, q, w.up)), q, w.to)

      go : (j : ℕ) → (j ≡ y.key) ⊎ (mem j (keys xs) ≡ true) → f.low < j → f.high < j
      go j (inl q) p = omega (arith, q, w.up, apart f k n (omega (arith, q)))
      go j (inr m) p = k.next j m p

      end : (f.high ≡ high) ⊎ (mem (suc f.high) (keys xs) ≡ true)
          → (f.high ≡ high) ⊎ (mem (suc f.high) (keys (twinned x y xs)) ≡ true)
      end (inl q) = inl q
      end (inr m) = inr (mem-twin (suc f.high) m)

  -- a place is one of the two new ones, or was there before
  pub data TwinKid (f : Place) : Type 0 where
    is-lower : f ≡ lower_place e x y → TwinKid f
    is-upper : f ≡ upper_place e y → TwinKid f
    is-old : f.low ≢ e.low → Kid want high xs f → TwinKid f

  pub twin-kid : (f : Place) → Kid want high (twinned x y xs) f → TwinKid f
  twin-kid f k = go (eqb f.low e.low) refl (eqb f.low y.key) refl
    where
      old : f.low ≢ e.low → f.low ≢ y.key → Kid want high xs f
      old n m = record {
        wants = k.wants;
        entry = sym (find-twin-other f.low n m) ∙ k.entry;
        range = k.range;
        within = k.within;
        next = λ j i. k.next j (mem-twin j i);
        top = end k.top;
      }
        where
          -- no old place ends just below the new key
          last : suc f.high ≡ y.key → (b : Bool) → ltb f.low e.low ≡ b → ⊥
          last q true t =
              omega (arith, q, w.up, k.next e.low (mem-twin e.low (kid-key w.kid)) (ltb-true f.low e.low t))
          last q false t =
              let l = ltb-false f.low e.low t in
              let r = k.range in
              omega (arith, q, kid-rise lower-kid k (omega arith))

          end : (f.high ≡ high) ⊎ (mem (suc f.high) (keys (twinned x y xs)) ≡ true)
              → (f.high ≡ high) ⊎ (mem (suc f.high) (keys xs) ≡ true)
          end (inl q) = inl q
          end (inr i) = there (mem-twin_cases (suc f.high) i)
            where
              there : (suc f.high ≡ y.key) ⊎ (mem (suc f.high) (keys xs) ≡ true)
                  → (f.high ≡ high) ⊎ (mem (suc f.high) (keys xs) ≡ true)
              there (inl q) = absurd (last q (ltb f.low e.low) refl)
              there (inr j) = inr j

      go : (a : Bool) → eqb f.low e.low ≡ a → (b : Bool) → eqb f.low y.key ≡ b → TwinKid f
      go true p b q = is-lower (kid-same-low k lower-kid (eqb-true f.low e.low p))
      go false p true q = is-upper (kid-same-low k upper-kid (eqb-true f.low y.key q))
      go false p false q =
          let n = eqb-false f.low e.low p in
          is-old n (old n (eqb-false f.low y.key q))

  -- ── Picking ───────────────────────────────────────────────────────────────────────────────────────────────────

  pub twin-pick-lower : (k : ℕ) → e.low ≤ k → k < y.key → pick k (places_in want high (twinned x y xs)) ≡ some (lower_place e x y)
  twin-pick-lower k p q =
      kid-pick want high k (twinned x y xs) (lower_place e x y) twin-rising lower-kid p (omega arith)

  pub twin-pick-upper : (k : ℕ) → y.key ≤ k → k ≤ e.high → pick k (places_in want high (twinned x y xs)) ≡ some (upper_place e y)
  twin-pick-upper k p q = kid-pick want high k (twinned x y xs) (upper_place e y) twin-rising upper-kid p q

  pub twin-pick-other : (k : ℕ) (f : Place) → f.low ≢ e.low → pick k (places_in want high xs) ≡ some f
      → pick k (places_in want high (twinned x y xs)) ≡ some f
  twin-pick-other k f n h =
      let o = pick-holds k (places_in want high xs) f h in
      kid-pick want high k (twinned x y xs) f twin-rising
      (other-kid f (pick-kid want high k xs f w.order h) n) o.0 o.1

  -- outside the divided place picking goes on as before
  pub twin-pick_outside : (k : ℕ) → (k < e.low) ⊎ (e.high < k)
      → pick k (places_in want high (twinned x y xs)) ≡ pick k (places_in want high xs)
  twin-pick_outside k o = go (pick k (places_in want high xs)) refl (pick k (places_in want high (twinned x y xs))) refl
    where
      outside : e.low ≤ k → k ≤ e.high → (k < e.low) ⊎ (e.high < k) → ⊥
      outside p q (inl r) = omega arith
      outside p q (inr r) = omega arith

      other-low : (f : Place) → pick k (places_in want high xs) ≡ some f → f.low ≢ e.low
      other-low f p q =
          let h = pick-holds k (places_in want high xs) f p in
          let s = kid-same-low (pick-kid want high k xs f w.order p) w.kid q in
          outside (omega (arith, q, h.0)) (omega (arith, ap (λ (d : Place). d.high) s, h.1)) o

      never : (f : Place) → pick k (places_in want high xs) ≡ none → TwinKid f → f.low ≤ k → k ≤ f.high → ⊥
      never f p (is-lower q) a b =
          outside (omega (arith, ap (λ (d : Place). d.low) q)) (omega (arith, ap (λ (d : Place). d.high) q, w.up, w.to)) o
      never f p (is-upper q) a b =
          outside (omega (arith, ap (λ (d : Place). d.low) q, w.up)) (omega (arith, ap (λ (d : Place). d.high) q)) o
      never f p (is-old n d) a b = none-ne-some f (sym p ∙ kid-pick want high k xs f w.order d a b)

      go : (a : Option Place) → pick k (places_in want high xs) ≡ a → (b : Option Place)
          → pick k (places_in want high (twinned x y xs)) ≡ b
          → pick k (places_in want high (twinned x y xs)) ≡ pick k (places_in want high xs)
      go (some f) p b q = twin-pick-other k f (other-low f p) p ∙ sym p
      go none p none q = q ∙ sym p
      go none p (some f) q =
          let h = pick-holds k (places_in want high (twinned x y xs)) f q in
          absurd (never f p (twin-kid f (pick-kid want high k (twinned x y xs) f twin-rising q)) h.0 h.1)

-- ── The entry of a split page, and a new root ───────────────────────────────────────────────────────────────────

pub kids-twins : (e : Place) (c : ℕ) (s : Step) (lower upper : ℕ) (v : View) → kids e (twins c s lower upper v)
    ≡ places_in (v.kind - 1) e.high
    (twinned (new_child c s.page.low lower (previous_of c s)) (new_child c (divide s.page.view) upper (previous_of c s)) v.children)
unfolding kids twins put_child
kids-twins e c s lower upper v = refl

pub shaped-twins : (c : ℕ) (s : Step) (lower upper : ℕ) (v : View) → is_leaf v ≡ false → Shaped v → Shaped (twins c s lower upper v)
unfolding twins put_child is_leaf
shaped-twins c s lower upper v l h =
    let x = new_child c s.page.low lower (previous_of c s) in
    shaped-put_child (new_child c (divide s.page.view) upper (previous_of c s)) (put_child x v) l (shaped-put_child x v l h)

-- a new root asks for the old one alone
pub kids-root_over : (e : Place) (s : Step)
    → kids e (root_over s) ≡ place_for s.page.view.kind s.place.low e.high (below_of s.place) ∷ []
unfolding kids root_over places_in place_of high_before new_child
kids-root_over e s =
    ap (λ (k : ℕ). place_for k s.place.low e.high (below_of s.place) ∷ []) (omega arith)
