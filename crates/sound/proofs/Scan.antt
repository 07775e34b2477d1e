-- One pass over entries: keys that rise strictly from one not below low to one not above high are in order within low
-- to high, which is how the rules put it. Assumes nothing.
use Rattle.std.proofs.Common.{◌≡◌, ℕ, ◌<◌, ◌≤◌, Bool, true, ◌&&◌, ltb, leb, List, [], ◌∷◌, refl, arith, ltb-true, lt-ltb, le-leb, leb-true}
use Rattle.rules.specs.Test.{between, all}
use Rattle.rules.specs.Entry.{Entry, keys, rises_from, rising}
use Rattle.rules.specs.Sound.{in_order}
use Rattle.rules.proofs.Entries.Tests.{and_left, and_right, and_of, same_test, between-of, between-low, between-high, all_head, all_tail, all_nil, all_cons}

-- what is left to test after an entry with the key `last`
unfoldable pub risen : {B : Type 0} → (Entry B → Bool) → ℕ → ℕ → List (Entry B) → Bool
risen good high last [] = leb last high
risen good high last (x ∷ xs) = ltb last x.key && (good x && risen good high x.key xs)

module _ {B : Type 0} (good : Entry B → Bool) (low high : ℕ) where
  risen_head : (last : ℕ) (x : Entry B) (xs : List (Entry B)) → risen good high last (x ∷ xs) ≡ true → last < x.key
  unfolding risen
  risen_head last x xs h = ltb-true last x.key (and_left (ltb last x.key) (good x && risen good high x.key xs) h)

  risen_good : (last : ℕ) (x : Entry B) (xs : List (Entry B)) → risen good high last (x ∷ xs) ≡ true → good x ≡ true
  unfolding risen
  risen_good last x xs h =
      and_left (good x) (risen good high x.key xs) (and_right (ltb last x.key) (good x && risen good high x.key xs) h)

  risen_tail : (last : ℕ) (x : Entry B) (xs : List (Entry B)) → risen good high last (x ∷ xs) ≡ true → risen good high x.key xs ≡ true
  unfolding risen
  risen_tail last x xs h =
      and_right (good x) (risen good high x.key xs) (and_right (ltb last x.key) (good x && risen good high x.key xs) h)

  -- what rises to the end at or below high lies below it from the start
  risen_high : (last : ℕ) (xs : List (Entry B)) → risen good high last xs ≡ true → last ≤ high
  unfolding risen
  risen_high last [] h = leb-true last high h
  risen_high last (x ∷ xs) h =
      omega (arith, risen_head last x xs h, risen_high x.key xs (risen_tail last x xs h))

  risen_rises : (last : ℕ) (xs : List (Entry B)) → risen good high last xs ≡ true → rises_from last (keys xs) ≡ true
  unfolding rises_from keys
  risen_rises last [] h = refl
  risen_rises last (x ∷ xs) h =
      and_of (lt-ltb last x.key (risen_head last x xs h)) (risen_rises x.key xs (risen_tail last x xs h))

  risen_within : (last : ℕ) (xs : List (Entry B)) → low ≤ last → risen good high last xs ≡ true → all (between low high) (keys xs) ≡ true
  unfolding keys
  risen_within last [] l h = all_nil (between low high)
  risen_within last (x ∷ xs) l h =
      let k = risen_head last x xs h in
      let t = risen_tail last x xs h in
      all_cons (between low high) x.key (keys xs) (between-of low high x.key (omega arith) (risen_high x.key xs t))
      (risen_within x.key xs (omega arith) t)

  risen_all : (last : ℕ) (xs : List (Entry B)) → risen good high last xs ≡ true → all good xs ≡ true
  risen_all last [] h = all_nil good
  risen_all last (x ∷ xs) h =
      all_cons good x xs (risen_good last x xs h) (risen_all x.key xs (risen_tail last x xs h))

  -- and back
  risen_of : (last : ℕ) (xs : List (Entry B)) → last ≤ high → rises_from last (keys xs) ≡ true → all (between low high) (keys xs) ≡ true → all good xs ≡ true → risen good high last xs ≡ true
  unfolding risen rises_from keys
  risen_of last [] l r w g = le-leb last high l
  risen_of last (x ∷ xs) l r w g =
      and_of (and_left (ltb last x.key) (rises_from x.key (keys xs)) r)
      (and_of (all_head good x xs g)
      (risen_of x.key xs (between-high low high x.key (all_head (between low high) x.key (keys xs) w)) (and_right (ltb last x.key) (rises_from x.key (keys xs)) r) (all_tail (between low high) x.key (keys xs) w) (all_tail good x xs g)))

  pub one_pass : (x : Entry B) (xs : List (Entry B)) → (in_order low high (keys (x ∷ xs)) && all good (x ∷ xs)) ≡ (leb low x.key && (good x && risen good high x.key xs))
  unfolding in_order rising keys
  one_pass x xs =
      same_test (in_order low high (keys (x ∷ xs)) && all good (x ∷ xs)) (leb low x.key && (good x && risen good high x.key xs)) there back
    where
      there : (in_order low high (keys (x ∷ xs)) && all good (x ∷ xs)) ≡ true → (leb low x.key && (good x && risen good high x.key xs)) ≡ true
      there h =
          let o = and_left (in_order low high (keys (x ∷ xs))) (all good (x ∷ xs)) h in
          let g = and_right (in_order low high (keys (x ∷ xs))) (all good (x ∷ xs)) h in
          let r = and_left (rises_from x.key (keys xs)) (all (between low high) (keys (x ∷ xs))) o in
          let w = and_right (rises_from x.key (keys xs)) (all (between low high) (keys (x ∷ xs))) o in
          let b = all_head (between low high) x.key (keys xs) w in
          and_of (le-leb low x.key (between-low low high x.key b))
          (and_of (all_head good x xs g)
          (risen_of x.key xs (between-high low high x.key b) r (all_tail (between low high) x.key (keys xs) w) (all_tail good x xs g)))

      back : (leb low x.key && (good x && risen good high x.key xs)) ≡ true → (in_order low high (keys (x ∷ xs)) && all good (x ∷ xs)) ≡ true
      back h =
          let l = leb-true low x.key (and_left (leb low x.key) (good x && risen good high x.key xs) h) in
          let gr = and_right (leb low x.key) (good x && risen good high x.key xs) h in
          let g = and_left (good x) (risen good high x.key xs) gr in
          let r = and_right (good x) (risen good high x.key xs) gr in
          and_of
          (and_of (risen_rises x.key xs r)
          (all_cons (between low high) x.key (keys xs) (between-of low high x.key l (risen_high x.key xs r)) (risen_within x.key xs l r)))
          (all_cons good x xs g (risen_all x.key xs r))
