-- The newest of a leaf's certificates in a range is the last one not above it, if that is not below it. Assumes nothing.
use Rattle.std.specs.Prelude.{Err, Ok}
use Prim.Native.Nat.{ℕ, zero, suc, ◌≤◌, ◌<◌}
use native.Mathlib.Omega.{arith}
use mathlib.Core.Path.{◌≡◌, refl, sym, ap, ◌∙◌}
use mathlib.Core.Bool.{Bool, true, false}
use mathlib.Core.List.{List, [], ◌∷◌, ◌++◌}
use lib.Dec.{leb}
use lib.ListN.{length, get_or}
use borrow.Author.Tests.{leb-true, leb-false, le-leb, lt-leb}
use Rattle.rules.specs.Key.{issue_of}
use Rattle.rules.specs.Test.{mem}
use Rattle.rules.specs.Entry.{Cert, keys, cut, rising}
use Rattle.rules.specs.Newest.{newest_in}
use Rattle.rules.specs.Answer.{Newest, newest_is}
use Rattle.rules.specs.declared.FindError.{FindError}
use Rattle.rules.proofs.Entries.Tests.{between-of, between-below, between-above, mem-at}
use Rattle.rules.proofs.Entries.Rises.{rises-mem, rising-from, rising_tail, get_d_keys, length-keys}
use Rattle.rules.proofs.Entries.Entries.{cut_in, cut_out, cut-nil, cut-none}
use Rattle.entries.specs.Spot.{spot_of}
use Rattle.entries.proofs.Cut.{spot-cons, spot-first}
use Rattle.entries.proofs.KeysIn.{spot-bound}
use Rattle.newest.specs.Newests.{or_this}

-- ── One after the other ─────────────────────────────────────────────────────────────────────────────────────────

-- the newest once these have been passed too
unfoldable pub newest_after : Newest → List Cert → Newest
newest_after before [] = before
newest_after before (x ∷ xs) = newest_after (Ok (newest_is (issue_of x.key) x.value)) xs

newest-after : (xs : List Cert) → newest_in xs ≡ newest_after (Err FindError.Missing) xs
unfolding newest_in newest_after
newest-after [] = refl
newest-after (x ∷ []) = refl
newest-after (x ∷ (y ∷ ys)) = newest-after (y ∷ ys)

after-append : (before : Newest) (xs ys : List Cert) → newest_after before (xs ++ ys) ≡ newest_after (newest_after before xs) ys
unfolding newest_after
after-append before [] ys = refl
after-append before (x ∷ xs) ys = after-append (Ok (newest_is (issue_of x.key) x.value)) xs ys

pub newest-append : (xs ys : List Cert) → newest_in (xs ++ ys) ≡ newest_after (newest_in xs) ys
newest-append xs ys =
    newest-after (xs ++ ys)
    ∙ (after-append (Err FindError.Missing) xs ys ∙ ap (λ (a : Newest). newest_after a ys) (sym (newest-after xs)))

-- ── The last of a range ─────────────────────────────────────────────────────────────────────────────────────────

pub this_in : (low : ℕ) (x : Cert) (before : Newest) → low ≤ x.key → or_this low x before ≡ Ok (newest_is (issue_of x.key) x.value)
unfolding or_this
this_in low x before h = rw (le-leb low x.key h, or_this)

pub this_below : (low : ℕ) (x : Cert) (before : Newest) → x.key < low → or_this low x before ≡ before
unfolding or_this
this_below low x before h = rw (lt-leb low x.key h, or_this)

-- the certificate before a spot
unfoldable pub last_before : ℕ → ℕ → List Cert → Cert → Newest → Newest
last_before low zero xs d before = before
last_before low (suc j) xs d before = or_this low (get_or xs j d) before

module _ (low high : ℕ) (d : Cert) where
  pub last-cut : (xs : List Cert) → rising (keys xs) ≡ true → (before : Newest)
      → newest_after before (cut low high xs) ≡ last_before low (spot_of high (keys xs)) xs d before
  unfolding newest_after last_before keys spot_of
  last-cut [] r before = ap (newest_after before) (cut-nil low high)
  last-cut (x ∷ xs) r before = go (leb x.key high) refl (leb low x.key) refl (last-cut xs (rising_tail x.key (keys xs) r))
    where
      later : (k : ℕ) → mem k (keys xs) ≡ true → x.key < k
      later k m = rises-mem x.key k (keys xs) (rising-from x.key (keys xs) r) m

      Rest : Type 0
      Rest = (b : Newest) → newest_after b (cut low high xs) ≡ last_before low (spot_of high (keys xs)) xs d b

      -- where this one is not below the range, none behind it is
      one_more_lem : low ≤ x.key → (s : ℕ) → s ≤ length xs
          → last_before low s xs d (Ok (newest_is (issue_of x.key) x.value)) ≡ or_this low (get_or (x ∷ xs) s d) before
      one_more_lem l zero h = sym (this_in low x before l)
      one_more_lem l (suc j) h =
          let y = get_or xs j d in
          let k : x.key < y.key =
          omega (arith, get_d_keys xs j d, later (get_or (keys xs) j d.key) (mem-at (keys xs) j d.key (omega (arith, length-keys xs)))) in
          this_in low y (Ok (newest_is (issue_of x.key) x.value)) (omega arith) ∙ sym (this_in low y before (omega arith))

      -- where this one is below the range, it counts for nothing
      one_less : x.key < low → (s : ℕ) → last_before low s xs d before ≡ or_this low (get_or (x ∷ xs) s d) before
      one_less l zero = sym (this_below low x before l)
      one_less l (suc j) = refl

      all_above : high < x.key → cut low high xs ≡ []
      all_above h = cut-none low high xs (λ k m. between-above low high k (omega (arith, later k m)))

      up_to : ℕ → Newest
      up_to s = last_before low s (x ∷ xs) d before

      go : (a : Bool) → leb x.key high ≡ a → (b : Bool) → leb low x.key ≡ b → Rest
          → newest_after before (cut low high (x ∷ xs)) ≡ last_before low (spot_of high (x.key ∷ keys xs)) (x ∷ xs) d before
      go false p b q ih =
          let h = leb-false x.key high p in
          ap (newest_after before) (cut_out low high x xs (between-above low high x.key h) ∙ all_above h)
          ∙ ap up_to (sym (spot-first high x.key (keys xs) h))
      go true p true q ih =
          let h = leb-true x.key high p in
          let l = leb-true low x.key q in
          ap (newest_after before) (cut_in low high x xs (between-of low high x.key l h))
          ∙ (ih (Ok (newest_is (issue_of x.key) x.value))
          ∙ (one_more_lem l (spot_of high (keys xs)) (omega (arith, spot-bound high (keys xs), length-keys xs))
          ∙ ap up_to (sym (spot-cons high x.key (keys xs) h))))
      go true p false q ih =
          let h = leb-true x.key high p in
          let l = leb-false low x.key q in
          ap (newest_after before) (cut_out low high x xs (between-below low high x.key l))
          ∙ (ih before
          ∙ (one_less l (spot_of high (keys xs))
          ∙ ap up_to (sym (spot-cons high x.key (keys xs) h))))
