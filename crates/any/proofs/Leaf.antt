-- A leaf holds a certificate of a range exactly if the last one not above it is not below it. Assumes nothing.
use Rattle.std.specs.Prelude.{Ok}
use Prim.Native.Nat.{ℕ, zero, suc, ◌-◌, ◌≤◌, ◌<◌}
use native.Mathlib.Omega.{arith}
use mathlib.Core.Path.{◌≡◌, refl, sym, ap, ◌∙◌}
use mathlib.Core.Bool.{Bool, true, false}
use mathlib.Core.List.{List, [], ◌∷◌}
use lib.Dec.{leb}
use lib.ListN.{length, get_or, drop}
use lib.Seq.{drop-drop}
use borrow.Author.Tests.{leb-true, leb-false, le-leb, lt-leb}
use Rattle.rules.specs.Layout.{leaf_header, cert_size}
use Rattle.rules.specs.Test.{mem}
use Rattle.rules.specs.Entry.{Cert, keys, cut, rising}
use Rattle.rules.specs.Page.{cert_in, page_in}
use Rattle.rules.specs.Table.{page_at, read}
use Rattle.rules.specs.HasAny.{any_in}
use Rattle.rules.specs.Answer.{Any}
use Rattle.rules.proofs.Entries.Tests.{between-of, between-below, between-above, mem-at}
use Rattle.rules.proofs.Entries.Rises.{rises-mem, rising-from, rising_tail, get_d_keys, length-keys}
use Rattle.rules.proofs.Entries.Entries.{cut_in, cut_out, cut-nil, cut-none}
use Rattle.rules.proofs.Bytes.Each.{read_each-at, length-read_each}
use Rattle.entries.specs.Spot.{spot_of}
use Rattle.entries.proofs.Cut.{spot-cons, spot-first}
use Rattle.entries.proofs.KeysIn.{spot-bound}
use Rattle.head.specs.Head.{cert_at}
use Rattle.head.proofs.Headers.{head_of}
use Rattle.way.specs.Ways.{Holds}
use Rattle.way.proofs.Leaf.{certs_in, certs-are}
use Rattle.any.specs.Anys.{holds_in}

-- ── As the code looks at it ─────────────────────────────────────────────────────────────────────────────────────

module _ (low : ℕ) (b : List ℕ) where
  pub holds-none : (s : ℕ) → s ≡ 0 → false ≡ holds_in low s b
  unfolding holds_in
  holds-none s z = rw z

  pub holds-last : (s k : ℕ) → (s ≡ 0 → ⊥) → k ≡ (cert_at b (s - 1)).key → leb low k ≡ holds_in low s b
  unfolding holds_in
  holds-last zero k o f = absurd (o refl)
  holds-last (suc j) k o f = let e : suc j - 1 ≡ j = omega arith in ap (leb low) (f ∙ ap (λ (i : ℕ). (cert_at b i).key) e)

-- ── Among the certificates of a leaf that was entered ───────────────────────────────────────────────────────────

-- the certificate before a spot
unfoldable pub holds_before : ℕ → ℕ → List Cert → Cert → Bool
holds_before low zero xs d = false
holds_before low (suc j) xs d = leb low (get_or xs j d).key

cert_at_lem : (count j : ℕ) (b : List ℕ) (d : Cert) → j < count → get_or (certs_in count b) j d ≡ cert_at b j
unfolding cert_at
cert_at_lem count j b d h = rw (read_each-at cert_in cert_size count (drop leaf_header b) j d h, drop-drop)

holds-certs : (low s count : ℕ) (b : List ℕ) (d : Cert) → s ≤ count → holds_in low s b ≡ holds_before low s (certs_in count b) d
unfolding holds_in holds_before
holds-certs low zero count b d h = refl
holds-certs low (suc j) count b d h = ap (λ (x : Cert). leb low x.key) (sym (cert_at_lem count j b d (omega arith)))

pub holds_read : (low s : ℕ) (t : List ℕ) (i : ℕ) (d : Cert) → Holds (read t i).view → s ≤ length (read t i).view.certs
    → holds_in low s (page_at t i) ≡ holds_before low s (read t i).view.certs d
unfolding read page_in
holds_read low s t i d l h =
    let b = page_at t i in
    let n = (head_of (page_in b)).count in
    let q = certs-are b (head_of (page_in b)) refl l in
    holds-certs low s n b d (omega (arith, ap length q, length-read_each cert_in cert_size n (drop leaf_header b)))
    ∙ ap (λ (xs : List Cert). holds_before low s xs d) (sym q)

-- ── One of the range ────────────────────────────────────────────────────────────────────────────────────────────

unfoldable yes_if : Bool → Any
yes_if true = Ok true
yes_if false = Ok false

module _ (low high : ℕ) (d : Cert) where
  holds-cut : (xs : List Cert) → rising (keys xs) ≡ true
      → any_in (cut low high xs) ≡ yes_if (holds_before low (spot_of high (keys xs)) xs d)
  unfolding any_in yes_if holds_before keys spot_of
  holds-cut [] r = ap any_in (cut-nil low high)
  holds-cut (x ∷ xs) r = go (leb x.key high) refl (leb low x.key) refl (holds-cut xs (rising_tail x.key (keys xs) r))
    where
      later : (k : ℕ) → mem k (keys xs) ≡ true → x.key < k
      later k m = rises-mem x.key k (keys xs) (rising-from x.key (keys xs) r) m

      up_to : ℕ → Any
      up_to s = yes_if (holds_before low s (x ∷ xs) d)

      -- where this one is not below the range, none behind it is
      one_more_lem : low ≤ x.key → (s : ℕ) → s ≤ length xs → leb low (get_or (x ∷ xs) s d).key ≡ true
      one_more_lem l zero h = le-leb low x.key l
      one_more_lem l (suc j) h =
          le-leb low (get_or xs j d).key
          (omega (arith, get_d_keys xs j d, later (get_or (keys xs) j d.key) (mem-at (keys xs) j d.key (omega (arith, length-keys xs)))))

      -- where this one is below the range, it counts for nothing
      one_less : x.key < low → (s : ℕ) → holds_before low s xs d ≡ leb low (get_or (x ∷ xs) s d).key
      one_less l zero = sym (lt-leb low x.key l)
      one_less l (suc j) = refl

      go : (a : Bool) → leb x.key high ≡ a → (b : Bool) → leb low x.key ≡ b
          → any_in (cut low high xs) ≡ yes_if (holds_before low (spot_of high (keys xs)) xs d)
          → any_in (cut low high (x ∷ xs)) ≡ yes_if (holds_before low (spot_of high (x.key ∷ keys xs)) (x ∷ xs) d)
      go false p b q ih =
          let h = leb-false x.key high p in
          ap any_in (cut_out low high x xs (between-above low high x.key h)
          ∙ cut-none low high xs (λ k m. between-above low high k (omega (arith, later k m))))
          ∙ ap up_to (sym (spot-first high x.key (keys xs) h))
      go true p true q ih =
          let h = leb-true x.key high p in
          let l = leb-true low x.key q in
          ap any_in (cut_in low high x xs (between-of low high x.key l h))
          ∙ (ap yes_if (sym (one_more_lem l (spot_of high (keys xs)) (omega (arith, spot-bound high (keys xs), length-keys xs))))
          ∙ ap up_to (sym (spot-cons high x.key (keys xs) h)))
      go true p false q ih =
          let h = leb-true x.key high p in
          let l = leb-false low x.key q in
          ap any_in (cut_out low high x xs (between-below low high x.key l))
          ∙ (ih
          ∙ (ap yes_if (one_less l (spot_of high (keys xs)))
          ∙ ap up_to (sym (spot-cons high x.key (keys xs) h))))

  pub holds_yes : (xs : List Cert) → rising (keys xs) ≡ true → holds_before low (spot_of high (keys xs)) xs d ≡ true
      → any_in (cut low high xs) ≡ Ok true
  unfolding yes_if
  holds_yes xs r h = holds-cut xs r ∙ ap yes_if h

  pub holds_no : (xs : List Cert) → rising (keys xs) ≡ true → holds_before low (spot_of high (keys xs)) xs d ≡ false
      → any_in (cut low high xs) ≡ Ok false
  unfolding yes_if
  holds_no xs r h = holds-cut xs r ∙ ap yes_if h
