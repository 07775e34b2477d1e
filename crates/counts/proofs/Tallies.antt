-- Tallies from certificate to certificate, and over the entries of a leaf. Assumes nothing.
use Prim.Native.Nat.{ℕ, ◌+◌, ◌*◌, ◌/◌, ◌≤◌, ◌<◌}
use native.Mathlib.Omega.{arith}
use mathlib.Core.Path.{◌≡◌, refl, ap, sym, ◌∙◌}
use mathlib.Core.Bool.{Bool, true, false}
use mathlib.Core.List.{List, [], ◌∷◌, ◌++◌}
use lib.Dec.{eqb}
use lib.ListN.{length, drop}
use borrow.Author.Tests.{eq-eqb, ne_eqb}
use Rattle.rules.specs.Layout.{leaf_header, cert_size}
use Rattle.rules.specs.Test.{between}
use Rattle.rules.specs.Entry.{Cert, cut}
use Rattle.rules.specs.Page.{read_each, cert_in}
use Rattle.rules.proofs.Entries.Tests.{between-of, between-below, between-above}
use Rattle.rules.proofs.Entries.Entries.{cut-nil, cut_in, cut_out}
use Rattle.head.specs.Head.{cert_at}
use Rattle.head.proofs.Left.{left, left-all, left-more, left-none}
use Rattle.counts.specs.Tally.{no_tally, one_more, counted, counted_in, counted_all, Few}
use Rattle.counts.specs.declared.Tally.{Tally}

-- ── One certificate ─────────────────────────────────────────────────────────────────────────────────────────────

module _ (by last key count : ℕ) where
  pub more_same : last / by ≡ key / by → one_more by last key count ≡ count
  unfolding one_more
  more_same e = rw (one_more, eq-eqb (last / by) (key / by) e)

  pub more-other : (last / by ≡ key / by → ⊥) → one_more by last key count ≡ count + 1
  unfolding one_more
  more-other e = rw (one_more, ne_eqb (last / by) (key / by) e)

  pub more-up : count ≤ one_more by last key count
  unfolding one_more
  more-up = go (eqb (last / by) (key / by)) refl
    where
      go : (b : Bool) → eqb (last / by) (key / by) ≡ b → count ≤ one_more by last key count
      go true e = rw (one_more, e) (omega arith)
      go false e = rw (one_more, e) (omega arith)

  pub more-most : one_more by last key count ≤ count + 1
  unfolding one_more
  more-most = go (eqb (last / by) (key / by)) refl
    where
      go : (b : Bool) → eqb (last / by) (key / by) ≡ b → one_more by last key count ≤ count + 1
      go true e = rw (one_more, e) (omega arith)
      go false e = rw (one_more, e) (omega arith)

-- all numbers 0
pub tally_none : {z : Tally} → z.models ≡ 0 → z.meters ≡ 0 → z.certs ≡ 0 → z.last ≡ 0 → z ≡ no_tally
unfolding no_tally
tally_none p q r s = λ i. record { models = p i; meters = q i; certs = r i; last = s i }

pub few-none : Few no_tally
unfolding no_tally
few-none = record { models = omega arith; meters = omega arith }

pub few-counted : (c : Tally) (key : ℕ) → Few c → Few (counted c key)
unfolding counted
few-counted c key f = record {
  models = omega (arith, f.models, more-most 281474976710656 c.last key c.models);
  meters = omega (arith, f.meters, more-most 65536 c.last key c.meters);
}

pub few-all : (c : Tally) (xs : List Cert) → Few c → Few (counted_all c xs)
unfolding counted_all
few-all c [] f = f
few-all c (x ∷ xs) f = few-all (counted c x.key) xs (few-counted c x.key f)

pub certs-all : (c : Tally) (xs : List Cert) → (counted_all c xs).certs ≡ c.certs + length xs
unfolding counted_all counted
certs-all c [] = omega arith
certs-all c (x ∷ xs) = certs-all (counted c x.key) xs ∙ omega arith

pub certs-found : (xs : List Cert) → (counted_all no_tally xs).certs ≡ length xs
unfolding no_tally
certs-found xs = certs-all no_tally xs ∙ omega arith

-- ── A list of them ──────────────────────────────────────────────────────────────────────────────────────────────

pub all_append : (c : Tally) (xs ys : List Cert) → counted_all c (xs ++ ys) ≡ counted_all (counted_all c xs) ys
unfolding counted_all
all_append c [] ys = refl
all_append c (x ∷ xs) ys = all_append (counted c x.key) xs ys

-- no number falls
pub record Grows (c d : Tally) : Type 0 where
  pub models : c.models ≤ d.models
  pub meters : c.meters ≤ d.meters
  pub certs : c.certs ≤ d.certs

pub all-grows : (c : Tally) (xs : List Cert) → Grows c (counted_all c xs)
unfolding counted_all counted
all-grows c [] = record { models = omega arith; meters = omega arith; certs = omega arith }
all-grows c (x ∷ xs) =
    let g = all-grows (counted c x.key) xs in
    record {
      models = omega (arith, more-up 281474976710656 c.last x.key c.models, g.models);
      meters = omega (arith, more-up 65536 c.last x.key c.meters, g.meters);
      certs = omega (arith, g.certs);
    }

-- ── Those in a range ────────────────────────────────────────────────────────────────────────────────────────────

module _ (low high : ℕ) where
  module _ (c : Tally) (key : ℕ) where
    pub in_not : between low high key ≡ false → c ≡ counted_in low high c key
    unfolding counted_in
    in_not h = rw (counted_in, h)

    pub in_here : between low high key ≡ true → counted c key ≡ counted_in low high c key
    unfolding counted_in
    in_here h = rw (counted_in, h)

    -- one more at the most
    pub in_few : Few c → Few (counted_in low high c key)
    unfolding counted_in
    in_few f = go (between low high key) refl
      where
        go : (b : Bool) → between low high key ≡ b → Few (counted_in low high c key)
        go true e = rw (counted_in, e) (few-counted c key f)
        go false e = rw (counted_in, e) f

    pub in_most : (counted_in low high c key).certs ≤ c.certs + 1
    unfolding counted_in counted
    in_most = go (between low high key) refl
      where
        go : (b : Bool) → between low high key ≡ b → (counted_in low high c key).certs ≤ c.certs + 1
        go true e = rw (counted_in, e) (omega arith)
        go false e = rw (counted_in, e) (omega arith)

  cut-cons : (x : Cert) (xs : List Cert) (c : Tally)
      → counted_all (counted_in low high c x.key) (cut low high xs) ≡ counted_all c (cut low high (x ∷ xs))
  unfolding counted_all counted_in
  cut-cons x xs c = go (between low high x.key) refl
    where
      go : (b : Bool) → between low high x.key ≡ b
          → counted_all (counted_in low high c x.key) (cut low high xs) ≡ counted_all c (cut low high (x ∷ xs))
      go true e = rw (counted_in, e, cut_in low high x xs e)
      go false e = rw (counted_in, e, cut_out low high x xs e)

  -- the loop over a leaf
  module _ (b : List ℕ) (entries : ℕ) where
    -- what is left to count
    abbrev pub counts : ℕ → Tally → Tally
    counts j c = counted_all c (cut low high (left cert_in leaf_header cert_size b entries j))

    pub counts-turn : (j key : ℕ) (c d : Tally) → j < entries → key ≡ (cert_at b j).key → d ≡ counted_in low high c key
        → counts (j + 1) d ≡ counts j c
    unfolding cert_at
    counts-turn j key c d h k f =
        rw (f, k, left-more cert_in leaf_header cert_size b entries j h)
        (cut-cons (cert_in (drop (leaf_header + cert_size * j) b)) (left cert_in leaf_header cert_size b entries (j + 1)) c)

    pub counts_end : (j : ℕ) (c : Tally) → entries ≤ j → counts j c ≡ c
    unfolding counted_all
    counts_end j c h = rw (left-none cert_in leaf_header cert_size b entries j h, cut-nil low high)

    pub counts_start : (c : Tally) → counts 0 c ≡ counted_all c (cut low high (read_each cert_in cert_size entries (drop leaf_header b)))
    counts_start c = ap (λ (xs : List Cert). counted_all c (cut low high xs)) (sym (left-all cert_in leaf_header cert_size b entries))
