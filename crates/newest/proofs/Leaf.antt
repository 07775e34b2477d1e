-- A leaf's last certificate of a range, as the code looks at it. Assumes nothing.
use Rattle.std.specs.Prelude.{Ok}
use Prim.Native.Nat.{ℕ, zero, suc, ◌-◌, ◌%◌, ◌≤◌, ◌<◌}
use native.Mathlib.Omega.{arith}
use mathlib.Core.Path.{◌≡◌, refl, sym, ap, ◌∙◌}
use mathlib.Core.List.{List}
use lib.ListN.{length, get_or, drop}
use lib.Seq.{drop-drop}
use Rattle.rules.specs.Layout.{leaf_header, cert_size}
use Rattle.rules.specs.Key.{issue_of}
use Rattle.rules.specs.Entry.{Cert}
use Rattle.rules.specs.Page.{cert_in, page_in}
use Rattle.rules.specs.Table.{page_at, read}
use Rattle.rules.specs.Answer.{Newest, newest_is}
use Rattle.rules.proofs.Bytes.Each.{read_each-at, length-read_each}
use Rattle.head.specs.Head.{cert_at}
use Rattle.head.proofs.Headers.{head_of}
use Rattle.way.specs.Ways.{Holds}
use Rattle.way.proofs.Leaf.{certs_in, certs-are}
use Rattle.newest.specs.Newests.{or_this, last_in}
use Rattle.newest.proofs.Last.{this_in, this_below, last_before}

module _ (low : ℕ) (b : List ℕ) (before : Newest) where
  pub last_none : (s : ℕ) → s ≡ 0 → before ≡ last_in low s b before
  unfolding last_in
  last_none s z = rw z

  last_this : (s : ℕ) → (s ≡ 0 → ⊥) → last_in low s b before ≡ or_this low (cert_at b (s - 1)) before
  unfolding last_in
  last_this zero o = absurd (o refl)
  last_this (suc j) o = let e : j ≡ suc j - 1 = omega arith in ap (λ (i : ℕ). or_this low (cert_at b i) before) e

  module _ (s k : ℕ) (o : s ≡ 0 → ⊥) (f : k ≡ (cert_at b (s - 1)).key) where
    pub last-below : k < low → before ≡ last_in low s b before
    last-below h = sym (last_this s o ∙ this_below low (cert_at b (s - 1)) before (omega (arith, f)))

    pub last-here : low ≤ k → (v : ℕ) → v ≡ (cert_at b (s - 1)).value → Ok (newest_is (k % 65536) v) ≡ last_in low s b before
    unfolding issue_of
    last-here h v g = rw (f, g) (sym (last_this s o ∙ this_in low (cert_at b (s - 1)) before (omega (arith, f))))

-- ── In a leaf that was entered ──────────────────────────────────────────────────────────────────────────────────

cert_at_lem : (count j : ℕ) (b : List ℕ) (d : Cert) → j < count → get_or (certs_in count b) j d ≡ cert_at b j
unfolding cert_at
cert_at_lem count j b d h = rw (read_each-at cert_in cert_size count (drop leaf_header b) j d h, drop-drop)

last-certs : (low s count : ℕ) (b : List ℕ) (d : Cert) (before : Newest) → s ≤ count
    → last_in low s b before ≡ last_before low s (certs_in count b) d before
unfolding last_in last_before
last-certs low zero count b d before h = refl
last-certs low (suc j) count b d before h = ap (λ (x : Cert). or_this low x before) (sym (cert_at_lem count j b d (omega arith)))

pub last-read : (low s : ℕ) (t : List ℕ) (i : ℕ) (d : Cert) (before : Newest) → Holds (read t i).view → s ≤ length (read t i).view.certs
    → last_in low s (page_at t i) before ≡ last_before low s (read t i).view.certs d before
unfolding read page_in
last-read low s t i d before l h =
    let b = page_at t i in
    let n = (head_of (page_in b)).count in
    let q = certs-are b (head_of (page_in b)) refl l in
    last-certs low s n b d before (omega (arith, ap length q, length-read_each cert_in cert_size n (drop leaf_header b)))
    ∙ ap (λ (xs : List Cert). last_before low s xs d before) (sym q)
