-- A leaf's certificates by the spot of a key: the entry before it has the key, or none has. Assumes nothing.
use Rattle.std.specs.Prelude.{Ok, Err}
use mathlib.Core.Path.{◌≡◌, refl, sym, ap, ◌∙◌}
use mathlib.Core.Bool.{Bool, true, false}
use mathlib.Core.List.{List}
use Prim.Native.Nat.{ℕ, zero, suc, ◌-◌, ◌≤◌, ◌<◌}
use native.Mathlib.Omega.{arith}
use borrow.Author.Tests.{eq-eqb, ne_eqb, eqb-true, eqb-false}
use lib.Dec.{eqb}
use lib.ListN.{drop, get_or}
use lib.Seq.{drop-drop}
use Rattle.rules.specs.Layout.{leaf_header, cert_size, leaf_room}
use Rattle.rules.specs.Entry.{Cert, keys, find, rising}
use Rattle.rules.specs.Page.{cert_in, view_in, page_in}
use Rattle.rules.specs.declared.FindError.{FindError}
use Rattle.rules.proofs.Bytes.Each.{read_each-at}
use Rattle.head.specs.Head.{cert_at}
use Rattle.head.specs.declared.Head.{Head}
use Rattle.head.proofs.Headers.{head_of}
use Rattle.entries.specs.Spot.{keys_in, spot_of}
use Rattle.entries.proofs.KeysIn.{keys-certs, length-keys_in, spot-bound}
use Rattle.seek.proofs.Found.{find-before, find-spot, find_absent}
use Rattle.way.specs.Ways.{Holds}
use Rattle.way.proofs.Leaf.{certs_in, certs-are, holds-room, holds-rise}
use Rattle.lookup.specs.Looks.{found_before, looked_in}

-- ── The entry before a spot, as the code looks at it ────────────────────────────────────────────────────────────

module _ (b : List ℕ) (k : ℕ) where
  pub first-missing : (s : ℕ) → s ≡ 0 → Err FindError.Missing ≡ found_before k s b
  unfolding found_before
  first-missing s z = rw z

  before_same : (j : ℕ) → (cert_at b j).key ≡ k → found_before k (suc j) b ≡ Ok (cert_at b j).value
  unfolding found_before
  before_same j q = rw (found_before, eq-eqb (cert_at b j).key k q)

  before-other : (j : ℕ) → ((cert_at b j).key ≡ k → ⊥) → found_before k (suc j) b ≡ Err FindError.Missing
  unfolding found_before
  before-other j n = rw (found_before, ne_eqb (cert_at b j).key k n)

  pub other-missing : (s j : ℕ) → (s ≡ 0 → ⊥) → j ≡ (cert_at b (s - 1)).key → (j ≡ k → ⊥) → Err FindError.Missing ≡ found_before k s b
  other-missing zero j o f n = absurd (o refl)
  other-missing (suc i) j o f n =
      let e : suc i - 1 ≡ i = omega arith in
      sym (before-other i (λ q. n ((rw e at f) ∙ q)))

  pub found_here : (s j v : ℕ) → (s ≡ 0 → ⊥) → j ≡ (cert_at b (s - 1)).key → j ≡ k → v ≡ (cert_at b (s - 1)).value
      → Ok v ≡ found_before k s b
  found_here zero j v o f q g = absurd (o refl)
  found_here (suc i) j v o f q g =
      let e : suc i - 1 ≡ i = omega arith in
      ap Ok (rw e at g) ∙ sym (before_same i (sym (rw e at f) ∙ q))

-- ── Among keys that rise ────────────────────────────────────────────────────────────────────────────────────────

module _ (b : List ℕ) (count : ℕ) (r : rising (keys (certs_in count b)) ≡ true) where
  pub rising-keys_in : rising (keys_in leaf_header cert_size count b) ≡ true
  rising-keys_in = rw (keys-certs count b) at r

  cert_at_lem : (j : ℕ) (d : Cert) → j < count → get_or (certs_in count b) j d ≡ cert_at b j
  unfolding cert_at
  cert_at_lem j d h = rw (read_each-at cert_in cert_size count (drop leaf_header b) j d h, drop-drop)

  module _ (k s : ℕ) (e : s ≡ spot_of k (keys_in leaf_header cert_size count b)) where
    pub spot-within : s ≤ count
    spot-within = omega (arith, e, rw (length-keys_in leaf_header cert_size count b) at (spot-bound k (keys_in leaf_header cert_size count b)))

    as_spot : spot_of k (keys (certs_in count b)) ≡ s
    as_spot = ap (spot_of k) (keys-certs count b) ∙ sym e

    -- what stands before the spot is what the leaf holds under the key
    pub found_before_lem : found_before k s b ≡ looked_in (find k (certs_in count b))
    unfolding found_before looked_in
    found_before_lem = go s as_spot spot-within
      where
        go : (i : ℕ) → spot_of k (keys (certs_in count b)) ≡ i → i ≤ count → found_before k i b ≡ looked_in (find k (certs_in count b))
        go zero q h = rw (find-before k (certs_in count b) r q)
        go (suc j) q h = last (eqb (cert_at b j).key k) refl
          where
            here : get_or (certs_in count b) j (cert_at b 0) ≡ cert_at b j
            here = cert_at_lem j (cert_at b 0) (omega arith)

            last : (t : Bool) → eqb (cert_at b j).key k ≡ t → found_before k (suc j) b ≡ looked_in (find k (certs_in count b))
            last true z =
                let f = eqb-true (cert_at b j).key k z in
                rw (find-spot k j (certs_in count b) (cert_at b 0) r q (ap (λ (x : Cert). x.key) here ∙ f))
                (before_same b k j f ∙ ap Ok (sym (ap (λ (x : Cert). x.value) here)))
            last false z =
                let f = eqb-false (cert_at b j).key k z in
                rw (find_absent k j (certs_in count b) (cert_at b 0) r q (λ y. f (sym (ap (λ (x : Cert). x.key) here) ∙ y)))
                (before-other b k j f)

-- ── A leaf by its header ────────────────────────────────────────────────────────────────────────────────────────

module _ (b : List ℕ) (h : Head) (f : h ≡ head_of (page_in b)) (l : Holds (view_in b)) (k s : ℕ)
    (e : s ≡ spot_of k (keys_in leaf_header cert_size h.count b)) where
  pub spot-room : s ≤ leaf_room
  spot-room = omega (arith, spot-within b h.count (holds-rise b h f l) k s e, holds-room b h f l)

  pub found-leaf : found_before k s b ≡ looked_in (find k (view_in b).certs)
  found-leaf = rw (certs-are b h f l) (found_before_lem b h.count (holds-rise b h f l) k s e)
