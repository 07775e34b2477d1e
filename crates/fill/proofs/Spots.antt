-- Where a key stands among a leaf's certificates, and how those that are asked for lie there. Assumes nothing.
use mathlib.Core.Path.{◌≡◌, refl, sym, ap, ◌∙◌}
use mathlib.Core.Bool.{Bool, true, false}
use mathlib.Core.List.{List}
use Prim.Native.Nat.{ℕ, min, ◌+◌, ◌-◌, ◌*◌, ◌≤◌, ◌<◌}
use native.Mathlib.Nat.{min-eq_left, min-eq_right, min-le_left, min-le_right}
use native.Mathlib.Omega.{arith}
use borrow.Author.Tests.{leb-true, leb-false}
use lib.Dec.{leb}
use lib.ListN.{take, drop, get_or, length-take}
use lib.Seq.{take_all, take-take, drop-drop}
use Rattle.rules.specs.Layout.{leaf_header, cert_size}
use Rattle.rules.specs.Entry.{keys, rising}
use Rattle.rules.specs.Page.{cert_in}
use Rattle.rules.specs.declared.Asked.{Asked}
use Rattle.rules.proofs.Bytes.Each.{read_each-at, take-read_each, drop-read_each}
use Rattle.head.specs.Head.{cert_at}
use Rattle.entries.specs.Spot.{key_in, keys_in, spot_of, start_of}
use Rattle.entries.proofs.Cut.{cut_range}
use Rattle.entries.proofs.KeysIn.{keys-certs, length-keys_in, spot-bound, start-bound}
use Rattle.seek.proofs.Spots.{spot-above, spot-below}
use Rattle.fill.specs.Fills.{certs_from, asked}

-- ── A spot at either end ────────────────────────────────────────────────────────────────────────────────────────

key_cert : (count j : ℕ) (b : List ℕ) → j < count → get_or (keys_in leaf_header cert_size count b) j 0 ≡ (cert_at b j).key
unfolding keys_in key_in cert_at cert_in
key_cert count j b h = rw (read_each-at key_in cert_size count (drop leaf_header b) j 0 h, drop-drop)

module _ (b : List ℕ) (count k : ℕ) where
  pub spot-none : count ≡ 0 → 0 ≡ spot_of k (keys_in leaf_header cert_size count b)
  spot-none z = omega (arith, spot-bound k (keys_in leaf_header cert_size count b), length-keys_in leaf_header cert_size count b)

  pub spot-start : 0 < count → (x : ℕ) → x ≡ (cert_at b 0).key → k < x → 0 ≡ spot_of k (keys_in leaf_header cert_size count b)
  spot-start h x e l =
      let at : k < get_or (keys_in leaf_header cert_size count b) 0 0 = omega (arith, key_cert count 0 b h) in
      let s = spot-below k 0 (keys_in leaf_header cert_size count b) (omega (arith, length-keys_in leaf_header cert_size count b)) at in
      omega arith

  pub spot-end : rising (keys_in leaf_header cert_size count b) ≡ true → 0 < count → (x : ℕ) → x ≡ (cert_at b (count - 1)).key → x ≤ k
      → count ≡ spot_of k (keys_in leaf_header cert_size count b)
  spot-end r h x e l =
      let at : get_or (keys_in leaf_header cert_size count b) (count - 1) 0 ≤ k = omega (arith, key_cert count (count - 1) b (omega arith)) in
      let s = spot-above k (count - 1) (keys_in leaf_header cert_size count b) r (omega (arith, length-keys_in leaf_header cert_size count b)) at in
      omega (arith, spot-bound k (keys_in leaf_header cert_size count b), length-keys_in leaf_header cert_size count b)

-- ── Those asked for ─────────────────────────────────────────────────────────────────────────────────────────────

take_min : {A : Type 0} (m n : ℕ) (xs : List A) → take m (take n xs) ≡ take (min m n) xs
take_min m n xs = go (leb m n) refl
  where
    go : (t : Bool) → leb m n ≡ t → take m (take n xs) ≡ take (min m n) xs
    go true e = rw (min-eq_left (leb-true m n e)) (take-take m n xs (leb-true m n e))
    go false e =
        let h : n ≤ m = omega (arith, leb-false m n e) in
        rw (min-eq_right h) (take_all m (take n xs) (omega (arith, length-take n xs)))

certs-run : (b : List ℕ) (count first many : ℕ) → many ≤ count - first
    → take many (drop first (certs_from b 0 count)) ≡ certs_from b first many
unfolding certs_from
certs-run b count first many h =
    rw (drop-read_each cert_in cert_size first count (drop leaf_header b), take-read_each cert_in cert_size many (count - first) (drop (cert_size * first) (drop leaf_header b)) h, drop-drop)

module _ (b : List ℕ) (count : ℕ) (a : Asked) (filled : ℕ) (r : rising (keys_in leaf_header cert_size count b) ≡ true) (first past many : ℕ) (f : first ≡ start_of a.low (keys_in leaf_header cert_size count b)) (p : past ≡ spot_of a.high (keys_in leaf_header cert_size count b)) (m : many ≡ min (a.room - filled) (past - first)) where
  many-room : many ≤ count - first
  many-room =
      omega (arith, min-le_right (a.room - filled) (past - first), spot-bound a.high (keys_in leaf_header cert_size count b), length-keys_in leaf_header cert_size count b)

  -- they lie in the page
  pub run-within : first + many ≤ count
  run-within = omega (arith, many-room, start-bound a.low (keys_in leaf_header cert_size count b), length-keys_in leaf_header cert_size count b)

  same_keys : keys (certs_from b 0 count) ≡ keys_in leaf_header cert_size count b
  unfolding certs_from
  same_keys = keys-certs count b

  asked-cut : asked a filled (certs_from b 0 count) ≡ take (a.room - filled) (take (past - first) (drop first (certs_from b 0 count)))
  unfolding asked
  asked-cut = rw (cut_range a.low a.high (certs_from b 0 count) (rw same_keys r), same_keys, p, f)

  pub asked-run : certs_from b first many ≡ asked a filled (certs_from b 0 count)
  asked-run =
      sym
      (asked-cut
      ∙ (take_min (a.room - filled) (past - first) (drop first (certs_from b 0 count))
      ∙ (ap (λ (k : ℕ). take k (drop first (certs_from b 0 count))) (sym m) ∙ certs-run b count first many many-room)))

-- and there is room for them in the lists
pub run_room : (room at past first many : ℕ) → at ≤ room → many ≡ min (room - at) (past - first) → at + many ≤ room
run_room room at past first many h m = omega (arith, m, min-le_left (room - at) (past - first))
