-- The halves of a page, as ranges of its entries by index, and the key that divides them.
-- Assumes nothing.
use mathlib.Core.Path.{◌≡◌, refl, sym, ◌∙◌}
use mathlib.Core.Bool.{Bool, true, false}
use mathlib.Core.List.{List, append-nil}
use Prim.Native.Nat.{ℕ, ◌+◌, ◌*◌, ◌-◌, ◌<◌}
use native.Mathlib.Omega.{arith}
use lib.Dec.{eqb}
use lib.ListN.{length, get_or, take, drop, length-drop}
use lib.Seq.{take_all, take-nil}
use Rattle.fields.specs.Field.{le_at}
use Rattle.rules.specs.Layout.{leaf_header, inner_header, leaf_kind, leaf_half, inner_half, cert_size, child_size}
use Rattle.rules.specs.Entry.{keys}
use Rattle.rules.specs.Page.{view_in, is_leaf, read_each, cert_in, child_in}
use Rattle.rules.specs.Insert.{divide, lower_half, upper_half}
use Rattle.rules.proofs.Bytes.Each.{length-read_each}
use Rattle.rules.proofs.Bytes.Pages.{view_in-leaf, view_in-inner, kind-view_in, count-view_in}
use Rattle.entries.specs.Spot.{header_size, size_of}
use Rattle.entries.proofs.KeysIn.{keys-certs, keys-children, key-at}
use Rattle.build.specs.Range.{keys_of, range_view, half_of, Divides}

module _ (b : List ℕ) (h : half_of (le_at b 0 2) < le_at b 2 2) where
  -- where the key that divides a page stands
  pub divide-at : divide (view_in b) ≡ le_at b (header_size (le_at b 0 2) + size_of (le_at b 0 2) * half_of (le_at b 0 2)) 8
  unfolding divide is_leaf header_size size_of half_of keys
  divide-at = go (eqb (le_at b 0 2) leaf_kind) refl
    where
      go : (t : Bool) → eqb (le_at b 0 2) leaf_kind ≡ t → divide (view_in b) ≡ le_at b (header_size (le_at b 0 2) + size_of (le_at b 0 2) * half_of (le_at b 0 2)) 8
      go true e =
          let k = rw (half_of, e) at h in
          rw (view_in-leaf b e, append-nil, keys-certs (le_at b 2 2) b, header_size, size_of, half_of, e) (key-at leaf_header cert_size (le_at b 2 2) leaf_half b k)
      go false e =
          let k = rw (half_of, e) at h in
          rw (view_in-inner b e, keys-children (le_at b 2 2) b, header_size, size_of, half_of, e) (key-at inner_header child_size (le_at b 2 2) inner_half b k)

  -- which key that is
  pub divide-key : divide (view_in b) ≡ get_or (keys_of b) (half_of (le_at b 0 2)) 0
  divide-key = divide-at ∙ sym (key-at (header_size (le_at b 0 2)) (size_of (le_at b 0 2)) (le_at b 2 2) (half_of (le_at b 0 2)) b h)

  pub lower_half_lem : lower_half (view_in b) ≡ range_view 0 (half_of (le_at b 0 2)) (view_in b)
  unfolding lower_half range_view half_of
  lower_half_lem = go (eqb (le_at b 0 2) leaf_kind) refl
    where
      go : (t : Bool) → eqb (le_at b 0 2) leaf_kind ≡ t → lower_half (view_in b) ≡ range_view 0 (half_of (le_at b 0 2)) (view_in b)
      go true e = rw (view_in-leaf b e, half_of, e)
      go false e = rw (view_in-inner b e, half_of, e)

  pub upper_half_lem : upper_half (view_in b) ≡ range_view (half_of (le_at b 0 2)) (le_at b 2 2) (view_in b)
  unfolding upper_half range_view half_of
  upper_half_lem = go (eqb (le_at b 0 2) leaf_kind) refl
    where
      all : {A : Type 0} (xs : List A) (half : ℕ) → length xs ≡ le_at b 2 2 → take (le_at b 2 2 - half) (drop half xs) ≡ drop half xs
      all xs half f = take_all (le_at b 2 2 - half) (drop half xs) (rw (length-drop, f) (omega arith))

      go : (t : Bool) → eqb (le_at b 0 2) leaf_kind ≡ t → upper_half (view_in b) ≡ range_view (half_of (le_at b 0 2)) (le_at b 2 2) (view_in b)
      go true e =
          let certs = read_each cert_in cert_size (le_at b 2 2) (drop leaf_header b) in
          rw (view_in-leaf b e, half_of, e, all certs leaf_half (length-read_each cert_in cert_size (le_at b 2 2) (drop leaf_header b)), take-nil)
      go false e =
          let children = read_each child_in child_size (le_at b 2 2) (drop inner_header b) in
          rw (view_in-inner b e, half_of, e, all children inner_half (length-read_each child_in child_size (le_at b 2 2) (drop inner_header b)), take-nil)

pub half_below : (b : List ℕ) → Divides (view_in b) → half_of (le_at b 0 2) < le_at b 2 2
half_below b d = rw (← kind-view_in b, ← count-view_in b) d.past
