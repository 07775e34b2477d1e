-- The entries of a page in a range of keys, as a range by index.
-- Assumes nothing.
use mathlib.Core.Path.{◌≡◌, refl}
use mathlib.Core.Bool.{Bool, true, false}
use mathlib.Core.List.{List}
use Prim.Native.Nat.{ℕ, ◌≤◌}
use native.Mathlib.Omega.{arith}
use lib.Dec.{eqb}
use lib.ListN.{drop}
use Rattle.fields.specs.Field.{le_at}
use Rattle.rules.specs.Layout.{leaf_header, inner_header, leaf_kind, cert_size, child_size}
use Rattle.rules.specs.Entry.{keys, cut, rising}
use Rattle.rules.specs.Page.{view_in, count, read_each, cert_in, child_in}
use Rattle.rules.specs.Place.{cut_view}
use Rattle.rules.proofs.Bytes.Pages.{view_in-leaf, view_in-inner, count-view_in}
use Rattle.entries.specs.Spot.{header_size, size_of, spot_of, start_of}
use Rattle.entries.proofs.Cut.{cut_range}
use Rattle.entries.proofs.KeysIn.{keys-certs, keys-children, length-keys_in, spot-bound, start-bound}
use Rattle.build.proofs.Built.{range-nil}
use Rattle.build.specs.Range.{keys_of, range_view, Ordered}

pub cut_view_lem : (b : List ℕ) (low high : ℕ) → Ordered (view_in b)
    → cut_view low high (view_in b) ≡ range_view (start_of low (keys_of b)) (spot_of high (keys_of b)) (view_in b)
unfolding cut_view range_view header_size size_of cut
cut_view_lem b low high o = go (eqb (le_at b 0 2) leaf_kind) refl
  where
    go : (t : Bool) → eqb (le_at b 0 2) leaf_kind ≡ t
        → cut_view low high (view_in b) ≡ range_view (start_of low (keys_of b)) (spot_of high (keys_of b)) (view_in b)
    go true e =
        let certs = read_each cert_in cert_size (le_at b 2 2) (drop leaf_header b) in
        let r : rising (keys certs) ≡ true = rw (view_in-leaf b e) at o.certs in
        let f = rw (keys-certs (le_at b 2 2) b) at (cut_range low high certs r) in
        rw (view_in-leaf b e, header_size, size_of, e, range-nil, f)
    go false e =
        let children = read_each child_in child_size (le_at b 2 2) (drop inner_header b) in
        let r : rising (keys children) ≡ true = rw (view_in-inner b e) at o.children in
        let f = rw (keys-children (le_at b 2 2) b) at (cut_range low high children r) in
        rw (view_in-inner b e, header_size, size_of, e, range-nil, f)

pub start-count : (b : List ℕ) (low : ℕ) → start_of low (keys_of b) ≤ count (view_in b)
start-count b low =
    omega (arith, start-bound low (keys_of b), length-keys_in (header_size (le_at b 0 2)) (size_of (le_at b 0 2)) (le_at b 2 2) b, count-view_in b)

pub spot-count : (b : List ℕ) (high : ℕ) → spot_of high (keys_of b) ≤ count (view_in b)
spot-count b high =
    omega (arith, spot-bound high (keys_of b), length-keys_in (header_size (le_at b 0 2)) (size_of (le_at b 0 2)) (le_at b 2 2) b, count-view_in b)
