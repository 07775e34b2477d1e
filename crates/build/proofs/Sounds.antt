-- Sound pages are what these functions ask for.
-- Assumes nothing.
use mathlib.Core.Path.{◌≡◌, refl}
use mathlib.Core.Bool.{Bool, true, false, ◌||◌, and-eq-true_iff}
use mathlib.Core.List.{List, append-nil}
use Prim.Native.Nat.{ℕ}
use native.Mathlib.Omega.{arith}
use borrow.Author.Tests.{leb-true}
use lib.Dec.{leb, eqb}
use lib.ListN.{length, drop}
use Rattle.fields.specs.Field.{le_at}
use Rattle.rules.specs.Layout.{leaf_half, inner_half, leaf_kind, leaf_room, inner_room, leaf_header, inner_header, cert_size, child_size}
use Rattle.rules.specs.Test.{every}
use Rattle.rules.specs.Entry.{keys, rising}
use Rattle.rules.specs.Page.{Page, view_in, page_in, is_leaf, count, read_each, cert_in, child_in}
use Rattle.rules.specs.Sound.{sound, in_order}
use Rattle.rules.specs.Place.{mendable}
use Rattle.rules.specs.Insert.{full, divide}
use Rattle.rules.specs.declared.Place.{Place}
use Rattle.rules.proofs.Bytes.Each.{length-read_each}
use Rattle.rules.proofs.Bytes.Pages.{view_in-leaf, view_in-inner}
use Rattle.rules.proofs.Entries.Rises.{rising-at}
use Rattle.entries.proofs.KeysIn.{keys-certs, keys-children, length-keys_in}
use Rattle.build.specs.Range.{Ordered, Divides, half_of}

pub sound_ordered : (n : ℕ) (p : Page) → sound n p ≡ true → Ordered p.view
unfolding sound every in_order
sound_ordered n p h =
    let s = simp and-eq-true_iff at h in
    record {
      roomy = record {
        certs = leb-true (length p.view.certs) leaf_room s.1.0;
        children = leb-true (length p.view.children) inner_room s.1.1.0;
      };
      certs = s.1.1.1.1.0.0;
      children = s.1.1.1.1.1.0.0;
    }

pub mendable_ordered : (n : ℕ) (e : Place) (q : Page) → mendable n e q ≡ true → Ordered q.view
unfolding mendable every
mendable_ordered n e q h =
    let s = simp and-eq-true_iff at h in
    sound_ordered n q s.1.1.0

-- ── A full page ─────────────────────────────────────────────────────────────────────────────────────────────────

or-false : (t : Bool) → t || false ≡ true → t ≡ true
or-false true h = refl
or-false false h = h

pub full-divides : (n : ℕ) (b : List ℕ) → sound n (page_in b) ≡ true → full (view_in b) ≡ true → Divides (view_in b)
unfolding page_in full half_of divide is_leaf count keys
full-divides n b h f = go (eqb (le_at b 0 2) leaf_kind) refl
  where
    go : (t : Bool) → eqb (le_at b 0 2) leaf_kind ≡ t → Divides (view_in b)
    go true e =
        let o = sound_ordered n (page_in b) h in
        let ks = keys (read_each cert_in cert_size (le_at b 2 2) (drop leaf_header b)) in
        let r : rising ks ≡ true = rw (view_in-leaf b e) at o.certs in
        let m : length ks ≡ le_at b 2 2 = rw (keys-certs (le_at b 2 2) b) (length-keys_in leaf_header cert_size (le_at b 2 2) b) in
        let g : leb leaf_room (le_at b 2 2) ≡ true = or-false (leb leaf_room (le_at b 2 2)) (rw (view_in-leaf b e, length-read_each) at f) in
        let k = leb-true leaf_room (le_at b 2 2) g in
        record {
          roomy = o.roomy;
          past = rw (view_in-leaf b e, half_of, e, length-read_each) (omega arith);
          above = rw (view_in-leaf b e, e, append-nil) (omega (arith, rising-at ks 0 leaf_half 0 r (omega arith) (omega arith)));
        }
    go false e =
        let o = sound_ordered n (page_in b) h in
        let ks = keys (read_each child_in child_size (le_at b 2 2) (drop inner_header b)) in
        let r : rising ks ≡ true = rw (view_in-inner b e) at o.children in
        let m : length ks ≡ le_at b 2 2 = rw (keys-children (le_at b 2 2) b) (length-keys_in inner_header child_size (le_at b 2 2) b) in
        let g : leb inner_room (le_at b 2 2) ≡ true = rw (view_in-inner b e, length-read_each) at f in
        let k = leb-true inner_room (le_at b 2 2) g in
        record {
          roomy = o.roomy;
          past = rw (view_in-inner b e, half_of, e, length-read_each) (omega arith);
          above = rw (view_in-inner b e, e) (omega (arith, rising-at ks 0 inner_half 0 r (omega arith) (omega arith)));
        }
