-- A leaf that was entered, by its header: which certificates it has, and that their keys rise. Assumes nothing.
use mathlib.Core.Path.{◌≡◌, sym, ap, ◌∙◌}
use mathlib.Core.Bool.{true}
use mathlib.Core.List.{List}
use Prim.Native.Nat.{ℕ, ◌≤◌}
use native.Mathlib.Omega.{arith}
use lib.ListN.{length, drop}
use Rattle.fields.specs.Field.{le_at}
use Rattle.rules.specs.Layout.{leaf_header, cert_size, leaf_room}
use Rattle.rules.specs.Entry.{Cert, keys, rising}
use Rattle.rules.specs.Page.{View, read_each, cert_in, view_in, page_in}
use Rattle.rules.proofs.Bytes.Each.{length-read_each}
use Rattle.rules.proofs.Entries.Views.{leaf_kind_lem}
use Rattle.head.specs.declared.Head.{Head}
use Rattle.head.proofs.Headers.{head_of, view-leaf, kind-view, count-view}
use Rattle.entries.specs.Spot.{keys_in}
use Rattle.entries.proofs.KeysIn.{keys-certs}
use Rattle.way.specs.Ways.{Holds}

-- the first so many certificates of a leaf
abbrev pub certs_in : ℕ → List ℕ → List Cert
certs_in count b = read_each cert_in cert_size count (drop leaf_header b)

module _ (b : List ℕ) (h : Head) (f : h ≡ head_of (page_in b)) (l : Holds (view_in b)) where
  count-is : h.count ≡ le_at b 2 2
  unfolding head_of page_in
  count-is = ap (λ (x : Head). x.count) f ∙ count-view b

  pub certs-are : (view_in b).certs ≡ certs_in h.count b
  certs-are =
      ap (λ (v : View). v.certs) (view-leaf b (sym (kind-view b) ∙ leaf_kind_lem (view_in b) l.leaf))
      ∙ ap (λ (n : ℕ). certs_in n b) (sym count-is)

  pub holds-room : h.count ≤ leaf_room
  holds-room =
      omega (arith, ap length certs-are, length-read_each cert_in cert_size h.count (drop leaf_header b), l.room)

  pub holds-rise : rising (keys (certs_in h.count b)) ≡ true
  holds-rise = rw certs-are at l.rise

  pub holds-keys : rising (keys_in leaf_header cert_size h.count b) ≡ true
  holds-keys = rw (keys-certs h.count b) at holds-rise
