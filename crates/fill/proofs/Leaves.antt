-- A leaf of a table by its header. Assumes nothing.
use mathlib.Core.Path.{◌≡◌, sym, ap, ◌∙◌}
use mathlib.Core.Bool.{true}
use mathlib.Core.List.{List}
use Prim.Native.Nat.{ℕ, ◌≤◌}
use native.Mathlib.Omega.{arith}
use lib.ListN.{length, drop}
use Rattle.rules.specs.Layout.{leaf_header, cert_size, leaf_kind, leaf_room}
use Rattle.rules.specs.Entry.{keys, rising}
use Rattle.rules.specs.Page.{cert_in}
use Rattle.rules.specs.Table.{page_at, read}
use Rattle.rules.proofs.Bytes.Each.{length-read_each}
use Rattle.head.specs.declared.Head.{Head}
use Rattle.head.proofs.Headers.{head_of, certs-leaf}
use Rattle.entries.specs.Spot.{keys_in}
use Rattle.entries.proofs.KeysIn.{keys-certs}
use Rattle.fill.specs.Fills.{certs_from, Sorted}

module _ (t : List ℕ) (page : ℕ) (h : Head) (f : h ≡ head_of (read t page)) (q : h.kind ≡ leaf_kind) where
  pub leaf-certs : (read t page).view.certs ≡ certs_from (page_at t page) 0 h.count
  unfolding certs_from
  leaf-certs = certs-leaf t page h f q

  module _ (r : Sorted (read t page).view.certs) where
    pub leaf_room_lem : h.count ≤ leaf_room
    unfolding certs_from
    leaf_room_lem =
        omega (arith, r.room, ap length leaf-certs, length-read_each cert_in cert_size h.count (drop leaf_header (page_at t page)))

    pub leaf-rise : rising (keys_in leaf_header cert_size h.count (page_at t page)) ≡ true
    unfolding certs_from
    leaf-rise = ap rising (sym (ap keys leaf-certs ∙ keys-certs h.count (page_at t page))) ∙ r.rise
