-- A certificate is put into its leaf, which has room.
use Rattle.std.proofs.Common.{◌≡◌, ℕ, ◌^◌, ◌<◌, true, List, length, refl, arith}
use mathlib.Core.Option.{some}
use Rattle.rules.specs.Layout.{leaf_kind, leaf_room}
use Rattle.rules.specs.Key.{good_key}
use Rattle.rules.specs.Entry.{Cert}
use Rattle.rules.specs.Page.{View, Page, touch}
use Rattle.rules.specs.Table.{read}
use Rattle.rules.specs.Insert.{put_cert, changed}
use Rattle.rules.specs.declared.Place.{Place}
use Rattle.rules.specs.declared.Session.{Session}
use Rattle.rules.proofs.Bytes.EntryBytes.{WideCert}
use Rattle.rules.proofs.Bytes.Pages.{Wide, wide-touch}
use Rattle.rules.proofs.Bytes.Tables.{wide_read}
use Rattle.rules.proofs.Bytes.Widths.{wide-put_cert}
use Rattle.rules.proofs.Entries.Puts.{find-put-same, find-put-other}
use Rattle.rules.proofs.Entries.Views.{leaf_of-kind}
use Rattle.rules.proofs.Entries.Places.{Fits, fits_true, put_cert-fits}
use Rattle.rules.proofs.Demand3.Ways.Ways.{Node, Found}
use Rattle.rules.proofs.Demand3.Ways.Invariant.{States}
use Rattle.rules.proofs.Demand3.Ways.Nodes.{node-page, node-range}
use Rattle.rules.proofs.Demand3.Steps.Mended.{node-last}
use Rattle.rules.proofs.Demand3.Steps.Writes.{room_of, Writes, change_writes}
use Rattle.rules.proofs.Demand3.Steps.Keeps.{Keeps}
use Rattle.rules.proofs.Demand3.Steps.Restate.{Restates}

module _ {n c : ℕ} {s : Session} {W S : List ℕ} {Been : States} (K : Keeps n c s W S Been) {k : ℕ} {w : Place} (y : Node n W k w)
    (f : Found n W w) (l : (read W w.child).view.kind ≡ leaf_kind) (r : length (read W w.child).view.certs < leaf_room)
    (g : good_key k ≡ true) (x : ℕ) (small-x : x < 256 ^ 4) where
  abbrev entry : Cert
  entry = record { key = k; value = x }

  abbrev W' : List ℕ
  W' = changed c (put_cert (record { key = k; value = x })) W w.child

  abbrev view : View
  view = (read W w.child).view

  pub with_cert : Page
  with_cert = touch c (put_cert entry view) (read W w.child)

  fit : Fits n w with_cert
  unfolding with_cert
  fit =
      let z = node-range y in
      put_cert-fits c entry r g z.0 z.1 (fits_true n w (read W w.child) f)

  written : Writes n W W' w.child with_cert
  unfolding with_cert changed
  written =
      let p = node-page K.inv.rooted y in
      let z = node-range y in
      let o = wide_read W w.child K.working.bytes in
      let h : WideCert entry = record { key = omega (arith, node-last y, z.1); value = small-x } in
      let v = wide-put_cert o.view h (leaf_of-kind view l) (omega (arith, r)) in
      let t : Wide with_cert = wide-touch v (omega (arith, K.small)) o in
      change_writes K.working p.0 p.1 t (room_of t fit.sound)

  pub put_restates : Restates n c W W' k (some x) w with_cert
  unfolding with_cert touch put_cert
  put_restates = record {
    node = y;
    found = f;
    was_leaf = l;
    written = written;
    fits = fit;
    touched = refl;
    built = refl;
    leaf = l;
    own = find-put-same entry view.certs;
    others = λ j d. find-put-other j entry view.certs d;
  }
