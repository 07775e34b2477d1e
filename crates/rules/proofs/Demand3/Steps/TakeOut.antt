-- A certificate is taken out of its leaf. The leaf stays, even if it is empty.
use Rattle.std.proofs.Common.{◌≡◌, ℕ, List, refl, arith}
use mathlib.Core.Option.{some, none}
use Rattle.rules.specs.Layout.{leaf_kind}
use Rattle.rules.specs.Entry.{find}
use Rattle.rules.specs.Page.{View, Page, touch}
use Rattle.rules.specs.Table.{read}
use Rattle.rules.specs.Withdraw.{without_cert, removed}
use Rattle.rules.specs.declared.Place.{Place}
use Rattle.rules.specs.declared.Session.{Session}
use Rattle.rules.proofs.Bytes.Pages.{Wide, wide-touch}
use Rattle.rules.proofs.Bytes.Tables.{wide_read}
use Rattle.rules.proofs.Bytes.Widths.{wide-without_cert}
use Rattle.rules.proofs.Entries.Withouts.{find-without-same, find-without-other, length_without}
use Rattle.rules.proofs.Entries.Views.{leaf_of-kind}
use Rattle.rules.proofs.Entries.Places.{Fits, fits_true, without_cert-fits}
use Rattle.rules.proofs.Demand3.Ways.Ways.{Node, Found}
use Rattle.rules.proofs.Demand3.Ways.Invariant.{States}
use Rattle.rules.proofs.Demand3.Ways.Nodes.{node-page}
use Rattle.rules.proofs.Demand3.Steps.Writes.{spare_of, Writes, shrink_writes}
use Rattle.rules.proofs.Demand3.Steps.Keeps.{Keeps}
use Rattle.rules.proofs.Demand3.Steps.Restate.{Restates}

module _ {n c : ℕ} {s : Session} {W S : List ℕ} {Been : States} (K : Keeps n c s W S Been) {k : ℕ} {w : Place} (y : Node n W k w)
    (f : Found n W w) (l : (read W w.child).view.kind ≡ leaf_kind) (x : ℕ)
    (there : find k (read W w.child).view.certs ≡ some x) where
  abbrev W' : List ℕ
  W' = removed c k W w.child

  abbrev view : View
  view = (read W w.child).view

  pub without_cert_lem : Page
  without_cert_lem = touch c (without_cert k view) (read W w.child)

  fit : Fits n w without_cert_lem
  unfolding without_cert_lem
  fit = without_cert-fits c k (fits_true n w (read W w.child) f)

  -- the leaf had no more than it has room for, so with one less it has a place to spare
  written : Writes n W W' w.child without_cert_lem
  unfolding without_cert_lem removed without_cert touch
  written =
      let p = node-page K.inv.rooted y in
      let o = wide_read W w.child K.working.bytes in
      let e = leaf_of-kind view l in
      let t : Wide without_cert_lem = wide-touch (wide-without_cert o.view k e) (omega (arith, K.small)) o in
      let room = (fits_true n w (read W w.child) f).sound.certs_room in
      shrink_writes K.working p.0 p.1 t
      (spare_of t (leaf_of-kind (without_cert k view) l) (omega (arith, length_without k view.certs x there, room)))

  pub take_restates : Restates n c W W' k none w without_cert_lem
  unfolding without_cert_lem touch without_cert
  take_restates = record {
    node = y;
    found = f;
    was_leaf = l;
    written = written;
    fits = fit;
    touched = refl;
    built = refl;
    leaf = l;
    own = find-without-same k view.certs (fits_true n w (read W w.child) f).sound.certs_rise;
    others = λ j d. find-without-other j k view.certs d;
  }
