-- The page that was entered stands in the table that entering leaves: a mended page is read as it was built.
-- Assumes nothing.
use mathlib.Core.Path.{◌≡◌, ap, ◌∙◌}
use mathlib.Core.Bool.{true}
use mathlib.Core.List.{List}
use Prim.Native.Nat.{ℕ, ◌*◌, ◌^◌, ◌<◌}
use native.Mathlib.Omega.{arith}
use lib.ListN.{length}
use Rattle.fields.specs.Field.{Bytes}
use Rattle.rules.specs.Layout.{page_size}
use Rattle.rules.specs.Page.{fresh}
use Rattle.rules.specs.Table.{page_at, read, build}
use Rattle.rules.specs.Place.{mendable, mended, cut_view, Why}
use Rattle.rules.specs.Enter as rules
use Rattle.rules.specs.declared.Place.{Place}
use Rattle.head.specs.Head.{head_in}
use Rattle.head.specs.declared.Head.{Head}
use Rattle.head.proofs.Headers.{head_of, head_in-page}
use Rattle.rules.proofs.Entries.Entries.{length_cut}
use Rattle.rules.proofs.Bytes.Pages.{Wide, room-page_bytes}
use Rattle.rules.proofs.Bytes.Tables.{has-page, Room, wide_read, read-build-same}
use Rattle.rules.proofs.Bytes.Widths.{wide-mended}
use Rattle.rules.proofs.Entries.Places.{mendable_true}
use Rattle.enter.specs.Entering.{entering, told}
use Rattle.enter.specs.Entering as enters
use Rattle.enter.proofs.Told.{mend-page}

-- every number of a place, and the counter, fits its field
pub record Narrow (c : ℕ) (e : Place) : Type 0 where
  pub counter : c < 256 ^ 4
  pub birth : e.birth < 256 ^ 4
  pub low : e.low < 256 ^ 8
  pub high : e.high < 256 ^ 8

module _ (n c : ℕ) (t : List ℕ) (e : Place) (b : Bytes t) (w : Narrow c e) where
  wide : Wide (mended c e (read t e.previous))
  wide = wide-mended w.counter (wide_read t e.previous b) e w.birth w.low w.high

  pub room-mended : mendable n e (read t e.previous) ≡ true → Room (mended c e (read t e.previous))
  unfolding mended fresh cut_view
  room-mended m =
      let q = read t e.previous in
      let s = (mendable_true n e q m).sound in
      room-page_bytes (mended c e q) wide.view.shaped
      (omega (arith, length_cut e.low e.high q.view.certs, s.certs_room))
      (omega (arith, length_cut e.low e.high q.view.children, s.children_room))

  pub read-mended : length t ≡ n * page_size → e.child < n → mendable n e (read t e.previous) ≡ true
      → read (build t e.child (mended c e (read t e.previous))) e.child ≡ mended c e (read t e.previous)
  read-mended l h m =
      read-build-same t e.child (mended c e (read t e.previous)) (has-page t n e.child l h) (room-mended m) wide

-- what is read of a page is its header
pub head_read : (t : List ℕ) (i : ℕ) {h : Head} → h ≡ head_in (page_at t i) → h ≡ head_of (read t i)
unfolding read
head_read t i e = e ∙ head_in-page (page_at t i)

module _ (n c : ℕ) (t : List ℕ) (e : Place) (b : Bytes t) (w : Narrow c e) (l : length t ≡ n * page_size) (h : e.child < n) where
  -- the table after a mend, and the header read there
  pub mended-told : mendable n e (read t e.previous) ≡ true → (u : List ℕ) (a : Head) (r : Why)
      → u ≡ build t e.child (mended c e (read t e.previous)) → a ≡ head_in (page_at u e.child)
      → entering u (enters.found a r) ≡ told r (rules.mend n c t e)
  mended-told m u a r f g =
      let q = head_read u e.child g ∙ ap (λ (x : List ℕ). head_of (read x e.child)) f ∙ ap head_of (read-mended n c t e b w l h m) in
      cc (mend-page n c t e r m)
