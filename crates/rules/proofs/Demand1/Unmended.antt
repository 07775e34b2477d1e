-- A page that is not among those mended keeps its bytes. Assumes nothing but the table's length.
use Rattle.std.proofs.Common.{◌≡◌, ℕ, ◌*◌, ◌<◌, ◌≤◌, true, false, eqb, List, length, refl, ◌∙◌, arith}
use borrow.Author.Tests.{eqb-false}
use Rattle.rules.specs.Layout.{page_size}
use Rattle.rules.specs.Test.{mem}
use Rattle.rules.specs.Page.{fresh}
use Rattle.rules.specs.Table.{page_at, read}
use Rattle.rules.specs.Place.{mendable, mended, cut_view}
use Rattle.rules.specs.Mends.{InTurn, no_mend, mend_next}
use Rattle.rules.specs.declared.Place.{Place}
use Rattle.rules.proofs.Entries.Tests.{or_none}
use Rattle.rules.proofs.Entries.Entries.{length_cut}
use Rattle.rules.proofs.Entries.Views.{shaped-read, shaped-cut}
use Rattle.rules.proofs.Entries.Places.{mendable_true}
use Rattle.rules.proofs.Bytes.Pages.{room-page_bytes}
use Rattle.rules.proofs.Bytes.Tables.{Room, long-build, page_at-build-apart}

-- what is left of a sound page has room on a page
room-mended : (n c : ℕ) (t : List ℕ) (e : Place) → mendable n e (read t e.previous) ≡ true → Room (mended c e (read t e.previous))
unfolding mended fresh cut_view
room-mended n c t e h =
    let q = read t e.previous in
    let m = mendable_true n e q h in
    room-page_bytes (mended c e q) (shaped-cut e.low e.high q.view (shaped-read t e.previous))
    (omega (arith, m.sound.certs_room, length_cut e.low e.high q.view.certs))
    (omega (arith, m.sound.children_room, length_cut e.low e.high q.view.children))

-- of the first few pages of a table
pub unmended : (few n c : ℕ) {xs t u : List ℕ} → InTurn n c xs t u → few * page_size ≤ length t
    → (i : ℕ) → i < few → mem i xs ≡ false → page_at u i ≡ page_at t i
unfolding mem
unmended few n c no_mend h i b f = refl
unmended few n c (mend_next {xs} {t} {u} e lost can x) h i b f =
    let q = mended c e (read t e.previous) in
    let room = room-mended n c t e can in
    let o = or_none (eqb i e.child) (mem i xs) f in
    unmended few n c x (long-build few t e.child q h room) i b o.1
    ∙ page_at-build-apart few t e.child q h room i b (eqb-false i e.child o.0)
