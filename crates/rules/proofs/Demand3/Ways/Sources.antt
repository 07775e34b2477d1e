-- The page that a place is shown from, and what a cut view keeps.
use Rattle.std.proofs.Common.{◌≡◌, ℕ, ◌≤◌, true, List, refl}
use mathlib.Core.Option.{some}
use Rattle.rules.specs.Test.{mem}
use Rattle.rules.specs.Entry.{keys, find}
use Rattle.rules.specs.Page.{View}
use Rattle.rules.specs.Table.{read}
use Rattle.rules.specs.Place.{cut_view, show}
use Rattle.rules.specs.declared.Place.{Place}
use Rattle.rules.proofs.Entries.Tests.{between-of}
use Rattle.rules.proofs.Entries.Entries.{find-cut, mem-cut}
use Rattle.rules.proofs.Entries.Places.{Fits, fits_true, fits-of, show-fitting}
use Rattle.rules.proofs.Demand3.Ways.Ways.{Found, Lost, source}

pub source-found : (n : ℕ) (t : List ℕ) (e : Place) → Fits n e (read t e.child) → source n t e ≡ e.child
unfolding source
source-found n t e f = rw (fits-of n e (read t e.child) f, source)

pub source_lost_lem : (n : ℕ) (t : List ℕ) (e : Place) → Lost n t e → source n t e ≡ e.previous
unfolding source
source_lost_lem n t e h = rw (h, source)

pub show-found : (n : ℕ) (t : List ℕ) (e : Place) → Found n t e → show n t e ≡ some (read t e.child).view
show-found n t e h = show-fitting n t e (fits_true n e (read t e.child) h)

-- ── Cut views ───────────────────────────────────────────────────────────────────────────────────────────────────

pub cut_view-kind : (low high : ℕ) (v : View) → (cut_view low high v).kind ≡ v.kind
unfolding cut_view
cut_view-kind low high v = refl

pub mem-cut_view : (low high k : ℕ) (v : View) → mem k (keys (cut_view low high v).children) ≡ true → mem k (keys v.children) ≡ true
unfolding cut_view
mem-cut_view low high k v h = mem-cut low high k v.children h

pub find-cut_view : (low high k : ℕ) (v : View) → low ≤ k → k ≤ high → find k (cut_view low high v).certs ≡ find k v.certs
unfolding cut_view
find-cut_view low high k v l h = find-cut low high k v.certs (between-of low high k l h)
