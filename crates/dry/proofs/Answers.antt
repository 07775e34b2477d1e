-- What the dry walk of a table whose page 0 is fit tells of the rules' walk over the same table, from the root on.
use Prim.Native.Nat.{ℕ, ◌*◌, ◌-◌, ◌^◌, ◌≤◌, ◌<◌}
use native.Mathlib.Omega.{arith}
use mathlib.Core.Path.{◌≡◌, refl, sym, ap, ◌∙◌}
use mathlib.Core.Bool.{Bool, true, false}
use mathlib.Core.List.{List}
use lib.ListN.{length}
use Rattle.fields.specs.Field.{Bytes}
use Rattle.std.specs.Prelude.{Ok, is_ok}
use Rattle.rules.specs.Layout.{page_size, most_pages}
use Rattle.rules.specs.Test.{between}
use Rattle.rules.specs.Table.{fit0, root0}
use Rattle.rules.specs.Report.{nothing}
use Rattle.rules.specs.Walk.{walk_of}
use Rattle.rules.specs.declared.Asked.{Asked}
use Rattle.rules.proofs.Entries.Tests.{every_true, between-low, between-high}
use Rattle.rules.specs.Place.{root_place}
use Rattle.dry.specs.Cursor.{Names}
use Rattle.dry.specs.Walk.{marked, none_marked, seen_of, counted, kept, dry_over, dry_of}
use Rattle.dry.specs.declared.Dry.{Dry}
use Rattle.dry.proofs.Marks.{none_marked_lem}
use Rattle.dry.proofs.Decides.{Twin, dry_decides}

-- what code keeps of the dry walk, read
module _ (n : ℕ) (a : Asked) (t : List ℕ) where
  ok-whole : is_ok (dry_of n a t) ≡ (dry_over n a t).whole
  unfolding dry_of counted
  ok-whole = go (dry_over n a t).whole refl
    where
      go : (b : Bool) → (dry_over n a t).whole ≡ b → is_ok (dry_of n a t) ≡ (dry_over n a t).whole
      go true h = rw (dry_of, counted, h)
      go false h = rw (dry_of, counted, h)

  kept-is : kept (dry_of n a t) ≡ seen_of (dry_over n a t)
  unfolding dry_of counted
  kept-is = go (dry_over n a t).whole refl
    where
      go : (b : Bool) → (dry_over n a t).whole ≡ b → kept (dry_of n a t) ≡ seen_of (dry_over n a t)
      go true h = rw (dry_of, counted, h)
      go false h = rw (dry_of, counted, h)

  pub told-whole : (d : Dry) → Ok d ≡ dry_of n a t → (dry_over n a t).whole ≡ true
  told-whole d e = sym ok-whole ∙ sym (ap is_ok e)

  pub told-still : (d : Dry) → Ok d ≡ dry_of n a t → none_marked d.mended ≡ true → (i : ℕ) → marked (dry_over n a t).mended i ≡ false
  told-still d e h = none_marked_lem (dry_over n a t).mended (sym (ap (λ (x : Dry). none_marked x.mended) (ap kept e ∙ kept-is)) ∙ h)

module _ (n : ℕ) (t : List ℕ) (fit : fit0 n t ≡ true) where
  fit-root : between 1 (n - 1) (root0 t) ≡ true
  unfolding fit0
  fit-root = (every_true _ fit).1.1.0

  root-from : 1 ≤ root0 t
  root-from = between-low 1 (n - 1) (root0 t) fit-root

  root_below : root0 t < n
  root_below = omega (arith, root-from, between-high 1 (n - 1) (root0 t) fit-root)

  pub root-named : Names n (root_place t)
  unfolding root_place
  root-named = root_below

  module _ (long : length t ≡ n * page_size) where
    module _ (c : ℕ) (a : Asked) (most : n ≤ most_pages) (bytes : Bytes t) (narrow : c < 256 ^ 4) where
      twin : Twin n t (walk_of n c a t) (dry_over n a t)
      twin = dry_decides n c a t most narrow long bytes root-from root_below

      pub over-whole : (dry_over n a t).whole ≡ (walk_of n c a t).whole
      over-whole = sym twin.whole

      pub dry-whole : is_ok (dry_of n a t) ≡ (walk_of n c a t).whole
      dry-whole = ok-whole n a t ∙ sym twin.whole

      pub dry-found : (dry_over n a t).found ≡ (walk_of n c a t).found
      dry-found = sym twin.found

      -- where it met damage too
      pub dry-count : (kept (dry_of n a t)).count ≡ length (walk_of n c a t).found
      dry-count = ap (λ (x : Dry). x.count) (kept-is n a t) ∙ ap length dry-found

      -- a walk that would mend nothing leaves the table as it is
      pub dry-still : ((i : ℕ) → marked (dry_over n a t).mended i ≡ false) → (walk_of n c a t).table ≡ t
      dry-still none = twin.kept.still none

      -- and has nothing to report
      pub dry-quiet : ((i : ℕ) → marked (dry_over n a t).mended i ≡ false) → (walk_of n c a t).report ≡ nothing
      dry-quiet none = twin.quiet none
