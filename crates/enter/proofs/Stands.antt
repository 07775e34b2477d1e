-- The page that entering finds stands in the table that it leaves, and fits its place; pages above stay.
-- Assumes nothing.
use mathlib.Core.Path.{◌≡◌, refl, sym, ap, ◌∙◌, subst}
use mathlib.Core.Bool.{Bool, true, false}
use mathlib.Core.List.{List}
use mathlib.Core.Option.{some, some-injective, none-ne-some}
use Prim.Native.Nat.{ℕ, ◌*◌, ◌≤◌, ◌<◌}
use lib.ListN.{length}
use Rattle.fields.specs.Field.{Bytes}
use Rattle.rules.specs.Layout.{page_size}
use Rattle.rules.specs.Test.{mem}
use Rattle.rules.specs.Page.{Page}
use Rattle.rules.specs.Table.{read, build}
use Rattle.rules.specs.Place.{fits, mendable, mended}
use Rattle.rules.specs.Enter as rules
use Rattle.rules.specs.declared.Place.{Place}
use Rattle.rules.proofs.Entries.Places.{Fits, fits_true, mendable_true, mended-fits}
use Rattle.rules.proofs.Bytes.Tables.{has-page, length-build, bytes-build, read-build-other}
use Rattle.rules.proofs.Entries.Tests.{not_both}
use Rattle.enter.proofs.Mended.{Narrow, room-mended, read-mended}

-- what entering comes to: the page as it stands, mended, or none
pub data Comes (n c : ℕ) (above : List ℕ) (t : List ℕ) (e : Place) : rules.Entered → Type 0 where
  stood : {x : rules.Entered} → fits n e (read t e.child) ≡ true → x ≡ record { table = t; page = some (read t e.child) }
      → Comes n c above t e x
  mends : {x : rules.Entered} → mem e.child above ≡ false → mendable n e (read t e.previous) ≡ true
      → x ≡ record { table = build t e.child (mended c e (read t e.previous)); page = some (mended c e (read t e.previous)) }
      → Comes n c above t e x
  stops : {x : rules.Entered} → x ≡ rules.damaged t → Comes n c above t e x

pub comes : (n c : ℕ) (above : List ℕ) (t : List ℕ) (e : Place) → Comes n c above t e (rules.enter n c above t e)
unfolding rules.enter rules.mend
comes n c above t e = go (mem e.child above) refl (fits n e (read t e.child)) refl (mendable n e (read t e.previous)) refl
  where
    go : (a : Bool) → mem e.child above ≡ a → (f : Bool) → fits n e (read t e.child) ≡ f
        → (m : Bool) → mendable n e (read t e.previous) ≡ m → Comes n c above t e (rules.enter n c above t e)
    go true a f g m h = stops {x = rules.enter n c above t e} (rw (rules.enter, a))
    go false a true g m h = stood {x = rules.enter n c above t e} g (rw (rules.enter, a, g))
    go false a false g true h = mends {x = rules.enter n c above t e} a h (rw (rules.enter, a, g, rules.mend, h))
    go false a false g false h = stops {x = rules.enter n c above t e} (rw (rules.enter, a, g, rules.mend, h))

module _ {n c : ℕ} {above t : List ℕ} {e : Place} where
  module _ (b : Bytes t) (w : Narrow c e) (l : length t ≡ n * page_size) (h : e.child < n) where
    -- the page found is read where it was entered
    pub stands : (x : rules.Entered) → Comes n c above t e x → (p : Page) → x.page ≡ some p → read x.table e.child ≡ p
    stands x (stood f g) p q =
        ap (λ (y : rules.Entered). read y.table e.child) g
        ∙ some-injective (read t e.child) p (sym (ap (λ (y : rules.Entered). y.page) g) ∙ q)
    stands x (mends a m g) p q =
        ap (λ (y : rules.Entered). read y.table e.child) g
        ∙ (read-mended n c t e b w l h m
        ∙ some-injective (mended c e (read t e.previous)) p (sym (ap (λ (y : rules.Entered). y.page) g) ∙ q))
    stands x (stops g) p q = absurd (none-ne-some p (sym (ap (λ (y : rules.Entered). y.page) g) ∙ q))

    -- a page above is as it was
    pub stays : (x : rules.Entered) → Comes n c above t e x → (j : ℕ) → mem j above ≡ true → read x.table j ≡ read t j
    stays x (stood f g) j i = ap (λ (y : rules.Entered). read y.table j) g
    stays x (mends a m g) j i =
        ap (λ (y : rules.Entered). read y.table j) g
        ∙ read-build-other t e.child (mended c e (read t e.previous)) (has-page t n e.child l h) (room-mended n c t e b w m)
        j (λ q. not_both (ap (λ (k : ℕ). mem k above) (sym q) ∙ i) a)
    stays x (stops g) j i = ap (λ (y : rules.Entered). read y.table j) g

    pub stays-long : (x : rules.Entered) → Comes n c above t e x → length x.table ≡ n * page_size
    stays-long x (stood f g) = ap (λ (y : rules.Entered). length y.table) g ∙ l
    stays-long x (mends a m g) =
        ap (λ (y : rules.Entered). length y.table) g
        ∙ (length-build t e.child (mended c e (read t e.previous)) (has-page t n e.child l h) (room-mended n c t e b w m) ∙ l)
    stays-long x (stops g) = ap (λ (y : rules.Entered). length y.table) g ∙ l

  pub stays-bytes : Bytes t → (x : rules.Entered) → Comes n c above t e x → Bytes x.table
  stays-bytes b x (stood f g) = subst (λ (y : rules.Entered). Bytes y.table) (sym g) b
  stays-bytes b x (mends a m g) =
      subst (λ (y : rules.Entered). Bytes y.table) (sym g) (bytes-build t e.child (mended c e (read t e.previous)) b)
  stays-bytes b x (stops g) = subst (λ (y : rules.Entered). Bytes y.table) (sym g) b

  -- the page found fits its place
  pub found-fits : e.low ≤ e.high → (x : rules.Entered) → Comes n c above t e x → (p : Page) → x.page ≡ some p → Fits n e p
  found-fits r x (stood f g) p q =
      subst (Fits n e) (some-injective (read t e.child) p (sym (ap (λ (y : rules.Entered). y.page) g) ∙ q))
      (fits_true n e (read t e.child) f)
  found-fits r x (mends a m g) p q =
      subst (Fits n e) (some-injective (mended c e (read t e.previous)) p (sym (ap (λ (y : rules.Entered). y.page) g) ∙ q))
      (mended-fits c r (mendable_true n e (read t e.previous) m))
  found-fits r x (stops g) p q = absurd (none-ne-some p (sym (ap (λ (y : rules.Entered). y.page) g) ∙ q))
