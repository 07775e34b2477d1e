-- What stands on a page that a call builds, and what becomes of a page that splits. Assumes nothing.
use Prim.Native.Nat.{ℕ}
use mathlib.Core.Path.{◌≡◌, refl, ◌∙◌}
use mathlib.Core.Logic.{◌≢◌}
use mathlib.Core.Bool.{Bool, true, false}
use borrow.Author.Tests.{eq-eqb, ne_eqb}
use Rattle.rules.specs.Layout.{last_key}
use Rattle.rules.specs.Entry.{put}
use Rattle.rules.specs.Page.{View, Page, is_leaf, fresh}
use Rattle.rules.specs.Place.{mended}
use Rattle.rules.specs.Walk.{Step}
use Rattle.rules.specs.Marks.{freed, waits}
use Rattle.rules.specs.Insert.{divide, lower_page, upper_page, root_over, heirs, previous_of, retire, new_child, put_child, twins}
use Rattle.rules.specs.declared.Place.{Place}
use Rattle.rules.specs.declared.Session.{Session}
use Rattle.rules.proofs.Entries.Puts.{find-put-same, find-put-other}
use Rattle.reading.specs.Building.{New, NewFor, TwoFor, Building}

-- ── Pages ───────────────────────────────────────────────────────────────────────────────────────────────────────

new_page : (c low high : ℕ) (v : View) → New c (fresh c c low high v)
unfolding fresh
new_page c low high v = record { birth = refl; built = refl; touched = refl }

lower : (c : ℕ) (p : Page) → New c (lower_page c p)
unfolding lower_page fresh
lower c p = record { birth = refl; built = refl; touched = refl }

upper : (c : ℕ) (p : Page) → New c (upper_page c p)
unfolding upper_page fresh
upper c p = record { birth = refl; built = refl; touched = refl }

mends : (c : ℕ) (e : Place) (q : Page) → NewFor c e (mended c e q)
unfolding mended fresh
mends c e q = record { birth = refl; low = refl; high = refl; built = refl; touched = refl }

-- ── The page that splits ────────────────────────────────────────────────────────────────────────────────────────

two : (c : ℕ) (s : Step) (lower upper : ℕ) (v : View) → TwoFor c s lower upper v
unfolding twins put_child new_child
two c s lower upper v =
    let low = new_child c s.page.low lower (previous_of c s) in
    let high = new_child c (divide s.page.view) upper (previous_of c s) in
    record {
      upper_entry = find-put-same high (put low v.children);
      lower_entry = λ d. find-put-other s.page.low high (put low v.children) d ∙ find-put-same low v.children;
    }

module _ (c : ℕ) (s : Step) where
  not_heirs : (is_leaf s.page.view ≡ true → s.page.built ≢ c) → heirs c s ≡ false
  unfolding heirs
  not_heirs h = go (is_leaf s.page.view) refl
    where
      go : (b : Bool) → is_leaf s.page.view ≡ b → heirs c s ≡ false
      go true l = rw (heirs, l) (ne_eqb s.page.built c (h l))
      go false l = rw (heirs, l)

  are-heirs : is_leaf s.page.view ≡ true → s.page.built ≡ c → heirs c s ≡ true
  unfolding heirs
  are-heirs l b = rw (heirs, l) (eq-eqb s.page.built c b)

  previous_self : (is_leaf s.page.view ≡ true → s.page.built ≢ c) → previous_of c s ≡ s.place.child
  unfolding previous_of
  previous_self h = rw (previous_of, not_heirs h)

  inherits : is_leaf s.page.view ≡ true → s.page.built ≡ c → previous_of c s ≡ s.place.previous
  unfolding previous_of
  inherits l b = rw (previous_of, are-heirs l b)

  self_waits : (m : Session) → (is_leaf s.page.view ≡ true → s.page.built ≢ c) → retire c s m ≡ waits s.place.child m
  unfolding retire
  self_waits m h = rw (retire, not_heirs h)

  frees : (m : Session) → is_leaf s.page.view ≡ true → s.page.built ≡ c → s.page.birth ≡ c
      → retire c s m ≡ freed s.place.child m
  unfolding retire
  frees m l b q = rw (retire, are-heirs l b, eq-eqb s.page.birth c q)

  heir_waits : (m : Session) → is_leaf s.page.view ≡ true → s.page.built ≡ c → s.page.birth ≢ c
      → retire c s m ≡ waits s.place.child m
  unfolding retire
  heir_waits m l b d = rw (retire, are-heirs l b, ne_eqb s.page.birth c d)

pub building : Building
building = record {
  lower = lower;
  upper = upper;
  root = λ c s. new_page c 0 last_key (root_over s);
  mends = mends;
  two = two;
  previous_self = previous_self;
  self_waits = self_waits;
  inherits = inherits;
  frees = frees;
  heir_waits = heir_waits;
}
