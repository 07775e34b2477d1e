-- What stands on a page that a call builds, and what becomes of a page that splits.
use Rattle.std.specs.Prelude.{ℕ, ◌≡◌, ◌≢◌, true}
use Rattle.std.proofs.Math.Option.{some}
use Rattle.rules.specs.Layout.{last_key}
use Rattle.rules.specs.Entry.{find}
use Rattle.rules.specs.Page.{View, Page, is_leaf, fresh}
use Rattle.rules.specs.Place.{mended}
use Rattle.rules.specs.Walk.{Step}
use Rattle.rules.specs.Marks.{freed, waits}
use Rattle.rules.specs.Insert.{divide, lower_page, upper_page, root_over, previous_of, retire, twins}
use Rattle.rules.specs.declared.Place.{Place}
use Rattle.rules.specs.declared.Session.{Session}

-- ── Pages ───────────────────────────────────────────────────────────────────────────────────────────────────────

-- birth, built and touched c
pub record New (c : ℕ) (p : Page) : Type 0 where
  pub birth : p.birth ≡ c
  pub built : p.built ≡ c
  pub touched : p.touched ≡ c

-- birth, low and high as the parent says, built and touched c
pub record NewFor (c : ℕ) (e : Place) (p : Page) : Type 0 where
  pub birth : p.birth ≡ e.birth
  pub low : p.low ≡ e.low
  pub high : p.high ≡ e.high
  pub built : p.built ≡ c
  pub touched : p.touched ≡ c

-- ── The page that splits ────────────────────────────────────────────────────────────────────────────────────────

-- its entry becomes two, for the lower half and for the upper one
pub record TwoFor (c : ℕ) (s : Step) (lower upper : ℕ) (v : View) : Type 0 where
  pub upper_entry : find (divide s.page.view) (twins c s lower upper v).children
      ≡ some (record { child = upper; previous = previous_of c s; birth = c })
  pub lower_entry : s.page.low ≢ divide s.page.view
      → find s.page.low (twins c s lower upper v).children
      ≡ some (record { child = lower; previous = previous_of c s; birth = c })

-- the promises; s is the page that splits, m the session once the new pages are taken
pub record Building : Type 0 where
  pub lower : (c : ℕ) (p : Page) → New c (lower_page c p)
  pub upper : (c : ℕ) (p : Page) → New c (upper_page c p)
  pub root : (c : ℕ) (s : Step) → New c (fresh c c 0 last_key (root_over s))
  pub mends : (c : ℕ) (e : Place) (q : Page) → NewFor c e (mended c e q)
  pub two : (c : ℕ) (s : Step) (lower upper : ℕ) (v : View) → TwoFor c s lower upper v
  -- an inner page, and a leaf whose built is not c: it is previous to both halves, and waits
  pub previous_self : (c : ℕ) (s : Step) → (is_leaf s.page.view ≡ true → s.page.built ≢ c) → previous_of c s ≡ s.place.child
  pub self_waits : (c : ℕ) (s : Step) (m : Session) → (is_leaf s.page.view ≡ true → s.page.built ≢ c)
      → retire c s m ≡ waits s.place.child m
  -- a leaf whose built is c: both inherit the entry's previous; it is freed at once if its birth is c too, else it waits
  pub inherits : (c : ℕ) (s : Step) → is_leaf s.page.view ≡ true → s.page.built ≡ c → previous_of c s ≡ s.place.previous
  pub frees : (c : ℕ) (s : Step) (m : Session) → is_leaf s.page.view ≡ true → s.page.built ≡ c → s.page.birth ≡ c
      → retire c s m ≡ freed s.place.child m
  pub heir_waits : (c : ℕ) (s : Step) (m : Session) → is_leaf s.page.view ≡ true → s.page.built ≡ c → s.page.birth ≢ c
      → retire c s m ≡ waits s.place.child m
