-- What entering leaves and finds, by the tests it passed; and an answer taken apart again. Assumes nothing.
use mathlib.Core.Path.{◌≡◌, refl, ap}
use mathlib.Core.Bool.{Bool, true, false, ◌||◌}
use mathlib.Core.List.{List, [], ◌∷◌}
use mathlib.Core.Option.{Option, some, none}
use Prim.Native.Nat.{ℕ}
use native.Mathlib.Omega.{arith}
use borrow.Author.Tests.{eq-eqb, ne_eqb}
use lib.Dec.{eqb}
use Rattle.rules.specs.Test.{mem}
use Rattle.rules.specs.Page.{Page}
use Rattle.rules.specs.Table.{read, build}
use Rattle.rules.specs.Place.{fits, mendable, mended, Why}
use Rattle.rules.specs.Enter as rules
use Rattle.rules.specs.declared.Place.{Place}
use Rattle.head.specs.declared.Head.{Head}
use Rattle.head.proofs.Headers.{head_of}
use Rattle.enter.specs.Entering as enters
use Rattle.enter.specs.Entering.{Entering, entering, answer_of, told}
use Rattle.std.specs.Prelude.{Option as Maybe}
use Rattle.enter.specs.declared.Entered.{Entered}

module _ (n c : ℕ) (t : List ℕ) (e : Place) (r : Why) where
  pub mend-damaged : mendable n e (read t e.previous) ≡ false → entering t enters.damaged ≡ told r (rules.mend n c t e)
  unfolding rules.mend told answer_of
  mend-damaged m = rw (m, rules.mend)

  pub mend-page : mendable n e (read t e.previous) ≡ true
      → entering (build t e.child (mended c e (read t e.previous))) (enters.found (head_of (mended c e (read t e.previous))) r) ≡ told r (rules.mend n c t e)
  unfolding rules.mend told answer_of
  mend-page m = rw (m, rules.mend)

  module _ (above : List ℕ) where
    pub enter-above : mem e.child above ≡ true → entering t enters.damaged ≡ told r (rules.enter n c above t e)
    unfolding rules.enter told answer_of
    enter-above a = rw (a, rules.enter)

    pub enter-fits : mem e.child above ≡ false → fits n e (read t e.child) ≡ true
        → entering t (enters.found (head_of (read t e.child)) r) ≡ told r (rules.enter n c above t e)
    unfolding rules.enter told answer_of
    enter-fits a f = rw (a, rules.enter, f)

    pub enter-lost : mem e.child above ≡ false → fits n e (read t e.child) ≡ false
        → rules.enter n c above t e ≡ rules.mend n c t e
    unfolding rules.enter
    enter-lost a f = rw (a, rules.enter, f)

-- one of two numbers
pub two-first : (i a b : ℕ) → i ≡ a → mem i (a ∷ b ∷ []) ≡ true
unfolding mem
two-first i a b h = rw (eq-eqb i a h)

pub two-second : (i a b : ℕ) → (i ≡ a → ⊥) → mem i (a ∷ b ∷ []) ≡ eqb i b
unfolding mem
two-second i a b h = rw (ne_eqb i a h) (go (eqb i b))
  where
    go : (t : Bool) → (t || false) ≡ t
    go true = refl
    go false = refl

-- which numbers stand above matters only for the child
pub enter-same : (n c : ℕ) (xs ys : List ℕ) (t : List ℕ) (e : Place) → mem e.child xs ≡ mem e.child ys
    → rules.enter n c xs t e ≡ rules.enter n c ys t e
unfolding rules.enter
enter-same n c xs ys t e h = rw (h, rules.enter)

-- ── An answer taken apart ───────────────────────────────────────────────────────────────────────────────────────

pub told-table : {t : List ℕ} {a : Maybe Entered} (r : Why) (x : rules.Entered) → entering t a ≡ told r x → t ≡ x.table
unfolding told
told-table r x h = ap (λ (y : Entering). y.table) h

pub told-page : {t : List ℕ} (r : Why) (h : Head) (s : Why) (x : rules.Entered) → entering t (enters.found h s) ≡ told r x
    → (p : Page) × (x.page ≡ some p) × (h ≡ head_of p) × (s ≡ r)
unfolding told answer_of
told-page r h s x f = go x.page refl (ap (λ (y : Entering). y.answer) f)
  where
    go : (o : Option Page) → x.page ≡ o → enters.found h s ≡ answer_of r o → (p : Page) × (x.page ≡ some p) × (h ≡ head_of p) × (s ≡ r)
    go none q g = absurd (let z : ◌≡◌ {A = ℕ} 0 1 = cc in omega arith)
    go (some p) q g =
        let same : ◌≡◌ {A = Entered} (record { head = h; reason = s }) (record { head = head_of p; reason = r }) = cc in
        (p, q, ap (λ (y : Entered). y.head) same, ap (λ (y : Entered). y.reason) same)

pub told-damaged : {t : List ℕ} (r : Why) (x : rules.Entered) → entering t enters.damaged ≡ told r x → x.page ≡ none
unfolding told answer_of
told-damaged r x h = go x.page refl (ap (λ (y : Entering). y.answer) h)
  where
    go : (o : Option Page) → x.page ≡ o → enters.damaged ≡ answer_of r o → x.page ≡ none
    go none q g = q
    go (some p) q g = absurd (let z : ◌≡◌ {A = ℕ} 0 1 = cc in omega arith)
