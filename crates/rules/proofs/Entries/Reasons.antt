-- A page that fits gives no reason and adds nothing to a report; one that does not fit adds its reason where there was none,
-- and the first reason stays. Assumes nothing.
use Rattle.std.proofs.Common.{◌≡◌, ℕ, Bool, true, false, List, sym, refl, ap, ◌∙◌, true≢false, not, Some, None, is_some, is_none}
use Rattle.std.specs.Option.{option_or}
use Rattle.rules.specs.Table.{read}
use Rattle.rules.specs.Place.{fits, Why}
use Rattle.rules.specs.Report.{nothing, first_of, adds, reason_at}
use Rattle.rules.specs.declared.Place.{Place}
use Rattle.rules.specs.declared.Report.{Report}

none_is : (r : Why) → is_none r ≡ true → r ≡ None
none_is None h = refl
none_is (Some x) h = cc h

pub reason-fits : (n : ℕ) (t : List ℕ) (e : Place) → fits n e (read t e.child) ≡ true → reason_at n t e ≡ None
unfolding reason_at fits
reason-fits n t e f = none_is (reason_at n t e) f

pub adds-fits : (n : ℕ) (t : List ℕ) (e : Place) (x : Report) → fits n e (read t e.child) ≡ true → adds (reason_at n t e) x ≡ x
unfolding adds
adds-fits n t e x f = ap (λ (r : Why). adds r x) (reason-fits n t e f)

-- and one that does not fit gives one
pub reason-some : (n : ℕ) (t : List ℕ) (e : Place) → fits n e (read t e.child) ≡ false → is_none (reason_at n t e) ≡ false
unfolding reason_at fits
reason-some n t e f = f

-- ── A reason added ──────────────────────────────────────────────────────────────────────────────────────────────

none_no : (r : Why) → is_none r ≡ false → r ≡ None → ⊥
none_no r f h = true≢false (sym (ap is_none h) ∙ f)

-- where no reason was added there was none, and none was given
pub adds_none : (n : ℕ) (t : List ℕ) (e : Place) (x : Report) → (adds (reason_at n t e) x).reason ≡ None
    → fits n e (read t e.child) ≡ true
unfolding adds first_of reason_at fits
adds_none n t e x h = go (is_none (reason_at n t e)) refl (is_none x.reason) refl
  where
    go : (a : Bool) → is_none (reason_at n t e) ≡ a → (b : Bool) → is_none x.reason ≡ b → fits n e (read t e.child) ≡ true
    go true f b g = f
    go false f true g = absurd (none_no (reason_at n t e) f (rw (f, adds, g, first_of) at h))
    go false f false g = absurd (none_no x.reason g (rw (f, adds, g, first_of) at h))

-- the first reason stays
pub adds-stays : (r : Why) (x : Report) → is_none x.reason ≡ false → (adds r x).reason ≡ x.reason
unfolding adds first_of
adds-stays r x f = go (is_none r) refl
  where
    go : (a : Bool) → is_none r ≡ a → (adds r x).reason ≡ x.reason
    go true g = rw (g, adds)
    go false g = rw (g, adds, f, first_of)

-- as `Option::is_none` tells
pub none_told : (r : Why) (b : Bool) → is_some r ≡ not b → b ≡ is_none r
none_told r true h = sym (ap not h)
none_told r false h = sym (ap not h)

-- as `Option::or` picks it
pub first-or : (r s : Why) → option_or r s ≡ first_of r s
unfolding first_of
first-or None s = refl
first-or (Some x) s = refl

-- and a reason comes where there was none
pub adds-first : (r : Why) → (adds r nothing).reason ≡ r
unfolding adds first_of nothing
adds-first None = refl
adds-first (Some x) = refl
