-- The states that a key has had since the last sync or opening.
use Rattle.std.proofs.Common.{◌≡◌, ℕ, Bool, true, false, eqb, ◌⊎◌, List, [], ◌∷◌, length, sym, refl, ap, ◌∙◌, subst, inl, inr, arith, eq-eqb, ne_eqb}
use mathlib.Core.Option.{Option, some, none}
use Rattle.rules.specs.History.{latest, earliest, gains}
use Rattle.rules.specs.Demand.{OneOf, first, later}

-- ── One state ───────────────────────────────────────────────────────────────────────────────────────────────────

pub one_of_only : {x o : Option ℕ} → x ≡ o → OneOf x (o ∷ [])
one_of_only {x} {o} h = subst (λ (y : Option ℕ). OneOf x (y ∷ [])) h first

nonly_one_of : {x : Option ℕ} {xs : List (Option ℕ)} → OneOf x xs → xs ≡ [] → ⊥
nonly_one_of first h = omega (arith, ap length h)
nonly_one_of (later a) h = omega (arith, ap length h)

pub only_one_of : {x o : Option ℕ} → OneOf x (o ∷ []) → x ≡ o
only_one_of first = refl
only_one_of (later a) = absurd (nonly_one_of a refl)

pub one_of_cases : {x o : Option ℕ} {xs : List (Option ℕ)} → OneOf x (o ∷ xs) → (x ≡ o) ⊎ OneOf x xs
one_of_cases first = inl refl
one_of_cases (later a) = inr a

-- ── One state, or absent among them ─────────────────────────────────────────────────────────────────────────────

-- a record is never put in the place of another, so where there is more than one state the key was absent meanwhile
pub data Settled (xs : List (Option ℕ)) : Type 0 where
  one : (o : Option ℕ) → xs ≡ o ∷ [] → Settled xs
  absent : OneOf none xs → Settled xs

-- what was there at the last sync or opening, and was not withdrawn since, is there
pub settled-keeps : (xs : List (Option ℕ)) (x : ℕ) (o : Option ℕ) → Settled xs → earliest xs ≡ some x → (OneOf none xs → ⊥) → OneOf o xs
    → o ≡ some x
unfolding earliest
settled-keeps xs x o (one p h) e d a = only_one_of (subst (OneOf o) h a) ∙ (sym (ap earliest h) ∙ e)
settled-keeps xs x o (absent y) e d a = absurd (d y)

nonly_settled : {xs : List (Option ℕ)} → Settled xs → xs ≡ [] → ⊥
nonly_settled (one o h) q = omega (arith, ap length (sym h ∙ q))
nonly_settled (absent a) q = nonly_one_of a q

pub settled-gains : (xs : List (Option ℕ)) (x : ℕ) → Settled xs → latest xs ≡ none → Settled (some x ∷ xs)
unfolding latest
settled-gains [] x s e = absurd (nonly_settled s refl)
settled-gains (y ∷ ys) x s e = absent (later (subst (λ (o : Option ℕ). OneOf none (o ∷ ys)) (sym e) first))

pub settled-earliest : (xs : List (Option ℕ)) (o : Option ℕ) → Settled xs → earliest (o ∷ xs) ≡ earliest xs
unfolding earliest
settled-earliest [] o s = absurd (nonly_settled s refl)
settled-earliest (y ∷ ys) o s = refl

-- ── A key that got another state ────────────────────────────────────────────────────────────────────────────────

module _ (k : ℕ) (state : Option ℕ) (past : ℕ → List (Option ℕ)) where
  pub gains-here : (j : ℕ) → j ≡ k → gains k state past j ≡ state ∷ past j
  unfolding gains
  gains-here j h = rw (eq-eqb j k h, gains)

  pub gains-other : (j : ℕ) → (j ≡ k → ⊥) → gains k state past j ≡ past j
  unfolding gains
  gains-other j h = rw (ne_eqb j k h, gains)

  -- it has had what it had before
  pub gains-more : (j : ℕ) (o : Option ℕ) → OneOf o (past j) → OneOf o (gains k state past j)
  unfolding gains
  gains-more j o a = go (eqb j k) refl
    where
      go : (b : Bool) → eqb j k ≡ b → OneOf o (gains k state past j)
      go true h = rw (h, gains) (later a)
      go false h = rw (h, gains) a

  pub gains-new : OneOf state (gains k state past k)
  gains-new = subst (OneOf state) (sym (gains-here k refl)) first
