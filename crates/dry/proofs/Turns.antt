-- The ways of one step, as code takes it. Assumes nothing.
use Prim.Native.Nat.{ℕ}
use mathlib.Core.Path.{◌≡◌, refl, ap, sym, ◌∙◌}
use mathlib.Core.Bool.{Bool, true, false, false≢true}
use mathlib.Core.List.{List, [], ◌∷◌}
use borrow.Author.Tests.{eq-eqb, ne_eqb}
use Rattle.std.specs.Prelude.{Option, Some, None, Result, Ok, Err, is_err}
use Rattle.rules.specs.Layout.{leaf_kind}
use Rattle.rules.specs.Table.{page_at}
use Rattle.rules.specs.declared.Asked.{Asked}
use Rattle.rules.specs.declared.Place.{Place}
use Rattle.head.specs.Head.{head_in}
use Rattle.head.specs.declared.Head.{Head}
use Rattle.seen.specs.declared.Run.{Run}
use Rattle.seen.specs.Run.{run_of, kind_at}
use Rattle.seen.proofs.Looks.{head-kind}
use Rattle.dry.specs.Source.{source, marked_by}
use Rattle.dry.specs.Cursor.{damaged, in_reach, meeting, met_page, met_by, meet_of, no_run, under_root, with_lower, due_lower, due_upper, due_root, due_last, due_of, on, under_of, settle_of, settle_met, stepping, settled, step_at, step_of}
use Rattle.dry.specs.declared.Damaged.{Damaged}
use Rattle.dry.specs.declared.Cursor.{Cursor}
use Rattle.dry.specs.declared.Met.{Met}
use Rattle.dry.specs.declared.Spot.{Spot}
use Rattle.dry.specs.declared.Step.{Step}

-- damage is of one kind
pub err-is : {A : Type 0} (r : Result A Damaged) → is_err r ≡ true → r ≡ Err damaged
err-is (Ok x) h = absurd (false≢true h)
err-is (Err x) h = refl

-- ── One place ───────────────────────────────────────────────────────────────────────────────────────────────────

module _ (n : ℕ) (a : Asked) (above t : List ℕ) (m : List Bool) (e : Place) where
  pub met-passed : in_reach a e ≡ false → meeting (Ok Met.Passed) m ≡ meet_of n a above t m e
  unfolding meet_of
  met-passed h = rw (meet_of, h)

  module _ (h : in_reach a e ≡ true) where
    pub met-damaged : source n above t m e ≡ None → meeting (Err damaged) m ≡ meet_of n a above t m e
    unfolding meet_of met_by
    met-damaged s = rw (meet_of, h, s)

    module _ (i : ℕ) (s : source n above t m e ≡ Some i) (marks : List Bool) (u : marks ≡ marked_by i e m) (x : Head)
        (f : x ≡ head_in (page_at t i)) where
      met_page_lem : (y : Met) → y ≡ met_page t e i → meeting (Ok y) marks ≡ meet_of n a above t m e
      unfolding meet_of met_by
      met_page_lem y p = rw (meet_of, h, s, p, u)

      pub met-leaf : x.kind ≡ leaf_kind → meeting (Ok (Met.Leaf i)) marks ≡ meet_of n a above t m e
      unfolding met_page
      met-leaf k = met_page_lem (Met.Leaf i) (rw (met_page, eq-eqb (kind_at t i) leaf_kind (sym (head-kind t i x f) ∙ k)))

      pub met-entries : (x.kind ≡ leaf_kind → ⊥) → (r : Run) → r ≡ run_of t i e.low e.high
          → meeting (Ok (Met.Entries r)) marks ≡ meet_of n a above t m e
      unfolding met_page
      met-entries k r p =
          met_page_lem (Met.Entries r)
          (ap Met.Entries p ∙ sym (rw (met_page, ne_eqb (kind_at t i) leaf_kind (λ z. k (head-kind t i x f ∙ z)))))

-- ── The place that is next ──────────────────────────────────────────────────────────────────────────────────────

module _ (t : List ℕ) (c : Cursor) where
  pub due_low : (c.lower.left ≡ 0 → ⊥) → (s : Spot) → s ≡ due_lower t c → Some s ≡ due_of t c
  unfolding due_of
  due_low h s p = rw (due_of, ne_eqb c.lower.left 0 h, p)

  module _ (z : c.lower.left ≡ 0) where
    pub due_up : (c.upper.left ≡ 0 → ⊥) → (s : Spot) → s ≡ due_upper t c → Some s ≡ due_of t c
    unfolding due_of
    due_up h s p = rw (due_of, eq-eqb c.lower.left 0 z, ne_eqb c.upper.left 0 h, p)

    module _ (y : c.upper.left ≡ 0) where
      pub due_first : c.fresh ≡ true → (s : Spot) → s ≡ due_root t → Some s ≡ due_of t c
      unfolding due_of due_last
      due_first f s p =
          rw (due_of, eq-eqb c.lower.left 0 z, eq-eqb c.upper.left 0 y) (ap Some p ∙ sym (ap (due_last t) f))

      pub due_none : c.fresh ≡ false → None ≡ due_of t c
      unfolding due_of due_last
      due_none f = rw (due_of, eq-eqb c.lower.left 0 z, eq-eqb c.upper.left 0 y) (sym (ap (due_last t) f))

-- ── What is left ────────────────────────────────────────────────────────────────────────────────────────────────

-- a run of nothing, and a way whose lower page has nothing left
pub run_none : {r : Run} → r.page ≡ 0 → r.first ≡ 0 → r.left ≡ 0 → r.want ≡ 0 → r ≡ no_run
unfolding no_run
run_none p q s u = λ i. record { page = p i; first = q i; left = s i; want = u i }

pub way_none : {c : Cursor} {fresh : Bool} {root : ℕ} {r : Run}
    → c.fresh ≡ fresh → c.root ≡ root → c.upper ≡ r → c.parent ≡ 0 → c.lower ≡ no_run → c.high ≡ 0
    → c ≡ record { fresh = fresh; root = root; upper = r; parent = 0; lower = no_run; high = 0 }
way_none f p q s u v = λ i. record { fresh = f i; root = p i; upper = q i; parent = s i; lower = u i; high = v i }

-- ── What it comes to ────────────────────────────────────────────────────────────────────────────────────────────

module _ (s : Spot) (r : Run) where
  pub under_first : s.level ≡ 3 → (c : Cursor) → c ≡ under_root s.place.child r → on c ≡ under_of s r
  unfolding under_of
  under_first h c p = rw (under_of, eq-eqb s.level 3 h, p)

  module _ (g : s.level ≡ 3 → ⊥) where
    pub under_up : s.level ≡ 2 → on (with_lower s.rest s.place.child r s.place.high) ≡ under_of s r
    unfolding under_of
    under_up h = rw (under_of, ne_eqb s.level 3 g, eq-eqb s.level 2 h)

    module _ (h : s.level ≡ 2 → ⊥) where
      pub under_none : r.left ≡ 0 → on s.rest ≡ under_of s r
      unfolding under_of
      under_none z = rw (under_of, ne_eqb s.level 3 g, ne_eqb s.level 2 h, eq-eqb r.left 0 z)

      pub under-deep : (r.left ≡ 0 → ⊥) → Err damaged ≡ under_of s r
      unfolding under_of
      under-deep z = rw (under_of, ne_eqb s.level 3 g, ne_eqb s.level 2 h, ne_eqb r.left 0 z)

module _ (n : ℕ) (a : Asked) (t : List ℕ) (c : Cursor) (m : List Bool) (d : Option Spot) (p : d ≡ due_of t c) where
  pub step-ends : d ≡ None → stepping (Ok Step.End) m ≡ step_of n a t c m
  unfolding step_of step_at
  step-ends q = rw (step_of, sym p, q)

  module _ (s : Spot) (q : d ≡ Some s) (x : Result Met Damaged) (marks : List Bool)
      (f : meeting x marks ≡ meet_of n a (s.parent ∷ s.top ∷ []) t m s.place) where
    met_settles : settled s (meeting x marks) ≡ step_of n a t c m
    unfolding step_of step_at settled
    met_settles = ap (settled s) f ∙ sym (rw (step_of, sym p, q))

    pub step_settles : (y : Met) → x ≡ Ok y → (z : Result Step Damaged) → z ≡ settle_of s y → stepping z marks ≡ step_of n a t c m
    unfolding settled settle_met
    step_settles y h z g = ap (λ (v : Result Step Damaged). stepping v marks) g ∙ sym (ap (λ (v : Result Met Damaged). settled s (meeting v marks)) h) ∙ met_settles

    pub step-breaks : (y : Damaged) → x ≡ Err y → stepping (Err y) marks ≡ step_of n a t c m
    unfolding settled settle_met
    step-breaks y h = sym (ap (λ (v : Result Met Damaged). settled s (meeting v marks)) h) ∙ met_settles
