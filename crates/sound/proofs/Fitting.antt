-- The first test that a page fails, as code finds it with the header at hand. Assumes nothing.
use Rattle.std.proofs.Common.{◌≡◌, ℕ, zero, suc, ◌*◌, ◌≤◌, true, false, eqb, List, [], ◌∷◌, length, get_or, sym, refl, ◌∙◌, true≢false, arith, drop_of_length-le, Some, None}
use Rattle.fields.specs.Field.{number, le_at}
use Rattle.rules.specs.Layout.{page_size}
use Rattle.rules.specs.Page.{page_in}
use Rattle.rules.specs.Table.{page_at, read}
use Rattle.rules.specs.Sound.{sound}
use Rattle.rules.specs.Place.{Trial, trial, first_failed, kind_asked, unfit}
use Rattle.rules.specs.declared.Place.{Place}
use Rattle.rules.specs.declared.Reason.{Reason}
use Rattle.head.specs.declared.Head.{Head}
use Rattle.head.specs.Head.{head_in}
use Rattle.head.proofs.Headers.{kind-view}
use Rattle.sound.proofs.ByKind.{kind-zero}

-- ── The first test that fails ───────────────────────────────────────────────────────────────────────────────────

-- a test that is not there passes
abbrev pub passing : Trial
passing = trial true Reason.Soundness

-- the first tests of a list pass
unfoldable pub Passed : ℕ → List Trial → Type 0
Passed zero ts = Unit {0}
Passed (suc i) [] = Unit {0}
Passed (suc i) (x ∷ ts) = (x.passes ≡ true) × Passed i ts

first_failed_lem : (ts : List Trial) (i : ℕ) → Passed i ts → (get_or ts i passing).passes ≡ false → first_failed ts ≡ Some (get_or ts i passing).reason
unfolding Passed first_failed
first_failed_lem [] i y f = absurd (true≢false f)
first_failed_lem (x ∷ ts) zero y f = rw (first_failed, f)
first_failed_lem (x ∷ ts) (suc i) y f = rw (first_failed, y.0) (first_failed_lem ts i y.1 f)

none_failed : (ts : List Trial) → Passed (length ts) ts → first_failed ts ≡ None
unfolding Passed first_failed
none_failed [] y = refl
none_failed (x ∷ ts) y = rw (first_failed, y.0) (none_failed ts y.1)

module _ (n : ℕ) (e : Place) (b : List ℕ) (h : Head) (q : h ≡ head_in b) where
  abbrev trials : List Trial
  trials =
      trial (sound n (page_in b)) Reason.Soundness
      ∷ (trial (kind_asked e.want h.kind) Reason.Kind
      ∷ (trial (eqb h.birth e.birth) Reason.Birth
      ∷ (trial (eqb h.low e.low) Reason.Range ∷ (trial (eqb h.high e.high) Reason.Range ∷ []))))

  unfit_trials : first_failed trials ≡ unfit n e (page_in b)
  unfolding unfit page_in head_in
  unfit_trials = rw (q, kind-view)

  -- the tests before number i pass, and that one fails
  pub unfit_by : (i : ℕ) → Passed i trials → (get_or trials i passing).passes ≡ false → Some (get_or trials i passing).reason ≡ unfit n e (page_in b)
  unfit_by i y f = sym (first_failed_lem trials i y f) ∙ unfit_trials

  pub unfit-none : Passed 5 trials → None ≡ unfit n e (page_in b)
  unfit-none y = sym (none_failed trials y) ∙ unfit_trials

-- a number beyond the table reads as no bytes, and they are no sound page
pub page_beyond : (n i : ℕ) (t : List ℕ) → length t ≡ n * page_size → n ≤ i → page_at t i ≡ []
unfolding page_at
page_beyond n i t h l =
    let k : length t ≤ i * page_size = omega arith in
    rw (drop_of_length-le t k)

pub unfit_beyond : (n i : ℕ) (t : List ℕ) (e : Place) → length t ≡ n * page_size → n ≤ i → Some Reason.Soundness ≡ unfit n e (read t i)
unfolding read head_in le_at number Passed
unfit_beyond n i t e h l =
    rw (page_beyond n i t h l) (unfit_by n e [] (head_in []) refl 0 tt (sym (kind-zero n [] (head_in []) refl (λ k. omega arith) refl)))
