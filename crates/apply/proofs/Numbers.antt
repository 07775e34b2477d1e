-- What the code asks for and leaves when it reads the numbers of new pages from an array, from some spot on.
-- Assumes nothing.
use Prim.Native.Nat.{ℕ, suc, ◌+◌, ◌≤◌}
use native.Mathlib.Omega.{arith}
use native.Mathlib.Numerals.{add-one}
use mathlib.Core.Path.{◌≡◌, sym, ap, ◌∙◌, subst}
use mathlib.Core.Bool.{Bool, true}
use mathlib.Core.List.{List, [], ◌∷◌}
use lib.ListN.{length, drop, get_or, length-take, length-drop}
use lib.Seq.{drop-cons}
use Rattle.rules.specs.Table.{read}
use Rattle.rules.specs.Insert.{full, new_pages, Making, making, grow, halve, split}
use Rattle.rules.specs.declared.Session.{Session}
use Rattle.rules.proofs.Bytes.All.{all_head}
use Rattle.rules.proofs.Entries.Views.{shaped-read}
use Rattle.rules.proofs.Demand3.Steps.Plans.{new_pages-full, new_pages-none}
use Rattle.split.specs.Split.{step_at, Halves, Grows}
use Rattle.plan.specs.Plan.{full_by}
use Rattle.plan.proofs.Pages.{full_by_lem}
use Rattle.way.specs.declared.Step.{Step}
use Rattle.apply.specs.Leads.{HeadRead, steps_in, Level}
use Rattle.apply.proofs.Levels.{level-above, level_halves, level-split}
use Rattle.apply.proofs.Root.{root-grows, root_halves, root-split}

-- ── The first numbers of an array from a spot on ────────────────────────────────────────────────────────────────

first_two : (i : ℕ) (pages : List ℕ) → 2 ≤ length (drop i pages)
    → drop i pages ≡ get_or pages i 0 ∷ (get_or pages (i + 1) 0 ∷ drop (i + 2) pages)
first_two i pages h =
    let l = length-drop i pages in
    let two : suc (i + 1) ≡ i + 2 = omega arith in
    drop-cons pages i 0 (omega arith)
    ∙ ap (λ (z : List ℕ). get_or pages i 0 ∷ z)
    (ap (λ (j : ℕ). drop j pages) (sym (add-one i))
    ∙ (drop-cons pages (i + 1) 0 (omega arith) ∙ ap (λ (j : ℕ). get_or pages (i + 1) 0 ∷ drop j pages) two))

first_three : (i : ℕ) (pages : List ℕ) → 3 ≤ length (drop i pages)
    → drop i pages ≡ get_or pages i 0 ∷ (get_or pages (i + 1) 0 ∷ (get_or pages (i + 2) 0 ∷ drop (i + 3) pages))
first_three i pages h =
    let l = length-drop i pages in
    let three : suc (i + 2) ≡ i + 3 = omega arith in
    first_two i pages (omega arith)
    ∙ ap (λ (z : List ℕ). get_or pages i 0 ∷ (get_or pages (i + 1) 0 ∷ z))
    (drop-cons pages (i + 2) 0 (omega arith) ∙ ap (λ (j : ℕ). get_or pages (i + 2) 0 ∷ drop j pages) three)

-- what the header says of the page
pub full-read : (t : List ℕ) (x : Step) → HeadRead t x → full (read t x.place.child).view ≡ full_by x.head
full-read t x h = sym (ap full_by h ∙ full_by_lem (read t x.place.child) (shaped-read t x.place.child))

module _ {c k : ℕ} {t : List ℕ} {x : Step} {above : List Step} {pages : List ℕ} (L : Level c k t (x ∷ above) pages)
    {b : Bool} (q : b ≡ full_by x.head) where
  full-then : full (read t x.place.child).view ≡ b
  full-then = full-read t x (all_head L.heads) ∙ sym q

  enough : new_pages (steps_in t (x ∷ above)) ≤ length pages
  enough = omega (arith, L.new.enough, length-take (new_pages (steps_in t (x ∷ above))) pages)

-- a page that splits has two numbers left, and a root a third
pub two-left : {c k : ℕ} {t : List ℕ} {x : Step} {above : List Step} (i : ℕ) (pages : List ℕ) → Level c k t (x ∷ above) (drop i pages)
    → {b : Bool} → b ≡ full_by x.head → b ≡ true → i + 2 ≤ length pages
two-left {t = t} {x = x} {above = above} i pages L q e =
    omega (arith, enough L q, new_pages-full (step_at t x.place) (steps_in t above) (full-then L q ∙ e), length-drop i pages)

pub three-left : {c k : ℕ} {t : List ℕ} {x : Step} (i : ℕ) (pages : List ℕ) → Level c k t (x ∷ []) (drop i pages)
    → {b : Bool} → b ≡ full_by x.head → b ≡ true → i + 3 ≤ length pages
three-left {t = t} {x = x} i pages L q e =
    omega (arith, enough L q, new_pages-full (step_at t x.place) [] (full-then L q ∙ e), new_pages-none, length-drop i pages)

-- ── A page below another ────────────────────────────────────────────────────────────────────────────────────────

module _ {c k : ℕ} {t : List ℕ} {x y : Step} {above : List Step} (i : ℕ) (pages : List ℕ)
    (L : Level c k t (x ∷ (y ∷ above)) (drop i pages)) {b : Bool} (q : b ≡ full_by x.head) (e : b ≡ true) where
  below-full : full (read t x.place.child).view ≡ true
  below-full = full-then L q ∙ e

  abbrev two : List ℕ
  two = get_or pages i 0 ∷ (get_or pages (i + 1) 0 ∷ drop (i + 2) pages)

  are-two : drop i pages ≡ two
  are-two = first_two i pages (omega (arith, enough L q, new_pages-full (step_at t x.place) (steps_in t (y ∷ above)) below-full))

  L₂ : Level c k t (x ∷ (y ∷ above)) two
  L₂ = subst (Level c k t (x ∷ (y ∷ above))) are-two L

  pub below-above : Level c k t (y ∷ above) (drop (i + 2) pages)
  below-above = level-above L₂ below-full

  pub below_halves : (m : Session) (t' : List ℕ) (m' : Session) (at : ℕ)
      → making t' m' at ≡ split c k (steps_in t (y ∷ above)) (drop (i + 2) pages) (making t m 0)
      → Halves t' x.place x.head (get_or pages i 0) (get_or pages (i + 1) 0) at
  below_halves m t' m' at z = level_halves L₂ below-full m t' m' at z

  pub below_split : (m : Session) (t' : List ℕ) (m' : Session) (at : ℕ) (r : Making)
      → making t' m' at ≡ split c k (steps_in t (y ∷ above)) (drop (i + 2) pages) (making t m 0)
      → r ≡ halve c k (step_at t' x.place) (get_or pages i 0) (get_or pages (i + 1) 0) (making t' m' at)
      → r ≡ split c k (steps_in t (x ∷ (y ∷ above))) (drop i pages) (making t m 0)
  below_split m t' m' at r z w =
      level-split L₂ below-full m t' m' at r z w
      ∙ ap (λ (ns : List ℕ). split c k (steps_in t (x ∷ (y ∷ above))) ns (making t m 0)) (sym are-two)

-- ── The root ────────────────────────────────────────────────────────────────────────────────────────────────────

module _ {c k : ℕ} {t : List ℕ} {x : Step} (i : ℕ) (pages : List ℕ) (L : Level c k t (x ∷ []) (drop i pages))
    {b : Bool} (q : b ≡ full_by x.head) (e : b ≡ true) (m : Session) where
  top-full : full (read t x.place.child).view ≡ true
  top-full = full-then L q ∙ e

  abbrev three : List ℕ
  three = get_or pages i 0 ∷ (get_or pages (i + 1) 0 ∷ (get_or pages (i + 2) 0 ∷ drop (i + 3) pages))

  are_three : drop i pages ≡ three
  are_three = first_three i pages (omega (arith, enough L q, new_pages-full (step_at t x.place) [] top-full, new_pages-none))

  L₃ : Level c k t (x ∷ []) three
  L₃ = subst (Level c k t (x ∷ [])) are_three L

  pub top-grows : Grows t x.place x.head (get_or pages (i + 2) 0)
  top-grows = root-grows L₃ top-full m

  pub top_halves : (t' : List ℕ) (m' : Session) (at : ℕ)
      → making t' m' at ≡ grow c (step_at t x.place) (get_or pages (i + 2) 0) (making t m 0)
      → Halves t' x.place x.head (get_or pages i 0) (get_or pages (i + 1) 0) at
  top_halves t' m' at z = root_halves L₃ top-full m t' m' at z

  pub top_split : (t' : List ℕ) (m' : Session) (at : ℕ) (r : Making)
      → making t' m' at ≡ grow c (step_at t x.place) (get_or pages (i + 2) 0) (making t m 0)
      → r ≡ halve c k (step_at t' x.place) (get_or pages i 0) (get_or pages (i + 1) 0) (making t' m' at)
      → r ≡ split c k (steps_in t (x ∷ [])) (drop i pages) (making t m 0)
  top_split t' m' at r z w =
      root-split L₃ top-full m t' m' at r z w
      ∙ ap (λ (ns : List ℕ). split c k (steps_in t (x ∷ [])) ns (making t m 0)) (sym are_three)
