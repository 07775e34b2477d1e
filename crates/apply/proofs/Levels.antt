-- A page below another on a way, split as the code goes about it: first the pages above it. Assumes nothing.
use Prim.Native.Nat.{ℕ, suc, ◌≤◌}
use native.Mathlib.Omega.{arith}
use mathlib.Core.Path.{◌≡◌, refl, sym, ap, ◌∙◌, subst}
use mathlib.Core.Bool.{true, false}
use mathlib.Core.List.{List, [], ◌∷◌}
use lib.ListN.{length, take}
use Rattle.rules.specs.Page.{Page}
use Rattle.rules.specs.Table.{read}
use Rattle.rules.specs.Walk as rules
use Rattle.rules.specs.Insert.{full, new_pages, divide, Making, making, halve, split}
use Rattle.rules.specs.declared.Session.{Session}
use Rattle.rules.proofs.Bytes.All.{all_head, all_tail}
use Rattle.rules.proofs.Demand3.Steps.Plans.{new_pages-full}
use Rattle.rules.proofs.Demand3.Steps.SplitWay.{split-more, split-none}
use Rattle.edit.specs.Takes.{TakesTwins}
use Rattle.head.proofs.Headers.{head_of}
use Rattle.split.specs.Split.{step_at, Halves}
use Rattle.way.specs.declared.Step.{Step}
use Rattle.apply.specs.Leads.{Stands, Chosen, steps_in, Level}
use Rattle.apply.proofs.Halving.{halves}
use Rattle.apply.proofs.Going.{Gone, step-here, chosen-above}
use Rattle.apply.proofs.Splits.{stands-below, sites, takes-below}
use Rattle.apply.proofs.Whole.{split-gone}
use Rattle.apply.proofs.Same.{agree-take, split-same}

pub steps-long : (t : List ℕ) (xs : List Step) → length (steps_in t xs) ≡ length xs
steps-long t [] = refl
steps-long t (x ∷ xs) = ap suc (steps-long t xs)

-- a page that is not full stays, whatever stands above it
pub level-stays : (c k : ℕ) (t : List ℕ) (x : Step) (above : List Step) (new : List ℕ) (m : Session)
    → full (read t x.place.child).view ≡ false
    → making t m x.place.child ≡ split c k (steps_in t (x ∷ above)) new (making t m 0)
level-stays c k t x above new m f = sym (split-none c k (step_at t x.place) (steps_in t above) new (making t m 0) f)

module _ {c k : ℕ} {t : List ℕ} {x y : Step} {above : List Step} {a b : ℕ} {new : List ℕ}
    (L : Level c k t (x ∷ (y ∷ above)) (a ∷ (b ∷ new))) (f : full (read t x.place.child).view ≡ true) where
  abbrev s : rules.Step
  s = step_at t x.place

  abbrev u : rules.Step
  u = step_at t y.place

  abbrev us : List rules.Step
  us = steps_in t above

  -- the numbers for the pages above
  abbrev ns : List ℕ
  ns = take (new_pages (u ∷ us)) new

  chosen : Chosen L.n (s ∷ (u ∷ us)) (a ∷ (b ∷ ns))
  chosen =
      let q : new_pages (s ∷ (u ∷ us)) ≡ suc (suc (new_pages (u ∷ us))) = omega (arith, new_pages-full s (u ∷ us) f) in
      subst (λ (m : ℕ). Chosen L.n (s ∷ (u ∷ us)) (take m (a ∷ (b ∷ new)))) q L.new

  few : length (s ∷ (u ∷ us)) ≤ 3
  few = omega (arith, steps-long t above, L.short)

  above_chosen : Chosen L.n (u ∷ us) ns
  above_chosen = chosen-above s u us a b ns few f chosen

  pub level-above : Level c k t (y ∷ above) new
  level-above = record {
    n = L.n;
    whole = L.whole;
    leads = L.leads.3;
    short = omega (arith, L.short);
    heads = all_tail L.heads;
    new = above_chosen;
  }

  module _ (m : Session) where
    abbrev M : Making
    M = split c k (u ∷ us) new (making t m 0)

    gone : Gone L.n c k t u us ns M
    gone =
        subst (Gone L.n c k t u us ns) (split-same c k (u ∷ us) ns new (making t m 0) (agree-take (new_pages (u ∷ us)) new))
        (split-gone m L.whole u us ns (omega (arith, few)) L.leads.3 above_chosen)

    st : Stands L.n k M.table s
    st = stands-below s u us a b ns M L.leads f chosen gone

    same : read M.table x.place.child ≡ read t x.place.child
    same = st.reads

    here : Halves M.table x.place x.head a b M.at
    here =
        halves gone.whole
        (subst (Stands L.n k M.table) (sym (step-here st)) st)
        (ap (λ (p : Page). full p.view) same ∙ f)
        (sites s u us a b ns M L.leads f chosen gone)
        (subst (λ (p : Page). TakesTwins p.low (divide p.view) (read M.table M.at).view) (sym same)
        (takes-below s u us a b ns M L.leads f chosen gone))
        x.head (all_head L.heads ∙ ap head_of (sym same))

    pub level_halves : (t' : List ℕ) (m' : Session) (i : ℕ) → making t' m' i ≡ M → Halves t' x.place x.head a b i
    level_halves t' m' i q = subst (λ (z : Making). Halves z.table x.place x.head a b z.at) (sym q) here

    pub level-split : (t' : List ℕ) (m' : Session) (i : ℕ) (r : Making) → making t' m' i ≡ M
        → r ≡ halve c k (step_at t' x.place) a b (making t' m' i)
        → r ≡ split c k (steps_in t (x ∷ (y ∷ above))) (a ∷ (b ∷ new)) (making t m 0)
    level-split t' m' i r q z =
        z ∙ (ap (λ (w : Making). halve c k (step_at w.table x.place) a b w) q
        ∙ (ap (λ (p : Page). halve c k (record { place = x.place; page = p }) a b M) same
        ∙ sym (split-more c k s u us (a ∷ (b ∷ new)) (making t m 0) f)))
