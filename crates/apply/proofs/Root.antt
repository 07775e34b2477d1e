-- The root split, as the code goes about it: first a new root over it. Assumes nothing.
use Prim.Native.Nat.{ℕ}
use native.Mathlib.Omega.{arith}
use mathlib.Core.Path.{◌≡◌, sym, ap, ◌∙◌, subst}
use mathlib.Core.Bool.{true}
use mathlib.Core.List.{List, [], ◌∷◌}
use lib.ListN.{take}
use Rattle.rules.specs.Page.{Page}
use Rattle.rules.specs.Table.{read}
use Rattle.rules.specs.Walk as rules
use Rattle.rules.specs.Insert.{full, new_pages, divide, Making, making, grow, halve, split}
use Rattle.rules.specs.declared.Session.{Session}
use Rattle.rules.proofs.Bytes.All.{all_head, all_tail}
use Rattle.rules.proofs.Demand3.Steps.Plans.{new_pages-full, new_pages-none}
use Rattle.rules.proofs.Demand3.Steps.SplitWay.{split_one}
use Rattle.edit.specs.Takes.{TakesTwins}
use Rattle.head.proofs.Headers.{head_of}
use Rattle.split.specs.Split.{step_at, Halves, Grows}
use Rattle.way.specs.declared.Step.{Step}
use Rattle.apply.specs.Leads.{Stands, Chosen, steps_in, Level}
use Rattle.apply.proofs.Halving.{halves}
use Rattle.apply.proofs.Growing.{grows}
use Rattle.apply.proofs.Going.{step-here}
use Rattle.apply.proofs.Whole.{short, root-whole, root_stands, root_sites, takes-root}

module _ {c k : ℕ} {t : List ℕ} {x : Step} {a b g : ℕ} {new : List ℕ} (L : Level c k t (x ∷ []) (a ∷ (b ∷ (g ∷ new))))
    (f : full (read t x.place.child).view ≡ true) (m : Session) where
  abbrev s : rules.Step
  s = step_at t x.place

  abbrev M : Making
  M = grow c s g (making t m 0)

  chosen : Chosen L.n (s ∷ []) (a ∷ (b ∷ (g ∷ [])))
  chosen =
      let q : new_pages (s ∷ []) ≡ 3 = omega (arith, new_pages-full s [] f, new_pages-none) in
      subst (λ (i : ℕ). Chosen L.n (s ∷ []) (take i (a ∷ (b ∷ (g ∷ new))))) q L.new

  pub root-grows : Grows t x.place x.head g
  root-grows =
      let new-root = all_head (all_tail (all_tail chosen.fresh)) in
      grows L.whole L.leads.0 f (short s a b g [] m L.whole L.leads f chosen) new-root.page new-root.below
      x.head (all_head L.heads)

  st : Stands L.n k M.table s
  st = root_stands s a b g [] m L.whole L.leads f chosen

  same : read M.table x.place.child ≡ read t x.place.child
  same = st.reads

  here : Halves M.table x.place x.head a b M.at
  here =
      halves (root-whole s a b g [] m L.whole L.leads f chosen)
      (subst (Stands L.n k M.table) (sym (step-here st)) st)
      (ap (λ (p : Page). full p.view) same ∙ f)
      (root_sites s a b g [] m L.whole L.leads f chosen)
      (subst (λ (p : Page). TakesTwins p.low (divide p.view) (read M.table M.at).view) (sym same)
      (takes-root s a b g [] m L.whole L.leads f chosen))
      x.head (all_head L.heads ∙ ap head_of (sym same))

  pub root_halves : (t' : List ℕ) (m' : Session) (i : ℕ) → making t' m' i ≡ M → Halves t' x.place x.head a b i
  root_halves t' m' i q = subst (λ (z : Making). Halves z.table x.place x.head a b z.at) (sym q) here

  pub root-split : (t' : List ℕ) (m' : Session) (i : ℕ) (r : Making) → making t' m' i ≡ M
      → r ≡ halve c k (step_at t' x.place) a b (making t' m' i)
      → r ≡ split c k (steps_in t (x ∷ [])) (a ∷ (b ∷ (g ∷ new))) (making t m 0)
  root-split t' m' i r q z =
      z ∙ (ap (λ (w : Making). halve c k (step_at w.table x.place) a b w) q
      ∙ (ap (λ (p : Page). halve c k (record { place = x.place; page = p }) a b M) same
      ∙ sym (split_one c k s (a ∷ (b ∷ (g ∷ new))) (making t m 0) f)))
