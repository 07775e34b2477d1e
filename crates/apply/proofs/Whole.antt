-- The rules' split of a whole way: the page at its end has room and leads the key on as the leaf did, and no page changes
-- but those of the way and the new ones. Assumes nothing.
use Prim.Native.Nat.{ℕ, ◌≤◌, ◌<◌}
use native.Mathlib.Omega.{arith}
use mathlib.Core.Path.{◌≡◌, refl, sym, ap, ◌∙◌, subst}
use mathlib.Core.Logic.{◌⊎◌, inl, inr, ◌≢◌}
use mathlib.Core.Bool.{Bool, true, false}
use mathlib.Core.List.{List, [], ◌∷◌}
use lib.Dec.{eqb}
use lib.ListN.{length}
use borrow.Author.Tests.{eqb-false}
use Rattle.rules.specs.Layout.{top_kind}
use Rattle.rules.specs.Test.{mem}
use Rattle.rules.specs.Page.{Page}
use Rattle.rules.specs.Table.{read}
use Rattle.rules.specs.Walk.{Step, numbers}
use Rattle.rules.specs.Insert.{full, root_splits, too_high, divide, Making, making, grow, halve, split}
use Rattle.rules.specs.declared.Session.{Session}
use Rattle.rules.proofs.Entries.Tests.{mem-head, mem_tail, distinct_head, distinct_tail}
use Rattle.rules.proofs.Bytes.All.{all_head, all_tail}
use Rattle.rules.proofs.Demand3.Steps.Plans.{root_splits-full, new_pages-full, root_splits-none, new_pages-none}
use Rattle.rules.proofs.Demand3.Steps.SplitWay.{split_one, split-more, split-none}
use Rattle.edit.specs.Takes.{TakesTwins}
use Rattle.split.specs.Split.{step_at}
use Rattle.apply.specs.Leads.{Whole, Stands, Leads, Fresh, Chosen}
use Rattle.apply.proofs.Halving.{Sites}
use Rattle.apply.proofs.Growing.{grown-whole, grown-others, grown-takes}
use Rattle.apply.proofs.Going.{Gone, step-here, stands-still, stays, halved_whole, halved_onward, halved_others, halved_at, mem-rest, mem_not, chosen-above}
use Rattle.apply.proofs.Splits.{gone-below}

-- ── The root ────────────────────────────────────────────────────────────────────────────────────────────────────

pub root_splits_lem : (s : Step) → full s.page.view ≡ true → root_splits (s ∷ []) ≡ true
root_splits_lem s f = root_splits-full s [] f ∙ root_splits-none

high-root : (s : Step) → too_high (s ∷ []) ≡ eqb s.page.view.kind top_kind
unfolding too_high
high-root s = refl

module _ {n c k : ℕ} {t : List ℕ} (s : Step) (a b g : ℕ) (new : List ℕ) (m : Session) (w : Whole n c t) (l : Leads n k t (s ∷ []))
    (f : full s.page.view ≡ true) (x : Chosen n (s ∷ []) (a ∷ (b ∷ (g ∷ new)))) where
  abbrev st : Stands n k t s
  st = l.0

  abbrev M : Making
  M = grow c s g (making t m 0)

  pub short : s.page.view.kind < top_kind
  short =
      let h = eqb-false s.page.view.kind top_kind (sym (high-root s) ∙ x.room (root_splits_lem s f)) in
      omega (arith, st.fits.sound.kind_to, h)

  fa : Fresh n (numbers (s ∷ [])) a
  fa = all_head x.fresh

  fb : Fresh n (numbers (s ∷ [])) b
  fb = all_head (all_tail x.fresh)

  fg : Fresh n (numbers (s ∷ [])) g
  fg = all_head (all_tail (all_tail x.fresh))

  stands_here : Stands n k t (step_at t s.place)
  stands_here = subst (Stands n k t) (sym (step-here st)) st

  full-here : full (read t s.place.child).view ≡ true
  full-here = ap (λ (p : Page). full p.view) st.reads ∙ f

  short-here : (read t s.place.child).view.kind < top_kind
  short-here = omega (arith, short, ap (λ (p : Page). p.view.kind) st.reads)

  pub root-whole : Whole n c M.table
  root-whole =
      subst (λ (u : Step). Whole n c (grow c u g (making t m 0)).table) (step-here st)
      (grown-whole w stands_here full-here short-here fg.page fg.below m)

  pub root-others : (i : ℕ) → 1 ≤ i → i ≢ g → read M.table i ≡ read t i
  root-others i p q =
      subst (λ (u : Step). read (grow c u g (making t m 0)).table i ≡ read t i) (step-here st)
      (grown-others w stands_here full-here short-here fg.page fg.below m i p q)

  pub root-takes : TakesTwins s.page.low (divide s.page.view) (read M.table g).view
  root-takes =
      subst (λ (u : Step). TakesTwins u.page.low (divide u.page.view) (read (grow c u g (making t m 0)).table g).view) (step-here st)
      (grown-takes w stands_here full-here short-here fg.page fg.below m)

  at_root_lem : M.at ≡ g
  unfolding grow
  at_root_lem = refl

  child_not : (i : ℕ) → mem i (numbers (s ∷ [])) ≡ false → s.place.child ≢ i
  unfolding numbers
  child_not i h q = mem_not i s.place.child [] h (sym q)

  pub root_stands : Stands n k M.table s
  root_stands = stands-still (root-others s.place.child st.page (child_not g fg.apart)) st

  a_new : mem a (b ∷ (g ∷ new)) ≡ false
  a_new = distinct_head a (b ∷ (g ∷ new)) x.apart

  b_new : mem b (g ∷ new) ≡ false
  b_new = distinct_head b (g ∷ new) (distinct_tail a (b ∷ (g ∷ new)) x.apart)

  pub root_sites : Sites n s.place a b M.at
  unfolding grow
  root_sites = record {
    lower_page_lem = fa.page;
    lower_below = fa.below;
    upper_page_lem = fb.page;
    upper_below = fb.below;
    at_below = fg.below;
    two = mem_not a b (g ∷ new) a_new;
    child_lower = child_not a fa.apart;
    at_lower = λ q. mem_not a g new (mem-rest a b (g ∷ new) a_new) (sym q);
    at_upper = λ q. mem_not b g new b_new (sym q);
  }

  pub takes-root : TakesTwins s.page.low (divide s.page.view) (read M.table M.at).view
  takes-root = subst (λ (i : ℕ). TakesTwins s.page.low (divide s.page.view) (read M.table i).view) (sym at_root_lem) root-takes

  pub gone-root : Gone n c k t s [] (a ∷ (b ∷ (g ∷ new))) (halve c k s a b M)
  gone-root = record {
    whole = halved_whole M s root-whole root_stands f root_sites takes-root;
    onward = halved_onward M s root-whole root_stands f root_sites takes-root;
    others = λ i p q r.
        let r₁ = mem-rest i a (b ∷ (g ∷ new)) r in
        let not-g = mem_not i g new (mem-rest i b (g ∷ new) r₁) in
        halved_others M s root-whole root_stands f root_sites takes-root i (mem_not i a (b ∷ (g ∷ new)) r)
        (mem_not i b (g ∷ new) r₁) (λ e. not-g (e ∙ at_root_lem))
        ∙ root-others i p not-g;
    at_is = inr (which (halved_at M s root-whole root_stands f root_sites takes-root));
  }
    where
      which : ((halve c k s a b M).at ≡ a) ⊎ ((halve c k s a b M).at ≡ b)
          → mem (halve c k s a b M).at (a ∷ (b ∷ (g ∷ new))) ≡ true
      which (inl e) = ap (λ (i : ℕ). mem i (a ∷ (b ∷ (g ∷ new)))) e ∙ mem-head a (b ∷ (g ∷ new))
      which (inr e) = ap (λ (i : ℕ). mem i (a ∷ (b ∷ (g ∷ new)))) e ∙ mem_tail b a (b ∷ (g ∷ new)) (mem-head b (g ∷ new))

-- ── The way ─────────────────────────────────────────────────────────────────────────────────────────────────────

module _ {n c k : ℕ} {t : List ℕ} (m : Session) (w : Whole n c t) where
  root-gone : (s : Step) (new : List ℕ) → Leads n k t (s ∷ []) → Chosen n (s ∷ []) new → (b : Bool) → full s.page.view ≡ b
      → Gone n c k t s [] new (split c k (s ∷ []) new (making t m 0))
  root-gone s new l x false f = subst (Gone n c k t s [] new) (sym (split-none c k s [] new (making t m 0) f)) (stays s [] new m w l.0 f)
  root-gone s [] l x true f = absurd (omega (arith, x.enough, new_pages-full s [] f))
  root-gone s (a ∷ []) l x true f = absurd (omega (arith, x.enough, new_pages-full s [] f))
  root-gone s (a ∷ (b ∷ [])) l x true f = absurd (omega (arith, x.enough, new_pages-full s [] f, new_pages-none))
  root-gone s (a ∷ (b ∷ (g ∷ new))) l x true f =
      subst (Gone n c k t s [] (a ∷ (b ∷ (g ∷ new)))) (sym (split_one c k s (a ∷ (b ∷ (g ∷ new))) (making t m 0) f))
      (gone-root s a b g new m w l f x)

  pub split-gone : (s : Step) (above : List Step) (new : List ℕ) → length (s ∷ above) ≤ 3 → Leads n k t (s ∷ above)
      → Chosen n (s ∷ above) new → Gone n c k t s above new (split c k (s ∷ above) new (making t m 0))
  split-gone s [] new few l x = root-gone s new l x (full s.page.view) refl
  split-gone s (u ∷ above) new few l x = go new x (full s.page.view) refl (λ ns. split-gone u above ns (omega arith) l.3)
    where
      Above : Type 0
      Above = (ns : List ℕ) → Chosen n (u ∷ above) ns → Gone n c k t u above ns (split c k (u ∷ above) ns (making t m 0))

      go : (ns : List ℕ) → Chosen n (s ∷ (u ∷ above)) ns → (b : Bool) → full s.page.view ≡ b → Above
          → Gone n c k t s (u ∷ above) ns (split c k (s ∷ (u ∷ above)) ns (making t m 0))
      go ns y false f ih =
          subst (Gone n c k t s (u ∷ above) ns) (sym (split-none c k s (u ∷ above) ns (making t m 0) f)) (stays s (u ∷ above) ns m w l.0 f)
      go [] y true f ih = absurd (omega (arith, y.enough, new_pages-full s (u ∷ above) f))
      go (a ∷ []) y true f ih = absurd (omega (arith, y.enough, new_pages-full s (u ∷ above) f))
      go (a ∷ (b ∷ ns)) y true f ih =
          subst (Gone n c k t s (u ∷ above) (a ∷ (b ∷ ns)))
          (sym (split-more c k s u above (a ∷ (b ∷ ns)) (making t m 0) f))
          (gone-below s u above a b ns (split c k (u ∷ above) ns (making t m 0)) l f y
          (ih ns (chosen-above s u above a b ns few f y)))
