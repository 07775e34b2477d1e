-- A whole way split from the top down. Assumes nothing.
use Prim.Native.Nat.{ℕ}
use mathlib.Core.Path.{◌≡◌, sym, ap, ◌∙◌, subst}
use mathlib.Core.Logic.{◌⊎◌, inl, inr, ◌≢◌}
use mathlib.Core.Bool.{true, false}
use mathlib.Core.List.{List, [], ◌∷◌}
use mathlib.Core.Option.{some, none-ne-some}
use Rattle.rules.specs.Test.{mem}
use Rattle.rules.specs.Page.{Page, is_leaf}
use Rattle.rules.specs.Table.{read}
use Rattle.rules.specs.Place.{kids, pick}
use Rattle.rules.specs.Walk.{Step, numbers}
use Rattle.rules.specs.Insert.{full, divide, Making, halve}
use Rattle.rules.proofs.Entries.Tests.{fails, mem-nil, mem-head, mem_tail, mem_cases, distinct_head, distinct_tail}
use Rattle.rules.proofs.Bytes.All.{All, all_head, all_tail}
use Rattle.rules.proofs.Entries.Views.{Shaped, shaped-read}
use Rattle.rules.proofs.Entries.Asks.{pick-leaf}
use Rattle.edit.specs.Takes.{TakesTwins}
use Rattle.apply.specs.Leads.{Stands, Leads, Fresh, Chosen}
use Rattle.apply.proofs.Halving.{takes, Sites}
use Rattle.apply.proofs.Going.{Gone, apart_by, stands-still, leads-first, halved_whole, halved_onward, halved_others, halved_at, mem-rest, mem_not}

-- ── A page below another ────────────────────────────────────────────────────────────────────────────────────────

inner-above : {n k : ℕ} {t : List ℕ} (s u : Step) → Stands n k t u → pick k (kids u.place u.page.view) ≡ some s.place
    → is_leaf u.page.view ≡ false
inner-above {n} {k} {t} s u st h = fails (is_leaf u.page.view) (λ q. leaf q)
  where
    leaf : is_leaf u.page.view ≡ true → ⊥
    leaf q =
        none-ne-some s.place
        (sym (pick-leaf k u.place u.page.view (subst (λ (p : Page). Shaped p.view) st.reads (shaped-read t u.place.child)) q) ∙ h)

shaped-step : {n k : ℕ} {t : List ℕ} {s : Step} → Stands n k t s → Shaped s.page.view
shaped-step {t = t} {s = s} st = subst (λ (p : Page). Shaped p.view) st.reads (shaped-read t s.place.child)

module _ {n c k : ℕ} {t : List ℕ} (s u : Step) (above : List Step) (a b : ℕ) (new : List ℕ) (M : Making)
    (l : Leads n k t (s ∷ (u ∷ above))) (f : full s.page.view ≡ true) (x : Chosen n (s ∷ (u ∷ above)) (a ∷ (b ∷ new)))
    (g : Gone n c k t u above new M) where
  fa : Fresh n (numbers (s ∷ (u ∷ above))) a
  fa = all_head x.fresh

  fb : Fresh n (numbers (s ∷ (u ∷ above))) b
  fb = all_head (all_tail x.fresh)

  child-new : mem s.place.child new ≡ false
  unfolding numbers
  child-new = fails (mem s.place.child new) (λ q. in_new new (all_tail (all_tail x.fresh)) q)
    where
      in_new : (ns : List ℕ) → All (Fresh n (numbers (s ∷ (u ∷ above)))) ns → mem s.place.child ns ≡ true → ⊥
      in_new [] h q = mem-nil s.place.child q
      in_new (i ∷ ns) h q = which (mem_cases s.place.child i ns q) (in_new ns (all_tail h))
        where
          which : (s.place.child ≡ i) ⊎ (mem s.place.child ns ≡ true) → (mem s.place.child ns ≡ true → ⊥) → ⊥
          which (inl e) ih = mem_not i s.place.child (numbers (u ∷ above)) (all_head h).apart (sym e)
          which (inr e) ih = ih e

  pub stands-below : Stands n k M.table s
  stands-below = stands-still (g.others s.place.child l.0.page l.1 child-new) l.0

  a_new : mem a (b ∷ new) ≡ false
  a_new = distinct_head a (b ∷ new) x.apart

  b_new : mem b new ≡ false
  b_new = distinct_head b new (distinct_tail a (b ∷ new) x.apart)

  at_not : (i : ℕ) → mem i (numbers (u ∷ above)) ≡ false → mem i new ≡ false → M.at ≢ i
  at_not i p q = go g.at_is
    where
      go : (mem M.at (numbers (u ∷ above)) ≡ true) ⊎ (mem M.at new ≡ true) → M.at ≢ i
      go (inl h) = apart_by (numbers (u ∷ above)) h p
      go (inr h) = apart_by new h q

  pub sites : Sites n s.place a b M.at
  unfolding numbers
  sites = record {
    lower_page_lem = fa.page;
    lower_below = fa.below;
    upper_page_lem = fb.page;
    upper_below = fb.below;
    at_below = g.onward.below;
    two = mem_not a b new a_new;
    child_lower = λ q. mem_not a s.place.child (numbers (u ∷ above)) fa.apart (sym q);
    at_lower = at_not a (mem-rest a s.place.child (numbers (u ∷ above)) fa.apart) (mem-rest a b new a_new);
    at_upper = at_not b (mem-rest b s.place.child (numbers (u ∷ above)) fb.apart) b_new;
  }

  pub takes-below : TakesTwins s.page.low (divide s.page.view) (read M.table M.at).view
  takes-below =
      takes u s g.onward (inner-above s u (leads-first u above l.3) l.2) l.2 l.0.fits (shaped-step l.0) f

  pub gone-below : Gone n c k t s (u ∷ above) (a ∷ (b ∷ new)) (halve c k s a b M)
  unfolding numbers
  gone-below = record {
    whole = halved_whole M s g.whole stands-below f sites takes-below;
    onward = halved_onward M s g.whole stands-below f sites takes-below;
    others = λ i p q r.
        let q' = mem-rest i s.place.child (numbers (u ∷ above)) q in
        let r' = mem-rest i b new (mem-rest i a (b ∷ new) r) in
        halved_others M s g.whole stands-below f sites takes-below i (mem_not i a (b ∷ new) r)
        (mem_not i b new (mem-rest i a (b ∷ new) r)) (λ e. at_not i q' r' (sym e))
        ∙ g.others i p q' r';
    at_is = inr (which (halved_at M s g.whole stands-below f sites takes-below));
  }
    where
      which : ((halve c k s a b M).at ≡ a) ⊎ ((halve c k s a b M).at ≡ b) → mem (halve c k s a b M).at (a ∷ (b ∷ new)) ≡ true
      which (inl e) = ap (λ (i : ℕ). mem i (a ∷ (b ∷ new))) e ∙ mem-head a (b ∷ new)
      which (inr e) = ap (λ (i : ℕ). mem i (a ∷ (b ∷ new))) e ∙ mem_tail b a (b ∷ new) (mem-head b new)
