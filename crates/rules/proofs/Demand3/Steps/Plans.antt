-- What insert's refusals make sure of: every full page of the way that must split can be, with the free pages there are.
use Rattle.std.proofs.Common.{◌≡◌, ℕ, suc, ◌+◌, ◌*◌, ◌≤◌, Bool, true, false, not, ◌&&◌, eqb, ltb, ◌≢◌, List, [], ◌∷◌, length, drop, sym, refl, ap, ◌∙◌, arith, length-drop, ltb-false, eq-eqb, eqb-true}
use borrow.Author.Tests.{eqb-false}
use Rattle.rules.specs.Layout.{top_kind}
use Rattle.rules.specs.Page.{is_leaf}
use Rattle.rules.specs.Walk.{Step}
use Rattle.rules.specs.Insert.{full, splitting, too_soon, root_splits, new_pages, too_high, no_room}
use Rattle.rules.proofs.Entries.Tests.{same_test, not_both, or_none, and_other}
use Rattle.rules.proofs.Entries.Views.{inner-of-kind}
use Rattle.rules.proofs.Demand3.Steps.SplitWay.{Late, Plan}

-- ── Tests that fail ─────────────────────────────────────────────────────────────────────────────────────────────

-- a page that is not too soon to split
late_of : (c : ℕ) (s : Step) → (not (is_leaf s.page.view) && eqb s.page.touched c) ≡ false → Late c s
late_of c s h i q =
    not_both (rw (inner-of-kind s.page.view i, eq-eqb s.page.touched c q)) h

-- ── One level ───────────────────────────────────────────────────────────────────────────────────────────────────

pub splitting-full : (s : Step) (above : List Step) → full s.page.view ≡ true → splitting (s ∷ above) ≡ s ∷ splitting above
unfolding splitting
splitting-full s above h = rw (h, splitting)

eqb_suc : (a b : ℕ) → eqb (suc a) (suc b) ≡ eqb a b
eqb_suc a b =
    same_test (eqb (suc a) (suc b)) (eqb a b)
    (λ h. eq-eqb a b (omega (arith, eqb-true (suc a) (suc b) h)))
    (λ h. eq-eqb (suc a) (suc b) (ap suc (eqb-true a b h)))

pub root_splits-full : (s : Step) (above : List Step) → full s.page.view ≡ true → root_splits (s ∷ above) ≡ root_splits above
unfolding root_splits
root_splits-full s above h =
    ap (λ (xs : List Step). eqb (length xs) (suc (length above))) (splitting-full s above h)
    ∙ eqb_suc (length (splitting above)) (length above)

pub new_pages-full : (s : Step) (above : List Step) → full s.page.view ≡ true → new_pages (s ∷ above) ≡ 2 + new_pages above
unfolding new_pages
new_pages-full s above h =
    ap (λ (xs : List Step). 2 * length xs + elim (root_splits (s ∷ above)) [ true ↦ 1 | false ↦ 0 ]) (splitting-full s above h)
    ∙ (ap (λ (b : Bool). 2 * suc (length (splitting above)) + elim b [ true ↦ 1 | false ↦ 0 ]) (root_splits-full s above h)
    ∙ sum (length (splitting above)) (elim (root_splits above) [ true ↦ 1 | false ↦ 0 ]))
  where
    sum : (a b : ℕ) → 2 * suc a + b ≡ 2 + (2 * a + b)
    sum a b = omega arith

-- above the root
pub root_splits-none : root_splits [] ≡ true
unfolding root_splits splitting
root_splits-none = refl

pub new_pages-none : new_pages [] ≡ 1
unfolding root_splits new_pages splitting
new_pages-none = refl

too_soon-full : (c : ℕ) (s : Step) (above : List Step) → full s.page.view ≡ true → too_soon c (splitting (s ∷ above)) ≡ false
    → Late c s × (too_soon c (splitting above) ≡ false)
unfolding too_soon
too_soon-full c s above h t =
    let o = or_none (not (is_leaf s.page.view) && eqb s.page.touched c) (too_soon c (splitting above))
    (sym (ap (too_soon c) (splitting-full s above h)) ∙ t) in
    (late_of c s o.0, o.1)

-- ── The whole way ───────────────────────────────────────────────────────────────────────────────────────────────

abbrev pub Low : List Step → Type 0
Low [] = Unit {0}
Low (s ∷ above) = (s.page.view.kind ≤ top_kind) × Low above

plan_of_lem : (c : ℕ) (above : List Step) (s : Step) (new : List ℕ) → Low (s ∷ above) → too_soon c (splitting (s ∷ above)) ≡ false
    → new_pages (s ∷ above) ≤ length new → (root_splits (s ∷ above) ≡ true → too_high (s ∷ above) ≡ false) → Plan c (s ∷ above) new
unfolding too_high
plan_of_lem c [] s new l t m h = λ f.
    let k : s.page.view.kind ≢ top_kind =
    eqb-false s.page.view.kind top_kind (h (root_splits-full s [] f ∙ root_splits-none)) in
    let a = l.0 in
    ((too_soon-full c s [] f t).0, omega arith, omega (arith, m, new_pages-full s [] f, new_pages-none))
plan_of_lem c (u ∷ above) s new l t m h = λ f.
    let o = too_soon-full c s (u ∷ above) f t in
    let n = new_pages-full s (u ∷ above) f in (
      o.0,
      omega (arith, m, n),
      plan_of_lem c above u (drop 2 new) l.1 o.1 (omega (arith, m, n, length-drop 2 new))
          (λ r. h (root_splits-full s (u ∷ above) f ∙ r)),
    )

pub plan : (c : ℕ) (above : List Step) (s : Step) (new : List ℕ) → Low (s ∷ above) → too_soon c (splitting (s ∷ above)) ≡ false
    → no_room (s ∷ above) new ≡ false → Plan c (s ∷ above) new
unfolding no_room
plan c above s new l t r =
    let o = or_none (ltb (length new) (new_pages (s ∷ above))) (root_splits (s ∷ above) && too_high (s ∷ above)) r in
    plan_of_lem c above s new l t (ltb-false (length new) (new_pages (s ∷ above)) o.0)
    (and_other (root_splits (s ∷ above)) (too_high (s ∷ above)) o.1)
