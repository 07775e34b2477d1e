-- Splits down a way: each page that is halved stands below one that takes its two entries, and the page at the end has
-- room, leads the key on and finds as the page did that stood there. Assumes nothing.
use Prim.Native.Nat.{ℕ, ◌≤◌}
use native.Mathlib.Omega.{arith}
use mathlib.Core.Path.{◌≡◌, refl, sym, ap, ◌∙◌, subst}
use mathlib.Core.Logic.{◌⊎◌, inl, ◌≢◌}
use mathlib.Core.Bool.{true, false}
use mathlib.Core.List.{List, [], ◌∷◌}
use lib.ListN.{length}
use Rattle.rules.specs.Test.{mem}
use Rattle.rules.specs.Entry.{find}
use Rattle.rules.specs.Page.{Page}
use Rattle.rules.specs.Table.{read}
use Rattle.rules.specs.Place.{kids, pick}
use Rattle.rules.specs.Walk.{Step, numbers}
use Rattle.rules.specs.Insert.{full, too_high, divide, Making, making, halve}
use Rattle.rules.specs.declared.Session.{Session}
use Rattle.rules.proofs.Entries.Tests.{not_both, fails, mem-head, mem_tail, distinct_tail}
use Rattle.rules.proofs.Bytes.All.{all_tail, all_map}
use Rattle.rules.proofs.Entries.Places.{Fits}
use Rattle.rules.proofs.Demand3.Steps.Plans.{root_splits-full, new_pages-full}
use Rattle.edit.specs.Takes.{TakesTwins}
use Rattle.split.specs.Split.{step_at}
use Rattle.apply.specs.Leads.{Whole, Stands, Leads, Fresh, Chosen}
use Rattle.apply.proofs.Halving.{Onward, Sites, left-whole, left-others, left-onward, left_at}

-- ── What splits leave ───────────────────────────────────────────────────────────────────────────────────────────

pub record Gone (n c k : ℕ) (t : List ℕ) (s : Step) (above : List Step) (new : List ℕ) (m : Making) : Type 0 where
  pub whole : Whole n c m.table
  pub onward : Onward n k m.table m.at s.place s.page.view
  pub others : (i : ℕ) → 1 ≤ i → mem i (numbers (s ∷ above)) ≡ false → mem i new ≡ false → read m.table i ≡ read t i
  pub at_is : (mem m.at (numbers (s ∷ above)) ≡ true) ⊎ (mem m.at new ≡ true)

-- numbers that differ by what they are in
pub apart_by : {i j : ℕ} (xs : List ℕ) → mem i xs ≡ true → mem j xs ≡ false → i ≢ j
apart_by xs a b q = not_both (ap (λ (x : ℕ). mem x xs) (sym q) ∙ a) b

pub step-here : {n k : ℕ} {t : List ℕ} {s : Step} → Stands n k t s → step_at t s.place ≡ s
step-here {s = s} st = ap (λ (p : Page). record { place = s.place; page = p }) st.reads

pub stands-still : {n k : ℕ} {t u : List ℕ} {s : Step} → read u s.place.child ≡ read t s.place.child → Stands n k t s → Stands n k u s
stands-still q st = record {
  page = st.page;
  below = st.below;
  previous = st.previous;
  reads = q ∙ st.reads;
  fits = st.fits;
  low = st.low;
  high = st.high;
}

pub leads-first : {n k : ℕ} {t : List ℕ} (s : Step) (above : List Step) → Leads n k t (s ∷ above) → Stands n k t s
leads-first s [] l = l.0
leads-first s (u ∷ above) l = l.0

-- a page that is not full stays, and the key's way goes on there
pub stays : {n c k : ℕ} {t : List ℕ} (s : Step) (above : List Step) (new : List ℕ) (m : Session) → Whole n c t → Stands n k t s
    → full s.page.view ≡ false → Gone n c k t s above new (making t m s.place.child)
unfolding numbers
stays {n} {c} {k} {t} s above new m w st f = record {
  whole = w;
  onward = record {
    place = s.place;
    page = st.page;
    below = st.below;
    fits = subst (Fits n s.place) (sym st.reads) st.fits;
    low = st.low;
    high = st.high;
    kind = ap (λ (p : Page). p.view.kind) st.reads;
    leads = ap (λ (p : Page). pick k (kids s.place p.view)) st.reads;
    holds = ap (λ (p : Page). find k p.view.certs) st.reads;
    roomy = ap (λ (p : Page). full p.view) st.reads ∙ f;
  };
  others = λ i a b q. refl;
  at_is = inl (mem-head s.place.child (numbers above));
}

-- ── One page halved below what splits above have left ───────────────────────────────────────────────────────────

module _ {n c k : ℕ} (M : Making) (s : Step) (w : Whole n c M.table) (st : Stands n k M.table s)
    (f : full s.page.view ≡ true) {a b : ℕ} (x : Sites n s.place a b M.at)
    (tk : TakesTwins s.page.low (divide s.page.view) (read M.table M.at).view) where
  abbrev here : Step
  here = step_at M.table s.place

  pub stands_here : Stands n k M.table here
  stands_here = subst (Stands n k M.table) (sym (step-here st)) st

  pub full-here : full here.page.view ≡ true
  full-here = ap (λ (u : Step). full u.page.view) (step-here st) ∙ f

  pub takes-here : TakesTwins here.page.low (divide here.page.view) (read M.table M.at).view
  takes-here = subst (λ (u : Step). TakesTwins u.page.low (divide u.page.view) (read M.table M.at).view) (sym (step-here st)) tk

  abbrev after : Step → Making
  after u = halve c k u a b M

  pub halved_whole : Whole n c (after s).table
  halved_whole = subst (λ (u : Step). Whole n c (after u).table) (step-here st) (left-whole w stands_here full-here x takes-here M.session)

  pub halved_onward : Onward n k (after s).table (after s).at s.place s.page.view
  halved_onward =
      subst (λ (u : Step). Onward n k (after u).table (after u).at u.place u.page.view) (step-here st)
      (left-onward w stands_here full-here x takes-here M.session)

  pub halved_others : (i : ℕ) → i ≢ a → i ≢ b → i ≢ M.at → read (after s).table i ≡ read M.table i
  halved_others i p q r =
      subst (λ (u : Step). read (after u).table i ≡ read M.table i) (step-here st)
      (left-others w stands_here full-here x takes-here M.session i p q r)

  pub halved_at : ((after s).at ≡ a) ⊎ ((after s).at ≡ b)
  halved_at =
      subst (λ (u : Step). ((after u).at ≡ a) ⊎ ((after u).at ≡ b)) (step-here st)
      (left_at w stands_here full-here x takes-here M.session)

-- ── The numbers for the pages above ─────────────────────────────────────────────────────────────────────────────

pub mem-rest : (i x : ℕ) (xs : List ℕ) → mem i (x ∷ xs) ≡ false → mem i xs ≡ false
mem-rest i x xs h = fails (mem i xs) (λ q. not_both (mem_tail i x xs q) h)

pub mem_not : (i x : ℕ) (xs : List ℕ) → mem i (x ∷ xs) ≡ false → i ≢ x
mem_not i x xs h q = not_both (ap (λ (j : ℕ). mem j (x ∷ xs)) q ∙ mem-head x xs) h

high-more : (s u : Step) (above : List Step) → length (s ∷ (u ∷ above)) ≤ 3 → too_high (s ∷ (u ∷ above)) ≡ too_high (u ∷ above)
unfolding too_high
high-more s u [] l = refl
high-more s u (v ∷ []) l = refl
high-more s u (v ∷ (x ∷ above)) l = absurd (omega arith)

fresh-above : {n : ℕ} (s : Step) (above : List Step) (i : ℕ) → Fresh n (numbers (s ∷ above)) i → Fresh n (numbers above) i
unfolding numbers
fresh-above s above i x = record {
  page = x.page;
  below = x.below;
  apart = mem-rest i s.place.child (numbers above) x.apart;
}

pub chosen-above : {n : ℕ} (s u : Step) (above : List Step) (a b : ℕ) (new : List ℕ) → length (s ∷ (u ∷ above)) ≤ 3
    → full s.page.view ≡ true → Chosen n (s ∷ (u ∷ above)) (a ∷ (b ∷ new)) → Chosen n (u ∷ above) new
chosen-above s u above a b new l f x = record {
  fresh = all_map (fresh-above s (u ∷ above)) (all_tail (all_tail x.fresh));
  apart = distinct_tail b new (distinct_tail a (b ∷ new) x.apart);
  enough = omega (arith, x.enough, new_pages-full s (u ∷ above) f);
  room = λ r. sym (high-more s u above l) ∙ x.room (root_splits-full s (u ∷ above) f ∙ r);
}
