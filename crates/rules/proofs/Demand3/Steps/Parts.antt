-- The two pages that a split builds are halves of the split page, for the two places that its entry becomes.
use Rattle.std.proofs.Common.{◌≡◌, ℕ, suc, ◌-◌, ◌<◌, ◌≤◌, true, List, [], ◌∷◌, length, sym, refl, ap, ◌∙◌, subst, inl, inr, arith}
use mathlib.Core.Option.{some}
use Rattle.rules.specs.Layout.{top_kind, inner_room, last_key}
use Rattle.rules.specs.Test.{mem}
use Rattle.rules.specs.Entry.{Below, keys}
use Rattle.rules.specs.Page.{Page, fresh, touch}
use Rattle.rules.specs.Table.{read}
use Rattle.rules.specs.Place.{root_place, kids, pick, fits}
use Rattle.rules.specs.Insert.{full, divide, previous_of, lower_page, upper_page, new_child, twins, root_over, root_previous}
use Rattle.rules.specs.declared.Place.{Place}
use Rattle.rules.proofs.Entries.Tests.{mem-head}
use Rattle.rules.proofs.Demand3.Ways.Ways.{Found}
use Rattle.rules.proofs.Demand3.Ways.Invariant.{Rooted}
use Rattle.rules.proofs.Entries.Views.{shaped-read, inner-of-kind}
use Rattle.rules.proofs.Entries.Sounds.{Sound, sound-same, starts-mem}
use Rattle.rules.proofs.Entries.Places.{Fits, fits_true, fits-of}
use Rattle.rules.proofs.Entries.Halves.{Divided, divided, lower_page-fits, upper_page-fits, twins-fits, previous_of-below, root_over-sound, root_over-fits}
use Rattle.rules.proofs.Entries.Picks.{place_for, kid-key}
use Rattle.rules.proofs.Entries.Asks.{kids-pick, kids-within, kids-names}
use Rattle.rules.proofs.Demand3.Steps.Sides.{step_at, Half}

-- what the entry of a half says beside its key
abbrev pub half_below_lem : ℕ → List ℕ → Place → ℕ → Below
half_below_lem c W P i = record { child = i; previous = previous_of c (step_at W P); birth = c }

-- the two places
abbrev pub lower_of : ℕ → List ℕ → Place → ℕ → ℕ → Place
lower_of c W P want i = place_for want P.low (divide (read W P.child).view - 1) (half_below_lem c W P i)

abbrev pub upper_of : ℕ → List ℕ → Place → ℕ → ℕ → Place
upper_of c W P want i = place_for want (divide (read W P.child).view) P.high (half_below_lem c W P i)

module _ (n : ℕ) (W : List ℕ) (P : Place) (f : Found n W P) (full-P : full (read W P.child).view ≡ true) where
  page : Page
  page = read W P.child

  fit : Fits n P page
  unfolding page
  fit = fits_true n P page f

  pub parts : Divided P.low P.high (read W P.child).view
  unfolding page
  parts = divided fit.sound (shaped-read W P.child) full-P

  own : Sound n page.low page.high page.view
  own = sound-same (sym fit.low) (sym fit.high) fit.sound

  pub lower-fits : (c want lower : ℕ) → want ≡ (read W P.child).view.kind
      → Fits n (lower_of c W P want lower) (lower_page c (read W P.child))
  unfolding page
  lower-fits c want lower k =
      lower_page-fits c (lower_of c W P want lower) page own (shaped-read W P.child) full-P refl (sym fit.low) refl (inr k)

  pub upper_fits : (c want upper : ℕ) → want ≡ (read W P.child).view.kind
      → Fits n (upper_of c W P want upper) (upper_page c (read W P.child))
  unfolding page
  upper_fits c want upper k =
      upper_page-fits c (upper_of c W P want upper) page own (shaped-read W P.child) full-P refl refl (sym fit.high) (inr k)

  pub lower_half_lem : (W' : List ℕ) (c want lower : ℕ) → want ≡ (read W P.child).view.kind → read W' lower ≡ lower_page c (read W P.child)
      → Half n W W' c P (lower_of c W P want lower)
  unfolding page lower_page fresh
  lower_half_lem W' c want lower k h = record {
    born = refl;
    before = refl;
    want = k;
    lows = omega arith;
    highs = omega (arith, parts.within);
    found = ap (fits n (lower_of c W P want lower)) h ∙ fits-of n (lower_of c W P want lower) (lower_page c page) (lower-fits c want lower k);
    built = ap (λ (p : Page). p.built) h;
    touched = ap (λ (p : Page). p.touched) h;
    view = ap (λ (p : Page). p.view) h ∙ parts.lower;
    cut_low = λ i. starts-mem P.low page.view.children (fit.sound.starts (inner-of-kind page.view i));
    cut_high = λ i.
        inr (ap (λ (j : ℕ). mem j (keys page.view.children)) back ∙ parts.key (inner-of-kind page.view i));
  }
    where
      back : suc (divide page.view - 1) ≡ divide page.view
      back = omega (arith, parts.above)

  pub upper_half_lem : (W' : List ℕ) (c want upper : ℕ) → want ≡ (read W P.child).view.kind → read W' upper ≡ upper_page c (read W P.child)
      → Half n W W' c P (upper_of c W P want upper)
  unfolding page upper_page fresh
  upper_half_lem W' c want upper k h = record {
    born = refl;
    before = refl;
    want = k;
    lows = omega (arith, parts.above);
    highs = omega arith;
    found = ap (fits n (upper_of c W P want upper)) h ∙ fits-of n (upper_of c W P want upper) (upper_page c page) (upper_fits c want upper k);
    built = ap (λ (p : Page). p.built) h;
    touched = ap (λ (p : Page). p.touched) h;
    view = ap (λ (p : Page). p.view) h ∙ parts.upper;
    cut_low = λ i. parts.key (inner-of-kind page.view i);
    cut_high = λ i. inl refl;
  }

-- ── The page above ──────────────────────────────────────────────────────────────────────────────────────────────

-- the page at u, which has room, with two entries where it had one for P
module _ (n : ℕ) (W : List ℕ) (u P : Place) (g : Found n W u) (f : Found n W P) (full-P : full (read W P.child).view ≡ true)
    (k : ℕ) (p : pick k (kids u (read W u.child).view) ≡ some P) where
  pub above-fits : (c lower upper : ℕ) → length (read W u.child).view.children < inner_room
      → 1 ≤ lower → lower < n → 1 ≤ upper → upper < n
      → Fits n u (touch c (twins c (step_at W P) lower upper (read W u.child).view) (read W u.child))
  above-fits c lower upper r a b a' b' =
      let view = (read W u.child).view in
      let x = fits_true n u (read W u.child) g in
      let d = kids-pick u x.sound k P p in
      let w = kids-within u x.sound P d in
      let m = kids-names u x.sound P d in
      let s = parts n W P f full-P in
      let o = s.above in
      let t = s.within in
      twins-fits c (step_at W P) lower upper
      (subst (λ (i : ℕ). mem i (keys view.children) ≡ true) (sym (fits_true n P (read W P.child) f).low) (kid-key d))
      r (omega (arith, w.0)) (omega (arith, w.1)) a b a' b'
      (previous_of-below n c (step_at W P) m.previous_below m.child_below) x

-- ── A new root ──────────────────────────────────────────────────────────────────────────────────────────────────

-- the place that page 0 asks for then
abbrev pub raised_root : ℕ → List ℕ → Place → ℕ → Place
raised_root c W P new = place_for 0 0 last_key (record { child = new; previous = root_previous c (step_at W P); birth = c })

pub root-range : (t : List ℕ) → ((root_place t).low ≡ 0) × ((root_place t).high ≡ last_key) × ((root_place t).want ≡ 0)
unfolding root_place
root-range t = (refl, refl, refl)

-- P is the root of a table whose page 0 is fit
module _ {n : ℕ} {W : List ℕ} {P : Place} (rooted : Rooted n W) (is_root : root_place W ≡ P) where
  pub root-low : P.low ≡ 0
  root-low = sym (ap (λ (p : Place). p.low) is_root) ∙ (root-range W).0

  pub root-high : P.high ≡ last_key
  root-high = sym (ap (λ (p : Place). p.high) is_root) ∙ (root-range W).1

  pub root-want : P.want ≡ 0
  root-want = sym (ap (λ (p : Place). p.want) is_root) ∙ (root-range W).2

  pub root_names : (1 ≤ P.child) × (P.child < n) × (P.previous < n)
  root_names =
      subst (λ (p : Place). (1 ≤ p.child) × (p.child < n) × (p.previous < n)) is_root
      (rooted.some_page, rooted.in_table, rooted.previous_in)

  pub over-sound : (read W P.child).view.kind < top_kind → Sound n 0 last_key (root_over (step_at W P))
  over-sound h =
      root_over-sound n (step_at W P) h root-low root_names.0 root_names.1 root_names.2

  pub root-fits : (c lower upper new : ℕ) → Found n W P → full (read W P.child).view ≡ true → (read W P.child).view.kind < top_kind
      → 1 ≤ lower → lower < n → 1 ≤ upper → upper < n
      → Fits n (raised_root c W P new)
      (touch c (twins c (step_at W P) lower upper (root_over (step_at W P))) (fresh c c 0 last_key (root_over (step_at W P))))
  unfolding fresh root_over new_child keys
  root-fits c lower upper new f full-P h a b a' b' =
      let s = parts n W P f full-P in
      let t = s.within in
      twins-fits c (step_at W P) lower upper
      (subst (λ (i : ℕ). mem i (P.low ∷ []) ≡ true) (sym (fits_true n P (read W P.child) f).low) (mem-head P.low []))
      (omega arith) (omega arith) (omega (arith, root-high)) a b a' b'
      (previous_of-below n c (step_at W P) root_names.2 root_names.1)
      (root_over-fits n c (step_at W P) (raised_root c W P new) refl refl refl refl (over-sound h))
