-- A safe store, its number of pages and its counter named apart: a call changes the session more than once, and these stay.
use Rattle.std.proofs.Common.{◌≡◌, ℕ, ◌+◌, ◌^◌, ◌<◌, ◌≤◌, Bool, true, false, List, length, sym, refl, ap, ◌∙◌, subst, arith, eqb-true}
use Rattle.rules.specs.Layout.{fewest_pages, most_pages, last_number, inner_room, top_kind}
use Rattle.rules.specs.Table.{number0}
use Rattle.rules.specs.Page.{View, is_leaf, count}
use Rattle.rules.specs.Walk.{Step}
use Rattle.rules.specs.Marks.{totalling}
use Rattle.rules.specs.Insert.{previous_of, new_child, put_child, twins, root_over}
use Rattle.rules.specs.declared.Session.{Session}
use Rattle.rules.proofs.Bytes.All.{nil, cons}
use Rattle.rules.proofs.Bytes.Pages.{WideView, Wide}
use Rattle.rules.proofs.Entries.Puts.{length-put-le}
use Rattle.rules.proofs.Bytes.Widths.{wide-put_child, wide-new_child, divide-bound}
use Rattle.rules.proofs.Bytes.Marked.{Sized}
use Rattle.rules.proofs.Demand3.Ways.Invariant.{States, Inv, Marks}
use Rattle.rules.proofs.Demand3.Epochs.Store.{free_mark, waiting_mark, Paged, Whole, Safe}
use Rattle.rules.proofs.Demand3.Steps.Sides.{Unused}

pub record Keeps (n c : ℕ) (s : Session) (W S : List ℕ) (Been : States) : Type 0 where
  pub pages : s.n ≡ n
  pub counter : s.c ≡ c
  pub sized : Sized s
  pub few : fewest_pages ≤ n
  pub most : n ≤ most_pages
  pub small : c ≤ last_number + 1
  pub working : Whole n W
  pub stable : Whole n S
  pub number_working : number0 W ≡ c + 1
  pub number_stable : number0 S ≡ c + 1
  pub inv : Inv n S W c Been
  pub paged : Paged n (free_mark s) (waiting_mark s)
  pub marks : Marks n S W (free_mark s) (waiting_mark s)

pub keeps-of : {s : Session} {W S : List ℕ} {Been : States} → Safe s W S Been → Keeps s.n s.c s W S Been
keeps-of x = record {
  pages = refl;
  counter = refl;
  sized = x.sized;
  few = x.few;
  most = x.most;
  small = x.small;
  working = x.working;
  stable = x.stable;
  number_working = x.number_working;
  number_stable = x.number_stable;
  inv = x.inv;
  paged = x.paged;
  marks = x.marks;
}

pub safe-of : {n c : ℕ} {s : Session} {W S : List ℕ} {Been : States} → Keeps n c s W S Been → Safe s W S Been
safe-of {n} {c} {s} {W} {S} {Been} x = record {
  sized = x.sized;
  few = subst (λ (m : ℕ). fewest_pages ≤ m) (sym x.pages) x.few;
  most = subst (λ (m : ℕ). m ≤ most_pages) (sym x.pages) x.most;
  small = subst (λ (m : ℕ). m ≤ last_number + 1) (sym x.counter) x.small;
  working = subst (λ (m : ℕ). Whole m W) (sym x.pages) x.working;
  stable = subst (λ (m : ℕ). Whole m S) (sym x.pages) x.stable;
  number_working = x.number_working ∙ ap (λ (m : ℕ). m + 1) (sym x.counter);
  number_stable = x.number_stable ∙ ap (λ (m : ℕ). m + 1) (sym x.counter);
  inv = subst (λ (m : ℕ). Inv m S W s.c Been) (sym x.pages)
      (subst (λ (m : ℕ). Inv n S W m Been) (sym x.counter) x.inv);
  paged = subst (λ (m : ℕ). Paged m (free_mark s) (waiting_mark s)) (sym x.pages) x.paged;
  marks = subst (λ (m : ℕ). Marks m S W (free_mark s) (waiting_mark s)) (sym x.pages) x.marks;
}

-- how many certificates are counted has no say
pub keeps-totalling : {n c : ℕ} {s : Session} {W S : List ℕ} {Been : States} (total : ℕ) → Keeps n c s W S Been
    → Keeps n c (totalling total s) W S Been
keeps-totalling total x = record {
  pages = x.pages;
  counter = x.counter;
  sized = record { free = x.sized.free; waiting = x.sized.waiting };
  few = x.few;
  most = x.most;
  small = x.small;
  working = x.working;
  stable = x.stable;
  number_working = x.number_working;
  number_stable = x.number_stable;
  inv = x.inv;
  paged = x.paged;
  marks = x.marks;
}

-- a free page is used by nothing
pub free-unused : {n : ℕ} {S W : List ℕ} {free waiting : ℕ → Bool} {i : ℕ} → Marks n S W free waiting → free i ≡ true → Unused n S W i
free-unused m h = record { no_old = m.free_old h; no_new = m.free_new h; no_spared = m.free_spared h }

-- ── Numbers that fit their fields ───────────────────────────────────────────────────────────────────────────────

-- an inner page whose entry for a split page became two
pub wide_twins : {c : ℕ} {v : View} (st : Step) (lower upper : ℕ) → c < 256 ^ 4 → Wide st.page → lower < 256 ^ 2 → upper < 256 ^ 2
    → previous_of c st < 256 ^ 2 → WideView v → is_leaf v ≡ false → length v.children < inner_room
    → WideView (twins c st lower upper v)
unfolding twins put_child is_leaf
wide_twins {c} {v} st lower upper h p a b o w i r =
    let x = new_child c st.page.low lower (previous_of c st) in
    wide-put_child (wide-put_child w (wide-new_child h p.low a o) i (omega arith))
    (wide-new_child h (divide-bound p.view) b o) i (omega (arith, length-put-le x v.children))

-- a new root over the old one alone
pub wide-root_over : (st : Step) → st.page.view.kind < top_kind → 1 ≤ st.page.view.kind → st.place.birth < 256 ^ 4
    → st.place.low < 256 ^ 8 → st.place.child < 256 ^ 2 → st.place.previous < 256 ^ 2 → WideView (root_over st)
unfolding root_over is_leaf count
wide-root_over st k t b l a o = record {
  shaped = record {
    leaf = λ e. absurd (omega (arith, eqb-true (st.page.view.kind + 1) 1 e));
    inner = λ e. refl;
  };
  kind = omega arith;
  count = omega arith;
  certs = nil;
  children = cons (wide-new_child b l a o) nil;
}
