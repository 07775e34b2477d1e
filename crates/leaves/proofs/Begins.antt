-- Where a step begins: the pages that a cursor keeps for a key, the place that they lead to, and how many levels lie
-- below. Assumes nothing.
use Prim.Native.Nat.{ℕ, ◌≤◌, ◌<◌}
use native.Mathlib.Omega.{arith}
use mathlib.Core.Path.{◌≡◌, refl, sym, ap, ◌∙◌, subst}
use mathlib.Core.Bool.{Bool, true, false}
use mathlib.Core.List.{List, [], ◌∷◌}
use lib.ListN.{length}
use borrow.Author.Tests.{ne_eqb}
use Rattle.rules.specs.Layout.{last_key}
use Rattle.rules.specs.Test.{between}
use Rattle.rules.specs.Page.{Page}
use Rattle.rules.specs.Sound.{starts_at}
use Rattle.rules.specs.Table.{read}
use Rattle.rules.specs.Place.{root_place}
use Rattle.rules.specs.Enter as entry
use Rattle.rules.specs.Walk as rules
use Rattle.rules.specs.declared.Place.{Place}
use Rattle.rules.proofs.Entries.Tests.{between-low, between-high, between-of}
use Rattle.rules.proofs.Entries.Places.{fits_true}
use Rattle.rules.proofs.Entries.Asks.{kids-pick, kids-names}
use Rattle.head.proofs.Headers.{head_of}
use Rattle.way.specs.Ways.{Leads}
use Rattle.way.proofs.Stood.{Ready, ready-next}
use Rattle.climbs.specs.Ground.{Ground}
use Rattle.climbs.proofs.Ground.{root-ready}
use Rattle.leaves.specs.Kept.{KeptSteps, holding}
use Rattle.leaves.specs.Cursors.{cursor_of, holding_in, Lies, LeadsOn}
use Rattle.leaves.proofs.Resume.{enter-kept, range-above, leads-here}

-- ── Which pages are kept for a key ──────────────────────────────────────────────────────────────────────────────

-- the range of the first one holds the key
abbrev pub First : ℕ → List rules.Step → Type 0
First k [] = Unit {0}
First k (s ∷ above) = (s.place.low ≤ k) × (k ≤ s.place.high)

pub record Held (n k : ℕ) (t : List ℕ) (ss hs : List rules.Step) : Type 0 where
  pub kept : KeptSteps n t hs
  pub first : First k hs
  pub short : length hs ≤ length ss

pub held : (n k : ℕ) (t : List ℕ) (ss : List rules.Step) → KeptSteps n t ss → Held n k t ss (holding k ss)
unfolding holding
held n k t [] x = record { kept = tt; first = tt; short = omega arith }
held n k t (s ∷ above) x = go (between s.place.low s.place.high k) refl (held n k t above x.1)
  where
    go : (b : Bool) → between s.place.low s.place.high k ≡ b → Held n k t above (holding k above)
        → Held n k t (s ∷ above) (holding k (s ∷ above))
    go true f ih =
        rw (f, holding) record {
          kept = x;
          first = (between-low s.place.low s.place.high k f, between-high s.place.low s.place.high k f);
          short = omega arith;
        }
    go false f ih = rw (f, holding) record { kept = ih.kept; first = ih.first; short = omega (arith, ih.short) }

-- the root's place holds every key
root-holds : (n k : ℕ) (t : List ℕ) (s : rules.Step) → KeptSteps n t (s ∷ []) → k ≤ last_key
    → between s.place.low s.place.high k ≡ true
unfolding root_place
root-holds n k t s x h =
    ap (λ (e : Place). between e.low e.high k) x.0.asked ∙ between-of 0 last_key k (omega arith) h

-- ── What a cursor says of them ──────────────────────────────────────────────────────────────────────────────────

module _ {n c : ℕ} {t : List ℕ} (g : Ground n c t) where
  -- a page kept has a number, and lies in the table
  kept-number : (s : rules.Step) (above : List rules.Step) → KeptSteps n t (s ∷ above) → (1 ≤ s.place.child) × (s.place.child < n)
  kept-number s [] x =
      let r = root-ready g 0 (omega arith) in
      subst (λ (e : Place). (1 ≤ e.child) × (e.child < n)) (sym x.0.asked) (r.child_from, r.child_below)
  kept-number s (u ∷ above) x =
      let f = (fits_true n u.place u.page x.1.0.fit).sound in
      let m = kids-names u.place f s.place (kids-pick u.place f s.place.low s.place x.0.asked) in
      (m.child_from, m.child_below)

  pub named : (s : rules.Step) (above : List rules.Step) → KeptSteps n t (s ∷ above) → s.place.child ≡ 0 → ⊥
  named s above x z = omega (arith, (kept-number s above x).0, z)

  pub lies-kept : (ss : List rules.Step) → KeptSteps n t ss → Lies t (cursor_of ss)
  lies-kept [] x = λ z. absurd (z refl)
  lies-kept (s ∷ above) x = λ z. omega (arith, g.long, (kept-number s above x).1)

  -- its range, as it is read in the table
  range-read : (k : ℕ) (s : rules.Step) (above : List rules.Step) → KeptSteps n t (s ∷ above)
      → between (read t s.place.child).low (read t s.place.child).high k ≡ between s.place.low s.place.high k
  range-read k s above x =
      let f = fits_true n s.place s.page x.0.fit in
      ap (λ (p : Page). between p.low p.high k) x.0.here ∙ rw (f.low, f.high) refl

  -- at most two pages: the root is never passed over, so one test is enough
  pub held_cursor : (k : ℕ) (ss : List rules.Step) → KeptSteps n t ss → length ss ≤ 2 → k ≤ last_key
      → holding_in k t (cursor_of ss) ≡ cursor_of (holding k ss)
  unfolding holding_in holding
  held_cursor k [] x l h = refl
  held_cursor k (s ∷ []) x l h =
      let q = root-holds n k t s x h in
      rw (ne_eqb s.place.child 0 (named s [] x), holding_in, range-read k s [] x ∙ q, holding, q)
  held_cursor k (s ∷ (u ∷ [])) x l h = go (between s.place.low s.place.high k) refl
    where
      go : (b : Bool) → between s.place.low s.place.high k ≡ b
          → holding_in k t (cursor_of (s ∷ (u ∷ []))) ≡ cursor_of (holding k (s ∷ (u ∷ [])))
      go true q =
          rw (ne_eqb s.place.child 0 (named s (u ∷ []) x), holding_in, range-read k s (u ∷ []) x ∙ q, holding, q)
      go false q =
          rw (ne_eqb s.place.child 0 (named s (u ∷ []) x), holding_in, range-read k s (u ∷ []) x ∙ q, holding, q, root-holds n k t u x.1 h)
  held_cursor k (s ∷ (u ∷ (v ∷ ss))) x l h = absurd (omega arith)

-- ── The place that they lead to ─────────────────────────────────────────────────────────────────────────────────

module _ {n c k : ℕ} {t : List ℕ} (A : Ground n c t) (B : k ≤ last_key) where
  pub ready-kept : (s : rules.Step) (above : List rules.Step) → KeptSteps n t (s ∷ above) → s.place.low ≤ k → k ≤ s.place.high
      → Ready n c k t s.place
  ready-kept s [] x p q =
      subst (Ready n c k t) (sym x.0.asked) (root-ready A k B)
  ready-kept s (u ∷ above) x p q =
      let r = range-above x.0 x.1.0 p q in
      let e = enter-kept n c t u above x.1.0 in
      let z = ready-next (ready-kept u above x.1 r.0 r.1) (rules.numbers above) u.page
      (ap (λ (y : entry.Entered). y.page) e) s.place (leads-here x.0 x.1.0 p q) in
      subst (λ (y : entry.Entered). Ready n c k y.table s.place) e z

  leads-kept : (s : rules.Step) (above : List rules.Step) → KeptSteps n t (s ∷ above) → s.place.low ≤ k → k ≤ s.place.high
      → Leads k (head_of s.page) s.page.view
  unfolding head_of
  leads-kept s above x p q =
      let f = fits_true n s.place s.page x.0.fit in
      record {
        inner = x.0.inner;
        kind = refl;
        from = f.sound.kind_from;
        count = refl;
        room = f.sound.children_room;
        rise = f.sound.children_rise;
        starts = ap (λ (i : ℕ). starts_at i s.page.view.children) f.low ∙ f.sound.starts x.0.inner;
        low = omega (arith, f.low);
        high = omega (arith, f.high);
      }

  pub leads_on : (hs : List rules.Step) → KeptSteps n t hs → First k hs → LeadsOn k t (cursor_of hs)
  leads_on [] x f = λ z. absurd (z refl)
  leads_on (s ∷ above) x f = λ z.
      subst (λ (y : Page). Leads k (head_of y) y.view) (sym x.0.here) (leads-kept s above x f.0 f.1)
