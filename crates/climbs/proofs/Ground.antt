-- What a key's way leaves: page 0 and the pages above stay, and the table can be climbed again; its leaf's range holds
-- the key. Assumes nothing.
use Prim.Native.Nat.{ℕ, zero, suc, ◌*◌, ◌≤◌}
use native.Mathlib.Omega.{arith}
use mathlib.Core.Path.{◌≡◌, refl, sym, ap, ◌∙◌, subst}
use mathlib.Core.Logic.{◌⊎◌, inl, inr}
use mathlib.Core.Bool.{Bool, true, false}
use mathlib.Core.List.{List, [], ◌∷◌}
use mathlib.Core.Option.{Option, some, none}
use lib.ListN.{length}
use Rattle.fields.specs.Field.{Bytes}
use Rattle.rules.specs.Layout.{page_size, last_key, top_kind}
use Rattle.rules.specs.Test.{mem}
use Rattle.rules.specs.Page.{Page, is_leaf, page_in}
use Rattle.rules.specs.Table.{page_at, read}
use Rattle.rules.specs.Place.{root_place, kids, pick, mended}
use Rattle.rules.specs.Enter as entry
use Rattle.rules.specs.Walk.{Step, numbers, descend, way_of}
use Rattle.rules.specs.declared.Place.{Place}
use Rattle.rules.proofs.Bytes.All.{all_head}
use Rattle.rules.proofs.Bytes.Pages.{Wide}
use Rattle.rules.proofs.Bytes.Tables.{has-page, wide_read, page_at-build-other}
use Rattle.rules.proofs.Bytes.PageZero.{Same0, same0, root_place-same, fit0-same}
use Rattle.rules.proofs.Entries.Tests.{not_both, mem-head, mem_tail, mem_cases}
use Rattle.rules.proofs.Demand1.WalkSteps.{descend-damaged, descend-ends, descend-below}
use Rattle.enter.proofs.Mended.{room-mended}
use Rattle.enter.proofs.Stands.{Comes, stood, mends, stops, comes}
use Rattle.way.proofs.Stood.{Ready, ready-root, ready-long, ready-bytes, ready-next, Stood, WayStands, way-stands}
use Rattle.climbs.specs.Ground.{Ground}

-- ── What stays ──────────────────────────────────────────────────────────────────────────────────────────────────

-- page 0, and those with these numbers
pub record Stays (n : ℕ) (above t u : List ℕ) : Type 0 where
  pub long : length u ≡ n * page_size
  pub bytes : Bytes u
  pub same : (j : ℕ) → mem j (0 ∷ above) ≡ true → page_at u j ≡ page_at t j

pub stays-read : {n : ℕ} {above t u : List ℕ} → Stays n above t u → (j : ℕ) → mem j above ≡ true → read u j ≡ read t j
unfolding read
stays-read {above = above} s j m = ap page_in (s.same j (mem_tail j 0 above m))

stays_then : {n i : ℕ} {above t u v : List ℕ} → Stays n above t u → Stays n (i ∷ above) u v → Stays n above t v
stays_then {i = i} {above} p q = record {
  long = q.long;
  bytes = q.bytes;
  same = λ j m. q.same j (wider j (mem_cases j 0 above m)) ∙ p.same j m;
}
  where
    wider : (j : ℕ) → (j ≡ 0) ⊎ (mem j above ≡ true) → mem j (0 ∷ (i ∷ above)) ≡ true
    wider j (inl z) = ap (λ (k : ℕ). mem k (0 ∷ (i ∷ above))) z ∙ mem-head 0 (i ∷ above)
    wider j (inr m) = mem_tail j 0 (i ∷ above) (mem_tail j i above m)

-- ── One place entered ───────────────────────────────────────────────────────────────────────────────────────────

module _ {n c k : ℕ} {t : List ℕ} {e : Place} (r : Ready n c k t e) (above : List ℕ) where
  -- a child among those is none that is mended
  other : mem e.child above ≡ false → (j : ℕ) → (j ≡ 0) ⊎ (mem j above ≡ true) → j ≡ e.child → ⊥
  other a j (inl z) q = omega (arith, z, q, r.child_from)
  other a j (inr m) q = not_both (ap (λ (i : ℕ). mem i above) (sym q) ∙ m) a

  enter-same : (x : entry.Entered) → Comes n c above t e x → (j : ℕ) → mem j (0 ∷ above) ≡ true → page_at x.table j ≡ page_at t j
  enter-same x (stood f g) j m = ap (λ (y : entry.Entered). page_at y.table j) g
  enter-same x (mends a q g) j m =
      ap (λ (y : entry.Entered). page_at y.table j) g
      ∙ page_at-build-other t e.child (mended c e (read t e.previous)) (has-page t n e.child r.long r.child_below)
      (room-mended n c t e r.bytes r.narrow q) j (other a j (mem_cases j 0 above m))
  enter-same x (stops g) j m = ap (λ (y : entry.Entered). page_at y.table j) g

  pub enter-stays : Stays n above t (entry.enter n c above t e).table
  enter-stays = record {
    long = ready-long r above;
    bytes = ready-bytes r above;
    same = enter-same (entry.enter n c above t e) (comes n c above t e);
  }

-- ── A way ───────────────────────────────────────────────────────────────────────────────────────────────────────

pub descend-stays : (level n c k : ℕ) (above : List Step) (t : List ℕ) (e : Place) → Ready n c k t e
    → Stays n (numbers above) t (descend level n c k above t e).table
unfolding descend numbers
descend-stays zero n c k above t e r = record { long = r.long; bytes = r.bytes; same = λ j m. refl }
descend-stays (suc level) n c k above t e r =
    found (entry.enter n c (numbers above) t e).page refl
    (λ ss d. descend-stays level n c k ss (entry.enter n c (numbers above) t e).table d)
  where
    u : List ℕ
    u = (entry.enter n c (numbers above) t e).table

    Rest : Type 0
    Rest = (ss : List Step) (d : Place) → Ready n c k u d → Stays n (numbers ss) u (descend level n c k ss u d).table

    here : Stays n (numbers above) t u
    here = enter-stays r (numbers above)

    below : (p : Page) → (entry.enter n c (numbers above) t e).page ≡ some p → (o : Option Place) → pick k (kids e p.view) ≡ o → Rest
        → Stays n (numbers above) t (descend (suc level) n c k above t e).table
    below p f none q ih = rw (descend-ends level n c k above t e p f q) here
    below p f (some d) q ih =
        rw (descend-below level n c k above t e p f d q)
        (stays_then here (ih (record { place = e; page = p } ∷ above) d (ready-next r (numbers above) p f d q)))

    found : (o : Option Page) → (entry.enter n c (numbers above) t e).page ≡ o → Rest
        → Stays n (numbers above) t (descend (suc level) n c k above t e).table
    found none f ih = rw (descend-damaged level n c k above t e f) here
    found (some p) f ih = below p f (pick k (kids e p.view)) refl ih

first_leaf : List Step → Bool
first_leaf [] = true
first_leaf (s ∷ ss) = is_leaf s.page.view

-- ── From the root ───────────────────────────────────────────────────────────────────────────────────────────────

module _ {n c : ℕ} {t : List ℕ} (g : Ground n c t) (k : ℕ) (h : k ≤ last_key) where
  pub root-ready : Ready n c k t (root_place t)
  root-ready = ready-root n c k t g.long g.fit g.bytes g.counter h

  stays : Stays n [] t (way_of n c k t).table
  unfolding way_of numbers
  stays = descend-stays top_kind n c k [] t (root_place t) root-ready

  zero_same : Same0 (way_of n c k t).table t
  zero_same = same0 (way_of n c k t).table t (stays.same 0 (mem-head 0 []))

  pub way-root : root_place (way_of n c k t).table ≡ root_place t
  way-root = root_place-same zero_same

  pub way-ground : Ground n c (way_of n c k t).table
  way-ground = record {
    long = stays.long;
    bytes = stays.bytes;
    fit = fit0-same zero_same n ∙ g.fit;
    counter = g.counter;
  }

  pub no_way-empty : (way_of n c k t).steps ≡ some [] → ⊥
  no_way-empty q =
      let s = way-stands n c k t g.long g.fit g.bytes g.counter h [] q in
      absurd (omega (arith, ap length s.are))

  module _ (leaf : Step) (above : List Step) (q : (way_of n c k t).steps ≡ some (leaf ∷ above)) where
    stands : WayStands n k (way_of n c k t).table (leaf ∷ above)
    stands = way-stands n c k t g.long g.fit g.bytes g.counter h (leaf ∷ above) q

    pub leaf-stood : Stood n k (way_of n c k t).table leaf
    leaf-stood = all_head stands.all

    pub leaf-ends : is_leaf leaf.page.view ≡ true
    unfolding first_leaf
    leaf-ends = ap (λ (ss : List Step). first_leaf ss) stands.are ∙ stands.ends

    pub leaf-range : (leaf.place.low ≤ k) × (k ≤ leaf.place.high) × (leaf.place.high ≤ last_key)
    leaf-range =
        let s = leaf-stood in
        let w = subst Wide s.here (wide_read (way_of n c k t).table leaf.place.child stays.bytes) in
        (s.low, s.high, omega (arith, s.fits.high, w.high))
