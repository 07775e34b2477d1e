-- The pages of a way stand in the table that the way leaves: each is read there as it was entered, fits its place and
-- holds the key in its range, and the first is a leaf. Assumes nothing.
use mathlib.Core.Path.{◌≡◌, refl, sym, ◌∙◌, subst}
use mathlib.Core.Bool.{Bool, true, false}
use mathlib.Core.List.{List, [], ◌∷◌}
use mathlib.Core.Option.{Option, some, none, some-injective, none-ne-some}
use Prim.Native.Nat.{ℕ, zero, suc, ◌-◌, ◌*◌, ◌^◌, ◌≤◌, ◌<◌}
use native.Mathlib.Omega.{arith}
use lib.ListN.{length}
use Rattle.fields.specs.Field.{Bytes}
use Rattle.fields.proofs.Field.{le_at-bound}
use Rattle.rules.specs.Layout.{page_size, last_key}
use Rattle.rules.specs.Test.{mem}
use Rattle.rules.specs.Page.{Page, is_leaf}
use Rattle.rules.specs.Table.{read, root0, birth0, fit0}
use Rattle.rules.specs.Place.{root_place, kids, pick}
use Rattle.rules.specs.Enter as entry
use Rattle.rules.specs.Walk.{Step, numbers, descend, way_of}
use Rattle.rules.specs.declared.Place.{Place}
use Rattle.rules.proofs.Bytes.All.{All, nil, cons}
use Rattle.rules.proofs.Bytes.Pages.{Wide}
use Rattle.rules.proofs.Bytes.Tables.{wide_read}
use Rattle.rules.proofs.Entries.Tests.{every_true, between-low, between-high, mem-head, mem_tail}
use Rattle.rules.proofs.Entries.Places.{Fits}
use Rattle.rules.proofs.Entries.Picks.{below_of, pick-holds}
use Rattle.rules.proofs.Entries.Asks.{kids-pick, kids-names, kids-total}
use Rattle.enter.proofs.Finds.{wide-find}
use Rattle.enter.proofs.Mended.{Narrow}
use Rattle.enter.proofs.Stands.{comes, stands, stays, stays-long, stays-bytes, found-fits}

-- ── A place ready to be entered ─────────────────────────────────────────────────────────────────────────────────

pub record Ready (n c k : ℕ) (t : List ℕ) (e : Place) : Type 0 where
  pub long : length t ≡ n * page_size
  pub bytes : Bytes t
  pub narrow : Narrow c e
  pub child_from : 1 ≤ e.child
  pub child_below : e.child < n
  pub low : e.low ≤ k
  pub high : k ≤ e.high

-- the root, where page 0 is fit
pub ready-root : (n c k : ℕ) (t : List ℕ) → length t ≡ n * page_size → fit0 n t ≡ true → Bytes t → c < 256 ^ 4 → k ≤ last_key
    → Ready n c k t (root_place t)
unfolding fit0 root_place birth0
ready-root n c k t l f b m h =
    let r = (every_true _ f).1.1.0 in
    let from = between-low 1 (n - 1) (root0 t) r in
    let to = between-high 1 (n - 1) (root0 t) r in
    record {
      long = l;
      bytes = b;
      narrow = record { counter = m; birth = le_at-bound t 12 4 b; low = omega arith; high = omega arith };
      child_from = from;
      child_below = omega arith;
      low = omega arith;
      high = h;
    }

-- ── A page entered ──────────────────────────────────────────────────────────────────────────────────────────────

pub record Stood (n k : ℕ) (u : List ℕ) (s : Step) : Type 0 where
  pub here : read u s.place.child ≡ s.page
  pub fits : Fits n s.place s.page
  pub child_from : 1 ≤ s.place.child
  pub child_below : s.place.child < n
  pub low : s.place.low ≤ k
  pub high : k ≤ s.place.high

module _ {n c k : ℕ} {t : List ℕ} {e : Place} (r : Ready n c k t e) (above : List ℕ) where
  pub ready-long : length (entry.enter n c above t e).table ≡ n * page_size
  ready-long = stays-long r.bytes r.narrow r.long r.child_below (entry.enter n c above t e) (comes n c above t e)

  pub ready-bytes : Bytes (entry.enter n c above t e).table
  ready-bytes = stays-bytes r.bytes (entry.enter n c above t e) (comes n c above t e)

  pub ready-stays : (j : ℕ) → mem j above ≡ true → read (entry.enter n c above t e).table j ≡ read t j
  ready-stays = stays r.bytes r.narrow r.long r.child_below (entry.enter n c above t e) (comes n c above t e)

  module _ (p : Page) (h : (entry.enter n c above t e).page ≡ some p) where
    pub stood-here : Stood n k (entry.enter n c above t e).table (record { place = e; page = p })
    stood-here = record {
      here = stands r.bytes r.narrow r.long r.child_below (entry.enter n c above t e) (comes n c above t e) p h;
      fits = found-fits (omega (arith, r.low, r.high)) (entry.enter n c above t e) (comes n c above t e) p h;
      child_from = r.child_from;
      child_below = r.child_below;
      low = r.low;
      high = r.high;
    }

    -- the place that the key leads to
    pub ready-next : (b : Place) → pick k (kids e p.view) ≡ some b → Ready n c k (entry.enter n c above t e).table b
    ready-next b q =
        let s = stood-here.fits.sound in
        let x = kids-pick e s k b q in
        let i = kids-names e s b x in
        let z = pick-holds k (kids e p.view) b q in
        let w = subst Wide stood-here.here (wide_read (entry.enter n c above t e).table e.child ready-bytes) in
        record {
          long = ready-long;
          bytes = ready-bytes;
          narrow = record {
            counter = r.narrow.counter;
            birth = (wide-find b.low (below_of b) w.view.children x.entry).birth;
            low = omega (arith, r.narrow.high, x.within, x.range);
            high = omega (arith, r.narrow.high, x.within);
          };
          child_from = i.child_from;
          child_below = i.child_below;
          low = z.0;
          high = z.1;
        }

    -- where no place is asked for, a leaf stands
    pub leaf-here : pick k (kids e p.view) ≡ none → is_leaf p.view ≡ true
    leaf-here q = go (is_leaf p.view) refl
      where
        go : (l : Bool) → is_leaf p.view ≡ l → is_leaf p.view ≡ true
        go true f = f
        go false f =
            let m = kids-total e stood-here.fits.sound k f r.low r.high in
            absurd (none-ne-some m.0 (sym q ∙ m.1))

-- ── The whole way ───────────────────────────────────────────────────────────────────────────────────────────────

pub record WayStands (n k : ℕ) (u : List ℕ) (steps : List Step) : Type 0 where
  pub leaf : Step
  pub rest : List Step
  pub are : steps ≡ leaf ∷ rest
  pub ends : is_leaf leaf.page.view ≡ true
  pub all : All (Stood n k u) steps

still : (n k : ℕ) (t u : List ℕ) (ss : List Step) → ((j : ℕ) → mem j (numbers ss) ≡ true → read u j ≡ read t j)
    → All (Stood n k t) ss → All (Stood n k u) ss
unfolding numbers
still n k t u [] f nil = nil
still n k t u (s ∷ ss) f (cons h m) =
    cons record {
      here = f s.place.child (mem-head s.place.child (numbers ss)) ∙ h.here;
      fits = h.fits;
      child_from = h.child_from;
      child_below = h.child_below;
      low = h.low;
      high = h.high;
    }
    (still n k t u ss (λ j i. f j (mem_tail j s.place.child (numbers ss) i)) m)

pub descend-stands : (level n c k : ℕ) (above : List Step) (t : List ℕ) (e : Place) → Ready n c k t e → All (Stood n k t) above
    → (steps : List Step) → (descend level n c k above t e).steps ≡ some steps
    → WayStands n k (descend level n c k above t e).table steps
unfolding descend
descend-stands zero n c k above t e r a steps h = absurd (none-ne-some steps h)
descend-stands (suc level) n c k above t e r a steps h =
    found (entry.enter n c (numbers above) t e).page refl (λ ss b. descend-stands level n c k ss (entry.enter n c (numbers above) t e).table b)
  where
    u : List ℕ
    u = (entry.enter n c (numbers above) t e).table

    kept : All (Stood n k u) above
    kept = still n k t u above (ready-stays r (numbers above)) a

    below : (p : Page) → (entry.enter n c (numbers above) t e).page ≡ some p → (o : Option Place) → pick k (kids e p.view) ≡ o
        → ((ss : List Step) (b : Place) → Ready n c k u b → All (Stood n k u) ss → (zs : List Step)
        → (descend level n c k ss u b).steps ≡ some zs → WayStands n k (descend level n c k ss u b).table zs)
        → WayStands n k (descend (suc level) n c k above t e).table steps
    below p f none q ih =
        let g = rw (descend, f, q) at h in
        rw (descend, f, q) record {
          leaf = record { place = e; page = p };
          rest = above;
          are = sym (some-injective (record { place = e; page = p } ∷ above) steps g);
          ends = leaf-here r (numbers above) p f q;
          all = subst (All (Stood n k u)) (some-injective (record { place = e; page = p } ∷ above) steps g)
              (cons (stood-here r (numbers above) p f) kept);
        }
    below p f (some b) q ih =
        let g = rw (descend, f, q) at h in
        rw (descend, f, q)
        (ih (record { place = e; page = p } ∷ above) b (ready-next r (numbers above) p f b q) (cons (stood-here r (numbers above) p f) kept) steps g)

    found : (o : Option Page) → (entry.enter n c (numbers above) t e).page ≡ o
        → ((ss : List Step) (b : Place) → Ready n c k u b → All (Stood n k u) ss → (zs : List Step)
        → (descend level n c k ss u b).steps ≡ some zs → WayStands n k (descend level n c k ss u b).table zs)
        → WayStands n k (descend (suc level) n c k above t e).table steps
    found none f ih = absurd (none-ne-some steps (rw (descend, f) at h))
    found (some p) f ih = below p f (pick k (kids e p.view)) refl ih

pub way-stands : (n c k : ℕ) (t : List ℕ) → length t ≡ n * page_size → fit0 n t ≡ true → Bytes t → c < 256 ^ 4 → k ≤ last_key
    → (steps : List Step) → (way_of n c k t).steps ≡ some steps → WayStands n k (way_of n c k t).table steps
unfolding way_of
way-stands n c k t l f b m h steps q = descend-stands 3 n c k [] t (root_place t) (ready-root n c k t l f b m h) nil steps q
