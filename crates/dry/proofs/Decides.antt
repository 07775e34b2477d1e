-- The dry walk decides: it is whole exactly if the rules' walk is, and sees what that walk finds.
--
-- Walks go in key order. So a page mended on the way is of a higher kind than the page now asked for, or it ends before
-- the range now asked for (`Passed`); this one fact is carried through both walks, side by side.
use Prim.Native.Nat.{ℕ, zero, suc, ◌*◌, ◌-◌, ◌^◌, ◌≤◌, ◌<◌}
use native.Mathlib.Omega.{arith}
use mathlib.Core.Path.{◌≡◌, refl, sym, ap, ◌∙◌}
use mathlib.Core.Logic.{◌⊎◌, inl, inr, ◌≢◌}
use mathlib.Core.Bool.{Bool, true, false, ◌||◌}
use mathlib.Core.List.{List, [], ◌∷◌, ◌++◌}
use lib.Dec.{eqb, lit<}
use borrow.Author.Tests.{ne_eqb}
use lib.ListN.{length, take, length-replicate}
use Rattle.fields.specs.Field.{Bytes}
use Rattle.rules.specs.Layout.{page_size, top_kind, most_pages}
use Rattle.rules.specs.Test.{mem}
use Rattle.rules.specs.Entry.{Cert, Child, cut}
use Rattle.rules.specs.Page.{View, is_leaf}
use Rattle.rules.specs.Place.{root_place, high_before, place_of, places_in, kids}
use Rattle.rules.specs.Report.{nothing}
use Rattle.rules.specs.Walk.{Walked, unwalked, noted, enters, finds, stops, walk_each, walk, walk_of}
use Rattle.rules.specs.declared.Asked.{Asked}
use Rattle.rules.specs.declared.Place.{Place}
use Rattle.fields.proofs.Field.{le_at-bound}
use Rattle.rules.specs.Table.{root0, birth0}
use Rattle.rules.proofs.Entries.Tests.{not_both}
use Rattle.rules.proofs.Entries.Views.{inner-kind}
use Rattle.seen.proofs.Members.{none-at}
use Rattle.rules.proofs.Entries.Reasons.{adds-fits}
use Rattle.dry.specs.Walk.{marked, Sighted, meets, asks, takes, breaks, dry_each, dry, untouched, dry_over}
use Rattle.dry.proofs.Chains.{Chain, link, chain_sound}
use Rattle.dry.proofs.Passed.{Asks, Kept, Passed, passed_on}
use Rattle.dry.proofs.Sights.{Shows, Met, neither, both, met}

-- ── Two walks side by side ──────────────────────────────────────────────────────────────────────────────────────

pub record Twin (n : ℕ) (t : List ℕ) (w : Walked) (d : Sighted) : Type 0 where
  pub kept : Kept n t w.table d.mended
  pub whole : w.whole ≡ d.whole
  pub found : w.found ≡ d.found
  -- with no mark there is nothing to report
  pub quiet : ((i : ℕ) → marked d.mended i ≡ false) → w.report ≡ nothing

-- and after another place, whose range ends at high
pub record After (n : ℕ) (t : List ℕ) (w : Walked) (d : Sighted) (high : ℕ) (w' : Walked) (d' : Sighted) : Type 0 where
  pub twin : Twin n t w' d'
  pub later : (k l : ℕ) → high < l → Passed w.table d.mended k l → Passed w'.table d'.mended k l

-- what two walks do at each place that asks for a kind up to top
abbrev Steps : ℕ → List ℕ → ℕ → (Place → Walked → Walked) → (Place → Sighted → Sighted) → Type 0
Steps n t top f g =
    (e : Place) (w : Walked) (d : Sighted) → Asks n top e → Twin n t w d → Passed w.table d.mended top e.low
    → After n t w d e.high (f e w) (g e d)

enters-meets : (n : ℕ) (t : List ℕ) (a : Asked) (e : Place) (w : Walked) (d : Sighted) → Twin n t w d → enters a e w ≡ meets a e d
unfolding enters meets
enters-meets n t a e w d x = rw (x.whole, x.found)

-- ── The pages above ─────────────────────────────────────────────────────────────────────────────────────────────

-- two numbers do for the pages above, as a leaf is the third page of a way at most; 0 stands for none
pub record Near (level : ℕ) (above : List ℕ) (parent up : ℕ) : Type 0 where
  pub bound : level ≤ top_kind
  pub same : 1 ≤ level → (i : ℕ) → 1 ≤ i → mem i above ≡ mem i (parent ∷ up ∷ [])
  pub second : 2 ≤ level → up ≡ 0
  pub third : 3 ≤ level → parent ≡ 0

pub near_root : Near top_kind [] 0 0
unfolding mem
near_root = record {
  bound = omega arith;
  same = λ o i h. sym (rw (ne_eqb i 0 (λ q. omega (arith, q))));
  second = λ o. refl;
  third = λ o. refl;
}

pub near_below : {level : ℕ} {above : List ℕ} {parent up : ℕ} → Near (suc level) above parent up → (c : ℕ)
    → Near level (c ∷ above) c parent
unfolding mem
near_below {level} {above} {parent} {up} r c = record {
  bound = let b = r.bound in omega arith;
  same = λ o i h. ap (λ (b : Bool). eqb i c || b) (r.same (omega arith) i h ∙ shorter i h (r.second (omega arith)));
  second = λ o. r.third (omega arith);
  third = λ o. absurd (omega (arith, r.bound));
}
  where
    shorter : (i : ℕ) → 1 ≤ i → up ≡ 0 → mem i (parent ∷ up ∷ []) ≡ mem i (parent ∷ [])
    shorter i h z = rw (ne_eqb i up (λ q. omega (arith, q, z)))

-- ── The entries of a page ───────────────────────────────────────────────────────────────────────────────────────

asks-child : {n want : ℕ} (x : Child) (h : ℕ) → 1 ≤ want → x.key ≤ h → h < 256 ^ 8 → 1 ≤ x.value.child
    → x.value.child < n → x.value.birth < 256 ^ 4 → Asks n want (place_of want h x)
unfolding place_of
asks-child {want = want} x h o r b u i y = record { range = r; from = u; child = i; birth = y; high = b; kind = λ k l z. go k z }
  where
    go : (k : ℕ) → (want ≡ 0) ⊎ (want ≡ k) → k ≤ want
    go k (inl z) = absurd (omega (arith, z))
    go k (inr z) = omega (arith, z)

module _ (n : ℕ) (t : List ℕ) (want high : ℕ) (o : 1 ≤ want) (b : high < 256 ^ 8) (f : Place → Walked → Walked) (g : Place → Sighted → Sighted)
    (step : Steps n t want f g) where
  twin_each : (low : ℕ) (xs : List Child) → Chain n high low xs → (w : Walked) (d : Sighted) → Twin n t w d
      → Passed w.table d.mended want low
      → After n t w d high (walk_each f (places_in want high xs) w) (dry_each g (places_in want high xs) d)
  unfolding walk_each dry_each places_in place_of
  twin_each low [] ch w d x p = record { twin = x; later = λ k l h old. old }
  twin_each low (y ∷ ys) (link from range within names wide rest) w d x p =
      let one = step (place_of want (high_before high ys) y) w d
      (asks-child y (high_before high ys) o range (omega arith) names.child_from names.child_below wide.birth) x (passed_on (omega arith) from p) in
      let all = twin_each (suc (high_before high ys)) ys rest (f (place_of want (high_before high ys) y) w)
      (g (place_of want (high_before high ys) y) d) one.twin
      (one.later want (suc (high_before high ys)) (omega arith) (passed_on (omega arith) (omega arith) p)) in
      record { twin = all.twin; later = λ k l h old. all.later k l h (one.later k l (omega arith) old) }

-- ── One page ────────────────────────────────────────────────────────────────────────────────────────────────────

module _ (n c : ℕ) (a : Asked) (t : List ℕ) (hn : n ≤ most_pages) (hc : c < 256 ^ 4) where
  -- both stop
  twin-stops : (w : Walked) (d : Sighted) (high : ℕ) → Twin n t w d → After n t w d high (stops w w.table) (breaks d)
  unfolding stops breaks
  twin-stops w d high x = record {
    twin = record { kept = x.kept; whole = refl; found = x.found; quiet = x.quiet };
    later = λ k l h old. old;
  }

  -- both take what the page shows
  twin-finds : (w : Walked) (d : Sighted) (e : Place) (v : View) (u' : List ℕ) (m' : List Bool) → Twin n t w d
      → Shows n t w.table d.mended e u' m' v → After n t w d e.high (finds a v (noted n e w) u') (takes a v d m')
  unfolding finds takes asks
  twin-finds w d e v u' m' x s = record {
    twin = record {
      kept = s.kept;
      whole = refl;
      found = ap (λ (xs : List Cert). xs ++ take (a.room - length xs) (cut a.low a.high v.certs)) x.found;
      quiet = λ none. let z = s.calm none in adds-fits n w.table e w.report z.0 ∙ x.quiet z.1;
    };
    later = s.later;
  }

  -- and go on to its kids
  module _ (level : ℕ) (above : List ℕ) (parent up : ℕ) (e : Place) (high : e.high < 256 ^ 8)
      (step : (top : ℕ) → Steps n t top (walk level n c a (e.child ∷ above)) (dry level n a e.child parent t)) where
    twin-kids : (w : Walked) (d : Sighted) (v : View) (u' : List ℕ) (m' : List Bool) → Twin n t w d
        → Shows n t w.table d.mended e u' m' v
        → After n t w d e.high (walk_each (walk level n c a (e.child ∷ above)) (kids e v) (finds a v (noted n e w) u'))
        (dry_each (dry level n a e.child parent t) (kids e v) (takes a v d m'))
    unfolding kids walk_each dry_each finds takes asks places_in
    twin-kids w d v u' m' x s = go (is_leaf v) refl
      where
        first : After n t w d e.high (finds a v (noted n e w) u') (takes a v d m')
        first = twin-finds w d e v u' m' x s

        go : (b : Bool) → is_leaf v ≡ b
            → After n t w d e.high (walk_each (walk level n c a (e.child ∷ above)) (kids e v) (finds a v (noted n e w) u'))
            (dry_each (dry level n a e.child parent t) (kids e v) (takes a v d m'))
        go true q = rw (s.wide.shaped.leaf q) first
        go false q =
            let all = twin_each n t (v.kind - 1) e.high (one q) high (walk level n c a (e.child ∷ above))
            (dry level n a e.child parent t) (step (v.kind - 1)) e.low v.children (chain_sound s.sound s.wide)
            (finds a v (noted n e w) u') (takes a v d m') first.twin s.below in
            record { twin = all.twin; later = λ k l h old. all.later k l h (first.later k l h old) }
          where
            one : is_leaf v ≡ false → 1 ≤ v.kind - 1
            one r = let y : v.kind ≢ 1 = inner-kind v r in omega (arith, s.sound.kind_from)

    twin-page : (top : ℕ) → mem e.child above ≡ mem e.child (parent ∷ up ∷ []) → (w : Walked) (d : Sighted) → Asks n top e → Twin n t w d → Passed w.table d.mended top e.low
        → After n t w d e.high (walk (suc level) n c a above e w) (dry (suc level) n a parent up t e d)
    unfolding walk dry
    twin-page top o w d y x p = go (enters a e w) refl (met n c top t w.table d.mended e hn hc y p x.kept above (parent ∷ up ∷ []) o)
      where
        go : (b : Bool) → enters a e w ≡ b → Met n c above (parent ∷ up ∷ []) t w.table d.mended e
            → After n t w d e.high (walk (suc level) n c a above e w) (dry (suc level) n a parent up t e d)
        go false q z = rw (walk, q, dry, sym (enters-meets n t a e w d x) ∙ q) record { twin = x; later = λ k l h old. old }
        go true q (neither r s) =
            rw (walk, q, r, r, dry, sym (enters-meets n t a e w d x) ∙ q, s) (twin-stops w d e.high x)
        go true q (both u' m' v r s z) =
            rw (walk, q, r, r, dry, sym (enters-meets n t a e w d x) ∙ q, s) (twin-kids w d v.view u' m' x z)

  -- ── The walk ────────────────────────────────────────────────────────────────────────────────────────────────────

  pub twin-walk : (level : ℕ) (above : List ℕ) (parent up : ℕ) → Near level above parent up → (top : ℕ)
      → Steps n t top (walk level n c a above) (dry level n a parent up t)
  unfolding walk dry
  twin-walk zero above parent up r top e w d y x p = twin-stops w d e.high x
  twin-walk (suc level) above parent up r top e w d y x p =
      twin-page level above parent up e y.high
      (λ k. twin-walk level (e.child ∷ above) e.child parent (near_below r e.child) k) top
      (r.same (omega arith) e.child y.from) w d y x p

-- ── From the root ───────────────────────────────────────────────────────────────────────────────────────────────

module _ (n c : ℕ) (a : Asked) (t : List ℕ) (hn : n ≤ most_pages) (hc : c < 256 ^ 4) (size : length t ≡ n * page_size) (bytes : Bytes t)
    (from : 1 ≤ root0 t) (root : root0 t < n) where
  asks-root : Asks n top_kind (root_place t)
  unfolding root_place birth0
  asks-root = record {
    range = omega arith;
    from = from;
    child = root;
    birth = le_at-bound t 12 4 bytes;
    high = lit< tt;
    kind = λ k h z. h;
  }

  none_marked_lem : (i : ℕ) → marked untouched.mended i ≡ false
  unfolding marked untouched
  none_marked_lem i = none-at most_pages i

  start : Twin n t (unwalked t) untouched
  unfolding untouched
  start = record {
    kept = record { size = size; bytes = bytes; marks = length-replicate most_pages false; same = λ i h. refl; still = λ none. refl };
    whole = refl;
    found = refl;
    quiet = λ none. refl;
  }

  pub dry_decides : Twin n t (walk_of n c a t) (dry_over n a t)
  unfolding walk_of dry_over
  dry_decides =
      (twin-walk n c a t hn hc top_kind [] 0 0 near_root top_kind (root_place t) (unwalked t) untouched
      asks-root start (record { at = λ i h. absurd (not_both h (none_marked_lem i)) })).twin
