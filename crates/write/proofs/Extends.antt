-- A walk adds to what was found, and not much: a page names 30 children at the most and a tree has three levels, so a walk
-- enters at most 931 places and finds at most 37,240 certificates, whatever the bytes. Assumes nothing.
use Prim.Native.Nat.{ℕ, zero, suc, ◌+◌, ◌-◌, ◌*◌, ◌≤◌}
use native.Mathlib.Omega.{arith}
use native.Mathlib.Nat.{suc-mul, mul-le-mul_right}
use mathlib.Core.Path.{◌≡◌, refl, sym, ap, ◌∙◌}
use mathlib.Core.Bool.{Bool, true, false}
use mathlib.Core.List.{List, [], ◌∷◌, ◌++◌, append-nil, append_assoc}
use mathlib.Core.Option.{Option, some, none, some-injective, none-ne-some}
use lib.ListN.{length, length-append, length-take, take}
use Rattle.rules.specs.Layout.{top_kind}
use Rattle.rules.specs.Test.{mem}
use Rattle.rules.specs.Entry.{Cert, Child, cut}
use Rattle.rules.specs.Page.{Page, View, fresh}
use Rattle.rules.specs.Table.{read}
use Rattle.rules.specs.Place.{root_place, places_in, kids, fits, mendable, mended, cut_view}
use Rattle.rules.specs.Enter.{mend, enter}
use Rattle.rules.specs.Walk.{Walked, unwalked, noted, enters, finds, stops, walk_each, walk, walk_of}
use Rattle.rules.specs.declared.Place.{Place}
use Rattle.rules.specs.declared.Asked.{Asked}
use Rattle.rules.proofs.Entries.Entries.{length_cut}
use Rattle.rules.proofs.Entries.Places.{fits_true, mendable_true}
use Rattle.climbs.specs.Rest.{rest}

-- ── What is added ───────────────────────────────────────────────────────────────────────────────────────────────

-- so many more at the most
pub record Extends (most : ℕ) (xs zs : List Cert) : Type 0 where
  pub more : List Cert
  pub is : zs ≡ xs ++ more
  pub few : length more ≤ most

none_more : (most : ℕ) (xs : List Cert) → Extends most xs xs
none_more most xs = record { more = []; is = sym (append-nil xs); few = omega arith }

and_more : {a b : ℕ} {xs ys zs : List Cert} → Extends a xs ys → Extends b ys zs → Extends (a + b) xs zs
and_more {xs = xs} f g = record {
  more = f.more ++ g.more;
  is = g.is ∙ (ap (λ (l : List Cert). l ++ g.more) f.is ∙ append_assoc xs f.more g.more);
  few = omega (arith, length-append f.more g.more, f.few, g.few);
}

up_to : {a b : ℕ} {xs zs : List Cert} → a ≤ b → Extends a xs zs → Extends b xs zs
up_to l f = record { more = f.more; is = f.is; few = omega (arith, f.few) }

-- ── A page entered ──────────────────────────────────────────────────────────────────────────────────────────────

places-length : (want high : ℕ) (xs : List Child) → length (places_in want high xs) ≡ length xs
unfolding places_in
places-length want high [] = refl
places-length want high (x ∷ xs) = ap suc (places-length want high xs)

pub record Small (e : Place) (v : View) : Type 0 where
  pub kids_few : length (kids e v) ≤ 30
  pub certs_few : length v.certs ≤ 40

pub entered-small : (n c : ℕ) (above t : List ℕ) (e : Place) (p : Page) → (enter n c above t e).page ≡ some p → Small e p.view
unfolding enter mend kids mended fresh cut_view
entered-small n c above t e p h =
    go (mem e.child above) refl (fits n e (read t e.child)) refl (mendable n e (read t e.previous)) refl
  where
    small : {q : Page} → q ≡ p → length q.view.children ≤ 30 → length q.view.certs ≤ 40 → Small e p.view
    small {q} i l m = record {
      kids_few = omega (arith, places-length (p.view.kind - 1) e.high p.view.children, ap (λ (x : Page). length x.view.children) i);
      certs_few = omega (arith, ap (λ (x : Page). length x.view.certs) i);
    }

    go : (a : Bool) → mem e.child above ≡ a → (b : Bool) → fits n e (read t e.child) ≡ b
        → (d : Bool) → mendable n e (read t e.previous) ≡ d → Small e p.view
    go true m b f d g = absurd (none-ne-some p (rw (m, enter) at h))
    go false m true f d g =
        let s = (fits_true n e (read t e.child) f).sound in
        small (some-injective (read t e.child) p (rw (m, enter, f) at h)) s.children_room s.certs_room
    go false m false f true g =
        let q = read t e.previous in
        let s = (mendable_true n e q g).sound in
        small (some-injective (mended c e q) p (rw (m, enter, f, mend, g) at h))
        (omega (arith, length_cut e.low e.high q.view.children, s.children_room))
        (omega (arith, length_cut e.low e.high q.view.certs, s.certs_room))
    go false m false f false g = absurd (none-ne-some p (rw (m, enter, f, mend, g) at h))

-- ── A walk ──────────────────────────────────────────────────────────────────────────────────────────────────────

-- how many certificates there are from a place down, at the most
unfoldable pub under : ℕ → ℕ
under zero = 0
under (suc level) = 40 + 30 * under level

pub finds-more : (a : Asked) (v : View) (w : Walked) (t : List ℕ) → length v.certs ≤ 40 → Extends 40 w.found (finds a v w t).found
unfolding finds
finds-more a v w t l = record {
  more = take (a.room - length w.found) (cut a.low a.high v.certs);
  is = refl;
  few = omega (arith, length-take (a.room - length w.found) (cut a.low a.high v.certs), length_cut a.low a.high v.certs);
}

each_more : (m : ℕ) (f : Place → Walked → Walked) → ((e : Place) (w : Walked) → Extends m w.found (f e w).found)
    → (es : List Place) (w : Walked) → Extends (length es * m) w.found (walk_each f es w).found
unfolding walk_each
each_more m f h [] w = none_more (0 * m) w.found
each_more m f h (e ∷ es) w =
    up_to (omega (arith, suc-mul (length es) m)) (and_more (h e w) (each_more m f h es (f e w)))

pub walk_more : (level n c : ℕ) (a : Asked) (above : List ℕ) (e : Place) (w : Walked)
    → Extends (under level) w.found (walk level n c a above e w).found
unfolding walk stops under
walk_more zero n c a above e w = none_more 0 w.found
walk_more (suc level) n c a above e w =
    go (enters a e w) refl (enter n c above w.table e).page refl (λ d v. walk_more level n c a (e.child ∷ above) d v)
  where
    go : (o : Bool) → enters a e w ≡ o → (g : Option Page) → (enter n c above w.table e).page ≡ g
        → ((d : Place) (v : Walked) → Extends (under level) v.found (walk level n c a (e.child ∷ above) d v).found)
        → Extends (40 + 30 * under level) w.found (walk (suc level) n c a above e w).found
    go false p g h rest = rw (walk, p) (none_more (40 + 30 * under level) w.found)
    go true p none h rest = rw (walk, p, h) (none_more (40 + 30 * under level) w.found)
    go true p (some x) h rest =
        let s = entered-small n c above w.table e x h in
        rw (walk, p, h)
        (up_to (omega (arith, mul-le-mul_right (under level) s.kids_few))
        (and_more (finds-more a x.view (noted n e w) (enter n c above w.table e).table s.certs_few)
        (each_more (under level) (walk level n c a (e.child ∷ above)) rest (kids e x.view)
        (finds a x.view (noted n e w) (enter n c above w.table e).table))))

-- the walk that goes on from what it has
pub rest_more : (n c : ℕ) (a : Asked) (w : Walked) → Extends 37240 w.found (rest n c a w).found
unfolding rest under
rest_more n c a w = walk_more top_kind n c a [] (root_place w.table) w

-- no walk finds more than 37,240
pub walk-few : (n c : ℕ) (a : Asked) (t : List ℕ) → length (walk_of n c a t).found ≤ 37240
unfolding walk_of under
walk-few n c a t =
    let x = walk_more top_kind n c a [] (root_place t) (unwalked t) in
    omega (arith, ap length x.is, x.few)
