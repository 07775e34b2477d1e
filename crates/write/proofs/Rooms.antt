-- Where there is room for more than any walk finds, how much there is does not matter. Assumes nothing.
use Prim.Native.Nat.{ℕ, zero, suc, ◌+◌, ◌-◌, ◌*◌, ◌≤◌, ◌<◌}
use native.Mathlib.Omega.{arith}
use native.Mathlib.Nat.{suc-mul, mul-le-mul_right}
use mathlib.Core.Path.{◌≡◌, refl, sym, ap, ◌∙◌}
use mathlib.Core.Bool.{Bool, true, false}
use mathlib.Core.List.{List, [], ◌∷◌, ◌++◌}
use mathlib.Core.Option.{Option, some, none}
use lib.Dec.{ltb, leb}
use lib.ListN.{length, length-append}
use lib.Seq.{take_all}
use borrow.Author.Tests.{lt-ltb}
use Rattle.rules.specs.Layout.{top_kind}
use Rattle.rules.specs.Test.{every}
use Rattle.rules.specs.Entry.{Cert, cut}
use Rattle.rules.specs.Page.{Page, View}
use Rattle.rules.specs.Place.{root_place, kids}
use Rattle.rules.specs.Enter.{enter}
use Rattle.rules.specs.Walk.{Walked, unwalked, noted, enters, finds, walk_each, walk, walk_of}
use Rattle.rules.specs.declared.Place.{Place}
use Rattle.rules.specs.declared.Asked.{Asked}
use Rattle.rules.proofs.Entries.Entries.{length_cut}
use Rattle.write.proofs.Extends.{Extends, entered-small, under, finds-more, walk_more}

module _ (low high r q : ℕ) where
  abbrev a : Asked
  a = record { low = low; high = high; room = r }

  abbrev b : Asked
  b = record { low = low; high = high; room = q }

  -- so many more have room in both
  record Both (w : Walked) (most : ℕ) : Type 0 where
    first : length w.found + most < r
    second : length w.found + most < q

  fewer : {w : Walked} {j k : ℕ} → j ≤ k → Both w k → Both w j
  fewer l x = record { first = omega (arith, x.first); second = omega (arith, x.second) }

  grown : {w v : Walked} {j k : ℕ} → Extends j w.found v.found → Both w (j + k) → Both v k
  grown {w} e x =
      let n = ap length e.is ∙ length-append w.found e.more in
      record { first = omega (arith, n, e.few, x.first); second = omega (arith, n, e.few, x.second) }

  enters-same : (e : Place) (w : Walked) → Both w 0 → enters a e w ≡ enters b e w
  unfolding enters
  enters-same e w x =
      let f : ltb (length w.found) r ≡ true = lt-ltb (length w.found) r (omega (arith, x.first)) in
      let g : ltb (length w.found) q ≡ true = lt-ltb (length w.found) q (omega (arith, x.second)) in
      ap (λ (t : Bool). every (w.whole ∷ t ∷ leb e.low high ∷ leb low e.high ∷ [])) (f ∙ sym g)

  finds-same : (v : View) (w : Walked) (t : List ℕ) → length v.certs ≤ 40 → Both w 40 → finds a v w t ≡ finds b v w t
  unfolding finds
  finds-same v w t l x =
      let cs = cut low high v.certs in
      let k = length_cut low high v.certs in
      let f = take_all (r - length w.found) cs (omega (arith, k, x.first)) in
      let g = take_all (q - length w.found) cs (omega (arith, k, x.second)) in
      ap (λ (l : List Cert). record { table = t; whole = true; found = w.found ++ l; report = w.report }) (f ∙ sym g)

  each_same : (m : ℕ) (f g : Place → Walked → Walked) → ((e : Place) (w : Walked) → Both w m → f e w ≡ g e w)
      → ((e : Place) (w : Walked) → Extends m w.found (f e w).found)
      → (es : List Place) (w : Walked) → Both w (length es * m) → walk_each f es w ≡ walk_each g es w
  unfolding walk_each
  each_same m f g h k [] w x = refl
  each_same m f g h k (e ∷ es) w x =
      let s = suc-mul (length es) m in
      let y : Both w (m + length es * m) = fewer (omega (arith, s)) x in
      each_same m f g h k es (f e w) (grown (k e w) y) ∙ ap (walk_each g es) (h e w (fewer (omega arith) y))

  walk_same : (level n c : ℕ) (above : List ℕ) (e : Place) (w : Walked) → Both w (under level) → walk level n c a above e w ≡ walk level n c b above e w
  unfolding walk under
  walk_same zero n c above e w x = refl
  walk_same (suc level) n c above e w x =
      go (enters a e w) refl (enter n c above w.table e).page refl (λ d v y. walk_same level n c (e.child ∷ above) d v y)
    where
      go : (o : Bool) → enters a e w ≡ o → (p : Option Page) → (enter n c above w.table e).page ≡ p
          → ((d : Place) (v : Walked) → Both v (under level) → walk level n c a (e.child ∷ above) d v ≡ walk level n c b (e.child ∷ above) d v)
          → walk (suc level) n c a above e w ≡ walk (suc level) n c b above e w
      go false f p h ih =
          let g = sym (enters-same e w (fewer (omega arith) x)) ∙ f in
          rw (walk, f, g)
      go true f none h ih =
          let g = sym (enters-same e w (fewer (omega arith) x)) ∙ f in
          rw (walk, f, g, h)
      go true f (some p) h ih =
          let g = sym (enters-same e w (fewer (omega arith) x)) ∙ f in
          let s = entered-small n c above w.table e p h in
          let t = (enter n c above w.table e).table in
          let k = mul-le-mul_right (under level) s.kids_few in
          let z : Both w (40 + length (kids e p.view) * under level) = fewer (omega (arith, k)) x in
          let y : Both (noted n e w) (40 + length (kids e p.view) * under level) = record { first = z.first; second = z.second } in
          rw (walk, f, g, h)
          (each_same (under level) (walk level n c a (e.child ∷ above)) (walk level n c b (e.child ∷ above)) ih
          (λ d v. walk_more level n c a (e.child ∷ above) d v) (kids e p.view) (finds a p.view (noted n e w) t)
          (grown (finds-more a p.view (noted n e w) t s.certs_few) y)
          ∙ ap (walk_each (walk level n c b (e.child ∷ above)) (kids e p.view))
          (finds-same p.view (noted n e w) t s.certs_few (fewer (omega arith) y)))

  pub room-same : (n c : ℕ) (t : List ℕ) → 37240 < r → 37240 < q
      → walk_of n c (record { low = low; high = high; room = r }) t ≡ walk_of n c (record { low = low; high = high; room = q }) t
  unfolding walk_of under
  room-same n c t f g = walk_same top_kind n c [] (root_place t) (unwalked t) (record { first = omega arith; second = omega arith })
