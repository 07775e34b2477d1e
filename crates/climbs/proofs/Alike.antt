-- Low is irrelevant beyond the leaf passed: two ranges that are alike from a key on are walked alike from there on.
-- Assumes nothing.
use Prim.Native.Nat.{ℕ, zero, suc, ◌≤◌}
use native.Mathlib.Omega.{arith}
use mathlib.Core.Path.{◌≡◌, refl, sym, ap, ◌∙◌}
use mathlib.Core.Bool.{Bool, true, false}
use mathlib.Core.List.{List, [], ◌∷◌}
use mathlib.Core.Option.{Option, some, none}
use Rattle.rules.specs.Test.{between, all}
use Rattle.rules.specs.Entry.{Cert, keys, cut}
use Rattle.rules.specs.Page.{Page}
use Rattle.rules.specs.Place.{kids}
use Rattle.rules.specs.Enter.{enter}
use Rattle.rules.specs.Walk.{Walked, enters, finds, walk_each, walk, noted}
use Rattle.rules.specs.declared.Asked.{Asked}
use Rattle.rules.specs.declared.Place.{Place}
use Rattle.rules.proofs.Entries.Tests.{same_test, between-low, between-high, between-of, all_head, all_tail}
use Rattle.rules.proofs.Entries.Entries.{cut_in, cut_out, cut-nil}
use Rattle.rules.proofs.Entries.Places.{Fits}
use Rattle.rules.proofs.Entries.Asks.{kids-mem, kids-within}
use Rattle.rules.proofs.Demand1.WalkSteps.{walk-past, walk-damaged, walk-entered}
use Rattle.enter.proofs.Stands.{comes, found-fits}
use Rattle.climbs.proofs.Steps.{enters_true, enters-of, finds-same, each_same}

pub record Alike (from : ℕ) (a b : Asked) : Type 0 where
  pub low : a.low ≤ from
  pub low' : b.low ≤ from
  pub high : a.high ≡ b.high
  -- there is the same room, or the range has ended
  pub room : from ≤ a.high → a.room ≡ b.room

pub alike-back : {from : ℕ} {a b : Asked} → Alike from a b → Alike from b a
alike-back x = record {
  low = x.low';
  low' = x.low;
  high = sym x.high;
  room = λ h. sym (x.room (omega (arith, x.high)));
}

-- ── Entering and finding ────────────────────────────────────────────────────────────────────────────────────────

module _ {from : ℕ} {a b : Asked} (x : Alike from a b) (e : Place) (l : from ≤ e.low) (r : e.low ≤ e.high) (w : Walked) where
  enters_too : enters a e w ≡ true → enters b e w ≡ true
  enters_too h =
      let y = enters_true a e w h in
      enters-of b e w record {
        whole = y.whole;
        room = omega (arith, y.room, x.room (omega (arith, y.from)));
        from = omega (arith, y.from, x.high);
        to = omega (arith, x.low');
      }

enters-alike : {from : ℕ} {a b : Asked} → Alike from a b → (e : Place) → from ≤ e.low → e.low ≤ e.high → (w : Walked)
    → enters a e w ≡ enters b e w
enters-alike {a = a} {b} x e l r w = same_test (enters a e w) (enters b e w) (enters_too x e l r w) (enters_too (alike-back x) e l r w)

module _ {from : ℕ} {a b : Asked} (x : Alike from a b) where
  between-alike : (k : ℕ) → from ≤ k → between a.low a.high k ≡ between b.low b.high k
  between-alike k l =
      same_test (between a.low a.high k) (between b.low b.high k)
      (λ h. between-of b.low b.high k (omega (arith, x.low')) (omega (arith, between-high a.low a.high k h, x.high)))
      (λ h. between-of a.low a.high k (omega (arith, x.low)) (omega (arith, between-high b.low b.high k h, x.high)))

  cut-alike : (low high : ℕ) → from ≤ low → (xs : List Cert) → all (between low high) (keys xs) ≡ true
      → cut a.low a.high xs ≡ cut b.low b.high xs
  unfolding keys
  cut-alike low high l [] h = cut-nil a.low a.high ∙ sym (cut-nil b.low b.high)
  cut-alike low high l (y ∷ ys) h =
      go (between a.low a.high y.key) refl (cut-alike low high l ys (all_tail (between low high) y.key (keys ys) h))
    where
      same : between a.low a.high y.key ≡ between b.low b.high y.key
      same = between-alike y.key (omega (arith, between-low low high y.key (all_head (between low high) y.key (keys ys) h)))

      go : (t : Bool) → between a.low a.high y.key ≡ t → cut a.low a.high ys ≡ cut b.low b.high ys
          → cut a.low a.high (y ∷ ys) ≡ cut b.low b.high (y ∷ ys)
      go true q ih =
          cut_in a.low a.high y ys q
          ∙ (ap (λ (zs : List Cert). y ∷ zs) ih ∙ sym (cut_in b.low b.high y ys (sym same ∙ q)))
      go false q ih =
          cut_out a.low a.high y ys q ∙ (ih ∙ sym (cut_out b.low b.high y ys (sym same ∙ q)))

-- ── Walking ─────────────────────────────────────────────────────────────────────────────────────────────────────

pub walk-alike : (level n c : ℕ) {from : ℕ} {a b : Asked} → Alike from a b → (above : List ℕ) (e : Place) (w : Walked)
    → from ≤ e.low → e.low ≤ e.high → walk level n c a above e w ≡ walk level n c b above e w
unfolding walk
walk-alike zero n c x above e w l r = refl
walk-alike (suc level) n c {from = from} {a} {b} x above e w l r =
    go (enters a e w) refl (enter n c above w.table e).page refl
    (λ d v p q. walk-alike level n c x (e.child ∷ above) d v p q)
  where
    same : enters a e w ≡ enters b e w
    same = enters-alike x e l r w

    t : List ℕ
    t = (enter n c above w.table e).table

    Rest : Type 0
    Rest = (d : Place) (v : Walked) → from ≤ d.low → d.low ≤ d.high
        → walk level n c a (e.child ∷ above) d v ≡ walk level n c b (e.child ∷ above) d v

    inside : (p : Page) → (enter n c above w.table e).page ≡ some p → enters a e w ≡ true → Rest
        → walk_each (walk level n c a (e.child ∷ above)) (kids e p.view) (finds a p.view (noted n e w) t)
        ≡ walk_each (walk level n c b (e.child ∷ above)) (kids e p.view) (finds b p.view (noted n e w) t)
    inside p h q ih =
        let f : Fits n e p = found-fits r (enter n c above w.table e) (comes n c above w.table e) p h in
        let v : Walked = noted n e w in
        let y : finds a p.view v t ≡ finds b p.view v t = finds-same a b p.view v t
        (x.room (omega (arith, (enters_true a e w q).from)))
        (cut-alike x e.low e.high l p.view.certs f.sound.certs_within) in
        ap (walk_each (walk level n c a (e.child ∷ above)) (kids e p.view)) y
        ∙ each_same (walk level n c a (e.child ∷ above)) (walk level n c b (e.child ∷ above)) (kids e p.view) (finds b p.view v t)
        (λ d v m.
        let z = kids-mem e f.sound d m in
        ih d v (omega (arith, (kids-within e f.sound d z).0)) z.range)

    go : (o : Bool) → enters a e w ≡ o → (u : Option Page) → (enter n c above w.table e).page ≡ u → Rest
        → walk (suc level) n c a above e w ≡ walk (suc level) n c b above e w
    go false q u h ih = walk-past level n c a above e w q ∙ sym (walk-past level n c b above e w (sym same ∙ q))
    go true q none h ih =
        walk-damaged level n c a above e w q h ∙ sym (walk-damaged level n c b above e w (sym same ∙ q) h)
    go true q (some p) h ih =
        walk-entered level n c a above e w q p h
        ∙ (inside p h q ih ∙ sym (walk-entered level n c b above e w (sym same ∙ q) p h))
