-- A new node that a mix lost is shown from the page that S shows its shade from: that page covers its range, has its
-- kind, and was cut between entries that S has too.
use Rattle.std.proofs.Common.{◌≡◌, ℕ, ◌<◌, ◌≤◌, Bool, true, false, eqb, ◌≢◌, ◌⊎◌, List, sym, refl, ap, ◌∙◌, subst, inl, inr, arith, eqb-true}
use mathlib.Core.Option.{some}
use borrow.Author.Tests.{eqb-false}
use Rattle.rules.specs.Layout.{leaf_kind}
use Rattle.rules.specs.Test.{mem}
use Rattle.rules.specs.Entry.{keys, find}
use Rattle.rules.specs.Page.{View, Page}
use Rattle.rules.specs.Table.{read}
use Rattle.rules.specs.Place.{kids, pick, cut_view, show}
use Rattle.rules.specs.declared.Place.{Place}
use Rattle.rules.proofs.Demand3.Ways.Ways.{Node, Lost}
use Rattle.rules.proofs.Demand3.Ways.Invariant.{States, Asks, level, root, New, Inv}
use Rattle.rules.proofs.Entries.Views.{cut_view-cut, inner-kind}
use Rattle.rules.proofs.Entries.Sounds.{Sound, sound-same, sound-cut-all}
use Rattle.rules.proofs.Entries.Places.{Fits, fits_true, Shown, fitting, lost, show-lost, show-some}
use Rattle.rules.proofs.Demand3.Ways.Sources.{source-found, source_lost_lem, cut_view-kind, mem-cut_view, find-cut_view}
use Rattle.rules.proofs.Demand3.Ways.Kids.{none_picked, leaf_kids, kids-cut}
use Rattle.rules.proofs.Demand3.Ways.Nodes.{node-page, node-range, node-below}
use Rattle.rules.proofs.Demand3.Mix.Mix.{Mixed, Upon, unchanged, replaced, upon, spared-here}

-- a page that can stand in for one under the shade
record Backing (n : ℕ) (Been : States) (k : ℕ) (shade : Place) (seen : View) (q : Page) : Type 0 where
  sounds : Sound n q.low q.high q.view
  kind : q.view.kind ≡ seen.kind
  low : q.low ≤ shade.low
  high : shade.high ≤ q.high
  inner : seen.kind ≢ leaf_kind → cut_view shade.low shade.high q.view ≡ seen
  told : seen.kind ≡ leaf_kind → Been k (find k q.view.certs)

module _ (n : ℕ) (S W M : List ℕ) (c : ℕ) (Been : States) (I : Inv n S W c Been) (X : Mixed n S W M)
    (k : ℕ) (w : Place) (y : New n S W c Been k w) where
  abbrev Backs : Page → Type 0
  Backs q = Backing n Been k y.shade y.seen q

  -- a page that fits the shade
  backed : (q : Page) → Fits n y.shade q → q.view.kind ≡ y.seen.kind
      → (y.seen.kind ≢ leaf_kind → q.view ≡ y.seen)
      → (y.seen.kind ≡ leaf_kind → Been k (find k q.view.certs)) → Backs q
  backed q f a i l =
      record {
        sounds = sound-same (sym f.low) (sym f.high) f.sound;
        kind = a;
        low = omega (arith, f.low);
        high = omega (arith, f.high);
        inner = λ h. sound-cut-all f.sound ∙ i h;
        told = l;
      }

  -- the page that M reads in its place
  record Stand : Type 0 where
    some_page : 1 ≤ w.previous
    in_table : w.previous < n
    other : w.previous ≢ w.child
    backs : Backs (read M w.previous)

  stand : Stand
  stand = go (show-some n S y.shade y.seen y.shows)
    where
      here : Fits n y.shade (read S y.shade.child) → w.previous ≡ y.shade.child
      here f = y.before ∙ source-found n S y.shade f

      held : Fits n y.shade (read S y.shade.child) → y.seen ≡ (read S y.shade.child).view → Upon n S W M c Been I X k y.shade y.seen
          → Backs (read M y.shade.child)
      held f q (unchanged h) =
          subst Backs (sym h)
          (backed (read S y.shade.child) f (ap (λ (v : View). v.kind) (sym q)) (λ i. sym q)
          (λ l. subst (λ (v : View). Been k (find k v.certs)) q (I.told y.stands y.shows l)))
      held f q (replaced h z) =
          subst Backs (sym h)
          (backed (read W y.shade.child) (fits_true n y.shade (read W y.shade.child) z.found) z.kind (λ i. absurd (y.gone (z.still i) refl)) z.told)

      go : Shown n S y.shade y.seen → Stand
      go (fitting f q) =
          let p = node-page I.good.rooted y.stands in
          record {
            some_page = subst (λ (i : ℕ). 1 ≤ i) (sym (here f)) p.0;
            in_table = subst (λ (i : ℕ). i < n) (sym (here f)) p.1;
            other = λ e. y.no_child y.stands (sym (here f) ∙ e);
            backs = subst (λ (i : ℕ). Backs (read M i)) (sym (here f))
                (held f q (upon n S W M c Been I X k y.shade y.seen y.stands y.shows));
          }
      go (lost f m q) =
          let back : w.previous ≡ y.shade.previous = y.before ∙ source_lost_lem n S y.shade f in
          let r = node-range y.stands in
          let told : y.seen.kind ≡ leaf_kind → Been k (find k (read S y.shade.previous).view.certs) = λ l.
          subst (Been k)
          (ap (λ (v : View). find k v.certs) q
          ∙ find-cut_view y.shade.low y.shade.high k (read S y.shade.previous).view r.0 r.1)
          (I.told y.stands y.shows l)
          in
          record {
            some_page = subst (λ (i : ℕ). 1 ≤ i) (sym back) m.from;
            in_table = subst (λ (i : ℕ). i < n) (sym back) m.below;
            other = λ e. y.no_previous y.stands f (sym back ∙ e);
            backs = subst (λ (i : ℕ). Backs (read M i)) (sym back)
                (subst Backs (sym (spared-here n S W M c Been I X k y.shade y.seen y.stands y.shows f))
                (record {
                  sounds = m.sound;
                  kind = sym (ap (λ (v : View). v.kind) q ∙ cut_view-kind y.shade.low y.shade.high (read S y.shade.previous).view);
                  low = m.low;
                  high = m.high;
                  inner = λ i. sym q;
                  told = told;
                }));
          }

  -- what M shows at w if it is lost there
  pub stead : View
  stead = cut_view w.low w.high (read M w.previous).view

  pub stead_kind : stead.kind ≡ y.seen.kind
  unfolding stead
  stead_kind = cut_view-kind w.low w.high (read M w.previous).view ∙ stand.backs.kind

  pub show_stead : Lost n M w → show n M w ≡ some stead
  unfolding stead
  show_stead f =
      show-lost n M w f
      (record {
        from = stand.some_page;
        below = stand.in_table;
        other = stand.other;
        sound = stand.backs.sounds;
        kind = want y.asks;
        low = omega (arith, stand.backs.low, y.lows);
        high = omega (arith, stand.backs.high, y.highs);
        key = λ i. key (λ l. inner-kind q i (stand.backs.kind ∙ l));
      })
    where
      q : View
      q = (read M w.previous).view

      want : Asks W w y.shade y.seen → (w.want ≡ 0) ⊎ (w.want ≡ q.kind)
      want (level a) = inr (a ∙ sym stand.backs.kind)
      want (root z s u) = inl z

      key : y.seen.kind ≢ leaf_kind → mem w.low (keys q.children) ≡ true
      key i =
          mem-cut_view y.shade.low y.shade.high w.low q
          (subst (λ (v : View). mem w.low (keys v.children) ≡ true) (sym (stand.backs.inner i)) (y.cut_low i))

  -- below it M goes on in nodes of S
  pub stead_below : Node n W k w → Lost n M w → (d : Place) → pick k (kids w stead) ≡ some d → Node n S k d
  unfolding stead
  stead_below x f d p = go (eqb y.seen.kind leaf_kind) refl
    where
      r : (w.low ≤ k) × (k ≤ w.high)
      r = node-range x

      part : y.seen.kind ≢ leaf_kind → stead ≡ cut_view w.low w.high y.seen
      part i =
          sym (cut_view-cut y.shade.low y.shade.high w.low w.high (read M w.previous).view y.lows y.highs)
          ∙ ap (cut_view w.low w.high) (stand.backs.inner i)

      go : (b : Bool) → eqb y.seen.kind leaf_kind ≡ b → Node n S k d
      go true e =
          absurd
          (none_picked k w d stead
          (leaf_kids n M w stead (show_stead f) (stead_kind ∙ eqb-true y.seen.kind leaf_kind e)) p)
      go false e =
          let i = eqb-false y.seen.kind leaf_kind e in
          node-below y.seen d y.stands y.shows
          (sym (kids-cut n S y.shade y.seen y.shows w k y.highs r.0 r.1 (y.cut_low i) (y.cut_high i))
          ∙ (sym (ap (λ (v : View). pick k (kids w v)) (part i)) ∙ p))

  pub stead_told : Node n W k w → stead.kind ≡ leaf_kind → Been k (find k stead.certs)
  unfolding stead
  stead_told x l =
      let r = node-range x in
      subst (Been k) (sym (find-cut_view w.low w.high k (read M w.previous).view r.0 r.1))
      (stand.backs.told (sym stead_kind ∙ l))
