-- The mix theorem: every mix of S and W is a good table, none of it younger than c, and what it tells of a key is a state
-- that the key has had.
use Rattle.std.proofs.Common.{◌≡◌, ℕ, ◌<◌, ◌≤◌, Bool, true, false, ◌≢◌, ◌⊎◌, List, sym, refl, ap, ◌∙◌, subst, inl, inr, arith}
use mathlib.Core.Bool.{false≢true}
use mathlib.Core.Option.{Option}
use Rattle.rules.specs.Page.{View, Page}
use Rattle.rules.specs.Table.{read}
use Rattle.rules.specs.Place.{root_place, fits}
use Rattle.rules.specs.declared.Place.{Place}
use Rattle.rules.proofs.Demand3.Ways.Ways.{Node, Found, Lost, Undamaged, Tells}
use Rattle.rules.proofs.Demand3.Ways.Invariant.{Rooted, Good, States, Changed, New, Inv}
use Rattle.rules.proofs.Entries.Places.{Shown, fitting, lost, show-some}
use Rattle.rules.proofs.Demand3.Ways.Sources.{source-found, source_lost_lem}
use Rattle.rules.proofs.Demand3.Ways.Nodes.{node-range, node-same, at_level}
use Rattle.rules.proofs.Demand3.Mix.Mix.{Mixed, found_as, lost_as, Upon, unchanged, replaced, upon, Kindred, kindred, Anew, there, missing, anew}
use Rattle.rules.proofs.Demand3.Mix.Backed.{stead, stead_kind, show_stead}
use Rattle.rules.proofs.Demand3.Mix.Live.{Live, stable, new, seen, live, live_told}

-- a good table in which every birth and built is below c: what the next epoch starts from
pub record Older (n : ℕ) (t : List ℕ) (c : ℕ) : Type 0 where
  pub good : Good n t
  pub births : (i : ℕ) → 1 ≤ i → i < n → (read t i).birth < c
  pub born : {k : ℕ} {e : Place} → Node n t k e → e.birth < c
  pub built : {k : ℕ} {e : Place} → Node n t k e → Found n t e → (read t e.child).built < c

module _ (n : ℕ) (S W M : List ℕ) (c : ℕ) (Been : States) (I : Inv n S W c Been) (X : Mixed n S W M) where
  abbrev Lives : ℕ → Place → Type 0
  Lives k e = Live n S W M c Been I X k e

  pub mix-rooted : Rooted n M
  mix-rooted = go X.root
    where
      by : (t : List ℕ) → root_place M ≡ root_place t → Rooted n t → Rooted n M
      by t r h =
          record {
            some_page = subst (λ (p : Place). 1 ≤ p.child) (sym r) h.some_page;
            in_table = subst (λ (p : Place). p.child < n) (sym r) h.in_table;
            previous_in = subst (λ (p : Place). p.previous < n) (sym r) h.previous_in;
          }

      go : (root_place M ≡ root_place S) ⊎ (root_place M ≡ root_place W) → Rooted n M
      go (inl r) = by S r I.good.rooted
      go (inr r) = by W r I.rooted

  mix-whole : {k : ℕ} {e : Place} → Node n M k e → Undamaged n M e
  mix-whole {k} {e} x =
      let u = seen n S W M c Been I X k e (live n S W M c Been I X x) in
      record { view = u.view; shows = u.shows }

  mix-once : {k j : ℕ} {a b : Place} → Node n M k a → Node n M j b → a.child ≡ b.child → a ≡ b
  mix-once {k} {j} {a} {b} x y h = go (live n S W M c Been I X x) (live n S W M c Been I X y)
    where
      go : Lives k a → Lives j b → a ≡ b
      go (stable p) (stable q) = I.good.once p q h
      go (stable p) (new q z) = absurd (z.no_child p h)
      go (new p z) (stable q) = absurd (z.no_child q (sym h))
      go (new p z) (new q u) = I.once p q h

  -- ── No lost node's previous page is a child ───────────────────────────────────────────────────────────────────

  -- a node of S that M lost is lost in S
  pub lost-before : (k : ℕ) (o : Place) → Node n S k o → Lost n M o → Lost n S o
  lost-before k o x f = go (upon n S W M c Been I X k o w.view x w.shows)
    where
      w : Undamaged n S o
      w = I.good.whole x

      go : Upon n S W M c Been I X k o w.view → Lost n S o
      go (unchanged h) = lost_as n M S o (sym h) f
      go (replaced h z) = absurd (false≢true (sym f ∙ found_as n W M o h z.found))

  -- what S spares is no child in M
  spared-apart : (k j : ℕ) (o b : Place) → Node n S k o → Lost n S o → Lives j b → o.previous ≢ b.child
  spared-apart k j o b x f (stable y) = I.good.apart x f y
  spared-apart k j o b x f (new y z) = I.apart x f y

  -- a shade that M still asks for would show the kind that the new node shows on the same way
  shade-apart : (k j : ℕ) (w b : Place) → Node n M k w → Lost n M w → Node n W k w → (y : New n S W c Been k w)
      → Node n M j b → Node n S j b → y.shade.child ≡ b.child → ⊥
  shade-apart k j w b x f xw y xb yb h = y.gone xw (ap (λ (p : Place). p.child) one)
    where
      shades : y.shade ≡ b
      shades = I.good.once y.stands yb h

      r : (y.shade.low ≤ k) × (k ≤ y.shade.high)
      r = node-range y.stands

      here : Node n M k y.shade
      here = node-same k (subst (Node n M j) (sym shades) xb) r.0 r.1

      u : Kindred n S W M c Been I X y.shade y.seen
      u = kindred n S W M c Been I X k y.shade y.seen y.stands y.shows

      one : w ≡ y.shade
      one =
          at_level (stead n S W M c Been I X k w y) u.view x here (show_stead n S W M c Been I X k w y f) u.shows
          (stead_kind n S W M c Been I X k w y ∙ sym u.kind)

  new_apart : (k j : ℕ) (w b : Place) → Node n M k w → Lost n M w → Node n W k w → (y : New n S W c Been k w)
      → Node n M j b → Lives j b → w.previous ≢ b.child
  new_apart k j w b x f xw y xb l h = go (show-some n S y.shade y.seen y.shows) l
    where
      go : Shown n S y.shade y.seen → Lives j b → ⊥
      go (lost g m q) v =
          spared-apart k j y.shade b y.stands g v (sym (source_lost_lem n S y.shade g) ∙ (sym y.before ∙ h))
      go (fitting g q) (stable v) =
          shade-apart k j w b x f xw y xb v (sym (source-found n S y.shade g) ∙ (sym y.before ∙ h))
      go (fitting g q) (new v z) =
          y.gone v (sym (sym (source-found n S y.shade g) ∙ (sym y.before ∙ h)))

  mix-apart : {k j : ℕ} {a b : Place} → Node n M k a → Lost n M a → Node n M j b → a.previous ≢ b.child
  mix-apart {k} {j} {a} {b} x f y = go (live n S W M c Been I X x)
    where
      go : Lives k a → a.previous ≢ b.child
      go (stable p) = spared-apart k j a b p (lost-before k a p f) (live n S W M c Been I X y)
      go (new p z) = new_apart k j a b x f p z y (live n S W M c Been I X y)

  pub mix-good : Good n M
  mix-good = record { rooted = mix-rooted; whole = mix-whole; once = mix-once; apart = mix-apart }

  -- ── None of it is younger than c ──────────────────────────────────────────────────────────────────────────────

  mix-births : (i : ℕ) → 1 ≤ i → i < n → (read M i).birth ≤ c
  mix-births i p q = go (X.pages i p q)
    where
      go : (read M i ≡ read S i) ⊎ (read M i ≡ read W i) → (read M i).birth ≤ c
      go (inl a) = omega (arith, ap (λ (x : Page). x.birth) a, I.births i p q)
      go (inr a) = omega (arith, ap (λ (x : Page). x.birth) a, I.births_now i p q)

  mix-born : (k : ℕ) (e : Place) → Node n M k e → e.birth ≤ c
  mix-born k e x = go (live n S W M c Been I X x)
    where
      go : Lives k e → e.birth ≤ c
      go (stable p) = omega (arith, I.born p)
      go (new p z) = omega (arith, z.born)

  mix-built : (k : ℕ) (e : Place) → Node n M k e → Found n M e → (read M e.child).built ≤ c
  mix-built k e x f = go (live n S W M c Been I X x)
    where
      kept : (p : Node n S k e) → (v : View) → (z : Changed n S W c Been k e v) → (b : Bool) → fits n e (read S e.child) ≡ b
          → (read W e.child).built ≤ c
      kept p v z true g = omega (arith, z.kept g, I.built p g)
      kept p v z false g = omega (arith, z.mended g)

      old : Node n S k e → (v : View) → Upon n S W M c Been I X k e v → (read M e.child).built ≤ c
      old p v (unchanged h) =
          omega (arith, ap (λ (q : Page). q.built) h, I.built p (found_as n M S e (sym h) f))
      old p v (replaced h z) =
          omega (arith, ap (λ (q : Page). q.built) h, kept p v z (fits n e (read S e.child)) refl)

      fresh : New n S W c Been k e → Anew n S W M c Been I X e → (read M e.child).built ≤ c
      fresh z (there h) = omega (arith, ap (λ (q : Page). q.built) h, z.built)
      fresh z (missing g) = absurd (false≢true (sym g ∙ f))

      go : Lives k e → (read M e.child).built ≤ c
      go (stable p) =
          let w = I.good.whole p in
          old p w.view (upon n S W M c Been I X k e w.view p w.shows)
      go (new p z) = fresh z (anew n S W M c Been I X k e p z)

  -- ── The theorem ───────────────────────────────────────────────────────────────────────────────────────────────

  pub mix_older : (d : ℕ) → c < d → Older n M d
  mix_older d h =
      record {
        good = mix-good;
        births = λ i p q. omega (arith, mix-births i p q);
        born = λ {k} {e} x. omega (arith, mix-born k e x);
        built = λ {k} {e} x f. omega (arith, mix-built k e x f);
      }

  pub mix-tells : {k : ℕ} {s : Option ℕ} → Tells n M k s → Been k s
  mix-tells {k} x =
      subst (Been k) x.finds (live_told n S W M c Been I X x.node x.shows x.leaf)
