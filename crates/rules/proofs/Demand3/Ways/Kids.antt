-- What a table shows at a place is sound for the place's range, so its kids tile that range one kind lower.
use Rattle.std.proofs.Common.{◌≡◌, ℕ, suc, ◌-◌, ◌<◌, ◌≤◌, true, false, ◌≢◌, ◌⊎◌, List, [], ◌∷◌, sym, ap, ◌∙◌, subst, inl, inr, arith}
use mathlib.Core.List.Memᴰ
use mathlib.Core.List.{Memᴰ}
use mathlib.Core.Option.{some, none-ne-some}
use Rattle.rules.specs.Layout.{leaf_kind, top_kind}
use Rattle.rules.specs.Test.{between, all, mem}
use Rattle.rules.specs.Entry.{Child, keys}
use Rattle.rules.specs.Page.{View, is_leaf}
use Rattle.rules.specs.Table.{read}
use Rattle.rules.specs.Place.{places_in, kids, pick, cut_view, show}
use Rattle.rules.specs.declared.Place.{Place}
use Rattle.rules.proofs.Entries.Tests.{either, between-low, between-high, all-mem, mem-head}
use Rattle.rules.proofs.Entries.Entries.{cut-within}
use Rattle.rules.proofs.Entries.Views.{leaf_of-kind, inner-of-kind}
use Rattle.rules.proofs.Entries.Sounds.{Sound}
use Rattle.rules.proofs.Entries.Places.{Shown, fitting, lost, show-some, shown-sound, shown-shaped}
use Rattle.rules.proofs.Entries.Picks.{pick-mem, pick-nil}
use Rattle.rules.proofs.Entries.Asks.{KidOf, kids-leaf, kids-pick, kids-same, kids-within, kids-names, kids-want, kids-total, kids_part}

-- ── Picking among few ───────────────────────────────────────────────────────────────────────────────────────────

pub none_picked : (k : ℕ) (e d : Place) (v : View) → kids e v ≡ [] → pick k (kids e v) ≡ some d → ⊥
none_picked k e d v h p = none-ne-some d (sym (pick-nil k) ∙ (sym (ap (pick k) h) ∙ p))

pub pick-one : (k : ℕ) (r e : Place) → pick k (r ∷ []) ≡ some e → r ≡ e
pick-one k r e h = go (Memᴰ.cases_cons (pick-mem k (r ∷ []) e h))
  where
    go : (e ≡ r) ⊎ Memᴰ e [] → r ≡ e
    go (inl q) = sym q
    go (inr m) = absurd (Memᴰ.not-nil m)

-- where a place is picked there is a child
some-child : (want high k : ℕ) (xs : List Child) (d : Place) → pick k (places_in want high xs) ≡ some d
    → (j : ℕ) × (mem j (keys xs) ≡ true)
unfolding places_in keys
some-child want high k [] d p = absurd (none-ne-some d (sym (pick-nil k) ∙ p))
some-child want high k (x ∷ xs) d p = (x.key, mem-head x.key (keys xs))

-- ── What is shown ───────────────────────────────────────────────────────────────────────────────────────────────

module _ (n : ℕ) (t : List ℕ) (e : Place) (v : View) (s : show n t e ≡ some v) where
  shown : Shown n t e v
  shown = show-some n t e v s

  pub shown-kind : (1 ≤ v.kind) × (v.kind ≤ top_kind)
  unfolding cut_view
  shown-kind = go shown
    where
      go : Shown n t e v → (1 ≤ v.kind) × (v.kind ≤ top_kind)
      go (fitting f q) =
          subst (λ (u : View). (1 ≤ u.kind) × (u.kind ≤ top_kind)) (sym q) (f.sound.kind_from, f.sound.kind_to)
      go (lost f m q) =
          subst (λ (u : View). (1 ≤ u.kind) × (u.kind ≤ top_kind)) (sym q) (m.sound.kind_from, m.sound.kind_to)

  pub shown-want : (e.want ≡ 0) ⊎ (e.want ≡ v.kind)
  unfolding cut_view
  shown-want = go shown
    where
      go : Shown n t e v → (e.want ≡ 0) ⊎ (e.want ≡ v.kind)
      go (fitting f q) = subst (λ (u : View). (e.want ≡ 0) ⊎ (e.want ≡ u.kind)) (sym q) f.kind
      go (lost f m q) = subst (λ (u : View). (e.want ≡ 0) ⊎ (e.want ≡ u.kind)) (sym q) m.kind

  pub sound-here : e.low ≤ e.high → Sound n e.low e.high v
  sound-here r = shown-sound r shown

  -- a child's key lies in the range, so the range is none that is empty
  child-within : (j : ℕ) → mem j (keys v.children) ≡ true → e.low ≤ e.high
  unfolding cut_view
  child-within j m =
      let b = all-mem (between e.low e.high) j (keys v.children) (go shown) m in
      omega (arith, between-low e.low e.high j b, between-high e.low e.high j b)
    where
      go : Shown n t e v → all (between e.low e.high) (keys v.children) ≡ true
      go (fitting f q) =
          subst (λ (u : View). all (between e.low e.high) (keys u.children) ≡ true) (sym q) f.sound.children_within
      go (lost f m q) =
          subst (λ (u : View). all (between e.low e.high) (keys u.children) ≡ true) (sym q)
          (cut-within e.low e.high (read t e.previous).view.children)

  -- ── Its kids ────────────────────────────────────────────────────────────────────────────────────────────────────

  pub leaf_kids : v.kind ≡ leaf_kind → kids e v ≡ []
  leaf_kids l = kids-leaf e v (shown-shaped shown) (leaf_of-kind v l)

  pub kid-some : v.kind ≢ leaf_kind → (k : ℕ) → e.low ≤ k → k ≤ e.high → (d : Place) × (pick k (kids e v) ≡ some d)
  kid-some i k l h = kids-total e (sound-here (omega arith)) k (inner-of-kind v i) l h

  -- a place that asks for a part of what e shows, cut between its entries, leads on as e does
  pub kids-cut : (w : Place) (k : ℕ) → w.high ≤ e.high → w.low ≤ k → k ≤ w.high → mem w.low (keys v.children) ≡ true
      → (w.high ≡ e.high) ⊎ (mem (suc w.high) (keys v.children) ≡ true)
      → pick k (kids w (cut_view w.low w.high v)) ≡ pick k (kids e v)
  kids-cut w k h a b m c = kids_part e (sound-here (child-within w.low m)) w k m h c a b

  module _ (k : ℕ) (d : Place) (p : pick k (kids e v) ≡ some d) where
    picked_sound : Sound n e.low e.high v
    unfolding kids
    picked_sound =
        let j = some-child (v.kind - 1) e.high k v.children d p in
        sound-here (child-within j.0 j.1)

    kid : KidOf e v d
    kid = kids-pick e picked_sound k d p

    pub kid-same : (j : ℕ) → d.low ≤ j → j ≤ d.high → pick j (kids e v) ≡ some d
    kid-same j l h = kids-same e picked_sound k j d p l h

    pub kid-within : (e.low ≤ d.low) × (d.high ≤ e.high)
    kid-within = kids-within e picked_sound d kid

    pub kid-page : (1 ≤ d.child) × (d.child < n)
    kid-page = let x = kids-names e picked_sound d kid in (x.child_from, x.child_below)

    pub kid-previous : d.previous < n
    kid-previous = (kids-names e picked_sound d kid).previous_below

    -- one kind lower, and there is one to be lower than
    pub kid-want : (1 ≤ d.want) × (suc d.want ≡ v.kind)
    kid-want = go (either (is_leaf v))
      where
        go : (is_leaf v ≡ true) ⊎ (is_leaf v ≡ false) → (1 ≤ d.want) × (suc d.want ≡ v.kind)
        go (inl l) = absurd (none_picked k e d v (kids-leaf e v (shown-shaped shown) l) p)
        go (inr i) = kids-want e picked_sound d i kid
