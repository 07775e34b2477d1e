-- What a sound view at a place asks for below: nothing under a leaf; else places one kind lower, within its range, one for
-- every key. Assumes nothing.
use Rattle.std.proofs.Common.{◌≡◌, ℕ, suc, ◌-◌, ◌≤◌, true, false, ◌≢◌, ◌⊎◌, [], ap, ◌∙◌, arith}
use mathlib.Core.List.{Memᴰ}
use mathlib.Core.Option.{some, none}
use Rattle.rules.specs.Test.{between, mem}
use Rattle.rules.specs.Entry.{keys}
use Rattle.rules.specs.Page.{View, is_leaf}
use Rattle.rules.specs.Sound.{names_pages}
use Rattle.rules.specs.Place.{kids, pick, places_in, cut_view}
use Rattle.rules.specs.declared.Place.{Place}
use Rattle.rules.proofs.Entries.Tests.{between-low, all-mem}
use Rattle.rules.proofs.Entries.Entries.{all-find}
use Rattle.rules.proofs.Entries.Views.{Shaped, inner-kind}
use Rattle.rules.proofs.Entries.Sounds.{Sound, Names, names_true, starts-mem}
use Rattle.rules.proofs.Entries.Picks.{Kid, kid-key, below_of, Rising, rising-within, pick-nil, pick-kid, places-kids, kid-pick, pick_total, pick-cut}

-- under a leaf there is none
pub kids-leaf : (e : Place) (v : View) → Shaped v → is_leaf v ≡ true → kids e v ≡ []
unfolding kids places_in
kids-leaf e v s l = ap (places_in (v.kind - 1) e.high) (s.leaf l)

pub pick-leaf : (k : ℕ) (e : Place) (v : View) → Shaped v → is_leaf v ≡ true → pick k (kids e v) ≡ none
pick-leaf k e v s l = ap (pick k) (kids-leaf e v s l) ∙ pick-nil k

-- a place among those that what is shown at e asks for
abbrev pub KidOf : Place → View → Place → Type 0
KidOf e v d = Kid (v.kind - 1) e.high v.children d

module _ {n : ℕ} (e : Place) {v : View} (s : Sound n e.low e.high v) where
  pub kids-rising : Rising e.high v.children
  kids-rising = rising-within e.low s.children_rise s.children_within

  pub kids-pick : (k : ℕ) (d : Place) → pick k (kids e v) ≡ some d → KidOf e v d
  unfolding kids
  kids-pick k d h = pick-kid (v.kind - 1) e.high k v.children d kids-rising h

  pub kids-mem : (d : Place) → Memᴰ d (kids e v) → KidOf e v d
  unfolding kids
  kids-mem d m = places-kids (v.kind - 1) e.high v.children d kids-rising m

  pub kids_picked : (k : ℕ) (d : Place) → KidOf e v d → d.low ≤ k → k ≤ d.high → pick k (kids e v) ≡ some d
  unfolding kids
  kids_picked k d x p q = kid-pick (v.kind - 1) e.high k v.children d kids-rising x p q

  pub kids-same : (k j : ℕ) (d : Place) → pick k (kids e v) ≡ some d → d.low ≤ j → j ≤ d.high → pick j (kids e v) ≡ some d
  kids-same k j d h p q = kids_picked j d (kids-pick k d h) p q

  pub kids-names : (d : Place) → KidOf e v d → Names n (below_of d)
  kids-names d x =
      names_true n (record { key = d.low; value = below_of d })
      (all-find (names_pages n) d.low v.children (below_of d) s.names x.entry)

  pub kids-within : (d : Place) → KidOf e v d → (e.low ≤ d.low) × (d.high ≤ e.high)
  kids-within d x = (
    between-low e.low e.high d.low
        (all-mem (between e.low e.high) d.low (keys v.children) s.children_within (kid-key x)),
    x.within,
  )

  pub kids-want : (d : Place) → is_leaf v ≡ false → KidOf e v d → (1 ≤ d.want) × (suc d.want ≡ v.kind)
  kids-want d i x =
      let w = x.wants in
      let a = s.kind_from in
      let b : v.kind ≢ 1 = inner-kind v i in
      (omega arith, omega arith)

  pub kids-total : (k : ℕ) → is_leaf v ≡ false → e.low ≤ k → k ≤ e.high → (d : Place) × (pick k (kids e v) ≡ some d)
  unfolding kids
  kids-total k i p q =
      pick_total (v.kind - 1) e.high k e.low v.children kids-rising
      (starts-mem e.low v.children (s.starts i)) p q

  -- a place d that asks for a part of this, cut where keys stand, leads on in the same way
  pub kids_part : (d : Place) (k : ℕ) → mem d.low (keys v.children) ≡ true → d.high ≤ e.high
      → (d.high ≡ e.high) ⊎ (mem (suc d.high) (keys v.children) ≡ true) → d.low ≤ k → k ≤ d.high
      → pick k (kids d (cut_view d.low d.high v)) ≡ pick k (kids e v)
  unfolding kids cut_view
  kids_part d k m h t p q =
      pick-cut (v.kind - 1) e.high d.low d.high k v.children kids-rising
      record { from = m; within = h; to = t } p q
