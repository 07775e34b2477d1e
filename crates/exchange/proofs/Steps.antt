-- The judgement of a section, step by step: the item that ends it, the next one, and what it leaves. Assumes nothing.
use Rattle.std.specs.Prelude.{Ok, Err}
use mathlib.Core.Path.{◌≡◌, refl, sym}
use mathlib.Core.Logic.{◌⊎◌, inl, inr}
use mathlib.Core.Bool.{Bool, true, false, ◌&&◌}
use mathlib.Core.List.{List, [], ◌∷◌}
use Prim.Native.Nat.{ℕ, zero, suc, ◌+◌, ◌-◌, ◌*◌, ◌≤◌, ◌<◌}
use native.Mathlib.Omega.{arith}
use borrow.Author.Tests.{ltb-true, lt-ltb, leb-true, le-leb, lt-leb, eqb-true, eq-eqb, ne_eqb}
use lib.Dec.{leb, ltb, eqb}
use lib.ListN.{length}
use Rattle.fields.specs.Field.{le_at}
use Rattle.rules.specs.Test.{every}
use Rattle.rules.proofs.Entries.Tests.{and_left, and_right, or_cases, every_true}
use Rattle.exchange.specs.Item.{size, count_width, item_at}
use Rattle.exchange.specs.Judged.{within, is_above, follows, items_judged, section_judged, after}
use Rattle.exchange.specs.declared.Section.{Section}

-- ── One item ────────────────────────────────────────────────────────────────────────────────────────────────────

module _ (over used last place number : ℕ) where
  pub follows_next : 0 < number → place < over → place ≡ used → follows over used last place number ≡ true
  unfolding follows every is_above
  follows_next a b c = rw (lt-ltb 0 number a, lt-ltb place over b, le-leb used place (omega arith), le-leb place used (omega arith))

  pub follows_same : 0 < number → place < over → place + 1 ≡ used → follows over used last place number ≡ ltb last number
  unfolding follows every is_above
  follows_same a b c = rw (lt-ltb 0 number a, lt-ltb place over b, lt-leb used place (omega arith), eq-eqb used (place + 1) (omega arith), le-leb place used (omega arith)) (go (ltb last number))
    where
      go : (t : Bool) → (t && true) ≡ t
      go true = refl
      go false = refl

-- and what an item that follows says
pub record Followed (over used last place number : ℕ) : Type 0 where
  pub real : 0 < number
  pub inside : place < over
  pub next : (place ≡ used) ⊎ ((place + 1 ≡ used) × (last < number))

pub followed : (over used last place number : ℕ) → follows over used last place number ≡ true → Followed over used last place number
unfolding follows every is_above
followed over used last place number h =
    let t = every_true (ltb 0 number ∷ ltb place over ∷ is_above used last place number ∷ leb place used ∷ []) h in
    let p = leb-true place used t.1.1.1.0 in
    record {
      real = ltb-true 0 number t.0;
      inside = ltb-true place over t.1.0;
      next = go (or_cases (leb used place) (eqb used (place + 1) && ltb last number) t.1.1.0) p;
    }
  where
    go : (leb used place ≡ true) ⊎ ((eqb used (place + 1) && ltb last number) ≡ true) → place ≤ used → (place ≡ used) ⊎ ((place + 1 ≡ used) × (last < number))
    go (inl e) p = inl (omega (arith, leb-true used place e))
    go (inr e) p =
        inr (omega (arith, eqb-true used (place + 1) (and_left (eqb used (place + 1)) (ltb last number) e)), ltb-true last number (and_right (eqb used (place + 1)) (ltb last number) e))

-- ── The items of a section ──────────────────────────────────────────────────────────────────────────────────────

module _ (s : Section) (f : List ℕ) (over left at used last : ℕ) where
  pub items-end : left ≡ 0 → used ≡ over → items_judged s f over left at used last ≡ Ok tt
  unfolding items_judged
  items-end e h = rw (e, items_judged, eq-eqb used over h)

  pub items-bare : left ≡ 0 → (used ≡ over → ⊥) → items_judged s f over left at used last ≡ Err at
  unfolding items_judged
  items-bare e h = rw (e, items_judged, ne_eqb used over h)

  pub items-cut : 0 < left → length f < at + size s → items_judged s f over left at used last ≡ Err at
  unfolding items_judged within
  items-cut p h = go left p
    where
      go : (n : ℕ) → 0 < n → items_judged s f over n at used last ≡ Err at
      go zero q = absurd (omega arith)
      go (suc n) q = rw (items_judged, lt-leb (at + size s) (length f) h)

  module _ (h : at + size s ≤ length f) (p : 0 < left) where
    bad_item : follows over used last (item_at s f at).place (item_at s f at).number ≡ false → items_judged s f over left at used last ≡ Err at
    unfolding items_judged within
    bad_item t = go left p
      where
        go : (n : ℕ) → 0 < n → items_judged s f over n at used last ≡ Err at
        go zero q = absurd (omega arith)
        go (suc n) q = rw (items_judged, le-leb (at + size s) (length f) h, t)

    next-item : follows over used last (item_at s f at).place (item_at s f at).number ≡ true
        → items_judged s f over left at used last ≡ items_judged s f over (left - 1) (at + size s) ((item_at s f at).place + 1) (item_at s f at).number
    unfolding items_judged within
    next-item t = go left p
      where
        go : (n : ℕ) → 0 < n → items_judged s f over n at used last ≡ items_judged s f over (n - 1) (at + size s) ((item_at s f at).place + 1) (item_at s f at).number
        go zero q = absurd (omega arith)
        go (suc n) q =
            let e : suc n - 1 ≡ n = omega arith in
            rw (items_judged, le-leb (at + size s) (length f) h, t, e)

  -- the item at `at`, as it was read
  module _ (w place number : ℕ) (ew : w ≡ size s) (ep : place ≡ (item_at s f at).place) (en : number ≡ (item_at s f at).number) (h : at + w ≤ length f) (p : 0 < left) where
    pub items_bad : follows over used last place number ≡ false → items_judged s f over left at used last ≡ Err at
    items_bad t = bad_item (omega (arith, ew)) p (rw (sym ep, sym en) t)

    pub items_on : follows over used last place number ≡ true → items_judged s f over left at used last ≡ items_judged s f over (left - 1) (at + w) (place + 1) number
    items_on t = rw (ew, ep, en) (next-item (omega (arith, ew)) p (rw (sym ep, sym en) t))

-- ── A section ───────────────────────────────────────────────────────────────────────────────────────────────────

pub after_is : (s : Section) (f : List ℕ) (at : ℕ) → after s f at ≡ at + count_width + size s * le_at f at count_width
unfolding after
after_is s f at = refl

module _ (s : Section) (f : List ℕ) (over used at : ℕ) where
  pub section_cut : length f < at + count_width → section_judged s f over used at ≡ Err at
  unfolding section_judged within
  section_cut h = rw (section_judged, lt-leb (at + count_width) (length f) h)

  pub section_on : at + count_width ≤ length f → section_judged s f over used at ≡ items_judged s f over (le_at f at count_width) (at + count_width) used 0
  unfolding section_judged within
  section_on h = rw (section_judged, le-leb (at + count_width) (length f) h)
