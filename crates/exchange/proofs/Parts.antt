-- The judgement of a file, section by section: where each begins, that a section without a bad item lies within the file, and
-- what is left to judge after it. Assumes nothing.
use Rattle.std.specs.Prelude.{Ok, Err}
use mathlib.Core.Path.{◌≡◌, refl, sym, ap, ◌∙◌}
use mathlib.Core.Bool.{Bool, true, false}
use mathlib.Core.List.{List}
use Prim.Native.Nat.{ℕ, zero, suc, ◌+◌, ◌*◌, ◌≤◌}
use native.Mathlib.Nat.{mul-zero, mul-suc}
use native.Mathlib.Omega.{arith}
use borrow.Author.Tests.{leb-true, eqb-true, eq-eqb, ne_eqb}
use lib.Dec.{leb, eqb}
use lib.ListN.{length}
use Rattle.fields.specs.Field.{le_at}
use Rattle.exchange.specs.Item.{size, count_width, item_at}
use Rattle.exchange.specs.Judged.{Judged, within, follows, items_judged, section_judged, after, meters_at, certs_at, end_at, and_then, end_judged, certs_judged, meters_judged, judged, counted, checked}
use Rattle.exchange.specs.declared.Section.{Section}

-- ── Bad is not fine ─────────────────────────────────────────────────────────────────────────────────────────────

pub bad_not_fine : {at : ℕ} → ◌≡◌ {A = Judged} (Err at) (Ok tt) → ⊥
bad_not_fine h = let z : ◌≡◌ {A = ℕ} 0 1 = cc in omega arith

-- ── A section without a bad item ────────────────────────────────────────────────────────────────────────────────

-- its items one by one: the first follows, and so on
pub fine_first : (s : Section) (f : List ℕ) (over n at used last : ℕ) → items_judged s f over (suc n) at used last ≡ Ok tt
    → (at + size s ≤ length f) × (follows over used last (item_at s f at).place (item_at s f at).number ≡ true)
    × (items_judged s f over n (at + size s) ((item_at s f at).place + 1) (item_at s f at).number ≡ Ok tt)
unfolding items_judged within
fine_first s f over n at used last h =
    go (leb (at + size s) (length f)) refl (follows over used last (item_at s f at).place (item_at s f at).number) refl
  where
    go : (a : Bool) → leb (at + size s) (length f) ≡ a → (b : Bool) → follows over used last (item_at s f at).place (item_at s f at).number ≡ b
        → (at + size s ≤ length f) × (follows over used last (item_at s f at).place (item_at s f at).number ≡ true)
        × (items_judged s f over n (at + size s) ((item_at s f at).place + 1) (item_at s f at).number ≡ Ok tt)
    go true e true t = (leb-true (at + size s) (length f) e, t, rw (items_judged, e, t) at h)
    go true e false t = absurd (bad_not_fine (rw (items_judged, e, t) at h))
    go false e b t = absurd (bad_not_fine (rw (items_judged, e) at h))

pub fine_last : (s : Section) (f : List ℕ) (over at used last : ℕ) → items_judged s f over zero at used last ≡ Ok tt → used ≡ over
unfolding items_judged
fine_last s f over at used last h = go (eqb used over) refl
  where
    go : (a : Bool) → eqb used over ≡ a → used ≡ over
    go true e = eqb-true used over e
    go false e = absurd (bad_not_fine (rw (items_judged, e) at h))

pub fine_count : (s : Section) (f : List ℕ) (over used at : ℕ) → section_judged s f over used at ≡ Ok tt
    → (at + count_width ≤ length f) × (items_judged s f over (le_at f at count_width) (at + count_width) used 0 ≡ Ok tt)
unfolding section_judged within
fine_count s f over used at h = go (leb (at + count_width) (length f)) refl
  where
    go : (a : Bool) → leb (at + count_width) (length f) ≡ a → (at + count_width ≤ length f) × (items_judged s f over (le_at f at count_width) (at + count_width) used 0 ≡ Ok tt)
    go true e = (leb-true (at + count_width) (length f) e, rw (section_judged, e) at h)
    go false e = absurd (bad_not_fine (rw (section_judged, e) at h))

-- it lies within the file
fine_within : (s : Section) (f : List ℕ) (over n at used last : ℕ) → at ≤ length f → items_judged s f over n at used last ≡ Ok tt
    → at + size s * n ≤ length f
fine_within s f over zero at used last p h = rw mul-zero (omega arith)
fine_within s f over (suc n) at used last p h =
    let r = fine_first s f over n at used last h in
    rw mul-suc (omega (arith, fine_within s f over n (at + size s) ((item_at s f at).place + 1) (item_at s f at).number r.0 r.2))

pub fine_after : (s : Section) (f : List ℕ) (over used at : ℕ) → section_judged s f over used at ≡ Ok tt → after s f at ≤ length f
unfolding after
fine_after s f over used at h =
    let r = fine_count s f over used at h in
    fine_within s f over (le_at f at count_width) (at + count_width) used 0 r.0 r.1

-- ── What is left to judge ───────────────────────────────────────────────────────────────────────────────────────

pub then_fine : {j : Judged} (k : Judged) → j ≡ Ok tt → and_then j k ≡ k
unfolding and_then
then_fine k e = rw (e, and_then)

pub then_bad : {j : Judged} (k : Judged) (at : ℕ) → j ≡ Err at → and_then j k ≡ Err at
unfolding and_then
then_bad k at e = rw (e, and_then)

module _ (f : List ℕ) where
  -- where a section begins, as it was found
  pub meters_at_by : {m : ℕ} → m ≡ after Section.Models f 0 → m ≡ meters_at f
  unfolding meters_at
  meters_at_by e = e

  pub certs_at_by : {m n : ℕ} → m ≡ meters_at f → n ≡ after Section.Meters f m → n ≡ certs_at f
  unfolding certs_at
  certs_at_by e h = h ∙ ap (after Section.Meters f) e

  pub end_at_by : {m n : ℕ} → m ≡ certs_at f → n ≡ after Section.Certificates f m → n ≡ end_at f
  unfolding end_at
  end_at_by e h = h ∙ ap (after Section.Certificates f) e

  pub end-surplus : (end_at f ≡ length f → ⊥) → end_judged f ≡ Err (end_at f)
  unfolding end_judged
  end-surplus h = rw (end_judged, ne_eqb (end_at f) (length f) h)

  pub end_fine : end_at f ≡ length f → end_judged f ≡ Ok tt
  unfolding end_judged
  end_fine h = rw (end_judged, eq-eqb (end_at f) (length f) h)

  pub certs_by : {j : Judged} (over at : ℕ) → over ≡ le_at f (meters_at f) count_width → at ≡ certs_at f → j ≡ section_judged Section.Certificates f over 0 at
      → certs_judged f ≡ and_then j (end_judged f)
  unfolding certs_judged
  certs_by over at e a h = sym (rw (h, e, a))

  pub meters_by : {j : Judged} (over at : ℕ) → over ≡ le_at f 0 count_width → at ≡ meters_at f → j ≡ section_judged Section.Meters f over 0 at
      → meters_judged f ≡ and_then j (certs_judged f)
  unfolding meters_judged
  meters_by over at e a h = sym (rw (h, e, a))

  pub models_by : {j : Judged} → j ≡ section_judged Section.Models f 1 1 0 → judged f ≡ and_then j (meters_judged f)
  unfolding judged
  models_by h = sym (rw h)

  pub counted_bad : (at : ℕ) → counted f (Err at) ≡ Err at
  unfolding counted
  counted_bad at = refl

  pub counted_fine : counted f (Ok tt) ≡ Ok (le_at f (certs_at f) count_width)
  unfolding counted
  counted_fine = refl

-- ── What the check answers, as it goes on ───────────────────────────────────────────────────────────────────────

module _ (f : List ℕ) where
  pub check_as : {j : Judged} → judged f ≡ j → checked f ≡ counted f j
  unfolding checked
  check_as e = ap (counted f) e

  pub past_models : Ok tt ≡ section_judged Section.Models f 1 1 0 → judged f ≡ meters_judged f
  past_models h = models_by f h ∙ then_fine (meters_judged f) refl

  pub stops_models : (at : ℕ) → Err at ≡ section_judged Section.Models f 1 1 0 → checked f ≡ Err at
  stops_models at h = check_as (models_by f h ∙ then_bad (meters_judged f) at refl) ∙ counted_bad f at

  -- the meters, by how many models there are and where they begin
  module _ (over at : ℕ) (e : over ≡ le_at f 0 count_width) (b : at ≡ meters_at f) (models : judged f ≡ meters_judged f) where
    pub past_meters : Ok tt ≡ section_judged Section.Meters f over 0 at → judged f ≡ certs_judged f
    past_meters h = models ∙ meters_by f over at e b h ∙ then_fine (certs_judged f) refl

    pub stops_meters : (bad : ℕ) → Err bad ≡ section_judged Section.Meters f over 0 at → checked f ≡ Err bad
    stops_meters bad h = check_as (models ∙ meters_by f over at e b h ∙ then_bad (certs_judged f) bad refl) ∙ counted_bad f bad

  -- the certificates, by how many meters there are and where they begin
  module _ (over at : ℕ) (e : over ≡ le_at f (meters_at f) count_width) (b : at ≡ certs_at f) (meters : judged f ≡ certs_judged f) where
    pub past_certs : Ok tt ≡ section_judged Section.Certificates f over 0 at → judged f ≡ end_judged f
    past_certs h = meters ∙ certs_by f over at e b h ∙ then_fine (end_judged f) refl

    pub stops_certs : (bad : ℕ) → Err bad ≡ section_judged Section.Certificates f over 0 at → checked f ≡ Err bad
    stops_certs bad h = check_as (meters ∙ certs_by f over at e b h ∙ then_bad (end_judged f) bad refl) ∙ counted_bad f bad
