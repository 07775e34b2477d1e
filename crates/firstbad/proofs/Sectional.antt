-- The first bad item of a section: what stands before it follows item by item. Assumes nothing.
use Rattle.std.specs.Prelude.{Ok, Err}
use Prim.Native.Nat.{ℕ, zero, suc, ◌+◌, ◌*◌, ◌≤◌, ◌<◌}
use native.Mathlib.Nat.{mul-zero, mul-suc, add-zero}
use native.Mathlib.Omega.{arith}
use mathlib.Core.Path.{◌≡◌, refl, sym, ap, ◌∙◌}
use mathlib.Core.Logic.{◌⊎◌, inl, inr}
use mathlib.Core.Bool.{Bool, true, false}
use mathlib.Core.List.{List}
use borrow.Author.Tests.{leb-true, leb-false, eqb-false}
use lib.Dec.{leb, eqb}
use lib.ListN.{length}
use Rattle.fields.specs.Field.{le_at}
use Rattle.exchange.specs.Item.{size, count_width, item_at}
use Rattle.exchange.specs.Judged.{Judged, within, follows, items_judged, section_judged}
use Rattle.exchange.specs.Told.{items_from}
use Rattle.exchange.specs.declared.Section.{Section}
use Rattle.exchange.proofs.Steps.{Followed, followed}
use Rattle.firstbad.proofs.Prefixes.{Prefix}

same_place : (x y : ℕ) → ◌≡◌ {A = Judged} (Err x) (Err y) → x ≡ y
same_place x y h = cc

fine_not_bad : (x : ℕ) → ◌≡◌ {A = Judged} (Ok tt) (Err x) → ⊥
fine_not_bad x h = let z : ◌≡◌ {A = ℕ} 0 1 = cc in omega arith

-- what is wrong behind j items: the next one, or that the section ends
pub data Wrong (s : Section) (f : List ℕ) (over n : ℕ) (place j u l : ℕ) : Type 0 where
  cut : j < n → length f < place + size s → Wrong s f over n place j u l
  strays : j < n → follows over u l (item_at s f place).place (item_at s f place).number ≡ false → Wrong s f over n place j u l
  bare : j ≡ n → (u ≡ over → ⊥) → Wrong s f over n place j u l

pub record Stops (s : Section) (f : List ℕ) (over n at used last place : ℕ) : Type 0 where
  pub j : ℕ
  pub u : ℕ
  pub l : ℕ
  pub is : place ≡ at + size s * j
  pub lies : place ≤ length f
  pub so_far : Prefix over used last (items_from s f j at) u l
  pub wrong : Wrong s f over n place j u l

module _ (s : Section) (f : List ℕ) (over : ℕ) where
  at_once : (n at used last place : ℕ) → at ≤ length f → at ≡ place → Wrong s f over n place 0 used last → Stops s f over n at used last place
  unfolding Prefix items_from
  at_once n at used last place h e w = record {
    j = 0;
    u = used;
    l = last;
    is = sym e ∙ rw (mul-zero, add-zero);
    lies = omega (arith, h, e);
    so_far = (refl, refl);
    wrong = w;
  }

  later-wrong : (n place j u l : ℕ) → Wrong s f over n place j u l → Wrong s f over (suc n) place (suc j) u l
  later-wrong n place j u l (cut h c) = cut (omega (arith, h)) c
  later-wrong n place j u l (strays h c) = strays (omega (arith, h)) c
  later-wrong n place j u l (bare e c) = bare (ap suc e) c

  later : (n at used last place : ℕ) → Followed over used last (item_at s f at).place (item_at s f at).number
      → Stops s f over n (at + size s) ((item_at s f at).place + 1) (item_at s f at).number place → Stops s f over (suc n) at used last place
  unfolding Prefix items_from
  later n at used last place h r = record {
    j = suc r.j;
    u = r.u;
    l = r.l;
    is = omega (arith, r.is, mul-suc (size s) r.j);
    lies = r.lies;
    so_far = (h, r.so_far);
    wrong = later-wrong n place r.j r.u r.l r.wrong;
  }

  pub stops : (n at used last place : ℕ) → at ≤ length f → items_judged s f over n at used last ≡ Err place → Stops s f over n at used last place
  unfolding items_judged within
  stops zero at used last place h b = go (eqb used over) refl
    where
      go : (t : Bool) → eqb used over ≡ t → Stops s f over zero at used last place
      go true e = absurd (fine_not_bad place (rw (items_judged, e) at b))
      go false e = at_once zero at used last place h (same_place at place (rw (items_judged, e) at b)) (bare refl (eqb-false used over e))
  stops (suc n) at used last place h b =
      go (leb (at + size s) (length f)) refl (follows over used last (item_at s f at).place (item_at s f at).number) refl
      (stops n (at + size s) ((item_at s f at).place + 1) (item_at s f at).number place)
    where
      go : (x : Bool) → leb (at + size s) (length f) ≡ x → (y : Bool) → follows over used last (item_at s f at).place (item_at s f at).number ≡ y
          → (at + size s ≤ length f → items_judged s f over n (at + size s) ((item_at s f at).place + 1) (item_at s f at).number ≡ Err place
          → Stops s f over n (at + size s) ((item_at s f at).place + 1) (item_at s f at).number place)
          → Stops s f over (suc n) at used last place
      go true e true t ih =
          later n at used last place (followed over used last (item_at s f at).place (item_at s f at).number t)
          (ih (leb-true (at + size s) (length f) e) (rw (items_judged, e, t) at b))
      go true e false t ih =
          let q = same_place at place (rw (items_judged, e, t) at b) in
          at_once (suc n) at used last place h q
          (strays (omega arith) (ap (λ (k : ℕ). follows over used last (item_at s f k).place (item_at s f k).number) (sym q) ∙ t))
      go false e y t ih =
          let q = same_place at place (rw (items_judged, e) at b) in
          at_once (suc n) at used last place h q (cut (omega arith) (omega (arith, q, leb-false (at + size s) (length f) e)))

  -- a section: its count is cut off, or it stops behind some of its items
  pub section_stops : (used at place : ℕ) → section_judged s f over used at ≡ Err place
      → ((place ≡ at) × (length f < at + count_width)) ⊎ Stops s f over (le_at f at count_width) (at + count_width) used 0 place
  unfolding section_judged within
  section_stops used at place b = go (leb (at + count_width) (length f)) refl
    where
      go : (t : Bool) → leb (at + count_width) (length f) ≡ t
          → ((place ≡ at) × (length f < at + count_width)) ⊎ Stops s f over (le_at f at count_width) (at + count_width) used 0 place
      go true e = inr (stops (le_at f at count_width) (at + count_width) used 0 place (leb-true (at + count_width) (length f) e) (rw (section_judged, e) at b))
      go false e = inl (sym (same_place at place (rw (section_judged, e) at b)), leb-false (at + count_width) (length f) e)
