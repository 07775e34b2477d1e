-- The place of the first bad item: everything before it could still begin a good file, with it nothing could. Assumes nothing.
use Rattle.std.specs.Prelude.{Ok, Err}
use Prim.Native.Nat.{ℕ, suc, ◌+◌, ◌*◌, ◌^◌, ◌≤◌, ◌<◌}
use native.Mathlib.Omega.{arith}
use mathlib.Core.Path.{◌≡◌, refl, sym, ap, ◌∙◌, subst}
use mathlib.Core.Logic.{◌⊎◌, inl, inr}
use mathlib.Core.Bool.{Bool, true, false}
use mathlib.Core.List.{List, [], ◌++◌, append_assoc}
use borrow.Author.Tests.{eqb-false}
use lib.Dec.{eqb}
use lib.ListN.{length, take, drop, length-drop, length-append}
use lib.Seq.{take-length}
use Rattle.fields.specs.Field.{le_at, Bytes}
use Rattle.fields.proofs.Field.{le_at-bound}
use Rattle.rules.proofs.Entries.Tests.{not_both}
use Rattle.exchange.specs.Item.{Item, size, count_width, item_at, section_bytes}
use Rattle.exchange.specs.Judged.{Judged, follows, after, section_judged, meters_at, certs_at, end_at, and_then, end_judged, certs_judged, meters_judged, judged}
use Rattle.exchange.specs.Told.{items_in, items_from}
use Rattle.exchange.specs.declared.Section.{Section}
use Rattle.exchange.proofs.Parts.{fine_after}
use Rattle.exchange.proofs.Runs.{length_from, section_lies}
use Rattle.exchange.proofs.Chains.{Chain, followed_follows}
use Rattle.exchange.proofs.Sections.{section_chain}
use Rattle.exchange.proofs.Accepts.{all_fine}
use Rattle.firstbad.specs.FirstBad.{GoodFile, start_of, count_of, byte_of, all_of, first_of, SameBefore, Begins, Could, First, count, item, end, surplus, FirstBad}
use Rattle.firstbad.proofs.Prefixes.{Prefix, next-follows, ends_used}
use Rattle.firstbad.proofs.Sectional.{Wrong, cut, strays, bare, Stops, section_stops}
use Rattle.firstbad.proofs.Goods.{made, Fit, Follow, made-good, good_fine, nothing-more}
use Rattle.firstbad.proofs.Could.{fits-from, could_models, models_chain, models-fit, could_meters, meters_chain, meters-fit, could_certs}

take_all : (xs : List Item) (n : ℕ) → length xs ≡ n → take n xs ≡ xs
take_all xs n e = ap (λ (k : ℕ). take k xs) (sym e) ∙ take-length xs

-- ── A section ───────────────────────────────────────────────────────────────────────────────────────────────────

-- by how what stands before could begin, and how a good file's section follows
module _ (s : Section) (f : List ℕ) (over used : ℕ) (starts : start_of s f ≤ length f)
    (could : (j u l : ℕ) → start_of s f + size s * j ≤ length f → Prefix over used 0 (first_of s f j) u l → Could s j f)
    (chain : (j : ℕ) (g : List ℕ) → Begins s j f g → Chain over used 0 (all_of s g)) where
  none-goes_on : (j u l at : ℕ) → at ≡ byte_of s f j → Prefix over used 0 (first_of s f j) u l
      → follows over u l (item_at s f at).place (item_at s f at).number ≡ false → (g : List ℕ) → Begins s (suc j) f g → ⊥
  none-goes_on j u l at e p t g h =
      let i = item_at s f (byte_of s f j) in
      not_both (followed_follows over u l i.place i.number (next-follows s f over j (start_of s f + count_width) used 0 (all_of s g) u l (chain (suc j) g h) h.items p))
      (subst (λ (k : ℕ). follows over u l (item_at s f k).place (item_at s f k).number ≡ false) e t)

  none-ends : (j u l : ℕ) → Prefix over used 0 (first_of s f j) u l → (u ≡ over → ⊥) → (g : List ℕ) → Begins s j f g → length (all_of s g) ≡ j → ⊥
  none-ends j u l p n g h e =
      n (ends_used over used 0 (first_of s f j) u l
      (subst (Chain over used 0) (sym (take_all (all_of s g) j e) ∙ h.items) (chain j g h)) p)

  stopped : (at j u l : ℕ) → at ≡ byte_of s f j → at ≤ length f → Prefix over used 0 (first_of s f j) u l → Wrong s f over (count_of s f) at j u l → First f at
  stopped at j u l e h p (cut m c) = item s j e m (could j u l (omega (arith, h, e)) p) (inl c)
  stopped at j u l e h p (strays m t) = item s j e m (could j u l (omega (arith, h, e)) p) (inr (none-goes_on j u l at e p t))
  stopped at j u l e h p (bare m n) =
      end s (e ∙ ap (byte_of s f) m)
      (subst (λ (k : ℕ). Could s k f) m (could j u l (omega (arith, h, e)) p))
      (subst (λ (k : ℕ). (g : List ℕ) → Begins s k f g → length (all_of s g) ≡ k → ⊥) m (none-ends j u l p n))

  none_yet : Prefix over used 0 (first_of s f 0) used 0
  unfolding Prefix items_from
  none_yet = (refl, refl)

  pub first_in : (at : ℕ) → section_judged s f over used (start_of s f) ≡ Err at → First f at
  first_in at b = go (section_stops s f over used (start_of s f) at b)
    where
      go : ((at ≡ start_of s f) × (length f < start_of s f + count_width)) ⊎ Stops s f over (count_of s f) (start_of s f + count_width) used 0 at → First f at
      go (inl c) = count s c.0 (omega (arith, c.0, c.1)) (could 0 used 0 (omega (arith, starts)) none_yet)
      go (inr r) = stopped at r.j r.u r.l r.is r.lies r.so_far r.wrong

-- ── How a good file's sections follow ───────────────────────────────────────────────────────────────────────────

same-models : (g : List ℕ) → le_at g 0 count_width ≡ length (all_of Section.Models g)
unfolding start_of items_in
same-models g = sym (length_from Section.Models g (le_at g 0 count_width) (0 + count_width))

same-meters : (g : List ℕ) → le_at g (meters_at g) count_width ≡ length (all_of Section.Meters g)
unfolding start_of items_in
same-meters g = sym (length_from Section.Meters g (le_at g (meters_at g) count_width) (meters_at g + count_width))

module _ (f : List ℕ) where
  chain_models : (j : ℕ) (g : List ℕ) → Begins Section.Models j f g → Chain 1 1 0 (all_of Section.Models g)
  unfolding start_of
  chain_models j g h = section_chain Section.Models g 1 1 0 (all_fine g (good_fine g h.good)).models

  chain_meters : (j : ℕ) (g : List ℕ) → Begins Section.Meters j f g → Chain (length (all_of Section.Models f)) 0 0 (all_of Section.Meters g)
  unfolding SameBefore start_of
  chain_meters j g h =
      subst (λ (k : ℕ). Chain k 0 0 (all_of Section.Meters g)) (same-models g ∙ ap (λ (l : List Item). length l) h.before)
      (section_chain Section.Meters g (le_at g 0 count_width) 0 (meters_at g) (all_fine g (good_fine g h.good)).meters)

  chain_certs : (j : ℕ) (g : List ℕ) → Begins Section.Certificates j f g → Chain (length (all_of Section.Meters f)) 0 0 (all_of Section.Certificates g)
  unfolding SameBefore start_of
  chain_certs j g h =
      subst (λ (k : ℕ). Chain k 0 0 (all_of Section.Certificates g)) (same-meters g ∙ ap (λ (l : List Item). length l) h.before.1)
      (section_chain Section.Certificates g (le_at g (meters_at g) count_width) 0 (certs_at g) (all_fine g (good_fine g h.good)).certs)

-- ── The file ────────────────────────────────────────────────────────────────────────────────────────────────────

-- two judgements one after the other, the first of them fine or bad
then_cases : (j k : Judged) (at : ℕ) → and_then j k ≡ Err at → (j ≡ Err at) ⊎ ((j ≡ Ok tt) × (k ≡ Err at))
unfolding and_then
then_cases (Ok tt) k at h = inr (refl, h)
then_cases (Err x) k at h = inl h

made-append : (a b c : List Item) (more : List ℕ) → made a b c [] ++ more ≡ made a b c more
unfolding made
made-append a b c more = rw (append_assoc, append_assoc, append_assoc)

module _ (f : List ℕ) (y : Bytes f) (small : length f < 2 ^ 32) where
  first-models : (at : ℕ) → section_judged Section.Models f 1 1 0 ≡ Err at → First f at
  unfolding start_of
  first-models at h =
      first_in Section.Models f 1 1 (omega arith) (λ j u l lies p. could_models f y small j u l p) (chain_models f) at h

  module _ (fine : section_judged Section.Models f 1 1 0 ≡ Ok tt) where
    first-meters : (at : ℕ) → section_judged Section.Meters f (le_at f 0 count_width) 0 (meters_at f) ≡ Err at → First f at
    unfolding start_of meters_at
    first-meters at h =
        first_in Section.Meters f (length (all_of Section.Models f)) 0 (fine_after Section.Models f 1 1 0 fine) (could_meters f y small fine) (chain_meters f) at
        (ap (λ (k : ℕ). section_judged Section.Meters f k 0 (meters_at f)) (sym (same-models f)) ∙ h)

    module _ (fine' : section_judged Section.Meters f (le_at f 0 count_width) 0 (meters_at f) ≡ Ok tt) where
      first-certs : (at : ℕ) → section_judged Section.Certificates f (le_at f (meters_at f) count_width) 0 (certs_at f) ≡ Err at → First f at
      unfolding start_of certs_at
      first-certs at h =
          first_in Section.Certificates f (length (all_of Section.Meters f)) 0 (fine_after Section.Meters f (le_at f 0 count_width) 0 (meters_at f) fine')
          (could_certs f y small fine fine') (chain_certs f) at
          (ap (λ (k : ℕ). section_judged Section.Certificates f k 0 (certs_at f)) (sym (same-meters f)) ∙ h)

      -- ── A surplus byte ──────────────────────────────────────────────────────────────────────────────────────────────

      module _ (fine'' : section_judged Section.Certificates f (le_at f (meters_at f) count_width) 0 (certs_at f) ≡ Ok tt) where
        abbrev a : List Item
        a = all_of Section.Models f

        abbrev b : List Item
        b = all_of Section.Meters f

        abbrev c : List Item
        c = all_of Section.Certificates f

        abbrev rest : List ℕ
        rest = drop (end_at f) f

        abbrev g : List ℕ
        g = made a b c []

        fit : Fit a b c
        unfolding start_of items_in
        fit =
            let n = le_at f (certs_at f) count_width in
            record {
              models = models-fit f y small fine;
              meters = meters-fit f y small fine fine';
              certs = fits-from Section.Certificates f y n (certs_at f + count_width);
              models_few = omega (arith, same-models f, le_at-bound f 0 count_width y);
              meters_few = omega (arith, same-meters f, le_at-bound f (meters_at f) count_width y);
              certs_few = omega (arith, length_from Section.Certificates f n (certs_at f + count_width), le_at-bound f (certs_at f) count_width y);
            }

        follow : Follow a b c
        unfolding start_of
        follow = record {
          models = models_chain f y small fine;
          meters = meters_chain f y small fine fine';
          certs = subst (λ (k : ℕ). Chain k 0 0 c) (same-meters f) (section_chain Section.Certificates f (le_at f (meters_at f) count_width) 0 (certs_at f) fine'');
        }

        lies : f ≡ made a b c rest
        unfolding made start_of meters_at certs_at end_at
        lies =
            section_lies Section.Models f y 0 (fine_after Section.Models f 1 1 0 fine)
            ∙ ap (λ (l : List ℕ). section_bytes Section.Models a ++ l)
            (section_lies Section.Meters f y (meters_at f) (fine_after Section.Meters f (le_at f 0 count_width) 0 (meters_at f) fine')
            ∙ ap (λ (l : List ℕ). section_bytes Section.Meters b ++ l)
            (section_lies Section.Certificates f y (certs_at f) (fine_after Section.Certificates f (le_at f (meters_at f) count_width) 0 (certs_at f) fine'')))

        first-surplus : (at : ℕ) → end_judged f ≡ Err at → First f at
        unfolding end_judged end_at
        first-surplus at h = go (eqb (end_at f) (length f)) refl
          where
            bad-fine : ◌≡◌ {A = Judged} (Ok tt) (Err at) → ⊥
            bad-fine e = let z : ◌≡◌ {A = ℕ} 0 1 = cc in omega arith

            same : (x : ℕ) → ◌≡◌ {A = Judged} (Err x) (Err at) → x ≡ at
            same x e = cc

            go : (t : Bool) → eqb (end_at f) (length f) ≡ t → First f at
            go true e = absurd (bad-fine (rw (end_judged, e) at h))
            go false e =
                let q = same (end_at f) (rw (end_judged, e) at h) in
                let whole = lies ∙ sym (made-append a b c rest) in
                let m = ap (λ (l : List ℕ). length l) whole ∙ length-append g rest in
                let n = length-drop (end_at f) f in
                let o = fine_after Section.Certificates f (le_at f (meters_at f) count_width) 0 (certs_at f) fine'' in
                let d = eqb-false (end_at f) (length f) e in
                surplus g rest whole (omega (arith, q, m, n, o)) (omega (arith, n, o, d)) (made-good a b c fit follow)
                (λ more good. nothing-more a b c more fit (good_fine (made a b c more) (subst GoodFile (made-append a b c more) good)))

-- ── The theorem ─────────────────────────────────────────────────────────────────────────────────────────────────

pub first_bad : FirstBad
unfolding FirstBad judged meters_judged certs_judged
first_bad f y small at h = models (then_cases (section_judged Section.Models f 1 1 0) (meters_judged f) at h)
  where
    certs : (fine : section_judged Section.Models f 1 1 0 ≡ Ok tt) (fine' : section_judged Section.Meters f (le_at f 0 count_width) 0 (meters_at f) ≡ Ok tt)
        → (section_judged Section.Certificates f (le_at f (meters_at f) count_width) 0 (certs_at f) ≡ Err at)
        ⊎ ((section_judged Section.Certificates f (le_at f (meters_at f) count_width) 0 (certs_at f) ≡ Ok tt) × (end_judged f ≡ Err at)) → First f at
    certs fine fine' (inl e) = first-certs f y small fine fine' at e
    certs fine fine' (inr e) = first-surplus f y small fine fine' e.0 at e.1

    meters : (fine : section_judged Section.Models f 1 1 0 ≡ Ok tt)
        → (section_judged Section.Meters f (le_at f 0 count_width) 0 (meters_at f) ≡ Err at)
        ⊎ ((section_judged Section.Meters f (le_at f 0 count_width) 0 (meters_at f) ≡ Ok tt) × (certs_judged f ≡ Err at)) → First f at
    meters fine (inl e) = first-meters f y small fine at e
    meters fine (inr e) =
        certs fine e.0 (then_cases (section_judged Section.Certificates f (le_at f (meters_at f) count_width) 0 (certs_at f)) (end_judged f) at e.1)

    models : (section_judged Section.Models f 1 1 0 ≡ Err at) ⊎ ((section_judged Section.Models f 1 1 0 ≡ Ok tt) × (meters_judged f ≡ Err at))
        → First f at
    models (inl e) = first-models f y small at e
    models (inr e) =
        meters e.0 (then_cases (section_judged Section.Meters f (le_at f 0 count_width) 0 (meters_at f)) (certs_judged f) at e.1)
