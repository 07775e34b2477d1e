-- A section that was written is judged fine; one that is judged fine tells of entries in order. Assumes nothing.
use Rattle.std.specs.Prelude.{Ok}
use mathlib.Core.Path.{◌≡◌, refl, sym, ap, subst, ◌∙◌}
use mathlib.Core.Bool.{true}
use mathlib.Core.List.{List, [], ◌∷◌}
use Prim.Native.Nat.{ℕ, zero, suc, ◌+◌, ◌%◌, ◌^◌, ◌≤◌, ◌<◌}
use native.Mathlib.Nat.{mod-lt}
use native.Mathlib.Omega.{arith}
use borrow.Author.Tests.{ltb-true, lt-ltb}
use lib.Dec.{ltb, lit<}
use lib.ListN.{length}
use Rattle.fields.specs.Field.{le_at, Bytes}
use Rattle.fields.proofs.Field.{le_at-bound}
use Rattle.rules.specs.Test.{all}
use Rattle.rules.specs.Entry.{Cert, keys}
use Rattle.rules.proofs.Entries.Tests.{all_head, all_tail, all_nil, all_cons}
use Rattle.exchange.specs.Item.{Item, place_width, number_width, value_width, size, span, count_width, item_at}
use Rattle.exchange.specs.Written.{item_of, items_of, bare}
use Rattle.exchange.specs.Judged.{section_judged}
use Rattle.exchange.specs.Told.{items_from, items_in, entry_of, entries_of}
use Rattle.exchange.specs.declared.Section.{Section}
use Rattle.exchange.proofs.Sizes.{span_width}
use Rattle.exchange.proofs.Steps.{after_is, section_on}
use Rattle.exchange.proofs.Parts.{fine_count}
use Rattle.exchange.proofs.Runs.{AllFit, fit_none, fit_more, Stands}
use Rattle.exchange.proofs.Chains.{Chain, fine_chain, chain_fine}

-- ── Lists ───────────────────────────────────────────────────────────────────────────────────────────────────────

pub keys-bare : (ks : List ℕ) → keys (bare ks) ≡ ks
unfolding bare keys
keys-bare [] = refl
keys-bare (k ∷ ks) = ap (λ (l : List ℕ). k ∷ l) (keys-bare ks)

pub length-bare : (ks : List ℕ) → length (bare ks) ≡ length ks
unfolding bare
length-bare [] = refl
length-bare (k ∷ ks) = ap suc (length-bare ks)

-- entries without a value are their keys
pub bare-keys : (es : List Cert) → all (λ (e : Cert). ltb e.value 1) es ≡ true → bare (keys es) ≡ es
unfolding bare keys
bare-keys [] h = refl
bare-keys (e ∷ es) h =
    let z : 0 ≡ e.value = omega (arith, ltb-true e.value 1 (all_head (λ (e : Cert). ltb e.value 1) e es h)) in
    let t = bare-keys es (all_tail (λ (e : Cert). ltb e.value 1) e es h) in
    λ j. record { key = e.key; value = z j } ∷ t j

module _ (b : ℕ) (ps : List ℕ) where
  pub length-items_of : (es : List Cert) → length (items_of b ps es) ≡ length es
  unfolding items_of
  length-items_of [] = refl
  length-items_of (e ∷ es) = ap suc (length-items_of es)

  pub length-entries_of : (is : List Item) → length (entries_of b ps is) ≡ length is
  unfolding entries_of
  length-entries_of [] = refl
  length-entries_of (i ∷ is) = ap suc (length-entries_of is)

  pub values-entries_of : (v : ℕ) (is : List Item) → all (λ (i : Item). ltb i.value v) is ≡ true → all (λ (e : Cert). ltb e.value v) (entries_of b ps is) ≡ true
  unfolding entries_of entry_of
  values-entries_of v [] h = all_nil (λ (e : Cert). ltb e.value v)
  values-entries_of v (i ∷ is) h =
      all_cons (λ (e : Cert). ltb e.value v) (entry_of b ps i) (entries_of b ps is) (all_head (λ (i : Item). ltb i.value v) i is h)
      (values-entries_of v is (all_tail (λ (i : Item). ltb i.value v) i is h))

pub span-real : (s : Section) → 0 < span s
unfolding span
span-real Section.Models = lit< tt
span-real Section.Meters = lit< tt
span-real Section.Certificates = lit< tt

-- ── Written ─────────────────────────────────────────────────────────────────────────────────────────────────────

-- items in order fit their fields, if what they stand under is not too much for their places
pub chain_fits : (s : Section) (over : ℕ) (ps : List ℕ) → over ≤ 256 ^ place_width s → (es : List Cert) (used last : ℕ)
    → all (λ (e : Cert). ltb e.value (256 ^ value_width s)) es ≡ true → Chain over used last (items_of (span s) ps es) → AllFit s (items_of (span s) ps es)
unfolding Chain items_of item_of
chain_fits s over ps m [] used last v c = fit_none
chain_fits s over ps m (e ∷ es) used last v c =
    fit_more {i = item_of (span s) ps e}
    (record {
      place = omega (arith, c.0.inside, m);
      number = omega (arith, mod-lt e.key (span-real s), span_width s);
      value = ltb-true e.value (256 ^ value_width s) (all_head (λ (e : Cert). ltb e.value (256 ^ value_width s)) e es v);
    })
    (chain_fits s over ps m es ((item_of (span s) ps e).place + 1) (e.key % span s) (all_tail (λ (e : Cert). ltb e.value (256 ^ value_width s)) e es v) c.1)

pub section_fine : (s : Section) (f : List ℕ) (over used at : ℕ) (is : List Item) (rest : List ℕ) → Stands s f at is rest → Chain over used 0 is
    → section_judged s f over used at ≡ Ok tt
unfolding items_in
section_fine s f over used at is rest st c =
    let e = after_is s f at in
    section_on s f over used at (omega (arith, e, st.ends))
    ∙ chain_fine s f over (le_at f at count_width) (at + count_width) used 0 (omega (arith, e, st.ends)) (subst (Chain over used 0) (sym st.items) c)

-- ── Read ────────────────────────────────────────────────────────────────────────────────────────────────────────

module _ (s : Section) (f : List ℕ) (h : Bytes f) where
  pub numbers_fit : (n at : ℕ) → all (λ (i : Item). ltb i.number (span s)) (items_from s f n at) ≡ true
  unfolding items_from item_at
  numbers_fit zero at = all_nil (λ (i : Item). ltb i.number (span s))
  numbers_fit (suc n) at =
      all_cons (λ (i : Item). ltb i.number (span s)) (item_at s f at) (items_from s f n (at + size s))
      (lt-ltb (item_at s f at).number (span s) (omega (arith, le_at-bound f (at + place_width s) (number_width s) h, span_width s)))
      (numbers_fit n (at + size s))

  pub values-fit : (n at : ℕ) → all (λ (i : Item). ltb i.value (256 ^ value_width s)) (items_from s f n at) ≡ true
  unfolding items_from item_at
  values-fit zero at = all_nil (λ (i : Item). ltb i.value (256 ^ value_width s))
  values-fit (suc n) at =
      all_cons (λ (i : Item). ltb i.value (256 ^ value_width s)) (item_at s f at) (items_from s f n (at + size s))
      (lt-ltb (item_at s f at).value (256 ^ value_width s) (le_at-bound f (at + place_width s + number_width s) (value_width s) h))
      (values-fit n (at + size s))

pub section_chain : (s : Section) (f : List ℕ) (over used at : ℕ) → section_judged s f over used at ≡ Ok tt → Chain over used 0 (items_in s f at)
unfolding items_in
section_chain s f over used at j =
    fine_chain s f over (le_at f at count_width) (at + count_width) used 0 (fine_count s f over used at j).1
