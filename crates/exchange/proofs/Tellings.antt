-- What items that follow each other tell of: entries that rise, under all that stands over them. Assumes nothing.
use mathlib.Core.Path.{◌≡◌, refl, sym, ap, subst, ◌∙◌}
use mathlib.Core.Logic.{◌⊎◌, inl, inr}
use mathlib.Core.Bool.{Bool, true, ◌&&◌}
use mathlib.Core.List.{List, [], ◌∷◌}
use Prim.Native.Nat.{ℕ, suc, ◌+◌, ◌*◌, ◌/◌, ◌%◌, ◌<◌}
use native.Mathlib.Numerals.{add-one}
use native.Mathlib.Omega.{arith}
use borrow.Author.Tests.{ltb-true, lt-ltb}
use lib.Arith.{digits_div, digits_mod, digits_lt}
use lib.Dec.{ltb}
use lib.ListN.{length, get_or, drop}
use lib.Seq.{drop-cons, drop-length}
use Rattle.rules.specs.Test.{all}
use Rattle.rules.specs.Entry.{keys, rises_from}
use Rattle.rules.proofs.Entries.Tests.{and_of, all_head, all_tail, all_nil, all_cons, all-at}
use Rattle.rules.proofs.Entries.Rises.{rises-nil, rises-head, rises_tail, rises-cons}
use Rattle.exchange.specs.Item.{Item}
use Rattle.exchange.specs.Written.{over_from, place_in, item_of, items_of}
use Rattle.exchange.specs.Told.{entry_of, entries_of}
use Rattle.exchange.proofs.Overs.{Placed, over-same, over-next, over-nil}
use Rattle.exchange.proofs.Chains.{Chain}

-- the last of those that have something under them; 0 before the first
unfoldable pub top : List ℕ → ℕ → ℕ
top ps used = get_or (0 ∷ ps) used 0

pub top-next : (ps : List ℕ) (place : ℕ) → top ps (place + 1) ≡ get_or ps place 0
unfolding top
top-next ps place = rw add-one

pub top_start : (ps : List ℕ) → top ps 0 ≡ 0
unfolding top
top_start ps = refl

-- the entries rise from the last one before them, stand under what is left, and are written as these items again
pub record Telling (b : ℕ) (ps : List ℕ) (used last : ℕ) (is : List Item) : Type 0 where
  pub rises : rises_from (top ps used * b + last) (keys (entries_of b ps is)) ≡ true
  pub overs : over_from b (top ps used) (keys (entries_of b ps is)) ≡ drop used ps
  pub again : items_of b ps (entries_of b ps is) ≡ is

module _ (b : ℕ) (ps : List ℕ) (placed : Placed ps) where
  key-over : (i : Item) → i.number < b → (entry_of b ps i).key / b ≡ get_or ps i.place 0
  unfolding entry_of
  key-over i h = digits_div (get_or ps i.place 0) h

  key-number : (i : Item) → i.number < b → (entry_of b ps i).key % b ≡ i.number
  unfolding entry_of
  key-number i h = digits_mod (get_or ps i.place 0) h

  item-again : (i : Item) → i.number < b → i.place < length ps → item_of b ps (entry_of b ps i) ≡ i
  unfolding item_of entry_of
  item-again i h p =
      let x : place_in ((entry_of b ps i).key / b) ps ≡ i.place = ap (λ (k : ℕ). place_in k ps) (key-over i h) ∙ placed i.place p in
      let y = key-number i h in
      λ j. record { place = x j; number = y j; value = i.value }

  tell_none : (used last : ℕ) → used ≡ length ps → Telling b ps used last []
  unfolding entries_of items_of keys
  tell_none used last e = record {
    rises = rises-nil (top ps used * b + last);
    overs = over-nil b (top ps used) ∙ sym (ap (λ (n : ℕ). drop n ps) e ∙ drop-length ps);
    again = refl;
  }

  left-next : (i : Item) → i.place < length ps → rises_from (top ps i.place) (drop i.place ps) ≡ true → rises_from (top ps (i.place + 1)) (drop (i.place + 1) ps) ≡ true
  left-next i p r =
      rw (top-next ps i.place, add-one)
      (rises_tail (top ps i.place) (get_or ps i.place 0) (drop (suc i.place) ps) (rw (drop-cons ps i.place 0 p) at r))

  -- one item more: under the next of what is left, or under the same as the one before it
  module _ (i : Item) (is : List Item) (last : ℕ) (h : i.number < b) (p : i.place < length ps) (ih : Telling b ps (i.place + 1) i.number is) where
    rest : List ℕ
    rest = keys (entries_of b ps is)

    key-is : top ps (i.place + 1) * b + i.number ≡ (entry_of b ps i).key
    unfolding entry_of
    key-is = ap (λ (x : ℕ). x * b + i.number) (top-next ps i.place)

    rest-rises : rises_from (entry_of b ps i).key rest ≡ true
    unfolding rest
    rest-rises = rw key-is at ih.rises

    tell_next : last < b → rises_from (top ps i.place) (drop i.place ps) ≡ true → Telling b ps i.place last (i ∷ is)
    unfolding entries_of items_of keys rest
    tell_next l r =
        let t = top ps i.place in
        let o = get_or ps i.place 0 in
        let k = (entry_of b ps i).key in
        let d = drop-cons ps i.place 0 p in
        let q : t < o = rises-head t o (drop (suc i.place) ps) (rw d at r) in
        let m : t * b + last < o * b = digits_lt {q = t} {m = o} {r = last} {c = b} q l in
        let e : k ≡ o * b + i.number = sym key-is ∙ ap (λ (x : ℕ). x * b + i.number) (top-next ps i.place) in
        let x : over_from b (k / b) rest ≡ drop (suc i.place) ps =
        ap (λ (t : ℕ). over_from b t rest) (key-over i h ∙ sym (top-next ps i.place)) ∙ ih.overs ∙ ap (λ (n : ℕ). drop n ps) (add-one i.place) in
        record {
          rises = rises-cons (t * b + last) k rest (omega (arith, m, e)) rest-rises;
          overs = over-next b t k rest (λ g. omega (arith, g, q, key-over i h)) ∙ (λ j. key-over i h j ∷ x j) ∙ sym d;
          again = λ j. item-again i h p j ∷ ih.again j;
        }

    tell_same : last < i.number → Telling b ps (i.place + 1) last (i ∷ is)
    unfolding entries_of items_of keys rest
    tell_same l =
        let t = top ps (i.place + 1) in
        let k = (entry_of b ps i).key in
        record {
          rises = rises-cons (t * b + last) k rest (omega (arith, l, key-is)) rest-rises;
          overs = over-same b t k rest (top-next ps i.place ∙ sym (key-over i h)) ∙ ih.overs;
          again = λ j. item-again i h p j ∷ ih.again j;
        }

  pub telling : (is : List Item) (used last : ℕ) → last < b → all (λ (i : Item). ltb i.number b) is ≡ true
      → rises_from (top ps used) (drop used ps) ≡ true → Chain (length ps) used last is → Telling b ps used last is
  unfolding Chain
  telling [] used last l n r c = tell_none used last c
  telling (i ∷ is) used last l n r c =
      go c.0.next (λ q. telling is (i.place + 1) i.number h (all_tail (λ (i : Item). ltb i.number b) i is n) q c.1)
    where
      h : i.number < b
      h = ltb-true i.number b (all_head (λ (i : Item). ltb i.number b) i is n)

      go : (i.place ≡ used) ⊎ ((i.place + 1 ≡ used) × (last < i.number))
          → (rises_from (top ps (i.place + 1)) (drop (i.place + 1) ps) ≡ true → Telling b ps (i.place + 1) i.number is) → Telling b ps used last (i ∷ is)
      go (inl e) ih =
          let q = subst (λ (u : ℕ). rises_from (top ps u) (drop u ps) ≡ true) (sym e) r in
          subst (λ (u : ℕ). Telling b ps u last (i ∷ is)) e
          (tell_next i is last h c.0.inside (ih (left-next i c.0.inside q)) l q)
      go (inr e) ih =
          let q = subst (λ (u : ℕ). rises_from (top ps u) (drop u ps) ≡ true) (sym e.0) r in
          subst (λ (u : ℕ). Telling b ps u last (i ∷ is)) e.0 (tell_same i is last h c.0.inside (ih q) e.1)

  -- what holds of all that the entries stand under, and that no number is zero
  pub told_each : (q : ℕ → Bool) → all q ps ≡ true → (is : List Item) (used last : ℕ) → all (λ (i : Item). ltb i.number b) is ≡ true
      → Chain (length ps) used last is → all (λ (k : ℕ). q (k / b) && ltb 0 (k % b)) (keys (entries_of b ps is)) ≡ true
  unfolding Chain entries_of keys
  told_each q a [] used last n c = all_nil (λ (k : ℕ). q (k / b) && ltb 0 (k % b))
  told_each q a (i ∷ is) used last n c =
      let h = ltb-true i.number b (all_head (λ (i : Item). ltb i.number b) i is n) in
      let k = (entry_of b ps i).key in
      all_cons (λ (k : ℕ). q (k / b) && ltb 0 (k % b)) k (keys (entries_of b ps is))
      (and_of {a = q (k / b)} {b = ltb 0 (k % b)} (rw (key-over i h) (all-at q ps i.place 0 a c.0.inside)) (rw (key-number i h) (lt-ltb 0 i.number c.0.real)))
      (told_each q a is (i.place + 1) i.number (all_tail (λ (i : Item). ltb i.number b) i is n) c.1)
