-- How entries that rise are written: as items that follow each other, which tell of them again. Assumes nothing.
use mathlib.Core.Path.{◌≡◌, refl, sym, ap, subst, ◌∙◌}
use mathlib.Core.Logic.{◌⊎◌, inl, inr}
use mathlib.Core.Bool.{Bool, true, false}
use mathlib.Core.List.{List, [], ◌∷◌}
use Prim.Native.Nat.{ℕ, zero, suc, ◌+◌, ◌-◌, ◌*◌, ◌/◌, ◌%◌, ◌≤◌, ◌<◌}
use native.Mathlib.Nat.{div-add-mod'}
use native.Mathlib.Numerals.{add-one}
use native.Mathlib.Omega.{arith}
use borrow.Author.Tests.{ltb-true, lt-ltb, eqb-true, eqb-false}
use lib.Dec.{ltb, eqb}
use lib.ListN.{length, get_or, drop, length-drop}
use lib.Seq.{drop-cons}
use Rattle.rules.specs.Test.{all}
use Rattle.rules.specs.Entry.{Cert, keys, rises_from}
use Rattle.rules.proofs.Entries.Tests.{all_head, all_tail, all_imp}
use Rattle.rules.proofs.Entries.Rises.{rises-head, rises_tail}
use Rattle.exchange.specs.Written.{over_from, place_in, item_of, items_of}
use Rattle.exchange.specs.Told.{entry_of, entries_of}
use Rattle.exchange.proofs.Overs.{Placed, over-same, over-next, over-nil}
use Rattle.exchange.proofs.Chains.{Chain}
use Rattle.exchange.proofs.Tellings.{top, top-next}

module _ (b : ℕ) (ps : List ℕ) (placed : Placed ps) where
  pub record Writing (used last : ℕ) (es : List Cert) : Type 0 where
    pub chain : Chain (length ps) used last (items_of b ps es)
    pub back : entries_of b ps (items_of b ps es) ≡ es

  entry-back : (e : Cert) → place_in (e.key / b) ps < length ps → get_or ps (place_in (e.key / b) ps) 0 ≡ e.key / b → entry_of b ps (item_of b ps e) ≡ e
  unfolding entry_of item_of
  entry-back e p h =
      let x : get_or ps (place_in (e.key / b) ps) 0 * b + e.key % b ≡ e.key = ap (λ (o : ℕ). o * b + e.key % b) h ∙ div-add-mod' e.key b in
      λ j. record { key = x j; value = e.value }

  write_none : (used last : ℕ) → used ≡ length ps → Writing used last []
  unfolding Chain entries_of items_of
  write_none used last e = record { chain = e; back = refl }

  -- one entry more: at the place it has, by the one before it
  module _ (e : Cert) (es : List Cert) (used last place : ℕ) (at : place_in (e.key / b) ps ≡ place) (p : place < length ps) (o : get_or ps place 0 ≡ e.key / b) (real : 0 < e.key % b) (ih : Writing (place + 1) (e.key % b) es) where
    write_more : (place ≡ used) ⊎ ((place + 1 ≡ used) × (last < e.key % b)) → Writing used last (e ∷ es)
    unfolding Chain entries_of items_of item_of
    write_more next =
        record {
          chain = (record { real = real; inside = subst (λ (k : ℕ). k < length ps) (sym at) p; next = subst (λ (k : ℕ). (k ≡ used) ⊎ ((k + 1 ≡ used) × (last < e.key % b))) (sym at) next }, subst (λ (k : ℕ). Chain (length ps) (k + 1) (e.key % b) (items_of b ps es)) (sym at) ih.chain);
          back = λ j. entry-back e (subst (λ (k : ℕ). k < length ps) (sym at) p) (ap (λ (k : ℕ). get_or ps k 0) at ∙ o) j ∷ ih.back j;
        }

  begun : (used o : ℕ) → top ps used ≡ o → 0 < used + o → 0 < used
  unfolding top
  begun zero o e h = absurd (omega arith)
  begun (suc used) o e h = omega arith

  abbrev Writes : List Cert → Type 0
  Writes es =
      (used last : ℕ) → used ≤ length ps → rises_from (top ps used * b + last) (keys es) ≡ true
      → over_from b (top ps used) (keys es) ≡ drop used ps → all (λ (k : ℕ). ltb 0 (k % b)) (keys es) ≡ true
      → all (λ (k : ℕ). ltb 0 (used + k / b)) (keys es) ≡ true → Writing used last es

  write_cons : (e : Cert) (es : List Cert) → Writes es → Writes (e ∷ es)
  unfolding keys
  write_cons e es ih used last m r d g z = go (eqb (top ps used) (k / b)) refl
    where
      k : ℕ
      k = e.key

      ks : List ℕ
      ks = keys es

      real : 0 < k % b
      real = ltb-true 0 (k % b) (all_head (λ (k : ℕ). ltb 0 (k % b)) k ks g)

      same : top ps used ≡ k / b → Writing used (k % b) es
      same q =
          ih used (k % b) m
          (rw (q, div-add-mod' k b) (rises_tail (top ps used * b + last) k ks r))
          (sym (over-same b (top ps used) k ks q) ∙ d)
          (all_tail (λ (k : ℕ). ltb 0 (k % b)) k ks g) (all_tail (λ (k : ℕ). ltb 0 (used + k / b)) k ks z)

      next : used < length ps → get_or ps used 0 ≡ k / b → over_from b (k / b) ks ≡ drop (suc used) ps → Writing (used + 1) (k % b) es
      next p o t =
          let q : top ps (used + 1) ≡ k / b = top-next ps used ∙ o in
          ih (used + 1) (k % b) (omega arith)
          (rw (q, div-add-mod' k b) (rises_tail (top ps used * b + last) k ks r))
          (rw (q, add-one) t)
          (all_tail (λ (k : ℕ). ltb 0 (k % b)) k ks g)
          (all_imp (λ (k : ℕ). ltb 0 (used + k / b)) (λ (k : ℕ). ltb 0 (used + 1 + k / b)) (λ x h. lt-ltb 0 (used + 1 + x / b) (omega arith)) ks
          (all_tail (λ (k : ℕ). ltb 0 (used + k / b)) k ks z))

      go : (t : Bool) → eqb (top ps used) (k / b) ≡ t → Writing used last (e ∷ es)
      go true t =
          let q = eqb-true (top ps used) (k / b) t in
          let place = used - 1 in
          let s : place + 1 ≡ used = omega (arith, begun used (k / b) q (ltb-true 0 (used + k / b) (all_head (λ (k : ℕ). ltb 0 (used + k / b)) k ks z))) in
          let p : place < length ps = omega arith in
          let o : get_or ps place 0 ≡ k / b = sym (top-next ps place) ∙ ap (top ps) s ∙ q in
          let w = rises-head (top ps used * b + last) k ks r in
          let v : top ps used * b ≡ k / b * b = ap (λ (x : ℕ). x * b) q in
          write_more e es used last place (ap (λ (x : ℕ). place_in x ps) (sym o) ∙ placed place p) p o real
          (subst (λ (u : ℕ). Writing u (k % b) es) (sym s) (same q)) (inr (s, omega (arith, w, v, div-add-mod' k b)))
      go false t =
          let q = sym (over-next b (top ps used) k ks (eqb-false (top ps used) (k / b) t)) ∙ d in
          let p : used < length ps = omega (arith, ap (λ (l : List ℕ). length l) q, length-drop used ps) in
          let y = q ∙ drop-cons ps used 0 p in
          let o : get_or ps used 0 ≡ k / b = sym (ap (λ (l : List ℕ). get_or l 0 0) y) in
          write_more e es used last used (ap (λ (x : ℕ). place_in x ps) (sym o) ∙ placed used p) p o real
          (next p o (ap (λ (l : List ℕ). drop 1 l) y)) (inl refl)

  write_nil : Writes []
  unfolding keys
  write_nil used last m r d g z =
      write_none used last
      (omega (arith, ap (λ (l : List ℕ). length l) (sym (over-nil b (top ps used)) ∙ d), length-drop used ps))

  pub writing : (es : List Cert) → Writes es
  writing [] = write_nil
  writing (e ∷ es) = write_cons e es (writing es)
