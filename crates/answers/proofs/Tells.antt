-- What the rules' tests tell of the causes: each fails where its cause holds, and passes where it does not.
-- Assumes nothing.
use Prim.Native.Nat.{ℕ, ◌<◌}
use native.Mathlib.Omega.{arith}
use mathlib.Core.Path.{◌≡◌, refl, sym, ap, ◌∙◌}
use mathlib.Core.Logic.{◌⊎◌, inl, inr}
use mathlib.Core.Bool.{Bool, true, false, not, ◌&&◌, true≢false}
use mathlib.Core.List.{List, [], ◌∷◌}
use mathlib.Core.Option.{some, none-ne-some}
use lib.Dec.{leb, ltb}
use lib.ListN.{length}
use borrow.Author.Tests.{ltb-true, ltb-false, lt-ltb, leb-true, leb-false}
use Rattle.rules.specs.Layout.{last_number}
use Rattle.rules.specs.Test.{every, all, mem, distinct}
use Rattle.rules.specs.Key.{good_parts}
use Rattle.rules.specs.Table.{pages, good_lengths, fit0}
use Rattle.rules.specs.Tree.{Tree, tree_of, good_tree}
use Rattle.rules.specs.Entry.{find}
use Rattle.rules.specs.Walk.{Step, numbers, certs_at, way_of, walk_of}
use Rattle.rules.specs.Marks.{free_pages}
use Rattle.rules.specs.Call.{lengths_for}
use Rattle.rules.specs.Insert.{root_splits, new_pages, too_high, no_room}
use Rattle.rules.specs.declared.Session.{Session}
use Rattle.rules.specs.declared.Asked.{Asked}
use Rattle.rules.proofs.Entries.Tests.{Holds, every_true, and_left, and_right, or_cases, or_left, or_right, and_of, not_both}
use Rattle.rules.proofs.Bytes.Keys.{Good, good_parts_true}
use Rattle.rules.proofs.Bytes.Lengths.{good_lengths_true, tables-good, lengths_for_true, tables-lengths_for}
use Rattle.answers.proofs.Meets.{damage_none}
use Rattle.answers.proofs.RangeMeets.{damage_cuts}
use Rattle.answers.proofs.AsItStands.{not_whole, whole-none, not_distinct, distinct_none, not_spared, spared-none}
use Rattle.answers.specs.AsItStands.{HasDamage, NamedTwice, ChildSpared}
use Rattle.answers.specs.Causes.{BadTables, BadLengths, BadKey, BadMeter, DamagedWay, DamagedRange, DamagedTree, steps_in, entered, under, Full}

-- ── Lengths ─────────────────────────────────────────────────────────────────────────────────────────────────────

module _ (w t : List ℕ) where
  pub bad_tables : good_lengths w t ≡ false → BadTables w t
  bad_tables h n l = not_both (tables-good l) h

  pub good-tables : good_lengths w t ≡ true → BadTables w t → ⊥
  good-tables h b = b (pages w) (good_lengths_true w t h)

  pub bad_lengths : (s : Session) → lengths_for s w t ≡ false → BadLengths s w t
  bad_lengths s h l = not_both (tables-lengths_for s l) h

  pub good_lengths_lem : (s : Session) → lengths_for s w t ≡ true → BadLengths s w t → ⊥
  good_lengths_lem s h b = b (lengths_for_true s w t h)

-- ── Keys ────────────────────────────────────────────────────────────────────────────────────────────────────────

module _ (model serial : ℕ) where
  pub bad_meter : (ltb 0 model && ltb 0 serial) ≡ false → BadMeter model serial
  bad_meter h = go (ltb 0 model) refl h
    where
      go : (a : Bool) → ltb 0 model ≡ a → (a && ltb 0 serial) ≡ false → BadMeter model serial
      go false e h = inl (omega (arith, ltb-false 0 model e))
      go true e h = inr (omega (arith, ltb-false 0 serial h))

  pub good-meter : (ltb 0 model && ltb 0 serial) ≡ true → BadMeter model serial → ⊥
  good-meter h (inl e) = omega (arith, ltb-true 0 model (and_left (ltb 0 model) (ltb 0 serial) h))
  good-meter h (inr e) = omega (arith, ltb-true 0 serial (and_right (ltb 0 model) (ltb 0 serial) h))

module _ (model serial issue : ℕ) where
  pub bad_key : good_parts model serial issue ≡ false → BadKey model serial issue
  unfolding good_parts every
  bad_key h = go (ltb 0 model) refl (ltb 0 serial) refl (ltb 0 issue) refl h
    where
      go : (a : Bool) → ltb 0 model ≡ a → (b : Bool) → ltb 0 serial ≡ b → (c : Bool) → ltb 0 issue ≡ c
          → (a && (b && (c && true))) ≡ false → BadKey model serial issue
      go false e b f c g h = inl (omega (arith, ltb-false 0 model e))
      go true e false f c g h = inr (inl (omega (arith, ltb-false 0 serial f)))
      go true e true f false g h = inr (inr (omega (arith, ltb-false 0 issue g)))
      go true e true f true g h = absurd (true≢false h)

  pub good_key_lem : good_parts model serial issue ≡ true → BadKey model serial issue → ⊥
  good_key_lem h = go (good_parts_true model serial issue h)
    where
      go : Good model serial issue → BadKey model serial issue → ⊥
      go g (inl e) = omega arith
      go g (inr (inl e)) = omega arith
      go g (inr (inr e)) = omega arith

-- ── An opening's tests ──────────────────────────────────────────────────────────────────────────────────────────

module _ (t : List ℕ) where
  abbrev now : Tree
  now = tree_of (pages t) t

  abbrev Fails : Type 0
  Fails = HasDamage (pages t) t ⊎ (NamedTwice (pages t) t ⊎ ChildSpared (pages t) t)

  bad_tests : good_tree now ≡ false → Fails
  unfolding good_tree every
  bad_tests h = go now.whole refl (distinct now.children) refl (all (λ i. not (mem i now.children)) now.spared) refl
    where
      go : (a : Bool) → now.whole ≡ a → (b : Bool) → distinct now.children ≡ b
          → (c : Bool) → all (λ i. not (mem i now.children)) now.spared ≡ c → Fails
      go false p b q c o = inl (not_whole (pages t) t p)
      go true p false q c o = inr (inl (not_distinct (pages t) t q))
      go true p true q false o = inr (inr (not_spared (pages t) t o))
      go true p true q true o = absurd (not_both (rw (p, q, o)) h)

  good-tests : good_tree now ≡ true → Fails → ⊥
  unfolding good_tree
  good-tests h = go (every_true _ h)
    where
      go : Holds (now.whole ∷ distinct now.children ∷ all (λ i. not (mem i now.children)) now.spared ∷ []) → Fails → ⊥
      go f (inl d) = whole-none (pages t) t f.0 d
      go f (inr (inl d)) = distinct_none (pages t) t f.1.0 d
      go f (inr (inr d)) = spared-none (pages t) t f.0 f.1.1.0 d

  pub bad_tree : (fit0 (pages t) t && good_tree now) ≡ false → DamagedTree t
  bad_tree h = go (fit0 (pages t) t) refl h
    where
      go : (a : Bool) → fit0 (pages t) t ≡ a → (a && good_tree now) ≡ false → DamagedTree t
      go false e h = inl e
      go true e h = inr (bad_tests h)

  pub good_tree_lem : (fit0 (pages t) t && good_tree now) ≡ true → DamagedTree t → ⊥
  good_tree_lem h (inl e) = not_both (and_left (fit0 (pages t) t) (good_tree now) h) e
  good_tree_lem h (inr e) = good-tests (and_right (fit0 (pages t) t) (good_tree now) h) e

pub spent : (k : ℕ) → leb k last_number ≡ false → last_number < k
spent k h = leb-false k last_number h

pub not_spent : (k : ℕ) → leb k last_number ≡ true → last_number < k → ⊥
not_spent k h l = omega (arith, leb-true k last_number h)

-- ── Room for new pages ──────────────────────────────────────────────────────────────────────────────────────────

module _ (s : Session) (way : List Step) where
  pub is_full_lem : no_room way (free_pages s (numbers way)) ≡ true → Full s way
  unfolding no_room
  is_full_lem h = go (or_cases (ltb (length (free_pages s (numbers way))) (new_pages way)) (root_splits way && too_high way) h)
    where
      go : (ltb (length (free_pages s (numbers way))) (new_pages way) ≡ true) ⊎ ((root_splits way && too_high way) ≡ true)
          → Full s way
      go (inl e) = inl (ltb-true (length (free_pages s (numbers way))) (new_pages way) e)
      go (inr e) = inr (and_left (root_splits way) (too_high way) e, and_right (root_splits way) (too_high way) e)

  pub not_full : no_room way (free_pages s (numbers way)) ≡ false → Full s way → ⊥
  unfolding no_room
  not_full h (inl l) =
      not_both (or_left (root_splits way && too_high way) (lt-ltb (length (free_pages s (numbers way))) (new_pages way) l)) h
  not_full h (inr e) =
      not_both (or_right (ltb (length (free_pages s (numbers way))) (new_pages way)) (and_of e.0 e.1)) h

-- ── A way, a walk ───────────────────────────────────────────────────────────────────────────────────────────────

module _ (s : Session) (k : ℕ) (w : List ℕ) where
  pub whole-way : fit0 s.n w ≡ true → (steps : List Step) → (way_of s.n s.c k w).steps ≡ some steps
      → DamagedWay s k w → ⊥
  whole-way o steps h (inl e) = not_both o e
  whole-way o steps h (inr e) = none-ne-some steps (sym (damage_none s.n s.c k w e) ∙ h)

  pub entered-steps : (steps : List Step) → (way_of s.n s.c k w).steps ≡ some steps → entered s k w ≡ steps
  unfolding steps_in
  entered-steps steps h = rw (h, steps_in)

  pub under-steps : (steps : List Step) → (way_of s.n s.c k w).steps ≡ some steps
      → under s k w ≡ find k (certs_at steps)
  under-steps steps h = ap (λ (way : List Step). find k (certs_at way)) (entered-steps steps h)

-- nothing is no certificate
pub nil-cons : {A : Type 0} (x : A) (xs : List A) → ◌≡◌ {A = List A} [] (x ∷ xs) → ⊥
nil-cons x xs e = let z : ◌≡◌ {A = ℕ} 0 1 = cc in omega arith

pub whole-range : (s : Session) (a : Asked) (w : List ℕ) → fit0 s.n w ≡ true
    → (walk_of s.n s.c a w).whole ≡ true → DamagedRange s a w → ⊥
whole-range s a w o h (inl e) = not_both o e
whole-range s a w o h (inr e) = not_both h (damage_cuts s.n s.c a w e)
