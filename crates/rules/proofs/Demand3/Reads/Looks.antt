-- Lookup in a safe store: it answers by what the working table tells of the key, and what its walk mends changes nothing.
use Rattle.std.proofs.Common.{◌≡◌, ℕ, ◌≤◌, Bool, true, false, List, ◌∷◌, sym, refl, ap, ◌∙◌, subst, arith, Err}
use mathlib.Core.Option.{Option, some, none}
use Rattle.rules.specs.Layout.{last_key}
use Rattle.rules.specs.Key.{key_of, model_of, serial_of, issue_of, good_parts, good_key}
use Rattle.rules.specs.Entry.{find}
use Rattle.rules.specs.Walk.{Step, certs_at, way_of}
use Rattle.rules.specs.Call.{Left, looked_no, find_error_no}
use Rattle.rules.specs.Lookup.{found_in, lookup_left, lookup_key, lookup}
use Rattle.rules.specs.History.{record_in, content}
use Rattle.rules.specs.Answer.{Looked}
use Rattle.rules.specs.declared.FindError.{FindError}
use Rattle.rules.specs.declared.Session.{Session}
use Rattle.rules.proofs.Bytes.Keys.{key_of_parts}
use Rattle.rules.proofs.Entries.Tests.{not_both}
use Rattle.rules.proofs.Entries.Entries.{all-find}
use Rattle.rules.proofs.Demand3.Ways.Ways.{Tells}
use Rattle.rules.proofs.Demand3.Ways.Invariant.{States}
use Rattle.rules.proofs.Demand3.Ways.Kids.{sound-here}
use Rattle.rules.proofs.Demand3.Ways.Nodes.{node-range, tells-one}
use Rattle.rules.proofs.Demand3.Epochs.Store.{Safe}
use Rattle.rules.proofs.Demand3.Epochs.Syncs.{lengths_for_lem}
use Rattle.rules.proofs.Demand3.Steps.Mended.{steady-tells}
use Rattle.rules.proofs.Demand3.Reads.Enters.{Calm, calm}
use Rattle.rules.proofs.Demand3.Reads.SameWay.{steps_to, way-passes}
use Rattle.rules.proofs.Demand3.Steps.Paths.{Descends, way_descends, way-tells}

-- ── Lookup ──────────────────────────────────────────────────────────────────────────────────────────────────────

key-table : (k : ℕ) (s : Session) (w t : List ℕ) → (lookup_key k s w t).working ≡ (way_of s.n s.c k w).table
unfolding lookup_key lookup_left
key-table k s w t = go (way_of s.n s.c k w).steps refl
  where
    go : (o : Option (List Step)) → (way_of s.n s.c k w).steps ≡ o → (lookup_key k s w t).working ≡ (way_of s.n s.c k w).table
    go none o = rw (lookup_key, o)
    go (some steps) o = rw (lookup_key, o)

key-answer : (k : ℕ) (s : Session) (w t : List ℕ) (steps : List Step) → (way_of s.n s.c k w).steps ≡ some steps
    → (lookup_key k s w t).answer ≡ found_in k steps
unfolding lookup_key lookup_left
key-answer k s w t steps o = rw (lookup_key, o)

found_record : (k : ℕ) (x : Step) (above : List Step) → record_in (found_in k (x ∷ above)) ≡ find k (certs_at (x ∷ above))
unfolding found_in record_in
found_record k x above = go (find k (certs_at (x ∷ above))) refl
  where
    go : (o : Option ℕ) → find k (certs_at (x ∷ above)) ≡ o → record_in (found_in k (x ∷ above)) ≡ o
    go none o = rw (found_in, o)
    go (some y) o = rw (found_in, o)

found-whole : (k : ℕ) (steps : List Step) → found_in k steps ≡ Err FindError.Damaged → ⊥
unfolding found_in find_error_no
found-whole k steps h = go (find k (certs_at steps)) refl
  where
    go : (o : Option ℕ) → find k (certs_at steps) ≡ o → ⊥
    go none o = omega (arith, ap looked_no (rw (found_in, o) at h))
    go (some y) o = omega (arith, ap looked_no (rw (found_in, o) at h))

module _ {s : Session} {t u S : List ℕ} {Been : States} (x : Safe s t S Been) (m : Calm s t S Been u) where
  lookup-good : (model serial issue : ℕ) → good_parts model serial issue ≡ true
      → lookup u S s model serial issue ≡ lookup_key (key_of model serial issue) s u S
  unfolding lookup
  lookup-good model serial issue g = rw (lengths_for_lem m.safe, lookup) (rw g (rw m.safe.working.fit))

  lookup_bad : (model serial issue : ℕ) → good_parts model serial issue ≡ false
      → lookup u S s model serial issue ≡ lookup_left s u S (Err FindError.BadKey)
  unfolding lookup
  lookup_bad model serial issue g = rw (lengths_for_lem m.safe, lookup) (rw g)

  -- it answers by the steps of the way as the tree stands
  lookup-steps : (model serial issue : ℕ) → good_parts model serial issue ≡ true
      → (lookup u S s model serial issue).answer
      ≡ found_in (key_of model serial issue) (steps_to s.n s.c (key_of model serial issue) t)
  lookup-steps model serial issue g =
      let k = key_of model serial issue in
      ap (λ (r : Left Looked). r.answer) (lookup-good model serial issue g)
      ∙ key-answer k s u S (steps_to s.n s.c k t) (way-passes k x m).given

  pub lookup-calm : (model serial issue : ℕ) → Calm s t S Been (lookup u S s model serial issue).working
  unfolding lookup_left
  lookup-calm model serial issue = go (good_parts model serial issue) refl
    where
      go : (b : Bool) → good_parts model serial issue ≡ b → Calm s t S Been (lookup u S s model serial issue).working
      go true g =
          subst (Calm s t S Been)
          (sym (ap (λ (r : Left Looked). r.working) (lookup-good model serial issue g) ∙ key-table (key_of model serial issue) s u S))
          (way-passes (key_of model serial issue) x m).left
      go false g =
          subst (Calm s t S Been) (sym (ap (λ (r : Left Looked). r.working) (lookup_bad model serial issue g))) m

  pub never-lost : (model serial issue : ℕ) → (lookup u S s model serial issue).answer ≡ Err FindError.Damaged → ⊥
  unfolding lookup_left find_error_no
  never-lost model serial issue h = go (good_parts model serial issue) refl
    where
      go : (b : Bool) → good_parts model serial issue ≡ b → ⊥
      go true g =
          found-whole (key_of model serial issue) (steps_to s.n s.c (key_of model serial issue) t)
          (sym (lookup-steps model serial issue g) ∙ h)
      go false g =
          omega (arith, ap looked_no (sym (ap (λ (r : Left Looked). r.answer) (lookup_bad model serial issue g)) ∙ h))

-- no mend changes a later answer
pub lookup-same : {s : Session} {t u S : List ℕ} {Been : States} → Safe s t S Been → Calm s t S Been u → (model serial issue : ℕ)
    → (lookup u S s model serial issue).answer ≡ (lookup t S s model serial issue).answer
unfolding lookup_left
lookup-same {s} {t} {u} {S} {Been} x m model serial issue = go (good_parts model serial issue) refl
  where
    go : (b : Bool) → good_parts model serial issue ≡ b → (lookup u S s model serial issue).answer ≡ (lookup t S s model serial issue).answer
    go true g = lookup-steps x m model serial issue g ∙ sym (lookup-steps x (calm x) model serial issue g)
    go false g =
        ap (λ (r : Left Looked). r.answer) (lookup_bad x m model serial issue g)
        ∙ sym (ap (λ (r : Left Looked). r.answer) (lookup_bad x (calm x) model serial issue g))

-- a leaf has no key with a part that is zero
tells-good : {n : ℕ} {t : List ℕ} {k : ℕ} {state : Option ℕ} → Tells n t k state → good_key k ≡ false → state ≡ none
tells-good {n} {t} {k} {state} x g = go state x.finds
  where
    go : (o : Option ℕ) → find k x.view.certs ≡ o → o ≡ none
    go none h = refl
    go (some r) h =
        let a = node-range x.node in
        let o = sound-here n t x.place x.view x.shows (omega (arith, a.0, a.1)) in
        absurd (not_both (all-find (λ y. good_key y.key) k x.view.certs r o.good h) g)

-- a lookup answers what the working table tells
pub content-told : {s : Session} {W S : List ℕ} {Been : States} {k : ℕ} {state : Option ℕ} → Safe s W S Been → k ≤ last_key
    → Tells s.n W k state → content s W S k ≡ state
unfolding content record_in lookup_left good_key
content-told {s} {W} {S} {Been} {k} {state} x h told = go (good_key k) refl
  where
    m : Calm s W S Been W
    m = calm x

    d : Descends s W S Been k (way_of s.n s.c k W)
    d = way_descends h W x

    go : (b : Bool) → good_key k ≡ b → content s W S k ≡ state
    go true g =
        ap (λ (r : Left Looked). record_in r.answer) (lookup-good x m (model_of k) (serial_of k) (issue_of k) g)
        ∙ (ap (λ (j : ℕ). record_in (lookup_key j s W S).answer) (key_of_parts k)
        ∙ (ap record_in (key-answer k s W S (d.last ∷ d.above) d.given)
        ∙ (found_record k d.last d.above ∙ tells-one (way-tells h d) (steady-tells d.steady told))))
    go false g =
        ap (λ (r : Left Looked). record_in r.answer) (lookup_bad x m (model_of k) (serial_of k) (issue_of k) g)
        ∙ sym (tells-good told g)
