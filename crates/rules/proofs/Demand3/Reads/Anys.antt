-- Has-any in a safe store: it meets no damage, says yes exactly where the meter has a certificate, and no call that only reads
-- changes what it answers later.
use Rattle.std.proofs.Common.{◌≡◌, ℕ, ◌<◌, ◌≤◌, Bool, true, false, ◌&&◌, ltb, ◌⊎◌, List, [], ◌∷◌, length, sym, refl, ap, ◌∙◌, subst, inl, inr, arith, lt-ltb, Err}
use mathlib.Core.Option.{Option, some, none, none-ne-some}
use Rattle.rules.specs.Layout.{last_key, largest_issue}
use Rattle.rules.specs.Key.{key_of, issue_of, good_key}
use Rattle.rules.specs.Test.{all, mem}
use Rattle.rules.specs.Entry.{Cert, keys, find, rising}
use Rattle.rules.specs.Tree.{tree_of}
use Rattle.rules.specs.Walk.{walk_of}
use Rattle.rules.specs.Call.{Left, any_no, any_error_no}
use Rattle.rules.specs.HasAny.{first_of, any_in, any_left, any_meter, has_any}
use Rattle.rules.specs.Demand.{AnyTells, some_issue, no_issue}
use Rattle.rules.specs.declared.Asked.{Asked}
use Rattle.rules.specs.Answer.{Any}
use Rattle.rules.specs.declared.AnyError.{AnyError}
use Rattle.rules.specs.declared.Session.{Session}
use Rattle.rules.proofs.Entries.Tests.{and_of}
use Rattle.rules.proofs.Entries.Entries.{find_head}
use Rattle.rules.proofs.Demand3.Ways.Ways.{Tells}
use Rattle.rules.proofs.Demand3.Ways.Invariant.{Good, States}
use Rattle.rules.proofs.Demand3.Epochs.Epochs.{working-good}
use Rattle.rules.proofs.Demand3.Epochs.Store.{Safe}
use Rattle.rules.proofs.Demand3.Epochs.Syncs.{lengths_for_lem}
use Rattle.rules.proofs.Demand3.Reads.Enters.{Calm, calm}
use Rattle.rules.proofs.Demand3.Reads.Gathers.{gather}
use Rattle.rules.proofs.Demand3.Reads.TreeCerts.{all_ordered, all-good, tree-tells}
use Rattle.rules.proofs.Demand3.Reads.Shown.{shown-held, shown-whole}
use Rattle.rules.proofs.Demand3.Reads.Walks.{Walking, sought, walk_of-walking}

-- ── The call ────────────────────────────────────────────────────────────────────────────────────────────────────

-- what has-any answers of a table as it stands
pub any_of : ℕ → List ℕ → ℕ → ℕ → Any
any_of n t model serial =
    elim (ltb 0 model && ltb 0 serial) [ false ↦ Err AnyError.BadKey | true ↦ any_in (sought n t (first_of model serial)) ]

-- it is read off the tree's certificates
pub any_of_same : (n i : ℕ) (t u : List ℕ) (model serial : ℕ) → (tree_of i u).certs ≡ (tree_of n t).certs
    → any_of i u model serial ≡ any_of n t model serial
unfolding any_of
any_of_same n i t u model serial e =
    ap
    (λ (xs : List Cert). elim (ltb 0 model && ltb 0 serial) [ false ↦ Err AnyError.BadKey | true ↦ any_in (gather (first_of model serial) [] xs) ])
    e

any_in_lem : (xs : List Cert) → any_in xs ≡ Err AnyError.Damaged → ⊥
unfolding any_in any_error_no
any_in_lem [] h = omega (arith, ap any_no h)
any_in_lem (x ∷ xs) h = omega (arith, ap any_no h)

any-of : (n : ℕ) (t : List ℕ) (model serial : ℕ) → any_of n t model serial ≡ Err AnyError.Damaged → ⊥
unfolding any_of any_error_no
any-of n t model serial h = go (ltb 0 model && ltb 0 serial) refl
  where
    go : (b : Bool) → (ltb 0 model && ltb 0 serial) ≡ b → ⊥
    go true p = any_in_lem (sought n t (first_of model serial)) (rw (p, any_of) at h)
    go false p = omega (arith, ap any_no (rw (p, any_of) at h))

pub first-whole : (a : Asked) (s : Session) (w t : List ℕ) → (walk_of s.n s.c a w).whole ≡ true
    → any_meter a s w t ≡ any_left s (walk_of s.n s.c a w).table t (any_in (walk_of s.n s.c a w).found)
unfolding any_meter
first-whole a s w t h = rw (h, any_meter)

pub record AnyOf (s : Session) (t S : List ℕ) (Been : States) (model serial : ℕ) (r : Left Any) : Type 0 where
  pub answer : r.answer ≡ any_of s.n t model serial
  pub left : Calm s t S Been r.working

module _ {s : Session} {t u S : List ℕ} {Been : States} (x : Safe s t S Been) (m : Calm s t S Been u) where
  any-good : (model serial : ℕ) → (ltb 0 model && ltb 0 serial) ≡ true
      → has_any u S s model serial ≡ any_meter (first_of model serial) s u S
  unfolding has_any
  any-good model serial g = rw (lengths_for_lem m.safe, has_any) (rw g (rw m.safe.working.fit))

  any_bad : (model serial : ℕ) → (ltb 0 model && ltb 0 serial) ≡ false
      → has_any u S s model serial ≡ any_left s u S (Err AnyError.BadKey)
  unfolding has_any
  any_bad model serial g = rw (lengths_for_lem m.safe, has_any) (rw g)

  pub any_answers : (model serial : ℕ) → AnyOf s t S Been model serial (has_any u S s model serial)
  unfolding any_left any_of
  any_answers model serial = go (ltb 0 model && ltb 0 serial) refl
    where
      w : Walking s t S Been (first_of model serial) (sought s.n t (first_of model serial)) (walk_of s.n s.c (first_of model serial) u)
      w = walk_of-walking (first_of model serial) x m

      go : (b : Bool) → (ltb 0 model && ltb 0 serial) ≡ b → AnyOf s t S Been model serial (has_any u S s model serial)
      go true g =
          subst (AnyOf s t S Been model serial)
          (sym (any-good model serial g ∙ first-whole (first_of model serial) s u S w.whole))
          (record { answer = rw (g, any_of) (ap any_in w.found); left = w.left })
      go false g =
          subst (AnyOf s t S Been model serial) (sym (any_bad model serial g))
          (record { answer = rw (g, any_of); left = m })

module _ {s : Session} {W S : List ℕ} {Been : States} (x : Safe s W S Been) where
  pub any_undamaged : (model serial : ℕ) → (has_any W S s model serial).answer ≡ Err AnyError.Damaged → ⊥
  any_undamaged model serial h = any-of s.n W model serial (sym (any_answers x (calm x) model serial).answer ∙ h)

  any-finds : (model serial : ℕ) → (ltb 0 model && ltb 0 serial) ≡ true
      → (has_any W S s model serial).answer ≡ any_in (sought s.n W (first_of model serial))
  unfolding any_of
  any-finds model serial g = (any_answers x (calm x) model serial).answer ∙ rw (g, any_of)

  -- with some lost pages mended
  pub any_same : {u : List ℕ} → Calm s W S Been u → (model serial : ℕ)
      → (has_any u S s model serial).answer ≡ (has_any W S s model serial).answer
  any_same m model serial = (any_answers x m model serial).answer ∙ sym (any_answers x (calm x) model serial).answer

-- ── Yes or no ───────────────────────────────────────────────────────────────────────────────────────────────────

module _ (certs : List Cert) (rise : rising (keys certs) ≡ true) (good : all (λ x. good_key x.key) certs ≡ true)
    (state : ℕ → Option ℕ) (tells : (k : ℕ) → k ≤ last_key → find k certs ≡ state k) (model serial : ℕ)
    (wide_model : model < 65536) (wide_serial : serial < 4294967296) where
  abbrev first : List Cert
  first = gather (first_of model serial) [] certs

  top : (first_of model serial).high ≤ last_key
  unfolding first_of key_of
  top = omega arith

  -- a key in the meter's range is that of its issue
  issue_of_lem : (k : ℕ) → (first_of model serial).low ≤ k → k ≤ (first_of model serial).high
      → (key_of model serial (issue_of k) ≡ k) × (1 ≤ issue_of k) × (issue_of k ≤ largest_issue)
  unfolding first_of key_of issue_of
  issue_of_lem k l h = (omega arith, omega arith, omega arith)

  -- nothing shown, nothing there
  absent : first ≡ [] → (j : ℕ) → 1 ≤ j → j ≤ largest_issue → state (key_of model serial j) ≡ none
  unfolding first_of key_of find
  absent e j l h = go (state (key_of model serial j)) refl
    where
      shows : (y : ℕ)
          → (find (key_of model serial j) first ≡ some y)
          ⊎ ((length first ≡ (first_of model serial).room) × ((i : ℕ) → mem i (keys first) ≡ true → i < key_of model serial j)) → ⊥
      shows y (inl f) = none-ne-some y (sym (ap (find (key_of model serial j)) e) ∙ f)
      shows y (inr f) = omega (arith, ap length e, f.0)

      go : (o : Option ℕ) → state (key_of model serial j) ≡ o → o ≡ none
      go none q = refl
      go (some y) q =
          absurd (shows y (shown-whole certs rise good state tells (first_of model serial) top (key_of model serial j) y (omega arith) (omega arith) q))

  pub any-first : AnyTells state model serial (any_in first)
  unfolding any_in
  any-first = go first refl
    where
      go : (xs : List Cert) → first ≡ xs → AnyTells state model serial (any_in first)
      go [] q = no_issue (ap any_in q) (absent q)
      go (x ∷ xs) q =
          let o = shown-held certs rise good state tells (first_of model serial) top x.key x.value
          (ap (find x.key) q ∙ find_head x.key x xs refl) in
          let i = issue_of_lem x.key o.0 o.1 in
          some_issue (issue_of x.key) x.value (ap any_in q) i.1 i.2 (ap state i.0 ∙ o.3)

module _ {s : Session} {W S : List ℕ} {Been : States} (x : Safe s W S Been) (state : ℕ → Option ℕ)
    (told : (k : ℕ) → k ≤ last_key → Tells s.n W k (state k)) where
  safe-tree : Good s.n W
  safe-tree = working-good x.inv

  pub any_told : (model serial : ℕ) → 0 < model → model < 65536 → 0 < serial → serial < 4294967296
      → AnyTells state model serial (has_any W S s model serial).answer
  any_told model serial a b c d =
      subst (AnyTells state model serial) (sym (any-finds x model serial (and_of (lt-ltb 0 model a) (lt-ltb 0 serial c))))
      (any-first (tree_of s.n W).certs (all_ordered safe-tree).rise (all-good safe-tree) state
      (λ k h. tree-tells safe-tree (told k h)) model serial b d)
