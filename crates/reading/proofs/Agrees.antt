-- Lookup, newest, has-any and list answer by the certificates of the tree as it stands, in any table that passes opening's tests.
use Rattle.std.specs.Prelude.{Ok, Err}
use Prim.Native.Nat.{ℕ, ◌-◌, ◌^◌, ◌≤◌, ◌<◌, min}
use native.Mathlib.Omega.{arith}
use mathlib.Core.Path.{◌≡◌, refl, sym, ap, ◌∙◌, subst}
use mathlib.Core.Bool.{Bool, true, false, ◌&&◌}
use mathlib.Core.List.{List, []}
use mathlib.Core.Option.{Option, some, none}
use lib.Dec.{ltb}
use lib.ListN.{length, take}
use Rattle.rules.specs.Layout.{last_key, largest_issue}
use Rattle.rules.specs.Key.{key_of, good_parts}
use Rattle.rules.specs.Entry.{Cert, keys, find, cut}
use Rattle.rules.specs.Page.{over}
use Rattle.rules.specs.Walk.{Step, certs_at, way_of, walk_of}
use Rattle.rules.specs.Tree.{tree_of}
use Rattle.rules.specs.Call.{Left}
use Rattle.rules.specs.Lookup.{found_in, lookup_left, lookup_key, lookup}
use Rattle.rules.specs.Newest.{meter, newest_in, newest_left, newest}
use Rattle.rules.specs.HasAny.{first_of, any_in, any_left, has_any}
use Rattle.rules.specs.List.{ListLeft, up_from, records_of, list_done, list}
use Rattle.rules.specs.declared.Session.{Session}
use Rattle.rules.specs.Answer.{Looked, Newest, Any}
use Rattle.rules.specs.declared.FindError.{FindError}
use Rattle.rules.specs.declared.AnyError.{AnyError}
use Rattle.rules.proofs.Bytes.Keys.{key_of-bound}
use Rattle.rules.proofs.Bytes.Lengths.{lengths_for_true}
use Rattle.rules.proofs.Demand3.Reads.Lists.{meter-whole, from-whole}
use Rattle.rules.proofs.Demand3.Reads.Anys.{first-whole}
use Rattle.reading.specs.Agreeing.{held, Passes, answer_for, Largest, listed_from, Fills, listed_of, ReadersAgree}
use Rattle.reading.proofs.Soundly.{Passing, Shows}
use Rattle.rules.proofs.Demand3.Reads.TreeCerts.{all_ordered}
use Rattle.reading.proofs.SameTree.{same-held}
use Rattle.rules.proofs.Demand3.Reads.Gathers.{gather}
use Rattle.reading.proofs.Gathers.{Walking, walk_gathers}
use Rattle.reading.proofs.Ends.{Finding, way_finds}
use Rattle.reading.proofs.Passes.{good_of}
use Rattle.reading.proofs.Largest.{gather_meter, largest}
use Rattle.reading.proofs.FirstShown.{first-shown}

-- ── The rules' calls, where no damage is met ────────────────────────────────────────────────────────────────────

found-answer : (k : ℕ) (steps : List Step) (o : Option ℕ) → find k (certs_at steps) ≡ o → found_in k steps ≡ answer_for o
unfolding found_in answer_for
found-answer k steps none h = rw (found_in, h)
found-answer k steps (some x) h = rw (found_in, h)

key-way : (k : ℕ) (s : Session) (w t : List ℕ) (steps : List Step) → (way_of s.n s.c k w).steps ≡ some steps
    → lookup_key k s w t ≡ lookup_left s (way_of s.n s.c k w).table t (found_in k steps)
unfolding lookup_key
key-way k s w t steps h = rw (lookup_key, h)

gather_list : (start : ℕ) (ks xs : List ℕ) (certs : List Cert) → gather (up_from start ks xs) [] certs ≡ listed_from start ks xs certs
unfolding up_from listed_from
gather_list start ks xs certs =
    let q : min (length ks) (length xs) - 0 ≡ min (length ks) (length xs) = omega arith in
    rw q

-- ── The calls ───────────────────────────────────────────────────────────────────────────────────────────────────

pub passing : {w t : List ℕ} {s : Session} → Passes w t s → Passing s.n s.c w
passing {w} {t} {s} p = record {
  long = (lengths_for_true s w t p.lengths).working;
  bytes = p.bytes;
  counter = p.counter;
  good = good_of s.n w p.fit p.good;
}

module _ {w t : List ℕ} {s : Session} (p : Passes w t s) where
  shown-held : {u : List ℕ} → Shows s.n s.c w u → held s u ≡ held s w
  unfolding held
  shown-held h = same-held (passing p).good h.steady

  -- lookup
  module _ (model serial issue : ℕ) (wide_model : model < 2 ^ 16) (wide_serial : serial < 2 ^ 32) (wide_issue : issue < 2 ^ 16) where
    abbrev k : ℕ
    k = key_of model serial issue

    finding : Finding s.n s.c w k (find k (tree_of s.n w).certs) (way_of s.n s.c k w)
    finding = way_finds (passing p) k (omega (arith, key_of-bound model serial issue wide_serial wide_issue wide_model))

    lookup-good : good_parts model serial issue ≡ true → lookup w t s model serial issue ≡ lookup_key k s w t
    unfolding lookup
    lookup-good g = rw (p.lengths, lookup) (rw g (rw p.fit))

    lookup_bad : good_parts model serial issue ≡ false → lookup w t s model serial issue ≡ lookup_left s w t (Err FindError.BadKey)
    unfolding lookup
    lookup_bad g = rw (p.lengths, lookup) (rw g)

    looks : good_parts model serial issue ≡ true → (lookup w t s model serial issue).answer ≡ answer_for (find k (held s w))
    unfolding lookup_left held
    looks g =
        ap (λ (r : Left Looked). r.answer) (lookup-good g ∙ key-way k s w t finding.steps finding.given)
        ∙ found-answer k finding.steps (find k (tree_of s.n w).certs) finding.finds

    looked : held s (lookup w t s model serial issue).working ≡ held s w
    unfolding lookup_left
    looked = go (good_parts model serial issue) refl
      where
        go : (b : Bool) → good_parts model serial issue ≡ b → held s (lookup w t s model serial issue).working ≡ held s w
        go true g =
            ap (λ (r : Left Looked). held s r.working) (lookup-good g ∙ key-way k s w t finding.steps finding.given)
            ∙ shown-held finding.left
        go false g = ap (λ (r : Left Looked). held s r.working) (lookup_bad g)

  -- newest
  module _ (model serial : ℕ) where
    newest-walk : Walking (passing p) (meter model serial) (gather (meter model serial) [] (tree_of s.n w).certs) (walk_of s.n s.c (meter model serial) w)
    newest-walk = walk_gathers (passing p) (meter model serial)

    newest-good : (ltb 0 model && ltb 0 serial) ≡ true
        → newest w t s model serial
        ≡ newest_left s (walk_of s.n s.c (meter model serial) w).table t (newest_in (walk_of s.n s.c (meter model serial) w).found)
    unfolding newest
    newest-good g = rw (p.lengths, newest) (rw g (rw p.fit (meter-whole (meter model serial) s w t newest-walk.whole)))

    newest_bad : (ltb 0 model && ltb 0 serial) ≡ false → newest w t s model serial ≡ newest_left s w t (Err FindError.BadKey)
    unfolding newest
    newest_bad g = rw (p.lengths, newest) (rw g)

    asks : serial < 2 ^ 32 → (ltb 0 model && ltb 0 serial) ≡ true → Largest (held s w) model serial (newest w t s model serial).answer
    unfolding newest_left held
    asks wide g =
        let certs = (tree_of s.n w).certs in
        let o = all_ordered (passing p).good in
        subst (Largest certs model serial)
        (sym (ap (λ (r : Left Newest). r.answer) (newest-good g)
        ∙ ap newest_in (newest-walk.found ∙ gather_meter certs o.rise model serial wide)))
        (largest certs o.rise model serial wide)

    asked : held s (newest w t s model serial).working ≡ held s w
    unfolding newest_left
    asked = go (ltb 0 model && ltb 0 serial) refl
      where
        go : (b : Bool) → (ltb 0 model && ltb 0 serial) ≡ b → held s (newest w t s model serial).working ≡ held s w
        go true g = ap (λ (r : Left Newest). held s r.working) (newest-good g) ∙ shown-held newest-walk.left
        go false g = ap (λ (r : Left Newest). held s r.working) (newest_bad g)

  -- has-any
  module _ (model serial : ℕ) where
    any-walk : Walking (passing p) (first_of model serial) (gather (first_of model serial) [] (tree_of s.n w).certs) (walk_of s.n s.c (first_of model serial) w)
    any-walk = walk_gathers (passing p) (first_of model serial)

    any-good : (ltb 0 model && ltb 0 serial) ≡ true
        → has_any w t s model serial
        ≡ any_left s (walk_of s.n s.c (first_of model serial) w).table t (any_in (walk_of s.n s.c (first_of model serial) w).found)
    unfolding has_any
    any-good g = rw (p.lengths, has_any) (rw g (rw p.fit (first-whole (first_of model serial) s w t any-walk.whole)))

    any_bad : (ltb 0 model && ltb 0 serial) ≡ false → has_any w t s model serial ≡ any_left s w t (Err AnyError.BadKey)
    unfolding has_any
    any_bad g = rw (p.lengths, has_any) (rw g)

    within : model < 2 ^ 16 → serial < 2 ^ 32 → key_of model serial largest_issue ≤ last_key
    unfolding key_of
    within a b = omega arith

    says : model < 2 ^ 16 → serial < 2 ^ 32 → (ltb 0 model && ltb 0 serial) ≡ true → (ks xs : List ℕ) → 0 < min (length ks) (length xs)
        → (has_any w t s model serial).answer ≡ any_in (listed_of model serial ks xs (held s w))
    unfolding any_left held first_of listed_of listed_from
    says wide_model wide_serial g ks xs l =
        let certs = (tree_of s.n w).certs in
        ap (λ (r : Left Any). r.answer) (any-good g)
        ∙ (ap any_in any-walk.found
        ∙ first-shown (key_of model serial 1) (key_of model serial largest_issue) certs (all_ordered (passing p).good).rise
        (within wide_model wide_serial) (min (length ks) (length xs)) l)

    said : held s (has_any w t s model serial).working ≡ held s w
    unfolding any_left
    said = go (ltb 0 model && ltb 0 serial) refl
      where
        go : (b : Bool) → (ltb 0 model && ltb 0 serial) ≡ b → held s (has_any w t s model serial).working ≡ held s w
        go true g = ap (λ (r : Left Any). held s r.working) (any-good g) ∙ shown-held any-walk.left
        go false g = ap (λ (r : Left Any). held s r.working) (any_bad g)

  -- list
  module _ (start : ℕ) (ks xs : List ℕ) where
    list-walk : Walking (passing p) (up_from start ks xs) (gather (up_from start ks xs) [] (tree_of s.n w).certs) (walk_of s.n s.c (up_from start ks xs) w)
    list-walk = walk_gathers (passing p) (up_from start ks xs)

    list-good : list w t s start ks xs
        ≡ list_done s (walk_of s.n s.c (up_from start ks xs) w).table t (walk_of s.n s.c (up_from start ks xs) w).found ks xs
    unfolding list
    list-good = rw (p.lengths, list) (rw p.fit (from-whole s w t start ks xs list-walk.whole))

    list-found : (walk_of s.n s.c (up_from start ks xs) w).found ≡ listed_from start ks xs (held s w)
    unfolding held
    list-found = list-walk.found ∙ gather_list start ks xs (tree_of s.n w).certs

    lists : Fills (held s w) start ks xs (list w t s start ks xs)
    unfolding list_done
    lists = subst (Fills (held s w) start ks xs) (sym list-good) (record {
      answer = ap (λ (ys : List Cert). Ok (length ys)) list-found;
      keys = ap (λ (ys : List Cert). over (keys ys) ks) list-found;
      records = ap (λ (ys : List Cert). over (records_of ys) xs) list-found;
    })

    listed : held s (list w t s start ks xs).working ≡ held s w
    unfolding list_done
    listed = ap (λ (r : ListLeft). held s r.working) list-good ∙ shown-held list-walk.left

pub readers_agree : ReadersAgree
unfolding ReadersAgree held
readers_agree w t s p = record {
  rises = (all_ordered (passing p).good).rise;
  lookup_agrees = looks p;
  newest_agrees = asks p;
  any_agrees = says p;
  list_agrees = lists p;
  after_lookup = looked p;
  after_newest = asked p;
  after_any = said p;
  after_list = listed p;
}
