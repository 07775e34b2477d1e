-- Demand 1 about the rules: what each call may change, and what a refused one leaves.
use Rattle.std.proofs.Common.{◌≡◌, ℕ, Bool, true, false, ◌&&◌, ltb, leb, List, refl, true≢false, Ok, Err}
use mathlib.Core.Option.{Option, some, none}
use Rattle.rules.specs.Layout.{last_number}
use Rattle.rules.specs.Key.{key_of, good_parts}
use Rattle.rules.specs.Entry.{find}
use Rattle.rules.specs.Table.{pages, good_lengths, fit0, number0}
use Rattle.rules.specs.Walk.{Step, numbers, certs_at, way_of, walk_of}
use Rattle.rules.specs.Tree.{tree_of, good_tree}
use Rattle.rules.specs.Marks.{nobody, free_pages}
use Rattle.rules.specs.Call.{Left, Unchanged, lengths_for}
use Rattle.rules.specs.Format.{format}
use Rattle.rules.specs.Open.{opening, open_refused, open_done}
use Rattle.rules.specs.Insert.{insert, insert_key, insert_along, insert_done, insert_refused, splitting, too_soon, no_room}
use Rattle.rules.specs.Lookup.{lookup, lookup_key, lookup_left}
use Rattle.rules.specs.Newest.{newest, newest_meter, newest_left, meter}
use Rattle.rules.specs.HasAny.{has_any, any_meter, any_left, first_of}
use Rattle.rules.specs.List.{ListLeft, list, list_from, list_done, list_refused, up_from}
use Rattle.rules.specs.Sync.{sync, sync_refused, sync_done}
use Rattle.rules.specs.declared.Session.{Session}
use Rattle.rules.specs.declared.Asked.{Asked}
use Rattle.rules.specs.Answer.{Listed}
use Rattle.rules.proofs.Demand1.Mending.{Mends, same, way_mends_lem, walk_of_mends_lem}

-- ── Words ───────────────────────────────────────────────────────────────────────────────────────────────────────

-- nothing changed but what a walk mended
pub record OnlyMended {A : Type 0} (w t : List ℕ) (s : Session) (r : Left A) : Type 0 where
  pub working : Mends s.n s.c w r.working
  pub stable : r.stable ≡ t
  pub session : r.session ≡ s

-- ── Format, open, sync: a refusal changes no byte ───────────────────────────────────────────────────────────────

pub format-refused : (w s : List ℕ) → ((format w s).answer ≡ Ok tt → ⊥) → (format w s).stable ≡ s
unfolding format
format-refused w s h = go (good_lengths w s) refl
  where
    go : (a : Bool) → good_lengths w s ≡ a → (format w s).stable ≡ s
    go false p = rw (p, format)
    go true p = absurd (h (rw (p, format)))

pub opening-refused : (w s : List ℕ) → ((opening w s).answer ≡ Ok tt → ⊥) → Unchanged w s nobody (opening w s)
unfolding opening open_refused open_done
opening-refused w s h =
    go (good_lengths w s) refl (fit0 (pages s) s && good_tree (tree_of (pages s) s)) refl (leb (number0 s) last_number) refl
  where
    go : (a : Bool) → good_lengths w s ≡ a
        → (b : Bool) → (fit0 (pages s) s && good_tree (tree_of (pages s) s)) ≡ b
        → (c : Bool) → leb (number0 s) last_number ≡ c
        → Unchanged w s nobody (opening w s)
    go false p b q c o = rw (p, opening) (record { working = refl; stable = refl; session = refl })
    go true p false q c o = rw (p, opening, q) (record { working = refl; stable = refl; session = refl })
    go true p true q false o = rw (p, opening, q, o) (record { working = refl; stable = refl; session = refl })
    go true p true q true o = absurd (h (rw (p, opening, q, o)))

pub sync_refused_lem : (w t : List ℕ) (s : Session) → ((sync w t s).answer ≡ Ok tt → ⊥) → Unchanged w t s (sync w t s)
unfolding sync sync_refused sync_done
sync_refused_lem w t s h = go (lengths_for s w t) refl (leb s.c last_number) refl
  where
    go : (a : Bool) → lengths_for s w t ≡ a → (b : Bool) → leb s.c last_number ≡ b → Unchanged w t s (sync w t s)
    go false p b q = rw (p, sync) (record { working = refl; stable = refl; session = refl })
    go true p false q = rw (p, sync, q) (record { working = refl; stable = refl; session = refl })
    go true p true q = absurd (h (rw (p, sync, q)))

-- ── Insert: a refusal leaves nothing but mends; stable never changes ────────────────────────────────────────────

module _ (k x : ℕ) (s : Session) (way : List Step) (w t : List ℕ) where
  along_stable : (insert_along k x s way w t).stable ≡ t
  unfolding insert_along insert_refused insert_done
  along_stable = go (find k (certs_at way)) refl (too_soon s.c (splitting way)) refl
      (no_room way (free_pages s (numbers way))) refl
    where
      go : (o : Option ℕ) → find k (certs_at way) ≡ o → (a : Bool) → too_soon s.c (splitting way) ≡ a
          → (b : Bool) → no_room way (free_pages s (numbers way)) ≡ b → (insert_along k x s way w t).stable ≡ t
      go (some y) o a p b q = rw (insert_along, o)
      go none o true p b q = rw (insert_along, o, p)
      go none o false p true q = rw (insert_along, o, p, q)
      go none o false p false q = rw (insert_along, o, p, q)

  pub along_refused : ((insert_along k x s way w t).answer ≡ Ok tt → ⊥) → Unchanged w t s (insert_along k x s way w t)
  unfolding insert_along insert_refused insert_done
  along_refused h = go (find k (certs_at way)) refl (too_soon s.c (splitting way)) refl
      (no_room way (free_pages s (numbers way))) refl
    where
      go : (o : Option ℕ) → find k (certs_at way) ≡ o → (a : Bool) → too_soon s.c (splitting way) ≡ a
          → (b : Bool) → no_room way (free_pages s (numbers way)) ≡ b → Unchanged w t s (insert_along k x s way w t)
      go (some y) o a p b q = rw (insert_along, o) (record { working = refl; stable = refl; session = refl })
      go none o true p b q = rw (insert_along, o, p) (record { working = refl; stable = refl; session = refl })
      go none o false p true q = rw (insert_along, o, p, q) (record { working = refl; stable = refl; session = refl })
      go none o false p false q = absurd (h (rw (insert_along, o, p, q)))

module _ (k x : ℕ) (s : Session) (w t : List ℕ) where
  key-refused : ((insert_key k x s w t).answer ≡ Ok tt → ⊥) → OnlyMended w t s (insert_key k x s w t)
  unfolding insert_key insert_refused
  key-refused h = go (way_of s.n s.c k w).steps refl
    where
      left : List ℕ
      left = (way_of s.n s.c k w).table

      go : (o : Option (List Step)) → (way_of s.n s.c k w).steps ≡ o → OnlyMended w t s (insert_key k x s w t)
      go none o =
          rw (insert_key, o) (record { working = way_mends_lem s.n s.c k w; stable = refl; session = refl })
      go (some steps) o =
          rw (insert_key, o) (along (along_refused k x s steps left t (λ e. h (rw (insert_key, o) e))))
        where
          along : Unchanged left t s (insert_along k x s steps left t) → OnlyMended w t s (insert_along k x s steps left t)
          along u = record {
            working = rw u.working (way_mends_lem s.n s.c k w);
            stable = u.stable;
            session = u.session;
          }

  key-stable : (insert_key k x s w t).stable ≡ t
  unfolding insert_key insert_refused
  key-stable = go (way_of s.n s.c k w).steps refl
    where
      go : (o : Option (List Step)) → (way_of s.n s.c k w).steps ≡ o → (insert_key k x s w t).stable ≡ t
      go none o = rw (insert_key, o)
      go (some steps) o = rw (insert_key, o) (along_stable k x s steps (way_of s.n s.c k w).table t)

module _ (w t : List ℕ) (s : Session) (model serial issue x : ℕ) where
  pub insert_refused_lem : ((insert w t s model serial issue x).answer ≡ Ok tt → ⊥)
      → OnlyMended w t s (insert w t s model serial issue x)
  unfolding insert insert_refused
  insert_refused_lem h = go (lengths_for s w t) refl (good_parts model serial issue) refl (fit0 s.n w) refl
    where
      go : (a : Bool) → lengths_for s w t ≡ a → (b : Bool) → good_parts model serial issue ≡ b
          → (c : Bool) → fit0 s.n w ≡ c → OnlyMended w t s (insert w t s model serial issue x)
      go false p b q c o = rw (insert, p) (record { working = same; stable = refl; session = refl })
      go true p false q c o = rw (insert, p, q) (record { working = same; stable = refl; session = refl })
      go true p true q false o = rw (insert, p, q, o) (record { working = same; stable = refl; session = refl })
      go true p true q true o =
          rw (insert, p, q, o) (key-refused (key_of model serial issue) x s w t (λ e. h (rw (insert, p, q, o) e)))

  pub insert_stable : (insert w t s model serial issue x).stable ≡ t
  unfolding insert insert_refused
  insert_stable = go (lengths_for s w t) refl (good_parts model serial issue) refl (fit0 s.n w) refl
    where
      go : (a : Bool) → lengths_for s w t ≡ a → (b : Bool) → good_parts model serial issue ≡ b
          → (c : Bool) → fit0 s.n w ≡ c → (insert w t s model serial issue x).stable ≡ t
      go false p b q c o = rw (insert, p)
      go true p false q c o = rw (insert, p, q)
      go true p true q false o = rw (insert, p, q, o)
      go true p true q true o = rw (insert, p, q, o) (key-stable (key_of model serial issue) x s w t)

-- ── The reading calls: nothing changes but what the walk mends, whatever the answer ─────────────────────────────

key_mends_lem : (k : ℕ) (s : Session) (w t : List ℕ) → OnlyMended w t s (lookup_key k s w t)
unfolding lookup_key lookup_left
key_mends_lem k s w t = go (way_of s.n s.c k w).steps refl
  where
    go : (o : Option (List Step)) → (way_of s.n s.c k w).steps ≡ o → OnlyMended w t s (lookup_key k s w t)
    go none o = rw (lookup_key, o) (record { working = way_mends_lem s.n s.c k w; stable = refl; session = refl })
    go (some steps) o =
        rw (lookup_key, o) (record { working = way_mends_lem s.n s.c k w; stable = refl; session = refl })

pub lookup_mends : (w t : List ℕ) (s : Session) (model serial issue : ℕ)
    → OnlyMended w t s (lookup w t s model serial issue)
unfolding lookup lookup_left
lookup_mends w t s model serial issue =
    go (lengths_for s w t) refl (good_parts model serial issue) refl (fit0 s.n w) refl
  where
    go : (a : Bool) → lengths_for s w t ≡ a → (b : Bool) → good_parts model serial issue ≡ b
        → (c : Bool) → fit0 s.n w ≡ c → OnlyMended w t s (lookup w t s model serial issue)
    go false p b q c o = rw (lookup, p) (record { working = same; stable = refl; session = refl })
    go true p false q c o = rw (lookup, p, q) (record { working = same; stable = refl; session = refl })
    go true p true q false o = rw (lookup, p, q, o) (record { working = same; stable = refl; session = refl })
    go true p true q true o = rw (lookup, p, q, o) (key_mends_lem (key_of model serial issue) s w t)

meter_mends_lem : (a : Asked) (s : Session) (w t : List ℕ) → OnlyMended w t s (newest_meter a s w t)
unfolding newest_meter newest_left
meter_mends_lem a s w t = go (walk_of s.n s.c a w).whole refl
  where
    go : (b : Bool) → (walk_of s.n s.c a w).whole ≡ b → OnlyMended w t s (newest_meter a s w t)
    go false p = rw (newest_meter, p) (record { working = walk_of_mends_lem s.n s.c a w; stable = refl; session = refl })
    go true p = rw (newest_meter, p) (record { working = walk_of_mends_lem s.n s.c a w; stable = refl; session = refl })

pub newest_mends : (w t : List ℕ) (s : Session) (model serial : ℕ) → OnlyMended w t s (newest w t s model serial)
unfolding newest newest_left
newest_mends w t s model serial =
    go (lengths_for s w t) refl (ltb 0 model && ltb 0 serial) refl (fit0 s.n w) refl
  where
    go : (a : Bool) → lengths_for s w t ≡ a → (b : Bool) → (ltb 0 model && ltb 0 serial) ≡ b
        → (c : Bool) → fit0 s.n w ≡ c → OnlyMended w t s (newest w t s model serial)
    go false p b q c o = rw (newest, p) (record { working = same; stable = refl; session = refl })
    go true p false q c o = rw (newest, p, q) (record { working = same; stable = refl; session = refl })
    go true p true q false o = rw (newest, p, q, o) (record { working = same; stable = refl; session = refl })
    go true p true q true o = rw (newest, p, q, o) (meter_mends_lem (meter model serial) s w t)

first-mends : (a : Asked) (s : Session) (w t : List ℕ) → OnlyMended w t s (any_meter a s w t)
unfolding any_meter any_left
first-mends a s w t = go (walk_of s.n s.c a w).whole refl
  where
    go : (b : Bool) → (walk_of s.n s.c a w).whole ≡ b → OnlyMended w t s (any_meter a s w t)
    go false p = rw (any_meter, p) (record { working = walk_of_mends_lem s.n s.c a w; stable = refl; session = refl })
    go true p = rw (any_meter, p) (record { working = walk_of_mends_lem s.n s.c a w; stable = refl; session = refl })

pub any_mends : (w t : List ℕ) (s : Session) (model serial : ℕ) → OnlyMended w t s (has_any w t s model serial)
unfolding has_any any_left
any_mends w t s model serial =
    go (lengths_for s w t) refl (ltb 0 model && ltb 0 serial) refl (fit0 s.n w) refl
  where
    go : (a : Bool) → lengths_for s w t ≡ a → (b : Bool) → (ltb 0 model && ltb 0 serial) ≡ b
        → (c : Bool) → fit0 s.n w ≡ c → OnlyMended w t s (has_any w t s model serial)
    go false p b q c o = rw (has_any, p) (record { working = same; stable = refl; session = refl })
    go true p false q c o = rw (has_any, p, q) (record { working = same; stable = refl; session = refl })
    go true p true q false o = rw (has_any, p, q, o) (record { working = same; stable = refl; session = refl })
    go true p true q true o = rw (has_any, p, q, o) (first-mends (first_of model serial) s w t)

-- ── List: the same of both tables, and a refusal changes neither lent list ──────────────────────────────────────

pub record ListMended (w t : List ℕ) (s : Session) (r : ListLeft) : Type 0 where
  pub working : Mends s.n s.c w r.working
  pub stable : r.stable ≡ t
  pub session : r.session ≡ s

pub record ListsStay (ks xs : List ℕ) (r : ListLeft) : Type 0 where
  pub keys : r.keys ≡ ks
  pub records : r.records ≡ xs

-- done, with so many places filled
unfoldable pub is_filled : Listed → Bool
is_filled (Ok k) = true
is_filled (Err e) = false

module _ (s : Session) (w t : List ℕ) (start : ℕ) (ks xs : List ℕ) where
  from-mends : ListMended w t s (list_from s w t start ks xs)
  unfolding list_from list_done list_refused
  from-mends = go (walk_of s.n s.c (up_from start ks xs) w).whole refl
    where
      go : (b : Bool) → (walk_of s.n s.c (up_from start ks xs) w).whole ≡ b
          → ListMended w t s (list_from s w t start ks xs)
      go false p = rw (list_from, p)
          (record { working = walk_of_mends_lem s.n s.c (up_from start ks xs) w; stable = refl; session = refl })
      go true p = rw (list_from, p)
          (record { working = walk_of_mends_lem s.n s.c (up_from start ks xs) w; stable = refl; session = refl })

  from-refused : is_filled (list_from s w t start ks xs).answer ≡ false → ListsStay ks xs (list_from s w t start ks xs)
  unfolding list_from list_done list_refused is_filled
  from-refused h = go (walk_of s.n s.c (up_from start ks xs) w).whole refl
    where
      go : (b : Bool) → (walk_of s.n s.c (up_from start ks xs) w).whole ≡ b
          → ListsStay ks xs (list_from s w t start ks xs)
      go false p = rw (list_from, p) (record { keys = refl; records = refl })
      go true p = absurd (true≢false (rw (list_from, p) at h))

  pub list_mends_lem : ListMended w t s (list w t s start ks xs)
  unfolding list list_refused
  list_mends_lem = go (lengths_for s w t) refl (fit0 s.n w) refl
    where
      go : (a : Bool) → lengths_for s w t ≡ a → (b : Bool) → fit0 s.n w ≡ b → ListMended w t s (list w t s start ks xs)
      go false p b q = rw (list, p) (record { working = same; stable = refl; session = refl })
      go true p false q = rw (list, p, q) (record { working = same; stable = refl; session = refl })
      go true p true q = rw (list, p, q) from-mends

  pub list_refused_lem : is_filled (list w t s start ks xs).answer ≡ false → ListsStay ks xs (list w t s start ks xs)
  unfolding list list_refused
  list_refused_lem h = go (lengths_for s w t) refl (fit0 s.n w) refl
    where
      go : (a : Bool) → lengths_for s w t ≡ a → (b : Bool) → fit0 s.n w ≡ b → ListsStay ks xs (list w t s start ks xs)
      go false p b q = rw (list, p) (record { keys = refl; records = refl })
      go true p false q = rw (list, p, q) (record { keys = refl; records = refl })
      go true p true q = rw (list, p, q) (from-refused (rw (list, p, q) at h))
