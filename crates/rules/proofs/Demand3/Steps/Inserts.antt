-- Insert keeps the store safe. It answers present exactly where something is told of the key; refused, it leaves what its walk
-- has mended; done, the key has had one state more, and the table tells it.
use Rattle.std.proofs.Common.{◌≡◌, ℕ, ◌+◌, ◌^◌, ◌<◌, ◌≤◌, Bool, true, false, ◌≢◌, List, [], ◌∷◌, length, sym, refl, ◌∙◌, subst, arith, Ok, Err}
use mathlib.Core.Option.{Option, some, none}
use Rattle.rules.specs.Layout.{leaf_kind, leaf_room, last_key}
use Rattle.rules.specs.Test.{mem}
use Rattle.rules.specs.Key.{key_of, good_parts, good_key}
use Rattle.rules.specs.Entry.{find}
use Rattle.rules.specs.Table.{read, fit0}
use Rattle.rules.specs.Walk.{Step, Way, numbers, certs_at, way_of}
use Rattle.rules.specs.Marks.{wraps, counted, free_pages}
use Rattle.rules.specs.Call.{Left, lengths_for}
use Rattle.rules.specs.Insert.{splitting, too_soon, no_room, put_cert, changed, Making, making, split, insert_refused, insert_done, insert_along, insert_key, insert}
use Rattle.rules.specs.declared.Place.{Place}
use Rattle.rules.specs.declared.Session.{Session}
use Rattle.rules.specs.Answer.{Inserted}
use Rattle.rules.specs.declared.InsertError.{InsertError}
use Rattle.rules.proofs.Entries.Tests.{mem_index}
use Rattle.rules.proofs.Bytes.Keys.{good_key-key_of, key_of-bound}
use Rattle.rules.proofs.Bytes.All.{all-at}
use Rattle.rules.proofs.Bytes.Numbers.{all-free_pages, distinct-free_pages}
use Rattle.rules.proofs.Entries.Halves.{room}
use Rattle.rules.proofs.Demand3.Ways.Ways.{Tells}
use Rattle.rules.proofs.Demand3.Ways.Invariant.{States}
use Rattle.rules.proofs.Demand3.Ways.Kids.{shown-kind}
use Rattle.rules.proofs.Demand3.Epochs.Store.{free_mark, Safe}
use Rattle.rules.proofs.Demand3.Epochs.Syncs.{lengths_for_lem}
use Rattle.rules.proofs.Demand3.Steps.Mended.{Steady, steady-tells, steady-told}
use Rattle.rules.proofs.Demand3.Steps.Paths.{From, Path, at-shows, Descends, way_descends, way-tells}
use Rattle.rules.proofs.Demand3.Steps.Keeps.{Keeps, keeps-of, keeps-totalling, safe-of}
use Rattle.rules.proofs.Demand3.Steps.Unmarked.{unmarked, split-unmarked}
use Rattle.rules.proofs.Demand3.Steps.Stands.{Stands}
use Rattle.rules.proofs.Demand3.Steps.SplitWay.{split-stands}
use Rattle.rules.proofs.Demand3.Steps.Restate.{Also, Restates, restate_keeps, restate_own, restate_other}
use Rattle.rules.proofs.Demand3.Steps.PutIn.{with_cert, put_restates}
use Rattle.rules.proofs.Demand3.Steps.Plans.{Low, plan}

-- ── What a call leaves ──────────────────────────────────────────────────────────────────────────────────────────

-- nothing changed but what was mended, and the store shows the same
pub record Stays {A : Type 0} (s : Session) (W S : List ℕ) (Been : States) (r : Left A) : Type 0 where
  pub session : r.session ≡ s
  pub stable : r.stable ≡ S
  pub safe : Safe s r.working S Been
  pub steady : Steady s.n W r.working

-- the key, of which nothing was told, is told with its record
pub record Added (s : Session) (W S : List ℕ) (Been : States) (k x : ℕ) (r : Left Inserted) : Type 0 where
  pub answer : r.answer ≡ Ok tt
  pub stable : r.stable ≡ S
  pub pages : r.session.n ≡ s.n
  pub counter : r.session.c ≡ s.c
  -- there is one certificate more
  pub unmarked : unmarked r.session ≡ unmarked (counted s)
  pub safe : Safe r.session r.working S (Also Been k (some x))
  pub absent : Tells s.n W k none
  pub own : Tells s.n r.working k (some x)
  pub others : (j : ℕ) (a : Option ℕ) → j ≢ k → Tells s.n W j a → Tells s.n r.working j a

-- what an insert of a good key can come to
pub data Inserts (s : Session) (W S : List ℕ) (Been : States) (k x : ℕ) (r : Left Inserted) : Type 0 where
  present : (y : ℕ) → Tells s.n W k (some y) → r.answer ≡ Err InsertError.Present → Stays s W S Been r → Inserts s W S Been k x r
  sync_first : Tells s.n W k none → r.answer ≡ Err InsertError.SyncFirst → Stays s W S Been r → Inserts s W S Been k x r
  no_room_lem : Tells s.n W k none → r.answer ≡ Err InsertError.Full → Stays s W S Been r → Inserts s W S Been k x r
  added : Added s W S Been k x r → Inserts s W S Been k x r

-- ── The rules' cases, each by itself ────────────────────────────────────────────────────────────────────────────

along_present : (k x y : ℕ) (s : Session) (way : List Step) (w t : List ℕ) → find k (certs_at way) ≡ some y
    → insert_along k x s way w t ≡ insert_refused (Err InsertError.Present) s w t
unfolding insert_along
along_present k x y s way w t f = rw (f, insert_along)

along_soon : (k x : ℕ) (s : Session) (way : List Step) (w t : List ℕ) → find k (certs_at way) ≡ none → too_soon s.c (splitting way) ≡ true
    → insert_along k x s way w t ≡ insert_refused (Err InsertError.SyncFirst) s w t
unfolding insert_along
along_soon k x s way w t f q = rw (f, insert_along) (rw q)

along_full : (k x : ℕ) (s : Session) (way : List Step) (w t : List ℕ) → find k (certs_at way) ≡ none → too_soon s.c (splitting way) ≡ false
    → no_room way (free_pages s (numbers way)) ≡ true → insert_along k x s way w t ≡ insert_refused (Err InsertError.Full) s w t
unfolding insert_along
along_full k x s way w t f q r = rw (f, insert_along) (rw q (rw r))

along_done : (k x : ℕ) (s : Session) (way : List Step) (w t : List ℕ) → find k (certs_at way) ≡ none → too_soon s.c (splitting way) ≡ false
    → no_room way (free_pages s (numbers way)) ≡ false → insert_along k x s way w t ≡ insert_done k x (counted s) way w t
unfolding insert_along
along_done k x s way w t f q r = rw (f, insert_along) (rw q (rw r))

pub key_along : (k x : ℕ) (s : Session) (w t : List ℕ) (steps : List Step) → (way_of s.n s.c k w).steps ≡ some steps
    → insert_key k x s w t ≡ insert_along k x s steps (way_of s.n s.c k w).table t
unfolding insert_key
key_along k x s w t steps h = rw (insert_key, h)

pub insert-good : (w t : List ℕ) (s : Session) (model serial issue x : ℕ) → lengths_for s w t ≡ true → good_parts model serial issue ≡ true
    → fit0 s.n w ≡ true → insert w t s model serial issue x ≡ insert_key (key_of model serial issue) x s w t
unfolding insert
insert-good w t s model serial issue x l g f = rw (l, insert) (rw g (rw f))

pub insert_bad : (w t : List ℕ) (s : Session) (model serial issue x : ℕ) → lengths_for s w t ≡ true → good_parts model serial issue ≡ false
    → insert w t s model serial issue x ≡ insert_refused (Err InsertError.BadKey) s w t
unfolding insert
insert_bad w t s model serial issue x l g = rw (l, insert) (rw g)

-- ── The way and the free pages ──────────────────────────────────────────────────────────────────────────────────

from_low : (n : ℕ) (t : List ℕ) (k : ℕ) (above : List Step) (e : Place) → From n t k above e → Low above
from_low n t k [] e f = tt
from_low n t k (u ∷ above) e f =
    ((shown-kind n t u.place u.page.view (at-shows f.0)).1, from_low n t k above u.place f.1)

path-low : (n : ℕ) (t : List ℕ) (k : ℕ) (s : Step) (above : List Step) → Path n t k (s ∷ above) → Low (s ∷ above)
path-low n t k s above p =
    ((shown-kind n t s.place s.page.view (at-shows p.0)).1, from_low n t k above s.place p.1)

pages-free : (s : Session) (entered : List ℕ) (i : ℕ) → mem i (free_pages s entered) ≡ true → free_mark s i ≡ true
pages-free s entered i m =
    let j = mem_index i (free_pages s entered) 0 m in
    subst (λ (a : ℕ). free_mark s a ≡ true) j.2 (all-at (all-free_pages s entered) j.0 0 j.1).free

-- ── One insert ──────────────────────────────────────────────────────────────────────────────────────────────────

module _ {s : Session} {W S : List ℕ} {Been : States} (X : Safe s W S Been) (k x : ℕ) (bound : k ≤ last_key)
    (good : good_key k ≡ true) (small : x < 256 ^ 4) where
  way : Way
  way = way_of s.n s.c k W

  D : Descends s W S Been k way
  unfolding way
  D = way_descends bound W X

  steps : List Step
  steps = D.last ∷ D.above

  abbrev n : ℕ
  n = s.n

  keeps : Keeps n s.c (counted s) way.table S Been
  keeps = keeps-totalling (wraps (s.total + 1)) (keeps-of D.safe)

  leaf-tells : (a : Option ℕ) → find k (certs_at steps) ≡ a → Tells n W k a
  unfolding steps
  leaf-tells a h = subst (Tells n W k) h (steady-told D.steady (way-tells bound D))

  refusal : (a : Inserted) → Stays s W S Been (insert_refused a s way.table S)
  unfolding insert_refused
  refusal a = record { session = refl; stable = refl; safe = D.safe; steady = D.steady }

  -- the splits, then the entry
  module _ (soon : too_soon s.c (splitting steps) ≡ false) (has_room : no_room steps (free_pages s (numbers steps)) ≡ false) where
    abbrev new : List ℕ
    new = free_pages s (numbers steps)

    made : Making
    made = split s.c k steps new (making way.table (counted s) 0)

    standing : Stands n s.c S Been way.table (counted s) k D.last (numbers steps) new made
    unfolding steps made
    standing =
        split-stands keeps k D.above D.last new D.path
        (plan s.c D.above D.last new (path-low n way.table k D.last D.above D.path) soon has_room)
        (pages-free s (numbers steps)) (distinct-free_pages s (numbers steps))

    leaf : (read made.table standing.place.child).view.kind ≡ leaf_kind
    leaf = standing.kind ∙ D.leaf

    roomy : length (read made.table standing.place.child).view.certs < leaf_room
    roomy = (room (read made.table standing.place.child).view standing.roomy).0

    result : List ℕ
    result = changed s.c (put_cert (record { key = k; value = x })) made.table made.at

    put-here : (F : List ℕ → Type 0) → F (changed s.c (put_cert (record { key = k; value = x })) made.table standing.place.child) → F result
    unfolding result
    put-here F h =
        subst (λ (i : ℕ). F (changed s.c (put_cert (record { key = k; value = x })) made.table i)) standing.number h

    restates : Restates n s.c made.table
        (changed s.c (put_cert (record { key = k; value = x })) made.table standing.place.child) k (some x) standing.place
        (with_cert standing.keeps standing.node standing.found leaf roomy good x small)
    restates = put_restates standing.keeps standing.node standing.found leaf roomy good x small

    done : find k (certs_at steps) ≡ none → Added s W S Been k x (insert_done k x (counted s) steps way.table S)
    unfolding insert_done free_pages made result
    done f = record {
      answer = refl;
      stable = refl;
      pages = standing.keeps.pages;
      counter = standing.keeps.counter;
      unmarked = split-unmarked s.c k steps new (making way.table (counted s) 0);
      safe = put-here (λ t. Safe made.session t S (Also Been k (some x))) (safe-of (restate_keeps standing.keeps restates));
      absent = leaf-tells none f;
      own = put-here (λ t. Tells n t k (some x)) (restate_own standing.keeps restates);
      others = λ j a d t. put-here (λ u. Tells n u j a)
          (restate_other standing.keeps restates j a d (standing.tells j a (steady-tells D.steady t)));
    }

  along : Inserts s W S Been k x (insert_along k x s steps way.table S)
  unfolding insert_refused
  along = go (find k (certs_at steps)) refl (too_soon s.c (splitting steps)) refl (no_room steps (free_pages s (numbers steps))) refl
    where
      Goal : Left Inserted → Type 0
      Goal r = Inserts s W S Been k x r

      go : (a : Option ℕ) → find k (certs_at steps) ≡ a → (b : Bool) → too_soon s.c (splitting steps) ≡ b
          → (d : Bool) → no_room steps (free_pages s (numbers steps)) ≡ d → Goal (insert_along k x s steps way.table S)
      go (some y) f b p d q =
          subst Goal (sym (along_present k x y s steps way.table S f)) (present y (leaf-tells (some y) f) refl (refusal (Err InsertError.Present)))
      go none f true p d q =
          subst Goal (sym (along_soon k x s steps way.table S f p)) (sync_first (leaf-tells none f) refl (refusal (Err InsertError.SyncFirst)))
      go none f false p true q =
          subst Goal (sym (along_full k x s steps way.table S f p q)) (no_room_lem (leaf-tells none f) refl (refusal (Err InsertError.Full)))
      go none f false p false q = subst Goal (sym (along_done k x s steps way.table S f p q)) (added (done p q f))

  pub insert_key_lem : Inserts s W S Been k x (insert_key k x s W S)
  unfolding way steps
  insert_key_lem = subst (Inserts s W S Been k x) (sym (key_along k x s W S steps D.given)) along

-- ── The call ────────────────────────────────────────────────────────────────────────────────────────────────────

module _ {s : Session} {W S : List ℕ} {Been : States} (X : Safe s W S Been) (model serial issue x : ℕ)
    (wide_model : model < 2 ^ 16) (wide_serial : serial < 2 ^ 32) (wide_issue : issue < 2 ^ 16) (wide-record : x < 256 ^ 4) where
  pub insert-inserts : good_parts model serial issue ≡ true
      → Inserts s W S Been (key_of model serial issue) x (insert W S s model serial issue x)
  insert-inserts g =
      subst (Inserts s W S Been (key_of model serial issue) x)
      (sym (insert-good W S s model serial issue x (lengths_for_lem X) g X.working.fit))
      (insert_key_lem X (key_of model serial issue) x (omega (arith, key_of-bound model serial issue wide_serial wide_issue wide_model))
      (good_key-key_of model serial issue wide_serial wide_issue ∙ g) wide-record)

  pub insert_bad_key : good_parts model serial issue ≡ false → insert W S s model serial issue x ≡ insert_refused (Err InsertError.BadKey) s W S
  insert_bad_key g = insert_bad W S s model serial issue x (lengths_for_lem X) g
