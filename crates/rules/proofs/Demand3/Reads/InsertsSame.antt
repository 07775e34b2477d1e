-- Insert answers by the steps of its key's way and by the session. A mend made before brings forward what insert's own walk would
-- mend, so it changes no answer of insert: not 6, though a mended page is touched, and not 7.
use Rattle.std.proofs.Common.{◌≡◌, ℕ, Bool, true, false, List, sym, refl, ap, ◌∙◌, Err}
use mathlib.Core.Option.{Option, some, none}
use Rattle.rules.specs.Key.{key_of, good_parts}
use Rattle.rules.specs.Entry.{find}
use Rattle.rules.specs.Walk.{Step, numbers, certs_at, way_of}
use Rattle.rules.specs.Marks.{free_pages}
use Rattle.rules.specs.Call.{Left}
use Rattle.rules.specs.Insert.{splitting, too_soon, no_room, insert_refused, insert_done, insert_along, insert}
use Rattle.rules.specs.declared.Session.{Session}
use Rattle.rules.specs.Answer.{Inserted}
use Rattle.rules.specs.declared.InsertError.{InsertError}
use Rattle.rules.proofs.Demand3.Ways.Invariant.{States}
use Rattle.rules.proofs.Demand3.Epochs.Store.{Safe}
use Rattle.rules.proofs.Demand3.Epochs.Syncs.{lengths_for_lem}
use Rattle.rules.proofs.Demand3.Steps.Inserts.{key_along, insert-good, insert_bad}
use Rattle.rules.proofs.Demand3.Reads.Enters.{Calm, calm}
use Rattle.rules.proofs.Demand3.Reads.SameWay.{steps_to, way-passes}

-- the steps and the session decide; the tables have no say
along_answer : (k x : ℕ) (s : Session) (way : List Step) (w t w' : List ℕ)
    → (insert_along k x s way w t).answer ≡ (insert_along k x s way w' t).answer
unfolding insert_along insert_refused insert_done
along_answer k x s way w t w' =
    go (find k (certs_at way)) refl (too_soon s.c (splitting way)) refl (no_room way (free_pages s (numbers way))) refl
  where
    go : (a : Option ℕ) → find k (certs_at way) ≡ a → (b : Bool) → too_soon s.c (splitting way) ≡ b
        → (d : Bool) → no_room way (free_pages s (numbers way)) ≡ d
        → (insert_along k x s way w t).answer ≡ (insert_along k x s way w' t).answer
    go (some y) f b p d q = rw (f, insert_along)
    go none f true p d q = rw (f, insert_along) (rw p)
    go none f false p true q = rw (f, insert_along) (rw p (rw q))
    go none f false p false q = rw (f, insert_along) (rw p (rw q))

module _ {s : Session} {t u S : List ℕ} {Been : States} (y : Safe s t S Been) (m : Calm s t S Been u) (model serial issue x : ℕ) where
  abbrev k : ℕ
  k = key_of model serial issue

  abbrev steps : List Step
  steps = steps_to s.n s.c (key_of model serial issue) t

  insert-steps : good_parts model serial issue ≡ true
      → (insert u S s model serial issue x).answer ≡ (insert_along k x s steps t S).answer
  insert-steps g =
      ap (λ (r : Left Inserted). r.answer)
      (insert-good u S s model serial issue x (lengths_for_lem m.safe) g m.safe.working.fit
      ∙ key_along k x s u S steps (way-passes k y m).given)
      ∙ along_answer k x s steps (way_of s.n s.c k u).table S t

  insert-badkey : good_parts model serial issue ≡ false → (insert u S s model serial issue x).answer ≡ Err InsertError.BadKey
  unfolding insert_refused
  insert-badkey g = ap (λ (r : Left Inserted). r.answer) (insert_bad u S s model serial issue x (lengths_for_lem m.safe) g)

pub insert-same : {s : Session} {t u S : List ℕ} {Been : States} → Safe s t S Been → Calm s t S Been u → (model serial issue x : ℕ)
    → (insert u S s model serial issue x).answer ≡ (insert t S s model serial issue x).answer
insert-same {s} {t} {u} {S} {Been} y m model serial issue x = go (good_parts model serial issue) refl
  where
    go : (b : Bool) → good_parts model serial issue ≡ b → (insert u S s model serial issue x).answer ≡ (insert t S s model serial issue x).answer
    go true g = insert-steps y m model serial issue x g ∙ sym (insert-steps y (calm y) model serial issue x g)
    go false g = insert-badkey y m model serial issue x g ∙ sym (insert-badkey y (calm y) model serial issue x g)
