-- What is handed over to an insert that goes on: numbers for its new pages, free and each another. Assumes nothing.
use Prim.Native.Nat.{ℕ, zero, suc, ◌≤◌}
use native.Mathlib.Omega.{arith}
use mathlib.Core.Path.{◌≡◌, refl, sym, subst}
use mathlib.Core.Logic.{◌≢◌}
use mathlib.Core.Bool.{Bool, true, false, ◌&&◌}
use mathlib.Core.List.{List, [], ◌∷◌}
use borrow.Author.Tests.{ltb-true, ltb-false}
use lib.Dec.{ltb}
use lib.ListN.{length, take, get_or, get_or-eq_default}
use lib.Seq.{length-take-le}
use Rattle.rules.specs.Walk as rules
use Rattle.rules.specs.Marks.{free_pages}
use Rattle.rules.specs.Insert.{root_splits, too_high, new_pages, no_room}
use Rattle.rules.specs.declared.Session.{Session}
use Rattle.rules.proofs.Bytes.All.{All, all-at, all_take, all_map}
use Rattle.rules.proofs.Entries.Rises.{rising-take, rising-distinct}
use Rattle.rules.proofs.Bytes.Numbers.{FreePage, all-free_pages, rising-free_pages}
use Rattle.rules.proofs.Entries.Tests.{or_none, and_other}
use Rattle.way.specs.declared.Step.{Step}
use Rattle.apply.specs.Leads.{Leads, Fresh, Chosen, Ready, steps_in, ReadyWay, Level}
use Rattle.apply.proofs.Same.{Agree}
use Rattle.apply.proofs.Levels.{steps-long}

-- ── Numbers that agree with the free pages ──────────────────────────────────────────────────────────────────────

take-agree : (m : ℕ) (a b : List ℕ) → Agree m a b → m ≤ length a → m ≤ length b → take m a ≡ take m b
take-agree zero a b h p q = refl
take-agree (suc m) [] b h p q = absurd (omega arith)
take-agree (suc m) (x ∷ xs) [] h p q = absurd (omega arith)
take-agree (suc m) (x ∷ xs) (y ∷ ys) h p q =
    let z = h 0 (omega arith) in
    let zs = take-agree m xs ys (λ j l. h (suc j) (omega arith)) (omega arith) (omega arith) in
    rw (z, zs)

-- a list that agrees with another, all of whose numbers are other than 0, is as long as it agrees
agree-long : (m : ℕ) (a b : List ℕ) → Agree m a b → m ≤ length b → All (λ (i : ℕ). 1 ≤ i) b → m ≤ length a
agree-long m a b h q w = go (ltb (length a) m) refl
  where
    go : (t : Bool) → ltb (length a) m ≡ t → m ≤ length a
    go false e = ltb-false (length a) m e
    go true e =
        let l = ltb-true (length a) m e in
        let none : get_or a (length a) 0 ≡ 0 = get_or-eq_default a 0 (omega arith) in
        let some = all-at w (length a) 0 (omega arith) in
        absurd (omega (arith, h (length a) l))

module _ {k : ℕ} {t : List ℕ} {s : Session} {steps : List rules.Step} {pages : List ℕ} (R : Ready k t s steps pages) where
  abbrev free : List ℕ
  free = free_pages s (rules.numbers steps)

  abbrev need : ℕ
  need = new_pages steps

  room : (ltb (length free) need ≡ false) × ((root_splits steps && too_high steps) ≡ false)
  unfolding no_room
  room = or_none (ltb (length free) need) (root_splits steps && too_high steps) R.room

  enough : need ≤ length free
  enough = ltb-false (length free) need room.0

  pub ready-long : need ≤ length pages
  ready-long = agree-long need pages free R.lowest enough (all_map (λ i x. x.page) (all-free_pages s (rules.numbers steps)))

  taken-same : take need pages ≡ take need free
  taken-same = take-agree need pages free R.lowest ready-long enough

  fresh : (i : ℕ) → FreePage s (rules.numbers steps) i → Fresh s.n (rules.numbers steps) i
  fresh i x = record { page = x.page; below = x.below; apart = x.apart }

  free-chosen : Chosen s.n steps (take need free)
  free-chosen = record {
    fresh = all_take need (all_map fresh (all-free_pages s (rules.numbers steps)));
    apart = rising-distinct (take need free) (rising-take need free (rising-free_pages s (rules.numbers steps)));
    enough = omega (arith, length-take-le need free enough);
    room = and_other (root_splits steps) (too_high steps) room.1;
  }

  pub ready-chosen : Chosen s.n steps (take need pages)
  ready-chosen = subst (Chosen s.n steps) (sym taken-same) free-chosen

-- ── A way by its length ─────────────────────────────────────────────────────────────────────────────────────────

module _ {k : ℕ} {t : List ℕ} {s : Session} {w : List Step} {pages : List ℕ} (R : ReadyWay k t s w pages) where
  pub ready-level : (xs : List Step) → w ≡ xs → Level s.c k t xs pages
  ready-level xs q = subst (λ (ys : List Step). Level s.c k t ys pages) q record {
    n = s.n;
    whole = R.ready.whole;
    leads = R.ready.leads;
    short = omega (arith, R.ready.short, steps-long t w);
    heads = R.heads;
    new = ready-chosen R.ready;
  }

  pub some_page : length w ≢ 0
  some_page q = absurd (go w q R.ready.leads)
    where
      go : (xs : List Step) → length xs ≡ 0 → Leads s.n k t (steps_in t xs) → ⊥
      go [] e l = l
      go (x ∷ xs) e l = absurd (omega arith)
