-- The numbers with a mark, lowest first: exactly those, each once. And so the free pages that an insert may take.
-- Assumes nothing.
use Rattle.std.proofs.Common.{◌≡◌, ℕ, zero, suc, ◌+◌, ◌-◌, ◌<◌, ◌≤◌, Bool, true, false, not, ◌&&◌, eqb, List, ◌∷◌, get_or, refl, arith, lt-ltb, eqb-true}
use mathlib.Core.Bool.{and-eq-true_iff}
use borrow.Author.Tests.{eqb-false, not-true}
use Rattle.rules.specs.Test.{mem, distinct}
use Rattle.rules.specs.Entry.{rises_from, rising}
use Rattle.rules.specs.Marks.{numbers_from, free_pages}
use Rattle.rules.specs.declared.Session.{Session}
use Rattle.rules.proofs.Entries.Rises.{rising-of-rises, rising-distinct}
use Rattle.rules.proofs.Bytes.All.{All, nil, cons, all_map}

-- what is known of a number of `numbers_from mark i k`
pub record Numbered (mark : ℕ → Bool) (i k j : ℕ) : Type 0 where
  pub from : i ≤ j
  pub below : j < i + k
  pub marked : mark j ≡ true

later : {mark : ℕ → Bool} {i k j : ℕ} → Numbered mark (suc i) k j → Numbered mark i (suc k) j
later h = record { from = omega arith; below = omega arith; marked = h.marked }

-- one of the two shapes of a step
pub numbers_from-here : (mark : ℕ → Bool) (i k : ℕ) → mark i ≡ true → numbers_from mark i (suc k) ≡ i ∷ numbers_from mark (suc i) k
unfolding numbers_from
numbers_from-here mark i k e = rw (e, numbers_from)

pub numbers_from-past : (mark : ℕ → Bool) (i k : ℕ) → mark i ≡ false → numbers_from mark i (suc k) ≡ numbers_from mark (suc i) k
unfolding numbers_from
numbers_from-past mark i k e = rw (e, numbers_from)

pub all-numbers_from : (mark : ℕ → Bool) (i k : ℕ) → All (Numbered mark i k) (numbers_from mark i k)
unfolding numbers_from
all-numbers_from mark i zero = nil
all-numbers_from mark i (suc k) = go (mark i) refl (all_map (λ j h. later h) (all-numbers_from mark (suc i) k))
  where
    go : (t : Bool) → mark i ≡ t → All (Numbered mark i (suc k)) (numbers_from mark (suc i) k) → All (Numbered mark i (suc k)) (numbers_from mark i (suc k))
    go true e h = rw (numbers_from-here mark i k e) (cons {x = i} (record { from = omega arith; below = omega arith; marked = e }) h)
    go false e h = rw (numbers_from-past mark i k e) h

pub mem-numbers_from : (mark : ℕ → Bool) (i k j : ℕ) → Numbered mark i k j → mem j (numbers_from mark i k) ≡ true
unfolding numbers_from mem
mem-numbers_from mark i zero j h = absurd (omega arith)
mem-numbers_from mark i (suc k) j h = go (mark i) refl (eqb j i) refl (mem-numbers_from mark (suc i) k j)
  where
    go : (t : Bool) → mark i ≡ t → (u : Bool) → eqb j i ≡ u → (Numbered mark (suc i) k j → mem j (numbers_from mark (suc i) k) ≡ true) → mem j (numbers_from mark i (suc k)) ≡ true
    go true e true f ih = rw (numbers_from-here mark i k e, f)
    go true e false f ih =
        rw (numbers_from-here mark i k e, f) (ih (record { from = omega (arith, eqb-false j i f); below = omega arith; marked = h.marked }))
    go false e true f ih = cc (h.marked, eqb-true j i f)
    go false e false f ih =
        rw (numbers_from-past mark i k e) (ih (record { from = omega (arith, eqb-false j i f); below = omega arith; marked = h.marked }))

-- they rise, so none stands there twice
pub rises_from-numbers_from : (mark : ℕ → Bool) (b i k : ℕ) → b < i → rises_from b (numbers_from mark i k) ≡ true
unfolding numbers_from rises_from
rises_from-numbers_from mark b i zero h = refl
rises_from-numbers_from mark b i (suc k) h =
    go (mark i) refl (rises_from-numbers_from mark i (suc i) k (omega arith)) (rises_from-numbers_from mark b (suc i) k (omega arith))
  where
    go : (t : Bool) → mark i ≡ t → rises_from i (numbers_from mark (suc i) k) ≡ true → rises_from b (numbers_from mark (suc i) k) ≡ true → rises_from b (numbers_from mark i (suc k)) ≡ true
    go true e f g = rw (numbers_from-here mark i k e, lt-ltb b i h) f
    go false e f g = rw (numbers_from-past mark i k e) g

-- ── The free pages ──────────────────────────────────────────────────────────────────────────────────────────────

-- what is known of a page that an insert may take
pub record FreePage (s : Session) (entered : List ℕ) (i : ℕ) : Type 0 where
  pub page : 1 ≤ i
  pub below : i < s.n
  pub free : get_or s.free i false ≡ true
  pub apart : mem i entered ≡ false

module _ (s : Session) (entered : List ℕ) where
  pub all-free_pages : All (FreePage s entered) (free_pages s entered)
  unfolding free_pages
  all-free_pages = all_map each (all-numbers_from (λ i. get_or s.free i false && not (mem i entered)) 1 (s.n - 1))
    where
      each : (i : ℕ) → Numbered (λ i. get_or s.free i false && not (mem i entered)) 1 (s.n - 1) i → FreePage s entered i
      each i h =
          let p = (and-eq-true_iff (get_or s.free i false) (not (mem i entered))).0 h.marked in
          record { page = h.from; below = omega arith; free = p.0; apart = not-true (mem i entered) p.1 }

  pub mem-free_pages : (i : ℕ) → FreePage s entered i → mem i (free_pages s entered) ≡ true
  unfolding free_pages
  mem-free_pages i h =
      mem-numbers_from (λ i. get_or s.free i false && not (mem i entered)) 1 (s.n - 1) i
      (record { from = h.page; below = omega arith; marked = rw (h.free, h.apart) })

  pub rises-free_pages : rises_from 0 (free_pages s entered) ≡ true
  unfolding free_pages
  rises-free_pages = rises_from-numbers_from (λ i. get_or s.free i false && not (mem i entered)) 0 1 (s.n - 1) (omega arith)

  pub rising-free_pages : rising (free_pages s entered) ≡ true
  rising-free_pages = rising-of-rises 0 (free_pages s entered) rises-free_pages

  pub distinct-free_pages : distinct (free_pages s entered) ≡ true
  distinct-free_pages = rising-distinct (free_pages s entered) rising-free_pages
