-- Halving: each turn of the loop is one of the definition's, and among keys that rise it ends at the spot.
-- Assumes nothing.
use mathlib.Core.Path.{◌≡◌, refl, sym, ap, ◌∙◌}
use mathlib.Core.Bool.{Bool, true, false}
use mathlib.Core.List.{List}
use Prim.Native.Nat.{ℕ, zero, suc, ◌+◌, ◌*◌, ◌-◌, ◌/◌, ◌%◌, ◌^◌, ◌≤◌, ◌<◌}
use native.Mathlib.Nat.{add-zero, mul-le-mul_right}
use native.Mathlib.Omega.{arith}
use borrow.Author.Tests.{leb-true, leb-false}
use mir.Val.{bool_byte}
use lib.Dec.{leb}
use lib.ListN.{length, get_or}
use Rattle.rules.specs.Entry.{rising}
use Rattle.entries.specs.Spot.{spot_of}
use Rattle.entries.proofs.KeysIn.{spot-bound}
use Rattle.seek.specs.Guess.{passed, halve, guess_of}
use Rattle.seek.proofs.Spots.{spot-above, spot-below}

-- ── One comparison ──────────────────────────────────────────────────────────────────────────────────────────────

pub passed-most : (k x n : ℕ) → passed k x n ≤ n
unfolding passed
passed-most k x n = go (leb x k)
  where
    go : (t : Bool) → elim t [ true ↦ n | false ↦ 0 ] ≤ n
    go true = omega arith
    go false = omega arith

passed_none : (k x : ℕ) → passed k x 0 ≡ 0
passed_none k x = omega (arith, passed-most k x 0)

pub one-most : (t : Bool) → bool_byte t ≤ 1
one-most true = omega arith
one-most false = omega arith

-- a step is taken or not without a jump: shifted by the answer it is doubled or not, and one is taken away again
pub shifted : (k x n : ℕ) → n ≤ 2 ^ 60
    → (n ≤ (n * 2 ^ bool_byte (leb x k)) % 18446744073709551616)
    × ((n * 2 ^ bool_byte (leb x k)) % 18446744073709551616 - n ≡ passed k x n)
unfolding passed
shifted k x n h = go (leb x k)
  where
    go : (t : Bool) → (n ≤ (n * 2 ^ bool_byte t) % 18446744073709551616)
        × ((n * 2 ^ bool_byte t) % 18446744073709551616 - n ≡ elim t [ true ↦ n | false ↦ 0 ])
    go true = (omega arith, omega arith)
    go false = (omega arith, omega arith)

-- a slice holds fewer entries than bytes
pub few : (header size count n : ℕ) → 8 ≤ size → header + size * count ≤ n → n ≤ 2 ^ 63 → count ≤ 2 ^ 60
few header size count n o h m = omega (arith, mul-le-mul_right count o)

-- ── The loop ────────────────────────────────────────────────────────────────────────────────────────────────────

halve-none : (turns k : ℕ) (ks : List ℕ) (low : ℕ) → halve turns k ks low 0 ≡ low
unfolding halve
halve-none zero k ks low = refl
halve-none (suc turns) k ks low = rw (passed_none, add-zero) (halve-none turns k ks low)

-- the turns left lead to the guess
pub record Halving (k : ℕ) (ks : List ℕ) (low left : ℕ) : Type 0 where
  pub turns : ℕ
  pub enough : left ≤ turns
  pub inside : low + left ≤ length ks
  pub rest : halve turns k ks low left ≡ guess_of k ks

module _ (k : ℕ) (ks : List ℕ) where
  pub halving_all : Halving k ks 0 (length ks)
  unfolding guess_of
  halving_all = record { turns = length ks; enough = omega arith; inside = omega arith; rest = refl }

  module _ (low left : ℕ) (h : Halving k ks low left) where
    pub halving_end : left ≡ 0 → low ≡ guess_of k ks
    halving_end z = sym (halve-none h.turns k ks low) ∙ (ap (halve h.turns k ks low) (sym z) ∙ h.rest)

    module _ (o : 0 < left) where
      -- the last of the next half is a key
      pub half_inside : low + (left - left / 2) - 1 < length ks
      half_inside = omega (arith, h.inside)

      pub halving_step : (x : ℕ) → x ≡ get_or ks (low + (left - left / 2) - 1) 0
          → Halving k ks (low + passed k x (left - left / 2)) (left - (left - left / 2))
      unfolding halve
      halving_step x e = go h.turns h.enough h.rest
        where
          half : left - (left - left / 2) ≡ left / 2
          half = omega arith

          go : (turns : ℕ) → left ≤ turns → halve turns k ks low left ≡ guess_of k ks
              → Halving k ks (low + passed k x (left - left / 2)) (left - (left - left / 2))
          go zero m r = absurd (omega arith)
          go (suc turns) m r = record {
            turns = turns;
            enough = omega arith;
            inside = omega (arith, h.inside, passed-most k x (left - left / 2));
            rest = rw (half, e) r;
          }

-- ── Keys that rise ──────────────────────────────────────────────────────────────────────────────────────────────

-- the spot lies from low on, within the `left` entries there
record Among (k low left : ℕ) (ks : List ℕ) : Type 0 where
  inside : low + left ≤ length ks
  least : low ≤ spot_of k ks
  most : spot_of k ks ≤ low + left

-- half the entries left are passed if the last of them is not above k
among_step : (k low left : ℕ) (ks : List ℕ) → rising ks ≡ true → 0 < left → Among k low left ks
    → Among k (low + passed k (get_or ks (low + (left - left / 2) - 1) 0) (left - left / 2)) (left / 2) ks
unfolding passed
among_step k low left ks r o a = go (leb (get_or ks (low + (left - left / 2) - 1) 0) k) refl
  where
    go : (t : Bool) → leb (get_or ks (low + (left - left / 2) - 1) 0) k ≡ t
        → Among k (low + elim t [ true ↦ left - left / 2 | false ↦ 0 ]) (left / 2) ks
    go true q =
        let up = spot-above k (low + (left - left / 2) - 1) ks r (omega (arith, a.inside)) (leb-true (get_or ks (low + (left - left / 2) - 1) 0) k q) in
        record { inside = omega (arith, a.inside); least = omega (arith, up); most = omega (arith, a.most) }
    go false q =
        let down = spot-below k (low + (left - left / 2) - 1) ks (omega (arith, a.inside)) (leb-false (get_or ks (low + (left - left / 2) - 1) 0) k q) in
        record { inside = omega (arith, a.inside); least = omega (arith, a.least); most = omega (arith, down) }

halve-spot : (turns k low left : ℕ) (ks : List ℕ) → rising ks ≡ true → left ≤ turns → Among k low left ks
    → halve turns k ks low left ≡ spot_of k ks
unfolding halve
halve-spot zero k low left ks r h a = omega (arith, a.least, a.most)
halve-spot (suc turns) k low zero ks r h a = halve-none (suc turns) k ks low ∙ omega (arith, a.least, a.most)
halve-spot (suc turns) k low (suc left) ks r h a =
    halve-spot turns k (low + passed k (get_or ks (low + (suc left - suc left / 2) - 1) 0) (suc left - suc left / 2)) (suc left / 2) ks r (omega arith)
    (among_step k low (suc left) ks r (omega arith) a)

pub guess-spot : (k : ℕ) (ks : List ℕ) → rising ks ≡ true → guess_of k ks ≡ spot_of k ks
unfolding guess_of
guess-spot k ks r =
    halve-spot (length ks) k 0 (length ks) ks r (omega arith)
    (record { inside = omega arith; least = omega arith; most = omega (arith, spot-bound k ks) })
