-- After a crash: the next opening answers done, or spent exactly where the number is above the last one; where it is
-- done, each key is in a state that it has had since the last sync or opening, then if no page was written, now if all
-- were.
use Rattle.std.proofs.Common.{◌≡◌, ℕ, ◌+◌, ◌*◌, ◌<◌, ◌≤◌, Bool, true, false, ◌⊎◌, List, length, get_or, sym, ◌∙◌, inl, inr, arith, Err}
use mathlib.Core.Option.{Option}
use Rattle.rules.specs.Layout.{page_size, last_number}
use Rattle.rules.specs.Table.{number0}
use Rattle.rules.specs.Tree.{tree_of}
use Rattle.rules.specs.Marks.{opened}
use Rattle.rules.specs.Crash.{mix}
use Rattle.rules.specs.Open.{opening, open_refused}
use Rattle.rules.specs.declared.OpenError.{OpenError}
use Rattle.rules.specs.declared.Session.{Session}
use Rattle.rules.proofs.Bytes.Mixes.{length-mix, bytes-mix}
use Rattle.rules.proofs.Demand3.Ways.Ways.{Tells}
use Rattle.rules.proofs.Demand3.Ways.Invariant.{Good, States}
use Rattle.rules.proofs.Demand3.Mix.Mix.{Mixed}
use Rattle.rules.proofs.Demand3.Mix.MixTheorem.{mix-good, mix_older, mix-tells}
use Rattle.rules.proofs.Demand3.Epochs.Epochs.{Alike, alike-after, alike-tells, mixed_alike, mixed_working, working-good}
use Rattle.rules.proofs.Demand3.Epochs.Crashes.{alike-set_number, mix_mixed, mix-fit0, mix-number, mix_all, mix-none}
use Rattle.rules.proofs.Demand3.Epochs.Store.{Whole, Safe}
use Rattle.rules.proofs.Demand3.Epochs.Openings.{raise, done, opening-done, opening-spent, opening-safe}

-- U is the working table that the driver writes from: W, or inside a sync W with the number c + 2
module _ {s : Session} {W S : List ℕ} {Been : States} (x : Safe s W S Been) (U : List ℕ) (a : Alike s.n W U) (u : Whole s.n U)
    (above : s.c < number0 U) (written : List Bool) where
  abbrev left : List ℕ
  left = mix written U S

  some-pages : 0 < s.n
  some-pages = omega (arith, x.few)

  left_mixed : Mixed s.n S W left
  left_mixed = mixed_working a (mix_mixed s.n written U S u.length_is x.stable.length_is some-pages)

  raised_mixed : Mixed s.n S W (raise left)
  raised_mixed = mixed_alike (raise left) (alike-set_number s.n left (number0 left + 1)) left_mixed

  pub left-whole : Whole s.n left
  left-whole = record {
    length_is = length-mix written U S (u.length_is ∙ sym x.stable.length_is) ∙ x.stable.length_is;
    bytes = bytes-mix written U S u.bytes x.stable.bytes;
    fit = mix-fit0 s.n written U S u.length_is x.stable.length_is some-pages x.stable.fit u.fit;
  }

  pub left-good : Good s.n left
  left-good = mix-good s.n S W left s.c Been x.inv left_mixed

  -- the counter is new
  pub left-number : s.c < number0 left
  left-number = go (mix-number s.n written U S u.length_is x.stable.length_is some-pages)
    where
      go : (number0 left ≡ number0 S) ⊎ (number0 left ≡ number0 U) → s.c < number0 left
      go (inl e) = omega (arith, e, x.number_stable)
      go (inr e) = omega (arith, e)

  -- ── The answer ──────────────────────────────────────────────────────────────────────────────────────────────────

  pub recovery_done : (w : List ℕ) → length w ≡ s.n * page_size → number0 left ≤ last_number → opening w left ≡ done s.n left
  recovery_done w h l = opening-done s.n w left x.few x.most h left-whole left-good l

  pub recovery_spent : (w : List ℕ) → length w ≡ s.n * page_size → last_number < number0 left
      → opening w left ≡ open_refused (Err OpenError.Spent) w left
  recovery_spent w h l = opening-spent s.n w left x.few x.most h left-whole left-good l

  -- ── The store after it ──────────────────────────────────────────────────────────────────────────────────────────

  pub recovery_safe : number0 left ≤ last_number
      → Safe (opened s.n (number0 left) (tree_of s.n left)) (raise left) (raise left) (Tells s.n (raise left))
  recovery_safe l =
      opening-safe s.n left x.few x.most left-whole left-good l
      (mix_older s.n S W (raise left) s.c Been x.inv raised_mixed (number0 left) left-number)

  pub recovery_told : {k : ℕ} {state : Option ℕ} → Tells s.n (raise left) k state → Been k state
  recovery_told t = mix-tells s.n S W (raise left) s.c Been x.inv raised_mixed t

  -- no page was written: what the stable table told
  pub recovery_none : ((i : ℕ) → i < s.n → get_or written i false ≡ false) → {k : ℕ} {state : Option ℕ}
      → Tells s.n S k state → Tells s.n (raise left) k state
  recovery_none f t =
      alike-tells (raise left) x.inv.good
      (alike-after (mix-none s.n written U S u.length_is x.stable.length_is f some-pages)
      (alike-set_number s.n left (number0 left + 1)))
      t

  -- all were: what the working table told
  pub recovery_all : ((i : ℕ) → i < s.n → get_or written i false ≡ true) → {k : ℕ} {state : Option ℕ}
      → Tells s.n W k state → Tells s.n (raise left) k state
  recovery_all f t =
      alike-tells (raise left) (working-good x.inv)
      (alike-after a
      (alike-after (mix_all s.n written U S u.length_is x.stable.length_is f some-pages)
      (alike-set_number s.n left (number0 left + 1))))
      t
