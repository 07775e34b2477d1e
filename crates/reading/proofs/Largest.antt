-- The last of certificates that rise is the newest of its meter.
use Rattle.std.specs.Prelude.{Err}
use Prim.Native.Nat.{ℕ, ◌-◌, ◌^◌, ◌≤◌, ◌<◌}
use native.Mathlib.Omega.{arith}
use mathlib.Core.Path.{◌≡◌, refl, sym, ap, ◌∙◌, subst}
use mathlib.Core.Bool.{true}
use mathlib.Core.List.{List, [], ◌∷◌}
use mathlib.Core.Option.{some, none}
use lib.ListN.{length}
use lib.Seq.{take_all}
use Rattle.rules.specs.Layout.{last_key}
use Rattle.rules.specs.Test.{between}
use Rattle.rules.specs.Key.{key_of, issue_of}
use Rattle.rules.specs.Entry.{Cert, keys, find, cut, rising}
use Rattle.rules.specs.Newest.{meter, newest_in}
use Rattle.rules.specs.declared.Asked.{Asked}
use Rattle.rules.specs.declared.FindError.{FindError}
use Rattle.rules.proofs.Entries.Tests.{all-mem, between-of, between-low, between-high}
use Rattle.rules.proofs.Entries.Rises.{length-keys}
use Rattle.rules.proofs.Entries.Entries.{mem-find, find-cut, cut-within, cut-rising}
use Rattle.rules.proofs.Demand3.Reads.Gathers.{gather}
use Rattle.rules.proofs.Demand3.Reads.Shown.{length-rising, Last, last_of}
use Rattle.reading.specs.Reading.{last_issue}
use Rattle.reading.specs.Agreeing.{Largest, found, missing}
use Rattle.reading.proofs.Meters.{issues_fit, meter-high, key_of-issue, issue-from, issue-to}

-- where there is room for all
pub gather_all : (a : Asked) (ys : List Cert) → length (cut a.low a.high ys) ≤ a.room → gather a [] ys ≡ cut a.low a.high ys
gather_all a ys h =
    let q : a.room - 0 ≡ a.room = omega arith in
    rw q (take_all a.room (cut a.low a.high ys) h)

-- ── Of one meter ────────────────────────────────────────────────────────────────────────────────────────────────

module _ (certs : List Cert) (rise : rising (keys certs) ≡ true) (model serial : ℕ) (wide : serial < 2 ^ 32) where
  abbrev low : ℕ
  low = key_of model serial 1

  abbrev high : ℕ
  high = key_of model serial last_issue

  abbrev own : List Cert
  own = cut low high certs

  -- there is room for all of them
  few : length own ≤ last_issue
  unfolding key_of
  few = omega (arith, length-rising low high (keys own) (cut-rising low high certs rise) (cut-within low high certs), length-keys own)

  pub gather_meter : gather (meter model serial) [] certs ≡ own
  unfolding meter
  gather_meter =
      gather_all (meter model serial) certs
      (subst (λ (h : ℕ). length (cut low h certs) ≤ last_key) (sym (meter-high model serial)) (omega (arith, few, issues_fit)))
      ∙ ap (λ (h : ℕ). cut low h certs) (meter-high model serial)

  in_meter : (j : ℕ) → 1 ≤ j → j ≤ last_issue → find (key_of model serial j) own ≡ find (key_of model serial j) certs
  unfolding key_of
  in_meter j a b = find-cut low high (key_of model serial j) certs (between-of low high (key_of model serial j) (omega arith) (omega arith))

  above-issue : (i j : ℕ) → i < j → key_of model serial i < key_of model serial j
  unfolding key_of
  above-issue i j h = omega arith

  pub largest : Largest certs model serial (newest_in own)
  unfolding newest_in find
  largest = go own refl
    where
      ends : (x : Cert) (xs : List Cert) → own ≡ x ∷ xs → Largest certs model serial (newest_in own)
      ends x xs q =
          let l = last_of x xs (ap (λ (ys : List Cert). rising (keys ys)) (sym q) ∙ cut-rising low high certs rise) in
          let k = l.entry.key in
          let f : find k own ≡ some l.entry.value = ap (find k) q ∙ l.finds in
          let b = all-mem (between low high) k (keys own) (cut-within low high certs) (mem-find k own l.entry.value f) in
          let a = between-low low high k b in
          let z = between-high low high k b in
          let is = key_of-issue model serial k a z in
          let from = issue-from model serial k a z in
          found (issue_of k) l.entry.value (ap newest_in q ∙ l.answer) from (issue-to model serial k a z)
          (ap (λ (j : ℕ). find j certs) is ∙ (sym (find-cut low high k certs b) ∙ f))
          (λ j h m. sym (in_meter j (omega (arith, from, h)) m)
          ∙ (ap (find (key_of model serial j)) q ∙ l.none_above (key_of model serial j) (omega (arith, above-issue (issue_of k) j h, is))))

      go : (xs : List Cert) → own ≡ xs → Largest certs model serial (newest_in own)
      go [] q = missing (ap newest_in q ∙ nothing) (λ j a b. sym (in_meter j a b) ∙ (ap (find (key_of model serial j)) q ∙ nowhere (key_of model serial j)))
        where
          nothing : newest_in [] ≡ Err FindError.Missing
          nothing = refl

          nowhere : (k : ℕ) → find {B = ℕ} k [] ≡ none
          nowhere k = refl
      go (x ∷ xs) q = ends x xs q
