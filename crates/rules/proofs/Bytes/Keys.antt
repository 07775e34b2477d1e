-- The certificate key: model, serial and issue are read off it again, so no two certificates share one.
-- Assumes nothing.
use Rattle.std.proofs.Common.{◌≡◌, ℕ, ◌^◌, ◌<◌, ◌≤◌, true, ltb, [], ◌∷◌, arith, ltb-true, lt-ltb}
use Rattle.rules.specs.Test.{every}
use Rattle.rules.specs.Layout.{last_final}
use Rattle.rules.specs.Key.{key_of, model_of, serial_of, issue_of, good_parts, good_key}
use Rattle.rules.proofs.Entries.Tests.{every_true}

module _ (model serial issue : ℕ) (hs : serial < 2 ^ 32) (hi : issue < 2 ^ 16) where
  pub model_of-key_of : model_of (key_of model serial issue) ≡ model
  unfolding key_of model_of
  model_of-key_of = omega arith

  pub serial_of-key_of : serial_of (key_of model serial issue) ≡ serial
  unfolding key_of serial_of
  serial_of-key_of = omega arith

  pub issue_of-key_of : issue_of (key_of model serial issue) ≡ issue
  unfolding key_of issue_of
  issue_of-key_of = omega arith

  pub good_key-key_of : good_key (key_of model serial issue) ≡ good_parts model serial issue
  unfolding good_key
  good_key-key_of = rw (model_of-key_of, serial_of-key_of, issue_of-key_of)

  pub key_of-bound : model < 2 ^ 16 → key_of model serial issue < 256 ^ 8
  unfolding key_of
  key_of-bound hm = omega arith

-- the parts of a key make it again
pub key_of_parts : (k : ℕ) → key_of (model_of k) (serial_of k) (issue_of k) ≡ k
unfolding key_of model_of serial_of issue_of
key_of_parts k = omega arith

pub model_of-bound : (k : ℕ) → k < 256 ^ 8 → model_of k < 2 ^ 16
unfolding model_of
model_of-bound k h = omega arith

pub serial_of-bound : (k : ℕ) → serial_of k < 2 ^ 32
unfolding serial_of
serial_of-bound k = omega arith

pub issue_of-bound : (k : ℕ) → issue_of k < 2 ^ 16
unfolding issue_of
issue_of-bound k = omega arith

-- a key within the issues of a meter that newest asks for is of that meter
module _ (model serial k : ℕ) (hs : serial < 2 ^ 32) (low : key_of model serial 1 ≤ k) (high : k ≤ key_of model serial last_final) where
  pub model_of-meter : model_of k ≡ model
  unfolding key_of model_of
  model_of-meter = omega arith

  pub serial_of-meter : serial_of k ≡ serial
  unfolding key_of serial_of
  serial_of-meter = omega arith

-- model, serial and issue are the same
pub record SameParts (m s i m' s' i' : ℕ) : Type 0 where
  pub model : m ≡ m'
  pub serial : s ≡ s'
  pub issue : i ≡ i'

pub key_of_injective : (m s i m' s' i' : ℕ) → s < 2 ^ 32 → i < 2 ^ 16 → s' < 2 ^ 32 → i' < 2 ^ 16 → key_of m s i ≡ key_of m' s' i' → SameParts m s i m' s' i'
unfolding key_of
key_of_injective m s i m' s' i' hs hi hs' hi' e = record { model = omega arith; serial = omega arith; issue = omega arith }

-- ── Good parts ──────────────────────────────────────────────────────────────────────────────────────────────────

-- no part is zero
pub record Good (m s i : ℕ) : Type 0 where
  pub model : 1 ≤ m
  pub serial : 1 ≤ s
  pub issue : 1 ≤ i

pub good_parts_true : (m s i : ℕ) → good_parts m s i ≡ true → Good m s i
unfolding good_parts every
good_parts_true m s i h =
    let t = every_true (ltb 0 m ∷ ltb 0 s ∷ ltb 0 i ∷ []) h in
    record { model = ltb-true 0 m t.0; serial = ltb-true 0 s t.1.0; issue = ltb-true 0 i t.1.1.0 }

pub good-good_parts : {m s i : ℕ} → Good m s i → good_parts m s i ≡ true
unfolding good_parts every
good-good_parts {m} {s} {i} h = rw (lt-ltb 0 m h.model, lt-ltb 0 s h.serial, lt-ltb 0 i h.issue)
