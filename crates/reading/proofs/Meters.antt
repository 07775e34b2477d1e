-- The keys of one meter, from issue 1 to the last that newest asks for, and to the last that has-any does. Assumes nothing.
use Prim.Native.Nat.{ℕ, ◌^◌, ◌≤◌, ◌<◌}
use native.Mathlib.Omega.{arith}
use mathlib.Core.Path.{◌≡◌, refl, sym, ap, ◌∙◌}
use Rattle.rules.specs.Key.{key_of, model_of, serial_of, issue_of}
use Rattle.rules.specs.Newest.{meter}
use Rattle.rules.specs.HasAny.{first_of}
use Rattle.rules.proofs.Bytes.Keys.{model_of-key_of, serial_of-key_of, issue_of-bound}
use Rattle.reading.specs.Reading.{last_issue}

-- an issue has 16 bits in its key
pub issues_fit : last_issue < 2 ^ 16
unfolding last_issue issue_of key_of meter
issues_fit = omega arith

-- the range of a meter
pub meter-low : (model serial : ℕ) → (meter model serial).low ≡ key_of model serial 1
unfolding meter
meter-low model serial = refl

pub meter-high : (model serial : ℕ) → (meter model serial).high ≡ key_of model serial last_issue
unfolding last_issue issue_of key_of meter
meter-high model serial = refl

-- a key in it is that of its issue
module _ (model serial k : ℕ) (low : key_of model serial 1 ≤ k) (high : k ≤ key_of model serial last_issue) where
  pub key_of-issue : key_of model serial (issue_of k) ≡ k
  unfolding key_of issue_of
  key_of-issue = omega (arith, issues_fit)

  pub issue-from : 1 ≤ issue_of k
  unfolding key_of issue_of
  issue-from = omega (arith, issues_fit)

  pub issue-to : issue_of k ≤ last_issue
  unfolding key_of issue_of
  issue-to = omega (arith, issues_fit)

  pub model_of_lem : serial < 2 ^ 32 → model_of k ≡ model
  model_of_lem wide = ap model_of (sym key_of-issue) ∙ model_of-key_of model serial (issue_of k) wide (issue_of-bound k)

  pub serial_of_lem : serial < 2 ^ 32 → serial_of k ≡ serial
  serial_of_lem wide = ap serial_of (sym key_of-issue) ∙ serial_of-key_of model serial (issue_of k) wide (issue_of-bound k)

-- the same of has-any's range
module _ (model serial k : ℕ) (low : (first_of model serial).low ≤ k) (high : k ≤ (first_of model serial).high) where
  key_of-any : key_of model serial (issue_of k) ≡ k
  unfolding first_of key_of issue_of
  key_of-any = omega arith

  pub first-model : serial < 2 ^ 32 → model_of k ≡ model
  first-model wide = ap model_of (sym key_of-any) ∙ model_of-key_of model serial (issue_of k) wide (issue_of-bound k)

  pub first-serial : serial < 2 ^ 32 → serial_of k ≡ serial
  first-serial wide = ap serial_of (sym key_of-any) ∙ serial_of-key_of model serial (issue_of k) wide (issue_of-bound k)
