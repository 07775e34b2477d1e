-- The call, by the tests it passed. Assumes nothing.
use Rattle.std.specs.Prelude.{Err}
use mathlib.Core.Path.{◌≡◌, refl, sym, ap, ◌∙◌}
use mathlib.Core.Bool.{Bool, true, false}
use mathlib.Core.List.{List}
use Prim.Native.Nat.{ℕ, min}
use native.Mathlib.Nat.{min-le_left, min-le_right}
use native.Mathlib.Omega.{arith}
use lib.ListN.{length}
use Rattle.rules.specs.Layout.{last_key}
use Rattle.rules.specs.Table.{fit0}
use Rattle.rules.specs.Report.{Reported, nothing}
use Rattle.rules.specs.Reports.{once_tested, list_reported}
use Rattle.rules.specs.Walk.{walk_of}
use Rattle.rules.specs.Call.{lengths_for}
use Rattle.rules.specs.List as rules
use Rattle.rules.specs.declared.Session.{Session}
use Rattle.rules.specs.declared.ListError.{ListError}
use Rattle.rules.specs.declared.Asked.{Asked}
use Rattle.rules.specs.declared.Report.{Report}
use Rattle.rules.proofs.Demand1.Tested.{tested-length, tested-zero, tested-done}
use Rattle.fill.specs.Fills.{Roomy}
use Rattle.list.specs.Lists.{Told, telling, sought, told}
use Rattle.list.specs.Lists.{Sought}

-- an answer with the session and the stable table as they came
abbrev pub left : Session → List ℕ → Told → rules.ListLeft
left s t x = record {
  answer = x.answer;
  session = s;
  working = x.table;
  stable = t;
  keys = x.keys;
  records = x.records;
}

-- the same with what was mended
abbrev pub handed : Session → List ℕ → Told → Reported rules.ListLeft
handed s t x = record { left = left s t x; report = x.report }

-- the shorter list is as long as there is room, and the other one longer
pub roomy : (a : Asked) (ks xs : List ℕ) → a.room ≡ min (length ks) (length xs) → Roomy a ks xs
roomy a ks xs h = record {
  keys = omega (arith, h, min-le_left (length ks) (length xs));
  records = omega (arith, h, min-le_right (length ks) (length xs));
}

module _ (w t : List ℕ) (s : Session) {n c : ℕ} (same-n : s.n ≡ n) (same-c : s.c ≡ c) (start : ℕ) (ks xs : List ℕ) where
  -- what the walk reports
  along : Report
  along = (walk_of s.n s.c (rules.up_from start ks xs) w).report

  hands : (x : Told) → left s t x ≡ rules.list w t s start ks xs → x.report ≡ once_tested s w t true along
      → handed s t x ≡ list_reported w t s start ks xs
  unfolding list_reported along
  hands x p q = cc

  pub bad_length_lem : (y : Report) → y ≡ nothing → lengths_for s w t ≡ false
      → handed s t (telling w (sought (Err ListError.Length) y) ks xs) ≡ list_reported w t s start ks xs
  unfolding rules.list rules.list_refused
  bad_length_lem y q h =
      hands (telling w (sought (Err ListError.Length) y) ks xs) (rw (rules.list, h)) (q ∙ sym (tested-length s w t true along h))

  module _ (h : lengths_for s w t ≡ true) where
    fit0-same : {b : Bool} → fit0 n w ≡ b → fit0 s.n w ≡ b
    fit0-same z = ap (λ (m : ℕ). fit0 m w) same-n ∙ z

    pub bad_zero : (y : Report) → y ≡ nothing → fit0 n w ≡ false
        → handed s t (telling w (sought (Err ListError.Damaged) y) ks xs) ≡ list_reported w t s start ks xs
    unfolding rules.list rules.list_refused
    bad_zero y q z' =
        let z = fit0-same z' in
        hands (telling w (sought (Err ListError.Damaged) y) ks xs) (rw (rules.list, h, z)) (q ∙ sym (tested-zero s w t true along h refl z))

    module _ (z' : fit0 n w ≡ true) where
      z : fit0 s.n w ≡ true
      z = fit0-same z'

      goes : rules.list_from s w t start ks xs ≡ rules.list w t s start ks xs
      unfolding rules.list
      goes = rw (rules.list, h, z)

      walks : left s t (told ks xs (walk_of s.n s.c (rules.up_from start ks xs) w)) ≡ rules.list_from s w t start ks xs
      unfolding rules.list_from rules.list_refused rules.list_done told
      walks = go (walk_of s.n s.c (rules.up_from start ks xs) w).whole refl
        where
          go : (b : Bool) → (walk_of s.n s.c (rules.up_from start ks xs) w).whole ≡ b
              → left s t (told ks xs (walk_of s.n s.c (rules.up_from start ks xs) w)) ≡ rules.list_from s w t start ks xs
          go true q = rw (q, told, rules.list_from)
          go false q = rw (q, told, rules.list_from)

      reports : (told ks xs (walk_of s.n s.c (rules.up_from start ks xs) w)).report ≡ once_tested s w t true along
      unfolding told along
      reports = go (walk_of s.n s.c (rules.up_from start ks xs) w).whole refl ∙ sym (tested-done s w t true along h refl z)
        where
          go : (b : Bool) → (walk_of s.n s.c (rules.up_from start ks xs) w).whole ≡ b
              → (told ks xs (walk_of s.n s.c (rules.up_from start ks xs) w)).report ≡ along
          go true q = rw (q, told)
          go false q = rw (q, told)

      pub answers : (a : Asked) → a ≡ record { low = start; high = last_key; room = min (length ks) (length xs) }
          → (u : List ℕ) (r : Sought) (us vs : List ℕ) → telling u r us vs ≡ told ks xs (walk_of n c a w)
          → handed s t (telling u r us vs) ≡ list_reported w t s start ks xs
      unfolding rules.up_from
      answers a g u r us vs f =
          let same : told ks xs (walk_of n c a w) ≡ told ks xs (walk_of s.n s.c a w) = sym (λ i. told ks xs (walk_of (same-n i) (same-c i) a w)) in
          let e = f ∙ (same ∙ ap (λ (b : Asked). told ks xs (walk_of s.n s.c b w)) g) in
          hands (telling u r us vs) (ap (left s t) e ∙ (walks ∙ goes)) (ap (λ (x : Told). x.report) e ∙ reports)
