-- The call, by the tests it passed. Assumes nothing.
use Rattle.std.specs.Prelude.{Err}
use mathlib.Core.Path.{◌≡◌, refl, sym, ap, ◌∙◌}
use mathlib.Core.Bool.{Bool, true, false}
use mathlib.Core.List.{List}
use Prim.Native.Nat.{ℕ}
use lib.Dec.{leb}
use lib.ListN.{length}
use Rattle.rules.specs.Table.{fit0}
use Rattle.rules.specs.Report.{Reported, nothing}
use Rattle.rules.specs.Reports.{once_tested}
use Rattle.rules.specs.Walk.{Walked, walk_of}
use Rattle.rules.specs.Call.{lengths_for}
use Rattle.rules.specs.declared.Session.{Session}
use Rattle.rules.specs.declared.Report.{Report}
use Rattle.rules.proofs.Demand1.Tested.{tested-length, tested-zero, tested-done}
use Rattle.exchange.specs.Written.{file_of}
use Rattle.counts.specs.Tally.{everything}
use Rattle.write.specs.WriteFile.{Written, WriteLeft, write_refused, write_done, write_whole, write_walked, write_file, write_reported}
use Rattle.write.specs.declared.WriteError.{WriteError}
use Rattle.write.specs.Calls.{Told, telling, told}
use Rattle.write.specs.Calls.{Sought}

-- an answer with the session and the stable table as they came
abbrev left : Session → List ℕ → Told → WriteLeft
left s t x = record {
  answer = x.answer;
  session = s;
  working = x.table;
  stable = t;
  out = x.out;
}

-- the same with what was mended
abbrev pub handed : Session → List ℕ → Told → Reported WriteLeft
handed s t x = record { left = left s t x; report = x.report }

abbrev pub refused : Written → Report → List ℕ → List ℕ → Told
refused answer y w out = record { answer = answer; table = w; out = out; report = y }

module _ (w t : List ℕ) (s : Session) {n c : ℕ} (same-n : s.n ≡ n) (same-c : s.c ≡ c) (out : List ℕ) where
  -- what the walk reports
  along : Report
  along = (walk_of s.n s.c everything w).report

  hands : (x : Told) → left s t x ≡ write_file w t s out → x.report ≡ once_tested s w t true along → handed s t x ≡ write_reported w t s out
  unfolding write_reported along
  hands x p q = cc

  pub bad_length_lem : (y : Report) → y ≡ nothing → lengths_for s w t ≡ false → handed s t (refused (Err WriteError.Length) y w out) ≡ write_reported w t s out
  unfolding write_file write_refused
  bad_length_lem y q h = hands (refused (Err WriteError.Length) y w out) (rw (write_file, h)) (q ∙ sym (tested-length s w t true along h))

  module _ (h : lengths_for s w t ≡ true) where
    fit0-same : {b : Bool} → fit0 n w ≡ b → fit0 s.n w ≡ b
    fit0-same z = ap (λ (m : ℕ). fit0 m w) same-n ∙ z

    pub bad_zero : (y : Report) → y ≡ nothing → fit0 n w ≡ false → handed s t (refused (Err WriteError.Damaged) y w out) ≡ write_reported w t s out
    unfolding write_file write_refused
    bad_zero y q z' =
        let z = fit0-same z' in
        hands (refused (Err WriteError.Damaged) y w out) (rw (write_file, h, z)) (q ∙ sym (tested-zero s w t true along h refl z))

    module _ (z' : fit0 n w ≡ true) where
      z : fit0 s.n w ≡ true
      z = fit0-same z'

      goes : write_walked s t (walk_of s.n s.c everything w) out ≡ write_file w t s out
      unfolding write_file
      goes = rw (write_file, h, z)

      walks : (v : Walked) → left s t (told out v) ≡ write_walked s t v out
      unfolding told write_walked write_whole write_refused write_done
      walks v = go v.whole refl (leb (length (file_of v.found)) (length out)) refl
        where
          go : (a : Bool) → v.whole ≡ a → (b : Bool) → leb (length (file_of v.found)) (length out) ≡ b → left s t (told out v) ≡ write_walked s t v out
          go false p b q = rw (told, write_walked, p)
          go true p true q = rw (told, write_walked, p, write_whole, q)
          go true p false q = rw (told, write_walked, p, write_whole, q)

      reports : (v : Walked) → (told out v).report ≡ v.report
      unfolding told
      reports v = go v.whole refl (leb (length (file_of v.found)) (length out)) refl
        where
          go : (a : Bool) → v.whole ≡ a → (b : Bool) → leb (length (file_of v.found)) (length out) ≡ b → (told out v).report ≡ v.report
          go false p b q = rw (told, p)
          go true p true q = rw (told, p, q)
          go true p false q = rw (told, p, q)

      pub answers : (u next : List ℕ) (r : Sought) → telling r u next ≡ told out (walk_of n c everything w)
          → handed s t (telling r u next) ≡ write_reported w t s out
      unfolding along
      answers u next r f =
          let v = walk_of s.n s.c everything w in
          let e = f ∙ sym (λ i. told out (walk_of (same-n i) (same-c i) everything w)) in
          hands (telling r u next) (ap (left s t) e ∙ (walks v ∙ goes))
          (ap (λ (x : Told). x.report) e ∙ (reports v ∙ sym (tested-done s w t true along h refl z)))
