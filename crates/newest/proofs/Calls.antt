-- The call, by the tests it passed. Assumes nothing.
use Rattle.std.specs.Prelude.{Err}
use mathlib.Core.Path.{◌≡◌, refl, sym, ap, ◌∙◌}
use mathlib.Core.Bool.{Bool, true, false, ◌&&◌}
use mathlib.Core.List.{List}
use Prim.Native.Nat.{ℕ, ◌+◌, ◌≤◌, ◌<◌}
use native.Mathlib.Omega.{arith}
use lib.Dec.{ltb}
use borrow.Author.Tests.{lt-ltb, le-ltb}
use Rattle.rules.specs.Layout.{last_key, last_final}
use Rattle.rules.specs.Key.{key_of}
use Rattle.rules.specs.Table.{fit0}
use Rattle.rules.specs.Report.{nothing}
use Rattle.rules.specs.Walk.{walk_of}
use Rattle.rules.specs.Call.{Left, lengths_for}
use Rattle.rules.specs.Newest as rules
use Rattle.rules.specs.Reports.{once_tested, newest_reported}
use Rattle.rules.specs.declared.Session.{Session}
use Rattle.rules.specs.Answer.{Newest}
use Rattle.rules.specs.declared.FindError.{FindError}
use Rattle.rules.specs.declared.Asked.{Asked}
use Rattle.rules.specs.declared.Report.{Report}
use Rattle.rules.proofs.Demand1.Tested.{tested-length, tested-key, tested-zero, tested-done}
use Rattle.newest.specs.Newests.{Sought}
use Rattle.rules.specs.Handing.{leaving}
use Rattle.newest.specs.Newests.{range, answer_of, Seen, seeing, seen}

-- ── The keys of a meter ─────────────────────────────────────────────────────────────────────────────────────────

module _ (model serial low high : ℕ) (f : low ≡ key_of model serial 1) (g : high ≡ key_of model serial last_final) where
  pub meter-range : range low high ≡ rules.meter model serial
  unfolding rules.meter
  meter-range = rw (f, g)

  pub meter-rises : low ≤ high
  unfolding key_of
  meter-rises = omega (arith, f, g)

  pub meter-few : high < low + last_key
  unfolding key_of
  meter-few = omega (arith, f, g)

-- ── The tests ───────────────────────────────────────────────────────────────────────────────────────────────────

-- an answer with the session as it came
abbrev left : Session → List ℕ → List ℕ → Newest → Left Newest
left s w t answer = record { answer = answer; session = s; working = w; stable = t }

module _ (w t : List ℕ) (s : Session) {n c : ℕ} (same-n : s.n ≡ n) (same-c : s.c ≡ c) (model serial : ℕ) where
  good : Bool
  good = ltb 0 model && ltb 0 serial

  along : Report
  along = (walk_of s.n s.c (rules.meter model serial) w).report

  -- what is left and what is reported, together
  told : {u : List ℕ} {r : Newest} {x : Report} → left s u t r ≡ rules.newest w t s model serial → x ≡ once_tested s w t good along
      → leaving (record { answer = r; report = x; session = s }) u t ≡ newest_reported w t s model serial
  unfolding newest_reported good along
  told p q = cc

  pub bad_length_lem : {x : Report} → lengths_for s w t ≡ false → x ≡ nothing
      → leaving (record { answer = Err FindError.Length; report = x; session = s }) w t ≡ newest_reported w t s model serial
  unfolding rules.newest rules.newest_left
  bad_length_lem h q = told (rw (rules.newest, h)) (q ∙ sym (tested-length s w t good along h))

  module _ (h : lengths_for s w t ≡ true) where
    bad_key : {x : Report} → good ≡ false → x ≡ nothing
        → leaving (record { answer = Err FindError.BadKey; report = x; session = s }) w t ≡ newest_reported w t s model serial
    unfolding rules.newest rules.newest_left good
    bad_key k q = told (rw (rules.newest, h, k)) (q ∙ sym (tested-key s w t good along h k))

    pub bad_model : {x : Report} → model ≡ 0 → x ≡ nothing
        → leaving (record { answer = Err FindError.BadKey; report = x; session = s }) w t ≡ newest_reported w t s model serial
    unfolding good
    bad_model z = bad_key (rw (le-ltb 0 model (omega arith)))

    module _ (m : model ≡ 0 → ⊥) where
      model-above : ltb 0 model ≡ true
      model-above = lt-ltb 0 model (omega arith)

      pub bad_serial : {x : Report} → serial ≡ 0 → x ≡ nothing
          → leaving (record { answer = Err FindError.BadKey; report = x; session = s }) w t ≡ newest_reported w t s model serial
      unfolding good
      bad_serial z = bad_key (rw (model-above, le-ltb 0 serial (omega arith)))

      module _ (r : serial ≡ 0 → ⊥) where
        good_key_lem : good ≡ true
        unfolding good
        good_key_lem = rw (model-above, lt-ltb 0 serial (omega arith))

        fit0-same : {b : Bool} → fit0 n w ≡ b → fit0 s.n w ≡ b
        fit0-same z = ap (λ (m : ℕ). fit0 m w) same-n ∙ z

        pub bad_zero : {x : Report} → fit0 n w ≡ false → x ≡ nothing
            → leaving (record { answer = Err FindError.Damaged; report = x; session = s }) w t ≡ newest_reported w t s model serial
        unfolding rules.newest rules.newest_left good
        bad_zero z' q =
            let z = fit0-same z' in
            told (rw (rules.newest, h, good_key_lem, z)) (q ∙ sym (tested-zero s w t good along h good_key_lem z))

        module _ (z' : fit0 n w ≡ true) (a : Asked) (g : a ≡ rules.meter model serial) where
          z : fit0 s.n w ≡ true
          z = fit0-same z'

          goes : rules.newest_meter a s w t ≡ rules.newest w t s model serial
          unfolding rules.newest good
          goes = rw (rules.newest, h, good_key_lem, z) (ap (λ (b : Asked). rules.newest_meter b s w t) g)

          walks : left s (walk_of s.n s.c a w).table t (answer_of (walk_of s.n s.c a w)) ≡ rules.newest_meter a s w t
          unfolding rules.newest_meter rules.newest_left answer_of
          walks = go (walk_of s.n s.c a w).whole refl
            where
              go : (b : Bool) → (walk_of s.n s.c a w).whole ≡ b
                  → left s (walk_of s.n s.c a w).table t (answer_of (walk_of s.n s.c a w)) ≡ rules.newest_meter a s w t
              go true q = rw (q, answer_of, rules.newest_meter)
              go false q = rw (q, answer_of, rules.newest_meter)

          pub answers : (u : List ℕ) (r : Sought) → seeing u r ≡ seen (walk_of n c a w)
              → leaving (record { answer = r.answer; report = r.report; session = s }) u t ≡ newest_reported w t s model serial
          unfolding along
          answers u r f' =
              let f = f' ∙ sym (λ i. seen (walk_of (same-n i) (same-c i) a w)) in
              told (ap (λ (x : Seen). left s x.table t x.answer) f ∙ (walks ∙ goes))
              (ap (λ (x : Seen). x.report) f
              ∙ (ap (λ (b : Asked). (walk_of s.n s.c b w).report) g ∙ sym (tested-done s w t good along h good_key_lem z)))
