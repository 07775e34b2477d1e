-- What a lookup answers, test after test. Assumes nothing.
use Rattle.std.specs.Prelude.{Err}
use mathlib.Core.Path.{◌≡◌, refl, sym, ap, ◌∙◌}
use mathlib.Core.Bool.{Bool, true, false}
use mathlib.Core.List.{List}
use mathlib.Core.Option.{Option, some, none}
use Prim.Native.Nat.{ℕ}
use Rattle.rules.specs.Key.{key_of, good_parts}
use Rattle.rules.specs.Table.{fit0}
use Rattle.rules.specs.Report.{Reported, nothing}
use Rattle.rules.specs.Walk.{Step, way_of, way_report}
use Rattle.rules.specs.Call.{lengths_for}
use Rattle.rules.specs.Lookup.{lookup, lookup_key, lookup_left}
use Rattle.rules.specs.Reports.{key_report, lookup_reported}
use Rattle.rules.specs.declared.Session.{Session}
use Rattle.rules.specs.declared.Report.{Report}
use Rattle.rules.specs.Answer.{Looked}
use Rattle.rules.specs.declared.FindError.{FindError}
use Rattle.rules.proofs.Demand1.Tested.{tested-length, tested-key, tested-zero, tested-done}
use Rattle.way.specs.Ways.{reported}
use Rattle.lookup.specs.Looks.{Sought}
use Rattle.rules.specs.Handing.{leaving}
use Rattle.lookup.specs.Looks.{looking, answer_on, looked_along, Look}

-- what is left and what is reported, together
told : {w t : List ℕ} {s : Session} {r : Looked} {x : Report} (model serial issue : ℕ) (w₀ : List ℕ)
    → lookup_left s w t r ≡ lookup w₀ t s model serial issue → x ≡ key_report w₀ t s model serial issue
    → leaving (record { answer = r; report = x; session = s }) w t ≡ lookup_reported w₀ t s model serial issue
unfolding lookup_reported lookup_left
told model serial issue w₀ p q = cc

module _ (w t : List ℕ) (s : Session) {n c : ℕ} (same-n : s.n ≡ n) (same-c : s.c ≡ c) (model serial issue : ℕ) where
  along : Report
  along = way_report s.n s.c (key_of model serial issue) w nothing

  pub bad_length_lem : {x : Report} → lengths_for s w t ≡ false → x ≡ nothing
      → leaving (record { answer = Err FindError.Length; report = x; session = s }) w t ≡ lookup_reported w t s model serial issue
  unfolding lookup lookup_left key_report along
  bad_length_lem l q = told model serial issue w (rw (lookup, l)) (q ∙ sym (tested-length s w t (good_parts model serial issue) along l))

  module _ (l : lengths_for s w t ≡ true) where
    pub bad_key : {x : Report} → good_parts model serial issue ≡ false → x ≡ nothing
        → leaving (record { answer = Err FindError.BadKey; report = x; session = s }) w t ≡ lookup_reported w t s model serial issue
    unfolding lookup lookup_left key_report along
    bad_key g q = told model serial issue w (rw (lookup, l, g)) (q ∙ sym (tested-key s w t (good_parts model serial issue) along l g))

    module _ (g : good_parts model serial issue ≡ true) where
      fit0-same : {b : Bool} → fit0 n w ≡ b → fit0 s.n w ≡ b
      fit0-same z = ap (λ (m : ℕ). fit0 m w) same-n ∙ z

      pub bad_zero : {x : Report} → fit0 n w ≡ false → x ≡ nothing
          → leaving (record { answer = Err FindError.Damaged; report = x; session = s }) w t ≡ lookup_reported w t s model serial issue
      unfolding lookup lookup_left key_report along
      bad_zero z q =
          let f = fit0-same z in
          told model serial issue w (rw (lookup, l, g, f)) (q ∙ sym (tested-zero s w t (good_parts model serial issue) along l g f))

      module _ (z : fit0 n w ≡ true) where
        f : fit0 s.n w ≡ true
        f = fit0-same z

        as_key : lookup w t s model serial issue ≡ lookup_key (key_of model serial issue) s w t
        unfolding lookup
        as_key = rw (lookup, l, g, f)

        by_way : (j : ℕ) → lookup_left s (looked_along j (way_of s.n s.c j w)).table t (looked_along j (way_of s.n s.c j w)).answer
            ≡ lookup_key j s w t
        unfolding lookup_key looked_along answer_on
        by_way j = go (way_of s.n s.c j w).steps refl
          where
            go : (o : Option (List Step)) → (way_of s.n s.c j w).steps ≡ o
                → lookup_left s (looked_along j (way_of s.n s.c j w)).table t (looked_along j (way_of s.n s.c j w)).answer
                ≡ lookup_key j s w t
            go none q = rw (lookup_key, q)
            go (some ss) q = rw (lookup_key, q)

        pub looked-up : (u : List ℕ) (r : Sought) (k : ℕ) → k ≡ key_of model serial issue
            → looking u r ≡ reported (looked_along k (way_of n c k w)) (way_report n c k w nothing)
            → leaving (record { answer = r.answer; report = r.report; session = s }) u t ≡ lookup_reported w t s model serial issue
        unfolding key_report along
        looked-up u r k e h' =
            let h = h' ∙ sym (λ i. reported (looked_along k (way_of (same-n i) (same-c i) k w)) (way_report (same-n i) (same-c i) k w nothing)) in
            told model serial issue w
            (ap (λ (y : Reported Look). lookup_left s y.left.table t y.left.answer) h
            ∙ (by_way k ∙ (ap (λ (j : ℕ). lookup_key j s w t) e ∙ sym as_key)))
            (ap (λ (y : Reported Look). y.report) h
            ∙ (ap (λ (j : ℕ). way_report s.n s.c j w nothing) e
            ∙ sym (tested-done s w t (good_parts model serial issue) along l g f)))
