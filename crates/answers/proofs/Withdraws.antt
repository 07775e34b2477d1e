-- Withdraw: each number exactly when a lookup gives it, and a refusal leaves what a lookup leaves. Assumes nothing.
use Rattle.std.specs.Prelude.{Ok, Err}
use Prim.Native.Nat.{ℕ}
use mathlib.Core.Path.{◌≡◌, refl, sym, ap, ◌∙◌, subst}
use mathlib.Core.Logic.{inl, inr}
use mathlib.Core.Bool.{Bool, true, false}
use mathlib.Core.List.{List}
use Rattle.rules.specs.Key.{key_of, good_parts}
use Rattle.rules.specs.Table.{fit0}
use Rattle.rules.specs.Call.{Unchanged, withdrawn_no, looked_no, lengths_for, find_error_no}
use Rattle.rules.specs.Withdraw.{withdraw, withdraw_refused}
use Rattle.rules.specs.Lookup.{lookup}
use Rattle.rules.specs.declared.Session.{Session}
use Rattle.rules.specs.Answer.{Looked}
use Rattle.rules.specs.declared.FindError.{FindError}
use Rattle.rules.proofs.Entries.Tests.{not_both}
use Rattle.rules.proofs.Demand1.Withdrawals as rules
use Rattle.answers.specs.Given.{Given}
use Rattle.answers.specs.OneKey.{EndsIn, MendedBy}
use Rattle.answers.specs.Causes.{BeforeWalk, withdraw_causes}
use Rattle.answers.specs.Demand1.{Refused, WalkMended}
use Rattle.answers.proofs.Tells.{good_lengths_lem, good_key_lem}
use Rattle.answers.proofs.Looks.{lookup-given}
use Rattle.answers.proofs.Refused.{lookup-mended, lookup_stands}

-- ── The number ──────────────────────────────────────────────────────────────────────────────────────────────────

same_number : (a : Looked) → withdrawn_no (rules.withdrawn_as a) ≡ looked_no a
unfolding find_error_no rules.withdrawn_as
same_number (Ok x) = refl
same_number (Err e) = refl

module _ (w t : List ℕ) (s : Session) (model serial issue : ℕ) where
  pub withdraw-given : Given (withdraw_causes w t s model serial issue) (withdrawn_no (withdraw w t s model serial issue).answer)
  withdraw-given =
      subst (Given (withdraw_causes w t s model serial issue))
      (sym (ap withdrawn_no (rules.withdraw_as w t s model serial issue) ∙ same_number (lookup w t s model serial issue).answer))
      (lookup-given w t s model serial issue)

  -- ── What is left ──────────────────────────────────────────────────────────────────────────────────────────────

  not_done : Refused (withdrawn_no (withdraw w t s model serial issue).answer)
      → (withdraw w t s model serial issue).answer ≡ Ok tt → ⊥
  unfolding find_error_no
  not_done h e = h (ap withdrawn_no e)

  pub withdraw-mended : Refused (withdrawn_no (withdraw w t s model serial issue).answer)
      → WalkMended (key_of model serial issue) w t s (withdraw w t s model serial issue)
  withdraw-mended h =
      let r = rules.withdraw_refused_lem w t s model serial issue (not_done h) in
      record {
        working = subst (MendedBy s.n s.c (key_of model serial issue) w)
            (sym (rules.withdraw-leaves w t s model serial issue (not_done h)))
            (lookup-mended w t s model serial issue).working;
        stable = r.stable;
        session = r.session;
      }

  -- nothing before the walk
  pub withdraw_unwalked : BeforeWalk w t s model serial issue → Unchanged w t s (withdraw w t s model serial issue)
  unfolding withdraw withdraw_refused
  withdraw_unwalked h = go (lengths_for s w t) refl (good_parts model serial issue) refl (fit0 s.n w) refl h
    where
      go : (a : Bool) → lengths_for s w t ≡ a → (b : Bool) → good_parts model serial issue ≡ b → (c : Bool) → fit0 s.n w ≡ c
          → BeforeWalk w t s model serial issue → Unchanged w t s (withdraw w t s model serial issue)
      go false p b q c o h = rw (withdraw, p) (record { working = refl; stable = refl; session = refl })
      go true p false q c o h = rw (withdraw, p, q) (record { working = refl; stable = refl; session = refl })
      go true p true q false o h = rw (withdraw, p, q, o) (record { working = refl; stable = refl; session = refl })
      go true p true q true o (inl h) = absurd (good_lengths_lem w t s p h)
      go true p true q true o (inr (inl h)) = absurd (good_key_lem model serial issue q h)
      go true p true q true o (inr (inr h)) = absurd (not_both o h)

  -- behind it, the table in which the walk ended
  pub withdraw_stands : (BeforeWalk w t s model serial issue → ⊥) → Refused (withdrawn_no (withdraw w t s model serial issue).answer)
      → EndsIn s.n s.c (key_of model serial issue) w (withdraw w t s model serial issue).working
  withdraw_stands b h =
      subst (EndsIn s.n s.c (key_of model serial issue) w)
      (sym (rules.withdraw-leaves w t s model serial issue (not_done h)))
      (lookup_stands w t s model serial issue b)
