-- Newest and provisional certificates. Assumes nothing.
use Rattle.std.specs.Prelude.{Err}
use Prim.Native.Nat.{ℕ, ◌≤◌}
use native.Mathlib.Omega.{arith}
use mathlib.Core.Path.{◌≡◌, refl, sym, ◌∙◌, subst}
use mathlib.Core.List.{List}
use mathlib.Core.Option.{none, none-ne-some}
use Rattle.rules.specs.Key.{key_of, issue_of}
use Rattle.rules.specs.Entry.{Cert, find}
use Rattle.rules.specs.Newest.{meter, newest}
use Rattle.rules.specs.Answer.{Newest}
use Rattle.rules.specs.declared.FindError.{FindError}
use Rattle.reading.specs.Reading.{last_issue, NewestExact}
use Rattle.reading.specs.Agreeing.{held, Largest, found, missing, ReadersAgree}
use Rattle.reading.specs.Provisional.{Provisional}
use Rattle.reading.proofs.Handed.{newest_exact}
use Rattle.reading.proofs.Agrees.{readers_agree}

last-is : last_issue ≡ 32767
unfolding last_issue issue_of key_of meter
last-is = refl

none_left : (certs : List Cert) (model serial : ℕ) (answer : Newest) → Largest certs model serial answer
    → ((i : ℕ) → 1 ≤ i → i ≤ 32767 → find (key_of model serial i) certs ≡ none) → answer ≡ Err FindError.Missing
none_left certs model serial answer (found i x e l u f g) gone =
    absurd (none-ne-some x (sym (gone i l (subst (λ (z : ℕ). i ≤ z) last-is u)) ∙ f))
none_left certs model serial answer (missing e g) gone = e

pub provisionals : Provisional
unfolding NewestExact ReadersAgree
provisionals = record {
  never = λ w t s model serial i x wide h. subst (λ (z : ℕ). i ≤ z) last-is (newest_exact w t s model serial i x wide h).last;
  only = λ w t s p model serial wide good gone. none_left (held s w) model serial (newest w t s model serial).answer ((readers_agree w t s p).newest_agrees model serial wide good) gone;
}
