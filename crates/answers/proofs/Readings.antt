-- A file that is read into a store: each number exactly when the table says, and what is left. Assumes nothing.
use Rattle.std.specs.Prelude.{Ok, Err}
use Prim.Native.Nat.{ℕ}
use mathlib.Core.Path.{◌≡◌, refl, sym, ap, ◌∙◌, subst}
use mathlib.Core.Logic.{inl, inr}
use mathlib.Core.Bool.{Bool, true, false}
use mathlib.Core.List.{List}
use Rattle.fields.specs.Field.{Bytes}
use Rattle.rules.specs.Report.{Reported}
use Rattle.rules.specs.Call.{Left, lengths_for, Unchanged}
use Rattle.rules.specs.declared.Session.{Session}
use Rattle.rules.proofs.Demand1.Batches.{batch_stable}
use Rattle.exchange.specs.Judged.{Judged, judged}
use Rattle.exchange.specs.Told.{certs_in}
use Rattle.exchange.specs.ReadFile.{Read, as_items, read_refused, read_error_no, read_no, read_count, read_place, read_file}
use Rattle.exchange.specs.declared.ReadError.{ReadError}
use Rattle.exchange.proofs.Parts.{bad_not_fine}
use Rattle.exchange.proofs.Exact.{exact}
use Rattle.exchange.proofs.ReadBy.{read_length, read_bad, read-batch}
use Rattle.answers.specs.Given.{Given}
use Rattle.answers.specs.Causes.{read_causes}
use Rattle.answers.specs.Demand1.{Refused}
use Rattle.answers.proofs.Tells.{bad_lengths, good_lengths_lem}

module _ (w t : List ℕ) (s : Session) (f : List ℕ) where
  abbrev number : Reported (Left Read) → ℕ
  number r = read_no r.left.answer

  pub read-given : Bytes f → Given (read_causes w t s f) (number (read_file w t s f))
  unfolding read_error_no
  read-given b = go (lengths_for s w t) refl (judged f) refl
    where
      go : (a : Bool) → lengths_for s w t ≡ a → (j : Judged) → judged f ≡ j → Given (read_causes w t s f) (number (read_file w t s f))
      go false p j e = inl (ap number (read_length w t s f p), bad_lengths w t s p)
      go true p (Err at) e =
          inr (
            good_lengths_lem w t s p,
            inl (
              ap number (read_bad w t s f p at e),
              λ cs h q. bad_not_fine (sym e ∙ subst (λ (g : List ℕ). judged g ≡ Ok tt) (sym q) (exact.written cs h)),
            ),
          )
      go true p (Ok tt) e =
          inr (
            good_lengths_lem w t s p,
            inr ((λ bad. bad (certs_in f) (exact.set f b e) (exact.file f b e)), ap number (read-batch w t s f p e)),
          )

  refused-unchanged : (answer : Read) → read_file w t s f ≡ read_refused answer w t s → Unchanged w t s (read_file w t s f).left
  refused-unchanged answer e = record {
    working = ap (λ (r : Reported (Left Read)). r.left.working) e;
    stable = ap (λ (r : Reported (Left Read)). r.left.stable) e;
    session = ap (λ (r : Reported (Left Read)). r.left.session) e;
  }

  pub read-unchanged : Refused (number (read_file w t s f)) → Unchanged w t s (read_file w t s f).left
  unfolding read_error_no
  read-unchanged h = go (lengths_for s w t) refl (judged f) refl
    where
      go : (a : Bool) → lengths_for s w t ≡ a → (j : Judged) → judged f ≡ j → Unchanged w t s (read_file w t s f).left
      go false p j e = refused-unchanged (Err ReadError.Length) (read_length w t s f p)
      go true p (Err at) e = refused-unchanged (Err (ReadError.File at)) (read_bad w t s f p at e)
      go true p (Ok tt) e = absurd (h (ap number (read-batch w t s f p e)))

  pub read_stable : (read_file w t s f).left.stable ≡ t
  read_stable = go (lengths_for s w t) refl (judged f) refl
    where
      go : (a : Bool) → lengths_for s w t ≡ a → (j : Judged) → judged f ≡ j → (read_file w t s f).left.stable ≡ t
      go false p j e = (refused-unchanged (Err ReadError.Length) (read_length w t s f p)).stable
      go true p (Err at) e = (refused-unchanged (Err (ReadError.File at)) (read_bad w t s f p at e)).stable
      go true p (Ok tt) e =
          ap (λ (r : Reported (Left Read)). r.left.stable) (read-batch w t s f p e) ∙ batch_stable w t s (as_items (certs_in f))

-- ── The numbers beside ──────────────────────────────────────────────────────────────────────────────────────────

pub done-zero : (a : Read) → Refused (read_no a) → read_count a ≡ 0
unfolding read_error_no read_count
done-zero (Ok k) h = absurd (h refl)
done-zero (Err ReadError.Length) h = refl
done-zero (Err (ReadError.File at)) h = refl

pub place-zero : (a : Read) → (read_no a ≡ 11 → ⊥) → read_place a ≡ 0
unfolding read_error_no read_place
place-zero (Ok k) h = refl
place-zero (Err ReadError.Length) h = refl
place-zero (Err (ReadError.File at)) h = absurd (h refl)
