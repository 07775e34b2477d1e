-- No second outcome, of a function that hands back a part that it was lent. What is read there is the outcome; where the
-- part lies in memory is not.
use Rattle.std.specs.Prelude.{ℕ, ◌≡◌, List}
use contract.Lifetimes.{Lfts}
use denote.Triple.Clauses.{Lasts, at_exit}
use borrow.Fn.Kinds.{ParamKind, ResultKind, In, Out, Dens, res_t, ended_of}

-- as `Tight`, with two outcomes one if what is read of them is
abbrev pub TightLent : {n : ℕ} (ps : List (ParamKind n)) (r : ResultKind n) → In n ps → Out n ps r
    → {A : Type 0} → ((κs : Lfts n) → (res_t r κs).Denot → A) → Type 0
TightLent {n} ps r Pre Post read =
    (κs : Lfts n) (a : Dens κs ps) → Pre κs a
    → (z z' : (res_t r κs).Denot) (l l' : Lasts (ended_of n ps r) κs a)
    → Post κs a z (at_exit (ended_of n ps r) κs a l) → Post κs a z' (at_exit (ended_of n ps r) κs a l')
    → (read κs z ≡ read κs z') × (l ≡ l')
