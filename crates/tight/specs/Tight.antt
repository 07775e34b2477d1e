-- No second outcome. An outcome is what a function hands back and what it leaves behind each `&mut` that it was lent.
use Rattle.std.specs.Prelude.{ℕ, ◌≡◌, List}
use contract.Lifetimes.{Lfts}
use denote.Triple.Clauses.{Lasts, at_exit}
use borrow.Fn.Kinds.{ParamKind, ResultKind, In, Out, Dens, res_t, ended_of}

-- for the same arguments, which meet the `requires`, two outcomes that meet the `ensures` are one
abbrev pub Tight : {n : ℕ} (ps : List (ParamKind n)) (r : ResultKind n) → In n ps → Out n ps r → Type 0
Tight {n} ps r Pre Post =
    (κs : Lfts n) (a : Dens κs ps) → Pre κs a
    → (z z' : (res_t r κs).Denot) (l l' : Lasts (ended_of n ps r) κs a)
    → Post κs a z (at_exit (ended_of n ps r) κs a l) → Post κs a z' (at_exit (ended_of n ps r) κs a l')
    → (z ≡ z') × (l ≡ l')
