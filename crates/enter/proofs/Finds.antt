-- What is found among entries that fit their fields fits them too. Assumes nothing.
use mathlib.Core.Path.{◌≡◌, refl, sym, ◌∙◌, subst}
use mathlib.Core.Bool.{Bool, true, false}
use mathlib.Core.List.{List}
use mathlib.Core.Option.{some, some-injective, none-ne-some}
use Prim.Native.Nat.{ℕ}
use borrow.Author.Tests.{eqb-true, eqb-false}
use lib.Dec.{eqb}
use Rattle.rules.specs.Entry.{Child, Below, find}
use Rattle.rules.proofs.Bytes.All.{All, nil, cons}
use Rattle.rules.proofs.Bytes.EntryBytes.{WideChild}
use Rattle.rules.proofs.Entries.Entries.{find_head, find_tail}

same-entry : {j k : ℕ} {a b : Below} → j ≡ k → a ≡ b → ◌≡◌ {A = Child} (record { key = j; value = a }) (record { key = k; value = b })
same-entry p q = cc

pub wide-find : {xs : List Child} (k : ℕ) (v : Below) → All WideChild xs → find k xs ≡ some v → WideChild (record { key = k; value = v })
unfolding find
wide-find k v nil h = absurd (none-ne-some v h)
wide-find k v (cons {x = x} {xs} w m) h = go (eqb k x.key) refl (wide-find k v m)
  where
    go : (t : Bool) → eqb k x.key ≡ t → (find k xs ≡ some v → WideChild (record { key = k; value = v }))
        → WideChild (record { key = k; value = v })
    go true e ih =
        let q = some-injective x.value v (sym (find_head k x xs (eqb-true k x.key e)) ∙ h) in
        subst WideChild (same-entry (sym (eqb-true k x.key e)) q) w
    go false e ih = ih (sym (find_tail k x xs (eqb-false k x.key e)) ∙ h)
