-- The places behind a list's items: they hold the spare value, and go on doing so while the list grows. Assumes nothing.
use Rattle.std.proofs.Common.{◌≡◌, ap, sym, ◌∙◌, ℕ, ◌+◌, ◌-◌, ◌≤◌, List, length, drop, arith}
use Rattle.std.proofs.Math.ListN.{replicate}
use Rattle.std.proofs.lemmas.List.{drop-drop, drop-replicate}

-- of N places so many hold items, and the others the spare value
abbrev pub Spared : {A : Type 0} → A → ℕ → ℕ → List A → Type 0
Spared z N len items = (len ≤ N) × (length items ≡ N) × (drop len items ≡ replicate (N - len) z)

-- a change that makes the list longer, and leaves the places behind it as they were
pub still_spared : {A : Type 0} (z : A) (old new : List A) (len longer N : ℕ) → Spared z N len old → len ≤ longer → longer ≤ N
    → length new ≡ length old → drop longer new ≡ drop longer old → Spared z N longer new
still_spared z old new len longer N h more room long same =
    let at : len + (longer - len) ≡ longer = omega arith in
    let left : N - len - (longer - len) ≡ N - longer = omega arith in
    let behind = ap (λ k. drop k old) (sym at) ∙ sym (drop-drop (longer - len) len old) ∙ ap (drop (longer - len)) h.2
    ∙ drop-replicate (longer - len) (N - len) z ∙ ap (λ k. replicate k z) left in
    (room, long ∙ h.1, same ∙ behind)
