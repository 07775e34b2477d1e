-- The fields of a list, told by its items: how many there are, and the spare value in each place behind them.
use Rattle.std.specs.Prelude.{◌≡◌, ℕ, ◌-◌, ◌≤◌, List, ◌++◌, length, take, drop, replicate}
use Rattle.std.proofs.Common.{ap, sym, ◌∙◌, subst}
use Rattle.std.proofs.lemmas.List.{take-append-drop}
use lib.Seq.{length-take-le}

module _ {A : Type 0} (z : A) (items : List A) (len N : ℕ) (few : len ≤ N) (all : length items ≡ N) where
  pub len_told : length (take len items) ≡ len
  len_told = length-take-le len items (subst (λ n. len ≤ n) (sym all) few)

  pub items_told : drop len items ≡ replicate (N - len) z → take len items ++ replicate (N - length (take len items)) z ≡ items
  items_told spare =
      ap (λ n. take len items ++ replicate (N - n) z) len_told ∙ ap (λ rest. take len items ++ rest) (sym spare) ∙ take-append-drop len items
