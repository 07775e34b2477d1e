-- A list of marks filled from its start, one number after the other. Assumes nothing.
use mathlib.Core.Path.{◌≡◌}
use mathlib.Core.Bool.{Bool, false}
use mathlib.Core.List.{List, [], ◌∷◌, ◌++◌, append_assoc, append-nil}
use Prim.Native.Nat.{ℕ, zero, suc, ◌+◌, ◌<◌}
use native.Mathlib.Nat.{add-zero, zero-add, add-suc, suc-add, le_of_eq}
use native.Mathlib.Numerals.{add-one}
use lib.ListN.{length, get_or, set, drop, drop_of_length-le}
use lib.Seq.{drop-cons, set_at, get_or_at}
use Rattle.rules.specs.Layout.{most_pages}
use Rattle.rules.specs.Marks.{marks_from, marks}
use Rattle.rules.proofs.Bytes.Marked.{length-marks_from}

pub marks_from-more : (f : ℕ → Bool) (i k : ℕ) → marks_from f i (suc k) ≡ marks_from f i k ++ (f (i + k) ∷ [])
unfolding marks_from
marks_from-more f i zero = rw add-zero
marks_from-more f i (suc k) = rw (marks_from-more f (suc i) k, add-suc, suc-add)

-- marks as far as a number, and behind them what stood there
abbrev pub filled : (ℕ → Bool) → ℕ → List Bool → List Bool
filled f i old = marks_from f 0 i ++ drop i old

pub filled_at : (f : ℕ → Bool) (i : ℕ) (old : List Bool) → i < length old → get_or (filled f i old) i false ≡ get_or old i false
filled_at f i old h =
    rw (drop-cons old i false h, get_or_at (marks_from f 0 i) (get_or old i false) (drop (suc i) old) false i (length-marks_from f 0 i))

pub filled_more : (f : ℕ → Bool) (i : ℕ) (old : List Bool) → i < length old → set (filled f i old) i (f i) ≡ filled f (i + 1) old
filled_more f i old h =
    rw (drop-cons old i false h, set_at (marks_from f 0 i) (get_or old i false) (drop (suc i) old) (f i) i (length-marks_from f 0 i), add-one, marks_from-more, zero-add, append_assoc)

pub filled-all : (f : ℕ → Bool) (old : List Bool) → length old ≡ most_pages → filled f most_pages old ≡ marks f
unfolding marks
filled-all f old e = rw (drop_of_length-le old (le_of_eq e), append-nil)
