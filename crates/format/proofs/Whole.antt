-- Format as a whole: what a refused one leaves, the zeros that page 1 is built on, and the table that is made.
-- Assumes nothing.
use Rattle.std.specs.Prelude.{Ok, Err}
use mathlib.Core.Path.{◌≡◌, ap, sym, ◌∙◌}
use mathlib.Core.Bool.{true, false}
use mathlib.Core.List.{List, ◌++◌}
use Prim.Native.Nat.{ℕ, ◌+◌, ◌-◌, ◌*◌, ◌/◌, ◌≤◌}
use native.Mathlib.Omega.{arith}
use lib.ListN.{length, take, drop, replicate, length-replicate, replicate-append-replicate}
use lib.Seq.{take_at, drop_at}
use Rattle.fields.proofs.Field.{drop-put}
use Rattle.rules.specs.Layout.{page_size, most_pages, zero_kind}
use Rattle.rules.specs.Page.{blank, build_bytes}
use Rattle.rules.specs.Table.{set_page, build, pages, good_lengths, set_number, set_root}
use Rattle.rules.specs.Format.{formatted, format}
use Rattle.rules.specs.declared.LengthError.{LengthError}
use Rattle.rules.proofs.Bytes.Lengths.{good_lengths_true}
use Rattle.format.specs.Formats.{formatting, named, first_leaf}

pub refused : (w s : List ℕ) → good_lengths w s ≡ false → formatting (Err LengthError.Length) s ≡ format w s
unfolding format
refused w s e = rw (e, format)

-- a table that is to be made has at most 128 pages, and more than two
module _ (w s : List ℕ) (e : good_lengths w s ≡ true) where
  pub few : length s / page_size ≤ most_pages
  few = let l = good_lengths_true w s e in omega (arith, l.most, l.stable)

  pub long : 2 * page_size ≤ length s
  long = let l = good_lengths_true w s e in omega (arith, l.least, l.stable)

-- a part of zeros is zeros
part_zeros : (k m n : ℕ) → k + m ≤ n → take m (drop k (replicate n 0)) ≡ replicate {A = ℕ} m 0
part_zeros k m n h =
    let zeros : ℕ → List ℕ = λ i. replicate i 0 in
    let rest : ℕ = n - (k + m) in
    let e : n ≡ k + (m + rest) = omega arith in
    let split : zeros n ≡ zeros k ++ (zeros m ++ zeros rest) =
    ap zeros e ∙ (sym (replicate-append-replicate k (m + rest) 0) ∙ ap (λ (l : List ℕ). zeros k ++ l) (sym (replicate-append-replicate m rest 0))) in
    rw (split, drop_at (zeros k) (zeros m ++ zeros rest) k (length-replicate k 0), take_at (zeros m) (zeros rest) m (length-replicate m 0))

pub behind-named : (n : ℕ) (t : List ℕ) → drop page_size (named n t) ≡ drop page_size t
unfolding named set_number set_root
behind-named n t =
    rw (drop-put _ 12 4 1 page_size (omega arith), drop-put _ 10 2 0 page_size (omega arith), drop-put _ 8 2 1 page_size (omega arith), drop-put _ 4 4 2 page_size (omega arith), drop-put _ 2 2 n page_size (omega arith), drop-put t 0 2 zero_kind page_size (omega arith))

pub page-blank : (n bytes : ℕ) → 2 * page_size ≤ bytes → take page_size (drop page_size (named n (replicate bytes 0))) ≡ blank
unfolding blank
page-blank n bytes h = rw behind-named (part_zeros page_size page_size bytes h)

pub made : (w s : List ℕ) → good_lengths w s ≡ true → formatting (Ok tt) (set_page (named (pages s) (replicate (length s) 0)) 1 (build_bytes first_leaf)) ≡ format w s
unfolding format formatted named build
made w s e = rw (e, format)
