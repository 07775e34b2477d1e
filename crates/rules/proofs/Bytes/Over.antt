-- Bytes put over the start of others, `over new old`: the new ones in front, the old ones behind them.
-- Assumes nothing.
use Rattle.std.proofs.Common.{◌≡◌, ℕ, ◌+◌, ◌-◌, ◌≤◌, List, ◌++◌, length, take, drop, sym, ap, ◌∙◌, arith, length-append, length-drop, drop-drop}
use lib.Seq.{take-append_seam, drop-append-add}
use Rattle.fields.specs.Field.{Bytes}
use Rattle.fields.proofs.Bytes.{bytes-append, bytes_drop}
use Rattle.rules.specs.Page.{over}

module _ {A : Type 0} where
  pub length_over : (new old : List A) → length new ≤ length old → length (over new old) ≡ length old
  unfolding over
  length_over new old h = simp (length-append, length-drop) (omega arith)

  -- ── At the end of the new ones ────────────────────────────────────────────────────────────────────────────────

  pub take-over : (new old : List A) → take (length new) (over new old) ≡ new
  unfolding over
  take-over new old = take-append_seam new (drop (length new) old)

  -- ── Behind them ───────────────────────────────────────────────────────────────────────────────────────────────

  pub drop-over-behind : (new old : List A) (k : ℕ) → length new ≤ k → drop k (over new old) ≡ drop k old
  unfolding over
  drop-over-behind new old k h =
      let e : k ≡ length new + (k - length new) = omega arith in
      ap (λ (n : ℕ). drop n (new ++ drop (length new) old)) e
      ∙ drop-append-add new (drop (length new) old) (k - length new)
      ∙ drop-drop (k - length new) (length new) old
      ∙ ap (λ (n : ℕ). drop n old) (sym e)

  -- ── One over another ──────────────────────────────────────────────────────────────────────────────────────────

  pub over-over : (new mid old : List A) → length mid ≤ length new → over new (over mid old) ≡ over new old
  unfolding over
  over-over new mid old h = ap (λ (r : List A). new ++ r) (drop-over-behind mid old (length new) h)

-- bytes over bytes are bytes
pub bytes-over : (new old : List ℕ) → Bytes new → Bytes old → Bytes (over new old)
unfolding over
bytes-over new old h k = bytes-append new (drop (length new) old) h (bytes_drop (length new) old k)
