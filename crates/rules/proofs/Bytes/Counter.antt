-- The counter and the number in page 0: after an opening and after a sync both tables hold the counter and 1, so no later
-- opening gives the same counter again. Every other page stays. Assumes nothing.
use Rattle.std.proofs.Common.{◌≡◌, ℕ, ◌+◌, ◌≤◌, List, length, refl, ◌∙◌, arith}
use Rattle.rules.specs.Layout.{page_size, last_number}
use Rattle.rules.specs.Table.{page_at, number0}
use Rattle.rules.specs.Marks.{opened, turned}
use Rattle.rules.specs.Open.{open_done}
use Rattle.rules.specs.Sync.{sync_done}
use Rattle.rules.specs.declared.Session.{Session}
use Rattle.rules.proofs.Bytes.PageZero.{number0-set_number, page_at-set_number}

-- ── An opening ──────────────────────────────────────────────────────────────────────────────────────────────────

module _ (s : List ℕ) where
  pub open_done_copies : (open_done s).working ≡ (open_done s).stable
  unfolding open_done
  open_done_copies = refl

  pub c-open_done : (open_done s).session.c ≡ number0 s
  unfolding open_done opened
  c-open_done = refl

  pub number-open_done : page_size ≤ length s → number0 s ≤ last_number → number0 (open_done s).stable ≡ (open_done s).session.c + 1
  unfolding open_done opened
  number-open_done l h = number0-set_number s (number0 s + 1) l (omega arith)

  pub page_at-open_done : (i : ℕ) → 1 ≤ i → page_at (open_done s).stable i ≡ page_at s i
  unfolding open_done
  page_at-open_done i h = page_at-set_number s (number0 s + 1) i h

-- ── A sync ──────────────────────────────────────────────────────────────────────────────────────────────────────

module _ (s : Session) (w : List ℕ) where
  pub sync_done_copies : (sync_done s w).working ≡ (sync_done s w).stable
  unfolding sync_done
  sync_done_copies = refl

  pub c-sync_done : (sync_done s w).session.c ≡ s.c + 1
  unfolding sync_done turned
  c-sync_done = refl

  pub number-sync_done : page_size ≤ length w → s.c ≤ last_number → number0 (sync_done s w).stable ≡ (sync_done s w).session.c + 1
  unfolding sync_done turned
  number-sync_done l h = number0-set_number w (s.c + 2) l (omega arith) ∙ omega arith

  pub page_at-sync_done : (i : ℕ) → 1 ≤ i → page_at (sync_done s w).stable i ≡ page_at w i
  unfolding sync_done
  page_at-sync_done i h = page_at-set_number w (s.c + 2) i h
