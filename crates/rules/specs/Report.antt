-- What a walk reports: how many pages it mended, and the reason for the first. A lost place that is damaged is not mended and
-- gives no reason.
use Rattle.std.specs.Prelude.{ℕ, ◌+◌, ◌%◌, true, false, List, Some, None, is_none}
use Rattle.rules.specs.Table.{read}
use Rattle.rules.specs.Place.{unfit, Why}
use Rattle.rules.specs.declared.Place.{Place}
use Rattle.rules.specs.declared.Reason.{Reason}
use Rattle.rules.specs.declared.Report.{Report}

-- what a call leaves, with its report
pub record Reported (A : Type 0) : Type 0 where
  pub left : A
  pub report : Report

-- none mended
unfoldable pub nothing : Report
nothing = record { mended = 0; reason = None }

-- the first reason of two
unfoldable pub first_of : Why → Why → Why
first_of r s = elim (is_none r) [ true ↦ s | false ↦ r ]

-- a page was entered: it fitted, and nothing is added; or it was mended, for this reason. The count has 32 bits and wraps.
unfoldable pub adds : Why → Report → Report
adds r x =
    elim (is_none r)
    [ true ↦ x | false ↦ record { mended = (x.mended + 1) % 4294967296; reason = first_of x.reason r } ]

-- why the page that stands at a place is lost; none: it fits
unfoldable pub reason_at : ℕ → List ℕ → Place → Why
reason_at n t e = unfit n e (read t e.child)

-- the paper's numbers
unfoldable pub reason_no : Why → ℕ
reason_no None = 0
reason_no (Some Reason.Soundness) = 1
reason_no (Some Reason.Kind) = 2
reason_no (Some Reason.Birth) = 3
reason_no (Some Reason.Range) = 4
