-- One page split in two, as the code goes about it: by the place that asks for the page and the page's header.
use Rattle.std.specs.Prelude.{ℕ, ◌+◌, ◌*◌, ◌≤◌, ◌≡◌, ◌≢◌, Bool, true, false, ◌&&◌, List, eqb, ltb, length}
use Rattle.rules.specs.Layout.{page_size, most_pages, leaf_kind}
use Rattle.rules.specs.Table.{read}
use Rattle.rules.specs.Marks.{freed, waits}
use Rattle.rules.specs.Walk as rules
use Rattle.rules.specs.Insert.{divide}
use Rattle.rules.specs.declared.Place.{Place}
use Rattle.rules.specs.declared.Session.{Session}
use Rattle.head.specs.declared.Head.{Head}
use Rattle.head.proofs.Headers.{head_of}
use Rattle.build.specs.Range.{Divides}
use Rattle.edit.specs.Takes.{TakesTwins}

-- the step that a place and the page standing there make
abbrev pub step_at : List ℕ → Place → rules.Step
step_at t e = record { place = e; page = read t e.child }

-- ── By the header ───────────────────────────────────────────────────────────────────────────────────────────────

-- a leaf that was built since the last sync or opening: its halves inherit the entry's previous page
unfoldable pub heirs_by : ℕ → Head → Bool
heirs_by c h = eqb h.kind leaf_kind && eqb h.built c

unfoldable pub previous_by : ℕ → Place → Head → ℕ
previous_by c e h = elim (heirs_by c h) [ true ↦ e.previous | false ↦ e.child ]

-- such a leaf that was born since then too is freed at once
unfoldable pub frees_by : ℕ → Head → Bool
frees_by c h = heirs_by c h && eqb h.birth c

unfoldable pub retire_by : ℕ → ℕ → Head → Session → Session
retire_by c i h s = elim (frees_by c h) [ true ↦ freed i s | false ↦ waits i s ]

unfoldable pub root_previous_by : ℕ → Place → Head → ℕ
root_previous_by c e h = elim (eqb h.built c) [ true ↦ e.previous | false ↦ e.child ]

-- the half whose range holds a key
unfoldable pub side_of : ℕ → ℕ → ℕ → ℕ → ℕ
side_of k middle lower upper = elim (ltb k middle) [ true ↦ lower | false ↦ upper ]

-- ── What a split asks for ───────────────────────────────────────────────────────────────────────────────────────

abbrev pub Has : List ℕ → ℕ → Type 0
Has t i = (i + 1) * page_size ≤ length t

-- the full page at a place, its halves' numbers, and the page above it, which has the page's entry and room
pub record Halves (t : List ℕ) (e : Place) (h : Head) (lower upper at : ℕ) : Type 0 where
  pub few : length t ≤ most_pages * page_size
  pub child_in_lem : Has t e.child
  pub lower_in : Has t lower
  pub upper_in : Has t upper
  pub above_in_lem : Has t at
  pub head : h ≡ head_of (read t e.child)
  pub divides : Divides (read t e.child).view
  pub takes : TakesTwins (read t e.child).low (divide (read t e.child).view) (read t at).view
  pub child_lower : e.child ≢ lower
  pub above_lower : at ≢ lower
  pub above_upper : at ≢ upper

-- the old root and the new one's number
pub record Grows (t : List ℕ) (e : Place) (h : Head) (new : ℕ) : Type 0 where
  pub few : length t ≤ most_pages * page_size
  pub new_in : Has t new
  pub head : h ≡ head_of (read t e.child)
  pub kind_from : leaf_kind ≤ h.kind
  pub kind : h.kind ≤ 3
