-- The rules' way as the code hands it back: each step by its place and its page's header, at most three.
use Rattle.std.specs.Prelude as prelude
use Rattle.std.specs.Prelude.{ℕ, ◌+◌, ◌-◌, ◌≤◌, ◌≡◌, true, false, List, [], ◌∷◌, length, Some, None}
use Rattle.std.proofs.Math.Option.{Option, some, none}
use Rattle.rules.specs.Layout.{leaf_header, cert_size, leaf_room, inner_room}
use Rattle.rules.specs.Entry.{keys, rising}
use Rattle.rules.specs.Page.{View, is_leaf, count}
use Rattle.rules.specs.Sound.{starts_at}
use Rattle.rules.specs.Table.{page_at}
use Rattle.rules.specs.Place.{places_in}
use Rattle.rules.specs.Report.{Reported}
use Rattle.rules.specs.Walk as rules
use Rattle.rules.specs.declared.Place.{Place}
use Rattle.rules.specs.declared.Report.{Report}
use Rattle.head.specs.declared.Head.{Head}
use Rattle.head.proofs.Headers.{head_of}
use Rattle.entries.specs.Spot.{keys_in, spot_of}
use Rattle.enter.specs.declared.Above.{Above}
use Rattle.way.specs.declared.Step.{Step}
use Rattle.way.specs.declared.End.{End}
use Rattle.way.specs.declared.Went.{Went}
use Rattle.way.specs.declared.Ended.{Ended}

-- no page
abbrev pub no_step : Step
no_step = record {
  place = record { child = 0; previous = 0; birth = 0; low = 0; high = 0; want = 0 };
  head = record { kind = 0; count = 0; birth = 0; built = 0; touched = 0; low = 0; high = 0 };
}

abbrev pub step_of : rules.Step → Step
step_of s = record { place = s.place; head = head_of s.page }

-- steps, leaf first
abbrev pub way_for : List rules.Step → List Step
way_for [] = []
way_for (s ∷ ss) = step_of s ∷ way_for ss

abbrev pub rest_of : {A : Type 0} → List A → List A
rest_of [] = []
rest_of (x ∷ xs) = xs

-- the number of the first page, or 0
abbrev pub first_child : List Step → ℕ
first_child [] = 0
first_child (s ∷ ss) = s.place.child

-- what stands above the next step
abbrev pub above_in : List Step → Above
above_in w = record { parent = first_child w; top = first_child (rest_of w) }

-- ── What is left and handed back ────────────────────────────────────────────────────────────────────────────────

pub record Walking : Type 0 where
  pub table : List ℕ
  pub way : prelude.Option (List Step)

abbrev pub walking : List ℕ → prelude.Option (List Step) → Walking
walking t w = record { table = t; way = w }

-- no steps: a damaged place was met
unfoldable pub way_or : Option (List rules.Step) → prelude.Option (List Step)
way_or none = None
way_or (some ss) = Some (way_for ss)

unfoldable pub told : rules.Way → Walking
told w = record { table = w.table; way = way_or w.steps }

-- ── The end of a way alone ──────────────────────────────────────────────────────────────────────────────────────

-- how many keys of the leaf of a step stand before the first one above k
unfoldable pub spot_at : ℕ → List ℕ → Step → ℕ
spot_at k t s = spot_of k (keys_in leaf_header cert_size s.head.count (page_at t s.place.child))

pub record Ending : Type 0 where
  pub table : List ℕ
  pub end : prelude.Option End

abbrev pub ending : List ℕ → prelude.Option End → Ending
ending t e = record { table = t; end = e }

-- the first step, how many steps there are, and the spot of a key there; no steps: a damaged place was met
unfoldable pub end_or : ℕ → List ℕ → Option (List rules.Step) → prelude.Option End
end_or k t none = None
end_or k t (some []) = None
end_or k t (some (s ∷ ss)) = Some (record { len = length (s ∷ ss); leaf = step_of s; spot = spot_at k t (step_of s) })

unfoldable pub end_in : ℕ → rules.Way → Ending
end_in k w = ending w.table (end_or k w.table w.steps)

-- ── With a report ───────────────────────────────────────────────────────────────────────────────────────────────

abbrev pub reported : {A : Type 0} → A → Report → Reported A
reported left report = record { left = left; report = report }

abbrev pub went : List ℕ → Went → Reported Walking
went t w = reported (walking t w.way) w.report

abbrev pub ended : List ℕ → Ended → Reported Ending
ended t e = reported (ending t e.end) e.report

-- ── A leaf ──────────────────────────────────────────────────────────────────────────────────────────────────────

-- what a leaf must be for its keys to be sought by halving, as every sound leaf is
pub record Holds (v : View) : Type 0 where
  pub leaf : is_leaf v ≡ true
  pub room : length v.certs ≤ leaf_room
  pub rise : rising (keys v.certs) ≡ true

-- ── An inner page that leads on ─────────────────────────────────────────────────────────────────────────────────

-- the places that the entries of a page ask for, by its header
unfoldable pub places_below : Head → View → List Place
places_below h v = places_in (v.kind - 1) h.high v.children

-- what an inner page must be for a key of its range to lead further down
pub record Leads (k : ℕ) (h : Head) (v : View) : Type 0 where
  pub inner : is_leaf v ≡ false
  pub kind : h.kind ≡ v.kind
  pub from : 1 ≤ v.kind
  pub count : h.count ≡ count v
  pub room : length v.children ≤ inner_room
  pub rise : rising (keys v.children) ≡ true
  pub starts : starts_at h.low v.children ≡ true
  pub low : h.low ≤ k
  pub high : k ≤ h.high
