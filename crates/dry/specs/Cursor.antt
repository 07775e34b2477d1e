-- The dry walk step by step: one place of the way at a time, from leaf to leaf.
use Rattle.std.specs.Prelude.{ℕ, zero, suc, ◌+◌, ◌*◌, ◌≤◌, ◌<◌, ◌≡◌, Bool, true, false, ◌&&◌, Option, Some, None, Result, Ok, Err, List, [], ◌∷◌, leb, eqb, length}
use Rattle.rules.specs.Layout.{leaf_kind, last_key}
use Rattle.rules.specs.Entry.{Cert}
use Rattle.rules.specs.Place.{root_place}
use Rattle.rules.specs.declared.Asked.{Asked}
use Rattle.rules.specs.declared.Place.{Place}
use Rattle.rules.proofs.Bytes.All.{All}
use Rattle.seen.specs.Run.{run_of, kind_at, place_in, places, rest_of, Lies}
use Rattle.seen.specs.declared.Run.{Run}
use Rattle.dry.specs.Walk.{marked, Sighted, sighted, dry_each, dry}
use Rattle.dry.specs.Source.{source, marked_by}
use Rattle.dry.specs.declared.Damaged.{Damaged}
use Rattle.dry.specs.declared.Met.{Met}
use Rattle.dry.specs.declared.Cursor.{Cursor}
use Rattle.dry.specs.declared.LeafAt.{LeafAt}
use Rattle.dry.specs.declared.Spot.{Spot}
use Rattle.dry.specs.declared.Step.{Step}

-- ── One place ───────────────────────────────────────────────────────────────────────────────────────────────────

-- a damaged place
abbrev pub damaged : Damaged
damaged = record {}

-- the place's range meets the asked one
unfoldable pub in_reach : Asked → Place → Bool
in_reach a e = leb e.low a.high && leb a.low e.high

-- what a place comes to, with the marks after it
pub record Meeting : Type 0 where
  pub met : Result Met Damaged
  pub marks : List Bool

abbrev pub meeting : Result Met Damaged → List Bool → Meeting
meeting x m = record { met = x; marks = m }

-- its source shows a leaf, or entries
unfoldable pub met_page : List ℕ → Place → ℕ → Met
met_page t e i =
    elim (eqb (kind_at t i) leaf_kind) [ true ↦ Met.Leaf i | false ↦ Met.Entries (run_of t i e.low e.high) ]

unfoldable pub met_by : List ℕ → List Bool → Place → Option ℕ → Meeting
met_by t m e (Some i) = meeting (Ok (met_page t e i)) (marked_by i e m)
met_by t m e None = meeting (Err damaged) m

unfoldable pub meet_of : ℕ → Asked → List ℕ → List ℕ → List Bool → Place → Meeting
meet_of n a above t m e =
    elim (in_reach a e) [ true ↦ met_by t m e (source n above t m e) | false ↦ meeting (Ok Met.Passed) m ]

-- ── The way ─────────────────────────────────────────────────────────────────────────────────────────────────────

unfoldable pub no_run : Run
no_run = record { page = 0; first = 0; left = 0; want = 0 }

-- before the first step the root is left, and nothing else
unfoldable pub at_root : Cursor
at_root = record {
  fresh = true;
  root = 0;
  upper = no_run;
  parent = 0;
  lower = no_run;
  high = 0;
}

-- the way behind the root: its entries, if it has any
abbrev pub under_root : ℕ → Run → Cursor
under_root root r = record {
  fresh = false;
  root = root;
  upper = r;
  parent = 0;
  lower = no_run;
  high = 0;
}

abbrev pub with_upper : Cursor → Run → Cursor
with_upper c r = record {
  fresh = c.fresh;
  root = c.root;
  upper = r;
  parent = c.parent;
  lower = c.lower;
  high = c.high;
}

abbrev pub with_lower : Cursor → ℕ → Run → ℕ → Cursor
with_lower c parent r high = record {
  fresh = c.fresh;
  root = c.root;
  upper = c.upper;
  parent = parent;
  lower = r;
  high = high;
}

-- the place that is next, at its level, with the pages above it and the way behind it
abbrev pub spot_at : ℕ → ℕ → ℕ → Place → Cursor → Spot
spot_at level parent top e rest = record { level = level; parent = parent; top = top; place = e; rest = rest }

unfoldable pub due_lower : List ℕ → Cursor → Spot
due_lower t c =
    spot_at 1 c.parent c.root (place_in t c.high c.lower) (with_lower c c.parent (rest_of c.lower) c.high)

unfoldable pub due_upper : List ℕ → Cursor → Spot
due_upper t c = spot_at 2 c.root 0 (place_in t last_key c.upper) (with_upper c (rest_of c.upper))

unfoldable pub due_root : List ℕ → Spot
due_root t = spot_at 3 0 0 (root_place t) (under_root 0 no_run)

-- the root is next where it is left
unfoldable pub due_last : List ℕ → Bool → Option Spot
due_last t true = Some (due_root t)
due_last t false = None

-- the next entry of the lowest page that has one left
unfoldable pub due_of : List ℕ → Cursor → Option Spot
due_of t c =
    elim (eqb c.lower.left 0) [
      | false ↦ Some (due_lower t c)
      | true ↦ elim (eqb c.upper.left 0) [ false ↦ Some (due_upper t c) | true ↦ due_last t c.fresh ]
    ]

-- ── A step ──────────────────────────────────────────────────────────────────────────────────────────────────────

abbrev pub on : Cursor → Result Step Damaged
on c = Ok (Step.On c)

-- entries of a page are the next of the way; there are none below the third page
unfoldable pub under_of : Spot → Run → Result Step Damaged
under_of s r =
    elim (eqb s.level 3) [
      | true ↦ on (under_root s.place.child r)
      | false ↦ elim (eqb s.level 2) [
        | true ↦ on (with_lower s.rest s.place.child r s.place.high)
        | false ↦ elim (eqb r.left 0) [ true ↦ on s.rest | false ↦ Err damaged ]
      ]
    ]

unfoldable pub settle_of : Spot → Met → Result Step Damaged
settle_of s Met.Passed = on s.rest
settle_of s (Met.Leaf i) = Ok (Step.Leaf (record { page = i; place = s.place; after = s.rest }))
settle_of s (Met.Entries r) = under_of s r

unfoldable pub settle_met : Spot → Result Met Damaged → Result Step Damaged
settle_met s (Ok x) = settle_of s x
settle_met s (Err d) = Err d

pub record Stepping : Type 0 where
  pub step : Result Step Damaged
  pub marks : List Bool

abbrev pub stepping : Result Step Damaged → List Bool → Stepping
stepping x m = record { step = x; marks = m }

unfoldable pub settled : Spot → Meeting → Stepping
settled s x = stepping (settle_met s x.met) x.marks

unfoldable pub step_at : ℕ → Asked → List ℕ → List Bool → Option Spot → Stepping
step_at n a t m (Some s) = settled s (meet_of n a (s.parent ∷ s.top ∷ []) t m s.place)
step_at n a t m None = stepping (Ok Step.End) m

unfoldable pub step_of : ℕ → Asked → List ℕ → Cursor → List Bool → Stepping
step_of n a t c m = step_at n a t m (due_of t c)

-- ── From leaf to leaf ───────────────────────────────────────────────────────────────────────────────────────────

unfoldable pub root_left : Bool → ℕ
root_left true = 4096
root_left false = 0

-- how much of a way is left at most: a page has fewer than 64 entries
unfoldable pub way_left : Cursor → ℕ
way_left c = root_left c.fresh + c.upper.left * 64 + c.lower.left

-- the leaf that the walk comes to next, or none at its end, with the marks after it
pub record Reaching : Type 0 where
  pub leaf : Result (Option LeafAt) Damaged
  pub marks : List Bool

abbrev pub reaching : Result (Option LeafAt) Damaged → List Bool → Reaching
reaching x m = record { leaf = x; marks = m }

-- a step that only goes on is followed by the next one
unfoldable pub reach_by : (Cursor → List Bool → Reaching) → Result Step Damaged → List Bool → Reaching
reach_by go (Ok (Step.On c)) m = go c m
reach_by go (Ok (Step.Leaf l)) m = reaching (Ok (Some l)) m
reach_by go (Ok Step.End) m = reaching (Ok None) m
reach_by go (Err d) m = reaching (Err d) m

-- within so many steps
unfoldable pub leaf_within : ℕ → ℕ → Asked → List ℕ → Cursor → List Bool → Reaching
leaf_within zero n a t c m = reaching (Err damaged) m
leaf_within (suc k) n a t c m = reach_by (leaf_within k n a t) (step_of n a t c m).step (step_of n a t c m).marks

-- each step leaves less of the way, so these are enough
unfoldable pub leaf_of : ℕ → Asked → List ℕ → Cursor → List Bool → Reaching
leaf_of n a t c m = leaf_within (suc (way_left c)) n a t c m

-- ── What is left to walk ────────────────────────────────────────────────────────────────────────────────────────

-- a place asks for a page of the table
abbrev pub Names : ℕ → Place → Type 0
Names n e = e.child < n

-- a way that can be gone: both runs lie in their pages, and each place names a page
pub record Leads (n : ℕ) (t : List ℕ) (c : Cursor) : Type 0 where
  pub root_names : Names n (root_place t)
  pub upper : Lies n c.upper
  pub upper_names : All (Names n) (places t last_key c.upper)
  pub lower : Lies n c.lower
  pub lower_names : All (Names n) (places t c.high c.lower)

unfoldable pub ahead_root : ℕ → Asked → List ℕ → Bool → Sighted → Sighted
ahead_root n a t true d = dry 3 n a 0 0 t (root_place t) d
ahead_root n a t false d = d

-- the entries left of the lower page, then those of the upper one; or the root
unfoldable pub ahead : ℕ → Asked → List ℕ → Cursor → Sighted → Sighted
ahead n a t c d =
    ahead_root n a t c.fresh
    (dry_each (dry 2 n a c.root 0 t) (places t last_key c.upper)
    (dry_each (dry 1 n a c.parent c.root t) (places t c.high c.lower) d))

-- it is known that the walk ahead meets no damaged place and would mend nothing
pub record Sure (n : ℕ) (a : Asked) (t : List ℕ) (c : Cursor) (m : List Bool) : Type 0 where
  pub marks : n ≤ length m
  pub found : List Cert
  pub room : length found < a.room
  pub whole : (ahead n a t c (sighted true found m)).whole ≡ true
  pub still : (i : ℕ) → marked (ahead n a t c (sighted true found m)).mended i ≡ false
