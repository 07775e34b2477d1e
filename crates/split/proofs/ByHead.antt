-- What the rules ask of a step is read off its place and its page's header. Assumes nothing.
use Prim.Native.Nat.{ℕ, ◌<◌, ◌≤◌}
use mathlib.Core.Path.{◌≡◌, refl}
use mathlib.Core.Bool.{true, false}
use lib.Dec.{eqb}
use borrow.Author.Tests.{eq-eqb, ne_eqb, lt-ltb, le-ltb}
use Rattle.rules.specs.Layout.{leaf_kind}
use Rattle.rules.specs.Page.{Page, is_leaf}
use Rattle.rules.specs.Marks.{freed, waits}
use Rattle.rules.specs.Walk as rules
use Rattle.rules.specs.Insert.{heirs, previous_of, retire, root_previous}
use Rattle.rules.specs.declared.Place.{Place}
use Rattle.rules.specs.declared.Session.{Session}
use Rattle.head.specs.declared.Head.{Head}
use Rattle.head.proofs.Headers.{head_of}
use Rattle.split.specs.Split.{heirs_by, previous_by, frees_by, retire_by, root_previous_by, side_of}

-- ── The tests, as the code makes them ───────────────────────────────────────────────────────────────────────────

pub heirs-leaf : (c : ℕ) (h : Head) → h.kind ≡ leaf_kind → eqb h.built c ≡ heirs_by c h
unfolding heirs_by
heirs-leaf c h e = rw (eq-eqb h.kind leaf_kind e)

pub heirs-inner : (c : ℕ) (h : Head) → (h.kind ≡ leaf_kind → ⊥) → false ≡ heirs_by c h
unfolding heirs_by
heirs-inner c h e = rw (ne_eqb h.kind leaf_kind e)

pub previous_heir : (c : ℕ) (e : Place) (h : Head) → heirs_by c h ≡ true → e.previous ≡ previous_by c e h
unfolding previous_by
previous_heir c e h q = rw (q, previous_by)

pub previous_self : (c : ℕ) (e : Place) (h : Head) → heirs_by c h ≡ false → e.child ≡ previous_by c e h
unfolding previous_by
previous_self c e h q = rw (q, previous_by)

pub frees_heir : (c : ℕ) (h : Head) → heirs_by c h ≡ true → eqb h.birth c ≡ frees_by c h
unfolding frees_by
frees_heir c h q = rw q

pub frees-none : (c : ℕ) (h : Head) → heirs_by c h ≡ false → false ≡ frees_by c h
unfolding frees_by
frees-none c h q = rw q

pub root-built : (c : ℕ) (e : Place) (h : Head) → h.built ≡ c → e.previous ≡ root_previous_by c e h
unfolding root_previous_by
root-built c e h q = rw (eq-eqb h.built c q, root_previous_by)

pub root_older : (c : ℕ) (e : Place) (h : Head) → (h.built ≡ c → ⊥) → e.child ≡ root_previous_by c e h
unfolding root_previous_by
root_older c e h q = rw (ne_eqb h.built c q, root_previous_by)

pub retire-free : (c i : ℕ) (h : Head) (s : Session) → frees_by c h ≡ true → freed i s ≡ retire_by c i h s
unfolding retire_by
retire-free c i h s q = rw (q, retire_by)

pub retire-wait : (c i : ℕ) (h : Head) (s : Session) → frees_by c h ≡ false → waits i s ≡ retire_by c i h s
unfolding retire_by
retire-wait c i h s q = rw (q, retire_by)

pub side-lower : (k middle lower upper : ℕ) → k < middle → lower ≡ side_of k middle lower upper
unfolding side_of
side-lower k middle lower upper h = rw (lt-ltb k middle h, side_of)

pub side-upper : (k middle lower upper : ℕ) → middle ≤ k → upper ≡ side_of k middle lower upper
unfolding side_of
side-upper k middle lower upper h = rw (le-ltb k middle h, side_of)

-- ── The rules' own ──────────────────────────────────────────────────────────────────────────────────────────────

module _ (c : ℕ) (e : Place) (p : Page) where
  abbrev step : rules.Step
  step = record { place = e; page = p }

  pub previous_by-of : previous_by c e (head_of p) ≡ previous_of c step
  unfolding previous_by heirs_by head_of previous_of heirs is_leaf
  previous_by-of = refl

  pub retire_by-of : (s : Session) → retire_by c e.child (head_of p) s ≡ retire c step s
  unfolding retire_by frees_by heirs_by head_of retire heirs is_leaf
  retire_by-of s = refl

  pub root_previous_by-of : root_previous_by c e (head_of p) ≡ root_previous c step
  unfolding root_previous_by head_of root_previous
  root_previous_by-of = refl
