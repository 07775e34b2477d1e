-- A new root: what the calls leave together. Assumes nothing.
use Prim.Native.Nat.{ℕ, ◌+◌}
use mathlib.Core.Path.{◌≡◌}
use mathlib.Core.List.{List}
use Rattle.rules.specs.Layout.{last_key}
use Rattle.rules.specs.Page.{fresh}
use Rattle.rules.specs.Table.{read, build, set_root}
use Rattle.rules.specs.Marks.{taken}
use Rattle.rules.specs.Insert.{new_child, root_over, making, grow}
use Rattle.rules.specs.declared.Place.{Place}
use Rattle.rules.specs.declared.Session.{Session}
use Rattle.head.specs.declared.Head.{Head}
use Rattle.head.proofs.Headers.{head_of}
use Rattle.build.specs.Range.{root_view}
use Rattle.split.specs.Split.{step_at, root_previous_by}
use Rattle.split.proofs.ByHead.{root_previous_by-of}

root_over-of : (t : List ℕ) (e : Place) (h : Head) → h ≡ head_of (read t e.child)
    → root_view (h.kind + 1) (new_child e.birth e.low e.child e.previous) ≡ root_over (step_at t e)
unfolding root_view root_over head_of
root_over-of t e h q = rw q

pub grown : (c : ℕ) (t : List ℕ) (e : Place) (h : Head) (new previous : ℕ) (s : Session) (t₁ t₂ : List ℕ)
    → h ≡ head_of (read t e.child)
    → t₁ ≡ build t new (fresh c c 0 last_key (root_view (h.kind + 1) (new_child e.birth e.low e.child e.previous)))
    → previous ≡ root_previous_by c e h → t₂ ≡ set_root t₁ new previous c
    → making t₂ (taken new s) new ≡ grow c (step_at t e) new (making t s 0)
unfolding grow
grown c t e h new previous s t₁ t₂ q q₁ qp q₂ =
    rw (q₂, q₁, root_over-of t e h q, qp, q, root_previous_by-of c e (read t e.child))
