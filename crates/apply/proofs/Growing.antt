-- A new root over an old one that is full: it stands in the table, and takes the two entries that the old root's becomes.
-- Assumes nothing.
use Prim.Native.Nat.{ℕ, ◌≤◌, ◌<◌}
use native.Mathlib.Omega.{arith}
use mathlib.Core.Path.{◌≡◌, refl, sym, ap, ◌∙◌, subst}
use mathlib.Core.Logic.{◌⊎◌, inl, inr, ◌≢◌}
use mathlib.Core.Bool.{true}
use mathlib.Core.List.{List, [], ◌∷◌}
use lib.ListN.{length}
use Rattle.rules.specs.Layout.{top_kind, last_key}
use Rattle.rules.specs.Test.{mem}
use Rattle.rules.specs.Entry.{keys, rising, rises_from}
use Rattle.rules.specs.Page.{Page, count, fresh}
use Rattle.rules.specs.Table.{read, build, set_root}
use Rattle.rules.specs.Insert.{full, divide, new_child, root_over, root_previous, Making, making, grow}
use Rattle.rules.specs.declared.Place.{Place}
use Rattle.rules.specs.declared.Session.{Session}
use Rattle.rules.proofs.Entries.Tests.{fails, mem-head, mem_cases, mem-nil}
use Rattle.rules.proofs.Bytes.All.{nil, cons}
use Rattle.rules.proofs.Entries.Views.{Shaped, shaped-read, inner-of-kind}
use Rattle.rules.proofs.Entries.Halves.{Divided, divided, root_over-shaped}
use Rattle.rules.proofs.Bytes.Pages.{Wide, wide-fresh, room-page_bytes}
use Rattle.rules.proofs.Bytes.PageZero.{length-set_root, bytes-set_root, read-set_root}
use Rattle.rules.proofs.Bytes.Tables.{Has, Room, has-page, wide_read, length-build, read-build-same, read-build-other, bytes-build}
use Rattle.rules.proofs.Bytes.Widths.{wide-new_child}
use Rattle.edit.specs.Takes.{TakesTwins}
use Rattle.split.specs.Split.{step_at, Grows}
use Rattle.head.specs.declared.Head.{Head}
use Rattle.head.proofs.Headers.{head_of}
use Rattle.apply.specs.Leads.{Whole, Stands}

module _ {n c k : ℕ} {T : List ℕ} (w : Whole n c T) {e : Place} (st : Stands n k T (step_at T e)) (f : full (read T e.child).view ≡ true)
    (short : (read T e.child).view.kind < top_kind) {g : ℕ} (page : 1 ≤ g) (below : g < n) where
  abbrev p : Page
  p = read T e.child

  abbrev root : Page
  root = fresh c c 0 last_key (root_over (step_at T e))

  abbrev T₁ : List ℕ
  T₁ = build T g root

  abbrev T₂ : List ℕ
  T₂ = set_root T₁ g (root_previous c (step_at T e)) c

  wide_p : Wide p
  wide_p = wide_read T e.child w.bytes

  shaped-root : Shaped (root_over (step_at T e))
  shaped-root = root_over-shaped (step_at T e) st.fits.sound.kind_from

  wide-root : Wide root
  unfolding root_over count new_child
  wide-root =
      wide-fresh
      (record {
        shaped = shaped-root;
        kind = omega (arith, short);
        count = omega arith;
        certs = nil;
        children = cons
            (wide-new_child (omega (arith, wide_p.birth, st.fits.birth)) (omega (arith, wide_p.low, st.fits.low)) (omega (arith, st.below, w.few)) (omega (arith, st.previous, w.few)))
            nil;
      })
      w.counter w.counter (omega arith) (omega arith)

  room-root : Room root
  unfolding fresh root_over
  room-root = room-page_bytes root shaped-root (omega arith) (omega arith)

  has : Has T g
  has = has-page T n g w.long below

  l₁ : length T₁ ≡ length T
  l₁ = length-build T g root has room-root

  whole : Whole n c T₂
  whole = record {
    long = length-set_root T₁ g (root_previous c (step_at T e)) c ∙ (l₁ ∙ w.long);
    few = w.few;
    bytes = bytes-set_root T₁ g (root_previous c (step_at T e)) c (bytes-build T g root w.bytes);
    counter = w.counter;
  }

  others : (i : ℕ) → 1 ≤ i → i ≢ g → read T₂ i ≡ read T i
  others i a b = read-set_root T₁ g (root_previous c (step_at T e)) c i a ∙ read-build-other T g root has room-root i b

  here : read T₂ g ≡ root
  here = read-set_root T₁ g (root_previous c (step_at T e)) c g page ∙ read-build-same T g root has room-root wide-root

  d : Divided e.low e.high p.view
  d = divided st.fits.sound (shaped-read T e.child) f

  takes-root : TakesTwins p.low (divide p.view) (root_over (step_at T e))
  unfolding root_over new_child keys rising rises_from
  takes-root = record {
    has = record {
      inner = inner-of-kind (root_over (step_at T e)) (λ q. omega (arith, q, st.fits.sound.kind_from));
      room = omega arith;
      rises = refl;
      present = ap (λ (l : ℕ). mem l (e.low ∷ [])) st.fits.low ∙ mem-head e.low [];
    };
    absent = fails (mem (divide p.view) (e.low ∷ [])) (λ q. other (mem_cases (divide p.view) e.low [] q));
  }
    where
      other : (divide p.view ≡ e.low) ⊎ (mem (divide p.view) [] ≡ true) → ⊥
      other (inl q) = omega (arith, q, d.above)
      other (inr q) = mem-nil (divide p.view) q

  -- ── What is left, and what the code asks for ──────────────────────────────────────────────────────────────────

  abbrev left : Session → Making
  left s = grow c (step_at T e) g (making T s 0)

  pub grown-table : (s : Session) → (left s).table ≡ T₂
  unfolding grow
  grown-table s = refl

  pub grown-whole : (s : Session) → Whole n c (left s).table
  grown-whole s = subst (Whole n c) (sym (grown-table s)) whole

  pub grown-others : (s : Session) (i : ℕ) → 1 ≤ i → i ≢ g → read (left s).table i ≡ read T i
  grown-others s i a b = ap (λ (t : List ℕ). read t i) (grown-table s) ∙ others i a b

  pub grown-takes : (s : Session) → TakesTwins p.low (divide p.view) (read (left s).table g).view
  unfolding fresh
  grown-takes s =
      subst (λ (q : Page). TakesTwins p.low (divide p.view) q.view)
      (sym (ap (λ (t : List ℕ). read t g) (grown-table s) ∙ here)) takes-root

  pub grows : (h : Head) → h ≡ head_of p → Grows T e h g
  unfolding head_of
  grows h q = record {
    few = omega (arith, w.long, w.few);
    new_in = omega (arith, w.long, below);
    head = q;
    kind_from = omega (arith, ap (λ (x : Head). x.kind) q, st.fits.sound.kind_from);
    kind = omega (arith, ap (λ (x : Head). x.kind) q, short);
  }
