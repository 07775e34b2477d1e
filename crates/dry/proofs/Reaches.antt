-- From leaf to leaf: what steps come to, while they only go on, is what is left to walk. Assumes nothing.
use Prim.Native.Nat.{ℕ, zero, suc, ◌*◌, ◌≤◌, ◌<◌}
use native.Mathlib.Omega.{arith}
use mathlib.Core.Path.{◌≡◌, refl, ap, sym, subst, ◌∙◌}
use mathlib.Core.Bool.{Bool, true, false}
use mathlib.Core.List.{List, ◌++◌}
use lib.ListN.{length}
use Rattle.std.specs.Prelude.{Option, Some, None, Result, Ok, Err}
use Rattle.rules.specs.Layout.{page_size}
use Rattle.rules.specs.Entry.{Cert}
use Rattle.rules.specs.Place.{cut_view}
use Rattle.rules.specs.Table.{read}
use Rattle.rules.specs.declared.Asked.{Asked}
use Rattle.rules.proofs.Entries.Tests.{not_both}
use Rattle.dry.specs.Walk.{marked, Sighted, sighted, asks}
use Rattle.dry.specs.Cursor.{Stepping, stepping, step_of, way_left, Reaching, reaching, reach_by, leaf_within, leaf_of, Leads, ahead, Sure}
use Rattle.dry.specs.declared.Damaged.{Damaged}
use Rattle.dry.specs.declared.Cursor.{Cursor}
use Rattle.dry.specs.declared.LeafAt.{LeafAt}
use Rattle.dry.specs.declared.Step.{Step}
use Rattle.dry.proofs.Ways.{stepped, step-ahead}
use Rattle.dry.proofs.Leads.{LeafShown, Good, step-good}

-- what the walk has come to, and what is then left
unfoldable pub come : ℕ → Asked → List ℕ → List Cert → Result (Option LeafAt) Damaged → List Bool → Sighted
come n a t found (Ok (Some l)) m =
    ahead n a t l.after
    (sighted true (found ++ asks a (cut_view l.place.low l.place.high (read t l.page).view) found) m)
come n a t found (Ok None) m = sighted true found m
come n a t found (Err x) m = sighted false found m

-- what is known of it: a leaf is shown by the marks before the step that came to it
unfoldable pub Reached : ℕ → List ℕ → ℕ → Result (Option LeafAt) Damaged → List Bool → Type 0
Reached n t left (Ok (Some l)) marks = Leads n t l.after × (way_left l.after < left) × ((m : List Bool) × LeafShown n t m marks l)
Reached n t left (Ok None) marks = Unit {0}
Reached n t left (Err x) marks = Unit {0}

reached-more : (n : ℕ) (t : List ℕ) (j k : ℕ) (r : Result (Option LeafAt) Damaged) (marks : List Bool) → j ≤ k → Reached n t j r marks → Reached n t k r marks
unfolding Reached
reached-more n t j k (Ok (Some l)) marks h r = (r.0, omega (arith, r.1), r.2)
reached-more n t j k (Ok None) marks h r = r
reached-more n t j k (Err x) marks h r = r

module _ (n : ℕ) (a : Asked) (t : List ℕ) (long : length t ≡ n * page_size) where
  -- any number of steps that is enough gives the same
  abbrev Same : ℕ → ℕ → Type 0
  Same k j = (c : Cursor) (m : List Bool) → Leads n t c → way_left c < k → way_left c < j → leaf_within k n a t c m ≡ leaf_within j n a t c m

  within : (k j : ℕ) → Same k j
  unfolding leaf_within reach_by Good
  within zero j c m l p q = absurd (omega arith)
  within (suc k) zero c m l p q = absurd (omega arith)
  within (suc k) (suc j) c m l p q = go (within k j) (step_of n a t c m).step (step_of n a t c m).marks (step-good n t a m long c l)
    where
      go : Same k j → (s : Result Step Damaged) (marks : List Bool) → Good n t m (way_left c) s marks
          → reach_by (leaf_within k n a t) s marks ≡ reach_by (leaf_within j n a t) s marks
      go w (Ok (Step.On x)) marks g = w x marks g.0 (omega (arith, g.1)) (omega (arith, g.1))
      go w (Ok (Step.Leaf x)) marks g = refl
      go w (Ok Step.End) marks g = refl
      go w (Err x) marks g = refl

  -- ── One step ────────────────────────────────────────────────────────────────────────────────────────────────────

  module _ (c : Cursor) (m : List Bool) (leads : Leads n t c) (s : Result Step Damaged) (marks : List Bool) (is : stepping s marks ≡ step_of n a t c m) where
    good : Good n t m (way_left c) s marks
    good = subst (λ (x : Stepping). Good n t m (way_left c) x.step x.marks) (sym is) (step-good n t a m long c leads)

    comes : reach_by (leaf_within (way_left c) n a t) s marks ≡ leaf_of n a t c m
    unfolding leaf_of leaf_within
    comes = ap (λ (x : Stepping). reach_by (leaf_within (way_left c) n a t) x.step x.marks) is

    abbrev By : Result Step Damaged → Type 0
    By z = reach_by (leaf_within (way_left c) n a t) z marks ≡ leaf_of n a t c m

    module _ (x : Cursor) (q : s ≡ Ok (Step.On x)) where
      on : Good n t m (way_left c) (Ok (Step.On x)) marks
      on = subst (λ (z : Result Step Damaged). Good n t m (way_left c) z marks) q good

      pub on_less : way_left x < way_left c
      unfolding Good
      on_less = on.1

      pub on_leads : Leads n t x
      unfolding Good
      on_leads = on.0

      pub on_reaches : leaf_of n a t x marks ≡ leaf_of n a t c m
      unfolding leaf_of reach_by
      on_reaches =
          let there : By (Ok (Step.On x)) = subst By q comes in
          within (suc (way_left x)) (way_left c) x marks on_leads (omega arith) (omega (arith, on_less)) ∙ there

      -- and what is known of the walk ahead stays known
      pub on_sure : Sure n a t c m → n ≤ length marks → Sure n a t x marks
      unfolding stepped
      on_sure sure size =
          let d = sighted true sure.found m in
          let e : ahead n a t c d ≡ ahead n a t x (sighted true sure.found marks)
          = step-ahead n a t long sure.found m sure.room c
          ∙ ap (λ (z : Stepping). stepped n a t sure.found z.step z.marks) (sym is)
          ∙ ap (λ (z : Result Step Damaged). stepped n a t sure.found z marks) q in
          record {
            marks = size;
            found = sure.found;
            room = sure.room;
            whole = ap (λ (z : Sighted). z.whole) (sym e) ∙ sure.whole;
            still = λ i. ap (λ (z : Sighted). marked z.mended i) (sym e) ∙ sure.still i;
          }

    pub leaf_reaches : (l : LeafAt) → s ≡ Ok (Step.Leaf l) → reaching (Ok (Some l)) marks ≡ leaf_of n a t c m
    unfolding reach_by
    leaf_reaches l q = subst By q comes

    pub end_reaches : s ≡ Ok Step.End → reaching (Ok None) marks ≡ leaf_of n a t c m
    unfolding reach_by
    end_reaches q = subst By q comes

    pub damage_reaches : (x : Damaged) → s ≡ Err x → reaching (Err x) marks ≡ leaf_of n a t c m
    unfolding reach_by
    damage_reaches x q = subst By q comes

  -- ── As many as it takes ─────────────────────────────────────────────────────────────────────────────────────────

  abbrev Known : ℕ → Type 0
  Known k = (c : Cursor) (m : List Bool) → Leads n t c → way_left c < k
      → Reached n t (way_left c) (leaf_within k n a t c m).leaf (leaf_within k n a t c m).marks

  known : (k : ℕ) → Known k
  unfolding leaf_within reach_by Good Reached
  known zero c m l p = absurd (omega arith)
  known (suc k) c m l p = go (known k) (step_of n a t c m).step (step_of n a t c m).marks (step-good n t a m long c l)
    where
      go : Known k → (s : Result Step Damaged) (marks : List Bool) → Good n t m (way_left c) s marks
          → Reached n t (way_left c) (reach_by (leaf_within k n a t) s marks).leaf (reach_by (leaf_within k n a t) s marks).marks
      go w (Ok (Step.On x)) marks g =
          reached-more n t (way_left x) (way_left c) _ _ (omega (arith, g.1)) (w x marks g.0 (omega (arith, g.1)))
      go w (Ok (Step.Leaf x)) marks g = (g.0, g.1, (m, g.2))
      go w (Ok Step.End) marks g = tt
      go w (Err x) marks g = tt

  pub leaf-reached : (c : Cursor) (m : List Bool) → Leads n t c → Reached n t (way_left c) (leaf_of n a t c m).leaf (leaf_of n a t c m).marks
  unfolding leaf_of
  leaf-reached c m l = known (suc (way_left c)) c m l (omega arith)

  module _ (found : List Cert) (room : length found < a.room) where
    abbrev Comes : ℕ → Type 0
    Comes k = (c : Cursor) (m : List Bool) → Leads n t c → way_left c < k
        → ahead n a t c (sighted true found m) ≡ come n a t found (leaf_within k n a t c m).leaf (leaf_within k n a t c m).marks

    arrives : (k : ℕ) → Comes k
    unfolding leaf_within reach_by Good stepped come
    arrives zero c m l p = absurd (omega arith)
    arrives (suc k) c m l p =
        step-ahead n a t long found m room c
        ∙ go (arrives k) (step_of n a t c m).step (step_of n a t c m).marks (step-good n t a m long c l)
      where
        go : Comes k → (s : Result Step Damaged) (marks : List Bool) → Good n t m (way_left c) s marks
            → stepped n a t found s marks ≡ come n a t found (reach_by (leaf_within k n a t) s marks).leaf (reach_by (leaf_within k n a t) s marks).marks
        go w (Ok (Step.On x)) marks g = w x marks g.0 (omega (arith, g.1))
        go w (Ok (Step.Leaf x)) marks g = refl
        go w (Ok Step.End) marks g = refl
        go w (Err x) marks g = refl

    -- what is left to walk is what it has come to by the next leaf
    pub leaf-ahead : (c : Cursor) (m : List Bool) → Leads n t c
        → ahead n a t c (sighted true found m) ≡ come n a t found (leaf_of n a t c m).leaf (leaf_of n a t c m).marks
    unfolding leaf_of
    leaf-ahead c m l = arrives (suc (way_left c)) c m l (omega arith)

  -- where it is known that there is none, no damaged place is met
  pub sure_whole : (c : Cursor) (m : List Bool) → Leads n t c → Sure n a t c m → (x : Damaged) (marks : List Bool)
      → reaching (Err x) marks ≡ leaf_of n a t c m → ⊥
  unfolding come
  sure_whole c m l sure x marks e =
      not_both sure.whole
      (ap (λ (z : Sighted). z.whole)
      (leaf-ahead sure.found sure.room c m l ∙ ap (λ (z : Reaching). come n a t sure.found z.leaf z.marks) (sym e)))
