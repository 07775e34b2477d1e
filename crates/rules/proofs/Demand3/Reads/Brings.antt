-- Entering a place brings a page: its own, or the one that mending builds. A mend brings forward what a later entering would have
-- brought, so it changes none of these pages, not even their numbers of time.
use Rattle.std.proofs.Common.{◌≡◌, ℕ, Bool, true, false, eqb, ◌≢◌, List, sym, refl, ap, ◌∙◌, subst, eqb-true}
use borrow.Author.Tests.{eqb-false}
use Rattle.rules.specs.Test.{mem}
use Rattle.rules.specs.Page.{Page}
use Rattle.rules.specs.Table.{read, build}
use Rattle.rules.specs.Place.{fits, mended}
use Rattle.rules.specs.Enter.{enter}
use Rattle.rules.specs.declared.Place.{Place}
use Rattle.rules.specs.declared.Session.{Session}
use Rattle.rules.proofs.Demand3.Ways.Ways.{Node, Found, Lost}
use Rattle.rules.proofs.Demand3.Ways.Invariant.{States}
use Rattle.rules.proofs.Demand3.Epochs.Epochs.{working-good}
use Rattle.rules.proofs.Demand3.Epochs.Store.{Safe}
use Rattle.rules.proofs.Demand3.Steps.Mended.{Steady, steady-node, mend-found, mend-reads, mend-others, mend-enters}

-- the page that entering a place gives
pub brought : ℕ → ℕ → List ℕ → Place → Page
brought n c t e =
    elim (fits n e (read t e.child)) [ true ↦ read t e.child | false ↦ mended c e (read t e.previous) ]

pub brought_found : (n c : ℕ) (t : List ℕ) (e : Place) → Found n t e → brought n c t e ≡ read t e.child
unfolding brought
brought_found n c t e f = rw (f, brought)

brought_lost : (n c : ℕ) (t : List ℕ) (e : Place) → Lost n t e → brought n c t e ≡ mended c e (read t e.previous)
unfolding brought
brought_lost n c t e l = rw (l, brought)

-- u brings at t's nodes what t brings
abbrev pub Brings : ℕ → ℕ → List ℕ → List ℕ → Type 0
Brings n c t u = (k : ℕ) (e : Place) → Node n t k e → brought n c u e ≡ brought n c t e

pub brings-then : (n c : ℕ) (t u v : List ℕ) → Steady n t u → Brings n c t u → Brings n c u v → Brings n c t v
brings-then n c t u v h f g k e x = g k e (steady-node h x) ∙ f k e x

-- ── One mend ────────────────────────────────────────────────────────────────────────────────────────────────────

module _ {s : Session} {W S : List ℕ} {Been : States} (x : Safe s W S Been) {k : ℕ} {e : Place}
    (y : Node s.n W k e) (l : Lost s.n W e) where
  abbrev table : List ℕ
  table = build W e.child (mended s.c e (read W e.previous))

  here : brought s.n s.c table e ≡ brought s.n s.c W e
  here =
      brought_found s.n s.c table e (mend-found x y l)
      ∙ (mend-reads x y l ∙ sym (brought_lost s.n s.c W e l))

  -- the page that a lost node is shown from is no node's child, so no mend writes it
  other : (j : ℕ) (d : Place) → Node s.n W j d → d.child ≢ e.child → brought s.n s.c table d ≡ brought s.n s.c W d
  other j d z h = go (fits s.n d (read W d.child)) refl
    where
      stays : read table d.child ≡ read W d.child
      stays = mend-others x y l d.child h

      go : (b : Bool) → fits s.n d (read W d.child) ≡ b → brought s.n s.c table d ≡ brought s.n s.c W d
      go true f =
          brought_found s.n s.c table d (ap (fits s.n d) stays ∙ f)
          ∙ (stays ∙ sym (brought_found s.n s.c W d f))
      go false f =
          brought_lost s.n s.c table d (ap (fits s.n d) stays ∙ f)
          ∙ (ap (mended s.c d) (mend-others x y l d.previous ((working-good x.inv).apart z f y))
          ∙ sym (brought_lost s.n s.c W d f))

  mend-brings : Brings s.n s.c W table
  mend-brings j d z = go (eqb d.child e.child) refl
    where
      go : (b : Bool) → eqb d.child e.child ≡ b → brought s.n s.c table d ≡ brought s.n s.c W d
      go true h =
          subst (λ (p : Place). brought s.n s.c table p ≡ brought s.n s.c W p)
          (sym (x.inv.once z y (eqb-true d.child e.child h))) here
      go false h = other j d z (eqb-false d.child e.child h)

-- ── Entering a node ─────────────────────────────────────────────────────────────────────────────────────────────

pub enter-brings : {s : Session} {W S : List ℕ} {Been : States} {k : ℕ} {e : Place} (above : List ℕ)
    → Safe s W S Been → Node s.n W k e → mem e.child above ≡ false → Brings s.n s.c W (enter s.n s.c above W e).table
unfolding enter
enter-brings {s} {W} {S} {Been} {k} {e} above x y m = go (fits s.n e (read W e.child)) refl
  where
    go : (b : Bool) → fits s.n e (read W e.child) ≡ b → Brings s.n s.c W (enter s.n s.c above W e).table
    go true f = rw (m, enter, f) (λ j d z. refl)
    go false l = rw (m, enter, l) (rw (mend-enters x y l) (mend-brings x y l))
