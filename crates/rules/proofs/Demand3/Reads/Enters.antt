-- Entering a node of a safe store below pages that show higher kinds: it is none of them, so no damage is met, and the page
-- entered shows what the node showed before any mend.
use Rattle.std.proofs.Common.{◌≡◌, ℕ, ◌<◌, true, false, ◌⊎◌, List, [], ◌∷◌, sym, refl, ap, ◌∙◌, inl, inr, arith}
use mathlib.Core.Option.{some, some-injective}
use Rattle.rules.specs.Test.{mem}
use Rattle.rules.specs.Page.{View, Page}
use Rattle.rules.specs.Table.{page_at}
use Rattle.rules.specs.Place.{show}
use Rattle.rules.specs.Enter.{Entered, enter}
use Rattle.rules.specs.declared.Place.{Place}
use Rattle.rules.specs.declared.Session.{Session}
use Rattle.rules.proofs.Entries.Tests.{fails, mem-nil, mem_cases}
use Rattle.rules.proofs.Demand3.Ways.Ways.{Node}
use Rattle.rules.proofs.Demand3.Ways.Invariant.{States}
use Rattle.rules.proofs.Demand3.Ways.Sources.{show-found}
use Rattle.rules.proofs.Demand3.Epochs.Store.{Safe}
use Rattle.rules.proofs.Demand3.Steps.Mended.{Steady, steady-same, steady-node, steady_then, Enters, enters-node}
use Rattle.rules.proofs.Demand3.Reads.Brings.{brought, brought_found, Brings, brings-then, enter-brings}

-- a safe store that shows what t shows: t with some lost pages mended, none of which is page 0
pub record Calm (s : Session) (t S : List ℕ) (Been : States) (u : List ℕ) : Type 0 where
  pub safe : Safe s u S Been
  pub steady : Steady s.n t u
  pub brings : Brings s.n s.c t u
  pub zero : page_at u 0 ≡ page_at t 0

pub calm : {s : Session} {W S : List ℕ} {Been : States} → Safe s W S Been → Calm s W S Been W
calm x = record { safe = x; steady = steady-same; brings = λ k e y. refl; zero = refl }

-- ── The pages above ─────────────────────────────────────────────────────────────────────────────────────────────

-- i is the child of a node that shows a kind above
pub record Higher (n : ℕ) (t : List ℕ) (kind i : ℕ) : Type 0 where
  pub key : ℕ
  pub place : Place
  pub view : View
  pub node : Node n t key place
  pub shows : show n t place ≡ some view
  pub above : kind < view.kind
  pub names : place.child ≡ i

abbrev pub AllHigher : ℕ → List ℕ → ℕ → List ℕ → Type 0
AllHigher n t kind above = (i : ℕ) → mem i above ≡ true → Higher n t kind i

pub none_higher : (n : ℕ) (t : List ℕ) (kind : ℕ) → AllHigher n t kind []
none_higher n t kind i m = absurd (mem-nil i m)

-- a page's number joins those above its kids
pub more_higher : {n : ℕ} {t : List ℕ} {k : ℕ} {e : Place} (above : List ℕ) (v : View) (kind : ℕ) → Node n t k e → show n t e ≡ some v
    → kind < v.kind → AllHigher n t v.kind above → AllHigher n t kind (e.child ∷ above)
more_higher {n} {t} {k} {e} above v kind x s h f i m = go (mem_cases i e.child above m)
  where
    go : (i ≡ e.child) ⊎ (mem i above ≡ true) → Higher n t kind i
    go (inl q) = record { key = k; place = e; view = v; node = x; shows = s; above = h; names = sym q }
    go (inr q) =
        let y = f i q in
        record {
          key = y.key;
          place = y.place;
          view = y.view;
          node = y.node;
          shows = y.shows;
          above = omega (arith, y.above);
          names = y.names;
        }

-- ── Entering ────────────────────────────────────────────────────────────────────────────────────────────────────

pub record Entering (s : Session) (t S : List ℕ) (Been : States) (e : Place) (v : View) (r : Entered) : Type 0 where
  pub found : Page
  pub page : r.page ≡ some found
  pub view : found.view ≡ v
  pub same : found ≡ brought s.n s.c t e
  pub left : Calm s t S Been r.table

-- e is a node of t that shows v there
pub entering : {s : Session} {t u S : List ℕ} {Been : States} {k : ℕ} {e : Place} {v : View} → Calm s t S Been u
    → Node s.n t k e → show s.n t e ≡ some v → (above : List ℕ) → AllHigher s.n t v.kind above
    → Entering s t S Been e v (enter s.n s.c above u e)
entering {s} {t} {u} {S} {Been} {k} {e} {v} m node shows above higher = record {
  found = E.page;
  page = E.given;
  view = some-injective E.page.view v (sym seen ∙ (E.steady.shows here ∙ (m.steady.shows node ∙ shows)));
  same =
      sym E.reads
      ∙ (sym (brought_found s.n s.c (enter s.n s.c above u e).table e E.found) ∙ (brings k e here ∙ m.brings k e node));
  left = record {
    safe = E.safe;
    steady = steady_then m.steady E.steady;
    brings = brings-then s.n s.c t u (enter s.n s.c above u e).table m.steady m.brings brings;
    zero = E.zero ∙ m.zero;
  };
}
  where
    here : Node s.n u k e
    here = steady-node m.steady node

    clash : Higher s.n t v.kind e.child → ⊥
    clash y =
        let q : y.place ≡ e = m.safe.inv.once (steady-node m.steady y.node) here y.names in
        let w : y.view ≡ v = some-injective y.view v (sym y.shows ∙ (ap (show s.n t) q ∙ shows)) in
        omega (arith, y.above, ap (λ (z : View). z.kind) w)

    apart : mem e.child above ≡ false
    apart = fails (mem e.child above) (λ a. clash (higher e.child a))

    E : Enters s u S Been e (enter s.n s.c above u e)
    E = enters-node above m.safe here apart

    brings : Brings s.n s.c u (enter s.n s.c above u e).table
    brings = enter-brings above m.safe here apart

    seen : show s.n (enter s.n s.c above u e).table e ≡ some E.page.view
    seen =
        show-found s.n (enter s.n s.c above u e).table e E.found
        ∙ ap (λ (p : Page). some p.view) E.reads
