-- The steps of a way stand in the table that the walk leaves, each asked for by the one above it, in tables of any bytes.
use Prim.Native.Nat.{ℕ, zero, suc, ◌+◌, ◌*◌, ◌^◌, ◌≤◌, ◌<◌}
use native.Mathlib.Omega.{arith}
use mathlib.Core.Path.{◌≡◌, refl, sym, ap}
use mathlib.Core.Bool.{true}
use mathlib.Core.List.{List, [], ◌∷◌}
use mathlib.Core.Option.{Option, some, none, some-injective, none-ne-some}
use lib.ListN.{length}
use Rattle.fields.specs.Field.{Bytes}
use Rattle.rules.specs.Layout.{page_size, top_kind, last_key}
use Rattle.rules.specs.Test.{mem}
use Rattle.rules.specs.Page.{Page}
use Rattle.rules.specs.Table.{read, fit0}
use Rattle.rules.specs.Place.{root_place, kids, pick}
use Rattle.rules.specs.Enter.{enter}
use Rattle.rules.specs.Walk.{Step, numbers, descend, way_of}
use Rattle.rules.specs.declared.Place.{Place}
use Rattle.rules.proofs.Entries.Tests.{mem-head, mem_tail}
use Rattle.rules.proofs.Entries.Asks.{kids-pick, kids-names}
use Rattle.rules.proofs.Bytes.PageZero.{root_previous_lem}
use Rattle.rules.proofs.Demand1.WalkSteps.{enter-apart}
use Rattle.way.proofs.Stood.{Ready, ready-root, ready-stays, ready-next, stood-here}
use Rattle.apply.specs.Leads.{Stands, Leads}
use Rattle.apply.proofs.Going.{stands-still}

-- ── Steps that lead to a place ──────────────────────────────────────────────────────────────────────────────────

-- e is the root, or the last step asks for it
abbrev LeadsTo : ℕ → ℕ → List ℕ → List Step → Place → Type 0
LeadsTo n k t [] e = (e.low ≡ 0) × (e.high ≡ last_key)
LeadsTo n k t (u ∷ above) e = (pick k (kids u.place u.page.view) ≡ some e) × Leads n k t (u ∷ above)

-- the place where a way starts, above a place
abbrev pub top_of : List Step → Place → Place
top_of [] e = e
top_of (u ∷ above) e = top_of above u.place

pub leads_in : (n k : ℕ) (t u : List ℕ) (s : Step) (above : List Step) → ((i : ℕ) → mem i (numbers (s ∷ above)) ≡ true → read u i ≡ read t i)
    → Leads n k t (s ∷ above) → Leads n k u (s ∷ above)
unfolding numbers
leads_in n k t u s [] f l = (stands-still (f s.place.child (mem-head s.place.child [])) l.0, l.1, l.2)
leads_in n k t u s (v ∷ above) f l = (
  stands-still (f s.place.child (mem-head s.place.child (numbers (v ∷ above)))) l.0,
  l.1,
  l.2,
  leads_in n k t u v above (λ i m. f i (mem_tail i s.place.child (numbers (v ∷ above)) m)) l.3,
)

-- ── The descent ─────────────────────────────────────────────────────────────────────────────────────────────────

-- what a way hands out: a first step, those above it, and that they lead down from the root
pub record WayLeads (n k level : ℕ) (root : Place) (t : List ℕ) (steps : List Step) : Type 0 where
  pub first : Step
  pub rest : List Step
  pub are : steps ≡ first ∷ rest
  pub leads : Leads n k t (first ∷ rest)
  pub top : top_of rest first.place ≡ root
  pub short : length steps ≤ level

stands_here : {n c k : ℕ} {t : List ℕ} {e : Place} (above : List ℕ) → Ready n c k t e → e.previous < n
    → (p : Page) → (enter n c above t e).page ≡ some p → Stands n k (enter n c above t e).table (record { place = e; page = p })
stands_here above r previous p h =
    let x = stood-here r above p h in
    record {
      page = x.child_from;
      below = x.child_below;
      previous = previous;
      reads = x.here;
      fits = x.fits;
      low = x.low;
      high = x.high;
    }

leads-more : {n c k : ℕ} (above : List Step) {t : List ℕ} {e : Place} (r : Ready n c k t e) (previous : e.previous < n)
    (p : Page) (h : (enter n c (numbers above) t e).page ≡ some p) → LeadsTo n k t above e
    → Leads n k (enter n c (numbers above) t e).table (record { place = e; page = p } ∷ above)
leads-more [] r previous p h l = (stands_here (numbers []) r previous p h, l.0, l.1)
leads-more {n} {c} {k} (v ∷ above) {t} {e} r previous p h l = (
  stands_here (numbers (v ∷ above)) r previous p h,
  enter-apart n c (numbers (v ∷ above)) t e p h,
  l.0,
  leads_in n k t (enter n c (numbers (v ∷ above)) t e).table v above (ready-stays r (numbers (v ∷ above))) l.1,
)

descend-leads : (level n c k : ℕ) (root : Place) (above : List Step) (t : List ℕ) (e : Place) → top_of above e ≡ root → Ready n c k t e → e.previous < n → LeadsTo n k t above e
    → (steps : List Step) → (descend level n c k above t e).steps ≡ some steps
    → (top : ℕ) → level + length above ≤ top → WayLeads n k top root (descend level n c k above t e).table steps
unfolding descend
descend-leads zero n c k root above t e y r b l steps h top z = absurd (none-ne-some steps h)
descend-leads (suc level) n c k root above t e y r b l steps h top z =
    found (enter n c (numbers above) t e).page refl (λ ss d. descend-leads level n c k root ss (enter n c (numbers above) t e).table d)
  where
    w : List ℕ
    w = (enter n c (numbers above) t e).table

    Rest : Type 0
    Rest = (ss : List Step) (d : Place) → top_of ss d ≡ root → Ready n c k w d → d.previous < n → LeadsTo n k w ss d
        → (zs : List Step) → (descend level n c k ss w d).steps ≡ some zs
        → (top : ℕ) → level + length ss ≤ top → WayLeads n k top root (descend level n c k ss w d).table zs

    below : (p : Page) → (enter n c (numbers above) t e).page ≡ some p → (o : Option Place) → pick k (kids e p.view) ≡ o → Rest
        → WayLeads n k top root (descend (suc level) n c k above t e).table steps
    below p f none q ih =
        let g = some-injective (record { place = e; page = p } ∷ above) steps (rw (descend, f, q) at h) in
        rw (descend, f, q)
        (record {
          first = record { place = e; page = p };
          rest = above;
          are = sym g;
          leads = leads-more above r b p f l;
          top = y;
          short = omega (arith, ap length g, z);
        })
    below p f (some d) q ih =
        let x = stood-here r (numbers above) p f in
        rw (descend, f, q)
        (ih (record { place = e; page = p } ∷ above) d y (ready-next r (numbers above) p f d q)
        (kids-names e x.fits.sound d (kids-pick e x.fits.sound k d q)).previous_below
        (q, leads-more above r b p f l) steps (rw (descend, f, q) at h) top (omega (arith, z)))

    found : (o : Option Page) → (enter n c (numbers above) t e).page ≡ o → Rest → WayLeads n k top root (descend (suc level) n c k above t e).table steps
    found none f ih = absurd (none-ne-some steps (rw (descend, f) at h))
    found (some p) f ih = below p f (pick k (kids e p.view)) refl ih

-- ── The whole way ───────────────────────────────────────────────────────────────────────────────────────────────

root-range : (t : List ℕ) → ((root_place t).low ≡ 0) × ((root_place t).high ≡ last_key)
unfolding root_place
root-range t = (refl, refl)

pub way-leads : (n c k : ℕ) (t : List ℕ) → length t ≡ n * page_size → fit0 n t ≡ true → Bytes t → c < 256 ^ 4 → k ≤ last_key
    → (steps : List Step) → (way_of n c k t).steps ≡ some steps → WayLeads n k top_kind (root_place t) (way_of n c k t).table steps
unfolding way_of
way-leads n c k t l f b m h steps q =
    descend-leads top_kind n c k (root_place t) [] t (root_place t) refl (ready-root n c k t l f b m h) (root_previous_lem n t f) (root-range t) steps q top_kind (omega arith)
