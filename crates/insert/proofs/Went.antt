-- A way that was walked to its end is one along which an insert can go. Assumes nothing.
use Prim.Native.Nat.{ℕ}
use native.Mathlib.Omega.{arith}
use mathlib.Core.Path.{◌≡◌, refl, sym, ap, ◌∙◌, subst}
use mathlib.Core.List.{List, [], ◌∷◌}
use mathlib.Core.Option.{Option, some, none}
use Rattle.std.specs.Prelude.{Some, None}
use lib.ListN.{length}
use Rattle.rules.specs.Page.{Page}
use Rattle.rules.specs.Table.{read}
use Rattle.rules.specs.Walk as rules
use Rattle.rules.specs.declared.Place.{Place}
use Rattle.rules.specs.declared.Session.{Session}
use Rattle.rules.proofs.Bytes.All.{All, nil, cons, all_map}
use Rattle.rules.proofs.Entries.Views.{Shaped, shaped-read}
use Rattle.head.proofs.Headers.{head_of}
use Rattle.way.specs.Ways.{step_of, way_for, Walking, walking, way_or, told}
use Rattle.way.specs.declared.Step.{Step}
use Rattle.way.proofs.Descent.{length-way}
use Rattle.way.proofs.Stood.{Stood, WayStands}
use Rattle.way.proofs.Linked.{Linked, AllLinked, WayLinked}
use Rattle.apply.specs.Leads.{Whole, Stands, Leads, EndsInLeaf, HeadRead, steps_in}
use Rattle.insert.specs.Inserts.{Walked}

-- ── Steps by their places and headers ───────────────────────────────────────────────────────────────────────────

abbrev step_with : Place → Page → rules.Step
step_with e p = record { place = e; page = p }

module _ {n k : ℕ} {u : List ℕ} where
  -- each step is read where its page stands
  steps_known : {ss : List rules.Step} → All (Stood n k u) ss → steps_in u (way_for ss) ≡ ss
  steps_known nil = refl
  steps_known (cons {x = s} {xs = ss} h a) = go h.here (steps_known a)
    where
      go : read u s.place.child ≡ s.page → steps_in u (way_for ss) ≡ ss → steps_in u (way_for (s ∷ ss)) ≡ s ∷ ss
      go e f =
          ap (λ (p : Page). step_with s.place p ∷ steps_in u (way_for ss)) e
          ∙ ap (λ (zs : List rules.Step). s ∷ zs) f

  heads_known : {ss : List rules.Step} → All (Stood n k u) ss → All (HeadRead u) (way_for ss)
  heads_known nil = nil
  heads_known (cons {x = s} h a) = cons {x = step_of s} (ap head_of (sym h.here)) (heads_known a)

  -- ── The way leads ─────────────────────────────────────────────────────────────────────────────────────────────

  stands : {s : rules.Step} {above : List rules.Step} → Stood n k u s → Linked n k s above → Stands n k u s
  stands h l = record {
    page = h.child_from;
    below = h.child_below;
    previous = l.previous;
    reads = h.here;
    fits = h.fits;
    low = h.low;
    high = h.high;
  }

  leads : (s : rules.Step) (above : List rules.Step) → All (Stood n k u) (s ∷ above) → AllLinked n k (s ∷ above) → Leads n k u (s ∷ above)
  leads s [] (cons h nil) l = (stands h l.0, l.0.asked.0, l.0.asked.1)
  leads s (v ∷ above) (cons h a) l = (stands h l.0, l.0.apart, l.0.asked, leads v above a l.1)

-- ── After the walk ──────────────────────────────────────────────────────────────────────────────────────────────

-- the rules' steps and the code's are the same way
pub record Went (x : rules.Way) (u : List ℕ) (w : List Step) : Type 0 where
  pub steps : List rules.Step
  pub found : x.steps ≡ some steps
  pub table : u ≡ x.table
  pub way : w ≡ way_for steps

module _ (x : rules.Way) (u : List ℕ) where
  pub went : (w : List Step) → walking u (Some w) ≡ told x → Went x u w
  unfolding told way_or
  went w h = go x.steps refl (ap (λ (y : Walking). y.way) h)
    where
      go : (s : Option (List rules.Step)) → x.steps ≡ s → Some w ≡ way_or s → Went x u w
      go none q f = let z : ◌≡◌ {A = ℕ} 0 1 = cc in absurd (omega arith)
      go (some ss) q f = record { steps = ss; found = q; table = ap (λ (y : Walking). y.table) h; way = cc }

  -- a damaged place was met
  pub went-nowhere : walking u None ≡ told x → (x.steps ≡ none) × (u ≡ x.table)
  unfolding told way_or
  went-nowhere h = go x.steps refl (ap (λ (y : Walking). y.way) h)
    where
      go : (s : Option (List rules.Step)) → x.steps ≡ s → None ≡ way_or s → (x.steps ≡ none) × (u ≡ x.table)
      go none q f = (q, ap (λ (y : Walking). y.table) h)
      go (some ss) q f = let z : ◌≡◌ {A = ℕ} 0 1 = cc in absurd (omega arith)

module _ {x : rules.Way} {u : List ℕ} {w : List Step} (d : Went x u w) {n k : ℕ} (a : WayStands n k x.table d.steps) (l : WayLinked n k 3 d.steps) where
  all_here : All (Stood n k u) d.steps
  all_here = subst (λ (t : List ℕ). All (Stood n k t) d.steps) (sym d.table) a.all

  pub steps-here : steps_in u w ≡ d.steps
  steps-here = ap (steps_in u) d.way ∙ steps_known all_here

  pub walked : (s : Session) → s.n ≡ n → Whole s.n s.c u → Walked k u s w
  walked s e f = record {
    whole = f;
    leads = subst (λ (m : ℕ). Leads m k u (steps_in u w)) (sym e) (subst (Leads n k u) (sym (steps-here ∙ a.are)) leads-here);
    ends = subst EndsInLeaf (sym (steps-here ∙ a.are)) a.ends;
    headed = record {
      way = d.way ∙ ap way_for (sym steps-here);
      few = omega (arith, ap length steps-here, l.short);
      shaped = subst (All (λ (z : rules.Step). Shaped z.page.view)) (sym steps-here) (all_map shaped-stood all_here);
    };
    heads = subst (All (HeadRead u)) (sym d.way) (heads_known all_here);
    some_page = omega (arith, ap length d.way, length-way d.steps, ap length a.are);
  }
    where
      leads-here : Leads n k u (a.leaf ∷ a.rest)
      leads-here = leads a.leaf a.rest (subst (All (Stood n k u)) a.are all_here) (subst (AllLinked n k) a.are l.linked)

      shaped-stood : (z : rules.Step) → Stood n k u z → Shaped z.page.view
      shaped-stood z h = subst (λ (p : Page). Shaped p.view) h.here (shaped-read u z.place.child)
