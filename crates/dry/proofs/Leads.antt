-- A step leads on: the way behind it can be gone, and less of it is left. Assumes nothing.
use Prim.Native.Nat.{ℕ, ◌*◌, ◌<◌}
use native.Mathlib.Omega.{arith}
use mathlib.Core.Path.{◌≡◌, refl, ap, sym, subst}
use mathlib.Core.Bool.{Bool, true, false}
use mathlib.Core.List.{List, [], ◌∷◌}
use lib.Dec.{eqb}
use lib.ListN.{length}
use borrow.Author.Tests.{eqb-true, eqb-false}
use Rattle.std.specs.Prelude.{Option, Some, None, Result, Ok, Err}
use Rattle.rules.specs.Layout.{page_size, leaf_kind, last_key}
use Rattle.rules.specs.Place.{root_place}
use Rattle.rules.proofs.Bytes.All.{All, nil, all_head, all_tail}
use Rattle.rules.specs.declared.Asked.{Asked}
use Rattle.seen.specs.declared.Run.{Run}
use Rattle.seen.specs.Run.{run_of, kind_at, place_in, places, rest_of, Lies}
use Rattle.seen.proofs.Spans.{places-none, places-more}
use Rattle.seen.proofs.Trees.{lies-rest}
use Rattle.dry.specs.Source.{source, marked_by}
use Rattle.dry.specs.Cursor.{in_reach, Meeting, met_page, met_by, meet_of, no_run, at_root, under_root, with_upper, with_lower, due_lower, due_upper, due_root, due_last, due_of, under_of, settle_of, settle_met, Stepping, settled, step_at, step_of, root_left, way_left, Names, Leads}
use Rattle.dry.specs.declared.Damaged.{Damaged}
use Rattle.dry.specs.declared.Cursor.{Cursor}
use Rattle.dry.specs.declared.LeafAt.{LeafAt}
use Rattle.dry.specs.declared.Spot.{Spot}
use Rattle.dry.specs.declared.Step.{Step}
use Rattle.dry.proofs.Goes.{Sourced, sourced, source-lies, source_names}

-- a leaf's source, by the marks before it and after
pub record LeafShown (n : ℕ) (t : List ℕ) (m marks : List Bool) (l : LeafAt) : Type 0 where
  pub parent : ℕ
  pub top : ℕ
  pub source_is : source n (parent ∷ top ∷ []) t m l.place ≡ Some l.page
  pub marks_are : marks ≡ marked_by l.page l.place m
  pub names : Names n l.place
  pub kind : kind_at t l.page ≡ leaf_kind

-- what is known behind a step
unfoldable pub Good : ℕ → List ℕ → List Bool → ℕ → Result Step Damaged → List Bool → Type 0
Good n t m left (Ok (Step.On c)) marks = Leads n t c × (way_left c < left)
Good n t m left (Ok (Step.Leaf l)) marks = Leads n t l.after × (way_left l.after < left) × LeafShown n t m marks l
Good n t m left (Ok Step.End) marks = Unit {0}
Good n t m left (Err x) marks = Unit {0}

no_places : (n : ℕ) (t : List ℕ) (high : ℕ) → All (Names n) (places t high no_run)
unfolding no_run
no_places n t high = subst (All (Names n)) (sym (places-none t high no_run refl)) nil

module _ (n : ℕ) (t : List ℕ) where
  module _ (root : Names n (root_place t)) where
    no_run_lem : Lies n no_run
    unfolding no_run
    no_run_lem = record { page = omega (arith, root); end = omega arith }

    pub leads-root : Leads n t at_root
    unfolding at_root
    leads-root = record {
      root_names = root;
      upper = no_run_lem;
      upper_names = no_places n t last_key;
      lower = no_run_lem;
      lower_names = no_places n t 0;
    }

    -- entries of the root, and nothing else
    leads-first : (child : ℕ) (r : Run) → Lies n r → All (Names n) (places t last_key r) → Leads n t (under_root child r)
    leads-first child r l k = record {
      root_names = root;
      upper = l;
      upper_names = k;
      lower = no_run_lem;
      lower_names = no_places n t 0;
    }

  -- the first entry of a run names a page, and so do those behind it
  module _ (high : ℕ) (r : Run) (h : r.left ≡ 0 → ⊥) (k : All (Names n) (places t high r)) where
    named : All (Names n) (place_in t high r ∷ places t high (rest_of r))
    named = subst (All (Names n)) (places-more t high r (omega arith)) k

    pub names-first : Names n (place_in t high r)
    names-first = all_head named

    names-rest : All (Names n) (places t high (rest_of r))
    names-rest = all_tail named

  module _ (a : Asked) (m : List Bool) (long : length t ≡ n * page_size) where
    module _ (left : ℕ) (s : Spot) (leads : Leads n t s.rest) (less : way_left s.rest < left) (names : Names n s.place)
        (under : (r : Run) (marks : List Bool) → Lies n r → All (Names n) (places t s.place.high r) → Good n t m left (under_of s r) marks) where
      shown : (i : ℕ) → source n (s.parent ∷ s.top ∷ []) t m s.place ≡ Some i
          → Good n t m left (settle_of s (met_page t s.place i)) (marked_by i s.place m)
      unfolding met_page settle_of Good
      shown i p = go (eqb (kind_at t i) leaf_kind) refl
        where
          here : Sourced n t i
          here = sourced n t long (s.parent ∷ s.top ∷ []) m s.place i p

          leaf : eqb (kind_at t i) leaf_kind ≡ true → LeafShown n t m (marked_by i s.place m) (record { page = i; place = s.place; after = s.rest })
          leaf q = record {
            parent = s.parent;
            top = s.top;
            source_is = p;
            marks_are = refl;
            names = names;
            kind = eqb-true (kind_at t i) leaf_kind q;
          }

          go : (b : Bool) → eqb (kind_at t i) leaf_kind ≡ b → Good n t m left (settle_of s (met_page t s.place i)) (marked_by i s.place m)
          go true q = rw (met_page, q) (leads, less, leaf q)
          go false q =
              rw (met_page, q)
              (under (run_of t i s.place.low s.place.high) (marked_by i s.place m)
              (source-lies n t long i here s.place.low s.place.high _ refl) (source_names n t long i here s.place))

      met : (x : Option ℕ) → source n (s.parent ∷ s.top ∷ []) t m s.place ≡ x
          → Good n t m left (settle_met s (met_by t m s.place x).met) (met_by t m s.place x).marks
      unfolding met_by settle_met Good
      met (Some i) p = shown i p
      met None p = tt

      abbrev Settles : Meeting → Type 0
      Settles x = Good n t m left (settled s x).step (settled s x).marks

      settles : Settles (meet_of n a (s.parent ∷ s.top ∷ []) t m s.place)
      unfolding settled meet_of settle_met settle_of Good
      settles = go (in_reach a s.place) refl
        where
          go : (b : Bool) → in_reach a s.place ≡ b → Settles (meet_of n a (s.parent ∷ s.top ∷ []) t m s.place)
          go true h = rw (meet_of, h) (met (source n (s.parent ∷ s.top ∷ []) t m s.place) refl)
          go false h = rw (meet_of, h) (leads, less)

    module _ (c : Cursor) (leads : Leads n t c) where
      abbrev Goes : Stepping → Type 0
      Goes x = Good n t m (way_left c) x.step x.marks

      abbrev at_spot : Spot → Stepping
      at_spot s = settled s (meet_of n a (s.parent ∷ s.top ∷ []) t m s.place)

      lower-good : (c.lower.left ≡ 0 → ⊥) → Goes (at_spot (due_lower t c))
      unfolding due_lower under_of Good way_left
      lower-good h =
          settles (way_left c) (due_lower t c) behind (omega arith) (names-first c.high c.lower h leads.lower_names)
          (λ r marks l k. under r marks (eqb r.left 0) refl)
        where
          behind : Leads n t (due_lower t c).rest
          behind = record {
            root_names = leads.root_names;
            upper = leads.upper;
            upper_names = leads.upper_names;
            lower = lies-rest n c.lower (rest_of c.lower) refl (omega arith) leads.lower;
            lower_names = names-rest c.high c.lower h leads.lower_names;
          }

          under : (r : Run) (marks : List Bool) (b : Bool) → eqb r.left 0 ≡ b → Good n t m (way_left c) (under_of (due_lower t c) r) marks
          under r marks true q = rw (under_of, q) (behind, omega arith)
          under r marks false q = rw (under_of, q) tt

      upper-good : c.lower.left ≡ 0 → (c.upper.left ≡ 0 → ⊥) → Goes (at_spot (due_upper t c))
      unfolding due_upper under_of Good way_left
      upper-good z h =
          settles (way_left c) (due_upper t c) (behind c.parent c.lower c.high leads.lower leads.lower_names) (omega arith)
          (names-first last_key c.upper h leads.upper_names)
          (λ r marks l k. (behind (place_in t last_key c.upper).child r (place_in t last_key c.upper).high l k, omega (arith, l.end)))
        where
          behind : (parent : ℕ) (r : Run) (high : ℕ) → Lies n r → All (Names n) (places t high r)
              → Leads n t (with_lower (with_upper c (rest_of c.upper)) parent r high)
          behind parent r high l k = record {
            root_names = leads.root_names;
            upper = lies-rest n c.upper (rest_of c.upper) refl (omega arith) leads.upper;
            upper_names = names-rest last_key c.upper h leads.upper_names;
            lower = l;
            lower_names = k;
          }

      root-good : c.fresh ≡ true → Goes (at_spot (due_root t))
      unfolding root_place due_root under_of Good way_left root_left no_run
      root-good f =
          settles (way_left c) (due_root t) (leads-first leads.root_names 0 no_run (no_run_lem leads.root_names) (no_places n t last_key))
          (omega (arith, fresh)) leads.root_names
          (λ r marks l k. (leads-first leads.root_names (root_place t).child r l k, omega (arith, fresh, l.end)))
        where
          fresh : root_left c.fresh ≡ 4096
          fresh = ap root_left f

      pub step-good : Goes (step_of n a t c m)
      unfolding step_of due_of due_last step_at Good
      step-good = go (eqb c.lower.left 0) refl (eqb c.upper.left 0) refl c.fresh refl
        where
          last : Bool → Type 0
          last x = Goes (step_at n a t m (due_last t x))

          go : (x : Bool) → eqb c.lower.left 0 ≡ x → (y : Bool) → eqb c.upper.left 0 ≡ y → (b : Bool) → c.fresh ≡ b
              → Goes (step_of n a t c m)
          go false p y q b r = rw (step_of, due_of, p, step_at) (lower-good (eqb-false c.lower.left 0 p))
          go true p false q b r =
              rw (step_of, due_of, p, q, step_at) (upper-good (eqb-true c.lower.left 0 p) (eqb-false c.upper.left 0 q))
          go true p true q true r = rw (step_of, due_of, p, q) (subst last (sym r) (root-good r))
          go true p true q false r = rw (step_of, due_of, p, q) (subst last (sym r) tt)
