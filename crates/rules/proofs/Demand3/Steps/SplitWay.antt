-- The rules' splits down a way keep the store safe and leave, at its end, a page with room on the key's way.
use Rattle.std.proofs.Common.{◌≡◌, ℕ, ◌<◌, ◌≤◌, Bool, true, false, ◌≢◌, List, [], ◌∷◌, length, get_or, drop, sym, refl, ap, ◌∙◌, subst, arith}
use mathlib.Core.Option.{some}
use Rattle.rules.specs.Layout.{leaf_kind, top_kind}
use Rattle.rules.specs.Test.{mem, distinct}
use Rattle.rules.specs.Page.{Page}
use Rattle.rules.specs.Table.{read}
use Rattle.rules.specs.Place.{root_place, kids, pick}
use Rattle.rules.specs.Walk.{Step, numbers}
use Rattle.rules.specs.Insert.{full, Making, making, grow, halve, split}
use Rattle.rules.specs.declared.Session.{Session}
use Rattle.rules.proofs.Entries.Tests.{not_both, mem-head, mem_tail, distinct_head, distinct_tail}
use Rattle.rules.proofs.Entries.Halves.{room}
use Rattle.rules.proofs.Demand3.Ways.Ways.{Node}
use Rattle.rules.proofs.Demand3.Ways.Invariant.{States}
use Rattle.rules.proofs.Demand3.Ways.Nodes.{node-below}
use Rattle.rules.proofs.Demand3.Mix.Mix.{found_as}
use Rattle.rules.proofs.Demand3.Ways.Sources.{show-found}
use Rattle.rules.proofs.Demand3.Epochs.Epochs.{working-good}
use Rattle.rules.proofs.Demand3.Epochs.Store.{free_mark}
use Rattle.rules.proofs.Demand3.Steps.Sides.{step_at}
use Rattle.rules.proofs.Demand3.Steps.Paths.{At, Path, at-shows, from-apart}
use Rattle.rules.proofs.Demand3.Steps.Keeps.{Keeps}
use Rattle.rules.proofs.Demand3.Steps.HalveBytes.{Ready}
use Rattle.rules.proofs.Demand3.Steps.GrowBytes.{ReadyRoot}
use Rattle.rules.proofs.Demand3.Steps.Stands.{Stands, mem_not, halve-stands, grow-stands}

-- ── Numbers to take ─────────────────────────────────────────────────────────────────────────────────────────────

-- the first two of a list without repetition, and what is left
record Two (new : List ℕ) : Type 0 where
  lower_in : mem (get_or new 0 0) new ≡ true
  upper_in : mem (get_or new 1 0) new ≡ true
  apart : get_or new 0 0 ≢ get_or new 1 0
  lower_out : mem (get_or new 0 0) (drop 2 new) ≡ false
  upper_out : mem (get_or new 1 0) (drop 2 new) ≡ false
  left : distinct (drop 2 new) ≡ true
  in_left : (i : ℕ) → mem i (drop 2 new) ≡ true → mem i new ≡ true
  none_of : (i : ℕ) → mem i new ≡ false → (i ≢ get_or new 0 0) × (i ≢ get_or new 1 0) × (mem i (drop 2 new) ≡ false)

two : (new : List ℕ) → 2 ≤ length new → distinct new ≡ true → Two new
two [] l d = absurd (omega arith)
two (a ∷ []) l d = absurd (omega arith)
two (a ∷ (b ∷ rest)) l d =
    let h = distinct_head a (b ∷ rest) d in
    let t = distinct_tail a (b ∷ rest) d in
    let o = mem_not a b rest h in
    record {
      lower_in = mem-head a (b ∷ rest);
      upper_in = mem_tail b a (b ∷ rest) (mem-head b rest);
      apart = o.0;
      lower_out = o.1;
      upper_out = distinct_head b rest t;
      left = distinct_tail b rest t;
      in_left = λ i m. mem_tail i a (b ∷ rest) (mem_tail i b rest m);
      none_of = λ i m.
          let x = mem_not i a (b ∷ rest) m in
          let y = mem_not i b rest x.1 in
          (x.0, y.0, y.1);
    }

first_in : (new : List ℕ) → 1 ≤ length new → mem (get_or new 0 0) new ≡ true
first_in [] l = absurd (omega arith)
first_in (a ∷ rest) l = mem-head a rest

get_d_two : (new : List ℕ) → 3 ≤ length new → (1 ≤ length (drop 2 new)) × (get_or (drop 2 new) 0 0 ≡ get_or new 2 0)
get_d_two [] l = absurd (omega arith)
get_d_two (a ∷ []) l = absurd (omega arith)
get_d_two (a ∷ (b ∷ rest)) l = (omega arith, refl)

-- ── What insert has made sure of ────────────────────────────────────────────────────────────────────────────────

-- each full page of a way can be split, with the numbers that are left for it
abbrev pub Late : ℕ → Step → Type 0
Late c s = s.page.view.kind ≢ leaf_kind → s.page.touched ≢ c

abbrev pub Plan : ℕ → List Step → List ℕ → Type 0
Plan c [] new = Unit {0}
Plan c (s ∷ []) new = full s.page.view ≡ true → Late c s × (s.page.view.kind < top_kind) × (3 ≤ length new)
Plan c (s ∷ (u ∷ above)) new = full s.page.view ≡ true → Late c s × (2 ≤ length new) × Plan c (u ∷ above) (drop 2 new)

-- one step of the rules' splits, a page full or not
pub split_one : (c k : ℕ) (st : Step) (new : List ℕ) (m : Making) → full st.page.view ≡ true
    → split c k (st ∷ []) new m ≡ halve c k st (get_or new 0 0) (get_or new 1 0) (grow c st (get_or new 2 0) m)
unfolding split
split_one c k st new m q = rw (q, split)

pub split-more : (c k : ℕ) (st u : Step) (above : List Step) (new : List ℕ) (m : Making) → full st.page.view ≡ true
    → split c k (st ∷ (u ∷ above)) new m ≡ halve c k st (get_or new 0 0) (get_or new 1 0) (split c k (u ∷ above) (drop 2 new) m)
unfolding split
split-more c k st u above new m q = rw (q, split)

pub split-none : (c k : ℕ) (st : Step) (above : List Step) (new : List ℕ) (m : Making) → full st.page.view ≡ false
    → split c k (st ∷ above) new m ≡ making m.table m.session st.place.child
unfolding split
split-none c k st [] new m q = rw (q, split)
split-none c k st (u ∷ above) new m q = rw (q, split)

-- a step is told by its place
step_is : (W : List ℕ) (st : Step) (p : Page) → p ≡ st.page → ◌≡◌ {A = Step} (record { place = st.place; page = p }) st
step_is W st p h = ap (λ (q : Page). record { place = st.place; page = q }) h

module _ {n c : ℕ} {s : Session} {W S : List ℕ} {Been : States} (K : Keeps n c s W S Been) (k : ℕ) where
  abbrev AllFree : List ℕ → Type 0
  AllFree new = (i : ℕ) → mem i new ≡ true → free_mark s i ≡ true

  -- a page with room stays as it is
  unsplit : (above : List Step) (st : Step) (new : List ℕ) → At n W k st → full st.page.view ≡ false
      → Stands n c S Been W s k st (numbers (st ∷ above)) new (making W s st.place.child)
  unfolding numbers
  unsplit above st new a f = record {
    keeps = K;
    place = st.place;
    number = refl;
    node = a.node;
    found = a.found;
    roomy = ap (λ (p : Page). full p.view) a.reads ∙ f;
    kind = ap (λ (p : Page). p.view.kind) a.reads;
    leads = ap (λ (p : Page). pick k (kids st.place p.view)) a.reads;
    tells = λ j y t. t;
    reads = λ j e y q. refl;
    away = λ j e y q. (mem_not e.child st.place.child (numbers above) q).0;
    frees = λ i h q. h;
  }

  split_root : (st : Step) (new : List ℕ) → At n W k st → root_place W ≡ st.place → full st.page.view ≡ true → Late c st
      → st.page.view.kind < top_kind → 3 ≤ length new → AllFree new → distinct new ≡ true
      → Stands n c S Been W s k st (numbers (st ∷ [])) new (halve c k st (get_or new 0 0) (get_or new 1 0) (grow c st (get_or new 2 0) (making W s 0)))
  unfolding numbers
  split_root st new a r f late short l free d =
      subst (λ (x : Step). Stands n c S Been W s k x (st.place.child ∷ []) new (halve c k x (get_or new 0 0) (get_or new 1 0) (grow c x (get_or new 2 0) (making W s 0))))
      (step_is W st (read W st.place.child) a.reads)
      (grow-stands K ready a.node new out)
    where
      t : Two new
      t = two new (omega arith) d

      g : (1 ≤ length (drop 2 new)) × (get_or (drop 2 new) 0 0 ≡ get_or new 2 0)
      g = get_d_two new l

      third : mem (get_or new 2 0) (drop 2 new) ≡ true
      third = subst (λ (i : ℕ). mem i (drop 2 new) ≡ true) g.1 (first_in (drop 2 new) g.0)

      not_third : (i : ℕ) → mem i (drop 2 new) ≡ false → i ≢ get_or new 2 0
      not_third i m q = not_both (subst (λ (j : ℕ). mem j (drop 2 new) ≡ true) (sym q) third) m

      out : (i : ℕ) → mem i new ≡ false → (i ≢ get_or new 0 0) × (i ≢ get_or new 1 0) × (i ≢ get_or new 2 0)
      out i m = let o = t.none_of i m in (o.0, o.1, not_third i o.2)

      ready : ReadyRoot n c s W st.place (get_or new 0 0) (get_or new 1 0) (get_or new 2 0)
      ready = record {
        is_root = r;
        found = a.found;
        fills = ap (λ (p : Page). full p.view) a.reads ∙ f;
        short = subst (λ (p : Page). p.view.kind < top_kind) (sym a.reads) short;
        late = subst (λ (p : Page). p.view.kind ≢ leaf_kind → p.touched ≢ c) (sym a.reads) late;
        lower_free = free (get_or new 0 0) t.lower_in;
        upper_free = free (get_or new 1 0) t.upper_in;
        new_free = free (get_or new 2 0) (t.in_left (get_or new 2 0) third);
        two = t.apart;
        lower_new = not_third (get_or new 0 0) t.lower_out;
        upper_new = not_third (get_or new 1 0) t.upper_out;
      }

  split_below : (above : List Step) (u st : Step) (new : List ℕ) (m : Making) → Path n W k (st ∷ (u ∷ above)) → full st.page.view ≡ true → Late c st
      → 2 ≤ length new → AllFree new → distinct new ≡ true → Stands n c S Been W s k u (numbers (u ∷ above)) (drop 2 new) m
      → Stands n c S Been W s k st (numbers (st ∷ (u ∷ above))) new (halve c k st (get_or new 0 0) (get_or new 1 0) m)
  unfolding numbers
  split_below above u st new m p f late l free d D =
      subst (λ (x : Step). Stands n c S Been W s k x (st.place.child ∷ numbers (u ∷ above)) new (halve c k x (get_or new 0 0) (get_or new 1 0) m))
      (step_is m.table st (read m.table st.place.child) here)
      (subst (λ (i : ℕ). Stands n c S Been W s k (step_at m.table st.place) (st.place.child ∷ numbers (u ∷ above)) new
      (halve c k (step_at m.table st.place) (get_or new 0 0) (get_or new 1 0) (making m.table m.session i)))
      D.number
      (halve-stands K D ready node (free (get_or new 0 0) t.lower_in, free (get_or new 1 0) t.upper_in) new t.none_of))
    where
      t : Two new
      t = two new l d

      a : At n W k st
      a = p.0

      off : mem st.place.child (numbers (u ∷ above)) ≡ false
      off = from-apart (u ∷ above) st.page.view (working-good K.inv) a.node p.1 (at-shows a)

      here : read m.table st.place.child ≡ st.page
      here = D.reads k st.place a.node off ∙ a.reads

      picks : pick k (kids D.place (read m.table D.place.child).view) ≡ some st.place
      picks = D.leads ∙ p.1.2

      node : Node n m.table k st.place
      node = node-below (read m.table D.place.child).view st.place D.node (show-found n m.table D.place D.found) picks

      ready : Ready n c m.session m.table k D.place st.place (get_or new 0 0) (get_or new 1 0)
      ready = record {
        parent = D.node;
        stands = D.found;
        picks = picks;
        found = found_as n W m.table st.place (D.reads k st.place a.node off) a.found;
        fills = ap (λ (q : Page). full q.view) here ∙ f;
        room = (room (read m.table D.place.child).view D.roomy).1;
        late = subst (λ (q : Page). q.view.kind ≢ leaf_kind → q.touched ≢ c) (sym here) late;
        lower_free = D.frees (get_or new 0 0) (free (get_or new 0 0) t.lower_in) t.lower_out;
        upper_free = D.frees (get_or new 1 0) (free (get_or new 1 0) t.upper_in) t.upper_out;
        two = t.apart;
      }

  pub split-stands : (above : List Step) (st : Step) (new : List ℕ) → Path n W k (st ∷ above) → Plan c (st ∷ above) new → AllFree new → distinct new ≡ true
      → Stands n c S Been W s k st (numbers (st ∷ above)) new (split c k (st ∷ above) new (making W s 0))
  split-stands [] st new p plan free d = go (full st.page.view) refl
    where
      go : (b : Bool) → full st.page.view ≡ b → Stands n c S Been W s k st (numbers (st ∷ [])) new (split c k (st ∷ []) new (making W s 0))
      go true q =
          let h = plan q in
          subst (Stands n c S Been W s k st (numbers (st ∷ [])) new) (sym (split_one c k st new (making W s 0) q))
          (split_root st new p.0 p.1 q h.0 h.1 h.2 free d)
      go false q =
          subst (Stands n c S Been W s k st (numbers (st ∷ [])) new) (sym (split-none c k st [] new (making W s 0) q))
          (unsplit [] st new p.0 q)
  split-stands (u ∷ above) st new p plan free d = go (full st.page.view) refl (split-stands above u (drop 2 new))
    where
      go : (b : Bool) → full st.page.view ≡ b
          → (Path n W k (u ∷ above) → Plan c (u ∷ above) (drop 2 new) → AllFree (drop 2 new) → distinct (drop 2 new) ≡ true
          → Stands n c S Been W s k u (numbers (u ∷ above)) (drop 2 new) (split c k (u ∷ above) (drop 2 new) (making W s 0)))
          → Stands n c S Been W s k st (numbers (st ∷ (u ∷ above))) new (split c k (st ∷ (u ∷ above)) new (making W s 0))
      go true q rest =
          let h = plan q in
          let t = two new h.1 d in
          subst (Stands n c S Been W s k st (numbers (st ∷ (u ∷ above))) new) (sym (split-more c k st u above new (making W s 0) q))
          (split_below above u st new (split c k (u ∷ above) (drop 2 new) (making W s 0)) p q h.0 h.1 free d
          (rest (p.1.0, p.1.1) h.2 (λ i m. free i (t.in_left i m)) t.left))
      go false q rest =
          subst (Stands n c S Been W s k st (numbers (st ∷ (u ∷ above))) new) (sym (split-none c k st (u ∷ above) new (making W s 0) q))
          (unsplit (u ∷ above) st new p.0 q)
