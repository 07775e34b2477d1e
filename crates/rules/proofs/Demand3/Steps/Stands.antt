-- What stands on a key's way at one level after the splits down to it: a page that has room, of the same kind as before,
-- from which the way goes on as before. One split of a page, and one of the root, leave this.
use Rattle.std.proofs.Common.{◌≡◌, ℕ, Bool, true, false, ltb, ◌≢◌, List, [], ◌∷◌, sym, refl, ap, ◌∙◌, subst}
use mathlib.Core.Option.{Option, some-injective}
use Rattle.rules.specs.Test.{mem}
use Rattle.rules.specs.Page.{View, Page, fresh}
use Rattle.rules.specs.Table.{read}
use Rattle.rules.specs.Place.{kids, pick, show}
use Rattle.rules.specs.Marks.{taken}
use Rattle.rules.specs.Walk.{Step}
use Rattle.rules.specs.Insert.{full, divide, lower_page, upper_page, Making, making, grow, halve}
use Rattle.rules.specs.declared.Place.{Place}
use Rattle.rules.specs.declared.Session.{Session}
use Rattle.rules.proofs.Entries.Tests.{fails, not_both, mem-head, mem_tail}
use Rattle.rules.proofs.Bytes.Marked.{free-taken-other}
use Rattle.rules.proofs.Entries.Places.{fits_true}
use Rattle.rules.proofs.Entries.Halves.{lower-room, upper-room}
use Rattle.rules.proofs.Demand3.Ways.Ways.{Node, Found, Tells}
use Rattle.rules.proofs.Demand3.Ways.Invariant.{States}
use Rattle.rules.proofs.Demand3.Ways.Sources.{show-found}
use Rattle.rules.proofs.Demand3.Epochs.Store.{free_mark}
use Rattle.rules.proofs.Demand3.Steps.Sides.{step_at, side, side_ind, side_half}
use Rattle.rules.proofs.Demand3.Steps.Parts.{lower_of, upper_of}
use Rattle.rules.proofs.Demand3.Steps.Halve.{Halving, halve_cleft, halve-goes, inner-u}
use Rattle.rules.proofs.Demand3.Steps.Grow.{Growing, grow_cleft, grow-goes}
use Rattle.rules.proofs.Demand3.Steps.After.{split-tells, side-leads, side-kind, node-reads}
use Rattle.rules.proofs.Demand3.Steps.Retire.{retire-frees}
use Rattle.rules.proofs.Demand3.Steps.Keeps.{Keeps}
use Rattle.rules.proofs.Demand3.Steps.HalveBytes.{Ready, halved, halved_session, halving, halve-keeps}
use Rattle.rules.proofs.Demand3.Steps.GrowBytes.{ReadyRoot, grown, grown_session, growing, grow-keeps}

-- m comes of the table W and the session s by the splits down to st, with the numbers new; the pages on were on the way
pub record Stands (n c : ℕ) (S : List ℕ) (Been : States) (W : List ℕ) (s : Session) (k : ℕ) (st : Step) (on new : List ℕ) (m : Making) : Type 0 where
  pub keeps : Keeps n c m.session m.table S Been
  pub place : Place
  pub number : place.child ≡ m.at
  pub node : Node n m.table k place
  pub found : Found n m.table place
  pub roomy : full (read m.table place.child).view ≡ false
  pub kind : (read m.table place.child).view.kind ≡ st.page.view.kind
  pub leads : pick k (kids place (read m.table place.child).view) ≡ pick k (kids st.place st.page.view)
  pub tells : (j : ℕ) (x : Option ℕ) → Tells n W j x → Tells n m.table j x
  -- pages not on the way are left alone
  pub reads : (j : ℕ) (e : Place) → Node n W j e → mem e.child on ≡ false → read m.table e.child ≡ read W e.child
  pub away : (j : ℕ) (e : Place) → Node n W j e → mem e.child on ≡ false → e.child ≢ m.at
  -- other free pages stay free
  pub frees : (i : ℕ) → free_mark s i ≡ true → mem i new ≡ false → free_mark m.session i ≡ true

-- ── Sides of a split page ───────────────────────────────────────────────────────────────────────────────────────

-- the number of the half that holds k, as the rules choose it
side-number : (c : ℕ) (W : List ℕ) (P : Place) (want lower upper k : ℕ)
    → (side (lower_of c W P want lower) (upper_of c W P want upper) k).child
    ≡ elim (ltb k (divide (read W P.child).view)) [ true ↦ lower | false ↦ upper ]
unfolding side
side-number c W P want lower upper k = go (ltb k (divide (read W P.child).view))
  where
    L : Place
    L = lower_of c W P want lower

    U : Place
    U = upper_of c W P want upper

    chosen : Bool → Place
    chosen b = elim b [ true ↦ L | false ↦ U ]

    go : (b : Bool) → (chosen b).child ≡ elim b [ true ↦ lower | false ↦ upper ]
    go true = refl
    go false = refl

-- it is neither where both halves are elsewhere
side_not : (W : List ℕ) (P : Place) (lower upper k i : ℕ) → i ≢ lower → i ≢ upper
    → i ≢ elim (ltb k (divide (read W P.child).view)) [ true ↦ lower | false ↦ upper ]
side_not W P lower upper k i p q = go (ltb k (divide (read W P.child).view))
  where
    go : (b : Bool) → i ≢ elim b [ true ↦ lower | false ↦ upper ]
    go true = p
    go false = q

-- both halves have room
side-room : (n c : ℕ) (W W' : List ℕ) (P : Place) (want lower upper k : ℕ) → Found n W P → read W' lower ≡ lower_page c (read W P.child)
    → read W' upper ≡ upper_page c (read W P.child)
    → full (read W' (side (lower_of c W P want lower) (upper_of c W P want upper) k).child).view ≡ false
unfolding lower_page upper_page fresh
side-room n c W W' P want lower upper k f a b =
    side_ind (lower_of c W P want lower) (upper_of c W P want upper) (λ h. full (read W' h.child).view ≡ false) k
    (ap (λ (p : Page). full p.view) a ∙ lower-room (read W P.child).view)
    (ap (λ (p : Page). full p.view) b ∙ upper-room (fits_true n P (read W P.child) f).sound)

-- ── A page split below one with room ────────────────────────────────────────────────────────────────────────────

pub halve-tells : {n c : ℕ} {s : Session} {W S : List ℕ} {Been : States} (K : Keeps n c s W S Been)
    {k : ℕ} {u P : Place} {lower upper : ℕ} (R : Ready n c s W k u P lower upper) (j : ℕ) (y : Option ℕ)
    → Tells n W j y → Tells n (halved c W u.child P lower upper) j y
halve-tells {n} {W = W} K {u = u} R =
    split-tells K.inv (halve_cleft K.inv (halving K R)) (halve-goes K.inv (halving K R))
    (λ j e v z h l q.
    inner-u K.inv (halving K R)
    (sym (ap (λ (a : View). a.kind) (some-injective v (read W u.child).view
    (sym h ∙ (ap (show n W) (K.inv.once z R.parent q) ∙ show-found n W u R.stands)))) ∙ l))

-- not the first of a list, and not among the others
pub mem_not : (i x : ℕ) (xs : List ℕ) → mem i (x ∷ xs) ≡ false → (i ≢ x) × (mem i xs ≡ false)
mem_not i x xs h = (
  λ q. not_both (subst (λ (j : ℕ). mem i (j ∷ xs) ≡ true) q (mem-head i xs)) h,
  fails (mem i xs) (λ m. not_both (mem_tail i x xs m) h),
)

-- what the level above has left, m, and the page at P below it
module _ {n c : ℕ} {s : Session} {W S : List ℕ} {Been : States} {k : ℕ} {above : Step} {on new : List ℕ} {m : Making} {P : Place} {lower upper : ℕ}
    (K : Keeps n c s W S Been) (D : Stands n c S Been W s k above on new m)
    (R : Ready n c m.session m.table k D.place P lower upper) (x : Node n m.table k P)
    (was_free : (free_mark s lower ≡ true) × (free_mark s upper ≡ true)) where
  abbrev T : List ℕ
  T = m.table

  abbrev T' : List ℕ
  T' = halved c m.table D.place.child P lower upper

  H : Halving n S T T' c D.place P lower upper
  H = halving D.keeps R

  abbrev h : Place
  h = side (lower_of c m.table P P.want lower) (upper_of c m.table P P.want upper) k

  pub halve-stands : (all : List ℕ) → ((i : ℕ) → mem i all ≡ false → (i ≢ lower) × (i ≢ upper) × (mem i new ≡ false))
      → Stands n c S Been W s k (step_at T P) (P.child ∷ on) all
      (halve c k (step_at T P) lower upper (making m.table m.session D.place.child))
  unfolding halve
  halve-stands all out = record {
    keeps = halve-keeps D.keeps R;
    place = h;
    number = side-number c T P P.want lower upper k;
    node = (halve-goes D.keeps.inv H).halves x;
    found = (side_half D.keeps.inv (halve_cleft D.keeps.inv H) k x).0.found;
    roomy = side-room n c T T' P P.want lower upper k R.found H.at_lower H.at_upper;
    kind = side-kind D.keeps.inv (halve_cleft D.keeps.inv H) (halve-goes D.keeps.inv H) k x;
    leads = side-leads D.keeps.inv (halve_cleft D.keeps.inv H) (halve-goes D.keeps.inv H) k x;
    tells = λ j y t. halve-tells D.keeps R j y (D.tells j y t);
    reads = λ j e y q.
        let o = mem_not e.child P.child on q in
        H.others e.child (K.marks.free_new was_free.0 y) (K.marks.free_new was_free.1 y)
        (λ r. D.away j e y o.1 (r ∙ D.number))
        ∙ D.reads j e y o.1;
    away = λ j e y q. side_not T P lower upper k e.child (K.marks.free_new was_free.0 y) (K.marks.free_new was_free.1 y);
    frees = frees;
  }
    where
      frees : (i : ℕ) → free_mark s i ≡ true → mem i all ≡ false → free_mark (halved_session c T P lower upper m.session) i ≡ true
      frees i f q =
          let o = out i q in
          let g = D.frees i f o.2 in
          retire-frees c (step_at T P) (taken upper (taken lower m.session)) i
          (free-taken-other (taken lower m.session) upper i o.1 ∙ (free-taken-other m.session lower i o.0 ∙ g))
          (λ r. D.keeps.marks.free_new g x (sym r))

-- ── The root split ──────────────────────────────────────────────────────────────────────────────────────────────

module _ {n c : ℕ} {s : Session} {W S : List ℕ} {Been : States} {k : ℕ} {P : Place} {lower upper new : ℕ}
    (K : Keeps n c s W S Been) (R : ReadyRoot n c s W P lower upper new) (x : Node n W k P) where
  abbrev G' : List ℕ
  G' = grown c W P lower upper new

  G : Growing n S W G' c P lower upper new
  G = growing K R

  abbrev kind_of : ℕ
  kind_of = (read W P.child).view.kind

  pub grow-stands : (all : List ℕ) → ((i : ℕ) → mem i all ≡ false → (i ≢ lower) × (i ≢ upper) × (i ≢ new))
      → Stands n c S Been W s k (step_at W P) (P.child ∷ []) all
      (halve c k (step_at W P) lower upper (grow c (step_at W P) new (making W s 0)))
  unfolding halve grow
  grow-stands all out = record {
    keeps = grow-keeps K R;
    place = side (lower_of c W P kind_of lower) (upper_of c W P kind_of upper) k;
    number = side-number c W P kind_of lower upper k;
    node = (grow-goes K.inv G).halves x;
    found = (side_half K.inv (grow_cleft K.inv G) k x).0.found;
    roomy = side-room n c W G' P kind_of lower upper k R.found G.at_lower G.at_upper;
    kind = side-kind K.inv (grow_cleft K.inv G) (grow-goes K.inv G) k x;
    leads = side-leads K.inv (grow_cleft K.inv G) (grow-goes K.inv G) k x;
    tells = split-tells K.inv (grow_cleft K.inv G) (grow-goes K.inv G) (λ j e v z f l q. K.marks.free_new R.new_free z q);
    reads = λ j e y q. node-reads K.inv (grow_cleft K.inv G) (grow-goes K.inv G) y (K.marks.free_new R.new_free y);
    away = λ j e y q. side_not W P lower upper k e.child (K.marks.free_new R.lower_free y) (K.marks.free_new R.upper_free y);
    frees = frees;
  }
    where
      frees : (i : ℕ) → free_mark s i ≡ true → mem i all ≡ false → free_mark (grown_session c W P lower upper new s) i ≡ true
      frees i f q =
          let o = out i q in
          retire-frees c (step_at W P) (taken upper (taken lower (taken new s))) i
          (free-taken-other (taken lower (taken new s)) upper i o.1
          ∙ (free-taken-other (taken new s) lower i o.0 ∙ (free-taken-other s new i o.2 ∙ f)))
          (λ r. K.marks.free_new f x (sym r))
