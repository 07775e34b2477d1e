-- Soundness as facts. A page's soundness lies in what it shows and in its range alone, so the facts speak of a view and
-- a range: of a page as it stands, of what mending would build, and of what a place shows. Assumes nothing.
use Rattle.std.proofs.Common.{◌≡◌, ℕ, ◌-◌, ◌<◌, ◌≤◌, Bool, true, false, ltb, List, [], ◌∷◌, length, sym, refl, ap, ◌∙◌, subst, arith, ltb-false, ltb-true, lt-ltb, eq-eqb, eqb-true, le-leb, leb-true}
use Rattle.rules.specs.Layout.{leaf_room, inner_room, leaf_kind, top_kind}
use Rattle.rules.specs.Test.{between, all, mem}
use Rattle.rules.specs.Key.{good_key}
use Rattle.rules.specs.Entry.{Cert, Child, Below, keys, cut, put, rising}
use Rattle.rules.specs.Page.{View, Page, is_leaf}
use Rattle.rules.specs.Sound.{starts_at, names_pages, in_order, sound}
use Rattle.rules.specs.Place.{cut_view}
use Rattle.rules.specs.Insert.{put_cert, put_child}
use Rattle.rules.specs.Withdraw.{without_cert}
use Rattle.rules.proofs.Entries.Tests.{and_left, and_right, and_of, not_both, every_true, every_of, between-low, between-high, between-of, mem-head, or_other, or_of}
use Rattle.rules.proofs.Entries.Entries.{all-cut, length_cut, cut-rising, cut-within, cut-first}
use Rattle.rules.proofs.Entries.Views.{cut_view-all}
use Rattle.rules.proofs.Entries.Puts.{put-over, put-behind, put-rising, put-within, all-put, length-put-le}
use Rattle.rules.proofs.Entries.Withouts.{without-rising, without-within, all_without, length-without-le}

pub record Sound (n low high : ℕ) (v : View) : Type 0 where
  pub kind_from : leaf_kind ≤ v.kind
  pub kind_to : v.kind ≤ top_kind
  pub certs_room : length v.certs ≤ leaf_room
  pub children_room : length v.children ≤ inner_room
  pub range : low ≤ high
  pub certs_rise : rising (keys v.certs) ≡ true
  pub certs_within : all (between low high) (keys v.certs) ≡ true
  pub children_rise : rising (keys v.children) ≡ true
  pub children_within : all (between low high) (keys v.children) ≡ true
  pub good : all (λ x. good_key x.key) v.certs ≡ true
  pub starts : is_leaf v ≡ false → starts_at low v.children ≡ true
  pub names : all (names_pages n) v.children ≡ true

pub sound_true : (n : ℕ) (p : Page) → sound n p ≡ true → Sound n p.low p.high p.view
unfolding sound in_order
sound_true n p h =
    let f = every_true _ h in
    let i = f.1.1.1.1.0 in
    let j = f.1.1.1.1.1.0 in
    record {
      kind_from = between-low leaf_kind top_kind p.view.kind f.0;
      kind_to = between-high leaf_kind top_kind p.view.kind f.0;
      certs_room = leb-true (length p.view.certs) leaf_room f.1.0;
      children_room = leb-true (length p.view.children) inner_room f.1.1.0;
      range = leb-true p.low p.high f.1.1.1.0;
      certs_rise = and_left (rising (keys p.view.certs)) _ i;
      certs_within = and_right (rising (keys p.view.certs)) _ i;
      children_rise = and_left (rising (keys p.view.children)) _ j;
      children_within = and_right (rising (keys p.view.children)) _ j;
      good = f.1.1.1.1.1.1.0;
      starts = or_other (is_leaf p.view) (starts_at p.low p.view.children) f.1.1.1.1.1.1.1.0;
      names = f.1.1.1.1.1.1.1.1.0;
    }

pub sound-of : (n : ℕ) (p : Page) → Sound n p.low p.high p.view → sound n p ≡ true
unfolding sound in_order
sound-of n p s =
    every_of _ (
      between-of leaf_kind top_kind p.view.kind s.kind_from s.kind_to,
      (
        le-leb (length p.view.certs) leaf_room s.certs_room,
        (
          le-leb (length p.view.children) inner_room s.children_room,
          (
            le-leb p.low p.high s.range,
            (
              and_of s.certs_rise s.certs_within,
              (
                and_of s.children_rise s.children_within,
                (
                  s.good,
                  (
                    or_of (is_leaf p.view) (starts_at p.low p.view.children) s.starts,
                    (s.names, tt),
                  ),
                ),
              ),
            ),
          ),
        ),
      ),
    )

-- a range that is told in other numbers
pub sound-same : {n l h low high : ℕ} {v : View} → l ≡ low → h ≡ high → Sound n l h v → Sound n low high v
sound-same {n} {l} {high = high} {v} p q s = subst (λ (a : ℕ). Sound n a high v) p (subst (λ (b : ℕ). Sound n l b v) q s)

-- ── Pages that children name ────────────────────────────────────────────────────────────────────────────────────

pub record Names (n : ℕ) (x : Below) : Type 0 where
  pub child_from : 1 ≤ x.child
  pub child_below : x.child < n
  pub previous_below : x.previous < n

pub names_true : (n : ℕ) (x : Child) → names_pages n x ≡ true → Names n x.value
unfolding names_pages
names_true n x h =
    let b = and_left (between 1 (n - 1) x.value.child) _ h in
    let l = between-low 1 (n - 1) x.value.child b in
    let u = between-high 1 (n - 1) x.value.child b in
    record {
      child_from = l;
      child_below = omega arith;
      previous_below = ltb-true x.value.previous n (and_right (between 1 (n - 1) x.value.child) _ h);
    }

pub names_of : (n : ℕ) (x : Child) → Names n x.value → names_pages n x ≡ true
unfolding names_pages
names_of n x m =
    and_of (between-of 1 (n - 1) x.value.child m.child_from (omega (arith, m.child_below)))
    (lt-ltb x.value.previous n m.previous_below)

-- ── The first child ─────────────────────────────────────────────────────────────────────────────────────────────

pub starts-cons : (low : ℕ) (x : Child) (xs : List Child) → x.key ≡ low → starts_at low (x ∷ xs) ≡ true
unfolding starts_at
starts-cons low x xs e = eq-eqb x.key low e

pub starts_first : (low : ℕ) (xs : List Child) → starts_at low xs ≡ true
    → (x : Child) × (ys : List Child) × (xs ≡ x ∷ ys) × (x.key ≡ low)
unfolding starts_at
starts_first low [] h = absurd (not_both h refl)
starts_first low (x ∷ xs) h = (x, xs, refl, eqb-true x.key low h)

pub starts-mem : (low : ℕ) (xs : List Child) → starts_at low xs ≡ true → mem low (keys xs) ≡ true
unfolding starts_at keys
starts-mem low [] h = absurd (not_both h refl)
starts-mem low (x ∷ xs) h =
    ap (λ (k : ℕ). mem k (x.key ∷ keys xs)) (sym (eqb-true x.key low h)) ∙ mem-head x.key (keys xs)

pub starts-cut : (low high : ℕ) (xs : List Child) → low ≤ high → rising (keys xs) ≡ true → mem low (keys xs) ≡ true
    → starts_at low (cut low high xs) ≡ true
starts-cut low high xs p h m = let r = cut-first low high xs p h m in rw r.2 (starts-cons low r.0 r.1 r.3)

pub starts-put : (low : ℕ) (x : Child) (xs : List Child) → starts_at low xs ≡ true → low ≤ x.key → starts_at low (put x xs) ≡ true
unfolding starts_at
starts-put low x [] h p = absurd (not_both h refl)
starts-put low x (y ∷ ys) h p = go (ltb y.key x.key) refl
  where
    e : y.key ≡ low
    e = eqb-true y.key low h

    go : (b : Bool) → ltb y.key x.key ≡ b → starts_at low (put x (y ∷ ys)) ≡ true
    go true f = rw (put-behind x y ys (ltb-true y.key x.key f)) (starts-cons low y (put x ys) e)
    go false f =
        let q : x.key ≡ y.key = omega (arith, ltb-false y.key x.key f, e) in
        rw (put-over x y ys q) (starts-cons low x ys (q ∙ e))

-- ── Cut to a range, and entries put ─────────────────────────────────────────────────────────────────────────────

-- what a sound view has in a range is sound for that range, if an inner one has a key at its low
pub sound-cut : {n low high : ℕ} {v : View} (l h : ℕ) → l ≤ h → (is_leaf v ≡ false → mem l (keys v.children) ≡ true)
    → Sound n low high v → Sound n l h (cut_view l h v)
unfolding cut_view is_leaf
sound-cut {n} {v = v} l h p k s = record {
  kind_from = s.kind_from;
  kind_to = s.kind_to;
  certs_room = omega (arith, length_cut l h v.certs, s.certs_room);
  children_room = omega (arith, length_cut l h v.children, s.children_room);
  range = p;
  certs_rise = cut-rising l h v.certs s.certs_rise;
  certs_within = cut-within l h v.certs;
  children_rise = cut-rising l h v.children s.children_rise;
  children_within = cut-within l h v.children;
  good = all-cut (λ x. good_key x.key) l h v.certs s.good;
  starts = λ e. starts-cut l h v.children p s.children_rise (k e);
  names = all-cut (names_pages n) l h v.children s.names;
}

-- a sound view has nothing outside its range
pub sound-cut-all : {n low high : ℕ} {v : View} → Sound n low high v → cut_view low high v ≡ v
sound-cut-all {low = low} {high} {v} s = cut_view-all low high v s.certs_within s.children_within

pub sound-put_cert : {n low high : ℕ} {v : View} (x : Cert) → length v.certs < leaf_room → good_key x.key ≡ true
    → low ≤ x.key → x.key ≤ high → Sound n low high v → Sound n low high (put_cert x v)
unfolding put_cert is_leaf
sound-put_cert {low = low} {high} {v} x r g p q s = record {
  kind_from = s.kind_from;
  kind_to = s.kind_to;
  certs_room = omega (arith, length-put-le x v.certs, r);
  children_room = s.children_room;
  range = s.range;
  certs_rise = put-rising x v.certs s.certs_rise;
  certs_within = put-within (between low high) x v.certs (between-of low high x.key p q) s.certs_within;
  children_rise = s.children_rise;
  children_within = s.children_within;
  good = all-put (λ x. good_key x.key) x v.certs g s.good;
  starts = s.starts;
  names = s.names;
}

pub sound-without_cert : {n low high : ℕ} {v : View} (k : ℕ) → Sound n low high v → Sound n low high (without_cert k v)
unfolding without_cert is_leaf
sound-without_cert {low = low} {high} {v} k s = record {
  kind_from = s.kind_from;
  kind_to = s.kind_to;
  certs_room = omega (arith, length-without-le k v.certs, s.certs_room);
  children_room = s.children_room;
  range = s.range;
  certs_rise = without-rising k v.certs s.certs_rise;
  certs_within = without-within (between low high) k v.certs s.certs_within;
  children_rise = s.children_rise;
  children_within = s.children_within;
  good = all_without (λ x. good_key x.key) k v.certs s.good;
  starts = s.starts;
  names = s.names;
}

pub sound-put_child : {n low high : ℕ} {v : View} (x : Child) → length (put x v.children) ≤ inner_room → Names n x.value
    → low ≤ x.key → x.key ≤ high → Sound n low high v → Sound n low high (put_child x v)
unfolding put_child is_leaf
sound-put_child {n} {low} {high} {v} x r m p q s = record {
  kind_from = s.kind_from;
  kind_to = s.kind_to;
  certs_room = s.certs_room;
  children_room = r;
  range = s.range;
  certs_rise = s.certs_rise;
  certs_within = s.certs_within;
  children_rise = put-rising x v.children s.children_rise;
  children_within = put-within (between low high) x v.children (between-of low high x.key p q) s.children_within;
  good = s.good;
  starts = λ e. starts-put low x v.children (s.starts e) p;
  names = all-put (names_pages n) x v.children (names_of n x m) s.names;
}
