-- A report that counts 0 gives no reason. The count wraps at 2^32, but a page names 30 children at the most and a tree has
-- three levels, so a call enters at most 931 places, whatever the bytes. Assumes nothing.
use Rattle.std.proofs.Common.{◌≡◌, ℕ, zero, suc, ◌+◌, ◌-◌, ◌*◌, ◌<◌, ◌≤◌, Bool, true, false, ◌&&◌, ltb, ◌⊎◌, List, [], ◌∷◌, length, refl, ap, inl, inr, mul-le-mul_right, suc-mul, arith, lit<, None, is_none}
use mathlib.Core.Option.{Option, some, none, some-injective, none-ne-some}
use Rattle.rules.specs.Layout.{top_kind}
use Rattle.rules.specs.Test.{every, mem}
use Rattle.rules.specs.Key.{key_of, good_parts}
use Rattle.rules.specs.Entry.{Child}
use Rattle.rules.specs.Page.{Page, fresh}
use Rattle.rules.specs.Table.{read, fit0}
use Rattle.rules.specs.Place.{root_place, places_in, kids, pick, fits, mendable, mended, cut_view, Why}
use Rattle.rules.specs.Enter.{mend, enter}
use Rattle.rules.specs.Report.{nothing, adds, reason_at}
use Rattle.rules.specs.Walk.{Step, numbers, descend_report, way_report, Walked, unwalked, noted, enters, finds, stops, walk_each, walk, walk_of}
use Rattle.rules.specs.Call.{lengths_for}
use Rattle.rules.specs.Newest.{meter}
use Rattle.rules.specs.List.{up_from}
use Rattle.rules.specs.Reports.{once_tested, key_report, newest_reported, list_reported}
use Rattle.rules.specs.declared.Session.{Session}
use Rattle.rules.specs.declared.Place.{Place}
use Rattle.rules.specs.declared.Asked.{Asked}
use Rattle.rules.specs.declared.Report.{Report}
use Rattle.rules.proofs.Entries.Entries.{length_cut}
use Rattle.rules.proofs.Entries.Places.{fits_true, mendable_true}

-- ── Words ───────────────────────────────────────────────────────────────────────────────────────────────────────

-- at most so many mends, and no reason without one
record Counted (b : ℕ) (x : Report) : Type 0 where
  most : x.mended ≤ b
  told : (x.reason ≡ None) ⊎ (1 ≤ x.mended)

-- what a 32-bit count holds
abbrev wraps : ℕ
wraps = 4294967296

-- how many places are entered from one down, at the most
unfoldable under : ℕ → ℕ
under zero = 0
under (suc level) = 1 + 30 * under level

counted-more : {b d : ℕ} {x : Report} → b ≤ d → Counted b x → Counted d x
counted-more l y = record { most = omega (arith, y.most); told = y.told }

counted-adds : (b : ℕ) (r : Why) (x : Report) → b + 1 < wraps → Counted b x → Counted (b + 1) (adds r x)
unfolding adds
counted-adds b r x l y = go (is_none r) refl
  where
    go : (a : Bool) → is_none r ≡ a → Counted (b + 1) (adds r x)
    go true f = rw (f, adds) (counted-more (omega arith) y)
    go false f = rw (f, adds) (record { most = omega (arith, y.most); told = inr (omega (arith, y.most)) })

-- ── The children of a page entered ──────────────────────────────────────────────────────────────────────────────

places-length : (want high : ℕ) (xs : List Child) → length (places_in want high xs) ≡ length xs
unfolding places_in
places-length want high [] = refl
places-length want high (x ∷ xs) = ap suc (places-length want high xs)

entered-few : (n c : ℕ) (above t : List ℕ) (e : Place) (p : Page) → (enter n c above t e).page ≡ some p
    → length (kids e p.view) ≤ 30
unfolding enter mend kids mended fresh cut_view
entered-few n c above t e p h =
    go (mem e.child above) refl (fits n e (read t e.child)) refl (mendable n e (read t e.previous)) refl
  where
    few : {q : Page} → q ≡ p → length q.view.children ≤ 30 → length (kids e p.view) ≤ 30
    few {q} i l =
        omega (arith, places-length (p.view.kind - 1) e.high p.view.children, ap (λ (x : Page). length x.view.children) i)

    go : (a : Bool) → mem e.child above ≡ a → (b : Bool) → fits n e (read t e.child) ≡ b
        → (d : Bool) → mendable n e (read t e.previous) ≡ d → length (kids e p.view) ≤ 30
    go true m b f d g = absurd (none-ne-some p (rw (m, enter) at h))
    go false m true f d g =
        few (some-injective (read t e.child) p (rw (m, enter, f) at h))
        (fits_true n e (read t e.child) f).sound.children_room
    go false m false f true g =
        let q = read t e.previous in
        few (some-injective (mended c e q) p (rw (m, enter, f, mend, g) at h))
        (omega (arith, length_cut e.low e.high q.view.children, (mendable_true n e q g).sound.children_room))
    go false m false f false g = absurd (none-ne-some p (rw (m, enter, f, mend, g) at h))

-- ── The way of a key ────────────────────────────────────────────────────────────────────────────────────────────

descend-counted : (level n c k : ℕ) (above : List Step) (t : List ℕ) (e : Place) (x : Report) (b : ℕ) → b + level < wraps
    → Counted b x → Counted (b + level) (descend_report level n c k above t e x)
unfolding descend_report
descend-counted zero n c k above t e x b l y = counted-more (omega arith) y
descend-counted (suc level) n c k above t e x b l y =
    found (enter n c (numbers above) t e).page refl
    (λ steps u d. counted-more (omega arith) (descend-counted level n c k steps u d (adds (reason_at n t e) x) (b + 1) (omega arith) more))
  where
    more : Counted (b + 1) (adds (reason_at n t e) x)
    more = counted-adds b (reason_at n t e) x (omega arith) y

    Goal : Type 0
    Goal = Counted (b + suc level) (descend_report (suc level) n c k above t e x)

    Rest : Type 0
    Rest = (steps : List Step) (u : List ℕ) (d : Place)
        → Counted (b + suc level) (descend_report level n c k steps u d (adds (reason_at n t e) x))

    below : (p : Page) → (enter n c (numbers above) t e).page ≡ some p → (o : Option Place) → pick k (kids e p.view) ≡ o
        → Rest → Goal
    below p h none q ih = rw (descend_report, h, q) (counted-more (omega arith) more)
    below p h (some d) q ih =
        rw (descend_report, h, q) (ih (record { place = e; page = p } ∷ above) (enter n c (numbers above) t e).table d)

    found : (o : Option Page) → (enter n c (numbers above) t e).page ≡ o → Rest → Goal
    found none h ih = rw (descend_report, h) (counted-more (omega arith) y)
    found (some p) h ih = below p h (pick k (kids e p.view)) refl ih

-- ── The pages that meet a range ─────────────────────────────────────────────────────────────────────────────────

each_counted : (m : ℕ) (f : Place → Walked → Walked)
    → ((e : Place) (w : Walked) (b : ℕ) → b + m < wraps → Counted b w.report → Counted (b + m) (f e w).report)
    → (es : List Place) (w : Walked) (b : ℕ) → b + length es * m < wraps → Counted b w.report
    → Counted (b + length es * m) (walk_each f es w).report
unfolding walk_each
each_counted m f h [] w b l y = counted-more (omega arith) y
each_counted m f h (e ∷ es) w b l y =
    let s = suc-mul (length es) m in
    counted-more (omega (arith, s))
    (each_counted m f h es (f e w) (b + m) (omega (arith, s, l)) (h e w b (omega (arith, s, l)) y))

many : (j m : ℕ) → j ≤ 30 → j * m ≤ 30 * m
many j m l = mul-le-mul_right m l

walk-counted : (level n c : ℕ) (a : Asked) (above : List ℕ) (e : Place) (w : Walked) (b : ℕ) → b + under level < wraps
    → Counted b w.report → Counted (b + under level) (walk level n c a above e w).report
unfolding walk stops finds under
walk-counted zero n c a above e w b l y = counted-more (omega arith) y
walk-counted (suc level) n c a above e w b l y =
    go (enters a e w) refl (enter n c above w.table e).page refl (λ d v i r z. walk-counted level n c a (e.child ∷ above) d v i r z)
  where
    go : (o : Bool) → enters a e w ≡ o → (g : Option Page) → (enter n c above w.table e).page ≡ g
        → ((d : Place) (v : Walked) (i : ℕ) → i + under level < wraps → Counted i v.report
        → Counted (i + under level) (walk level n c a (e.child ∷ above) d v).report)
        → Counted (b + (1 + 30 * under level)) (walk (suc level) n c a above e w).report
    go false p g h rest = rw (walk, p) (counted-more (omega arith) y)
    go true p none h rest = rw (walk, p, h) (counted-more (omega arith) y)
    go true p (some x) h rest =
        let k = many (length (kids e x.view)) (under level) (entered-few n c above w.table e x h) in
        rw (walk, p, h)
        (counted-more (omega (arith, k))
        (each_counted (under level) (walk level n c a (e.child ∷ above)) rest (kids e x.view)
        (finds a x.view (noted n e w) (enter n c above w.table e).table) (b + 1) (omega (arith, k, l))
        (counted-adds b (reason_at n w.table e) w.report (omega (arith, l)) y)))

-- ── No reason without a mend ────────────────────────────────────────────────────────────────────────────────────

-- 0 and none go together
abbrev pub ZeroIsNone : Report → Type 0
ZeroIsNone x = x.mended ≡ 0 → x.reason ≡ None

counted-zero : (b : ℕ) (x : Report) → Counted b x → ZeroIsNone x
counted-zero b x y h = go y.told
  where
    go : (x.reason ≡ None) ⊎ (1 ≤ x.mended) → x.reason ≡ None
    go (inl r) = r
    go (inr l) = absurd (omega (arith, h))

nothing-counted : Counted 0 nothing
unfolding nothing
nothing-counted = record { most = omega arith; told = inl refl }

way-zero : (n c k : ℕ) (t : List ℕ) → ZeroIsNone (way_report n c k t nothing)
unfolding way_report
way-zero n c k t =
    counted-zero (0 + top_kind) (way_report n c k t nothing)
    (descend-counted top_kind n c k [] t (root_place t) nothing 0 (lit< tt) nothing-counted)

walk_of-zero : (n c : ℕ) (a : Asked) (t : List ℕ) → ZeroIsNone (walk_of n c a t).report
unfolding walk_of under
walk_of-zero n c a t =
    counted-zero (0 + under top_kind) (walk_of n c a t).report
    (walk-counted top_kind n c a [] (root_place t) (unwalked t) 0 (lit< tt) nothing-counted)

tested-zero-none : (s : Session) (w t : List ℕ) (good : Bool) (x : Report) → ZeroIsNone x → ZeroIsNone (once_tested s w t good x)
unfolding once_tested nothing
tested-zero-none s w t good x z = go (every (lengths_for s w t ∷ (good ∷ (fit0 s.n w ∷ [])))) refl
  where
    go : (b : Bool) → every (lengths_for s w t ∷ (good ∷ (fit0 s.n w ∷ []))) ≡ b → ZeroIsNone (once_tested s w t good x)
    go true p = rw (once_tested, p) z
    go false p = rw (once_tested, p) (λ h. refl)

-- insert and lookup
pub key-zero : (w t : List ℕ) (s : Session) (model serial issue : ℕ) → ZeroIsNone (key_report w t s model serial issue)
unfolding key_report
key-zero w t s model serial issue =
    let k = key_of model serial issue in
    tested-zero-none s w t (good_parts model serial issue) (way_report s.n s.c k w nothing) (way-zero s.n s.c k w)

pub newest-zero : (w t : List ℕ) (s : Session) (model serial : ℕ) → ZeroIsNone (newest_reported w t s model serial).report
unfolding newest_reported
newest-zero w t s model serial =
    let a = meter model serial in
    tested-zero-none s w t (ltb 0 model && ltb 0 serial) (walk_of s.n s.c a w).report (walk_of-zero s.n s.c a w)

pub list-zero : (w t : List ℕ) (s : Session) (start : ℕ) (ks xs : List ℕ) → ZeroIsNone (list_reported w t s start ks xs).report
unfolding list_reported
list-zero w t s start ks xs =
    let a = up_from start ks xs in
    tested-zero-none s w t true (walk_of s.n s.c a w).report (walk_of-zero s.n s.c a w)
