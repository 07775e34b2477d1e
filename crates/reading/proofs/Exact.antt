-- A lookup that finds a record found it under exactly the key asked for, in the leaf that its walk read last.
use Rattle.std.specs.Prelude.{Ok}
use Prim.Native.Nat.{ℕ, zero, suc}
use native.Mathlib.Omega.{arith}
use mathlib.Core.Path.{◌≡◌, refl, sym, ap, ◌∙◌, subst}
use mathlib.Core.Bool.{Bool, true, false}
use mathlib.Core.List.Memᴰ
use mathlib.Core.List.{List, [], ◌∷◌, Memᴰ}
use mathlib.Core.Option.{Option, some, none, some-injective, none-ne-some}
use lib.Dec.{eqb}
use borrow.Author.Tests.{eqb-true, eqb-false}
use Rattle.rules.specs.Test.{all}
use Rattle.rules.specs.Key.{key_of, good_parts, good_key}
use Rattle.rules.specs.Entry.{Cert, find}
use Rattle.rules.specs.Page.{View, Page, is_leaf, fresh}
use Rattle.rules.specs.Table.{read, fit0}
use Rattle.rules.specs.Place.{kids, pick, cut_view, mended}
use Rattle.rules.specs.Enter.{Entered, enter}
use Rattle.rules.specs.Walk.{Step, numbers, certs_at, descend, way_of}
use Rattle.rules.specs.Call.{lengths_for, looked_no, find_error_no}
use Rattle.rules.specs.Lookup.{found_in, lookup_left, lookup_key, lookup}
use Rattle.rules.specs.declared.Place.{Place}
use Rattle.rules.specs.declared.Session.{Session}
use Rattle.rules.proofs.Bytes.Keys.{model_of-key_of, serial_of-key_of, issue_of-key_of}
use Rattle.rules.proofs.Entries.Entries.{find_head, find_tail, all-cut}
use Rattle.rules.proofs.Entries.Places.{fits_true, mendable_true}
use Rattle.rules.proofs.Entries.Views.{Shaped, shaped-read, shaped-cut}
use Rattle.enter.proofs.Stands.{Comes, stood, mends, stops, comes}
use Rattle.reading.specs.Reading.{LookupExact}

-- ── What is found stands in the list, under the key asked for ───────────────────────────────────────────────────

-- an entry of a list, by its key and value
record Held (k x : ℕ) (xs : List Cert) : Type 0 where
  entry : Cert
  held : Memᴰ entry xs
  key : entry.key ≡ k
  value : entry.value ≡ x

find-held : (k x : ℕ) (xs : List Cert) → find k xs ≡ some x → Held k x xs
unfolding find
find-held k x [] h = absurd (none-ne-some x h)
find-held k x (y ∷ ys) h = go (eqb k y.key) refl (find-held k x ys)
  where
    go : (b : Bool) → eqb k y.key ≡ b → (find k ys ≡ some x → Held k x ys) → Held k x (y ∷ ys)
    go true e ih =
        let q = eqb-true k y.key e in
        record {
          entry = y;
          held = Memᴰ.head refl;
          key = sym q;
          value = some-injective y.value x (sym (find_head k y ys q) ∙ h);
        }
    go false e ih =
        let r = ih (sym (find_tail k y ys (eqb-false k y.key e)) ∙ h) in
        record { entry = r.entry; held = Memᴰ.tail r.held; key = r.key; value = r.value }

-- a page that holds certificates is a leaf
pub holds-leaf : (v : View) (x : Cert) → Shaped v → Memᴰ x v.certs → is_leaf v ≡ true
holds-leaf v x s m = go (is_leaf v) refl
  where
    go : (b : Bool) → is_leaf v ≡ b → is_leaf v ≡ true
    go true e = e
    go false e = absurd (Memᴰ.not-nil (subst (Memᴰ x) (s.inner e) m))

-- ── The pages of a way have the shape of pages ──────────────────────────────────────────────────────────────────

shaped-mended : (c : ℕ) (e : Place) (q : Page) → Shaped q.view → Shaped (mended c e q).view
unfolding mended fresh
shaped-mended c e q s = shaped-cut e.low e.high q.view s

pub shaped-entered : {n c : ℕ} {above t : List ℕ} {e : Place} (r : Entered) → Comes n c above t e r → (p : Page) → r.page ≡ some p → Shaped p.view
shaped-entered {t = t} {e} r (stood f g) p q =
    subst (λ (x : Page). Shaped x.view)
    (some-injective (read t e.child) p (sym (ap (λ (y : Entered). y.page) g) ∙ q)) (shaped-read t e.child)
shaped-entered {c = c} {t = t} {e} r (mends a m g) p q =
    subst (λ (x : Page). Shaped x.view)
    (some-injective (mended c e (read t e.previous)) p (sym (ap (λ (y : Entered). y.page) g) ∙ q))
    (shaped-mended c e (read t e.previous) (shaped-read t e.previous))
shaped-entered r (stops g) p q = absurd (none-ne-some p (sym (ap (λ (y : Entered). y.page) g) ∙ q))

-- and its certificates have good keys
abbrev pub Good : Cert → Bool
Good x = good_key x.key

good-mended : (c : ℕ) (e : Place) (q : Page) → all Good q.view.certs ≡ true → all Good (mended c e q).view.certs ≡ true
unfolding mended fresh cut_view
good-mended c e q g = all-cut Good e.low e.high q.view.certs g

pub good-entered : {n c : ℕ} {above t : List ℕ} {e : Place} (r : Entered) → Comes n c above t e r → (p : Page) → r.page ≡ some p
    → all Good p.view.certs ≡ true
good-entered {n} {t = t} {e} r (stood f g) p q =
    subst (λ (x : Page). all Good x.view.certs ≡ true)
    (some-injective (read t e.child) p (sym (ap (λ (y : Entered). y.page) g) ∙ q))
    (fits_true n e (read t e.child) f).sound.good
good-entered {n} {c} {t = t} {e} r (mends a m g) p q =
    subst (λ (x : Page). all Good x.view.certs ≡ true)
    (some-injective (mended c e (read t e.previous)) p (sym (ap (λ (y : Entered). y.page) g) ∙ q))
    (good-mended c e (read t e.previous) (mendable_true n e (read t e.previous) m).sound.good)
good-entered r (stops g) p q = absurd (none-ne-some p (sym (ap (λ (y : Entered). y.page) g) ∙ q))

-- the last page of a way
record Last (steps : List Step) : Type 0 where
  leaf : Step
  above : List Step
  are : steps ≡ leaf ∷ above
  shaped : Shaped leaf.page.view

descend-last : (level n c k : ℕ) (above : List Step) (t : List ℕ) (e : Place) (steps : List Step)
    → (descend level n c k above t e).steps ≡ some steps → Last steps
unfolding descend
descend-last zero n c k above t e steps h = absurd (none-ne-some steps h)
descend-last (suc level) n c k above t e steps h =
    found (enter n c (numbers above) t e).page refl (λ ss d. descend-last level n c k ss (enter n c (numbers above) t e).table d steps)
  where
    Rest : Type 0
    Rest = (ss : List Step) (d : Place) → (descend level n c k ss (enter n c (numbers above) t e).table d).steps ≡ some steps → Last steps

    below : (p : Page) → (enter n c (numbers above) t e).page ≡ some p → (o : Option Place) → pick k (kids e p.view) ≡ o → Rest → Last steps
    below p f none q ih =
        record {
          leaf = record { place = e; page = p };
          above = above;
          are = sym (some-injective (record { place = e; page = p } ∷ above) steps (rw (descend, f, q) at h));
          shaped = shaped-entered (enter n c (numbers above) t e) (comes n c (numbers above) t e) p f;
        }
    below p f (some d) q ih = ih (record { place = e; page = p } ∷ above) d (rw (descend, f, q) at h)

    found : (o : Option Page) → (enter n c (numbers above) t e).page ≡ o → Rest → Last steps
    found none f ih = absurd (none-ne-some steps (rw (descend, f) at h))
    found (some p) f ih = below p f (pick k (kids e p.view)) refl ih

way-last : (n c k : ℕ) (t : List ℕ) (steps : List Step) → (way_of n c k t).steps ≡ some steps → Last steps
unfolding way_of
way-last n c k t steps h = descend-last 3 n c k [] t _ steps h

-- ── Lookup ──────────────────────────────────────────────────────────────────────────────────────────────────────

found_in_lem : (k x : ℕ) (steps : List Step) → found_in k steps ≡ Ok x → find k (certs_at steps) ≡ some x
unfolding found_in find_error_no
found_in_lem k x steps h = go (find k (certs_at steps)) refl
  where
    go : (o : Option ℕ) → find k (certs_at steps) ≡ o → find k (certs_at steps) ≡ some x
    go none o = absurd (omega (arith, ap looked_no (rw (found_in, o) at h)))
    go (some y) o = let q : Ok y ≡ Ok x = rw (found_in, o) at h in o ∙ cc

-- the way of a key that was found
record Way-found (s : Session) (w : List ℕ) (k x : ℕ) : Type 0 where
  steps : List Step
  way : (way_of s.n s.c k w).steps ≡ some steps
  finds : find k (certs_at steps) ≡ some x

key-found : (k x : ℕ) (s : Session) (w t : List ℕ) → (lookup_key k s w t).answer ≡ Ok x → Way-found s w k x
unfolding lookup_key lookup_left find_error_no
key-found k x s w t h = go (way_of s.n s.c k w).steps refl
  where
    go : (o : Option (List Step)) → (way_of s.n s.c k w).steps ≡ o → Way-found s w k x
    go none o = absurd (omega (arith, ap looked_no (rw (lookup_key, o) at h)))
    go (some steps) o = record { steps = steps; way = o; finds = found_in_lem k x steps (rw (lookup_key, o) at h) }

way_of-found : (w t : List ℕ) (s : Session) (model serial issue x : ℕ) → (lookup w t s model serial issue).answer ≡ Ok x
    → Way-found s w (key_of model serial issue) x
unfolding lookup lookup_left find_error_no
way_of-found w t s model serial issue x h = go (lengths_for s w t) refl (good_parts model serial issue) refl (fit0 s.n w) refl
  where
    go : (a : Bool) → lengths_for s w t ≡ a → (b : Bool) → good_parts model serial issue ≡ b → (c : Bool) → fit0 s.n w ≡ c
        → Way-found s w (key_of model serial issue) x
    go false p b q c o = absurd (omega (arith, ap looked_no (rw (lookup, p) at h)))
    go true p false q c o = absurd (omega (arith, ap looked_no (rw (lookup, p, q) at h)))
    go true p true q false o = absurd (omega (arith, ap looked_no (rw (lookup, p, q, o) at h)))
    go true p true q true o = key-found (key_of model serial issue) x s w t (rw (lookup, p, q, o) at h)

pub lookup_exact : LookupExact
unfolding LookupExact certs_at
lookup_exact w t s model serial issue x wide_serial wide_issue h =
    let k = key_of model serial issue in
    let f = way_of-found w t s model serial issue x h in
    let l = way-last s.n s.c k w f.steps f.way in
    let e = find-held k x l.leaf.page.view.certs (ap (λ (ss : List Step). find k (certs_at ss)) (sym l.are) ∙ f.finds) in
    record {
      leaf = l.leaf;
      above = l.above;
      way = f.way ∙ ap some l.are;
      is_leaf_lem = holds-leaf l.leaf.page.view e.entry l.shaped e.held;
      entry = e.entry;
      held = e.held;
      same_model = rw e.key (model_of-key_of model serial issue wide_serial wide_issue);
      same_serial = rw e.key (serial_of-key_of model serial issue wide_serial wide_issue);
      same_issue = rw e.key (issue_of-key_of model serial issue wide_serial wide_issue);
      value = e.value;
    }
