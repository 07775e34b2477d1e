-- What a place asks and what it shows, as facts: fits and mendable into facts and back, show into facts; and a mended
-- page fits its place. Assumes nothing.
use Rattle.std.proofs.Common.{◌≡◌, ℕ, ◌-◌, ◌<◌, ◌≤◌, Bool, true, false, not, eqb, ◌⊎◌, List, [], ◌∷◌, length, sym, refl, ap, ◌∙◌, subst, inl, inr, arith, eq-eqb, ne_eqb, eqb-true, le-leb, leb-true, is_none}
use mathlib.Core.Option.{some, none, some-injective, none-ne-some}
use borrow.Author.Tests.{eqb-false, not-true}
use Rattle.rules.specs.Layout.{leaf_room}
use Rattle.rules.specs.Test.{every, mem}
use Rattle.rules.specs.Key.{good_key}
use Rattle.rules.specs.Entry.{Cert, keys}
use Rattle.rules.specs.Page.{View, Page, is_leaf, fresh, touch}
use Rattle.rules.specs.Table.{read}
use Rattle.rules.specs.Sound.{sound}
use Rattle.rules.specs.Place.{kind_asked, trial, first_failed, unfit, fits, mendable, cut_view, mended, show}
use Rattle.rules.specs.Insert.{put_cert}
use Rattle.rules.specs.Withdraw.{without_cert}
use Rattle.rules.specs.declared.Place.{Place}
use Rattle.rules.specs.declared.Reason.{Reason}
use Rattle.rules.proofs.Entries.Tests.{or_cases, or_left, or_right, fails, every_true, every_of, between-low, between-high, between-of, or_other, or_of}
use Rattle.rules.proofs.Entries.Views.{Shaped, shaped-read, shaped-cut}
use Rattle.rules.proofs.Entries.Sounds.{Sound, sound_true, sound-of, sound-same, sound-cut, sound-put_cert, sound-without_cert}

-- ── The kind asked for ──────────────────────────────────────────────────────────────────────────────────────────

pub asked_true : (want kind : ℕ) → kind_asked want kind ≡ true → (want ≡ 0) ⊎ (want ≡ kind)
unfolding kind_asked
asked_true want kind h = go (or_cases (eqb want 0) (eqb want kind) h)
  where
    go : (eqb want 0 ≡ true) ⊎ (eqb want kind ≡ true) → (want ≡ 0) ⊎ (want ≡ kind)
    go (inl e) = inl (eqb-true want 0 e)
    go (inr e) = inr (eqb-true want kind e)

pub asked_of : (want kind : ℕ) → (want ≡ 0) ⊎ (want ≡ kind) → kind_asked want kind ≡ true
unfolding kind_asked
asked_of want kind (inl e) = or_left (eqb want kind) (eq-eqb want 0 e)
asked_of want kind (inr e) = or_right (eqb want 0) (eq-eqb want kind e)

-- ── Fits ────────────────────────────────────────────────────────────────────────────────────────────────────────

pub record Fits (n : ℕ) (e : Place) (p : Page) : Type 0 where
  pub sound : Sound n e.low e.high p.view
  pub kind : (e.want ≡ 0) ⊎ (e.want ≡ p.view.kind)
  pub birth : p.birth ≡ e.birth
  pub low : p.low ≡ e.low
  pub high : p.high ≡ e.high

-- the tests of a place, one by one
abbrev tests : ℕ → Place → Page → List Bool
tests n e p =
    sound n p
    ∷ (kind_asked e.want p.view.kind ∷ (eqb p.birth e.birth ∷ (eqb p.low e.low ∷ (eqb p.high e.high ∷ []))))

-- a page fits if every test passes
fits-every : (n : ℕ) (e : Place) (p : Page) → fits n e p ≡ every (tests n e p)
unfolding fits unfit first_failed every
fits-every n e p =
    go (sound n p) (kind_asked e.want p.view.kind) (eqb p.birth e.birth) (eqb p.low e.low) (eqb p.high e.high)
  where
    go : (a b c d f : Bool)
        → is_none (first_failed (trial a Reason.Soundness ∷ (trial b Reason.Kind ∷ (trial c Reason.Birth ∷ (trial d Reason.Range ∷ (trial f Reason.Range ∷ []))))))
        ≡ every (a ∷ (b ∷ (c ∷ (d ∷ (f ∷ [])))))
    go false b c d f = refl
    go true false c d f = refl
    go true true false d f = refl
    go true true true false f = refl
    go true true true true false = refl
    go true true true true true = refl

pub fits_true : (n : ℕ) (e : Place) (p : Page) → fits n e p ≡ true → Fits n e p
fits_true n e p h =
    let f = every_true (tests n e p) (sym (fits-every n e p) ∙ h) in
    let l = eqb-true p.low e.low f.1.1.1.0 in
    let u = eqb-true p.high e.high f.1.1.1.1.0 in
    record {
      sound = sound-same l u (sound_true n p f.0);
      kind = asked_true e.want p.view.kind f.1.0;
      birth = eqb-true p.birth e.birth f.1.1.0;
      low = l;
      high = u;
    }

pub fits-of : (n : ℕ) (e : Place) (p : Page) → Fits n e p → fits n e p ≡ true
fits-of n e p f =
    fits-every n e p
    ∙ every_of (tests n e p) (
      sound-of n p (sound-same (sym f.low) (sym f.high) f.sound),
      (
        asked_of e.want p.view.kind f.kind,
        (
          eq-eqb p.birth e.birth f.birth,
          (
            eq-eqb p.low e.low f.low,
            (eq-eqb p.high e.high f.high, tt),
          ),
        ),
      ),
    )

-- a page built for a place fits it
pub fits_fresh : {n low high : ℕ} {v : View} (c birth : ℕ) (e : Place) → e.birth ≡ birth → e.low ≡ low → e.high ≡ high
    → (e.want ≡ 0) ⊎ (e.want ≡ v.kind) → Sound n low high v → Fits n e (fresh c birth low high v)
unfolding fresh
fits_fresh c birth e b l h k s = record {
  sound = sound-same (sym l) (sym h) s;
  kind = k;
  birth = sym b;
  low = sym l;
  high = sym h;
}

-- a page changed where it stands, to show something else of its kind that is sound, fits as before
pub fits-touch : {n : ℕ} {e : Place} {p : Page} (c : ℕ) (v : View) → v.kind ≡ p.view.kind → Sound n e.low e.high v
    → Fits n e p → Fits n e (touch c v p)
unfolding touch
fits-touch {e = e} {p} c v k s f = record {
  sound = s;
  kind = go f.kind;
  birth = f.birth;
  low = f.low;
  high = f.high;
}
  where
    go : (e.want ≡ 0) ⊎ (e.want ≡ p.view.kind) → (e.want ≡ 0) ⊎ (e.want ≡ v.kind)
    go (inl w) = inl w
    go (inr w) = inr (w ∙ sym k)

pub put_cert-fits : {n : ℕ} {e : Place} {p : Page} (c : ℕ) (x : Cert) → length p.view.certs < leaf_room → good_key x.key ≡ true
    → e.low ≤ x.key → x.key ≤ e.high → Fits n e p → Fits n e (touch c (put_cert x p.view) p)
unfolding put_cert
put_cert-fits {p = p} c x r g l h f = fits-touch c (put_cert x p.view) refl (sound-put_cert x r g l h f.sound) f

pub without_cert-fits : {n : ℕ} {e : Place} {p : Page} (c k : ℕ) → Fits n e p → Fits n e (touch c (without_cert k p.view) p)
unfolding without_cert
without_cert-fits {p = p} c k f = fits-touch c (without_cert k p.view) refl (sound-without_cert k f.sound) f

-- ── Mendable, and mended ────────────────────────────────────────────────────────────────────────────────────────

pub record Mendable (n : ℕ) (e : Place) (q : Page) : Type 0 where
  pub from : 1 ≤ e.previous
  pub below : e.previous < n
  pub other : e.previous ≡ e.child → ⊥
  pub sound : Sound n q.low q.high q.view
  pub kind : (e.want ≡ 0) ⊎ (e.want ≡ q.view.kind)
  pub low : q.low ≤ e.low
  pub high : e.high ≤ q.high
  pub key : is_leaf q.view ≡ false → mem e.low (keys q.view.children) ≡ true

pub mendable_true : (n : ℕ) (e : Place) (q : Page) → mendable n e q ≡ true → Mendable n e q
unfolding mendable
mendable_true n e q h =
    let f = every_true _ h in
    let l = between-low 1 (n - 1) e.previous f.0 in
    let u = between-high 1 (n - 1) e.previous f.0 in
    record {
      from = l;
      below = omega arith;
      other = eqb-false e.previous e.child (not-true (eqb e.previous e.child) f.1.0);
      sound = sound_true n q f.1.1.0;
      kind = asked_true e.want q.view.kind f.1.1.1.0;
      low = leb-true q.low e.low f.1.1.1.1.0;
      high = leb-true e.high q.high f.1.1.1.1.1.0;
      key = or_other (is_leaf q.view) (mem e.low (keys q.view.children)) f.1.1.1.1.1.1.0;
    }

pub mendable-of : (n : ℕ) (e : Place) (q : Page) → Mendable n e q → mendable n e q ≡ true
unfolding mendable
mendable-of n e q m =
    every_of _ (
      between-of 1 (n - 1) e.previous m.from (omega (arith, m.below)),
      (
        ap not (ne_eqb e.previous e.child m.other),
        (
          sound-of n q m.sound,
          (
            asked_of e.want q.view.kind m.kind,
            (
              le-leb q.low e.low m.low,
              (
                le-leb e.high q.high m.high,
                (or_of (is_leaf q.view) (mem e.low (keys q.view.children)) m.key, tt),
              ),
            ),
          ),
        ),
      ),
    )

-- what a mendable place shows is sound for its range
pub mended-view-sound : {n : ℕ} {e : Place} {q : Page} → e.low ≤ e.high → Mendable n e q
    → Sound n e.low e.high (cut_view e.low e.high q.view)
mended-view-sound {e = e} r m = sound-cut e.low e.high r m.key m.sound

pub mended-fits : {n : ℕ} {e : Place} {q : Page} (c : ℕ) → e.low ≤ e.high → Mendable n e q → Fits n e (mended c e q)
unfolding mended cut_view
mended-fits {e = e} c r m = fits_fresh c e.birth e refl refl refl m.kind (mended-view-sound r m)

-- ── Show ────────────────────────────────────────────────────────────────────────────────────────────────────────

-- the child's page as it stands, or the previous page's entries in the range
pub data Shown (n : ℕ) (t : List ℕ) (e : Place) (v : View) : Type 0 where
  fitting : Fits n e (read t e.child) → v ≡ (read t e.child).view → Shown n t e v
  lost : fits n e (read t e.child) ≡ false → Mendable n e (read t e.previous)
      → v ≡ cut_view e.low e.high (read t e.previous).view → Shown n t e v

pub show-fitting : (n : ℕ) (t : List ℕ) (e : Place) → Fits n e (read t e.child) → show n t e ≡ some (read t e.child).view
unfolding show
show-fitting n t e f = rw (fits-of n e (read t e.child) f, show)

pub show-lost : (n : ℕ) (t : List ℕ) (e : Place) → fits n e (read t e.child) ≡ false → Mendable n e (read t e.previous)
    → show n t e ≡ some (cut_view e.low e.high (read t e.previous).view)
unfolding show
show-lost n t e l m = rw (l, show) (rw (mendable-of n e (read t e.previous) m))

pub show-damaged : (n : ℕ) (t : List ℕ) (e : Place) → fits n e (read t e.child) ≡ false
    → mendable n e (read t e.previous) ≡ false → show n t e ≡ none
unfolding show
show-damaged n t e l m = rw (l, show) (rw m)

pub show-some : (n : ℕ) (t : List ℕ) (e : Place) (v : View) → show n t e ≡ some v → Shown n t e v
show-some n t e v h =
    go (fits n e (read t e.child)) refl (mendable n e (read t e.previous)) refl
  where
    go : (a : Bool) → fits n e (read t e.child) ≡ a → (b : Bool) → mendable n e (read t e.previous) ≡ b → Shown n t e v
    go true p b q =
        let f = fits_true n e (read t e.child) p in
        fitting f (some-injective v (read t e.child).view (sym h ∙ show-fitting n t e f))
    go false p true q =
        let m = mendable_true n e (read t e.previous) q in
        lost p m
        (some-injective v (cut_view e.low e.high (read t e.previous).view) (sym h ∙ show-lost n t e p m))
    go false p false q = absurd (none-ne-some v (sym (show-damaged n t e p q) ∙ h))

-- a damaged place neither fits nor can be mended
pub show-none : (n : ℕ) (t : List ℕ) (e : Place) → show n t e ≡ none
    → (fits n e (read t e.child) ≡ false) × (mendable n e (read t e.previous) ≡ false)
show-none n t e h =
    let p = fails (fits n e (read t e.child))
    (λ f. none-ne-some (read t e.child).view (sym h ∙ show-fitting n t e (fits_true n e (read t e.child) f))) in (
      p,
      fails (mendable n e (read t e.previous))
          (λ m. none-ne-some (cut_view e.low e.high (read t e.previous).view)
          (sym h ∙ show-lost n t e p (mendable_true n e (read t e.previous) m))),
    )

-- ── What is shown is sound, of the kind asked for, and a leaf or an inner page ──────────────────────────────────

module _ {n : ℕ} {t : List ℕ} {e : Place} {v : View} where
  pub shown-sound : e.low ≤ e.high → Shown n t e v → Sound n e.low e.high v
  shown-sound r (fitting f w) = subst (Sound n e.low e.high) (sym w) f.sound
  shown-sound r (lost p m w) = subst (Sound n e.low e.high) (sym w) (mended-view-sound r m)

  pub shown-shaped : Shown n t e v → Shaped v
  shown-shaped (fitting f w) = subst Shaped (sym w) (shaped-read t e.child)
  shown-shaped (lost p m w) =
      subst Shaped (sym w) (shaped-cut e.low e.high (read t e.previous).view (shaped-read t e.previous))

-- ── Tables of which one page is known ───────────────────────────────────────────────────────────────────────────

pub shows : (n : ℕ) (t : List ℕ) (e : Place) (p : Page) → read t e.child ≡ p → Fits n e p → show n t e ≡ some p.view
shows n t e p r f = show-fitting n t e (subst (Fits n e) (sym r) f) ∙ ap (λ (x : Page). some x.view) r

-- a mend changes nothing that its place shows
pub shows-mended : (n c : ℕ) (t u : List ℕ) (e : Place) → e.low ≤ e.high → fits n e (read t e.child) ≡ false
    → Mendable n e (read t e.previous) → read u e.child ≡ mended c e (read t e.previous) → show n u e ≡ show n t e
unfolding mended fresh
shows-mended n c t u e r l m h =
    shows n u e (mended c e (read t e.previous)) h (mended-fits c r m) ∙ sym (show-lost n t e l m)
