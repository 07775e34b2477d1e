-- The session's part of a split way, and how it goes with the pages' part. Assumes nothing.
use Prim.Native.Nat.{ℕ, suc, ◌+◌, ◌-◌, ◌*◌, ◌<◌}
use native.Mathlib.Omega.{arith}
use mathlib.Core.Path.{◌≡◌, refl, sym, ap, ◌∙◌, subst}
use mathlib.Core.Logic.{◌≢◌}
use mathlib.Core.Bool.{Bool, false}
use mathlib.Core.List.{List, [], ◌∷◌}
use borrow.Author.Tests.{eq-eqb, ne_eqb}
use lib.ListN.{length, get_or}
use Rattle.rules.specs.Layout.{most_pages}
use Rattle.rules.specs.Marks.{taken}
use Rattle.rules.specs.Insert.{Making, making, halve, split}
use Rattle.rules.specs.declared.Session.{Session}
use Rattle.split.specs.Split.{step_at, retire_by, Halves}
use Rattle.plan.specs.Plan.{full_by, splits_by, heads_of}
use Rattle.way.specs.declared.Step.{Step}
use Rattle.apply.specs.Leads.{step_on, steps_in, ReadyWay, Starts, start_of, marks_for, root_marked, marks_by, Numbered, ReadyPages, ReadySession}
use Rattle.apply.proofs.Handed.{some_page}
use Rattle.apply.proofs.Down.{halvings, Asks, turn-asks, turn-leaves, turn-goes_on, way-starts, way-begins, way-ends, turn_halves, reached, enough-halves}

-- ── Turn by turn ────────────────────────────────────────────────────────────────────────────────────────────────

-- with the last so many pages still to be halved: a session that stands for the marks made so far
pub record Turned (c k : ℕ) (w : List Step) (pages : List ℕ) (many : ℕ) (m : Making) (i : ℕ) (t : List ℕ) (at : ℕ) : Type 0 where
  pub session : Session
  pub asks : Asks c k w pages i (making t session at)
  pub goes : halvings c k w pages i (making t session at) ≡ halvings c k w pages many m
  pub marks : marks_for c w pages i session ≡ marks_for c w pages many m.session

-- one turn's marks
pub marks-turn : (c : ℕ) (w : List Step) (pages : List ℕ) (i : ℕ) → 0 < i → (x : Step) → x ≡ step_on w (i - 1) → (s : Session)
    → marks_for c w pages (i - 1)
    (retire_by c x.place.child x.head (taken (get_or pages (2 * (i - 1) + 1) 0) (taken (get_or pages (2 * (i - 1)) 0) s)))
    ≡ marks_for c w pages i s
unfolding marks_for
marks-turn c w pages i some x e s =
    let back : suc (i - 1) ≡ i = omega arith in
    ap (λ (y : Step). marks_for c w pages (i - 1) (retire_by c y.place.child y.head (taken (get_or pages (2 * (i - 1) + 1) 0) (taken (get_or pages (2 * (i - 1)) 0) s)))) e
    ∙ ap (λ (j : ℕ). marks_for c w pages j s) back

pub marks-none : (c : ℕ) (w : List Step) (pages : List ℕ) (i : ℕ) (s : Session) → i ≡ 0 → marks_for c w pages i s ≡ s
unfolding marks_for
marks-none c w pages i s e = ap (λ (j : ℕ). marks_for c w pages j s) e

module _ (c k : ℕ) (w : List Step) (pages : List ℕ) (many : ℕ) (m : Making) where
  pub turned-first : Asks c k w pages many m → Turned c k w pages many m many m.table m.at
  turned-first a = record { session = m.session; asks = a; goes = refl; marks = refl }

  module _ (i : ℕ) (some : 0 < i) {t : List ℕ} {at : ℕ} (T : Turned c k w pages many m i t at) (x : Step)
      (e : x ≡ step_on w (i - 1)) where
    pub turned-asks : Halves t x.place x.head (get_or pages (2 * (i - 1)) 0) (get_or pages (2 * (i - 1) + 1) 0) at
    turned-asks = turn-asks c k w pages i some (making t T.session at) T.asks x e

    abbrev marked : Session → Session
    marked s = retire_by c x.place.child x.head (taken (get_or pages (2 * (i - 1) + 1) 0) (taken (get_or pages (2 * (i - 1)) 0) s))

    pub turned-next : (t' : List ℕ) (r : ℕ)
        → ((s : Session) → making t' (marked s) r
        ≡ halve c k (step_at t x.place) (get_or pages (2 * (i - 1)) 0) (get_or pages (2 * (i - 1) + 1) 0) (making t s at))
        → Turned c k w pages many m (i - 1) t' r
    turned-next t' r z =
        let now = making t T.session at in
        let next = making t' (marked T.session) r in
        record {
          session = marked T.session;
          asks = turn-leaves c k w pages i some now T.asks x e next (z T.session);
          goes = turn-goes_on c k w pages i some now T.asks x e next (z T.session) ∙ T.goes;
          marks = marks-turn c w pages i some x e T.session ∙ T.marks;
        }

-- ── A new root ──────────────────────────────────────────────────────────────────────────────────────────────────

module _ (w : List Step) (pages : List ℕ) (many : ℕ) (s : Session) where
  pub root-taken : many ≡ length w → root_marked w pages many s ≡ taken (get_or pages (2 * many) 0) s
  unfolding root_marked
  root-taken e = rw (eq-eqb many (length w) e, root_marked)

  pub root-stays : many ≢ length w → root_marked w pages many s ≡ s
  unfolding root_marked
  root-stays e = rw (ne_eqb many (length w) e, root_marked)

  module _ (q : many ≡ splits_by (heads_of w)) (r u : Session) (z : r ≡ marks_for u.c w pages many u) where
    all-marked : u ≡ root_marked w pages many s → u.c ≡ s.c → r ≡ marks_by w pages (splits_by (heads_of w)) s
    unfolding marks_by
    all-marked e d =
        z ∙ (ap (λ (c : ℕ). marks_for c w pages many u) d
        ∙ (ap (marks_for s.c w pages many) e ∙ ap (λ (j : ℕ). marks_by w pages j s) q))

    pub marked-root : many ≡ length w → u ≡ taken (get_or pages (2 * many) 0) s → r ≡ marks_by w pages (splits_by (heads_of w)) s
    marked-root e d = all-marked (d ∙ sym (root-taken e)) (ap (λ (v : Session). v.c) d)

    pub marked-none : many ≢ length w → u ≡ s → r ≡ marks_by w pages (splits_by (heads_of w)) s
    marked-none e d = all-marked (d ∙ sym (root-stays e)) (ap (λ (v : Session). v.c) d)

-- ── The whole way ───────────────────────────────────────────────────────────────────────────────────────────────

module _ {c k : ℕ} {t : List ℕ} {w : List Step} {pages : List ℕ} (y : ReadyPages c k t w pages)
    (many : ℕ) (q : many ≡ splits_by (heads_of w)) (t₀ : List ℕ) (at₀ : ℕ)
    (z : (s : Session) → making t₀ (root_marked w pages many s) at₀ ≡ start_of c t w pages many s) where
  abbrev s : Session
  s = y.session

  abbrev pub first : Making
  first = making t₀ (root_marked w pages many s) at₀

  started : first ≡ start_of s.c t w pages many s
  started = z s ∙ ap (λ (d : ℕ). start_of d t w pages many s) (sym y.counter)

  pub first-asks : Asks c k w pages many first
  first-asks = subst (λ (d : ℕ). Asks d k w pages many first) y.counter (way-begins y.ready many q first started)

  module _ (i : ℕ) (e : i ≡ 0) (t' : List ℕ) (r : ℕ) where
    last : Turned s.c k w pages many first i t' r
        → making t' (marks_by w pages (splits_by (heads_of w)) s) r ≡ split s.c k (steps_in t w) pages (making t s 0)
    unfolding marks_by
    last T =
        let same : marks_by w pages (splits_by (heads_of w)) s ≡ T.session =
        ap (λ (j : ℕ). marks_by w pages j s) (sym q) ∙ (sym T.marks ∙ marks-none s.c w pages i T.session e) in
        ap (λ (u : Session). making t' u r) same ∙ way-ends y.ready many q first started i (making t' T.session r) e T.goes

    pub turned-last : Turned c k w pages many first i t' r
        → making t' (marks_by w pages (splits_by (heads_of w)) s) r ≡ split s.c k (steps_in t w) pages (making t s 0)
    turned-last T = last (subst (λ (d : ℕ). Turned d k w pages many first i t' r) (sym y.counter) T)

-- ── A leaf that has room ────────────────────────────────────────────────────────────────────────────────────────

none-split : (x : Step) (xs : List Step) → full_by x.head ≡ false → splits_by (heads_of (x ∷ xs)) ≡ 0
unfolding splits_by
none-split x xs f = rw (f, splits_by)

pub leaf-marks : {k : ℕ} {t : List ℕ} {s : Session} {w : List Step} {pages : List ℕ} → ReadyWay k t s w pages → {b : Bool}
    → b ≡ full_by (step_on w 0).head → b ≡ false → marks_by w pages (splits_by (heads_of w)) s ≡ s
unfolding marks_by marks_for root_marked
leaf-marks {s = s} {w = w} {pages = pages} R q e =
    let some = some_page R in
    ap (λ (j : ℕ). marks_by w pages j s) (go w some (sym q ∙ e)) ∙ rw (ne_eqb 0 (length w) (λ z. some (sym z)), root_marked)
  where
    go : (xs : List Step) → length xs ≢ 0 → full_by (step_on xs 0).head ≡ false → splits_by (heads_of xs) ≡ 0
    go [] z f = absurd (z refl)
    go (x ∷ xs) z f = none-split x xs f

-- ── Numbers that have marks ─────────────────────────────────────────────────────────────────────────────────────

module _ {s : Session} {w : List Step} {pages : List ℕ} (R : ReadySession s w pages) (many : ℕ) (q : many ≡ splits_by (heads_of w)) where
  starts : Starts R.table w pages many
  starts = way-starts R.ready many q

  abbrev over : ℕ → Making
  over j = reached R.key R.table s w pages (suc j)

  halves : (j : ℕ) → j < many
      → Halves (over j).table (step_on w j).place (step_on w j).head (get_or pages (2 * j) 0) (get_or pages (2 * j + 1) 0) (over j).at
  halves j h =
      let m = over j in
      turn_halves R.ready many q j h m.table m.session m.at refl

  pub numbered : Numbered w pages many
  numbered = record {
    short = starts.short;
    len = starts.len;
    enough = enough-halves R.ready many q;
    child = λ j h. omega (arith, (halves j h).child_in_lem, (halves j h).few);
    lower = λ j h. omega (arith, (halves j h).lower_in, (halves j h).few);
    upper = λ j h. omega (arith, (halves j h).upper_in, (halves j h).few);
  }

  pub root-numbered : many ≡ length w → get_or pages (2 * many) 0 < most_pages
  root-numbered e = omega (arith, (starts.grows e).new_in, (starts.grows e).few)
