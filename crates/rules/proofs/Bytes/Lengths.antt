-- What a call's first test says of the lengths of its two tables. Assumes nothing.
use Rattle.std.proofs.Common.{◌≡◌, ℕ, ◌*◌, ◌%◌, Bool, true, false, ◌&&◌, eqb, List, [], ◌∷◌, length, sym, refl, ◌∙◌, arith, eq-eqb, eqb-true, le-leb}
use Rattle.rules.specs.Layout.{page_size, fewest_pages, most_pages}
use Rattle.rules.specs.Test.{between, every}
use Rattle.rules.specs.Table.{pages, good_lengths, Tables}
use Rattle.rules.specs.Call.{lengths_for}
use Rattle.rules.specs.declared.Session.{Session}
use Rattle.rules.proofs.Entries.Tests.{and_left, and_right, every_true, between-low, between-high}

pub pages-of : (t : List ℕ) (n : ℕ) → length t ≡ n * page_size → pages t ≡ n
unfolding pages
pages-of t n e = omega arith

pub good_lengths_true : (w s : List ℕ) → good_lengths w s ≡ true → Tables (pages w) w s
unfolding good_lengths pages
good_lengths_true w s h =
    let t = every_true (eqb (length w) (length s) ∷ eqb (length w % page_size) 0 ∷ between fewest_pages most_pages (pages w) ∷ []) h in
    let same = eqb-true (length w) (length s) t.0 in
    let whole = eqb-true (length w % page_size) 0 t.1.0 in
    record {
      least = between-low fewest_pages most_pages (pages w) t.1.1.0;
      most = between-high fewest_pages most_pages (pages w) t.1.1.0;
      working = omega arith;
      stable = omega arith;
    }

pub tables-good : {n : ℕ} {w s : List ℕ} → Tables n w s → good_lengths w s ≡ true
unfolding good_lengths every between
tables-good {n} {w} {s} h =
    rw (eq-eqb (length w) (length s) (h.working ∙ sym h.stable), eq-eqb (length w % page_size) 0 (omega arith), pages-of w n h.working, le-leb fewest_pages n h.least, le-leb n most_pages h.most)

-- tables of too few or too many pages
pub lengths_bad : (w s : List ℕ) (n : ℕ) → length w ≡ n * page_size → between fewest_pages most_pages n ≡ false → good_lengths w s ≡ false
unfolding good_lengths every
lengths_bad w s n e h = rw (pages-of w n e, h) (neither (eqb (length w) (length s)) (eqb (length w % page_size) 0))
  where
    neither : (a b : Bool) → (a && (b && false)) ≡ false
    neither true true = refl
    neither true false = refl
    neither false b = refl

-- the test of a call with a session
pub lengths_for_true : (s : Session) (w t : List ℕ) → lengths_for s w t ≡ true → Tables s.n w t
unfolding lengths_for
lengths_for_true s w t h =
    rw (eqb-true s.n (pages w) (and_right (good_lengths w t) (eqb s.n (pages w)) h))
    (good_lengths_true w t (and_left (good_lengths w t) (eqb s.n (pages w)) h))

pub tables-lengths_for : (s : Session) {w t : List ℕ} → Tables s.n w t → lengths_for s w t ≡ true
unfolding lengths_for
tables-lengths_for s {w} {t} h = rw (tables-good h, eq-eqb s.n (pages w) (sym (pages-of w s.n h.working)))
