-- Opening a good table: it answers done, or spent exactly where the number is above the last one; and what it hands out
-- is a store in which every key's only state is what the table tells of it.
use Rattle.std.proofs.Common.{◌≡◌, ℕ, ◌+◌, ◌*◌, ◌<◌, ◌≤◌, Bool, true, false, not, ◌&&◌, ltb, List, length, get_or, sym, refl, ◌∙◌, arith, ltb-false, ltb-true, le-leb, Ok, Err}
use mathlib.Core.Bool.{false≢true}
use lib.ListN.{get_or-eq_default}
use borrow.Author.Tests.{lt-leb, not-true}
use Rattle.rules.specs.Layout.{page_size, fewest_pages, most_pages, last_number}
use Rattle.rules.specs.Test.{mem}
use Rattle.rules.specs.Table.{pages, good_lengths, fit0, number0, set_number}
use Rattle.rules.specs.Tree.{Tree, tree_of, good_tree}
use Rattle.rules.specs.Marks.{is_page, opened}
use Rattle.rules.specs.Call.{Left}
use Rattle.rules.specs.Open.{opening, open_done, open_refused}
use Rattle.rules.specs.Answer.{Opened}
use Rattle.rules.specs.declared.OpenError.{OpenError}
use Rattle.rules.proofs.Entries.Tests.{and_left, and_right, and_of}
use Rattle.rules.proofs.Bytes.Lengths.{pages-of, tables-good}
use Rattle.rules.proofs.Bytes.PageZero.{length-set_number, bytes-set_number, number0-set_number, fit0-set_number}
use Rattle.rules.proofs.Bytes.Marked.{sized-opened, free-opened, waiting-opened, is_page_true}
use Rattle.rules.proofs.Demand3.Ways.Ways.{Tells}
use Rattle.rules.proofs.Demand3.Ways.Invariant.{Good}
use Rattle.rules.proofs.Demand3.Mix.MixTheorem.{Older}
use Rattle.rules.proofs.Demand3.Epochs.Epochs.{start}
use Rattle.rules.proofs.Demand3.Epochs.Opens.{good_tree_lem}
use Rattle.rules.proofs.Demand3.Epochs.OpenMarks.{marks-opened}
use Rattle.rules.proofs.Demand3.Epochs.Crashes.{alike-set_number}
use Rattle.rules.proofs.Demand3.Epochs.Store.{free_mark, waiting_mark, Whole, Safe}

-- ── The answer ──────────────────────────────────────────────────────────────────────────────────────────────────

-- c = number, and the number grows by one
abbrev pub raise : List ℕ → List ℕ
raise t = set_number t (number0 t + 1)

-- what an opening of n pages that succeeds leaves
abbrev pub done : ℕ → List ℕ → Left Opened
done n t = record {
  answer = Ok tt;
  session = opened n (number0 t) (tree_of n t);
  working = raise t;
  stable = raise t;
}

module _ (n : ℕ) (w t : List ℕ) (f : fewest_pages ≤ n) (m : n ≤ most_pages) (hw : length w ≡ n * page_size) (h : Whole n t)
    (g : Good n t) where
  lengths : good_lengths w t ≡ true
  lengths = tables-good (record { least = f; most = m; working = hw; stable = h.length_is })

  tests : (fit0 (pages t) t && good_tree (tree_of (pages t) t)) ≡ true
  tests = rw (pages-of t n h.length_is) (and_of h.fit (good_tree_lem g))

  pub opening-done : number0 t ≤ last_number → opening w t ≡ done n t
  unfolding opening open_done
  opening-done l =
      rw (lengths, opening)
      (rw tests (rw (le-leb (number0 t) last_number l) (rw (pages-of t n h.length_is))))

  pub opening-spent : last_number < number0 t → opening w t ≡ open_refused (Err OpenError.Spent) w t
  unfolding opening
  opening-spent l =
      rw (lengths, opening) (rw tests (rw (lt-leb (number0 t) last_number l)))

-- ── The store that it hands out ─────────────────────────────────────────────────────────────────────────────────

-- a mark that stands is one of the 128
pub marked-below : (marks : List Bool) (i : ℕ) → length marks ≡ most_pages → get_or marks i false ≡ true → i < most_pages
marked-below marks i h m = go (ltb i most_pages) refl
  where
    go : (b : Bool) → ltb i most_pages ≡ b → i < most_pages
    go true e = ltb-true i most_pages e
    go false e =
        absurd
        (false≢true (sym (get_or-eq_default marks false (omega (arith, ltb-false i most_pages e, h))) ∙ m))

module _ (n c : ℕ) (t : Tree) (i : ℕ) where
  free-is : free_mark (opened n c t) i ≡ true → (is_page n i && (not (mem i t.children) && not (mem i t.spared))) ≡ true
  free-is m =
      sym (free-opened i (marked-below (opened n c t).free i (sized-opened n c t).free m) n c t) ∙ m

  opened-page : free_mark (opened n c t) i ≡ true → (1 ≤ i) × (i < n)
  opened-page m = is_page_true n i (and_left (is_page n i) _ (free-is m))

  opened-free : free_mark (opened n c t) i ≡ true → (mem i t.children ≡ false) × (mem i t.spared ≡ false)
  opened-free m =
      let r = and_right (is_page n i) _ (free-is m) in (
        not-true (mem i t.children) (and_left (not (mem i t.children)) _ r),
        not-true (mem i t.spared) (and_right (not (mem i t.children)) _ r),
      )

  opened-waiting : waiting_mark (opened n c t) i ≡ false
  opened-waiting = go (ltb i most_pages) refl
    where
      go : (b : Bool) → ltb i most_pages ≡ b → waiting_mark (opened n c t) i ≡ false
      go true e = waiting-opened i (ltb-true i most_pages e) n c t
      go false e =
          get_or-eq_default (opened n c t).waiting false
          (omega (arith, ltb-false i most_pages e, (sized-opened n c t).waiting))

pub opening-safe : (n : ℕ) (t : List ℕ) → fewest_pages ≤ n → n ≤ most_pages → Whole n t → Good n t → number0 t ≤ last_number
    → Older n (raise t) (number0 t) → Safe (opened n (number0 t) (tree_of n t)) (raise t) (raise t) (Tells n (raise t))
unfolding opened
opening-safe n t f m h g l o = record {
  sized = sized-opened n c tr;
  few = f;
  most = m;
  small = omega arith;
  working = whole;
  stable = whole;
  number_working = number;
  number_stable = number;
  inv = start n (raise t) c (Tells n (raise t)) o (λ k s x. x);
  paged = record {
    free_page = λ {i} h. opened-page n c tr i h;
    waiting_page = λ {i} h. absurd (false≢true (sym (opened-waiting n c tr i) ∙ h));
  };
  marks = marks-opened (free_mark (opened n c tr)) (waiting_mark (opened n c tr)) g o.good (alike-set_number n t (c + 1))
      (opened-free n c tr) (opened-waiting n c tr);
}
  where
    c : ℕ
    c = number0 t

    tr : Tree
    tr = tree_of n t

    whole : Whole n (raise t)
    whole = record {
      length_is = length-set_number t (c + 1) ∙ h.length_is;
      bytes = bytes-set_number t (c + 1) h.bytes;
      fit = fit0-set_number t (c + 1) n ∙ h.fit;
    }

    number : number0 (raise t) ≡ c + 1
    number = number0-set_number t (c + 1) (omega (arith, h.length_is)) (omega arith)
