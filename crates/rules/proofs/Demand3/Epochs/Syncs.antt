-- Sync: it answers done, or spent exactly where the counter is above the last number; then the working table is stable
-- too, and each key's only state is the one that it has.
use Rattle.std.proofs.Common.{◌≡◌, ℕ, ◌+◌, ◌<◌, ◌≤◌, Bool, true, false, not, ◌&&◌, ltb, ◌⊎◌, List, sym, refl, ◌∙◌, inl, inr, arith, ltb-false, ltb-true, le-leb, Err}
use mathlib.Core.Bool.{false≢true}
use mathlib.Core.Option.{Option}
use lib.ListN.{get_or-eq_default}
use borrow.Author.Tests.{lt-leb}
use Rattle.rules.specs.Layout.{most_pages, last_number}
use Rattle.rules.specs.Table.{number0, set_number}
use Rattle.rules.specs.Marks.{is_page, turned}
use Rattle.rules.specs.Call.{lengths_for}
use Rattle.rules.specs.Sync.{sync, sync_done, sync_refused}
use Rattle.rules.specs.declared.SyncError.{SyncError}
use Rattle.rules.specs.declared.Session.{Session}
use Rattle.rules.proofs.Entries.Tests.{and_right, or_cases}
use Rattle.rules.proofs.Bytes.Lengths.{tables-lengths_for}
use Rattle.rules.proofs.Bytes.PageZero.{length-set_number, bytes-set_number, number0-set_number, fit0-set_number}
use Rattle.rules.proofs.Bytes.Marked.{sized-turned, free-turned, waiting_turned, page-is_page}
use Rattle.rules.proofs.Demand3.Ways.Ways.{Tells}
use Rattle.rules.proofs.Demand3.Ways.Invariant.{States}
use Rattle.rules.proofs.Demand3.Mix.MixTheorem.{mix_older}
use Rattle.rules.proofs.Demand3.Epochs.Epochs.{start, all_written, working-good, Alike, alike-tells, mixed_alike, turn}
use Rattle.rules.proofs.Demand3.Epochs.Crashes.{alike-set_number}
use Rattle.rules.proofs.Demand3.Epochs.Store.{free_mark, waiting_mark, Whole, Safe}
use Rattle.rules.proofs.Demand3.Epochs.Openings.{marked-below}

-- every call that is given a session tests this first
pub lengths_for_lem : {s : Session} {W S : List ℕ} {Been : States} → Safe s W S Been → lengths_for s W S ≡ true
lengths_for_lem {s} x =
    tables-lengths_for s
    (record { least = x.few; most = x.most; working = x.working.length_is; stable = x.stable.length_is })

module _ {s : Session} {W S : List ℕ} {Been : States} (x : Safe s W S Been) where
  pub sync_done_lem : s.c ≤ last_number → sync W S s ≡ sync_done s W
  unfolding sync
  sync_done_lem l = rw (lengths_for_lem x, sync) (rw (le-leb s.c last_number l))

  pub sync-spent : last_number < s.c → sync W S s ≡ sync_refused (Err SyncError.Spent) s W S
  unfolding sync
  sync-spent l = rw (lengths_for_lem x, sync) (rw (lt-leb s.c last_number l))

  -- the working table inside a sync
  abbrev pub numbered : List ℕ
  numbered = set_number W (s.c + 2)

  pub numbered-alike : Alike s.n W numbered
  numbered-alike = alike-set_number s.n W (s.c + 2)

  pub numbered-whole : Whole s.n numbered
  numbered-whole = record {
    length_is = length-set_number W (s.c + 2) ∙ x.working.length_is;
    bytes = bytes-set_number W (s.c + 2) x.working.bytes;
    fit = fit0-set_number W (s.c + 2) s.n ∙ x.working.fit;
  }

  pub numbered-number : s.c ≤ last_number → number0 numbered ≡ s.c + 2
  numbered-number l =
      number0-set_number W (s.c + 2) (omega (arith, x.working.length_is, x.few)) (omega arith)

  -- ── The store after it ──────────────────────────────────────────────────────────────────────────────────────────

  turned-free : (i : ℕ) → free_mark (turned s) i ≡ true → (free_mark s i ≡ true) ⊎ (waiting_mark s i ≡ true)
  turned-free i m =
      go (or_cases (free_mark s i) (is_page s.n i && waiting_mark s i)
      (sym (free-turned i (marked-below (turned s).free i (sized-turned s).free m) s) ∙ m))
    where
      go : (free_mark s i ≡ true) ⊎ ((is_page s.n i && waiting_mark s i) ≡ true) → (free_mark s i ≡ true) ⊎ (waiting_mark s i ≡ true)
      go (inl h) = inl h
      go (inr h) = inr (and_right (is_page s.n i) (waiting_mark s i) h)

  turned-waiting : (i : ℕ) → waiting_mark (turned s) i ≡ false
  turned-waiting i = go (ltb i most_pages) refl (waiting_mark s i) refl
    where
      go : (b : Bool) → ltb i most_pages ≡ b → (w : Bool) → waiting_mark s i ≡ w → waiting_mark (turned s) i ≡ false
      go true e true m =
          let p = x.paged.waiting_page m in
          waiting_turned i (ltb-true i most_pages e) s ∙ rw (page-is_page s.n i p.0 p.1)
      go true e false m = waiting_turned i (ltb-true i most_pages e) s ∙ and_none (not (is_page s.n i)) m
        where
          and_none : (a : Bool) {w : Bool} → w ≡ false → (a && w) ≡ false
          and_none true q = q
          and_none false q = refl
      go false e w m =
          get_or-eq_default (turned s).waiting false (omega (arith, ltb-false i most_pages e, (sized-turned s).waiting))

  pub sync-safe : s.c ≤ last_number → Safe (turned s) numbered numbered (Tells s.n numbered)
  unfolding turned
  sync-safe l = record {
    sized = sized-turned s;
    few = x.few;
    most = x.most;
    small = omega arith;
    working = numbered-whole;
    stable = numbered-whole;
    number_working = number;
    number_stable = number;
    inv = start s.n numbered (s.c + 1) (Tells s.n numbered)
        (mix_older s.n S W numbered s.c Been x.inv (mixed_alike numbered numbered-alike (all_written s.n S W)) (s.c + 1) (omega arith))
        (λ k t y. y);
    paged = record {
      free_page = λ {i} h. page i (turned-free i h);
      waiting_page = λ {i} h. absurd (false≢true (sym (turned-waiting i) ∙ h));
    };
    marks = turn numbered (free_mark (turned s)) (waiting_mark (turned s)) x.inv numbered-alike x.marks turned-free turned-waiting;
  }
    where
      page : (i : ℕ) → (free_mark s i ≡ true) ⊎ (waiting_mark s i ≡ true) → (1 ≤ i) × (i < s.n)
      page i (inl h) = x.paged.free_page h
      page i (inr h) = x.paged.waiting_page h

      number : number0 numbered ≡ s.c + 1 + 1
      number = numbered-number l ∙ omega arith

  pub sync-told : {k : ℕ} {state : Option ℕ} → Tells s.n W k state → Tells s.n numbered k state
  sync-told t = alike-tells numbered (working-good x.inv) numbered-alike t
