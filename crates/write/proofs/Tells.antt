-- What the walks give to tell: the walk that counts knows beforehand whether the output is written. Assumes nothing.
use mathlib.Core.Path.{◌≡◌, sym, ap, subst, ◌∙◌}
use mathlib.Core.Bool.{true, false}
use mathlib.Core.List.{List}
use Prim.Native.Nat.{ℕ, ◌*◌, ◌^◌, ◌≤◌, ◌<◌}
use native.Mathlib.Omega.{arith}
use lib.ListN.{length}
use borrow.Author.Tests.{le-leb, lt-leb}
use Rattle.fields.specs.Field.{Bytes}
use Rattle.std.specs.Prelude.{Result, Ok, Err, is_ok}
use Rattle.rules.specs.Layout.{page_size, most_pages, last_key}
use Rattle.rules.specs.Table.{fit0}
use Rattle.rules.specs.Page.{over}
use Rattle.rules.specs.Report.{Reported}
use Rattle.rules.specs.Walk.{Walked, walk_of}
use Rattle.rules.specs.declared.Asked.{Asked}
use Rattle.rules.specs.declared.Report.{Report}
use Rattle.dry.proofs.Answers.{over-whole, dry-found}
use Rattle.fill.specs.Fills.{mending, mended_in, HasRoom}
use Rattle.exchange.specs.Written.{file_of}
use Rattle.exchange.proofs.Sets.{SetFacts, set_facts}
use Rattle.counts.specs.Tally.{everything, no_tally, counted_all, Few, ahead_of}
use Rattle.counts.specs.declared.Tally.{Tally}
use Rattle.counts.proofs.Tallies.{few-none, few-all, certs-found}
use Rattle.counts.proofs.Counting.{ahead-whole, ahead-tally}
use Rattle.sections.specs.Puts.{starts_of, put_counts, put_all, Lies}
use Rattle.write.specs.Calls.{telling, telled, told, Wrote, wrote, wrote_in}
use Rattle.write.specs.WriteFile.{Written}
use Rattle.write.specs.declared.WriteError.{WriteError}
use Rattle.write.specs.Calls.{Sought}
use Rattle.sections.specs.declared.Starts.{Starts}
use Rattle.write.proofs.Extends.{walk-few}
use Rattle.write.proofs.Listing.{listing-set}
use Rattle.sections.proofs.File.{file-end, file-written, file-lies}

-- every key is asked for
pub asks-low : {a : Asked} → a ≡ everything → a.low ≤ a.high
unfolding everything
asks-low e = omega (arith, ap (λ (b : Asked). b.low) e, ap (λ (b : Asked). b.high) e)

pub asks-high : {a : Asked} → a ≡ everything → a.high ≤ last_key
unfolding everything
asks-high e = omega (arith, ap (λ (b : Asked). b.high) e)

pub asks-room : (n c : ℕ) {a : Asked} (t : List ℕ) → a ≡ everything → HasRoom a (walk_of n c a t)
unfolding everything
asks-room n c {a} t e h = omega (arith, walk-few n c a t, ap (λ (b : Asked). b.room) e)

abbrev sought : Written → Report → Sought
sought answer x = record { answer = answer; report = x }

module _ (n c : ℕ) (t : List ℕ) (long : length t ≡ n * page_size) (most : n ≤ most_pages) (fit : fit0 n t ≡ true) (bytes : Bytes t) (narrow : c < 256 ^ 4)
    (r : Result Tally Tally) (is : r ≡ ahead_of n t) where
  abbrev walked : Walked
  walked = walk_of n c everything t

  abbrev file : List ℕ
  file = file_of walked.found

  pub known_whole : is_ok r ≡ (walk_of n c everything t).whole
  known_whole = ap is_ok is ∙ ahead-whole n t ∙ over-whole n t fit long c everything most bytes narrow

  set : SetFacts walked.found
  set = set_facts walked.found (listing-set (record { long = long; bytes = bytes; fit = fit; counter = narrow }))

  -- ── Only mended ─────────────────────────────────────────────────────────────────────────────────────────────────

  module _ {a : Asked} (all : a ≡ everything) (u : List ℕ) (x : Report) (m : mending u x ≡ mended_in (walk_of n c a t)) (out : List ℕ) where
    mended : mending u x ≡ mended_in walked
    mended = m ∙ ap (λ (b : Asked). mended_in (walk_of n c b t)) all

    only : (answer : Written) → telling (sought answer x) u out ≡ telled answer walked out
    only answer = ap (λ (y : Reported (List ℕ)). telling (sought answer y.report) y.left out) mended

    pub tell_damaged : (d : Tally) → r ≡ Err d → telling (sought (Err WriteError.Damaged) x) u out ≡ told out (walk_of n c everything t)
    unfolding told
    tell_damaged d q =
        let h : (walk_of n c everything t).whole ≡ false = sym known_whole ∙ ap is_ok q in
        only (Err WriteError.Damaged) ∙ sym (rw (told, h))

  -- ── Known to be whole ───────────────────────────────────────────────────────────────────────────────────────────

  module _ (tally : Tally) (q : r ≡ Ok tally) where
    whole : (walk_of n c everything t).whole ≡ true
    whole = sym known_whole ∙ ap is_ok q

    pub known_tally : tally ≡ counted_all no_tally (walk_of n c everything t).found
    known_tally = ahead-tally n t tally (sym q ∙ is) ∙ ap (counted_all no_tally) (dry-found n t fit long c everything most bytes narrow)

    pub known_few : Few tally
    known_few = subst Few (sym known_tally) (few-all no_tally walked.found few-none)

    pub known_certs : tally.certs ≤ 4294967295
    known_certs = omega (arith, ap (λ (x : Tally). x.certs) known_tally, certs-found walked.found, walk-few n c everything t)

    module _ (s : Starts) (at : s ≡ starts_of tally) (out : List ℕ) where
      starts-all : s ≡ starts_of (counted_all no_tally walked.found)
      starts-all = at ∙ ap starts_of known_tally

      ends : s.end ≡ length file
      ends = ap (λ (z : Starts). z.end) starts-all ∙ file-end walked.found set out

      pub tell_short : {a : Asked} → a ≡ everything → (u : List ℕ) (x : Report) → mending u x ≡ mended_in (walk_of n c a t)
          → length out < s.end → telling (sought (Err WriteError.Short) x) u out ≡ told out (walk_of n c everything t)
      unfolding told
      tell_short all u x m l =
          only all u x m out (Err WriteError.Short) ∙ sym (rw (told, whole, lt-leb (length file) (length out) (omega (arith, l, ends))))

      -- ── Written ─────────────────────────────────────────────────────────────────────────────────────────────────

      module _ (room : s.end ≤ length out) where
        holds : length file ≤ length out
        holds = omega (arith, ends, room)

        pub known_room : (starts_of tally).end ≤ length out
        known_room = subst (λ (z : Starts). z.end ≤ length out) at room

        module _ {a : Asked} (all : a ≡ everything) where
          pub known_lies : Lies s (counted_all no_tally (walk_of n c a t).found) (length out)
          known_lies =
              subst (λ (b : Asked). Lies s (counted_all no_tally (walk_of n c b t).found) (length out)) (sym all)
              (subst (λ (z : Starts). Lies z (counted_all no_tally walked.found) (length out)) (sym starts-all) (file-lies walked.found set out holds))

          pub known_all : (walk_of n c a t).whole ≡ true
          known_all = ap (λ (b : Asked). (walk_of n c b t).whole) all ∙ whole

          module _ (first : List ℕ) (f : first ≡ put_counts tally out) (u next : List ℕ) (x : Report) (g : wrote u next x ≡ wrote_in s first (walk_of n c a t)) where
            is-file : (put_all s no_tally walked.found first).out ≡ over file out
            is-file =
                ap (λ (z : Starts). (put_all z no_tally walked.found first).out) starts-all
                ∙ ap (λ (l : List ℕ). (put_all (starts_of (counted_all no_tally walked.found)) no_tally walked.found l).out) (f ∙ ap (λ (z : Tally). put_counts z out) known_tally)
                ∙ file-written walked.found set out holds

            pub tell_written : telling (sought (Ok s.end) x) u next ≡ told out (walk_of n c everything t)
            unfolding told wrote_in
            tell_written =
                ap (λ (y : Wrote). telling (sought (Ok s.end) y.report) y.table y.out) (g ∙ ap (λ (b : Asked). wrote_in s first (walk_of n c b t)) all)
                ∙ ap (λ (l : List ℕ). telled (Ok s.end) walked l) is-file
                ∙ ap (λ (k : ℕ). telled (Ok k) walked (over file out)) ends
                ∙ sym (rw (told, whole, le-leb (length file) (length out) holds))

-- an output as long as before
pub kept-lies : {s : Starts} {d : Tally} {j k : ℕ} → j ≡ k → Lies s d k → Lies s d j
kept-lies {s} {d} e l = subst (Lies s d) (sym e) l
