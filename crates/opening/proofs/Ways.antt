-- The five ways through an opening, and what the lengths say. Assumes nothing.
use Rattle.std.specs.Prelude.{Ok, Err}
use mathlib.Core.Path.{◌≡◌, ap, sym, ◌∙◌}
use mathlib.Core.Bool.{true, false}
use mathlib.Core.List.{List}
use Prim.Native.Nat.{ℕ, ◌+◌, ◌*◌, ◌≤◌, ◌<◌}
use native.Mathlib.Omega.{arith}
use borrow.Author.Tests.{le-leb, lt-leb}
use lib.ListN.{length}
use Rattle.rules.specs.Layout.{page_size, fewest_pages, most_pages, last_number}
use Rattle.rules.specs.Table.{pages, good_lengths, fit0, number0, set_number, Tables}
use Rattle.rules.specs.Tree.{tree_of, good_tree}
use Rattle.rules.specs.Marks.{opened}
use Rattle.rules.specs.Open.{open_refused, open_done, opening}
use Rattle.rules.specs.declared.OpenError.{OpenError}
use Rattle.rules.specs.declared.Session.{Session}
use Rattle.rules.proofs.Bytes.Lengths.{pages-of, good_lengths_true}
use Rattle.marks.specs.Opened.{opened_by}
use Rattle.marks.proofs.Opening.{opened_by-opened}
use Rattle.seen.specs.Note.{note, nothing, good_marks}
use Rattle.seen.specs.declared.Seen.{Seen}
use Rattle.seen.proofs.Wholes.{good_notes, noted-child, noted-spared, noted-total, within-tree_of}
use Rattle.rules.specs.Handing.{left}
use Rattle.opening.specs.Opens.{refused_with}

module _ (w s : List ℕ) where
  pub wrong-length : good_lengths w s ≡ false → left (refused_with (Err OpenError.Length)) w s ≡ opening w s
  unfolding opening open_refused
  wrong-length e = rw (e, opening)

  module _ (e : good_lengths w s ≡ true) where
    l : Tables (pages w) w s
    l = good_lengths_true w s e

    -- both tables have as many pages
    n : pages s ≡ pages w
    n = pages-of s (pages w) l.stable

    pub same : length w ≡ length s
    same = l.working ∙ sym l.stable

    pub whole : length s ≡ pages s * page_size
    whole = omega (arith, n, l.stable)

    pub few : pages s ≤ most_pages
    few = omega (arith, n, l.most)

    pub some : fewest_pages ≤ pages s
    some = omega (arith, n, l.least)

    pub unfit : fit0 (pages s) s ≡ false → left (refused_with (Err OpenError.Damaged)) w s ≡ opening w s
    unfolding opening open_refused
    unfit f = rw (e, opening, f)

    module _ (f : fit0 (pages s) s ≡ true) where
      -- the notes decide as the rules do
      decided : (notes : Seen) → notes ≡ note nothing (tree_of (pages s) s) → good_marks notes ≡ good_tree (tree_of (pages s) s)
      decided notes h = ap good_marks h ∙ good_notes (pages s) few (tree_of (pages s) s) (within-tree_of (pages s) s f)

      module _ (notes : Seen) (noted : notes ≡ note nothing (tree_of (pages s) s)) where
        pub damaged : good_marks notes ≡ false → left (refused_with (Err OpenError.Damaged)) w s ≡ opening w s
        unfolding opening open_refused
        damaged g = rw (e, opening, f, sym (decided notes noted) ∙ g)

        module _ (g : good_marks notes ≡ true) where
          pub spent : last_number < number0 s → left (refused_with (Err OpenError.Spent)) w s ≡ opening w s
          unfolding opening open_refused
          spent h = rw (e, opening, f, sym (decided notes noted) ∙ g, lt-leb (number0 s) last_number h)

          session-opened : opened_by (pages s) (number0 s) notes.total notes.children notes.spared ≡ opened (pages s) (number0 s) (tree_of (pages s) s)
          session-opened =
              ap (λ (x : Seen). opened_by (pages s) (number0 s) x.total x.children x.spared) noted
              ∙ opened_by-opened (pages s) (number0 s) (note nothing (tree_of (pages s) s)).total (tree_of (pages s) s)
              (note nothing (tree_of (pages s) s)).children (note nothing (tree_of (pages s) s)).spared
              (noted-total (tree_of (pages s) s)) (noted-child (tree_of (pages s) s)) (noted-spared (tree_of (pages s) s))

          pub done : number0 s ≤ last_number
              → left (record { answer = Ok tt; session = opened_by (pages s) (number0 s) notes.total notes.children notes.spared }) (set_number s (number0 s + 1)) (set_number s (number0 s + 1)) ≡ opening w s
          unfolding opening open_done
          done h =
              rw (e, opening, f, sym (decided notes noted) ∙ g, le-leb (number0 s) last_number h)
              (ap (λ (x : Session). left (record { answer = Ok tt; session = x }) (set_number s (number0 s + 1)) (set_number s (number0 s + 1))) session-opened)
