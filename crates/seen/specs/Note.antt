-- What a walk notes of a tree: the tree's lists of numbers as marks, and the number of its certificates. Noting one tree
-- after the other is noting them joined, so a walk may hand its notes on from page to page.
use Rattle.std.specs.Prelude.{ℕ, ◌+◌, Bool, true, false, not, ◌&&◌, List, [], ◌∷◌, replicate, ◌==◌, slice_index_or, slice_set}
use Rattle.rules.specs.Layout.{most_pages}
use Rattle.rules.specs.Test.{between}
use Rattle.rules.specs.Entry.{Cert}
use Rattle.rules.specs.Marks.{wraps}
use Rattle.rules.specs.Tree.{Tree}
use Rattle.seen.specs.declared.Seen.{Seen}
use Rattle.seen.specs.declared.Tally.{Tally}

-- each number of a list is marked
unfoldable pub mark : List Bool → List ℕ → List Bool
mark m [] = m
mark m (i ∷ is) = mark (slice_set m i true) is

-- none of them was marked before, and none comes twice
unfoldable pub unmarked : List Bool → List ℕ → Bool
unmarked m [] = true
unmarked m (i ∷ is) = not (slice_index_or m i false) && unmarked (slice_set m i true) is

-- so many certificates, and one more for each of a list
unfoldable pub count_on : ℕ → List Cert → ℕ
count_on total [] = total
count_on total (x ∷ xs) = count_on (wraps (total + 1)) xs

-- one more, if its key is in a range
unfoldable pub count_if : ℕ → ℕ → ℕ → ℕ → ℕ
count_if low high key total = elim (between low high key) [ true ↦ wraps (total + 1) | false ↦ total ]

-- notes as they are lent from page to page, in parts
abbrev pub tally : Bool → ℕ → Tally
tally whole total = record { whole = whole; total = total }

abbrev pub seen_of : Tally → List Bool → List Bool → Seen
seen_of sum children spared = record { whole = sum.whole; total = sum.total; children = children; spared = spared }

-- what is noted of a tree, after what was noted before it
unfoldable pub note : Seen → Tree → Seen
note s t = record {
  whole = s.whole && (t.whole && unmarked s.children t.children);
  total = count_on s.total t.certs;
  children = mark s.children t.children;
  spared = mark s.spared t.spared;
}

-- before a walk nothing is noted
unfoldable pub nothing : Seen
nothing = seen_of (tally true 0) (replicate most_pages false) (replicate most_pages false)

-- a place by itself: its child, the page that shows it if that is another one, and its certificates
unfoldable pub named : ℕ → ℕ → List Cert → Tree
named child page certs = record {
  whole = true;
  children = child ∷ [];
  spared = elim (page == child) [ true ↦ [] | false ↦ page ∷ [] ];
  certs = certs;
}

-- no number is marked in both lists
unfoldable pub apart : List Bool → List Bool → Bool
apart [] ys = true
apart (x ∷ xs) [] = true
apart (x ∷ xs) (y ∷ ys) = not (x && y) && apart xs ys

-- what opening asks of the tree, by the marks
unfoldable pub good_marks : Seen → Bool
good_marks s = s.whole && apart s.children s.spared
