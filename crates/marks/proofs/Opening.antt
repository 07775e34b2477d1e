-- The session of an opening: from marks of the numbers that a tree names, it is the one that the rules give for the
-- tree. Assumes nothing.
use mathlib.Core.Path.{◌≡◌, refl, ap, ◌∙◌}
use mathlib.Core.Bool.{Bool, false, not, ◌&&◌}
use mathlib.Core.List.{List}
use Prim.Native.Nat.{ℕ, ◌<◌}
use lib.ListN.{length, get_or, replicate}
use Rattle.rules.specs.Layout.{most_pages}
use Rattle.rules.specs.Test.{mem}
use Rattle.rules.specs.Tree.{Tree}
use Rattle.rules.specs.Marks.{begun, wraps, marks_from, marks, is_page, opened}
use Rattle.marks.specs.Opened.{free_at_opening, opened_by}
use Rattle.rules.proofs.Bytes.Marked.{marks-same}

-- the marks of a list of numbers
abbrev pub Marking : List ℕ → List Bool → Type 0
Marking numbers xs = (i : ℕ) → i < most_pages → get_or xs i false ≡ mem i numbers

pub none_marked_lem : replicate most_pages false ≡ marks (λ i. false)
unfolding marks marks_from
none_marked_lem = refl

-- what code makes of the free marks
pub opened_by-made : (n c total : ℕ) (children spared free : List Bool) → free ≡ marks (free_at_opening n children spared)
    → begun n c total free (replicate most_pages false) ≡ opened_by n c total children spared
unfolding opened_by
opened_by-made n c total children spared free e =
    ap (begun n c total free) none_marked_lem ∙ ap (λ (f : List Bool). begun n c total f (marks (λ i. false))) e

pub opened_by-opened : (n c total : ℕ) (t : Tree) (children spared : List Bool) → total ≡ wraps (length t.certs)
    → Marking t.children children → Marking t.spared spared → opened_by n c total children spared ≡ opened n c t
unfolding opened_by opened
opened_by-opened n c total t children spared e h k =
    ap (λ (i : ℕ). begun n c i (marks (free_at_opening n children spared)) (marks (λ i. false))) e
    ∙ ap (λ (free : List Bool). begun n c (wraps (length t.certs)) free (marks (λ i. false)))
    (marks-same (free_at_opening n children spared) (λ i. is_page n i && (not (mem i t.children) && not (mem i t.spared)))
    (λ (i : ℕ) (l : i < most_pages). rw (h i l, k i l)))
