-- No second outcome satisfies a contract of this crate. Assumes nothing.
use Prim.Native.Nat.{ℕ}
use mir.Syntax.{w8}
use mir.Val.{Fits}
use mathlib.Core.Path.{◌≡◌, refl, sym, ◌∙◌}
use Rattle.std.specs.Prelude.{Option, Result, Ok}
use Rattle.tight.specs.Tight.{Tight}
use Rattle.dry.specs.declared.Damaged.{Damaged}
use Rattle.dry.specs.declared.LeafAt.{LeafAt}
use Rattle.dry.proofs as this

pub dry_of_tight : Tight this.dry_of.Kinds.ps this.dry_of.Kinds.r this.dry_of.Reads.Pre this.dry_of.Reads.Post
dry_of_tight κs a pre z z' l l' p q = (p ∙ sym q, refl)

pub at_root_tight : Tight this.at_root.Kinds.ps this.at_root.Kinds.r this.at_root.Reads.Pre this.at_root.Reads.Post
at_root_tight κs a pre z z' l l' p q = (p ∙ sym q, refl)

pub next_tight : (KNOWN : ℕ) (fits : Fits w8 KNOWN)
    → Tight (this.next.Kinds.ps KNOWN fits) (this.next.Kinds.r KNOWN fits) (this.next.Reads.Pre KNOWN fits) (this.next.Reads.Post KNOWN fits)
next_tight KNOWN fits κs a pre z z' l l' p q =
    let e = p ∙ sym q in
    ((λ i. (e i).step), (λ i. (l.0, (l.1.0, (l.1.1.0, ((e i).marks, l.1.1.1.1))))))

pub next_leaf_tight : Tight this.next_leaf.Kinds.ps this.next_leaf.Kinds.r this.next_leaf.Reads.Pre this.next_leaf.Reads.Post
next_leaf_tight κs a pre z z' l l' p q =
    let e = p ∙ sym q in
    ((λ i. (e i).leaf), (λ i. (l.0, (l.1.0, (l.1.1.0, ((e i).marks, l.1.1.1.1))))))

same-leaf : (x y : Option LeafAt) → ◌≡◌ {A = Result (Option LeafAt) Damaged} (Ok x) (Ok y) → x ≡ y
same-leaf x y h = cc

pub next_known_tight : Tight this.next_known.Kinds.ps this.next_known.Kinds.r this.next_known.Reads.Pre this.next_known.Reads.Post
next_known_tight κs a pre z z' l l' p q =
    let e = p ∙ sym q in
    (same-leaf z z' (λ i. (e i).leaf), (λ i. (l.0, (l.1.0, (l.1.1.0, ((e i).marks, l.1.1.1.1))))))

pub mends_nothing_tight : Tight this.Dry.mends_nothing.Kinds.ps this.Dry.mends_nothing.Kinds.r this.Dry.mends_nothing.Reads.Pre this.Dry.mends_nothing.Reads.Post
mends_nothing_tight κs a pre z z' l l' p q = (p ∙ sym q, refl)

pub holds_tight : Tight this.KeyRange.holds.Kinds.ps this.KeyRange.holds.Kinds.r this.KeyRange.holds.Reads.Pre this.KeyRange.holds.Reads.Post
holds_tight κs a pre z z' l l' p q = (p ∙ sym q, refl)

pub tally_leaf_tight : Tight this.tally.tally_leaf.Kinds.ps this.tally.tally_leaf.Kinds.r this.tally.tally_leaf.Reads.Pre this.tally.tally_leaf.Reads.Post
tally_leaf_tight κs a pre z z' l l' p q = (p ∙ sym q, refl)
