-- No second outcome satisfies a contract of this crate. Assumes nothing.
use mathlib.Core.Path.{refl, sym, ◌∙◌}
use Rattle.tight.specs.Tight.{Tight}
use Rattle.lines.proofs as this

pub reader_new_tight : Tight this.Reader.new.Kinds.ps this.Reader.new.Kinds.r this.Reader.new.Reads.Pre this.Reader.new.Reads.Post
reader_new_tight κs a pre z z' l l' p q = (p ∙ sym q, refl)

pub reader_feed_tight : Tight this.Reader.feed.Kinds.ps this.Reader.feed.Kinds.r this.Reader.feed.Reads.Pre this.Reader.feed.Reads.Post
reader_feed_tight κs a pre z z' l l' p q = (p ∙ sym q, refl)

pub reader_line_tight : Tight this.Reader.line.Kinds.ps this.Reader.line.Kinds.r this.Reader.line.Reads.Pre this.Reader.line.Reads.Post
reader_line_tight κs a pre z z' l l' p q = (p ∙ sym q, refl)
