-- No second outcome satisfies a contract of this crate. Assumes nothing.
use mathlib.Core.Path.{refl, sym, ◌∙◌}
use Rattle.tight.specs.Tight.{Tight}
use Rattle.entries.proofs as this

pub entries-certs_tight : Tight this.layout.Entries.certs.Kinds.ps this.layout.Entries.certs.Kinds.r this.layout.Entries.certs.Reads.Pre this.layout.Entries.certs.Reads.Post
entries-certs_tight κs a pre z z' l l' p q = (p ∙ sym q, refl)

pub entries-children_tight : Tight this.layout.Entries.children.Kinds.ps this.layout.Entries.children.Kinds.r this.layout.Entries.children.Reads.Pre this.layout.Entries.children.Reads.Post
entries-children_tight κs a pre z z' l l' p q = (p ∙ sym q, refl)

pub entries-of_kind_tight : Tight this.layout.Entries.of_kind.Kinds.ps this.layout.Entries.of_kind.Kinds.r this.layout.Entries.of_kind.Reads.Pre this.layout.Entries.of_kind.Reads.Post
entries-of_kind_tight κs a pre z z' l l' p q = (p ∙ sym q, refl)

pub entries-of_tight : Tight this.layout.Entries.of.Kinds.ps this.layout.Entries.of.Kinds.r this.layout.Entries.of.Reads.Pre this.layout.Entries.of.Reads.Post
entries-of_tight κs a pre z z' l l' p q = (p ∙ sym q, refl)

pub entries-at_tight : Tight this.layout.Entries.at.Kinds.ps this.layout.Entries.at.Kinds.r this.layout.Entries.at.Reads.Pre this.layout.Entries.at.Reads.Post
entries-at_tight κs a pre z z' l l' p q = (p ∙ sym q, refl)

pub entries-key_tight : Tight this.layout.Entries.key.Kinds.ps this.layout.Entries.key.Kinds.r this.layout.Entries.key.Reads.Pre this.layout.Entries.key.Reads.Post
entries-key_tight κs a pre z z' l l' p q = (p ∙ sym q, refl)

pub entries-spot_tight : Tight this.layout.Entries.spot.Kinds.ps this.layout.Entries.spot.Kinds.r this.layout.Entries.spot.Reads.Pre this.layout.Entries.spot.Reads.Post
entries-spot_tight κs a pre z z' l l' p q = (p ∙ sym q, refl)

pub entries-start_tight : Tight this.layout.Entries.start.Kinds.ps this.layout.Entries.start.Kinds.r this.layout.Entries.start.Reads.Pre this.layout.Entries.start.Reads.Post
entries-start_tight κs a pre z z' l l' p q = (p ∙ sym q, refl)

pub copy_tight : Tight this.copy.Kinds.ps this.copy.Kinds.r this.copy.Reads.Pre this.copy.Reads.Post
copy_tight κs a pre z z' l l' p q = (refl, λ i. ((p ∙ sym q) i, l.1))

pub clear_tight : Tight this.clear.Kinds.ps this.clear.Kinds.r this.clear.Reads.Pre this.clear.Reads.Post
clear_tight κs a pre z z' l l' p q = (refl, λ i. ((p ∙ sym q) i, l.1))

pub write_cert_tight : Tight this.write_cert.Kinds.ps this.write_cert.Kinds.r this.write_cert.Reads.Pre this.write_cert.Reads.Post
write_cert_tight κs a pre z z' l l' p q = (refl, λ i. ((p ∙ sym q) i, l.1))

pub write_child_tight : Tight this.write_child.Kinds.ps this.write_child.Kinds.r this.write_child.Reads.Pre this.write_child.Reads.Post
write_child_tight κs a pre z z' l l' p q = (refl, λ i. ((p ∙ sym q) i, l.1))
