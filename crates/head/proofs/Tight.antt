-- No second outcome satisfies a contract of this crate. Assumes nothing.
use mathlib.Core.Path.{refl, sym, ◌∙◌}
use Rattle.tight.specs.Tight.{Tight}
use Rattle.tight.specs.Lent.{TightLent}
use Rattle.head.proofs as this

pub table-page_tight : TightLent this.Table.page.Kinds.ps this.Table.page.Kinds.r this.Table.page.Reads.Pre this.Table.page.Reads.Post (λ κs z. z.now)
table-page_tight κs a pre z z' l l' p q = (p.0 ∙ sym q.0, refl)

pub page_at_tight : TightLent this.page_at.Kinds.ps this.page_at.Kinds.r this.page_at.Reads.Pre this.page_at.Reads.Post (λ κs z. z.now)
page_at_tight κs a pre z z' l l' p q = (p.0 ∙ sym q.0, refl)

pub read_head_tight : Tight this.read_head.Kinds.ps this.read_head.Kinds.r this.read_head.Reads.Pre this.read_head.Reads.Post
read_head_tight κs a pre z z' l l' p q = (p ∙ sym q, refl)

pub cert_key_tight : Tight this.cert_key.Kinds.ps this.cert_key.Kinds.r this.cert_key.Reads.Pre this.cert_key.Reads.Post
cert_key_tight κs a pre z z' l l' p q = (p ∙ sym q, refl)

pub cert_record_tight : Tight this.cert_record.Kinds.ps this.cert_record.Kinds.r this.cert_record.Reads.Pre this.cert_record.Reads.Post
cert_record_tight κs a pre z z' l l' p q = (p ∙ sym q, refl)

pub child_key_tight : Tight this.child_key.Kinds.ps this.child_key.Kinds.r this.child_key.Reads.Pre this.child_key.Reads.Post
child_key_tight κs a pre z z' l l' p q = (p ∙ sym q, refl)

pub child_number_tight : Tight this.child_number.Kinds.ps this.child_number.Kinds.r this.child_number.Reads.Pre this.child_number.Reads.Post
child_number_tight κs a pre z z' l l' p q = (p ∙ sym q, refl)

pub child_previous_tight : Tight this.child_previous.Kinds.ps this.child_previous.Kinds.r this.child_previous.Reads.Pre this.child_previous.Reads.Post
child_previous_tight κs a pre z z' l l' p q = (p ∙ sym q, refl)

pub child_birth_tight : Tight this.child_birth.Kinds.ps this.child_birth.Kinds.r this.child_birth.Reads.Pre this.child_birth.Reads.Post
child_birth_tight κs a pre z z' l l' p q = (p ∙ sym q, refl)

pub child_entry_tight : Tight this.child_entry.Kinds.ps this.child_entry.Kinds.r this.child_entry.Reads.Pre this.child_entry.Reads.Post
child_entry_tight κs a pre z z' l l' p q = (p ∙ sym q, refl)

pub kid_tight : Tight this.kid.Kinds.ps this.kid.Kinds.r this.kid.Reads.Pre this.kid.Reads.Post
kid_tight κs a pre z z' l l' p q = (p ∙ sym q, refl)

pub read_zero_tight : Tight this.read_zero.Kinds.ps this.read_zero.Kinds.r this.read_zero.Reads.Pre this.read_zero.Reads.Post
read_zero_tight κs a pre z z' l l' p q = (p ∙ sym q, refl)

pub fit0_tight : Tight this.fit0.Kinds.ps this.fit0.Kinds.r this.fit0.Reads.Pre this.fit0.Reads.Post
fit0_tight κs a pre z z' l l' p q = (p ∙ sym q, refl)

pub root_place_tight : Tight this.root_place.Kinds.ps this.root_place.Kinds.r this.root_place.Reads.Pre this.root_place.Reads.Post
root_place_tight κs a pre z z' l l' p q = (p ∙ sym q, refl)

pub number_tight : Tight this.number.Kinds.ps this.number.Kinds.r this.number.Reads.Pre this.number.Reads.Post
number_tight κs a pre z z' l l' p q = (p ∙ sym q, refl)

pub set_number_tight : Tight this.set_number.Kinds.ps this.set_number.Kinds.r this.set_number.Reads.Pre this.set_number.Reads.Post
set_number_tight κs a pre z z' l l' p q = (refl, λ i. ((p ∙ sym q) i, l.1))

pub set_root_tight : Tight this.set_root.Kinds.ps this.set_root.Kinds.r this.set_root.Reads.Pre this.set_root.Reads.Post
set_root_tight κs a pre z z' l l' p q = (refl, λ i. ((p ∙ sym q) i, l.1))
