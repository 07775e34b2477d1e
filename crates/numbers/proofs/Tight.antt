-- No second outcome satisfies a contract of this crate. Assumes nothing.
use mathlib.Core.Path.{refl, sym, ◌∙◌}
use denote.RattleType.{RattleType}
use denote.Param.Laws.{Laws, IsCopy}
use mir.Syntax.{Dict}
use Rattle.std.specs.declared.clone.Clone
use Rattle.numbers.specs.declared.Refusal
use Rattle.tight.specs.Tight.{Tight}
use Rattle.numbers.proofs as this

pub looked_record_tight : Tight this.looked_record.Kinds.ps this.looked_record.Kinds.r this.looked_record.Reads.Pre this.looked_record.Reads.Post
looked_record_tight κs a pre z z' l l' p q = (p ∙ sym q, refl)

pub newest_issue_tight : Tight this.newest_issue.Kinds.ps this.newest_issue.Kinds.r this.newest_issue.Reads.Pre this.newest_issue.Reads.Post
newest_issue_tight κs a pre z z' l l' p q = (p ∙ sym q, refl)

pub newest_record_tight : Tight this.newest_record.Kinds.ps this.newest_record.Kinds.r this.newest_record.Reads.Pre this.newest_record.Reads.Post
newest_record_tight κs a pre z z' l l' p q = (p ∙ sym q, refl)

pub any_yes_tight : Tight this.any_yes.Kinds.ps this.any_yes.Kinds.r this.any_yes.Reads.Pre this.any_yes.Reads.Post
any_yes_tight κs a pre z z' l l' p q = (p ∙ sym q, refl)

pub listed_count_tight : Tight this.listed_count.Kinds.ps this.listed_count.Kinds.r this.listed_count.Reads.Pre this.listed_count.Reads.Post
listed_count_tight κs a pre z z' l l' p q = (p ∙ sym q, refl)

pub reason_tight : Tight this.reason.Kinds.ps this.reason.Kinds.r this.reason.Reads.Pre this.reason.Reads.Post
reason_tight κs a pre z z' l l' p q = (p ∙ sym q, refl)

pub number_tight : (T E : RattleType) (t : Laws T) (e : Laws E) (ct : IsCopy T) (ce : IsCopy E)
    (gt : Clone.Ghosts T.Denot) (dt : Dict) (refusal : Refusal.Ghosts E.Denot) (dr : Dict) (ge : Clone.Ghosts E.Denot) (de : Dict)
    → Tight (this.number.Kinds.ps T E t e ct ce) (this.number.Kinds.r T E t e ct ce)
    (this.number.Reads.Pre T E t e ct ce gt dt refusal dr ge de)
    (this.number.Reads.Post T E t e ct ce gt dt refusal dr ge de)
number_tight T E t e ct ce gt dt refusal dr ge de κs a pre z z' l l' p q = (p ∙ sym q, refl)

pub length_error-number_tight : Tight this.LengthErrorRefusal.number.Kinds.ps this.LengthErrorRefusal.number.Kinds.r this.LengthErrorRefusal.number.Reads.Pre this.LengthErrorRefusal.number.Reads.Post
length_error-number_tight κs a pre z z' l l' p q = (p ∙ sym q, refl)

pub open_error-number_tight : Tight this.OpenErrorRefusal.number.Kinds.ps this.OpenErrorRefusal.number.Kinds.r this.OpenErrorRefusal.number.Reads.Pre this.OpenErrorRefusal.number.Reads.Post
open_error-number_tight κs a pre z z' l l' p q = (p ∙ sym q, refl)

pub insert_error-number_tight : Tight this.InsertErrorRefusal.number.Kinds.ps this.InsertErrorRefusal.number.Kinds.r this.InsertErrorRefusal.number.Reads.Pre this.InsertErrorRefusal.number.Reads.Post
insert_error-number_tight κs a pre z z' l l' p q = (p ∙ sym q, refl)

pub find_error-number_tight : Tight this.FindErrorRefusal.number.Kinds.ps this.FindErrorRefusal.number.Kinds.r this.FindErrorRefusal.number.Reads.Pre this.FindErrorRefusal.number.Reads.Post
find_error-number_tight κs a pre z z' l l' p q = (p ∙ sym q, refl)

pub any_error-number_tight : Tight this.AnyErrorRefusal.number.Kinds.ps this.AnyErrorRefusal.number.Kinds.r this.AnyErrorRefusal.number.Reads.Pre this.AnyErrorRefusal.number.Reads.Post
any_error-number_tight κs a pre z z' l l' p q = (p ∙ sym q, refl)

pub list_error-number_tight : Tight this.ListErrorRefusal.number.Kinds.ps this.ListErrorRefusal.number.Kinds.r this.ListErrorRefusal.number.Reads.Pre this.ListErrorRefusal.number.Reads.Post
list_error-number_tight κs a pre z z' l l' p q = (p ∙ sym q, refl)

pub sync_error-number_tight : Tight this.SyncErrorRefusal.number.Kinds.ps this.SyncErrorRefusal.number.Kinds.r this.SyncErrorRefusal.number.Reads.Pre this.SyncErrorRefusal.number.Reads.Post
sync_error-number_tight κs a pre z z' l l' p q = (p ∙ sym q, refl)
