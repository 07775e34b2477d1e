-- No second outcome satisfies a contract of this crate, for any type of item and any room. Assumes nothing.
use Prim.Native.Nat.{ℕ}
use denote.RattleType.{RattleType}
use denote.Param.Laws.{Laws, IsCopy}
use mir.Syntax.{Dict, w64}
use mir.Val.{Fits}
use mathlib.Core.Path.{refl, sym, ◌∙◌}
use Rattle.std.specs.declared.clone.Clone as clone
use Rattle.few.specs.declared.Spare as spare
use Rattle.tight.specs.Tight.{Tight}
use Rattle.tight.specs.Lent.{TightLent}
use Rattle.few.proofs as this

module _ (T : RattleType) (N : ℕ) (laws : Laws T) (fits : Fits w64 N) (copy : IsCopy T) (S : spare.Ghosts T.Denot) (s : Dict) (C : clone.Ghosts T.Denot) (c : Dict) where
  pub few-new_tight : Tight (this.Few.new.Kinds.ps T N laws fits copy S s C c) (this.Few.new.Kinds.r T N laws fits copy S s C c) (this.Few.new.Reads.Pre T N laws fits copy S s C c) (this.Few.new.Reads.Post T N laws fits copy S s C c)
  few-new_tight κs a pre z z' l l' p q = (p ∙ sym q, refl)

  pub few-push_tight : Tight (this.Few.push.Kinds.ps T N laws fits copy S s C c) (this.Few.push.Kinds.r T N laws fits copy S s C c) (this.Few.push.Reads.Pre T N laws fits copy S s C c) (this.Few.push.Reads.Post T N laws fits copy S s C c)
  few-push_tight κs a pre z z' l l' p q = (refl, λ i. ((p ∙ sym q) i, l.1))

  pub few-push_front_tight : Tight (this.Few.push_front.Kinds.ps T N laws fits copy S s C c) (this.Few.push_front.Kinds.r T N laws fits copy S s C c) (this.Few.push_front.Reads.Pre T N laws fits copy S s C c) (this.Few.push_front.Reads.Post T N laws fits copy S s C c)
  few-push_front_tight κs a pre z z' l l' p q = (refl, λ i. ((p ∙ sym q) i, l.1))

  pub few-extend_from_slice_tight : Tight (this.Few.extend_from_slice.Kinds.ps T N laws fits copy S s C c) (this.Few.extend_from_slice.Kinds.r T N laws fits copy S s C c) (this.Few.extend_from_slice.Reads.Pre T N laws fits copy S s C c) (this.Few.extend_from_slice.Reads.Post T N laws fits copy S s C c)
  few-extend_from_slice_tight κs a pre z z' l l' p q = (refl, λ i. ((p ∙ sym q) i, l.1))

  pub few-as_slice_tight : TightLent (this.Few.as_slice.Kinds.ps T N laws fits copy S s C c) (this.Few.as_slice.Kinds.r T N laws fits copy S s C c) (this.Few.as_slice.Reads.Pre T N laws fits copy S s C c) (this.Few.as_slice.Reads.Post T N laws fits copy S s C c) (λ κs z. z.now)
  few-as_slice_tight κs a pre z z' l l' p q = (p.0 ∙ sym q.0, refl)

pub u8-spare_tight : Tight this.U8Spare.spare.Kinds.ps this.U8Spare.spare.Kinds.r this.U8Spare.spare.Reads.Pre this.U8Spare.spare.Reads.Post
u8-spare_tight κs a pre z z' l l' p q = (p ∙ sym q, refl)

pub u16-spare_tight : Tight this.U16Spare.spare.Kinds.ps this.U16Spare.spare.Kinds.r this.U16Spare.spare.Reads.Pre this.U16Spare.spare.Reads.Post
u16-spare_tight κs a pre z z' l l' p q = (p ∙ sym q, refl)
