-- A page halved: what the calls one after the other ask for, and what they leave together. Assumes nothing.
use Prim.Native.Nat.{ℕ}
use native.Mathlib.Omega.{arith}
use mathlib.Core.Path.{◌≡◌, sym, ap, ◌∙◌, subst}
use mathlib.Core.List.{List}
use lib.ListN.{length, length-take, length-drop}
use Rattle.rules.specs.Layout.{leaf_half, inner_half}
use Rattle.rules.specs.Page.{Page, fresh}
use Rattle.rules.specs.Table.{read, build}
use Rattle.rules.specs.Marks.{taken}
use Rattle.rules.specs.Insert.{divide, lower_half, upper_half, lower_page, upper_page, twins, changed, making, halve}
use Rattle.rules.specs.declared.Place.{Place}
use Rattle.rules.specs.declared.Session.{Session}
use Rattle.rules.proofs.Entries.Views.{shaped-read, shaped-lower, shaped-upper}
use Rattle.rules.proofs.Bytes.Pages.{room-page_bytes}
use Rattle.rules.proofs.Bytes.Tables.{Room, read-build-other}
use Rattle.head.specs.declared.Head.{Head}
use Rattle.head.proofs.Headers.{head_of}
use Rattle.build.specs.Range.{Divides}
use Rattle.edit.specs.Takes.{TakesTwins, twins_of}
use Rattle.split.specs.Split.{step_at, previous_by, retire_by, side_of, Halves}
use Rattle.split.proofs.ByHead.{previous_by-of, retire_by-of}

-- each half has room for its bytes
pub room-lower : (c : ℕ) (t : List ℕ) (i : ℕ) → Room (lower_page c (read t i))
unfolding lower_page fresh lower_half
room-lower c t i =
    let v = (read t i).view in
    room-page_bytes (lower_page c (read t i)) (shaped-lower v (shaped-read t i))
    (omega (arith, length-take leaf_half v.certs)) (omega (arith, length-take inner_half v.children))

pub room-upper : (c : ℕ) (t : List ℕ) (i : ℕ) → Divides (read t i).view → Room (upper_page c (read t i))
unfolding upper_page fresh upper_half
room-upper c t i d =
    let v = (read t i).view in
    room-page_bytes (upper_page c (read t i)) (shaped-upper v (shaped-read t i))
    (omega (arith, length-drop leaf_half v.certs, d.roomy.certs)) (omega (arith, length-drop inner_half v.children, d.roomy.children))

module _ {t : List ℕ} {e : Place} {h : Head} {lower upper at : ℕ} (H : Halves t e h lower upper at) (c : ℕ) where
  abbrev page : Page
  page = read t e.child

  module _ (t₁ : List ℕ) (q₁ : t₁ ≡ build t lower (lower_page c page)) where
    pub child-stays : read t₁ e.child ≡ page
    child-stays =
        ap (λ (u : List ℕ). read u e.child) q₁
        ∙ read-build-other t lower (lower_page c page) (omega (arith, H.lower_in)) (room-lower c t e.child) e.child H.child_lower

    above-first : read t₁ at ≡ read t at
    above-first =
        ap (λ (u : List ℕ). read u at) q₁
        ∙ read-build-other t lower (lower_page c page) (omega (arith, H.lower_in)) (room-lower c t e.child) at H.above_lower

    pub divides-still : Divides (read t₁ e.child).view
    divides-still = subst (λ (p : Page). Divides p.view) (sym child-stays) H.divides

    module _ (long : length t₁ ≡ length t) (t₂ : List ℕ) (q₂ : t₂ ≡ build t₁ upper (upper_page c (read t₁ e.child))) where
      above-stays : read t₂ at ≡ read t at
      above-stays =
          ap (λ (u : List ℕ). read u at) q₂
          ∙ (read-build-other t₁ upper (upper_page c (read t₁ e.child)) (omega (arith, H.upper_in, long)) (room-upper c t₁ e.child divides-still) at H.above_upper
          ∙ above-first)

      low_of : h.low ≡ page.low
      unfolding read head_of
      low_of = ap (λ (a : Head). a.low) H.head

      pub takes-still : (middle : ℕ) → middle ≡ divide page.view → TakesTwins h.low middle (read t₂ at).view
      takes-still middle m =
          subst (λ (l : ℕ). TakesTwins l middle (read t₂ at).view) (sym low_of)
          (subst (λ (d : ℕ). TakesTwins page.low d (read t₂ at).view) (sym m)
          (subst (λ (p : Page). TakesTwins page.low (divide page.view) p.view) (sym above-stays) H.takes))

      pub halved : (k : ℕ) (s : Session) (middle previous : ℕ) (t₃ : List ℕ) (i : ℕ)
          → middle ≡ divide page.view → previous ≡ previous_by c e h
          → t₃ ≡ changed c (twins_of c h.low lower middle upper previous) t₂ at
          → i ≡ side_of k middle lower upper
          → making t₃ (retire_by c e.child h (taken upper (taken lower s))) i
          ≡ halve c k (step_at t e) lower upper (making t s at)
      unfolding halve twins twins_of side_of head_of
      halved k s middle previous t₃ i qm qp q₃ qi =
          rw (q₃, q₂, q₁, child-of, qi, qm, qp, H.head, previous_by-of c e page, retire_by-of c e page)
        where
          child-of : read (build t lower (lower_page c page)) e.child ≡ page
          child-of = ap (λ (u : List ℕ). read u e.child) (sym q₁) ∙ child-stays
