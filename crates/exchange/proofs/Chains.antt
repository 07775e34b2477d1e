-- Items that follow each other to a section's end, which is what the judgement asks of them. Assumes nothing.
use Rattle.std.specs.Prelude.{Ok}
use mathlib.Core.Path.{◌≡◌, refl, ◌∙◌}
use mathlib.Core.Logic.{◌⊎◌, inl, inr}
use mathlib.Core.Bool.{true}
use mathlib.Core.List.{List, [], ◌∷◌}
use Prim.Native.Nat.{ℕ, zero, suc, ◌+◌, ◌-◌, ◌*◌, ◌≤◌, ◌<◌}
use native.Mathlib.Nat.{mul-suc}
use native.Mathlib.Omega.{arith}
use borrow.Author.Tests.{lt-ltb}
use lib.ListN.{length}
use Rattle.exchange.specs.Item.{Item, size, item_at}
use Rattle.exchange.specs.Judged.{follows, items_judged}
use Rattle.exchange.specs.Told.{items_from}
use Rattle.exchange.specs.declared.Section.{Section}
use Rattle.exchange.proofs.Steps.{Followed, followed, follows_next, follows_same, items-end, items_on}
use Rattle.exchange.proofs.Parts.{fine_first, fine_last}

-- each follows the one before it, and the last one leaves nothing bare
unfoldable pub Chain : ℕ → ℕ → ℕ → List Item → Type 0
Chain over used last [] = used ≡ over
Chain over used last (i ∷ is) = Followed over used last i.place i.number × Chain over (i.place + 1) i.number is

-- ── The judgement ───────────────────────────────────────────────────────────────────────────────────────────────

pub followed_follows : (over used last place number : ℕ) → Followed over used last place number → follows over used last place number ≡ true
followed_follows over used last place number h = go h.next
  where
    go : (place ≡ used) ⊎ ((place + 1 ≡ used) × (last < number)) → follows over used last place number ≡ true
    go (inl e) = follows_next over used last place number h.real h.inside e
    go (inr e) = follows_same over used last place number h.real h.inside e.0 ∙ lt-ltb last number e.1

module _ (s : Section) (f : List ℕ) (over : ℕ) where
  pub fine_chain : (n at used last : ℕ) → items_judged s f over n at used last ≡ Ok tt → Chain over used last (items_from s f n at)
  unfolding Chain items_from
  fine_chain zero at used last h = fine_last s f over at used last h
  fine_chain (suc n) at used last h =
      let r = fine_first s f over n at used last h in
      let i = item_at s f at in
      (followed over used last i.place i.number r.1, fine_chain n (at + size s) (i.place + 1) i.number r.2)

  pub chain_fine : (n at used last : ℕ) → at + size s * n ≤ length f → Chain over used last (items_from s f n at) → items_judged s f over n at used last ≡ Ok tt
  unfolding Chain items_from
  chain_fine zero at used last p h = items-end s f over zero at used last refl h
  chain_fine (suc n) at used last p h =
      let i = item_at s f at in
      let m : size s * suc n ≡ size s * n + size s = mul-suc (size s) n in
      let e : suc n - 1 ≡ n = omega arith in
      items_on s f over (suc n) at used last (size s) i.place i.number refl refl refl (omega (arith, m)) (omega arith)
      (followed_follows over used last i.place i.number h.0)
      ∙ rw e (chain_fine n (at + size s) (i.place + 1) i.number (omega (arith, m)) h.1)
