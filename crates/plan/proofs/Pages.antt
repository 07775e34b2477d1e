-- What the headers of a way decide is what the rules decide by its pages. Assumes nothing.
use Rattle.std.specs.Prelude.{Ok, Err}
use Prim.Native.Nat.{ℕ, suc}
use native.Mathlib.Nat.{add-zero, zero-add}
use mathlib.Core.Path.{◌≡◌, refl, sym, ap, ◌∙◌, subst}
use mathlib.Core.Bool.{Bool, true, false, not, ◌&&◌, ◌||◌}
use mathlib.Core.List.{List, [], ◌∷◌}
use lib.Dec.{leb, eqb}
use lib.ListN.{length, take}
use Rattle.rules.specs.Layout.{leaf_room, inner_room, top_kind}
use Rattle.rules.specs.Entry.{Cert, Child}
use Rattle.rules.specs.Page.{View, Page, is_leaf, count}
use Rattle.rules.specs.Marks.{free_pages}
use Rattle.rules.specs.Walk.{Step, numbers}
use Rattle.rules.specs.Insert.{full, splitting, too_soon, root_splits, new_pages, too_high, no_room}
use Rattle.rules.specs.Answer.{Inserted}
use Rattle.rules.specs.declared.InsertError.{InsertError}
use Rattle.rules.specs.declared.Session.{Session}
use Rattle.rules.proofs.Bytes.All.{All, nil, cons}
use Rattle.rules.proofs.Entries.Views.{view_of, same_view, Shaped, leaf_kind_lem, inner-kind}
use Rattle.head.specs.declared.Head.{Head}
use Rattle.head.proofs.Headers.{head_of}
use Rattle.way.specs.Ways.{way_for}
use Rattle.way.specs.declared.Step as way
use Rattle.way.proofs.Descent.{length-way}
use Rattle.plan.specs.Plan.{heads_of, full_by, splits_by, late_by, too_soon_by, last_kind, too_high_by, numbers_of, need_by, stuck_by, no_room_by, chosen_by, plan_by, Headed, plan_of}
use Rattle.plan.proofs.Heads.{full-leaf, full-inner}

-- ── One page ────────────────────────────────────────────────────────────────────────────────────────────────────

or-false : (b : Bool) → (b || false) ≡ b
or-false true = refl
or-false false = refl

full-certs : (kind : ℕ) (certs : List Cert) → leb leaf_room (count (view_of kind certs [])) ≡ full (view_of kind certs [])
unfolding count full
full-certs kind certs = rw (add-zero (length certs)) (sym (or-false (leb leaf_room (length certs))))

full-children : (kind : ℕ) (children : List Child) → leb inner_room (count (view_of kind [] children)) ≡ full (view_of kind [] children)
unfolding count full
full-children kind children = rw (zero-add (length children))

-- a page is full by its header exactly when it is by its entries
pub full_by_lem : (p : Page) → Shaped p.view → full_by (head_of p) ≡ full p.view
unfolding head_of
full_by_lem p sh = go (is_leaf p.view) refl
  where
    go : (b : Bool) → is_leaf p.view ≡ b → full_by (head_of p) ≡ full p.view
    go true e =
        let w : p.view ≡ view_of p.view.kind p.view.certs [] = same_view refl refl (sh.leaf e) in
        sym (full-leaf (head_of p) (leaf_kind_lem p.view e))
        ∙ subst (λ (x : View). leb leaf_room (count x) ≡ full x) (sym w) (full-certs p.view.kind p.view.certs)
    go false e =
        let w : p.view ≡ view_of p.view.kind [] p.view.children = same_view refl (sh.inner e) refl in
        sym (full-inner (head_of p) (inner-kind p.view e))
        ∙ subst (λ (x : View). leb inner_room (count x) ≡ full x) (sym w) (full-children p.view.kind p.view.children)

late_by_lem : (c : ℕ) (p : Page) → late_by c (head_of p) ≡ (not (is_leaf p.view) && eqb p.touched c)
unfolding late_by head_of is_leaf
late_by_lem c p = refl

-- ── A way ───────────────────────────────────────────────────────────────────────────────────────────────────────

heads : List Step → List Head
heads [] = []
heads (s ∷ ss) = head_of s.page ∷ heads ss

heads_of_lem : (ss : List Step) → heads_of (way_for ss) ≡ heads ss
unfolding heads
heads_of_lem [] = refl
heads_of_lem (s ∷ ss) = ap (λ (hs : List Head). head_of s.page ∷ hs) (heads_of_lem ss)

numbers_of_lem : (ss : List Step) → numbers_of (way_for ss) ≡ numbers ss
unfolding numbers
numbers_of_lem [] = refl
numbers_of_lem (s ∷ ss) = ap (λ (is : List ℕ). s.place.child ∷ is) (numbers_of_lem ss)

splits_by_lem : {ss : List Step} → All (λ (s : Step). Shaped s.page.view) ss → splits_by (heads ss) ≡ length (splitting ss)
unfolding heads splits_by splitting
splits_by_lem nil = refl
splits_by_lem (cons {x = s} {xs = ss} h k) = go (full s.page.view) refl (splits_by_lem k)
  where
    go : (b : Bool) → full s.page.view ≡ b → splits_by (heads ss) ≡ length (splitting ss)
        → splits_by (heads (s ∷ ss)) ≡ length (splitting (s ∷ ss))
    go true e ih = rw (heads, splits_by, full_by_lem s.page h, e, splitting) (ap suc ih)
    go false e ih = rw (heads, splits_by, full_by_lem s.page h, e, splitting)

soon_by : (c : ℕ) {ss : List Step} → All (λ (s : Step). Shaped s.page.view) ss
    → too_soon_by c (take (splits_by (heads ss)) (heads ss)) ≡ too_soon c (splitting ss)
unfolding heads splits_by splitting too_soon_by too_soon
soon_by c nil = refl
soon_by c (cons {x = s} {xs = ss} h k) = go (full s.page.view) refl (soon_by c k)
  where
    go : (b : Bool) → full s.page.view ≡ b → too_soon_by c (take (splits_by (heads ss)) (heads ss)) ≡ too_soon c (splitting ss)
        → too_soon_by c (take (splits_by (heads (s ∷ ss))) (heads (s ∷ ss))) ≡ too_soon c (splitting (s ∷ ss))
    go true e ih = rw (heads, splits_by, full_by_lem s.page h, e, splitting, late_by_lem, ih)
    go false e ih = rw (heads, splits_by, full_by_lem s.page h, e, splitting)

last_by : (kind : ℕ) (s : Step) (ss : List Step) → eqb (last_kind kind (heads (s ∷ ss))) top_kind ≡ too_high (s ∷ ss)
unfolding heads last_kind too_high head_of
last_by kind s [] = refl
last_by kind s (u ∷ ss) = last_by s.page.view.kind u ss

high_by : (ss : List Step) → too_high_by (heads ss) ≡ too_high ss
unfolding heads last_kind too_high_by too_high
high_by [] = refl
high_by (s ∷ ss) = last_by 0 s ss

-- ── The plan ────────────────────────────────────────────────────────────────────────────────────────────────────

abbrev chain : Bool → Bool → Inserted
chain soon short =
    elim soon [ true ↦ Err InsertError.SyncFirst | false ↦ elim short [ true ↦ Err InsertError.Full | false ↦ Ok tt ] ]

module _ {w : List way.Step} {steps : List Step} (h : Headed w steps) where
  heads-are : heads_of w ≡ heads steps
  heads-are = ap heads_of h.way ∙ heads_of_lem steps

  numbers-are : numbers_of w ≡ numbers steps
  numbers-are = ap numbers_of h.way ∙ numbers_of_lem steps

  len_is : length w ≡ length steps
  len_is = ap length h.way ∙ length-way steps

  splits-are : splits_by (heads_of w) ≡ length (splitting steps)
  splits-are = ap splits_by heads-are ∙ splits_by_lem h.shaped

  soon_is : (c : ℕ) → too_soon_by c (take (splits_by (heads_of w)) (heads_of w)) ≡ too_soon c (splitting steps)
  soon_is c = ap (λ (hs : List Head). too_soon_by c (take (splits_by hs) hs)) heads-are ∙ soon_by c h.shaped

  -- as many new pages as the rules need
  pub need-is : need_by (length w) (splits_by (heads_of w)) ≡ new_pages steps
  unfolding need_by new_pages root_splits
  need-is = rw (splits-are, len_is)

  stuck_is : stuck_by w (splits_by (heads_of w)) ≡ (root_splits steps && too_high steps)
  unfolding stuck_by root_splits
  stuck_is = rw (splits-are, heads-are, len_is, high_by)

  room-is : (free : List ℕ) → no_room_by w (splits_by (heads_of w)) free ≡ no_room steps free
  unfolding no_room_by no_room
  room-is free = rw (need-is, stuck_is)

  -- the chosen numbers are the first of the rules' free pages
  pub chosen_is : (s : Session) → chosen_by s w ≡ take (new_pages steps) (free_pages s (numbers steps))
  unfolding chosen_by
  chosen_is s = rw (need-is, numbers-are)

  pub plan-is : (s : Session) (present : Bool) → plan_by s present w ≡ plan_of s present steps
  unfolding plan_by plan_of
  plan-is s true = refl
  plan-is s false =
      ap (λ (b : Bool). chain b (no_room_by w (splits_by (heads_of w)) (free_pages s (numbers_of w)))) (soon_is s.c)
      ∙ (ap (λ (is : List ℕ). chain (too_soon s.c (splitting steps)) (no_room_by w (splits_by (heads_of w)) (free_pages s is))) numbers-are
      ∙ ap (chain (too_soon s.c (splitting steps))) (room-is (free_pages s (numbers steps))))
