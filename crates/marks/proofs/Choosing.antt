-- The lowest free numbers, chosen one after the other. Assumes nothing.
use Rattle.std.specs.Prelude.{Some, None}
use mathlib.Core.Path.{◌≡◌, refl, ap, sym, ◌∙◌}
use mathlib.Core.List.{List, [], ◌∷◌, ◌++◌}
use Prim.Native.Nat.{ℕ, suc, ◌+◌, ◌≤◌, ◌<◌}
use native.Mathlib.Numerals.{add-one}
use native.Mathlib.Omega.{arith}
use lib.ListN.{length, get_or, take, drop, length-drop}
use lib.Seq.{take-suc, drop-cons, take_all}
use Rattle.rules.specs.Marks.{free_pages}
use Rattle.rules.specs.declared.Session.{Session}
use Rattle.marks.specs.Lowest.{free_from, first_of}
use Rattle.marks.proofs.Search.{free_pages-from, free-first, free-none}

module _ (s : Session) (entered : List ℕ) where
  -- so many are chosen, and the search goes on at a number
  pub record Choosing (pages : List ℕ) (count from : ℕ) : Type 0 where
    pub within : count ≤ length (free_pages s entered)
    pub rest : drop count (free_pages s entered) ≡ free_from s entered from
    pub first : pages ≡ take count (free_pages s entered)

  pub choosing_none : Choosing [] 0 1
  choosing_none = record { within = omega arith; rest = free_pages-from s entered; first = refl }

  module _ {pages : List ℕ} {count from : ℕ} (c : Choosing pages count from) where
    pub choosing_more : (x : ℕ) → first_of (free_from s entered from) ≡ Some x → Choosing (pages ++ x ∷ []) (count + 1) (x + 1)
    choosing_more x e =
        let free : List ℕ = free_pages s entered in
        let d : drop count free ≡ x ∷ free_from s entered (x + 1) = c.rest ∙ (free-first s entered from x e).1 in
        let h : count < length free = omega (arith, length-drop count free, ap length d) in
        let k : get_or free count 0 ∷ drop (suc count) free ≡ x ∷ free_from s entered (x + 1) = sym (drop-cons free count 0 h) ∙ d in
        let g : get_or free count 0 ≡ x = cc in
        let r : drop (suc count) free ≡ free_from s entered (x + 1) = cc in
        record {
          within = omega arith;
          rest = rw (add-one count) r;
          first = rw (c.first, add-one count, take-suc free count 0 h, g);
        }

    -- fewer are there than are needed
    pub choosing_nothing : (need : ℕ) → count ≤ need → first_of (free_from s entered from) ≡ None → pages ≡ take need (free_pages s entered)
    choosing_nothing need l e =
        let free : List ℕ = free_pages s entered in
        let d : drop count free ≡ [] = c.rest ∙ free-none s entered from e in
        let h : length free ≤ count = omega (arith, length-drop count free, ap length d) in
        c.first ∙ (take_all count free h ∙ sym (take_all need free (omega arith)))
