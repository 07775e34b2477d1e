-- `few::Few::push_front`: all places but the last move up by one, and the new item stands at the start. Assumes nothing.
use Rattle.std.proofs.Common.{◌≡◌, refl, ap, ◌∙◌, ℕ, suc, ◌+◌, ◌-◌, ◌<◌, ◌≤◌, List, [], ◌∷◌, length, take, drop, arith, add-one}
use Rattle.std.proofs.Math.ListN.{replicate}
use Rattle.std.proofs.lemmas.List.{drop_all, drop-take, take-replicate, append-nil}
use lib.ListN.{set}
use lib.Seq.{paste, take-take, length-take-le}
use Rattle.few.specs.Fields.{len_told}
use Rattle.few.proofs.Places.{Spared}
use Rattle.few.proofs.Few.push_front.Goals as goal

-- the new item stands before all places but the last
moved : {A : Type 0} (xs : List A) (x : A) (m : ℕ) → length xs ≡ m + 1
    → set (paste xs 1 (drop 0 xs) (m - 0)) 0 x ≡ x ∷ take m xs
moved [] x m h = absurd (omega (arith, h))
moved (y ∷ ys) x m h =
    let all : m - 0 ≡ m = omega arith in
    let end : drop (1 + m) (y ∷ ys) ≡ [] = drop_all (1 + m) (y ∷ ys) (omega (arith, h)) in
    rw (all, end) (ap (λ r. x ∷ r) (append-nil (take m (y ∷ ys))))

spared-moved : {A : Type 0} (z : A) (xs : List A) (x : A) (k m N : ℕ) → Spared z N k xs → k < N → N ≡ m + 1
    → Spared z N (k + 1) (x ∷ take m xs)
spared-moved z xs x k m N h room last =
    let on : m ≡ k + (m - k) = omega (arith, room, last) in
    let left : m - k ≡ N - (k + 1) = omega (arith, last) in
    let long : length (take m xs) ≡ m = length-take-le m xs (omega (arith, h.1, last)) in
    let up : drop (k + 1) (x ∷ take m xs) ≡ drop k (take m xs) = rw add-one refl in
    let behind = ap (λ n. drop k (take n xs)) on ∙ drop-take k (m - k) xs ∙ ap (take (m - k)) h.2
    ∙ take-replicate (m - k) (N - k) z (omega (arith, last)) ∙ ap (λ n. replicate n z) left in
    (omega (arith, room), ap suc long ∙ omega (arith, last), up ∙ behind)

pub returns : goal.returns
returns g c =
    let f = c.self.inside in
    let h = c.self.invariant in
    let len : length (take f.len f.items) ≡ f.len = len_told g.T.Spare.spare_is f.items f.len g.row.N h.0 h.1 in
    let room : f.len < g.row.N = omega (arith, len, ap length c.self.view_is, c.requires) in
    let last : length f.items ≡ (g.row.N - 1) + 1 = omega (arith, room, h.1) in
    rw (c.copy_within.ensures.after, moved f.items c.args.item (g.row.N - 1) last, add-one, ← c.self.view_is)
    (ap (λ r. c.args.item ∷ r) (take-take f.len (g.row.N - 1) f.items (omega (arith, room))))

pub invariant_of-self : goal.invariant_of-self
invariant_of-self g c =
    let f = c.self.inside in
    let h = c.self.invariant in
    let spare = g.T.Spare.spare_is in
    let len : length (take f.len f.items) ≡ f.len = len_told spare f.items f.len g.row.N h.0 h.1 in
    let room : f.len < g.row.N = omega (arith, len, ap length c.self.view_is, c.requires) in
    let last : length f.items ≡ (g.row.N - 1) + 1 = omega (arith, room, h.1) in
    rw (c.copy_within.ensures.after, moved f.items c.args.item (g.row.N - 1) last)
    (spared-moved spare f.items c.args.item f.len (g.row.N - 1) g.row.N h room (omega (arith, room)))
