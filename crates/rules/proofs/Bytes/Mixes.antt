-- What a crash leaves: each page of the mix is the working one where it was written, else the stable one.
-- Assumes nothing.
use Rattle.std.proofs.Common.{◌≡◌, ℕ, zero, suc, ◌≤◌, Bool, true, false, List, [], ◌∷◌, ◌++◌, length, get_or, take, drop, refl, ap, ◌∙◌, arith, length-append, length-drop, length-take, length-take-le, take_at, drop_at}
use Rattle.fields.specs.Field.{Bytes}
use Rattle.fields.proofs.Bytes.{bytes-append, bytes_take, bytes_drop}
use Rattle.rules.specs.Layout.{page_size}
use Rattle.rules.specs.Table.{page_at}
use Rattle.rules.specs.Crash.{mix}
use Rattle.rules.proofs.Bytes.Tables.{Has, page_at-suc}

-- which of two a page's mark chooses
abbrev pub chosen : {A : Type 0} → Bool → A → A → A
chosen true w s = w
chosen false w s = s

pub length-mix : (marks : List Bool) (w s : List ℕ) → length w ≡ length s → length (mix marks w s) ≡ length s
unfolding mix
length-mix [] w s e = refl
length-mix (true ∷ marks) w s e =
    let l = length-mix marks (drop page_size w) (drop page_size s) (simp (length-drop, e)) in
    rw (length-append, l, length-take, length-drop) (omega arith)
length-mix (false ∷ marks) w s e =
    let l = length-mix marks (drop page_size w) (drop page_size s) (simp (length-drop, e)) in
    rw (length-append, l, length-take, length-drop) (omega arith)

pub bytes-mix : (marks : List Bool) (w s : List ℕ) → Bytes w → Bytes s → Bytes (mix marks w s)
unfolding mix
bytes-mix [] w s h k = k
bytes-mix (true ∷ marks) w s h k =
    bytes-append (take page_size w) (mix marks (drop page_size w) (drop page_size s)) (bytes_take page_size w h)
    (bytes-mix marks (drop page_size w) (drop page_size s) (bytes_drop page_size w h) (bytes_drop page_size s k))
bytes-mix (false ∷ marks) w s h k =
    bytes-append (take page_size s) (mix marks (drop page_size w) (drop page_size s)) (bytes_take page_size s k)
    (bytes-mix marks (drop page_size w) (drop page_size s) (bytes_drop page_size w h) (bytes_drop page_size s k))

-- a table's first page in front, and the pages behind it
first : (t rest : List ℕ) → page_size ≤ length t → page_at (take page_size t ++ rest) 0 ≡ page_at t 0
unfolding page_at
first t rest h = take_at (take page_size t) rest page_size (length-take-le page_size t h)

later : (t rest : List ℕ) (i : ℕ) → page_size ≤ length t → page_at (take page_size t ++ rest) (suc i) ≡ page_at rest i
later t rest i h =
    page_at-suc (take page_size t ++ rest) i
    ∙ ap (λ (r : List ℕ). page_at r i) (drop_at (take page_size t) rest page_size (length-take-le page_size t h))

pub page_at-mix : (marks : List Bool) (w s : List ℕ) (i : ℕ) → length w ≡ length s → Has s i → page_at (mix marks w s) i ≡ chosen (get_or marks i false) (page_at w i) (page_at s i)
unfolding mix
page_at-mix [] w s i e h = refl
page_at-mix (true ∷ marks) w s zero e h = first w (mix marks (drop page_size w) (drop page_size s)) (omega arith)
page_at-mix (false ∷ marks) w s zero e h = first s (mix marks (drop page_size w) (drop page_size s)) (omega arith)
page_at-mix (true ∷ marks) w s (suc i) e h =
    later w (mix marks (drop page_size w) (drop page_size s)) i (omega arith)
    ∙ page_at-mix marks (drop page_size w) (drop page_size s) i (simp (length-drop, e)) (rw length-drop (omega arith))
    ∙ rw (page_at-suc w i, page_at-suc s i)
page_at-mix (false ∷ marks) w s (suc i) e h =
    later s (mix marks (drop page_size w) (drop page_size s)) i (omega arith)
    ∙ page_at-mix marks (drop page_size w) (drop page_size s) i (simp (length-drop, e)) (rw length-drop (omega arith))
    ∙ rw (page_at-suc w i, page_at-suc s i)
