-- Laws of a number as far as it is read: what one byte more makes of it, and that nothing counts behind a line of
-- another shape. Assumes nothing.
use Prim.Native.Nat.{ℕ, ◌≤◌, ◌<◌}
use native.Mathlib.Omega.{arith}
use mathlib.Core.Path.{◌≡◌, refl, sym, ◌∙◌}
use mathlib.Core.Bool.{Bool, true, false, ◌&&◌}
use mathlib.Core.List.{List, [], ◌∷◌, foldl}
use lib.Dec.{leb, eqb}
use borrow.Author.Tests.{leb-true, leb-false, le-leb, lt-leb}
use Rattle.std.specs.Prelude.{Option, Some, None}
use Rattle.std.specs.Option.{option_map_or}
use Rattle.lines.specs.declared.Line.{Line}
use Rattle.lines.specs.declared.Reader.{Reader}
use Rattle.lines.specs.declared.Reader.TheVariants.{Other}
use Rattle.lines.specs.Line.{space, onto, words, is_digit, digits, grown, value}
use Rattle.lines.specs.Reader.{grown_of, number_fed, fed_of, line_in}

-- what the reader tells at the end of the bytes
abbrev pub told : Reader → List ℕ → Line
told r bs = line_in (foldl fed_of r bs)

-- ── Numbers, as far as they are read ────────────────────────────────────────────────────────────────────────────

-- what a word makes of a number v that has begun or not
unfoldable pub number_from : Bool → ℕ → ℕ → List ℕ → Option ℕ
number_from begun limit v [] = elim begun [ true ↦ Some v | false ↦ None ]
number_from begun limit v (b ∷ bs) =
    let n = value v (b ∷ bs) in
    elim (digits (b ∷ bs) && leb n limit) [ true ↦ Some n | false ↦ None ]

-- what a line makes of it
unfoldable pub rested : Bool → ℕ → ℕ → (ℕ → List (List ℕ) → Line) → List (List ℕ) → Line
rested begun limit v rest [] = Line.Other
rested begun limit v rest (w ∷ ws) = option_map_or (λ n. rest n ws) (number_from begun limit v w) Line.Other

value_grows : (v : ℕ) (w : List ℕ) → v ≤ value v w
unfolding value
value_grows v [] = omega arith
value_grows v (b ∷ bs) = omega (arith, value_grows (grown v b) bs)

-- a number that is over its limit stays over it
value-over : (limit v : ℕ) (w : List ℕ) → limit < v → leb (value v w) limit ≡ false
value-over limit v w h = lt-leb (value v w) limit (omega (arith, value_grows v w))

-- a digit more
number-digit : (begun : Bool) (limit v b : ℕ) (w : List ℕ) → is_digit b ≡ true → grown v b ≤ limit → number_from begun limit v (b ∷ w) ≡ number_from true limit (grown v b) w
unfolding number_from digits value
number-digit begun limit v b [] d h = rw (d, number_from, le-leb (grown v b) limit h, number_from)
number-digit begun limit v b (a ∷ w) d h = rw (d, number_from)

number-over : (begun : Bool) (limit v b : ℕ) (w : List ℕ) → limit < grown v b → number_from begun limit v (b ∷ w) ≡ None
unfolding number_from value
number-over begun limit v b w h = go (digits (b ∷ w))
  where
    n : ℕ
    n = value (grown v b) w

    go : (d : Bool) → ◌≡◌ {A = Option ℕ} (elim (d && leb n limit) [ true ↦ Some n | false ↦ None ]) None
    go true = rw (value-over limit (grown v b) w h)
    go false = refl

number_not : (begun : Bool) (limit v b : ℕ) (w : List ℕ) → is_digit b ≡ false → number_from begun limit v (b ∷ w) ≡ None
unfolding number_from digits
number_not begun limit v b w d = rw (d, number_from)

-- ── Where nothing more counts ───────────────────────────────────────────────────────────────────────────────────

pub told-other : (bs : List ℕ) → told Other bs ≡ Line.Other
told-other [] = refl
told-other (b ∷ bs) = told-other bs

-- ── One byte of a number ────────────────────────────────────────────────────────────────────────────────────────

-- what the line's rest makes of a word that goes on with b
onto-none : (begun : Bool) (limit v b : ℕ) (rest : ℕ → List (List ℕ) → Line) (ws : List (List ℕ)) → ((w : List ℕ) → number_from begun limit v (b ∷ w) ≡ None) → rested begun limit v rest (onto b ws) ≡ Line.Other
unfolding rested onto
onto-none begun limit v b rest [] h = refl
onto-none begun limit v b rest (w ∷ ws) h = rw (h w)

onto-digit : (begun : Bool) (limit v b : ℕ) (rest : ℕ → List (List ℕ) → Line) (ws : List (List ℕ)) → is_digit b ≡ true → grown v b ≤ limit → rested begun limit v rest (onto b ws) ≡ rested true limit (grown v b) rest ws
unfolding rested onto
onto-digit begun limit v b rest [] d h = refl
onto-digit begun limit v b rest (w ∷ ws) d h = rw (number-digit begun limit v b w d h)

-- a number reads on by one byte, if the bytes behind it are read as they should
module _ (limit : ℕ) (here next : ℕ → Reader) (rest : ℕ → List (List ℕ) → Line) (bs : List ℕ)
    (on : (v : ℕ) → told (here v) bs ≡ rested true limit v rest (words bs))
    (behind : (v : ℕ) → told (next v) bs ≡ rest v (words bs)) where
  told-space : (begun : Bool) (v : ℕ) → told (elim begun [ true ↦ next v | false ↦ Other ]) bs ≡ rested begun limit v rest ([] ∷ words bs)
  unfolding rested number_from
  told-space true v = behind v
  told-space false v = told-other bs

  told-digit : (begun : Bool) (v b : ℕ) → told (option_map_or here (grown_of limit v b) Other) bs ≡ rested begun limit v rest (onto b (words bs))
  told-digit begun v b = go (is_digit b) refl (leb n limit) refl
    where
      n : ℕ
      n = grown v b

      go : (d : Bool) → is_digit b ≡ d → (t : Bool) → leb n limit ≡ t → told (option_map_or here (elim (d && t) [ true ↦ Some n | false ↦ None ]) Other) bs ≡ rested begun limit v rest (onto b (words bs))
      go true d true t = on n ∙ sym (onto-digit begun limit v b rest (words bs) d (leb-true n limit t))
      go true d false t = told-other bs ∙ sym (onto-none begun limit v b rest (words bs) (λ w. number-over begun limit v b w (leb-false n limit t)))
      go false d t e = told-other bs ∙ sym (onto-none begun limit v b rest (words bs) (λ w. number_not begun limit v b w d))

  pub number-told : (begun : Bool) (v b : ℕ) → told (number_fed limit here next begun v b) bs ≡ rested begun limit v rest (words (b ∷ bs))
  unfolding words
  number-told begun v b = go (eqb b space)
    where
      go : (t : Bool) → told (elim t [ true ↦ elim begun [ true ↦ next v | false ↦ Other ] | false ↦ option_map_or here (grown_of limit v b) Other ]) bs ≡ rested begun limit v rest (elim t [ true ↦ [] ∷ words bs | false ↦ onto b (words bs) ])
      go true = told-space begun v
      go false = told-digit begun v b
