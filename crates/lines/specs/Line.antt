-- What a line of the bench program asks for: fields parted by one space, numbers in decimal digits, each within its
-- field's width, page numbers 0 to 4. A line of any other shape is Other.
use Rattle.std.specs.Prelude.{ℕ, ◌+◌, ◌*◌, ◌-◌, Bool, true, false, ◌&&◌, List, [], ◌∷◌, set, leb, eqb, Option, Some, None}
use Rattle.std.specs.Option.{option_map_or}
use Rattle.lines.specs.declared.Line.{Line}

-- ── Bytes and widths ────────────────────────────────────────────────────────────────────────────────────────────

abbrev pub space : ℕ
space = 32

abbrev pub letter_i : ℕ
letter_i = 105

abbrev pub letter_f : ℕ
letter_f = 102

abbrev pub letter_s : ℕ
letter_s = 115

abbrev pub letter_c : ℕ
letter_c = 99

-- a model or an issue has 16 bits
abbrev pub most16 : ℕ
most16 = 65535

-- a serial or a record has 32 bits
abbrev pub most32 : ℕ
most32 = 4294967295

-- the bench's store has pages 0 to 4
abbrev pub last_page : ℕ
last_page = 4

-- ── Words, parted by one space ──────────────────────────────────────────────────────────────────────────────────

unfoldable pub onto : ℕ → List (List ℕ) → List (List ℕ)
onto b [] = []
onto b (w ∷ ws) = (b ∷ w) ∷ ws

-- a word ends at each space, so two spaces have an empty word between them
unfoldable pub words : List ℕ → List (List ℕ)
words [] = [] ∷ []
words (b ∷ bs) = elim (eqb b space) [ true ↦ [] ∷ words bs | false ↦ onto b (words bs) ]

-- ── Numbers ─────────────────────────────────────────────────────────────────────────────────────────────────────

abbrev pub is_digit : ℕ → Bool
is_digit b = leb 48 b && leb b 57

unfoldable pub digits : List ℕ → Bool
digits [] = true
digits (b ∷ bs) = is_digit b && digits bs

-- a number with one digit more
abbrev pub grown : ℕ → ℕ → ℕ
grown v b = v * 10 + (b - 48)

-- the number that digits make behind those of v
unfoldable pub value : ℕ → List ℕ → ℕ
value v [] = v
value v (b ∷ bs) = value (grown v b) bs

-- a word is a number if it is digits, one at least, and its value is within the limit; leading zeros are digits
unfoldable pub number_in : ℕ → List ℕ → Option ℕ
number_in limit [] = None
number_in limit (b ∷ bs) =
    elim (digits (b ∷ bs) && leb (value 0 (b ∷ bs)) limit) [ true ↦ Some (value 0 (b ∷ bs)) | false ↦ None ]

-- ── Shapes ──────────────────────────────────────────────────────────────────────────────────────────────────────

-- the line goes on with a number, and then as that number says
unfoldable pub number : ℕ → (ℕ → List (List ℕ) → Line) → List (List ℕ) → Line
number limit rest [] = Line.Other
number limit rest (w ∷ ws) = option_map_or (λ v. rest v ws) (number_in limit w) Line.Other

-- the line ends here
unfoldable pub end : Line → List (List ℕ) → Line
end line [] = line
end line (w ∷ ws) = Line.Other

-- i model serial issue record
unfoldable pub insert_of : List (List ℕ) → Line
insert_of =
    number most16 (λ m. number most32 (λ s. number most16 (λ i. number most32 (λ r. end (Line.Insert m s i r)))))

-- f model serial issue
unfoldable pub find_of : List (List ℕ) → Line
find_of = number most16 (λ m. number most32 (λ s. number most16 (λ i. end (Line.Find m s i))))

-- no page of the five
abbrev pub no_pages : List Bool
no_pages = false ∷ false ∷ false ∷ false ∷ false ∷ []

-- c pages.., none or more, as a set
unfoldable pub crash_of : List Bool → List (List ℕ) → Line
crash_of pages [] = Line.Crash pages
crash_of pages (w ∷ ws) = option_map_or (λ n. crash_of (set pages n true) ws) (number_in last_page w) Line.Other

unfoldable pub letter_of : ℕ → List (List ℕ) → Line
letter_of b ws =
    elim (eqb b letter_i) [
      | true ↦ insert_of ws
      | false ↦ elim (eqb b letter_f) [
        | true ↦ find_of ws
        | false ↦ elim (eqb b letter_s) [
          | true ↦ end Line.Sync ws
          | false ↦ elim (eqb b letter_c) [ true ↦ crash_of no_pages ws | false ↦ Line.Other ]
        ]
      ]
    ]

-- the first word is one letter
unfoldable pub asked : List (List ℕ) → Line
asked [] = Line.Other
asked ([] ∷ ws) = Line.Other
asked ((b ∷ []) ∷ ws) = letter_of b ws
asked ((b ∷ a ∷ w) ∷ ws) = Line.Other

unfoldable pub line_of : List ℕ → Line
line_of bytes = asked (words bytes)
