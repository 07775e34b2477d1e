-- What the bench program prints: for each line read one line, the answer's word, and after a successful find a space and
-- the record.
use Rattle.std.specs.Prelude.{ℕ, zero, suc, ◌+◌, ◌/◌, ◌%◌, true, false, List, [], ◌∷◌, ◌++◌, ltb, get_or}
use Rattle.words.specs.declared.Reply.{Reply}

-- ── The words, letter by letter ─────────────────────────────────────────────────────────────────────────────────

abbrev pub done : List ℕ
done = 100 ∷ 111 ∷ 110 ∷ 101 ∷ []

abbrev pub bad_length : List ℕ
bad_length = 108 ∷ 101 ∷ 110 ∷ 103 ∷ 116 ∷ 104 ∷ []

abbrev pub badkey : List ℕ
badkey = 98 ∷ 97 ∷ 100 ∷ 107 ∷ 101 ∷ 121 ∷ []

abbrev pub damaged : List ℕ
damaged = 100 ∷ 97 ∷ 109 ∷ 97 ∷ 103 ∷ 101 ∷ 100 ∷ []

abbrev pub none : List ℕ
none = 110 ∷ 111 ∷ 110 ∷ 101 ∷ []

abbrev pub present : List ℕ
present = 112 ∷ 114 ∷ 101 ∷ 115 ∷ 101 ∷ 110 ∷ 116 ∷ []

abbrev pub syncfirst : List ℕ
syncfirst = 115 ∷ 121 ∷ 110 ∷ 99 ∷ 102 ∷ 105 ∷ 114 ∷ 115 ∷ 116 ∷ []

abbrev pub full : List ℕ
full = 102 ∷ 117 ∷ 108 ∷ 108 ∷ []

abbrev pub spent : List ℕ
spent = 115 ∷ 112 ∷ 101 ∷ 110 ∷ 116 ∷ []

-- of a line of any other shape
abbrev pub line : List ℕ
line = 108 ∷ 105 ∷ 110 ∷ 101 ∷ []

abbrev pub space : ℕ
space = 32

abbrev pub newline : ℕ
newline = 10

-- ── By number ───────────────────────────────────────────────────────────────────────────────────────────────────

-- the nine answers' words, from number 0 on
abbrev pub nine : List (List ℕ)
nine =
    done ∷ bad_length ∷ badkey ∷ damaged ∷ none ∷ present ∷ syncfirst ∷ full ∷ spent ∷ []

abbrev pub word_of : ℕ → List ℕ
word_of n = get_or nine n []

-- ── Numbers ─────────────────────────────────────────────────────────────────────────────────────────────────────

abbrev pub digit : ℕ → ℕ
digit d = 48 + d

-- the decimal digits of a number of so many digits at most, with no zero in front
unfoldable pub digits_of : ℕ → ℕ → List ℕ
digits_of zero n = []
digits_of (suc places) n =
    elim (ltb n 10) [ true ↦ digit n ∷ [] | false ↦ digits_of places (n / 10) ++ (digit (n % 10) ∷ []) ]

-- a record has 32 bits, so ten digits at most
abbrev pub decimal : ℕ → List ℕ
decimal n = digits_of 10 n

-- ── A line out ──────────────────────────────────────────────────────────────────────────────────────────────────

abbrev pub answer_line : Reply → List ℕ
answer_line Reply.Silent = []
answer_line (Reply.Answer n) = word_of n ++ (newline ∷ [])
answer_line (Reply.Record x) = (done ++ (space ∷ decimal x)) ++ (newline ∷ [])
answer_line Reply.Line = line ++ (newline ∷ [])

-- the longest line is `done 4294967295` with its newline
abbrev pub text_size : ℕ
text_size = 16
