-- The reader of a line: where it is, with the numbers read so far, and what a byte makes of that.
use Rattle.std.specs.Prelude.{ℕ, Bool, true, false, ◌&&◌, set, leb, eqb, Option, Some, None}
use Rattle.std.specs.Option.{option_map_or}
use Rattle.lines.specs.declared.Line.{Line}
use Rattle.lines.specs.declared.Ask.{Ask}
use Rattle.lines.specs.declared.Reader.{Reader}
use Rattle.lines.specs.declared.Reader.TheVariants.{Start, Certificate, Model, Serial, Issue, Record, Sync, Crash, Page, Other}
use Rattle.lines.specs.Line.{space, letter_i, letter_f, letter_s, letter_c, most16, most32, last_page, is_digit, grown, no_pages}

-- a number with a digit more, within a limit
abbrev pub grown_of : ℕ → ℕ → ℕ → Option ℕ
grown_of limit v b = elim (is_digit b && leb (grown v b) limit) [ true ↦ Some (grown v b) | false ↦ None ]

-- within a number: a space ends it, if it has begun; a digit makes it grow
abbrev pub number_fed : ℕ → (ℕ → Reader) → (ℕ → Reader) → Bool → ℕ → ℕ → Reader
number_fed limit here next begun v b =
    elim (eqb b space) [
      | true ↦ elim begun [ true ↦ next v | false ↦ Other ]
      | false ↦ option_map_or here (grown_of limit v b) Other
    ]

-- between a letter and its fields
abbrev pub space_fed : Reader → ℕ → Reader
space_fed next b = elim (eqb b space) [ true ↦ next | false ↦ Other ]

abbrev pub letter_fed : ℕ → Reader
letter_fed b =
    elim (eqb b letter_i) [
      | true ↦ Certificate Ask.Insert
      | false ↦ elim (eqb b letter_f) [
        | true ↦ Certificate Ask.Find
        | false ↦ elim (eqb b letter_s) [ true ↦ Sync | false ↦ elim (eqb b letter_c) [ true ↦ Crash | false ↦ Other ] ]
      ]
    ]

-- a find has no record
abbrev pub after_issue : Ask → ℕ → ℕ → ℕ → Reader
after_issue Ask.Insert m s i = Record m s i false 0
after_issue Ask.Find m s i = Other

abbrev pub start_of : Reader
start_of = Start

abbrev pub fed_of : Reader → ℕ → Reader
fed_of Start b = letter_fed b
fed_of (Certificate ask) b = space_fed (Model ask false 0) b
fed_of (Model ask begun v) b = number_fed most16 (Model ask true) (λ m. Serial ask m false 0) begun v b
fed_of (Serial ask m begun v) b = number_fed most32 (Serial ask m true) (λ s. Issue ask m s false 0) begun v b
fed_of (Issue ask m s begun v) b = number_fed most16 (Issue ask m s true) (after_issue ask m s) begun v b
fed_of (Record m s i begun v) b = number_fed most32 (Record m s i true) (λ r. Other) begun v b
fed_of Sync b = Other
fed_of Crash b = space_fed (Page no_pages false 0) b
fed_of (Page pages begun v) b = number_fed last_page (Page pages true) (λ n. Page (set pages n true) false 0) begun v b
fed_of Other b = Other

-- a number that the line's end finds begun
abbrev pub ended : Bool → Line → Line
ended true line = line
ended false line = Line.Other

abbrev pub line_in : Reader → Line
line_in Start = Line.Other
line_in (Certificate ask) = Line.Other
line_in (Model ask begun v) = Line.Other
line_in (Serial ask m begun v) = Line.Other
line_in (Issue Ask.Insert m s begun v) = Line.Other
line_in (Issue Ask.Find m s begun v) = ended begun (Line.Find m s v)
line_in (Record m s i begun v) = ended begun (Line.Insert m s i v)
line_in Sync = Line.Sync
line_in Crash = Line.Crash no_pages
line_in (Page pages begun n) = ended begun (Line.Crash (set pages n true))
line_in Other = Line.Other
