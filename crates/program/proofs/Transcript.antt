-- Document 01's own transcript of the bench program, by computing.
-- Assumes nothing.
use Prim.Native.Nat.{ℕ}
use mathlib.Core.Path.{◌≡◌, refl}
use mathlib.Core.List.{List, [], ◌∷◌}
use Rattle.rules.proofs.Cases.Computing.{rules}
use Rattle.lines.specs.Line.{onto, words, digits, value, number_in, number, end, insert_of, find_of, crash_of, letter_of, asked, line_of}
use Rattle.words.specs.Words.{digits_of}
use Rattle.program.specs.Program.{some_byte, lines_from, lines_of, printed, started, program}

-- i 7 1 1 900 / f 7 1 1 / f 7 2 1 / s / c / f 7 1 1 / f 0 1 1
abbrev pub input : List ℕ
input =
    105 ∷ 32 ∷ 55 ∷ 32 ∷ 49 ∷ 32 ∷ 49 ∷ 32 ∷ 57 ∷ 48 ∷ 48 ∷ 10
    ∷ 102 ∷ 32 ∷ 55 ∷ 32 ∷ 49 ∷ 32 ∷ 49 ∷ 10
    ∷ 102 ∷ 32 ∷ 55 ∷ 32 ∷ 50 ∷ 32 ∷ 49 ∷ 10
    ∷ 115 ∷ 10
    ∷ 99 ∷ 10
    ∷ 102 ∷ 32 ∷ 55 ∷ 32 ∷ 49 ∷ 32 ∷ 49 ∷ 10
    ∷ 102 ∷ 32 ∷ 48 ∷ 32 ∷ 49 ∷ 32 ∷ 49 ∷ 10 ∷ []

-- done / done 900 / none / done / done / done 900 / badkey
abbrev pub output : List ℕ
output =
    100 ∷ 111 ∷ 110 ∷ 101 ∷ 10
    ∷ 100 ∷ 111 ∷ 110 ∷ 101 ∷ 32 ∷ 57 ∷ 48 ∷ 48 ∷ 10
    ∷ 110 ∷ 111 ∷ 110 ∷ 101 ∷ 10
    ∷ 100 ∷ 111 ∷ 110 ∷ 101 ∷ 10
    ∷ 100 ∷ 111 ∷ 110 ∷ 101 ∷ 10
    ∷ 100 ∷ 111 ∷ 110 ∷ 101 ∷ 32 ∷ 57 ∷ 48 ∷ 48 ∷ 10
    ∷ 98 ∷ 97 ∷ 100 ∷ 107 ∷ 101 ∷ 121 ∷ 10 ∷ []

pub transcript : program input ≡ output
unfolding rules onto words digits value number_in number end insert_of find_of crash_of letter_of asked line_of digits_of some_byte lines_from lines_of printed started program
transcript = refl
