-- The bench program as a whole: from the bytes of standard input to those of standard output.
use Rattle.std.specs.Prelude.{ℕ, Bool, true, false, List, [], ◌∷◌, ◌++◌, eqb, replicate}
use Rattle.rules.specs.Call.{Left}
use Rattle.rules.specs.Format.{format}
use Rattle.rules.specs.Open.{opening}
use Rattle.rules.specs.declared.Session.{Session}
use Rattle.rules.specs.Answer.{Opened}
use Rattle.lines.specs.Line.{line_of}
use Rattle.words.specs.Words.{newline, answer_line}
use Rattle.driver.specs.declared.Bench.{Bench}
use Rattle.driver.specs.Acts.{bench_bytes, acted, stepped, finished}

-- ── Lines ───────────────────────────────────────────────────────────────────────────────────────────────────────

unfoldable pub some_byte : List ℕ → Bool
some_byte [] = false
some_byte (b ∷ bs) = true

-- the lines of an input of which these bytes of a line are read; a last line needs no newline
unfoldable pub lines_from : List ℕ → List ℕ → List (List ℕ)
lines_from line [] = elim (some_byte line) [ true ↦ line ∷ [] | false ↦ [] ]
lines_from line (b ∷ bs) =
    elim (eqb b newline) [ true ↦ line ∷ lines_from [] bs | false ↦ lines_from (line ++ (b ∷ [])) bs ]

unfoldable pub lines_of : List ℕ → List (List ℕ)
lines_of input = lines_from [] input

-- ── One line out per line in ────────────────────────────────────────────────────────────────────────────────────

unfoldable pub printed : List (List ℕ) → Session → List ℕ → List ℕ → List ℕ
printed [] session w s = []
printed (line ∷ more) session w s =
    let r = acted (line_of line) session w s in
    answer_line r.answer ++ printed more r.session r.working r.stable

-- five pages, formatted and opened
unfoldable pub started : Left Opened
started = opening (replicate bench_bytes 0) (format (replicate bench_bytes 0) (replicate bench_bytes 0)).stable

unfoldable pub program : List ℕ → List ℕ
program input = printed (lines_of input) started.session started.working started.stable

-- ── The same, byte by byte ──────────────────────────────────────────────────────────────────────────────────────

unfoldable pub shown : List ℕ → Bench → List ℕ → List ℕ → List ℕ
shown [] m w s = answer_line (finished m w s).reply
shown (b ∷ bs) m w s =
    let r = stepped m b w s in
    answer_line r.reply ++ shown bs r.bench r.working r.stable
