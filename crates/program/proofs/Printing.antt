-- Byte by byte the program prints what it is to print line by line: for each line the answer to what document 01 reads
-- in it. Assumes nothing.
use Prim.Native.Nat.{ℕ}
use mathlib.Core.Path.{◌≡◌, refl, sym, ap, ◌∙◌}
use mathlib.Core.Bool.{Bool, true, false}
use mathlib.Core.List.{List, [], ◌∷◌, ◌++◌, foldl, foldl-append, append-nil}
use lib.Dec.{eqb}
use Rattle.rules.specs.declared.Session.{Session}
use Rattle.lines.specs.declared.Line.{Line}
use Rattle.lines.specs.Reader.{start_of, fed_of}
use Rattle.lines.specs.Line.{line_of}
use Rattle.lines.proofs.Reading.{reader_reads}
use Rattle.words.specs.Words.{newline, answer_line}
use Rattle.driver.specs.declared.Bench.{Bench}
use Rattle.driver.specs.Acts.{Stepped, acted, fresh, fed, silent, answered, closed}
use Rattle.program.specs.Program.{some_byte, lines_from, lines_of, printed, shown}

-- where the bench is when these bytes of a line are read
abbrev reading : List ℕ → Session → Bench
reading line session = record { reader = foldl fed_of start_of line; begun = some_byte line; session = session }

-- one byte more
some_more : (line : List ℕ) (b : ℕ) → some_byte (line ++ (b ∷ [])) ≡ true
unfolding some_byte
some_more [] b = refl
some_more (x ∷ line) b = refl

reading_more : (line : List ℕ) (b : ℕ) (session : Session) → fed (reading line session) b ≡ reading (line ++ (b ∷ [])) session
reading_more line b session = sym (rw (foldl-append fed_of start_of line (b ∷ []), some_more line b))

-- the end of a line
closed-line : (line : List ℕ) (session : Session) (w s : List ℕ) → closed (reading line session) w s ≡ answered (acted (line_of line) session w s)
closed-line line session w s = ap (λ (l : Line). answered (acted l session w s)) (reader_reads line)

-- the end of the input
shown-end : (line : List ℕ) (session : Session) (w s : List ℕ) → shown [] (reading line session) w s ≡ printed (lines_from line []) session w s
unfolding shown printed lines_from some_byte
shown-end [] session w s = refl
shown-end (b ∷ line) session w s =
    ap (λ (r : Stepped). answer_line r.reply) (closed-line (b ∷ line) session w s)
    ∙ sym (append-nil (answer_line (acted (line_of (b ∷ line)) session w s).answer))

-- what is shown from a step on
abbrev onward : List ℕ → Stepped → List ℕ
onward bs r = answer_line r.reply ++ shown bs r.bench r.working r.stable

shown-printed : (bs line : List ℕ) (session : Session) (w s : List ℕ) → shown bs (reading line session) w s ≡ printed (lines_from line bs) session w s
unfolding shown lines_from printed some_byte
shown-printed [] line session w s = shown-end line session w s
shown-printed (b ∷ bs) line session w s = go (eqb b newline) (shown-printed bs)
  where
    go : (t : Bool)
        → ((line : List ℕ) (session : Session) (w s : List ℕ) → shown bs (reading line session) w s ≡ printed (lines_from line bs) session w s)
        → onward bs (elim t [ true ↦ closed (reading line session) w s | false ↦ silent (fed (reading line session) b) w s ])
        ≡ printed (elim t [ true ↦ line ∷ lines_from [] bs | false ↦ lines_from (line ++ (b ∷ [])) bs ]) session w s
    go true ih =
        let r = acted (line_of line) session w s in
        ap (onward bs) (closed-line line session w s)
        ∙ ap (λ (l : List ℕ). answer_line r.answer ++ l) (ih [] r.session r.working r.stable)
    go false ih =
        ap (λ (m : Bench). shown bs m w s) (reading_more line b session) ∙ ih (line ++ (b ∷ [])) session w s

-- from the first byte on
pub program_prints : (input : List ℕ) (session : Session) (w s : List ℕ) → shown input (fresh session) w s ≡ printed (lines_of input) session w s
unfolding lines_of some_byte
program_prints input session w s = shown-printed input [] session w s
