-- The reader reads lines as document 01 does: fed a line's bytes one by one and asked at its end, it tells what
-- specs/Line.antt reads in the line. Assumes nothing.
use Prim.Native.Nat.{ℕ}
use mathlib.Core.Path.{◌≡◌, refl, sym, ◌∙◌}
use mathlib.Core.Bool.{Bool, true, false}
use mathlib.Core.List.{List, [], ◌∷◌, foldl}
use lib.Dec.{eqb}
use borrow.Author.Tests.{eqb-true}
use Rattle.std.specs.Prelude.{set}
use Rattle.lines.specs.declared.Line.{Line}
use Rattle.lines.specs.declared.Ask.{Ask}
use Rattle.lines.specs.declared.Reader.{Reader}
use Rattle.lines.specs.declared.Reader.TheVariants.{Certificate, Model, Serial, Issue, Record, Sync, Crash, Page, Other}
use Rattle.lines.specs.Line.{space, letter_i, letter_f, letter_s, letter_c, most16, most32, last_page, onto, words, number_in, number, end, insert_of, find_of, crash_of, no_pages, letter_of, asked, line_of}
use Rattle.lines.specs.Reader.{space_fed, letter_fed, after_issue, start_of, fed_of, line_in}
use Rattle.lines.proofs.Told.{told, number_from, rested, told-other, number-told}

-- ── Words ───────────────────────────────────────────────────────────────────────────────────────────────────────

unfoldable some_word : List (List ℕ) → Bool
some_word [] = false
some_word (w ∷ ws) = true

onto-some : (b : ℕ) (ws : List (List ℕ)) → some_word ws ≡ true → some_word (onto b ws) ≡ true
unfolding some_word onto
onto-some b [] h = h
onto-some b (w ∷ ws) h = refl

-- every line has a word, an empty one perhaps
words-some : (bs : List ℕ) → some_word (words bs) ≡ true
unfolding some_word words
words-some [] = refl
words-some (b ∷ bs) = go (eqb b space) (words-some bs)
  where
    go : (t : Bool) → some_word (words bs) ≡ true → some_word (elim t [ true ↦ [] ∷ words bs | false ↦ onto b (words bs) ]) ≡ true
    go true h = refl
    go false h = onto-some b (words bs) h

-- a line that should be at its end has words left
end-some : (line : Line) (ws : List (List ℕ)) → some_word ws ≡ true → end line ws ≡ Line.Other
unfolding some_word end
end-some line [] h = cc
end-some line (w ∷ ws) h = refl

end-words : (line : Line) (bs : List ℕ) → end line (words bs) ≡ Line.Other
end-words line bs = end-some line (words bs) (words-some bs)

-- ── A number from its first byte on ─────────────────────────────────────────────────────────────────────────────

number-from : (limit : ℕ) (w : List ℕ) → number_from false limit 0 w ≡ number_in limit w
unfolding number_from number_in
number-from limit [] = refl
number-from limit (b ∷ w) = refl

rested_number : (limit : ℕ) (rest : ℕ → List (List ℕ) → Line) (ws : List (List ℕ)) → rested false limit 0 rest ws ≡ number limit rest ws
unfolding rested number
rested_number limit rest [] = refl
rested_number limit rest (w ∷ ws) = rw (number-from limit w)

-- ── The numbers of a certificate, last one first ────────────────────────────────────────────────────────────────

record_told : (m s i : ℕ) (begun : Bool) (v : ℕ) (bs : List ℕ) → told (Record m s i begun v) bs ≡ rested begun most32 v (λ r. end (Line.Insert m s i r)) (words bs)
unfolding words rested number_from end
record_told m s i true v [] = refl
record_told m s i false v [] = refl
record_told m s i begun v (b ∷ bs) =
    number-told most32 (Record m s i true) (λ r. Other) (λ r. end (Line.Insert m s i r)) bs
    (λ u. record_told m s i true u bs)
    (λ r. told-other bs ∙ sym (end-words (Line.Insert m s i r) bs))
    begun v b

-- what follows an issue
abbrev issue_rest : Ask → ℕ → ℕ → ℕ → List (List ℕ) → Line
issue_rest Ask.Insert m s i = number most32 (λ r. end (Line.Insert m s i r))
issue_rest Ask.Find m s i = end (Line.Find m s i)

issue-behind : (ask : Ask) (m s i : ℕ) (bs : List ℕ) → told (after_issue ask m s i) bs ≡ issue_rest ask m s i (words bs)
issue-behind Ask.Insert m s i bs = record_told m s i false 0 bs ∙ rested_number most32 (λ r. end (Line.Insert m s i r)) (words bs)
issue-behind Ask.Find m s i bs = told-other bs ∙ sym (end-words (Line.Find m s i) bs)

issue-told : (ask : Ask) (m s : ℕ) (begun : Bool) (v : ℕ) (bs : List ℕ) → told (Issue ask m s begun v) bs ≡ rested begun most16 v (issue_rest ask m s) (words bs)
unfolding words rested number_from end number
issue-told Ask.Insert m s true v [] = refl
issue-told Ask.Insert m s false v [] = refl
issue-told Ask.Find m s true v [] = refl
issue-told Ask.Find m s false v [] = refl
issue-told ask m s begun v (b ∷ bs) =
    number-told most16 (Issue ask m s true) (after_issue ask m s) (issue_rest ask m s) bs
    (λ u. issue-told ask m s true u bs)
    (λ i. issue-behind ask m s i bs)
    begun v b

abbrev serial_rest : Ask → ℕ → ℕ → List (List ℕ) → Line
serial_rest ask m s = number most16 (issue_rest ask m s)

serial-told : (ask : Ask) (m : ℕ) (begun : Bool) (v : ℕ) (bs : List ℕ) → told (Serial ask m begun v) bs ≡ rested begun most32 v (serial_rest ask m) (words bs)
unfolding words rested number_from number
serial-told ask m true v [] = refl
serial-told ask m false v [] = refl
serial-told ask m begun v (b ∷ bs) =
    number-told most32 (Serial ask m true) (λ s. Issue ask m s false 0) (serial_rest ask m) bs
    (λ u. serial-told ask m true u bs)
    (λ s. issue-told ask m s false 0 bs ∙ rested_number most16 (issue_rest ask m s) (words bs))
    begun v b

abbrev model_rest : Ask → ℕ → List (List ℕ) → Line
model_rest ask m = number most32 (serial_rest ask m)

model-told : (ask : Ask) (begun : Bool) (v : ℕ) (bs : List ℕ) → told (Model ask begun v) bs ≡ rested begun most16 v (model_rest ask) (words bs)
unfolding words rested number_from number
model-told ask true v [] = refl
model-told ask false v [] = refl
model-told ask begun v (b ∷ bs) =
    number-told most16 (Model ask true) (λ m. Serial ask m false 0) (model_rest ask) bs
    (λ u. model-told ask true u bs)
    (λ m. serial-told ask m false 0 bs ∙ rested_number most32 (serial_rest ask m) (words bs))
    begun v b

-- ── The pages of a crash ────────────────────────────────────────────────────────────────────────────────────────

-- what follows a page's number
abbrev page_rest : List Bool → ℕ → List (List ℕ) → Line
page_rest pages n = crash_of (set pages n true)

rested_crash : (pages : List Bool) (ws : List (List ℕ)) → some_word ws ≡ true → rested false last_page 0 (page_rest pages) ws ≡ crash_of pages ws
unfolding some_word rested crash_of
rested_crash pages [] h = cc
rested_crash pages (w ∷ ws) h = rw (number-from last_page w)

page-told : (pages : List Bool) (begun : Bool) (v : ℕ) (bs : List ℕ) → told (Page pages begun v) bs ≡ rested begun last_page v (page_rest pages) (words bs)
unfolding words rested number_from crash_of
page-told pages true v [] = refl
page-told pages false v [] = refl
page-told pages begun v (b ∷ bs) =
    number-told last_page (Page pages true) (λ n. Page (set pages n true) false 0) (page_rest pages) bs
    (λ u. page-told pages true u bs)
    (λ n. page-told (set pages n true) false 0 bs ∙ rested_crash (set pages n true) (words bs) (words-some bs))
    begun v b

-- ── The letter ──────────────────────────────────────────────────────────────────────────────────────────────────

-- what a letter makes of a new line, by the four tests
abbrev fed_by : Bool → Bool → Bool → Bool → Reader
fed_by i f s c =
    elim i [
      | true ↦ Certificate Ask.Insert
      | false ↦ elim f [
        | true ↦ Certificate Ask.Find
        | false ↦ elim s [ true ↦ Sync | false ↦ elim c [ true ↦ Crash | false ↦ Other ] ]
      ]
    ]

-- what it asks for with the words behind it
abbrev asked_by : Bool → Bool → Bool → Bool → List (List ℕ) → Line
asked_by i f s c ws =
    elim i [
      | true ↦ insert_of ws
      | false ↦ elim f [
        | true ↦ find_of ws
        | false ↦ elim s [
          | true ↦ end Line.Sync ws
          | false ↦ elim c [ true ↦ crash_of no_pages ws | false ↦ Line.Other ]
        ]
      ]
    ]

-- the letter is all
letter_alone : (b : ℕ) → line_in (letter_fed b) ≡ letter_of b []
unfolding letter_of insert_of find_of crash_of number end
letter_alone b = go (eqb b letter_i) (eqb b letter_f) (eqb b letter_s) (eqb b letter_c)
  where
    go : (i f s c : Bool) → line_in (fed_by i f s c) ≡ asked_by i f s c []
    go true f s c = refl
    go false true s c = refl
    go false false true c = refl
    go false false false true = refl
    go false false false false = refl

-- a space follows
letter_fields : (b : ℕ) (bs : List ℕ) → told (letter_fed b) (space ∷ bs) ≡ letter_of b (words bs)
unfolding letter_of insert_of find_of
letter_fields b bs = go (eqb b letter_i) (eqb b letter_f) (eqb b letter_s) (eqb b letter_c)
  where
    go : (i f s c : Bool) → told (fed_by i f s c) (space ∷ bs) ≡ asked_by i f s c (words bs)
    go true f s c = model-told Ask.Insert false 0 bs ∙ rested_number most16 (model_rest Ask.Insert) (words bs)
    go false true s c = model-told Ask.Find false 0 bs ∙ rested_number most16 (model_rest Ask.Find) (words bs)
    go false false true c = told-other bs ∙ sym (end-words Line.Sync bs)
    go false false false true = page-told no_pages false 0 bs ∙ rested_crash no_pages (words bs) (words-some bs)
    go false false false false = told-other bs

-- another byte follows
letter_more : (b a : ℕ) (bs : List ℕ) → eqb a space ≡ false → told (letter_fed b) (a ∷ bs) ≡ Line.Other
letter_more b a bs n = go (eqb b letter_i) (eqb b letter_f) (eqb b letter_s) (eqb b letter_c)
  where
    go : (i f s c : Bool) → told (fed_by i f s c) (a ∷ bs) ≡ Line.Other
    go true f s c = rw (n, space_fed) (told-other bs)
    go false true s c = rw (n, space_fed) (told-other bs)
    go false false true c = told-other bs
    go false false false true = rw (n, space_fed) (told-other bs)
    go false false false false = told-other bs

-- a first word of two bytes or more
asked-long : (b a : ℕ) (ws : List (List ℕ)) → asked (onto b (onto a ws)) ≡ Line.Other
unfolding asked onto
asked-long b a [] = refl
asked-long b a (w ∷ ws) = refl

letter_told : (b : ℕ) (bs : List ℕ) → told (letter_fed b) bs ≡ asked (onto b (words bs))
unfolding words onto asked
letter_told b [] = letter_alone b
letter_told b (a ∷ bs) = go (eqb a space) refl
  where
    go : (t : Bool) → eqb a space ≡ t → told (letter_fed b) (a ∷ bs) ≡ asked (onto b (elim t [ true ↦ [] ∷ words bs | false ↦ onto a (words bs) ]))
    go true e = rw (eqb-true a space e) (letter_fields b bs)
    go false e = letter_more b a bs e ∙ sym (asked-long b a (words bs))

-- ── The theorem ─────────────────────────────────────────────────────────────────────────────────────────────────

pub reader_reads : (bs : List ℕ) → line_in (foldl fed_of start_of bs) ≡ line_of bs
unfolding line_of words asked
reader_reads [] = refl
reader_reads (b ∷ bs) = go (eqb b space) refl
  where
    go : (t : Bool) → eqb b space ≡ t → told (letter_fed b) bs ≡ asked (elim t [ true ↦ [] ∷ words bs | false ↦ onto b (words bs) ])
    go true e = rw (eqb-true b space e) (told-other bs)
    go false e = letter_told b bs
