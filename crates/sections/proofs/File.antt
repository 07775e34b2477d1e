-- Certificate by certificate, the file of a set is written. Assumes nothing.
use Prim.Native.Nat.{ℕ, ◌+◌, ◌-◌, ◌*◌, ◌/◌, ◌%◌, ◌≤◌, ◌<◌}
use native.Mathlib.Omega.{arith}
use mathlib.Core.Path.{◌≡◌, refl, sym, ap, subst, ◌∙◌}
use mathlib.Core.Bool.{Bool, true, false}
use mathlib.Core.List.{List, [], ◌∷◌, ◌++◌, append-nil, append_assoc}
use lib.Dec.{eqb}
use lib.ListN.{length, length-append}
use borrow.Author.Tests.{eqb-true, eqb-false}
use Rattle.fields.specs.Field.{le, put_at}
use Rattle.fields.proofs.Number.{length-le}
use Rattle.rules.specs.Test.{all}
use Rattle.rules.specs.Entry.{Cert, keys, rising}
use Rattle.rules.specs.Page.{over}
use Rattle.rules.proofs.Entries.Tests as tests
use Rattle.rules.proofs.Entries.Rises.{rising-of-rises}
use Rattle.exchange.specs.Item.{Item, item_for, span, item_bytes, section_bytes, put_item}
use Rattle.exchange.specs.Written.{meters_of, models_of, place_in, item_of, items_of, bare, section_of, roof, file_of}
use Rattle.exchange.specs.declared.Section.{Section}
use Rattle.exchange.proofs.Sizes.{size-models, size-meters}
use Rattle.exchange.proofs.Runs.{length-item}
use Rattle.exchange.proofs.Sections.{length-bare, length-items_of}
use Rattle.exchange.proofs.Sets.{key_test, KeyFacts, key_facts, SetFacts, OverFacts, over_facts}
use Rattle.counts.specs.Tally.{no_tally, counted, counted_all}
use Rattle.counts.specs.declared.Tally.{Tally}
use Rattle.counts.proofs.Tallies.{more_same, more-other, certs-found, all_append, all-grows, Grows}
use Rattle.sections.specs.Puts.{starts_of, put_counts, put_model, put_meter, put_cert, put_next, put_all, Lies}
use Rattle.sections.specs.declared.Starts.{Starts}
use Rattle.sections.proofs.Items.{bare-append, entries_bytes, models-long, meters-long, certs-long, entries_none, entries-more}
use Rattle.sections.proofs.Puts.{model-same, model-new, meter-same, meter-new, starts_at_lem}
use Rattle.sections.proofs.Runs.{three, first_more, second_more, third-more, three_over}
use Rattle.sections.proofs.Overs.{under_by, under_none, under-old, under-new, under-append, last-place, tally-meters, tally-models, meters-are, models-are}

-- ── A set, in part written ──────────────────────────────────────────────────────────────────────────────────────

module _ (cs : List Cert) (set : SetFacts cs) (out : List ℕ) where
  abbrev all-counted : Tally
  all-counted = counted_all no_tally cs

  meters : List ℕ
  meters = meters_of cs

  models : List ℕ
  models = models_of meters

  -- each section behind its count, with what a part of the set writes there
  first_of : List Cert → List ℕ
  first_of xs = le 4 all-counted.models ++ entries_bytes Section.Models roof (bare (under_by 281474976710656 no_tally xs))

  second_of : List Cert → List ℕ
  second_of xs = le 4 all-counted.meters ++ entries_bytes Section.Meters models (bare (under_by 65536 no_tally xs))

  third_of : List Cert → List ℕ
  third_of xs = le 4 all-counted.certs ++ entries_bytes Section.Certificates meters xs

  second_at : ℕ
  second_at = 4 + 2 * all-counted.models

  third_at : ℕ
  third_at = 8 + 2 * all-counted.models + 6 * all-counted.meters

  state : List Cert → List ℕ
  state xs = three out second_at third_at (first_of xs) (second_of xs) (third_of xs)

  length-first : (xs : List Cert) → length (first_of xs) ≡ 4 + 2 * (counted_all no_tally xs).models
  unfolding first_of no_tally
  length-first xs =
      let us = under_by 281474976710656 no_tally xs in
      omega (arith, length-append (le 4 all-counted.models) (entries_bytes Section.Models roof (bare us)), length-le 4 all-counted.models, models-long roof (bare us), length-bare us, tally-models no_tally xs)

  length-second : (xs : List Cert) → length (second_of xs) ≡ 4 + 6 * (counted_all no_tally xs).meters
  unfolding second_of no_tally
  length-second xs =
      let us = under_by 65536 no_tally xs in
      omega (arith, length-append (le 4 all-counted.meters) (entries_bytes Section.Meters models (bare us)), length-le 4 all-counted.meters, meters-long models (bare us), length-bare us, tally-meters no_tally xs)

  length-third : (xs : List Cert) → length (third_of xs) ≡ 4 + 10 * (counted_all no_tally xs).certs
  unfolding third_of
  length-third xs =
      omega (arith, length-append (le 4 all-counted.certs) (entries_bytes Section.Certificates meters xs), length-le 4 all-counted.certs, certs-long meters xs, certs-found xs)

  -- the counts alone
  first-none : first_of [] ≡ le 4 all-counted.models
  unfolding first_of bare
  first-none =
      ap (λ (us : List ℕ). le 4 all-counted.models ++ entries_bytes Section.Models roof (bare us)) (under_none 281474976710656 no_tally)
      ∙ ap (λ (l : List ℕ). le 4 all-counted.models ++ l) (entries_none Section.Models roof)
      ∙ append-nil (le 4 all-counted.models)

  second_none : second_of [] ≡ le 4 all-counted.meters
  unfolding second_of bare
  second_none =
      ap (λ (us : List ℕ). le 4 all-counted.meters ++ entries_bytes Section.Meters models (bare us)) (under_none 65536 no_tally)
      ∙ ap (λ (l : List ℕ). le 4 all-counted.meters ++ l) (entries_none Section.Meters models)
      ∙ append-nil (le 4 all-counted.meters)

  third-none : third_of [] ≡ le 4 all-counted.certs
  unfolding third_of
  third-none =
      ap (λ (l : List ℕ). le 4 all-counted.certs ++ l) (entries_none Section.Certificates meters) ∙ append-nil (le 4 all-counted.certs)

  begins : put_counts all-counted out ≡ state []
  unfolding put_counts put_at state second_at third_at
  begins =
      ap (λ (l : List ℕ). three out second_at third_at l (le 4 all-counted.meters) (le 4 all-counted.certs)) (sym first-none)
      ∙ ap (λ (l : List ℕ). three out second_at third_at (first_of []) l (le 4 all-counted.certs)) (sym second_none)
      ∙ ap (λ (l : List ℕ). three out second_at third_at (first_of []) (second_of []) l) (sym third-none)

  -- ── One certificate more ────────────────────────────────────────────────────────────────────────────────────────

  abbrev starts : Starts
  starts = starts_of all-counted

  module _ (xs : List Cert) (e : Cert) (ys : List Cert) (are : cs ≡ (xs ++ (e ∷ [])) ++ ys) where
    abbrev c : Tally
    c = counted_all no_tally xs

    abbrev d : Tally
    d = counted c e.key

    d_is : counted_all no_tally (xs ++ (e ∷ [])) ≡ d
    unfolding counted_all
    d_is = all_append no_tally xs (e ∷ [])

    grows : Grows d all-counted
    grows =
        subst (Grows d) (sym (ap (counted_all no_tally) are ∙ (all_append no_tally (xs ++ (e ∷ [])) ys ∙ ap (λ (z : Tally). counted_all z ys) d_is)))
        (all-grows d ys)

    key_ok : KeyFacts e.key
    unfolding keys
    key_ok = key_facts e.key (go xs (subst (λ (zs : List Cert). all key_test (keys zs) ≡ true) are set.tests))
      where
        go : (zs : List Cert) → all key_test (keys ((zs ++ (e ∷ [])) ++ ys)) ≡ true → key_test e.key ≡ true
        go [] h = tests.all_head key_test e.key (keys ys) h
        go (z ∷ zs) h = go zs (tests.all_tail key_test z.key (keys ((zs ++ (e ∷ [])) ++ ys)) h)

    facts : OverFacts meters models (length cs)
    unfolding meters models
    facts = over_facts cs set

    -- the last place among all is that of its model, of its meter
    abbrev placed : ℕ → List ℕ → Type 0
    placed by over = place_in (e.key / by) over ≡ length (under_by by no_tally (xs ++ (e ∷ []))) - 1

    place_by : (by : ℕ) → 0 / by ≡ 0 → 0 < e.key / by → rising (under_by by no_tally cs) ≡ true → placed by (under_by by no_tally cs)
    unfolding no_tally counted
    place_by by zero-by real rise =
        let l : (counted_all no_tally (xs ++ (e ∷ []))).last ≡ e.key = ap (λ (z : Tally). z.last) d_is in
        let p = last-place by no_tally zero-by (xs ++ (e ∷ [])) ys
        (subst (λ (k : ℕ). 0 < k / by) (sym l) real)
        (subst (λ (zs : List Cert). rising (under_by by no_tally zs) ≡ true) are rise) in
        ap (λ (zs : List Cert). place_in (e.key / by) (under_by by no_tally zs)) are
        ∙ (ap (λ (k : ℕ). place_in (k / by) (under_by by no_tally ((xs ++ (e ∷ [])) ++ ys))) (sym l) ∙ p)

    model-place : place_in (e.key / 65536 / 4294967296) models ≡ d.models - 1
    unfolding models meters no_tally
    model-place =
        let twice : e.key / 65536 / 4294967296 ≡ e.key / 281474976710656 = omega arith in
        let r = subst (λ (us : List ℕ). rising us ≡ true) (models-are cs) (rising-of-rises 0 models facts.models_rise) in
        let p = place_by 281474976710656 refl (omega (arith, key_ok.model)) r in
        let m = tally-models no_tally (xs ++ (e ∷ [])) in
        ap (λ (k : ℕ). place_in k models) twice
        ∙ ap (place_in (e.key / 281474976710656)) (models-are cs)
        ∙ p
        ∙ omega (arith, m, ap (λ (z : Tally). z.models) d_is)

    meter-place : place_in (e.key / 65536) meters ≡ d.meters - 1
    unfolding meters no_tally
    meter-place =
        let r = subst (λ (us : List ℕ). rising us ≡ true) (meters-are cs) (rising-of-rises 0 meters facts.meters_rise) in
        let p = place_by 65536 refl (omega (arith, key_ok.model)) r in
        let m = tally-meters no_tally (xs ++ (e ∷ [])) in
        ap (place_in (e.key / 65536)) (meters-are cs)
        ∙ p
        ∙ omega (arith, m, ap (λ (z : Tally). z.meters) d_is)

    -- what stands over the keys, with this one's
    same_over : (by : ℕ) → c.last / by ≡ e.key / by → under_by by no_tally (xs ++ (e ∷ [])) ≡ under_by by no_tally xs
    same_over by q =
        under-append by no_tally xs (e ∷ [])
        ∙ ap (λ (l : List ℕ). under_by by no_tally xs ++ l) (under-old by c e [] q ∙ under_none by d)
        ∙ append-nil (under_by by no_tally xs)

    new-over : (by : ℕ) → (c.last / by ≡ e.key / by → ⊥) → under_by by no_tally (xs ++ (e ∷ [])) ≡ under_by by no_tally xs ++ (e.key / by ∷ [])
    new-over by q =
        under-append by no_tally xs (e ∷ [])
        ∙ ap (λ (l : List ℕ). under_by by no_tally xs ++ l) (under-new by c e [] q ∙ ap (λ (l : List ℕ). e.key / by ∷ l) (under_none by d))

    -- its model
    model-item : item_of (span Section.Models) roof (record { key = e.key / 281474976710656; value = 0 }) ≡ item_for 0 (e.key / 281474976710656) 0
    unfolding item_of span roof place_in
    model-item =
        let low : e.key / 281474976710656 / 65536 ≡ 0 = omega (arith, key_ok.bound) in
        let same : e.key / 281474976710656 % 65536 ≡ e.key / 281474976710656 = omega (arith, key_ok.bound) in
        rw (low, same)

    first-same : c.last / 281474976710656 ≡ e.key / 281474976710656 → first_of (xs ++ (e ∷ [])) ≡ first_of xs
    unfolding first_of
    first-same q =
        ap (λ (us : List ℕ). le 4 all-counted.models ++ entries_bytes Section.Models roof (bare us)) (same_over 281474976710656 q)

    first-new : (c.last / 281474976710656 ≡ e.key / 281474976710656 → ⊥)
        → first_of (xs ++ (e ∷ [])) ≡ first_of xs ++ item_bytes Section.Models (item_for 0 (e.key / 281474976710656) 0)
    unfolding first_of bare
    first-new q =
        let us = under_by 281474976710656 no_tally xs in
        let m = e.key / 281474976710656 in
        let n = le 4 all-counted.models in
        ap (λ (vs : List ℕ). n ++ entries_bytes Section.Models roof (bare vs)) (new-over 281474976710656 q)
        ∙ ap (λ (es : List Cert). n ++ entries_bytes Section.Models roof es) (bare-append us (m ∷ []))
        ∙ ap (λ (l : List ℕ). n ++ l) (entries-more Section.Models roof (bare us) (record { key = m; value = 0 }))
        ∙ ap (λ (i : Item). n ++ (entries_bytes Section.Models roof (bare us) ++ item_bytes Section.Models i)) model-item
        ∙ sym (append_assoc n (entries_bytes Section.Models roof (bare us)) (item_bytes Section.Models (item_for 0 m 0)))

    put_first : put_model c d e.key (state xs) ≡ three out second_at third_at (first_of (xs ++ (e ∷ []))) (second_of xs) (third_of xs)
    unfolding counted state second_at third_at put_item
    put_first = go (eqb (c.last / 281474976710656) (e.key / 281474976710656)) refl
      where
        go : (b : Bool) → eqb (c.last / 281474976710656) (e.key / 281474976710656) ≡ b → put_model c d e.key (state xs) ≡ three out second_at third_at (first_of (xs ++ (e ∷ []))) (second_of xs) (third_of xs)
        go true f =
            let q = eqb-true (c.last / 281474976710656) (e.key / 281474976710656) f in
            model-same c d e.key (state xs) (more_same 281474976710656 c.last e.key c.models q)
            ∙ ap (λ (l : List ℕ). three out second_at third_at l (second_of xs) (third_of xs)) (sym (first-same q))
        go false f =
            let q = eqb-false (c.last / 281474976710656) (e.key / 281474976710656) f in
            let more = more-other 281474976710656 c.last e.key c.models q in
            let i = item_for 0 (e.key / 281474976710656) 0 in
            model-new c d e.key (state xs) (λ z. omega (arith, z, more))
            ∙ first_more out second_at third_at (first_of xs) (second_of xs) (third_of xs) (item_bytes Section.Models i) (4 + 2 * c.models)
            (sym (length-first xs)) (omega (arith, length-item Section.Models i, size-models, grows.models, more)) (omega arith)
            ∙ ap (λ (l : List ℕ). three out second_at third_at l (second_of xs) (third_of xs)) (sym (first-new q))

    -- its meter
    meter-item : item_of (span Section.Meters) models (record { key = e.key / 65536; value = 0 }) ≡ item_for (d.models - 1) (e.key / 65536 % 4294967296) 0
    unfolding item_of span
    meter-item = ap (λ (p : ℕ). item_for p (e.key / 65536 % 4294967296) 0) model-place

    second-same : c.last / 65536 ≡ e.key / 65536 → second_of (xs ++ (e ∷ [])) ≡ second_of xs
    unfolding second_of
    second-same q = ap (λ (us : List ℕ). le 4 all-counted.meters ++ entries_bytes Section.Meters models (bare us)) (same_over 65536 q)

    second-new : (c.last / 65536 ≡ e.key / 65536 → ⊥)
        → second_of (xs ++ (e ∷ [])) ≡ second_of xs ++ item_bytes Section.Meters (item_for (d.models - 1) (e.key / 65536 % 4294967296) 0)
    unfolding second_of bare
    second-new q =
        let us = under_by 65536 no_tally xs in
        let m = e.key / 65536 in
        let n = le 4 all-counted.meters in
        ap (λ (vs : List ℕ). n ++ entries_bytes Section.Meters models (bare vs)) (new-over 65536 q)
        ∙ ap (λ (es : List Cert). n ++ entries_bytes Section.Meters models es) (bare-append us (m ∷ []))
        ∙ ap (λ (l : List ℕ). n ++ l) (entries-more Section.Meters models (bare us) (record { key = m; value = 0 }))
        ∙ ap (λ (i : Item). n ++ (entries_bytes Section.Meters models (bare us) ++ item_bytes Section.Meters i)) meter-item
        ∙ sym (append_assoc n (entries_bytes Section.Meters models (bare us)) (item_bytes Section.Meters (item_for (d.models - 1) (m % 4294967296) 0)))

    put_second : (fs : List ℕ) → put_meter starts c d e.key (three out second_at third_at fs (second_of xs) (third_of xs))
        ≡ three out second_at third_at fs (second_of (xs ++ (e ∷ []))) (third_of xs)
    unfolding counted second_at third_at put_item
    put_second fs = go (eqb (c.last / 65536) (e.key / 65536)) refl
      where
        go : (b : Bool) → eqb (c.last / 65536) (e.key / 65536) ≡ b → put_meter starts c d e.key (three out second_at third_at fs (second_of xs) (third_of xs))
            ≡ three out second_at third_at fs (second_of (xs ++ (e ∷ []))) (third_of xs)
        go true f =
            let q = eqb-true (c.last / 65536) (e.key / 65536) f in
            meter-same c d e.key (three out second_at third_at fs (second_of xs) (third_of xs)) starts (more_same 65536 c.last e.key c.meters q)
            ∙ ap (λ (l : List ℕ). three out second_at third_at fs l (third_of xs)) (sym (second-same q))
        go false f =
            let q = eqb-false (c.last / 65536) (e.key / 65536) f in
            let more = more-other 65536 c.last e.key c.meters q in
            let at = starts_at_lem all-counted in
            let i = item_for (d.models - 1) (e.key / 65536 % 4294967296) 0 in
            meter-new c d e.key (three out second_at third_at fs (second_of xs) (third_of xs)) starts (λ z. omega (arith, z, more))
            ∙ second_more out second_at third_at fs (second_of xs) (third_of xs) (item_bytes Section.Meters i) (starts.meters + 6 * c.meters)
            (omega (arith, length-second xs, at.meters)) (omega (arith, length-item Section.Meters i, size-meters, grows.meters, more, at.meters))
            ∙ ap (λ (l : List ℕ). three out second_at third_at fs l (third_of xs)) (sym (second-new q))

    -- the certificate itself
    put-third : (fs ss : List ℕ) → put_cert starts c d e (three out second_at third_at fs ss (third_of xs))
        ≡ three out second_at third_at fs ss (third_of (xs ++ (e ∷ [])))
    unfolding put_cert put_item third_at third_of item_of span
    put-third fs ss =
        let i = item_for (d.meters - 1) (e.key % 65536) e.value in
        let n = le 4 all-counted.certs in
        third-more out second_at third_at fs ss (third_of xs) (item_bytes Section.Certificates i) (starts.certs + 10 * c.certs)
        (omega (arith, length-third xs, (starts_at_lem all-counted).certs))
        ∙ ap (three out second_at third_at fs ss)
        (append_assoc n (entries_bytes Section.Certificates meters xs) (item_bytes Section.Certificates i)
        ∙ ap (λ (p : ℕ). n ++ (entries_bytes Section.Certificates meters xs ++ item_bytes Section.Certificates (item_for p (e.key % 65536) e.value))) (sym meter-place)
        ∙ ap (λ (l : List ℕ). n ++ l) (sym (entries-more Section.Certificates meters xs e)))

    put_one : put_next starts c e (state xs) ≡ state (xs ++ (e ∷ []))
    unfolding put_next state
    put_one =
        ap (λ (l : List ℕ). put_cert starts c d e (put_meter starts c d e.key l)) put_first
        ∙ ap (put_cert starts c d e) (put_second (first_of (xs ++ (e ∷ []))))
        ∙ put-third (first_of (xs ++ (e ∷ []))) (second_of (xs ++ (e ∷ [])))

  -- ── All of them ─────────────────────────────────────────────────────────────────────────────────────────────────

  put_rest : (xs ys : List Cert) → cs ≡ xs ++ ys → (put_all starts (counted_all no_tally xs) ys (state xs)).out ≡ state cs
  unfolding put_all
  put_rest xs [] are = ap state (sym (are ∙ append-nil xs))
  put_rest xs (y ∷ ys) are =
      let next : cs ≡ (xs ++ (y ∷ [])) ++ ys = are ∙ sym (append_assoc xs (y ∷ []) ys) in
      ap (λ (l : List ℕ). (put_all starts (counted (counted_all no_tally xs) y.key) ys l).out) (put_one xs y ys next)
      ∙ ap (λ (z : Tally). (put_all starts z ys (state (xs ++ (y ∷ [])))).out) (sym (d_is xs y ys next))
      ∙ put_rest (xs ++ (y ∷ [])) ys next

  -- the three sections are the file
  first-is : first_of cs ≡ section_of Section.Models roof (bare models)
  unfolding first_of section_of section_bytes models meters no_tally
  first-is =
      let many : all-counted.models ≡ length (items_of (span Section.Models) roof (bare models))
      = omega (arith, tally-models no_tally cs, length-items_of (span Section.Models) roof (bare models), length-bare models, ap length (models-are cs)) in
      ap (λ (us : List ℕ). le 4 all-counted.models ++ entries_bytes Section.Models roof (bare us)) (sym (models-are cs))
      ∙ ap (λ (k : ℕ). le 4 k ++ entries_bytes Section.Models roof (bare models)) many

  second_is : second_of cs ≡ section_of Section.Meters models (bare meters)
  unfolding second_of section_of section_bytes models meters no_tally
  second_is =
      let many : all-counted.meters ≡ length (items_of (span Section.Meters) models (bare meters))
      = omega (arith, tally-meters no_tally cs, length-items_of (span Section.Meters) models (bare meters), length-bare meters, ap length (meters-are cs)) in
      ap (λ (us : List ℕ). le 4 all-counted.meters ++ entries_bytes Section.Meters models (bare us)) (sym (meters-are cs))
      ∙ ap (λ (k : ℕ). le 4 k ++ entries_bytes Section.Meters models (bare meters)) many

  third-is : third_of cs ≡ section_of Section.Certificates meters cs
  unfolding third_of section_of section_bytes
  third-is =
      ap (λ (k : ℕ). le 4 k ++ entries_bytes Section.Certificates meters cs) (certs-found cs ∙ sym (length-items_of (span Section.Certificates) meters cs))

  file-is : (first_of cs ++ (second_of cs ++ third_of cs)) ≡ file_of cs
  unfolding file_of models meters
  file-is =
      ap (λ (l : List ℕ). l ++ (second_of cs ++ third_of cs)) first-is
      ∙ ap (λ (l : List ℕ). section_of Section.Models roof (bare models) ++ (l ++ third_of cs)) second_is
      ∙ ap (λ (l : List ℕ). section_of Section.Models roof (bare models) ++ (section_of Section.Meters models (bare meters) ++ l)) third-is

  -- its end is its length
  pub file-end : (starts_of (counted_all no_tally cs)).end ≡ length (file_of cs)
  file-end =
      omega (arith, (starts_at_lem all-counted).end, sym (ap length file-is), length-append (first_of cs) (second_of cs ++ third_of cs), length-append (second_of cs) (third_of cs), length-first cs, length-second cs, length-third cs)

  pub file-written : length (file_of cs) ≤ length out
      → (put_all (starts_of (counted_all no_tally cs)) no_tally cs (put_counts (counted_all no_tally cs) out)).out ≡ over (file_of cs) out
  unfolding state second_at third_at counted_all
  file-written h =
      ap (λ (l : List ℕ). (put_all starts no_tally cs l).out) begins
      ∙ put_rest [] cs refl
      ∙ three_over out second_at third_at (first_of cs) (second_of cs) (third_of cs) (sym (length-first cs)) (omega (arith, length-first cs, length-second cs)) (omega (arith, h, ap length file-is))
      ∙ ap (λ (l : List ℕ). over l out) file-is

  -- and what is put lies within an output that holds it
  pub file-lies : length (file_of cs) ≤ length out → Lies (starts_of (counted_all no_tally cs)) (counted_all no_tally cs) (length out)
  unfolding meters models no_tally
  file-lies h =
      let at = starts_at_lem all-counted in
      let f = over_facts cs set in
      record {
        models = omega (arith, file-end, at.end, h);
        meters = omega (arith, file-end, at.end, at.meters, h);
        certs = omega (arith, file-end, at.end, at.certs, h);
        names = omega (arith, f.models_room, tally-models no_tally cs, ap length (models-are cs));
        counts = omega (arith, set.count, certs-found cs);
      }
