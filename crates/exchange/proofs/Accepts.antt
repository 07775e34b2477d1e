-- An accepted file is the file of the set that it tells of. Assumes nothing.
use Rattle.std.specs.Prelude.{Ok, Err}
use mathlib.Core.Path.{◌≡◌, refl, sym, ap, ◌∙◌}
use mathlib.Core.Bool.{Bool, true, false, ◌&&◌}
use mathlib.Core.List.{List, [], ◌∷◌, ◌++◌, append-nil}
use Prim.Native.Nat.{ℕ, ◌+◌, ◌/◌, ◌%◌, ◌^◌}
use native.Mathlib.Omega.{arith}
use borrow.Author.Tests.{ltb-true, lt-ltb, eqb-true}
use lib.Dec.{ltb, eqb}
use lib.ListN.{length, drop}
use lib.Seq.{drop-length}
use Rattle.fields.specs.Field.{le_at, Bytes}
use Rattle.fields.proofs.Field.{le_at-bound}
use Rattle.rules.specs.Test.{all}
use Rattle.rules.specs.Entry.{Cert, keys, rises_from}
use Rattle.rules.proofs.Entries.Tests.{and_left, and_right, every_of, all_imp}
use Rattle.rules.proofs.Entries.Rises.{rises-nil, rising-of-rises, length-keys}
use Rattle.exchange.specs.Item.{Item, value_width, span, count_width, section_bytes}
use Rattle.exchange.specs.Written.{is_set, meters_of, models_of, bare, section_of, roof, file_of}
use Rattle.exchange.specs.Judged.{Judged, section_judged, meters_at, certs_at, end_at, and_then, end_judged, certs_judged, meters_judged, judged}
use Rattle.exchange.specs.Told.{items_in, told_by, models_in, meters_in, certs_in}
use Rattle.exchange.specs.declared.Section.{Section}
use Rattle.exchange.proofs.Parts.{bad_not_fine, fine_after}
use Rattle.exchange.proofs.Runs.{length_from, section_lies}
use Rattle.exchange.proofs.Overs.{Placed, placed_rising, placed_roof}
use Rattle.exchange.proofs.Tellings.{top, top_start, Telling, telling, told_each}
use Rattle.exchange.proofs.Sections.{bare-keys, length-entries_of, values-entries_of, span-real, numbers_fit, values-fit, section_chain}
use Rattle.exchange.proofs.Sets.{key_test, meter_test, model_test, key_of_lem, meter-of, facts_set}

-- ── Every part of the judgement is fine ─────────────────────────────────────────────────────────────────────────

both_fine : (j k : Judged) → and_then j k ≡ Ok tt → (j ≡ Ok tt) × (k ≡ Ok tt)
unfolding and_then
both_fine (Ok tt) k h = (refl, h)
both_fine (Err at) k h = absurd (bad_not_fine h)

pub record AllFine (f : List ℕ) : Type 0 where
  pub models : section_judged Section.Models f 1 1 0 ≡ Ok tt
  pub meters : section_judged Section.Meters f (le_at f 0 count_width) 0 (meters_at f) ≡ Ok tt
  pub certs : section_judged Section.Certificates f (le_at f (meters_at f) count_width) 0 (certs_at f) ≡ Ok tt
  pub ends : end_at f ≡ length f

pub all_fine : (f : List ℕ) → judged f ≡ Ok tt → AllFine f
unfolding judged meters_judged certs_judged end_judged
all_fine f h =
    let a = both_fine (section_judged Section.Models f 1 1 0) (meters_judged f) h in
    let b = both_fine (section_judged Section.Meters f (le_at f 0 count_width) 0 (meters_at f)) (certs_judged f) a.1 in
    let c = both_fine (section_judged Section.Certificates f (le_at f (meters_at f) count_width) 0 (certs_at f)) (end_judged f) b.1 in
    record { models = a.0; meters = b.0; certs = c.0; ends = go (eqb (end_at f) (length f)) refl c.1 }
  where
    go : (t : Bool) → eqb (end_at f) (length f) ≡ t → end_judged f ≡ Ok tt → end_at f ≡ length f
    go true e j = eqb-true (end_at f) (length f) e
    go false e j = absurd (bad_not_fine (rw (end_judged, e) at j))

-- ── A section ───────────────────────────────────────────────────────────────────────────────────────────────────

pub length-told : (f : List ℕ) (s : Section) (ps : List ℕ) (at : ℕ) → length (told_by s ps f at) ≡ le_at f at count_width
unfolding told_by items_in
length-told f s ps at =
    length-entries_of (span s) ps (items_in s f at) ∙ length_from s f (le_at f at count_width) (at + count_width)

module _ (f : List ℕ) (b : Bytes f) where
  module _ (s : Section) (ps : List ℕ) (placed : Placed ps) (used at : ℕ) (r : rises_from (top ps used) (drop used ps) ≡ true) (j : section_judged s f (length ps) used at ≡ Ok tt) where
    numbers : all (λ (i : Item). ltb i.number (span s)) (items_in s f at) ≡ true
    unfolding items_in
    numbers = numbers_fit s f b (le_at f at count_width) (at + count_width)

    section_tells : Telling (span s) ps used 0 (items_in s f at)
    section_tells = telling (span s) ps placed (items_in s f at) used 0 (span-real s) numbers r (section_chain s f (length ps) used at j)

    section_each : (q : ℕ → Bool) → all q ps ≡ true → all (λ (k : ℕ). q (k / span s) && ltb 0 (k % span s)) (keys (told_by s ps f at)) ≡ true
    unfolding told_by
    section_each q a = told_each (span s) ps placed q a (items_in s f at) used 0 numbers (section_chain s f (length ps) used at j)

    section_values : all (λ (e : Cert). ltb e.value (256 ^ value_width s)) (told_by s ps f at) ≡ true
    unfolding told_by items_in
    section_values =
        values-entries_of (span s) ps (256 ^ value_width s) (items_in s f at) (values-fit s f b (le_at f at count_width) (at + count_width))

-- ── The three sections ──────────────────────────────────────────────────────────────────────────────────────────

module _ (f : List ℕ) (b : Bytes f) (fine : AllFine f) where
  -- models
  roof-left : rises_from (top roof 1) (drop 1 roof) ≡ true
  unfolding top roof
  roof-left = rises-nil 0

  models_fine : section_judged Section.Models f (length roof) 1 0 ≡ Ok tt
  unfolding roof
  models_fine = fine.models

  models_tell : Telling (span Section.Models) roof 1 0 (items_in Section.Models f 0)
  models_tell = section_tells f b Section.Models roof placed_roof 1 0 roof-left models_fine

  models_rise : rises_from 0 (models_in f) ≡ true
  unfolding models_in told_by top roof span
  models_rise = models_tell.rises

  models_test : all model_test (models_in f) ≡ true
  unfolding models_in span roof all model_test
  models_test =
      all_imp (λ (k : ℕ). eqb (k / 65536) 0 && ltb 0 (k % 65536)) model_test model_of_lem (models_in f)
      (section_each f b Section.Models roof placed_roof 1 0 roof-left models_fine (λ (k : ℕ). eqb k 0) refl)
    where
      model_of_lem : (k : ℕ) → (eqb (k / 65536) 0 && ltb 0 (k % 65536)) ≡ true → model_test k ≡ true
      model_of_lem k h =
          let z = eqb-true (k / 65536) 0 (and_left (eqb (k / 65536) 0) (ltb 0 (k % 65536)) h) in
          let n = ltb-true 0 (k % 65536) (and_right (eqb (k / 65536) 0) (ltb 0 (k % 65536)) h) in
          every_of (ltb k 65536 ∷ ltb 0 k ∷ []) (lt-ltb k 65536 (omega arith), (lt-ltb 0 k (omega arith), tt))

  models-again : section_of Section.Models roof (bare (models_in f)) ≡ section_bytes Section.Models (items_in Section.Models f 0)
  unfolding section_of models_in told_by value_width
  models-again =
      let es = told_by Section.Models roof f 0 in
      let e : bare (keys es) ≡ es = bare-keys es (section_values f b Section.Models roof placed_roof 1 0 roof-left models_fine) in
      rw (e, models_tell.again)

  -- meters
  models-count : length (models_in f) ≡ le_at f 0 count_width
  unfolding models_in
  models-count = length-keys (told_by Section.Models roof f 0) ∙ length-told f Section.Models roof 0

  models_placed : Placed (models_in f)
  models_placed = placed_rising (models_in f) (rising-of-rises 0 (models_in f) models_rise)

  models-left : rises_from (top (models_in f) 0) (drop 0 (models_in f)) ≡ true
  models-left = rw (top_start (models_in f)) models_rise

  meters_fine : section_judged Section.Meters f (length (models_in f)) 0 (meters_at f) ≡ Ok tt
  meters_fine = rw models-count fine.meters

  meters_tell : Telling (span Section.Meters) (models_in f) 0 0 (items_in Section.Meters f (meters_at f))
  meters_tell = section_tells f b Section.Meters (models_in f) models_placed 0 (meters_at f) models-left meters_fine

  meters_rise : rises_from 0 (meters_in f) ≡ true
  unfolding meters_in told_by span
  meters_rise = rw (top_start (models_in f)) at meters_tell.rises

  meters-over : models_of (meters_in f) ≡ models_in f
  unfolding models_of meters_in told_by
  meters-over = rw (top_start (models_in f)) at meters_tell.overs

  meters_test : all meter_test (meters_in f) ≡ true
  unfolding meters_in span
  meters_test =
      all_imp (λ (k : ℕ). model_test (k / 4294967296) && ltb 0 (k % 4294967296)) meter_test
      (λ k h. meter-of k (and_left (model_test (k / 4294967296)) (ltb 0 (k % 4294967296)) h)
      (ltb-true 0 (k % 4294967296) (and_right (model_test (k / 4294967296)) (ltb 0 (k % 4294967296)) h)))
      (meters_in f)
      (section_each f b Section.Meters (models_in f) models_placed 0 (meters_at f) models-left meters_fine model_test models_test)

  meters-again : section_of Section.Meters (models_in f) (bare (meters_in f)) ≡ section_bytes Section.Meters (items_in Section.Meters f (meters_at f))
  unfolding section_of meters_in told_by value_width
  meters-again =
      let es = told_by Section.Meters (models_in f) f (meters_at f) in
      let e : bare (keys es) ≡ es = bare-keys es (section_values f b Section.Meters (models_in f) models_placed 0 (meters_at f) models-left meters_fine) in
      rw (e, meters_tell.again)

  -- certificates
  meters-count : length (meters_in f) ≡ le_at f (meters_at f) count_width
  unfolding meters_in
  meters-count = length-keys (told_by Section.Meters (models_in f) f (meters_at f)) ∙ length-told f Section.Meters (models_in f) (meters_at f)

  meters_placed : Placed (meters_in f)
  meters_placed = placed_rising (meters_in f) (rising-of-rises 0 (meters_in f) meters_rise)

  meters-left : rises_from (top (meters_in f) 0) (drop 0 (meters_in f)) ≡ true
  meters-left = rw (top_start (meters_in f)) meters_rise

  certs_fine : section_judged Section.Certificates f (length (meters_in f)) 0 (certs_at f) ≡ Ok tt
  certs_fine = rw meters-count fine.certs

  certs_tell : Telling (span Section.Certificates) (meters_in f) 0 0 (items_in Section.Certificates f (certs_at f))
  certs_tell = section_tells f b Section.Certificates (meters_in f) meters_placed 0 (certs_at f) meters-left certs_fine

  certs_rise : rises_from 0 (keys (certs_in f)) ≡ true
  unfolding certs_in told_by span
  certs_rise = rw (top_start (meters_in f)) at certs_tell.rises

  certs-over : meters_of (certs_in f) ≡ meters_in f
  unfolding meters_of certs_in told_by
  certs-over = rw (top_start (meters_in f)) at certs_tell.overs

  certs_test : all key_test (keys (certs_in f)) ≡ true
  unfolding certs_in span
  certs_test =
      all_imp (λ (k : ℕ). meter_test (k / 65536) && ltb 0 (k % 65536)) key_test
      (λ k h. key_of_lem k (and_left (meter_test (k / 65536)) (ltb 0 (k % 65536)) h)
      (ltb-true 0 (k % 65536) (and_right (meter_test (k / 65536)) (ltb 0 (k % 65536)) h)))
      (keys (certs_in f))
      (section_each f b Section.Certificates (meters_in f) meters_placed 0 (certs_at f) meters-left certs_fine meter_test meters_test)

  certs-again : section_of Section.Certificates (meters_in f) (certs_in f) ≡ section_bytes Section.Certificates (items_in Section.Certificates f (certs_at f))
  unfolding section_of certs_in told_by
  certs-again = rw certs_tell.again

  -- ── The file ────────────────────────────────────────────────────────────────────────────────────────────────────

  lies : f ≡ section_bytes Section.Models (items_in Section.Models f 0)
      ++ (section_bytes Section.Meters (items_in Section.Meters f (meters_at f)) ++ section_bytes Section.Certificates (items_in Section.Certificates f (certs_at f)))
  unfolding meters_at certs_at end_at
  lies =
      let a = section_lies Section.Models f b 0 (fine_after Section.Models f 1 1 0 fine.models) in
      let c = section_lies Section.Meters f b (meters_at f) (fine_after Section.Meters f (le_at f 0 count_width) 0 (meters_at f) fine.meters) in
      let d = section_lies Section.Certificates f b (certs_at f) (fine_after Section.Certificates f (le_at f (meters_at f) count_width) 0 (certs_at f) fine.certs) in
      let e : drop (end_at f) f ≡ [] = ap (λ (n : ℕ). drop n f) fine.ends ∙ drop-length f in
      let g = d ∙ ap (λ (l : List ℕ). section_bytes Section.Certificates (items_in Section.Certificates f (certs_at f)) ++ l) e
      ∙ append-nil (section_bytes Section.Certificates (items_in Section.Certificates f (certs_at f))) in
      a ∙ ap (λ (l : List ℕ). section_bytes Section.Models (items_in Section.Models f 0) ++ l)
      (c ∙ ap (λ (l : List ℕ). section_bytes Section.Meters (items_in Section.Meters f (meters_at f)) ++ l) g)

  pub file_of_lem : f ≡ file_of (certs_in f)
  unfolding file_of
  file_of_lem = lies ∙ sym (rw (certs-over, meters-over, models-again, meters-again, certs-again))

  pub set-of : is_set (certs_in f) ≡ true
  unfolding certs_in value_width
  set-of =
      facts_set (certs_in f)
      (record {
        rises = certs_rise;
        tests = certs_test;
        values = section_values f b Section.Certificates (meters_in f) meters_placed 0 (certs_at f) meters-left certs_fine;
        count = omega (arith, length-told f Section.Certificates (meters_in f) (certs_at f), le_at-bound f (certs_at f) count_width b);
      })
