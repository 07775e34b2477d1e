-- The file of a set is accepted, and tells of that set. Assumes nothing.
use Rattle.std.specs.Prelude.{Ok}
use mathlib.Core.Path.{◌≡◌, refl, sym, ap, ◌∙◌}
use mathlib.Core.Bool.{true}
use mathlib.Core.List.{List, [], ◌∷◌, ◌++◌, append-nil}
use Prim.Native.Nat.{ℕ, ◌+◌, ◌/◌, ◌%◌, ◌<◌}
use native.Mathlib.Omega.{arith}
use borrow.Author.Tests.{lt-ltb, eq-eqb}
use lib.Dec.{ltb, eqb, lit≤, lit<}
use lib.ListN.{length, length-drop}
use Rattle.rules.specs.Test.{all}
use Rattle.rules.specs.Entry.{Cert, keys}
use Rattle.rules.proofs.Entries.Tests.{all_imp}
use Rattle.rules.proofs.Entries.Rises.{rising-of-rises}
use Rattle.exchange.specs.Item.{Item, place_width, value_width, span, section_bytes}
use Rattle.exchange.specs.Written.{meters_of, models_of, items_of, bare, section_of, roof, file_of}
use Rattle.exchange.specs.Judged.{meters_at, certs_at, end_at, meters_judged, certs_judged, end_judged, judged}
use Rattle.exchange.specs.Told.{entries_of, told_by, models_in, meters_in, certs_in}
use Rattle.exchange.specs.declared.Section.{Section}
use Rattle.exchange.proofs.Parts.{then_fine, models_by, meters_by, certs_by, end_fine}
use Rattle.exchange.proofs.Runs.{AllFit, Stands, section_stands}
use Rattle.exchange.proofs.Overs.{placed_rising, placed_roof, over_none}
use Rattle.exchange.proofs.Tellings.{top, top_start}
use Rattle.exchange.proofs.Writings.{Writing, writing}
use Rattle.exchange.proofs.Sections.{keys-bare, length-bare, length-items_of, chain_fits, section_fine}
use Rattle.exchange.proofs.Sets.{key_test, meter_test, model_test, key_facts, meter_facts, model_facts, SetFacts, OverFacts, over_facts}

bare-values : (v : ℕ) (ks : List ℕ) → 0 < v → all (λ (e : Cert). ltb e.value v) (bare ks) ≡ true
unfolding bare all
bare-values v [] p = refl
bare-values v (k ∷ ks) p = rw (lt-ltb 0 v p) (bare-values v ks p)

module _ (cs : List Cert) (h : SetFacts cs) where
  meters : List ℕ
  meters = meters_of cs

  models : List ℕ
  models = models_of meters

  facts : OverFacts meters models (length cs)
  unfolding meters models
  facts = over_facts cs h

  certs_write : Writing (span Section.Certificates) meters (placed_rising meters (rising-of-rises 0 meters facts.meters_rise)) 0 0 cs
  unfolding meters meters_of span
  certs_write =
      writing 65536 meters (placed_rising meters (rising-of-rises 0 meters facts.meters_rise)) cs 0 0 (omega arith)
      (rw (top_start meters) h.rises) (rw (top_start meters))
      (all_imp key_test (λ (k : ℕ). ltb 0 (k % 65536)) (λ k t. lt-ltb 0 (k % 65536) (key_facts k t).issue) (keys cs) h.tests)
      (all_imp key_test (λ (k : ℕ). ltb 0 (0 + k / 65536)) (λ k t. lt-ltb 0 (0 + k / 65536) (omega (arith, (key_facts k t).model))) (keys cs) h.tests)

  meters_write : Writing (span Section.Meters) models (placed_rising models (rising-of-rises 0 models facts.models_rise)) 0 0 (bare meters)
  unfolding models models_of span
  meters_write =
      writing 4294967296 models (placed_rising models (rising-of-rises 0 models facts.models_rise)) (bare meters) 0 0 (omega arith)
      (rw (top_start models, keys-bare) facts.meters_rise) (rw (top_start models, keys-bare))
      (rw keys-bare (all_imp meter_test (λ (k : ℕ). ltb 0 (k % 4294967296)) (λ k t. lt-ltb 0 (k % 4294967296) (meter_facts k t).serial) meters facts.meters_test))
      (rw keys-bare (all_imp meter_test (λ (k : ℕ). ltb 0 (0 + k / 4294967296)) (λ k t. lt-ltb 0 (0 + k / 4294967296) (omega (arith, (meter_facts k t).model))) meters facts.meters_test))

  models_write : Writing (span Section.Models) roof placed_roof 1 0 (bare models)
  unfolding span roof top
  models_write =
      writing 65536 roof placed_roof (bare models) 1 0 (lit≤ tt)
      (rw keys-bare facts.models_rise)
      (rw keys-bare (over_none 65536 models (all_imp model_test (λ (k : ℕ). eqb (k / 65536) 0) (λ k t. eq-eqb (k / 65536) 0 (omega (arith, (model_facts k t).bound))) models facts.models_test)))
      (rw keys-bare (all_imp model_test (λ (k : ℕ). ltb 0 (k % 65536)) (λ k t. lt-ltb 0 (k % 65536) (omega (arith, (model_facts k t).bound, (model_facts k t).real))) models facts.models_test))
      (rw keys-bare (all_imp model_test (λ (k : ℕ). ltb 0 (1 + k / 65536)) (λ k t. lt-ltb 0 (1 + k / 65536) (omega arith)) models facts.models_test))

  -- ── The three sections ──────────────────────────────────────────────────────────────────────────────────────────

  first : List Item
  first = items_of (span Section.Models) roof (bare models)

  second : List Item
  second = items_of (span Section.Meters) models (bare meters)

  third : List Item
  third = items_of (span Section.Certificates) meters cs

  first-length : length first ≡ length models
  unfolding first
  first-length = length-items_of (span Section.Models) roof (bare models) ∙ length-bare models

  second-length : length second ≡ length meters
  unfolding second
  second-length = length-items_of (span Section.Meters) models (bare meters) ∙ length-bare meters

  third-length : length third ≡ length cs
  unfolding third
  third-length = length-items_of (span Section.Certificates) meters cs

  first_fits : AllFit Section.Models first
  unfolding first place_width value_width roof
  first_fits = chain_fits Section.Models 1 roof (lit≤ tt) (bare models) 1 0 (bare-values 1 models (lit< tt)) models_write.chain

  second_fits : AllFit Section.Meters second
  unfolding second place_width value_width
  second_fits =
      chain_fits Section.Meters (length models) models (omega (arith, facts.models_room)) (bare meters) 0 0 (bare-values 1 meters (lit< tt))
      meters_write.chain

  third-fits : AllFit Section.Certificates third
  unfolding third place_width value_width
  third-fits =
      chain_fits Section.Certificates (length meters) meters (omega (arith, facts.meters_few, h.count)) cs 0 0 h.values
      certs_write.chain

  f : List ℕ
  f = file_of cs

  rest2 : List ℕ
  rest2 = section_bytes Section.Certificates third

  rest1 : List ℕ
  rest1 = section_bytes Section.Meters second ++ rest2

  first-stands : Stands Section.Models f 0 first rest1
  unfolding f file_of section_of first second third rest1 rest2 meters models
  first-stands =
      section_stands Section.Models f 0 first rest1 first_fits
      (omega (arith, first-length, facts.models_room)) refl

  second-stands : Stands Section.Meters f (meters_at f) second rest2
  unfolding meters_at rest1
  second-stands =
      section_stands Section.Meters f (meters_at f) second rest2 second_fits
      (omega (arith, second-length, facts.meters_few, h.count))
      first-stands.behind

  third-stands : Stands Section.Certificates f (certs_at f) third []
  unfolding certs_at rest2
  third-stands =
      section_stands Section.Certificates f (certs_at f) third [] third-fits
      (omega (arith, third-length, h.count))
      (second-stands.behind ∙ sym (append-nil rest2))

  -- ── Accepted ────────────────────────────────────────────────────────────────────────────────────────────────────

  ends : end_at f ≡ length f
  unfolding end_at
  ends =
      let e = ap (λ (l : List ℕ). length l) third-stands.behind in
      omega (arith, e, length-drop (end_at f) f, third-stands.ends)

  pub accepted : judged (file_of cs) ≡ Ok tt
  unfolding f first second third roof
  accepted =
      models_by f (sym (section_fine Section.Models f 1 1 0 first rest1 first-stands models_write.chain))
      ∙ then_fine (meters_judged f) refl
      ∙ meters_by f (length models) (meters_at f) (sym (first-stands.count ∙ first-length)) refl
      (sym (section_fine Section.Meters f (length models) 0 (meters_at f) second rest2 second-stands meters_write.chain))
      ∙ then_fine (certs_judged f) refl
      ∙ certs_by f (length meters) (certs_at f) (sym (second-stands.count ∙ second-length)) refl
      (sym (section_fine Section.Certificates f (length meters) 0 (certs_at f) third [] third-stands certs_write.chain))
      ∙ then_fine (end_judged f) refl
      ∙ end_fine f ends

  -- ── Told ────────────────────────────────────────────────────────────────────────────────────────────────────────

  models-told : models_in f ≡ models
  unfolding models_in told_by first
  models-told =
      ap (λ (is : List Item). keys (entries_of (span Section.Models) roof is)) first-stands.items
      ∙ ap (λ (es : List Cert). keys es) models_write.back ∙ keys-bare models

  meters-told : meters_in f ≡ meters
  unfolding meters_in told_by second
  meters-told =
      ap (λ (ps : List ℕ). keys (told_by Section.Meters ps f (meters_at f))) models-told
      ∙ ap (λ (is : List Item). keys (entries_of (span Section.Meters) models is)) second-stands.items
      ∙ ap (λ (es : List Cert). keys es) meters_write.back ∙ keys-bare meters

  pub told : certs_in (file_of cs) ≡ cs
  unfolding certs_in told_by third f
  told =
      ap (λ (ps : List ℕ). told_by Section.Certificates ps f (certs_at f)) meters-told
      ∙ ap (λ (is : List Item). entries_of (span Section.Certificates) meters is) third-stands.items
      ∙ certs_write.back
