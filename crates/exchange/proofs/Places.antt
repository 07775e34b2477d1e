-- One item of an accepted file, found by its place: where it lies, what it names, and which entry it is. Assumes nothing.
use Rattle.std.specs.Prelude.{Ok}
use mathlib.Core.Path.{◌≡◌, refl, sym, ap, subst, ◌∙◌}
use mathlib.Core.List.{List, [], ◌∷◌}
use Prim.Native.Nat.{ℕ, zero, suc, ◌+◌, ◌*◌, ◌/◌, ◌%◌, ◌^◌, ◌≤◌, ◌<◌}
use native.Mathlib.Nat.{zero-add, add-zero, mul-zero, mul-suc, mul-le-mul_left, not-suc-le-zero, le_of_suc-le-suc}
use native.Mathlib.Omega.{arith}
use lib.ListN.{length, get_or}
use Rattle.fields.specs.Field.{le_at}
use Rattle.rules.specs.Key.{model_of, serial_of, issue_of}
use Rattle.rules.specs.Entry.{Cert}
use Rattle.rules.proofs.Entries.Rises.{get_d_keys}
use Rattle.exchange.specs.Item.{Item, size, span, count_width, item_at}
use Rattle.exchange.specs.Written.{roof}
use Rattle.exchange.specs.Judged.{section_judged, after, meters_at, certs_at, judged}
use Rattle.exchange.specs.Told.{items_from, items_in, entry_of, entries_of, told_by, models_in, meters_in, certs_in, cert_parts, cert_in}
use Rattle.exchange.specs.declared.Section.{Section}
use Rattle.exchange.specs.declared.Certificate.{Certificate}
use Rattle.exchange.proofs.Sizes.{size-models, size-meters, size-certs, place-models, place-meters, place-certs, number-models, number-meters, number-certs, value-certs}
use Rattle.exchange.proofs.Steps.{after_is}
use Rattle.exchange.proofs.Parts.{fine_after, meters_at_by, certs_at_by}
use Rattle.exchange.proofs.Runs.{length_from}
use Rattle.exchange.proofs.Chains.{Chain}
use Rattle.exchange.proofs.Sections.{section_chain}
use Rattle.exchange.proofs.Accepts.{all_fine}

-- it lies within the section
pub item-within : (s : Section) (f : List ℕ) (at i : ℕ) → i < le_at f at count_width → at + count_width + size s * i + size s ≤ after s f at
item-within s f at i h =
    let m : size s * suc i ≡ size s * i + size s = mul-suc (size s) i in
    omega (arith, m, after_is s f at, mul-le-mul_left (size s) h)

module _ (s : Section) (f : List ℕ) where
  from_at : (n at i : ℕ) (d : Item) → i < n → get_or (items_from s f n at) i d ≡ item_at s f (at + size s * i)
  unfolding items_from
  from_at zero at i d h = absurd (not-suc-le-zero h)
  from_at (suc n) at zero d h = rw (mul-zero, add-zero)
  from_at (suc n) at (suc i) d h =
      let m : size s * suc i ≡ size s * i + size s = mul-suc (size s) i in
      let e : at + size s + size s * i ≡ at + size s * suc i = omega (arith, m) in
      from_at n (at + size s) i d (le_of_suc-le-suc h) ∙ ap (λ (k : ℕ). item_at s f k) e

entries_at : (b : ℕ) (ps : List ℕ) (is : List Item) (i : ℕ) (d : Item) (e : Cert) → i < length is → get_or (entries_of b ps is) i e ≡ entry_of b ps (get_or is i d)
unfolding entries_of
entries_at b ps [] i d e h = absurd (not-suc-le-zero h)
entries_at b ps (x ∷ is) zero d e h = refl
entries_at b ps (x ∷ is) (suc i) d e h = entries_at b ps is i d e (le_of_suc-le-suc h)

chain_at : (over : ℕ) (is : List Item) (used last i : ℕ) (d : Item) → i < length is → Chain over used last is → (get_or is i d).place < over
unfolding Chain
chain_at over [] used last i d h c = absurd (not-suc-le-zero h)
chain_at over (x ∷ is) used last zero d h c = c.0.inside
chain_at over (x ∷ is) used last (suc i) d h c = chain_at over is (x.place + 1) x.number i d (le_of_suc-le-suc h) c.1

module _ (s : Section) (f : List ℕ) (at i : ℕ) (h : i < le_at f at count_width) where
  here : Item
  here = item_at s f (at + count_width + size s * i)

  inside : i < length (items_in s f at)
  unfolding items_in
  inside = omega (arith, length_from s f (le_at f at count_width) (at + count_width))

  item-is : get_or (items_in s f at) i here ≡ here
  unfolding items_in here
  item-is = from_at s f (le_at f at count_width) (at + count_width) i here h

  -- the entry that is told by it
  pub told_at : (ps : List ℕ) (e : Cert) → get_or (told_by s ps f at) i e ≡ entry_of (span s) ps (item_at s f (at + count_width + size s * i))
  unfolding told_by here
  told_at ps e = entries_at (span s) ps (items_in s f at) i here e inside ∙ ap (entry_of (span s) ps) item-is

  -- what it names is there, and it lies within the file
  module _ (over used : ℕ) (j : section_judged s f over used at ≡ Ok tt) where
    pub names_at : (item_at s f (at + count_width + size s * i)).place < over
    unfolding here
    names_at =
        subst (λ (x : Item). x.place < over) item-is (chain_at over (items_in s f at) used 0 i here inside (section_chain s f over used at j))

    pub lies_at : at + count_width + size s * i + size s ≤ length f
    lies_at = omega (arith, item-within s f at i h, fine_after s f over used at j)

-- ── The three kinds ─────────────────────────────────────────────────────────────────────────────────────────────

none_here : Cert
none_here = record { key = 0; value = 0 }

pub model-told : (f : List ℕ) (i : ℕ) → i < le_at f 0 count_width → get_or (models_in f) i 0 ≡ le_at f (count_width + size Section.Models * i) 2
unfolding models_in entry_of span roof none_here
model-told f i h =
    let at = count_width + size Section.Models * i in
    get_d_keys (told_by Section.Models roof f 0) i none_here
    ∙ ap (λ (e : Cert). e.key) (told_at Section.Models f 0 i h roof none_here)
    ∙ rw (place-models f at) (zero-add (item_at Section.Models f at).number ∙ number-models f at)

pub meter-told : (f : List ℕ) (i : ℕ) → i < le_at f (meters_at f) count_width
    → let at = meters_at f + count_width + size Section.Meters * i in get_or (meters_in f) i 0 ≡ get_or (models_in f) (le_at f at 2) 0 * 2 ^ 32 + le_at f (at + 2) 4
unfolding meters_in entry_of span none_here
meter-told f i h =
    let at = meters_at f + count_width + size Section.Meters * i in
    get_d_keys (told_by Section.Meters (models_in f) f (meters_at f)) i none_here
    ∙ ap (λ (e : Cert). e.key) (told_at Section.Meters f (meters_at f) i h (models_in f) none_here)
    ∙ rw (place-meters f at, number-meters f at)

pub cert_told : (f : List ℕ) (i : ℕ) → i < le_at f (certs_at f) count_width
    → let at = certs_at f + count_width + size Section.Certificates * i in
    cert_in f i ≡ cert_parts (record { key = get_or (meters_in f) (le_at f at 4) 0 * 2 ^ 16 + le_at f (at + 4) 2; value = le_at f (at + 6) 4 })
unfolding cert_in certs_in entry_of span none_here
cert_told f i h =
    let at = certs_at f + count_width + size Section.Certificates * i in
    ap cert_parts (told_at Section.Certificates f (certs_at f) i h (meters_in f) none_here)
    ∙ rw (place-certs f at, number-certs f at, value-certs f at)

-- ── Their parts ─────────────────────────────────────────────────────────────────────────────────────────────────

pub cert_parts_lem : (model serial issue value meter : ℕ) → meter ≡ model * 2 ^ 32 + serial → serial < 2 ^ 32 → issue < 2 ^ 16
    → ◌≡◌ {A = Certificate} (record { model = model; serial = serial; issue = issue; «record» = value }) (cert_parts (record { key = meter * 2 ^ 16 + issue; value = value }))
unfolding cert_parts model_of serial_of issue_of
cert_parts_lem model serial issue value meter e h k =
    let a : model ≡ meter / 2 ^ 32 = omega arith in
    let b : serial ≡ meter % 2 ^ 32 = omega arith in
    let x : model ≡ (meter * 2 ^ 16 + issue) / 2 ^ 48 = a ∙ omega arith in
    let y : serial ≡ (meter * 2 ^ 16 + issue) / 2 ^ 16 % 2 ^ 32 = b ∙ omega arith in
    let z : issue ≡ (meter * 2 ^ 16 + issue) % 2 ^ 16 = omega arith in
    λ j. record { model = x j; serial = y j; issue = z j; «record» = value }

-- read at its byte, its meter at the meter's and its model at the model's
pub cert_made : (f : List ℕ) (i at : ℕ) → i < le_at f (certs_at f) count_width → at ≡ certs_at f + count_width + size Section.Certificates * i
    → (model serial issue value : ℕ) → get_or (meters_in f) (le_at f at 4) 0 ≡ model * 2 ^ 32 + serial → issue ≡ le_at f (at + 4) 2 → value ≡ le_at f (at + 6) 4
    → serial < 2 ^ 32 → issue < 2 ^ 16 → ◌≡◌ {A = Certificate} (record { model = model; serial = serial; issue = issue; «record» = value }) (cert_in f i)
cert_made f i at h e model serial issue value em ei ev k l =
    cert_parts_lem model serial issue value (get_or (meters_in f) (le_at f at 4) 0) em k l ∙ sym (cert_told f i h ∙ rw (sym e, sym ei, sym ev))

-- ── In an accepted file ─────────────────────────────────────────────────────────────────────────────────────────

module _ (f : List ℕ) (fine : judged f ≡ Ok tt) where
  pub models-end : after Section.Models f 0 ≤ length f
  models-end = fine_after Section.Models f 1 1 0 (all_fine f fine).models

  pub meters-end : after Section.Meters f (meters_at f) ≤ length f
  meters-end = fine_after Section.Meters f (le_at f 0 count_width) 0 (meters_at f) (all_fine f fine).meters

  pub model-lies : (i : ℕ) → i < le_at f 0 count_width → count_width + size Section.Models * i + 2 ≤ length f
  model-lies i h = omega (arith, lies_at Section.Models f 0 i h 1 1 (all_fine f fine).models, size-models)

  module _ (i : ℕ) (h : i < le_at f (meters_at f) count_width) where
    pub meter-lies : meters_at f + count_width + size Section.Meters * i + 6 ≤ length f
    meter-lies = omega (arith, lies_at Section.Meters f (meters_at f) i h (le_at f 0 count_width) 0 (all_fine f fine).meters, size-meters)

    pub meter-names : le_at f (meters_at f + count_width + size Section.Meters * i) 2 < le_at f 0 count_width
    meter-names =
        rw (place-meters f (meters_at f + count_width + size Section.Meters * i)) at
        (names_at Section.Meters f (meters_at f) i h (le_at f 0 count_width) 0 (all_fine f fine).meters)

  module _ (i : ℕ) (h : i < le_at f (certs_at f) count_width) where
    pub cert_lies : certs_at f + count_width + size Section.Certificates * i + 10 ≤ length f
    cert_lies = omega (arith, lies_at Section.Certificates f (certs_at f) i h (le_at f (meters_at f) count_width) 0 (all_fine f fine).certs, size-certs)

    pub cert_names : le_at f (certs_at f + count_width + size Section.Certificates * i) 4 < le_at f (meters_at f) count_width
    cert_names =
        rw (place-certs f (certs_at f + count_width + size Section.Certificates * i)) at
        (names_at Section.Certificates f (certs_at f) i h (le_at f (meters_at f) count_width) 0 (all_fine f fine).certs)

  -- its byte, as it was found from the sections' starts
  module _ (i : ℕ) (h : i < le_at f (certs_at f) count_width) {m n at : ℕ} (em : m ≡ after Section.Models f 0) (en : n ≡ after Section.Meters f m) (e : at ≡ n + count_width + size Section.Certificates * i) where
    pub cert_spot : at ≡ certs_at f + count_width + size Section.Certificates * i
    cert_spot = e ∙ ap (λ (k : ℕ). k + count_width + size Section.Certificates * i) (certs_at_by f (meters_at_by f em) en)

    pub cert_room : at + 10 ≤ length f
    cert_room = omega (arith, cert_spot, cert_lies i h)

    -- its meter, by the place that is read there
    module _ (j : ℕ) (ej : j ≡ le_at f at 4) where
      meter_there : j < le_at f (meters_at f) count_width
      meter_there = omega (arith, ej, ap (λ (k : ℕ). le_at f k 4) cert_spot, cert_names i h)

      module _ (by : ℕ) (eb : by ≡ m + count_width + size Section.Meters * j) where
        meter_spot : by ≡ meters_at f + count_width + size Section.Meters * j
        meter_spot = eb ∙ ap (λ (k : ℕ). k + count_width + size Section.Meters * j) (meters_at_by f em)

        pub meter_room : by + 6 ≤ length f
        meter_room = omega (arith, meter_spot, meter-lies j meter_there)

        -- and the meter's model
        module _ (k : ℕ) (ek : k ≡ le_at f by 2) where
          model_there : k < le_at f 0 count_width
          model_there = omega (arith, ek, ap (λ (x : ℕ). le_at f x 2) meter_spot, meter-names j meter_there)

          pub model_room : count_width + size Section.Models * k + 2 ≤ length f
          model_room = model-lies k model_there

          pub meter_made : (model serial : ℕ) → model ≡ le_at f (count_width + size Section.Models * k) 2 → serial ≡ le_at f (by + 2) 4
              → get_or (meters_in f) (le_at f at 4) 0 ≡ model * 2 ^ 32 + serial
          meter_made model serial e1 e2 =
              let spot = meters_at f + count_width + size Section.Meters * j in
              let x : le_at f spot 2 ≡ k = sym (ek ∙ ap (λ (x : ℕ). le_at f x 2) meter_spot) in
              let y : get_or (models_in f) (le_at f spot 2) 0 ≡ model = ap (λ (x : ℕ). get_or (models_in f) x 0) x ∙ model-told f k model_there ∙ sym e1 in
              let z : le_at f (spot + 2) 4 ≡ serial = ap (λ (x : ℕ). le_at f (x + 2) 4) (sym meter_spot) ∙ sym e2 in
              ap (λ (x : ℕ). get_or (meters_in f) x 0) (sym ej)
              ∙ meter-told f j meter_there
              ∙ ap (λ (x : ℕ). x * 2 ^ 32 + le_at f (spot + 2) 4) y
              ∙ ap (λ (x : ℕ). model * 2 ^ 32 + x) z
