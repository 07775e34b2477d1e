-- A set of certificates, its meters and its models: what is known of their numbers. Assumes nothing.
use mathlib.Core.Path.{◌≡◌}
use mathlib.Core.Bool.{Bool, true, ◌&&◌}
use mathlib.Core.List.{List, [], ◌∷◌}
use Prim.Native.Nat.{ℕ, ◌/◌, ◌%◌, ◌^◌, ◌≤◌, ◌<◌}
use native.Mathlib.Omega.{arith}
use borrow.Author.Tests.{ltb-true, lt-ltb}
use lib.Dec.{ltb, lit<}
use lib.ListN.{length}
use Rattle.rules.specs.Test.{every, all}
use Rattle.rules.specs.Key.{model_of, serial_of, issue_of, good_key}
use Rattle.rules.specs.Entry.{Cert, keys, rising, rises_from}
use Rattle.rules.proofs.Entries.Tests.{and_left, and_right, and_of, every_true, every_of, all_head, all_tail, all_nil, all_cons, all_imp}
use Rattle.rules.proofs.Entries.Rises.{rises-nil, rises-cons, rising-from, rising-of-rises, length-keys, all-keys}
use Rattle.rules.proofs.Bytes.Keys.{good_parts_true, good-good_parts}
use Rattle.exchange.specs.Item.{span}
use Rattle.exchange.specs.Written.{good_cert, is_set, meters_of, models_of}
use Rattle.exchange.proofs.Overs.{over-rises, over-all, over-length, rises-room}

-- ── The tests of a key, a meter and a model ─────────────────────────────────────────────────────────────────────

-- within its width, with a meter over it and an issue
unfoldable pub key_test : ℕ → Bool
key_test k = ltb k (2 ^ 64) && good_key k

-- within its width, with a model over it and a serial
unfoldable pub meter_test : ℕ → Bool
meter_test m = every (ltb m (2 ^ 48) ∷ ltb 0 (m / 4294967296) ∷ ltb 0 (m % 4294967296) ∷ [])

unfoldable pub model_test : ℕ → Bool
model_test m = every (ltb m 65536 ∷ ltb 0 m ∷ [])

pub record KeyFacts (k : ℕ) : Type 0 where
  pub bound : k < 2 ^ 64
  pub model : 0 < k / 65536 / 4294967296
  pub serial : 0 < k / 65536 % 4294967296
  pub issue : 0 < k % 65536

pub key_facts : (k : ℕ) → key_test k ≡ true → KeyFacts k
unfolding key_test good_key model_of serial_of issue_of
key_facts k h =
    let b = ltb-true k (2 ^ 64) (and_left (ltb k (2 ^ 64)) (good_key k) h) in
    let g = good_parts_true (model_of k) (serial_of k) (issue_of k) (and_right (ltb k (2 ^ 64)) (good_key k) h) in
    record {
      bound = b;
      model = omega (arith, g.model);
      serial = omega (arith, g.serial);
      issue = omega (arith, g.issue);
    }

pub key-meter : (k : ℕ) → key_test k ≡ true → meter_test (k / 65536) ≡ true
unfolding meter_test
key-meter k h =
    let f = key_facts k h in
    every_of (ltb (k / 65536) (2 ^ 48) ∷ ltb 0 (k / 65536 / 4294967296) ∷ ltb 0 (k / 65536 % 4294967296) ∷ [])
    (lt-ltb (k / 65536) (2 ^ 48) (omega (arith, f.bound)), (lt-ltb 0 (k / 65536 / 4294967296) f.model, (lt-ltb 0 (k / 65536 % 4294967296) f.serial, tt)))

pub record MeterFacts (m : ℕ) : Type 0 where
  pub bound : m < 2 ^ 48
  pub model : 0 < m / 4294967296
  pub serial : 0 < m % 4294967296

pub meter_facts : (m : ℕ) → meter_test m ≡ true → MeterFacts m
unfolding meter_test
meter_facts m h =
    let t = every_true (ltb m (2 ^ 48) ∷ ltb 0 (m / 4294967296) ∷ ltb 0 (m % 4294967296) ∷ []) h in
    record {
      bound = ltb-true m (2 ^ 48) t.0;
      model = ltb-true 0 (m / 4294967296) t.1.0;
      serial = ltb-true 0 (m % 4294967296) t.1.1.0;
    }

pub meter-model : (m : ℕ) → meter_test m ≡ true → model_test (m / 4294967296) ≡ true
unfolding model_test
meter-model m h =
    let f = meter_facts m h in
    every_of (ltb (m / 4294967296) 65536 ∷ ltb 0 (m / 4294967296) ∷ [])
    (lt-ltb (m / 4294967296) 65536 (omega (arith, f.bound)), (lt-ltb 0 (m / 4294967296) f.model, tt))

pub record ModelFacts (m : ℕ) : Type 0 where
  pub bound : m < 65536
  pub real : 0 < m

pub model_facts : (m : ℕ) → model_test m ≡ true → ModelFacts m
unfolding model_test
model_facts m h =
    let t = every_true (ltb m 65536 ∷ ltb 0 m ∷ []) h in
    record { bound = ltb-true m 65536 t.0; real = ltb-true 0 m t.1.0 }

-- and back, from what a key stands under and its number there
pub key_of_lem : (k : ℕ) → meter_test (k / 65536) ≡ true → 0 < k % 65536 → key_test k ≡ true
unfolding key_test good_key model_of serial_of issue_of
key_of_lem k h i =
    let f = meter_facts (k / 65536) h in
    and_of (lt-ltb k (2 ^ 64) (omega (arith, f.bound)))
    (good-good_parts (record { model = omega (arith, f.model); serial = omega (arith, f.serial); issue = omega (arith, i) }))

pub meter-of : (m : ℕ) → model_test (m / 4294967296) ≡ true → 0 < m % 4294967296 → meter_test m ≡ true
unfolding meter_test
meter-of m h i =
    let f = model_facts (m / 4294967296) h in
    every_of (ltb m (2 ^ 48) ∷ ltb 0 (m / 4294967296) ∷ ltb 0 (m % 4294967296) ∷ [])
    (lt-ltb m (2 ^ 48) (omega (arith, f.bound)), (lt-ltb 0 (m / 4294967296) f.real, (lt-ltb 0 (m % 4294967296) i, tt)))

-- ── A set ───────────────────────────────────────────────────────────────────────────────────────────────────────

rises-zero : (ks : List ℕ) → rising ks ≡ true → all key_test ks ≡ true → rises_from 0 ks ≡ true
rises-zero [] r a = rises-nil 0
rises-zero (k ∷ ks) r a =
    rises-cons 0 k ks (omega (arith, (key_facts k (all_head key_test k ks a)).issue)) (rising-from k ks r)

pub record SetFacts (cs : List Cert) : Type 0 where
  pub rises : rises_from 0 (keys cs) ≡ true
  pub tests : all key_test (keys cs) ≡ true
  pub values : all (λ (e : Cert). ltb e.value (2 ^ 32)) cs ≡ true
  pub count : length cs < 2 ^ 32

good_key_lem : (e : Cert) → good_cert e ≡ true → key_test e.key ≡ true
unfolding good_cert key_test
good_key_lem e h =
    let t = every_true (ltb e.key (2 ^ 64) ∷ good_key e.key ∷ ltb e.value (2 ^ 32) ∷ []) h in
    and_of t.0 t.1.0

good-value : (e : Cert) → good_cert e ≡ true → ltb e.value (2 ^ 32) ≡ true
unfolding good_cert
good-value e h =
    (every_true (ltb e.key (2 ^ 64) ∷ good_key e.key ∷ ltb e.value (2 ^ 32) ∷ []) h).1.1.0

pub set_facts : (cs : List Cert) → is_set cs ≡ true → SetFacts cs
unfolding is_set
set_facts cs h =
    let t = every_true (rising (keys cs) ∷ all good_cert cs ∷ ltb (length cs) (2 ^ 32) ∷ []) h in
    let a : all key_test (keys cs) ≡ true = rw (all-keys key_test cs) (all_imp good_cert (λ (e : Cert). key_test e.key) good_key_lem cs t.1.0) in
    record {
      rises = rises-zero (keys cs) t.0 a;
      tests = a;
      values = all_imp good_cert (λ (e : Cert). ltb e.value (2 ^ 32)) good-value cs t.1.0;
      count = ltb-true (length cs) (2 ^ 32) t.1.1.0;
    }

all-good : (cs : List Cert) → all key_test (keys cs) ≡ true → all (λ (e : Cert). ltb e.value (2 ^ 32)) cs ≡ true → all good_cert cs ≡ true
unfolding keys good_cert key_test
all-good [] k v = all_nil good_cert
all-good (e ∷ es) k v =
    let t = all_head key_test e.key (keys es) k in
    let w = all_head (λ (e : Cert). ltb e.value (2 ^ 32)) e es v in
    all_cons good_cert e es
    (every_of (ltb e.key (2 ^ 64) ∷ good_key e.key ∷ ltb e.value (2 ^ 32) ∷ [])
    (and_left (ltb e.key (2 ^ 64)) (good_key e.key) t, (and_right (ltb e.key (2 ^ 64)) (good_key e.key) t, (w, tt))))
    (all-good es (all_tail key_test e.key (keys es) k) (all_tail (λ (e : Cert). ltb e.value (2 ^ 32)) e es v))

pub facts_set : (cs : List Cert) → SetFacts cs → is_set cs ≡ true
unfolding is_set
facts_set cs h =
    every_of (rising (keys cs) ∷ all good_cert cs ∷ ltb (length cs) (2 ^ 32) ∷ [])
    (rising-of-rises 0 (keys cs) h.rises, (all-good cs h.tests h.values, (lt-ltb (length cs) (2 ^ 32) h.count, tt)))

-- its meters and models
pub record OverFacts (meters models : List ℕ) (count : ℕ) : Type 0 where
  pub meters_rise : rises_from 0 meters ≡ true
  pub meters_test : all meter_test meters ≡ true
  pub meters_few : length meters ≤ count
  pub models_rise : rises_from 0 models ≡ true
  pub models_test : all model_test models ≡ true
  pub models_few : length models ≤ length meters
  pub models_room : length models < 65536

pub over_facts : (cs : List Cert) → SetFacts cs → OverFacts (meters_of cs) (models_of (meters_of cs)) (length cs)
unfolding meters_of models_of span
over_facts cs h =
    let ks = keys cs in
    let meters = meters_of cs in
    let a = over-rises 65536 0 ks (lit< tt) h.rises in
    let b = over-all 65536 meter_test 0 ks (all_imp key_test (λ (k : ℕ). meter_test (k / 65536)) key-meter ks h.tests) in
    let c = over-rises 4294967296 0 meters (lit< tt) a in
    let d = over-all 4294967296 model_test 0 meters (all_imp meter_test (λ (m : ℕ). model_test (m / 4294967296)) meter-model meters b) in
    let e = all_imp model_test (λ (m : ℕ). ltb m 65536) (λ m t. lt-ltb m 65536 (model_facts m t).bound) (models_of meters) d in
    record {
      meters_rise = a;
      meters_test = b;
      meters_few = omega (arith, over-length 65536 0 ks, length-keys cs);
      models_rise = c;
      models_test = d;
      models_few = over-length 4294967296 0 meters;
      models_room = omega (arith, rises-room 0 65536 (models_of meters) (lit< tt) c e);
    }
