-- A file is accepted exactly if it is the file of some set of certificates. Assumes nothing.
use Rattle.std.specs.Prelude.{Ok, Err}
use mathlib.Core.Path.{◌≡◌, refl, sym, ap, subst, ◌∙◌}
use mathlib.Core.Bool.{true}
use mathlib.Core.List.{List, [], ◌∷◌, ◌++◌}
use Prim.Native.Nat.{ℕ, ◌+◌, ◌*◌}
use native.Mathlib.Omega.{arith}
use lib.ListN.{length, length-append}
use Rattle.fields.specs.Field.{le, le_at, Bytes}
use Rattle.fields.proofs.Bytes.{bytes-nil, bytes_le, bytes-append}
use Rattle.fields.proofs.Number.{length-le}
use Rattle.rules.specs.Entry.{Cert}
use Rattle.exchange.specs.Item.{Item, place_width, number_width, value_width, size, span, count_width, item_bytes, items_bytes, section_bytes}
use Rattle.exchange.specs.Written.{is_set, meters_of, models_of, items_of, bare, section_of, roof, file_of}
use Rattle.exchange.specs.Judged.{Judged, Checked, certs_at, judged, counted, checked}
use Rattle.exchange.specs.Told.{meters_in, certs_in}
use Rattle.exchange.specs.Exact.{Exact}
use Rattle.exchange.specs.declared.Section.{Section}
use Rattle.exchange.proofs.Sizes.{size-models, size-meters, size-certs}
use Rattle.exchange.proofs.Parts.{counted_bad, counted_fine}
use Rattle.exchange.proofs.Runs.{length-items}
use Rattle.exchange.proofs.Sections.{length-bare, length-items_of}
use Rattle.exchange.proofs.Sets.{set_facts}
use Rattle.exchange.proofs.Writes.{accepted, told}
use Rattle.exchange.proofs.Accepts.{length-told, all_fine, file_of_lem, set-of}

-- ── A file is bytes ─────────────────────────────────────────────────────────────────────────────────────────────

bytes-item : (s : Section) (i : Item) → Bytes (item_bytes s i)
unfolding item_bytes
bytes-item s i =
    let v = le (value_width s) i.value in
    let n = le (number_width s) i.number in
    let t = bytes-append n v (bytes_le (number_width s) i.number) (bytes_le (value_width s) i.value) in
    bytes-append (le (place_width s) i.place) (n ++ v) (bytes_le (place_width s) i.place) t

pub bytes-items : (s : Section) (is : List Item) → Bytes (items_bytes s is)
unfolding items_bytes
bytes-items s [] = bytes-nil
bytes-items s (i ∷ is) = bytes-append (item_bytes s i) (items_bytes s is) (bytes-item s i) (bytes-items s is)

bytes_section : (s : Section) (ps : List ℕ) (es : List Cert) → Bytes (section_of s ps es)
unfolding section_of section_bytes
bytes_section s ps es =
    let is = items_of (span s) ps es in
    bytes-append (le count_width (length is)) (items_bytes s is) (bytes_le count_width (length is)) (bytes-items s is)

bytes-file : (cs : List Cert) → Bytes (file_of cs)
unfolding file_of
bytes-file cs =
    let meters = meters_of cs in
    let models = models_of meters in
    let b = section_of Section.Meters models (bare meters) in
    let c = section_of Section.Certificates meters cs in
    bytes-append (section_of Section.Models roof (bare models)) (b ++ c) (bytes_section Section.Models roof (bare models))
    (bytes-append b c (bytes_section Section.Meters models (bare meters)) (bytes_section Section.Certificates meters cs))

-- ── The check's count ───────────────────────────────────────────────────────────────────────────────────────────

same_good : (m n : ℕ) → ◌≡◌ {A = Checked} (Ok m) (Ok n) → m ≡ n
same_good m n h = cc

never-good : (at n : ℕ) → ◌≡◌ {A = Checked} (Err at) (Ok n) → ⊥
never-good at n h = let z : ◌≡◌ {A = ℕ} 0 1 = cc in omega arith

good_fine : (f : List ℕ) (n : ℕ) → checked f ≡ Ok n → (judged f ≡ Ok tt) × (n ≡ le_at f (certs_at f) count_width)
unfolding checked
good_fine f n h = go (judged f) refl
  where
    go : (j : Judged) → judged f ≡ j → (judged f ≡ Ok tt) × (n ≡ le_at f (certs_at f) count_width)
    go (Ok tt) e = (e, sym (same_good (le_at f (certs_at f) count_width) n (sym (ap (counted f) e ∙ counted_fine f) ∙ h)))
    go (Err at) e = absurd (never-good at n (sym (ap (counted f) e ∙ counted_bad f at) ∙ h))

count-told : (f : List ℕ) (n : ℕ) → checked f ≡ Ok n → n ≡ length (certs_in f)
unfolding certs_in
count-told f n h = (good_fine f n h).1 ∙ sym (length-told f Section.Certificates (meters_in f) (certs_at f))

-- ── A file's length ─────────────────────────────────────────────────────────────────────────────────────────────

length_section : (s : Section) (ps : List ℕ) (es : List Cert) → length (section_of s ps es) ≡ 4 + size s * length es
unfolding section_of section_bytes
length_section s ps es =
    let is = items_of (span s) ps es in
    rw (sym (length-items_of (span s) ps es))
    (omega (arith, length-append (le count_width (length is)) (items_bytes s is), length-le count_width (length is), length-items s is))

length-file : (cs : List Cert) → length (file_of cs) ≡ 12 + 2 * length (models_of (meters_of cs)) + 6 * length (meters_of cs) + 10 * length cs
unfolding file_of
length-file cs =
    let meters = meters_of cs in
    let models = models_of meters in
    let a = rw size-models at (length_section Section.Models roof (bare models)) in
    let b = rw size-meters at (length_section Section.Meters models (bare meters)) in
    let c = rw size-certs at (length_section Section.Certificates meters cs) in
    let d = length-append (section_of Section.Models roof (bare models)) (section_of Section.Meters models (bare meters) ++ section_of Section.Certificates meters cs) in
    let e = length-append (section_of Section.Meters models (bare meters)) (section_of Section.Certificates meters cs) in
    omega (arith, a, b, c, d, e, length-bare models, length-bare meters)

pub exact : Exact
exact = record {
  written = λ cs h. accepted cs (set_facts cs h);
  told = λ cs h. told cs (set_facts cs h);
  set = λ f b h. set-of f b (all_fine f h);
  file = λ f b h. file_of_lem f b (all_fine f h);
  accepts = λ f n h. (good_fine f n h).0;
  counts = count-told;
  bytes = bytes-file;
  size = length-file;
}

-- so no other bytes are accepted, and those of the set that is told are
pub accepted-of : (f : List ℕ) → is_set (certs_in f) ≡ true → f ≡ file_of (certs_in f) → judged f ≡ Ok tt
accepted-of f h e = subst (λ (g : List ℕ). judged g ≡ Ok tt) (sym e) (exact.written (certs_in f) h)

-- no two sets share a file
pub same_set : (cs ds : List Cert) → is_set cs ≡ true → is_set ds ≡ true → file_of cs ≡ file_of ds → cs ≡ ds
same_set cs ds h k e = sym (exact.told cs h) ∙ ap (λ (f : List ℕ). certs_in f) e ∙ exact.told ds k
