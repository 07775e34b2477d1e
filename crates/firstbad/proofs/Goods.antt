-- Good files, made of items: three lists that follow, written one after another. Assumes nothing.
use Rattle.std.specs.Prelude.{Ok}
use Prim.Native.Nat.{ℕ, ◌^◌, ◌<◌}
use native.Mathlib.Omega.{arith}
use mathlib.Core.Path.{◌≡◌, refl, sym, ap, ◌∙◌, subst}
use mathlib.Core.List.{List, [], ◌++◌}
use lib.ListN.{length, drop, length-drop}
use lib.Seq.{drop-length}
use Rattle.fields.specs.Field.{le, Bytes}
use Rattle.fields.proofs.Bytes.{bytes-nil, bytes_le, bytes-append}
use Rattle.exchange.specs.Item.{Item, count_width, section_bytes}
use Rattle.exchange.specs.Judged.{meters_at, certs_at, end_at, meters_judged, certs_judged, end_judged, judged}
use Rattle.exchange.specs.Told.{certs_in}
use Rattle.exchange.specs.declared.Section.{Section}
use Rattle.exchange.proofs.Parts.{then_fine, models_by, meters_by, certs_by, end_fine}
use Rattle.exchange.proofs.Runs.{AllFit, Stands, section_stands}
use Rattle.exchange.proofs.Chains.{Chain}
use Rattle.exchange.proofs.Sections.{section_fine}
use Rattle.exchange.proofs.Accepts.{all_fine}
use Rattle.exchange.proofs.Exact.{bytes-items, exact}
use Rattle.firstbad.specs.FirstBad.{GoodFile}

-- three lists of items as a file, and what stands behind it
unfoldable pub made : List Item → List Item → List Item → List ℕ → List ℕ
made a b c more =
    section_bytes Section.Models a ++ (section_bytes Section.Meters b ++ (section_bytes Section.Certificates c ++ more))

-- they fit their fields, and their counts do
pub record Fit (a b c : List Item) : Type 0 where
  pub models : AllFit Section.Models a
  pub meters : AllFit Section.Meters b
  pub certs : AllFit Section.Certificates c
  pub models_few : length a < 2 ^ 32
  pub meters_few : length b < 2 ^ 32
  pub certs_few : length c < 2 ^ 32

-- they follow, each list under the one before it
pub record Follow (a b c : List Item) : Type 0 where
  pub models : Chain 1 1 0 a
  pub meters : Chain (length a) 0 0 b
  pub certs : Chain (length b) 0 0 c

module _ (a b c : List Item) (more : List ℕ) (fit : Fit a b c) where
  abbrev g : List ℕ
  g = made a b c more

  -- ── What stands in it ───────────────────────────────────────────────────────────────────────────────────────────

  pub models-stand : Stands Section.Models g 0 a (section_bytes Section.Meters b ++ (section_bytes Section.Certificates c ++ more))
  unfolding made
  models-stand =
      section_stands Section.Models g 0 a (section_bytes Section.Meters b ++ (section_bytes Section.Certificates c ++ more)) fit.models
      (omega (arith, fit.models_few)) refl

  pub meters-stand : Stands Section.Meters g (meters_at g) b (section_bytes Section.Certificates c ++ more)
  unfolding meters_at
  meters-stand =
      section_stands Section.Meters g (meters_at g) b (section_bytes Section.Certificates c ++ more) fit.meters
      (omega (arith, fit.meters_few)) models-stand.behind

  pub certs-stand : Stands Section.Certificates g (certs_at g) c more
  unfolding certs_at
  certs-stand =
      section_stands Section.Certificates g (certs_at g) c more fit.certs (omega (arith, fit.certs_few)) meters-stand.behind

  -- ── It is good alone ────────────────────────────────────────────────────────────────────────────────────────────

  -- what stands behind it is nothing, if all is good
  pub nothing-more : judged g ≡ Ok tt → more ≡ []
  unfolding end_at
  nothing-more fine =
      sym certs-stand.behind ∙ (ap (λ (k : ℕ). drop k g) (all_fine g fine).ends ∙ drop-length g)

  ends : more ≡ [] → end_at g ≡ length g
  unfolding end_at
  ends e =
      let h = ap (λ (l : List ℕ). length l) (certs-stand.behind ∙ e) in
      omega (arith, h, length-drop (end_at g) g, certs-stand.ends)

  pub made_fine : Follow a b c → more ≡ [] → judged g ≡ Ok tt
  made_fine f e =
      models_by g (sym (section_fine Section.Models g 1 1 0 a _ models-stand f.models))
      ∙ then_fine (meters_judged g) refl
      ∙ meters_by g (length a) (meters_at g) (sym models-stand.count) refl
      (sym (section_fine Section.Meters g (length a) 0 (meters_at g) b _ meters-stand f.meters))
      ∙ then_fine (certs_judged g) refl
      ∙ certs_by g (length b) (certs_at g) (sym meters-stand.count) refl
      (sym (section_fine Section.Certificates g (length b) 0 (certs_at g) c _ certs-stand f.certs))
      ∙ then_fine (end_judged g) refl
      ∙ end_fine g (ends e)

-- ── A file of a set ─────────────────────────────────────────────────────────────────────────────────────────────

bytes_section : (s : Section) (is : List Item) → Bytes (section_bytes s is)
unfolding section_bytes
bytes_section s is = bytes-append (le count_width (length is)) _ (bytes_le count_width (length is)) (bytes-items s is)

bytes-made : (a b c : List Item) → Bytes (made a b c [])
unfolding made
bytes-made a b c =
    bytes-append (section_bytes Section.Models a) _ (bytes_section Section.Models a)
    (bytes-append (section_bytes Section.Meters b) _ (bytes_section Section.Meters b)
    (bytes-append (section_bytes Section.Certificates c) [] (bytes_section Section.Certificates c) bytes-nil))

pub made-good : (a b c : List Item) → Fit a b c → Follow a b c → GoodFile (made a b c [])
made-good a b c fit f =
    let g = made a b c [] in
    let fine = made_fine a b c [] fit f refl in
    record { certs = certs_in g; set = exact.set g (bytes-made a b c) fine; is = exact.file g (bytes-made a b c) fine }

pub good_fine : (g : List ℕ) → GoodFile g → judged g ≡ Ok tt
good_fine g h = subst (λ (x : List ℕ). judged x ≡ Ok tt) (sym h.is) (exact.written h.certs h.set)
