-- The descent that keeps the leaf alone: beside it runs the whole way, of which it keeps the end. Assumes nothing.
use mathlib.Core.Path.{◌≡◌, refl, sym, ap, ◌∙◌}
use mathlib.Core.Bool.{true}
use mathlib.Core.List.{List, [], ◌∷◌}
use mathlib.Core.Option.{some}
use Prim.Native.Nat.{ℕ, suc, ◌+◌, ◌-◌, ◌*◌, ◌^◌, ◌≤◌, ◌<◌}
use native.Mathlib.Omega.{arith}
use lib.ListN.{length}
use Rattle.std.specs.Prelude.{Option, Some, None}
use Rattle.fields.specs.Field.{Bytes}
use Rattle.rules.specs.Layout.{page_size, leaf_kind, last_key}
use Rattle.rules.specs.Table.{read, fit0}
use Rattle.rules.specs.Place.{root_place, pick, Why}
use Rattle.rules.specs.Enter as entry
use Rattle.rules.specs.Report.{adds, reason_at}
use Rattle.rules.specs.Walk as rules
use Rattle.rules.specs.declared.Place.{Place}
use Rattle.rules.specs.declared.Report.{Report}
use Rattle.head.specs.declared.Head.{Head}
use Rattle.enter.specs.Entering as enters
use Rattle.enter.specs.declared.Above.{Above}
use Rattle.way.specs.Ways.{places_below, way_for, above_in, spot_at, ending, end_or, end_in, Ending, reported, ended}
use Rattle.way.specs.declared.Step.{Step}
use Rattle.way.specs.declared.End.{End}
use Rattle.way.proofs.Descent as way

pub record Seeking (n c k : ℕ) (t₀ t : List ℕ) (a : Above) (e : Place) (level : ℕ) (x₀ x : Report) : Type 0 where
  pub whole : List Step
  pub descent : way.Descent n c k t₀ t whole e level x₀ x
  pub above : a ≡ above_in whole

pub begins : (n c k : ℕ) (t : List ℕ) (e : Place) (x₀ x : Report) → length t ≡ n * page_size → fit0 n t ≡ true → Bytes t
    → e ≡ root_place t → x ≡ x₀ → c < 256 ^ 4 → k ≤ last_key → Seeking n c k t t (record { parent = 0; top = 0 }) e 3 x₀ x
begins n c k t e x₀ x l f b g y m h = record {
  whole = way_for [];
  descent = way.begins n c k t e (way_for []) x₀ x l f b g refl y m h;
  above = refl;
}

-- what the code hands back with a report is what the rules do
abbrev pub Handed : ℕ → ℕ → ℕ → List ℕ → Report → List ℕ → Option End → Report → Type 0
Handed n c k t₀ x₀ u r x =
    ended u (record { end = r; report = x }) ≡ reported (end_in k (rules.way_of n c k t₀)) (rules.way_report n c k t₀ x₀)

both : {a b : Ending} {x y : Report} → a ≡ b → x ≡ y → reported a x ≡ reported b y
both p q = cc

module _ {n c k : ℕ} {t₀ t : List ℕ} {a : Above} {e : Place} {level : ℕ} {x₀ x : Report} (s : Seeking n c k t₀ t a e level x₀ x) where
  pub runs_out : level ≡ 0 → Handed n c k t₀ x₀ t None x
  unfolding end_in end_or
  runs_out z = both (sym (ap (end_in k) (way.out-way s.descent z))) (sym (way.out-report s.descent z))

  module _ (o : 0 < level) where
    pub damaged : (u : List ℕ) → enters.entering u enters.damaged ≡ enters.told (reason_at n t e) (entry.enter n c (enters.above_of a) t e)
        → Handed n c k t₀ x₀ u None x
    unfolding end_in end_or
    damaged u h =
        both (sym (ap (end_in k) (way.damaged-way s.descent o a s.above u h))) (sym (way.damaged-report s.descent o a s.above u h))

    module _ (u : List ℕ) (h : Head) (why : Why)
        (f : enters.entering u (enters.found h why) ≡ enters.told (reason_at n t e) (entry.enter n c (enters.above_of a) t e))
        (y : Report) (v : y ≡ adds why x) where
      -- one more page than stand above it
      pub ends : h.kind ≡ leaf_kind → (j : ℕ) → j + level ≡ 4 → (i : ℕ) → i ≡ spot_at k u (record { place = e; head = h })
          → Handed n c k t₀ x₀ u (Some (record { len = j; leaf = record { place = e; head = h }; spot = i })) y
      unfolding end_in end_or
      ends q j m i g =
          let l : j ≡ suc (length s.descent.above) = omega (arith, m, s.descent.deep) in
          both
          (ap (λ (z : ℕ). ending u (Some (record { len = z; leaf = record { place = e; head = h }; spot = i }))) l
          ∙ (ap (λ (z : ℕ). ending u (Some (record { len = suc (length s.descent.above); leaf = record { place = e; head = h }; spot = z }))) g
          ∙ (ap (λ (z : Head). ending u (Some (record { len = suc (length s.descent.above); leaf = record { place = e; head = z }; spot = spot_at k u (record { place = e; head = z }) })))
          (way.head-here s.descent o a s.above u h why f)
          ∙ sym (ap (end_in k) (way.leaf-way s.descent o a s.above u h why f q)))))
          (way.more s.descent o a s.above u h why f y v ∙ sym (way.leaf-report s.descent o a s.above u h why f q))

      pub goes_on : (h.kind ≡ leaf_kind → ⊥) → (b : Place) → pick k (places_below h (read u e.child).view) ≡ some b
          → Seeking n c k t₀ u (record { parent = e.child; top = a.parent }) b (level - 1) x₀ y
      goes_on q b r = record {
        whole = record { place = e; head = h } ∷ s.whole;
        descent = way.goes_on s.descent o a s.above u h why f q b r y v;
        above = ap (λ (z : Above). record { parent = e.child; top = z.parent }) s.above;
      }

-- ── The end taken apart ─────────────────────────────────────────────────────────────────────────────────────────

module _ (k : ℕ) (x : rules.Way) (u : List ℕ) where
  pub end-table : {r : Option End} → ending u r ≡ end_in k x → u ≡ x.table
  unfolding end_in
  end-table h = ap (λ (y : Ending). y.table) h
