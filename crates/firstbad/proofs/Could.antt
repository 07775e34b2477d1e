-- What stands before a bad item could begin a good file: items of number 1 under what is left make one of it. Assumes nothing.
use Rattle.std.specs.Prelude.{Ok}
use Prim.Native.Nat.{ℕ, zero, suc, ◌+◌, ◌*◌, ◌-◌, ◌^◌, ◌≤◌, ◌<◌}
use native.Mathlib.Omega.{arith}
use mathlib.Core.Path.{◌≡◌, sym, ap, ◌∙◌, subst}
use mathlib.Core.Logic.{◌⊎◌, inl, inr}
use mathlib.Core.List.{List, [], ◌∷◌, ◌++◌}
use lib.Dec.{lit<, lit≤}
use lib.ListN.{length, take, length-append}
use Rattle.fields.specs.Field.{le_at, Bytes}
use Rattle.fields.proofs.Field.{le_at-bound}
use Rattle.exchange.specs.Item.{Item, place_width, number_width, value_width, size, count_width, item_at}
use Rattle.exchange.specs.Judged.{section_judged, meters_at, certs_at}
use Rattle.exchange.specs.Told.{items_from, items_in}
use Rattle.exchange.specs.declared.Section.{Section}
use Rattle.exchange.proofs.Sizes.{size-meters, size-certs}
use Rattle.exchange.proofs.Steps.{after_is}
use Rattle.exchange.proofs.Runs.{AllFit, fit_none, fit_more, length_from}
use Rattle.exchange.proofs.Chains.{Chain}
use Rattle.exchange.proofs.Sections.{section_chain}
use Rattle.firstbad.specs.FirstBad.{start_of, all_of, first_of, SameBefore, Could}
use Rattle.firstbad.proofs.Prefixes.{Prefix, one_each, length_each, each_chain, each_fits, fits-append, goes_on, prefix_used, take-first}
use Rattle.firstbad.proofs.Goods.{made, Fit, made-good, models-stand, meters-stand, certs-stand}

-- ── Fields ──────────────────────────────────────────────────────────────────────────────────────────────────────

pub fits-from : (s : Section) (f : List ℕ) → Bytes f → (n at : ℕ) → AllFit s (items_from s f n at)
unfolding items_from item_at
fits-from s f b zero at = fit_none
fits-from s f b (suc n) at =
    fit_more {i = item_at s f at}
    (record {
      place = le_at-bound f at (place_width s) b;
      number = le_at-bound f (at + place_width s) (number_width s) b;
      value = le_at-bound f (at + place_width s + number_width s) (value_width s) b;
    })
    (fits-from s f b n (at + size s))

one-fits : (s : Section) → (1 < 256 ^ number_width s) × (0 < 256 ^ value_width s)
unfolding number_width value_width
one-fits Section.Models = (lit< tt, lit< tt)
one-fits Section.Meters = (lit< tt, lit< tt)
one-fits Section.Certificates = (lit< tt, lit< tt)

-- models rise below 65,536, so they are fewer
pub models_few : (is : List Item) (last : ℕ) → AllFit Section.Models is → last < 65536 → Chain 1 1 last is → last + length is < 65536
unfolding Chain number_width
models_few [] last fit_none h c = omega (arith, h)
models_few (i ∷ is) last (fit_more w ws) h c =
    go c.0.next (models_few is i.number ws (omega (arith, w.number)) (subst (λ (k : ℕ). Chain 1 k i.number is) one c.1))
  where
    one : i.place + 1 ≡ 1
    one = omega (arith, c.0.inside)

    go : (i.place ≡ 1) ⊎ ((i.place + 1 ≡ 1) × (last < i.number)) → i.number + length is < 65536 → last + length (i ∷ is) < 65536
    go (inl e) r = absurd (omega (arith, e, c.0.inside))
    go (inr e) r = omega (arith, e.1, r)

-- ── A section that goes on ──────────────────────────────────────────────────────────────────────────────────────

-- its first items, and one under each of those that have nothing under them yet
abbrev completed : Section → List ℕ → ℕ → ℕ → ℕ → List Item
completed s f j over u = first_of s f j ++ one_each (over - u) u

module _ (s : Section) (f : List ℕ) (b : Bytes f) (over used j u l : ℕ) (room : over ≤ 256 ^ place_width s) (few : used ≤ over)
    (p : Prefix over used 0 (first_of s f j) u l) where
  least : u ≤ over
  least = prefix_used over used 0 (first_of s f j) u l few p

  completed_chain : Chain over used 0 (completed s f j over u)
  completed_chain = goes_on over used 0 (first_of s f j) (one_each (over - u) u) u l p (each_chain over (over - u) u l (omega (arith, least)))

  completed_fits : AllFit s (completed s f j over u)
  completed_fits =
      fits-append s (first_of s f j) (one_each (over - u) u) (fits-from s f b j (start_of s f + count_width))
      (each_fits s (over - u) u (omega (arith, least, room)) (one-fits s).0 (one-fits s).1)

  completed_length : length (completed s f j over u) ≤ j + over
  completed_length =
      omega (arith, length-append (first_of s f j) (one_each (over - u) u), length_from s f j (start_of s f + count_width), length_each (over - u) u)

  completed_begins : take j (completed s f j over u) ≡ first_of s f j
  completed_begins = take-first (first_of s f j) (one_each (over - u) u) j (length_from s f j (start_of s f + count_width))

-- one meter for each model, one certificate for each meter
each_fit : (s : Section) (n : ℕ) → n ≤ 256 ^ place_width s → AllFit s (one_each n 0)
each_fit s n h = each_fits s n 0 (omega (arith, h)) (one-fits s).0 (one-fits s).1

each_follows : (is : List Item) → Chain (length is) 0 0 (one_each (length is) 0)
each_follows is = each_chain (length is) (length is) 0 0 (omega arith)

-- ── The three sections ──────────────────────────────────────────────────────────────────────────────────────────

module _ (f : List ℕ) (b : Bytes f) (small : length f < 2 ^ 32) where
  -- models
  module _ (j u l : ℕ) (p : Prefix 1 1 0 (first_of Section.Models f j) u l) where
    abbrev a₁ : List Item
    a₁ = completed Section.Models f j 1 u

    abbrev b₁ : List Item
    b₁ = one_each (length a₁) 0

    abbrev c₁ : List Item
    c₁ = one_each (length b₁) 0

    room₁ : 1 ≤ 256 ^ place_width Section.Models
    unfolding place_width
    room₁ = lit≤ tt

    chain₁ : Chain 1 1 0 a₁
    chain₁ = completed_chain Section.Models f b 1 1 j u l room₁ (omega arith) p

    fits₁ : AllFit Section.Models a₁
    fits₁ = completed_fits Section.Models f b 1 1 j u l room₁ (omega arith) p

    few₁ : length a₁ < 65536
    few₁ = omega (arith, models_few a₁ 0 fits₁ (lit< tt) chain₁)

    fit₁ : Fit a₁ b₁ c₁
    unfolding place_width
    fit₁ = record {
      models = fits₁;
      meters = each_fit Section.Meters (length a₁) (omega (arith, few₁));
      certs = each_fit Section.Certificates (length b₁) (omega (arith, few₁, length_each (length a₁) 0));
      models_few = omega (arith, few₁);
      meters_few = omega (arith, few₁, length_each (length a₁) 0);
      certs_few = omega (arith, few₁, length_each (length a₁) 0, length_each (length b₁) 0);
    }

    pub could_models : Could Section.Models j f
    unfolding SameBefore start_of
    could_models = record {
      file = made a₁ b₁ c₁ [];
      begins = record {
        good = made-good a₁ b₁ c₁ fit₁ (record { models = chain₁; meters = each_follows a₁; certs = each_follows b₁ });
        before = tt;
        items = ap (take j) (models-stand a₁ b₁ c₁ [] fit₁).items ∙ completed_begins Section.Models f b 1 1 j u l room₁ (omega arith) p;
      };
    }

  -- meters, under models of which none is bad
  module _ (fine : section_judged Section.Models f 1 1 0 ≡ Ok tt) where
    abbrev a₂ : List Item
    a₂ = all_of Section.Models f

    pub models_chain : Chain 1 1 0 a₂
    unfolding start_of
    models_chain = section_chain Section.Models f 1 1 0 fine

    pub models-fit : AllFit Section.Models a₂
    unfolding start_of items_in
    models-fit = fits-from Section.Models f b (le_at f 0 count_width) (0 + count_width)

    models-count : length a₂ ≡ le_at f 0 count_width
    unfolding start_of items_in
    models-count = length_from Section.Models f (le_at f 0 count_width) (0 + count_width)

    few₂ : length a₂ < 65536
    few₂ = omega (arith, models_few a₂ 0 models-fit (lit< tt) models_chain)

    room₂ : length a₂ ≤ 256 ^ place_width Section.Meters
    unfolding place_width
    room₂ = omega (arith, few₂)

    module _ (j u l : ℕ) (lies : meters_at f + size Section.Meters * j ≤ length f) (p : Prefix (length a₂) 0 0 (first_of Section.Meters f j) u l) where
      abbrev b₂ : List Item
      b₂ = completed Section.Meters f j (length a₂) u

      abbrev c₂ : List Item
      c₂ = one_each (length b₂) 0

      many₂ : length b₂ < 2 ^ 32
      many₂ =
          omega (arith, completed_length Section.Meters f b (length a₂) 0 j u l room₂ (omega arith) p, few₂, ap (λ (k : ℕ). k * j) size-meters, lies, small)

      fit₂ : Fit a₂ b₂ c₂
      unfolding place_width
      fit₂ = record {
        models = models-fit;
        meters = completed_fits Section.Meters f b (length a₂) 0 j u l room₂ (omega arith) p;
        certs = each_fit Section.Certificates (length b₂) (omega (arith, many₂));
        models_few = omega (arith, few₂);
        meters_few = many₂;
        certs_few = omega (arith, many₂, length_each (length b₂) 0);
      }

      pub could_meters : Could Section.Meters j f
      unfolding SameBefore start_of
      could_meters = record {
        file = made a₂ b₂ c₂ [];
        begins = record {
          good = made-good a₂ b₂ c₂ fit₂ (record {
            models = models_chain;
            meters = completed_chain Section.Meters f b (length a₂) 0 j u l room₂ (omega arith) p;
            certs = each_follows b₂;
          });
          before = (models-stand a₂ b₂ c₂ [] fit₂).items;
          items = ap (take j) (meters-stand a₂ b₂ c₂ [] fit₂).items ∙ completed_begins Section.Meters f b (length a₂) 0 j u l room₂ (omega arith) p;
        };
      }

    -- certificates, under meters of which none is bad
    module _ (fine' : section_judged Section.Meters f (le_at f 0 count_width) 0 (meters_at f) ≡ Ok tt) where
      abbrev b₃ : List Item
      b₃ = all_of Section.Meters f

      pub meters_chain : Chain (length a₂) 0 0 b₃
      unfolding start_of
      meters_chain =
          subst (λ (k : ℕ). Chain k 0 0 (items_in Section.Meters f (meters_at f))) (sym models-count)
          (section_chain Section.Meters f (le_at f 0 count_width) 0 (meters_at f) fine')

      pub meters-fit : AllFit Section.Meters b₃
      unfolding start_of items_in
      meters-fit = fits-from Section.Meters f b (le_at f (meters_at f) count_width) (meters_at f + count_width)

      meters-count : length b₃ ≡ le_at f (meters_at f) count_width
      unfolding start_of items_in
      meters-count = length_from Section.Meters f (le_at f (meters_at f) count_width) (meters_at f + count_width)

      certs-start : certs_at f ≡ meters_at f + count_width + 6 * length b₃
      unfolding certs_at
      certs-start =
          after_is Section.Meters f (meters_at f)
          ∙ (ap (λ (k : ℕ). meters_at f + count_width + k * le_at f (meters_at f) count_width) size-meters
          ∙ ap (λ (k : ℕ). meters_at f + count_width + 6 * k) (sym meters-count))

      few₃ : length b₃ < 2 ^ 32
      few₃ = omega (arith, meters-count, le_at-bound f (meters_at f) count_width b)

      room₃ : length b₃ ≤ 256 ^ place_width Section.Certificates
      unfolding place_width
      room₃ = omega (arith, few₃)

      module _ (j u l : ℕ) (lies : certs_at f + size Section.Certificates * j ≤ length f) (p : Prefix (length b₃) 0 0 (first_of Section.Certificates f j) u l) where
        abbrev c₃ : List Item
        c₃ = completed Section.Certificates f j (length b₃) u

        many₃ : length c₃ < 2 ^ 32
        many₃ =
            omega (arith, completed_length Section.Certificates f b (length b₃) 0 j u l room₃ (omega arith) p, certs-start, ap (λ (k : ℕ). k * j) size-certs, lies, small)

        fit₃ : Fit a₂ b₃ c₃
        fit₃ = record {
          models = models-fit;
          meters = meters-fit;
          certs = completed_fits Section.Certificates f b (length b₃) 0 j u l room₃ (omega arith) p;
          models_few = omega (arith, few₂);
          meters_few = few₃;
          certs_few = many₃;
        }

        pub could_certs : Could Section.Certificates j f
        unfolding SameBefore start_of
        could_certs = record {
          file = made a₂ b₃ c₃ [];
          begins = record {
            good = made-good a₂ b₃ c₃ fit₃ (record {
              models = models_chain;
              meters = meters_chain;
              certs = completed_chain Section.Certificates f b (length b₃) 0 j u l room₃ (omega arith) p;
            });
            before = ((models-stand a₂ b₃ c₃ [] fit₃).items, (meters-stand a₂ b₃ c₃ [] fit₃).items);
            items = ap (take j) (certs-stand a₂ b₃ c₃ [] fit₃).items ∙ completed_begins Section.Certificates f b (length b₃) 0 j u l room₃ (omega arith) p;
          };
        }
