-- Items written one by one into the lent output. Assumes nothing.
use mathlib.Core.Path.{◌≡◌, refl, sym, ap, ◌∙◌}
use mathlib.Core.List.{List, [], ◌∷◌, ◌++◌, append-nil, append_assoc}
use Prim.Native.Nat.{ℕ, ◌+◌, ◌*◌}
use native.Mathlib.Omega.{arith}
use lib.ListN.{length}
use lib.Seq.{sets}
use Rattle.fields.specs.Field.{le, put_at}
use Rattle.fields.proofs.Number.{length-le}
use Rattle.fields.proofs.Run.{sets_append}
use Rattle.exchange.specs.Item.{Item, item_for, place_width, number_width, value_width, size, item_bytes, items_bytes, put_item}
use Rattle.exchange.specs.declared.Section.{Section}
use Rattle.exchange.proofs.Runs.{length-items}

-- field by field
pub put_model_lem : (b : List ℕ) (at model : ℕ) → put_at b at 2 model ≡ put_item Section.Models b at (item_for 0 model 0)
unfolding put_at put_item item_bytes place_width number_width value_width le
put_model_lem b at model = sym (ap (λ (l : List ℕ). sets b at l) (append-nil (le 2 model)))

pub put_meter_lem : (b : List ℕ) (at place serial : ℕ) → put_at (put_at b at 2 place) (at + 2) 4 serial ≡ put_item Section.Meters b at (item_for place serial 0)
unfolding put_at put_item item_bytes place_width number_width value_width le
put_meter_lem b at place serial =
    sym
    (ap (λ (l : List ℕ). sets b at (le 2 place ++ l)) (append-nil (le 4 serial))
    ∙ sets_append (le 2 place) (le 4 serial) b at
    ∙ ap (λ (k : ℕ). sets (sets b at (le 2 place)) (at + k) (le 4 serial)) (length-le 2 place))

pub put_cert_lem : (b : List ℕ) (at place issue value : ℕ)
    → put_at (put_at (put_at b at 4 place) (at + 4) 2 issue) (at + 6) 4 value ≡ put_item Section.Certificates b at (item_for place issue value)
unfolding put_at put_item item_bytes place_width number_width value_width
put_cert_lem b at place issue value =
    let c = sets b at (le 4 place) in
    let e : at + 4 + 2 ≡ at + 6 = omega arith in
    sym
    (sets_append (le 4 place) (le 2 issue ++ le 4 value) b at
    ∙ ap (λ (k : ℕ). sets c (at + k) (le 2 issue ++ le 4 value)) (length-le 4 place)
    ∙ sets_append (le 2 issue) (le 4 value) c (at + 4)
    ∙ ap (λ (k : ℕ). sets (sets c (at + 4) (le 2 issue)) (at + 4 + k) (le 4 value)) (length-le 2 issue)
    ∙ ap (λ (k : ℕ). sets (sets c (at + 4) (le 2 issue)) k (le 4 value)) e)

-- item by item: one more behind those that are written
pub items-append : (s : Section) (is js : List Item) → items_bytes s (is ++ js) ≡ items_bytes s is ++ items_bytes s js
unfolding items_bytes
items-append s [] js = refl
items-append s (i ∷ is) js =
    ap (λ (l : List ℕ). item_bytes s i ++ l) (items-append s is js) ∙ sym (append_assoc (item_bytes s i) (items_bytes s is) (items_bytes s js))

pub put_next_lem : (s : Section) (b : List ℕ) (at : ℕ) (is : List Item) (i : Item)
    → put_item s (sets b at (items_bytes s is)) (at + size s * length is) i ≡ sets b at (items_bytes s (is ++ (i ∷ [])))
unfolding put_item items_bytes
put_next_lem s b at is i =
    sym
    (ap (λ (l : List ℕ). sets b at l) (items-append s is (i ∷ []) ∙ ap (λ (l : List ℕ). items_bytes s is ++ l) (append-nil (item_bytes s i)))
    ∙ sets_append (items_bytes s is) (item_bytes s i) b at
    ∙ ap (λ (k : ℕ). sets (sets b at (items_bytes s is)) (at + k) (item_bytes s i)) (length-items s is))
