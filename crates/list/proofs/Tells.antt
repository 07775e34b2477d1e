-- What the walks give to tell: the dry walk knows beforehand which of the other two is right. Assumes nothing.
use mathlib.Core.Path.{◌≡◌, sym, ap, ◌∙◌}
use mathlib.Core.Bool.{Bool, true, false}
use mathlib.Core.List.{List}
use Prim.Native.Nat.{ℕ, ◌*◌, ◌^◌, ◌≤◌, ◌<◌}
use lib.ListN.{length}
use Rattle.fields.specs.Field.{Bytes}
use Rattle.std.specs.Prelude.{Result, Ok, Err, is_ok}
use Rattle.rules.specs.Layout.{page_size, most_pages}
use Rattle.rules.specs.Entry.{Cert, keys}
use Rattle.rules.specs.Page.{over}
use Rattle.rules.specs.Table.{fit0}
use Rattle.rules.specs.Report.{Reported, nothing}
use Rattle.rules.specs.Walk.{Walked, walk_of}
use Rattle.rules.specs.List.{records_of}
use Rattle.rules.specs.declared.Asked.{Asked}
use Rattle.rules.specs.declared.ListError.{ListError}
use Rattle.rules.specs.declared.Report.{Report}
use Rattle.dry.specs.Walk.{none_marked, dry_over, dry_of}
use Rattle.dry.specs.declared.Dry.{Dry}
use Rattle.dry.proofs.Answers.{told-whole, told-still, dry-whole, dry-found, dry-still, dry-quiet}
use Rattle.fill.specs.Fills.{Lists, listing, lists_of, Fill, filling, filled_in, mending, mended_in, Calm}
use Rattle.fill.specs.declared.Filled.{Filled}
use Rattle.list.specs.Lists.{telling, sought, told}

same-walk : {t u : List ℕ} {b d : Bool} {xs ys : List Cert} {x y : Report} → t ≡ u → b ≡ d → xs ≡ ys → x ≡ y
    → ◌≡◌ {A = Walked} (record { table = t; whole = b; found = xs; report = x }) (record { table = u; whole = d; found = ys; report = y })
same-walk p q r s = cc

-- ── The walks ───────────────────────────────────────────────────────────────────────────────────────────────────

module _ (n : ℕ) (a : Asked) (t : List ℕ) (fit : fit0 n t ≡ true) (long : length t ≡ n * page_size) (most : n ≤ most_pages) (r : Result Dry Dry) (e : r ≡ dry_of n a t) where
  -- the dry walk is whole exactly where the walk is
  known_ahead : (c : ℕ) → Bytes t → c < 256 ^ 4 → is_ok r ≡ (walk_of n c a t).whole
  known_ahead c bytes narrow = ap is_ok e ∙ dry-whole n t fit long c a most bytes narrow

  pub ahead_damaged : (c : ℕ) → Bytes t → c < 256 ^ 4 → (d : Dry) → r ≡ Err d → (walk_of n c a t).whole ≡ false
  ahead_damaged c bytes narrow d q = sym (known_ahead c bytes narrow) ∙ ap is_ok q

  pub ahead_whole : (c : ℕ) → Bytes t → c < 256 ^ 4 → (d : Dry) → r ≡ Ok d → (walk_of n c a t).whole ≡ true
  ahead_whole c bytes narrow d q = sym (known_ahead c bytes narrow) ∙ ap is_ok q

  -- and where it would mend nothing, the table stays and every place ahead fits
  module _ (d : Dry) (q : r ≡ Ok d) (k : none_marked d.mended ≡ true) where
    pub calm-ahead : Calm n a t
    calm-ahead = record {
      long = long;
      most = most;
      fit = fit;
      whole = told-whole n a t d (sym q ∙ e);
      still = told-still n a t d (sym q ∙ e) k;
    }

    module _ (c : ℕ) (bytes : Bytes t) (narrow : c < 256 ^ 4) (ks xs : List ℕ) where
      calm_walk : walk_of n c a t ≡ record { table = t; whole = true; found = (dry_over n a t).found; report = nothing }
      calm_walk =
          same-walk (dry-still n t fit long c a most bytes narrow (told-still n a t d (sym q ∙ e) k)) (ahead_whole c bytes narrow d q)
          (sym (dry-found n t fit long c a most bytes narrow))
          (dry-quiet n t fit long c a most bytes narrow (told-still n a t d (sym q ∙ e) k))

      pub tell_calm : (m : ℕ) (us vs : List ℕ) → listing m us vs ≡ lists_of ks xs (dry_over n a t).found → (y : Report) → y ≡ nothing
          → telling t (sought (Ok m) y) us vs ≡ told ks xs (walk_of n c a t)
      unfolding told lists_of
      tell_calm m us vs p y z =
          ap (λ (x : Lists). telling t (sought (Ok x.filled) y) x.keys x.records) p
          ∙ (ap (λ (x : Report). telling t (sought (Ok (length (dry_over n a t).found)) x) (over (keys (dry_over n a t).found) ks) (over (records_of (dry_over n a t).found) xs)) z
          ∙ ap (told ks xs) (sym calm_walk))

module _ (ks xs : List ℕ) (w : Walked) where
  -- where damage lies ahead, the walk that only mends leaves the lists alone
  pub tell_damaged : w.whole ≡ false → (u : List ℕ) (y : Report) → mending u y ≡ mended_in w
      → telling u (sought (Err ListError.Damaged) y) ks xs ≡ told ks xs w
  unfolding told
  tell_damaged h u y q =
      rw (told, h) (ap (λ (x : Reported (List ℕ)). telling x.left (sought (Err ListError.Damaged) x.report) ks xs) q)

  -- where none does, the filling walk has filled them
  pub tell_filled : w.whole ≡ true → (u : List ℕ) (r : Filled) (us vs : List ℕ) → filling u r us vs ≡ filled_in ks xs w
      → telling u (sought (Ok r.count) r.report) us vs ≡ told ks xs w
  unfolding told filled_in lists_of
  tell_filled h u r us vs q =
      rw (told, h)
      (ap (λ (x : Fill). telling x.table (sought (Ok x.lists.filled) x.report) x.lists.keys x.lists.records) q)
