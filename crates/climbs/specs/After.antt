-- What is asked for behind a leaf that ends at a key.
use Rattle.std.specs.Prelude.{ℕ, ◌+◌, true, false, ltb}
use Rattle.rules.specs.declared.Asked.{Asked}

-- where the asked range has ended there is room for nothing
unfoldable pub after : ℕ → Asked → Asked
after end a = record {
  low = end + 1;
  high = a.high;
  room = elim (ltb end a.high) [ true ↦ a.room | false ↦ 0 ];
}
