-- The definitions of the exchange file opened at once, so that a closed file computes.
use Prim.Native.Nat.{ℕ}
use Rattle.fields.specs.Field.{number, le, le_at}
use Rattle.rules.specs.Test.{every}
use Rattle.rules.specs.Key.{key_of}
use Rattle.rules.specs.Entry.{keys}
use Rattle.exchange.specs.Item.{place_width, number_width, value_width, size, span, item_bytes, items_bytes, section_bytes, item_at}
use Rattle.exchange.specs.Written.{over_from, meters_of, models_of, place_in, item_of, items_of, bare, section_of, roof, file_of}
use Rattle.exchange.specs.Judged.{within, is_above, follows, items_judged, section_judged, after, meters_at, certs_at, end_at, and_then, end_judged, certs_judged, meters_judged, judged, counted, checked}
use Rattle.exchange.specs.Told.{items_from, items_in, entry_of, entries_of, told_by, models_in, meters_in, certs_in}

unfoldable pub exchange : ℕ
unfolding number le le_at every key_of keys place_width number_width value_width size span item_bytes items_bytes section_bytes item_at over_from meters_of models_of place_in item_of items_of bare section_of roof file_of within is_above follows items_judged section_judged after meters_at certs_at end_at and_then end_judged certs_judged meters_judged judged counted checked items_from items_in entry_of entries_of told_by models_in meters_in certs_in
exchange = 0
