-- All the rules opened at once, so that a closed call computes.
use Rattle.std.proofs.Common.{ℕ}
use Rattle.fields.specs.Field.{number, le, le_at, put_at}
use Rattle.rules.specs.Test.{between, every, all, mem, distinct}
use Rattle.rules.specs.Key.{key_of, model_of, serial_of, issue_of, good_parts, good_key}
use Rattle.rules.specs.Entry.{keys, find, cut, put, without, rises_from, rising}
use Rattle.rules.specs.Page.{is_leaf, count, read_each, write_each, cert_in, cert_bytes, child_in, child_bytes, view_in, page_in, header_bytes, page_bytes, over, blank, build_bytes, change_bytes, shrink_bytes, fresh, touch}
use Rattle.rules.specs.Table.{page_at, set_page, read, build, change, shrink, pages, good_lengths, kind0, n0, number0, root0, previous0, birth0, set_number, set_root, fit0}
use Rattle.rules.specs.Sound.{starts_at, names_pages, in_order, sound}
use Rattle.rules.specs.Place.{root_place, high_before, place_of, places_in, kids, pick, kind_asked, first_failed, unfit, fits, mendable, cut_view, mended, show}
use Rattle.rules.specs.Enter.{mend, enter}
use Rattle.rules.specs.Report.{nothing, first_of, adds, reason_at}
use Rattle.rules.specs.Walk.{numbers, certs_at, leaf_at, descend, way_of, enters, finds, stops, walk_each, walk, walk_of}
use Rattle.rules.specs.Tree.{broken, empty, join, spared_at, here, tree_each, tree, tree_of, good_tree}
use Rattle.rules.specs.Marks.{marks_from, marks, is_page, opened, nobody, turned, numbers_from, free_pages}
use Rattle.rules.specs.Call.{lengths_for, looked_record, newest_issue, newest_record, listed_count, find_error_no, insert_error_no, length_error_no, list_error_no, open_error_no, sync_error_no}
use Rattle.rules.specs.Format.{empty_leaf, formatted, format}
use Rattle.rules.specs.Open.{open_refused, open_done, opening}
use Rattle.rules.specs.Insert.{full, splitting, too_soon, root_splits, new_pages, too_high, no_room, lower_half, upper_half, divide, heirs, previous_of, retire, new_child, put_cert, put_child, lower_page, upper_page, twins, root_over, root_previous, changed, grow, halve, split, insert_refused, insert_done, insert_along, insert_key, insert}
use Rattle.rules.specs.Withdraw.{without_cert, removed, withdraw_refused, withdraw_done, withdraw_along, withdraw_key, withdraw}
use Rattle.rules.specs.Lookup.{found_in, lookup_left, lookup_key, lookup}
use Rattle.rules.specs.Newest.{meter, newest_in, newest_left, newest_meter, newest}
use Rattle.rules.specs.List.{up_from, records_of, list_done, list_refused, list_from, list}
use Rattle.rules.specs.Sync.{sync_refused, sync_done, sync}
use Rattle.rules.specs.Crash.{mix, crashed, inside_sync}

unfoldable pub rules : ℕ
unfolding number le le_at put_at between every all mem distinct key_of model_of serial_of issue_of good_parts good_key keys find cut put without rises_from rising is_leaf count read_each write_each cert_in cert_bytes child_in child_bytes view_in page_in header_bytes page_bytes over blank build_bytes change_bytes shrink_bytes fresh touch page_at set_page read build change shrink pages good_lengths kind0 n0 number0 root0 previous0 birth0 set_number set_root fit0 starts_at names_pages in_order sound root_place high_before place_of places_in kids pick kind_asked first_failed unfit fits mendable cut_view mended show mend enter numbers certs_at leaf_at descend way_of nothing first_of adds reason_at enters finds stops walk_each walk walk_of broken empty join spared_at here tree_each tree tree_of good_tree marks_from marks is_page opened nobody turned numbers_from free_pages lengths_for length_error_no open_error_no insert_error_no find_error_no looked_record newest_issue newest_record list_error_no listed_count sync_error_no empty_leaf formatted format open_refused open_done opening full splitting too_soon root_splits new_pages too_high no_room lower_half upper_half divide heirs previous_of retire new_child put_cert put_child lower_page upper_page twins root_over root_previous changed grow halve split insert_refused insert_done insert_along insert_key insert without_cert removed withdraw_refused withdraw_done withdraw_along withdraw_key withdraw found_in lookup_left lookup_key lookup meter newest_in newest_left newest_meter newest up_from records_of list_done list_refused list_from list sync_refused sync_done sync mix crashed inside_sync
rules = 0
