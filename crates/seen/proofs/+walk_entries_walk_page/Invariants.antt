-- `seen::walk_page` and `seen::walk_entries`, which call each other: the level falls, and within a level the entries left.
use Rattle.std.proofs.Common.{◌+◌, ◌*◌}
use Rattle.seen.proofs.+walk_entries_walk_page.Given as goal

abbrev pub decreases-walk_entries : goal.decreases-walk_entries
decreases-walk_entries l = (l.level + 1) * 64 + l.r.left

abbrev pub decreases-walk_page : goal.decreases-walk_page
decreases-walk_page l = l.level * 64 + 63
