-- `driver::write_pages` meets its contract. Assumes nothing.
use Rattle.std.proofs.Common.{refl, ◌∙◌}
use native.Mathlib.Nat.{add-sub_cancel_left}
use Rattle.rules.specs.Table.{set_page}
use Rattle.rules.specs.Crash.{mix}
use Rattle.driver.specs.Acts.{bench_pages}
use Rattle.driver.proofs.Mixing.{mix-written, mix-left}
use Rattle.driver.proofs.write_pages.Goals.{then-is_written, else-is_written}
use Rattle.driver.proofs.write_pages.Goals as goal

pub loop-i-init : goal.loop-i-init
unfolding mix
loop-i-init c = refl

pub loop-i-preserved : goal.loop-i-preserved
unfolding set_page
loop-i-preserved c =
    let args = c.args in
    let i = c.loop-i.i in
    elim c.if-is_written.branch [
      | then-is_written w ↦
          w.stable-is
          ∙ rw (w.copy_from_slice.ensures.after, add-sub_cancel_left, w.page_at.ensures.bytes, c.loop-i.invariant)
          (mix-written bench_pages args.written args.working.now args.stable.now i c.requires.0 c.requires.1 c.loop-i-test.true w.if-is_written.true)
      | else-is_written w ↦
          w.stable-is ∙ c.loop-i.invariant
          ∙ mix-left bench_pages args.written args.working.now args.stable.now i c.requires.0 c.requires.1 c.loop-i-test.true w.if-is_written.false
    ]
