-- A count that stops above the most pages is that of the pages laid, and each page adds one or is there already.
use Rattle.std.proofs.Common.{◌+◌, ◌-◌, ◌∙◌, [], min, sym, ap, arith}
use Rattle.std.specs.FinMap.{len}
use Rattle.image_load.proofs.PageCounts.{none_counted, one_counted, over_with_one, over_with_rest}
use Rattle.image_load.proofs.counts.capped_with.Goals as goal

pub returns-then-counted-gt-MOST_IMAGE_PAGES : goal.returns-then-counted-gt-MOST_IMAGE_PAGES
returns-then-counted-gt-MOST_IMAGE_PAGES c all =
    over_with_rest all c.args.rest.now c.args.first.now c.args.counted (c.requires all)
    c.if-counted-gt-MOST_IMAGE_PAGES.true

pub returns-then-many-gt-MOST_IMAGE_PAGES : goal.returns-then-many-gt-MOST_IMAGE_PAGES
returns-then-many-gt-MOST_IMAGE_PAGES c all =
    over_with_one all c.args.rest.now c.args.first.now c.page_count-many.result c.page_count-many.ensures.value
    c.if-many-gt-MOST_IMAGE_PAGES.true

pub loop-page-init : goal.loop-page-init
loop-page-init c =
    let end = c.first_page-start.result + c.page_count-many.result in
    record {
      low = omega arith;
      high = omega arith;
      counted = λ all.
          c.requires all
          ∙ ap (λ pages. min (len pages) 16321) (sym (none_counted all c.args.rest.now end (end - end) (omega arith)));
    }

pub overflow_add-count : goal.overflow_add-count
overflow_add-count c = omega (arith, c.loop-page.invariant.counted [], c.fresh.ensures.small)

pub loop-page-preserved : goal.loop-page-preserved
loop-page-preserved c =
    let now = c.loop-page.page in
    record {
      low = omega arith;
      high = omega (arith, c.loop-page.invariant.high);
      counted = λ all.
          one_counted all c.args.rest.now (now - 1) now (c.first_page-start.result + c.page_count-many.result)
          c.loop-page.count _ c.fresh.result
          (omega arith) c.loop-page.invariant.high (c.loop-page.invariant.counted all) c.fresh.ensures.one
          c.min-count.ensures;
    }
