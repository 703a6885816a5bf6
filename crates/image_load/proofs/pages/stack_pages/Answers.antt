-- Each round makes the stack's next page.
use Rattle.std.proofs.Common.{◌≡◌, [], ◌∷◌, ◌++◌, ◌∙◌, map, sym, ap, rules}
use Rattle.mm_areas.specs.Pages.{mapped_by}
use Rattle.image_load.specs.Pages.{stack_page, stack_first}
use Rattle.image_load.proofs.Runs.{run_none, run_pushed}
use Rattle.image_load.proofs.pages.stack_pages.Goals as goal

pub loop-n-init : goal.loop-n-init
loop-n-init c =
    let none : c.in_ok-pages.pages.items ≡ [] = search rules in
    ap (map mapped_by) none ∙ sym (run_none (stack_page c.args.stack.now.sp c.args.stack.now.bytes) stack_first)

pub loop-n-preserved : goal.loop-n-preserved
loop-n-preserved c =
    let before = c.loop-n.pages.items in
    let page = c.in_ok-stack_page.field-0 in
    let is : c.push.new.self.items ≡ before ++ page ∷ [] = search rules in
    run_pushed mapped_by (stack_page c.args.stack.now.sp c.args.stack.now.bytes) stack_first c.loop-n.n
    before c.push.new.self.items page c.loop-n.invariant is c.in_ok-stack_page.ensures
