-- How far the stack's pages are made.
use Rattle.std.proofs.Common.{◌≡◌, map}
use Rattle.mm_areas.specs.Pages.{mapped_by}
use Rattle.image_load.specs.Pages.{run_of, stack_first, stack_page}
use Rattle.image_load.proofs.pages.stack_pages.Given as goal

-- the pages so far
abbrev pub invariant-loop-n : goal.invariant-loop-n
invariant-loop-n l = map mapped_by l.pages.items ≡ run_of (stack_page l.stack.sp l.stack.bytes) stack_first l.n
