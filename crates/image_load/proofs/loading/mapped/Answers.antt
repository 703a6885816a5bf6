-- The image's pages, with the stack's laid over, make the opening address space.
use Rattle.std.proofs.Common.{◌≡◌, ◌≤◌, List, length, map, sym, ap, ◌∙◌, arith}
use Rattle.std.specs.FinMap.{len}
use Rattle.std.proofs.lemmas.List.{length-map}
use Rattle.std.specs.Prelude.{All}
use Rattle.std.proofs.Common.{subst}
use Rattle.elf_image.specs.declared.image.Segment.{Segment}
use Rattle.elf_image.specs.Loadable.{Loadable, IsPlaced}
use Rattle.mm_areas.specs.Mappings.{Mapping, mapping}
use Rattle.mm_areas.specs.Pages.{mapped_by}
use Rattle.mm_space.specs.Spaces.{AddressSpace, unreserved}
use Rattle.image_load.specs.Loading.{auxiliary_of, start_of}
use Rattle.image_load.specs.declared.stack.Auxiliary.{Auxiliary}
use Rattle.image_load.specs.Stacks.{ProgramGiven, started, stack_bytes, stack_pointer}
use Rattle.image_load.specs.Pages.{stack_count, stack_first, stack_page}
use Rattle.image_load.proofs.Opened.{few_pages, few_with_stack, mapping_made, pages_counted}
use Rattle.image_load.proofs.Runs.{length-run}
use Rattle.image_load.proofs.loading.mapped.Goals as goal

pub laid_segments-requires-clause-limit : goal.laid_segments-requires-clause-limit
laid_segments-requires-clause-limit c =
    few_pages c.args.image.now c.as_slice-segments.result.now (c.as_slice-segments.ensures
    ∙ ap (λ (i : Loadable). i.segments) c.image.view_is) c.requires.limit

stack_long : (c : goal.In_ok-stack_pages) → length c.in_ok-stack_pages.field-0.items ≡ 64
stack_long c =
    let stack = c.in_ok-stack.stack in
    sym (length-map c.in_ok-stack_pages.field-0.items mapped_by) ∙ ap length c.in_ok-stack_pages.ensures
    ∙ length-run (stack_page stack.sp stack.bytes) stack_first stack_count

pub lay-requires-clause-end : goal.lay-requires-clause-end
lay-requires-clause-end c = omega (arith, stack_long c)

pub lay-requires-clause-limit : goal.lay-requires-clause-limit
lay-requires-clause-limit c =
    let few =
    few_pages c.args.image.now c.as_slice-segments.result.now (c.as_slice-segments.ensures
    ∙ ap (λ (i : Loadable). i.segments) c.image.view_is) c.requires.limit in
    let below : len (mapping c.in_ok-areas.areas).pages ≤ 16320 =
    omega (arith, few, ap (λ (m : Mapping). len m.pages) c.in_ok-areas.ensures) in
    few_with_stack (map mapped_by c.in_ok-stack_pages.field-0.items) (mapping c.in_ok-areas.areas).pages
    (length-map c.in_ok-stack_pages.field-0.items mapped_by ∙ stack_long c) below

pub returns-clause-space : goal.returns-clause-space
returns-clause-space c =
    let given = c.args.program.now in
    let image = c.args.image.now in
    let start = start_of image given.args given.env given.random in
    let same = c.as_slice-segments.ensures ∙ ap (λ (i : Loadable). i.segments) c.image.view_is in
    let inside = c.program.inside in
    let view : ProgramGiven = record { args = inside.args.now; env = inside.env.now; random = inside.random } in
    c.of.ensures
    ∙ ap unreserved (mapping_made image start c.as_slice-segments.result.now c.in_ok-stack.stack.sp
    c.opening_break.result c.in_ok-stack.stack.bytes
    (map mapped_by c.in_ok-stack_pages.field-0.items) (mapping c.in_ok-areas.areas) _
    same
    (c.in_ok-stack.ensures.sp
    ∙ ap (λ (g : ProgramGiven). stack_pointer (started g (auxiliary_of image))) c.program.view_is)
    (c.in_ok-stack.ensures.bytes ∙ ap (λ (a : Auxiliary). stack_bytes (started view a)) c.auxiliary_of-auxiliary.ensures
    ∙ ap (λ (g : ProgramGiven). stack_bytes (started g (auxiliary_of image))) c.program.view_is)
    c.opening_break.ensures c.in_ok-stack_pages.ensures c.in_ok-areas.ensures c.in_ok-lay.ensures.ok)

pub returns-clause-pages : goal.returns-clause-pages
returns-clause-pages c =
    let given = c.args.program.now in
    let image = c.args.image.now in
    ap (λ (s : AddressSpace). len s.mapping.pages) (returns-clause-space c)
    ∙ pages_counted image (start_of image given.args given.env given.random)
    (subst (λ (ss : List Segment). All IsPlaced ss) (ap (λ (i : Loadable). i.segments) c.image.view_is)
    c.image.invariant.placed)
