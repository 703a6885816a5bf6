-- The strings of an opening task are not too large, and its address space is the opening one.
use Rattle.std.proofs.Common.{◌≡◌, ℕ, false, List, ap, ◌∙◌}
use Rattle.elf_image.specs.declared.image.Image.{Image}
use Rattle.image_load.specs.Loading.{opening_space}
use Rattle.image_load.specs.Stacks.{IsTooBig}
use Rattle.kernel_model.specs.opening.Arguments.{is_too_long}
use Rattle.kernel_calls.proofs.Strings.{not_too_big}
use Rattle.kernel_calls.proofs.opened_task.opened.Goals as goal

-- strings that were tested are those that are loaded
not_big_here : (args env a b : List (List ℕ)) → a ≡ args → b ≡ env → is_too_long args env ≡ false → IsTooBig a b → ⊥
not_big_here args env a b e f short big =
    not_too_big a b (ap (λ x. is_too_long x b) e ∙ ap (is_too_long args) f ∙ short) big

same_space : (image : Image) (args env a b : List (List ℕ)) (random r : List ℕ) → a ≡ args → b ≡ env → r ≡ random
    → opening_space image a b r ≡ opening_space image args env random
same_space image args env a b random r e f g =
    ap (λ x. opening_space image x b r) e ∙ ap (λ x. opening_space image args x r) f
    ∙ ap (opening_space image args env) g

pub unreachable-requires : goal.unreachable-requires
unreachable-requires c =
    not_big_here c.args.program.now.args c.args.program.now.env c.as_slice.result.now c.as_slice-2.result.now
    c.as_slice.ensures c.as_slice-2.ensures c.requires.short
    (rw c.in-Err-TooBig.field-0-is at c.in-Err-TooBig.ensures.fault)

pub returns-in-Ok-clause-space : goal.returns-in-Ok-clause-space
returns-in-Ok-clause-space c =
    c.in-Ok.ensures.space
    ∙ same_space c.args.image.now c.args.program.now.args c.args.program.now.env c.as_slice.result.now
    c.as_slice-2.result.now _ c.opening_random.result c.as_slice.ensures c.as_slice-2.ensures c.opening_random.ensures
