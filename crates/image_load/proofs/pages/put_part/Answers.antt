-- The bytes of a segment that lie on a page are put there, and those of no other.
use Rattle.std.proofs.Common.{◌≡◌, ℕ, List, ◌+◌, ◌-◌, ◌*◌, ◌∙◌, ◌≤◌, ap, length, min, max, arith}
use Rattle.std.specs.Prelude.{slice_range}
use Rattle.mm_frames.specs.Frames.{bytes_of}
use Rattle.mm_frames.specs.Numbers.{with_run}
use Rattle.image_load.proofs.PageBytes.{none_put, part_put}
use Rattle.image_load.proofs.pages.put_part.Goals as goal

pub returns-in_ok-write_bytes : goal.returns-in_ok-write_bytes
returns-in_ok-write_bytes c byte is =
    let start = 4096 * c.args.page in
    let old = bytes_of c.args.frame.now in
    let from = c.max-from.result in
    let end = c.min-end.result in
    let part : ℕ → List ℕ = λ a. slice_range c.args.bytes.now (from - a) (end - a) in
    let offset : from - 4096 * c.from-start.result ≡ from - start = ap (λ n. from - 4096 * n) c.from-start.ensures in
    c.in_ok-write_bytes.ensures.ok
    ∙ ap (λ n. with_run old n (part c.from-address.result)) offset
    ∙ part_put c.args.address start 4096 from end c.args.bytes.now old (part c.from-address.result) byte
    (omega (arith, c.max-from.ensures, c.from-start.ensures, c.from-address.ensures))
    (omega (arith, c.min-end.ensures, c.from-start.ensures, c.from-address.ensures))
    c.if-from-end.true (ap part c.from-address.ensures) is

pub returns-else-from-end : goal.returns-else-from-end
returns-else-from-end c byte is =
    let apart : min (c.args.address + length c.args.bytes.now) (4096 * c.args.page + 4096)
    ≤ max c.args.address (4096 * c.args.page) =
    omega (
      arith,
      c.if-from-end.false,
      c.max-from.ensures,
      c.min-end.ensures,
      c.from-start.ensures,
      c.from-address.ensures,
    ) in
    none_put c.args.address (4096 * c.args.page) 4096 c.args.bytes.now (bytes_of c.args.frame.now) byte apart is
