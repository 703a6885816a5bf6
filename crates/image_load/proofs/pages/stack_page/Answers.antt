-- A page of the stack has that page's part of the opening bytes.
use Rattle.std.proofs.Common.{◌≡◌, ℕ, ◌*◌, ◌∙◌, ap, refl}
use Rattle.mm_frames.specs.Frames.{bytes_of}
use Rattle.mm_areas.specs.Pages.Held.{Bytes}
use Rattle.image_load.specs.Pages.{page_bytes, stack_byte}
use Rattle.image_load.proofs.PageBytes.{zeros_run}
use Rattle.image_load.proofs.pages.stack_page.Goals as goal

pub returns : goal.returns
returns c =
    let page = c.args.page in
    let sp = c.args.stack.now.sp in
    let none : ℕ → ℕ = λ at. 0 in
    let zeros : bytes_of c.zero-frame.result ≡ page_bytes none page =
    c.zero-frame.ensures.bytes ∙ zeros_run none (4096 * page) 4096 (λ at. refl) in
    let bytes : bytes_of c.put_part.new.frame ≡ page_bytes (stack_byte sp c.args.stack.now.bytes) page =
    c.in_ok-put_part.ensures none zeros ∙ ap (λ bs. page_bytes (stack_byte sp bs) page) c.as_slice.ensures in
    λ i. record { rights = c.of.ensures.exact i; held = Bytes (bytes i) }
