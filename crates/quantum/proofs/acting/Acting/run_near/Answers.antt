use Rattle.std.proofs.Common.{ℕ, Some, refl, ap, sym, ◌∙◌}
use Rattle.mm_frames.specs.Rows.{words_of}
use Rattle.mm_areas.specs.Hints.{allows_at}
use Rattle.mm_space.specs.Accesses.{executable}
use Rattle.mm_space.specs.Handed.{hand_of}
use Rattle.mm_space.specs.Spaces.{AddressSpace, reach}
use Rattle.quantum.specs.Acting.{acting_on, instrs_of}
use Rattle.quantum.specs.Turns.{acting_of}
use Rattle.quantum.proofs.RowsThere.{instrs_there}
use Rattle.quantum.proofs.Turned.{still}
use Rattle.quantum.proofs.acting.Acting.run_near.Goals as goal

pub returns-then-not-decode-clause-ran : goal.returns-then-not-decode-clause-ran
returns-then-not-decode-clause-ran c =
    still c.refused.result.count (acting_of c.args.self.now)
    (acting_on c.args.self.now.task
    (record {
      space = Rattle.mm_space.specs.Spaces.space_of c.decode.new.self;
      hand = hand_of c.args.self.now.handed;
    }))
    c.args.regs.now c.args.regs.now c.refused.ensures.count refl
    (ap (λ (s : AddressSpace).
    acting_on c.args.self.now.task (record { space = s; hand = hand_of c.args.self.now.handed }))
    c.decode.ensures.same)

pub run_row-run-requires : goal.run_row-run-requires
run_row-run-requires c =
    ap (λ (page : ℕ). instrs_of (acting_on c.args.self.now.task (reach c.take_words.new.self c.args.self.now.handed))
    page) (sym c.page_of-page.ensures.page)
    ∙ ap (λ (s : AddressSpace).
    instrs_of (acting_on c.args.self.now.task (record { space = s; hand = hand_of c.args.self.now.handed }))
    c.page_of-page.result)
    c.take_words.ensures.same
    ∙ instrs_there c.args.self.now.task c.page_of-page.result c.decode.new.self c.args.self.now.handed
    (words_of c.in-Some.row) c.page_of-page.ensures.low
    (ap (λ (s : AddressSpace). allows_at s.mapping.pages c.page_of-page.result executable) c.decode.ensures.same
    ∙ c.if-not-decode.ensures.allowed)
    c.in-Some.ensures.words
    ∙ ap Some (sym c.as_slice.ensures)
