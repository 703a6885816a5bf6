-- What pipe2 is refused with, or the pipe that it makes.
use Rattle.std.proofs.Common.{◌%◌, ◌^◌, None, Some, ap, sym, ◌∙◌}
use Rattle.std.specs.Prelude.{option_copied}
use Rattle.kernel_model.specs.entries.Parts.{outcome_in, parts}
use Rattle.mm_space.specs.Accesses.{writable}
use Rattle.kernel_model.specs.entries.Areas.{access_row}
use Rattle.guest_access.proofs.KernelAreas.{are_those}
use Rattle.call_fs.proofs.MadePipes.{nothing, of_fds, of_table, something, tested}
use Rattle.call_fs.proofs.pipes.pipe2.Goals as goal

pub returns-then-not-branch-clause-row : goal.returns-then-not-branch-clause-row
returns-then-not-branch-clause-row c caller k of_row has numbers =
    let a = c.args in
    tested of_row caller k a.buffer (a.flags % 2 ^ 32) a.space.now None
    (sym c.are_pipe_flags.ensures ∙ c.if-not-are_pipe_flags.false) has.space
    (nothing _ (c.in_ok-is_accessible.ensures.row (parts k) (are_those k a.areas.now has.areas)
    ∙ c.if-not-branch.true))

pub returns-in-None-clause-row : goal.returns-in-None-clause-row
returns-in-None-clause-row c caller k of_row has numbers =
    let a = c.args in
    let hand = something _ (c.in_ok-is_accessible.ensures.row (parts k) (are_those k a.areas.now has.areas)
    ∙ c.if-not-branch.false) in
    tested of_row caller k a.buffer (a.flags % 2 ^ 32) a.space.now (Some hand.0)
    (sym c.are_pipe_flags.ensures ∙ c.if-not-are_pipe_flags.false) has.space hand.1
    ∙ of_table of_row caller k a.buffer (a.flags % 2 ^ 32) hand.0 None
    (numbers ∙ ap option_copied c.in-None.is)

pub returns-in-None-two_free-clause-row : goal.returns-in-None-two_free-clause-row
returns-in-None-two_free-clause-row c caller k of_row has numbers =
    let a = c.args in
    let hand = something _ (c.in_ok-is_accessible.ensures.row (parts k) (are_those k a.areas.now has.areas)
    ∙ c.if-not-branch.false) in
    tested of_row caller k a.buffer (a.flags % 2 ^ 32) a.space.now (Some hand.0)
    (sym c.are_pipe_flags.ensures ∙ c.if-not-are_pipe_flags.false) has.space hand.1
    ∙ of_table of_row caller k a.buffer (a.flags % 2 ^ 32) hand.0 (Some c.in-Some.numbers.now)
    (numbers ∙ ap option_copied c.in-Some.is)
    ∙ of_fds of_row caller k a.buffer (a.flags % 2 ^ 32) hand.0 c.in-Some.numbers.now None
    (sym c.in-None-two_free.ensures)

pub returns-in_ok-new-in-Some-two_free-clause-row : goal.returns-in_ok-new-in-Some-two_free-clause-row
returns-in_ok-new-in-Some-two_free-clause-row c caller k of_row has numbers =
    let a = c.args in
    let hand = something _ (c.in_ok-is_accessible.ensures.row (parts k) (are_those k a.areas.now has.areas)
    ∙ c.if-not-branch.false) in
    let there = numbers ∙ ap option_copied c.in-Some.is in
    record {
      hand = hand.0;
      table = c.in-Some.numbers.now;
      there = there;
      granted = ap (λ s. outcome_in (parts k) (access_row writable s a.buffer 8)) has.space ∙ hand.1;
      free = sym c.in-Some-two_free.ensures;
      empty = c.in_ok-new-in-Some-two_free.ensures;
      row_is = tested of_row caller k a.buffer (a.flags % 2 ^ 32) a.space.now (Some hand.0)
          (sym c.are_pipe_flags.ensures ∙ c.if-not-are_pipe_flags.false) has.space hand.1
          ∙ of_table of_row caller k a.buffer (a.flags % 2 ^ 32) hand.0 (Some c.in-Some.numbers.now) there
          ∙ of_fds of_row caller k a.buffer (a.flags % 2 ^ 32) hand.0 c.in-Some.numbers.now
          (Some (c.in-Some-two_free.first, c.in-Some-two_free.second)) (sym c.in-Some-two_free.ensures);
    }
