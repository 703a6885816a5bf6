-- A number that is taken back leaves the nodes as they were before it was given.
use Rattle.std.proofs.Common.{sym, ◌∙◌}
use Rattle.node_numbers.proofs.OptionLemmas.{found_mut, not_found_mut}
use Rattle.node_numbers.proofs.Numberings.{spent_back, child_given_back, directory_found, child_found, no_child_left}
use Rattle.node_numbers.proofs.numbering.unnumber.Goals as goal

pub returns-then-fresh-gt-LAST_NUMBER : goal.returns-then-fresh-gt-LAST_NUMBER
returns-then-fresh-gt-LAST_NUMBER c =
    λ before e. spent_back c.args.fresh.now before c.args.kernel.now e c.if-fresh-gt-LAST_NUMBER.true

pub take_back-requires : goal.take_back-requires
take_back-requires c =
    directory_found c.args.fresh.now c.requires.0 c.args.kernel.now c.requires.1 c.if-fresh-gt-LAST_NUMBER.false
    c.remove.new.self c.in-Some-get_mut.dir.now c.remove.ensures.after
    (found_mut c.get_mut.result _ c.in-Some-get_mut.dir c.get_mut.ensures.value c.in-Some-get_mut.is)

pub returns-in-Some-get_mut : goal.returns-in-Some-get_mut
returns-in-Some-get_mut c = λ before e.
    child_given_back c.args.fresh.now before c.args.kernel.now e c.if-fresh-gt-LAST_NUMBER.false c.remove.new.self
    c.in-Some-get_mut.dir.now c.in-Some.child c.take_back.new.node c.remove.ensures.after
    (found_mut c.get_mut.result _ c.in-Some-get_mut.dir c.get_mut.ensures.value c.in-Some-get_mut.is)
    (sym c.remove.ensures.value ∙ c.in-Some.is) c.take_back.ensures

pub returns-in_default-get_mut : goal.returns-in_default-get_mut
returns-in_default-get_mut c = λ before e.
    absurd (child_found c.args.fresh.now before c.args.kernel.now e c.if-fresh-gt-LAST_NUMBER.false c.remove.new.self
    c.remove.ensures.after (not_found_mut c.get_mut.result _ c.get_mut.ensures.value c.in_default-get_mut.is))

pub returns-in_default : goal.returns-in_default
returns-in_default c = λ before e.
    absurd (no_child_left c.args.fresh.now before c.args.kernel.now e c.if-fresh-gt-LAST_NUMBER.false
    (sym c.remove.ensures.value ∙ c.in_default.is))
