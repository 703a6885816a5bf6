use Rattle.std.proofs.Common.{rules, ◌∙◌, length, nat_eq}
use Rattle.std.proofs.lemmas.Iterator.Consumers.{YieldsList-turn, YieldsList-end}
use Rattle.std.proofs.lemmas.Iterator.Splits.{YieldsList-from_slice_split}
use Rattle.std.specs.List.{slice_split}
use borrow.Author.Tests.{tests}
use Rattle.mount_file.proofs.Names.{piece_refused, pieces_kept, told}
use Rattle.mount_file.proofs.values.names_in.Goals as goal

pub returns-in_err-name_in-clause-names : goal.returns-in_err-name_in-clause-names
returns-in_err-name_in-clause-names c =
    let turn = YieldsList-turn
    (YieldsList-from_slice_split _ (λ byte. nat_eq byte 47) c.args.bytes.now (search rules) (search rules)
    (search rules) (λ x r q k. search (rules, tests)))
    c.loop-piece.yielded _ c.loop-piece.yielded_by _ c.next.new.self c.in-Some.piece c.in-Some.is c.next.ensures.steps
    in
    let refused = piece_refused (slice_split (λ byte. nat_eq byte 47) c.args.bytes.now) (length c.loop-piece.yielded)
    c.in-Some.piece.now c.in_err-name_in.field-0.0 turn.0 turn.1 (search rules) in
    told _ c.from_residual.result _ (search rules) refused

pub returns-clause-names : goal.returns-clause-names
returns-clause-names c =
    let end = YieldsList-end
    (YieldsList-from_slice_split _ (λ byte. nat_eq byte 47) c.args.bytes.now (search rules) (search rules)
    (search rules) (λ x r q k. search (rules, tests)))
    c.loop-piece.yielded _ c.loop-piece.yielded_by _ c.next.new.self c.in-None.is c.next.ensures.steps in
    pieces_kept (slice_split (λ byte. nat_eq byte 47) c.args.bytes.now) c.loop-piece.names
    (c.loop-piece.invariant.2 ∙ end.0) c.loop-piece.invariant.3
