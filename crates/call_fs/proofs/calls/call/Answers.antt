-- A call of each family, by its row in the table of calls.
use Rattle.std.proofs.Common.{ap, refl, subst, sym}
use Rattle.std.proofs.lemmas.Result.{IfOk-weaker}
use Rattle.kernel_model.specs.calls.Callers.{context_of}
use Rattle.kernel_model.specs.calls.Table.{call_row, row_if_known}
use Rattle.kernel_model.specs.calls.Answers.{Answer}
use Rattle.kernel_model.specs.entries.Parts.{Prog, parts}
use Rattle.kernel_calls.specs.Prepared.{WaitsWith}
use Rattle.kernel_calls.proofs.Answering.{answers_kept, has_space}
use Rattle.call_fs.specs.Asked.{read_row_by, write_row_by}
use Rattle.call_fs.specs.CallEnd.{ComesTo}
use Rattle.call_fs.proofs.Calling.{called_read, called_write, moving, never_waits, waits_alike}
use Rattle.call_fs.proofs.Opened.{table_so}
use Rattle.call_fs.proofs.calls.call.Goals as goal

pub returns-in-Reads-clause-row : goal.returns-in-Reads-clause-row
returns-in-Reads-clause-row c =
    let a = c.args in
    IfOk-weaker c.reading.result _ _ (λ d row caller k calling files registers.
    subst (λ (p : Prog Answer). ComesTo p d caller k c.reading.new.space c.reading.new.areas)
    (sym (called_read (context_of k) caller a.number a.args.now c.in-Reads.by c.in-Reads.ensures.asked))
    (row caller k a.console (moving caller k a.context.now a.space.now a.areas.now a.tasks.now a.sleepers.now
    a.console a.files.now calling files))) c.reading.ensures.row

pub returns-in-Reads-clause-waits : goal.returns-in-Reads-clause-waits
returns-in-Reads-clause-waits c =
    let a = c.args in
    IfOk-weaker c.reading.result _ _ (λ d waits caller k calling files.
    waits_alike d caller.table (parts k)
    (λ of_row. read_row_by c.in-Reads.by a.args.now.a0 a.args.now.a1 a.args.now.a2 caller)
    (λ context. call_row context caller a.number a.args.now)
    (λ context. called_read context caller a.number a.args.now c.in-Reads.by c.in-Reads.ensures.asked)
    (waits caller k a.console (moving caller k a.context.now a.space.now a.areas.now a.tasks.now a.sleepers.now
    a.console a.files.now calling files))) c.reading.ensures.waits

pub returns-in-Writes-clause-row : goal.returns-in-Writes-clause-row
returns-in-Writes-clause-row c =
    let a = c.args in
    IfOk-weaker c.writing.result _ _ (λ d row caller k calling files registers.
    subst (λ m. ComesTo (call_row (context_of k) caller a.number a.args.now) d caller k a.space.now m)
    (sym c.writing.ensures.kept)
    (subst (λ (p : Prog Answer). ComesTo p d caller k a.space.now a.areas.now)
    (sym (called_write (context_of k) caller a.number a.args.now c.in-Writes.by c.in-Writes.ensures.asked))
    (row caller k (moving caller k a.context.now a.space.now a.areas.now a.tasks.now a.sleepers.now
    a.console a.files.now calling files)))) c.writing.ensures.row

pub returns-in-Writes-clause-waits : goal.returns-in-Writes-clause-waits
returns-in-Writes-clause-waits c =
    let a = c.args in
    IfOk-weaker c.writing.result _ _ (λ d waits caller k calling files.
    waits_alike d caller.table (parts k)
    (λ of_row. write_row_by c.in-Writes.by a.args.now.a0 a.args.now.a1 a.args.now.a2 caller)
    (λ context. call_row context caller a.number a.args.now)
    (λ context. called_write context caller a.number a.args.now c.in-Writes.by c.in-Writes.ensures.asked)
    (waits caller k (moving caller k a.context.now a.space.now a.areas.now a.tasks.now a.sleepers.now
    a.console a.files.now calling files))) c.writing.ensures.waits

pub returns-in-Writes-clause-apart : goal.returns-in-Writes-clause-apart
returns-in-Writes-clause-apart c =
    IfOk-weaker c.writing.result _ _ (λ d room apart. (refl, c.writing.ensures.kept)) c.writing.ensures.sure

pub returns-in-Pipes-clause-row : goal.returns-in-Pipes-clause-row
returns-in-Pipes-clause-row c =
    let a = c.args in
    IfOk-weaker c.piping.result _ _ (λ d row caller k calling files registers.
    subst (λ m. ComesTo (call_row (context_of k) caller a.number a.args.now) d caller k a.space.now m)
    (sym c.piping.ensures.kept)
    (subst (λ (p : Prog Answer). ComesTo p d caller k a.space.now a.areas.now)
    (sym (ap (row_if_known (context_of k) caller a.args.now) c.in-Pipes.ensures.asked))
    (row caller k a.console (moving caller k a.context.now a.space.now a.areas.now a.tasks.now a.sleepers.now
    a.console a.files.now calling files)))) c.piping.ensures.row

pub returns-in-Pipes-clause-waits : goal.returns-in-Pipes-clause-waits
returns-in-Pipes-clause-waits c =
    IfOk-weaker c.piping.result _ _ (λ d goes caller k calling files.
    never_waits d (λ awaited. WaitsWith awaited caller.table (parts k)
    (λ context. call_row context caller c.args.number c.args.args.now)) goes) c.piping.ensures.goes

pub returns-in-Pipes-clause-apart : goal.returns-in-Pipes-clause-apart
returns-in-Pipes-clause-apart c =
    IfOk-weaker c.piping.result _ _ (λ d room apart. (refl, c.piping.ensures.kept)) c.piping.ensures.sure

pub returns-in-Changes-clause-row : goal.returns-in-Changes-clause-row
returns-in-Changes-clause-row c caller k calling files registers =
    let a = c.args in
    answers_kept (call_row (context_of k) caller a.number a.args.now) c.in-Changes.prepared caller k a.space.now
    a.space.now a.areas.now
    (has_space caller k a.context.now a.space.now a.areas.now a.tasks.now a.sleepers.now a.console calling)
    (c.in-Changes.ensures.row (context_of k) caller k calling.table files) refl (sym calling.areas)

pub returns-in-Changes-clause-apart : goal.returns-in-Changes-clause-apart
returns-in-Changes-clause-apart c lacks = absurd lacks

pub returns-in_ok-call-in-Others-clause-row : goal.returns-in_ok-call-in-Others-clause-row
returns-in_ok-call-in-Others-clause-row c caller k calling files registers =
    let a = c.args in
    c.in_ok-call-in-Others.ensures.row caller k a.console calling
    (table_so caller k a.context.now.table a.files.now calling.table files _ c.numbers_of.ensures) registers

pub returns-in_ok-call-in-Others-clause-waits : goal.returns-in_ok-call-in-Others-clause-waits
returns-in_ok-call-in-Others-clause-waits c caller k calling files =
    c.in_ok-call-in-Others.ensures.waits caller k c.args.console calling

pub returns-in-Reads-clause-ended : goal.returns-in-Reads-clause-ended
returns-in-Reads-clause-ended c =
    let a = c.args in
    IfOk-weaker c.reading.result _ _ (λ d ended. ended a.context.now.task a.context.now.group a.tasks.now)
    c.reading.ensures.ended

pub returns-in-Reads-clause-room : goal.returns-in-Reads-clause-room
returns-in-Reads-clause-room c =
    IfOk-weaker c.reading.result _ _ (λ d room. room c.args.tasks.now) c.reading.ensures.room

pub returns-in-Writes-clause-ended : goal.returns-in-Writes-clause-ended
returns-in-Writes-clause-ended c =
    let a = c.args in
    IfOk-weaker c.writing.result _ _ (λ d ended. ended a.context.now.task a.context.now.group a.tasks.now)
    c.writing.ensures.ended

pub returns-in-Writes-clause-room : goal.returns-in-Writes-clause-room
returns-in-Writes-clause-room c =
    IfOk-weaker c.writing.result _ _ (λ d room. room c.args.tasks.now) c.writing.ensures.room

pub returns-in-Pipes-clause-ended : goal.returns-in-Pipes-clause-ended
returns-in-Pipes-clause-ended c =
    let a = c.args in
    IfOk-weaker c.piping.result _ _ (λ d ended. ended a.context.now.task a.context.now.group a.tasks.now)
    c.piping.ensures.ended

pub returns-in-Pipes-clause-room : goal.returns-in-Pipes-clause-room
returns-in-Pipes-clause-room c =
    IfOk-weaker c.piping.result _ _ (λ d room. room c.args.tasks.now) c.piping.ensures.room
