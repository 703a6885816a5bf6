-- A task is listed with one thing, and each as it was.
use Rattle.std.proofs.Common.{ap, ◌∙◌, inl, inr}
use Rattle.std.specs.Prelude.{Result, Ok, Err, OnOk, is_some}
use Rattle.std.specs.FinMap as map
use Rattle.sn_base.proofs.Maps.{get-insert_same}
use Rattle.parked_tasks.specs.Used.{is_listed_in}
use Rattle.parked_tasks.proofs.Indexes.{is_there, more_areas, more_description, more_memory, more_pipe, more_table}
use Rattle.parked_tasks.proofs.Results.{by_result}
use Rattle.parked_tasks.proofs.index.Index.list_with.Goals as goal

by_ok : {A E P Q : Type 0} (r : Result A E) → (P → Q) → OnOk r P → OnOk r Q
by_ok (Ok x) f p = f p
by_ok (Err e) f p = tt

pub returns-in-Memory-clause-listed : goal.returns-in-Memory-clause-listed
returns-in-Memory-clause-listed c =
    let i = c.args.self.now in
    by_ok c.list.result (λ more.
    ap (λ u. is_listed_in (record i { by_memory = c.list.new.self }) u c.args.task) c.in-Memory.is
    ∙ is_there c.args.task c.in-Memory.name i.by_memory c.list.new.self more)
    c.list.ensures.ok

pub returns-in-Memory-clause-more : goal.returns-in-Memory-clause-more
returns-in-Memory-clause-more c =
    let i = c.args.self.now in
    more_memory i c.args.task c.in-Memory.name c.list.new.self
    (by_result c.list.result c.list.ensures.ok c.list.ensures.err
    (λ more. inl more) (λ same. inr same))

pub returns-in-Table-clause-listed : goal.returns-in-Table-clause-listed
returns-in-Table-clause-listed c =
    let i = c.args.self.now in
    by_ok c.list-in-Table.result (λ more.
    ap (λ u. is_listed_in (record i { by_table = c.list-in-Table.new.self }) u c.args.task) c.in-Table.is
    ∙ is_there c.args.task c.in-Table.name i.by_table c.list-in-Table.new.self more)
    c.list-in-Table.ensures.ok

pub returns-in-Table-clause-more : goal.returns-in-Table-clause-more
returns-in-Table-clause-more c =
    let i = c.args.self.now in
    more_table i c.args.task c.in-Table.name c.list-in-Table.new.self
    (by_result c.list-in-Table.result c.list-in-Table.ensures.ok c.list-in-Table.ensures.err
    (λ more. inl more) (λ same. inr same))

pub returns-in-Description-clause-listed : goal.returns-in-Description-clause-listed
returns-in-Description-clause-listed c =
    let i = c.args.self.now in
    let after = c.list-in-Description.new.self in
    by_ok c.list-in-Description.result (λ more.
    ap (λ u. is_listed_in (record i { by_description = after }) u c.args.task) c.in-Description.is
    ∙ is_there c.args.task c.in-Description.name i.by_description after more)
    c.list-in-Description.ensures.ok

pub returns-in-Description-clause-more : goal.returns-in-Description-clause-more
returns-in-Description-clause-more c =
    let i = c.args.self.now in
    more_description i c.args.task c.in-Description.name c.list-in-Description.new.self
    (by_result c.list-in-Description.result c.list-in-Description.ensures.ok c.list-in-Description.ensures.err
    (λ more. inl more) (λ same. inr same))

pub returns-in-Pipe-clause-listed : goal.returns-in-Pipe-clause-listed
returns-in-Pipe-clause-listed c =
    let i = c.args.self.now in
    let after = c.list-in-Pipe.new.self in
    by_ok c.list-in-Pipe.result (λ more.
    ap (λ u. is_listed_in (record i { by_pipe = after }) u c.args.task) c.in-Pipe.is
    ∙ is_there c.args.task c.in-Pipe.name i.by_pipe after more)
    c.list-in-Pipe.ensures.ok

pub returns-in-Pipe-clause-more : goal.returns-in-Pipe-clause-more
returns-in-Pipe-clause-more c =
    let i = c.args.self.now in
    more_pipe i c.args.task c.in-Pipe.name c.list-in-Pipe.new.self
    (by_result c.list-in-Pipe.result c.list-in-Pipe.ensures.ok c.list-in-Pipe.ensures.err
    (λ more. inl more) (λ same. inr same))

pub returns-in-Areas-clause-listed : goal.returns-in-Areas-clause-listed
returns-in-Areas-clause-listed c =
    let i = c.args.self.now in
    by_ok c.insert.result (λ more.
    ap (λ u. is_listed_in (record i { in_areas = c.insert.new.self }) u c.args.task) c.in-Areas.is
    ∙ ap (λ m. map.contains_key m c.args.task) more ∙ ap is_some (get-insert_same i.in_areas c.args.task tt))
    c.insert.ensures.ok

pub returns-in-Areas-clause-more : goal.returns-in-Areas-clause-more
returns-in-Areas-clause-more c =
    more_areas c.args.self.now c.args.task c.insert.new.self
    (by_result c.insert.result c.insert.ensures.ok c.insert.ensures.err
    (λ more. inl more) (λ same. inr same))
