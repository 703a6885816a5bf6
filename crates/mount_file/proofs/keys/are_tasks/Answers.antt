use Rattle.std.proofs.Common.{rules, ◌∙◌, ap, sym}
use Rattle.std.proofs.lemmas.Iterator.{YieldsList-from_slice}
use Rattle.std.proofs.lemmas.Iterator.Search.{all_from_yields_List}
use borrow.Author.Tests.{tests}
use Rattle.mount_file.specs.Keys.{is_table_of, has_task_keys, is_array_of}
use Rattle.mount_file.proofs.Views.{are_all_view}
use Rattle.mount_file.proofs.keys.are_tasks.Goals as goal
use Rattle.toml.proofs.Views.{view-Array}
use Rattle.toml.specs.View.{view}

pub returns-in-Array : goal.returns-in-Array
returns-in-Array c =
    all_from_yields_List (λ v. (is_table_of has_task_keys) (view v)) _ _ c.all.result c.all.ensures.ran
    (YieldsList-from_slice c.in-Array.items.items cc) (λ x b q k. search (rules, tests))
    ∙ are_all_view ((is_table_of has_task_keys)) c.in-Array.items.items
    ∙ sym (ap (is_array_of ((is_table_of has_task_keys))) (ap view c.in-Array.is ∙ view-Array c.in-Array.items))
