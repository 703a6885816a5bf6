-- Children, and what waiting for one comes to.
use Rattle.std.specs.Prelude.{ℕ, Bool, true, ◌&&◌, ◌==◌, if◌then◌else◌, Option, Some, None, List, [], ◌∷◌, filter, find}
use Rattle.std.specs.Option.{option_map_or, option_and_then}
use Rattle.std.specs.Ordering.{nat_cmp}
use Rattle.std.specs.FinMap.{FinMap, get, keys}
use Rattle.task_table.specs.declared.task.Group.{Group}
use Rattle.task_table.specs.declared.task.Status.{Status}
use Rattle.task_table.specs.declared.task.ReapEnd.{ReapEnd}
use Rattle.task_table.specs.declared.task.ReapEnd.TheVariants.{Reaped, NotYet, NoChild}
use Rattle.task_table.specs.Entries.{passes, changed_at}
use Rattle.task_table.specs.Table.{TaskTable, has_ended, has_parent}

-- whether a number is the one that is waited for, where there is one
-- wait4(2), pid
abbrev pub is_waited : Option ℕ → ℕ → Bool
is_waited which n = option_map_or (λ wanted. n == wanted) which true

-- whether a number is that of a child of the parent that is waited for
-- wait4(2), pid
abbrev pub is_child : FinMap nat_cmp Group → ℕ → Option ℕ → ℕ → Bool
is_child groups parent which n =
    passes (λ group. has_parent group && (group.parent == parent)) groups n && is_waited which n

-- the children that are waited for, ascending: the one of a number, or all
-- wait4(2), pid
abbrev pub children : FinMap nat_cmp Group → ℕ → Option ℕ → List ℕ
children groups parent which = filter (is_child groups parent which) (keys groups)

-- how a thread group ended, if it has
-- wait4(2), wstatus
abbrev pub status_of_group : FinMap nat_cmp Group → ℕ → Option Status
status_of_group groups n = option_and_then (λ group. group.ended) (get groups n)

-- what is answered where none of these children has ended
-- wait4(2), ERRORS, ECHILD
abbrev pub none_ended : List ℕ → ReapEnd
none_ended [] = NoChild
none_ended (_ ∷ _) = NotYet

-- a child with the status that it has
-- wait4(2), RETURN VALUE
abbrev pub reaped : ℕ → Option Status → ReapEnd
reaped n None = NotYet
reaped n (Some status) = Reaped n status

-- of these children the ended one of lowest number, or that none has ended, or that there is none
-- wait4(2), RETURN VALUE and ERRORS; profile: the lowest number
abbrev pub end_among : FinMap nat_cmp Group → List ℕ → ReapEnd
end_among groups waited =
    option_map_or (λ n. reaped n (status_of_group groups n)) (find (has_ended groups) waited) (none_ended waited)

-- what waiting comes to
-- wait4(2), RETURN VALUE and ERRORS
abbrev pub reap_end : FinMap nat_cmp Group → ℕ → Option ℕ → ReapEnd
reap_end groups parent which = end_among groups (children groups parent which)

-- a group that has no parent where it was a child of this one
-- wait4(2), NOTES; profile: no group takes the children over
abbrev pub orphaned : ℕ → Group → Group
orphaned parent group = if group.parent == parent then record group { parent = 0 } else group

-- a child that was answered is nobody's child any more
-- wait4(2), NOTES; profile: its number and status stay
abbrev pub after_reap : TaskTable → ReapEnd → TaskTable
after_reap t (Reaped child status) = record t {
  groups = changed_at (λ group. record group { parent = 0 }) t.groups child;
}
after_reap t NotYet = t
after_reap t NoChild = t
