-- Opening tasks among the tasks: so many were made, and there is room for more.
use Rattle.std.proofs.Common.{◌≡◌, ℕ, ◌+◌, ◌<◌, List, [], ◌∷◌, ◌++◌, length, refl, ap, sym, subst, ◌∙◌, arith}
use Rattle.std.proofs.Common.{length-append, None}
use Rattle.sn_base.specs.declared.made.Made.{Made}
use Rattle.task_table.specs.Clones.{opened}
use Rattle.task_table.specs.Kept.{IsSoundTable}
use Rattle.task_table.specs.Table.{TaskTable, no_tasks, live_count}
use Rattle.task_table.proofs.Keeping.{sound_empty, sound_with_group}
use Rattle.kernel_model.specs.laws.Room.{MayOpen}

-- so many tasks were opened: each of them lives, and the last has that number
pub record AreOpened (n : ℕ) (list : TaskTable) : Type 0 where
  pub live : List ℕ
  pub children : List ℕ
  pub sound : IsSoundTable list live children
  pub all : length live ≡ n
  pub last : list.last ≡ n

pub opened_none : AreOpened 0 no_tasks
opened_none = record { live = []; children = []; sound = sound_empty; all = refl; last = refl }

-- one more may be opened
pub may_open : (n : ℕ) (list : TaskTable) → n < 64 → AreOpened n list → MayOpen list
may_open n list few o =
    let count : live_count list ≡ n = sym (ap length o.sound.live_is) ∙ o.all in
    let last : list.last ≡ n = o.last in
    record { room = record { few = omega arith; next = omega arith }; few = omega arith }

-- in whatever list that is the same
pub opens_still : (list after : TaskTable) → after ≡ list → MayOpen list → MayOpen after
opens_still list after same may = subst (λ (x : TaskTable). MayOpen x) (sym same) may

-- which is one of one more
pub opened_more : (n : ℕ) (list : TaskTable) (memory table : Made) (cwd : ℕ) → n < 64 → AreOpened n list
    → AreOpened (n + 1) (opened list memory table cwd)
opened_more n list memory table cwd few o =
    let last : list.last ≡ n = o.last in
    let all : length o.live ≡ n = o.all in
    record {
      live = o.live ++ (list.last + 1) ∷ [];
      children = o.children;
      sound = sound_with_group list o.live o.children (record {
        parent = 0;
        memory = memory;
        table = table;
        cwd = cwd;
        ended = None;
      }) 0 o.sound (omega arith) refl (omega arith);
      all = omega (arith, length-append o.live ((list.last + 1) ∷ []));
      last = omega arith;
    }
