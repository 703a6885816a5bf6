-- Tasks by the name of something that each used.
use Rattle.std.specs.Prelude.{ℕ, ◌<◌, ◌^◌, Bool, false, List, IsTrue, unwrap_or}
use Rattle.std.specs.List.{list_any}
use Rattle.std.specs.Option.{option_map_or}
use Rattle.std.specs.Ordering.{nat_cmp, eq_by_cmp}
use Rattle.std.specs.FinMap as map
use Rattle.sn_base.specs.declared.made.Made.{Made}
use Rattle.kernel_model.specs.Names.{NamedMap, get_named, with_named}

-- whether a task is among some
-- profile
abbrev pub is_among : (task : ℕ) → (tasks : List ℕ) → Bool
is_among task tasks = list_any (eq_by_cmp nat_cmp task) tasks

-- each key is the number of a task
-- profile: the number of a task has 32 bits
abbrev pub AreNumbers : {V : Type 0} → map.FinMap nat_cmp V → Type 0
AreNumbers tasks = (task : ℕ) → IsTrue (map.contains_key tasks task) → task < 2 ^ 32

-- whether a task is listed under a name
-- profile
abbrev pub is_listed : {V : Type 0} → (by_name : NamedMap (map.FinMap nat_cmp V)) → Made → (task : ℕ) → Bool
is_listed by_name name task =
    option_map_or (λ tasks. map.contains_key tasks task) (get_named by_name name.place name.index) false

-- the lists where a task is listed under a name too
-- profile
abbrev pub with_listed : {V : Type 0} → (by_name : NamedMap (map.FinMap nat_cmp V)) → Made → (task : ℕ)
    → (mark : V) → NamedMap (map.FinMap nat_cmp V)
with_listed by_name name task mark =
    with_named by_name name.place name.index
    (map.insert (unwrap_or (get_named by_name name.place name.index) map.empty) task mark)
