-- Who a caller is, and which system it runs on: getpid, getppid, gettid, getuid and its kin, and uname.
use Rattle.std.specs.Prelude.{ℕ, ◌-◌, List, [], ◌++◌, length, replicate, codes, pos}
use Rattle.std.specs.FinMap as map
use Rattle.std.specs.Option.{option_map_or}
use Rattle.std.specs.Ordering.{nat_cmp}
use Rattle.stat_layout.specs.declared.stat.TheConstants.{OWNER}
use Rattle.task_table.specs.declared.task.Group.{Group}
use Rattle.kernel_model.specs.declared.caller.Caller.{Caller}
use Rattle.kernel_model.specs.declared.kernel.Part.TheVariants.{OfTasks}
use Rattle.kernel_model.specs.calls.Answers.{Answer, replies}
use Rattle.kernel_model.specs.calls.Buffers.{fills}
use Rattle.kernel_model.specs.entries.Parts.{Prog, done, look}

-- ---- processes and users

-- getpid(): the number of the caller's thread group
-- getpid(2)
abbrev pub getpid_row : Caller → Prog Answer
getpid_row c = done (replies (pos c.group) [])

-- the number of a thread group's parent, or 0 where it has none
-- getppid(2); that 0 stands for none, also once the parent has ended: profile
abbrev pub parent_of : map.FinMap nat_cmp Group → (group : ℕ) → ℕ
parent_of groups group = option_map_or (λ (g : Group). g.parent) (map.get groups group) 0

-- getppid(): the number of the parent of the caller's thread group
-- getppid(2)
abbrev pub getppid_row : Caller → Prog Answer
getppid_row c = look OfTasks (λ list. done (replies (pos (parent_of list.groups c.group)) []))

-- gettid(): the caller's task number
-- gettid(2)
abbrev pub gettid_row : Caller → Prog Answer
gettid_row c = done (replies (pos c.task) [])

-- getuid(), geteuid(), getgid(), getegid(): the user and the group of every task, the effective ones too
-- getuid(2), getgid(2); the number: profile
abbrev pub owner_row : Prog Answer
owner_row = done (replies (pos OWNER) [])

-- ---- the system's name

-- a field: a text, filled up with zeros
-- uname(2), struct utsname; its 65 bytes: Linux
abbrev pub name_field : List ℕ → List ℕ
name_field text = text ++ replicate (65 - length text) 0

-- sysname, nodename, release, version, machine and domainname, 390 bytes
-- uname(2), struct utsname; what they say: profile
unfoldable pub utsname : List ℕ
utsname =
    name_field (codes "Linux")
    ++ name_field (codes "sentry")
    ++ name_field (codes "5.15.0")
    ++ name_field (codes "#1")
    ++ name_field (codes "riscv64")
    ++ name_field (codes "(none)")

-- uname(buffer): the six fields
-- uname(2), ERRORS: EFAULT
abbrev pub uname_row : (buffer : ℕ) → Caller → Prog Answer
uname_row buffer c = fills c buffer utsname 0
