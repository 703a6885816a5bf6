-- The inode numbers that a run drew.
use Rattle.std.specs.Prelude.{◌≡◌, ℕ, zero, suc, ◌+◌, ◌≤◌, ◌<◌, List, [], ◌∷◌, ◌++◌, length, Contains}
use Rattle.std.specs.List.{flat_map}
use Rattle.kernel_model.specs.declared.limits.TheConstants.{LAST_NUMBER}
use Rattle.kernel_model.specs.declared.entry.Entry.{Entry}
use Rattle.kernel_model.specs.declared.entry.Entry.TheVariants.{Run, Call, Sleep, End}
use Rattle.kernel_model.specs.declared.opening.Fresh.{Fresh}
use Rattle.kernel_model.specs.declared.opening.Opening.{Opening}
use Rattle.kernel_model.specs.declared.opening.OpenedTask.{OpenedTask}
use Rattle.kernel_model.specs.declared.opening.Left.{Left}
use Rattle.kernel_model.specs.declared.opening.LeftRise.{LeftRise}
use Rattle.kernel_model.specs.files.FileTree.{Child, Missing, Known, Unnumbered}
use Rattle.kernel_model.specs.entries.Given.{numbers_of}

-- so many numbers from the first on, ascending
-- profile
unfoldable pub count_up : (first count : ℕ) → List ℕ
count_up first zero = []
count_up first (suc n) = first ∷ count_up (first + 1) n

-- the numbers of an opening: the roots', and then the tasks'
-- profile
abbrev pub numbers_opened : Opening → List ℕ
numbers_opened opening = opening.roots ++ flat_map (λ (o : OpenedTask). numbers_of o.given.fresh) opening.tasks

-- the numbers of a trace
-- profile
abbrev pub numbers_in : Entry → List ℕ
numbers_in (Run task n) = []
numbers_in (Call task call args given reply) = numbers_of given.fresh
numbers_in (Sleep task) = []
numbers_in (End task signal) = []

-- the fresh numbers that no entry has, with their keys
-- profile
abbrev pub left_fresh : Left → List Fresh
left_fresh left = flat_map (λ (r : LeftRise). r.given.fresh) left.rises ++ left.lent

-- all numbers of a run
-- profile
abbrev pub numbers_drawn : Opening → List Entry → Left → List ℕ
numbers_drawn opening trace left = numbers_opened opening ++ flat_map numbers_in trace ++ numbers_of (left_fresh left)

-- the numbers are 1 up, without a gap
-- profile
abbrev pub IsGapless : List ℕ → Type 0
IsGapless numbers = numbers ≡ count_up 1 (length numbers)

-- each number up to the greatest that is below one of these is one of these
-- profile
abbrev pub HasAllBelow : List ℕ → Type 0
HasAllBelow numbers = (n m : ℕ) → 1 ≤ n → n ≤ LAST_NUMBER → Contains numbers m → n < m → Contains numbers n

-- a fresh number is of a child that is there without a number
-- profile
abbrev pub IsUnnumbered : Child → Type 0
IsUnnumbered Missing = ⊥
IsUnnumbered (Known ino) = ⊥
IsUnnumbered (Unnumbered shape) = Unit {0}
