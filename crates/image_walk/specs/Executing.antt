-- What an opening execve over a granted folder comes to.
use Rattle.std.specs.Prelude.{◌≡◌, ℕ, ◌+◌, ◌<◌, ◌≤◌, List, [], ◌∷◌, ◌++◌, length, Bool, true, false, Option, Some, None}
use Rattle.std.specs.Prelude.{Ok, Err, if◌then◌else◌, ⊤, ◌⊎◌}
use Rattle.host_node.specs.Tree.{Shape, child_of}
use Rattle.sn_errno.specs.declared.errno.Errno.TheVariants.{EIO, ENOENT, E2BIG, EACCES}
use Rattle.kernel_model.specs.declared.opening.Fresh.{Fresh}
use Rattle.kernel_model.specs.declared.opening.Given.{Given}
use Rattle.kernel_model.specs.declared.opening.Rise.{Rise}
use Rattle.kernel_model.specs.files.FileTree.{number_in, owner_executes}
use Rattle.kernel_model.specs.opening.Opening.{Walked, executed}
use Rattle.image_walk.specs.declared.granted.Numbering.{Numbering}
use Rattle.image_walk.specs.declared.loading.ImageAnswer.{ImageAnswer}
use Rattle.image_walk.specs.declared.loading.ImageAnswer.TheVariants.{Starts, Refuses, Memory}
use Rattle.image_walk.specs.Granted.{LentChild}
use Rattle.image_walk.specs.Standing.{StandsLent, numbers_from}

-- what a look for a name comes to
-- path_resolution(7), ENOENT
abbrev pub walked_by : Option Shape → Walked
walked_by None = record { draws = false; image = Err ENOENT }
walked_by (Some s) = record { draws = true; image = executed s }

-- a walk to a child that has a number draws none
-- path_resolution(7)
abbrev pub without_draw : Walked → Walked
without_draw walked = record { draws = false; image = walked.image }

abbrev pub walked_to : Option ℕ → Walked → Walked
walked_to None walked = walked
walked_to (Some ino) walked = without_draw walked

-- the walk of an opening execve to a name, over a granted tree of which these children have numbers
-- path_resolution(7), EACCES; execve(2), ERRORS: ENOENT
abbrev pub walked_among : Numbering → Shape → (names : List (List ℕ)) → (name : List ℕ) → Walked
walked_among num t names name =
    if owner_executes t
    then walked_to (number_in name (numbers_from num.first names)) (walked_by (child_of name t))
    else record { draws = false; image = Err EACCES }

-- the fresh number of a name, where one was drawn: the next one
-- inode(7), st_ino
abbrev pub fresh_for : Numbering → (drawn : Bool) → (names : List (List ℕ)) → (name : List ℕ) → List Fresh
fresh_for num true names name = record { dir = num.root; name = name; ino = length names + num.first } ∷ []
fresh_for num false names name = []

-- the names that have numbers then
-- inode(7), st_ino
abbrev pub named_then : (drawn : Bool) → (names : List (List ℕ)) → (name : List ℕ) → List (List ℕ)
named_then true names name = names ++ name ∷ []
named_then false names name = names

-- the number is the root's, or that of one of so many children
-- inode(7), st_ino
abbrev pub HasNumber : Numbering → (count : ℕ) → (ino : ℕ) → Type 0
HasNumber num count ino = (ino ≡ num.root) ⊎ ((num.first ≤ ino) × (ino < num.first + count))

-- an answer without a rise is that of the walk; one with a rise, of a node that has a number, is EIO
-- execve(2)
abbrev pub AnswersWalk : Walked → (drawn : Bool) → ImageAnswer → Type 0
AnswersWalk walked drawn (Starts image) = walked ≡ record { draws = drawn; image = Ok image }
AnswersWalk walked drawn (Refuses errno) = walked ≡ record { draws = drawn; image = Err errno }
AnswersWalk walked drawn Memory = ⊤

abbrev pub AnswersBy : Numbering → Walked → (drawn : Bool) → (count : ℕ) → List Rise → ImageAnswer → Type 0
AnswersBy num walked drawn count [] answer = AnswersWalk walked drawn answer
AnswersBy num walked drawn count (rise ∷ []) answer =
    (answer ≡ Refuses EIO) × (0 < rise.count) × HasNumber num count rise.ino
AnswersBy num walked drawn count (rise ∷ other ∷ rises) answer = ⊥

-- the same, where nothing is walked to if the strings are too long
-- execve(2), E2BIG
abbrev pub AnswersExecve : Numbering → (long : Bool) → Walked → (drawn : Bool) → (count : ℕ) → List Rise
    → ImageAnswer → Type 0
AnswersExecve num true walked drawn count rises answer = (drawn ≡ false) × (rises ≡ []) × (answer ≡ Refuses E2BIG)
AnswersExecve num false walked drawn count rises answer = AnswersBy num walked drawn count rises answer

-- what an opening execve of a name drew, met and answered, over a granted tree of which these children were lent, and
-- what the nodes tell then
-- execve(2)
pub record Executes (num : Numbering) (long : Bool) (t : Shape) (names : List (List ℕ)) (name : List ℕ)
    (given : Given) (answer : ImageAnswer) (root : Option Shape) (children : List LentChild) : Type 0 where
  pub drawn : Bool
  pub fresh : given.fresh ≡ fresh_for num drawn names name
  pub unnumbered : drawn ≡ true → number_in name (numbers_from num.first names) ≡ None
  pub stands : StandsLent num t (named_then drawn names name) given.rises root children
  pub answers : AnswersExecve num long (walked_among num t names name) drawn (length (named_then drawn names name))
      given.rises answer

-- a child that got a number, and a rise of the count of the node of a number
-- inode(7), st_ino
abbrev pub fresh_by : (root : ℕ) → (drawn : Bool) → (ino : ℕ) → (name : List ℕ) → List Fresh
fresh_by root true ino name = record { dir = root; name = name; ino = ino } ∷ []
fresh_by root false ino name = []

abbrev pub rises_by : (ino : ℕ) → (risen : Option ℕ) → List Rise
rises_by ino None = []
rises_by ino (Some d) = record { ino = ino; count = d } ∷ []
