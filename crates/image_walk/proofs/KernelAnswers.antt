-- What a kernel's opening execve comes to is what was answered, and leaves the nodes that then stand.
use Rattle.std.proofs.Common.{◌≡◌, ◌≢◌, ℕ, ◌+◌, ◌<◌, ◌≤◌, Bool, true, false, List, [], ◌∷◌, ◌++◌, length, refl, ap}
use Rattle.std.proofs.Common.{sym, ◌∙◌, subst, arith, inl, inr}
use Rattle.std.specs.Prelude.{Option, None, Ok, Err, unwrap_or, if◌then◌else◌}
use Rattle.std.specs.Ordering.{nat_cmp}
use Rattle.std.specs.FinMap as map
use Rattle.sn_base.specs.Sums.{capped}
use Rattle.sn_base.proofs.Maps.{get_of_empty, get-insert_other}
use Rattle.host_node.specs.Tree.{Shape, child_of}
use Rattle.sn_errno.specs.declared.errno.Errno.{Errno}
use Rattle.sn_errno.specs.declared.errno.Errno.TheVariants.{EIO, E2BIG}
use Rattle.elf_image.specs.declared.image.Image.{Image}
use Rattle.mount_file.specs.declared.mounts.Program.{Program}
use Rattle.kernel_model.specs.declared.limits.TheConstants.{LAST_NUMBER}
use Rattle.kernel_model.specs.declared.kernel.Kernel.{Kernel}
use Rattle.kernel_model.specs.declared.kernel.Part.TheVariants.{OfFaults}
use Rattle.kernel_model.specs.declared.opening.Given.{Given}
use Rattle.kernel_model.specs.declared.opening.Rise.{Rise}
use Rattle.kernel_model.specs.files.Settled.{tree_now}
use Rattle.kernel_model.specs.entries.Given.{node_changes, risen, may_meet}
use Rattle.kernel_model.specs.entries.Parts.{parts, outcome_in, Change, changed}
use Rattle.kernel_model.specs.opening.Arguments.{is_too_long}
use Rattle.kernel_model.specs.opening.Opening.{Walked, execve_of, by_walk, unwalked}
use Rattle.kernel_model.specs.opening.Opening as opening
use Rattle.image_walk.specs.declared.granted.Numbering.{Numbering}
use Rattle.image_walk.specs.declared.loading.ImageAnswer.{ImageAnswer}
use Rattle.image_walk.specs.declared.loading.ImageAnswer.TheVariants.{Starts, Refuses}
use Rattle.image_walk.specs.Granted.{LentChild, GivesBack}
use Rattle.image_walk.specs.Standing.{IsNumbering, IsNoneOf, AreNodes, StandUnlent, KeepsRoots, StandsLent}
use Rattle.image_walk.specs.Standing.{no_left}
use Rattle.image_walk.specs.Executing.{HasNumber, walked_among, fresh_for, named_then, AnswersBy, AnswersExecve, Executes}
use Rattle.image_walk.proofs.Places.{IsThere}
use Rattle.image_walk.proofs.KernelWalk.{has_nodes, execve_is, HasNodes}
use Rattle.image_walk.proofs.KernelNumbers.{nodes_then, Draws, by_walk_quiet, by_walk_failing, number_some}
use Rattle.image_walk.proofs.KernelNumbers.{may_quiet, may_fail}
use Rattle.image_walk.proofs.KernelNodes.{Leaves, leaves, changed-more}
use Rattle.image_walk.proofs.Settling.{settles, settles_risen}

-- ---- an execve, by what was given and answered

there_first : (t : Shape) (names : List (List ℕ)) (name : List ℕ) → StandUnlent t (names ++ name ∷ [])
    → StandUnlent t names
there_first t [] name h = tt
there_first t (other ∷ names) name h = (h.0, fewer names h.1, there_first t names name h.2)
  where
    fewer : (ns : List (List ℕ)) → IsNoneOf other (ns ++ name ∷ []) → IsNoneOf other ns
    fewer [] o = tt
    fewer (n ∷ ns) o = (o.0, fewer ns o.1)

there_last : (t : Shape) (names : List (List ℕ)) (name : List ℕ) → StandUnlent t (names ++ name ∷ [])
    → IsThere (child_of name t)
there_last t [] name h = h.0
there_last t (other ∷ names) name h = there_last t names name h.2

there_before : (drawn : Bool) (t : Shape) (names : List (List ℕ)) (name : List ℕ)
    → StandUnlent t (named_then drawn names name) → StandUnlent t names
there_before true t names name h = there_first t names name h
there_before false t names name h = h

there_drawn : (drawn : Bool) (t : Shape) (names : List (List ℕ)) (name : List ℕ)
    → StandUnlent t (named_then drawn names name) → drawn ≡ true → IsThere (child_of name t)
there_drawn true t names name h e = there_last t names name h
there_drawn false t names name h e = absurd (cc e)

-- where the strings are too long, what is answered is that of no walk
answers_by : (num : Numbering) (long : Bool) (walked : Walked) (drawn : Bool) (count : ℕ) (rises : List Rise)
    (answer : ImageAnswer)
    → AnswersExecve num long walked drawn count rises answer
    → AnswersBy num (if long then unwalked else walked) drawn count rises answer
answers_by num false walked drawn count rises answer h = h
answers_by num true walked drawn count rises answer h =
    subst (λ (rs : List Rise). AnswersBy num unwalked drawn count rs answer) (sym h.1)
    (subst (λ (a : ImageAnswer). AnswersBy num unwalked drawn count [] a) (sym h.2)
    (ap (λ d. record { draws = d; image = Err E2BIG }) (sym h.0)))

-- no count of the other roots rose
abbrev pub AreStill : Numbering → (failed : map.FinMap nat_cmp ℕ) → Type 0
AreStill num failed = (ino : ℕ) → ino ≢ num.root → ino < num.first → map.get failed ino ≡ None

-- a node that failed is the root or a child, and no other root
other_root : (num : Numbering) (count ino other : ℕ) → HasNumber num count ino → other ≢ num.root → other < num.first
    → ino ≢ other
other_root num count ino other (inl e) differs low = λ same. differs (sym same ∙ e)
other_root num count ino other (inr h) differs low = λ same. absurd (let from : num.first ≤ ino = h.0 in omega arith)

-- the image begins: what was drawn and met may be, the changes that it begins with, and the nodes then
pub record Started (num : Numbering) (k : Kernel) (t : Shape) (names : List (List ℕ)) (p : Program) (given : Given)
    (image : Image) : Type 0 where
  pub changes : List Change
  pub may : may_meet k.nodes given ≡ true
  pub comes : outcome_in (parts k) (execve_of num.root p given) ≡ opening.Starts image changes
  pub nodes : AreNodes num (changed changes k).nodes t names
  pub others : KeepsRoots num k.nodes (changed changes k).nodes
  pub rest : changed changes k ≡ record k { nodes = (changed changes k).nodes }

-- the execve fails: what was drawn and met may be, the changes that it leaves, that the root's tree then is what the
-- nodes give back, and that the other roots stand
pub record Failed (num : Numbering) (k : Kernel) (p : Program) (given : Given) (errno : Errno) (root : Option Shape)
    (children : List LentChild) : Type 0 where
  pub changes : List Change
  pub may : may_meet k.nodes given ≡ true
  pub comes : outcome_in (parts k) (execve_of num.root p given) ≡ opening.Fails errno changes
  pub settles : GivesBack root children (tree_now (changed changes k) no_left num.root)
  pub others : KeepsRoots num k.nodes (changed changes k).nodes
  pub still : AreStill num (changed changes k).failed

module _ (num : Numbering) (facts : IsNumbering num) (k : Kernel) (t : Shape) (names : List (List ℕ))
    (given : Given) (answer : ImageAnswer) (root : Option Shape) (children : List LentChild) (p : Program)
    (a : AreNodes num k.nodes t names) (failed : k.failed ≡ map.empty) (room : length names + num.first ≤ LAST_NUMBER)
    (e : Executes num (is_too_long p.args p.env) t names p.name given answer root children) where
  drawing : Draws num t names p.name e.drawn
  drawing = record {
    unnumbered = e.unnumbered;
    there = there_drawn e.drawn t names p.name e.stands.there;
    room = room;
  }

  has : HasNodes num (parts k) t names
  has = has_nodes num k t names a (there_before e.drawn t names p.name e.stands.there)

  abbrev walked : Walked
  walked = if is_too_long p.args p.env then unwalked else walked_among num t names p.name

  abbrev drawn_changes : List Change
  drawn_changes = node_changes (nodes_then num e.drawn t names p.name)

  left : Leaves num k (changed drawn_changes k) t (named_then e.drawn names p.name)
  left = leaves num facts.1 e.drawn k t names p.name a drawing

  executed_by : (rises : List Rise) → given.rises ≡ rises
      → outcome_in (parts k) (execve_of num.root p given)
      ≡ outcome_in (parts k) (by_walk num.root p.name
      (record { fresh = fresh_for num e.drawn names p.name; rises = rises }) walked)
  executed_by rises r =
      execve_is num (parts k) t names has p given
      ∙ ap (λ fresh. outcome_in (parts k) (by_walk num.root p.name
      (record { fresh = fresh; rises = given.rises }) walked)) e.fresh
      ∙ ap
      (λ rs. outcome_in (parts k)
      (by_walk num.root p.name (record { fresh = fresh_for num e.drawn names p.name; rises = rs }) walked)) r

  -- what was drawn and met may be
  may_by : (rises : List Rise) → given.rises ≡ rises
      → may_meet k.nodes (record { fresh = fresh_for num e.drawn names p.name; rises = rises }) ≡ true
      → may_meet k.nodes given ≡ true
  may_by rises r may =
      ap (λ fresh. may_meet k.nodes (record { fresh = fresh; rises = given.rises })) e.fresh
      ∙ ap (λ rs. may_meet k.nodes (record { fresh = fresh_for num e.drawn names p.name; rises = rs })) r
      ∙ may

  answered : AnswersBy num walked e.drawn (length (named_then e.drawn names p.name)) given.rises answer
  answered =
      answers_by num (is_too_long p.args p.env) (walked_among num t names p.name) e.drawn _ given.rises answer e.answers

  pub execve_starts : (image : Image) → answer ≡ Starts image
      → Started num k t (named_then e.drawn names p.name) p given image
  execve_starts image is =
      by given.rises refl
      (subst
      (λ (x : ImageAnswer). AnswersBy num walked e.drawn (length (named_then e.drawn names p.name)) given.rises x)
      is answered)
    where
      by : (rises : List Rise) → given.rises ≡ rises
          → AnswersBy num walked e.drawn (length (named_then e.drawn names p.name)) rises (Starts image)
          → Started num k t (named_then e.drawn names p.name) p given image
      by [] r h = record {
        changes = drawn_changes;
        may = may_by [] r (may_quiet num k t names p.name has e.drawn);
        comes =
            executed_by [] r ∙ by_walk_quiet num facts (parts k) t names p.name has e.drawn (Ok image) walked drawing h;
        nodes = left.nodes;
        others = left.others;
        rest = left.rest;
      }
      by (x ∷ []) r h = absurd (let same = h.0 in cc)
      by (x ∷ y ∷ rises) r h = absurd h

  settles_quiet : given.rises ≡ [] → GivesBack root children (tree_now (changed drawn_changes k) no_left num.root)
  settles_quiet r =
      settles num (changed drawn_changes k) t (named_then e.drawn names p.name) root children left.nodes
      (ap (λ (x : Kernel). x.failed) left.rest ∙ failed)
      (subst (λ (rs : List Rise). StandsLent num t (named_then e.drawn names p.name) rs root children) r e.stands)

  abbrev risen_changes : Rise → List Change
  risen_changes x = drawn_changes ++ (OfFaults, risen (x ∷ []) k.failed) ∷ []

  risen_once : (x : Rise) → risen (x ∷ []) k.failed ≡ map.insert map.empty x.ino (capped (0 + x.count))
  risen_once x =
      ap (λ (m : map.FinMap nat_cmp ℕ). map.insert m x.ino (capped (unwrap_or (map.get m x.ino) 0 + x.count))) failed
      ∙ ap (λ o. map.insert map.empty x.ino (capped (unwrap_or o 0 + x.count))) (get_of_empty x.ino)

  settles_faulted : (x : Rise) → given.rises ≡ x ∷ []
      → GivesBack root children (tree_now (changed (risen_changes x) k) no_left num.root)
  settles_faulted x r =
      subst (λ (after : Kernel). GivesBack root children (tree_now after no_left num.root))
      (sym (changed-more drawn_changes (OfFaults, risen (x ∷ []) k.failed) k))
      (settles_risen num (record (changed drawn_changes k) { failed = risen (x ∷ []) k.failed }) t
      (named_then e.drawn names p.name) x root children left.nodes (risen_once x)
      (subst (λ (rs : List Rise). StandsLent num t (named_then e.drawn names p.name) rs root children) r e.stands))

  -- no count of another root rises, where none rose or that of one node that has a number
  still_quiet : AreStill num (changed drawn_changes k).failed
  still_quiet = λ ino differs low.
      ap (λ (x : Kernel). map.get x.failed ino) left.rest
      ∙ ap (λ (m : map.FinMap nat_cmp ℕ). map.get m ino) failed ∙ get_of_empty ino

  still_faulted : (x : Rise) → HasNumber num (length (named_then e.drawn names p.name)) x.ino
      → AreStill num (changed (risen_changes x) k).failed
  still_faulted x number = λ ino differs low.
      ap (λ (after : Kernel). map.get after.failed ino)
      (changed-more drawn_changes (OfFaults, risen (x ∷ []) k.failed) k)
      ∙ ap (λ (m : map.FinMap nat_cmp ℕ). map.get m ino) (risen_once x)
      ∙ get-insert_other map.empty x.ino ino (capped (0 + x.count)) (other_root num _ x.ino ino number differs low)
      ∙ get_of_empty ino

  others_faulted : (x : Rise) → KeepsRoots num k.nodes (changed (risen_changes x) k).nodes
  others_faulted x =
      subst (λ (after : Kernel). KeepsRoots num k.nodes after.nodes)
      (sym (changed-more drawn_changes (OfFaults, risen (x ∷ []) k.failed) k)) left.others

  pub execve_fails : (errno : Errno) → answer ≡ Refuses errno → Failed num k p given errno root children
  execve_fails errno is =
      by given.rises refl
      (subst
      (λ (x : ImageAnswer). AnswersBy num walked e.drawn (length (named_then e.drawn names p.name)) given.rises x)
      is answered)
    where
      by : (rises : List Rise) → given.rises ≡ rises
          → AnswersBy num walked e.drawn (length (named_then e.drawn names p.name)) rises (Refuses errno)
          → Failed num k p given errno root children
      by [] r h = record {
        changes = drawn_changes;
        may = may_by [] r (may_quiet num k t names p.name has e.drawn);
        comes =
            executed_by [] r
            ∙ by_walk_quiet num facts (parts k) t names p.name has e.drawn (Err errno) walked drawing h;
        settles = settles_quiet r;
        others = left.others;
        still = still_quiet;
      }
      by (x ∷ []) r h =
          let same : EIO ≡ errno = let refused = h.0 in cc in
          record {
            changes = risen_changes x;
            may = may_by (x ∷ []) r (may_fail num k t names p.name has e.drawn x drawing h.2);
            comes =
                executed_by (x ∷ []) r
                ∙ by_walk_failing num facts (parts k) t names p.name has e.drawn x walked drawing h.1
                (number_some num facts _ x.ino h.2)
                ∙ ap (λ errno. opening.Fails errno (risen_changes x)) same;
            settles = settles_faulted x r;
            others = others_faulted x;
            still = still_faulted x h.2;
          }
      by (x ∷ y ∷ rises) r h = absurd h

-- where the image begins nothing rose, and the next execve begins with the folder as it then stands
pub starts_quiet : (num : Numbering) (long : Bool) (t : Shape) (names : List (List ℕ)) (name : List ℕ) (given : Given)
    (image : Image)
    (root : Option Shape) (children : List LentChild)
    → Executes num long t names name given (Starts image) root children → given.rises ≡ []
starts_quiet num long t names name given image root children e =
    by given.rises (answers_by num long (walked_among num t names name) e.drawn (length (named_then e.drawn names name))
    given.rises (Starts image) e.answers)
  where
    by : (rises : List Rise)
        → AnswersBy num (if long then unwalked else walked_among num t names name) e.drawn
        (length (named_then e.drawn names name)) rises (Starts image)
        → rises ≡ []
    by [] h = refl
    by (x ∷ []) h = absurd (let same = h.0 in cc)
    by (x ∷ y ∷ rises) h = absurd h

pub stands_on : (num : Numbering) (long : Bool) (t : Shape) (names : List (List ℕ)) (name : List ℕ) (given : Given)
    (image : Image)
    (root : Option Shape) (children : List LentChild)
    → (e : Executes num long t names name given (Starts image) root children)
    → StandsLent num t (named_then e.drawn names name) [] root children
stands_on num long t names name given image root children e =
    subst (λ (rs : List Rise). StandsLent num t (named_then e.drawn names name) rs root children)
    (starts_quiet num long t names name given image root children e) e.stands
