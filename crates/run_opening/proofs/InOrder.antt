-- The tasks of an opening in order: before the first, and one behind those that began.
use Rattle.std.proofs.Common.{◌≡◌, ℕ, ◌+◌, List, [], ◌++◌, length, refl, ap, sym, ◌∙◌, subst, arith}
use Rattle.std.specs.Prelude.{Option, Some, None, Result, Ok, Err, IfErr, IsErrAnd, IfSome, IsSomeAnd, option_map}
use Rattle.std.proofs.lemmas.List.{append_assoc, append-nil}
use Rattle.host_node.specs.Tree.{Shape}
use Rattle.mount_file.specs.declared.mounts.Mounts.{Mounts}
use Rattle.kernel_model.specs.declared.kernel.Kernel.{Kernel}
use Rattle.kernel_model.specs.declared.opening.OpenedTask.{OpenedTask}
use Rattle.kernel_model.specs.files.FileTree.{Nodes}
use Rattle.kernel_model.specs.opening.Opening.{bare, rooted, tasks_begun}
use Rattle.image_walk.specs.declared.granted.Numbering.{Numbering}
use Rattle.image_walk.specs.Granted.{LentChild}
use Rattle.image_walk.specs.Standing.{StandsLent}
use Rattle.image_walk.specs.Walking.{IsGrant, IsRoot, IsSilent}
use Rattle.image_walk.proofs.Places.{root_is}
use Rattle.call_table.specs.declared.processes.Processes.{Processes}
use Rattle.call_table.specs.Processes.{kernel_of_processes}
use Rattle.run_opening.specs.declared.opening.OpenErr.{OpenErr}
use Rattle.run_opening.specs.declared.opening.OpenErr.TheVariants.{Image, Memory}
use Rattle.run_opening.specs.Begun.{GoesOn, HasBegun, Stops}
use Rattle.run_opening.specs.Openings.{beside_of, numbering_of}
use Rattle.run_opening.specs.Told.{TreesTold, kernel_told, trees_told}
use Rattle.run_opening.specs.Trees.{AreOthers, Others, trees_with}
use Rattle.run_opening.proofs.Roots.{are_nodes}
use Rattle.run_opening.proofs.Telling.{told_nodes}

-- before the first task the state tells the kernel that the definitions begin with
pub begun_none : (m : Mounts) (others : Others) (t : Shape) (p : Processes) (root : Option Shape)
    (children : List LentChild) (tasks : List OpenedTask) → AreOthers m.mounts others
    → StandsLent (numbering_of m.mounts) t [] [] root children
    → ((nodes : Nodes) → kernel_of_processes p (beside_of m nodes) 0
    ≡ record (bare m (trees_with others t)) { nodes = nodes })
    → IsSomeAnd (kernel_told m (trees_told others root children) p 0)
    (HasBegun m 0 0 tasks tasks (bare m (trees_with others t)))
begun_none m others t p root children tasks is s same =
    let first : length m.mounts + 1 ≡ length others.before + length others.behind + 2 = omega (arith, is.long) in
    let nodes : Nodes = rooted 1 (trees_with others t) in
    let tells_bare : kernel_told m (trees_told others root children) p 0 ≡ Some (bare m (trees_with others t)) =
    ap (option_map (λ ns. kernel_of_processes p (beside_of m ns) 0))
    (told_nodes m.mounts others is t [] nodes root children s
    (are_nodes (numbering_of m.mounts) others t is.place first) (λ ino differs low. refl))
    ∙ ap Some (same nodes) in
    subst (λ (x : Option Kernel). IsSomeAnd x (HasBegun m 0 0 tasks tasks (bare m (trees_with others t))))
    (sym tells_bare)
    (record { opened = []; added = sym (append-nil tasks); begun = λ rest. refl })

-- one task more, behind those that began
pub goes_on : (m : Mounts) (i j : ℕ) (first tasks tasks' : List OpenedTask) (k : Kernel) (here there : Option Kernel)
    → IsSomeAnd here (HasBegun m 0 i first tasks k) → GoesOn m i j tasks tasks' here there
    → IsSomeAnd there (HasBegun m 0 j first tasks' k)
goes_on m i j first tasks tasks' k None there h g = absurd h
goes_on m i j first tasks tasks' k (Some a) None h g = absurd g
goes_on m i j first tasks tasks' k (Some a) (Some b) h g = record {
  opened = h.opened ++ g.opened;
  added = g.added ∙ ap (λ os. os ++ g.opened) h.added ∙ append_assoc first h.opened g.opened;
  begun = λ rest.
      ap (λ os. tasks_begun 1 m.tasks os k) (append_assoc h.opened g.opened rest) ∙ h.begun (g.opened ++ rest)
      ∙ g.begun rest;
}

-- one that is refused, behind those that began
stops_behind : (m : Mounts) (i : ℕ) (first tasks tasks' : List OpenedTask) (why : OpenErr) (f : TreesTold) (k : Kernel)
    (before : Option Kernel) → IsSomeAnd before (HasBegun m 0 i first tasks k)
    → IfSome before (Stops m i tasks tasks' why f) → Stops m 0 first tasks' why f k
stops_behind m i first tasks tasks' why f k None h r = absurd h
stops_behind m i first tasks tasks' Memory f k (Some b) h r = tt
stops_behind m i first tasks tasks' (Image task errno) f k (Some b) h r = record {
  opened = h.opened ++ r.opened;
  added = r.added ∙ ap (λ os. os ++ r.opened) h.added ∙ append_assoc first h.opened r.opened;
  left = r.left;
  refuses = h.begun r.opened ∙ r.refuses;
  settles = r.settles;
  others_keep = r.others_keep;
}

-- the error of the task that was refused is that of the whole opening
pub stops_then : (m : Mounts) (i : ℕ) (first tasks tasks' : List OpenedTask) (p : Processes)
    (told root root' : Option Shape) (children children' : List LentChild) (result : Result Processes OpenErr)
    (why : OpenErr) → IsErrAnd result (λ e. e ≡ why)
    → ((others : Others) (t : Shape) → AreOthers m.mounts others → told ≡ Some t
    → IsSomeAnd (kernel_told m (trees_told others root children) p 0)
    (HasBegun m 0 i first tasks (bare m (trees_with others t))))
    → ((others : Others) → AreOthers m.mounts others → IfSome (kernel_told m (trees_told others root children) p 0)
    (Stops m i tasks tasks' why (trees_told others root' children')))
    → IfErr result (λ e. (others : Others) (t : Shape) → AreOthers m.mounts others → told ≡ Some t
    → Stops m 0 first tasks' e (trees_told others root' children') (bare m (trees_with others t)))
stops_then m i first tasks tasks' p told root root' children children' (Ok q) why is begun stopped = tt
stops_then m i first tasks tasks' p told root root' children children' (Err e) why is begun stopped =
    λ others t are tells.
    subst (λ (x : OpenErr). Stops m 0 first tasks' x (trees_told others root' children') (bare m (trees_with others t)))
    (sym is)
    (stops_behind m i first tasks tasks' why (trees_told others root' children') (bare m (trees_with others t))
    (kernel_told m (trees_told others root children) p 0) (begun others t are tells) (stopped others are))

pub still_grant : (num : Numbering) (told root : Option Shape) (children : List LentChild) → IsRoot told
    → (told ≡ None → IsSilent root children)
    → ((t : Shape) → told ≡ Some t → (names : List (List ℕ)) × StandsLent num t names [] root children)
    → IsGrant num root children
still_grant num None root children is silent tells =
    let s = silent refl in subst (λ (o : Option Shape). IsGrant num o children) (sym s.0) s.1
still_grant num (Some t) root children is silent tells =
    let s = tells t refl in
    let root_tells = root_is num t s.0 root children s.1 in
    subst (λ (o : Option Shape). IsGrant num o children) (sym root_tells)
    (t, s.0, is.0, subst (λ (o : Option Shape). StandsLent num t s.0 [] o children) root_tells s.1)
