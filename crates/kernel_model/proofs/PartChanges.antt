-- What changes leave: each part that was put holds what was put, and each other part what it held.
use Rattle.std.proofs.Common.{◌≡◌, ◌≢◌, ℕ, List, [], ◌∷◌, Option, Some, None}
use Rattle.std.proofs.Common.{cond, refl, ap, sym, ◌∙◌, ◌⊎◌, inl, inr}
use Rattle.std.specs.Ordering.{nat_cmp, eq_by_cmp}
use Rattle.std.specs.Cmp.{nat_cmp_total}
use Rattle.std.specs.FinMap as map
use Rattle.sn_base.proofs.Maps.{get-insert_same, get-insert_other, get-remove_same, get-remove_other}
use Rattle.rv_table.specs.declared.error.Area.{Area}
use Rattle.sn_base.specs.declared.made.Made.{Made}
use Rattle.kernel_model.specs.declared.kernel.Kernel.{Kernel}
use Rattle.kernel_model.specs.declared.kernel.Part.{Part}
use Rattle.kernel_model.specs.declared.kernel.Part.TheVariants.{OfTasks, OfTask, OfSpace, OfArea, OfTable}
use Rattle.kernel_model.specs.declared.kernel.Part.TheVariants.{OfDescription}
use Rattle.kernel_model.specs.declared.kernel.Part.TheVariants.{OfPipe, OfNode, OfSleepers, OfConsole, OfFaults}
use Rattle.kernel_model.specs.entries.Parts.{Holds, parts, IsIn, Change, set_at, area_made, put, changed, parts_changed}
use Rattle.kernel_model.specs.entries.Steps.{stepped}
use Rattle.kernel_model.proofs.NamedMaps.{get-set_same, get-set_other, get-set_alike}

module _ {V : Type 0} where
  set_same : (key : ℕ) (content : Option V) (m : map.FinMap nat_cmp V) → map.get (set_at key content m) key ≡ content
  set_same key (Some value) m = get-insert_same m key value
  set_same key None m = get-remove_same m key

  set_other : (key q : ℕ) (content : Option V) (m : map.FinMap nat_cmp V) → key ≢ q
      → map.get (set_at key content m) q ≡ map.get m q
  set_other key q (Some value) m apart = get-insert_other m key q value apart
  set_other key q None m apart = get-remove_other m key q apart

  set_alike : (key q : ℕ) (content : Option V) (m n : map.FinMap nat_cmp V) → map.get m q ≡ map.get n q
      → map.get (set_at key content m) q ≡ map.get (set_at key content n) q
  set_alike key q (Some value) m n e =
      map.get-insert nat_cmp_total m key value q ∙ ap (cond (eq_by_cmp nat_cmp q key) (Some value)) e
      ∙ sym (map.get-insert nat_cmp_total n key value q)
  set_alike key q None m n e =
      map.get-remove nat_cmp_total m key q ∙ ap (cond (eq_by_cmp nat_cmp q key) None) e
      ∙ sym (map.get-remove nat_cmp_total n key q)

-- areas of one name as made things are one
same_area : (n m : Area) → area_made n ≡ area_made m → n ≡ m
same_area n m e =
    ap (λ p. record { place = p; index = n.index }) (ap (λ (x : Made). x.place) e)
    ∙ ap (λ i. record { place = m.place; index = i }) (ap (λ (x : Made). x.index) e)

-- a part that was put holds what was put
pub put_same : (p : Part) (content : Holds p) (k : Kernel) → parts (put p content k) p ≡ content
put_same OfTasks content k = refl
put_same (OfTask n) content k = set_same n content k.registers
put_same (OfSpace n) content k = get-set_same n content k.spaces
put_same (OfArea n) content k = get-set_same (area_made n) content k.areas
put_same (OfTable n) content k = get-set_same n content k.files.tables
put_same (OfDescription n) content k = get-set_same n content k.files.descriptions
put_same (OfPipe n) content k = get-set_same n content k.files.pipes
put_same (OfNode n) content k = set_same n content k.nodes
put_same OfSleepers content k = refl
put_same OfConsole content k = refl
put_same OfFaults content k = refl

-- another part holds what it held
put_other : (q p : Part) (content : Holds q) (k : Kernel) → ¬ (p ≡ q) → parts (put q content k) p ≡ parts k p
put_other OfTasks OfTasks content k apart = absurd (apart refl)
put_other OfTasks (OfTask m) content k apart = refl
put_other OfTasks (OfSpace m) content k apart = refl
put_other OfTasks (OfArea m) content k apart = refl
put_other OfTasks (OfTable m) content k apart = refl
put_other OfTasks (OfDescription m) content k apart = refl
put_other OfTasks (OfPipe m) content k apart = refl
put_other OfTasks (OfNode m) content k apart = refl
put_other OfTasks OfSleepers content k apart = refl
put_other OfTasks OfConsole content k apart = refl
put_other OfTasks OfFaults content k apart = refl
put_other (OfTask n) OfTasks content k apart = refl
put_other (OfTask n) (OfTask m) content k apart =
    set_other n m content k.registers (λ e. apart (ap (λ i. OfTask i) (sym e)))
put_other (OfTask n) (OfSpace m) content k apart = refl
put_other (OfTask n) (OfArea m) content k apart = refl
put_other (OfTask n) (OfTable m) content k apart = refl
put_other (OfTask n) (OfDescription m) content k apart = refl
put_other (OfTask n) (OfPipe m) content k apart = refl
put_other (OfTask n) (OfNode m) content k apart = refl
put_other (OfTask n) OfSleepers content k apart = refl
put_other (OfTask n) OfConsole content k apart = refl
put_other (OfTask n) OfFaults content k apart = refl
put_other (OfSpace n) OfTasks content k apart = refl
put_other (OfSpace n) (OfTask m) content k apart = refl
put_other (OfSpace n) (OfSpace m) content k apart =
    get-set_other n m content k.spaces (λ e. apart (ap (λ i. OfSpace i) (sym e)))
put_other (OfSpace n) (OfArea m) content k apart = refl
put_other (OfSpace n) (OfTable m) content k apart = refl
put_other (OfSpace n) (OfDescription m) content k apart = refl
put_other (OfSpace n) (OfPipe m) content k apart = refl
put_other (OfSpace n) (OfNode m) content k apart = refl
put_other (OfSpace n) OfSleepers content k apart = refl
put_other (OfSpace n) OfConsole content k apart = refl
put_other (OfSpace n) OfFaults content k apart = refl
put_other (OfArea n) OfTasks content k apart = refl
put_other (OfArea n) (OfTask m) content k apart = refl
put_other (OfArea n) (OfSpace m) content k apart = refl
put_other (OfArea n) (OfArea m) content k apart =
    get-set_other (area_made n) (area_made m) content k.areas (λ e. apart (ap (λ i. OfArea i) (sym (same_area n m e))))
put_other (OfArea n) (OfTable m) content k apart = refl
put_other (OfArea n) (OfDescription m) content k apart = refl
put_other (OfArea n) (OfPipe m) content k apart = refl
put_other (OfArea n) (OfNode m) content k apart = refl
put_other (OfArea n) OfSleepers content k apart = refl
put_other (OfArea n) OfConsole content k apart = refl
put_other (OfArea n) OfFaults content k apart = refl
put_other (OfTable n) OfTasks content k apart = refl
put_other (OfTable n) (OfTask m) content k apart = refl
put_other (OfTable n) (OfSpace m) content k apart = refl
put_other (OfTable n) (OfArea m) content k apart = refl
put_other (OfTable n) (OfTable m) content k apart =
    get-set_other n m content k.files.tables (λ e. apart (ap (λ i. OfTable i) (sym e)))
put_other (OfTable n) (OfDescription m) content k apart = refl
put_other (OfTable n) (OfPipe m) content k apart = refl
put_other (OfTable n) (OfNode m) content k apart = refl
put_other (OfTable n) OfSleepers content k apart = refl
put_other (OfTable n) OfConsole content k apart = refl
put_other (OfTable n) OfFaults content k apart = refl
put_other (OfDescription n) OfTasks content k apart = refl
put_other (OfDescription n) (OfTask m) content k apart = refl
put_other (OfDescription n) (OfSpace m) content k apart = refl
put_other (OfDescription n) (OfArea m) content k apart = refl
put_other (OfDescription n) (OfTable m) content k apart = refl
put_other (OfDescription n) (OfDescription m) content k apart =
    get-set_other n m content k.files.descriptions (λ e. apart (ap (λ i. OfDescription i) (sym e)))
put_other (OfDescription n) (OfPipe m) content k apart = refl
put_other (OfDescription n) (OfNode m) content k apart = refl
put_other (OfDescription n) OfSleepers content k apart = refl
put_other (OfDescription n) OfConsole content k apart = refl
put_other (OfDescription n) OfFaults content k apart = refl
put_other (OfPipe n) OfTasks content k apart = refl
put_other (OfPipe n) (OfTask m) content k apart = refl
put_other (OfPipe n) (OfSpace m) content k apart = refl
put_other (OfPipe n) (OfArea m) content k apart = refl
put_other (OfPipe n) (OfTable m) content k apart = refl
put_other (OfPipe n) (OfDescription m) content k apart = refl
put_other (OfPipe n) (OfPipe m) content k apart =
    get-set_other n m content k.files.pipes (λ e. apart (ap (λ i. OfPipe i) (sym e)))
put_other (OfPipe n) (OfNode m) content k apart = refl
put_other (OfPipe n) OfSleepers content k apart = refl
put_other (OfPipe n) OfConsole content k apart = refl
put_other (OfPipe n) OfFaults content k apart = refl
put_other (OfNode n) OfTasks content k apart = refl
put_other (OfNode n) (OfTask m) content k apart = refl
put_other (OfNode n) (OfSpace m) content k apart = refl
put_other (OfNode n) (OfArea m) content k apart = refl
put_other (OfNode n) (OfTable m) content k apart = refl
put_other (OfNode n) (OfDescription m) content k apart = refl
put_other (OfNode n) (OfPipe m) content k apart = refl
put_other (OfNode n) (OfNode m) content k apart =
    set_other n m content k.nodes (λ e. apart (ap (λ i. OfNode i) (sym e)))
put_other (OfNode n) OfSleepers content k apart = refl
put_other (OfNode n) OfConsole content k apart = refl
put_other (OfNode n) OfFaults content k apart = refl
put_other OfSleepers OfTasks content k apart = refl
put_other OfSleepers (OfTask m) content k apart = refl
put_other OfSleepers (OfSpace m) content k apart = refl
put_other OfSleepers (OfArea m) content k apart = refl
put_other OfSleepers (OfTable m) content k apart = refl
put_other OfSleepers (OfDescription m) content k apart = refl
put_other OfSleepers (OfPipe m) content k apart = refl
put_other OfSleepers (OfNode m) content k apart = refl
put_other OfSleepers OfSleepers content k apart = absurd (apart refl)
put_other OfSleepers OfConsole content k apart = refl
put_other OfSleepers OfFaults content k apart = refl
put_other OfConsole OfTasks content k apart = refl
put_other OfConsole (OfTask m) content k apart = refl
put_other OfConsole (OfSpace m) content k apart = refl
put_other OfConsole (OfArea m) content k apart = refl
put_other OfConsole (OfTable m) content k apart = refl
put_other OfConsole (OfDescription m) content k apart = refl
put_other OfConsole (OfPipe m) content k apart = refl
put_other OfConsole (OfNode m) content k apart = refl
put_other OfConsole OfSleepers content k apart = refl
put_other OfConsole OfConsole content k apart = absurd (apart refl)
put_other OfConsole OfFaults content k apart = refl
put_other OfFaults OfTasks content k apart = refl
put_other OfFaults (OfTask m) content k apart = refl
put_other OfFaults (OfSpace m) content k apart = refl
put_other OfFaults (OfArea m) content k apart = refl
put_other OfFaults (OfTable m) content k apart = refl
put_other OfFaults (OfDescription m) content k apart = refl
put_other OfFaults (OfPipe m) content k apart = refl
put_other OfFaults (OfNode m) content k apart = refl
put_other OfFaults OfSleepers content k apart = refl
put_other OfFaults OfConsole content k apart = refl
put_other OfFaults OfFaults content k apart = absurd (apart refl)

-- kernels with the same in a part have the same there after one change
put_alike : (q p : Part) (content : Holds q) (a b : Kernel) → parts a p ≡ parts b p
    → parts (put q content a) p ≡ parts (put q content b) p
put_alike OfTasks OfTasks content a b e = refl
put_alike OfTasks (OfTask m) content a b e = e
put_alike OfTasks (OfSpace m) content a b e = e
put_alike OfTasks (OfArea m) content a b e = e
put_alike OfTasks (OfTable m) content a b e = e
put_alike OfTasks (OfDescription m) content a b e = e
put_alike OfTasks (OfPipe m) content a b e = e
put_alike OfTasks (OfNode m) content a b e = e
put_alike OfTasks OfSleepers content a b e = e
put_alike OfTasks OfConsole content a b e = e
put_alike OfTasks OfFaults content a b e = e
put_alike (OfTask n) OfTasks content a b e = e
put_alike (OfTask n) (OfTask m) content a b e = set_alike n m content a.registers b.registers e
put_alike (OfTask n) (OfSpace m) content a b e = e
put_alike (OfTask n) (OfArea m) content a b e = e
put_alike (OfTask n) (OfTable m) content a b e = e
put_alike (OfTask n) (OfDescription m) content a b e = e
put_alike (OfTask n) (OfPipe m) content a b e = e
put_alike (OfTask n) (OfNode m) content a b e = e
put_alike (OfTask n) OfSleepers content a b e = e
put_alike (OfTask n) OfConsole content a b e = e
put_alike (OfTask n) OfFaults content a b e = e
put_alike (OfSpace n) OfTasks content a b e = e
put_alike (OfSpace n) (OfTask m) content a b e = e
put_alike (OfSpace n) (OfSpace m) content a b e = get-set_alike n m content a.spaces b.spaces e
put_alike (OfSpace n) (OfArea m) content a b e = e
put_alike (OfSpace n) (OfTable m) content a b e = e
put_alike (OfSpace n) (OfDescription m) content a b e = e
put_alike (OfSpace n) (OfPipe m) content a b e = e
put_alike (OfSpace n) (OfNode m) content a b e = e
put_alike (OfSpace n) OfSleepers content a b e = e
put_alike (OfSpace n) OfConsole content a b e = e
put_alike (OfSpace n) OfFaults content a b e = e
put_alike (OfArea n) OfTasks content a b e = e
put_alike (OfArea n) (OfTask m) content a b e = e
put_alike (OfArea n) (OfSpace m) content a b e = e
put_alike (OfArea n) (OfArea m) content a b e = get-set_alike (area_made n) (area_made m) content a.areas b.areas e
put_alike (OfArea n) (OfTable m) content a b e = e
put_alike (OfArea n) (OfDescription m) content a b e = e
put_alike (OfArea n) (OfPipe m) content a b e = e
put_alike (OfArea n) (OfNode m) content a b e = e
put_alike (OfArea n) OfSleepers content a b e = e
put_alike (OfArea n) OfConsole content a b e = e
put_alike (OfArea n) OfFaults content a b e = e
put_alike (OfTable n) OfTasks content a b e = e
put_alike (OfTable n) (OfTask m) content a b e = e
put_alike (OfTable n) (OfSpace m) content a b e = e
put_alike (OfTable n) (OfArea m) content a b e = e
put_alike (OfTable n) (OfTable m) content a b e = get-set_alike n m content a.files.tables b.files.tables e
put_alike (OfTable n) (OfDescription m) content a b e = e
put_alike (OfTable n) (OfPipe m) content a b e = e
put_alike (OfTable n) (OfNode m) content a b e = e
put_alike (OfTable n) OfSleepers content a b e = e
put_alike (OfTable n) OfConsole content a b e = e
put_alike (OfTable n) OfFaults content a b e = e
put_alike (OfDescription n) OfTasks content a b e = e
put_alike (OfDescription n) (OfTask m) content a b e = e
put_alike (OfDescription n) (OfSpace m) content a b e = e
put_alike (OfDescription n) (OfArea m) content a b e = e
put_alike (OfDescription n) (OfTable m) content a b e = e
put_alike (OfDescription n) (OfDescription m) content a b e =
    get-set_alike n m content a.files.descriptions b.files.descriptions e
put_alike (OfDescription n) (OfPipe m) content a b e = e
put_alike (OfDescription n) (OfNode m) content a b e = e
put_alike (OfDescription n) OfSleepers content a b e = e
put_alike (OfDescription n) OfConsole content a b e = e
put_alike (OfDescription n) OfFaults content a b e = e
put_alike (OfPipe n) OfTasks content a b e = e
put_alike (OfPipe n) (OfTask m) content a b e = e
put_alike (OfPipe n) (OfSpace m) content a b e = e
put_alike (OfPipe n) (OfArea m) content a b e = e
put_alike (OfPipe n) (OfTable m) content a b e = e
put_alike (OfPipe n) (OfDescription m) content a b e = e
put_alike (OfPipe n) (OfPipe m) content a b e = get-set_alike n m content a.files.pipes b.files.pipes e
put_alike (OfPipe n) (OfNode m) content a b e = e
put_alike (OfPipe n) OfSleepers content a b e = e
put_alike (OfPipe n) OfConsole content a b e = e
put_alike (OfPipe n) OfFaults content a b e = e
put_alike (OfNode n) OfTasks content a b e = e
put_alike (OfNode n) (OfTask m) content a b e = e
put_alike (OfNode n) (OfSpace m) content a b e = e
put_alike (OfNode n) (OfArea m) content a b e = e
put_alike (OfNode n) (OfTable m) content a b e = e
put_alike (OfNode n) (OfDescription m) content a b e = e
put_alike (OfNode n) (OfPipe m) content a b e = e
put_alike (OfNode n) (OfNode m) content a b e = set_alike n m content a.nodes b.nodes e
put_alike (OfNode n) OfSleepers content a b e = e
put_alike (OfNode n) OfConsole content a b e = e
put_alike (OfNode n) OfFaults content a b e = e
put_alike OfSleepers OfTasks content a b e = e
put_alike OfSleepers (OfTask m) content a b e = e
put_alike OfSleepers (OfSpace m) content a b e = e
put_alike OfSleepers (OfArea m) content a b e = e
put_alike OfSleepers (OfTable m) content a b e = e
put_alike OfSleepers (OfDescription m) content a b e = e
put_alike OfSleepers (OfPipe m) content a b e = e
put_alike OfSleepers (OfNode m) content a b e = e
put_alike OfSleepers OfSleepers content a b e = refl
put_alike OfSleepers OfConsole content a b e = e
put_alike OfSleepers OfFaults content a b e = e
put_alike OfConsole OfTasks content a b e = e
put_alike OfConsole (OfTask m) content a b e = e
put_alike OfConsole (OfSpace m) content a b e = e
put_alike OfConsole (OfArea m) content a b e = e
put_alike OfConsole (OfTable m) content a b e = e
put_alike OfConsole (OfDescription m) content a b e = e
put_alike OfConsole (OfPipe m) content a b e = e
put_alike OfConsole (OfNode m) content a b e = e
put_alike OfConsole OfSleepers content a b e = e
put_alike OfConsole OfConsole content a b e = refl
put_alike OfConsole OfFaults content a b e = e
put_alike OfFaults OfTasks content a b e = e
put_alike OfFaults (OfTask m) content a b e = e
put_alike OfFaults (OfSpace m) content a b e = e
put_alike OfFaults (OfArea m) content a b e = e
put_alike OfFaults (OfTable m) content a b e = e
put_alike OfFaults (OfDescription m) content a b e = e
put_alike OfFaults (OfPipe m) content a b e = e
put_alike OfFaults (OfNode m) content a b e = e
put_alike OfFaults OfSleepers content a b e = e
put_alike OfFaults OfConsole content a b e = e
put_alike OfFaults OfFaults content a b e = refl

-- ---- what changes leave

pub changed_other : (changes : List Change) (k : Kernel) (p : Part) → ¬ IsIn p (parts_changed changes)
    → parts (changed changes k) p ≡ parts k p
changed_other [] k p apart = refl
changed_other (c ∷ changes) k p apart =
    changed_other changes (put c.0 c.1 k) p (λ is. apart (inr is)) ∙ put_other c.0 p c.1 k (λ e. apart (inl e))

pub changed_alike : (changes : List Change) (a b : Kernel) (p : Part)
    → (IsIn p (parts_changed changes)) ⊎ (parts a p ≡ parts b p) → parts (changed changes a) p
    ≡ parts (changed changes b) p
changed_alike [] a b p (inl is) = absurd is
changed_alike [] a b p (inr e) = e
changed_alike (c ∷ changes) a b p (inl (inl e)) =
    changed_alike changes (put c.0 c.1 a) (put c.0 c.1 b) p (inr (here p e))
  where
    here : (q : Part) → q ≡ c.0 → parts (put c.0 c.1 a) q ≡ parts (put c.0 c.1 b) q
    here q is = rw is (put_same c.0 c.1 a ∙ sym (put_same c.0 c.1 b))
changed_alike (c ∷ changes) a b p (inl (inr is)) = changed_alike changes (put c.0 c.1 a) (put c.0 c.1 b) p (inl is)
changed_alike (c ∷ changes) a b p (inr e) =
    changed_alike changes (put c.0 c.1 a) (put c.0 c.1 b) p (inr (put_alike c.0 p c.1 a b e))

-- the count of entries is no part
pub parts_of_stepped : (k : Kernel) (changes : List Change) (p : Part)
    → parts (stepped k changes) p ≡ parts (changed changes k) p
parts_of_stepped k changes OfTasks = refl
parts_of_stepped k changes (OfTask n) = refl
parts_of_stepped k changes (OfSpace n) = refl
parts_of_stepped k changes (OfArea n) = refl
parts_of_stepped k changes (OfTable n) = refl
parts_of_stepped k changes (OfDescription n) = refl
parts_of_stepped k changes (OfPipe n) = refl
parts_of_stepped k changes (OfNode n) = refl
parts_of_stepped k changes OfSleepers = refl
parts_of_stepped k changes OfConsole = refl
parts_of_stepped k changes OfFaults = refl
