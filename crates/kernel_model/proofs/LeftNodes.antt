-- Changes of which none is of a node, and rows that come to no others.
use Rattle.std.proofs.Common.{ℤ, ℕ, Bool, true, false, cond, List, [], ◌∷◌, ◌++◌, Option, Some, None}
use Rattle.std.proofs.Common.{sym, inl, inr, subst}
use Rattle.sn_errno.specs.declared.errno.Errno.{Errno}
use Rattle.mm_space.specs.Handed.{InHand}
use Rattle.mm_space.specs.Spaces.{Reach}
use Rattle.sn_base.specs.declared.made.Made.{Made}
use Rattle.kernel_model.specs.declared.kernel.Part.TheVariants.{OfArea, OfNode}
use Rattle.kernel_model.specs.calls.Answers.{Answer, refuses, replies}
use Rattle.kernel_model.specs.calls.Lookups.{or_refuse}
use Rattle.kernel_model.specs.entries.Areas.{area_changes, reach_changes}
use Rattle.kernel_model.specs.entries.Parts.{Parts, Prog, done, outcome_in, ◌>>=◌, IsIn, Change, parts_changed}
use Rattle.kernel_model.proofs.Trees.{outcome-bind}

-- ---- changes

abbrev pub LeavesNodes : List Change → Type 0
LeavesNodes changes = (ino : ℕ) → ¬ IsIn (OfNode ino) (parts_changed changes)

pub leaves-append : (xs ys : List Change) → LeavesNodes xs → LeavesNodes ys → LeavesNodes (xs ++ ys)
leaves-append [] ys none more ino is = more ino is
leaves-append (x ∷ xs) ys none more ino (inl e) = none ino (inl e)
leaves-append (x ∷ xs) ys none more ino (inr is) = leaves-append xs ys (λ n i. none n (inr i)) more ino is

-- areas that were in hand
pub areas_leave : (hand : List InHand) → LeavesNodes (area_changes hand)
areas_leave [] = λ ino is. is
areas_leave (h ∷ hand) = leaves-append (area_changes hand) _ (areas_leave hand) last
  where
    last : LeavesNodes ((OfArea h.name, Some h.state) ∷ [])
    last ino (inl e) = absurd (cc e)
    last ino (inr is) = is

-- a memory and areas that were reached
pub reach_leaves : (memory : Made) (r : Reach) → LeavesNodes (reach_changes memory r)
reach_leaves memory r ino (inl e) = absurd (cc e)
reach_leaves memory r ino (inr is) = areas_leave r.hand ino is

-- ---- rows

module _ (s : Parts) where
  abbrev pub Leaves : Prog Answer → Type 0
  Leaves row = LeavesNodes (outcome_in s row).changes

  pub either_leaves : (b : Bool) (x y : Prog Answer) → Leaves x → Leaves y → Leaves (cond b x y)
  either_leaves true x y here there = here
  either_leaves false x y here there = there

  pub refused_leaves : (errno : Errno) → Leaves (done (refuses errno))
  refused_leaves errno ino is = is

  pub told_leaves : (value : ℤ) → Leaves (done (replies value []))
  told_leaves value ino is = is

  pub behind_leaves : {A : Type 0} (first : Prog A) (next : A → Prog Answer) → Leaves (next (outcome_in s first))
      → Leaves (first >>= next)
  behind_leaves first next h = subst (λ (a : Answer). LeavesNodes a.changes) (sym (outcome-bind s first next)) h

  -- what is there goes on
  pub found_leaves : {A : Type 0} (errno : Errno) (row : A → Prog Answer) → ((x : A) → Leaves (row x))
      → (o : Option A) → Leaves (or_refuse errno row o)
  found_leaves errno row each None = refused_leaves errno
  found_leaves errno row each (Some x) = each x
