-- What a call leaves in which a host call failed; and what is left where all is done or nothing.
use Rattle.std.proofs.Common.{◌≡◌, ℕ, Bool, true, false, List, [], ◌∷◌, Option, Some, None, refl, ap, sym, ◌∙◌}
use Rattle.std.proofs.Common.{option_map, is_some, unwrap_or, ◌↔◌}
use Rattle.std.specs.Prelude.{IsTrue, not}
use Rattle.std.specs.Ordering.{nat_cmp}
use Rattle.std.specs.FinMap as map
use Rattle.std.proofs.lemmas.Bool.{and_parts}
use Rattle.sn_base.proofs.Maps.{insert_same, insert-insert, remove-insert, remove_absent}
use Rattle.kernel_model.specs.declared.kernel.Kernel.{Kernel}
use Rattle.kernel_model.specs.declared.kernel.Part.TheVariants.{OfFaults}
use Rattle.kernel_model.specs.declared.opening.Fresh.{Fresh}
use Rattle.kernel_model.specs.declared.opening.Rise.{Rise}
use Rattle.kernel_model.specs.declared.opening.Given.{Given}
use Rattle.kernel_model.specs.entries.Given.{Nodes_so_far, number_all, risen, node_changes, met, faulted, is_in_order}
use Rattle.kernel_model.specs.entries.Given.{has_any, may_meet}
use Rattle.kernel_model.specs.entries.Parts.{parts, outcome_in, Change, set_at}
use Rattle.kernel_model.specs.laws.InPlace.{with_nodes, numbered, changed_by}
use Rattle.kernel_model.proofs.Failing.{faulted_is}
use Rattle.node_numbers.specs.Unused.{AreUnused}
use Rattle.node_numbers.proofs.NumberRuns.{taken_by, refused_by}
use Rattle.node_numbers.proofs.NodesSoFar.{with_nodes_first, changed-append, all_numbered_is}

-- fresh numbers in order that may be drawn are unused
pub ordered_unused : (given : Given) (k : Kernel) → is_in_order given ≡ true → may_meet k.nodes given ≡ true
    → AreUnused given.fresh k
ordered_unused given k order may = record {
  ascend = (and_parts _ _ (and_parts _ _ (and_parts _ _ order).0).0).0;
  unused = (and_parts _ _ may).0;
}

-- numbers leave the counts as they are
failed_stays : (nodes : Nodes_so_far) (k : Kernel) → (with_nodes nodes k).failed ≡ k.failed
failed_stays [] k = refl
failed_stays (n ∷ ns) k = ap (λ (m : Kernel). m.failed) (with_nodes_first n ns k) ∙ failed_stays ns k

-- what is left, by the nodes of the numbers: nothing where one does not fit, and else the numbers and the rises
left_by : (given : Given) (k : Kernel) (nodes : Option Nodes_so_far)
    → changed_by (met given nodes k.failed) k
    ≡ option_map (λ (m : Kernel). record m { failed = risen given.rises m.failed })
    (option_map (λ ns. with_nodes ns k) nodes)
left_by given k None = refl
left_by given k (Some ns) =
    ap (λ n. Some n) (changed-append (node_changes ns) ((OfFaults, risen given.rises k.failed) ∷ []) k)
    ∙ ap (λ f. Some (record (with_nodes ns k) { failed = risen given.rises f })) (sym (failed_stays ns k))

-- changes are some where they leave something
pub is_some-changed_by : (changes : Option (List Change)) (k : Kernel)
    → is_some (changed_by changes k) ≡ is_some changes
is_some-changed_by None k = refl
is_some-changed_by (Some cs) k = refl

module _ (given : Given) (k : Kernel) (are : AreUnused given.fresh k) where
  come_to : changed_by (outcome_in (parts k) (faulted given)) k
      ≡ option_map (λ (m : Kernel). record m { failed = risen given.rises m.failed }) (numbered given.fresh k)
  come_to =
      ap (λ changes. changed_by changes k) (faulted_is (parts k) given)
      ∙ left_by given k (outcome_in (parts k) (number_all given.fresh []))
      ∙ ap (option_map (λ (m : Kernel). record m { failed = risen given.rises m.failed }))
      (all_numbered_is given.fresh k are)

  -- where a number does not fit, nothing is left
  pub faulted_unnumbered : numbered given.fresh k ≡ None → outcome_in (parts k) (faulted given) ≡ None
  faulted_unnumbered none =
      nothing (outcome_in (parts k) (faulted given))
      (come_to ∙ ap (option_map (λ (m : Kernel). record m { failed = risen given.rises m.failed })) none)
    where
      nothing : (o : Option (List Change)) → changed_by o k ≡ None → o ≡ None
      nothing None e = refl
      nothing (Some cs) e = absurd (cc e)

  -- else the numbers are left and the rises
  pub faulted_risen : (m : Kernel) → numbered given.fresh k ≡ Some m
      → changed_by (outcome_in (parts k) (faulted given)) k ≡ Some (record m { failed = risen given.rises m.failed })
  faulted_risen m some =
      come_to ∙ ap (option_map (λ (n : Kernel). record n { failed = risen given.rises n.failed })) some

-- a count that is set back is as it was
pub count_restored : (failed : map.FinMap nat_cmp ℕ) (ino count : ℕ) (before : Option ℕ) → before ≡ map.get failed ino
    → set_at ino before (map.insert failed ino count) ≡ failed
count_restored failed ino count None is = remove-insert failed ino count ∙ remove_absent failed ino (sym is)
count_restored failed ino count (Some n) is = insert-insert failed ino count n ∙ insert_same failed ino n (sym is)

-- ---- in the words of the code

module _ (given : Given) (k : Kernel) (are : AreUnused given.fresh k) (fresh : List Fresh) (same : fresh ≡ given.fresh)
    (b : Bool) (m : Kernel) (fits : b ≡ is_some (numbered fresh k)) (ok : m ≡ unwrap_or (numbered fresh k) k) where
  -- a number that does not fit
  pub first_refused : b ≡ false → (outcome_in (parts k) (faulted given) ≡ None) × (m ≡ k)
  first_refused is =
      let refused : (numbered fresh k ≡ None) × (m ≡ k) = refused_by (numbered fresh k) b k m fits ok is in
      (faulted_unnumbered given k are (sym (ap (λ fs. numbered fs k) same) ∙ refused.0), refused.1)

  pub all_numbered : b ≡ true → numbered fresh k ≡ Some m
  all_numbered is = taken_by (numbered fresh k) b k m fits ok is

  -- or all that was met
  pub then_risen : b ≡ true → (rises : List Rise) (failed : map.FinMap nat_cmp ℕ) → rises ≡ given.rises
      → failed ≡ risen rises m.failed
      → changed_by (outcome_in (parts k) (faulted given)) k ≡ Some (record m { failed = failed })
  then_risen is rises failed r e =
      faulted_risen given k are m (sym (ap (λ fs. numbered fs k) same) ∙ all_numbered is)
      ∙ ap (λ f. Some (record m { failed = f })) (sym (e ∙ ap (λ rs. risen rs m.failed) r))

-- whether a list has an item, by whether it is empty
pub has_any_not : {A : Type 0} (xs : List A) (b : Bool) → IsTrue b ↔ (xs ≡ []) → has_any xs ≡ not b
has_any_not [] b e = ap not (sym (e.1 refl))
has_any_not (x ∷ xs) true e = absurd (cc (e.0 refl))
has_any_not (x ∷ xs) false e = refl

-- what is left where it did all, and where it did nothing
pub done_all : (changes : Option (List Change)) (b : Bool) (k left : Kernel) → b ≡ is_some changes
    → left ≡ unwrap_or (changed_by changes k) k → b ≡ true → changed_by changes k ≡ Some left
done_all None b k left fits ok is = absurd (cc (fits, is))
done_all (Some cs) b k left fits ok is = ap (λ n. Some n) (sym ok)

pub done_nothing : (changes : Option (List Change)) (b : Bool) (k left : Kernel) → b ≡ is_some changes
    → left ≡ unwrap_or (changed_by changes k) k → b ≡ false → (changes ≡ None) × (left ≡ k)
done_nothing None b k left fits ok is = (refl, ok)
done_nothing (Some cs) b k left fits ok is = absurd (cc (fits, is))
