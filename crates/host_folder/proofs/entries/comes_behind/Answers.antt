-- An entry comes behind others where its name is greater than the last.
use Rattle.std.proofs.Common.{◌≡◌, ◌-◌, true, refl, Some, length, slice_get, sym}
use Rattle.std.specs.declared.cmp.Ordering.TheVariants.{Less}
use Rattle.std.specs.Ordering.{is_lt}
use Rattle.host_folder.proofs.OrderLemmas.{ascending_behind, ascending_last, is_less}
use Rattle.host_folder.proofs.entries.comes_behind.Goals as goal

pub returns-in-Some : goal.returns-in-Some
returns-in-Some c =
    let es = c.args.entries.now in
    let here : slice_get es (length es - 1) ≡ Some c.in-Some.last.now = sym c.in-Some.ensures.value in (
      (λ y. ascending_behind es c.in-Some.last.now c.args.entry.now here (is_less _ (cc)) c.requires),
      (λ h. let less = ascending_last es c.in-Some.last.now c.args.entry.now here h in
          let said : is_lt Less ≡ true = refl in
          cc),
    )
