-- Which number is the lowest free one of a descriptor table, where just those below it are open.
use Rattle.std.proofs.Common.{◌≡◌, ◌≢◌, ℕ, ◌+◌, ◌<◌, ◌≤◌, None, ap, sym, subst, ◌∙◌, inl, inr, arith}
use Rattle.std.specs.Prelude.{IsSome, is_some}
use Rattle.std.specs.FinMap as map
use Rattle.std.proofs.lemmas.Bool.{cases_eq}
use Rattle.fd_table.specs.declared.descriptor.Descriptor.{Descriptor}
use Rattle.fd_table.specs.declared.table.TheConstants.{OPEN_MAX}
use Rattle.fd_table.specs.Tables.{Table, IsLowestFree}
use Rattle.sn_base.proofs.Maps.{get_of_empty, get-insert_same, get-insert_other}

-- just the numbers below this one are open
pub record AreOpen (table : Table) (next : ℕ) : Type 0 where
  pub taken : (n : ℕ) → n < next → IsSome (map.get table n)
  pub free : (n : ℕ) → next ≤ n → map.get table n ≡ None

-- it is the lowest free one
pub lowest_is : (table : Table) (next : ℕ) → next < OPEN_MAX → AreOpen table next → IsLowestFree table 0 next
lowest_is table next limited are = record {
  free = are.free next (omega arith);
  from_on = omega arith;
  limited = limited;
  taken = λ n from below. are.taken n below;
}

-- none is open,
pub open_none : (table : Table) → table ≡ map.empty → AreOpen table 0
open_none table e =
    subst (λ (t : Table). AreOpen t 0) (sym e) (record {
      taken = λ n below. absurd (omega arith);
      free = λ n from. get_of_empty n;
    })

-- and then one more
module _ (table : Table) (next : ℕ) (d : Descriptor) (are : AreOpen table next) where
  still : (n : ℕ) → n < next + 1 → IsSome (map.get (map.insert table next d) n)
  still n below =
      elim (cases_eq next n) [
        | inl e ↦
            ap (λ q. is_some (map.get (map.insert table next d) q)) (sym e)
            ∙ ap is_some (get-insert_same table next d)
        | inr apart ↦
            let other : next ≢ n = apart in
            ap is_some (get-insert_other table next n d other) ∙ are.taken n (omega arith)
      ]

  others : (n : ℕ) → next + 1 ≤ n → map.get (map.insert table next d) n ≡ None
  others n from =
      let other : next ≢ n = omega arith in
      get-insert_other table next n d other ∙ are.free n (omega arith)

  pub open_more : (after : Table) → after ≡ map.insert table next d → AreOpen after (next + 1)
  open_more after e =
      subst (λ (t : Table). AreOpen t (next + 1)) (sym e) (record { taken = still; free = others })
