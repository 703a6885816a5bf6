-- One more number is that of a task.
use Rattle.std.proofs.Common.{◌≡◌, ℕ, ◌<◌, ◌^◌, arith, sym, subst}
use Rattle.std.specs.Prelude.{Result, Ok, Err, OnOk, OnErr}
use Rattle.std.specs.Ordering.{nat_cmp}
use Rattle.std.specs.FinMap as map
use Rattle.parked_tasks.specs.Users.{AreNumbers}
use Rattle.parked_tasks.proofs.UserLists.{numbers_more}
use Rattle.parked_tasks.proofs.parking.Parking.wake.Goals as goal

either : {A E V : Type 0} (r : Result A E) (before after : map.FinMap nat_cmp V) (k : ℕ) (v : V) → k < 2 ^ 32
    → AreNumbers before → OnOk r (after ≡ map.insert before k v) → OnErr r (after ≡ before) → AreNumbers after
either (Ok _) before after k v small numbers ok err = numbers_more before after k v ok small numbers
either {V = V} (Err _) before after k v small numbers ok err =
    let P : map.FinMap nat_cmp V → Type 0 = λ m. AreNumbers m in subst P (sym err) numbers

pub invariant_of-self : goal.invariant_of-self
invariant_of-self c = record {
  numbers =
      either c.insert.result c.args.self.now.awake c.insert.new.self c.from.result tt (omega arith)
      c.args.self.now.numbers c.insert.ensures.ok c.insert.ensures.err;
}
