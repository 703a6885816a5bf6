use Rattle.std.proofs.Common.{arith, ◌≤◌, ◌-◌, ◌*◌, ◌^◌, ◌≡◌}
use Rattle.machine_cases.proofs.Accesses.{power_small, power_step}
use Rattle.machine_cases.proofs.bytes.+number.Goals as goal

pub overflow_mul-result : goal.overflow_mul-result
overflow_mul-result g t c =
    let small : 256 ^ (c.args.count - 1) ≤ 2 ^ 56 = power_small (c.args.count - 1) (omega arith) in
    omega (arith, small)

pub overflow_add-result : goal.overflow_add-result
overflow_add-result g t c =
    let small : 256 ^ (c.args.count - 1) ≤ 2 ^ 56 = power_small (c.args.count - 1) (omega arith) in
    omega (arith, small)

pub returns-clause-below : goal.returns-clause-below
returns-clause-below g t c =
    let step : 256 ^ c.args.count ≡ 256 * 256 ^ (c.args.count - 1) = power_step c.args.count (omega arith) in
    omega (arith, step)
