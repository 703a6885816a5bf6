use Rattle.std.proofs.Common.{refl, arith}
use Rattle.fd_table.proofs.ListLaws.{full_from_len, len_from_full, some_is}
use Rattle.fd_table.proofs.slots.first_free.Goals as goal

pub returns-then-is_none-clause-all : goal.returns-then-is_none-clause-all
returns-then-is_none-clause-all c zero = (
  λ h. absurd (cc h),
  λ h. absurd (cc (
    some_is _ (full_from_len c.args.slots.now c.requires h c.loop-fd.fd (omega arith) (omega arith)),
    c.descriptor_at.ensures.value,
    c.if-is_none.ensures,
  )),
)

pub returns-clause-all : goal.returns-clause-all
returns-clause-all c zero = (
  λ _. len_from_full c.args.slots.now c.requires (λ n from below. c.loop-fd.invariant n (omega arith) (omega arith)),
  λ _. refl,
)
