-- The others' pages are as ready behind the first buffer's bytes.
use Rattle.std.proofs.Common.{◌+◌, length, arith, subst, sym}
use Rattle.kernel_model.specs.calls.Vectors.{cut}
use Rattle.guest_access.specs.Scattering.{AreReady}
use Rattle.guest_access.proofs.Scattered.{as_ready, each_ready, others}
use Rattle.guest_access.proofs.scattering.+put_each.Goals as goal

pub put_each-requires : goal.put_each-requires
put_each-requires t c =
    let a = c.args in
    let all = length a.first.now + length a.second.now in (
      omega (arith, c.decreases, c.in-len1-up.len_at_least),
      (
        omega (arith, c.behind.ensures.len, c.requires.fits),
        as_ready a.space.now c.put_two.new.self a.handed.now c.put_two.new.handed c.put_two.ensures.ready _
            (subst (λ n. AreReady a.space.now a.handed.now (cut n (others a.buffers.now))) (sym c.behind.ensures.len)
            (each_ready a.space.now a.handed.now a.buffers.now _ c.in-len1-up.len_at_least all c.requires.ready).1),
      ),
    )
