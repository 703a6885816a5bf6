-- Records that may be read, or may not.
use Rattle.std.proofs.Common.{◌≡◌, false, None, Some, ap, ◌∙◌, arith, rules}
use Rattle.std.specs.Prelude.{nat_lt}
use Rattle.std.proofs.lemmas.Bool.Decides.{nat_tests}
use Rattle.std.proofs.lemmas.Result.{IfOk-weaker}
use Rattle.stat_layout.specs.IoVecs.{iovecs_in}
use Rattle.kernel_model.specs.calls.Vectors.{if_countable, with_buffers}
use Rattle.kernel_model.specs.entries.Parts.{outcome_in, parts}
use Rattle.guest_access.proofs.KernelAreas.{are_those}
use Rattle.call_fs.proofs.FoundBuffers.{found_by, goes_alike}
use Rattle.call_fs.proofs.vectors.buffers_at.Goals as goal

pub returns-in-None-clause-row : goal.returns-in-None-clause-row
returns-in-None-clause-row c caller k row has =
    let a = c.args in
    let below = c.if-count-gt-IOV_MAX.false in
    let few : nat_lt 1024 a.count ≡ false = grind (arith, nat_tests) in
    found_by caller k a.space.now a.at a.count row None few has.space
    (c.in_ok-read.ensures.bytes (parts k) (are_those k a.areas.now has.areas) ∙ c.in-None.is)

pub returns-in-Some-clause-row : goal.returns-in-Some-clause-row
returns-in-Some-clause-row c =
    let a = c.args in
    let below = c.if-count-gt-IOV_MAX.false in
    let few : nat_lt 1024 a.count ≡ false = grind (arith, nat_tests) in
    let same : c.in-Some.records ≡ c.as_slice.result.now = search rules in
    IfOk-weaker c.buffers_in.result _ _
    (λ v goes caller k row has.
    goes_alike (with_buffers caller a.at a.count row) (if_countable row (iovecs_in c.as_slice.result.now)) k row v
    (found_by caller k a.space.now a.at a.count row (Some c.in-Some.records) few has.space
    (c.in_ok-read.ensures.bytes (parts k) (are_those k a.areas.now has.areas) ∙ c.in-Some.is)
    ∙ ap (λ records. outcome_in (parts k) (if_countable row (iovecs_in records))) same)
    (goes k row)) c.buffers_in.ensures.row
