use Rattle.std.proofs.Common.{sym, ◌∙◌}
use Rattle.std.proofs.lemmas.List.{take_rest}
use Rattle.mount_file.proofs.Hex.{hex_bytes_step}
use Rattle.mount_file.proofs.values.hex_bytes.Goals as goal

pub loop-rest-preserved : goal.loop-rest-preserved
loop-rest-preserved c =
    hex_bytes_step c.args.digits.now c.loop-rest.bytes c.loop-rest.rest.now _ _ c.in-Some.byte c.in-len2-up.len_at_least
    (sym c.hex_byte.ensures ∙ c.in-Some.is) c.in_ok-push.ensures.ok (take_rest c.loop-rest.rest.now 2)
    c.loop-rest.invariant
