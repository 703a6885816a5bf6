use Rattle.std.proofs.Common.{◌≡◌, ◌++◌, length, option_map}
use Rattle.mount_file.specs.Values.{hex_bytes}
use Rattle.mount_file.proofs.values.hex_bytes.Given as goal

abbrev pub invariant-loop-rest : goal.invariant-loop-rest
invariant-loop-rest l = hex_bytes l.digits ≡ option_map (λ bytes. l.bytes ++ bytes) (hex_bytes l.rest)

abbrev pub decreases-loop-rest : goal.decreases-loop-rest
decreases-loop-rest l = length l.rest
