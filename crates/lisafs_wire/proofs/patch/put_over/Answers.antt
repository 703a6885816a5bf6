use Rattle.std.proofs.Common.{◌≡◌, ◌∙◌, ◌++◌, ◌/◌, ◌%◌, ◌+◌, ◌∷◌, take, drop, arith}
use Rattle.sn_bytes.specs.Fields.{little_bytes}
use Rattle.lisafs_wire.proofs.FourBytes.{patched}
use Rattle.lisafs_wire.proofs.patch.put_over.Goals as goal

pub returns : goal.returns
unfolding little_bytes
returns c =
    let n = c.args.number in
    let at = c.args.at in
    let old = c.args.out.now in
    let third : n / 65536 % 256 ≡ n / 256 / 256 % 256 = omega arith in
    let fourth : n / 16777216 % 256 ≡ n / 256 / 256 / 256 % 256 = omega arith in
    rw (c.set-4.ensures, c.set-3.ensures, c.set-2.ensures, c.set.ensures, c.to_le_bytes-bytes.ensures)
    (patched at old _ _ _ _ c.requires
    ∙ (λ i. take at old ++ (n % 256 ∷ n / 256 % 256 ∷ third i ∷ fourth i ∷ drop (at + 4) old)))
