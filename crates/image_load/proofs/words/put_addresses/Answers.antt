-- Each round puts a string's address, and goes on behind that string.
use Rattle.std.proofs.Common.{◌++◌, ◌∙◌, sym, ap, arith, length}
use Rattle.std.specs.List.{flat_map}
use Rattle.sn_bytes.specs.Fields.{little_bytes}
use Rattle.image_load.specs.Stacks.{first_addresses}
use Rattle.image_load.proofs.Stacks.{address_more, length_more}
use Rattle.image_load.proofs.words.put_addresses.Goals as goal

pub loop-string-preserved : goal.loop-string-preserved
loop-string-preserved c =
    let k = c.loop-string.string-index in
    let strings = c.args.strings.now in
    let first = c.args.first in
    let old = c.args.out.now in
    let string = c.string-item.result in
    let so_far = old ++ flat_map (little_bytes 8) (first_addresses first strings k) in
    let behind = c.loop-string.invariant.behind in
    let item = ap length c.string-item.is in
    let bytes = ap length c.as_bytes.ensures in
    let more = length_more strings k string c.loop-string-test.true in
    record {
      words = c.in_ok-put_u64.ensures.ok
          ∙ (ap (λ out. out ++ little_bytes 8 c.loop-string.address) c.loop-string.invariant.words
          ∙ (ap (λ address. so_far ++ little_bytes 8 address) behind ∙ sym (address_more first strings k old)));
      behind = omega (arith, behind, item, bytes, more);
    }
