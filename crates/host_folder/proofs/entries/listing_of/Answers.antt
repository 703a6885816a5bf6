-- What is listed has names, in the order of the system and in that of their bytes.
use Rattle.std.proofs.Common.{List, All, IfOk, IsPermutation, Result, Ok, Err}
use Rattle.std.proofs.lemmas.List.Sorted.{All-permutation}
use Rattle.host_node.specs.declared.listing.Listed.{Listed}
use Rattle.sn_text.specs.Names.{IsName}
use Rattle.host_folder.proofs.entries.listing_of.Goals as goal

-- what holds of each entry holds of each in another order
all_kept : {E : Type 0} (P : Listed → Type 0) (entries : List Listed) (r : Result (List Listed) E) → All P entries
    → IfOk r (λ listing. IsPermutation entries listing) → IfOk r (All P)
all_kept P entries (Ok listing) all same = All-permutation P entries listing same all
all_kept P entries (Err e) all same = tt

pub returns-clause-names : goal.returns-clause-names
returns-clause-names c =
    all_kept (λ (entry : Listed). IsName entry.name) c.in_ok-entries.entries.items c.in_order.result
    c.in_ok-entries.ensures.names c.in_order.ensures.entries
