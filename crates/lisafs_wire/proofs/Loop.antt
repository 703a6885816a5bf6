-- Reading groups one after another, as a loop does.
use Rattle.std.proofs.Common.{◌≡◌, ℕ, suc, ◌-◌, ◌+◌, ◌≤◌, ◌<◌, List, [], ◌∷◌, ◌++◌, Ok, Err, refl, sym, ap, ◌∙◌}
use Rattle.std.proofs.Common.{append_assoc, arith}
use Rattle.std.proofs.lemmas.List.{append-nil}
use Rattle.lisafs_wire.specs.declared.fault.WireFault.{WireFault}
use Rattle.lisafs_wire.specs.declared.fault.DecodeError.{DecodeError}
use Rattle.lisafs_wire.specs.declared.fault.DecodeError.TheVariants as errors
use Rattle.lisafs_wire.specs.Fields.{Field, Value}
use Rattle.lisafs_wire.specs.Reading.{Read, ◌>>=◌, Fails, value_at, values_at, groups_at}

-- what was read before, and what is still read
abbrev pub with_front : List (List Value) → Read (List (List Value)) → Read (List (List Value))
with_front front read = read >>= λ x. Ok (front ++ x.0, x.1)

regroup : (front : List (List Value)) (group : List Value) (read : Read (List (List Value)))
    → with_front front (read >>= λ x. Ok (group ∷ x.0, x.1)) ≡ with_front (front ++ group ∷ []) read
regroup front group (Ok x) = ap (λ (gs : List (List Value)). Ok (gs, x.1)) (simp append_assoc)
regroup front group (Err f) = refl

pub goes_on : (fields : List Field) (front : List (List Value)) (count i : ℕ) (bytes : List ℕ) (group : List Value)
    (after : List ℕ) (total : Read (List (List Value))) → i < count → values_at fields bytes ≡ Ok (group, after)
    → with_front front (groups_at fields (count - i) bytes) ≡ total
    → with_front (front ++ group ∷ []) (groups_at fields (count - (i + 1)) after) ≡ total
unfolding groups_at
goes_on fields front count i bytes group after total lt h so_far =
    let k : count - i ≡ suc (count - (i + 1)) = omega arith in
    let one : with_front front (groups_at fields (count - i) bytes)
    ≡ with_front (front ++ group ∷ []) (groups_at fields (count - (i + 1)) after)
    = rw (k, h) (regroup front group (groups_at fields (count - (i + 1)) after)) in
    sym one ∙ so_far

pub ends_by : (fault : WireFault) (fields : List Field) (front : List (List Value)) (count i : ℕ) (bytes : List ℕ)
    (total : Read (List (List Value))) → i < count → values_at fields bytes ≡ Err fault
    → with_front front (groups_at fields (count - i) bytes) ≡ total → total ≡ Err fault
unfolding groups_at
ends_by fault fields front count i bytes total lt h so_far =
    let k : count - i ≡ suc (count - (i + 1)) = omega arith in
    let one : with_front front (groups_at fields (count - i) bytes) ≡ Err fault = rw (k, h) refl in
    sym so_far ∙ one

pub ends : (e : DecodeError) (fields : List Field) (front : List (List Value)) (count i : ℕ) (bytes : List ℕ)
    (total : Read (List (List Value))) → i < count → Fails e (values_at fields bytes)
    → with_front front (groups_at fields (count - i) bytes) ≡ total → Fails e total
ends errors.Memory fields front count i bytes total lt h so_far = tt
ends (errors.Fault fault) fields front count i bytes total lt h so_far =
    ends_by fault fields front count i bytes total lt h so_far

pub is_done : (fields : List Field) (front : List (List Value)) (count i : ℕ) (bytes : List ℕ)
    (total : Read (List (List Value))) → count ≤ i → with_front front (groups_at fields (count - i) bytes) ≡ total
    → total ≡ Ok (front, bytes)
unfolding groups_at
is_done fields front count i bytes total le so_far =
    let k : count - i ≡ 0 = omega arith in
    let one : with_front front (groups_at fields (count - i) bytes) ≡ Ok (front, bytes)
    = rw k (ap (λ (gs : List (List Value)). Ok (gs, bytes)) (append-nil front)) in
    sym so_far ∙ one

-- a group of one field
pub one_value : (field : Field) (bytes : List ℕ) (value : Value) (after : List ℕ)
    → value_at field bytes ≡ Ok (value, after)
    → values_at (field ∷ []) bytes ≡ Ok (value ∷ [], after)
one_value field bytes value after h = rw h refl

one_ends_by : (fault : WireFault) (field : Field) (bytes : List ℕ) → value_at field bytes ≡ Err fault
    → values_at (field ∷ []) bytes ≡ Err fault
one_ends_by fault field bytes h = rw h refl

pub one_ends : (e : DecodeError) (field : Field) (bytes : List ℕ) → Fails e (value_at field bytes)
    → Fails e (values_at (field ∷ []) bytes)
one_ends errors.Memory field bytes h = tt
one_ends (errors.Fault fault) field bytes h = one_ends_by fault field bytes h
