-- Values in their fields: what is read is spelled so, and what is spelled so is read.
use Rattle.std.proofs.Common.{◌≡◌, ℕ, zero, suc, ◌^◌, ◌<◌, ◌≤◌, Bool, true, false, cond, ltb, eqb, List, [], ◌∷◌}
use Rattle.std.proofs.Common.{◌++◌, length, Option, Some, None, Ok, Err, refl, sym, ap, subst, ◌∙◌, append_assoc}
use Rattle.std.proofs.Common.{arith}
use Rattle.std.proofs.lemmas.Bool.{ltb-false, le-ltb}
use Rattle.std.specs.Prelude.{not, is_some}
use Rattle.sn_bytes.specs.Fields.{little_bytes}
use Rattle.sn_text.specs.Names.{name_fault_of, IsName}
use Rattle.sn_text.specs.declared.fault.NameFault.{NameFault}
use Rattle.sn_text.specs.declared.fault.NameFault.TheVariants.{Empty, Long}
use Rattle.sn_text.specs.declared.fault.TheConstants.{NAME_MAX}
use Rattle.lisafs_wire.specs.declared.fault.WireFault.TheVariants as faults
use Rattle.lisafs_wire.specs.Fields.{Field, Number, Name, Data, Value, Num, Bytes, IsValueOf, spelled}
use Rattle.lisafs_wire.specs.Grammar.{Groups, Without, Counted}
use Rattle.lisafs_wire.specs.Spelling.{AreValuesOf, AreGroupsOf, FitBehind, spelled_all, spelled_groups, spelled_behind}
use Rattle.lisafs_wire.specs.Reading.{Read, ◌>>=◌, bytes_at, number_at, is_name, value_at, values_at, groups_at}
use Rattle.lisafs_wire.specs.Reading.{behind_at}
use Rattle.lisafs_wire.proofs.Numbers.{IsBytes, bind_ok, ok_is, guard_ok, allow_ok, Takes, Takes-then, number_takes}
use Rattle.lisafs_wire.proofs.Numbers.{number_again, bytes_take, bytes_again}

-- what a field's reader took is the value's spelling, and the value may stand there
abbrev pub TakesValue : Field → List ℕ → Value × List ℕ → Type 0
TakesValue field bytes x = Takes bytes (spelled field x.0) x.1 × IsValueOf field x.0

name_is : (fault : Option NameFault) → not (is_some fault) ≡ true → fault ≡ None
name_is None e = refl
name_is (Some fault) e = absurd cc

is_name-name : (bytes : List ℕ) → IsName bytes → is_name bytes ≡ true
is_name-name bytes e = rw e refl

data_fits : (bytes : List ℕ) (n : ℕ) → length bytes ≡ n → n < 256 ^ 4 → length bytes < 256 ^ 4
data_fits bytes n e h = rw e h

not_long : (a b : Bool) (d f : NameFault) (r : Option NameFault) → cond a (Some d) (cond b (Some f) r) ≡ None
    → b ≡ false
not_long true b d f r e = absurd cc
not_long false true d f r e = absurd cc
not_long false false d f r e = refl

-- a name has at most 255 bytes
pub name_size : (bytes : List ℕ) → IsName bytes → length bytes ≤ 255
unfolding name_fault_of
name_size bytes h = ltb-false NAME_MAX (length bytes)
    (not_long (eqb (length bytes) 0) (ltb NAME_MAX (length bytes)) Empty Long _ h)

name_fits : (bytes : List ℕ) → IsName bytes → length bytes < 256 ^ 2
name_fits bytes h = omega (arith, name_size bytes h)

-- bytes behind their length
counted_takes : (width : ℕ) (bytes : List ℕ) (n : ℕ × List ℕ) (x : List ℕ × List ℕ) → IsBytes bytes
    → number_at width bytes ≡ Ok n → bytes_at n.0 n.1 ≡ Ok x
    → Takes bytes (little_bytes width (length x.0) ++ x.0) x.1 × (length x.0 ≡ n.0)
counted_takes width bytes n x fits e f =
    let t = number_takes width bytes n fits e in
    let u = bytes_take n.0 n.1 x t.0.rest_fits f in
    let both = Takes-then bytes (little_bytes width n.0) n.1 x.0 x.1 t.0 u.0 in
    (subst (λ (k : ℕ). Takes bytes (little_bytes width k ++ x.0) x.1) (sym u.1) both, u.1)

pub value_takes : (field : Field) (bytes : List ℕ) (x : Value × List ℕ) → IsBytes bytes → value_at field bytes ≡ Ok x
    → TakesValue field bytes x
unfolding value_at
value_takes (Number width is_allowed) bytes x fits e =
    let b = bind_ok (number_at width bytes) (λ n. cond (is_allowed n.0) (Ok (Num n.0, n.1)) (Err faults.Field)) x e in
    let g = allow_ok (is_allowed b.0.0) faults.Field (Ok (Num b.0.0, b.0.1)) x b.2 in
    let t = number_takes width bytes b.0 fits b.1 in
    subst (TakesValue (Number width is_allowed) bytes) (ok_is (Num b.0.0, b.0.1) x g.1) (t.0, (t.1, g.0))
value_takes Name bytes x fits e =
    let b = bind_ok (number_at 2 bytes)
    (λ n. bytes_at n.0 n.1 >>= λ s. cond (is_name s.0) (Ok (Bytes s.0, s.1)) (Err faults.Field)) x e in
    let c = bind_ok (bytes_at b.0.0 b.0.1) (λ s. cond (is_name s.0) (Ok (Bytes s.0, s.1)) (Err faults.Field)) x b.2 in
    let g = allow_ok (is_name c.0.0) faults.Field (Ok (Bytes c.0.0, c.0.1)) x c.2 in
    let t = counted_takes 2 bytes b.0 c.0 fits b.1 c.1 in
    subst (TakesValue Name bytes) (ok_is (Bytes c.0.0, c.0.1) x g.1) (t.0, name_is (name_fault_of c.0.0) g.0)
value_takes (Data most) bytes x fits e =
    let b = bind_ok (number_at 4 bytes)
    (λ n. cond (ltb most n.0) (Err faults.Field) (bytes_at n.0 n.1) >>= λ s. Ok (Bytes s.0, s.1)) x e in
    let c = bind_ok (cond (ltb most b.0.0) (Err faults.Field) (bytes_at b.0.0 b.0.1))
    (λ s. Ok (Bytes s.0, s.1)) x b.2 in
    let g = guard_ok (ltb most b.0.0) faults.Field (bytes_at b.0.0 b.0.1) c.0 c.1 in
    let t = counted_takes 4 bytes b.0 c.0 fits b.1 g.1 in
    subst (TakesValue (Data most) bytes) (ok_is (Bytes c.0.0, c.0.1) x c.2) (
      t.0,
      (
        omega (arith, t.1, ltb-false most b.0.0 g.0),
        data_fits c.0.0 b.0.0 t.1
            (number_takes 4 bytes b.0 fits b.1).1,
      ),
    )

-- bytes behind their length, read again
counted_again : {B : Type 0} (width : ℕ) (text rest : List ℕ) (f : ℕ × List ℕ → Read B) → length text < 256 ^ width
    → (number_at width ((little_bytes width (length text) ++ text) ++ rest) >>= f) ≡ f (length text, text ++ rest)
counted_again width text rest f fits =
    ap (λ (t : List ℕ). number_at width t >>= f) (append_assoc (little_bytes width (length text)) text rest)
    ∙ ap (λ (r : Read ℕ). r >>= f) (number_again width (length text) (text ++ rest) fits)

pub value_again : (field : Field) (value : Value) (rest : List ℕ) → IsValueOf field value
    → value_at field (spelled field value ++ rest) ≡ Ok (value, rest)
unfolding value_at
value_again (Number width is_allowed) (Num n) rest h =
    rw (number_again width n rest h.0, h.1) refl
value_again (Number width is_allowed) (Bytes bytes) rest h = absurd h
value_again Name (Num n) rest h = absurd h
value_again Name (Bytes bytes) rest h =
    counted_again 2 bytes rest
    (λ n. bytes_at n.0 n.1 >>= λ s. cond (is_name s.0) (Ok (Bytes s.0, s.1)) (Err faults.Field)) (name_fits bytes h)
    ∙ rw (bytes_again bytes rest, is_name-name bytes h) refl
value_again (Data most) (Num n) rest h = absurd h
value_again (Data most) (Bytes bytes) rest h =
    let short : ltb most (length bytes) ≡ false = le-ltb most (length bytes) h.0 in
    counted_again 4 bytes rest
    (λ n. cond (ltb most n.0) (Err faults.Field) (bytes_at n.0 n.1) >>= λ s. Ok (Bytes s.0, s.1)) h.1
    ∙ rw (short, bytes_again bytes rest) refl

-- ---- fields, one after another

abbrev pub TakesValues : List Field → List ℕ → List Value × List ℕ → Type 0
TakesValues fields bytes x = Takes bytes (spelled_all fields x.0) x.1 × AreValuesOf fields x.0

pub values_take : (fields : List Field) (bytes : List ℕ) (x : List Value × List ℕ) → IsBytes bytes
    → values_at fields bytes ≡ Ok x → TakesValues fields bytes x
values_take [] bytes x fits e
    = subst (TakesValues [] bytes) (ok_is ([], bytes) x e) (record { parts = refl; rest_fits = fits }, tt)
values_take (field ∷ fields) bytes x fits e =
    let b = bind_ok (value_at field bytes) (λ v. values_at fields v.1 >>= λ vs. Ok (v.0 ∷ vs.0, vs.1)) x e in
    let c = bind_ok (values_at fields b.0.1) (λ vs. Ok (b.0.0 ∷ vs.0, vs.1)) x b.2 in
    let t = value_takes field bytes b.0 fits b.1 in
    let u = values_take fields b.0.1 c.0 t.0.rest_fits c.1 in
    let both = Takes-then bytes (spelled field b.0.0) b.0.1 (spelled_all fields c.0.0) c.0.1 t.0 u.0 in
    subst (TakesValues (field ∷ fields) bytes) (ok_is (b.0.0 ∷ c.0.0, c.0.1) x c.2) (both, (t.1, u.1))

pub values_again : (fields : List Field) (values : List Value) (rest : List ℕ) → AreValuesOf fields values
    → values_at fields (spelled_all fields values ++ rest) ≡ Ok (values, rest)
values_again [] [] rest h = refl
values_again [] (value ∷ values) rest h = absurd h
values_again (field ∷ fields) [] rest h = absurd h
values_again (field ∷ fields) (value ∷ values) rest h =
    ap (values_at (field ∷ fields)) (append_assoc (spelled field value) (spelled_all fields values) rest)
    ∙ rw (value_again field value (spelled_all fields values ++ rest) h.0, values_again fields values rest h.1) refl

-- ---- groups

abbrev pub TakesGroups : List Field → ℕ → List ℕ → List (List Value) × List ℕ → Type 0
TakesGroups fields count bytes x = Takes bytes (spelled_groups fields x.0) x.1 × (length x.0 ≡ count)
    × AreGroupsOf fields x.0

groups_take : (fields : List Field) (count : ℕ) (bytes : List ℕ) (x : List (List Value) × List ℕ) → IsBytes bytes
    → groups_at fields count bytes ≡ Ok x → TakesGroups fields count bytes x
unfolding groups_at
groups_take fields zero bytes x fits e
    = subst (TakesGroups fields 0 bytes) (ok_is ([], bytes) x e) (record { parts = refl; rest_fits = fits }, refl, tt)
groups_take fields (suc count) bytes x fits e =
    let b = bind_ok (values_at fields bytes) (λ g. groups_at fields count g.1 >>= λ gs. Ok (g.0 ∷ gs.0, gs.1)) x e in
    let c = bind_ok (groups_at fields count b.0.1) (λ gs. Ok (b.0.0 ∷ gs.0, gs.1)) x b.2 in
    let t = values_take fields bytes b.0 fits b.1 in
    let u = groups_take fields count b.0.1 c.0 t.0.rest_fits c.1 in
    let both = Takes-then bytes (spelled_all fields b.0.0) b.0.1 (spelled_groups fields c.0.0) c.0.1 t.0 u.0 in
    subst (TakesGroups fields (suc count) bytes) (ok_is (b.0.0 ∷ c.0.0, c.0.1) x c.2) (both, ap suc u.1, (t.1, u.2))

groups_again : (fields : List Field) (groups : List (List Value)) (rest : List ℕ) → AreGroupsOf fields groups
    → groups_at fields (length groups) (spelled_groups fields groups ++ rest) ≡ Ok (groups, rest)
unfolding groups_at
groups_again fields [] rest h = refl
groups_again fields (group ∷ groups) rest h =
    ap (groups_at fields (suc (length groups)))
    (append_assoc (spelled_all fields group) (spelled_groups fields groups) rest)
    ∙ rw (
      values_again fields group (spelled_groups fields groups ++ rest) h.0,
      groups_again fields groups rest h.1,
    ) refl

-- ---- what stands behind the fields

abbrev pub TakesBehind : Groups → List ℕ → List (List Value) × List ℕ → Type 0
TakesBehind groups bytes x = Takes bytes (spelled_behind groups x.0) x.1 × FitBehind groups x.0

pub behind_takes : (groups : Groups) (bytes : List ℕ) (x : List (List Value) × List ℕ) → IsBytes bytes
    → behind_at groups bytes ≡ Ok x → TakesBehind groups bytes x
behind_takes Without bytes x fits e
    = subst (TakesBehind Without bytes) (ok_is ([], bytes) x e) (record { parts = refl; rest_fits = fits }, refl)
behind_takes (Counted is_allowed fields) bytes x fits e =
    let b = bind_ok (number_at 2 bytes)
    (λ n. cond (is_allowed n.0) (groups_at fields n.0 n.1) (Err faults.Field)) x e in
    let g = allow_ok (is_allowed b.0.0) faults.Field (groups_at fields b.0.0 b.0.1) x b.2 in
    let t = number_takes 2 bytes b.0 fits b.1 in
    let u = groups_take fields b.0.0 b.0.1 x t.0.rest_fits g.1 in
    let both = Takes-then bytes (little_bytes 2 b.0.0) b.0.1 (spelled_groups fields x.0) x.1 t.0 u.0 in
    let whole : Takes bytes (little_bytes 2 (length x.0) ++ spelled_groups fields x.0) x.1
    = subst (λ (k : ℕ). Takes bytes (little_bytes 2 k ++ spelled_groups fields x.0) x.1) (sym u.1) both in
    (whole, (omega (arith, t.1, u.1), ap is_allowed u.1 ∙ g.0, u.2))

pub behind_again : (behind : Groups) (groups : List (List Value)) (rest : List ℕ) → FitBehind behind groups
    → behind_at behind (spelled_behind behind groups ++ rest) ≡ Ok (groups, rest)
behind_again Without groups rest h = rw h refl
behind_again (Counted is_allowed fields) groups rest h =
    ap (behind_at (Counted is_allowed fields))
    (append_assoc (little_bytes 2 (length groups)) (spelled_groups fields groups) rest)
    ∙ rw (
      number_again 2 (length groups) (spelled_groups fields groups ++ rest) h.0,
      h.1,
      groups_again fields groups rest h.2,
    ) refl
