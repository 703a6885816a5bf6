-- A mount file that is read has a mount at `/`, as many mounts as may be, no two of which clash, and no more tasks than
-- may be.
use Rattle.std.proofs.Common.{◌≡◌, ℕ, ℤ, pos, negsuc, ◌≤◌, nat_le, List, [], ◌∷◌, length, Bool, true}
use Rattle.std.proofs.Common.{false, ◌&&◌, ◌==◌, not, Option, Some, None, option_map, option_and_then}
use Rattle.std.proofs.Common.{inl, inr, Result, Ok, Err, IfOk, refl, ap, sym, subst, arith}
use Rattle.std.specs.Prelude.{if◌then◌else◌, codes}
use Rattle.std.specs.Option.{option_map_or}
use Rattle.std.proofs.lemmas.Option.{same_Some, option_and_then_some}
use Rattle.std.proofs.lemmas.Bool.{and_parts, eqb-true, leb-true}
use Rattle.std.proofs.lemmas.Bool.Decides.{nat_tests}
use Rattle.toml.specs.Data.{Members, as_str, as_integer, as_array, get_member}
use Rattle.mount_file.specs.Form.{HasForm}
use Rattle.mount_file.specs.Keys.{has_keys}
use Rattle.mount_file.specs.MountFile.{ruled, document_read, IsMountFile}
use Rattle.mount_file.specs.Read.{Reads}
use Rattle.mount_file.specs.Rules.{has_root, has_clash, has_too_many, rule_broken}
use Rattle.mount_file.specs.Tables.{each_in, some_tasks, mount_in, task_in, mounts_in}
use Rattle.mount_file.specs.Values.{entries_in, seed_in, hex_bytes}
use Rattle.mount_file.specs.declared.mounts.MountFault.{MountFault}
use Rattle.mount_file.specs.declared.mounts.MountFault.TheVariants.{Field, Range, NoRoot, Twice, TooMany}
use Rattle.mount_file.specs.declared.mounts.Mounts.{Mounts}
use Rattle.mount_file.specs.declared.mounts.Program.{Program}
use Rattle.mount_file.specs.declared.rules.TheConstants.{MOST_MOUNTS, MOST_TASKS}
use Rattle.mount_file.specs.declared.values.TheConstants.{MOST_ENTRIES}
use Rattle.mount_file.proofs.Hex.{hex_bytes_length}

-- the value of a choice that may be none
chosen : {A : Type 0} (b : Bool) (o : Option A) (x : A) → (if b then o else None) ≡ Some x → (b ≡ true) × (o ≡ Some x)
chosen true o x is = (refl, is)
chosen false o x is = cc

-- what a map makes is of a value
mapped : {A B P : Type 0} (f : A → B) (o : Option A) (y : B) → option_map f o ≡ Some y
    → ((x : A) → o ≡ Some x → f x ≡ y → P) → P
mapped f None y is next = cc
mapped f (Some x) y is next = next x refl (same_Some _ _ is)

entries_few : (z : ℤ) (n : ℕ) → entries_in z ≡ Some n → (1 ≤ n) × (n ≤ MOST_ENTRIES)
entries_few (negsuc k) n is = cc
entries_few (pos k) n is =
    let (tests, same) = chosen (nat_le 1 k && nat_le k MOST_ENTRIES) (Some k) n is in
    let (low, high) = and_parts (nat_le 1 k) (nat_le k MOST_ENTRIES) tests in
    rw (← same_Some _ _ same) (leb-true 1 k low, leb-true k MOST_ENTRIES high)

seed_long : (digits bytes : List ℕ) → seed_in digits ≡ Some bytes → length bytes ≡ 32
seed_long digits bytes is =
    let (test, found) = chosen (length digits == 64) (hex_bytes digits) bytes is in
    omega (arith, eqb-true (length digits) 64 test, hex_bytes_length digits bytes found)

some_long : (ts us : List Program) → some_tasks ts ≡ Some us → 1 ≤ length us
some_long [] us is = cc
some_long (t ∷ ts) us is = let same : (t ∷ ts) ≡ us = same_Some _ _ is in omega (arith, ap length same)

-- what a document says, part by part
record Parts (m : Mounts) : Type 0 where
  pub entries : (1 ≤ m.entries) × (m.entries ≤ MOST_ENTRIES)
  pub seed : length m.seed ≡ 32
  pub some : 1 ≤ length m.tasks

parts : (d : Members) (m : Mounts) → mounts_in d ≡ Some m → Parts m
parts d m is =
    option_and_then_some _ (option_and_then entries_in (option_and_then as_integer (get_member (codes "entries") d))) m
    is (λ entries e more.
    option_and_then_some entries_in (option_and_then as_integer (get_member (codes "entries") d)) entries e (λ z _ few.
    option_and_then_some _ (option_and_then seed_in (option_and_then as_str (get_member (codes "seed") d))) m more
    (λ seed s more'.
    option_and_then_some seed_in (option_and_then as_str (get_member (codes "seed") d)) seed s (λ digits _ long.
    option_and_then_some _ (option_and_then (each_in mount_in)
    (option_and_then as_array (get_member (codes "mount") d))) m more' (λ mounts _ more''.
    mapped _ (option_and_then some_tasks
    (option_and_then (each_in task_in) (option_and_then as_array (get_member (codes "task") d)))) m more''
    (λ tasks t same.
    option_and_then_some some_tasks (option_and_then (each_in task_in)
    (option_and_then as_array (get_member (codes "task") d))) tasks t (λ all _ kept.
    subst Parts same (record {
      entries = entries_few z entries few;
      seed = seed_long digits seed long;
      some = some_long all tasks kept;
    }))))))))

-- mounts that are answered break no rule
kept : (o : Option MountFault) (n m : Mounts) → option_map_or Err o (Ok n) ≡ Ok m → (o ≡ None) × (n ≡ m)
kept None n m is = (refl, let same : n ≡ m = cc in same)
kept (Some f) n m is = cc

answered : (has : Bool) (o : Option Mounts) (m : Mounts)
    → (if has then option_map_or ruled o (Err Range) else Err Field) ≡ Ok m → (o ≡ Some m) × (rule_broken m ≡ None)
answered false o m is = cc
answered true None m is = cc
answered true (Some n) m is =
    let (unbroken, same) = kept (rule_broken n) n m is in
    (ap Some same, subst (λ x. rule_broken x ≡ None) same unbroken)

unbroken : (root clash many : Bool) → ◌≡◌ {A = Option MountFault}
    (if not root then Some NoRoot else if clash then Some Twice else if many then Some TooMany else None) None
    → (root ≡ true) × (clash ≡ false) × (many ≡ false)
unbroken false clash many is = cc
unbroken true true many is = cc
unbroken true false true is = cc
unbroken true false false is = (refl, refl, refl)

few : (m : Mounts) → has_too_many m ≡ false → (length m.mounts ≤ MOST_MOUNTS) × (length m.tasks ≤ MOST_TASKS)
few m is = grind (arith, nat_tests)

form_in : (d : Members) (m : Mounts) → document_read d ≡ Ok m → HasForm m
form_in d m is =
    let (says, no_rule) = answered (has_keys d) (mounts_in d) m is in
    let (root, no_clash, not_many) = unbroken (has_root m.mounts) (has_clash m.mounts) (has_too_many m) no_rule in
    let (few_mounts, few_tasks) = few m not_many in
    let p = parts d m says in
    record {
      some_entries = p.entries.0;
      few_entries = p.entries.1;
      seed = p.seed;
      rooted = root;
      apart = no_clash;
      few_mounts = few_mounts;
      some_tasks = p.some;
      few_tasks = few_tasks;
    }

pub form_of : (bytes : List ℕ) (m : Mounts) → IsMountFile bytes m → HasForm m
form_of bytes m is = form_in is.document m is.read

-- so has what a read of a document answers
pub form_read : (d : Members) (r : Result Mounts MountFault) → Reads (document_read d) r → IfOk r HasForm
form_read d (Ok m) (inl same) = form_in d m (sym same)
form_read d (Ok m) (inr memory) = cc
form_read d (Err f) reads = tt
