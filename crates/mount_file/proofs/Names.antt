-- The names of a folder, and how they begin.
use Rattle.std.proofs.Common.{◌≡◌, ℕ, ◌<◌, ◌≤◌, List, [], ◌∷◌, length, get_or, Bool, true, false}
use Rattle.std.proofs.Common.{Option, Some, None, Result, Err, refl, arith}
use Rattle.std.specs.Prelude.{if◌then◌else◌}
use Rattle.std.specs.List.{list_all, starts_with, zip}
use Rattle.std.specs.Str.{bytes_eq}
use Rattle.std.proofs.lemmas.List.Folds.{list_all_at}
use Rattle.sn_text.specs.Names.{IsNameFaultOf, IsName}
use Rattle.sn_text.specs.declared.fault.NameFault.{NameFault}
use Rattle.sn_text.specs.declared.fault.NameFault.TheVariants.{Empty, Long, Slash, Nul, Dot, Memory}
use Rattle.mount_file.specs.declared.mounts.MountFault.{MountFault}
use Rattle.mount_file.specs.declared.mounts.MountFault.TheVariants.{Memory as WantOfMemory, Range, Utf8, Toml, Field}
use Rattle.mount_file.specs.declared.mounts.MountFault.TheVariants.{Long as TooLong, NoRoot, Twice, TooMany}
use Rattle.mount_file.specs.Read.{Gives, fault_of_name}
use Rattle.mount_file.specs.Values.{is_name}

-- names are begun with by others where each is the same as far as the others go
pub begins_zip : (names others : List (List ℕ)) → length others ≤ length names
    → list_all (λ p. bytes_eq p.0 p.1) (zip others names) ≡ starts_with bytes_eq names others
begins_zip names [] fits = refl
begins_zip [] (other ∷ others) fits = absurd (omega arith)
begins_zip (name ∷ names) (other ∷ others) fits = rw (begins_zip names others (omega arith)) refl

-- a choice that fails
not_chosen : {A : Type 0} (b : Bool) (x : A) → b ≡ false → (if b then Some x else None) ≡ None
not_chosen b x is = rw is refl

-- a choice that failed
untaken : {A : Type 0} (b : Bool) (x : A) → (if b then Some x else None) ≡ None → b ≡ false
untaken true x is = cc
untaken false x is = refl

-- pieces of which one is no name aren't the names of a folder
one_refused : (pieces : List (List ℕ)) (i : ℕ) (piece : List ℕ) → i < length pieces → piece ≡ get_or pieces i piece
    → (if is_name piece then Some piece else None) ≡ None
    → (if list_all is_name pieces then Some pieces else None) ≡ None
one_refused pieces i piece within at refused =
    not_chosen (list_all is_name pieces) pieces
    (list_all_at is_name pieces i piece within (rw (← at) (untaken (is_name piece) piece refused)))

-- what a name's fault is told as
pub name_refused : (bytes : List ℕ) (e : NameFault) → IsNameFaultOf bytes e
    → Gives (if is_name bytes then Some bytes else None) (Err (fault_of_name e))
name_refused bytes Empty fault = rw fault refl
name_refused bytes Long fault = rw fault refl
name_refused bytes Slash fault = rw fault refl
name_refused bytes Nul fault = rw fault refl
name_refused bytes Dot fault = rw fault refl
name_refused bytes Memory fault = tt

-- bytes that are a name are given
pub name_given : (bytes : List ℕ) → IsName bytes → (if is_name bytes then Some bytes else None) ≡ Some bytes
name_given bytes is = rw is refl

-- what is told of a piece is told of all pieces
pub piece_refused : (pieces : List (List ℕ)) (i : ℕ) (piece : List ℕ) (e : MountFault) → i < length pieces
    → piece ≡ get_or pieces i piece → Gives (if is_name piece then Some piece else None) (Err e)
    → Gives (if list_all is_name pieces then Some pieces else None) (Err e)
piece_refused pieces i piece WantOfMemory within at given = tt
piece_refused pieces i piece Range within at given = one_refused pieces i piece within at given
piece_refused pieces i piece TooLong within at given = absurd given
piece_refused pieces i piece Utf8 within at given = absurd given
piece_refused pieces i piece Toml within at given = absurd given
piece_refused pieces i piece Field within at given = absurd given
piece_refused pieces i piece NoRoot within at given = absurd given
piece_refused pieces i piece Twice within at given = absurd given
piece_refused pieces i piece TooMany within at given = absurd given

-- pieces that are names are those of the folder
pub pieces_kept : (pieces names : List (List ℕ)) → names ≡ pieces → list_all is_name names ≡ true
    → (if list_all is_name pieces then Some pieces else None) ≡ Some names
pieces_kept pieces names same are = rw (← same, are) refl

-- an answer that is told on
pub told : {A : Type 0} (o : Option A) (r : Result A MountFault) (f : MountFault) → r ≡ Err f → Gives o (Err f)
    → Gives o r
told o r f is given = rw is given
