-- The first fault of bytes: there is one at most, and a mount file has none.
use Rattle.std.proofs.Common.{◌≡◌, ◌⊎◌, inl, inr, ℕ, ◌<◌, List, length, Bool, true, false, not, Option, Some, None}
use Rattle.std.proofs.Common.{Result, Ok, Err, IfOk, IfErr, refl, ap, sym, subst, ◌∙◌, arith}
use Rattle.std.specs.Prelude.{if◌then◌else◌}
use Rattle.std.specs.Option.{option_map_or}
use Rattle.std.proofs.lemmas.Option.{same_Some}
use Rattle.toml.specs.Data.{Members}
use Rattle.mount_file.specs.Keys.{has_keys}
use Rattle.mount_file.specs.Tables.{mounts_in}
use Rattle.mount_file.specs.Rules.{has_root, has_clash, has_too_many}
use Rattle.mount_file.specs.MountFile.{ruled, document_read, IsDocument, IsMountFile, IsFaultyDocument, IsNoDocument}
use Rattle.mount_file.specs.MountFile.{IsNoText, IsFaultOf}
use Rattle.mount_file.specs.Read.{Reads}
use Rattle.mount_file.specs.declared.read.TheConstants.{LONGEST_MOUNT_FILE}
use Rattle.mount_file.specs.declared.mounts.Mounts.{Mounts}
use Rattle.mount_file.specs.declared.mounts.MountFault.{MountFault}
use Rattle.mount_file.specs.declared.mounts.MountFault.TheVariants.{Long, Utf8, Toml, Field, Range, NoRoot, Twice}
use Rattle.mount_file.specs.declared.mounts.MountFault.TheVariants.{TooMany, Memory}

-- the faults that a document can have
abbrev IsLate : MountFault → Type 0
IsLate Long = ⊥
IsLate Utf8 = ⊥
IsLate Toml = ⊥
IsLate Memory = ⊥
IsLate fault = Unit {0}

late_as : (f g : MountFault) → ◌≡◌ {A = Result Mounts MountFault} (Err g) (Err f) → IsLate g → IsLate f
late_as f g is late = let same : g ≡ f = cc in subst IsLate same late

late_rule : (root clash many : Bool) (m : Mounts) (f : MountFault)
    → option_map_or Err
    (if not root then Some NoRoot else if clash then Some Twice else if many then Some TooMany else None) (Ok m) ≡ Err f
    → IsLate f
late_rule false clash many m f is = late_as f NoRoot is tt
late_rule true true many m f is = late_as f Twice is tt
late_rule true false true m f is = late_as f TooMany is tt
late_rule true false false m f is = cc

late_read : (has : Bool) (o : Option Mounts) (f : MountFault)
    → (if has then option_map_or ruled o (Err Range) else Err Field) ≡ Err f → IsLate f
late_read false o f is = late_as f Field is tt
late_read true None f is = late_as f Range is tt
late_read true (Some m) f is = late_rule (has_root m.mounts) (has_clash m.mounts) (has_too_many m) m f is

late_document : (d : Members) (f : MountFault) → document_read d ≡ Err f → IsLate f
late_document d f is = late_read (has_keys d) (mounts_in d) f is

late_faulty : (bytes : List ℕ) (f : MountFault) → IsFaultyDocument bytes f → IsLate f
late_faulty bytes f faulty = late_document faulty.document f faulty.read

-- a fault of a document is one of the bytes
pub faulty_told : (bytes : List ℕ) (f : MountFault) → IsFaultyDocument bytes f → IsFaultOf bytes f
faulty_told bytes Long faulty = absurd (late_faulty bytes Long faulty)
faulty_told bytes Utf8 faulty = absurd (late_faulty bytes Utf8 faulty)
faulty_told bytes Toml faulty = absurd (late_faulty bytes Toml faulty)
faulty_told bytes Memory faulty = absurd (late_faulty bytes Memory faulty)
faulty_told bytes Field faulty = faulty
faulty_told bytes Range faulty = faulty
faulty_told bytes NoRoot faulty = faulty
faulty_told bytes Twice faulty = faulty
faulty_told bytes TooMany faulty = faulty

-- the four kinds of fault
abbrev Kind : List ℕ → MountFault → Type 0
Kind bytes f = ((f ≡ Long) × (LONGEST_MOUNT_FILE < length bytes))
    ⊎ (((f ≡ Utf8) × IsNoText bytes) ⊎ (((f ≡ Toml) × IsNoDocument bytes) ⊎ IsFaultyDocument bytes f))

kind_of : (bytes : List ℕ) (f : MountFault) → IsFaultOf bytes f → Kind bytes f
kind_of bytes Long is = inl (refl, is)
kind_of bytes Utf8 is = inr (inl (refl, is))
kind_of bytes Toml is = inr (inr (inl (refl, is)))
kind_of bytes Memory is = absurd is
kind_of bytes Field is = inr (inr (inr is))
kind_of bytes Range is = inr (inr (inr is))
kind_of bytes NoRoot is = inr (inr (inr is))
kind_of bytes Twice is = inr (inr (inr is))
kind_of bytes TooMany is = inr (inr (inr is))

-- bytes are one document at most
pub document_same : (bytes : List ℕ) (d e : Members) → IsDocument bytes d → IsDocument bytes e → d ≡ e
document_same bytes d e a b = same_Some _ _ (sym a.parsed ∙ b.parsed)

not_refused : (bytes : List ℕ) (d : Members) → IsDocument bytes d → IsNoDocument bytes → ⊥
not_refused bytes d a b = let twice : Some d ≡ None = sym a.parsed ∙ b.refused in cc

faulty_same : (bytes : List ℕ) (f g : MountFault) → IsFaultyDocument bytes f → IsFaultyDocument bytes g → f ≡ g
faulty_same bytes f g a b =
    let twice : ◌≡◌ {A = Result Mounts MountFault} (Err f) (Err g) = sym a.read
    ∙ ap document_read (document_same bytes a.document b.document a.is b.is) ∙ b.read in
    cc

kind_same : (bytes : List ℕ) (f g : MountFault) → Kind bytes f → Kind bytes g → f ≡ g
kind_same bytes f g (inl a) (inl b) = a.0 ∙ sym b.0
kind_same bytes f g (inl a) (inr (inl b)) = absurd (omega (arith, a.1, b.1.short))
kind_same bytes f g (inl a) (inr (inr (inl b))) = absurd (omega (arith, a.1, b.1.short))
kind_same bytes f g (inl a) (inr (inr (inr b))) = absurd (omega (arith, a.1, b.is.short))
kind_same bytes f g (inr (inl a)) (inl b) = absurd (omega (arith, b.1, a.1.short))
kind_same bytes f g (inr (inl a)) (inr (inl b)) = a.0 ∙ sym b.0
kind_same bytes f g (inr (inl a)) (inr (inr (inl b))) = absurd (a.1.refused b.1.text)
kind_same bytes f g (inr (inl a)) (inr (inr (inr b))) = absurd (a.1.refused b.is.text)
kind_same bytes f g (inr (inr (inl a))) (inl b) = absurd (omega (arith, b.1, a.1.short))
kind_same bytes f g (inr (inr (inl a))) (inr (inl b)) = absurd (b.1.refused a.1.text)
kind_same bytes f g (inr (inr (inl a))) (inr (inr (inl b))) = a.0 ∙ sym b.0
kind_same bytes f g (inr (inr (inl a))) (inr (inr (inr b))) = absurd (not_refused bytes b.document b.is a.1)
kind_same bytes f g (inr (inr (inr a))) (inl b) = absurd (omega (arith, b.1, a.is.short))
kind_same bytes f g (inr (inr (inr a))) (inr (inl b)) = absurd (b.1.refused a.is.text)
kind_same bytes f g (inr (inr (inr a))) (inr (inr (inl b))) = absurd (not_refused bytes a.document a.is b.1)
kind_same bytes f g (inr (inr (inr a))) (inr (inr (inr b))) = faulty_same bytes f g a b

no_kind : (bytes : List ℕ) (m : Mounts) (f : MountFault) → IsMountFile bytes m → Kind bytes f → ⊥
no_kind bytes m f a (inl b) = omega (arith, b.1, a.is.short)
no_kind bytes m f a (inr (inl b)) = b.1.refused a.is.text
no_kind bytes m f a (inr (inr (inl b))) = not_refused bytes a.document a.is b.1
no_kind bytes m f a (inr (inr (inr b))) =
    let twice : ◌≡◌ {A = Result Mounts MountFault} (Ok m) (Err f) = sym a.read
    ∙ ap document_read (document_same bytes a.document b.document a.is b.is) ∙ b.read in
    cc

-- bytes have one first fault at most
pub fault_same : (bytes : List ℕ) (f g : MountFault) → IsFaultOf bytes f → IsFaultOf bytes g → f ≡ g
fault_same bytes f g a b = kind_same bytes f g (kind_of bytes f a) (kind_of bytes g b)

-- a mount file has no fault
pub no_fault : (bytes : List ℕ) (m : Mounts) (f : MountFault) → IsMountFile bytes m → IsFaultOf bytes f → ⊥
no_fault bytes m f a b = no_kind bytes m f a (kind_of bytes f b)

-- bytes say one thing at most
pub mounts_same : (bytes : List ℕ) (m n : Mounts) → IsMountFile bytes m → IsMountFile bytes n → m ≡ n
mounts_same bytes m n a b =
    let twice : ◌≡◌ {A = Result Mounts MountFault} (Ok m) (Ok n) = sym a.read
    ∙ ap document_read (document_same bytes a.document b.document a.is b.is) ∙ b.read in
    cc

-- an answer that tells only what is so tells a fault where there is one, or want of memory
pub fault_told : (bytes : List ℕ) (r : Result Mounts MountFault) → IfOk r (λ m. IsMountFile bytes m)
    → IfErr r (λ f. (f ≡ Memory) ⊎ IsFaultOf bytes f)
    → (f : MountFault) → IsFaultOf bytes f → (r ≡ Err f) ⊎ (r ≡ Err Memory)
fault_told bytes (Ok m) ok err f is = absurd (no_fault bytes m f ok is)
fault_told bytes (Err g) ok (inl memory) f is = inr (ap Err memory)
fault_told bytes (Err g) ok (inr told) f is = inl (ap Err (fault_same bytes g f told is))

-- what a read of a document tells is its fault, or want of memory
pub fault_read : (bytes : List ℕ) (d : Members) (r : Result Mounts MountFault) → IsDocument bytes d
    → Reads (document_read d) r → IfErr r (λ f. (f ≡ Memory) ⊎ IsFaultOf bytes f)
fault_read bytes d (Ok m) document reads = tt
fault_read bytes d (Err f) document (inl same) = inr
    (faulty_told bytes f (record { document = d; is = document; read = sym same }))
fault_read bytes d (Err f) document (inr memory) = inl (let same : f ≡ Memory = cc in same)
