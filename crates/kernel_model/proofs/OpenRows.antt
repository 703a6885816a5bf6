-- The rows of calls on descriptors change nothing but what is open.
use Rattle.std.proofs.Common.{ℕ, Bool, true, false, cond, List, Option, Some, None, sym, subst}
use Rattle.std.specs.Prelude.{◌%◌, ◌^◌, ◌==◌, ◌||◌, not}
use Rattle.std.specs.FinMap as map
use Rattle.sn_errno.specs.declared.errno.Errno.{Errno}
use Rattle.sn_errno.specs.declared.errno.Errno.TheVariants.{EBADF, EMFILE}
use Rattle.fd_table.specs.Flags.{may_read, may_write}
use Rattle.fd_table.specs.Tables.{Table, with_mark}
use Rattle.fd_table.specs.declared.description.Object.{Object}
use Rattle.fd_table.specs.declared.description.Object.TheVariants as object
use Rattle.fd_table.specs.declared.descriptor.Descriptor.{Descriptor}
use Rattle.fd_table.specs.declared.flags.AccessMode.{AccessMode}
use Rattle.sn_base.specs.declared.made.Made.{Made}
use Rattle.kernel_model.specs.declared.caller.Caller.{Caller}
use Rattle.kernel_model.specs.declared.kernel.Part.TheVariants.{OfTable, OfDescription}
use Rattle.kernel_model.specs.declared.open_files.OpenFile.{OpenFile}
use Rattle.kernel_model.specs.calls.Answers.{Answer}
use Rattle.kernel_model.specs.calls.Lookups.{descriptor}
use Rattle.kernel_model.specs.calls.Descriptors.{by_command, close_row, dup3_row, dup_row, dupfd_of, fcntl_row, gives}
use Rattle.kernel_model.specs.calls.Descriptors.{gives_at, ioctl_row, is_cloexec_or_none, is_possible, leaves_table}
use Rattle.kernel_model.specs.calls.Descriptors.{opens_from, replaced, sets_status, tells_status}
use Rattle.kernel_model.specs.calls.Lookups.{if_may, lowest_free, opened_for, or_refuse, with_descriptor, with_file}
use Rattle.kernel_model.specs.calls.Seek.{lseek_row, positioned, pread64_row, pwrite64_row}
use Rattle.kernel_model.specs.descriptors.Counts.{counted, dropped}
use Rattle.kernel_model.specs.entries.InTurn.{followed}
use Rattle.kernel_model.specs.entries.Parts.{Parts, Prog, Change, outcome_in, done, ◌>>=◌}
use Rattle.kernel_model.proofs.FileChanges.{AllOpen, AreOpenParts, counted_open, dropped_open, followed_open}
use Rattle.kernel_model.proofs.Trees.{outcome-bind}

module _ (s : Parts) where
  abbrev Open : Prog Answer → Type 0
  Open row = AreOpenParts (outcome_in s row).changes

  either : (b : Bool) (x y : Prog Answer) → Open x → Open y → Open (cond b x y)
  either true x y here there = here
  either false x y here there = there

  -- what is there goes on
  found : {A : Type 0} (errno : Errno) (row : A → Prog Answer) → ((x : A) → Open (row x)) → (o : Option A)
      → Open (or_refuse errno row o)
  found errno row each None = tt
  found errno row each (Some x) = each x

  at_file : (row : OpenFile → Prog Answer) → ((file : OpenFile) → Open (row file)) → (name : Made)
      → Open (with_file name row)
  at_file row each name = found EBADF row each (s (OfDescription name))

  -- a changed table behind a piece
  behind : (piece : Prog (List Change)) → AllOpen piece → (c : Caller) (reply : ℕ) (table : Table)
      → Open (piece >>= λ changes. done (leaves_table c reply table changes))
  behind piece all c reply table =
      subst (λ (a : Answer). AreOpenParts a.changes)
      (sym (outcome-bind s piece (λ changes. done (leaves_table c reply table changes)))) (tt, all s)

  replaced_open : (before : Option Descriptor) → AllOpen (replaced before)
  replaced_open None = λ t. tt
  replaced_open (Some d) = dropped_open d.description

  module _ (c : Caller) where
    at_descriptor : (row : Table → Descriptor → Prog Answer) → ((t : Table) (d : Descriptor) → Open (row t d))
        → (fd : ℕ) → Open (with_descriptor c fd row)
    at_descriptor row each fd =
        found EBADF (λ t. or_refuse EBADF (row t) (map.get t (descriptor fd)))
        (λ t. found EBADF (row t) (each t) (map.get t (descriptor fd))) (s (OfTable c.table))

    gives_open : (cloexec : Bool) (t : Table) (d : Descriptor) (number : ℕ) → Open (gives c cloexec t d number)
    gives_open cloexec t d number =
        behind (followed (counted d.description) (replaced (map.get t number)))
        (followed_open (counted d.description) (replaced (map.get t number)) (counted_open d.description)
        (replaced_open (map.get t number))) c number (map.insert t number (with_mark d cloexec))

    opens_open : (from : ℕ) (cloexec : Bool) (t : Table) (d : Descriptor) → Open (opens_from c from cloexec t d)
    opens_open from cloexec t d =
        found EMFILE (gives c cloexec t d) (gives_open cloexec t d) (lowest_free t from)

    pub dup_open : (fd : ℕ) → Open (dup_row fd c)
    dup_open fd = at_descriptor (opens_from c 0 false) (opens_open 0 false) fd

    pub dup3_open : (fd number flags : ℕ) → Open (dup3_row fd number flags c)
    dup3_open fd number flags =
        either (not (is_cloexec_or_none (flags % 2 ^ 32)) || (descriptor fd == descriptor number)) _ _ tt
        (at_descriptor (gives_at c (descriptor number) (flags % 2 ^ 32))
        (λ t d. either (is_possible (descriptor number)) _ _ (gives_open _ t d (descriptor number)) tt) fd)

    dupfd_open : (from : ℕ) (cloexec : Bool) (t : Table) (d : Descriptor) → Open (dupfd_of from cloexec c t d)
    dupfd_open from cloexec t d = either (is_possible from) _ _ (opens_open from cloexec t d) tt

    command_open : (command argument fd : ℕ) (t : Table) (d : Descriptor)
        → Open (by_command command argument fd c t d)
    command_open command argument fd t d =
        either (command == 0) _ _ (dupfd_open argument false t d)
        (either (command == 1030) _ _ (dupfd_open argument true t d)
        (either (command == 1) _ _ tt
        (either (command == 2) _ _ (tt, tt)
        (either (command == 3) _ _ (at_file tells_status (λ file. tt) d.description)
        (either (command == 4) _ _ (at_file (sets_status d argument) (λ file. (tt, tt)) d.description) tt)))))

    pub fcntl_open : (fd command argument : ℕ) → Open (fcntl_row fd command argument c)
    fcntl_open fd command argument =
        at_descriptor (by_command (command % 2 ^ 32) (argument % 2 ^ 32) (descriptor fd) c)
        (command_open (command % 2 ^ 32) (argument % 2 ^ 32) (descriptor fd)) fd

    pub ioctl_open : (fd : ℕ) → Open (ioctl_row fd c)
    ioctl_open fd = at_descriptor _ (λ t d. tt) fd

    pub close_open : (fd : ℕ) → Open (close_row fd c)
    close_open fd =
        at_descriptor _
        (λ t d. behind (dropped d.description) (dropped_open d.description) c 0 (map.remove t (descriptor fd))) fd

    -- calls at a position change nothing
    positioned_open : (o : Object) → Open (positioned o)
    positioned_open (object.Node ino) = tt
    positioned_open (object.PipeEnd name side) = tt
    positioned_open object.Console = tt
    positioned_open object.EmptyInput = tt

    pub lseek_open : (fd : ℕ) → Open (lseek_row fd c)
    lseek_open fd =
        at_descriptor _ (λ t d. at_file _ (λ file. positioned_open file.description.object) d.description) fd

    opened_open : (may : AccessMode → Bool) (fd : ℕ) → Open (opened_for may c fd (λ d. positioned d.object))
    opened_open may fd =
        at_descriptor _ (λ t d. at_file (if_may may (λ e. positioned e.object))
        (λ file. either (may file.description.access) _ _ (positioned_open file.description.object) tt)
        d.description) fd

    pub pread64_open : (fd : ℕ) → Open (pread64_row fd c)
    pread64_open fd = opened_open may_read fd

    pub pwrite64_open : (fd : ℕ) → Open (pwrite64_row fd c)
    pwrite64_open fd = opened_open may_write fd
