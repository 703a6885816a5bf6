-- What has become of a call of any number.
use Rattle.std.specs.Prelude.{⊤}
use Rattle.mm_space.specs.Handed.{AreaState}
use Rattle.mm_space.specs.Spaces.{AddressSpace}
use Rattle.kernel_model.specs.Names.{NamedMap}
use Rattle.kernel_model.specs.declared.caller.Caller.{Caller}
use Rattle.kernel_model.specs.declared.kernel.Kernel.{Kernel}
use Rattle.kernel_model.specs.declared.open_files.OpenFiles.{OpenFiles}
use Rattle.kernel_model.specs.calls.Answers.{Answer}
use Rattle.kernel_model.specs.calls.Callers.{context_of}
use Rattle.kernel_model.specs.entries.Parts.{Prog}
use Rattle.kernel_calls.specs.Prepared.{Comes, IsApart}
use Rattle.kernel_calls.specs.declared.prepared.Called.{Called as ACalled}
use Rattle.call_fs.specs.Pipes.{MakesPipe as MakesAPipe}
use Rattle.call_fs.specs.Transfers.{AnswersTransfer, FitsPipe}
use Rattle.call_fs.specs.declared.call_end.CallEnd.{CallEnd}
use Rattle.call_fs.specs.declared.call_end.CallEnd.TheVariants.{Of, Moves, MakesPipe}
use Rattle.call_fs.specs.declared.transfers.Transfer.{Transfer}
use Rattle.call_fs.specs.declared.transfers.Transfer.TheVariants.{Nothing, Takes, Puts, Appends}
use Rattle.call_fs.specs.declared.transfers.Transferred.{Transferred}
use Rattle.call_fs.specs.declared.transfers.Transferred.TheVariants.{Replies, Waits}

-- a row comes to what has become of a call: what kernel_calls has, or bytes are moved beside what memory is then, or a
-- pipe is made
-- syscall(2); read(2); write(2); readv(2); pipe(2)
abbrev pub ComesTo : Prog Answer → CallEnd → Caller → Kernel → AddressSpace → NamedMap AreaState → Type 0
ComesTo row (Of d) c k space areas = Comes row d c k space areas
ComesTo row (Moves reply transfer) c k space areas = AnswersTransfer row reply transfer c k space areas
ComesTo row (MakesPipe new) c k space areas = MakesAPipe row new (context_of k) c k

-- moving bytes takes memory, where they come from a buffer
-- write(2); profile
abbrev pub MayLack : Transfer → Type 0
MayLack Nothing = ⊥
MayLack (Takes pipe count) = ⊥
MayLack (Puts pipe from taken) = ⊤
MayLack (Appends from) = ⊤

-- what a read or a write has left to do takes memory, or it waits
-- profile
abbrev pub IsApartBy : Transferred → Type 0
IsApartBy (Replies reply transfer) = MayLack transfer
IsApartBy (Waits pipe) = ⊤

-- what is left to do takes memory, or there is nothing to do
-- profile
abbrev pub IsApartIn : CallEnd → Type 0
IsApartIn (Of d) = IsApart d
IsApartIn (Moves reply transfer) = MayLack transfer
IsApartIn (MakesPipe new) = ⊤

-- where bytes are put into a pipe there is room
-- pipe(7), Pipe capacity
abbrev pub HasRoomIn : CallEnd → OpenFiles → Type 0
HasRoomIn (Of d) files = ⊤
HasRoomIn (Moves reply transfer) files = FitsPipe transfer files
HasRoomIn (MakesPipe new) files = ⊤

-- a fact of what kernel_calls has
-- profile
abbrev pub IfOf : CallEnd → (ACalled → Type 0) → Type 0
IfOf (Of d) fact = fact d
IfOf (Moves reply transfer) fact = ⊤
IfOf (MakesPipe new) fact = ⊤
