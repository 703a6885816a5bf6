-- Reads and writes that wait, in states that hold the same in what they used.
use Rattle.std.proofs.Common.{◌≡◌, ℕ, zero, suc, ℤ, ◌+◌, min, Bool, true, false, List, [], ◌∷◌, ◌++◌, length, take}
use Rattle.std.proofs.Common.{Option, Some, None, refl, ap, sym, subst, ◌∙◌, option_map}
use Rattle.std.specs.Prelude.{◌*◌, ◌-◌, ◌^◌, ◌==◌, is_some, nat_le, nat_lt, option_and_then, pos, if◌then◌else◌}
use Rattle.std.specs.FinMap as map
use Rattle.sn_errno.specs.Errors.{reply_of}
use Rattle.sn_errno.specs.declared.errno.Errno.TheVariants.{EBADF, EFAULT, EINVAL, ENOSPC}
use Rattle.rv_table.specs.declared.error.Area.{Area}
use Rattle.sn_base.specs.declared.made.Made.{Made}
use Rattle.fd_table.specs.Flags.{may_read, may_write}
use Rattle.fd_table.specs.Tables.{Table}
use Rattle.fd_table.specs.declared.description.Description.{Description}
use Rattle.fd_table.specs.declared.description.Object.{Object}
use Rattle.fd_table.specs.declared.description.Object.TheVariants.{Node, PipeEnd, Console, EmptyInput}
use Rattle.fd_table.specs.declared.description.PipeSide.{PipeSide}
use Rattle.fd_table.specs.declared.descriptor.Descriptor.{Descriptor}
use Rattle.fd_table.specs.declared.flags.AccessMode.{AccessMode}
use Rattle.pipe_core.specs.Pipes.{PipeState, after_read}
use Rattle.mm_areas.specs.declared.rights.Rights.{Rights}
use Rattle.mm_space.specs.Accesses.{readable, writable}
use Rattle.mm_space.specs.Handed.{AreaState, InHand, area_in}
use Rattle.mm_space.specs.Spaces.{AddressSpace, Reach}
use Rattle.stat_layout.specs.IoVecs.{iovecs_in, total_of}
use Rattle.stat_layout.specs.declared.iovec.IoVec.{IoVec}
use Rattle.kernel_model.specs.Names.{get_named}
use Rattle.kernel_model.specs.declared.caller.Caller.{Caller}
use Rattle.kernel_model.specs.declared.kernel.Kernel.{Kernel}
use Rattle.kernel_model.specs.declared.kernel.Part.TheVariants.{OfArea, OfConsole, OfDescription, OfPipe, OfTable}
use Rattle.kernel_model.specs.declared.limits.TheConstants.{CONSOLE_ROOM, MOST_MOVED}
use Rattle.kernel_model.specs.declared.open_files.OpenFile.{OpenFile}
use Rattle.kernel_model.specs.calls.Answers.{Answer, NotReady, Replies, not_ready, refuses, replies}
use Rattle.kernel_model.specs.calls.Lookups.{descriptor, if_may, opened_for, or_refuse, with_file}
use Rattle.kernel_model.specs.calls.ReadWrite.{from_pipe, is_awaited, moved, put_into, read_row, readv_row, reads}
use Rattle.kernel_model.specs.calls.ReadWrite.{reads_into, reads_of, to_pipe, waits, write_row, writes, writes_of}
use Rattle.kernel_model.specs.calls.ReadWrite.{writev_row}
use Rattle.kernel_model.specs.calls.Vectors.{are_accessible, cut, gathered, if_countable, if_some, one_buffer}
use Rattle.kernel_model.specs.calls.Vectors.{scattered}
use Rattle.kernel_model.specs.calls.Vectors.{with_buffers}
use Rattle.kernel_model.specs.entries.Areas.{Tried, Comes, Asks, access_row, access_tried, asked, bytes_read}
use Rattle.kernel_model.specs.entries.Areas.{bytes_with, handed_in}
use Rattle.kernel_model.specs.entries.Areas.{tried_with}
use Rattle.kernel_model.specs.entries.Parts.{Change, IsIn, Parts, Prog, done, look, ◌>>=◌, outcome_in, parts, uses}
use Rattle.kernel_model.proofs.Trees.{outcome_alike, outcome-bind}
use Rattle.kernel_calls.specs.Prepared.{AgreesOnEnd, WaitsWith}
use Rattle.kernel_calls.specs.declared.prepared.Awaited.{Awaited}
use Rattle.call_fs.specs.Asked.{LooksNowhereElse, read_row_by, write_row_by}
use Rattle.call_fs.specs.Lookups.{used_end_at, end_by, end_in, file_at}
use Rattle.call_fs.specs.declared.moving.By.{By}
use Rattle.call_fs.specs.declared.moving.By.TheVariants.{Buffer, Records}
use Rattle.call_fs.proofs.Opened.{accessible_one}
use Rattle.call_fs.proofs.Writing.{gathered_one}

-- ---- what is tried with areas, where each holds the same

module _ {A : Type 0} (a b : Parts) (lacking : A) (rest : List InHand → Prog A)
    (alike : (hand : List InHand) → outcome_in b (rest hand) ≡ outcome_in a (rest hand))
    (same : (name : Area) → b (OfArea name) ≡ a (OfArea name)) (hand : List InHand) where
  state_alike : (area : Area) (o : Option AreaState)
      → outcome_in b (handed_in lacking rest hand area o) ≡ outcome_in a (handed_in lacking rest hand area o)
  state_alike area None = refl
  state_alike area (Some state) = alike (hand ++ record { name = area; state = state } ∷ [])

  look_alike : (area : Area) (has : Bool)
      → outcome_in b (if has then done lacking else look (OfArea area) (handed_in lacking rest hand area))
      ≡ outcome_in a (if has then done lacking else look (OfArea area) (handed_in lacking rest hand area))
  look_alike area true = refl
  look_alike area false =
      ap (λ o. outcome_in b (handed_in lacking rest hand area o)) (same area) ∙ state_alike area (a (OfArea area))

  asked_alike : (t : Tried A) → outcome_in b (asked lacking rest hand t) ≡ outcome_in a (asked lacking rest hand t)
  asked_alike (Comes x) = refl
  asked_alike (Asks area) = look_alike area (is_some (area_in area hand))

module _ {A : Type 0} (a b : Parts) (try : List InHand → Tried A) (lacking : A)
    (same : (name : Area) → b (OfArea name) ≡ a (OfArea name)) where
  tried_alike : (most : ℕ) (hand : List InHand)
      → outcome_in b (tried_with try lacking most hand) ≡ outcome_in a (tried_with try lacking most hand)
  unfolding tried_with
  tried_alike zero hand = refl
  tried_alike (suc n) hand = asked_alike a b lacking (tried_with try lacking n) (tried_alike n) same hand (try hand)

-- an access that asked for no area, or where each holds the same
module _ (s those : Parts) (right : Rights) (space : AddressSpace) (b : IoVec) where
  abbrev access : Prog (Option (List InHand))
  access = access_row right space b.base b.length

  pub access_alike : (areas : Bool) → (areas ≡ false → (t : Parts) → uses t access ≡ [])
      → (areas ≡ true → (name : Area) → those (OfArea name) ≡ s (OfArea name))
      → outcome_in those access ≡ outcome_in s access
  access_alike true unasked same =
      tried_alike s those (access_tried right space b.base b.length) None (same refl) 17 []
  access_alike false unasked same =
      (outcome_alike s those access
      (λ q is. absurd (subst (IsIn q) (unasked refl s) is))).1

-- ---- what waits at a pipe

replies_at_once : (value : ℤ) (changes : List Change) → replies value changes ≡ not_ready → ⊥
replies_at_once value changes e =
    let told : Replies value ≡ NotReady = ap (λ (a : Answer). a.reply) e in
    cc told

-- a row that waits in a state is of the end of a pipe, and waits in another where that pipe is the same
pub record AwaitsPipe (object : Object) (s those : Parts) (row : Prog Answer) : Type 0 where
  pub name : Made
  pub side : PipeSide
  pub is : object ≡ PipeEnd name side
  pub same : those (OfPipe name) ≡ s (OfPipe name) → outcome_in those row ≡ not_ready

awaits_alike : (object : Object) (s those : Parts) (row other : Prog Answer)
    → outcome_in those other ≡ outcome_in those row → AwaitsPipe object s those row → AwaitsPipe object s those other
awaits_alike object s those row other alike awaits =
    record { name = awaits.name; side = awaits.side; is = awaits.is; same = λ pipe. alike ∙ awaits.same pipe }

module _ (c : Caller) (s those : Parts) (nonblock : Bool) where
  -- ---- a read

  module _ (buffers : List IoVec) where
    moved_at_once : (count : ℕ) (changes : List Change) (o : Option Reach) → moved c count changes o ≡ not_ready → ⊥
    moved_at_once count changes None e = replies_at_once (reply_of EFAULT) [] e
    moved_at_once count changes (Some reach) e = replies_at_once _ _ e

    put_at_once : (bytes : List ℕ) (changes : List Change)
        → outcome_in s (put_into c buffers bytes changes) ≡ not_ready → ⊥
    put_at_once bytes changes e =
        moved_at_once (length bytes) changes (outcome_in s (scattered c.task c.space bytes buffers))
        (sym (outcome-bind s (scattered c.task c.space bytes buffers)
        (λ reach. done (moved c (length bytes) changes reach))) ∙ e)

    if_awaited : (bytes : List ℕ) (changes : List Change) (awaited : Bool)
        → outcome_in s (if awaited then done (waits nonblock) else put_into c buffers bytes changes) ≡ not_ready
        → outcome_in those (if awaited then done (waits nonblock) else put_into c buffers bytes changes) ≡ not_ready
    if_awaited bytes changes true e = e
    if_awaited bytes changes false e = absurd (put_at_once bytes changes e)

    of_pipe : (name : Made) (o : Option PipeState)
        → outcome_in s (or_refuse EBADF (from_pipe c nonblock buffers name) o) ≡ not_ready
        → outcome_in those (or_refuse EBADF (from_pipe c nonblock buffers name) o) ≡ not_ready
    of_pipe name None e = e
    of_pipe name (Some pipe) e =
        if_awaited (take (total_of buffers) pipe.bytes)
        ((OfPipe name, Some (after_read pipe (total_of buffers))) ∷ []) (is_awaited pipe) e

    read_awaits : (object : Object) → outcome_in s (reads_of c nonblock buffers object) ≡ not_ready
        → AwaitsPipe object s those (reads_of c nonblock buffers object)
    read_awaits (Node ino) e = absurd (replies_at_once _ _ e)
    read_awaits (PipeEnd name side) e = record {
      name = name;
      side = side;
      is = refl;
      same = λ pipe. ap (λ o. outcome_in those (or_refuse EBADF (from_pipe c nonblock buffers name) o)) pipe
          ∙ of_pipe name (s (OfPipe name)) e;
    }
    read_awaits Console e = absurd (replies_at_once _ _ e)
    read_awaits EmptyInput e = absurd (replies_at_once _ _ e)

  -- ---- a write

  module _ (bytes : List ℕ) where
    appended_at_once : (console : List ℕ) (room : Bool)
        → (if room then replies (pos (length bytes)) ((OfConsole, console ++ bytes) ∷ []) else refuses ENOSPC)
        ≡ not_ready → ⊥
    appended_at_once console true e = replies_at_once _ _ e
    appended_at_once console false e = replies_at_once _ _ e

    to_pipe_alike : (name : Made) (o : Option PipeState)
        → outcome_in s (or_refuse EBADF (λ pipe. done (to_pipe nonblock bytes name pipe)) o) ≡ not_ready
        → outcome_in those (or_refuse EBADF (λ pipe. done (to_pipe nonblock bytes name pipe)) o) ≡ not_ready
    to_pipe_alike name None e = e
    to_pipe_alike name (Some pipe) e = e

    write_awaits : (object : Object) → outcome_in s (writes_of nonblock bytes object) ≡ not_ready
        → AwaitsPipe object s those (writes_of nonblock bytes object)
    write_awaits (Node ino) e = absurd (replies_at_once _ _ e)
    write_awaits (PipeEnd name side) e = record {
      name = name;
      side = side;
      is = refl;
      same = λ pipe. ap (λ o. outcome_in those (or_refuse EBADF (λ p. done (to_pipe nonblock bytes name p)) o)) pipe
          ∙ to_pipe_alike name (s (OfPipe name)) e;
    }
    write_awaits Console e =
        absurd (appended_at_once (s OfConsole) (nat_le (length (s OfConsole) + length bytes) CONSOLE_ROOM) e)
    write_awaits EmptyInput e =
        absurd (appended_at_once (s OfConsole) (nat_le (length (s OfConsole) + length bytes) CONSOLE_ROOM) e)

-- ---- behind the test of buffers

module _ (c : Caller) (d : Description) (buffers : List IoVec) (s those : Parts) where
  abbrev first : List IoVec
  first = cut MOST_MOVED buffers

  module _ (alike : outcome_in those (are_accessible writable c.space first)
      ≡ outcome_in s (are_accessible writable c.space first)) where
    abbrev reads_if : Bool → Prog Answer
    reads_if all = if all then reads_of c d.nonblock first d.object else done (refuses EFAULT)

    into_in : (t : Parts) → outcome_in t (reads_into c d first)
        ≡ outcome_in t (reads_if (outcome_in t (are_accessible writable c.space first)))
    into_in t = outcome-bind t (are_accessible writable c.space first) reads_if

    if_accessible : (all : Bool) → outcome_in s (reads_if all) ≡ not_ready → AwaitsPipe d.object s those (reads_if all)
    if_accessible true e = read_awaits c s those d.nonblock first d.object e
    if_accessible false e = absurd (replies_at_once _ _ e)

    into_awaits : outcome_in s (reads_into c d first) ≡ not_ready
        → AwaitsPipe d.object s those (reads_into c d first)
    into_awaits e =
        let all = outcome_in s (are_accessible writable c.space first) in
        awaits_alike d.object s those (reads_if all) (reads_into c d first)
        (into_in those ∙ ap (λ b. outcome_in those (reads_if b)) alike) (if_accessible all (sym (into_in s) ∙ e))

    if_any : (empty : Bool)
        → outcome_in s (if empty then done (replies (pos 0) []) else reads_into c d first) ≡ not_ready
        → AwaitsPipe d.object s those (if empty then done (replies (pos 0) []) else reads_into c d first)
    if_any true e = absurd (replies_at_once _ _ e)
    if_any false e = into_awaits e

    pub reads_await : outcome_in s (reads c buffers d) ≡ not_ready → AwaitsPipe d.object s those (reads c buffers d)
    reads_await e = if_any (total_of buffers == 0) e

  module _ (alike : outcome_in those (gathered c.space first) ≡ outcome_in s (gathered c.space first)) where
    abbrev writes_if : Option (List ℕ) → Prog Answer
    writes_if = or_refuse EFAULT (λ bytes. writes_of d.nonblock bytes d.object)

    abbrev from_buffers : Prog Answer
    from_buffers = gathered c.space first >>= writes_if

    if_readable : (o : Option (List ℕ)) → outcome_in s (writes_if o) ≡ not_ready
        → AwaitsPipe d.object s those (writes_if o)
    if_readable None e = absurd (replies_at_once _ _ e)
    if_readable (Some bytes) e = write_awaits c s those d.nonblock bytes d.object e

    from_awaits : outcome_in s from_buffers ≡ not_ready → AwaitsPipe d.object s those from_buffers
    from_awaits e =
        awaits_alike d.object s those (writes_if (outcome_in s (gathered c.space first))) from_buffers
        (outcome-bind those (gathered c.space first) writes_if ∙ ap (λ o. outcome_in those (writes_if o)) alike)
        (if_readable (outcome_in s (gathered c.space first))
        (sym (outcome-bind s (gathered c.space first) writes_if) ∙ e))

    unless_empty : (empty : Bool) → outcome_in s (if empty then done (replies (pos 0) []) else from_buffers) ≡ not_ready
        → AwaitsPipe d.object s those (if empty then done (replies (pos 0) []) else from_buffers)
    unless_empty true e = absurd (replies_at_once _ _ e)
    unless_empty false e = from_awaits e

    pub writes_await : outcome_in s (writes c buffers d) ≡ not_ready
        → AwaitsPipe d.object s those (writes c buffers d)
    writes_await e = unless_empty (total_of buffers == 0) e

-- ---- one buffer, which asked for no area, or where each holds the same

module _ (s those : Parts) (space : AddressSpace) (b : IoVec) (areas : Bool)
    (same : areas ≡ true → (name : Area) → those (OfArea name) ≡ s (OfArea name)) where
  abbrev start : IoVec
  start = record { base = b.base; length = min b.length MOST_MOVED }

  abbrev LooksNowhere : Rights → Type 0
  LooksNowhere right = areas ≡ false → (t : Parts) → uses t (access_row right space start.base start.length) ≡ []

  pub one_accessible : LooksNowhere writable → outcome_in those (are_accessible writable space (start ∷ []))
      ≡ outcome_in s (are_accessible writable space (start ∷ []))
  one_accessible unasked =
      accessible_one those writable space start
      ∙ ap (λ (o : Option (List InHand)). is_some o) (access_alike s those writable space start areas unasked same)
      ∙ sym (accessible_one s writable space start)

  start_in : (t : Parts) → outcome_in t (gathered space (start ∷ []))
      ≡ option_map (bytes_with space start.base start.length)
      (outcome_in t (access_row readable space start.base start.length))
  start_in t =
      gathered_one t space start
      ∙ outcome-bind t (access_row readable space start.base start.length)
      (λ hand. done (option_map (bytes_with space start.base start.length) hand))

  pub one_gathered : LooksNowhere readable
      → outcome_in those (gathered space (start ∷ [])) ≡ outcome_in s (gathered space (start ∷ []))
  one_gathered unasked =
      start_in those
      ∙ ap (option_map (bytes_with space start.base start.length))
      (access_alike s those readable space start areas unasked same)
      ∙ sym (start_in s)

-- ---- several buffers and their records, where each area holds the same

module _ (s those : Parts) (space : AddressSpace) (same : (name : Area) → those (OfArea name) ≡ s (OfArea name)) where
  same_access : (right : Rights) (at count : ℕ)
      → outcome_in those (access_row right space at count) ≡ outcome_in s (access_row right space at count)
  same_access right at count = tried_alike s those (access_tried right space at count) None same 17 []

  same_bytes : (at count : ℕ) → outcome_in those (bytes_read space at count) ≡ outcome_in s (bytes_read space at count)
  same_bytes at count =
      outcome-bind those (access_row readable space at count)
      (λ hand. done (option_map (bytes_with space at count) hand))
      ∙ ap (option_map (bytes_with space at count)) (same_access readable at count)
      ∙ sym (outcome-bind s (access_row readable space at count)
      (λ hand. done (option_map (bytes_with space at count) hand)))

  abbrev tested : Rights → List IoVec → Option (List InHand) → Prog Bool
  tested right buffers hand = if is_some hand then are_accessible right space buffers else done false

  tested_alike : (right : Rights) (buffers : List IoVec)
      → outcome_in those (are_accessible right space buffers) ≡ outcome_in s (are_accessible right space buffers)
      → (hand : Option (List InHand))
      → outcome_in those (tested right buffers hand) ≡ outcome_in s (tested right buffers hand)
  tested_alike right buffers e None = refl
  tested_alike right buffers e (Some hand) = e

  pub all_accessible : (right : Rights) (buffers : List IoVec)
      → outcome_in those (are_accessible right space buffers) ≡ outcome_in s (are_accessible right space buffers)
  all_accessible right [] = refl
  all_accessible right (b ∷ buffers) =
      outcome-bind those (access_row right space b.base b.length) (tested right buffers)
      ∙ ap (λ o. outcome_in those (tested right buffers o)) (same_access right b.base b.length)
      ∙ tested_alike right buffers (all_accessible right buffers)
      (outcome_in s (access_row right space b.base b.length))
      ∙ sym (outcome-bind s (access_row right space b.base b.length) (tested right buffers))

  abbrev joined : List ℕ → Option (List ℕ) → Prog (Option (List ℕ))
  joined head rest = done (option_map (λ bytes. head ++ bytes) rest)

  abbrev behind_head : List IoVec → List ℕ → Prog (Option (List ℕ))
  behind_head buffers head = gathered space buffers >>= joined head

  gathered_alike : (buffers : List IoVec)
      → outcome_in those (gathered space buffers) ≡ outcome_in s (gathered space buffers) → (head : Option (List ℕ))
      → outcome_in those (if_some (behind_head buffers) head) ≡ outcome_in s (if_some (behind_head buffers) head)
  gathered_alike buffers e None = refl
  gathered_alike buffers e (Some head) =
      outcome-bind those (gathered space buffers) (joined head)
      ∙ ap (λ o. outcome_in those (joined head o)) e
      ∙ sym (outcome-bind s (gathered space buffers) (joined head))

  pub all_gathered : (buffers : List IoVec)
      → outcome_in those (gathered space buffers) ≡ outcome_in s (gathered space buffers)
  all_gathered [] = refl
  all_gathered (b ∷ buffers) =
      outcome-bind those (bytes_read space b.base b.length) (if_some (behind_head buffers))
      ∙ ap (λ o. outcome_in those (if_some (behind_head buffers) o)) (same_bytes b.base b.length)
      ∙ gathered_alike buffers (all_gathered buffers) (outcome_in s (bytes_read space b.base b.length))
      ∙ sym (outcome-bind s (bytes_read space b.base b.length) (if_some (behind_head buffers)))

  module _ (c : Caller) (is : space ≡ c.space) (at count : ℕ) (row : List IoVec → Prog Answer) (object : Object)
      (awaits : (buffers : List IoVec) → outcome_in s (row buffers) ≡ not_ready
      → AwaitsPipe object s those (row buffers))
    where
      abbrev records_of : Option (List ℕ) → Prog Answer
      records_of = or_refuse EFAULT (λ records. if_countable row (iovecs_in records))

      abbrev read_first : Prog Answer
      read_first = bytes_read c.space at (16 * count) >>= records_of

      if_counted : (buffers : List IoVec) (many : Bool)
          → outcome_in s (if many then done (refuses EINVAL) else row buffers) ≡ not_ready
          → AwaitsPipe object s those (if many then done (refuses EINVAL) else row buffers)
      if_counted buffers true e = absurd (replies_at_once _ _ e)
      if_counted buffers false e = awaits buffers e

      if_there : (o : Option (List ℕ)) → outcome_in s (records_of o) ≡ not_ready
          → AwaitsPipe object s those (records_of o)
      if_there None e = absurd (replies_at_once _ _ e)
      if_there (Some records) e =
          if_counted (iovecs_in records) (nat_lt (2 ^ 63 - 1) (total_of (iovecs_in records))) e

      records_await : outcome_in s read_first ≡ not_ready → AwaitsPipe object s those read_first
      records_await e =
          let read = bytes_read c.space at (16 * count) in
          awaits_alike object s those (records_of (outcome_in s read)) read_first
          (outcome-bind those read records_of
          ∙ ap (λ o. outcome_in those (records_of o))
          (subst (λ (m : AddressSpace). outcome_in those (bytes_read m at (16 * count))
          ≡ outcome_in s (bytes_read m at (16 * count))) is (same_bytes at (16 * count))))
          (if_there (outcome_in s read) (sym (outcome-bind s read records_of) ∙ e))

      if_few : (many : Bool) → outcome_in s (if many then done (refuses EINVAL) else read_first) ≡ not_ready
          → AwaitsPipe object s those (if many then done (refuses EINVAL) else read_first)
      if_few true e = absurd (replies_at_once _ _ e)
      if_few false e = records_await e

      pub buffers_await : outcome_in s (with_buffers c at count row) ≡ not_ready
          → AwaitsPipe object s those (with_buffers c at count row)
      buffers_await e = if_few (nat_lt 1024 count) e

-- ---- by a register's open file

module _ (may : AccessMode → Bool) (body : Description → Prog Answer) (c : Caller) (k : Kernel) (fd : ℕ) (those : Parts)
    (awaits : (d : Description) → outcome_in (parts k) (body d) ≡ not_ready
    → AwaitsPipe d.object (parts k) those (body d)) where
  abbrev opens : Descriptor → Prog Answer
  opens d = with_file d.description (if_may may body)

  abbrev TableStays : Type 0
  TableStays = those (OfTable c.table) ≡ get_named k.files.tables c.table.place c.table.index

  abbrev FileStays : Descriptor → Type 0
  FileStays d = those (OfDescription d.description) ≡ file_at k.files d

  by_access : (d : Descriptor) (file : OpenFile) (allowed : Bool)
      → outcome_in (parts k) (if allowed then body file.description else done (refuses EBADF)) ≡ not_ready
      → AgreesOnEnd (end_by d.description file.description.object) c.table (parts k) those
      → TableStays × FileStays d
      × (outcome_in those (if allowed then body file.description else done (refuses EBADF)) ≡ not_ready)
  by_access d file true e agrees =
      let at = awaits file.description e in
      let ends = subst (λ o. AgreesOnEnd (end_by d.description o) c.table (parts k) those) at.is agrees in
      (ends.0, ends.1, at.same ends.2)
  by_access d file false e agrees = absurd (replies_at_once _ _ e)

  by_description : (d : Descriptor) (o : Option OpenFile) → file_at k.files d ≡ o
      → outcome_in (parts k) (or_refuse EBADF (if_may may body) o) ≡ not_ready
      → AgreesOnEnd (option_and_then (λ file. end_by d.description file.description.object) o) c.table (parts k) those
      → TableStays × (outcome_in those (opens d) ≡ not_ready)
  by_description d None is e agrees = absurd (replies_at_once _ _ e)
  by_description d (Some file) is e agrees =
      let at = by_access d file (may file.description.access) e agrees in
      (at.0, ap (λ o. outcome_in those (or_refuse EBADF (if_may may body) o)) (at.1 ∙ is) ∙ at.2)

  by_number : (o : Option Descriptor) → outcome_in (parts k) (or_refuse EBADF opens o) ≡ not_ready
      → AgreesOnEnd (option_and_then (used_end_at k.files) o) c.table (parts k) those
      → TableStays × (outcome_in those (or_refuse EBADF opens o) ≡ not_ready)
  by_number None e agrees = absurd (replies_at_once _ _ e)
  by_number (Some d) e agrees = by_description d (file_at k.files d) refl e agrees

  by_table : (o : Option Table) → get_named k.files.tables c.table.place c.table.index ≡ o
      → outcome_in (parts k) (or_refuse EBADF (λ t. or_refuse EBADF opens (map.get t (descriptor fd))) o) ≡ not_ready
      → AgreesOnEnd (option_and_then (used_end_at k.files) (option_and_then (λ t. map.get t (descriptor fd)) o)) c.table
      (parts k) those → outcome_in those (opened_for may c fd body) ≡ not_ready
  by_table None is e agrees = absurd (replies_at_once _ _ e)
  by_table (Some t) is e agrees =
      let at = by_number (map.get t (descriptor fd)) e agrees in
      ap (λ o. outcome_in those (or_refuse EBADF (λ t. or_refuse EBADF opens (map.get t (descriptor fd))) o))
      (at.0 ∙ is)
      ∙ at.1

  opened_awaits : outcome_in (parts k) (opened_for may c fd body) ≡ not_ready
      → AgreesOnEnd (end_in k.files c.table (descriptor fd)) c.table (parts k) those
      → outcome_in those (opened_for may c fd body) ≡ not_ready
  opened_awaits e agrees = by_table (get_named k.files.tables c.table.place c.table.index) refl e agrees

-- ---- the calls

module _ (c : Caller) (k : Kernel) (fd : ℕ) (awaited : Awaited)
    (end : awaited.end ≡ end_in k.files c.table (descriptor fd)) where
  module _ (buffer count : ℕ) (own : AddressSpace) (same : own ≡ c.space) where
    abbrev whole : IoVec
    whole = record { base = buffer; length = count }

    abbrev AsksNowhere : Rights → AddressSpace → Type 0
    AsksNowhere right space =
        awaited.areas ≡ false → (t : Parts) → uses t (access_row right space buffer (min count MOST_MOVED)) ≡ []

    read_waits : AsksNowhere writable own → outcome_in (parts k) (read_row fd buffer count c) ≡ not_ready
        → WaitsWith awaited c.table (parts k) (λ of_row. read_row fd buffer count c)
    read_waits unasked is of_row those agrees =
        opened_awaits may_read (reads c (one_buffer buffer count)) c k fd those
        (λ d. reads_await c d (one_buffer buffer count) (parts k) those
        (one_accessible (parts k) those c.space whole awaited.areas agrees.areas
        (subst (AsksNowhere writable) same unasked))) is
        (subst (λ e. AgreesOnEnd e c.table (parts k) those) end agrees.end)

    write_waits : AsksNowhere readable own → outcome_in (parts k) (write_row fd buffer count c) ≡ not_ready
        → WaitsWith awaited c.table (parts k) (λ of_row. write_row fd buffer count c)
    write_waits unasked is of_row those agrees =
        opened_awaits may_write (writes c (one_buffer buffer count)) c k fd those
        (λ d. writes_await c d (one_buffer buffer count) (parts k) those
        (one_gathered (parts k) those c.space whole awaited.areas agrees.areas
        (subst (AsksNowhere readable) same unasked))) is
        (subst (λ e. AgreesOnEnd e c.table (parts k) those) end agrees.end)

  module _ (records count : ℕ) (all : awaited.areas ≡ true) where
    readv_waits : outcome_in (parts k) (readv_row fd records count c) ≡ not_ready
        → WaitsWith awaited c.table (parts k) (λ of_row. readv_row fd records count c)
    readv_waits is of_row those agrees =
        opened_awaits may_read (λ d. with_buffers c records count (λ buffers. reads c buffers d)) c k fd those
        (λ d. buffers_await (parts k) those c.space (agrees.areas all) c refl records count
        (λ buffers. reads c buffers d) d.object
        (λ buffers. reads_await c d buffers (parts k) those
        (all_accessible (parts k) those c.space (agrees.areas all) writable (cut MOST_MOVED buffers)))) is
        (subst (λ e. AgreesOnEnd e c.table (parts k) those) end agrees.end)

    writev_waits : outcome_in (parts k) (writev_row fd records count c) ≡ not_ready
        → WaitsWith awaited c.table (parts k) (λ of_row. writev_row fd records count c)
    writev_waits is of_row those agrees =
        opened_awaits may_write (λ d. with_buffers c records count (λ buffers. writes c buffers d)) c k fd those
        (λ d. buffers_await (parts k) those c.space (agrees.areas all) c refl records count
        (λ buffers. writes c buffers d) d.object
        (λ buffers. writes_await c d buffers (parts k) those
        (all_gathered (parts k) those c.space (agrees.areas all) (cut MOST_MOVED buffers)))) is
        (subst (λ e. AgreesOnEnd e c.table (parts k) those) end agrees.end)

  module _ (at count : ℕ) (own : AddressSpace) (same : own ≡ c.space) where
    pub reading_waits : (by : By) → LooksNowhereElse by awaited.areas writable own at count
        → outcome_in (parts k) (read_row_by by fd at count c) ≡ not_ready
        → WaitsWith awaited c.table (parts k) (λ of_row. read_row_by by fd at count c)
    reading_waits Buffer looks is = read_waits at count own same looks is
    reading_waits Records looks is = readv_waits at count looks is

    pub writing_waits : (by : By) → LooksNowhereElse by awaited.areas readable own at count
        → outcome_in (parts k) (write_row_by by fd at count c) ≡ not_ready
        → WaitsWith awaited c.table (parts k) (λ of_row. write_row_by by fd at count c)
    writing_waits Buffer looks is = write_waits at count own same looks is
    writing_waits Records looks is = writev_waits at count looks is
