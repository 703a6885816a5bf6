-- Bytes that come from one buffer after another.
use Rattle.std.proofs.Common.{◌≡◌, ℕ, ◌-◌, ◌+◌, ◌≤◌, min, Bool, true, false, List, [], ◌∷◌, ◌++◌, length, take, drop}
use Rattle.std.proofs.Common.{get_or}
use Rattle.std.proofs.Common.{Option, Some, None, refl, ap, sym, subst, ◌∙◌, arith, append_assoc, option_map}
use Rattle.std.proofs.Common.{length-append, length-take, zero, suc}
use Rattle.std.specs.Prelude.{is_some, if◌then◌else◌}
use Rattle.std.specs.FinMap as map
use Rattle.std.proofs.lemmas.List.{take-take, take_min}
use Rattle.std.proofs.lemmas.List.Sums.{sum_by-cons}
use Rattle.std.proofs.Math.Seq.{take-append_seam}
use Rattle.mm_space.specs.Accesses.{byte_at, readable}
use Rattle.mm_areas.specs.declared.rights.Rights.{Rights}
use Rattle.mm_space.specs.Handed.{AreaState, InHand}
use Rattle.mm_space.specs.Spaces.{AddressSpace}
use Rattle.pipe_core.specs.Pipes.{PipeState, after_write}
use Rattle.stat_layout.specs.IoVecs.{total_of}
use Rattle.stat_layout.specs.declared.iovec.IoVec.{IoVec}
use Rattle.task_table.specs.Table.{no_tasks}
use Rattle.kernel_model.specs.Names.{NamedMap, get_named}
use Rattle.kernel_model.specs.declared.kernel.Part.TheVariants.{OfTasks, OfTask, OfSpace, OfArea, OfTable}
use Rattle.kernel_model.specs.declared.kernel.Part.TheVariants.{OfDescription}
use Rattle.kernel_model.specs.declared.kernel.Part.TheVariants.{OfPipe, OfNode, OfSleepers, OfConsole, OfFaults}
use Rattle.kernel_model.specs.machine.Spaces.{reach_with}
use Rattle.kernel_model.specs.calls.Vectors.{are_accessible, gathered, if_some}
use Rattle.kernel_model.specs.entries.Areas.{access_row, bytes_read, bytes_with}
use Rattle.kernel_model.specs.entries.Parts.{Parts, done, outcome_in, ◌>>=◌}
use Rattle.kernel_model.proofs.Trees.{outcome-bind}
use Rattle.guest_access.specs.Lending.{AreThose}
use Rattle.guest_access.specs.Sending.{Sent}
use Rattle.guest_access.proofs.Sendings.{length_from}
use Rattle.call_fs.specs.Records.{AppendedEach, SentEach, buffers_in}
use Rattle.call_fs.specs.declared.vectors.Buffers.{Buffers}
use Rattle.call_fs.specs.declared.vectors.Buffers.TheVariants.{One, Several}
use Rattle.call_fs.proofs.Opened.{accessible_one}
use Rattle.guest_access.proofs.Scattered.{of_first}
use Rattle.call_fs.proofs.Writing.{gathered_one}

-- ---- which bytes they are

-- there are so many where each may be read, and else there are none
abbrev Gives : Option (List ℕ) → ℕ → Bool → Type 0
Gives o total true = (bytes : List ℕ) × ((o ≡ Some bytes) × (length bytes ≡ total))
Gives o total false = o ≡ None

-- behind those of a buffer
gives_more : (first : List ℕ) (count total : ℕ) → length first ≡ count → (o : Option (List ℕ)) (b : Bool)
    → Gives o total b → Gives (option_map (λ bytes. first ++ bytes) o) (count + total) b
gives_more first count total is o true g = (
  first ++ g.0,
  (
    ap (option_map (λ bytes. first ++ bytes)) g.1.0,
    length-append first g.0 ∙ omega (arith, is, g.1.1),
  ),
)
gives_more first count total is o false g = ap (option_map (λ bytes. first ++ bytes)) g

module _ (s : Parts) (space : AddressSpace) (b : IoVec) (buffers : List IoVec) where
  abbrev rest_of : Option (List ℕ) → Option (List ℕ)
  rest_of o =
      outcome_in s (if_some (λ first. gathered space buffers
      >>= λ rest. done (option_map (λ bytes. first ++ bytes) rest)) o)

  -- the first buffer's bytes, and then the others'
  pub gathered_first : outcome_in s (gathered space (b ∷ buffers))
      ≡ rest_of (outcome_in s (bytes_read space b.base b.length))
  gathered_first =
      outcome-bind s (bytes_read space b.base b.length)
      (if_some (λ first. gathered space buffers >>= λ rest. done (option_map (λ bytes. first ++ bytes) rest)))

  pub rest_some : (first : List ℕ)
      → rest_of (Some first) ≡ option_map (λ bytes. first ++ bytes) (outcome_in s (gathered space buffers))
  rest_some first = outcome-bind s (gathered space buffers) (λ rest. done (option_map (λ bytes. first ++ bytes) rest))

  abbrev access : Option (List InHand)
  access = outcome_in s (access_row readable space b.base b.length)

  abbrev allows : Option (List InHand) → Bool
  allows o = outcome_in s (if is_some o then are_accessible readable space buffers else done false)

  allowed_first : outcome_in s (are_accessible readable space (b ∷ buffers)) ≡ allows access
  allowed_first =
      outcome-bind s (access_row readable space b.base b.length)
      (λ hand. if is_some hand then are_accessible readable space buffers else done false)

  read_first : outcome_in s (bytes_read space b.base b.length) ≡ option_map (bytes_with space b.base b.length) access
  read_first =
      outcome-bind s (access_row readable space b.base b.length)
      (λ hand. done (option_map (bytes_with space b.base b.length) hand))

  gives_by : Gives (outcome_in s (gathered space buffers)) (total_of buffers)
      (outcome_in s (are_accessible readable space buffers)) → (o : Option (List InHand))
      → Gives (rest_of (option_map (bytes_with space b.base b.length) o)) (b.length + total_of buffers) (allows o)
  gives_by rest None = refl
  gives_by rest (Some hand) =
      let first : List ℕ = bytes_with space b.base b.length hand in
      subst (λ x. Gives x (b.length + total_of buffers) (outcome_in s (are_accessible readable space buffers)))
      (sym (rest_some first))
      (gives_more first b.length (total_of buffers)
      (length_from (byte_at readable (reach_with space hand)) b.base b.length) (outcome_in s (gathered space buffers))
      (outcome_in s (are_accessible readable space buffers)) rest)

  gives_first : Gives (outcome_in s (gathered space buffers)) (total_of buffers)
      (outcome_in s (are_accessible readable space buffers))
      → Gives (outcome_in s (gathered space (b ∷ buffers))) (total_of (b ∷ buffers))
      (outcome_in s (are_accessible readable space (b ∷ buffers)))
  gives_first rest =
      subst (λ x. Gives x (total_of (b ∷ buffers)) (outcome_in s (are_accessible readable space (b ∷ buffers))))
      (sym (gathered_first ∙ ap rest_of read_first))
      (subst (λ n. Gives (rest_of (option_map (bytes_with space b.base b.length) access)) n
      (outcome_in s (are_accessible readable space (b ∷ buffers))))
      (sym (sum_by-cons (λ (x : IoVec). x.length) b buffers))
      (subst (λ a. Gives (rest_of (option_map (bytes_with space b.base b.length) access))
      (b.length + total_of buffers) a)
      (sym allowed_first) (gives_by rest access)))

  -- how many the first are
  length_by : (o : Option (List InHand)) (bytes : List ℕ)
      → option_map (bytes_with space b.base b.length) o ≡ Some bytes → length bytes ≡ b.length
  length_by None bytes is = absurd (cc is)
  length_by (Some hand) bytes is =
      let same : bytes_with space b.base b.length hand ≡ bytes = cc is in
      ap length (sym same) ∙ length_from (byte_at readable (reach_with space hand)) b.base b.length

  pub length_read : (bytes : List ℕ) → outcome_in s (bytes_read space b.base b.length) ≡ Some bytes
      → length bytes ≡ b.length
  length_read bytes is = length_by access bytes (sym read_first ∙ is)

gives : (s : Parts) (space : AddressSpace) (buffers : List IoVec)
    → Gives (outcome_in s (gathered space buffers)) (total_of buffers)
    (outcome_in s (are_accessible readable space buffers))
gives s space [] = ([], (refl, refl))
gives s space (b ∷ buffers) = gives_first s space b buffers (gives s space buffers)

pub gathered_some : (s : Parts) (space : AddressSpace) (buffers : List IoVec)
    → outcome_in s (are_accessible readable space buffers) ≡ true
    → (bytes : List ℕ) × ((outcome_in s (gathered space buffers) ≡ Some bytes) × (length bytes ≡ total_of buffers))
gathered_some s space buffers so =
    subst (λ b. Gives (outcome_in s (gathered space buffers)) (total_of buffers) b) so (gives s space buffers)

pub gathered_none : (s : Parts) (space : AddressSpace) (buffers : List IoVec)
    → outcome_in s (are_accessible readable space buffers) ≡ false → outcome_in s (gathered space buffers) ≡ None
gathered_none s space buffers so =
    subst (λ b. Gives (outcome_in s (gathered space buffers)) (total_of buffers) b) so (gives s space buffers)

-- ---- into a pipe

-- the first bytes of two runs are those of the first, and then those of the second
take_past : (n : ℕ) (x y : List ℕ) → take n (x ++ y) ≡ take n x ++ take (n - length x) y
take_past zero [] y = refl
take_past (suc n) [] y =
    let same : suc n ≡ suc n - length {A = ℕ} [] = omega arith in
    ap (λ m. take m y) same
take_past zero (a ∷ x) y =
    let same : 0 ≡ 0 - length (a ∷ x) = omega arith in
    ap (λ m. take m y) same
take_past (suc n) (a ∷ x) y =
    let same : n - length x ≡ suc n - length (a ∷ x) = omega arith in
    ap (λ l. a ∷ l) (take_past n x y ∙ ap (λ m. take n x ++ take m y) same)

joined : (taken part : ℕ) (first rest : List ℕ) → part ≡ min taken (length first)
    → take part first ++ take (taken - part) rest ≡ take taken (first ++ rest)
joined taken part first rest is =
    let less : taken - part ≡ taken - length first = omega (arith, is) in
    ap (λ l. l ++ take (taken - part) rest) (ap (λ n. take n first) is ∙ take_min taken first)
    ∙ ap (λ n. take taken first ++ take n rest) less
    ∙ sym (take_past taken first rest)

put_more : (old mid new : PipeState) (taken part : ℕ) (first rest : List ℕ) → part ≡ min taken (length first)
    → mid ≡ after_write old (take part first) → new ≡ after_write mid (take (taken - part) rest)
    → new ≡ after_write old (take taken (first ++ rest))
put_more old mid new taken part first rest is before onward =
    onward
    ∙ ap (λ p. after_write p (take (taken - part) rest)) before
    ∙ ap (λ bs. record { bytes = bs; readers = old.readers; writers = old.writers })
    (append_assoc old.bytes (take part first) (take (taken - part) rest)
    ∙ ap (λ bs. old.bytes ++ bs) (joined taken part first rest is))

-- there is room for the others' bytes behind them
room_behind : (o : Option (List ℕ)) (put : Bool) (taken part : ℕ) (old mid : PipeState) → put ≡ true
    → Sent o put part old mid → part ≤ taken → length old.bytes + taken ≤ 65536
    → length mid.bytes + (taken - part) ≤ 65536
room_behind None put taken part old mid so sent less fits = absurd (cc (so, sent.0))
room_behind (Some bytes) put taken part old mid so sent less fits =
    let grown : length mid.bytes ≡ length old.bytes + length (take part bytes) =
    ap (λ (p : PipeState). length p.bytes) sent.1 ∙ length-append old.bytes (take part bytes) in
    omega (arith, grown, length-take part bytes)

-- what was put of the first, and then of the others
module _ (s : Parts) (space : AddressSpace) (b : IoVec) (buffers : List IoVec) (taken part : ℕ)
    (old mid new : PipeState) (is : part ≡ min taken b.length) where
  behind : (first : List ℕ) → length first ≡ b.length → mid ≡ after_write old (take part first) → (o : Option (List ℕ))
      (sent : Bool) → SentEach o sent (taken - part) mid new
      → SentEach (option_map (λ bytes. first ++ bytes) o) sent taken old new
  behind first long before None sent onward = onward
  behind first long before (Some rest) sent onward = (
    onward.0,
    put_more old mid new taken part first rest (is ∙ ap (min taken) (sym long)) before onward.1,
  )

  by_first : (o : Option (List ℕ)) → outcome_in s (bytes_read space b.base b.length) ≡ o → Sent o true part old mid
      → (sent : Bool) → SentEach (outcome_in s (gathered space buffers)) sent (taken - part) mid new
      → SentEach (rest_of s space b buffers o) sent taken old new
  by_first None read put sent onward = absurd (cc put.0)
  by_first (Some first) read put sent onward =
      subst (λ o. SentEach o sent taken old new) (sym (rest_some s space b buffers first))
      (behind first (length_read s space b buffers first read) put.1 (outcome_in s (gathered space buffers)) sent
      onward)

  put_goes_cons : Sent (outcome_in s (bytes_read space b.base b.length)) true part old mid → (sent : Bool)
      → SentEach (outcome_in s (gathered space buffers)) sent (taken - part) mid new
      → SentEach (outcome_in s (gathered space (b ∷ buffers))) sent taken old new
  put_goes_cons put sent onward =
      subst (λ o. SentEach o sent taken old new) (sym (gathered_first s space b buffers))
      (by_first (outcome_in s (bytes_read space b.base b.length)) refl put sent onward)

pub put_goes : (s : Parts) (space : AddressSpace) (buffers : List IoVec) (d : IoVec) → 1 ≤ length buffers
    → (taken part room : ℕ) (old mid new : PipeState) → part ≡ min (min taken (get_or buffers 0 d).length) room
    → taken ≤ room → length old.bytes + taken ≤ 65536 → (put : Bool) → put ≡ true
    → Sent (outcome_in s (bytes_read space (get_or buffers 0 d).base (get_or buffers 0 d).length)) put part old mid
    → (sent : Bool)
    → (length mid.bytes + (taken - part) ≤ 65536
    → SentEach (outcome_in s (gathered space (take (length buffers - 1) (drop 1 buffers)))) sent (taken - part) mid new)
    → SentEach (outcome_in s (gathered space buffers)) sent taken old new
put_goes s space buffers d some taken part room old mid new is fits whole put so did sent rest =
    let b : IoVec = get_or buffers 0 d in
    let part_is : part ≡ min taken b.length = omega (arith, is, fits) in
    let less : part ≤ taken = omega (arith, is) in
    subst (λ l. SentEach (outcome_in s (gathered space l)) sent taken old new) (sym (of_first buffers d some))
    (put_goes_cons s space b (take (length buffers - 1) (drop 1 buffers)) taken part old mid new part_is
    (subst (λ p. Sent (outcome_in s (bytes_read space b.base b.length)) p part old mid) so did) sent
    (rest (room_behind (outcome_in s (bytes_read space b.base b.length)) put taken part old mid so did less whole)))

-- the first may not be read
stopped : (s : Parts) (space : AddressSpace) (b : IoVec) (buffers : List IoVec) (part : ℕ) (old mid : PipeState)
    (o : Option (List ℕ)) → Sent o false part old mid → rest_of s space b buffers o ≡ None
stopped s space b buffers part old mid None did = refl
stopped s space b buffers part old mid (Some bytes) did = absurd (cc did.0)

pub put_stops : (s : Parts) (space : AddressSpace) (buffers : List IoVec) (d : IoVec) → 1 ≤ length buffers
    → (wanted taken part : ℕ) (old mid new : PipeState) (put : Bool) → wanted ≡ min taken (get_or buffers 0 d).length
    → put ≡ false
    → Sent (outcome_in s (bytes_read space (get_or buffers 0 d).base (get_or buffers 0 d).length)) put part old mid
    → SentEach (outcome_in s (gathered space buffers)) false taken old new
put_stops s space buffers d some wanted taken part old mid new put is so did =
    let b : IoVec = get_or buffers 0 d in
    let rest : List IoVec = take (length buffers - 1) (drop 1 buffers) in
    subst (λ o. SentEach o false taken old new)
    (sym (ap (λ l. outcome_in s (gathered space l)) (of_first buffers d some) ∙ gathered_first s space b rest
    ∙ stopped s space b rest part old mid (outcome_in s (bytes_read space b.base b.length))
    (subst (λ p. Sent (outcome_in s (bytes_read space b.base b.length)) p part old mid) so did))) refl

-- ---- one buffer, or several

pub one_gathered : (s : Parts) (space : AddressSpace) (from : Buffers) (b : IoVec) → from ≡ One b
    → outcome_in s (gathered space (buffers_in from)) ≡ outcome_in s (bytes_read space b.base b.length)
one_gathered s space from b is =
    ap (λ (f : Buffers). outcome_in s (gathered space (buffers_in f))) is ∙ gathered_one s space b

pub several_gathered : (s : Parts) (space : AddressSpace) (from : Buffers) (buffers : List IoVec)
    → from ≡ Several buffers
    → outcome_in s (gathered space (buffers_in from)) ≡ outcome_in s (gathered space buffers)
several_gathered s space from buffers is =
    ap (λ (f : Buffers). outcome_in s (gathered space (buffers_in f))) is

pub one_allowed : (s : Parts) (right : Rights) (space : AddressSpace) (from : Buffers) (b : IoVec) → from ≡ One b
    → outcome_in s (are_accessible right space (buffers_in from))
    ≡ is_some (outcome_in s (access_row right space b.base b.length))
one_allowed s right space from b is =
    ap (λ (f : Buffers). outcome_in s (are_accessible right space (buffers_in f))) is ∙ accessible_one s right space b

-- ---- areas as a state

-- a state with these areas, and nothing else
abbrev pub areas_alone : NamedMap AreaState → Parts
areas_alone areas OfTasks = no_tasks
areas_alone areas (OfTask task) = None
areas_alone areas (OfSpace name) = None
areas_alone areas (OfArea name) = get_named areas name.place name.index
areas_alone areas (OfTable name) = None
areas_alone areas (OfDescription name) = None
areas_alone areas (OfPipe name) = None
areas_alone areas (OfNode ino) = None
areas_alone areas OfSleepers = record { sleepers = []; woken = [] }
areas_alone areas OfConsole = []
areas_alone areas OfFaults = map.empty

pub those_alone : (areas : NamedMap AreaState) → AreThose (areas_alone areas) areas
those_alone areas name = refl

-- a pipe that was written, or not, has as many ends open
ends_of : (o : Option (List ℕ)) (put : Bool) (part : ℕ) (old mid : PipeState) → Sent o put part old mid
    → (mid.readers ≡ old.readers) × (mid.writers ≡ old.writers)
ends_of None put part old mid is = (ap (λ (p : PipeState). p.readers) is.1, ap (λ (p : PipeState). p.writers) is.1)
ends_of (Some bytes) put part old mid is =
    (ap (λ (p : PipeState). p.readers) is.1, ap (λ (p : PipeState). p.writers) is.1)

pub sent_ends : (areas : NamedMap AreaState) (space : AddressSpace) (buffers : List IoVec) (d : IoVec)
    (wanted taken part : ℕ) (old mid : PipeState) (put : Bool) → wanted ≡ min taken (get_or buffers 0 d).length
    → ((s : Parts) → AreThose s areas
    → Sent (outcome_in s (bytes_read space (get_or buffers 0 d).base (get_or buffers 0 d).length)) put part old mid)
    → (mid.readers ≡ old.readers) × (mid.writers ≡ old.writers)
sent_ends areas space buffers d wanted taken part old mid put is sent =
    ends_of (outcome_in (areas_alone areas) (bytes_read space (get_or buffers 0 d).base (get_or buffers 0 d).length))
    put part old mid (sent (areas_alone areas) (those_alone areas))

-- what was there stays in front
pub begins_with : (old mid new first : List ℕ) → mid ≡ old ++ first → take (length mid) new ≡ mid
    → take (length old) new ≡ old
begins_with old mid new first is onward =
    let less : length old ≤ length mid = omega (arith, ap length is, length-append old first) in
    sym (take-take (length old) (length mid) new less) ∙ ap (take (length old)) (onward ∙ is)
    ∙ take-append_seam old first

-- bytes that a pipe had before stay in front, whether it was written or not
begins_of : (o : Option (List ℕ)) (put : Bool) (part : ℕ) (old mid new : PipeState) → Sent o put part old mid
    → take (length mid.bytes) new.bytes ≡ mid.bytes → take (length old.bytes) new.bytes ≡ old.bytes
begins_of None put part old mid new is onward =
    subst (λ (p : PipeState). take (length p.bytes) new.bytes ≡ p.bytes) is.1 onward
begins_of (Some bytes) put part old mid new is onward =
    begins_with old.bytes mid.bytes new.bytes (take part bytes) (ap (λ (p : PipeState). p.bytes) is.1) onward

pub sent_begins : (areas : NamedMap AreaState) (space : AddressSpace) (buffers : List IoVec) (d : IoVec) (part : ℕ)
    (old mid new : PipeState) (put : Bool) → ((s : Parts) → AreThose s areas
    → Sent (outcome_in s (bytes_read space (get_or buffers 0 d).base (get_or buffers 0 d).length)) put part old mid)
    → take (length mid.bytes) new.bytes ≡ mid.bytes → take (length old.bytes) new.bytes ≡ old.bytes
sent_begins areas space buffers d part old mid new put sent onward =
    begins_of (outcome_in (areas_alone areas) (bytes_read space (get_or buffers 0 d).base (get_or buffers 0 d).length))
    put part old mid new (sent (areas_alone areas) (those_alone areas)) onward

-- ---- to the console

module _ (s : Parts) (space : AddressSpace) (b : IoVec) (buffers : List IoVec) (old new : List ℕ) where
  appends_by : (first : List ℕ) (o : Option (List ℕ)) (appended : Bool)
      → AppendedEach o appended (old ++ first) new
      → AppendedEach (option_map (λ bytes. first ++ bytes) o) appended old new
  appends_by first None appended onward = onward
  appends_by first (Some rest) appended onward = (onward.0, onward.1 ∙ append_assoc old first rest)

pub append_goes : (s : Parts) (space : AddressSpace) (buffers : List IoVec) (d : IoVec) → 1 ≤ length buffers
    → (first old mid new : List ℕ) (appended : Bool) → mid ≡ old ++ first
    → outcome_in s (bytes_read space (get_or buffers 0 d).base (get_or buffers 0 d).length) ≡ Some first
    → AppendedEach (outcome_in s (gathered space (take (length buffers - 1) (drop 1 buffers)))) appended mid new
    → AppendedEach (outcome_in s (gathered space buffers)) appended old new
append_goes s space buffers d some first old mid new appended before is onward =
    let b : IoVec = get_or buffers 0 d in
    let rest : List IoVec = take (length buffers - 1) (drop 1 buffers) in
    subst (λ o. AppendedEach o appended old new)
    (sym (ap (λ l. outcome_in s (gathered space l)) (of_first buffers d some) ∙ gathered_first s space b rest
    ∙ ap (rest_of s space b rest) is ∙ rest_some s space b rest first))
    (appends_by s space b rest old new first (outcome_in s (gathered space rest)) appended
    (subst (λ m. AppendedEach (outcome_in s (gathered space rest)) appended m new) before onward))

pub append_stops : (s : Parts) (space : AddressSpace) (buffers : List IoVec) (d : IoVec) → 1 ≤ length buffers
    → (old new : List ℕ)
    → outcome_in s (bytes_read space (get_or buffers 0 d).base (get_or buffers 0 d).length) ≡ None
    → AppendedEach (outcome_in s (gathered space buffers)) false old new
append_stops s space buffers d some old new is =
    let b : IoVec = get_or buffers 0 d in
    let rest : List IoVec = take (length buffers - 1) (drop 1 buffers) in
    subst (λ o. AppendedEach o false old new)
    (sym (ap (λ l. outcome_in s (gathered space l)) (of_first buffers d some) ∙ gathered_first s space b rest
    ∙ ap (rest_of s space b rest) is)) refl
