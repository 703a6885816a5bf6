-- What a call does, piece by piece.
use Rattle.std.proofs.Common.{◌≡◌, ℕ, ◌+◌, Bool, true, false, cond, List, [], ◌∷◌, ◌++◌, Option, Some, None, refl, ap}
use Rattle.std.proofs.Common.{pos}
use Rattle.std.proofs.Common.{sym, ◌∙◌, subst, is_some, ℤ, inl, inr}
use Rattle.std.specs.Prelude.{Result, Ok}
use Rattle.std.specs.List.{list_any}
use Rattle.std.specs.Ordering.{int_eq, nat_cmp}
use Rattle.std.specs.FinMap as map
use Rattle.std.proofs.lemmas.Bool.Decides.{Decides-int_eq}
use Rattle.sn_base.specs.declared.memory.Memory.{Memory}
use Rattle.sn_base.proofs.Maps.{get-insert_same, get-insert_other}
use Rattle.sn_errno.specs.declared.errno.Errno.TheVariants.{EIO}
use Rattle.sn_errno.specs.Errors.{reply_of}
use Rattle.mm_space.specs.Handed.{AreaState}
use Rattle.mm_space.specs.Spaces.{AddressSpace}
use Rattle.kernel_model.specs.Names.{NamedMap, get_named}
use Rattle.kernel_model.specs.declared.caller.Caller.{Caller}
use Rattle.kernel_model.specs.declared.entry.Args.{Args}
use Rattle.kernel_model.specs.declared.kernel.Kernel.{Kernel}
use Rattle.kernel_model.specs.declared.kernel.Part.TheVariants.{OfTask, OfFaults}
use Rattle.kernel_model.specs.declared.opening.Fresh.{Fresh}
use Rattle.kernel_model.specs.declared.opening.Given.{Given}
use Rattle.kernel_model.specs.calls.Answers.{Answer, Key, RowReply, Replies, Sleeps, NotReady, replies}
use Rattle.kernel_model.specs.calls.Callers.{Context, context_of}
use Rattle.kernel_model.specs.calls.Pipes.{pipe_made}
use Rattle.kernel_model.specs.calls.Table.{call_row}
use Rattle.kernel_model.specs.entries.Areas.{Stands, next_row}
use Rattle.kernel_model.specs.entries.Given.{above_last, has_any, is_in_order, Nodes_so_far, faulted, risen, number_all}
use Rattle.kernel_model.specs.entries.Given.{met, node_changes, may_meet}
use Rattle.kernel_model.specs.entries.Parts.{Parts, parts, Prog, done, outcome_in, Change, put, changed, ◌>>=◌}
use Rattle.kernel_model.specs.entries.Steps.{by_answer, by_given, call_at, call_entry, failing, refused_with, going_on}
use Rattle.kernel_model.specs.entries.Steps.{replied_by, replied_to, stands_at}
use Rattle.kernel_model.specs.laws.InPlace.{with_nodes, changed_by}
use Rattle.kernel_model.specs.machine.Registers.{replied}
use Rattle.kernel_model.proofs.CallLemmas.{call_disordered, call_failing}
use Rattle.kernel_model.proofs.Failing.{faulted_is}
use Rattle.kernel_model.proofs.NamedMaps.{same_or_other}
use Rattle.kernel_model.proofs.Trees.{outcome-bind}
use Rattle.kernel_calls.specs.Making.{with_new_child, with_registers, with_new_task, with_words}
use Rattle.guest_access.specs.Memories.{with_memory}
use Rattle.kernel_calls.specs.Prepared.{Comes, with_effect}
use Rattle.kernel_calls.specs.declared.clone.ClonedTask.{ClonedTask}
use Rattle.kernel_calls.specs.declared.clone.Words.{Words}
use Rattle.kernel_calls.specs.declared.prepared.Prepared.{Prepared}
use Rattle.kernel_calls.specs.declared.prepared.Called.{Called as ACalled}
use Rattle.kernel_calls.specs.declared.prepared.Called.TheVariants as called
use Rattle.call_fs.specs.CallEnd.{ComesTo, IsApartIn}
use Rattle.call_fs.specs.Pipes.{MakesPipe as MakesAPipe}
use Rattle.call_fs.specs.Transfers.{after_transfer}
use Rattle.call_fs.specs.declared.call_end.CallEnd.{CallEnd}
use Rattle.call_fs.specs.declared.call_end.CallEnd.TheVariants.{Of, Moves, MakesPipe}
use Rattle.call_fs.specs.declared.pipes.NewPipe.{NewPipe}
use Rattle.call_fs.specs.declared.transfers.Transfer.{Transfer}
use Rattle.plain_steps.specs.Doing.{Does}
use Rattle.node_numbers.specs.Unused.{AreUnused}
use Rattle.node_numbers.proofs.FaultLemmas.{ordered_unused}
use Rattle.node_numbers.proofs.NodesSoFar.{with_nodes_first, changed-append}

-- ---- what a call that met no fault comes to

-- no call so far names a child
kept_unnamed : (row : Prog Answer) (d : ACalled) (c : Caller) (k : Kernel) (space : AddressSpace)
    (areas : NamedMap AreaState) → Comes row d c k space areas → (outcome_in (parts k) row).fresh ≡ []
kept_unnamed row (called.Replies p) c k space areas comes = ap (λ (a : Answer). a.fresh) comes.row_is
kept_unnamed row (called.Makes child) c k space areas comes = ap (λ (a : Answer). a.fresh) comes.row_is
kept_unnamed row (called.Sleeps key) c k space areas comes = ap (λ (a : Answer). a.fresh) comes
kept_unnamed row (called.Waits awaited) c k space areas comes = ap (λ (a : Answer). a.fresh) comes

pub comes_unnamed : (row : Prog Answer) (d : CallEnd) (c : Caller) (k : Kernel) (space : AddressSpace)
    (areas : NamedMap AreaState) → ComesTo row d c k space areas → (outcome_in (parts k) row).fresh ≡ []
comes_unnamed row (Of d) c k space areas comes = kept_unnamed row d c k space areas comes
comes_unnamed row (Moves reply transfer) c k space areas comes = ap (λ (a : Answer). a.fresh) comes.row_is
comes_unnamed row (MakesPipe new) c k space areas comes = ap (λ (a : Answer). a.fresh) comes.row_is

-- so a call that drew a number and met no fault fits nothing,
answer_drawing : (s : Parts) (c : Caller) (reply : ℤ) (given : Given) (answer : Answer) → answer.fresh ≡ []
    → has_any given.fresh ≡ true → outcome_in s (by_answer c reply given answer) ≡ None
answer_drawing s c reply given answer unnamed drew =
    ap (λ (keys : List Key). outcome_in s (by_answer c reply given (record answer { fresh = keys }))) unnamed
    ∙ by given.fresh drew
  where
    none : (b : Bool) → outcome_in s (cond {A = Prog (Option (List Change))} b (done None) (done None)) ≡ None
    none true = refl
    none false = refl

    by : (fresh : List Fresh) → has_any fresh ≡ true
        → outcome_in s (by_answer c reply (record given { fresh = fresh }) (record answer { fresh = [] })) ≡ None
    by [] h = absurd (cc h)
    by (f ∷ fresh) h = none (list_any above_last (f ∷ fresh))

-- and one that drew none does what it comes to
answer_quiet : (s : Parts) (c : Caller) (reply : ℤ) (given : Given) (answer : Answer) → answer.fresh ≡ []
    → has_any given.fresh ≡ false
    → outcome_in s (by_answer c reply given answer) ≡ replied_to c reply (Some []) answer
answer_quiet s c reply given answer unnamed drew =
    ap (λ (keys : List Key). outcome_in s (by_answer c reply given (record answer { fresh = keys }))) unnamed
    ∙ by given.fresh drew
  where
    by : (fresh : List Fresh) → has_any fresh ≡ false
        → outcome_in s (by_answer c reply (record given { fresh = fresh }) (record answer { fresh = [] }))
        ≡ replied_to c reply (Some []) answer
    by [] h = refl
    by (f ∷ fresh) h = absurd (cc h)

-- ---- a call, by what it drew and met

module _ (s : Parts) (context : Context) (c : Caller) (number : ℕ) (args : Args) (reply : ℤ) (given : Given) where
  -- a call, by whether its task stands at it
  entry_at : (b : Bool) → stands_at number args c.registers (outcome_in s (next_row c)).next ≡ b
      → outcome_in s (call_entry context c number args reply given)
      ≡ outcome_in s (cond b (by_given context c number args reply given) (done None))
  entry_at b at =
      outcome-bind s (next_row c) (λ (x : Stands). call_at context c number args reply given x.next)
      ∙ ap (λ b. outcome_in s (cond b (by_given context c number args reply given) (done None))) at

  -- one whose record is in order, and that met no fault, is answered
  given_answered : is_in_order given ≡ true → has_any given.rises ≡ false
      → outcome_in s (by_given context c number args reply given)
      ≡ outcome_in s (by_answer c reply given (outcome_in s (call_row context c number args)))
  given_answered order unfailed =
      ap (λ b. outcome_in s (cond b (cond (has_any given.rises) (failing c reply given)
      (call_row context c number args >>= by_answer c reply given)) (done None))) order
      ∙ ap (λ b. outcome_in s (cond b (failing c reply given)
      (call_row context c number args >>= by_answer c reply given))) unfailed
      ∙ outcome-bind s (call_row context c number args) (by_answer c reply given)

-- a call at which its task does not stand fits nothing
pub call_elsewhere : (k : Kernel) (c : Caller) (number : ℕ) (args : Args) (reply : ℤ) (given : Given)
    → stands_at number args c.registers (outcome_in (parts k) (next_row c)).next ≡ false
    → Does (outcome_in (parts k) (call_entry (context_of k) c number args reply given)) k k (Ok false)
call_elsewhere k c number args reply given elsewhere =
    (entry_at (parts k) (context_of k) c number args reply given false elsewhere, refl)

-- what a call does at which its task stands, for the caller that was left as it was
module _ (k : Kernel) (found c : Caller) (stay : c ≡ found) (number : ℕ) (args : Args)
    (reply told : ℤ) (value : told ≡ reply) (given : Given)
    (stands : stands_at number args found.registers (outcome_in (parts k) (next_row found)).next ≡ true) where
  call_does : (left : Kernel) (r : Result Bool Memory)
      → Does (outcome_in (parts k) (by_given (context_of k) c number args told given)) k left r
      → Does (outcome_in (parts k) (call_entry (context_of k) found number args reply given)) k left r
  call_does left r does =
      subst (λ o. Does o k left r)
      (ap (λ (x : Caller). outcome_in (parts k) (by_given (context_of k) x number args told given)) stay
      ∙ ap (λ v. outcome_in (parts k) (by_given (context_of k) found number args v given)) value
      ∙ sym (entry_at (parts k) (context_of k) found number args reply given true stands)) does

  -- one whose record is in disorder,
  pub call_in_disorder : is_in_order given ≡ false
      → Does (outcome_in (parts k) (call_entry (context_of k) found number args reply given)) k k (Ok false)
  call_in_disorder order =
      call_does k (Ok false) (call_disordered (parts k) (context_of k) c number args told given order, refl)

  -- one that met a rise,
  pub call_that_fails : is_in_order given ≡ true → has_any given.rises ≡ true → (left : Kernel)
      (r : Result Bool Memory) → Does (outcome_in (parts k) (failing c told given)) k left r
      → Does (outcome_in (parts k) (call_entry (context_of k) found number args reply given)) k left r
  call_that_fails order failed left r does =
      call_does left r
      (subst (λ o. Does o k left r)
      (sym (call_failing (parts k) (context_of k) c number args told given failed order)) does)

  -- and one that met nothing
  pub call_answered : is_in_order given ≡ true → has_any given.rises ≡ false → (left : Kernel)
      (r : Result Bool Memory)
      → Does (outcome_in (parts k) (by_answer c told given
      (outcome_in (parts k) (call_row (context_of k) c number args)))) k left r
      → Does (outcome_in (parts k) (call_entry (context_of k) found number args reply given)) k left r
  call_answered order unfailed left r does =
      call_does left r
      (subst (λ o. Does o k left r)
      (sym (given_answered (parts k) (context_of k) c number args told given order unfailed)) does)

-- what a call does that met nothing
module _ (k : Kernel) (c : Caller) (row : Prog Answer) (d : CallEnd) (space : AddressSpace)
    (areas : NamedMap AreaState) (comes : ComesTo row d c k space areas) (reply : ℤ) (given : Given) where
  -- one that drew a number and no more,
  pub call_that_draws : has_any given.fresh ≡ true
      → outcome_in (parts k) (by_answer c reply given (outcome_in (parts k) row)) ≡ None
  call_that_draws drew =
      answer_drawing (parts k) c reply given (outcome_in (parts k) row) (comes_unnamed row d c k space areas comes) drew

  -- and one that drew nothing
  pub call_that_comes : has_any given.fresh ≡ false → (left : Kernel) (r : Result Bool Memory) (told : ℤ)
      → told ≡ reply → Does (replied_to c told (Some []) (outcome_in (parts k) row)) k left r
      → Does (outcome_in (parts k) (by_answer c reply given (outcome_in (parts k) row))) k left r
  call_that_comes drew left r told value does =
      subst (λ o. Does o k left r)
      (ap (λ v. replied_to c v (Some []) (outcome_in (parts k) row)) value
      ∙ sym (answer_quiet (parts k) c reply given (outcome_in (parts k) row)
      (comes_unnamed row d c k space areas comes) drew)) does

-- ---- a task as its call left it

replied_alike : (c : Caller) (space : AddressSpace) (reply : ℤ) (changes : List Change) (r : RowReply)
    → replied_by (record c { space = space }) reply changes r ≡ replied_by c reply changes r
replied_alike c space reply changes (Replies value) = refl
replied_alike c space reply changes Sleeps = refl
replied_alike c space reply changes NotReady = refl

words_alike : (words : Option Words) (c : Caller) (own : AddressSpace) (k : Kernel)
    → with_words words (record c { space = own }) k ≡ with_words words c k
words_alike None c own k = refl
words_alike (Some words) c own k = refl

task_alike : (place : ℕ) (memory : Option AddressSpace) (clear : ℕ) (c : Caller) (own : AddressSpace) (k : Kernel)
    → with_new_task place memory clear (record c { space = own }) k ≡ with_new_task place memory clear c k
task_alike place None clear c own k = refl
task_alike place (Some memory) clear c own k = refl

child_alike : (child : ClonedTask) (place : ℕ) (c : Caller) (own : AddressSpace) (k : Kernel)
    → with_new_child child place (record c { space = own }) k ≡ with_new_child child place c k
child_alike child place c own k =
    ap (with_registers child (k.tasks.last + 1))
    (task_alike place child.memory child.clear c own (with_words child.words (record c { space = own }) k)
    ∙ ap (with_new_task place child.memory child.clear c) (words_alike child.words c own k))

kept_alike : (row : Prog Answer) (d : ACalled) (c : Caller) (own : AddressSpace) (k : Kernel) (space : AddressSpace)
    (areas : NamedMap AreaState) → Comes row d c k space areas → Comes row d (record c { space = own }) k space areas
kept_alike row (called.Replies p) c own k space areas comes =
    record { changes = comes.changes; row_is = comes.row_is; done_is = comes.done_is }
kept_alike row (called.Makes child) c own k space areas comes = record {
  changes = comes.changes;
  row_is = comes.row_is;
  done_is = comes.done_is ∙ sym (child_alike child (k.entries + 1) c own k);
}
kept_alike row (called.Sleeps key) c own k space areas comes = comes
kept_alike row (called.Waits awaited) c own k space areas comes = comes

comes_alike : (row : Prog Answer) (d : CallEnd) (c : Caller) (own : AddressSpace) (k : Kernel) (space : AddressSpace)
    (areas : NamedMap AreaState) → (IsApartIn d → own ≡ c.space) → ComesTo row d c k space areas
    → ComesTo row d (record c { space = own }) k space areas
comes_alike row (Of d) c own k space areas apart comes = kept_alike row d c own k space areas comes
comes_alike row (Moves reply transfer) c own k space areas apart comes =
    record { changes = comes.changes; row_is = comes.row_is; done_is = comes.done_is }
comes_alike row (MakesPipe new) c own k space areas apart comes =
    subst (λ s. MakesAPipe row new (context_of k) (record c { space = s }) k) (sym (apart tt)) comes

-- what a call does for its task as the call left it, it does for the task as it was before
pub finished : (k left : Kernel) (row : Prog Answer) (d : CallEnd) (c after : Caller) (areas : NamedMap AreaState)
    (told : ℤ) (r : Result Bool Memory) → after ≡ record c { space = after.space }
    → (IsApartIn d → after.space ≡ c.space) → ComesTo row d c k after.space areas
    → ((row : Prog Answer) → ComesTo row d after k after.space areas
    → Does (replied_to after told (Some []) (outcome_in (parts k) row)) k left r)
    → Does (replied_to c told (Some []) (outcome_in (parts k) row)) k left r
finished k left row d c after areas told r is apart comes does =
    let answer : Answer = outcome_in (parts k) row in
    subst (λ o. Does o k left r) (replied_alike c after.space told answer.changes answer.reply)
    (subst (λ (x : Caller). (row : Prog Answer) → ComesTo row d x k after.space areas
    → Does (replied_to x told (Some []) (outcome_in (parts k) row)) k left r) is does row
    (comes_alike row d c after.space k after.space areas apart comes))

-- a task whose call leaves memory as it was has it in the kernel
pub memory_stays : (k : Kernel) (c after : Caller) → after ≡ record c { space = after.space } → after.space ≡ c.space
    → get_named k.spaces c.memory.place c.memory.index ≡ Some c.space
    → get_named k.spaces after.memory.place after.memory.index ≡ Some after.space
memory_stays k c after is stays there =
    ap (λ (x : Caller). get_named k.spaces x.memory.place x.memory.index) is ∙ there ∙ ap (λ s. Some s) (sym stays)

pub memory_there : (k : Kernel) (found c : Caller) → c ≡ found
    → get_named k.spaces found.memory.place found.memory.index ≡ Some found.space
    → get_named k.spaces c.memory.place c.memory.index ≡ Some c.space
memory_there k found c stay there =
    ap (λ (x : Caller). get_named k.spaces x.memory.place x.memory.index) stay
    ∙ there
    ∙ ap (λ (x : Caller). Some x.space) (sym stay)

-- ---- what is done of a call, by what has become of it

-- a reply that is not the entry's
differs : (a b : ℤ) → (a ≡ b → ⊥) → int_eq a b ≡ false
differs a b apart = by (int_eq a b) refl
  where
    by : (x : Bool) → int_eq a b ≡ x → int_eq a b ≡ false
    by true e = absurd (apart ((Decides-int_eq a b).0 e))
    by false e = e

-- each row that comes to it is done
abbrev pub Finishes : (k left : Kernel) → Caller → NamedMap AreaState → (reply : ℤ) → Result Bool Memory → CallEnd
    → Type 0
Finishes k left c areas reply r d =
    (row : Prog Answer) → ComesTo row d c k c.space areas
    → Does (replied_to c reply (Some []) (outcome_in (parts k) row)) k left r

module _ (k left : Kernel) (c : Caller) (areas : NamedMap AreaState) (told reply : ℤ) (same : told ≡ reply)
    (r : Result Bool Memory) (d : CallEnd) where
  -- what a row replies, its entry does
  replied_so : (row : Prog Answer) (value : ℤ) (changes : List Change)
      → outcome_in (parts k) row ≡ replies value changes → Does (replied_by c told changes (Replies value)) k left r
      → Does (replied_to c reply (Some []) (outcome_in (parts k) row)) k left r
  replied_so row value changes is does =
      subst (λ (a : Answer). Does (replied_to c reply (Some []) a) k left r) (sym is)
      (subst (λ v. Does (replied_by c v changes (Replies value)) k left r) same does)

  pub finish_replies : (p : Prepared) → d ≡ Of (called.Replies p) → ((changes : List Change)
      → changed changes k ≡ with_effect p.effect c.group (with_memory c c.space areas k)
      → Does (replied_by c told changes (Replies p.reply)) k left r) → Finishes k left c areas reply r d
  finish_replies p is does =
      subst (Finishes k left c areas reply r) (sym is)
      (λ row comes. replied_so row p.reply comes.changes comes.row_is (does comes.changes comes.done_is))

  pub finish_makes : (child : ClonedTask) → d ≡ Of (called.Makes child) → ((changes : List Change)
      → changed changes k ≡ with_new_child child (k.entries + 1) c k
      → Does (replied_by c told changes (Replies (pos (k.tasks.last + 1)))) k left r)
      → Finishes k left c areas reply r d
  finish_makes child is does =
      subst (Finishes k left c areas reply r) (sym is)
      (λ row comes.
      replied_so row (pos (k.tasks.last + 1)) comes.changes comes.row_is (does comes.changes comes.done_is))

  -- bytes that are moved reply their value, and no other,
  pub finish_refused : (value : ℤ) (transfer : Transfer) → d ≡ Moves value transfer → (reply ≡ value → ⊥)
      → (row : Prog Answer) → ComesTo row d c k c.space areas
      → Does (replied_to c reply (Some []) (outcome_in (parts k) row)) k k (Ok false)
  finish_refused value transfer is apart row comes =
      let moves : ComesTo row (Moves value transfer) c k c.space areas =
      subst (λ x. ComesTo row x c k c.space areas) is comes in (
        ap (λ (a : Answer). replied_to c reply (Some []) a) moves.row_is
            ∙ ap (λ b. cond b (Some (moves.changes ++ going_on c value)) None) (differs reply value apart),
        refl,
      )

  pub finish_moves : (value given : ℤ) (transfer : Transfer) → d ≡ Moves value transfer → given ≡ value
      → reply ≡ value → ((changes : List Change)
      → changed changes k ≡ after_transfer transfer c.space (with_memory c c.space areas k)
      → Does (replied_by c given changes (Replies given)) k left r) → Finishes k left c areas reply r d
  finish_moves value given transfer is so agrees does =
      subst (Finishes k left c areas reply r) (sym is)
      (λ row comes.
      replied_so row value comes.changes comes.row_is
      (subst (λ v. Does (replied_by c v comes.changes (Replies value)) k left r) (so ∙ sym agrees ∙ sym same)
      (subst (λ v. Does (replied_by c given comes.changes (Replies v)) k left r) so
      (does comes.changes comes.done_is))))

  pub finish_pipe : (new : NewPipe) → d ≡ MakesPipe new
      → ((row : Prog Answer) (makes : MakesAPipe row new (context_of k) c k)
      → Does (replied_by c told (pipe_made (context_of k) c new.ends.buffer new.ends.flags makes.hand makes.table
      (new.ends.first, new.ends.second)).changes (Replies (pos 0))) k left r) → Finishes k left c areas reply r d
  finish_pipe new is does =
      subst (Finishes k left c areas reply r) (sym is)
      (λ row comes.
      replied_so row (pos 0) (pipe_made (context_of k) c new.ends.buffer new.ends.flags comes.hand comes.table
      (new.ends.first, new.ends.second)).changes comes.row_is (does row comes))

-- ---- a call that is done

-- the call's changes, and then its task behind it
pub call_done : (k : Kernel) (c : Caller) (reply value : ℤ) (changes : List Change) (after left : Kernel)
    → int_eq reply value ≡ true → changed changes k ≡ after
    → left ≡ put (OfTask c.task) (Some (replied c.registers value)) after
    → changed_by (replied_by c reply changes (Replies value)) k ≡ Some left
call_done k c reply value changes after left agrees does goes =
    ap (λ b. changed_by (cond b (Some (changes ++ going_on c value)) None) k) agrees
    ∙ ap (λ x. Some x) (changed-append changes (going_on c value) k)
    ∙ ap (λ x. Some (put (OfTask c.task) (Some (replied c.registers value)) x)) does
    ∙ ap (λ x. Some x) (sym goes)

-- ---- a call in which a host call failed

module _ (c : Caller) (reply : ℤ) (given : Given) where
  failing_is : (s : Parts)
      → outcome_in s (failing c reply given) ≡ refused_with c reply EIO (outcome_in s (faulted given))
  failing_is s = outcome-bind s (faulted given) (λ changes. done (refused_with c reply EIO changes))

  -- it answers EIO and nothing else
  pub failing_other : (s : Parts) → int_eq reply (reply_of EIO) ≡ false → outcome_in s (failing c reply given) ≡ None
  failing_other s differs = failing_is s ∙ by (outcome_in s (faulted given))
    where
      by : (changes : Option (List Change)) → refused_with c reply EIO changes ≡ None
      by None = refl
      by (Some cs) = ap (λ b. cond b (Some (cs ++ going_on c (reply_of EIO))) None) differs

  pub failing_none : (s : Parts) → outcome_in s (faulted given) ≡ None → outcome_in s (failing c reply given) ≡ None
  failing_none s none = failing_is s ∙ ap (refused_with c reply EIO) none

  -- and leaves what was drawn and met, and its task behind the call
  pub failing_some : (k left : Kernel) → int_eq reply (reply_of EIO) ≡ true
      → changed_by (outcome_in (parts k) (faulted given)) k ≡ Some left
      → changed_by (outcome_in (parts k) (failing c reply given)) k
      ≡ Some (put (OfTask c.task) (Some (replied c.registers (reply_of EIO))) left)
  failing_some k left agrees some =
      ap (λ o. changed_by o k) (failing_is (parts k)) ∙ by (outcome_in (parts k) (faulted given)) some
    where
      by : (changes : Option (List Change)) → changed_by changes k ≡ Some left
          → changed_by (refused_with c reply EIO changes) k
          ≡ Some (put (OfTask c.task) (Some (replied c.registers (reply_of EIO))) left)
      by None e = absurd (cc e)
      by (Some cs) e =
          let is : changed cs k ≡ left = cc e in
          ap (λ b. changed_by (cond b (Some (cs ++ going_on c (reply_of EIO))) None) k) agrees
          ∙ ap (λ m. Some m) (changed-append cs (going_on c (reply_of EIO)) k)
          ∙ ap (λ m. Some (put (OfTask c.task) (Some (replied c.registers (reply_of EIO))) m)) is

-- ---- what stays

registers_with_nodes : (nodes : Nodes_so_far) (k : Kernel) → (with_nodes nodes k).registers ≡ k.registers
registers_with_nodes [] k = refl
registers_with_nodes (n ∷ ns) k =
    ap (λ (m : Kernel). m.registers) (with_nodes_first n ns k) ∙ registers_with_nodes ns k

-- what was drawn and met is of no task
pub faulted_registers : (given : Given) (k left : Kernel)
    → changed_by (outcome_in (parts k) (faulted given)) k ≡ Some left → left.registers ≡ k.registers
faulted_registers given k left some =
    by (outcome_in (parts k) (number_all given.fresh []))
    (sym (ap (λ changes. changed_by changes k) (faulted_is (parts k) given)) ∙ some)
  where
    by : (nodes : Option Nodes_so_far) → changed_by (met given nodes k.failed) k ≡ Some left
        → left.registers ≡ k.registers
    by None e = absurd (cc e)
    by (Some ns) e =
        let is : left ≡ changed (node_changes ns ++ (OfFaults, risen given.rises k.failed) ∷ []) k = cc e in
        ap (λ (n : Kernel). n.registers)
        (is ∙ changed-append (node_changes ns) ((OfFaults, risen given.rises k.failed) ∷ []) k)
        ∙ registers_with_nodes ns k

-- ---- numbers that a call draws

-- a call that may be made, and whose record is in order, draws numbers that are unused
pub drawn_unused : (k : Kernel) (given : Given) → may_meet k.nodes given ≡ true → is_in_order given ≡ true
    → AreUnused given.fresh k
drawn_unused k given may order = ordered_unused given k order may

-- ---- a child that is made

task_registers : (place : ℕ) (memory : Option AddressSpace) (clear : ℕ) (c : Caller) (k : Kernel)
    → (with_new_task place memory clear c k).registers ≡ k.registers
task_registers place None clear c k = refl
task_registers place (Some memory) clear c k = refl

words_registers : (words : Option Words) (c : Caller) (k : Kernel) → (with_words words c k).registers ≡ k.registers
words_registers None c k = refl
words_registers (Some words) c k = refl

-- it has registers beside those that there are
child_registers : (child : ClonedTask) (place : ℕ) (c : Caller) (k : Kernel)
    → (with_new_child child place c k).registers ≡ map.insert k.registers (k.tasks.last + 1) child.registers
child_registers child place c k =
    ap (λ m. map.insert m (k.tasks.last + 1) child.registers)
    (task_registers place child.memory child.clear c (with_words child.words c k) ∙ words_registers child.words c k)

has_beside : {V : Type 0} (m : map.FinMap nat_cmp V) (key other : ℕ) (v : V) → map.contains_key m key ≡ true
    → map.contains_key (map.insert m other v) key ≡ true
has_beside m key other v has =
    elim (same_or_other other key) [
      | inl is ↦ ap (λ n. is_some (map.get (map.insert m other v) n)) (sym is)
          ∙ ap is_some (get-insert_same m other v)
      | inr apart ↦ ap is_some (get-insert_other m other key v apart) ∙ has
    ]

pub caller_stays : (child : ClonedTask) (place : ℕ) (c : Caller) (k after : Kernel)
    → with_new_child child place c k ≡ after
    → map.contains_key k.registers c.task ≡ true → map.contains_key after.registers c.task ≡ true
caller_stays child place c k after is has =
    ap (λ (m : Kernel). map.contains_key m.registers c.task) (sym is)
    ∙ ap (λ m. map.contains_key m c.task) (child_registers child place c k)
    ∙ has_beside k.registers c.task (k.tasks.last + 1) child.registers has
