-- What a run of turns is to a kernel's history.
use Rattle.std.proofs.Common.{◌≡◌, ◌⊎◌, inl, inr, ℕ, ◌≤◌, true, List, length, refl, ap, sym, ◌∙◌, subst, arith}
use Rattle.std.specs.Prelude.{Option, Some, None, IfSome, IsSomeAnd, option_map}
use Rattle.std.specs.FinMap as map
use Rattle.std.specs.Ordering.{nat_cmp}
use Rattle.mount_file.specs.declared.mounts.Mounts.{Mounts}
use Rattle.kernel_model.specs.declared.entry.Entry.{Entry}
use Rattle.kernel_model.specs.declared.kernel.Kernel.{Kernel}
use Rattle.kernel_model.specs.files.FileTree.{Nodes}
use Rattle.kernel_model.specs.entries.Given.{has_any}
use Rattle.kernel_model.specs.entries.History.{any_live, replay, each_whole}
use Rattle.kernel_model.specs.entries.Ready.{ready_numbers}
use Rattle.call_table.specs.declared.processes.Processes.{Processes}
use Rattle.call_table.specs.Processes.{kernel_of_processes}
use Rattle.call_table.specs.Turns.{AreStill, Leaves}
use Rattle.sentry_run.specs.declared.play.End.{End}
use Rattle.sentry_run.specs.declared.play.End.TheVariants as ends
use Rattle.proc_cells.specs.Beside.{Beside}
use Rattle.run_opening.specs.Openings.{beside_of, numbering_of}
use Rattle.run_opening.specs.Told.{TreesTold, kernel_told, nodes_told}
use Rattle.sentry_run.specs.Played.{RanFrom, TraceOf, over_nodes, over_told}
use Rattle.sentry_run.specs.Stopped.{FinishesAs}

-- the same nodes beside a kernel that has them
over_itself : (m : Mounts) (nodes : Nodes) (state : Kernel) → Leaves (beside_of m nodes) (Some state)
    → over_nodes m nodes state ≡ state
over_itself m nodes state l =
    ap (λ ns. record state { nodes = ns; failed = map.empty; mounts = m.mounts; seed = m.seed }) (sym l.0)
    ∙ ap (λ (f : map.FinMap nat_cmp ℕ). record state { failed = f; mounts = m.mounts; seed = m.seed }) (sym l.1)
    ∙ ap (λ ms. record state { mounts = ms; seed = m.seed }) (sym l.2)
    ∙ ap (λ seed. record state { seed = seed }) (sym l.3)

module _ (m : Mounts) (f : TreesTold) (nodes : Nodes) (are : nodes_told (numbering_of m.mounts) f ≡ Some nodes) where
  -- the kernel that is told, of processes that ended so
  tells_over : (k : Kernel) → over_told m f k ≡ Some (over_nodes m nodes k)
  tells_over k = ap (option_map (λ ns. over_nodes m ns k)) are

  left : (start : Kernel) (trace : List Entry) (found : Option Kernel) → replay start trace ≡ found
      → Leaves (beside_of m nodes) found → each_whole start trace ≡ true → RanFrom m f start ends.Memory trace
  left start trace None e l whole = absurd l
  left start trace (Some state) e l whole =
      (state, (e, whole), tells_over state ∙ ap Some (over_itself m nodes state l))

  ended : (k : Kernel) (fact : Kernel → Type 0) → fact (over_nodes m nodes k) → IsSomeAnd (over_told m f k) fact
  ended k fact h = subst (λ (o : Option Kernel). IsSomeAnd o fact) (sym (tells_over k)) h

  ran_from : (o : Option Processes) (trace : List Entry) (end : End) (start : Kernel)
      → Leaves (beside_of m nodes) (replay start trace)
      → IfSome o (λ p. replay start trace ≡ Some (kernel_of_processes p (beside_of m nodes) (length trace)))
      → each_whole start trace ≡ true
      → length trace ≤ m.entries → IfSome o (λ p. AreStill p ⊎ (length trace ≡ m.entries))
      → FinishesAs o (length trace) m.entries end → RanFrom m f start end trace
  ran_from None trace end start leaves state whole bound stop fin =
      subst (λ (x : End). RanFrom m f start x trace) (sym fin) (left start trace (replay start trace) refl leaves whole)
  ran_from (Some p) trace (ends.Done k) start leaves state whole bound stop fin =
      let same : over_nodes m nodes k ≡ kernel_of_processes p (beside_of m nodes) (length trace) = ap
      (over_nodes m nodes) fin.1 in
      ended k _ ((state ∙ ap Some (sym same), whole), ap any_live same ∙ fin.0)
  ran_from (Some p) trace (ends.Full k) start leaves state whole bound stop fin =
      let same : over_nodes m nodes k ≡ kernel_of_processes p (beside_of m nodes) (length trace) = ap
      (over_nodes m nodes) fin.2 in
      ended k _ ((state ∙ ap Some (sym same), whole), ap any_live same ∙ fin.0, fin.1)
  ran_from (Some p) trace (ends.Stuck k) start leaves state whole bound stop fin =
      let same : over_nodes m nodes k ≡ kernel_of_processes p (beside_of m nodes) (length trace) = ap
      (over_nodes m nodes) fin.2 in
      ended k _ (
        (state ∙ ap Some (sym same), whole),
        record {
          lives = ap any_live same ∙ fin.0;
          short = omega (arith, bound, fin.1);
          still =
              ap (λ x. has_any (ready_numbers x)) same
              ∙ elim stop [ inl h ↦ h (beside_of m nodes) (length trace) | inr h ↦ absurd (fin.1 h) ];
        },
      )
  ran_from (Some p) trace ends.Memory start leaves state whole bound stop fin = absurd fin
  ran_from (Some p) trace (ends.Image task errno) start leaves state whole bound stop fin = absurd fin
  ran_from (Some p) trace ends.HostFault start leaves state whole bound stop fin = absurd fin
  ran_from (Some p) trace (ends.Grant mount) start leaves state whole bound stop fin = absurd fin

-- what a run left, with these nodes beside it
state_with : (m : Mounts) (seed : List ℕ) (o : Option Processes) (first : Processes) (trace : List Entry)
    (nodes : Nodes) → m.seed ≡ seed
    → IfSome o (λ p. (beside : Beside) → beside.seed ≡ seed
    → replay (kernel_of_processes first beside 0) trace ≡ Some (kernel_of_processes p beside (length trace)))
    → IfSome o (λ p. replay (kernel_of_processes first (beside_of m nodes) 0) trace
    ≡ Some (kernel_of_processes p (beside_of m nodes) (length trace)))
state_with m seed None first trace nodes same h = tt
state_with m seed (Some p) first trace nodes same h = h (beside_of m nodes) same

-- a run of turns, from the kernel that is told before it
pub ran_told : (m : Mounts) (f : TreesTold) (seed : List ℕ) (first : Processes) (o : Option Processes)
    (trace : List Entry) (end : End) → m.seed ≡ seed
    → ((beside : Beside) → beside.seed ≡ seed → Leaves beside (replay (kernel_of_processes first beside 0) trace))
    → IfSome o (λ p. (beside : Beside) → beside.seed ≡ seed
    → replay (kernel_of_processes first beside 0) trace ≡ Some (kernel_of_processes p beside (length trace)))
    → ((beside : Beside) → beside.seed ≡ seed → each_whole (kernel_of_processes first beside 0) trace ≡ true)
    → length trace ≤ m.entries → IfSome o (λ p. AreStill p ⊎ (length trace ≡ m.entries))
    → FinishesAs o (length trace) m.entries end
    → IfSome (kernel_told m f first 0) (λ k. RanFrom m f k end trace)
ran_told m f seed first o trace end same history state whole bound stop fin =
    by (nodes_told (numbering_of m.mounts) f) refl
  where
    by : (ns : Option Nodes) → nodes_told (numbering_of m.mounts) f ≡ ns
        → IfSome (option_map (λ nodes. kernel_of_processes first (beside_of m nodes) 0) ns)
        (λ k. RanFrom m f k end trace)
    by None e = tt
    by (Some nodes) e =
        ran_from m f nodes e o trace end (kernel_of_processes first (beside_of m nodes) 0)
        (history (beside_of m nodes) same)
        (state_with m seed o first trace nodes same state) (whole (beside_of m nodes) same) bound stop fin

-- what its end says of the trace, whatever is told
pub ended_trace : (entries : ℕ) (o : Option Processes) (trace : List Entry) (end : End) → length trace ≤ entries
    → FinishesAs o (length trace) entries end → TraceOf entries end trace
ended_trace entries None trace end bound fin = subst (λ (x : End). TraceOf entries x trace) (sym fin) tt
ended_trace entries (Some p) trace (ends.Done k) bound fin = tt
ended_trace entries (Some p) trace (ends.Full k) bound fin = fin.1
ended_trace entries (Some p) trace (ends.Stuck k) bound fin = omega (arith, bound, fin.1)
ended_trace entries (Some p) trace ends.Memory bound fin = absurd fin
ended_trace entries (Some p) trace (ends.Image task errno) bound fin = absurd fin
ended_trace entries (Some p) trace ends.HostFault bound fin = absurd fin
ended_trace entries (Some p) trace (ends.Grant mount) bound fin = absurd fin
