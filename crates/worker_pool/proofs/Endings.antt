-- All tasks are over exactly where the pool says so.
use Rattle.std.proofs.Common.{◌≡◌, ◌≢◌, ℕ, List, [], ◌∷◌, ◌++◌, Bool, true, sym, true≢false, refl}
use Rattle.std.specs.Prelude.{◌↔◌, ◌&&◌, ◌||◌, ◌==◌}
use Rattle.std.specs.List.{list_all, list_any}
use Rattle.std.proofs.lemmas.Bool.{and_parts}
use Rattle.pool_places.specs.declared.ends.Tried.{Tried}
use Rattle.pool_places.specs.declared.ends.PoolEnd.{PoolEnd}
use Rattle.pool_places.specs.declared.ends.PoolEnd.TheVariants.{AllEnded, Stuck, Full as Filled', Memory as Gone}
use Rattle.pool_places.specs.Ends.{left_of, over_of, IfKept, IfStuck, OnFull, IsAllEnded}
use Rattle.pool_turn.specs.declared.turn.Last.{Last}
use Rattle.pool_turn.specs.declared.turn.Last.TheVariants.{New, GoesOn, Waits, Over, NoRoom}
use Rattle.worker_pool.specs.Accounts.{tasks, is_parked, is_full, is_over}
use Rattle.worker_pool.proofs.Standings.{all_first}

-- no task is parked and over, or over and without room
parked_not_over : (l : Last) → is_parked l ≡ true → is_over l ≡ true → ⊥
parked_not_over New e h = true≢false (sym e)
parked_not_over GoesOn e h = true≢false (sym e)
parked_not_over Waits e h = true≢false (sym h)
parked_not_over Over e h = true≢false (sym e)
parked_not_over NoRoom e h = true≢false (sym e)

full_later : (l : Last) (b : Bool) → (is_full l || b) ≡ true → is_over l ≡ true → b ≡ true
full_later New b e h = e
full_later GoesOn b e h = e
full_later Waits b e h = e
full_later Over b e h = e
full_later NoRoom b e h = absurd (true≢false (sym h))

module _ {K : Type 0} (last : K → Last) where
  none_full : (ts : List (Tried K)) (es : List K) → list_any (λ (u : Tried K). is_full (last u.task)) ts ≡ true →
      list_all (λ (k : K). is_over (last k)) (tasks ts ++ es) ≡ true → ⊥
  none_full [] es e h = true≢false (sym e)
  none_full (t ∷ ts) es e h =
      let both = all_first (λ (k : K). is_over (last k)) t.task (tasks ts ++ es) h in
      none_full ts es (full_later (last t.task) (list_any (λ (u : Tried K). is_full (last u.task)) ts) e both.0) both.1

  none_parked_over : (ts : List (Tried K)) (es : List K) (n : ℕ) → ts ≢ [] →
      list_all (λ (u : Tried K). is_parked (last u.task) && (u.began == n)) ts ≡ true →
      list_all (λ (k : K). is_over (last k)) (tasks ts ++ es) ≡ true → ⊥
  none_parked_over [] es n some e h = some refl
  none_parked_over (t ∷ ts) es n some e h =
      let over = all_first (λ (k : K). is_over (last k)) t.task (tasks ts ++ es) h in
      let first = all_first (λ (u : Tried K). is_parked (last u.task) && (u.began == n)) t ts e in
      parked_not_over (last t.task) (and_parts (is_parked (last t.task)) (t.began == n) first.0).0 over.0

  pub all_over_where : (end : PoolEnd K)
      → list_all (λ (k : K). is_over (last k)) (over_of end) ≡ true
      → IfStuck end (λ n. (left_of end ≢ []) ×
      (list_all (λ (u : Tried K). is_parked (last u.task) && (u.began == n)) (left_of end) ≡ true))
      → OnFull end (list_any (λ (u : Tried K). is_full (last u.task)) (left_of end) ≡ true)
      → IfKept end (IsAllEnded end ↔
      (list_all (λ (k : K). is_over (last k)) (tasks (left_of end) ++ over_of end) ≡ true))
  all_over_where (AllEnded es) over stuck full = ((λ _. over), (λ _. tt))
  all_over_where (Stuck ts es n) over stuck full =
      ((λ never. absurd never), (λ all. absurd (none_parked_over ts.items es.items n stuck.0 stuck.1 all)))
  all_over_where (Filled' ts es) over stuck full =
      ((λ never. absurd never), (λ all. absurd (none_full ts.items es.items full all)))
  all_over_where Gone over stuck full = tt
