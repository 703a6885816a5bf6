-- A reservation that is taken back at once.
use Rattle.std.proofs.Common.{◌≡◌, ℕ, ◌==◌, ◌||◌, Bool, true, false, List, [], ◌∷◌, ◌++◌, not, cond, refl, ap, ◌∙◌}
use Rattle.std.proofs.Common.{Option}
use Rattle.std.proofs.lemmas.Bool.{eq-eqb}
use Rattle.rv_table.specs.declared.error.Area.{Area}
use Rattle.rv_atomic.specs.declared.reservations.Reservation.{Reservation}
use Rattle.rv_atomic.specs.Reservations.{is_reserving, reserved, without}

-- where a task has none, no reservation is its own
pub without_none : (rs : List Reservation) (task : ℕ) → is_reserving rs task ≡ false → without rs task ≡ rs
without_none [] task is = refl
without_none (r ∷ rs) task is = by (r.task == task) (without_none rs task) is
  where
    by : (own : Bool) → (is_reserving rs task ≡ false → without rs task ≡ rs) → (own || is_reserving rs task) ≡ false
        → cond (not own) (r ∷ without rs task) (without rs task) ≡ r ∷ rs
    by true rest some = absurd (cc some)
    by false rest other = ap (λ (xs : List Reservation). r ∷ xs) (rest other)

-- a task's own, put behind others, is the one that goes
pub without_last : (rs : List Reservation) (r : Reservation) (task : ℕ) → (r.task == task) ≡ true
    → without (rs ++ r ∷ []) task ≡ without rs task
without_last [] r task own = ap (λ (b : Bool). cond (not b) (r ∷ []) []) own
without_last (x ∷ xs) r task own =
    ap (λ (rest : List Reservation). cond (not (x.task == task)) (x ∷ rest) rest) (without_last xs r task own)

-- so a reservation of a task that had none, taken back, leaves what was
pub undone : (rs : List Reservation) (task at width : ℕ) (area : Option Area) → is_reserving rs task ≡ false
    → without (reserved rs task at width area) task ≡ rs
undone rs task at width area is =
    without_last (without rs task) (record { task = task; address = at; width = width; area = area }) task
    (eq-eqb task task refl)
    ∙ ap (λ (xs : List Reservation). without xs task) (without_none rs task is)
    ∙ without_none rs task is
