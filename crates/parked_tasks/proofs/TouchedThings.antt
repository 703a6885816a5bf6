-- What an entry touched, as things that a call used that waits.
use Rattle.std.proofs.Common.{◌≡◌, ◌||◌, ◌&&◌, Bool, true, false, refl, ap, ◌∙◌}
use Rattle.std.specs.Prelude.{Option, Some, None, if◌then◌else◌}
use Rattle.std.specs.Option.{option_map, option_map_or}
use Rattle.sn_base.specs.declared.made.Made.{Made}
use Rattle.kernel_calls.specs.declared.prepared.UsedEnd.{UsedEnd}
use Rattle.parked_tasks.specs.Touched.{are_named, has_table_named, is_that_name, is_used}
use Rattle.parked_tasks.specs.Used.{has_description, has_pipe, uses_areas}
use Rattle.parked_tasks.specs.declared.touched.UpToTwo.{UpToTwo}
use Rattle.parked_tasks.specs.declared.used.Spot.{Spot}
use Rattle.parked_tasks.specs.declared.used.Used.{Used}
use Rattle.parked_tasks.specs.declared.used.Used.TheVariants.{Areas, Description, Pipe, Table}

-- of an end that may have been used, one of two parts passes where the one or the other does
two_parts : (p q : UsedEnd → Bool) (end : Option UsedEnd)
    → (option_map_or p end false || option_map_or q end false) ≡ option_map_or (λ e. p e || q e) end false
two_parts p q None = refl
two_parts p q (Some e) = refl

fails : (end : Option UsedEnd) → false ≡ option_map_or (λ e. false) end false
fails None = refl
fails (Some e) = refl

pub table_used : (name : Option Made) (used : Option Used) → used ≡ option_map Table name → (spot : Spot)
    → is_used used spot ≡ has_table_named name spot
table_used name used is spot = ap (λ u. is_used u spot) is ∙ by name
  where
    by : (o : Option Made) → is_used (option_map Table o) spot ≡ has_table_named o spot
    by None = fails spot.awaited.end
    by (Some n) = refl

description_used : (name : Option Made) (spot : Spot)
    → is_used (option_map Description name) spot ≡ has_description (is_that_name name) spot
description_used None spot = fails spot.awaited.end
description_used (Some n) spot = refl

pub descriptions_used : (names : UpToTwo) (one two : Option Used) → one ≡ option_map Description names.first
    → two ≡ option_map Description names.second → (spot : Spot)
    → (is_used one spot || is_used two spot) ≡ has_description (are_named names) spot
descriptions_used names one two first second spot =
    ap (λ u. is_used u spot || is_used two spot) first
    ∙ ap (λ u. is_used (option_map Description names.first) spot || is_used u spot) second
    ∙ ap (λ b. b || is_used (option_map Description names.second) spot) (description_used names.first spot)
    ∙ ap (λ b. has_description (is_that_name names.first) spot || b) (description_used names.second spot)
    ∙ two_parts (λ (e : UsedEnd). is_that_name names.first e.description)
    (λ (e : UsedEnd). is_that_name names.second e.description) spot.awaited.end

pipe_used : (name : Option Made) (spot : Spot) → is_used (option_map Pipe name) spot ≡ has_pipe (is_that_name name) spot
pipe_used None spot = fails spot.awaited.end
pipe_used (Some n) spot = refl

pub pipes_used : (names : UpToTwo) (one two : Option Used) → one ≡ option_map Pipe names.first
    → two ≡ option_map Pipe names.second → (spot : Spot)
    → (is_used one spot || is_used two spot) ≡ has_pipe (are_named names) spot
pipes_used names one two first second spot =
    ap (λ u. is_used u spot || is_used two spot) first
    ∙ ap (λ u. is_used (option_map Pipe names.first) spot || is_used u spot) second
    ∙ ap (λ b. b || is_used (option_map Pipe names.second) spot) (pipe_used names.first spot)
    ∙ ap (λ b. has_pipe (is_that_name names.first) spot || b) (pipe_used names.second spot)
    ∙ two_parts (λ (e : UsedEnd). is_that_name names.first e.pipe)
    (λ (e : UsedEnd). is_that_name names.second e.pipe) spot.awaited.end

-- areas, where they may have changed
pub areas_used : (changed : Bool) (used : Option Used) → used ≡ (if changed then Some Areas else None) → (spot : Spot)
    → is_used used spot ≡ (uses_areas spot && changed)
areas_used changed used is spot = ap (λ u. is_used u spot) is ∙ by changed (uses_areas spot) refl
  where
    by : (b u : Bool) → uses_areas spot ≡ u → is_used (if b then Some Areas else None) spot ≡ (u && b)
    by true true e = e
    by true false e = e
    by false true e = refl
    by false false e = refl
