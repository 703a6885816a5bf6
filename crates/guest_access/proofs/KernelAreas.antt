-- The shared areas of a kernel.
use Rattle.std.proofs.Common.{◌≡◌, List, [], ◌∷◌, Some, refl, ap, ◌∙◌}
use Rattle.mm_space.specs.Handed.{AreaState, InHand}
use Rattle.kernel_model.specs.Names.{NamedMap, get_named}
use Rattle.kernel_model.specs.declared.kernel.Kernel.{Kernel}
use Rattle.kernel_model.specs.declared.kernel.Part.TheVariants.{OfArea}
use Rattle.kernel_model.specs.entries.Areas.{area_changes}
use Rattle.kernel_model.specs.entries.Parts.{parts, changed}
use Rattle.kernel_model.proofs.ChildLaws.{changed-append}
use Rattle.guest_access.specs.Lending.{AreThose, with_hand}

-- the areas of a kernel, as a state
pub are_those : (k : Kernel) (areas : NamedMap AreaState) → k.areas ≡ areas → AreThose (parts k) areas
are_those k areas same name = ap (λ (m : NamedMap AreaState). get_named m name.place name.index) same

-- areas that were in hand, put back
pub areas_changed : (hand : List InHand) (k : Kernel)
    → changed (area_changes hand) k ≡ record k { areas = with_hand hand k.areas }
areas_changed [] k = refl
areas_changed (h ∷ hand) k =
    changed-append (area_changes hand) ((OfArea h.name, Some h.state) ∷ []) k
    ∙ ap (λ m. changed ((OfArea h.name, Some h.state) ∷ []) m) (areas_changed hand k)
