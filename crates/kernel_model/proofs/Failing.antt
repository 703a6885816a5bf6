-- What is left of a call in which a host call failed.
use Rattle.std.proofs.Common.{◌≡◌, []}
use Rattle.kernel_model.specs.declared.kernel.Part.TheVariants.{OfFaults}
use Rattle.kernel_model.specs.declared.opening.Given.{Given}
use Rattle.kernel_model.specs.entries.Given.{faulted, met, number_all}
use Rattle.kernel_model.specs.entries.Parts.{Parts, done, look, outcome_in}
use Rattle.kernel_model.proofs.Trees.{outcome-bind}

-- what is left of a failed call, by its parts
pub faulted_is : (s : Parts) (given : Given)
    → outcome_in s (faulted given)
    ≡ met given (outcome_in s (number_all given.fresh [])) (s OfFaults)
faulted_is s given =
    outcome-bind s (number_all given.fresh []) (λ nodes. look OfFaults (λ failed. done (met given nodes failed)))
