-- Where a folder lies, as a record.
use Rattle.std.specs.Prelude.{ℕ, List, Bool, refl}
use Rattle.std.specs.Coded.{Coded, code_by, coded×, coded_bool, coded_list, coded_ℕ}

-- where a folder lies: from the root or from where one stands, by these names
-- POSIX.1-2017, Base Definitions, Absolute Pathname and Relative Pathname
pub record FolderPath : Type 0 where
  pub rooted : Bool
  pub names : List (List ℕ)

-- a folder's path, coded as the pair of its fields
-- of this project's own: profile
abbrev pub folder_path_code : Coded FolderPath
folder_path_code =
    code_by (Bool × List (List ℕ)) (coded× coded_bool (coded_list (coded_list coded_ℕ))) (λ f. (f.rooted, f.names))
    (λ p. record { rooted = p.0; names = p.1 }) (λ _. refl)
