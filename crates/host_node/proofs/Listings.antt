-- What a directory's entries in memory are listed as.
use Rattle.std.proofs.Common.{◌≡◌, ◌≢◌, ◌<◌, arith, length, List, [], ◌∷◌, ◌++◌, refl, ap}
use Rattle.host_node.specs.declared.tree.TreeEntry.{TreeEntry}
use Rattle.host_node.specs.declared.listing.Listed.{Listed}
use Rattle.host_node.specs.Tree.{no_children, listed_from, kind_of}
use Rattle.host_node.specs.Order.{names_of}
use Rattle.host_node.specs.Levels.{children_from, entry_names}

-- an entry, listed
abbrev pub listed : TreeEntry → Listed
listed e = record { name = e.name; kind = kind_of e.tree }

-- one more entry at the end is one more listed
pub listed-push : (es : List TreeEntry) (e : TreeEntry) → listed_from (children_from (es ++ e ∷ []))
    ≡ listed_from (children_from es) ++ listed e ∷ []
listed-push [] e = refl
listed-push (x ∷ xs) e = ap (λ l. listed x ∷ l) (listed-push xs e)

-- the names of what is listed are those of the entries
pub names_listed : (es : List TreeEntry) → names_of (listed_from (children_from es)) ≡ entry_names es
names_listed [] = refl
names_listed (x ∷ xs) = ap (λ l. x.name ∷ l) (names_listed xs)

-- entries in memory are entries
pub has_entries : (es : List TreeEntry) → 0 < length es → children_from es ≢ no_children
has_entries [] l = absurd (omega arith)
has_entries (x ∷ xs) l = λ h. cc
