-- A granted folder of which children of the root were lent: what its nodes tell, and how it is put together again.
use Rattle.std.specs.Prelude.{◌≡◌, ℕ, List, [], ◌∷◌, ◌+◌, map, true, false, Option, Some, None, IsSome}
use Rattle.std.specs.Prelude.{IsSomeAnd, ⊤, option_map, if◌then◌else◌}
use Rattle.std.specs.Str.{bytes_eq}
use Rattle.host_node.specs.Tree.{Shape, child_of, is_lent}
use Rattle.kernel_model.specs.files.FileTree.{with_plain}
use Rattle.image_walk.specs.declared.granted.Lent.{Lent}

-- a child that was lent: its name, and what its node tells
-- profile
abbrev pub LentChild : Type 0
LentChild = List ℕ × Option Shape

-- the children that were lent, as they tell themselves
-- profile
abbrev pub told_of : {N : Type 0} → (N → Option Shape) → List (Lent N) → List LentChild
told_of told lent = map (λ l. (l.name, told l.node)) lent

-- no child has that name
-- profile
abbrev pub IsNew : List ℕ → List LentChild → Type 0
IsNew name [] = ⊤
IsNew name (c ∷ children) = (bytes_eq c.0 name ≡ false) × IsNew name children

-- which child has that name, counted from 0
-- profile
abbrev pub place_of_child : List ℕ → List LentChild → Option ℕ
place_of_child name [] = None
place_of_child name (c ∷ children) =
    if bytes_eq name c.0 then Some 0 else option_map (λ place. place + 1) (place_of_child name children)

-- each child stands as lent in the tree under a name of its own, and tells itself
-- profile
abbrev pub AreOut : Shape → List LentChild → Type 0
AreOut t [] = ⊤
AreOut t (c ∷ children) =
    IsSomeAnd (child_of c.0 t) (λ s. is_lent s ≡ true) × IsSome c.1 × IsNew c.0 children × AreOut t children

abbrev pub CanGiveBack : Option Shape → List LentChild → Type 0
CanGiveBack None children = ⊤
CanGiveBack (Some t) children = AreOut t children

-- the tree with children in their places, one after another
-- profile
abbrev pub put_all : List LentChild → Shape → Shape
put_all [] t = t
put_all (c ∷ children) t = put_all children (with_plain c.0 c.1 t)

-- what the root tells once they are back
-- profile
abbrev pub GivesBack : (told : Option Shape) → List LentChild → (after : Option Shape) → Type 0
GivesBack None children after = after ≡ None
GivesBack (Some t) children after = after ≡ Some (put_all children t)
