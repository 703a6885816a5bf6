-- A host's tree as a list of tokens, by which a proof tells two trees apart.
use Rattle.std.specs.Prelude.{◌≡◌, ◌⊎◌, ℕ, List, [], ◌∷◌, nat_eq, if◌then◌else◌, refl}
use Rattle.std.proofs.Common.{inl, inr, ap, ◌∙◌}
use Rattle.std.specs.Coded.{Coded, coded_ℕ, coded_list, coded×, coded⊎, code_by}
use Rattle.host_node.specs.declared.kind.Kind.{Kind}
use Rattle.host_node.specs.declared.kind.Kind.TheVariants.{Dir, File, Link}
use Rattle.host_node.specs.Tree.{Shape, Children, directory, file, link, lent, no_children, child}

-- a kind as a number
-- profile
abbrev pub kind_number : Kind → ℕ
kind_number Dir = 0
kind_number File = 1
kind_number Link = 2

-- the kind that a number stands for
-- profile
abbrev pub kind_at : ℕ → Kind
kind_at n = if nat_eq n 0 then Dir else if nat_eq n 1 then File else Link

-- what one token makes of those before it: a directory of the last entries (mode and faults), a file
-- (bytes, mode, faults), a link (text, faults), a lent node (its kind), no entries, or one more entry
-- (its name) of the last node and the last entries
-- profile
abbrev pub Token : Type 0
Token = (ℕ × ℕ) ⊎ ((List ℕ × (ℕ × ℕ)) ⊎ ((List ℕ × ℕ) ⊎ (ℕ ⊎ (ℕ ⊎ List ℕ))))

-- how a token is stored
-- profile
abbrev pub coded_token : Coded Token
coded_token =
    coded⊎ (coded× coded_ℕ coded_ℕ)
    (coded⊎ (coded× (coded_list coded_ℕ) (coded× coded_ℕ coded_ℕ))
    (coded⊎ (coded× (coded_list coded_ℕ) coded_ℕ) (coded⊎ coded_ℕ (coded⊎ coded_ℕ (coded_list coded_ℕ)))))

abbrev mutual
  -- the tokens of a tree, in front of more
  -- profile
  pub tokens : Shape → List Token → List Token
  tokens (directory mode faults entries) more = entry_tokens entries (inl (mode, faults) ∷ more)
  tokens (file bytes mode faults) more = inr (inl (bytes, (mode, faults))) ∷ more
  tokens (link text faults) more = inr (inr (inl (text, faults))) ∷ more
  tokens (lent kind) more = inr (inr (inr (inl (kind_number kind)))) ∷ more

  -- the tokens of a directory's entries, in front of more
  -- profile
  pub entry_tokens : Children → List Token → List Token
  entry_tokens no_children more = inr (inr (inr (inr (inl 0)))) ∷ more
  entry_tokens (child name shape rest) more =
      entry_tokens rest (tokens shape (inr (inr (inr (inr (inr name)))) ∷ more))

-- the first node, or some node where there is none
-- profile
abbrev pub first_shape : List Shape → Shape
first_shape [] = lent File
first_shape (shape ∷ shapes) = shape

-- the nodes behind the first
-- profile
abbrev pub rest_shapes : List Shape → List Shape
rest_shapes [] = []
rest_shapes (shape ∷ shapes) = shapes

-- the first entries, or none where there are none
-- profile
abbrev pub first_children : List Children → Children
first_children [] = no_children
first_children (entries ∷ stack) = entries

-- the entries behind the first
-- profile
abbrev pub rest_children : List Children → List Children
rest_children [] = []
rest_children (entries ∷ stack) = stack

-- the tree that tokens make, over the nodes and entries made so far
-- profile
abbrev pub run : List Token → List Shape → List Children → Shape
run [] shapes stack = first_shape shapes
run (inl (mode, faults) ∷ more) shapes stack =
    run more (directory mode faults (first_children stack) ∷ shapes) (rest_children stack)
run (inr (inl (bytes, (mode, faults))) ∷ more) shapes stack = run more (file bytes mode faults ∷ shapes) stack
run (inr (inr (inl (text, faults))) ∷ more) shapes stack = run more (link text faults ∷ shapes) stack
run (inr (inr (inr (inl kind))) ∷ more) shapes stack = run more (lent (kind_at kind) ∷ shapes) stack
run (inr (inr (inr (inr (inl _)))) ∷ more) shapes stack = run more shapes (no_children ∷ stack)
run (inr (inr (inr (inr (inr name)))) ∷ more) shapes stack =
    run more (rest_shapes shapes) (child name (first_shape shapes) (first_children stack) ∷ rest_children stack)

-- a kind's number stands for it
kind_back : (kind : Kind) → kind_at (kind_number kind) ≡ kind
kind_back Dir = refl
kind_back File = refl
kind_back Link = refl

mutual
  -- the tokens of a tree make it
  pub run_tokens : (shape : Shape) (more : List Token) (shapes : List Shape) (stack : List Children)
      → run (tokens shape more) shapes stack ≡ run more (shape ∷ shapes) stack
  run_tokens (directory mode faults entries) more shapes stack =
      run_entries entries (inl (mode, faults) ∷ more) shapes stack
  run_tokens (file bytes mode faults) more shapes stack = refl
  run_tokens (link text faults) more shapes stack = refl
  run_tokens (lent kind) more shapes stack = ap (λ k. run more (lent k ∷ shapes) stack) (kind_back kind)

  -- and the tokens of entries make them
  run_entries : (entries : Children) (more : List Token) (shapes : List Shape) (stack : List Children)
      → run (entry_tokens entries more) shapes stack ≡ run more shapes (entries ∷ stack)
  run_entries no_children more shapes stack = refl
  run_entries (child name shape rest) more shapes stack =
      let here = inr (inr (inr (inr (inr name)))) ∷ more in
      run_entries rest (tokens shape here) shapes stack ∙ run_tokens shape here shapes (rest ∷ stack)

-- a tree is stored as its tokens
-- profile
abbrev pub coded_shape : Coded Shape
coded_shape =
    code_by (List Token) (coded_list coded_token) (λ s. tokens s []) (λ ts. run ts [] []) (λ s. run_tokens s [] [] [])
