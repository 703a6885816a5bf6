-- Bytes that grow at their end.
use Rattle.std.proofs.Common.{◌≡◌, ℕ, List, [], ◌++◌, length, take, sym, ap, ◌∙◌, append_assoc, refl}
use Rattle.std.proofs.lemmas.List.{append-nil, take_at}
use Rattle.lisafs_wire.specs.Pieces.{Grows}

-- bytes that are as they were have grown
pub grown : (old new : List ℕ) → new ≡ old → Grows old new
grown old new e = ([], e ∙ sym (append-nil old))

-- what grew behind something that was put has grown
pub grown_behind : (old text mid new : List ℕ) → mid ≡ old ++ text → Grows mid new → Grows old new
grown_behind old text mid new e h = (text ++ h.0, h.1 ∙ ap (λ (t : List ℕ). t ++ h.0) e ∙ append_assoc old text h.0)

-- what has grown is as it was, once it is cut
pub cut_back : (old new : List ℕ) → Grows old new → take (length old) new ≡ old
cut_back old new h = ap (take (length old)) h.1 ∙ take_at old h.0 (length old) refl
