-- The strings that an image is started with.
use Rattle.std.proofs.Common.{◌≡◌, ◌⊎◌, ◌↔◌, ℕ, ◌<◌, nat_lt, List, Bool, true, false, ◌||◌, refl, sym}
use Rattle.std.proofs.Common.{inl, inr}
use Rattle.std.proofs.lemmas.Bool.{lt-ltb, ltb-true}
use Rattle.std.specs.Bool.{IsTrue}
use Rattle.image_load.specs.Stacks.{IsTooBig}
use Rattle.kernel_model.specs.opening.Arguments.{is_too_long}

-- two tests, of which one is met
one_met : (a b c d : ℕ) → (a < b) ⊎ (c < d) → (nat_lt a b || nat_lt c d) ≡ true
one_met a b c d (inl less) = rw (lt-ltb a b less) refl
one_met a b c d (inr less) = rw (lt-ltb c d less) (either (nat_lt a b))
  where
    either : (test : Bool) → (test || true) ≡ true
    either true = refl
    either false = refl

-- and of which none is
none_met : (a b c d : ℕ) → ((a < b) ⊎ (c < d) → ⊥) → (nat_lt a b || nat_lt c d) ≡ false
none_met a b c d none = by (nat_lt a b) refl (nat_lt c d) refl
  where
    by : (p : Bool) → nat_lt a b ≡ p → (q : Bool) → nat_lt c d ≡ q → (p || q) ≡ false
    by true p_is q q_is = absurd (none (inl (ltb-true a b p_is)))
    by false p_is true q_is = absurd (none (inr (ltb-true c d q_is)))
    by false p_is false q_is = refl

-- strings that are too big for a program are too long for an execve
big_is_long : (args env : List (List ℕ)) → IsTooBig args env → is_too_long args env ≡ true
big_is_long args env big = one_met _ _ _ _ big

-- strings that an execve takes are not too big for a program
pub not_too_big : (args env : List (List ℕ)) → is_too_long args env ≡ false → IsTooBig args env → ⊥
not_too_big args env short big = let long : is_too_long args env ≡ true = big_is_long args env big in cc

-- what tells whether they are too big tells whether they are too long
pub too_long : (args env : List (List ℕ)) (told : Bool) → (IsTrue told ↔ IsTooBig args env)
    → told ≡ is_too_long args env
too_long args env true told = sym (big_is_long args env (told.0 refl))
too_long args env false told = sym (none_met _ _ _ _ (λ big. let no : false ≡ true = told.1 big in cc))
