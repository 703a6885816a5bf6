-- A byte put into a page of a shared area.
use Rattle.std.proofs.Common.{◌≡◌, ℕ, ◌+◌, ◌*◌, ◌%◌, ◌^◌, ◌<◌, ◌≤◌, ◌↔◌, Bool, true, false, List, length, Option, Some}
use Rattle.std.proofs.Common.{refl, ap, sym, ◌∙◌, arith, inl, inr, subst}
use Rattle.std.specs.Prelude.{IsTrue, slice_get, slice_set, unwrap_or}
use Rattle.std.specs.Bool.{OnTrue, OnFalse}
use Rattle.std.proofs.lemmas.Bool.{false≢true}
use Rattle.std.proofs.lemmas.List.{set_past}
use Rattle.std.proofs.lemmas.Option.{slice_get_cases}
use Rattle.mm_frames.specs.Frames.{with_page_changed, page_at}
use Rattle.mm_frames.specs.Numbers.{IsInPage, with_number}

pub one_byte : (bytes : List ℕ) (offset value : ℕ) → value < 256 → with_number bytes offset 1 value
    ≡ slice_set bytes offset value
unfolding with_number
one_byte bytes offset value small = ap (slice_set bytes offset) (omega (arith, small))

pub put_done : (done : Bool) (pages news : List (List ℕ)) (owned : List Bool) (number offset value wide : ℕ)
    → wide ≡ value → value < 256 → offset < 4096 → length owned ≡ length pages
    → unwrap_or (slice_get owned number) true ≡ true
    → (IsTrue done ↔ ((slice_get owned number ≡ Some true) × IsInPage offset 1))
    → OnTrue done (news ≡ with_page_changed pages number (λ bytes. with_number bytes offset 1 wide))
    → OnFalse done (news ≡ pages)
    → news ≡ with_page_changed pages number (λ bytes. slice_set bytes offset value)
put_done true pages news owned number offset value wide widened small inside alike own fits changed same =
    changed ∙ ap (slice_set pages number) (ap (with_number (page_at pages number) offset 1) widened
    ∙ one_byte (page_at pages number) offset value small)
put_done false pages news owned number offset value wide widened small inside alike own fits changed same =
    elim (slice_get_cases owned number).1 [
      | inl there ↦
          absurd (false≢true
          (fits.1 (
            there.2 ∙ ap Some (ap (λ (o : Option Bool). unwrap_or o true) (sym there.2) ∙ own),
            (inl refl, omega (arith, inside)),
          )))
      | inr past ↦ same ∙ sym (set_past pages number _ (subst (λ n. n ≤ number) alike past.0))
    ]

-- the place in an area of a byte in one of its pages
pub place_is : (number offset : ℕ) → ((number * 4096) % 2 ^ 64 + offset) % 2 ^ 64 ≡ (4096 * number + offset) % 2 ^ 64
place_is number offset = omega arith
