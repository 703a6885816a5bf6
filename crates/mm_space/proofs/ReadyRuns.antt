-- Runs of bytes whose pages have their bytes for themselves.
use Rattle.std.proofs.Common.{◌≡◌, ℕ, zero, suc, ◌+◌, ◌*◌, ◌/◌, ◌%◌, ◌^◌, ◌<◌, ◌≤◌, true, false, Result, Ok, Err, refl}
use Rattle.std.proofs.Common.{zero-add, ap, sym, ◌∙◌, arith}
use Rattle.std.specs.Prelude.{OnErr}
use Rattle.std.specs.FinMap as map
use Rattle.std.proofs.lemmas.Bool.{and_from, and_parts, both_ways, false_from_ne_true}
use Rattle.rv_table.specs.Bytes.{behind}
use Rattle.mm_areas.specs.Mappings.{mapping}
use Rattle.mm_space.specs.declared.handed.Handed.{Handed}
use Rattle.mm_space.specs.declared.space.Space.{Space}
use Rattle.mm_space.specs.Accesses.{page_number}
use Rattle.mm_space.specs.Places.{takes_no_memory, is_ready_at, is_ready_mapped}

module _ (space : Space) (handed : Handed) where
  -- a piece of a page is ready where one byte of the page is
  ready_from : (page byte : ℕ) → page < 2 ^ 52 → page_number byte ≡ page → is_ready_at space handed byte ≡ true
      → (at offset count : ℕ) → at ≡ (page * 4096 + offset) % 2 ^ 64 → offset + count ≤ 4096
      → takes_no_memory space handed at count ≡ true
  unfolding takes_no_memory
  ready_from page byte low in_page ready at offset zero is inside = refl
  ready_from page byte low in_page ready at offset (suc n) is inside =
      let page_is : page_number byte ≡ page_number at = omega (arith, is, inside, low, in_page) in
      and_from (is_ready_at space handed at) (takes_no_memory space handed (behind at) n)
      (sym (ap (λ k. is_ready_mapped space handed k (map.get (mapping space.areas).pages k)) page_is) ∙ ready)
      (ready_from page byte low in_page ready (behind at) (offset + 1) n (omega (arith, is)) (omega (arith, inside)))

  pub piece_ready : (at count : ℕ) → at < 2 ^ 64 → at % 4096 + count ≤ 4096 → is_ready_at space handed at ≡ true
      → takes_no_memory space handed at count ≡ true
  piece_ready at count small inside ready =
      ready_from (at / 4096) at (omega (arith, small)) (omega (arith, small)) ready at (at % 4096) count
      (omega (arith, small)) inside

  -- a run is ready where its first part and the rest are
  pub ready_split : (at first rest : ℕ) → at < 2 ^ 64 → takes_no_memory space handed at first ≡ true
      → takes_no_memory space handed ((at + first) % 2 ^ 64) rest ≡ true
      → takes_no_memory space handed at (first + rest) ≡ true
  unfolding takes_no_memory
  ready_split at zero rest small here there =
      rw zero-add (ap (λ a. takes_no_memory space handed a rest) (omega (arith, small)) ∙ there)
  ready_split at (suc n) rest small here there =
      let parts : (is_ready_at space handed at ≡ true) × (takes_no_memory space handed (behind at) n ≡ true) =
      and_parts (is_ready_at space handed at) (takes_no_memory space handed (behind at) n) here in
      let number : suc n + rest ≡ suc (n + rest) = omega arith in
      ap (takes_no_memory space handed at) number
      ∙ and_from (is_ready_at space handed at) (takes_no_memory space handed (behind at) (n + rest)) parts.0
      (ready_split (behind at) n rest (omega arith) parts.1
      (ap (λ a. takes_no_memory space handed a rest) (omega arith) ∙ there))

  -- and then so are both
  pub first_ready : (at first rest : ℕ) → at < 2 ^ 64 → takes_no_memory space handed at (first + rest) ≡ true
      → takes_no_memory space handed at first ≡ true
  unfolding takes_no_memory
  first_ready at zero rest small ready = refl
  first_ready at (suc n) rest small ready =
      let number : suc (n + rest) ≡ suc n + rest = omega arith in
      let parts : (is_ready_at space handed at ≡ true) × (takes_no_memory space handed (behind at) (n + rest) ≡ true) =
      and_parts (is_ready_at space handed at) (takes_no_memory space handed (behind at) (n + rest))
      (ap (takes_no_memory space handed at) number ∙ ready) in
      and_from (is_ready_at space handed at) (takes_no_memory space handed (behind at) n) parts.0
      (first_ready (behind at) n rest (omega arith) parts.1)

  pub rest_ready : (at first rest : ℕ) → at < 2 ^ 64 → takes_no_memory space handed at (first + rest) ≡ true
      → takes_no_memory space handed ((at + first) % 2 ^ 64) rest ≡ true
  unfolding takes_no_memory
  rest_ready at zero rest small ready =
      ap (λ a. takes_no_memory space handed a rest) (omega (arith, small))
      ∙ ap (takes_no_memory space handed at) (sym (zero-add rest)) ∙ ready
  rest_ready at (suc n) rest small ready =
      let number : suc (n + rest) ≡ suc n + rest = omega arith in
      let parts : (is_ready_at space handed at ≡ true) × (takes_no_memory space handed (behind at) (n + rest) ≡ true) =
      and_parts (is_ready_at space handed at) (takes_no_memory space handed (behind at) (n + rest))
      (ap (takes_no_memory space handed at) number ∙ ready) in
      ap (λ a. takes_no_memory space handed a rest) (omega arith) ∙ rest_ready (behind at) n rest (omega arith) parts.1

  -- each byte of a run that is ready is so
  pub byte_ready : (at count done : ℕ) → at < 2 ^ 64 → done < count → takes_no_memory space handed at count ≡ true
      → is_ready_at space handed ((at + done) % 2 ^ 64) ≡ true
  unfolding takes_no_memory
  byte_ready at zero done small within ready = absurd (omega arith)
  byte_ready at (suc n) zero small within ready =
      ap (is_ready_at space handed) (omega (arith, small))
      ∙ (and_parts (is_ready_at space handed at) (takes_no_memory space handed (behind at) n) ready).0
  byte_ready at (suc n) (suc d) small within ready =
      ap (is_ready_at space handed) (omega arith)
      ∙ byte_ready (behind at) n d (omega arith) (omega (arith, within))
      (and_parts (is_ready_at space handed at) (takes_no_memory space handed (behind at) n) ready).1

  -- so that one that isn't leaves the run unready
  pub byte_unready : (at count done : ℕ) → at < 2 ^ 64 → done < count → is_ready_at space handed ((at + done) % 2 ^ 64)
      ≡ false → takes_no_memory space handed at count ≡ false
  byte_unready at count done small within unready =
      false_from_ne_true (takes_no_memory space handed at count)
      (λ ready. both_ways (is_ready_at space handed ((at + done) % 2 ^ 64)) unready
      (byte_ready at count done small within ready))

-- where pages that are ready stay so, runs do
pub still_ready : (space other : Space) (handed others : Handed)
    → ((address : ℕ) → is_ready_at space handed address ≡ true → is_ready_at other others address ≡ true)
    → (at count : ℕ) → takes_no_memory space handed at count ≡ true → takes_no_memory other others at count ≡ true
unfolding takes_no_memory
still_ready space other handed others still at zero ready = refl
still_ready space other handed others still at (suc n) ready =
    let parts : (is_ready_at space handed at ≡ true) × (takes_no_memory space handed (behind at) n ≡ true) =
    and_parts (is_ready_at space handed at) (takes_no_memory space handed (behind at) n) ready in
    and_from (is_ready_at other others at) (takes_no_memory other others (behind at) n) (still at parts.0)
    (still_ready space other handed others still (behind at) n parts.1)

-- a byte that isn't ready after some have become so wasn't before
pub unready_then : (space other : Space) (handed others : Handed)
    → ((address : ℕ) → is_ready_at space handed address ≡ true → is_ready_at other others address ≡ true)
    → (address : ℕ) → is_ready_at other others address ≡ false → is_ready_at space handed address ≡ false
unready_then space other handed others still address unready =
    false_from_ne_true (is_ready_at space handed address)
    (λ ready. both_ways (is_ready_at other others address) unready (still address ready))

pub none_ready : (space : Space) (handed : Handed) (at : ℕ) → takes_no_memory space handed at 0 ≡ true
unfolding takes_no_memory
none_ready space handed at = refl

pub on_err : {A E : Type 0} (answer : Result A E) {P : Type 0} → P → OnErr answer P
on_err (Ok done) fact = tt
on_err (Err e) fact = fact
