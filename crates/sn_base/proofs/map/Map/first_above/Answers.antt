use Rattle.std.proofs.Common.{◌≡◌, ℕ, ◌<◌, false, [], ◌∷◌, refl, ap, sym, subst, ◌∙◌, arith}
use Rattle.std.specs.Prelude.{Option, Some, None, IsSome, IfSome, is_some}
use Rattle.std.specs.List.{slice_get}
use Rattle.std.specs.FinMap as map
use Rattle.std.specs.BTreeMap.{get}
use Rattle.std.specs.BTreeMap.Range.{IsEntryInRange, IsLeBy}
use Rattle.std.specs.Cmp.{ranked}
use Rattle.std.specs.Ordering.{nat_cmp, is_gt}
use Rattle.std.specs.declared.cmp.Ordering.{Ordering}
use Rattle.std.specs.declared.cmp.Ordering.TheVariants.{Less, Equal, Greater}
use Rattle.std.specs.declared.ops.Bound.TheVariants.{Excluded, Unbounded}
use Rattle.sn_base.proofs.Maps.{get_entry}
use Rattle.sn_base.proofs.map.Map.first_above.Goals as goal

below : (x y : ℕ) → x < y → nat_cmp x y ≡ Less
below x y low = by (nat_cmp x y) refl
  where
    by : (o : Ordering) → nat_cmp x y ≡ o → o ≡ Less
    by Less e = refl
    by Equal e = let f : x ≡ y = ranked x y Equal (sym e) in absurd (omega (arith, low, f))
    by Greater e = let f : y < x = ranked x y Greater (sym e) in absurd (omega (arith, low, f))

-- a key that is not above another is not below it
not_below : (x y : ℕ) → is_gt (nat_cmp x y) ≡ false → y < x → ⊥
not_below x y not_above low = by (nat_cmp x y) refl not_above
  where
    by : (o : Ordering) → nat_cmp x y ≡ o → is_gt o ≡ false → ⊥
    by Less e f = let high : x < y = ranked x y Less (sym e) in omega (arith, low, high)
    by Equal e f = let same : x ≡ y = ranked x y Equal (sym e) in omega (arith, low, same)
    by Greater e f = cc f

pub returns-in-None : goal.returns-in-None
returns-in-None g c key high =
    let range = c.range.ensures.in_range tt in
    ap (λ m. map.get m key) (sym c.self.view_is) ∙ get_entry c.self.inside.entries.entries key
    ∙ range.5 c.in-None.ensures.steps.0 key (below c.args.after key high, tt)

pub returns-in-Some : goal.returns-in-Some
returns-in-Some g c =
    let range = c.range.ensures.in_range tt in
    let entries = c.self.inside.entries in
    let least = c.in-Some.key.now in
    let held : (q : ℕ) → map.get c.args.self.now q ≡ get nat_cmp entries q =
    λ q. ap (λ m. map.get m q) (sym c.self.view_is) ∙ get_entry entries.entries q in
    let first = subst (λ r. IfSome (slice_get r 0) (IsEntryInRange nat_cmp (Excluded c.args.after) Unbounded entries))
    c.in-Some.ensures.steps range.1 in
    let behind : (q : ℕ) → c.args.after < q → IsSome (get nat_cmp entries q) → IsLeBy nat_cmp least q =
    λ q high there. subst (λ r. IfSome (slice_get r 0) (λ e. IsLeBy nat_cmp e.0 q)) c.in-Some.ensures.steps
    (range.2 q (below c.args.after q high, tt) there) in
    let none : (key : ℕ) → c.args.after < key → key < least → (o : Option g.row.V.Denot) → get nat_cmp entries key ≡ o
    → o ≡ None =
    λ key high low o e. elim o as (λ x. get nat_cmp entries key ≡ x → x ≡ None) [
      | None ↦ λ _. refl
      | Some v ↦ λ f. absurd (not_below least key (behind key high (subst IsSome (sym f) refl)) low)
    ] e in (
      ranked c.args.after least Less (sym first.0.0),
      ap is_some (held least ∙ first.1),
      λ key high low. held key ∙ none key high low (get nat_cmp entries key) refl,
    )
