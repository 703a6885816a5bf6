use Rattle.std.proofs.Common.{◌≡◌, ℕ, suc, ◌+◌, ◌-◌, ◌<◌, List, length, get_or, map, refl, ap, sym, ◌∙◌, inl, inr}
use Rattle.std.proofs.Common.{arith}
use Rattle.std.proofs.Math.ListN.{set, get_or-map}
use Rattle.std.proofs.lemmas.List.{map-set, length-map}
use Rattle.std.proofs.Math.Seq.{map-set_same}
use Rattle.mm_areas.specs.declared.page.Page.{Page}
use Rattle.std.proofs.lemmas.Bool.{cases_lt}
use Rattle.mm_areas.specs.Pages.{Mapped, mapped_by, with_rights}
use Rattle.mm_areas.specs.Protected.{protected_from}
use Rattle.mm_areas.proofs.ProtectLaws.{protected_from_apart, protected_from_next}
use Rattle.mm_areas.proofs.protect.protect_between.Goals as goal

pub loop-index-init : goal.loop-index-init
loop-index-init c = record {
  mapped = sym
      (protected_from_apart c.args.rights c.args.low (c.args.low - c.args.low) 0 (map mapped_by c.args.pages.now)
      (λ q from to. elim (cases_lt q c.args.low) [ inl below ↦ inl below | inr behind ↦ inr (omega arith) ]));
  contents = refl;
}

pub loop-index-preserved : goal.loop-index-preserved
loop-index-preserved c =
    let rights = c.args.rights in
    let low = c.args.low in
    let i = c.loop-index.index in
    let xs = c.loop-index.pages in
    let ms = map mapped_by c.args.pages.now in
    let d = c.index-pages-index.result in
    let at : low + (i - low) ≡ 0 + i = omega arith in
    let less : i < length ms = omega (arith, length-map c.args.pages.now mapped_by) in
    let next : suc (i - low) ≡ (i + 1) - low = omega arith in
    record {
      mapped =
          map-set mapped_by xs i (record { rights = rights; content = (get_or xs i d).content })
          ∙ ap (λ (m : Mapped). set (map mapped_by xs) i (with_rights rights m)) (sym (get_or-map mapped_by xs i d))
          ∙ ap (λ (ys : List Mapped). set ys i (with_rights rights (get_or ys i (mapped_by d))))
          c.loop-index.invariant.mapped
          ∙ protected_from_next rights low (i - low) 0 i ms (mapped_by d) at less
          ∙ ap (λ (n : ℕ). protected_from rights low n 0 ms) next;
      contents = map-set_same (λ (p : Page). p.content) xs i
          (record { rights = rights; content = (get_or xs i d).content }) d refl ∙ c.loop-index.invariant.contents;
    }

pub returns-clause-mapped : goal.returns-clause-mapped
returns-clause-mapped c =
    let all : c.loop-index.index ≡ c.args.high = omega arith in
    c.loop-index.invariant.mapped
    ∙ ap (λ (n : ℕ). protected_from c.args.rights c.args.low (n - c.args.low) 0
    (map mapped_by c.args.pages.now)) all
