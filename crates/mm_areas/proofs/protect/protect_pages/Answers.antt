use Rattle.std.proofs.Common.{◌≡◌, ℕ, ◌-◌, ◌<◌, ◌≤◌, List, length, get_or, refl, ap, sym, subst, inl, inr, arith}
use Rattle.std.proofs.lemmas.List.{get_or_default}
use Rattle.std.proofs.lemmas.Bool.{cases_lt}
use Rattle.mm_areas.specs.declared.rights.Rights.{Rights}
use Rattle.mm_areas.specs.declared.areas.Region.{Region}
use Rattle.mm_areas.specs.Protected.{IsProtected}
use Rattle.mm_areas.specs.Order.{AreFrom}
use Rattle.mm_areas.proofs.ProtectLaws.{AreProtected, contents_kept, protected_already, protected_regions}
use Rattle.mm_areas.proofs.ProtectLaws.{protected_order, ended_before, begins_later}
use Rattle.mm_areas.proofs.protect.protect_pages.Goals as goal

pub loop-index-init : goal.loop-index-init
loop-index-init c = record {
  done = λ k d less. protected_already c.args.rights c.args.first (c.args.end - c.args.first)
      (get_or c.args.regions.now k d)
      (inl (ended_before c.args.first c.args.regions.now c.first_behind-index.result k d
      c.first_behind-index.ensures.index less));
  rest = λ k d le. refl;
}

-- the regions from one on that begins behind the range are as they were
all_behind : (rights : Rights) (first end : ℕ) (old new : List Region) (i : ℕ) → AreFrom 0 old → first ≤ end
    → ((k : ℕ) (d : Region) → k < i → IsProtected rights first (end - first) (get_or old k d) (get_or new k d))
    → ((k : ℕ) (d : Region) → i ≤ k → get_or new k d ≡ get_or old k d)
    → ((d : Region) → i < length old → end ≤ (get_or old i d).first) → AreProtected rights first (end - first) old new
all_behind rights first end old new i h le done rest behind k d less = elim (cases_lt k i) [
  | inl front ↦ done k d front
  | inr back ↦
      let later = begins_later 0 old i k d h back less in
      let begins = behind d (omega arith) in
      subst (λ (r : Region). IsProtected rights first (end - first) (get_or old k d) r) (sym (rest k d back))
      (protected_already rights first (end - first) (get_or old k d) (inr (omega (arith, later, begins))))
]

met : (c : goal.Then-regions-index)
    → AreProtected c.args.rights c.args.first (c.args.end - c.args.first) c.args.regions.now c.loop-index.regions
met c =
    let old = c.args.regions.now in
    let i = c.loop-index.index in
    let r = c.index-regions-index.result in
    all_behind c.args.rights c.args.first c.args.end old c.loop-index.regions i c.requires.order c.requires.range
    c.loop-index.invariant.done c.loop-index.invariant.rest (λ d less.
    let same : i ≤ i = omega arith in
    omega (
      arith,
      c.if-regions-index.true,
      ap (λ (x : Region). x.first) (c.loop-index.invariant.rest i r same),
      ap (λ (x : Region). x.first) (get_or_default old i r d less),
    ))

met_all : (c : goal.After-loop-index)
    → AreProtected c.args.rights c.args.first (c.args.end - c.args.first) c.args.regions.now c.loop-index.regions
met_all c = all_behind c.args.rights c.args.first c.args.end c.args.regions.now c.loop-index.regions c.loop-index.index
    c.requires.order c.requires.range c.loop-index.invariant.done c.loop-index.invariant.rest
    (λ d less. absurd (omega arith))

pub returns-then-regions-index-clause-order : goal.returns-then-regions-index-clause-order
returns-then-regions-index-clause-order c =
    protected_order c.args.rights c.args.first (c.args.end - c.args.first) 0 c.args.regions.now c.loop-index.regions
    c.loop-index.auto.regions (met c) c.requires.order

pub returns-then-regions-index-clause-pages : goal.returns-then-regions-index-clause-pages
returns-then-regions-index-clause-pages c =
    protected_regions c.args.rights c.args.first (c.args.end - c.args.first) c.args.regions.now c.loop-index.regions
    c.loop-index.auto.regions (met c)

pub returns-clause-order : goal.returns-clause-order
returns-clause-order c =
    protected_order c.args.rights c.args.first (c.args.end - c.args.first) 0 c.args.regions.now c.loop-index.regions
    c.loop-index.auto.regions (met_all c) c.requires.order

pub returns-clause-pages : goal.returns-clause-pages
returns-clause-pages c =
    protected_regions c.args.rights c.args.first (c.args.end - c.args.first) c.args.regions.now c.loop-index.regions
    c.loop-index.auto.regions (met_all c)

pub returns-then-regions-index-clause-contents : goal.returns-then-regions-index-clause-contents
returns-then-regions-index-clause-contents c =
    contents_kept c.args.rights c.args.first (c.args.end - c.args.first) c.args.regions.now c.loop-index.regions
    c.loop-index.auto.regions (met c)

pub returns-clause-contents : goal.returns-clause-contents
returns-clause-contents c =
    contents_kept c.args.rights c.args.first (c.args.end - c.args.first) c.args.regions.now c.loop-index.regions
    c.loop-index.auto.regions (met_all c)
