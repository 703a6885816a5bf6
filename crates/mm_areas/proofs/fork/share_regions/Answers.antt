-- Each round shares the next region's pages, and both it and the other have no bytes of their own then.
use Rattle.std.proofs.Common.{◌≡◌, [], ◌∷◌, ◌++◌, ◌<◌, map, length, ap, sym, ◌∙◌, subst, arith, rules}
use Rattle.std.proofs.lemmas.List.{length-map, take_all}
use Rattle.mm_areas.specs.Shares.{seen_by, AreSharedIn}
use Rattle.mm_areas.proofs.ShareLaws.{kept_more, copied_more}
use Rattle.mm_areas.proofs.SharedLaws.{shared_region_more, lost_region_more, lost_region_all}
use Rattle.mm_areas.proofs.fork.share_regions.Goals as goal

pub index_mut-requires : goal.index_mut-requires
index_mut-requires c =
    let regions = c.loop-index.regions.items in
    let olds = c.args.regions.now.items in
    let size : length regions ≡ length olds =
    sym (length-map regions seen_by) ∙ ap length c.loop-index.invariant.kept ∙ length-map olds seen_by in
    omega (arith, size)

pub loop-index-preserved : goal.loop-index-preserved
loop-index-preserved c =
    let olds = c.args.regions.now.items in
    let regions = c.loop-index.regions.items in
    let copies = c.loop-index.others.items in
    let index = c.loop-index.index in
    let old = c.index_mut.result.now in
    let new = c.share_region.new.region in
    let copy = c.in_ok-share_region.field-0 in
    let met = c.loop-index.invariant in
    let size : length regions ≡ length olds =
    sym (length-map regions seen_by) ∙ ap length met.kept ∙ length-map olds seen_by in
    let within : index < length regions = omega (arith, size) in
    let is : c.push.new.self.items ≡ copies ++ copy ∷ [] = search rules in
    record {
      kept = kept_more seen_by olds regions index old new met.kept c.index_mut.ensures.value
          c.share_region.ensures.kept;
      copied = ap (map seen_by) is ∙ copied_more seen_by olds regions copies index old copy within met.kept met.copied
          c.index_mut.ensures.value c.in_ok-share_region.ensures.copied;
      lost = lost_region_more regions index new within met.lost c.in_ok-share_region.ensures.lost;
      shared = subst AreSharedIn (sym is)
          (shared_region_more copies copy met.shared c.in_ok-share_region.ensures.shared);
    }

pub returns-in_err-share_region-clause-kept : goal.returns-in_err-share_region-clause-kept
returns-in_err-share_region-clause-kept c =
    kept_more seen_by c.args.regions.now.items c.loop-index.regions.items c.loop-index.index c.index_mut.result.now
    c.share_region.new.region c.loop-index.invariant.kept c.index_mut.ensures.value c.share_region.ensures.kept

pub returns-in_err-push-clause-kept : goal.returns-in_err-push-clause-kept
returns-in_err-push-clause-kept c =
    kept_more seen_by c.args.regions.now.items c.loop-index.regions.items c.loop-index.index c.index_mut.result.now
    c.share_region.new.region c.loop-index.invariant.kept c.index_mut.ensures.value c.share_region.ensures.kept

pub returns-clause-copied : goal.returns-clause-copied
returns-clause-copied c =
    let olds = c.args.regions.now.items in
    c.loop-index.invariant.copied
    ∙ take_all c.loop-index.index (map seen_by olds) (omega (arith, length-map olds seen_by))

pub returns-clause-lost : goal.returns-clause-lost
returns-clause-lost c =
    let regions = c.loop-index.regions.items in
    let olds = c.args.regions.now.items in
    let size : length regions ≡ length olds =
    sym (length-map regions seen_by) ∙ ap length c.loop-index.invariant.kept ∙ length-map olds seen_by in
    lost_region_all regions c.loop-index.index (omega (arith, size)) c.loop-index.invariant.lost
