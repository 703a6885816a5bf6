-- The child at a place tells what it was loaded from, and what it tells then stands in its place.
use Rattle.std.proofs.Common.{ap, sym, ◌∙◌}
use Rattle.std.specs.Prelude.{Some, option_map}
use Rattle.std.proofs.lemmas.List.{map-set}
use Rattle.std.proofs.lemmas.Option.{slice_get-get_or, slice_get-map}
use Rattle.image_walk.proofs.walk.load_known.Goals as goal

pub returns-clause-loads : goal.returns-clause-loads
returns-clause-loads g c =
    let told = g.N.HostNode.told in
    let child = c.index_mut-child.result.now in
    record {
      child = (child.name, told child.node);
      at =
          slice_get-map (λ l. (l.name, told l.node)) c.args.lent.now.items c.args.place
          ∙ ap (option_map (λ l. (l.name, told l.node)))
          (slice_get-get_or c.args.lent.now.items c.args.place child c.requires.within
          ∙ ap Some (sym c.index_mut-child.ensures.value));
      told = told c.load.new.node;
      set = map-set (λ l. (l.name, told l.node)) c.args.lent.now.items c.args.place _;
      loads = c.load.ensures.loads;
    }
