use Rattle.mm_space.proofs.NumberBounds.{grown, grown_fits, scaled_fits}
use Rattle.mm_space.proofs.space.Space.+number_from.Goals as goal

pub overflow_mul-result : goal.overflow_mul-result
overflow_mul-result n c =
    record {
      fits = scaled_fits c.args.count c.value_in-first.result c.number_from-rest.result c.if-count-eq0.false
          c.requires c.value_in-first.ensures.small c.number_from-rest.ensures.small;
    }

pub overflow_add-result : goal.overflow_add-result
overflow_add-result n c =
    record {
      fits = grown_fits c.args.count c.value_in-first.result c.number_from-rest.result c.if-count-eq0.false
          c.requires c.value_in-first.ensures.small c.number_from-rest.ensures.small;
    }

pub returns-clause-small : goal.returns-clause-small
returns-clause-small n c =
    grown c.args.count c.value_in-first.result c.number_from-rest.result c.if-count-eq0.false
    c.value_in-first.ensures.small c.number_from-rest.ensures.small
