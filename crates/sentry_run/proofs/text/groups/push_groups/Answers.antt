-- Each round adds the line of the next group, and the numbers are those of all groups.
use Rattle.std.proofs.Common.{◌≡◌, ◌++◌, get_or, ap, sym, ◌∙◌, take}
use Rattle.std.proofs.lemmas.List.{append-nil, take_all}
use Rattle.std.specs.Option.{option_copied}
use Rattle.std.specs.List.{flat_map}
use Rattle.std.specs.FinMap as map
use Rattle.sentry_run.proofs.Lines.{grown, flat_map_next}
use Rattle.sentry_run.proofs.Groups.{lines_of_keys, line_at, line_of}
use Rattle.sentry_run.proofs.text.groups.push_groups.Goals as goal
use Rattle.sentry_run.proofs.text.groups.push_groups.Goals.{in-Some+in_ok-push_group, in_default}

pub loop-number-preserved : goal.loop-number-preserved
loop-number-preserved c =
    let tasks = c.args.groups.now in
    let numbers = c.as_slice-number-items.result.now in
    let number = get_or numbers c.loop-number.number-index 0 in
    let next = flat_map_next (line_at tasks) numbers c.loop-number.number-index 0 c.loop-number-test.true in
    elim c.match-get.branch [
      | in-Some+in_ok-push_group w ↦
          let line = ap (line_of number) (sym c.get.ensures ∙ ap option_copied w.in-Some.is) in
          grown _ _ _ (line_at tasks number) _ _
          (ap (λ v. v.items) w.out-is ∙ w.in_ok-push_group.ensures
          ∙ ap (λ text. c.loop-number.out.items ++ text) (sym line))
          c.loop-number.invariant next
      | in_default w ↦
          let line = ap (line_of number) (sym c.get.ensures ∙ ap option_copied w.in_default.is) in
          grown _ _ _ (line_at tasks number) _ _
          (ap (λ v. v.items) w.out-is ∙ sym (append-nil _) ∙ ap (λ text. c.loop-number.out.items ++ text) (sym line))
          c.loop-number.invariant next
    ]

pub returns : goal.returns
returns c =
    let numbers = c.as_slice-number-items.result.now in
    let all : take c.loop-number.number-index numbers ≡ numbers = take_all _ numbers c.loop-number-test.false in
    let keys : numbers ≡ map.keys c.args.groups.now = c.as_slice-number-items.ensures ∙ c.in_ok-numbers.ensures in
    c.loop-number.invariant ∙ ap (λ ns. c.args.out.now.items ++ flat_map (line_at c.args.groups.now) ns) (all ∙ keys)
    ∙ ap (λ text. c.args.out.now.items ++ text) (lines_of_keys c.args.groups.now)
