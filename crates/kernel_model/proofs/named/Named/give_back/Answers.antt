-- What the name had goes back there, or it has nothing again, and its place no map where it had none.
use Rattle.std.proofs.Common.{ap, sym, ◌∙◌}
use Rattle.std.specs.Prelude.{is_some}
use Rattle.std.specs.FinMap.{remove}
use Rattle.kernel_model.specs.Names.{has_named, with_named, without_named}
use Rattle.kernel_model.proofs.NamedMaps.{back_empty, back_with, back_without, get-with_same}
use Rattle.kernel_model.proofs.named.Named.give_back.Goals as goal
use Rattle.kernel_model.proofs.named.Named.give_back.Goals.{in-Some-2, in-None-2}

pub returns-then-contains : goal.returns-then-contains
returns-then-contains g c m v was former =
    let a = c.args in
    let had = c.in-Some.value in
    c.replace.ensures ∙ ap (with_named a.self.now a.place a.index) c.in-Some.value-is
    ∙ ap (λ n. with_named n a.place a.index had) was
    ∙ back_with m a.place a.index v had (sym former.value ∙ c.in-Some.is)

pub returns-else-contains : goal.returns-else-contains
returns-else-contains g c m v was former =
    let a = c.args in
    absurd (cc (
      c.if-contains.false,
      c.contains.ensures,
      ap (λ n. has_named n a.place a.index) was ∙ ap is_some (get-with_same m a.place a.index v),
    ))

pub returns-then-former : goal.returns-then-former
returns-then-former g c m v was former =
    let a = c.args in
    c.remove.ensures.after ∙ ap (λ n. without_named n a.place a.index) was
    ∙ back_without m a.place a.index v (sym former.value ∙ c.in-None.is) (sym former.had_place ∙ c.if-former.true)

pub returns-else-former : goal.returns-else-former
returns-else-former g c m v was former =
    let a = c.args in
    let is =
    c.remove-else-former.ensures.after ∙ ap (λ n. remove n a.place) (c.self.view_is ∙ was)
    ∙ back_empty m a.place a.index v (sym former.had_place ∙ c.if-former.false) in
    elim c.match-remove-2.branch [
      | in-Some-2 w ↦ w.self-is ∙ is
      | in-None-2 w ↦ w.self-is ∙ is
    ]
