-- What each change touches.
use Rattle.std.proofs.Common.{None, ap, sym, subst, ◌∙◌, ◌≡◌}
use Rattle.sn_base.specs.declared.made.Made.{Made}
use Rattle.kernel_model.specs.declared.open_files.OpenFiles.{OpenFiles}
use Rattle.file_changes.specs.Changes.{files_after}
use Rattle.file_changes.specs.declared.change.FileChange.{FileChange}
use Rattle.parked_tasks.specs.Untouched.{AreUntouched}
use Rattle.parked_tasks.specs.Touched.{description_at, touched_with}
use Rattle.parked_tasks.specs.declared.touched.Touched.{Touched}
use Rattle.parked_tasks.proofs.TouchedFiles.{closes_touched, gives_touched, marks_touched, sets_touched}
use Rattle.parked_tasks.proofs.touched.touched_in.Goals as goal

-- what is touched of a change that is known
of_change : (table : Made) (files : OpenFiles) (change known : FileChange) (touched told : Touched) → change ≡ known
    → touched ≡ told → AreUntouched told files (files_after known table files)
    → AreUntouched touched files (files_after change table files)
of_change table files change known touched told is same untouched =
    subst (λ x. AreUntouched touched files (files_after x table files)) (sym is)
    (subst (λ t. AreUntouched t files (files_after known table files)) (sym same) untouched)

pub returns-in-Gives : goal.returns-in-Gives
returns-in-Gives c =
    let a = c.args in
    let g = c.in-Gives in
    of_change a.table a.files.now a.change _ c.touched_with.result _ g.is
    (c.touched_with.ensures
    ∙ ap (λ o. touched_with a.table o c.description_at-in-Gives.result a.files.now) c.description_at.ensures
    ∙ ap (λ o. touched_with a.table (description_at a.table g.from a.files.now) o a.files.now)
    c.description_at-in-Gives.ensures) (gives_touched a.table a.files.now g.from g.number g.cloexec)

pub returns-in-Marks : goal.returns-in-Marks
returns-in-Marks c =
    let a = c.args in
    of_change a.table a.files.now a.change _ c.touched_with-in-Marks.result _ c.in-Marks.is
    c.touched_with-in-Marks.ensures (marks_touched a.table a.files.now c.in-Marks.number c.in-Marks.cloexec)

pub returns-in-SetsStatus : goal.returns-in-SetsStatus
returns-in-SetsStatus c =
    let a = c.args in
    let s = c.in-SetsStatus in
    of_change a.table a.files.now a.change _ c.touched_with-in-SetsStatus.result _ s.is
    c.touched_with-in-SetsStatus.ensures (sets_touched a.table a.files.now s.description s.flags)

pub returns-in-Closes : goal.returns-in-Closes
returns-in-Closes c =
    let a = c.args in
    of_change a.table a.files.now a.change _ c.touched_with-in-Closes.result _ c.in-Closes.is
    (c.touched_with-in-Closes.ensures
    ∙ ap (λ o. touched_with a.table None o a.files.now) c.description_at-in-Closes.ensures)
    (closes_touched a.table a.files.now c.in-Closes.number)
