-- What a node tells after a call that did not fail.
use Rattle.std.proofs.Common.{◌≡◌, ℕ, ◌<◌, ◌^◌, ap, sym, ◌∙◌, subst}
use Rattle.std.specs.Prelude.{Option, Some, None}
use Rattle.host_node.specs.declared.kind.Kind.{Kind}
use Rattle.host_node.specs.declared.kind.Attr.{Attr}
use Rattle.host_node.specs.Tree.{Shape, faults_of, with_faults}
use Rattle.host_node.specs.Told.{TellsItself, TellsAttr, kept}
use Rattle.host_node.proofs.TreeLemmas.{with_faults_own}
use Rattle.sn_errno.specs.declared.errno.Errno.{Errno}
use Rattle.image_walk.specs.declared.loading.ImageAnswer.{ImageAnswer}
use Rattle.image_walk.specs.declared.loading.ImageAnswer.TheVariants.{Refuses}
use Rattle.image_walk.specs.Loading.{Refusal, IsHere, LoadsWhere}

-- it tells what it told
pub same_told : (s : Shape) (count : ℕ) → faults_of s ≡ count → with_faults count s ≡ s
same_told s count e = ap (λ n. with_faults n s) (sym e) ∙ with_faults_own s

-- a node that is no executable file
pub load_refused : (told told' : Option Shape) (count count' : ℕ) (what : Kind) (attr : Attr) (errno : Errno)
    (risen : Option ℕ) (answer : ImageAnswer)
    → IsHere told → TellsItself told count what → count < 2 ^ 64 → TellsAttr told attr → told' ≡ kept count' told
    → count' ≡ count → Refusal attr (Some errno) → risen ≡ None → answer ≡ Refuses errno
    → LoadsWhere told told' risen answer
load_refused None told' count count' what attr errno risen answer here itself small tells k same refused r a = k
load_refused (Some s) told' count count' what attr errno risen answer here itself small tells k same refused r a =
    let low : faults_of s < 2 ^ 64 = subst (λ (n : ℕ). n < 2 ^ 64) (sym itself.0) small in
    let told_same : told' ≡ Some s = k ∙ ap Some (same_told s count' (itself.0 ∙ sym same)) in
    subst (λ (x : Option ℕ). LoadsWhere (Some s) told' x answer) (sym r)
    (subst (λ (x : ImageAnswer). LoadsWhere (Some s) told' None x) (sym a) (low, (refused s tells here, told_same)))
