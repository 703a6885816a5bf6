-- The name, the arguments and the reply stand one behind the other.
use Rattle.std.proofs.Common.{◌≡◌, ◌++◌, ℤ, List, ℕ, Result, Ok, Err, OnOk, codes, ap, sym, subst, ◌∙◌, append_assoc}
use Rattle.std.proofs.Math.Facts.{to_z-of_z}
use Rattle.sn_errno.specs.Calls.{call_name}
use Rattle.kernel_model.specs.printed.Printed.{arguments_text, reply_text}
use Rattle.sentry_run.proofs.text.trace.push_call.Goals as goal

line : (old name arguments is reply end : List ℕ)
    → old ++ name ++ arguments ++ (is ++ reply ++ end) ≡ old ++ (name ++ arguments ++ is ++ reply ++ end)
line old name arguments is reply end =
    ap (λ l. l ++ (is ++ reply ++ end)) (append_assoc old name arguments)
    ∙ append_assoc old (name ++ arguments) (is ++ reply ++ end)
    ∙ ap (λ l. old ++ l) (sym (append_assoc (name ++ arguments) (is ++ reply) end)
    ∙ ap (λ l. l ++ end) (sym (append_assoc (name ++ arguments) is reply)))

behind : {T E : Type 0} (r : Result T E) (old name arguments is reply end named argued now : List ℕ)
    → named ≡ old ++ name → argued ≡ named ++ arguments → OnOk r (now ≡ argued ++ (is ++ reply ++ end))
    → OnOk r (now ≡ old ++ (name ++ arguments ++ is ++ reply ++ end))
behind (Ok x) old name arguments is reply end named argued now n a e =
    e ∙ ap (λ l. l ++ (is ++ reply ++ end)) (a ∙ ap (λ l. l ++ arguments) n) ∙ line old name arguments is reply end
behind (Err x) old name arguments is reply end named argued now n a e = e

pub returns : goal.returns
returns c =
    behind c.push_reply.result c.args.out.now.items (call_name c.args.number) (arguments_text c.args.args.now)
    (codes " = ") (reply_text c.args.number c.args.reply) (codes "\n") _ _ _ c.in_ok-push_name.ensures
    c.in_ok-push_arguments.ensures
    (subst (λ (reply : ℤ). OnOk c.push_reply.result (c.push_reply.new.out.items ≡ c.push_arguments.new.out.items
    ++ (codes " = " ++ reply_text c.args.number reply ++ codes "\n"))) (to_z-of_z c.ranges.reply) c.push_reply.ensures)
