-- What a line begins with stands before its rest.
use Rattle.std.proofs.Common.{rules, ◌≡◌, ◌++◌, ℤ, ℕ, List, Result, Ok, Err, OnOk, SFits, w64, codes, ap, sym, subst}
use Rattle.std.proofs.Common.{◌∙◌, append_assoc}
use Rattle.std.proofs.Math.Facts.{to_z-of_z}
use Rattle.std.specs.Fmt.{decimal}
use Rattle.sn_errno.specs.Calls.{call_name}
use Rattle.kernel_model.specs.printed.Printed.{arguments_text, reply_text, entry_text}
use Rattle.sentry_run.proofs.text.trace.push_entry.Goals as goal

line : (head name arguments is reply end : List ℕ)
    → head ++ (name ++ arguments ++ is ++ reply ++ end) ≡ head ++ name ++ arguments ++ is ++ reply ++ end
line head name arguments is reply end =
    sym (append_assoc head (name ++ arguments ++ is ++ reply) end)
    ∙ ap (λ l. l ++ end) (sym (append_assoc head (name ++ arguments ++ is) reply)
    ∙ ap (λ l. l ++ reply) (sym (append_assoc head (name ++ arguments) is)
    ∙ ap (λ l. l ++ is) (sym (append_assoc head name arguments))))

behind : {T E : Type 0} (r : Result T E) (old head rest text begun now : List ℕ) → begun ≡ old ++ head
    → head ++ rest ≡ text → OnOk r (now ≡ begun ++ rest) → OnOk r (now ≡ old ++ text)
behind (Ok x) old head rest text begun now b t e =
    e ∙ ap (λ l. l ++ rest) b ∙ append_assoc old head rest ∙ ap (λ l. old ++ l) t
behind (Err x) old head rest text begun now b t e = e

pub returns-in_ok-push_head-in-Call : goal.returns-in_ok-push_head-in-Call
returns-in_ok-push_head-in-Call c =
    let call = c.in-Call in
    let fits : SFits w64 call.reply = search rules in
    let head = decimal c.args.place ++ codes " " ++ decimal call.task ++ codes " " in
    behind c.push_call.result c.args.out.now.items head _ (entry_text c.args.place c.args.entry.now) _ _
    c.in_ok-push_head-in-Call.ensures
    (line head (call_name call.no) (arguments_text call.args) (codes " = ") (reply_text call.no call.reply) (codes "\n")
    ∙ sym (ap (entry_text c.args.place) call.is))
    (subst (λ (reply : ℤ). OnOk c.push_call.result (c.push_call.new.out.items ≡ c.push_head.new.out.items
    ++ (call_name call.no ++ arguments_text call.args ++ codes " = " ++ reply_text call.no reply ++ codes "\n")))
    (to_z-of_z fits) c.push_call.ensures)
