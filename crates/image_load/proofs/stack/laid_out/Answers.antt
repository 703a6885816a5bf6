-- What is laid out is the opening stack of the strings, up to its top.
use Rattle.std.proofs.Common.{arith}
use Rattle.image_load.specs.Stacks.{ProgramStart}
use Rattle.image_load.proofs.Stacks.{stack_laid}
use Rattle.image_load.proofs.StackReads.{stack_read, stack_length}
use Rattle.image_load.proofs.stack.laid_out.Goals as goal

pub returns-clause-bytes : goal.returns-clause-bytes
returns-clause-bytes c =
    let start : ProgramStart =
    record {
      args = c.args.args.now;
      env = c.args.env.now;
      random = c.args.random.now;
      auxiliary = c.args.auxiliary.now;
    } in
    let args_long = c.strings_length-args_length.ensures in
    let env_long = c.strings_length.ensures in
    let few = c.requires.strings in
    let short = c.requires.room in
    stack_laid start _ _ _ _ _ _ _ _ _ _
    (omega (arith, args_long, env_long, few, short))
    (omega (arith, args_long, env_long, few, short))
    (omega (arith, args_long, env_long, few, short))
    c.in_ok-bytes.ensures.ok c.in_ok-put_pointers.ensures c.in_ok-put_auxiliary.ensures.ok c.in_ok-put_zeros.ensures
    c.in_ok-put_strings.ensures c.in_ok-put_strings-2.ensures c.in_ok-extend_from_slice.ensures.ok

pub returns-clause-top : goal.returns-clause-top
returns-clause-top c =
    let start : ProgramStart =
    record {
      args = c.args.args.now;
      env = c.args.env.now;
      random = c.args.random.now;
      auxiliary = c.args.auxiliary.now;
    } in
    let args_long = c.strings_length-args_length.ensures in
    let env_long = c.strings_length.ensures in
    stack_length start (record { sp = _; bytes = _ }) c.requires.strings c.requires.room c.told-random
    (omega (arith, args_long, env_long))
    (returns-clause-bytes c)

pub returns-clause-read : goal.returns-clause-read
returns-clause-read c =
    let start : ProgramStart =
    record {
      args = c.args.args.now;
      env = c.args.env.now;
      random = c.args.random.now;
      auxiliary = c.args.auxiliary.now;
    } in
    let args_long = c.strings_length-args_length.ensures in
    let env_long = c.strings_length.ensures in
    stack_read start _ c.requires.strings c.requires.room c.told-random c.put_auxiliary.ensures.fits
    (omega (arith, args_long, env_long))
    (returns-clause-bytes c)
