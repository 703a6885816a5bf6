-- When the strings that an image is started with are too many or too long.
use Rattle.std.specs.Prelude.{ℕ, ◌+◌, nat_lt, List, length, Bool, ◌||◌}
use Rattle.image_load.specs.declared.strings.TheConstants.{MOST_STRINGS, MOST_STRING_BYTES}
use Rattle.image_load.specs.Stacks.{strings_room}

-- arguments and environment are more strings than there may be, or take more bytes with their pointers than they may
-- execve(2), E2BIG; the two numbers: profile
abbrev pub is_too_long : (args env : List (List ℕ)) → Bool
is_too_long args env =
    nat_lt MOST_STRINGS (length args + length env) || nat_lt MOST_STRING_BYTES (strings_room args + strings_room env)
