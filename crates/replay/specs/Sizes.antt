-- Sizes that serve every recording. Definitions only.
use Rattle.std.specs.Prelude.{ℕ, ◌+◌, ◌*◌}

-- How much of a recording decides its text: one byte more than the longest that can be read to its end, a configuration
-- of 137 bytes and 4,096 calls of 86.
abbrev pub decisive : ℕ
decisive = 137 + 4096 * 86 + 1

-- Room for every text: 4,097 lines of 80 bytes.
abbrev pub text_room : ℕ
text_room = 4097 * 80
