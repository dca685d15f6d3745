-- Limits of a command.
use Rattle.std.specs.Prelude.{ℕ}

-- the most octets of a command outside its literals, line ends counted
abbrev pub max_command_octets : ℕ
max_command_octets = 8192

-- the most octets of a literal for which the client doesn't wait (RFC 7888, section 4)
abbrev pub max_unasked_octets : ℕ
max_unasked_octets = 4096
