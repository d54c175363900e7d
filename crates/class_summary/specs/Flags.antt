-- Access flags (JVMS 4.1, 4.5 and 4.6).
use Rattle.std.specs.Prelude.{ℕ, Bool, not, ◌==◌, bit_and}

abbrev pub private : ℕ
private = 2

abbrev pub bridge : ℕ
bridge = 64

abbrev pub synthetic : ℕ
synthetic = 4096

abbrev pub module_flag : ℕ
module_flag = 32768

-- Whether the flag is among the flags.
unfoldable pub has_flag : ℕ → ℕ → Bool
has_flag flags flag = not (bit_and flags flag == 0)
