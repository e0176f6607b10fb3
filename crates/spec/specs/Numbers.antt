-- Little-endian numbers, for any width in bytes, without and with a sign, decimal digits, and rounding.
-- Assumes nothing.
use Rattle.std.specs.Prelude.{true, false, cond, ℕ, zero, suc, ◌+◌, ◌*◌, ◌-◌, ◌/◌, ◌%◌, ◌^◌, [], ◌∷◌, ◌++◌, length, take, drop, replicate, ℤ, pos, negsuc, ltb}
use Rattle.spec.specs.Lists.{Bytes, one}

-- "all little-endian": n in w bytes
unfoldable pub little_endian : ℕ → ℕ → Bytes
little_endian zero n = []
little_endian (suc w) n = n % 256 ∷ little_endian w (n / 256)

-- the number that bytes stand for
unfoldable pub number : Bytes → ℕ
number [] = 0
number (x ∷ xs) = x + 256 * number xs

-- the number in the w bytes from `at` on
unfoldable pub field : Bytes → ℕ → ℕ → ℕ
field s at w = number (take w (drop at s))

-- "signed": the number that n, of w bytes, stands for in two's complement
unfoldable pub signed : ℕ → ℕ → ℤ
signed w n = elim (ltb (n * 2) (256 ^ w)) [ true ↦ pos n | false ↦ negsuc (256 ^ w - suc n) ]

-- the w bytes' number for a signed one
unfoldable pub unsigned : ℕ → ℤ → ℕ
unsigned w (pos n) = n
unsigned w (negsuc n) = 256 ^ w - suc n

-- "Figures are base ten": n in at most `most` digits
unfoldable pub digits : ℕ → ℕ → Bytes
digits zero n = []
digits (suc most) n = elim (ltb n 10) [ true ↦ one (48 + n) | false ↦ digits most (n / 10) ++ one (48 + n % 10) ]

-- A number has at most as many digits as it has units, and one at least.
unfoldable pub decimal : ℕ → Bytes
decimal n = digits (suc n) n

-- n in w digits, zeros ahead of it: the last w, where it has more
unfoldable pub in_digits : ℕ → ℕ → Bytes
in_digits zero n = []
in_digits (suc w) n = in_digits w (n / 10) ++ one (48 + n % 10)

-- n in w bytes, blanks ahead of it
unfoldable pub aligned : ℕ → ℕ → Bytes
aligned w n = replicate (w - length (decimal n)) 32 ++ decimal n

unfoldable pub decimal_z : ℤ → Bytes
decimal_z (pos n) = decimal n
decimal_z (negsuc n) = 45 ∷ decimal (suc n)

-- P3: "to the nearest whole segment, an exact half going down": n / d, and one more where more than half of d is left over
unfoldable pub nearest : ℕ → ℕ → ℕ
nearest n d = cond (ltb d (2 * (n % d))) (n / d + 1) (n / d)
