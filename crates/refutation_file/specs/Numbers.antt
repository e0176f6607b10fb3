-- Lists of four-byte numbers. Assumes nothing.
use Rattle.std.specs.Prelude.{ℕ, ◌*◌, ◌/◌, List, map, length}
use Rattle.spec.specs.Lists.{Bytes, up_to}
use Rattle.spec.specs.Numbers.{field, signed}
use Rattle.spec.specs.Frames.{number_width}
use Rattle.spec.specs.Formula.{Clause}

-- how many numbers a list has
abbrev pub number_count : Bytes → ℕ
number_count list = length list / number_width

-- the numbers of a list
unfoldable pub numbers_in : Bytes → List ℕ
numbers_in list = map (λ i. field list (number_width * i) number_width) (up_to (number_count list))

-- and as literals
unfoldable pub literals_in : Bytes → Clause
literals_in list = map (signed number_width) (numbers_in list)
