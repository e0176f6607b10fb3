-- Numbers among a command's words. Assumes nothing.
use Rattle.std.specs.Prelude.{Bool, true, false, ◌&&◌, ℕ, ◌+◌, ◌*◌, ◌-◌, ◌^◌, [], ◌∷◌, ltb, leb}
use Rattle.std.proofs.Math.Option.{Option, none, some}
use Rattle.spec.specs.Lists.{Bytes}

-- a figure, 0 to 9, as a byte
unfoldable pub is_figure : ℕ → Bool
is_figure c = leb 48 c && leb c 57

-- what figures stand for behind those of n, base ten; nothing where a byte is no figure
unfoldable pub figures : ℕ → Bytes → Option ℕ
figures n [] = some n
figures n (c ∷ s) = elim (is_figure c) [ true ↦ figures (n * 10 + (c - 48)) s | false ↦ none ]

-- a number that fits 64 bits
unfoldable pub fitting : Option ℕ → Option ℕ
fitting none = none
fitting (some n) = elim (ltb n (2 ^ 64)) [ true ↦ some n | false ↦ none ]

-- the number that a word stands for: figures alone, at least one, and a number that fits
unfoldable pub number_in : Bytes → Option ℕ
number_in [] = none
number_in (c ∷ s) = fitting (figures 0 (c ∷ s))
