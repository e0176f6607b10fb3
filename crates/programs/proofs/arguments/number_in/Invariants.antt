-- `arguments::number_in`: the word stands for what the figures from here on stand for behind n.
use Rattle.std.proofs.Common.{◌≡◌, ◌<◌, ◌^◌, drop}
use Rattle.programs.specs.Arguments.{figures}
use Rattle.programs.proofs.arguments.number_in.Given as goal

abbrev pub invariant-loop-c : goal.invariant-loop-c
invariant-loop-c l = (l.n < 2 ^ 64) × (figures 0 l.word ≡ figures l.n (drop l.c-index l.word))
