use Rattle.formula.specs.Families.{B, C, D, E, G, H}
use Rattle.formula.proofs.walk.walk_formula.Given as goal

abbrev pub ghost-by_train : goal.ghost-by_train
ghost-by_train a = B

abbrev pub ghost-by_train-2 : goal.ghost-by_train-2
ghost-by_train-2 a = C

abbrev pub ghost-by_train-3 : goal.ghost-by_train-3
ghost-by_train-3 a = D

abbrev pub ghost-by_train-4 : goal.ghost-by_train-4
ghost-by_train-4 a = E

abbrev pub ghost-by_train-5 : goal.ghost-by_train-5
ghost-by_train-5 a = G

abbrev pub ghost-by_train-6 : goal.ghost-by_train-6
ghost-by_train-6 a = H
