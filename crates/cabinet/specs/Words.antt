-- The words of the commands, and which command a word names. Assumes nothing.
use Rattle.std.specs.Prelude.{◌≡◌, [], ◌∷◌, Option, Some, None}
use Rattle.spec.specs.Lists.{Bytes}
use Rattle.cabinet.specs.declared.commands.Command.{Command}
use Rattle.cabinet.specs.declared.commands.Command.TheVariants.{PrintFormula, CheckAssignment, CheckPlan, CheckRefutation, CheckFewest, UpgradeBook, PrintGraph, ListCarriers}

-- "print_formula"
abbrev pub print_formula_word : Bytes
print_formula_word = 112 ∷ 114 ∷ 105 ∷ 110 ∷ 116 ∷ 95 ∷ 102 ∷ 111 ∷ 114 ∷ 109 ∷ 117 ∷ 108 ∷ 97 ∷ []

-- "check_assignment"
abbrev pub check_assignment_word : Bytes
check_assignment_word = 99 ∷ 104 ∷ 101 ∷ 99 ∷ 107 ∷ 95 ∷ 97 ∷ 115 ∷ 115 ∷ 105 ∷ 103 ∷ 110 ∷ 109 ∷ 101 ∷ 110 ∷ 116 ∷ []

-- "check_plan"
abbrev pub check_plan_word : Bytes
check_plan_word = 99 ∷ 104 ∷ 101 ∷ 99 ∷ 107 ∷ 95 ∷ 112 ∷ 108 ∷ 97 ∷ 110 ∷ []

-- "check_refutation"
abbrev pub check_refutation_word : Bytes
check_refutation_word = 99 ∷ 104 ∷ 101 ∷ 99 ∷ 107 ∷ 95 ∷ 114 ∷ 101 ∷ 102 ∷ 117 ∷ 116 ∷ 97 ∷ 116 ∷ 105 ∷ 111 ∷ 110 ∷ []

-- "check_fewest"
abbrev pub check_fewest_word : Bytes
check_fewest_word = 99 ∷ 104 ∷ 101 ∷ 99 ∷ 107 ∷ 95 ∷ 102 ∷ 101 ∷ 119 ∷ 101 ∷ 115 ∷ 116 ∷ []

-- "upgrade_book"
abbrev pub upgrade_book_word : Bytes
upgrade_book_word = 117 ∷ 112 ∷ 103 ∷ 114 ∷ 97 ∷ 100 ∷ 101 ∷ 95 ∷ 98 ∷ 111 ∷ 111 ∷ 107 ∷ []

-- "print_graph"
abbrev pub print_graph_word : Bytes
print_graph_word = 112 ∷ 114 ∷ 105 ∷ 110 ∷ 116 ∷ 95 ∷ 103 ∷ 114 ∷ 97 ∷ 112 ∷ 104 ∷ []

-- "list_carriers"
abbrev pub list_carriers_word : Bytes
list_carriers_word = 108 ∷ 105 ∷ 115 ∷ 116 ∷ 95 ∷ 99 ∷ 97 ∷ 114 ∷ 114 ∷ 105 ∷ 101 ∷ 114 ∷ 115 ∷ []

-- a word names the command that has it, and none where no command has
abbrev pub Names : Bytes → Option Command → Type 0
Names word (Some PrintFormula) = word ≡ print_formula_word
Names word (Some CheckAssignment) = word ≡ check_assignment_word
Names word (Some CheckPlan) = word ≡ check_plan_word
Names word (Some CheckRefutation) = word ≡ check_refutation_word
Names word (Some CheckFewest) = word ≡ check_fewest_word
Names word (Some UpgradeBook) = word ≡ upgrade_book_word
Names word (Some PrintGraph) = word ≡ print_graph_word
Names word (Some ListCarriers) = word ≡ list_carriers_word
Names word None =
    (word ≡ print_formula_word → ⊥) × (word ≡ check_assignment_word → ⊥) × (word ≡ check_plan_word → ⊥) × (word ≡ check_refutation_word → ⊥)
    × (word ≡ check_fewest_word → ⊥) × (word ≡ upgrade_book_word → ⊥) × (word ≡ print_graph_word → ⊥) × (word ≡ list_carriers_word → ⊥)
