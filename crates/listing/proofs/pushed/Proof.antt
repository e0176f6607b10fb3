-- `listing::pushed` meets its contract: the list in the path's array gets one element more. Assumes nothing.
use borrow.Author.Rules.{rules}
use Rattle.listing.proofs.Leaves.{path-next}
use Rattle.listing.proofs.pushed.Statement.{statement}
use Rattle.listing.proofs.pushed.Tie as tie

cast-next : tie.Need-overflow_cast-next
cast-next c = search rules

element-write-next : tie.Need-bounds-next-at
element-write-next c = search rules

add-next : tie.Need-overflow_add-next
add-next c = search rules

returns : tie.Need-returns
returns c = path-next _ _ _ c.requires.0 c.requires.1

pub pushed_spec : {M : Type 1} → statement M
pushed_spec = tie.close (tie.spec cast-next element-write-next add-next returns)
