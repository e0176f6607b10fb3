-- `listing::last_of` meets its contract: the last of the first n entries of the array. Assumes nothing.
use Rattle.std.proofs.Common.{◌≡◌, length, sym, ◌∙◌, arith, rules}
use Rattle.laws.proofs.Last.{last-take}
use Rattle.listing.specs.Listed.{path_of}
use Rattle.listing.proofs.last_of.Goals as goal

pub returns : goal.returns
unfolding path_of
returns c =
    let p = c.args.path in
    let e : length p.at ≡ 16 = search rules in
    c.from.ensures ∙ sym (last-take p.at p.n 0 0 c.requires.0 (omega arith))
