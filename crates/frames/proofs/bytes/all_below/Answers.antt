-- `all` answers for each byte of the rest. Assumes nothing.
use Rattle.std.proofs.Common.{◌∙◌, ◌-◌, drop, length, length-drop, ltb, rules, tests, arith}
use Rattle.std.proofs.Math.Seq.{take_all}
use Rattle.std.proofs.lemmas.Iterator.{YieldsList-from_slice}
use Rattle.std.proofs.lemmas.Iterator.Search.{all_from_yields_List}
use Rattle.frames.proofs.Bridges.{list_all-is}
use Rattle.frames.proofs.bytes.all_below.Goals as goal

pub returns : goal.returns
returns c =
    let p = c.args.p.now in
    let rest = drop c.args.from p in
    let whole = take_all (length p - c.args.from) rest (simp length-drop (omega arith)) in
    all_from_yields_List (λ d. ltb d c.args.limit) _ _ _ c.all.ensures.ran (YieldsList-from_slice rest (c.iter.ensures.rest ∙ whole)) (λ x b q k. search (rules, tests))
    ∙ list_all-is (λ d. ltb d c.args.limit) rest
