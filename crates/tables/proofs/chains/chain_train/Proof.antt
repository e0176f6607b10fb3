-- `chains::chain_train` meets its contract: what is found in the table of the train's runs is what the instance says. Assumes
-- nothing.
use borrow.Author.Rules.{rules}
use mathlib.Core.Path.{◌≡◌, ap, ◌∙◌}
use Prim.Native.Nat.{◌≤◌}
use lib.Seq.{sets}
use Rattle.spec.specs.Instance.{train_length}
use Rattle.spec.specs.Held.{held}
use Rattle.tables.proofs.Held.{few-n, sizes-n, least-n}
use Rattle.tables.proofs.Here.{length-here, length-asks}
use Rattle.tables.proofs.Links.{links-are}
use Rattle.tables.proofs.chains.chain_train.Statement.{statement}
use Rattle.tables.proofs.chains.chain_train.Tie as tie

module _ (c : tie.After-length_in_segments-l) where
  abbrev start : tie.Start
  start = c.before.before.before.before

  reached : (c.length_in_segments-l.result ≡ train_length (held start.args.b) start.args.train)
      × (c.length_in_segments-l.result ≤ 8)
  reached = length-here start.args.b start.requires.0 start.args.train start.requires.1 c.length_in_segments-l.ensures

length-in-segments-requires : tie.Need-length_in_segments-l-requires
length-in-segments-requires c κs =
    let s = c.before.before.before in
    length-asks s.args.b s.requires.0 s.args.train s.requires.1

chain-runs-requires : tie.Need-chain_runs-requires
chain-runs-requires c κs =
    let p = (start c.before).requires in
    let h = p.3 in
    (h.long, p.4, few-n h _ p.2, least-n h _ p.2 _ (reached c.before).0, sizes-n h _ p.2)

returns : tie.Need-returns
returns c =
    let f = c.before.before in
    let m = f.before.before in
    let p = (start m).requires in
    f.chain_runs.ensures ∙ ap (sets (start m).args.chains.now 0) (links-are p.3 p.2 (reached m).0)

pub chain_train_spec : {M : Type 1} → statement M
chain_train_spec =
    tie.close
    (tie.spec
    (λ c. search rules)
    (λ c. search rules)
    length-in-segments-requires
    chain-runs-requires
    (λ c. search rules)
    returns)
