-- The chains are those of the runs that were prepared. Assumes nothing.
use Rattle.tables.proofs.Filled.{chains-ready}
use Rattle.tables.proofs.preparing.prepare_chains.Goals as goal

pub returns-clause-chains_ready : goal.returns-clause-chains_ready
returns-clause-chains_ready c =
    chains-ready c.in_ok-p.p.book c.in_ok-p.ensures.runs_ready.counted.passed c.args.chains.now c.requires.1 c.chain_trains.ensures
