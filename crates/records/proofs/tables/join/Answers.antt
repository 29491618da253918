-- `records::tables::join` meets its contract: the bytes passed hold the literals of both. Assumes nothing.
use native.Mathlib.Omega.{arith}
use Rattle.records.proofs.ClauseLaws.{joined_is}
use Rattle.records.proofs.tables.join.Goals as goal

pub returns : goal.returns
returns c =
    let loop = c.loop-i in
    joined_is _ _ _ (omega arith) (λ k l. loop.invariant.0 k (omega arith))
