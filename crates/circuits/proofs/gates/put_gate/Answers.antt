-- `circuits::gates::put_gate` meets its contract: two numbers of four bytes in a row are the gate's bytes. Assumes nothing.
use Rattle.std.proofs.Common.{arith}
use Rattle.circuits.proofs.GateLaws.{written_fours}
use Rattle.circuits.proofs.gates.put_gate.Goals as goal

pub returns : goal.returns
returns c =
    let args = c.args in
    rw (c.put_four-2.ensures, c.put_four.ensures, c.from.ensures, c.from-2.ensures, c.from-3.ensures)
    (written_fours args.gates.now args.k args.kind args.left args.right (omega arith) (omega arith) (omega arith) (omega arith))
