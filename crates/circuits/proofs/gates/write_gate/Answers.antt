-- `circuits::gates::write_gate` meets its contract: the record is written, and without room nothing is. Assumes nothing.
use Rattle.std.proofs.Common.{sym, ◌∙◌, arith}
use Rattle.circuits.proofs.GateLaws.{written_in, written_out}
use Rattle.circuits.proofs.gates.write_gate.Goals as goal

pub returns-then-gates-k : goal.returns-then-gates-k
returns-then-gates-k c =
    let args = c.args in
    sym (written_out args.gates.now args.k (record { kind = args.kind; left = args.left; right = args.right }) (omega arith))

pub returns : goal.returns
returns c =
    let put-gate = c.put_gate in
    let args = c.args in
    put-gate.ensures ∙ sym (written_in args.gates.now args.k (record { kind = args.kind; left = args.left; right = args.right }) (omega arith))
