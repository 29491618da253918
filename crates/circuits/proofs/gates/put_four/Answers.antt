-- `circuits::gates::put_four` meets its contract: four stores in a row are the number's bytes written. Assumes nothing.
use Rattle.std.proofs.Common.{◌/◌, ◌%◌, arith}
use Rattle.circuits.proofs.GateLaws.{stores}
use Rattle.circuits.proofs.gates.put_four.Goals as goal

pub returns : goal.returns
returns c =
    let args = c.args in
    let n = args.number in
    rw c.to_le_bytes.ensures (stores args.table.now args.at (n % 256) (n / 256 % 256) (n / 65536 % 256) (n / 16777216 % 256) (omega arith))
