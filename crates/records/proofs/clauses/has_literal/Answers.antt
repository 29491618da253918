-- `records::clauses::has_literal` meets its contract: the mask of one bit tests that bit. Assumes nothing.
use Prim.Native.Nat.{◌%◌, ◌^◌}
use mathlib.Core.Path.{◌≡◌, sym}
use native.Mathlib.Omega.{arith}
use Rattle.records.proofs.ClauseLaws.{has_past, mask_has}
use Rattle.records.proofs.clauses.has_literal.Goals as goal

pub returns-then-clause-at : goal.returns-then-clause-at
returns-then-clause-at c = sym (has_past _ _ (omega arith))

pub returns : goal.returns
returns c =
    let args = c.args in
    let mask = c.mask_of-mask in
    let one : mask.result ≡ 2 ^ (args.literal % 8) = mask.ensures in
    mask_has args.clause.now args.literal mask.result one
