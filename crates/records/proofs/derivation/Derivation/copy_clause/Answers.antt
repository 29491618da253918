-- `records::derivation::Derivation::copy_clause` meets its contract. Assumes nothing.
use Prim.Native.Nat.{◌*◌, ◌-◌, ◌/◌}
use mathlib.Core.Path.{◌≡◌}
use native.Mathlib.Omega.{arith}
use borrow.Author.Tests.{lt-ltb, le-ltb}
use lib.ListN.{length}
use Rattle.records.specs.Derivation.{inputs, clause_at}
use Rattle.records.proofs.derivation.Derivation.copy_clause.Goals as goal

pub returns-then-k-in_a : goal.returns-then-k-in_a
unfolding clause_at
returns-then-k-in_a g c = rw (lt-ltb _ _ c.if-k-in_a.true) c.copy_record.ensures

pub returns-then-j-in_b : goal.returns-then-j-in_b
unfolding clause_at
returns-then-j-in_b g c =
    let d = c.args.self.now in
    rw (le-ltb _ _ c.if-k-in_a.false, lt-ltb c.args.k (inputs g.row.HALF d.a.now d.b.now) (omega arith)) c.copy_record-then-j-in_b.ensures

pub returns : goal.returns
unfolding clause_at
returns g c =
    let d = c.args.self.now in
    let n = inputs g.row.HALF d.a.now d.b.now in
    let e : c.args.k - length d.a.now / (2 * g.row.HALF) - length d.b.now / (2 * g.row.HALF) ≡ c.args.k - n = omega arith in
    rw (le-ltb _ _ c.if-k-in_a.false, le-ltb c.args.k n (omega arith), ← e) c.copy_record-2.ensures
