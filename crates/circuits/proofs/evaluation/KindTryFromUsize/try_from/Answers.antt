-- The kind of a number: 1 is AND, 2 is OR, and any other is 22. Assumes nothing.
use Rattle.std.proofs.Common.{◌≡◌, refl, arith}
use Rattle.circuits.specs.EvaluateInside.{kind_of}
use Rattle.circuits.proofs.EvaluateInsideLaws.{kind_none}
use Rattle.circuits.proofs.evaluation.KindTryFromUsize.try_from.Goals as goal

pub returns-then-or-gt1 : goal.returns-then-or-gt1
returns-then-or-gt1 c = kind_none c.args.number (λ e. omega arith) (λ e. omega arith)

pub returns-then-or-eq0 : goal.returns-then-or-eq0
unfolding kind_of
returns-then-or-eq0 c = let one : c.args.number ≡ 1 = omega arith in rw one refl

pub returns-else-or-eq0 : goal.returns-else-or-eq0
unfolding kind_of
returns-else-or-eq0 c = let two : c.args.number ≡ 2 = omega arith in rw two refl
