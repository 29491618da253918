-- `print::text::kind_word` meets its contract. Assumes nothing.
use mathlib.Core.Path.{refl}
use native.Mathlib.Omega.{arith}
use borrow.Author.Tests.{eq-eqb, ne_eqb}
use Rattle.print.specs.Line.{kind_word}
use Rattle.print.proofs.text.kind_word.Goals as goal

pub returns-then-kind-eq1 : goal.returns-then-kind-eq1
unfolding kind_word
returns-then-kind-eq1 c = rw (eq-eqb c.args.kind 1 c.if-kind-eq1.true) (record { word = refl; short = omega arith })

pub returns-else-kind-eq1 : goal.returns-else-kind-eq1
unfolding kind_word
returns-else-kind-eq1 c = rw (ne_eqb c.args.kind 1 c.if-kind-eq1.false) (record { word = refl; short = omega arith })
