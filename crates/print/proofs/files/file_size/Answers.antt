-- `print::files::file_size` meets its contract: each case is one of the definition's.
use mathlib.Core.Path.{refl, sym, ◌∙◌}
use borrow.Author.Tests.{eq-eqb, ne_eqb}
use Rattle.print.specs.File.{size_read}
use Rattle.print.proofs.files.file_size.Goals as goal

pub returns-then-not-opened : goal.returns-then-not-opened
unfolding size_read
returns-then-not-opened c = λ longer. rw c.if-not-opened.true refl

pub returns-in-Some-eq0 : goal.returns-in-Some-eq0
unfolding size_read
returns-in-Some-eq0 c = λ longer. rw (c.if-not-opened.false, c.in-Some-eq0.is, eq-eqb c.in-Some-eq0.field-0 0 (sym c.in-Some-eq0.field-0-is ∙ c.in-Some-eq0.field-0-test)) refl

pub returns-in-Some : goal.returns-in-Some
unfolding size_read
returns-in-Some c = λ longer. rw (c.if-not-opened.false, c.in-Some.is, ne_eqb c.in-Some.field-0 0 (λ e. c.in-Some.field-0-test.1 (c.in-Some.field-0-is ∙ e))) refl

pub returns-in-None : goal.returns-in-None
unfolding size_read
returns-in-None c = λ longer. rw (c.if-not-opened.false, c.in-None.is) refl
