-- `circuits::evaluation::test_gate` meets its contract: 22, 23 or the kind. Assumes nothing.
use Rattle.std.proofs.Common.{◌≡◌, Result, Ok, Err, ◌∙◌, arith, rules}
use Rattle.std.proofs.lemmas.Result.{err_from_is_err_and}
use Rattle.std.specs.Result.{MatchResult, IsErrAnd}
use Rattle.circuits.specs.declared.refusals.Malformed.TheVariants.{AtGate}
use Rattle.circuits.proofs.EvaluateInsideLaws.{kind_refused, left_refused, right_refused, gate_tested}
use Rattle.circuits.proofs.evaluation.test_gate.Goals as goal

mapped : {T E D : Type 0} (Q : E → D → Type 0) (r : Result T E) (q : Result T D) (d : D) → MatchResult r (λ x. q ≡ Ok x) (λ e. IsErrAnd q (Q e)) → q ≡ Err d
    → (e : E) × (Err e ≡ r) × Q e d
mapped Q (Ok x) q d h was = absurd (cc)
mapped Q (Err e) q d h was = (e, search rules, rw was at h)

pub returns-in_err-kind : goal.returns-in_err-kind
returns-in_err-kind c =
    let p = err_from_is_err_and c.from_residual.result c.from_residual.ensures.1 in
    let m = mapped _ c.try_from.result c.map_err.result c.in_err-kind.field-0.0 c.map_err.ensures.cases c.in_err-kind.was in
    let e : c.in_err-kind.field-0.0 ≡ AtGate m.0 c.args.k = let learnt = m.2 in search rules in
    rw (p.1, p.2, e) (kind_refused (m.1 ∙ c.try_from.ensures))

pub returns-then-own-left : goal.returns-then-own-left
returns-then-own-left c = let e : Ok c.in_ok-kind.kind ≡ c.try_from.result = search rules in left_refused (e ∙ c.try_from.ensures) (omega arith)

pub returns-then-own-right : goal.returns-then-own-right
returns-then-own-right c = let e : Ok c.in_ok-kind.kind ≡ c.try_from.result = search rules in right_refused (e ∙ c.try_from.ensures) (omega arith)

pub returns : goal.returns
returns c = let e : Ok c.in_ok-kind.kind ≡ c.try_from.result = search rules in gate_tested (e ∙ c.try_from.ensures) (omega arith) (omega arith)
