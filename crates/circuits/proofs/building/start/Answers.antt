-- `circuits::building::start` meets its contract: behind the references of A, those of B are filled in. Assumes nothing.
use Rattle.std.proofs.Common.{◌≡◌, ℕ, replicate, ap, rules, ◌∙◌, arith}
use Rattle.std.proofs.lemmas.Slice.{overwrites}
use Rattle.circuits.proofs.InsideLaws.{inputs_filled}
use Rattle.circuits.proofs.building.start.Goals as goal

pub returns : goal.returns
returns c =
    let a = c.args.in_a in
    let b = c.args.in_b in
    let ones : c.fill.new.self ≡ replicate b 1 = c.fill.ensures.after (λ y same. same) ∙ ap (λ (n : ℕ). replicate {A = ℕ} n 1) (search (rules, overwrites)) in
    (search (rules, overwrites), inputs_filled a b 1024 _ _ (omega arith) ones)
