-- `circuits::building::Builder::add` meets its contract: there is room, so that the gate is written. Assumes nothing.
use Rattle.std.proofs.Common.{ℕ, [], ◌∷◌, refl, ap, ◌∙◌}
use Rattle.circuits.specs.Gate.{with_gates}
use Rattle.circuits.proofs.building.Builder.add.Goals as goal

pub returns : goal.returns
returns c =
    let args = c.args in
    record {
      next = refl;
      step = refl;
      table =
          c.put_gate.ensures
          ∙ ap (λ (kind : ℕ). with_gates args.gates.now args.self.next (record { kind = kind; left = args.left; right = args.right } ∷ [])) c.from.ensures;
    }
