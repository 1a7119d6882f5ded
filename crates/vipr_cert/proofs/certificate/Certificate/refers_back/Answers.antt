use Rattle.std.proofs.Common.{◌≡◌, length, sym, ap, ◌∙◌, subst}
use Rattle.std.proofs.lemmas.List.{length-map}
use Rattle.std.specs.Prelude.{◌↔◌, IsTrue}
use Rattle.vipr_spec.specs.Certificate.{Problem}
use Rattle.vipr_linear.specs.Constraint.{constraint_of}
use Rattle.vipr_cert.specs.{Earlier.NameEarlierFrom, Items.named_of}
use Rattle.vipr_cert.proofs.Backwards.{back}
use Rattle.vipr_cert.proofs.certificate.Certificate.refers_back.Goals as goal

pub returns : goal.returns
returns c =
    let ds = c.derivations.result.now in
    let given : length c.cons.result.now ≡ length c.args.self.now.problem.constraints =
    sym (length-map c.cons.result.now (named_of constraint_of))
    ∙ ap length c.cons.ensures.constraints
    ∙ ap (λ (p : Problem). length p.constraints) c.problem.ensures in
    let tests_known : IsTrue c.refer_back.result
    ↔ NameEarlierFrom (length c.args.self.now.problem.constraints) ds (length ds) =
    subst (λ n. IsTrue c.refer_back.result ↔ NameEarlierFrom n ds (length ds)) given c.refer_back.ensures in
    let all = back c.args.self.now ds (sym c.derivations.ensures.derivations) in
    (λ t. all.0 (tests_known.0 t), λ h. tests_known.1 (all.1 h))
