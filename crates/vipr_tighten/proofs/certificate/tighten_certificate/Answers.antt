use Rattle.std.proofs.Common.{◌≡◌, length, sym, ap, ◌∙◌}
use Rattle.std.proofs.lemmas.List.{length-map}
use Rattle.vipr_linear.specs.Constraint.{constraint_of}
use Rattle.vipr_cert.specs.Items.{named_of}
use Rattle.vipr_tighten.proofs.Tightening.{derived, tightened_parts, parts_within}
use Rattle.vipr_tighten.proofs.certificate.tighten_certificate.Goals as goal

pub of_parts-requires : goal.of_parts-requires
of_parts-requires c =
    let is_first : length c.into_parts-problem.result.0.constraints ≡ length c.cons.result.now =
    ap length (sym c.cons.ensures.constraints) ∙ length-map c.cons.result.now (named_of constraint_of) in
    let are = c.in-Ok.ensures tt c.args.certificate
    (derived c.args.certificate c.into_parts-problem.result.0
    c.into_parts-problem.result.1.items c.into_parts-problem.result.2.items
    c.into_parts-problem.ensures.parts (length c.cons.result.now) is_first)
    (record { back = c.requires.back; named = c.requires.goal }) in
    parts_within c.args.certificate c.into_parts-problem.result.0
    c.into_parts-problem.result.1.items c.into_parts-problem.result.2.items
    c.into_parts-problem.ensures.parts c.args.goal c.tighten_derived.new.steps.items are
    c.into_parts-problem.ensures.writes

pub returns-in-Ok : goal.returns-in-Ok
returns-in-Ok c =
    let is_first : length c.into_parts-problem.result.0.constraints ≡ length c.cons.result.now =
    ap length (sym c.cons.ensures.constraints) ∙ length-map c.cons.result.now (named_of constraint_of) in
    let are = c.in-Ok.ensures tt c.args.certificate
    (derived c.args.certificate c.into_parts-problem.result.0
    c.into_parts-problem.result.1.items c.into_parts-problem.result.2.items
    c.into_parts-problem.ensures.parts (length c.cons.result.now) is_first)
    (record { back = c.requires.back; named = c.requires.goal }) in
    c.of_parts.ensures.parts ∙ tightened_parts c.args.certificate c.into_parts-problem.result.0
    c.into_parts-problem.result.1.items c.into_parts-problem.result.2.items
    c.into_parts-problem.ensures.parts c.args.goal c.tighten_derived.new.steps.items are
