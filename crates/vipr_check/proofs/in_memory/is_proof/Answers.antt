use Rattle.std.proofs.Common.{rules, ◌<◌, ◌^◌, length}
use Rattle.vipr_check.specs.declared.verdict.Verdict.TheVariants.{Verified, Refused}
use Rattle.vipr_check.proofs.InMemory.{on, verified, true_claim, refused}
use Rattle.vipr_check.proofs.in_memory.is_proof.Goals as goal

pub returns-in-Ok-Verified-clause-proof : goal.returns-in-Ok-Verified-clause-proof
returns-in-Ok-Verified-clause-proof c =
    let text = c.args.text.now in
    let said = on text c.new.result c.check.result c.in-Ok-Verified.field-0
    (Verified c.in-Ok-Verified.field-0-0) c.new.ensures c.in-Ok-Verified.is
    c.in-Ok-Verified.field-0-is c.check.ensures in
    let short : length text < 2 ^ 64 = search rules in
    (λ _. verified text c.in-Ok-Verified.field-0-0 short said, λ _. search rules)

pub returns-in-Ok-Verified-clause-claim : goal.returns-in-Ok-Verified-clause-claim
returns-in-Ok-Verified-clause-claim c =
    let text = c.args.text.now in
    let said = on text c.new.result c.check.result c.in-Ok-Verified.field-0
    (Verified c.in-Ok-Verified.field-0-0) c.new.ensures c.in-Ok-Verified.is
    c.in-Ok-Verified.field-0-is c.check.ensures in
    let short : length text < 2 ^ 64 = search rules in
    λ _. true_claim text c.in-Ok-Verified.field-0-0 short said

pub returns-in-Ok-Refused-clause-proof : goal.returns-in-Ok-Refused-clause-proof
returns-in-Ok-Refused-clause-proof c =
    let text = c.args.text.now in
    let said = on text c.new.result c.check.result c.in-Ok-Refused.field-0
    (Refused c.in-Ok-Refused.field-0-0) c.new.ensures c.in-Ok-Refused.is
    c.in-Ok-Refused.field-0-is c.check.ensures in
    let short : length text < 2 ^ 64 = search rules in
    (λ h. search rules, λ p. absurd (refused text c.in-Ok-Refused.field-0-0 short said p))
