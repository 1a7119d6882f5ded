use Rattle.std.proofs.{Common.rules, Common.◌≤◌, Common.◌∙◌, Common.sym, lemmas.Bool.false≢true}
use Rattle.vipr_spec.specs.{Reading.most_count, Shape.ClaimFits}
use Rattle.vipr_cert.specs.Items.{claim_of}
use Rattle.vipr_cert.proofs.problem.Problem.new.Goals as goal

pub of_parts-requires : goal.of_parts-requires
of_parts-requires c =
    let t = c.if-not-are_within.false in
    let bound_count : c.args.bound_count ≤ most_count = search rules in
    let claim : ClaimFits (claim_of c.args.claim) = search rules in
    let known = rw (c.deref.ensures.value, c.deref-2.ensures.value) at c.are_within.ensures in
    record {
      shape = (known.shape c.args.sense c.args.bound_count c.args.claim).0 t;
      fits = record {
        objective = known.objective;
        constraints = known.constraints t;
        bound_count = bound_count;
        claim = claim;
      };
    }

pub returns-then-not-are_within-clause-shape : goal.returns-then-not-are_within-clause-shape
returns-then-not-are_within-clause-shape c =
    let known = rw (c.deref.ensures.value, c.deref-2.ensures.value) at c.are_within.ensures in (
      λ t. absurd (false≢true t),
      λ h. sym c.if-not-are_within.true
          ∙ (known.shape c.args.sense c.args.bound_count c.args.claim).1 h,
    )
