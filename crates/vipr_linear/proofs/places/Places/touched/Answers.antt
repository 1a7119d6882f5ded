use Rattle.std.proofs.Common.{◌<◌, All, length, subst}
use Rattle.vipr_linear.specs.Touched.{CoversNonzero}
use Rattle.vipr_linear.proofs.{Collecting.touched_within, Counting.covered_places}
use Rattle.vipr_linear.proofs.places.Places.touched.Goals as goal

pub returns-clause-within : goal.returns-clause-within
returns-clause-within c = subst (λ xs. All (λ j. j < length xs) c.places.result.now) c.self.view_is
    (touched_within c.self.inside.sums.items c.self.inside.touched c.places.result.now
    c.self.invariant.places c.places.ensures)

pub returns-clause-nonzero : goal.returns-clause-nonzero
returns-clause-nonzero c = subst (λ xs. CoversNonzero xs c.places.result.now) c.self.view_is
    (covered_places c.self.inside.sums.items c.self.inside.touched c.places.result.now
    c.places.ensures c.self.invariant.covers)
