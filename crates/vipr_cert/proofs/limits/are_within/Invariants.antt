use Rattle.std.specs.List.{AllWithin}
use Rattle.vipr_cert.proofs.limits.are_within.Given as goal

abbrev pub invariant-loop-item : goal.invariant-loop-item
invariant-loop-item g l =
    AllWithin (λ x. g.T.NamesVariables.shape l.n (g.T.NamesVariables.view x)
    × g.T.NamesVariables.fits (g.T.NamesVariables.view x)) l.items 0 l.item-index
