use Rattle.std.proofs.Common.{◌≡◌, ℕ, ◌+◌, Bool, List, ◌++◌, drop}
use Rattle.vipr_scan.specs.{Places.tokens_in, declared.place.Position.TheVariants.Past}
use Rattle.vipr_scan.proofs.place.white.Given as goal

abbrev pub invariant-loop-i : goal.invariant-loop-i
invariant-loop-i l = (fails : Bool) (offset : ℕ) (rest : List ℕ) →
    tokens_in Past fails offset (l.bytes ++ rest) ≡ tokens_in Past fails (offset + l.i) (drop l.i l.bytes ++ rest)
