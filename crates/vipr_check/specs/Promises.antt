-- What is promised of bytes in memory
use Rattle.std.specs.Prelude.{ℕ, List}
use Rattle.vipr_spec.specs.Certificate.{Certificate, IsProof}
use Rattle.vipr_spec.specs.{Constraint.one, Grammar.Spells, Grammar.SpellsOnly, Soundness.IsShown}

-- the bytes spell a certificate that is a proof
abbrev pub SpellsProof : List ℕ → Type 0
SpellsProof bytes = (c : Certificate) × Spells bytes c × IsProof one c

-- they spell one certificate, and what it claims is true
abbrev pub SpellsTruth : List ℕ → Type 0
SpellsTruth bytes =
    (c : Certificate) × SpellsOnly bytes c × IsShown c.problem c.solutions c.problem.claim
