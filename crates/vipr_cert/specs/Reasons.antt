-- The word of a reason, and what it names
use Rattle.std.specs.Prelude.{ℕ, List, codes}
use Rattle.vipr_spec.specs.Certificate as is
use Rattle.vipr_spec.specs.Certificate.{Reason, asm, lin, rnd, uns, sol}
use Rattle.vipr_cert.specs.declared.items.References.{References}
use Rattle.vipr_cert.specs.declared.items.References.TheVariants.{Nothing, Entries, Branches}

abbrev pub reason_word : Reason → List ℕ
reason_word asm = codes "asm"
reason_word (lin es) = codes "lin"
reason_word (rnd es) = codes "rnd"
reason_word (uns i1 l1 i2 l2) = codes "uns"
reason_word sol = codes "sol"

-- the program's references as those of the definitions
abbrev pub references_of : References → is.References
references_of Nothing = is.no_references
references_of (Entries es) = is.by_entries es.now
references_of (Branches i1 l1 i2 l2) = is.by_branches i1 l1 i2 l2
