-- What the canonical text of a certificate spells, and the compact one
use Rattle.std.specs.Prelude.{List, ℕ, ◌≡◌}
use Rattle.vipr_spec.specs.Grammar.{Spells, SpellsOnly}
use Rattle.vipr_spec.specs.{Certificate.Certificate, Shape.CanWrite}
use Rattle.vipr_write.specs.declared.form.Form.TheVariants.{Canonical}
use Rattle.vipr_write.specs.{Canonical.canonical_text, Forms.text_in, Forms.compact_text}

abbrev pub SpellsItself : Type 0
SpellsItself = (c : Certificate) → CanWrite c → SpellsOnly (canonical_text c) c

-- the same of the compact text
abbrev pub CompactSpellsItself : Type 0
CompactSpellsItself = (c : Certificate) → CanWrite c → SpellsOnly (compact_text c) c

-- the text in the canonical form is the canonical text
abbrev pub IsCanonical : Type 0
IsCanonical = (c : Certificate) → text_in Canonical c ≡ canonical_text c

-- what a text spells can be written
abbrev pub CanWriteSpelled : Type 0
CanWriteSpelled = (text : List ℕ) (c : Certificate) → Spells text c → CanWrite c
