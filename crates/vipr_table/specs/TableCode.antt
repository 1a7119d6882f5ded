-- A table is stored as the tuple of its fields.
use Rattle.std.specs.Coded.{Coded, code_by, coded×, coded_ℕ}
use Rattle.std.specs.{Ordering.nat_cmp, Prelude.ℕ, Prelude.refl}
use Rattle.std.specs.FinMap as map
use Rattle.vipr_table.specs.{Table.Table, declared.rows.Entry.Entry}
use Rattle.vipr_table.specs.contracts.rows.Entry as entry

abbrev pub table_code : Coded Table
table_code =
    code_by (ℕ × (ℕ × map.FinMap nat_cmp Entry))
    (coded× coded_ℕ (coded× coded_ℕ (map.code coded_ℕ entry.the_row.coded)))
    (λ t. (t.first, (t.next, t.entries)))
    (λ p. record { first = p.0; next = p.1.0; entries = p.1.1 }) (λ _. refl)
