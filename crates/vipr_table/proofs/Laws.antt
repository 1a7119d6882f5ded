-- Laws: the lemmas that other crates may cite, by the file that proves them

-- Which variables the constraints of the table have
pub use Rattle.vipr_table.proofs.BelowLemmas.{DerivedBelow-empty, DerivedBelow-step}
-- The table of a certificate, one derivation after another
pub use Rattle.vipr_table.proofs.HistoryLemmas.{IsTableOf-empty, IsTableOf-held, IsTableOf-step}
pub use Rattle.vipr_table.proofs.HistoryLemmas.{if_live_of, IsTableOf-answers}
-- Maps by number
pub use Rattle.vipr_table.proofs.TableLemmas.{get-live_part}
-- Sets of indices
pub use Rattle.vipr_table.proofs.SetLemmas.{remove_none, tied_numbers, union_none}
