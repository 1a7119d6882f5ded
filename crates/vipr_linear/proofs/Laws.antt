-- Laws: the lemmas that other crates may cite, by the file that proves them

-- Lists of pairs as rows
pub use Rattle.vipr_linear.proofs.Rows.{same_entry, zero_test}
-- A rising list of variables, as a set
pub use Rattle.vipr_linear.proofs.Sets.{member}
-- A row's entries, and its coefficients
pub use Rattle.vipr_linear.proofs.Adding.{coefficient, coefficient_at, names_known}
pub use Rattle.vipr_linear.proofs.Searching.{absent, at_place}
-- Adding entries one after the other gives their sum
pub use Rattle.vipr_linear.proofs.StepByStep.{fits_known, start_held, step_held, suitable_known}
pub use Rattle.vipr_linear.proofs.StepByStep.{sum_held, held_sum, laid_out}
