-- Laws: the lemmas that other crates may cite, by the file that proves them

-- The best objective value among the listed solutions
pub use Rattle.vipr_spec.proofs.Best.{admitted_by, best_first, best_moves, best_stays, cuts_off}
-- What a checker keeps of the certificate so far stays so, and tells the answer at the end
pub use Rattle.vipr_spec.proofs.Checked.{checked_next, checked_start}
-- Digits read one by one
pub use Rattle.vipr_spec.proofs.DigitSteps.{at_end, natural_of_empty, natural_of_some, next_digit}
pub use Rattle.vipr_spec.proofs.DigitSteps.{next_other}
-- The first test of a list that fails
pub use Rattle.vipr_spec.proofs.FirstFailing.{all_parts, failing_first, failing_parts}
pub use Rattle.vipr_spec.proofs.FirstFailing.{failing_second}
-- The tested order of fractions is a total order whose ties are equal
pub use Rattle.vipr_spec.proofs.FractionOrders.{cmp_total, eq_is}
-- Fractions as an ordered ring
pub use Rattle.vipr_spec.proofs.Fractions.{Is, add-zero_ℚ, is_neg, is_one, is_over, is_same}
pub use Rattle.vipr_spec.proofs.Fractions.{is_self, is_whole, is_zero, le_in, le_of_eq_ℚ}
pub use Rattle.vipr_spec.proofs.Fractions.{le_of_whole, le_out, mul-zero_ℚ, same_ℚ, whole-add}
pub use Rattle.vipr_spec.proofs.Fractions.{over_common, over_equal, whole-mul, zero-add_ℚ}
pub use Rattle.vipr_spec.proofs.Fractions.{zero-mul_ℚ, zero_from_numer, zero_numer, zero_or_not}
-- Of whatever problem a text states, the claim holds
pub use Rattle.vipr_spec.proofs.OneStated.{holds_of_any}
-- What is a proof under profile one is one under profile two
pub use Rattle.vipr_spec.proofs.Goals.{proof_two}
-- The faults of each item
pub use Rattle.vipr_spec.proofs.Items.{item_faults}
-- The whole certificate, and that no tokens spell two
pub use Rattle.vipr_spec.proofs.GrammarWhole.{one_certificate, reads_certificates, reads_texts}
-- Laws of the product of integers, which the library lacks
pub use Rattle.vipr_spec.proofs.Integers.{add-mul_ℤ, mul-le_ℤ, neg-mul}
-- The sum by the greatest common divisors is in lowest terms
pub use Rattle.vipr_spec.proofs.Knuth.{parts_of, product_is, sum_is, sum_lowest}
-- What follows from a true constraint, and from several
pub use Rattle.vipr_spec.proofs.Linear.{IsTrueEntry, IsWholePoint, absurd_false, dominates_true}
pub use Rattle.vipr_spec.proofs.Linear.{rounded_true, sum_true, uns_true, whole_value}
-- What a loop over the listed variables of a row needs
pub use Rattle.vipr_spec.proofs.Loops.{same_rows, value_gap, zero_bounded}
-- A sum of entries, one entry after another
pub use Rattle.vipr_spec.proofs.MoreEntries.{clashing_senses, fits_more, fitting_front}
pub use Rattle.vipr_spec.proofs.MoreEntries.{joined_equal, joined_sense, no_sense, nothing_more}
pub use Rattle.vipr_spec.proofs.MoreEntries.{one_sense, suitable_front, sum_bounded, sum_more}
pub use Rattle.vipr_spec.proofs.MoreEntries.{sums_bounded, turned_sense, turned_zero}
-- What is read as a number is what is spelled as one
pub use Rattle.vipr_spec.proofs.NumberReads.{number_complete, number_sound, plain_number}
pub use Rattle.vipr_spec.proofs.NumberReads.{text_short, text_spelled}
-- Rows of pairs of a variable and a coefficient, and sets of variables
pub use Rattle.vipr_spec.proofs.PairRows.{not_zero, row_below, set_below}
-- Points of whole numerators over one denominator, and what breaks at a point that is not feasible
pub use Rattle.vipr_spec.proofs.Points.{claim_shown}
-- What is known of a constraint depends on the derivations up to it alone, and so does a step
pub use Rattle.vipr_spec.proofs.Prefix.{constraint_before, constraint_next, constraints_listed}
pub use Rattle.vipr_spec.proofs.Prefix.{count_next, last_before, last_next, lasts_listed}
pub use Rattle.vipr_spec.proofs.Prefix.{reason_before, reason_given, reason_next, reason_past}
pub use Rattle.vipr_spec.proofs.Prefix.{reasons_listed, with_more}
-- The answer with its detail for what remains of a text, item by item
pub use Rattle.vipr_spec.proofs.Explaining.{derivation_fails, derivation_fault, derivation_passes}
pub use Rattle.vipr_spec.proofs.Explaining.{derivations_begin, derivations_fault, end_fault}
pub use Rattle.vipr_spec.proofs.Explaining.{end_unproved, end_verified, problem_fault, problem_ok}
pub use Rattle.vipr_spec.proofs.Explaining.{solution_fails, solution_fault, solution_passes}
pub use Rattle.vipr_spec.proofs.Explaining.{solutions_unmet}
-- What is reported, and that a text has one answer, with one detail
pub use Rattle.vipr_spec.proofs.Reported.{answer_explained, goal_met, goal_missed, next_good}
pub use Rattle.vipr_spec.proofs.Reported.{one_answer}
-- The assumption sets, by the reason
pub use Rattle.vipr_spec.proofs.Rests.{rests_given}
-- All tests of a listed solution pass exactly where it is feasible and fits
pub use Rattle.vipr_spec.proofs.SolutionTests.{no_solution_test_fails}
-- A proof's claim is true
pub use Rattle.vipr_spec.proofs.Soundness.{all_sound, as_good_refl, as_good_total, as_good_trans}
pub use Rattle.vipr_spec.proofs.Soundness.{bound_true}
-- A certificate step by step
pub use Rattle.vipr_spec.proofs.Steps.{refers_back, rests_more, rests_next, sound_given, sound_next}
-- What the tightened certificate of a proof is
pub use Rattle.vipr_spec.proofs.Tight.{back_of_proof, tight_goal, tight_needed, tight_proof}
pub use Rattle.vipr_spec.proofs.Tight.{tight_twice, unneeded_goal}
pub use Rattle.vipr_spec.proofs.TightPeak.{count_cons, count_from, tight_counts, tight_peak}
-- Laws of the tokens of a text
pub use Rattle.vipr_spec.proofs.TokenLaws.{run_from, token_cut, token_long, token_whole}
-- The tokens of a text are the one list that it is made up of
pub use Rattle.vipr_spec.proofs.TokenSplit.{first_white, split_is}
-- A text is verified exactly where it is read as a proof
pub use Rattle.vipr_spec.proofs.WholeText.{ended, found_read, proof_answered, repeated_is}
pub use Rattle.vipr_spec.proofs.WholeText.{verified_read, verified_text}
-- What is kept of a list, its new indices, and the two passes of the tightener
pub use Rattle.vipr_spec.proofs.Kept.{index_same, length_kept_derivations}
pub use Rattle.vipr_spec.proofs.Placed.{reason_placed}
pub use Rattle.vipr_spec.proofs.TightenLimits.{can_write}
pub use Rattle.vipr_spec.proofs.TightenPasses.{marked_down, marked_past, next_kept}
pub use Rattle.vipr_spec.proofs.TightenPasses.{next_left_out, renumbered_alike}
