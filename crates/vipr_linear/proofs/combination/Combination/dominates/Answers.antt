use Rattle.std.proofs.Common.{subst, ◌↔◌, IsTrue, sym, ◌∙◌, inl, inr}
use Rattle.std.proofs.lemmas.Bool.{false≢true}
use Rattle.vipr_spec.specs.Constraint.{Dominates}
use Rattle.vipr_linear.specs.Constraint.{condition_of}
use Rattle.vipr_linear.specs.Accumulator.{Accumulator, held_condition}
use Rattle.vipr_linear.proofs.combination.Combination.dominates.Goals as goal
use Rattle.vipr_linear.proofs.combination.Combination.dominates.Goals.{then-say_as_much, else-say_as_much}

pub returns-clause-dominates : goal.returns-clause-dominates
returns-clause-dominates c =
    subst (λ (a : Accumulator). IsTrue c.if-say_as_much.result ↔ Dominates (held_condition a)
    (condition_of c.args.other.now)) c.self.view_is
    (let says = rw c.value-bound.ensures at c.say_as_much.ensures in elim c.if-say_as_much.branch [
      | then-say_as_much w ↦ (rw w.result-is (λ _. inr (says.0 w.if-say_as_much.true), λ _. w.if-say_as_much.true))
      | else-say_as_much w ↦ let none = rw c.value-bound.ensures at w.are_absurd.ensures in
          (rw w.result-is (
            λ t. inl (none.0 t),
            λ d. elim d [
              | inl a ↦ none.1 a
              | inr s ↦
                  absurd (false≢true (sym w.if-say_as_much.false ∙ says.1 s))
            ],
          ))
    ])
