use Rattle.std.proofs.Common.{◌≡◌, ◌+◌, [], ◌∷◌, ◌++◌, append-nil, codes, ap, refl, sym, ◌∙◌, subst}
use Rattle.std.proofs.Common.{arith}
use Rattle.std.proofs.lemmas.List.Elements.{All-push, All-nil}
use Rattle.vipr_spec.specs.Shape.{RowFits, SolutionShape}
use Rattle.vipr_spec.specs.{Certificate.Named, Constraint.Row, Tests.none}
use Rattle.vipr_bytes.proofs.Laws.{grown, puts_then, puts_same}
use Rattle.vipr_scan.specs.Giving.{rest_of}
use Rattle.vipr_cert.specs.Items.{solution_of}
use Rattle.vipr_check.specs.{Reasons.stop_reason, Reasons.text_reason, Shown.state_shown}
use Rattle.vipr_tighten.specs.Keeping.{KeepsListed}
use Rattle.vipr_write.specs.Canonical.{heading, line_text}
use Rattle.vipr_check.proofs.Laws.{ending_unmet}
use Rattle.vipr_tighten.proofs.Reading.{err_given, end_answers, listed_first, solution_accepted}
use Rattle.vipr_tighten.proofs.Reading.{solution_refused, solution_unread}
use Rattle.vipr_tighten.proofs.Lines.{lines_with, lines_more, lines_whole}
use Rattle.vipr_tighten.proofs.proof_reader.read_listed.Goals as goal

pub solutions-init : goal.solutions-init
solutions-init g c =
    let r = c.args.solutions.now in
    let count : c.left.result ≡ 0 + r.left = omega (arith, c.left.ensures) in
    record {
      variables = refl;
      read = (
        [],
        puts_same (ap (λ n. line_text (heading (codes "SOL") n)) count
            ∙ sym (append-nil (line_text (heading (codes "SOL") (0 + r.left)))))
            c.put_heading.ensures,
        All-nil (SolutionShape r.variables),
        All-nil (λ (s : Named Row). RowFits s.item),
        λ P p is. listed_first P p c.args.checker.now r is,
      );
    }

pub returns-in-Err-clause-unproved : goal.returns-in-Err-clause-unproved
returns-in-Err-clause-unproved g c =
    let e = c.in-Err.stop in
    let h = rw c.in-Some.is at c.in_ok-solution.ensures in
    let (ss, lines, shapes, fit, keeps) = c.solutions.invariant.read in
    rw c.from.ensures (λ P p is known.
    let kept = keeps P p is in
    solution_refused P p ss c.solutions.checker c.solution.new.self c.args.solutions.now
    c.solutions.solutions kept c.next.new.self (solution_of c.in-Some.solution) h.moves.counted
    h.moves.remembers h.moves.working
    (λ t. let r = h.read p kept.is_among.knows t in (r.1, r.2)) e
    (c.in-Err.ensures.next ss kept.is_among.runs kept.is_among.has) known)

pub solutions-preserved : goal.solutions-preserved
solutions-preserved g c =
    let h = rw c.in-Some.is at c.in_ok-solution.ensures in
    let first = c.args.solutions.now in
    let x = c.in-Some.solution in
    let (ss, lines, shapes, fit, keeps) = c.solutions.invariant.read in
    let old = c.solutions.solutions in
    record {
      variables = h.moves.remembers.variables ∙ c.solutions.invariant.variables;
      read = (
        ss ++ solution_of x ∷ [],
        puts_same (lines_more ss (solution_of x) old.left c.next.new.self.left h.moves.counted)
            (puts_then lines c.put_solution.ensures),
        All-push (SolutionShape first.variables) ss (solution_of x) shapes
            (subst (λ n. SolutionShape n (solution_of x)) c.solutions.invariant.variables h.shape),
        All-push (λ (s : Named Row). RowFits s.item) ss (solution_of x) fit h.fits,
        λ P p is.
            let kept = keeps P p is in
            solution_accepted P p ss c.solutions.checker c.solution.new.self first old kept
            c.next.new.self (solution_of x) h.moves.counted h.moves.remembers h.moves.working
            (λ t. let r = h.read p kept.is_among.knows t in (r.1, r.2))
            (c.in_default.ensures.next ss kept.is_among.runs kept.is_among.has),
      );
    }

pub returns-in_err-end_solutions-in-None-clause-unproved :
    goal.returns-in_err-end_solutions-in-None-clause-unproved
returns-in_err-end_solutions-in-None-clause-unproved g c =
    let e = c.in_err-end_solutions-in-None.field-0.0 in
    err_given _ c.from_residual-in_err-end_solutions-in-None.result
    (stop_reason e) c.from_residual-in_err-end_solutions-in-None.ensures.1 (λ P p is known.
    let h = rw c.in-None.is at c.in_ok-solution.ensures in
    let (ss, lines, shapes, fit, keeps) = c.solutions.invariant.read in
    let k = c.solutions.checker in
    let l = c.end_solutions.new.self in
    let s = c.next.new.self in
    let listed = subst (KeepsListed P p c.args.solutions.now ss k) (sym h.moves.same) (keeps P p is) in
    let ends = c.in_err-end_solutions-in-None.ensures.next ss listed.is_among.runs listed.is_among.has in
    let no_more : s.left ≡ 0 = rw h.moves.same h.moves.none in
    end_answers P p c.args.solutions.now ss k s listed no_more known (stop_reason e)
    (state_shown l, ending_unmet P p ss k l (rest_of s.rest) e listed.is_among.problem ends))

pub returns-in-None-clause-kept : goal.returns-in-None-clause-kept
returns-in-None-clause-kept g c =
    let h = rw c.in-None.is at c.in_ok-solution.ensures in
    let (ss, lines, shapes, fit, keeps) = c.solutions.invariant.read in
    let text = (grown c.args.listed.now c.solutions.listed
    (lines_with ss c.solutions.solutions.left) lines (sym c.has_failed.ensures
    ∙ c.if-has_failed.false)).1 in (
      ss,
      record {
        text = text
            ∙ ap (λ t. t ++ lines_with ss c.solutions.solutions.left) c.requires.none_listed
            ∙ lines_whole ss c.solutions.solutions.left h.moves.none;
        shapes = shapes;
        fit = fit;
      },
      λ P p is.
          let listed = subst (KeepsListed P p c.args.solutions.now ss c.solutions.checker)
          (sym h.moves.same) (keeps P p is) in
          record {
            before = c.solutions.checker;
            listed = listed;
            ends = c.in_ok-end_solutions-in-None.ensures.next ss listed.is_among.runs
                listed.is_among.has;
          },
    )

pub returns-in_err-solution-clause-unproved : goal.returns-in_err-solution-clause-unproved
returns-in_err-solution-clause-unproved g c =
    let e = c.in_err-solution.field-0.0 in
    err_given _ c.from_residual.result (text_reason e) c.from_residual.ensures.1 (λ P p is known.
    let (ss, lines, shapes, fit, keeps) = c.solutions.invariant.read in
    let kept = keeps P p is in
    solution_unread P p ss c.solutions.checker c.solutions.checker c.args.solutions.now
    c.solutions.solutions kept e
    (c.in_err-solution.ensures.read p kept.is_among.knows (kept.known known)) known)

pub returns-then-has_failed-clause-unproved : goal.returns-then-has_failed-clause-unproved
returns-then-has_failed-clause-unproved g c = λ P p is known. (none, tt)
