-- A text states one problem, with one list of solutions
use Rattle.std.proofs.Common.{rules, ◌≡◌, ℕ, List, [], length, Ok, refl, sym, ◌∙◌, ap, arith}
use Rattle.vipr_spec.specs.Grammar.{◌then◌, problem, solution, solutions, Spells}
use Rattle.vipr_spec.specs.{Row, Named, Problem, variables, Rest, Read, ◌>>=◌}
use Rattle.vipr_spec.specs.{read_each, problem_read, solution_read, ReadsFront, whole_text, States}
use Rattle.vipr_spec.specs.{StatesOnly, Certificate.Certificate}
use Rattle.vipr_spec.proofs.GrammarSteps.{ok_then, same_ok, read_then, parted}
use Rattle.vipr_spec.proofs.Items.{problem_is, solution_is}
use Rattle.vipr_spec.proofs.{GrammarParts.repeated_complete, GrammarWhole.sections}

abbrev listed : (Problem × ℕ) × Rest → Read (Problem × List (Named Row))
listed p = read_each (solution_read p.0.0) p.0.1 p.1 >>= λ ss. Ok ((p.0.0, ss.0), ss.1)

front_read : (r s : Rest) (p : Problem) (ss : List (Named Row))
    → ReadsFront (problem p then solutions (variables p) ss) r s
    → (problem_read r >>= listed) ≡ Ok ((p, ss), s)
front_read r s p ss t =
    let a = parted t in let sol = parted a.after in let count = parted sol.after in
    ok_then listed
    ((problem_is.reads r count.at (p, length ss)).1
    (read_then a.before (read_then sol.before count.before)))
    (ok_then _ (repeated_complete (solution_read p) (solution (variables p)) ((solution_is p).reads)
    ss count.at s count.after) refl)

stated_read : (bytes : List ℕ) (p : Problem) (ss : List (Named Row)) (st : States bytes p ss)
    → ReadsFront (problem p then solutions (variables p) ss) (whole_text bytes)
    (record (whole_text bytes) { tokens = st.1 })
stated_read bytes p ss st =
    record {
      front = st.0;
      joined = ap (λ ts. record (whole_text bytes) { tokens = ts }) st.2;
      short = st.3;
      shape = st.4;
    }

pub one_problem : (bytes : List ℕ) (p q : Problem) (ss tt : List (Named Row)) → States bytes p ss
    → States bytes q tt → (q ≡ p) × (tt ≡ ss)
one_problem bytes p q ss tt h k =
    grind (
      arith,
      same_ok (sym (front_read _ _ p ss (stated_read bytes p ss h))
          ∙ front_read _ _ q tt (stated_read bytes q tt k)),
    )

pub spelled_states : (bytes : List ℕ) (c : Certificate) → Spells bytes c
    → States bytes c.problem c.solutions
spelled_states bytes c s =
    let t : ReadsFront (sections c) (whole_text bytes) (record (whole_text bytes) { tokens = [] }) = search rules in
    let a = parted t in let b = parted a.after in
    let f = read_then a.before b.before in
    (f.front, b.at.tokens, ap (λ (q : Rest). q.tokens) f.joined, f.short, f.shape)

-- what a text spells is of the problem that it states
pub spelled_only : (bytes : List ℕ) (c : Certificate) → Spells bytes c
    → StatesOnly bytes c.problem c.solutions
spelled_only bytes c s =
    record {
      this = spelled_states bytes c s;
      no_other = λ q tt k. one_problem bytes c.problem q c.solutions tt (spelled_states bytes c s) k;
    }
