-- The whole certificate, and that no tokens spell two
use Rattle.std.proofs.Common.{◌≡◌, ◌↔◌, ℕ, ◌<◌, ◌≤◌, false, if◌then◌else◌, List, [], arith}
use Rattle.std.proofs.Common.{◌∷◌, ◌++◌, length, Result, Ok, Err, All, codes, refl, sym, ◌∙◌, ap}
use Rattle.std.proofs.Common.{subst, append-nil}
use Rattle.std.proofs.lemmas.List.Elements.{All-nil, All-cons}
use Rattle.vipr_spec.specs.Grammar.{SpellsCount, SpellsVariable, word, one, ◌then◌, each, problem}
use Rattle.vipr_spec.specs.Grammar.{solution, solutions, derivation, derivations, SpelledBy}
use Rattle.vipr_spec.specs.{IsInteger, Row, Token, Named, Problem, variables, Derivation, Rest}
use Rattle.vipr_spec.specs.{Fault, unread, ◌>>=◌, most_count, read_each, end_of, end_read}
use Rattle.vipr_spec.specs.{problem_read, solution_read, derivations_read, derivation_read}
use Rattle.vipr_spec.specs.{certificate_read, ReadsFront, derivation_count, whole_text, EndsHere}
use Rattle.vipr_spec.specs.{ReadsCertificates, ReadsTexts, OneCertificate, Certificate.Certificate}
use Rattle.vipr_spec.proofs.PairRows.{set_below}
use Rattle.vipr_spec.proofs.GrammarSteps.{bind_ok, ok_then, same_ok, success, bytes_of, IsShort}
use Rattle.vipr_spec.proofs.GrammarSteps.{read_as, read_then, parted}
use Rattle.vipr_spec.proofs.GrammarParts.{repeated_sound, repeated_complete}
use Rattle.vipr_spec.proofs.Items.{problem_is, solution_is, derivation_is, reads_derivations}

-- ---- the end

abbrev done : Result (Unit {0}) Fault
done = Ok tt

end_from : (ts : List Token) (r : Rest) → r.tokens ≡ ts → end_of ts r ≡ Ok tt → EndsHere r
unfolding end_of
end_from ts r h e = grind arith

end_sound : (r : Rest) → end_read r ≡ Ok tt → EndsHere r
end_sound r e = end_from r.tokens r refl e

end_complete : (r : Rest) → EndsHere r → end_read r ≡ Ok tt
unfolding end_of
end_complete r h = ap (λ ts. end_of ts r) h.0 ∙ ap (λ b. if b then Err unread else Ok tt) h.1

pub reads_end : (r : Rest) → (end_read r ≡ Ok tt) ↔ EndsHere r
reads_end r = (end_sound r, end_complete r)

-- ---- the certificate

abbrev pub sections : Certificate → List (List ℕ) → Type 0
sections c = problem c.problem then solutions (variables c.problem) c.solutions then derivations c.problem c.derivations

-- all tokens up to the end, where there is no failure
pub record Whole (r : Rest) (c : Certificate) : Type 0 where
  pub end : Rest
  pub tokens : ReadsFront (sections c) r end
  pub ends : EndsHere end

whole_is : {r : Rest} {x y : Certificate} → success Fault x ≡ success Fault y → Whole r x
    → Whole r y
whole_is {r} e w = subst (Whole r) (same_ok e) w

-- the parts of a reading, the last first
abbrev closed : Problem → List (Named Row) → List Derivation × Rest → Result Certificate Fault
closed p ss ds = end_read ds.1 >>= λ end. Ok (record { problem = p; solutions = ss; derivations = ds.0 })

abbrev derived : Problem → List (Named Row) → ℕ × Rest → Result Certificate Fault
derived p ss d = read_each (derivation_read p) d.0 d.1 >>= closed p ss

abbrev headed : Problem → List (Named Row) × Rest → Result Certificate Fault
headed p ss = derivations_read p ss.1 >>= derived p ss.0

abbrev solved : (Problem × ℕ) × Rest → Result Certificate Fault
solved p = read_each (solution_read p.0.0) p.0.1 p.1 >>= headed p.0.0

few_constraints : (p : Problem) {r s : Rest} → ReadsFront (problem p) r s
    → length p.constraints ≤ most_count
few_constraints p t = grind (arith, parted)

variables_below : (n : ℕ) (is : List ℕ) (ts : List (List ℕ)) → each (one (SpellsVariable n)) is ts
    → All (λ i. i < n) is
variables_below n [] ts e = All-nil (λ i. i < n)
variables_below n (i ∷ is) ts e = All-cons (λ i. i < n) i is e.3.2.1 (variables_below n is e.1 e.4)

integers_below : (p : Problem) {r s : Rest} → ReadsFront (problem p) r s → (j : ℕ)
    → IsInteger p.integers j → j < variables p
integers_below p t j h =
    let integers = (parted (parted (parted t).after).after).before.shape in
    set_below (variables p) integers.0
    (variables_below (variables p) integers.0 integers.2.4.1 integers.2.4.4) j
    (subst (λ is. IsInteger is j) integers.1 h)

pub few_constraints_read : (r s : Rest) (x : Problem × ℕ) → problem_read r ≡ Ok (x, s)
    → length x.0.constraints ≤ most_count
few_constraints_read r s x e = few_constraints x.0 (parted ((problem_is.reads r s x).0 e)).before

module _ (r : Rest) (c : Certificate) where
  closed_sound : (p : Problem) (ss : List (Named Row)) (ds : List Derivation × Rest)
      → ReadsFront (sections (record { problem = p; solutions = ss; derivations = ds.0 })) r ds.1
      → closed p ss ds ≡ Ok c → Whole r c
  closed_sound p ss ds t e =
      let end = bind_ok e in
      whole_is end.2 (record { end = ds.1; tokens = t; ends = end_sound ds.1 end.1 })

  certificate_sound : certificate_read r ≡ Ok c → Whole r c
  unfolding certificate_read
  certificate_sound e =
      let p = bind_ok {f = solved} e in
      let problem = p.0.0.0 in
      let ss = bind_ok {r = read_each (solution_read problem) p.0.0.1 p.0.1} {f = headed problem} p.2 in
      let d = bind_ok {r = derivations_read problem ss.0.1} {f = derived problem ss.0.0} ss.2 in
      let ds = bind_ok {r = read_each (derivation_read problem) d.0.0 d.0.1} {f = closed problem ss.0.0} d.2 in
      let start = parted ((problem_is.reads r p.0.1 p.0.0).0 p.1) in
      let head = parted start.after in
      let few = few_constraints problem start.before in
      let listed = repeated_sound (solution_read problem) (solution (variables problem))
      ((solution_is problem).reads) p.0.0.1 p.0.1 ss.0.1 ss.0.0 ss.1 in
      let room = (reads_derivations problem few ss.0.1 d.0.1 d.0.0).0 d.1 in
      let derived_rows = repeated_sound (derivation_read problem) (derivation problem)
      ((derivation_is problem).reads) d.0.0 d.0.1 ds.0.1 ds.0.0 ds.1 in
      let solutions_read =
      read_then head.before
      (read_then (subst (λ k. ReadsFront (one SpellsCount k) head.at p.0.1)
      (sym listed.0) head.after) listed.1) in
      let room_for = subst (λ k. ReadsFront (derivation_count problem k) ss.0.1 d.0.1) (sym derived_rows.0) room in
      let header =
      parted (read_as (word (codes "DER") then one SpellsCount (length ds.0.0)) room_for
      room_for.shape.1) in
      let steps = read_then header.before (read_then header.after derived_rows.1) in
      let steps_read = read_as (derivations problem ds.0.0) steps (room_for.shape.0, steps.shape) in
      closed_sound problem ss.0.0 ds.0 (read_then start.before (read_then solutions_read steps_read)) ds.2

  pub certificate_complete : Whole r c → certificate_read r ≡ Ok c
  unfolding certificate_read
  certificate_complete w =
      let a = parted w.tokens in let b = parted a.after in
      let sol = parted b.before in let count = parted sol.after in
      let few = few_constraints c.problem a.before in
      let m = length c.derivations in
      let der = parted
      (read_as (word (codes "DER") then one SpellsCount m then each (derivation c.problem)
      c.derivations) b.after b.after.shape.1) in
      let room = parted der.after in
      let header = read_then der.before room.before in
      ok_then solved ((problem_is.reads r count.at (c.problem, length c.solutions)).1
      (read_then a.before (read_then sol.before count.before)))
      (ok_then (headed c.problem)
      (repeated_complete (solution_read c.problem) (solution (variables c.problem))
      ((solution_is c.problem).reads) c.solutions count.at b.at count.after)
      (ok_then (derived c.problem c.solutions)
      ((reads_derivations c.problem few b.at room.at m).1
      (read_as (derivation_count c.problem m) header (b.after.shape.0, header.shape)))
      (ok_then (closed c.problem c.solutions)
      (repeated_complete (derivation_read c.problem) (derivation c.problem)
      ((derivation_is c.problem).reads) c.derivations room.at w.end room.after)
      (ok_then _ (end_complete w.end w.ends) refl))))

pub integers_read_below : (r : Rest) (c : Certificate) → certificate_read r ≡ Ok c → (j : ℕ)
    → IsInteger c.problem.integers j → j < variables c.problem
integers_read_below r c e = let w = certificate_sound r c e in integers_below c.problem (parted w.tokens).before

-- ---- texts

spelled_from_whole : {r : Rest} {c : Certificate} → Whole r c
    → (r.fails ≡ false) × SpelledBy (bytes_of r.tokens) c
spelled_from_whole {r} {c} w =
    let t = w.tokens in
    let all : r.tokens ≡ t.front = ap (λ (q : Rest). q.tokens) t.joined
    ∙ ap (λ ts. t.front ++ ts) w.ends.0 ∙ append-nil t.front in (
      ap (λ (q : Rest). q.fails) t.joined ∙ w.ends.1,
      record {
        short = subst (λ ts. All IsShort (bytes_of ts)) (sym all) t.short;
        sections = subst (λ ts. sections c (bytes_of ts)) (sym all) t.shape;
      },
    )

whole_from_spelled : {r : Rest} {c : Certificate} → r.fails ≡ false
    → SpelledBy (bytes_of r.tokens) c → Whole r c
whole_from_spelled {r} {c} f s = record {
  end = record r { tokens = [] };
  tokens = record {
    front = r.tokens;
    joined = ap (λ ts. record r { tokens = ts }) (sym (append-nil r.tokens));
    short = s.short;
    shape = s.sections;
  };
  ends = (refl, f);
}

pub reads_certificates : ReadsCertificates
reads_certificates r c = (
  λ e. spelled_from_whole (certificate_sound r c e),
  λ h. certificate_complete r c (whole_from_spelled h.0 h.1),
)

pub reads_texts : ReadsTexts
reads_texts bytes c = (
  λ e. ((reads_certificates (whole_text bytes) c).0 e).1,
  λ h. (reads_certificates (whole_text bytes) c).1 (refl, h),
)

pub one_certificate : OneCertificate
one_certificate bytes c d h k = same_ok (sym ((reads_texts bytes c).1 h) ∙ (reads_texts bytes d).1 k)
