-- A text states at most one problem, and at most one list of solutions
use Rattle.std.proofs.Common.{◌≡◌, ℕ, Bool, true, false, List, length, if◌then◌else◌}
use Rattle.std.proofs.Common.{codes, refl, sym, ◌∙◌, arith, subst}
use Rattle.vipr_spec.specs.Short.{Natural, word, any, one, ◌then◌, each, counted, vector, claim}
use Rattle.vipr_spec.specs.Short.{constraint, Row, Problem, States, Holds, Means}
use Rattle.vipr_spec.proofs.ShortNumbers.{cons_same, natural_unique}
use Rattle.vipr_spec.proofs.ShortShapes.{Tokens, Unique, one_unique, word_unique, any_ends, behind}
use Rattle.vipr_spec.proofs.ShortShapes.{each_unique, counted_unique, vector_unique}
use Rattle.vipr_spec.proofs.ShortShapes.{constraint_unique, claim_unique}

-- two lists are one: the values of their first shapes agree, and so do the lists behind these
step : {A : Type 0} (P : A → Tokens → Type 0) → Unique P → {R S : Tokens → Type 0} (x y : A)
    (l m : Tokens) → l ≡ m → (P x then R) l → (P y then S) m
    → (x ≡ y) × ((v w : Tokens) × (v ≡ w) × R v × S w)
step P unique x y l m e h k =
    let same = unique x y h.0 k.0 h.1 k.1 (sym h.2 ∙ e ∙ k.2) h.3 k.3 in
    (same.0, (h.1, k.1, same.1, h.4, k.4))

behind_word : (w : List ℕ) {R S : Tokens → Type 0} (l m : Tokens) → l ≡ m → (word w then R) l
    → (word w then S) m → (v u : Tokens) × (v ≡ u) × R v × S u
behind_word w l m e h k = (step word word_unique w w l m e h k).1

direction_unique : (a b : Bool) → (if a then codes "min" else codes "max")
    ≡ (if b then codes "min" else codes "max") → a ≡ b
direction_unique true true e = refl
direction_unique true false e =
    absurd (omega (arith, (cons_same 105 97 _ _ (cons_same 109 109 _ _ e).1).0))
direction_unique false true e =
    absurd (omega (arith, (cons_same 97 105 _ _ (cons_same 109 109 _ _ e).1).0))
direction_unique false false e = refl

-- ---- the text from a section on

abbrev solution : Row → Tokens → Type 0
solution s = any then vector s

abbrev FromSol : List Row → Tokens → Tokens → Type 0
FromSol ss back = word (codes "SOL") then counted solution ss then (λ ts. ts ≡ back)

abbrev FromRtp : Problem → List Row → Tokens → Tokens → Type 0
FromRtp p ss back = word (codes "RTP") then claim p.bounds then FromSol ss back

abbrev FromCon : Problem → List Row → ℕ → Tokens → Tokens → Type 0
FromCon p ss b back = word (codes "CON") then one Natural (length p.constraints)
    then one Natural b then each (constraint p.objective) p.constraints then FromRtp p ss back

abbrev FromObj : Problem → List Row → ℕ → Tokens → Tokens → Type 0
FromObj p ss b back = word (codes "OBJ")
    then word (if p.is_min then codes "min" else codes "max") then vector p.objective
    then FromCon p ss b back

abbrev FromInt : Problem → List Row → ℕ → Tokens → Tokens → Type 0
FromInt p ss b back = word (codes "INT") then counted (one Natural) p.integers
    then FromObj p ss b back

from_sol : (ss others : List Row) (back other l m : Tokens) → l ≡ m → FromSol ss back l
    → FromSol others other m → ss ≡ others
from_sol ss others back other l m e h k =
    let rest = behind_word (codes "SOL") l m e h k in
    let unique = counted_unique solution (behind any vector any_ends vector_unique) in
    (step (counted solution) unique ss others rest.0 rest.1 rest.2 rest.3 rest.4).0

from_rtp : (p q : Problem) (ss others : List Row) (back other l m : Tokens) → l ≡ m
    → FromRtp p ss back l → FromRtp q others other m → (p.bounds ≡ q.bounds) × (ss ≡ others)
from_rtp p q ss others back other l m e h k =
    let rest = behind_word (codes "RTP") l m e h k in
    let bounds = step claim claim_unique p.bounds q.bounds rest.0 rest.1 rest.2 rest.3 rest.4 in
    let sol = bounds.1 in
    (bounds.0, from_sol ss others back other sol.0 sol.1 sol.2 sol.3 sol.4)

from_con : (p q : Problem) (ss others : List Row) (a b : ℕ) (back other l m : Tokens)
    → p.objective ≡ q.objective → l ≡ m → FromCon p ss a back l → FromCon q others b other m
    → (p.constraints ≡ q.constraints) × (p.bounds ≡ q.bounds) × (ss ≡ others)
from_con p q ss others a b back other l m o e h k =
    let natural = one_unique Natural natural_unique in
    let rest = behind_word (codes "CON") l m e h k in
    let many = step (one Natural) natural (length p.constraints) (length q.constraints)
    rest.0 rest.1 rest.2 rest.3 rest.4 in
    let then_bounds = many.1 in
    let listed = (step (one Natural) natural a b then_bounds.0 then_bounds.1 then_bounds.2
    then_bounds.3 then_bounds.4).1 in
    let first = listed.3 in
    let second = listed.4 in
    let by_q = subst (λ row. each (constraint row) p.constraints first.0) o first.3 in
    let constraints = each_unique (constraint q.objective) (constraint_unique q.objective)
    p.constraints q.constraints many.0 first.0 second.0 first.1 second.1
    (sym first.2 ∙ listed.2 ∙ second.2) by_q second.3 in
    let claimed = from_rtp p q ss others back other first.1 second.1 constraints.1 first.4 second.4 in
    (constraints.0, claimed.0, claimed.1)

from_obj : (p q : Problem) (ss others : List Row) (a b : ℕ) (back other l m : Tokens) → l ≡ m
    → FromObj p ss a back l → FromObj q others b other m
    → (p.is_min ≡ q.is_min) × (p.objective ≡ q.objective) × (p.constraints ≡ q.constraints)
    × (p.bounds ≡ q.bounds) × (ss ≡ others)
from_obj p q ss others a b back other l m e h k =
    let rest = behind_word (codes "OBJ") l m e h k in
    let direction = step word word_unique (if p.is_min then codes "min" else codes "max")
    (if q.is_min then codes "min" else codes "max") rest.0 rest.1 rest.2 rest.3 rest.4 in
    let at = direction.1 in
    let objective = step vector vector_unique p.objective q.objective at.0 at.1 at.2 at.3 at.4 in
    let con = objective.1 in
    let others = from_con p q ss others a b back other con.0 con.1 objective.0 con.2 con.3 con.4 in
    (direction_unique p.is_min q.is_min direction.0, objective.0, others.0, others.1, others.2)

from_int : (p q : Problem) (ss others : List Row) (a b : ℕ) (back other l m : Tokens) → l ≡ m
    → FromInt p ss a back l → FromInt q others b other m → (p ≡ q) × (ss ≡ others)
from_int p q ss others a b back other l m e h k =
    let rest = behind_word (codes "INT") l m e h k in
    let unique = counted_unique (one Natural) (one_unique Natural natural_unique) in
    let integers = step (counted (one Natural)) unique p.integers q.integers
    rest.0 rest.1 rest.2 rest.3 rest.4 in
    let obj = integers.1 in
    let same = from_obj p q ss others a b back other obj.0 obj.1 obj.2 obj.3 obj.4 in (
      λ i. record {
        integers = integers.0 i;
        is_min = same.0 i;
        objective = same.1 i;
        constraints = same.2 i;
        bounds = same.3 i;
      },
      same.4,
    )

pub states_one : (bytes : List ℕ) (p q : Problem) (ss others : List Row) → States bytes p ss
    → States bytes q others → (p ≡ q) × (ss ≡ others)
states_one bytes p q ss others h k =
    let ver = behind_word (codes "VER") _ _ refl h.3 k.3 in
    let version = behind_word (codes "1.0") ver.0 ver.1 ver.2 ver.3 ver.4 in
    let var = behind_word (codes "VAR") version.0 version.1 version.2 version.3 version.4 in
    let names = (step (counted word) (counted_unique word word_unique) h.0 k.0
    var.0 var.1 var.2 var.3 var.4).1 in
    from_int p q ss others h.1 k.1 h.2 k.2 names.0 names.1 names.2 names.3 names.4

-- if a text means what it claims, the claim holds of whatever problem it states
pub holds_of_any : (bytes : List ℕ) → Means bytes → (p : Problem) (ss : List Row)
    → States bytes p ss → Holds p ss p.bounds
holds_of_any bytes means p ss states =
    let same = states_one bytes means.0 p means.1 ss means.2 states in
    let pairs : ◌≡◌ {A = Problem × List Row} (means.0, means.1) (p, ss) =
    λ i. (same.0 i, same.1 i) in
    subst (λ (z : Problem × List Row). Holds z.0 z.1 z.0.bounds) pairs means.3
