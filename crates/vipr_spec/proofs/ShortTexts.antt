-- What a text spells, in the short shapes
use Rattle.std.proofs.Common.{◌≡◌, ℕ, suc, ◌<◌, ◌≤◌, ◌⊎◌, Bool, if◌then◌else◌, true, false, List, [], ◌∷◌, ◌++◌, length}
use Rattle.std.proofs.Common.{Option, Some, None, IfSome, All, codes, refl, sym, ◌∙◌, arith}
use Rattle.std.proofs.Common.{ap, subst, inl, inr, append-nil, append_assoc, lit<}
use Rattle.std.specs.{FinSet.from_list, List.AllZip, Str.Parse.IsNumeral, Str.Parse.digits_value}
use Rattle.std.proofs.lemmas.List.{map-append}
use Rattle.std.proofs.lemmas.List.Elements.{All-nil, All-cons}
use Rattle.vipr_spec.specs.Constraint.{Sense, at_most, equal, at_least, Ints, Row, Constraint}
use Rattle.vipr_spec.specs.Certificate.{Name, Named, Direction, minimum, maximum, Claim, infeasible}
use Rattle.vipr_spec.specs.Certificate.{range, Problem, variables}
use Rattle.vipr_spec.specs.Number.{SpellsNumber, IsSign, signed_integer, under, denominator}
use Rattle.vipr_spec.specs.Grammar.{SpellsCount, SpellsVariable, SpellsSense, SpellsDirection}
use Rattle.vipr_spec.specs.Grammar.{SpellsBound}
use Rattle.vipr_spec.specs.{Fraction.ℚ, Fraction.over, Short.◌then◌, Stated.States}
use Rattle.vipr_spec.specs.Grammar as long
use Rattle.vipr_spec.specs.Short as short
use Rattle.vipr_spec.proofs.ShortRows.{AreOne, are_one}
use Rattle.vipr_spec.proofs.{GrammarSteps.bytes_of, ShortTokens.same_tokens}

-- ---- numbers

signed : (sign : List ℕ) (is_negative : Bool) (top : List ℕ) → IsSign sign is_negative
    → IsNumeral 10 top
    → short.Integer (sign ++ top) (signed_integer is_negative (digits_value 10 top))
signed sign neg top k h = grind arith

number_by : (bs : List ℕ) (x : ℚ) (s : SpellsNumber bs x) (bottom : Option (List ℕ))
    → bs ≡ s.sign ++ s.top ++ under bottom → IfSome bottom (IsNumeral 10)
    → 1 ≤ denominator bottom
    → x ≡ over (signed_integer s.is_negative (digits_value 10 s.top)) (denominator bottom)
    → short.Number bs x
number_by bs x s None joined h d v = (
  s.sign ++ s.top,
  49 ∷ [],
  signed_integer s.is_negative (digits_value 10 s.top),
  1,
  signed s.sign s.is_negative s.top s.is_sign s.top_digits,
  ((lit< tt, (lit< tt, tt)), refl),
  lit< tt,
  v,
  inr (joined ∙ append-nil (s.sign ++ s.top), refl),
)
number_by bs x s (Some ds) joined h d v = (
  s.sign ++ s.top,
  ds,
  signed_integer s.is_negative (digits_value 10 s.top),
  digits_value 10 ds,
  signed s.sign s.is_negative s.top s.is_sign s.top_digits,
  (h, refl),
  d,
  v,
  inl joined,
)

pub number : {bs : List ℕ} {x : ℚ} → SpellsNumber bs x → short.Number bs x
number {bs} {x} s = number_by bs x s s.bottom s.joined s.bottom_digits s.divides s.value

-- ---- shapes one after another

pub each_of : {P P' Q Q' : List (List ℕ) → Type 0} → ((ts : List (List ℕ)) → P ts → P' ts)
    → ((ts : List (List ℕ)) → Q ts → Q' ts) → {ts : List (List ℕ)}
    → long.◌then◌ P Q ts → (P' then Q') ts
each_of f g t = (t.0, t.1, t.2, f t.0 t.3, g t.1 t.4)

count : (n : ℕ) (ts : List (List ℕ)) → long.one SpellsCount n ts → short.one short.Natural n ts
count n ts t = (t.0, t.1, t.2.0)

variable : (n i : ℕ) (ts : List (List ℕ)) → long.one (SpellsVariable n) i ts
    → short.one short.Natural i ts
variable n i ts t = (t.0, t.1, t.2.0)

fraction : (x : ℚ) (ts : List (List ℕ)) → long.one SpellsNumber x ts → short.one short.Number x ts
fraction x ts t = (t.0, t.1, number t.2)

-- what is listed is the same, item by item
each_as : {A B : Type 0} (P : A → List (List ℕ) → Type 0) (Q : B → List (List ℕ) → Type 0)
    (R : A → B → Type 0)
    → ((a : A) (ts : List (List ℕ)) → P a ts → (b : B) × R a b × Q b ts)
    → (xs : List A) (ts : List (List ℕ)) → long.each P xs ts
    → (ys : List B) × AllZip R xs ys × (length ys ≡ length xs) × short.each Q ys ts
each_as P Q R f [] ts t = ([], tt, refl, t)
each_as P Q R f (x ∷ xs) ts t =
    let first = f x t.0 t.3 in let rest = each_as P Q R f xs t.1 t.4 in
    (first.0 ∷ rest.0, (first.1, rest.1), ap suc rest.2, (t.0, t.1, t.2, first.2, rest.3))

-- ---- vectors

pairs_below : (n : ℕ) (ps : List (ℕ × ℚ)) (ts : List (List ℕ)) → long.each (long.pair n) ps ts
    → All (λ p. p.0 < n) ps
pairs_below n [] ts t = All-nil (λ (p : ℕ × ℚ). p.0 < n)
pairs_below n (p ∷ ps) ts t = All-cons (λ (p : ℕ × ℚ). p.0 < n) p ps t.3.3.2.1 (pairs_below n ps t.1 t.4)

abbrev short_pair : ℕ × ℚ → List (List ℕ) → Type 0
short_pair p = short.one short.Natural p.0 then short.one short.Number p.1

pairs_as : (n : ℕ) (ps : List (ℕ × ℚ)) (ts : List (List ℕ)) → long.each (long.pair n) ps ts
    → short.each short_pair ps ts
pairs_as n [] ts t = t
pairs_as n (p ∷ ps) ts t = (t.0, t.1, t.2, each_of (variable n p.0) (fraction p.1) t.3, pairs_as n ps t.1 t.4)

pub vector : (n : ℕ) (row : Row) (ts : List (List ℕ)) → long.vector n row ts
    → (ps : short.Row) × AreOne n row ps × short.vector ps ts
vector n row ts t = (
  t.0,
  subst (λ r. AreOne n r t.0) (sym t.2) (are_one n t.0 t.1 (pairs_below n t.0 _ t.3.4)),
  each_of (count (length t.0)) (pairs_as n t.0) t.3,
)

-- ---- constraints

abbrev pub sense_of : Sense → short.Sense
sense_of at_most = short.at_most
sense_of equal = short.equal
sense_of at_least = short.at_least

spelled_sense : (t : List ℕ) (s : Sense) → SpellsSense t s → t ≡ short.sense_word (sense_of s)
spelled_sense t at_most e = e
spelled_sense t equal e = e
spelled_sense t at_least e = e

sense : (s : Sense) (ts : List (List ℕ)) → long.one SpellsSense s ts
    → short.word (short.sense_word (sense_of s)) ts
sense s ts t = t.1 ∙ ap (λ w. w ∷ []) (spelled_sense t.0 s t.2)

pub record AreOneConstraint (n : ℕ) (c : Named Constraint) (d : short.Constraint) : Type 0 where
  pub row : AreOne n c.item.row d.row
  pub sense : d.sense ≡ sense_of c.item.sense
  pub bound : d.bound ≡ c.item.bound

abbrev short_coefficients : short.Row → short.Row → List (List ℕ) → Type 0
short_coefficients objective row ts = short.vector row ts ⊎ (short.word (codes "OBJ") ts × (row ≡ objective))

coefficients : (n : ℕ) (objective row : Row) (os : short.Row) → AreOne n objective os
    → (ts : List (List ℕ)) → long.coefficients n objective row ts
    → (ps : short.Row) × AreOne n row ps × short_coefficients os ps ts
coefficients n objective row os o ts (inl t) = let v = vector n row ts t in (v.0, v.1, inl v.2)
coefficients n objective row os o ts (inr t) = (os, subst (λ r. AreOne n r os) (sym t.1) o, inr (t.0, refl))

constraint : (n : ℕ) (objective : Row) (os : short.Row) → AreOne n objective os
    → (c : Named Constraint) (ts : List (List ℕ)) → long.constraint n objective c.name c.item ts
    → (d : short.Constraint) × AreOneConstraint n c d × short.constraint os d ts
constraint n objective os o c ts t =
    let s = t.4 in let b = s.4 in
    let r = coefficients n objective c.item.row os o b.1 b.4 in (
      record { row = r.0; sense = sense_of c.item.sense; bound = c.item.bound },
      record { row = r.1; sense = refl; bound = refl },
      (
        t.0,
        t.1,
        t.2,
        (c.name, t.3),
        (
          s.0,
          s.1,
          s.2,
          sense c.item.sense s.0 s.3,
          (b.0, b.1, b.2, fraction c.item.bound b.0 b.3, r.2),
        ),
      ),
    )

-- ---- the sections

names : (ns : List Name) (ts : List (List ℕ)) → long.names ns ts
    → (short.word (codes "VAR") then short.counted short.word ns) ts
names ns ts t = each_of (λ ts h. h) (λ ts. each_of (count (length ns)) (same_words ns)) t
  where
    same_words : (ns : List Name) (ts : List (List ℕ)) → long.each long.word ns ts → short.each short.word ns ts
    same_words [] ts t = t
    same_words (n ∷ ns) ts t = (t.0, t.1, t.2, t.3, same_words ns t.1 t.4)

integers : (n : ℕ) (ints : Ints) (ts : List (List ℕ)) → long.integers n ints ts
    → (is : List ℕ) × (ints ≡ from_list is)
    × (short.word (codes "INT") then short.counted (short.one short.Natural) is) ts
integers n ints ts t = (t.0, t.1, each_of (λ ts h. h) (λ ts. each_of (count (length t.0)) (variables t.0)) t.2)
  where
    variables : (is : List ℕ) (ts : List (List ℕ)) → long.each (long.one (SpellsVariable n)) is ts
        → short.each (short.one short.Natural) is ts
    variables [] ts t = t
    variables (i ∷ is) ts t = (t.0, t.1, t.2, variable n i t.0 t.3, variables is t.1 t.4)

abbrev pub is_min : Direction → Bool
is_min minimum = true
is_min maximum = false

direction : (d : Direction) (ts : List (List ℕ)) → long.one SpellsDirection d ts
    → short.word (if is_min d then codes "min" else codes "max") ts
direction minimum ts t = t.1 ∙ ap (λ w. w ∷ []) t.2
direction maximum ts t = t.1 ∙ ap (λ w. w ∷ []) t.2

abbrev short_objective : Direction → short.Row → List (List ℕ) → Type 0
short_objective d os = short.word (codes "OBJ")
    then short.word (if is_min d then codes "min" else codes "max") then short.vector os

objective : (n : ℕ) (d : Direction) (row : Row) (ts : List (List ℕ)) → long.objective n d row ts
    → (os : short.Row) × AreOne n row os × short_objective d os ts
objective n d row ts t =
    let s = t.4 in let v = vector n row s.1 s.4 in
    (v.0, v.1, (t.0, t.1, t.2, t.3, (s.0, s.1, s.2, direction d s.0 s.3, v.2)))

abbrev short_constraints : short.Row → ℕ → List short.Constraint → List (List ℕ) → Type 0
short_constraints os b ds = short.word (codes "CON") then short.one short.Natural (length ds)
    then short.one short.Natural b then short.each (short.constraint os) ds

constraints : (n : ℕ) (row : Row) (os : short.Row) → AreOne n row os → (b : ℕ)
    (cs : List (Named Constraint)) (ts : List (List ℕ)) → long.constraints n row b cs ts
    → (ds : List short.Constraint) × AllZip (AreOneConstraint n) cs ds × short_constraints os b ds ts
constraints n row os o b cs ts t =
    let m = t.4 in let k = m.4 in
    let all = each_as (λ (c : Named Constraint). long.constraint n row c.name c.item)
    (short.constraint os) (AreOneConstraint n) (constraint n row os o) cs k.1 k.4 in
    let many : short.one short.Natural (length all.0) m.0 =
    subst (λ l. short.one short.Natural l m.0) (sym all.2) (count (length cs) m.0 m.3) in
    (all.0, all.1, (t.0, t.1, t.2, t.3, (m.0, m.1, m.2, many, (k.0, k.1, k.2, count b k.0 k.3, all.3))))

abbrev pub bounds_of : Claim → Option (Option ℚ × Option ℚ)
bounds_of infeasible = None
bounds_of (range lower upper) = Some (lower, upper)

bound : (infinite : List ℕ) (b : Option ℚ) (ts : List (List ℕ))
    → long.one (SpellsBound infinite) b ts → short.one (short.bound infinite) b ts
bound infinite None ts t = t
bound infinite (Some x) ts t = fraction x ts t

claim : (q : Claim) (ts : List (List ℕ)) → long.claim q ts
    → (short.word (codes "RTP") then short.claim (bounds_of q)) ts
claim infeasible ts t = each_of (λ ts h. h) (λ ts h. h) t
claim (range lower upper) ts t =
    each_of (λ ts h. h)
    (λ ts. each_of (λ ts h. h)
    (λ ts. each_of (bound (codes "-inf") lower) (bound (codes "inf") upper))) t

abbrev pub AreOneSolution : ℕ → Named Row → short.Row → Type 0
AreOneSolution n s qs = AreOne n s.item qs

solutions : (n : ℕ) (ss : List (Named Row)) (ts : List (List ℕ)) → long.solutions n ss ts
    → (qs : List short.Row) × AllZip (AreOneSolution n) ss qs
    × (short.word (codes "SOL") then short.counted (λ s. short.any then short.vector s) qs) ts
solutions n ss ts t =
    let k = t.4 in
    let all = each_as (long.solution n) (λ (s : short.Row). short.any then short.vector s)
    (AreOneSolution n) (λ s ts u. let v = vector n s.item u.1 u.4 in
    (v.0, v.1, (u.0, u.1, u.2, (s.name, u.3), v.2))) ss k.1 k.4 in
    let many : short.one short.Natural (length all.0) k.0 =
    subst (λ l. short.one short.Natural l k.0) (sym all.2) (count (length ss) k.0 k.3) in
    (all.0, all.1, (t.0, t.1, t.2, t.3, (k.0, k.1, k.2, many, all.3)))

-- ---- the whole

-- a shape in front of the rest
front_two : {P Q R : List (List ℕ) → Type 0} {x : List (List ℕ)} (y : List (List ℕ)) → (P then Q) x
    → R y → (P then Q then R) (x ++ y)
front_two y t r = (t.0, t.1 ++ y, ap (λ l. l ++ y) t.2 ∙ append_assoc t.0 t.1 y, t.3, (t.1, y, refl, t.4, r))

front_three : {P Q R S : List (List ℕ) → Type 0} {x : List (List ℕ)} (y : List (List ℕ))
    → (P then Q then R) x → S y → (P then Q then R then S) (x ++ y)
front_three y t s = (t.0, t.1 ++ y, ap (λ l. l ++ y) t.2 ∙ append_assoc t.0 t.1 y, t.3, front_two y t.4 s)

front_four : {P Q R S T : List (List ℕ) → Type 0} {x : List (List ℕ)} (y : List (List ℕ))
    → (P then Q then R then S) x → T y → (P then Q then R then S then T) (x ++ y)
front_four y t s = (t.0, t.1 ++ y, ap (λ l. l ++ y) t.2 ∙ append_assoc t.0 t.1 y, t.3, front_three y t.4 s)

-- the tokens in another grouping
moved : {P Q : List (List ℕ) → Type 0} {r : List (List ℕ)} (f q x : List (List ℕ)) → r ≡ f ++ q
    → (P then Q) (f ++ (q ++ x)) → (P then Q) (r ++ x)
moved f q x e t = (t.0, t.1, ap (λ l. l ++ x) e ∙ append_assoc f q x ∙ t.2, t.3, t.4)

abbrev pub problem_of : Problem → List ℕ → short.Row → List short.Constraint → short.Problem
problem_of p is os cs = record {
  integers = is;
  is_min = is_min p.direction;
  objective = os;
  constraints = cs;
  bounds = bounds_of p.claim;
}

-- the short problem and solutions of these
pub record AreStated (p : Problem) (ss : List (Named Row)) (q : short.Problem) (qs : List short.Row)
    : Type 0 where
  pub integers : p.integers ≡ from_list q.integers
  pub is_min : q.is_min ≡ is_min p.direction
  pub objective : AreOne (variables p) p.objective q.objective
  pub constraints : AllZip (AreOneConstraint (variables p)) p.constraints q.constraints
  pub bounds : q.bounds ≡ bounds_of p.claim
  pub solutions : AllZip (AreOneSolution (variables p)) ss qs

pub states : (bytes : List ℕ) (p : Problem) (ss : List (Named Row)) → States bytes p ss
    → (q : short.Problem) × (qs : List short.Row) × short.States bytes q qs × AreStated p ss q qs
states bytes p ss t =
    let n = variables p in
    let two = t.4 in
    let v = two.3 in let ns = v.4 in let is = ns.4 in let o = is.4 in let c = o.4 in
    let ints = integers n p.integers is.0 is.3 in
    let obj = objective n p.direction p.objective o.0 o.3 in
    let cons = constraints n p.objective obj.0 obj.1 p.bound_count p.constraints c.0 c.3 in
    let sols = solutions n ss two.1 two.4 in
    let back = bytes_of t.1 in let x = two.1 ++ back in
    let after_claim = front_two {R = λ ts. ts ≡ back} back sols.2 refl in
    let after_constraints = front_two x (claim p.claim c.1 c.4) after_claim in
    let after_objective = moved c.0 c.1 x c.2 (front_four (c.1 ++ x) cons.2 after_constraints) in
    let after_integers = moved o.0 o.1 x o.2 (front_three (o.1 ++ x) obj.2 after_objective) in
    let after_names = moved is.0 is.1 x is.2 (front_two (is.1 ++ x) ints.2 after_integers) in
    let after_version = moved ns.0 ns.1 x ns.2 (front_two (ns.1 ++ x) (names p.names ns.0 ns.3) after_names) in
    let all = moved two.0 two.1 back two.2 (moved v.0 v.1 x v.2 (front_two (v.1 ++ x) v.3 after_version)) in (
      problem_of p ints.0 obj.0 cons.0,
      sols.0,
      (
        p.names,
        p.bound_count,
        back,
        (
          all.0,
          all.1,
          sym (same_tokens bytes) ∙ ap bytes_of t.2
              ∙ map-append _ t.0 t.1 ∙ all.2,
          all.3,
          all.4,
        ),
      ),
      record {
        integers = ints.1;
        is_min = refl;
        objective = obj.1;
        constraints = cons.1;
        bounds = refl;
        solutions = sols.1;
      },
    )
