-- The items, by the steps of their readings
use Rattle.std.proofs.Common.{rules}
use Rattle.std.proofs.Common.{◌≡◌, ℕ, zero, suc, ◌+◌, ◌-◌, ◌≤◌, ◌⊎◌, inl, inr, ⊎_elim, Bool, true}
use Rattle.std.proofs.Common.{false, ◌||◌, nat_eq, if◌then◌else◌, List, [], ◌∷◌, ◌++◌, length, map}
use Rattle.std.proofs.Common.{Result, Ok, Err, codes, arith, refl, sym, ◌∙◌, ap, subst, append-nil}
use Rattle.std.proofs.{lemmas.Bool.Decides.nat_tests, lemmas.Grind.common_steps}
use Rattle.std.specs.List.{IsDistinct, AllByRecursion, list_any}
use Rattle.std.specs.{FinSet.from_list, Str.bytes_eq}
use Rattle.vipr_spec.specs.Causes as cause
use Rattle.vipr_spec.specs.{ℚ, Token, Row, Problem, variables, Reason, asm, lin, rnd, uns, sol}
use Rattle.vipr_spec.specs.{Claim, infeasible, range, natural_after, natural_of, SpellsNumber}
use Rattle.vipr_spec.specs.{most_count, Rest, Fault, refused, unread, ◌>>=◌, Read, first_token}
use Rattle.vipr_spec.specs.{token_read, checked_token, token_of, name_of, word_of, count_of}
use Rattle.vipr_spec.specs.{derivation_count_of, variable_of, new_variable_of, reference_of}
use Rattle.vipr_spec.specs.{last_of, number_of, bound_of, spelled_sense, spelled_direction}
use Rattle.vipr_spec.specs.{has_range_of, rule_of, Rule, by_asm, by_lin, by_rnd, by_uns, by_sol}
use Rattle.vipr_spec.specs.{keyword_read, pair_read, pairs_read, row_of, counted_read, vector_read}
use Rattle.vipr_spec.specs.{row_read, constraint_read, version_read, names_read, integers_read}
use Rattle.vipr_spec.specs.{objective_read, constraints_read, range_read, claim_read, problem_read}
use Rattle.vipr_spec.specs.{solution_read, derivations_read, entry_read, entries_read, by_read}
use Rattle.vipr_spec.specs.{reason_read, derivation_read, end_of, end_read, certificate_read}
use Rattle.vipr_spec.specs.{ReadsKind, ReadsFront, Reads, SpellsRange, rule_word, problem_and_count}
use Rattle.vipr_spec.specs.{derivation_count, IsRefusedAt, EndsEarly, FaultsRemain, ItemFaults}
use Rattle.vipr_spec.specs.Grammar.{SpellsNatural, SpellsCount, SpellsVariable, SpellsSense}
use Rattle.vipr_spec.specs.Grammar.{SpellsDirection, SpellsBound, SpellsLast, word, one, ◌then◌}
use Rattle.vipr_spec.specs.Grammar.{each, pair, vector, coefficients, constraint, version, names}
use Rattle.vipr_spec.specs.Grammar.{integers, objective, constraints, claim, solution, entry}
use Rattle.vipr_spec.specs.Grammar.{reason, derivation}
use Rattle.vipr_spec.proofs.GrammarSteps.{bind_ok, ok_then, answer, read_as, is_answer, next_sound}
use Rattle.vipr_spec.proofs.GrammarTokens.{SpellsRule, kinds_of_token, same_bytes, bytes_same}
use Rattle.vipr_spec.proofs.GrammarBounds.{number_is, bound_is, no_lower, no_upper}
use Rattle.vipr_spec.proofs.GrammarParts.{reads_name, reads_fixed, reads_like, one_token}
use Rattle.vipr_spec.proofs.GrammarParts.{first_of_front, next_complete}
use Rattle.vipr_spec.proofs.GrammarFaults.{fault, remains_then, remains_token, remains_named}
use Rattle.vipr_spec.proofs.Readings.{IsReading, Shape, token, many, Chain, chain, Last, last, Done, done}
use Rattle.vipr_spec.proofs.Readings.{shaped, retail, regroup, degroup}

-- ---- tokens

pub name_is : IsReading (token_of name_of) word
name_is = record { reads = reads_name; remains = remains_token name_of }

pub fixed_is : (w : List ℕ) (c : ℕ) → IsReading (token_of (word_of w c)) (λ u. word w)
fixed_is w c = record { reads = reads_fixed w c; remains = remains_token (word_of w c) }

pub keyword_is : (w : List ℕ) → IsReading (keyword_read w) (λ u. word w)
keyword_is w = fixed_is w cause.wrong_keyword

pub count_is : IsReading (token_of count_of) (one SpellsCount)
count_is = token count_of SpellsCount kinds_of_token.count

reference_is : IsReading (token_of reference_of) (one SpellsCount)
reference_is = token reference_of SpellsCount kinds_of_token.reference

number_token : IsReading (token_of number_of) (one SpellsNumber)
number_token = token number_of SpellsNumber number_is

bound_token : (w : List ℕ) → ReadsKind (bound_of w) (SpellsBound w)
    → IsReading (token_of (bound_of w)) (one (SpellsBound w))
bound_token w law = token (bound_of w) (SpellsBound w) law

-- ---- variables that differ

abbrev pub IsNew : List ℕ → ℕ → Type 0
IsNew before i = list_any (nat_eq i) before ≡ false

abbrev pub AreNew : List ℕ → List ℕ → Type 0
AreNew before is = AllByRecursion (IsNew before) is

abbrev AllDiffer : ℕ → List ℕ → Type 0
AllDiffer i is = AllByRecursion (λ j. nat_eq i j ≡ false) is

neither : (a b : Bool) → (a || b) ≡ false → (a ≡ false) × (b ≡ false)
neither a b e = grind arith

flipped : (i j : ℕ) → nat_eq i j ≡ false → nat_eq j i ≡ false
flipped i j e = grind (arith, nat_tests)

apart : (i : ℕ) (before is : List ℕ) → AreNew (i ∷ before) is → AreNew before is × AllDiffer i is
apart i before [] h = (tt, tt)
apart i before (j ∷ js) h = grind (arith, neither, flipped, apart i before js h.1)

joined : (i : ℕ) (before is : List ℕ) → AreNew before is → AllDiffer i is → AreNew (i ∷ before) is
joined i before [] h d = tt
joined i before (j ∷ js) h d = (
  ap (λ b. b || list_any (nat_eq j) before) (flipped i j d.0)
      ∙ h.0,
  joined i before js h.1 d.1,
)

nothing_before : (is : List ℕ) → AreNew [] is
nothing_before [] = tt
nothing_before (i ∷ is) = (refl, nothing_before is)

abbrev pub variables_of : List (ℕ × ℚ) → List ℕ
variables_of ps = map (λ p. p.0) ps

abbrev pub SpellsNew : ℕ → List ℕ → List ℕ → ℕ → Type 0
SpellsNew n before t i = SpellsVariable n t i × IsNew before i

pub pair_is : (n : ℕ) (before : List ℕ)
    → IsReading (pair_read n before) (λ p ts. IsNew before p.0 × pair n p ts)
unfolding pair_read
pair_is n before = shaped (λ p ts. IsNew before p.0 × pair n p ts)
    (chain (token (new_variable_of n before) (SpellsNew n before)
    (kinds_of_token.new_variable n before)) _ (λ i. last number_token (λ a. (i, a))))
    (λ p ts h. let t = h.1 in let e = t.4.1 in
    subst (λ q. IsNew before q.0 × pair n q ts) (sym e)
    (t.3.2.1, (t.0, t.1, t.2, (t.3.0, t.3.1, t.3.2.0), t.4.2)))
    (λ p ts h. let t = h.1 in (p.0, (t.0, t.1, t.2, (t.3.0, t.3.1, (t.3.2, h.0)), (p.1, refl, t.4))))

abbrev pub DistinctPairs : ℕ → List ℕ → ℕ → List (ℕ × ℚ) → List (List ℕ) → Type 0
DistinctPairs n before k ps ts = (length ps ≡ k) × AreNew before (variables_of ps)
    × IsDistinct nat_eq (variables_of ps) × each (pair n) ps ts

abbrev PairThen : ℕ → List ℕ → ℕ → List (ℕ × ℚ) → List (List ℕ) → Type 0
PairThen n before k = Chain (λ p ts. IsNew before p.0 × pair n p ts)
    (λ p. Last (DistinctPairs n (p.0 ∷ before) k) (λ ps. p ∷ ps))

pair_first : (n : ℕ) (before : List ℕ) (k : ℕ) (ps : List (ℕ × ℚ)) (ts : List (List ℕ))
    → DistinctPairs n before (suc k) ps ts → PairThen n before k ps ts
unfolding IsDistinct
pair_first n before k [] ts h = absurd (cc)
pair_first n before k (p ∷ ps) ts h =
    let t = h.3 in let size : length ps ≡ k = cc in
    (p, (t.0, t.1, t.2, (h.1.0, t.3), (ps, refl, (size, joined p.0 before (variables_of ps) h.1.1 h.2.0, h.2.1, t.4))))

pub pairs_is : (n : ℕ) (before : List ℕ) (k : ℕ)
    → IsReading (pairs_read n before k) (DistinctPairs n before k)
unfolding pairs_read IsDistinct
pairs_is n before zero = shaped (DistinctPairs n before 0) (done [])
    (λ ps ts h. subst (λ qs. DistinctPairs n before 0 qs ts) (sym h.0) (refl, tt, tt, h.1))
    (grind (arith, common_steps))
pairs_is n before (suc k) = shaped (DistinctPairs n before (suc k))
    (chain (pair_is n before) _ (λ p. last (pairs_is n (p.0 ∷ before) k) (λ ps. p ∷ ps)))
    (grind (arith, apart)) (pair_first n before k)

-- ---- vectors and constraints

pub vector_is : (n : ℕ) → IsReading (vector_read n) (vector n)
unfolding vector_read counted_read
vector_is n = shaped (vector n) (chain count_is _ (λ k. last (pairs_is n [] k) row_of))
    (λ row ts h. let t = h.1 in let ps = t.4.2 in (
      t.4.0,
      ps.2,
      t.4.1,
      subst (λ k. (one SpellsCount k then each (pair n) t.4.0) ts) (sym ps.0)
          (retail t ps.3),
    ))
    (λ row ts h. let ps = h.0 in
    (length ps, retail h.3 (ps, h.2, (refl, nothing_before (variables_of ps), h.1, h.3.4))))

-- a vector, or OBJ for the objective's
module _ (n : ℕ) (objective : Row) (r s : Rest) (row : Row) where
  abbrev counted : Token × Rest → Read Row
  counted t = checked_token (count_of t.0.bytes) t >>= counted_read n

  choice_sound : (t : Token × Rest) → token_read r ≡ Ok t → (b : Bool)
      → bytes_eq t.0.bytes (codes "OBJ") ≡ b → (if b then Ok (objective, t.1) else counted t) ≡ Ok
      (row, s) → ReadsFront (coefficients n objective row) r s
  unfolding vector_read
  choice_sound t e true f g =
      grind (
        arith,
        is_answer,
        coefficients,
        one_token,
        coefficients n objective objective,
        next_sound e,
        same_bytes t.0.bytes,
      )
  choice_sound t e false f g =
      let read : vector_read n r ≡ Ok (row, s) =
      ap (λ z. z >>= (λ t. checked_token (count_of t.0.bytes) t) >>= counted_read n) e ∙ g in
      let v = ((vector_is n).reads r s row).0 read in
      read_as (coefficients n objective row) v (inl v.shape)

  row_sound : row_read n objective r ≡ Ok (row, s) → ReadsFront (coefficients n objective row) r s
  unfolding row_read
  row_sound e = let t = bind_ok e in choice_sound t.0 t.1 (bytes_eq t.0.0.bytes (codes "OBJ")) refl t.2

  no_count : (t : Token × Rest) (k : ℕ × Rest) → t.0.bytes ≡ codes "OBJ"
      → checked_token (count_of t.0.bytes) t ≡ Ok k → ⊥
  unfolding count_of natural_of natural_after
  no_count t k e f =
      let g : checked_token (count_of (codes "OBJ")) t ≡ Ok k = subst (λ b. checked_token (count_of b) t ≡ Ok k) e f in
      cc

  row_complete : ReadsFront (coefficients n objective row) r s → row_read n objective r ≡ Ok (row, s)
  unfolding row_read vector_read
  row_complete t = ⊎_elim
      (λ (h : vector n row _).
      let k = bind_ok {r = token_of count_of r} {f = counted_read n}
      (((vector_is n).reads r s row).1 (read_as (vector n row) t h)) in
      let u = bind_ok {r = token_read r} {f = λ t. checked_token (count_of t.0.bytes) t} k.1 in
      ok_then _ u.1 (grind (arith, no_count, same_bytes, ok_then)))
      (λ (h : word (codes "OBJ") _ × (row ≡ objective)).
      let f = first_of_front (word (codes "OBJ")) r s t.front (codes "OBJ") t.joined t.short h.0 h.0 in
      let same : f.token.bytes ≡ codes "OBJ" = cc in
      ok_then _ (next_complete f.next)
      (ap (λ b. if b then answer objective s else counted (f.token, s))
      (bytes_same f.token.bytes _ same) ∙ ap (λ q. answer q s) (sym h.1)))
      t.shape

abbrev is_objective : Token → Bool
is_objective t = bytes_eq t.bytes (codes "OBJ")

-- the first token is another
IsOther : List Token → Type 0
IsOther [] = Unit {0}
IsOther (t ∷ ts) = is_objective t ≡ false

front_other : (before : List Token) (token : Token) (after : List Token)
    → IsOther (before ++ token ∷ after) → IsOther before
unfolding IsOther
front_other before token after h = grind arith

still_other : (before : List Token) (t : Token) (after more : List Token)
    → IsOther (before ++ t ∷ after) → IsOther (before ++ t ∷ more)
unfolding IsOther
still_other [] t after more h = h
still_other (b ∷ bs) t after more h = h

module _ (n : ℕ) (objective : Row) where
  abbrev chosen_by : Bool → Token × Rest → Read Row
  chosen_by b t = if b then Ok (objective, t.1) else (checked_token (count_of t.0.bytes) t >>= counted_read n)

  abbrev row_with : Result (Token × Rest) Fault → Read Row
  row_with first = first >>= λ t. chosen_by (is_objective t.0) t

  abbrev vector_with : Result (Token × Rest) Fault → Read Row
  vector_with first = (first >>= λ t. checked_token (count_of t.0.bytes) t) >>= counted_read n

  abbrev none : Bool → ℕ → Result (Token × Rest) Fault
  none fails size = if fails then Err unread else Err (refused cause.truncated size)

  abbrev some : Bool → Token → Rest → Result (Token × Rest) Fault
  some long t r = if long then Err (refused cause.token_too_long t.offset) else Ok (t, r)

  some_same : (long : Bool) (t : Token) (r : Rest) → is_objective t ≡ false
      → row_with (some long t r) ≡ vector_with (some long t r)
  some_same long t r h = grind arith

  row_same : (ts : List Token) (r : Rest) → IsOther ts → row_with (first_token ts r) ≡ vector_with (first_token ts r)
  unfolding first_token IsOther
  row_same ts r h = grind (arith, some_same)

  row_is_vector : (r : Rest) → IsOther r.tokens → row_read n objective r ≡ vector_read n r
  unfolding row_read vector_read
  row_is_vector r h = row_same r.tokens r h

  other_from : (ts : List Token) (r : Rest) (d : Fault) → row_with (first_token ts r) ≡ Err d → IsOther ts
  unfolding first_token IsOther
  other_from ts r d e = grind (arith, common_steps)

  other : (r : Rest) (d : Fault) → row_read n objective r ≡ Err d → IsOther r.tokens
  unfolding row_read
  other r d e = other_from r.tokens r d e

  row_refusal : (r : Rest) (c o : ℕ) → row_read n objective r ≡ Err (refused c o)
      → IsRefusedAt (row_read n objective) r c o ⊎ EndsEarly r c o
  row_refusal r c o e =
      let h = other r (refused c o) e in
      ⊎_elim
      (λ (k : IsRefusedAt (vector_read n) r c o). grind (arith, token, joined, row_is_vector, still_other, front_other))
      inr
      ((vector_is n).remains.refusal r c o (sym (row_is_vector r h) ∙ e))

  pub remains_row : FaultsRemain (row_read n objective)
  remains_row =
      record {
        refusal = row_refusal;
        failure = λ r e. (vector_is n).remains.failure r (sym (row_is_vector r (other r unread e))
            ∙ e);
      }

pub row_is : (n : ℕ) (objective : Row) → IsReading (row_read n objective) (coefficients n objective)
row_is n objective = search (rules, row_sound, row_complete, remains_row)

pub constraint_is : (n : ℕ) (objective : Row)
    → IsReading (constraint_read n objective) (λ c. constraint n objective c.name c.item)
unfolding constraint_read
constraint_is n objective = shaped (λ c. constraint n objective c.name c.item)
    (chain name_is _ (λ name. chain (token spelled_sense SpellsSense kinds_of_token.sense) _
    (λ sense. chain number_token _
    (λ bound. last (row_is n objective)
    (λ row. record {
      name = name;
      item = record { row = row; sense = sense; bound = bound };
    })))))
    (λ c ts h. let a = h.1 in let b = a.4.1 in let d = b.4.1 in
    subst (λ c. constraint n objective c.name c.item ts) (sym d.4.1)
    (retail a (retail b (retail d d.4.2))))
    (λ c ts h. (c.name, retail h (c.item.sense, retail h.4 (c.item.bound, retail h.4.4 (c.item.row, refl, h.4.4.4)))))

-- ---- the sections of a problem

pub version_is : IsReading version_read (λ u. version)
unfolding version_read
version_is =
    shaped (λ u. version)
    (chain (keyword_is (codes "VER")) _ (λ v. fixed_is (codes "1.0") cause.unsupported_version))
    (λ u ts h. h.1) (λ u ts h. (tt, h))

pub names_is : IsReading names_read names
unfolding names_read
names_is = shaped names (chain (keyword_is (codes "VAR")) _ (λ v. chain count_is _ (λ n. many name_is n)))
    (λ ns ts h. let v = h.1 in let n = v.4.1 in
    retail v (subst (λ k. (one SpellsCount k then each word ns) v.1) (sym n.4.0)
    (retail n n.4.1)))
    (λ ns ts h. (tt, retail h (length ns, retail h.4 (refl, h.4.4))))

index_is : (n : ℕ) → IsReading (token_of (variable_of n)) (one (SpellsVariable n))
index_is n = token (variable_of n) (SpellsVariable n) (kinds_of_token.variable n)

pub integers_is : (n : ℕ) → IsReading (integers_read n) (integers n)
unfolding integers_read
integers_is n =
    shaped (integers n)
    (chain (keyword_is (codes "INT")) _
    (λ v. chain count_is _ (λ i. last (many (index_is n) i) from_list)))
    (λ x ts h. grind (arith, retail, one, each))
    (λ x ts h. let v = h.2 in (tt, retail v (length h.0, retail v.4 (h.0, h.1, (refl, v.4.4)))))

pub objective_is : (n : ℕ) → IsReading (objective_read n) (λ x. objective n x.0 x.1)
unfolding objective_read
objective_is n = shaped (λ x. objective n x.0 x.1)
    (chain (keyword_is (codes "OBJ")) _
    (λ v. chain (token spelled_direction SpellsDirection kinds_of_token.direction) _
    (λ d. last (vector_is n) (λ row. (d, row)))))
    (λ x ts h. let v = h.1 in let d = v.4.1 in
    subst (λ x. objective n x.0 x.1 ts) (sym d.4.1) (retail v (retail d d.4.2)))
    (λ x ts h. (tt, retail h (x.0, retail h.4 (x.1, refl, h.4.4))))

pub constraints_is : (n : ℕ) (row : Row)
    → IsReading (constraints_read n row) (λ x. constraints n row x.0 x.1)
unfolding constraints_read
constraints_is n row = shaped (λ x. constraints n row x.0 x.1)
    (chain (keyword_is (codes "CON")) _
    (λ v. chain count_is _
    (λ m. chain count_is _ (λ b. last (many (constraint_is n row) m) (λ cs. (b, cs))))))
    (λ x ts h. grind (arith, common_steps, constraints, retail, one, each, constraint))
    (λ x ts h. (tt, retail h (length x.1, retail h.4 (x.0, retail h.4.4 (x.1, refl, (refl, h.4.4.4))))))

-- ---- the claim

abbrev IsRange : Bool → Shape Claim
IsRange false = Done infeasible
IsRange true = Chain (one (SpellsBound (codes "-inf"))) (λ l. Last (one (SpellsBound (codes "inf"))) (λ u. range l u))

range_is : (b : Bool) → IsReading (range_read b) (IsRange b)
unfolding range_read
range_is false = done infeasible
range_is true = chain (bound_token (codes "-inf") (bound_is (codes "-inf") no_lower)) _
    (λ l. last (bound_token (codes "inf") (bound_is (codes "inf") no_upper)) (λ u. range l u))

ranged : (b : Bool) (x : Claim) (ts : List (List ℕ))
    → (word (codes "RTP") then one SpellsRange b then IsRange b x) ts → claim x ts
ranged b x ts h = grind (arith, retail, append-nil)

claimed : (x : Claim) (ts : List (List ℕ)) → claim x ts
    → Chain (λ (u : Unit {0}). word (codes "RTP")) (λ u. Chain (one SpellsRange) IsRange) x ts
claimed x ts h = grind (arith, retail, codes)

pub claim_is : IsReading claim_read claim
unfolding claim_read
claim_is = shaped claim
    (chain (keyword_is (codes "RTP")) _
    (λ v. chain (token has_range_of SpellsRange kinds_of_token.has_range) _ (λ b. range_is b)))
    (λ x ts h. ranged h.1.4.0 x ts (retail h.1 h.1.4.1)) claimed

-- ---- the problem with the number of solutions, and a solution

pub problem_is : IsReading problem_read problem_and_count
unfolding problem_read
problem_is = shaped problem_and_count
    (chain version_is _
    (λ v. chain names_is _
    (λ ns. chain (integers_is (length ns)) _
    (λ is. chain (objective_is (length ns)) _ (λ o. chain (constraints_is (length ns) o.1) _
    (λ cs. chain claim_is _ (λ c. chain (keyword_is (codes "SOL")) _ (λ k. last count_is (λ s. (
      record {
        names = ns;
        integers = is;
        direction = o.0;
        objective = o.1;
        constraints = cs.1;
        bound_count = cs.0;
        claim = c;
      },
      s,
    ))))))))))
    (λ x ts h. let v = h.1 in let ns = v.4.1 in let is = ns.4.1 in let o = is.4.1 in
    let cs = o.4.1 in let c = cs.4.1 in let k = c.4.1 in
    subst (λ x. problem_and_count x ts) (sym k.4.1)
    (regroup (retail v
    (regroup (retail ns
    (regroup (retail is
    (regroup (retail o (regroup (retail cs (retail c (retail k k.4.2)))))))))))))
    (λ x ts h. let v = degroup h in let ns = degroup v.4 in let is = degroup ns.4 in
    let o = degroup is.4 in let cs = degroup o.4 in let c = cs.4 in let k = c.4 in
    let p = x.0 in (
      tt,
      retail v (
        p.names,
        retail ns (
          p.integers,
          retail is (
            (p.direction, p.objective),
            retail o (
              (p.bound_count, p.constraints),
              retail cs (p.claim, retail c (tt, retail k (x.1, refl, k.4))),
            ),
          ),
        ),
      ),
    ))

pub solution_is : (p : Problem) → IsReading (solution_read p) (solution (variables p))
unfolding solution_read
solution_is p =
    shaped (solution (variables p))
    (chain name_is _
    (λ name. last (vector_is (variables p)) (λ row. record { name = name; item = row })))
    (λ x ts h. subst (λ x. solution (variables p) x ts) (sym h.1.4.1) (retail h.1 h.1.4.2))
    (λ x ts h. (x.name, retail h (x.item, refl, h.4)))

-- ---- entries and reasons

pub entry_is : IsReading entry_read entry
unfolding entry_read
entry_is = shaped entry (chain reference_is _ (λ i. last number_token (λ m. (i, m))))
    (λ e ts h. subst (λ e. entry e ts) (sym h.1.4.1) (retail h.1 h.1.4.2)) (λ e ts h. (e.0, retail h (e.1, refl, h.4)))

abbrev pub entries : List (ℕ × ℚ) → List (List ℕ) → Type 0
entries es = one SpellsCount (length es) then each entry es

entries_is : IsReading entries_read entries
unfolding entries_read
entries_is = shaped entries (chain count_is _ (λ n. many entry_is n))
    (λ es ts h. subst (λ n. (one SpellsCount n then each entry es) ts) (sym h.1.4.0)
    (retail h.1 h.1.4.1)) (λ es ts h. (length es, retail h (refl, h.4)))

-- what follows the word of a rule
abbrev Takes : Rule → Shape Reason
Takes by_asm = Done asm
Takes by_lin = Last entries lin
Takes by_rnd = Last entries rnd
Takes by_uns =
    Chain (one SpellsCount)
    (λ i1. Chain (one SpellsCount)
    (λ l1. Chain (one SpellsCount) (λ i2. Last (one SpellsCount) (λ l2. uns i1 l1 i2 l2))))
Takes by_sol = Done sol

takes_is : (rule : Rule) → IsReading (by_read rule) (Takes rule)
unfolding by_read
takes_is by_asm = done asm
takes_is by_lin = last entries_is lin
takes_is by_rnd = last entries_is rnd
takes_is by_uns =
    chain reference_is _
    (λ i1. chain reference_is _
    (λ l1. chain reference_is _ (λ i2. last reference_is (λ l2. uns i1 l1 i2 l2))))
takes_is by_sol = done sol

alone : (rule : Rule) (ts us vs : List (List ℕ)) → ts ≡ us ++ vs → one SpellsRule rule us → vs ≡ []
    → word (rule_word rule) ts
alone rule ts us vs e h n = e ∙ ap (λ l. us ++ l) n ∙ append-nil us ∙ h.1 ∙ ap (λ t. t ∷ []) h.2

its_word : (rule : Rule) (ts : List (List ℕ)) → one SpellsRule rule ts → word (rule_word rule) ts
its_word rule ts h = h.1 ∙ ap (λ t. t ∷ []) h.2

ruled : (rule : Rule) (x : Reason) (ts : List (List ℕ)) → (one SpellsRule rule then Takes rule x) ts → reason x ts
ruled by_asm x ts h = subst (λ x. reason x ts) (sym h.4.0) (alone by_asm ts h.0 h.1 h.2 h.3 h.4.1)
ruled by_lin x ts h = subst (λ x. reason x ts) (sym h.4.1) (h.0, h.1, h.2, its_word by_lin h.0 h.3, h.4.2)
ruled by_rnd x ts h = subst (λ x. reason x ts) (sym h.4.1) (h.0, h.1, h.2, its_word by_rnd h.0 h.3, h.4.2)
ruled by_uns x ts h =
    let a = h.4.1 in let b = a.4.1 in let c = b.4.1 in
    subst (λ x. reason x ts) (sym c.4.1) (h.0, h.1, h.2, its_word by_uns h.0 h.3, retail a (retail b (retail c c.4.2)))
ruled by_sol x ts h = subst (λ x. reason x ts) (sym h.4.0) (alone by_sol ts h.0 h.1 h.2 h.3 h.4.1)

by_rule : (x : Reason) (ts : List (List ℕ)) → reason x ts → Chain (one SpellsRule) Takes x ts
by_rule asm ts h = (by_asm, (ts, [], sym (append-nil ts), (rule_word by_asm, h, refl), (refl, refl)))
by_rule (lin es) ts h = (by_lin, (h.0, h.1, h.2, (rule_word by_lin, h.3, refl), (es, refl, h.4)))
by_rule (rnd es) ts h = (by_rnd, (h.0, h.1, h.2, (rule_word by_rnd, h.3, refl), (es, refl, h.4)))
by_rule (uns i1 l1 i2 l2) ts h = grind (arith, retail)
by_rule sol ts h = (by_sol, (ts, [], sym (append-nil ts), (rule_word by_sol, h, refl), (refl, refl)))

abbrev pub braced : Reason → List (List ℕ) → Type 0
braced x = word (codes "{") then reason x then word (codes "}")

pub reason_is : IsReading reason_read braced
unfolding reason_read
reason_is = shaped braced
    (chain (fixed_is (codes "{") cause.bad_brace) _
    (λ opened. chain (token rule_of SpellsRule kinds_of_token.rule) _
    (λ rule. chain (takes_is rule) _
    (λ x. last (fixed_is (codes "}") cause.bad_brace) (λ closed. x)))))
    (λ x ts h. let a = h.1 in let b = a.4.1 in let c = b.4.1 in
    let g = regroup {R = word (codes "}")} (retail b (retail c c.4.2)) in
    subst (λ x. braced x ts) (sym c.4.1) (retail a (g.0, g.1, g.2, ruled a.4.0 b.4.0 g.0 g.3, g.4)))
    (λ x ts h. let rule = by_rule x h.4.0 h.4.3 in
    let g = degroup {R = word (codes "}")} (h.4.0, h.4.1, h.4.2, rule.1, h.4.4) in
    (tt, retail h (rule.0, retail g (x, retail g.4 (tt, refl, g.4.4)))))

-- ---- derivations

pub derivation_is : (p : Problem) → IsReading (derivation_read p) (derivation p)
unfolding derivation_read
derivation_is p = shaped (derivation p)
    (chain (constraint_is (variables p) p.objective) _
    (λ c. chain reason_is _
    (λ why. last (token last_of SpellsLast kinds_of_token.last)
    (λ l. record { name = c.name; stated = c.item; reason = why; last = l }))))
    (λ x ts h. let c = h.1 in let w = c.4.1 in let g = degroup (retail w w.4.2) in
    subst (λ x. derivation p x ts) (sym w.4.1) (retail c (retail g (degroup g.4))))
    (λ x ts h. let g = h.4 in let w = regroup (retail g (regroup g.4)) in (
      record { name = x.name; item = x.stated },
      retail h (x.reason, retail w (x.last, refl, w.4)),
    ))

-- ---- the number of derivations

abbrev SpellsRoom : ℕ → List ℕ → ℕ → Type 0
SpellsRoom m t d = SpellsNatural t d × (d ≤ most_count - m)

pub any_count_is : (p : Problem) → IsReading (derivations_read p)
    (λ d. word (codes "DER") then one (SpellsRoom (length p.constraints)) d)
unfolding derivations_read
any_count_is p = shaped (λ d. word (codes "DER") then one (SpellsRoom (length p.constraints)) d)
    (chain (keyword_is (codes "DER")) _
    (λ v. token (derivation_count_of (length p.constraints)) (SpellsRoom (length p.constraints))
    (kinds_of_token.derivation_count (length p.constraints))))
    (λ d ts h. h.1) (λ d ts h. (tt, h))

small : (m d : ℕ) → d ≤ most_count - m → d ≤ most_count
small m d h = omega arith

together : (m d : ℕ) → m ≤ most_count → d ≤ most_count - m → m + d ≤ most_count
together m d f h = omega arith

pub reads_derivations : (p : Problem) → length p.constraints ≤ most_count
    → Reads (derivations_read p) (derivation_count p)
reads_derivations p few = reads_like (any_count_is p).reads
    (λ d ts h. let m = length p.constraints in let k = h.4.2 in
    (together m d few k.1, retail h (h.4.0, h.4.1, (k.0, small m d k.1))))
    (λ d ts h. let w = h.1 in let k = w.4.2 in retail w (w.4.0, w.4.1, (k.0, omega arith)))

-- ---- the faults of the end, and of the whole

no_end : (fails : Bool) (c o : ℕ)
    → (if fails then Err unread else Ok tt) ≡ fault (Unit {0}) (refused c o) → ⊥
no_end fails c o e = grind arith

end_refusal : (ts : List Token) (r : Rest) (c o : ℕ) → r.tokens ≡ ts
    → end_of ts r ≡ Err (refused c o) → IsRefusedAt end_read r c o ⊎ EndsEarly r c o
unfolding end_of
end_refusal [] r c o h e = absurd (no_end r.fails c o e)
end_refusal (t ∷ ts) r c o h e =
    inl (record {
      before = [];
      token = t;
      after = ts;
      joined = h;
      here = cc;
      remains = λ q more i. ap (λ us. end_of us q) i ∙ e;
      first = λ q i l. ap (λ us. end_of us q) i
          ∙ ap (λ b. if b then Err unread else Ok tt) l;
    })

end_failure : (ts : List Token) (r : Rest) → end_of ts r ≡ Err unread → r.fails ≡ true
unfolding end_of
end_failure [] r e = failed r.fails e
  where
    failed : (fails : Bool) → (if fails then Err unread else Ok tt) ≡ fault (Unit {0}) unread → fails ≡ true
    failed true e = refl
    failed false e = absurd (cc)
end_failure (t ∷ ts) r e = absurd (cc)

remains_end : FaultsRemain end_read
remains_end = record {
  refusal = λ r c o e. end_refusal r.tokens r c o refl e;
  failure = λ r e. end_failure r.tokens r e;
}

remains_certificate : FaultsRemain certificate_read
unfolding certificate_read
remains_certificate =
    remains_then problem_is.reads problem_is.remains _
    (λ p. let listed = many (solution_is p.0) p.1 in
    remains_then listed.reads listed.remains _
    (λ solutions. remains_then (any_count_is p.0).reads (any_count_is p.0).remains _
    (λ d. let derived = many (derivation_is p.0) d in
    remains_then derived.reads derived.remains _
    (λ derivations. remains_named
    (λ end. record { problem = p.0; solutions = solutions; derivations = derivations })
    remains_end))))

pub item_faults : ItemFaults
item_faults = record {
  problem = problem_is.remains;
  solution = λ p. (solution_is p).remains;
  derivations = λ p. (any_count_is p).remains;
  derivation = λ p. (derivation_is p).remains;
  end = remains_end;
  certificate = remains_certificate;
}
