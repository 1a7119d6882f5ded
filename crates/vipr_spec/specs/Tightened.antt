-- The tightened certificate: the derivations that the goal needs, renumbered
use Rattle.std.specs.Prelude.{ℕ, zero, suc, Bool, false, cond, ◌&&◌, ◌||◌, nat_eq, nat_lt, ◌+◌}
use Rattle.std.specs.Prelude.{filter, List, [], ◌∷◌, map, length, Option, Some, None, IsSomeAnd}
use Rattle.std.specs.List.{list_any}
use Rattle.vipr_spec.specs.Certificate.{Reason, asm, lin, rnd, uns, sol, Derivation, References}
use Rattle.vipr_spec.specs.Certificate.{no_references, by_entries, by_branches, reason_references}
use Rattle.vipr_spec.specs.Certificate.{Certificate, IsNeeded}
use Rattle.vipr_spec.specs.{Fraction.ℚ, Reading.is_nonzero}

-- ---- references, as they are tested

-- constraint i is among them, by an entry with a nonzero multiplier or a branch
abbrev pub include : References → ℕ → Bool
include no_references i = false
include (by_entries es) i = list_any (λ e. nat_eq i e.0 && is_nonzero e) es
include (by_branches i1 l1 i2 l2) i = nat_eq i i1 || (nat_eq i l1 || (nat_eq i i2 || nat_eq i l2))

-- the reason refers to constraint i
abbrev pub refers_to : Reason → ℕ → Bool
refers_to r i = include (reason_references r) i

-- ---- what is kept: one pass from the end

abbrev pub is_the_goal : Option ℕ → ℕ → Bool
is_the_goal None i = false
is_the_goal (Some goal) i = nat_eq i goal

-- The derivations have the indices k, k + 1, .. Constraint i is the goal, or a marked one of them
-- refers to it.
abbrev pub is_marked : Option ℕ → ℕ → List Derivation → ℕ → Bool
is_marked goal k [] i = is_the_goal goal i
is_marked goal k (d ∷ ds) i =
    is_marked goal (suc k) ds i || (is_marked goal (suc k) ds k && refers_to d.reason i)

-- all constraints of the problem, and the marked derivations
abbrev pub is_kept : Certificate → Option ℕ → ℕ → Bool
is_kept c goal i =
    let m = length c.problem.constraints in
    nat_lt i m || is_marked goal m c.derivations i

-- those elements of a list that are kept, the first having the index k
abbrev pub kept_of : {A : Type 0} → (ℕ → Bool) → ℕ → List A → List A
kept_of keep k [] = []
kept_of keep k (x ∷ xs) =
    cond (keep k) (x ∷ kept_of keep (suc k) xs) (kept_of keep (suc k) xs)

-- ---- new indices

-- how many of the indices below i are kept
abbrev pub new_index : (ℕ → Bool) → ℕ → ℕ
new_index keep zero = 0
new_index keep (suc i) = new_index keep i + cond (keep i) 1 0

-- the entries with a nonzero multiplier, under their new indices
abbrev pub renumbered_entries : (ℕ → ℕ) → List (ℕ × ℚ) → List (ℕ × ℚ)
renumbered_entries new es = map (λ e. (new e.0, e.1)) (filter is_nonzero es)

abbrev pub renumbered_reason : (ℕ → ℕ) → Reason → Reason
renumbered_reason new asm = asm
renumbered_reason new (lin es) = lin (renumbered_entries new es)
renumbered_reason new (rnd es) = rnd (renumbered_entries new es)
renumbered_reason new (uns i1 l1 i2 l2) = uns (new i1) (new l1) (new i2) (new l2)
renumbered_reason new sol = sol

abbrev pub renumbered_at : (ℕ → ℕ) → Option Reason → Option Reason
renumbered_at new None = None
renumbered_at new (Some r) = Some (renumbered_reason new r)

abbrev pub with_new_indices : (ℕ → ℕ) → Derivation → Derivation
with_new_indices new d = record d { reason = renumbered_reason new d.reason }

-- ---- last references

abbrev pub or_else : Option ℕ → Option ℕ → Option ℕ
or_else None o = o
or_else (Some n) o = Some n

-- the greatest index of one of the derivations k, k + 1, .. that refers to constraint i
abbrev pub last_reference : ℕ → List Derivation → ℕ → Option ℕ
last_reference k [] i = None
last_reference k (d ∷ ds) i =
    or_else (last_reference (suc k) ds i) (cond (refers_to d.reason i) (Some k) None)

-- each derivation with the greatest index of a later one that refers to it, and none if no later
-- one does, as at the goal
abbrev pub with_last_references : ℕ → List Derivation → List Derivation
with_last_references k [] = []
with_last_references k (d ∷ ds) =
    record d { last = last_reference (suc k) ds k } ∷ with_last_references (suc k) ds

-- ---- the whole

-- what is kept of derivations of indices m, m + 1, ..
abbrev pub kept_derivations : (ℕ → Bool) → ℕ → List Derivation → List Derivation
kept_derivations keep m ds =
    with_last_references m (map (with_new_indices (new_index keep)) (kept_of keep m ds))

-- the certificate with the kept derivations alone
abbrev pub with_kept : Certificate → (ℕ → Bool) → Certificate
with_kept c keep =
    let m = length c.problem.constraints in
    record c { derivations = kept_derivations keep m c.derivations }

abbrev pub tightened_certificate : Certificate → Option ℕ → Certificate
tightened_certificate c goal = with_kept c (is_kept c goal)

-- the new index of constraint i, if it is kept
abbrev pub tightened_index : Certificate → Option ℕ → ℕ → ℕ
tightened_index c goal = new_index (is_kept c goal)

abbrev pub new_goal : Certificate → Option ℕ → Option ℕ
new_goal c None = None
new_goal c (Some goal) = Some (tightened_index c (Some goal) goal)

-- ---- what the laws say of it

-- needed for the goal, if there is one
abbrev pub IsNeededFor : Certificate → Option ℕ → ℕ → Type 0
IsNeededFor c goal k = IsSomeAnd goal (λ g. IsNeeded c g k)

-- ---- one pass from the front

-- The derivations have the indices k, k + 1, .. Those that pass the test get the last reference p.
abbrev pub referred_by : (ℕ → Bool) → ℕ → ℕ → List Derivation → List Derivation
referred_by refers p k [] = []
referred_by refers p k (d ∷ ds) =
    record d { last = cond (refers k) (Some p) d.last } ∷ referred_by refers p (suc k) ds
