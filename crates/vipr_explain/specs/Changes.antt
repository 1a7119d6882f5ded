-- Changes of a reason, and when a derivation follows with one
use Rattle.std.specs.Prelude.{◌≡◌, ◌++◌, ◌+◌, ◌%◌, ◌^◌, ℕ, List, [], ◌∷◌, length, map, set}
use Rattle.std.specs.Prelude.{nat_lt, IfSome}
use Rattle.std.specs.Prelude.{if◌then◌else◌}
use Rattle.vipr_spec.specs.Certificate.{Derivation, Certificate, Reason, lin, rnd, uns}
use Rattle.vipr_spec.specs.{Fraction.ℚ, Fraction.◌*ℚ◌, Steps.IsGoodNext, Steps.RefersBack}
use Rattle.vipr_cert.specs.Items.{derivation_of}
use Rattle.vipr_table.specs.History.{IsTableOf}
use Rattle.vipr_rules.specs.Profile.{profile_of}
use Rattle.vipr_explain.specs.declared.changes.Change.TheVariants.{Entry, Word, Join as Joined}
use Rattle.vipr_explain.specs.declared.changes.Change.TheVariants.{Shift, Factor}
use Rattle.vipr_explain.specs.{declared.changes.Change.Change, declared.changes.Changes.Changes}
use Rattle.vipr_explain.specs.declared.sought.Refused.{Refused}

-- an index with each one from `from` on so much more
abbrev pub shifted : ℕ → ℕ → ℕ → ℕ
shifted from by k = if nat_lt k from then k else (k + by) % 2 ^ 32

-- an entry with its index shifted
abbrev pub shifted_entry : ℕ → ℕ → ℕ × ℚ → ℕ × ℚ
shifted_entry from by e = (shifted from by e.0, e.1)

-- an entry with its multiplier multiplied by a factor
abbrev pub multiplied : ℚ → ℕ × ℚ → ℕ × ℚ
multiplied factor e = (e.0, e.1 *ℚ factor)

-- the entry in place of the one at its position, or behind the last one; or all of them changed
abbrev pub changed_entries : Change → List (ℕ × ℚ) → List (ℕ × ℚ)
changed_entries (Entry position index multiplier) es = if nat_lt position (length es)
    then set es position (index, multiplier) else es ++ (index, multiplier) ∷ []
changed_entries (Shift from by) es = map (shifted_entry from by) es
changed_entries (Factor factor) es = map (multiplied factor) es
changed_entries _ es = es

-- a sum by this word, or by the other one
abbrev pub changed_sum : Change → Reason → Reason → Reason
changed_sum Word same other = other
changed_sum _ same other = same

-- what is joined
abbrev pub changed_join : Change → ℕ → ℕ → ℕ → ℕ → Reason
changed_join (Joined j) i1 l1 i2 l2 = uns j.i1 j.l1 j.i2 j.l2
changed_join (Shift from by) i1 l1 i2 l2 =
    let s = shifted from by in uns (s i1) (s l1) (s i2) (s l2)
changed_join _ i1 l1 i2 l2 = uns i1 l1 i2 l2

-- a reason with a change
abbrev pub changed : Change → Reason → Reason
changed x (lin es) = let fs = changed_entries x es in changed_sum x (lin fs) (rnd fs)
changed x (rnd es) = let fs = changed_entries x es in changed_sum x (rnd fs) (lin fs)
changed x (uns i1 l1 i2 l2) = changed_join x i1 l1 i2 l2
changed x r = r

-- a derivation with its reason changed
abbrev pub with_change : Change → Derivation → Derivation
with_change x d = record d { reason = changed x d.reason }

-- By the rules of the profile the derivation can come next with the change, after each certificate
-- of the problem whose derived constraints the table has. It lists no solution, since neither a sum
-- nor a join refers to one.
abbrev pub FollowsWith : Refused → Change → Type 0
FollowsWith r x = (c : Certificate) → c.problem ≡ r.problem.now → c.solutions ≡ []
    → IsTableOf c r.rows.now → RefersBack c
    → IsGoodNext (profile_of r.subject.profile) c (with_change x (derivation_of r.step.now))

-- each of the changes is one with which it follows
abbrev pub FollowEach : Refused → Changes → Type 0
FollowEach r xs = IfSome xs.multiplier (FollowsWith r) × IfSome xs.exchange (FollowsWith r)
    × IfSome xs.slip (FollowsWith r) × IfSome xs.addition (FollowsWith r)
