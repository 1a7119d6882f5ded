-- The assumption sets, by the reason
use Rattle.std.proofs.Common.{◌≡◌, ℕ, Option, Some, None, refl, sym, subst, inl, inr}
use Rattle.vipr_spec.specs.{Reason, asm, lin, rnd, uns, sol, reason_at, Brings, RestsOn, itself}
use Rattle.vipr_spec.specs.{brought, RestsBy, Certificate.Certificate}

brings_out : (c : Certificate) (i j a : ℕ) (o : Option Reason) → Brings o j a → RestsOn c j a
    → RestsBy c i o a
brings_out c i j a None b r = absurd b
brings_out c i j a (Some asm) b r = absurd b
brings_out c i j a (Some (lin es)) b r = ((j, b.0), b.1, b.2, r)
brings_out c i j a (Some (rnd es)) b r = ((j, b.0), b.1, b.2, r)
brings_out c i j a (Some (uns i1 l1 i2 l2)) b r =
    elim b [
      | inl h ↦ inl (subst (λ n. RestsOn c n a) h.0 r, h.1)
      | inr h ↦
          inr (subst (λ n. RestsOn c n a) h.0 r, h.1)
    ]
brings_out c i j a (Some sol) b r = absurd b

pub rests_out : (c : Certificate) (i a : ℕ) → RestsOn c i a → RestsBy c i (reason_at c i) a
rests_out c i a (itself e) = subst (λ r. RestsBy c i r i) (sym e) refl
rests_out c i a (brought {j = j} b r) = brings_out c i j a (reason_at c i) b r

pub rests_in : (c : Certificate) (i a : ℕ) (q : Option Reason) → reason_at c i ≡ q → RestsBy c i q a
    → RestsOn c i a
rests_in c i a None e h = absurd h
rests_in c i a (Some asm) e h = subst (λ b. RestsOn c i b) h (itself e)
rests_in c i a (Some (lin es)) e h = brought (subst (λ o. Brings o h.0.0 a) (sym e) (h.0.1, h.1, h.2)) h.3
rests_in c i a (Some (rnd es)) e h = brought (subst (λ o. Brings o h.0.0 a) (sym e) (h.0.1, h.1, h.2)) h.3
rests_in c i a (Some (uns i1 l1 i2 l2)) e (inl h) = brought (subst (λ o. Brings o i1 a) (sym e) (inl (refl, h.1))) h.0
rests_in c i a (Some (uns i1 l1 i2 l2)) e (inr h) = brought (subst (λ o. Brings o i2 a) (sym e) (inr (refl, h.1))) h.0
rests_in c i a (Some sol) e h = absurd h

-- where the reason is known
pub rests_by : (c : Certificate) (i a : ℕ) (q : Option Reason) → reason_at c i ≡ q → RestsOn c i a
    → RestsBy c i q a
rests_by c i a q e r = subst (λ q. RestsBy c i q a) e (rests_out c i a r)

pub rests_given : (c : Certificate) (i a : ℕ) → reason_at c i ≡ None → ¬ RestsOn c i a
rests_given c i a q r = rests_by c i a None q r
